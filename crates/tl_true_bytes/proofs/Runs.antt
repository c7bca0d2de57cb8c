-- The run of a log is beside its one-memory machine.
use Rattle.tl_true_bytes.proofs.Imports.{Beat, Link, Channel, MessageA, Config, Trace, effect, pending, is_access}
use Rattle.tl_true_bytes.proofs.Imports.{pending_accesses, Op, Reply, EndConfig, Event, Ask, Deliver, Outcome}
use Rattle.tl_true_bytes.proofs.Imports.{AbstractState, EachTaken, trace_of, IsGiven, IsLog, Log, system_after, Machine}
use Rattle.tl_true_bytes.proofs.Imports.{Open, Requests, after_reply, moved, pool_of, with_memory, with_open}
use Rattle.tl_true_bytes.proofs.Imports.{accesses_answered, one_memory_after, stepped, given-before, shadow}
use Rattle.tl_true_bytes.proofs.Imports.{matched-given, answering-delivered, Performs, Run, Takes, found_in, memory_in}
use Rattle.tl_true_bytes.proofs.Imports.{everywhere, trace_in, IsBeside, after_access}
use Rattle.tl_true_bytes.proofs.Imports.{happened, performed_all, run_of, with_reply}
use Rattle.std.proofs.Common.{◌≡◌, ℕ, ◌+◌, ◌%◌, ◌^◌, ◌≤◌, Bool, true, false, ◌++◌, List, [], ◌∷◌, inl, inr, Some, None}
use Rattle.std.proofs.Common.{refl, sym, ◌∙◌, ap, subst}
use Rattle.std.specs.Prelude.{if◌then◌else◌, Option}
use Rattle.tl_burst.specs.declared.message.Message.{Message}
use Rattle.tl_client.specs.statement.Ask as ask
use Rattle.tl_client.proofs.caching_client.Stores.{word_room}
use Rattle.tl_coherence.specs.{statement.Flow.taken_at, statement.Headline.Continues, statement.Machine.Replies}
use Rattle.tl_coherence.specs.{statement.OneMemory.performing, statement.Step.Step, statement.System.terms_at}
use Rattle.tl_coherence.proofs.{deliveries.AskedAfter.none_answered, deliveries.AskedWell.asked-well}
use Rattle.tl_coherence.proofs.{deliveries.Matching.stepped-nobody, queues.Steps.stepped-asked}
use Rattle.tl_coherence.proofs.{simulation.SizedAfter.IsSizedAsk, theorem.Soundness.one_memory}
use Rattle.tl_coherence.proofs.memory.Beside.{done_at, open-here, performing-one}
use Rattle.tl_concord.{proofs.Accesses.carries_accesses, proofs.WholeStores.allowed_ends}
use Rattle.tl_true_bytes.{proofs.Asked.IsSomePending, proofs.Ends.done-last, proofs.Ends.moved-part}
use Rattle.tl_bytes.proofs.OnTime.{AreOnTime}
use Rattle.tl_concord.proofs.Late.{world-late}
use Rattle.tl_true_bytes.proofs.Beside.{beside-ended, beside-moved, beside-performed, beside-unread}
use Rattle.tl_true_bytes.proofs.Events.{IsAlignedStore, ended-open, replied}
use Rattle.tl_true_bytes.proofs.Requests.{answered-open, answered-pending, asked-open, request-known}
use Rattle.tl_true_bytes.{specs.code.Beside.comes, proofs.AskedLog.moved-on}

-- ---- an event

same_reply : {w : ℕ} (r s : Reply) → ◌≡◌ {A = Outcome w} (Outcome.Replied r) (Outcome.Replied s) → r ≡ s
same_reply r s e = cc

no_reply : {w : ℕ} (r : Reply) → ◌≡◌ {A = Outcome w} (Outcome.Replied r) Outcome.NoSuchClient → ⊥
no_reply r e = cc

aligned : {w : ℕ} (c : ℕ) (o : Op w) (r : Reply) (h : AbstractState w) → IsSizedAsk c o r h → IsAlignedStore o r
aligned c (Op.Store address size value) Reply.Stored h word = word_room address size word.0
aligned c u y h word = tt

-- what a client replies is well asked
replied-well : {w : ℕ} (config : Config) (log : Log w) → IsGiven config log → (c : ℕ) (o : Op w) (r : Reply)
    → Outcome.Replied r ≡ (stepped config (Ask c o) (system_after config log)).outcome
    → Replies c o r (one_memory_after config log) × IsAlignedStore o r
replied-well {w} config log given c o r o_is = go (terms_at config c) refl
  where
    go : (i : Option EndConfig) → terms_at config c ≡ i → Replies c o r (one_memory_after config log)
        × IsAlignedStore o r
    go None nobody = absurd (no_reply {w = w} r (o_is ∙ ap (λ (s : Step w). s.outcome)
        (stepped-nobody config (Ask c o) (system_after config log) nobody)))
    go (Some terms) known =
        let x = ask.asked terms o ((system_after config log).clients c) in
        let well = asked-well config log (shadow config log) (system_after config log) c terms o given.width
        (matched-given config log given) known in
        let same : r ≡ x.reply = same_reply {w = w} r x.reply (o_is ∙ ap (λ (s : Step w). s.outcome)
        (stepped-asked config c o (system_after config log) terms known)) in (
          subst (λ (q : Reply). Replies c o q (one_memory_after config log)) (sym same) well.replies,
          aligned c o r (shadow config log)
              (subst (λ (q : Reply). IsSizedAsk c o q (shadow config log)) (sym same) well.word),
        )

-- a client stores aligned words
pub aligned-store : {w : ℕ} (config : Config) (log : Log w) → IsGiven config log → (c address size value : ℕ)
    → (stepped config (Ask c (Op.Store address size value)) (system_after config log)).outcome ≡ Outcome.Replied
    Reply.Stored → address % 64 + 2 ^ size ≤ 64
aligned-store config log given c address size value stored =
    (replied-well config log given c (Op.Store address size value) Reply.Stored (sym stored)).1

-- a client is asked
asked-beside : {w : ℕ} (config : Config) (log : Log w) → IsGiven config log → (c : ℕ) (o : Op w) (r : Reply)
    → Outcome.Replied r ≡ (stepped config (Ask c o) (system_after config log)).outcome
    → IsBeside (run_of config log) (one_memory_after config log) (trace_of log)
    → IsBeside (with_reply o r (one_memory_after config log).memory (run_of config log))
    (after_reply c o r (one_memory_after config log)) (trace_of log)
asked-beside config log given c o r o_is is =
    let well = replied-well config log given c o r o_is in
    replied c (run_of config log) (one_memory_after config log) (trace_of log) o r is well.0 well.1

pub happened-beside : {w : ℕ} (config : Config) (log : Log w) (e : Event w) (o : Outcome w)
    → IsGiven config ((e, o) ∷ log) → IsBeside (run_of config log) (one_memory_after config log) (trace_of log)
    → IsBeside (happened e o (one_memory_after config log) (run_of config log))
    (moved e o (one_memory_after config log)) (taken_at e o ++ trace_of log)
unfolding IsLog EachTaken trace_of
happened-beside config log (Ask c i) (Outcome.Replied r) given is =
    asked-beside config log (given-before config (Ask c i, Outcome.Replied r) log given) c i r given.is_log.0 is
happened-beside config log (Ask c i) (Outcome.Moved y) given is = is
happened-beside config log (Ask c i) (Outcome.Done y source f) given is = is
happened-beside config log (Ask c i) Outcome.Empty given is = is
happened-beside config log (Ask c i) Outcome.Stalled given is = is
happened-beside config log (Ask c i) Outcome.NoSuchClient given is = is
happened-beside config log (Deliver link ch) (Outcome.Moved y) given is =
    let before = given-before config (Deliver link ch, Outcome.Moved y) log given in
    beside-moved (run_of config log) (one_memory_after config log) (trace_of log) is link y
    (λ z e. moved-part config log before link ch y z (sym given.is_log.0) e)
    (world-late ((Deliver link ch, Outcome.Moved y) ∷ log) given) (moved-on config log link ch y given)
    (λ c s p now. asked-open (one_memory_after config log) (trace_of log) c s p link y
    (λ i z e. (request-known config log before link.0 i z None e).2)
    (carries_accesses config ((Deliver link ch, Outcome.Moved y) ∷ log) given).0 now)
happened-beside {w} config log (Deliver link ch) (Outcome.Done y source f) given is =
    let before = given-before config (Deliver link ch, Outcome.Done y source f) log given in
    let last = done-last config log before link ch y source f (sym given.is_log.0) in
    let continues : Continues config (Deliver link ch, Outcome.Done y source f) log =
    (one_memory config log before).1 (Deliver link ch, Outcome.Done y source f) tt given.is_log in
    ended-open (run_of config log) (one_memory_after config log) (trace_of log) is link y source f
    ((one_memory_after config log).opened link.0 (pool_of f) source)
    (allowed_ends link ch y source f (one_memory_after config log) continues.2.1)
    (subst (λ (b : Beat w). IsBeside (Takes link b ∷ run_of config log)
    (with_open link.0 (pool_of f) source None (one_memory_after config log)) ((link, b) ∷ trace_of log))
    (sym last.beat_is) (subst (λ (k : ℕ). IsBeside (Takes link (Beat.D last.last) ∷ run_of config log)
    (with_open link.0 (pool_of f) k None (one_memory_after config log)) ((link, Beat.D last.last) ∷ trace_of log))
    (sym last.source_is) (beside-ended (run_of config log) (one_memory_after config log) (trace_of log) is link
    last.last (pool_of f)
    (subst (λ (b : Beat w). AreOnTime ((link, b) ∷ trace_of log)) last.beat_is
    (world-late ((Deliver link ch, Outcome.Done y source f) ∷ log) given)) last.ends_so last.pool_is)))
happened-beside config log (Deliver link ch) (Outcome.Replied r) given is = is
happened-beside config log (Deliver link ch) Outcome.Empty given is = is
happened-beside config log (Deliver link ch) Outcome.Stalled given is = is
happened-beside config log (Deliver link ch) Outcome.NoSuchClient given is = is

-- ---- what is performed then

none-performed : {w : ℕ} (run : Run w) (m m' : Machine w) (t : Trace w) (l : List (ℕ × ℕ)) → l ≡ []
    → IsBeside run m' t → IsBeside (performed_all l m run) (performing l m') t
unfolding performing
none-performed {w} run m m' t l none is =
    subst (λ (k : List (ℕ × ℕ)). IsBeside (performed_all k m run) (performing k m') t) (sym none) is

one-performed : {w : ℕ} (run : Run w) (m m' : Machine w) (t : Trace w) (l : List (ℕ × ℕ)) (q source : ℕ)
    (a : MessageA w) → l ≡ (q, source) ∷ [] → m' ≡ m
    → m.opened q Requests source ≡ Some (record { asked = Op.Access (Message.A a); answer = None })
    → (is_access a.opcode ≡ true → IsSomePending q source t × (comes q source t ≡ false)) → IsBeside run m' t
    → IsBeside (performed_all l m run) (performing l m') t
one-performed {w} run m m' t l q source a one still opened pending is =
    subst (λ (k : List (ℕ × ℕ)). IsBeside (performed_all k m run) (performing k m') t) (sym one)
    (subst (λ (n : Machine w). IsBeside (after_access q source (m.opened q Requests source) m.memory run) n t)
    (sym (ap (performing ((q, source) ∷ [])) still ∙ performing-one q source (Message.A a) m opened))
    (subst (λ (o : Option (Open w)). IsBeside (after_access q source o m.memory run) (done_at q source (Message.A a) m)
    t)
    (sym opened) (go (is_access a.opcode) refl)))
  where
    here : IsBeside run m t
    here = subst (λ (n : Machine w). IsBeside run n t) still is

    go : (b : Bool) → is_access a.opcode ≡ b
        → IsBeside (if b then Performs q source everywhere (effect (Message.A a) m.memory).0 ∷ run else run)
        (done_at q source (Message.A a) m) t
    go true accesses =
        let p = pending accesses in
        beside-performed run m t here q source a p.0.0 opened accesses p.0.1 p.1
    go false none = beside-unread run m t here q source a opened none

-- a client's message answers nothing
pub asked-none : {w : ℕ} (config : Config) (log : Log w) → IsGiven config log → (c : ℕ) (o : Op w)
    → accesses_answered (stepped config (Ask c o) (system_after config log)).handed ≡ []
unfolding accesses_answered
asked-none {w} config log given c o = go (terms_at config c) refl
  where
    go : (i : Option EndConfig) → terms_at config c ≡ i
        → accesses_answered (stepped config (Ask c o) (system_after config log)).handed ≡ []
    go None nobody = ap (λ (s : Step w). accesses_answered s.handed)
        (stepped-nobody config (Ask c o) (system_after config log) nobody)
    go (Some terms) known =
        let x = ask.asked terms o ((system_after config log).clients c) in
        let well = asked-well config log (shadow config log) (system_after config log) c terms o given.width
        (matched-given config log given) known in
        ap (λ (s : Step w). accesses_answered s.handed) (stepped-asked config c o (system_after config log) terms known)
        ∙ none_answered c o x.reply (shadow config log) x.message well.reply well.message

-- the machine after a delivery that answers one access
pub answered-after : {w : ℕ} (config : Config) (log : Log w) (link : Link) (ch : Channel) (o : Outcome w)
    → IsGiven config ((Deliver link ch, o) ∷ log) → (q source : ℕ) (a : MessageA w)
    → accesses_answered (stepped config (Deliver link ch) (system_after config log)).handed ≡ (q, source) ∷ []
    → moved (Deliver link ch) (stepped config (Deliver link ch) (system_after config log)).outcome
    (one_memory_after config log) ≡ one_memory_after config log
    → (one_memory_after config log).opened q Requests source ≡ Some (record {
      asked = Op.Access (Message.A a);
      answer =
          None;
    }) → (one_memory_after config ((Deliver link ch, o) ∷ log)).opened q Requests source
    ≡ Some (record {
      asked = Op.Access (Message.A a);
      answer = Some (effect (Message.A a) (one_memory_after config log).memory).1;
    })
unfolding one_memory_after IsLog
answered-after {w} config log link ch o given q source a one still opened =
    ap (λ (n : Machine w). n.opened q Requests source)
    (ap (λ (r : Outcome w). performing l (moved (Deliver link ch) r m)) given.is_log.0 ∙ ap
    (λ (n : Machine w). performing l n) still ∙ ap (λ (k : List (ℕ × ℕ)). performing k m) one ∙ performing-one q
    source (Message.A a) m opened)
    ∙ open-here q Requests source
    (Some (record { asked = Op.Access (Message.A a); answer = Some (effect (Message.A a) m.memory).1 }))
    (with_memory (effect (Message.A a) m.memory).0 m)
  where
    m : Machine w
    m = one_memory_after config log

    l : List (ℕ × ℕ)
    l = accesses_answered (stepped config (Deliver link ch) (system_after config log)).handed

performed-beside : {w : ℕ} (config : Config) (log : Log w) (e : Event w) (o : Outcome w) → IsGiven config ((e, o) ∷ log)
    → (run : Run w) → IsBeside run (moved e o (one_memory_after config log)) (trace_of ((e, o) ∷ log))
    → IsBeside (performed_all (accesses_answered (stepped config e (system_after config log)).handed)
    (one_memory_after config log) run)
    (performing (accesses_answered (stepped config e (system_after config log)).handed)
    (moved e o (one_memory_after config log))) (trace_of ((e, o) ∷ log))
unfolding IsLog
performed-beside config log (Ask c i) o given run is =
    none-performed run (one_memory_after config log) (moved (Ask c i) o (one_memory_after config log))
    (trace_of ((Ask c i, o) ∷ log)) (accesses_answered (stepped config (Ask c i) (system_after config log)).handed)
    (asked-none config log (given-before config (Ask c i, o) log given) c i) is
performed-beside {w} config log (Deliver link ch) o given run is =
    elim (answering-delivered config log link ch (shadow config log) given.width
    (matched-given config log (given-before config (Deliver link ch, o) log given))) [
      | inl none ↦ none-performed run m (moved (Deliver link ch) o m) t l none is
      | inr one ↦ one-performed run m (moved (Deliver link ch) o m) t l one.0 one.1 one.3.0 one.2
          (ap (λ (r : Outcome w). moved (Deliver link ch) r m) given.is_log.0 ∙ one.4) one.3.2
          (λ accesses.
          let r = (effect (Message.A one.3.0) m.memory).1 in
          let after = answered-after config log link ch o given one.0 one.1 one.3.0 one.2 one.4 one.3.2 in (
            answered-pending config ((Deliver link ch, o) ∷ log) given one.0 one.1 one.3.0 r after accesses,
            (answered-open config ((Deliver link ch, o) ∷ log) given one.0 one.1 one.3.0 r after accesses).whole,
          )) is
    ]
  where
    m : Machine w
    m = one_memory_after config log

    t : Trace w
    t = trace_of ((Deliver link ch, o) ∷ log)

    l : List (ℕ × ℕ)
    l = accesses_answered (stepped config (Deliver link ch) (system_after config log)).handed

-- ---- the whole log

pub beside-log : {w : ℕ} (config : Config) (log : Log w) → IsGiven config log
    → IsBeside (run_of config log) (one_memory_after config log) (trace_of log)
unfolding run_of one_memory_after trace_of trace_in memory_in found_in pending_accesses
beside-log config [] given = record {
  trace_is = refl;
  memory_is = refl;
  found_are = λ c s address. refl;
  pending_are = λ c s p e. absurd cc;
}
beside-log config (x ∷ log) given =
    performed-beside config log x.0 x.1 given (happened x.0 x.1 (one_memory_after config log) (run_of config log))
    (happened-beside config log x.0 x.1 given (beside-log config log (given-before config x log given)))
