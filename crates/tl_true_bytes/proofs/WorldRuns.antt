-- What happens to a world is a run of one memory, so the bytes that its links carry are true.
use Rattle.tl_true_bytes.proofs.Imports.{Beat, Link, Channel, MessageA, Config, Trace, on_link, Memory, block_at}
use Rattle.tl_true_bytes.proofs.Imports.{leaves, is_access, Op, Reply, Finish, EndConfig, Event, Ask, Deliver}
use Rattle.tl_true_bytes.proofs.Imports.{Outcome, EachTaken, trace_of, IsGiven, IsLog, Log, system_after, Machine, Open}
use Rattle.tl_true_bytes.proofs.Imports.{Requests, moved, pool_of, accesses_answered, one_memory_after, stepped}
use Rattle.tl_true_bytes.proofs.Imports.{given-before, shadow, matched-given, answering-delivered, responses, Performs}
use Rattle.tl_true_bytes.proofs.Imports.{effect, Run, Takes, everywhere, trace_in, IsBeside}
use Rattle.tl_true_bytes.proofs.Imports.{after_access, happened, performed_all, run_of}
use Rattle.tl_true_bytes.proofs.Imports.{with_end, with_reply, with_whole}
use Rattle.std.proofs.Common.{◌≡◌, ℕ, zero, suc, ◌<◌, Bool, true, false, ◌&&◌, List, [], ◌∷◌, length, inl, inr, Some}
use Rattle.std.proofs.Common.{None, refl, sym, ◌∙◌, ap, subst, arith}
use Rattle.tl_bytes.specs.statement.Free.{is_free, may_hold}
use Rattle.tl_concord.proofs.Late.{world-late}
use Rattle.tl_concord.proofs.Alike.{free-world, held-world, links-few}
use Rattle.std.specs.Prelude.{if◌then◌else◌, is_some, Option, option_map, slice_get}
use Rattle.std.{proofs.lemmas.Bool.cases_eq, proofs.lemmas.Option.slice_get_within}
use Rattle.tl_burst.specs.declared.message.Message.{Message}
use Rattle.tl_params.{specs.declared.config.ClientConfig.ClientConfig, specs.declared.perm.Perm.Perm}
use Rattle.tl_coherence.specs.{statement.Headline.AreTyped, statement.Headline.Continues, statement.Machine.is_client}
use Rattle.tl_coherence.proofs.{flow.FlowTaken.each-taken, flow.HiddenStore.hidden_stores, theorem.Soundness.one_memory}
use Rattle.tl_concord.{proofs.Accesses.carries_accesses, proofs.Told.tells_of_memory, proofs.WholeStores.whole_stores}
use Rattle.tl_one_memory.{proofs.Brought.true_bytes, specs.statement.Run.IsRun, specs.statement.TrueBytes.AreTrue}
use Rattle.tl_true_bytes.{specs.statement.TrueWorlds.TrueWorlds, specs.statement.WorldRuns.WorldRuns}
use Rattle.tl_true_bytes.{proofs.Performing.performs-well, proofs.Taken.IsTakenWell, proofs.Taken.taken}
use Rattle.tl_true_bytes.proofs.Runs.{asked-none, beside-log, happened-beside}
use Rattle.tl_true_bytes.proofs.Worlds.{GrantsBlock, GrantsOther, grants-block, grants-other, taken-well}

-- ---- who holds Trunk is a client

client-below : (config : Config) (c : ℕ) → is_client config c ≡ true → c < length config.clients.items
client-below config c is = go (slice_get config.clients.items c) refl is
  where
    made : ClientConfig → EndConfig
    made k = record { level = k.level; profile = config.profile; sources = k.sources; blocks = config.blocks }

    go : (o : Option ClientConfig) → slice_get config.clients.items c ≡ o → is_some (option_map made o) ≡ true
        → c < length config.clients.items
    go None e some = absurd cc
    go (Some x) e some = slice_get_within config.clients.items c x e

held-trunk : {w : ℕ} (n c block : ℕ) (t : Trace w) → c < n → may_hold block (on_link c t) ≡ Perm.Trunk
    → is_free n Perm.Branch block t ≡ false
unfolding is_free
held-trunk zero c block t below trunk = absurd (omega (arith, below))
held-trunk {w} (suc n) c block t below trunk = elim (cases_eq c n) [
  | inl same ↦ last (is_free n Perm.Branch block t) (leaves Perm.Branch (may_hold block (on_link n t)))
      (ap (leaves Perm.Branch) (subst (λ (k : ℕ). may_hold block (on_link k t) ≡ Perm.Trunk) same trunk))
  | inr other ↦ first (is_free n Perm.Branch block t) (leaves Perm.Branch (may_hold block (on_link n t)))
      (held-trunk n c block t (omega (arith, below, other)) trunk)
]
  where
    last : (a b : Bool) → b ≡ false → a && b ≡ false
    last true b e = e
    last false b e = refl

    first : (a b : Bool) → a ≡ false → a && b ≡ false
    first a b e = rw e refl

-- ---- what is stored

module _ {w : ℕ} (n : ℕ) (first : Memory) where
  -- the block that is stored to is one of which Trunk is held
  abbrev IsHeld : ℕ → Run w → Type 0
  IsHeld block run = is_free n Perm.Branch block (trace_in run) ≡ false

  reply-run : (o : Op w) (r : Reply) (f : Memory) (run : Run w) → IsRun n first run
      → ((address size value : ℕ) → o ≡ Op.Store address size value → r ≡ Reply.Stored → IsHeld (block_at address) run)
      → IsRun n first (with_reply o r f run)
  unfolding IsRun
  reply-run o (Reply.Value v) f run is stores = is
  reply-run o Reply.Miss f run is stores = is
  reply-run o (Reply.Started source) f run is stores = is
  reply-run o (Reply.Busy why) f run is stores = is
  reply-run (Op.Store address size value) Reply.Stored f run is stores = (stores address size value refl refl, is)
  reply-run (Op.Load address size) Reply.Stored f run is stores = is
  reply-run (Op.Acquire block grow) Reply.Stored f run is stores = is
  reply-run (Op.AcquireWhole block bytes) Reply.Stored f run is stores = is
  reply-run (Op.Release block prune) Reply.Stored f run is stores = is
  reply-run (Op.Access m) Reply.Stored f run is stores = is

  whole-run : (o : Op w) (f : Memory) (run : Run w) → IsRun n first run
      → ((block : ℕ) (bytes : List ℕ) → o ≡ Op.AcquireWhole block bytes → IsHeld block run)
      → IsRun n first (with_whole o f run)
  unfolding IsRun
  whole-run (Op.AcquireWhole block bytes) f run is stores = (stores block bytes refl, is)
  whole-run v f run is stores = is

  end-run : (o : Option (Open w)) (f : Memory) (run : Run w) → IsRun n first run
      → ((i : Open w) (block : ℕ) (bytes : List ℕ) → o ≡ Some i → i.asked ≡ Op.AcquireWhole block bytes
      → IsHeld block run) → IsRun n first (with_end o f run)
  end-run None f run is stores = is
  end-run (Some i) f run is stores = whole-run i.asked f run is (λ block bytes e. stores i block bytes refl e)

-- ---- an event

abbrev links : Config → ℕ
links config = length config.clients.items

module _ {w : ℕ} (config : Config) (log : Log w) where
  beside : IsGiven config log → IsBeside (run_of config log) (one_memory_after config log)
      (trace_in (run_of config log))
  beside given = let is = beside-log config log given in
      subst (IsBeside (run_of config log) (one_memory_after config log)) (sym is.trace_is) is

  -- a beat that is taken
  taken-run : (link : Link) (y : Beat w) → IsGiven config log → IsTakenWell (links config) (one_memory_after config log)
      link y (run_of config log) → IsRun (links config) (λ address. 0) (run_of config log)
      → IsRun (links config) (λ address. 0) (Takes link y ∷ run_of config log)
  unfolding IsRun
  taken-run link y given well is = (
    taken (links config) (run_of config log) (one_memory_after config log) given.width (beside given) link y well,
    is,
  )

  moved-well : (link : Link) (ch : Channel) (y : Beat w) → IsGiven config ((Deliver link ch, Outcome.Moved y) ∷ log)
      → IsTakenWell (links config) (one_memory_after config log) link y (run_of config log)
  unfolding EachTaken trace_of
  moved-well link ch y given =
      let all : Log w = (Deliver link ch, Outcome.Moved y) ∷ log in
      taken-well config log (given-before config (Deliver link ch, Outcome.Moved y) log given) (links config) link y
      (links-few config) (λ k b. free-world all given (links config) k b (links-few config))
      (world-late all given).0 (tells_of_memory config all given).0 (responses config all given).each.0 (carries_accesses config all given).0
      (each-taken config (λ earlier c x. GrantsOther (one_memory_after config earlier) c x) (grants-other config) all
      given).0
      (each-taken config (λ earlier c x. GrantsBlock (one_memory_after config earlier).memory c x (trace_of earlier))
      (grants-block config) all given).0

  done-well : (link : Link) (ch : Channel) (y : Beat w) (source : ℕ) (f : Finish)
      → IsGiven config ((Deliver link ch, Outcome.Done y source f) ∷ log)
      → IsTakenWell (links config) (one_memory_after config log) link y (run_of config log)
  unfolding EachTaken trace_of
  done-well link ch y source f given =
      let all : Log w = (Deliver link ch, Outcome.Done y source f) ∷ log in
      taken-well config log (given-before config (Deliver link ch, Outcome.Done y source f) log given) (links config)
      link y (links-few config) (λ k b. free-world all given (links config) k b (links-few config))
      (world-late all given).0 (tells_of_memory config all given).0 (responses config all given).each.0 (carries_accesses config all given).0
      (each-taken config (λ earlier c x. GrantsOther (one_memory_after config earlier) c x) (grants-other config) all
      given).0
      (each-taken config (λ earlier c x. GrantsBlock (one_memory_after config earlier).memory c x (trace_of earlier))
      (grants-block config) all given).0

  -- what a client stores as it replies
  asked-run : (c : ℕ) (o : Op w) (r : Reply) → IsGiven config ((Ask c o, Outcome.Replied r) ∷ log)
      → IsRun (links config) (λ address. 0) (run_of config log)
      → IsRun (links config) (λ address. 0) (with_reply o r (one_memory_after config log).memory (run_of config log))
  unfolding IsLog AreTyped
  asked-run c o r given is =
      reply-run (links config) (λ address. 0) o r (one_memory_after config log).memory (run_of config log) is stored
    where
      before : IsGiven config log
      before = given-before config (Ask c o, Outcome.Replied r) log given

      continues : Continues config (Ask c o, Outcome.Replied r) log
      continues = (one_memory config log before).1 (Ask c o, Outcome.Replied r) given.typed.0 given.is_log

      stored : (address size value : ℕ) → o ≡ Op.Store address size value → r ≡ Reply.Stored
          → is_free (links config) Perm.Branch (block_at address) (trace_in (run_of config log)) ≡ false
      stored address size value is_store stores =
          subst (λ (t : Trace w). is_free (links config) Perm.Branch (block_at address) t ≡ false)
          (sym (beside-log config log before).trace_is)
          (held-trunk (links config) c (block_at address) (trace_of log) (client-below config c continues.2.0)
          (held-world log before c (block_at address) (client-below config c continues.2.0)
          ∙ hidden_stores config log before c address size value
          (subst (λ (j : Op w). (stepped config (Ask c j) (system_after config log)).outcome ≡ Outcome.Replied
          Reply.Stored) is_store (sym given.is_log.0 ∙ ap (λ (q : Reply). Outcome.Replied q) stores))))

  -- and as an operation ends
  done-run : (link : Link) (ch : Channel) (y : Beat w) (source : ℕ) (f : Finish)
      → IsGiven config ((Deliver link ch, Outcome.Done y source f) ∷ log)
      → IsRun (links config) (λ address. 0) (run_of config log)
      → IsRun (links config) (λ address. 0) (with_end ((one_memory_after config log).opened link.0 (pool_of f) source)
      (one_memory_after config log).memory (Takes link y ∷ run_of config log))
  unfolding trace_in trace_of
  done-run link ch y source f given is =
      end-run (links config) (λ address. 0) ((one_memory_after config log).opened link.0 (pool_of f) source)
      (one_memory_after config log).memory (Takes link y ∷ run_of config log)
      (taken-run link y before (done-well link ch y source f given) is) stored
    where
      before : IsGiven config log
      before = given-before config (Deliver link ch, Outcome.Done y source f) log given

      continues : Continues config (Deliver link ch, Outcome.Done y source f) log
      continues = (one_memory config log before).1 (Deliver link ch, Outcome.Done y source f) tt given.is_log

      stored : (i : Open w) (block : ℕ) (bytes : List ℕ) → (one_memory_after config log).opened link.0 (pool_of f)
          source ≡ Some i → i.asked ≡ Op.AcquireWhole block bytes
          → is_free (links config) Perm.Branch block ((link, y) ∷ trace_in (run_of config log)) ≡ false
      stored i block bytes opened asked =
          subst (λ (t : Trace w). is_free (links config) Perm.Branch block ((link, y) ∷ t) ≡ false)
          (sym (beside-log config log before).trace_is)
          (held-trunk (links config) link.0 block ((link, y) ∷ trace_of log) (client-below config link.0 continues.2.0)
          (held-world ((Deliver link ch, Outcome.Done y source f) ∷ log) given link.0 block
          (client-below config link.0 continues.2.0)
          ∙ whole_stores config log link ch y source f given i block bytes opened asked))

  happened-run : (e : Event w) (o : Outcome w) → IsGiven config ((e, o) ∷ log)
      → IsRun (links config) (λ address. 0) (run_of config log)
      → IsRun (links config) (λ address. 0) (happened e o (one_memory_after config log) (run_of config log))
  happened-run (Ask c i) (Outcome.Replied r) given is = asked-run c i r given is
  happened-run (Deliver link ch) (Outcome.Moved y) given is =
      taken-run link y (given-before config (Deliver link ch, Outcome.Moved y) log given) (moved-well link ch y given)
      is
  happened-run (Deliver link ch) (Outcome.Done y source f) given is = done-run link ch y source f given is
  happened-run v u given is = is

  -- ---- what is performed then

  none-run : (l : List (ℕ × ℕ)) (m : Machine w) (run : Run w) → l ≡ [] → IsRun (links config) (λ address. 0) run
      → IsRun (links config) (λ address. 0) (performed_all l m run)
  none-run l m run none is =
      subst (λ (k : List (ℕ × ℕ)). IsRun (links config) (λ address. 0) (performed_all k m run)) (sym none) is

  performed-run : (e : Event w) (o : Outcome w) → IsGiven config ((e, o) ∷ log) → (run : Run w)
      → IsBeside run (moved e o (one_memory_after config log)) (trace_of ((e, o) ∷ log))
      → IsRun (links config) (λ address. 0) run
      → IsRun (links config) (λ address. 0)
      (performed_all (accesses_answered (stepped config e (system_after config log)).handed)
      (one_memory_after config log) run)
  unfolding IsLog IsRun
  performed-run (Ask c i) o given run matches is =
      none-run (accesses_answered (stepped config (Ask c i) (system_after config log)).handed)
      (one_memory_after config log) run (asked-none config log (given-before config (Ask c i, o) log given) c i) is
  performed-run (Deliver link ch) o given run matches is =
      elim (answering-delivered config log link ch (shadow config log) given.width
      (matched-given config log (given-before config (Deliver link ch, o) log given))) [
        | inl none ↦ none-run (accesses_answered (stepped config (Deliver link ch) (system_after config log)).handed)
            (one_memory_after config log) run none is
        | inr one ↦ performs one.0 one.1 one.3.0 one.2 one.4 one.3.2
      ]
    where
      m : Machine w
      m = one_memory_after config log

      l : List (ℕ × ℕ)
      l = accesses_answered (stepped config (Deliver link ch) (system_after config log)).handed

      performs : (q source : ℕ) (a : MessageA w) → l ≡ (q, source) ∷ []
          → moved (Deliver link ch) (stepped config (Deliver link ch) (system_after config log)).outcome m ≡ m
          → m.opened q Requests source ≡ Some (record { asked = Op.Access (Message.A a); answer = None })
          → IsRun (links config) (λ address. 0) (performed_all l m run)
      performs q source a one still opened =
          subst (λ (k : List (ℕ × ℕ)). IsRun (links config) (λ address. 0) (performed_all k m run)) (sym one)
          (subst (λ (i : Option (Open w)). IsRun (links config) (λ address. 0) (after_access q source i m.memory run))
          (sym opened) (go (is_access a.opcode) refl))
        where
          here : IsBeside run m (trace_of ((Deliver link ch, o) ∷ log))
          here = subst (λ (i : Machine w). IsBeside run i (trace_of ((Deliver link ch, o) ∷ log)))
              (ap (λ (r : Outcome w). moved (Deliver link ch) r m) given.is_log.0 ∙ still) matches

          go : (b : Bool) → is_access a.opcode ≡ b
              → IsRun (links config) (λ address. 0)
              (if b then Performs q source everywhere (effect (Message.A a) m.memory).0 ∷ run else run)
          go true accesses = (
            performs-well config log link ch o given (links config) (links-few config) q source a one still opened
                accesses run
                here,
            is,
          )
          go false none = is

-- ---- the whole log

pub run-of-log : {w : ℕ} (config : Config) (log : Log w) → IsGiven config log
    → IsRun (links config) (λ address. 0) (run_of config log)
unfolding IsRun run_of trace_of
run-of-log config [] given = tt
run-of-log config (x ∷ log) given =
    let before = given-before config x log given in
    performed-run config log x.0 x.1 given (happened x.0 x.1 (one_memory_after config log) (run_of config log))
    (happened-beside config log x.0 x.1 given (beside-log config log before))
    (happened-run config log x.0 x.1 given (run-of-log config log before))

pub world_runs : {w : ℕ} → WorldRuns w
world_runs config log given =
    let beside = beside-log config log given in
    record {
      run = run_of config log;
      is_run = run-of-log config log given;
      trace_is = beside.trace_is;
      memory_is = beside.memory_is;
    }

pub true_worlds : {w : ℕ} → TrueWorlds w
true_worlds config log given =
    subst (AreTrue (links config)) (beside-log config log given).trace_is
    (true_bytes (links config) (λ address. 0) (run_of config log) (run-of-log config log given))
