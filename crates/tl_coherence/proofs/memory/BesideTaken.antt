-- The one-memory machine beside the protocol, after a message that is taken: which accesses are performed, and which
-- operation ends.
-- Copies are coherent with the one memory, and the open operations are those that were started.
-- Runs of the one-memory machine, and exact stalls.
use Rattle.std.proofs.Common.{◌≡◌, ℕ, ◌^◌, ◌≤◌, Bool, true, false, not, ◌&&◌, ◌==◌, if◌then◌else◌, List, [], ◌∷◌}
use Rattle.std.proofs.Common.{Option, Some, None, Result, Ok, Err, refl, sym, ◌∙◌, ap, subst, arith, ◌⊎◌, inl, inr}
use Rattle.std.proofs.Common.{length, unwrap_or, option_map}
use Rattle.tl_coherence.proofs
use proofs.Imports.{cases_eq, cases_lt, not-true, ⊤, Beat, Channel, OpA, IsWidth, Message, MessageA, Config, Cap}
use proofs.Imports.{Report, Perm, Rule, report_left, same_perm, IsBlock, Memory, effect, block_at, is_acquire, Op}
use proofs.Imports.{Reply, Verdict, EndConfig, is_stalled, offered, sourced, length-bytes, cap_probed, Event, Ask}
use proofs.Imports.{Outcome, IsWell, set_at, ClientBlock, ProbeAnswered, ProbePhase, View, is_unprobed, same_cap, ok}
use proofs.Imports.{is_above, Acquires, Block, Replied, SourceState, State, Waits, is_probed, view, written, is_sent}
use proofs.Imports.{answers, bytes_at, performs, some_below, Answers, IsAccess, IsReach, MemoryRelation, AccessMessages}
use proofs.Imports.{report_told, IsRequest, SimulationRelation, IsCoherent, started, is_stall, Continues, Log}
use proofs.Imports.{system_after, Machine, Open, Pool, Releases, Requests, after_end, after_reply, moved, performed_op}
use proofs.Imports.{performed_open, same_pool, with_memory, with_open, stalls, accesses_answered, one_memory_after}
use proofs.Imports.{performing, delivered, is_to_client, judged, manager_took, stepped, System}
use Rattle.tl_coherence.specs.{statement.Machine.Run, statement.Machine.performed, statement.Coherent.started_at}
use Rattle.tl_client.proofs.endpoint.Stalls.{stalls-offered}
use Rattle.tl_manager.proofs.judging.Stalls.{stalls-answered}
use Rattle.tl_client.specs.statement.Endpoint as client
use Rattle.tl_manager.specs.code.Kept as kept
use Rattle.tl_manager.specs.statement.End as manager_end
use Rattle.tl_manager.specs.statement.Offer as manager
use Rattle.tl_rules.specs.statement.Effect as memory
use proofs.queues.{Facts.held_at_most, Facts.is_other, Tokens.set_at-same}
use proofs.queues.Phases.{held-some, none_below, trunk_below, nothing-above, not_out, each_phase, of_phase, implies}
use proofs.queues.Phases.{implies_is}
use proofs.memory.Beside.{IsSameAcquire, set_at-there, open-here, open-there, open-releases, performing-one}
use proofs.memory.Beside.{beside-used}
use proofs.memory.OneMemory.{blocks-performed, reply-performed, effect-sourced}
use proofs.protocol.RequestsKept.{some-none}

-- ---- the manager's memory is the one memory, where nobody has what he was given to write

never_above : (k : Cap) (p : Perm) → same_cap k Cap.ToT ≡ false → is_above k p ≡ false → same_perm p Perm.Trunk ≡ false
never_above k p e f = grind arith

-- nobody is probed
pub memory-unprobed : (clients : ℕ) {caching : ℕ → Bool} (c : ℕ) (k : Cap) {b : Block (List ℕ)}
    → ((d : ℕ) → clients ≤ d → caching d ≡ false) → IsWell caching b → same_cap k Cap.ToT ≡ false
    → some_below clients (λ d. is_probed c false k (b.pair d).recorded d) ≡ false → b.memory ≡ b.truth
memory-unprobed clients c k {b} plain well low none =
    let unprobed : (d : ℕ) → is_above k (b.pair d).recorded ≡ false = λ d. elim (cases_lt d clients) [
      | inl lt ↦ some-none _ (λ i. is_probed c false k (b.pair i).recorded i) none d lt
      | inr le ↦ rw (well.outside d (plain d le)) (nothing-above k)
    ] in
    well.memory (λ d. not_out (b.pair d) (view b.service d) (never_above k (b.pair d).recorded low (unprobed d)))

low_test : ClientBlock → View → Bool
low_test p v = implies (is_other v && (not (same_perm (report_left (report_told p.probing)) Perm.Trunk) && not
    (is_sent p.probing))) (not (same_perm p.recorded Perm.Trunk))

low_all : each_phase low_test ≡ true
unfolding each_phase low_test
low_all = refl

low_recorded : (p : ClientBlock) (v : View) → ok p v ≡ true
    → (is_other v && (not (same_perm (report_left (report_told p.probing)) Perm.Trunk) && not (is_sent p.probing)))
    ≡ true → not (same_perm p.recorded Perm.Trunk) ≡ true
unfolding low_test
low_recorded p v h e = implies_is (is_other v && (not (same_perm (report_left (report_told p.probing)) Perm.Trunk)
    && not (is_sent p.probing))) (not (same_perm p.recorded Perm.Trunk)) (of_phase low_test low_all p v h) e

-- the last report has been told
pub memory-reported : {caching : ℕ → Bool} (c q source : ℕ) (r : Report) (k : Cap) {b : Block (List ℕ)}
    → IsWell caching b → b.service ≡ Waits q false source k → (b.pair c).probing ≡ ProbeAnswered r
    → ((d : ℕ) → (d ≡ c → ⊥) → is_unprobed (b.pair d).probing ≡ true) → written r b.truth b.memory ≡ b.truth
memory-reported c q source r k {b} well waits answered settled =
    let go : (x : Bool) → same_perm (report_left r) Perm.Trunk ≡ x → (if x then b.truth else b.memory) ≡ b.truth =
    elim [ true ↦ λ e. refl | false ↦ λ e. well.memory (λ d. not_out (b.pair d) (view b.service d) (low d e)) ] in
    go (same_perm (report_left r) Perm.Trunk) refl
  where
    seen : (d : ℕ) → is_other (view b.service d) ≡ true
    seen d = rw waits refl

    quiet_low : (x : ProbePhase) → is_unprobed x ≡ true
        → (not (same_perm (report_left (report_told x)) Perm.Trunk) && not (is_sent x)) ≡ true
    quiet_low x e = grind arith

    low : (d : ℕ) → same_perm (report_left r) Perm.Trunk ≡ false → same_perm (b.pair d).recorded Perm.Trunk ≡ false
    low d e = not-true (same_perm (b.pair d).recorded Perm.Trunk)
        (low_recorded (b.pair d) (view b.service d) (well.phases d) (both d (cases_eq d c)))
      where
        both : (d : ℕ) → (d ≡ c) ⊎ (d ≡ c → ⊥)
            → (is_other (view b.service d) && (not (same_perm (report_left (report_told (b.pair d).probing)) Perm.Trunk)
            && not (is_sent (b.pair d).probing))) ≡ true
        both d (inl same) = rw (seen d) (cc)
        both d (inr other) = rw (seen d) (quiet_low (b.pair d).probing (settled d other))

-- ---- an access is performed

-- an access that waits or is asked: its request, what is open with its source, and its bytes
pub record IsPerformed {w : ℕ} (config : Config) (c source : ℕ) (a : MessageA w) (mail : AccessMessages w)
    (s : State (List ℕ)) (m : Machine w) : Type 0 where
  pub width : IsWidth w
  pub request : mail.request c source ≡ Message.A a
  pub sent : IsRequest config c source (Message.A a)
  pub access : is_acquire a.opcode ≡ false
  pub opened : IsAccess source (mail.request c source) None (m.opened c Requests source)
  pub long : length (s.block (block_at a.address)).truth ≡ 64

pub same_message : {w : ℕ} (x y : MessageA w) → Message.A x ≡ Message.A y → x ≡ y
same_message x y e = cc

-- the same effect, by the access as it was asked for
effect_asked : {w : ℕ} (source : ℕ) (x b : MessageA w) (f : Memory) → x ≡ sourced source b
    → effect (Message.A b) f ≡ effect (Message.A x) f
effect_asked source x b f e = sym (ap (λ y. effect (Message.A y) f) e ∙ effect-sourced source b f)

-- what is answered has as many bytes as are asked for
reply_reach : {w : ℕ} (x : MessageA w) (f : Memory) → IsReach x (effect (Message.A x) f).1
unfolding effect
reply_reach x f = go x.opcode
  where
    go : (o : OpA) → IsReach x (memory.access_result o x f)
    go OpA.Get = length-bytes f x.address (2 ^ x.size)
    go OpA.ArithmeticData = length-bytes f x.address (2 ^ x.size)
    go OpA.LogicalData = length-bytes f x.address (2 ^ x.size)
    go o = tt

-- the machine after it
pub beside-performed : {w : ℕ} {config : Config} {c source : ℕ} {a : MessageA w} (bytes : List ℕ)
    {mail : AccessMessages w} {s : State (List ℕ)} (s' : State (List ℕ)) {m : Machine w}
    → IsPerformed config c source a mail s m
    → ((f : Memory) → IsBlock f (block_at a.address) (s.block (block_at a.address)).truth
    → (effect (Message.A a) (bytes_at (block_at a.address) (s.block (block_at a.address)).truth)).1
    ≡ (effect (Message.A a) (bytes_at (block_at a.address) bytes)).1)
    → ((i : ℕ) → (i ≡ block_at a.address → ⊥) → (s'.block i).truth ≡ (s.block i).truth)
    → (s'.block (block_at a.address)).truth ≡ performs a (s.block (block_at a.address)).truth
    → ((d i : ℕ) → s'.uses d i ≡ set_at c source Replied s.uses d i) → ((d i : ℕ) → s'.lets d i ≡ s.lets d i)
    → ((d n : ℕ) → (((s'.block n).pair d).acquiring ≡ ((s.block n).pair d).acquiring)
    × ((s'.block n).waiting d ≡ (s.block n).waiting d)) → MemoryRelation mail s m
    → MemoryRelation (record { request = mail.request; answer = set_at c source (answers a bytes) mail.answer }) s'
    (performing ((c, source) ∷ []) m)
beside-performed {w} {config} {c} {source} {a} bytes {mail} {s} s' {m} is same_reply others changed uses lets acquires
    h =
    let same_acquires : (d : ℕ) (u : SourceState) → IsSameAcquire d s s' u =
    λ d. elim [ Acquires k ↦ acquires d k | u ↦ tt ] in
    let mail' : AccessMessages w =
    record { request = mail.request; answer = set_at c source (answers a bytes) mail.answer } in
    let now : Open w =
    record { asked = Op.Access (Message.A is.opened.0); answer = Some (effect (Message.A is.opened.0) m.memory).1 } in
    let reply_is : (effect (Message.A is.opened.0) m.memory).1 ≡ (effect (Message.A a) (bytes_at n bytes)).1 = cc (
      effect_is,
      reply-performed _ a m.memory _ is.width is.sent.1 (h.memory n) is.long,
      same_reply m.memory (h.memory n),
    ) in
    subst (λ z. MemoryRelation mail' s' z) (sym (performing-one c source (Message.A is.opened.0) m is.opened.2))
    (beside-used (record {
      memory = λ i. block_now i (cases_eq i n);
      uses = uses;
      lets = lets;
      here = (
        (effect (Message.A is.opened.0) m.memory).1,
        let fact = open-here c Requests source (Some now) (with_memory (effect (Message.A is.opened.0) m.memory).0 m) in
            (is.opened.0, is.opened.1, fact),
        subst (λ x. Answers x (effect (Message.A is.opened.0) m.memory).1
            (set_at c source (answers a bytes) mail.answer c source))
            (sym is.request) (
              cc (set_at-same c source (answers a bytes) mail.answer),
              subst (λ y. IsReach a y.1) (sym effect_is) (reply_reach a m.memory),
            ),
      );
      there = λ d i else_. open-there c Requests source (Some now)
          (with_memory (effect (Message.A is.opened.0) m.memory).0 m) d i else_;
      releases = λ d i. open-releases c source (Some now) (with_memory (effect (Message.A is.opened.0) m.memory).0 m) d
          i;
      requests = λ d i else_. refl;
      answers = λ d i else_. set_at-there (answers a bytes) mail.answer else_;
      acquires = λ d i else_. same_acquires d (s.uses d i);
    }) h)
  where
    n : ℕ
    n = block_at a.address

    effect_is : effect (Message.A is.opened.0) m.memory ≡ effect (Message.A a) m.memory
    effect_is = effect_asked source a _ m.memory
        (same_message a (sourced source is.opened.0) (sym is.request ∙ is.opened.1))

    blocks : IsBlock (effect (Message.A a) m.memory).0 n (performs a (s.block n).truth)
        × ((i : ℕ) → (i ≡ n → ⊥) → IsBlock (effect (Message.A a) m.memory).0 i (s.block i).truth)
    blocks = blocks-performed _ a m.memory (λ i. (s.block i).truth) is.width is.access is.sent.1
        is.sent.2 is.long h.memory

    block_now : (i : ℕ) → (i ≡ n) ⊎ (i ≡ n → ⊥) → IsBlock (effect (Message.A is.opened.0) m.memory).0 i
        (s'.block i).truth
    block_now i (inl same) = rw same (subst (λ y. IsBlock y.0 n (s'.block n).truth)
        (sym effect_is) (subst (λ z. IsBlock (effect (Message.A a) m.memory).0 n z) (sym changed) blocks.0))
    block_now i (inr other) = rw effect_is (rw (others i other) (blocks.1 i other))

-- what an Intent is answered doesn't depend on the bytes
pub intent-reply : {w : ℕ} (x : MessageA w) (f g : Memory) → cap_probed x.opcode x.param ≡ None
    → (effect (Message.A x) f).1 ≡ (effect (Message.A x) g).1
unfolding effect
intent-reply {w} x f g e = grind arith

-- ---- what is open, as it was asked

abbrev asked_at : {w : ℕ} → ℕ → Pool → ℕ → Machine w → Option (Op w)
asked_at c pool source m = option_map (λ o. o.asked) (m.opened c pool source)

same_pool_is : (p q : Pool) → same_pool p q ≡ true → p ≡ q
same_pool_is p q e = grind arith

-- with another operation at one place
opened_with : {w : ℕ} (client : ℕ) (at : Pool) (n : ℕ) (o : Option (Open w)) (m : Machine w) (c : ℕ) (pool : Pool)
    (source : ℕ)
    → asked_at c pool source (with_open client at n o m) ≡ (if (client == c) && (same_pool at pool && (n == source))
    then option_map (λ i. i.asked) o else asked_at c pool source m)
opened_with {w} client at n o m c pool source = grind arith

-- where that is what was there, nothing changes
same_there : {w : ℕ} (client : ℕ) (at : Pool) (n : ℕ) (x : Option (Op w)) (m : Machine w) (c : ℕ) (pool : Pool)
    (source : ℕ) → asked_at client at n m ≡ x
    → asked_at c pool source m ≡ (if (client == c) && (same_pool at pool && (n == source)) then x else asked_at c pool
    source m)
same_there {w} client at n x m c pool source e = grind (arith, same_pool_is)

reply_opened : {w : ℕ} (client : ℕ) (o : Op w) (r : Reply) (m : Machine w) (c : ℕ) (pool : Pool) (source : ℕ)
    → asked_at c pool source (after_reply client o r m) ≡ started_at (Ask client o) (Outcome.Replied r) c pool source
    (asked_at c pool source m)
reply_opened client (Op.Load address size) (Reply.Started n) m c pool source =
    opened_with client Requests n (Some (record { asked = Op.Load address size; answer = None })) m c pool source
reply_opened client (Op.Store address size value) (Reply.Started n) m c pool source =
    opened_with client Requests n (Some (record { asked = Op.Store address size value; answer = None })) m c pool source
reply_opened client (Op.Acquire k g) (Reply.Started n) m c pool source =
    opened_with client Requests n (Some (record { asked = Op.Acquire k g; answer = None })) m c pool source
reply_opened client (Op.AcquireWhole k bytes) (Reply.Started n) m c pool source =
    opened_with client Requests n (Some (record { asked = Op.AcquireWhole k bytes; answer = None })) m c pool source
reply_opened client (Op.Release k p) (Reply.Started n) m c pool source =
    opened_with client Releases n (Some (record { asked = Op.Release k p; answer = None })) m c pool source
reply_opened client (Op.Access a) (Reply.Started n) m c pool source =
    opened_with client Requests n (Some (record { asked = Op.Access a; answer = None })) m c pool source
reply_opened client o r m c pool source = refl

end_opened : {w : ℕ} (client : ℕ) (at : Pool) (n : ℕ) (o : Option (Open w)) (m : Machine w) (c : ℕ) (pool : Pool)
    (source : ℕ) → m.opened client at n ≡ o → asked_at c pool source (after_end client at n o m)
    ≡ (if (client == c) && (same_pool at pool && (n == source)) then None else asked_at c pool source m)
end_opened client at n o m c pool source e = grind (arith, same_there, opened_with)

moved_opened : {w : ℕ} (e : Event w) (o : Outcome w) (m : Machine w) (c : ℕ) (pool : Pool) (source : ℕ)
    → asked_at c pool source (moved e o m) ≡ started_at e o c pool source (asked_at c pool source m)
moved_opened e o m c pool source = grind (arith, reply_opened, end_opened)

-- ---- performing asks for nothing else

op_opened : {w : ℕ} (client n : ℕ) (o : Open w) (m : Machine w) (c : ℕ) (pool : Pool) (source : ℕ)
    → m.opened client Requests n ≡ Some o
    → asked_at c pool source (unwrap_or (performed_open client n (Some o) m) m) ≡ asked_at c pool source m
op_opened {w} client n o m c pool source e = go _ o.answer (ap (option_map (λ i. i.asked)) e)
  where
    go : (x : Op w) (r : Option memory.AccessResult) → asked_at client Requests n m ≡ Some x
        → asked_at c pool source (unwrap_or (performed_op client n x r m) m) ≡ asked_at c pool source m
    go (Op.Access a) None f = opened_with client Requests n
        (Some (record { asked = Op.Access a; answer = Some (memory.effect a m.memory).1 })) (with_memory (memory.effect
        a m.memory).0 m) c pool source ∙ sym (same_there client Requests n (Some (Op.Access a)) m c pool source f)
    go x r f = refl

one_opened : {w : ℕ} (client n : ℕ) (m : Machine w) (c : ℕ) (pool : Pool) (source : ℕ)
    → asked_at c pool source (unwrap_or (performed client n m) m) ≡ asked_at c pool source m
one_opened {w} client n m c pool source = grind (arith, op_opened)

performing_opened : {w : ℕ} (accesses : List (ℕ × ℕ)) (m : Machine w) (c : ℕ) (pool : Pool) (source : ℕ)
    → asked_at c pool source (performing accesses m) ≡ asked_at c pool source m
unfolding performing
performing_opened [] m c pool source = refl
performing_opened (x ∷ accesses) m c pool source = performing_opened accesses (unwrap_or (performed x.0 x.1 m) m) c pool
    source ∙ one_opened x.0 x.1 m c pool source

-- the open operations are those that were started and aren't done
pub opened-started : {w : ℕ} (config : Config) (log : Log w) (c : ℕ) (pool : Pool) (source : ℕ)
    → option_map (λ o. o.asked) ((one_memory_after config log).opened c pool source) ≡ started c pool source log
unfolding one_memory_after started
opened-started config [] c pool source = refl
opened-started {w} config (x ∷ log) c pool source =
    let fact = performing_opened (accesses_answered (stepped config x.0 (system_after config log)).handed)
    (moved x.0 x.1 (one_memory_after config log)) c pool source in
    cc (moved_opened x.0 x.1 (one_memory_after config log) c pool source, opened-started config log c pool source)

-- ---- coherent copies

pub coherent-matched : {w : ℕ} {config : Config} {log : Log w} {mail : AccessMessages w} {request : ℕ → MessageA w}
    {s : State (List ℕ)} → SimulationRelation config log mail request s (system_after config log)
    → IsCoherent (system_after config log) log (one_memory_after config log)
coherent-matched {w} {config} {log} {s} h =
    let some_is : (x y : List ℕ) → Some x ≡ Some y → x ≡ y = λ x y e. cc in
    record {
      one_writer = λ c d n differ writes.
          let none = (h.invariant.blocks n).one_owner c d (trunk_below ((s.block n).pair c).held
          ((s.block n).pair c).recorded (held_at_most ((s.block n).pair c) (view (s.block n).service c)
          ((h.invariant.blocks n).phases c)) (sym ((h.known c).held_is n) ∙ writes)) (λ e. differ (sym e)) in
          (h.known d).held_is n ∙ none_below _ _
          (held_at_most ((s.block n).pair d) (view (s.block n).service d) ((h.invariant.blocks n).phases d)) none;
      copies = λ c n bytes copy.
          let some = held-some _ (sym (cc ((h.kept c).copies_held n, (h.known c).held_is n))) in
          let same : (s.block n).truth ≡ bytes = sym ((h.invariant.blocks n).copies c some)
          ∙ some_is ((s.block n).copy c) bytes (sym (h.copies c n some) ∙ copy) in
          subst (λ b. IsBlock (one_memory_after config log).memory n b) same (h.beside.memory n);
      kept = λ c n. (h.kept c).copies_held n;
      opened = λ c pool source. opened-started config log c pool source;
    }

-- ---- runs

-- each event goes on from the machine's state before it
unfoldable pub AllContinue : {w : ℕ} → Config → Log w → Type 0
AllContinue config [] = ⊤
AllContinue config (x ∷ log) = Continues config x log × AllContinue config log

pub run-continued : {w : ℕ} (config : Config) (log : Log w) → AllContinue config log
    → Run config log (one_memory_after config log)
unfolding Run one_memory_after AllContinue
run-continued config [] all = refl
run-continued config (x ∷ log) all =
    (one_memory_after config log, all.0.0, all.0.1, run-continued config log all.1, all.0.2, all.0.3)

-- ---- stalls: a delivery that isn't refused is stalled exactly where the channel holds a beat that isn't movable

-- no rule is broken
abbrev pub IsTakenUp : {w : ℕ} → Result (Verdict × Option (Message w)) Rule → Type 0
IsTakenUp (Ok v) = ⊤
IsTakenUp (Err rule) = ⊥

abbrev pub IsTakenIn : {w : ℕ} → manager.Reception w × manager_end.End w → Type 0
IsTakenIn (manager.Refused rule, e) = ⊥
IsTakenIn _ = ⊤

-- the end that takes the beat refuses it by no rule
abbrev pub IsTaken : {w : ℕ} → Config → EndConfig → ℕ → Channel → Beat w → System w → Type 0
IsTaken config terms link ch x s = (is_to_client ch ≡ true → IsTakenUp (offered terms ch x (s.clients link)).answer)
    × (is_to_client ch ≡ false → IsTakenIn (manager.offered config (record { 0 = link }) ch x s.manager))

stall-judged : {w : ℕ} (answer : Result (Verdict × Option (Message w)) Rule) (link : ℕ) (ch : Channel) (x : Beat w)
    (rest : List (Beat w)) (e : client.Endpoint w) (s : System w)
    → IsTakenUp answer → is_stall (judged answer link ch x rest e s).outcome ≡ is_stalled answer
stall-judged answer link ch x rest e s f = grind arith

stall-managed : {w : ℕ} (answer : manager.Reception w × manager_end.End w) (link : ℕ) (ch : Channel) (x : Beat w)
    (rest : List (Beat w)) (s : System w)
    → IsTakenIn answer → is_stall (manager_took link ch x rest answer s).outcome ≡ kept.is_stalled answer.0
stall-managed answer link ch x rest s e = grind arith

pub stall-delivered : {w : ℕ} (config : Config) (terms : EndConfig) (link : ℕ) (ch : Channel) (x : Beat w)
    (rest : List (Beat w)) (s : System w) → IsTaken config terms link ch x s
    → is_stall (delivered config terms link ch (x ∷ rest) s).outcome ≡ stalls config terms link ch x s
stall-delivered config terms link ch x rest s taken = go (is_to_client ch) refl
  where
    go : (b : Bool) → is_to_client ch ≡ b → is_stall (delivered config terms link ch (x ∷ rest) s).outcome ≡ stalls
        config terms link ch x s
    go true e = rw e (stall-judged _ link ch x rest _ s (taken.0 e) ∙ sym (stalls-offered terms ch x (s.clients link)))
    go false e = rw e (stall-managed _ link ch x rest s (taken.1 e) ∙ sym
        (stalls-answered config (record { 0 = link }) ch x s.manager))
