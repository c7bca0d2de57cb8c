-- The copies of a world's clients have the bytes of memory, and are given back so.
use Rattle.std.proofs.Common.{◌≡◌, ℕ, zero, suc, ◌+◌, ◌-◌, ◌*◌, ◌<◌, ◌≤◌, Bool, true, false, not, ◌&&◌, ◌||◌}
use Rattle.std.proofs.Common.{List, [], ◌∷◌, length, take, drop, get_or}
use Rattle.std.proofs.Common.{length-take, refl, sym, ◌∙◌, ap, subst, arith, None, Some}
use Rattle.std.specs.Prelude.{⊤, if◌then◌else◌, ◌==◌, Option, slice_get, unwrap_or}
use Rattle.std.proofs.lemmas.Bool.{and_from, and_parts, eq-eqb, eqb-true, not-false, not-true}
use Rattle.tl_beat.specs.declared.beat.Beat.{Beat}
use Rattle.tl_beat.specs.declared.beat.BeatA.{BeatA}
use Rattle.tl_beat.specs.declared.beat.BeatC.{BeatC}
use Rattle.tl_beat.specs.declared.beat.Link.{Link}
use Rattle.tl_beat.specs.declared.channel.Channel.{Channel}
use Rattle.tl_beat.specs.statement.Opcode.{a_carries_data, c_carries_data}
use Rattle.tl_burst.specs.statement.Burst.{data_beats, lanes_at}
use Rattle.tl_burst.specs.statement.Messages.{History, channel_of}
unfoldable use Rattle.tl_burst.specs.statement.Messages.{unfinished}
use Rattle.tl_params.specs.declared.config.Config.{Config}
use Rattle.tl_params.specs.declared.perm.Perm.{Perm}
unfoldable use Rattle.tl_rules.specs.statement.Conformance.{on_link}
use Rattle.tl_rules.specs.statement.Conformance.{same_perm}
use Rattle.tl_rules.specs.statement.Admission.{is_spoiled, lanes_of}
use Rattle.tl_bytes.specs.statement.Early.{is_released}
use Rattle.tl_rules.specs.statement.Effect.{IsBlock, Memory}
use Rattle.tl_rules.specs.statement.History.{block_at}
unfoldable use Rattle.tl_rules.specs.statement.History.{held}
use Rattle.tl_rules.proofs.Numbers.{part_byte}
unfoldable use Rattle.tl_bytes.specs.statement.Bytes.{each_from}
use Rattle.tl_bytes.specs.statement.Free.{may_hold}
use Rattle.tl_burst.specs.declared.message.Message.{Message}
use Rattle.tl_burst.specs.statement.Burst.{beat_of, begun}
use Rattle.tl_burst.specs.statement.Burst as burst
use Rattle.tl_beat.specs.declared.opcode.OpA.{OpA}
use Rattle.tl_params.specs.declared.rule.Rule.TheVariants.{H1, H4, H5}
use Rattle.tl_params.specs.statement.Liberties.{liberties_of}
use Rattle.tl_params.specs.declared.liberties.Liberties.{Liberties}
use Rattle.tl_beat.specs.statement.First.{first_if}
use Rattle.tl_rules.specs.statement.Conformance.{Trace, grows_from}
use Rattle.tl_rules.specs.statement.History.{is_acquire, reported}
unfoldable use Rattle.tl_rules.specs.statement.History.{pending}
use Rattle.tl_params.specs.declared.key.Key.{Key}
use Rattle.tl_params.specs.declared.param.Grow.{Grow}
use Rattle.tl_params.specs.statement.Param.{grow_code}
use Rattle.tl_rules.specs.statement.Liberties.{broken_in_order_under, grows_from_none, grows_from_under}
unfoldable use Rattle.tl_rules.specs.statement.Liberties.{broken_order_under, held_under}
use Rattle.tl_forgiving.proofs.Lawful.{lawful-beat}
use Rattle.tl_memory.proofs.lawful.OpenAccesses.{is-fine}
use Rattle.tl_memory.specs.statement.Links.{KeepRules}
use Rattle.tl_together.proofs.Following.{most}
use Rattle.tl_coherence.specs.refinement.AbstractStep.{AbstractState}
use Rattle.tl_coherence.specs.refinement.PacketMessages.{message_of_kind}
use Rattle.tl_coherence.specs.refinement.SimulationRelation.{MonitorRelations, SimulationRelation, is_caching}
use Rattle.tl_coherence.specs.statement.Delivery.{levels_of}
unfoldable use Rattle.tl_coherence.specs.statement.Flow.{flow, trace_of}
use Rattle.tl_coherence.specs.statement.Headline.{IsGiven}
use Rattle.tl_coherence.specs.statement.Log.{Log}
unfoldable use Rattle.tl_coherence.specs.statement.Log.{system_after}
unfoldable use Rattle.tl_coherence.specs.statement.OneMemory.{one_memory_after}
use Rattle.tl_coherence.specs.statement.TrueReturns.{IsTrueReturn}
use Rattle.tl_coherence.proofs.deliveries.Matching.{shadow}
use Rattle.tl_coherence.proofs.flow.FlowTraces.{trace-flows}
use Rattle.tl_coherence.proofs.flow.Flows.{flowed}
use Rattle.tl_coherence.proofs.links.FromInvariant.{matched-given}
use Rattle.tl_coherence.proofs.queues.FirstToken.{IsFirst, first-token}
use Rattle.tl_coherence.proofs.queues.Phases.{trunk-some}
use Rattle.tl_concord.proofs.Alike.{held-world, links-few}
use Rattle.tl_concord.proofs.ReportTold.{IsReport, report-is}
use Rattle.tl_commits.specs.statement.Commits.{takes_trunk}
use Rattle.tl_commits.specs.statement.Copies.{brought, holds, holds_trunk, is_known, link_beats}
use Rattle.tl_one_memory.specs.statement.Run.{OneOf, Run}
unfoldable use Rattle.tl_one_memory.specs.statement.Run.{memory_in}
use Rattle.tl_true_bytes.proofs.Runs.{beside-log}
unfoldable use Rattle.tl_true_bytes.specs.code.Beside.{run_of}
use Rattle.tl_commit_memory.specs.statement.CommitRun.{StartsAs, CommitRun}
unfoldable use Rattle.tl_commit_memory.specs.statement.CommitRun.{events_in, run_in}
use Rattle.tl_commit_memory.specs.statement.KeptCopies.{CopyHas, GivesCopy, GivesUp, HasByte, IsKnownByte}
use Rattle.tl_commit_memory.specs.statement.KeptCopies.{ReportsRightly}
unfoldable use Rattle.tl_commit_memory.specs.statement.KeptCopies.{IsRecorded}
use Rattle.tl_bytes.proofs.Finding.{same-some}
use Rattle.tl_world_commits.proofs.Beats.{events-beats}
use Rattle.tl_world_commits.proofs.Filled.{brought-so}
use Rattle.tl_world_commits.specs.statement.Unbroken.{complete_of}
unfoldable use Rattle.tl_world_commits.specs.statement.WorldEvents.{events_of}
use Rattle.tl_commits.specs.statement.Events.{Events}
unfoldable use Rattle.tl_commits.specs.statement.Events.{beats_of}

abbrev pub links : Config → ℕ
links config = length config.clients.items

abbrev pub zeros : Memory
zeros address = 0

-- it starts as a header may say
pub zeros-start : (from_zero : Bool) → StartsAs from_zero zeros
zeros-start true = λ address. refl
zeros-start false = tt

-- each byte of a list passes a test
pub each-byte : (test : ℕ → ℕ → Bool) (bytes : List ℕ) (base : ℕ)
    → ((i : ℕ) → i < length bytes → test (base + i) (get_or bytes i 0) ≡ true) → each_from test base bytes ≡ true
unfolding each_from
each-byte test [] base each = refl
each-byte test (v ∷ bytes) base each = and_from (test base v) (each_from test (base + 1) bytes)
    (let at : base + 0 ≡ base = omega arith in subst (λ (i : ℕ). test i v ≡ true) at (each 0 (omega arith)))
    (each-byte test bytes (base + 1) (λ i lt.
    let at : base + suc i ≡ base + 1 + i = omega arith in
    subst (λ (k : ℕ). test k (get_or bytes i 0) ≡ true) at (each (suc i) (omega (arith, lt)))))

-- the lanes of beat k of these bytes of a block in memory
pub each-lane : (test : ℕ → ℕ → Bool) (memory : Memory) (block w k : ℕ) (bytes : List ℕ) → IsBlock memory block bytes
    → w * k + w ≤ 64 → ((address : ℕ) → block_at address ≡ block → test address (memory address) ≡ true)
    → each_from test (64 * block + w * k) (unwrap_or (lanes_at true w bytes k) []) ≡ true
each-lane test memory block w k bytes is fits each =
    each-byte test (take (w * k + w - w * k) (drop (w * k) bytes)) (64 * block + w * k) (λ i lt.
    let short = length-take (w * k + w - w * k) (drop (w * k) bytes) in
    let less : i < w = omega (arith, lt, short) in
    let value : get_or (take (w * k + w - w * k) (drop (w * k) bytes)) i 0 ≡ memory (64 * block + w * k + i) =
    part_byte bytes (w * k) (w * k + w - w * k) i (omega (arith, less)) ∙ sym
    (is (w * k + i) (omega (arith, less, fits)))
    ∙ ap memory (omega arith) in
    let here : block_at (64 * block + w * k + i) ≡ block = omega (arith, less, fits) in
    subst (λ (v : ℕ). test (64 * block + w * k + i) v ≡ true) (sym value) (each (64 * block + w * k + i) here))

-- ---- what is known of a beat that is next

single : (o : OpA) → is_acquire o ≡ true → a_carries_data o ≡ false
single OpA.AcquireBlock e = refl
single OpA.AcquirePerm e = refl
single v e = absurd cc

first-acquire : {w : ℕ} (y : BeatA w) (m : Message w) (k : ℕ) → k < burst.beats_of m → Beat.A y ≡ beat_of m k
    → is_acquire y.opcode ≡ true → k ≡ 0
first-acquire {w} y (Message.A m) k lt is acquires = only (a_carries_data m.opcode)
    (let same : y.opcode ≡ m.opcode = cc in sym (ap a_carries_data same) ∙ single y.opcode acquires) lt
  where
    only : (b : Bool) → b ≡ false → k < (if b then data_beats w m.size else 1) → k ≡ 0
    only true e less = absurd cc
    only false e less = omega (arith, less)
first-acquire y (Message.B m) k lt is acquires = absurd cc
first-acquire y (Message.C m) k lt is acquires = absurd cc
first-acquire y (Message.D m) k lt is acquires = absurd cc
first-acquire y (Message.E m) k lt is acquires = absurd cc

-- an Acquire has one beat, and a beat of channel C is of a report
abbrev pub IsMarked : {w : ℕ} → Config → Log w → ℕ → Beat w → Type 0
IsMarked config log c (Beat.A y) =
    is_acquire y.opcode ≡ true → unfinished Channel.A (on_link c (trace_of log)) ≡ []
IsMarked config log c (Beat.C y) = IsReport config log c y
IsMarked config log c _ = ⊤

pub marked : {w : ℕ} (config : Config) (log : Log w) → IsGiven config log → (c : ℕ) (x : Beat w) (queue : List (Beat w))
    → (system_after config log).channels c (channel_of x) ≡ x ∷ queue → IsMarked config log c x
marked {w} config log given c (Beat.A y) queue beats = λ acquires.
    ap (unfinished Channel.A) (trace-flows c log) ∙ (values c).rest_is Channel.A ∙ first.next.rest_is
    ∙ ap (begun (message_of_kind first.kind h.mail h.state c first.number))
    (first-acquire y (message_of_kind first.kind h.mail h.state c first.number) first.next.k first.next.within
    first.next.beat_is acquires)
  where
    h : AbstractState w
    h = shadow config log

    is : SimulationRelation config log h.mail h.request h.state (system_after config log)
    is = matched-given config log given

    values : MonitorRelations log h.mail h.state (system_after config log)
    values = flowed config log given.width given.typed given.is_log

    first : IsFirst Channel.A c h.mail h.state (system_after config log) (Beat.A y) queue
    first = first-token (is_caching config) Channel.A c h.mail h.state (system_after config log) (Beat.A y) queue
        given.width is.invariant is.carried beats
marked config log given c (Beat.C y) queue beats = report-is config log given c y queue beats
marked config log given c (Beat.B y) queue beats = tt
marked config log given c (Beat.D y) queue beats = tt
marked config log given c (Beat.E y) queue beats = tt

-- ---- a report

-- the test that all these bytes pass is passed by each
each-passes : (test : ℕ → ℕ → Bool) (from : ℕ) (bytes : List ℕ) → each_from test from bytes ≡ true → (j v : ℕ)
    → slice_get bytes j ≡ Some v → test (from + j) v ≡ true
unfolding each_from
each-passes test from [] all j v e = absurd cc
each-passes test from (u ∷ bytes) all zero v e =
    let here : from ≡ from + 0 = omega arith in
    ap (λ (i : ℕ). test i v) (sym here) ∙ ap (test from) (same-some u v e)
    ∙ (and_parts (test from u) (each_from test (from + 1) bytes) all).0
each-passes test from (u ∷ bytes) all (suc j) v e =
    let next : from + 1 + j ≡ from + suc j = omega arith in
    ap (λ (i : ℕ). test i v) (sym next)
    ∙ each-passes test (from + 1) bytes (and_parts (test from u) (each_from test (from + 1) bytes) all).1 j v e

module _ {w : ℕ} (from_zero : Bool) (config : Config) (log : Log w) (given : IsGiven config log) (c : ℕ)
    (client : c < length config.clients.items) (steps : CommitRun w) (run_is : run_in steps ≡ run_of config log)
    (events_are : events_in steps ≡ events_of log)
    (recorded : (address : ℕ) → IsRecorded (links config) zeros address steps) where
  abbrev t : Trace w
  t = trace_of log

  same-beats : beats_of (events_in steps) ≡ t
  same-beats = ap (λ (e : Events w). beats_of e) events_are ∙ events-beats log

  abbrev memory : Memory
  memory = (one_memory_after config log).memory

  -- a copy has the byte of memory
  pub copy-byte : (address : ℕ) → same_perm (may_hold (block_at address) (on_link c t)) Perm.None ≡ false
      → HasByte (complete_of from_zero config) (links config) zeros c address (memory address) steps
  copy-byte address some = (
    client,
    subst (λ (u : Trace w). CopyHas (complete_of from_zero config) (links config) zeros c address (memory address)
        (brought address (on_link c u)) steps) (sym same-beats) (go (brought address (on_link c t)) refl),
  )
    where
      same : memory_in zeros (run_in steps) address ≡ memory address
      same = ap (λ (r : Run w). memory_in zeros r address) run_is
          ∙ ap (λ (f : Memory). f address) (beside-log config log given).memory_is

      held : holds (block_at address) (link_beats c (events_in steps)) ≡ true
      held = ap (λ (u : Trace w). holds (block_at address) (on_link c u)) same-beats ∙ ap not some

      known : (b : Bool) → OneOf b (IsKnownByte (links config) zeros address (memory address) steps) ⊤
      known true = (same, recorded address)
      known false = tt

      go : (o : Option (Option ℕ)) → brought address (on_link c t) ≡ o
          → CopyHas (complete_of from_zero config) (links config) zeros c address (memory address) o steps
      go (Some value) e = brought-so config log given c address value e
      go None e = (held, known (is_known (complete_of from_zero config) c (block_at address) (link_beats c (events_in steps))))

  module _ (y : BeatC w) (report : IsReport config log c y) where
    by-link : may_hold (block_at y.address) (on_link c t) ≡ held report.number (flow c log)
    by-link = ap (λ (b : ℕ). may_hold b (on_link c t)) report.of_block ∙ held-world log given c report.number client
        ∙ ap (held report.number) (trace-flows c log)

    carries-trunk : same_perm (may_hold (block_at y.address) (on_link c t)) Perm.Trunk ≡ c_carries_data y.opcode
    carries-trunk = ap (λ (p : Perm). same_perm p Perm.Trunk) by-link ∙ sym report.carries

    -- the byte is that of memory, in the block
    abbrev test : ℕ → ℕ → Bool
    test address v = (memory address == v) && (block_at address == block_at y.address)

    abbrev from : Trace w → ℕ
    from u = 64 * block_at y.address + w * length (unfinished Channel.C (on_link c u))

    true-lanes : c_carries_data y.opcode ≡ true → IsTrueReturn memory c (Beat.C y) t
        → each_from test (from t) (lanes_of (Beat.C y)) ≡ true
    true-lanes bears returns =
        let own = returns bears in
        let fits : w * length (unfinished Channel.C (on_link c t)) + w ≤ 64 =
        subst (λ (past : History w). w * length (unfinished Channel.C past) + w ≤ 64) (sym (trace-flows c log))
        report.within in
        ap (λ (l : Option (List ℕ)). each_from test (from t) (unwrap_or l [])) own.2
        ∙ each-lane test memory (block_at y.address) w
        (length (unfinished Channel.C (on_link c t))) own.0 own.1 fits (λ address here.
        and_from _ _ (eq-eqb (memory address) (memory address) refl)
        (eq-eqb (block_at address) (block_at y.address) here))

    abbrev Gives : Trace w → Type 0
    Gives u = is_released (block_at y.address) (Beat.C y) (on_link c u) ≡ false → is_spoiled (Beat.C y) ≡ false
        → (j v : ℕ) → slice_get (lanes_of (Beat.C y)) j ≡ Some v
        → HasByte (complete_of from_zero config) (links config) zeros c (from u + j) v steps

    gives-copy : c_carries_data y.opcode ≡ true → IsTrueReturn memory c (Beat.C y) t
        → GivesCopy (complete_of from_zero config) (links config) zeros c y steps
    gives-copy bears returns = subst Gives (sym same-beats) (λ released sound j v lane.
        let both = and_parts (memory (from t + j) == v) (block_at (from t + j) == block_at y.address)
        (each-passes test (from t) (lanes_of (Beat.C y)) (true-lanes bears returns) j v lane) in
        subst (λ (u : ℕ). HasByte (complete_of from_zero config) (links config) zeros c (from t + j) u steps)
        (eqb-true (memory (from t + j)) v both.0) (copy-byte (from t + j)
        (trunk-some (may_hold (block_at (from t + j)) (on_link c t))
        (ap (λ (b : ℕ). same_perm (may_hold b (on_link c t)) Perm.Trunk)
        (eqb-true (block_at (from t + j)) (block_at y.address) both.1) ∙ carries-trunk ∙ bears))))

    bare : (a d : Bool) → (if a && (false && d) then Some (block_at y.address) else None) ≡ None
    bare true d = refl
    bare false d = refl

    report-takes : c_carries_data y.opcode ≡ false → takes_trunk (Beat.C y) (on_link c t) ≡ None
    report-takes bears = rw (carries-trunk ∙ bears, bare (not (same_perm (reported y.param) Perm.Trunk)) _) refl

  -- ---- an Acquire

  last-false : (a b d : Bool) → first_if a H1 (first_if b H4 (first_if d H5 None)) ≡ None → d ≡ false
  last-false true b d is = absurd cc
  last-false false true d is = absurd cc
  last-false false false true is = absurd cc
  last-false false false false is = refl

  second : (a b d : Bool) → a ≡ false → ((a && b) || d) ≡ true → d ≡ true
  second true b d off is = absurd cc
  second false b d off is = is

  grown : (l : Liberties) (y : BeatA w) (past : History w) → l.drops ≡ false
      → broken_order_under l (Beat.A y) past ≡ None → is_acquire y.opcode ≡ true → grows_from_none y.param ≡ true
      → same_perm (held_under l (block_at y.address) past) Perm.None ≡ true
  unfolding broken_order_under
  grown l y past undropped unbroken acquires grows =
      rw (not-true (y.param == grow_code Grow.BtoT) grows) at starts
    where
      fits : grows_from_under l y.param (held_under l (block_at y.address) past) ≡ true
      fits = not-false (grows_from_under l y.param (held_under l (block_at y.address) past))
          (rw acquires at (last-false (pending (Key.RequestSource y.source) past)
          (is_acquire y.opcode && (pending (Key.AcquireOf (block_at y.address)) past
          || pending (Key.ReleaseOf (block_at y.address)) past))
          (is_acquire y.opcode && not (grows_from_under l y.param (held_under l (block_at y.address) past))) unbroken))

      starts : grows_from y.param (held_under l (block_at y.address) past) ≡ true
      starts = second l.drops (grows_from_none y.param) _ undropped fits

  acquire-takes : (link : Link) (y : BeatA w) → link.0 ≡ c
      → KeepRules (liberties_of config.profile) (levels_of config)
      ((link, Beat.A y) ∷ t) → IsMarked config log c (Beat.A y) → takes_trunk (Beat.A y) (on_link c t) ≡ None
  acquire-takes link y same rules begun = go (is_acquire y.opcode) refl (grows_from_none y.param) refl
    where
      l : Liberties
      l = liberties_of config.profile

      ordered : broken_in_order_under l (Beat.A y) (on_link c t) ≡ None
      ordered = subst (λ (k : ℕ). broken_in_order_under l (Beat.A y) (on_link k t) ≡ None) same
          (let fine = is-fine l (levels_of config) (link, Beat.A y) t rules.0 in
          (lawful-beat l fine.level (Beat.A y) (on_link link.0 t) fine.fine).ordered)

      untrunk : (p : Perm) → same_perm p Perm.None ≡ true → same_perm p Perm.Trunk ≡ false
      untrunk Perm.None f = refl
      untrunk v f = absurd cc

      go : (a : Bool) → is_acquire y.opcode ≡ a → (b : Bool) → grows_from_none y.param ≡ b
          → (if (a && b) && holds_trunk (block_at y.address) (on_link c t) then Some (block_at y.address) else None)
          ≡ None
      go true acquires true grows =
          rw (ap (λ (p : Perm). same_perm p Perm.Trunk)
          (sym (most (levels_of config) l c (block_at y.address) t rules.1 few))
          ∙ untrunk (held_under l (block_at y.address) (on_link c t)) (grown l y (on_link c t) refl
          (rw (begun acquires) at ordered) acquires grows)) refl
        where
          few : c < length (levels_of config)
          few = let le = links-few config in omega (arith, client, le)
      go true acquires false grows = refl
      go false other b grows = refl

  -- ---- a beat

  given-up : (link : Link) (x : Beat w) → link.0 ≡ c → takes_trunk x (on_link c t) ≡ None
      → GivesUp (links config) link x steps
  given-up link x same none block took = absurd (let no : None ≡ Some block =
      sym (ap (λ (k : ℕ). takes_trunk x (on_link k (beats_of (events_in steps)))) same
      ∙ ap (λ (u : Trace w). takes_trunk x (on_link c u)) same-beats ∙ none) ∙ took in cc)

  pub reports-rightly : (link : Link) (x : Beat w) → link.0 ≡ c
      → KeepRules (liberties_of config.profile) (levels_of config) ((link, x) ∷ t) → IsMarked config log c x
      → IsTrueReturn memory c x t → ReportsRightly (complete_of from_zero config) (links config) zeros link x steps
  reports-rightly link (Beat.A y) same rules is returns =
      given-up link (Beat.A y) same (acquire-takes link y same rules is)
  reports-rightly link (Beat.B y) same rules is returns = given-up link (Beat.B y) same refl
  reports-rightly link (Beat.D y) same rules is returns = given-up link (Beat.D y) same refl
  reports-rightly link (Beat.E y) same rules is returns = given-up link (Beat.E y) same refl
  reports-rightly link (Beat.C y) same rules is returns = go (c_carries_data y.opcode) refl
    where
      go : (b : Bool) → c_carries_data y.opcode ≡ b
          → OneOf b (GivesCopy (complete_of from_zero config) (links config) zeros link.0 y steps)
          (GivesUp (links config) link (Beat.C y) steps)
      go true bears = subst (λ (k : ℕ). GivesCopy (complete_of from_zero config) (links config) zeros k y steps) (sym same)
          (gives-copy y is bears returns)
      go false bears = given-up link (Beat.C y) same (report-takes y is bears)
