-- What a ProbeAck or a Release says of a block: Trunk is given up with the bytes of the one memory.
use Rattle.tl_concord.proofs.Imports.{Beat, Message, beat_of, begun, History, channel_of, unfinished, Config, Perm}
use Rattle.tl_concord.proofs.Imports.{on_link, same_perm, Memory, block_at, ends, held, says_held, carried_byte}
use Rattle.tl_concord.proofs.Imports.{could_be, tells_late, ProbeAck, Release, Block, packet, view, AbstractState}
use Rattle.tl_concord.proofs.Imports.{block_message, message_of, MonitorRelations, SimulationRelation, is_caching, flow}
use Rattle.tl_concord.proofs.Imports.{IsGiven, Log, system_after, one_memory_after, flowed, matched-given, IsNext}
use Rattle.tl_concord.proofs.Imports.{first-token, and_left, and_right, holds-first}
use Rattle.std.proofs.Common.{◌≡◌, ℕ, zero, Bool, true, false, ◌&&◌, ◌||◌, ◌+◌, ◌*◌, ◌<◌, ◌≤◌, List, ◌∷◌, Some, None}
use Rattle.std.proofs.Common.{◌∙◌, ap, arith, inl, inr, length, lit≤, refl, subst, sym}
use Rattle.std.specs.Prelude.{if◌then◌else◌, ◌==◌, map, suc}
use Rattle.tl_beat.specs.statement.Width.{IsWidth}
use Rattle.std.proofs.Math.Nat.{mul-le-mul_left}
use Rattle.tl_burst.proofs.Begun.{length-begun}
use Rattle.tl_burst.specs.statement.Burst.{beats_of, data_beats}
use Rattle.std.proofs.lemmas.Bool.{eqb-true}
use Rattle.tl_beat.{specs.declared.beat.BeatC.BeatC, specs.declared.channel.Channel.Channel}
use Rattle.tl_beat.{specs.statement.Opcode.c_carries_data}
use Rattle.tl_burst.{specs.declared.message.MessageC.MessageC, specs.statement.Burst.c_beat_of}
use Rattle.tl_params.{specs.declared.param.Prune.Prune, specs.declared.param.Report.Report}
use Rattle.tl_params.specs.statement.Param.{prune_code, prune_left, report_code, report_left}
use Rattle.tl_rules.specs.statement.History.{is_probe_ack, is_release, reported}
use Rattle.tl_coherence.specs.{protocol.Packet.Packet, protocol.Tokens.is_granting, protocol.Tokens.shown}
use Rattle.tl_coherence.specs.protocol.Phase.{Granting, Other, ProbeAnswered}
use Rattle.tl_coherence.specs.protocol.Phase.{ReleaseSent, View, ok, is_unprobed, is_unreleased}
use Rattle.tl_coherence.specs.refinement.PacketMessages.{prune_told, report_told}
use Rattle.tl_coherence.proofs.{deliveries.Matching.shadow, flow.ChannelCE.report_rendered}
use Rattle.tl_coherence.proofs.{flow.ChannelCE.release_rendered, flow.FlowBeats.same_perms}
use Rattle.tl_coherence.proofs.{manager.ManagerTakes.by-first_c, manager.ManagerTakes.unanswered}
use Rattle.tl_coherence.proofs.{manager.Reporting.IsAbout, protocol.BothParts.answered-is}
use Rattle.tl_coherence.proofs.{protocol.BothParts.releasing-is}
use Rattle.tl_coherence.proofs.queues.Facts.{answered_other, granting_alone, is_other, release_begins, report_begins}
use Rattle.tl_concord.{proofs.Beats.same_c, proofs.Carried.carried-begun}

-- What a beat tells of a block is what the memory has, and what it says without telling is said by one who holds
-- neither
-- nothing, unless it stays so, nor Trunk.
pub record IsToldBy {w : ℕ} (memory : Memory) (block : ℕ) (x : Beat w) (past : History w) : Type 0 where
  pub told : tells_late block x past ≡ true → (place : ℕ) → place < 64
      → could_be (memory (64 * block + place)) (carried_byte (x ∷ unfinished (channel_of x) past) place) ≡ true
  pub untold : (p : Perm) → ends x past ≡ true → says_held block x past ≡ Some p → tells_late block x past ≡ false
      → (held block past ≡ Perm.None → p ≡ Perm.None) × (same_perm (held block past) Perm.Trunk ≡ false)

-- A beat of a report of this block: it carries data exactly if its link holds Trunk, by what was delivered, and no Grant
-- of the block is on its way there.
pub record IsReport {w : ℕ} (config : Config) (log : Log w) (c : ℕ) (y : BeatC w) : Type 0 where
  pub number : ℕ
  pub of_block : block_at y.address ≡ number
  pub carries : c_carries_data y.opcode ≡ same_perm (held number (flow c log)) Perm.Trunk
  pub ungranted : is_granting (view ((shadow config log).state.block number).service c) ≡ false
  -- its place in the burst is within the block
  pub within : w * length (unfinished Channel.C (flow c log)) + w ≤ 64

-- the beats of a message are within a block
beats-fit : (w size : ℕ) → IsWidth w → size ≤ 6 → w * data_beats w size ≤ 64
beats-fit w size width small = elim width [
  | inl is ↦ rw is (four size small)
  | inr more ↦ elim more [
    | inl is ↦ rw is (eight size small)
    | inr is ↦ rw is (sixteen size small)
  ]
]
  where
    four : (n : ℕ) → n ≤ 6 → 4 * data_beats 4 n ≤ 64
    four zero le = omega arith
    four (suc zero) le = omega arith
    four (suc (suc zero)) le = omega arith
    four (suc (suc (suc zero))) le = omega arith
    four (suc (suc (suc (suc zero)))) le = omega arith
    four (suc (suc (suc (suc (suc zero))))) le = omega arith
    four (suc (suc (suc (suc (suc (suc zero)))))) le = omega arith
    four (suc (suc (suc (suc (suc (suc (suc n))))))) le = absurd (omega arith)

    eight : (n : ℕ) → n ≤ 6 → 8 * data_beats 8 n ≤ 64
    eight zero le = omega arith
    eight (suc zero) le = omega arith
    eight (suc (suc zero)) le = omega arith
    eight (suc (suc (suc zero))) le = omega arith
    eight (suc (suc (suc (suc zero)))) le = omega arith
    eight (suc (suc (suc (suc (suc zero))))) le = omega arith
    eight (suc (suc (suc (suc (suc (suc zero)))))) le = omega arith
    eight (suc (suc (suc (suc (suc (suc (suc n))))))) le = absurd (omega arith)

    sixteen : (n : ℕ) → n ≤ 6 → 16 * data_beats 16 n ≤ 64
    sixteen zero le = omega arith
    sixteen (suc zero) le = omega arith
    sixteen (suc (suc zero)) le = omega arith
    sixteen (suc (suc (suc zero))) le = omega arith
    sixteen (suc (suc (suc (suc zero)))) le = omega arith
    sixteen (suc (suc (suc (suc (suc zero))))) le = omega arith
    sixteen (suc (suc (suc (suc (suc (suc zero)))))) le = omega arith
    sixteen (suc (suc (suc (suc (suc (suc (suc n))))))) le = absurd (omega arith)

message-fits : {w : ℕ} (m : MessageC w) → IsWidth w → w * beats_of (Message.C m) ≤ 64
message-fits {w} m width = go (c_carries_data m.opcode)
  where
    one : w * 1 ≤ 64
    one = elim width [ inl is ↦ rw is (lit≤ tt) | inr more ↦ elim more [ inl is ↦ rw is (lit≤ tt) | inr is ↦ rw is (lit≤ tt) ] ]

    go : (b : Bool) → w * (if b then data_beats w m.size else 1) ≤ 64
    go true = beats-fit w m.size width m.small
    go false = one

place-fits : (w k beats : ℕ) → k < beats → w * beats ≤ 64 → w * k + w ≤ 64
place-fits w k beats lt fit =
    let more = mul-le-mul_left w lt in
    let next : w * suc k ≡ w * k + w = omega arith in
    omega (arith, more, next, fit)

report_none : (r : Report) → report_left r ≡ Perm.None → reported (report_code r) ≡ Perm.None
report_none Report.NtoN e = refl
report_none v e = absurd cc

prune_none : (r : Prune) → prune_left r ≡ Perm.None → reported (prune_code r) ≡ Perm.None
prune_none Prune.TtoB e = absurd cc
prune_none v e = absurd cc

other_ungranted : (v : View) → is_other v ≡ true → is_granting v ≡ false
other_ungranted (Other k) e = refl
other_ungranted v e = absurd cc

same_said : (p q : Perm) → Some p ≡ Some q → q ≡ p
same_said p q e = cc

pub said_of : (here : Bool) (p q : Perm) → (if here then Some p else None) ≡ Some q → (here ≡ true) × (q ≡ p)
said_of true p q e = (refl, same_said p q e)
said_of false p q e = absurd cc

module _ {w : ℕ} (config : Config) (log : Log w) (given : IsGiven config log) (c : ℕ) (y : BeatC w)
    (queue : List (Beat w)) (beats : (system_after config log).channels c Channel.C ≡ Beat.C y ∷ queue) where
  abbrev h : AbstractState w
  h = shadow config log

  is : SimulationRelation config log h.mail h.request h.state (system_after config log)
  is = matched-given config log given

  values : MonitorRelations log h.mail h.state (system_after config log)
  values = flowed config log given.width given.typed given.is_log

  abbrev memory : Memory
  memory = (one_memory_after config log).memory

  -- of a message about a block
  about : (block n : ℕ) (b : Bool) (param : ℕ) (left : Perm) (m : MessageC w)
      → IsAbout b n param (same_perm left Perm.Trunk) (h.state.block n).truth m → (k : ℕ)
      → Beat.C y ≡ beat_of (Message.C m) k → unfinished Channel.C (on_link c (system_after config log).manager.trace)
      ≡ begun (Message.C m) k → is_granting (view (h.state.block n).service c) ≡ false
      → same_perm left ((h.state.block n).pair c).recorded ≡ true → (left ≡ Perm.None → reported param ≡ Perm.None)
      → IsToldBy memory block (Beat.C y) (flow c log)
  about block n b param left m says k beat_is rest_is ungranted begins falls = record { told = told; untold = untold }
    where
      past : History w
      past = flow c log

      same : y ≡ c_beat_of m k
      same = same_c y (c_beat_of m k) beat_is

      of_block : block_at y.address ≡ n
      of_block = ap (λ (z : BeatC w). block_at z.address) same ∙ says.block

      carries : c_carries_data y.opcode ≡ same_perm left Perm.Trunk
      carries = ap (λ (z : BeatC w). c_carries_data z.opcode) same ∙ says.carries_is

      burst : Beat.C y ∷ unfinished Channel.C past ≡ begun (Message.C m) (suc k)
      burst = ap (λ (r : List (Beat w)). Beat.C y ∷ r) ((values c).rest_is Channel.C ∙ rest_is)
          ∙ ap (λ (z : Beat w). z ∷ begun (Message.C m) k) beat_is

      told : tells_late block (Beat.C y) past ≡ true → (place : ℕ) → place < 64
          → could_be (memory (64 * block + place)) (carried_byte (Beat.C y ∷ unfinished Channel.C past) place) ≡ true
      told e place lt =
          rw (burst, ← here, is.beside.memory n place lt, ← says.payload_is (sym carries ∙ with_data))
          (carried-begun (Message.C m) (c_carries_data m.opcode) m.payload (λ i. refl) (suc k) place)
        where
          parts : (c_carries_data y.opcode && (block_at y.address == block)) ≡ true
          parts = and_right (ends (Beat.C y) past) _ e

          with_data : c_carries_data y.opcode ≡ true
          with_data = and_left (c_carries_data y.opcode) (block_at y.address == block) parts

          here : n ≡ block
          here = sym of_block ∙ eqb-true (block_at y.address) block
              (and_right (c_carries_data y.opcode) (block_at y.address == block) parts)

      untold : (p : Perm) → ends (Beat.C y) past ≡ true → says_held block (Beat.C y) past ≡ Some p
          → tells_late block (Beat.C y) past ≡ false
          → (held block past ≡ Perm.None → p ≡ Perm.None) × (same_perm (held block past) Perm.Trunk ≡ false)
      untold p last said e = (
        λ none. said_it.1 ∙ ap (λ (z : BeatC w). reported z.param) same ∙ ap reported says.param_is
            ∙ falls (sym held_is ∙ none),
        ap (λ (q : Perm). same_perm q Perm.Trunk) held_is ∙ sym carries ∙ bare,
      )
        where
          said_it : ((is_probe_ack y.opcode || is_release y.opcode) && (block_at y.address == block) ≡ true)
              × (p ≡ reported y.param)
          said_it = said_of ((is_probe_ack y.opcode || is_release y.opcode) && (block_at y.address == block))
              (reported y.param) p said

          at : (block_at y.address == block) ≡ true
          at = and_right (is_probe_ack y.opcode || is_release y.opcode) (block_at y.address == block) said_it.0

          held_is : held block past ≡ left
          held_is = ap (λ (i : ℕ). held i past) (sym (sym of_block ∙ eqb-true (block_at y.address) block at))
              ∙ (values c).held_is n ∙ rw ungranted (same_perms left ((h.state.block n).pair c).recorded begins)

          bare : c_carries_data y.opcode ≡ false
          bare = go (c_carries_data y.opcode) refl
            where
              go : (d : Bool) → c_carries_data y.opcode ≡ d → d ≡ false
              go false f = refl
              go true f = absurd (let no : true ≡ false = sym (rw (last, f, at) refl) ∙ e in cc)

  -- a message about a block, of which the beat is the next one
  record IsOfMessage : Type 0 where
    n : ℕ
    b : Bool
    param : ℕ
    left : Perm
    m : MessageC w
    says : IsAbout b n param (same_perm left Perm.Trunk) (h.state.block n).truth m
    k : ℕ
    lt : k < beats_of (Message.C m)
    beat_is : Beat.C y ≡ beat_of (Message.C m) k
    rest_is : unfinished Channel.C (on_link c (system_after config log).manager.trace) ≡ begun (Message.C m) k
    ungranted : is_granting (view (h.state.block n).service c) ≡ false
    begins : same_perm left ((h.state.block n).pair c).recorded ≡ true
    falls : left ≡ Perm.None → reported param ≡ Perm.None

  of-message : IsOfMessage
  of-message = by-first_c (λ i. IsOfMessage) c h.mail h.state (system_after config log) (Beat.C y) queue
      (first-token (is_caching config) Channel.C c h.mail h.state (system_after config log) (Beat.C y) queue given.width
      is.invariant is.carried beats) report release
    where
      report : (n : ℕ) (rest : List Packet) → (h.state.link c).c ≡ packet ProbeAck n ∷ rest
          → (next : IsNext (Beat.C y) (unfinished Channel.C (on_link c (system_after config log).manager.trace))
          (block_message ProbeAck c n (h.state.block n)) (map (message_of h.mail h.state c) rest) queue)
          → IsOfMessage
      report n rest tokens next =
          let m = report_rendered c n (h.state.block n) given.width (is.sized n).truth in
          record {
            n = n;
            b = true;
            param = _;
            left = report_left r;
            m = m.0;
            says = m.2;
            k = next.k;
            lt = subst (λ (z : Message w). next.k < beats_of z) m.1 next.within;
            beat_is = next.beat_is ∙ ap (λ (z : Message w). beat_of z next.k) m.1;
            rest_is = next.rest_is ∙ ap (λ (z : Message w). begun z next.k) m.1;
            ungranted =
                other_ungranted (view b.service c) (answered_other r (b.pair c) (view b.service c) ok_is answered);
            begins = report_begins r (b.pair c) (view b.service c) ok_is answered;
            falls = report_none r;
          }
        where
          b : Block (List ℕ)
          b = h.state.block n

          r : Report
          r = report_told (b.pair c).probing

          ok_is : ok (b.pair c) (view b.service c) ≡ true
          ok_is = (is.invariant.blocks n).phases c

          answered : (b.pair c).probing ≡ ProbeAnswered r
          answered = answered-is (b.pair c).probing (holds-first ProbeAck (h.state.link c).c rest (packet ProbeAck n)
              (λ i. shown ProbeAck c (h.state.block i)) tokens refl (is.invariant.transfers c ProbeAck refl))

      release : (n : ℕ) (rest : List Packet) → (h.state.link c).c ≡ packet Release n ∷ rest
          → (next : IsNext (Beat.C y) (unfinished Channel.C (on_link c (system_after config log).manager.trace))
          (block_message Release c n (h.state.block n)) (map (message_of h.mail h.state c) rest) queue)
          → IsOfMessage
      release n rest tokens next =
          let m = release_rendered c n (h.state.block n) given.width (is.sized n).truth in
          record {
            n = n;
            b = false;
            param = _;
            left = prune_left r;
            m = m.0;
            says = m.2;
            k = next.k;
            lt = subst (λ (z : Message w). next.k < beats_of z) m.1 next.within;
            beat_is = next.beat_is ∙ ap (λ (z : Message w). beat_of z next.k) m.1;
            rest_is = next.rest_is ∙ ap (λ (z : Message w). begun z next.k) m.1;
            ungranted = ungranted (view b.service c) refl;
            begins = release_begins r (b.pair c) (view b.service c) ok_is releasing
                (unanswered (is_caching config) c n rest h.state is.invariant tokens);
            falls = prune_none r;
          }
        where
          b : Block (List ℕ)
          b = h.state.block n

          r : Prune
          r = prune_told (b.pair c).letting

          ok_is : ok (b.pair c) (view b.service c) ≡ true
          ok_is = (is.invariant.blocks n).phases c

          releasing : (b.pair c).letting ≡ ReleaseSent r
          releasing = releasing-is (b.pair c).letting (holds-first Release (h.state.link c).c rest (packet Release n)
              (λ i. shown Release c (h.state.block i)) tokens refl (is.invariant.transfers c Release refl))

          ungranted : (v : View) → view b.service c ≡ v → is_granting v ≡ false
          ungranted (Granting d k) f =
              let alone = granting_alone d k (b.pair c) (view b.service c) ok_is f in
              let held_back : is_unreleased (b.pair c).letting ≡ true =
              and_left (is_unreleased (b.pair c).letting) _ (and_right (is_unprobed (b.pair c).probing) _ alone) in
              absurd (let no : false ≡ true = rw releasing at held_back in cc)
          ungranted v f = refl

  pub report-told : (block : ℕ) → IsToldBy memory block (Beat.C y) (flow c log)
  report-told block =
      let it = of-message in
      about block it.n it.b it.param it.left it.m it.says it.k it.beat_is it.rest_is it.ungranted it.begins it.falls

  pub report-is : IsReport config log c y
  report-is =
      let it = of-message in
      let same : y ≡ c_beat_of it.m it.k = same_c y (c_beat_of it.m it.k) it.beat_is in
      let held_is : held it.n (flow c log) ≡ it.left = (values c).held_is it.n
      ∙ rw it.ungranted (same_perms it.left ((h.state.block it.n).pair c).recorded it.begins) in
      record {
        number = it.n;
        of_block = ap (λ (z : BeatC w). block_at z.address) same ∙ it.says.block;
        carries = ap (λ (z : BeatC w). c_carries_data z.opcode) same ∙ it.says.carries_is
            ∙ ap (λ (p : Perm). same_perm p Perm.Trunk) (sym held_is);
        ungranted = it.ungranted;
        within = rw ((values c).rest_is Channel.C ∙ it.rest_is, length-begun (Message.C it.m) it.k)
            (place-fits w it.k (beats_of (Message.C it.m)) it.lt (message-fits it.m given.width));
      }
