-- A client that holds Trunk of a block may store to it, and one that holds a permission may load from it, by the beats
-- that its link has carried.
use Rattle.std.proofs.Common.{◌≡◌, ℕ, zero, suc, ◌<◌, Bool, true, false, not, ◌&&◌, List, ◌∷◌}
use Rattle.std.proofs.Common.{length, refl, sym, ◌∙◌, ap, ne_eqb, None, Some}
use Rattle.std.specs.Prelude.{if◌then◌else◌, Option, slice_get}
use Rattle.std.proofs.lemmas.Option.{slice_get-map}
use Rattle.tl_beat.specs.declared.beat.Beat.{Beat}
use Rattle.tl_beat.specs.declared.channel.Channel.{Channel}
use Rattle.tl_beat.specs.declared.opcode.OpB.{OpB}
use Rattle.tl_beat.specs.declared.opcode.OpC.{OpC}
use Rattle.tl_burst.specs.statement.Burst.{begun}
use Rattle.tl_burst.specs.statement.Messages.{History}
unfoldable use Rattle.tl_burst.specs.statement.Messages.{unfinished}
use Rattle.tl_params.specs.declared.config.Config.{Config}
use Rattle.tl_params.specs.declared.level.Level.{Level}
use Rattle.tl_params.specs.declared.param.Prune.{Prune}
use Rattle.tl_params.specs.declared.param.Report.{Report}
use Rattle.tl_params.specs.declared.perm.Perm.{Perm}
use Rattle.tl_params.specs.statement.Param.{prune_code, report_code}
use Rattle.tl_rules.specs.statement.Conformance.{same_perm}
unfoldable use Rattle.tl_rules.specs.statement.Conformance.{on_link}
use Rattle.tl_rules.specs.statement.History.{grants}
unfoldable use Rattle.tl_rules.specs.statement.History.{held}
use Rattle.tl_rules.specs.statement.Windows.{leaves}
unfoldable use Rattle.tl_rules.specs.statement.Windows.{is_free}
use Rattle.tl_bytes.specs.statement.Free.{may_hold}
use Rattle.tl_client.specs.statement.Endpoint.{zeros}
use Rattle.tl_client.specs.statement.Send.{on_c, probe_ack, release}
use Rattle.tl_client.proofs.endpoint.HeldAfter.{same_block}
use Rattle.tl_manager.specs.statement.Offer.{level_of}
use Rattle.tl_coherence.specs.protocol.Packet.{Kind, Packet, ProbeAck, Release}
use Rattle.tl_coherence.specs.protocol.Phase.{ClientBlock, View, ok}
use Rattle.tl_coherence.specs.protocol.Invariant.{resting}
use Rattle.tl_coherence.specs.protocol.Protocol.{is_on, packet, view}
use Rattle.tl_coherence.specs.protocol.Tokens.{is_answered, is_granting, is_releasing}
use Rattle.tl_coherence.specs.refinement.AbstractStep.{AbstractState}
use Rattle.tl_coherence.specs.refinement.PacketMessages.{message_of_kind}
unfoldable use Rattle.tl_coherence.specs.refinement.PacketMessages.{block_message}
use Rattle.tl_coherence.specs.refinement.SimulationRelation.{MonitorRelations, SimulationRelation, is_caching}
use Rattle.tl_coherence.specs.statement.Delivery.{levels_of}
use Rattle.tl_coherence.specs.statement.Headline.{IsGiven}
unfoldable use Rattle.tl_coherence.specs.statement.Flow.{trace_of}
use Rattle.tl_coherence.specs.statement.Log.{Log}
unfoldable use Rattle.tl_coherence.specs.statement.Log.{system_after}
use Rattle.tl_coherence.specs.statement.Permissions.{perm_le}
use Rattle.tl_coherence.proofs.client.HalfTaken.{half-taken}
use Rattle.tl_coherence.proofs.deliveries.Matching.{shadow}
use Rattle.tl_coherence.proofs.flow.FlowBeats.{same_perms}
use Rattle.tl_coherence.proofs.flow.FlowTraces.{trace-flows}
use Rattle.tl_coherence.proofs.flow.Flows.{flowed}
use Rattle.tl_coherence.proofs.links.FromInvariant.{matched-given}
use Rattle.tl_coherence.proofs.protocol.BothParts.{first-shown}
use Rattle.tl_coherence.proofs.queues.Facts.{held_at_most}
use Rattle.tl_coherence.proofs.queues.Phases.{and_left, and_right, each_phase, implies, implies_is, of_phase}
use Rattle.tl_concord.proofs.Alike.{held-world}
use Rattle.tl_concord.proofs.Responses.{responses}
use Rattle.tl_commits.specs.statement.Breaches.{has_cache}
use Rattle.tl_commits.specs.statement.Copies.{is_filled_by, is_filling, is_given_by, is_giving, may_store}

-- ---- the phases in which a client holds Trunk

-- Trunk is recorded, no Grant is on its way, and nothing of the block is on channel C
quiet_test : ClientBlock → View → Bool
quiet_test p v = implies (same_perm p.held Perm.Trunk) (same_perm p.recorded Perm.Trunk
    && (not (is_granting v) && (not (is_answered p.probing) && not (is_releasing p.letting))))

quiet_all : each_phase quiet_test ≡ true
unfolding each_phase quiet_test
quiet_all = refl

pub record IsQuiet (p : ClientBlock) (v : View) : Type 0 where
  pub recorded : p.recorded ≡ Perm.Trunk
  pub ungranted : is_granting v ≡ false
  pub unanswered : is_answered p.probing ≡ false
  pub unreleased : is_releasing p.letting ≡ false

off : (b : Bool) → not b ≡ true → b ≡ false
off true e = absurd cc
off false e = refl

quiet : (p : ClientBlock) (v : View) → ok p v ≡ true → p.held ≡ Perm.Trunk → IsQuiet p v
unfolding quiet_test
quiet p v well trunk =
    let all = implies_is (same_perm p.held Perm.Trunk) (same_perm p.recorded Perm.Trunk && (not (is_granting v)
    && (not (is_answered p.probing) && not (is_releasing p.letting)))) (of_phase quiet_test quiet_all p v well)
    (ap (λ (q : Perm). same_perm q Perm.Trunk) trunk) in
    let more = and_right (same_perm p.recorded Perm.Trunk) _ all in
    let both = and_right (not (is_granting v)) _ more in
    record {
      recorded = sym (same_perms p.recorded Perm.Trunk (and_left (same_perm p.recorded Perm.Trunk) _ all));
      ungranted = off (is_granting v) (and_left (not (is_granting v)) _ more);
      unanswered = off (is_answered p.probing) (and_left (not (is_answered p.probing)) _ both);
      unreleased = off (is_releasing p.letting) (and_right (not (is_answered p.probing)) _ both);
    }

-- ---- a report on channel C

-- the beats of a message about another block give nothing of this one back
other-given : {w : ℕ} (opcode : OpC) (param source i n j : ℕ) (bytes : List ℕ) (past : History w) → (i ≡ n → ⊥)
    → is_given_by n (begun (on_c {w = w} opcode param source i bytes) j) past ≡ false
other-given opcode param source i n zero bytes past other = refl
other-given opcode param source i n (suc j) bytes past other = rw (same_block i, ne_eqb i n other) refl

ack-given : {w : ℕ} (p : Perm) (r : Report) (i n j : ℕ) (bytes : List ℕ) (past : History w) → (i ≡ n → ⊥)
    → is_given_by n (begun (probe_ack {w = w} OpB.ProbeBlock p r i bytes) j) past ≡ false
ack-given Perm.Trunk r i n j bytes past other = other-given OpC.ProbeAckData (report_code r) 0 i n j bytes past other
ack-given Perm.Branch r i n j bytes past other = other-given OpC.ProbeAck (report_code r) 0 i n j zeros past other
ack-given Perm.None r i n j bytes past other = other-given OpC.ProbeAck (report_code r) 0 i n j zeros past other

release-given : {w : ℕ} (r : Prune) (source i n j : ℕ) (bytes : List ℕ) (past : History w) → (i ≡ n → ⊥)
    → is_given_by n (begun (release {w = w} r source i bytes) j) past ≡ false
release-given Prune.TtoB source i n j bytes past other =
    other-given OpC.ReleaseData (prune_code Prune.TtoB) source i n j bytes past other
release-given Prune.TtoN source i n j bytes past other =
    other-given OpC.ReleaseData (prune_code Prune.TtoN) source i n j bytes past other
release-given Prune.BtoN source i n j bytes past other =
    other-given OpC.Release (prune_code Prune.BtoN) source i n j zeros past other

-- ---- what is held by the beats

held-some : (b : Bool) (p q : Perm) → perm_le p q ≡ true → same_perm p Perm.None ≡ false
    → not (same_perm (if b then p else q) Perm.None) ≡ true
held-some true p q le some = rw some refl
held-some false Perm.None q le some = absurd cc
held-some false Perm.Branch Perm.None le some = absurd cc
held-some false Perm.Branch Perm.Branch le some = refl
held-some false Perm.Branch Perm.Trunk le some = refl
held-some false Perm.Trunk Perm.None le some = absurd cc
held-some false Perm.Trunk Perm.Branch le some = absurd cc
held-some false Perm.Trunk Perm.Trunk le some = refl

-- what a client holds of a block, by the protocol's state
abbrev pub kept_of : {w : ℕ} → Config → Log w → ℕ → ℕ → ClientBlock
kept_of config log c n = ((shadow config log).state.block n).pair c

module _ {w : ℕ} (config : Config) (log : Log w) (given : IsGiven config log) (c n : ℕ) where
  abbrev h : AbstractState w
  h = shadow config log

  is : SimulationRelation config log h.mail h.request h.state (system_after config log)
  is = matched-given config log given

  values : MonitorRelations log h.mail h.state (system_after config log)
  values = flowed config log given.width given.typed given.is_log

  abbrev pair : ClientBlock
  pair = kept_of config log c n

  abbrev viewed : View
  viewed = view (h.state.block n).service c

  well : ok pair viewed ≡ true
  well = (is.invariant.blocks n).phases c

  -- the beats of the link
  abbrev past : History w
  past = on_link c (trace_of log)

  -- who holds something has a cache
  pub cached : same_perm pair.held Perm.None ≡ false → has_cache (slice_get (levels_of config) c) ≡ true
  cached some = rw (slice_get-map (λ k. k.level) config.clients.items c) (go (level_of config c) refl)
    where
      outside : is_caching config c ≡ false → pair ≡ resting
      outside e = (is.invariant.blocks n).outside c e

      no : is_caching config c ≡ false → ⊥
      no e = let none : true ≡ false = sym (ap (λ (p : ClientBlock). same_perm p.held Perm.None) (outside e)) ∙ some in
          cc

      go : (o : Option Level) → level_of config c ≡ o → has_cache o ≡ true
      go (Some Level.C) e = refl
      go (Some Level.UL) e = absurd (no (rw e refl))
      go (Some Level.UH) e = absurd (no (rw e refl))
      go None e = absurd (no (rw e refl))

  module _ (client : c < length config.clients.items) where
    may_hold-is : may_hold n past ≡ (if is_granting viewed then pair.held else pair.recorded)
    may_hold-is = held-world log given c n client ∙ ap (held n) (trace-flows c log) ∙ (values c).held_is n

    -- who holds something holds it by what its link has carried
    pub holds-some : same_perm pair.held Perm.None ≡ false → same_perm (may_hold n past) Perm.None ≡ false
    holds-some some = off (same_perm (may_hold n past) Perm.None)
        (ap (λ (p : Perm). not (same_perm p Perm.None)) may_hold-is
        ∙ held-some (is_granting viewed) pair.held pair.recorded (held_at_most pair viewed well) some)

    module _ (trunk : pair.held ≡ Perm.Trunk) where
      calm : IsQuiet pair viewed
      calm = quiet pair viewed well trunk

      trunk-held : may_hold n past ≡ Perm.Trunk
      trunk-held = may_hold-is ∙ rw calm.ungranted calm.recorded

      -- no Grant of the block is under way
      unfilled : is_filling n past ≡ false
      unfolding is_free
      unfilled = go (unfinished Channel.D past) refl
        where
          by_link : held n past ≡ Perm.Trunk
          by_link = sym (held-world log given c n client) ∙ trunk-held

          last : (a : Bool) → (a && leaves Perm.Branch (held n past)) ≡ true → ⊥
          last a e = let no : false ≡ true = sym (ap (leaves Perm.Branch) by_link) ∙ and_right a _ e in cc

          unfree : is_free (suc c) None Perm.Branch n (trace_of log) ≡ true → ⊥
          unfree e = last (is_free c None Perm.Branch n (trace_of log)) e

          go : (beats : List (Beat w)) → unfinished Channel.D past ≡ beats → is_filled_by n beats past ≡ false
          go (Beat.D x ∷ older) e = of (grants n x past) refl
            where
              of : (b : Bool) → grants n x past ≡ b → b ≡ false
              of true g = absurd (unfree ((responses config log given).undisturbed c (suc c) n x older e g))
              of false g = refl
          go v e = refl

      -- nor is a report
      ungiven : is_giving n past ≡ false
      unfolding block_message
      ungiven = ap (λ (beats : List (Beat w)). is_given_by n beats past)
          (ap (unfinished Channel.C) (trace-flows c log) ∙ (values c).rest_is Channel.C)
          ∙ half-taken c Channel.C (λ beats. is_given_by n beats past ≡ false) is refl each
        where
          each : (k : Kind) (i : ℕ) (rest : List Packet) (j : ℕ) → (h.state.link c).c ≡ packet k i ∷ rest
              → is_on Channel.C k ≡ true
              → is_given_by n (begun (message_of_kind k h.mail h.state c i) j) past ≡ false
          each ProbeAck i rest j first own = ack-given _ _ i n j _ past (λ same.
              let shown = first-shown is.invariant c ProbeAck refl first in
              let no : true ≡ false = sym shown
              ∙ ap (λ m. is_answered (kept_of config log c m).probing) same ∙ calm.unanswered in
              cc)
          each Release i rest j first own = release-given _ _ i n j _ past (λ same.
              let shown = first-shown is.invariant c Release refl first in
              let no : true ≡ false = sym shown
              ∙ ap (λ m. is_releasing (kept_of config log c m).letting) same ∙ calm.unreleased in
              cc)
          each k i rest j first own = absurd cc

      pub may-store : may_store n past ≡ true
      may-store = rw (trunk-held, unfilled, ungiven) refl
