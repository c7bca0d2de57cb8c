-- An operation ends with the last beat of its response, and with no other.
use Rattle.tl_true_bytes.proofs.Imports.{Beat, BeatD, Link, Channel, channel_of, unfinished, Config, on_link, ends}
use Rattle.tl_true_bytes.proofs.Imports.{is_release_ack, Finish, EndConfig, Deliver, MonitorRelations}
use Rattle.tl_true_bytes.proofs.Imports.{SimulationRelation, trace_of, IsGiven, Log, system_after, Requests, pool_of}
use Rattle.tl_true_bytes.proofs.Imports.{stepped, shadow, trace-flows, flowed, matched-given, Outcome}
use Rattle.std.proofs.Common.{◌≡◌, ℕ, Bool, true, false, List, ◌∷◌, Some, refl, sym, ◌∙◌, ap}
use Rattle.std.specs.Prelude.{if◌then◌else◌}
use Rattle.tl_burst.{specs.statement.Burst.d_beat_of, specs.statement.Part.completes}
use Rattle.tl_client.specs.declared.verdict.Verdict.{Verdict}
use Rattle.tl_client.specs.statement.Offer as offer
use Rattle.tl_coherence.specs.{statement.Draining.is_moving, statement.Machine.Releases, statement.System.terms_at}
use Rattle.tl_coherence.specs.statement.Step.{Step, is_to_client, outcome_of}
use Rattle.tl_coherence.proofs.client.DeliverD.{acked, answer-last, finish-pool, finish_at, same_answers}
use Rattle.tl_coherence.proofs.{links.Ending.IsEnding, links.Ending.ending, links.HeadsOfLinks.first-of}
use Rattle.tl_coherence.proofs.{outstanding.Outstanding.first-moved, simulation.Moved.client-moves}
use Rattle.tl_coherence.proofs.{simulation.Moved.manager-moves}

-- the beat is the last of the response to an operation, whose source it has
pub record IsLast {w : ℕ} (link : Link) (x : Beat w) (source : ℕ) (f : Finish) (log : Log w) : Type 0 where
  pub last : BeatD w
  pub beat_is : x ≡ Beat.D last
  pub source_is : source ≡ last.source
  pub ends_so : ends (Beat.D last) (on_link link.0 (trace_of log)) ≡ true
  pub pool_is : pool_of f ≡ (if is_release_ack last.opcode then Releases else Requests)

moved_of : {w : ℕ} (x y : Beat w) (v : Verdict) → Outcome.Moved x ≡ outcome_of y v → x ≡ y
moved_of x y Verdict.Stalled e = cc
moved_of x y v e = cc

module _ {w : ℕ} (config : Config) (log : Log w) (given : IsGiven config log) (link : Link) where
  is : SimulationRelation config log (shadow config log).mail (shadow config log).request (shadow config log).state
      (system_after config log)
  is = matched-given config log given

  values : MonitorRelations log (shadow config log).mail (shadow config log).state (system_after config log)
  values = flowed config log given.width given.typed given.is_log

  -- what has come of a response, by the trace and by the client
  rest_is : unfinished Channel.D (on_link link.0 (trace_of log))
      ≡ unfinished Channel.D ((system_after config log).clients link.0).past
  rest_is = ap (unfinished Channel.D) (trace-flows link.0 log) ∙ (values link.0).rest_is Channel.D

  pub done-last : (ch : Channel) (x : Beat w) (source : ℕ) (f : Finish)
      → (stepped config (Deliver link ch) (system_after config log)).outcome ≡ Outcome.Done x source f
      → IsLast link x source f log
  done-last ch x source f done = record {
    last = d_beat_of end.response end.first.next.k;
    beat_is = end.beat_is;
    source_is = end.source_is;
    ends_so = ap (completes (Beat.D (d_beat_of end.response end.first.next.k))) rest_is
        ∙ sym (ap (λ (y : Beat w). completes y (unfinished Channel.D ((system_after config log).clients link.0).past))
        end.beat_is) ∙ end.last;
    pool_is = ap pool_of end.finish_is ∙ finish-pool w _ _ _ _ _;
  }
    where
      end : IsEnding config log link ch (shadow config log) x source f
      end = ending config log link ch (shadow config log) x source f given.width is done

  -- a response that goes on ends nothing
  pub moved-part : (ch : Channel) (x : Beat w) (z : BeatD w)
      → (stepped config (Deliver link ch) (system_after config log)).outcome ≡ Outcome.Moved x → x ≡ Beat.D z
      → ends (Beat.D z) (on_link link.0 (trace_of log)) ≡ false
  moved-part ch x z moved x_is = at_channel ch on at.3.0 moved
    where
      moving : is_moving (stepped config (Deliver link ch) (system_after config log)).outcome ≡ true
      moving = ap is_moving moved

      at : (y : Beat w) × (queue : List (Beat w)) × (terms : EndConfig)
          × (((system_after config log).channels link.0 ch ≡ y ∷ queue) × (terms_at config link.0 ≡ Some terms))
      at = first-moved config link ch (system_after config log) moving

      on : channel_of at.0 ≡ ch
      on = (first-of config log (shadow config log) link.0 at.2 ch at.0 at.1 given.width is at.3.1 at.3.0).on

      -- the beat is the one that was first
      same : (b : Bool) → is_to_client ch ≡ b → x ≡ at.0
      same true theirs =
          let t = client-moves config link ch (system_after config log) at.2 at.0 at.1 at.3.1 at.3.0 theirs moving in
          moved_of x at.0 t.verdict_is (sym moved ∙ ap (λ (s : Step w). s.outcome) t.step_is)
      same false theirs =
          let t = manager-moves config link ch (system_after config log) at.2 at.0 at.1 at.3.1 at.3.0 theirs moving in
          moved_of x at.0 Verdict.Taken (sym moved ∙ ap (λ (s : Step w). s.outcome) t.step_is)

      first_is : at.0 ≡ Beat.D z
      first_is = sym (same (is_to_client ch) refl) ∙ x_is

      -- so it would have ended
      part : (b : Bool) → ends (Beat.D z) ((system_after config log).clients link.0).past ≡ b
          → (system_after config log).channels link.0 Channel.D ≡ at.0 ∷ at.1
          → (stepped config (Deliver link Channel.D) (system_after config log)).outcome ≡ Outcome.Moved x → b ≡ false
      part false e beats o = refl
      part true e beats o =
          let t = client-moves config link Channel.D (system_after config log) at.2 at.0 at.1 at.3.1 beats refl
          (ap is_moving o) in
          let answers = same_answers t.verdict_is
          (Verdict.Done z.source (finish_at z ((system_after config log).clients link.0))) t.message
          (acked z.opcode z.sink) (offer.taken at.0 ((system_after config log).clients link.0)).answer t.answer
          (ap (λ (y : Beat w). (offer.taken y ((system_after config log).clients link.0)).answer) first_is
          ∙ answer-last z ((system_after config log).clients link.0) e) in
          let no : Outcome.Moved x ≡ Outcome.Done at.0 z.source
          (finish_at z ((system_after config log).clients link.0)) =
          sym o ∙ ap (λ (s : Step w). s.outcome) t.step_is ∙ ap (outcome_of at.0) answers.0 in
          absurd cc

      whole : (b : Bool) → ends (Beat.D z) ((system_after config log).clients link.0).past ≡ b → b ≡ false
          → ends (Beat.D z) (on_link link.0 (trace_of log)) ≡ false
      whole b e f = ap (completes (Beat.D z)) rest_is ∙ e ∙ f

      at_channel : (k : Channel) → channel_of at.0 ≡ k → (system_after config log).channels link.0 k ≡ at.0 ∷ at.1
          → (stepped config (Deliver link k) (system_after config log)).outcome ≡ Outcome.Moved x
          → ends (Beat.D z) (on_link link.0 (trace_of log)) ≡ false
      at_channel Channel.D on_d beats o =
          whole (ends (Beat.D z) ((system_after config log).clients link.0).past) refl
          (part (ends (Beat.D z) ((system_after config log).clients link.0).past) refl beats o)
      at_channel Channel.A on_a beats o =
          absurd (let no : Channel.D ≡ Channel.A = sym (ap channel_of first_is) ∙ on_a in
          cc)
      at_channel Channel.B on_b beats o =
          absurd (let no : Channel.D ≡ Channel.B = sym (ap channel_of first_is) ∙ on_b in
          cc)
      at_channel Channel.C on_c beats o =
          absurd (let no : Channel.D ≡ Channel.C = sym (ap channel_of first_is) ∙ on_c in
          cc)
      at_channel Channel.E on_e beats o =
          absurd (let no : Channel.D ≡ Channel.E = sym (ap channel_of first_is) ∙ on_e in
          cc)
