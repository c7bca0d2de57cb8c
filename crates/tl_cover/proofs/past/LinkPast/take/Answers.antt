use Rattle.std.proofs.Common.{ap, refl, ◌∙◌}
use Rattle.std.specs.Prelude.{◌&&◌, Some}
use Rattle.std.proofs.lemmas.Result.{on_ok_weaker}
use Rattle.tl_params.specs.declared.key.Key.TheVariants.{AcquireOf, ReleaseOf}
use Rattle.tl_cover.proofs.Pasts.{list_taken, past_taken}
use Rattle.tl_cover.proofs.past.LinkPast.take.Goals as goal

pub returns : goal.returns
returns g c = on_ok_weaker c.note_all.result (λ noted. record {
  past = λ h had begun complete.
      let x = c.args.beat.now in
      let first = c.is_some-first.result in
      let begins = c.is_some-first.ensures ∙ begun in
      past_taken _ _ x h first c.args.last c.granted-granted.result begins complete had
      c.note_request.ensures c.note_release.ensures
      (list_taken x h first c.args.last begins complete AcquireOf _ _ c.acquired.result c.only_if.result
      c.in_ok-turn.ensures (λ k. c.acquired.ensures k h)
      (λ k. c.only_if.ensures k ∙ ap (λ b. c.args.last && b) (c.granted-granted.ensures k h had)) had.acquires_are)
      (list_taken x h first c.args.last begins complete ReleaseOf _ _ c.released.result c.only_if-2.result
      c.in_ok-turn-2.ensures (λ k. c.released.ensures k h)
      (λ k. c.only_if-2.ensures k ∙ ap (λ b. c.args.last && b) (c.release_acknowledged-answered.ensures k h had))
      had.releases_are)
      (λ k. c.granted-granted.ensures k h had) c.in_ok-note_grant.ensures c.note_sink.ensures c.take.ensures
      (ap Some c.control.ensures) c.with-self.ensures;
  probes = λ k h. rw (← c.is_some-first.ensures) (c.in_ok-note_probe.ensures.found k h);
  apart = c.in_ok-note_probe.ensures.apart;
  rows = noted;
  level = refl;
}) c.note_all.ensures
