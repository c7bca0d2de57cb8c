use Rattle.std.{proofs.Common.ap, proofs.Common.sym, proofs.Common.◌∙◌, proofs.lemmas.List.append-nil}
use Rattle.tl_bytes.{specs.code.Tellings.displaced, proofs.Told.one-displaced, proofs.Told.one-stays}
use Rattle.tl_bytes.proofs.tellings.displace.Goals as goal
use Rattle.tl_bytes.proofs.tellings.displace.Goals.{then-is_displaced+in_ok-push, else-is_displaced}

pub loop-place-init : goal.loop-place-init
unfolding displaced
loop-place-init c = sym (append-nil c.args.told.now.items)

pub loop-place-preserved : goal.loop-place-preserved
loop-place-preserved c = elim c.if-is_displaced.branch [
  | then-is_displaced+in_ok-push w ↦ ap (λ v. v.items) w.told-is ∙ w.in_ok-push.ensures.items ∙ rw c.at.ensures
      (one-displaced c.args.write.now c.args.since c.args.latest.now c.loop-place.place c.loop-place.told.items
      c.args.told.now.items c.loop-place.invariant
      (rw c.at.ensures at (sym c.is_displaced.ensures ∙ w.if-is_displaced.true)))
  | else-is_displaced w ↦ ap (λ v. v.items) w.told-is ∙ one-stays c.args.write.now c.args.since c.args.latest.now
      c.loop-place.place c.loop-place.told.items c.args.told.now.items c.loop-place.invariant
      (rw c.at.ensures at (sym c.is_displaced.ensures ∙ w.if-is_displaced.false))
]
