use Rattle.std.proofs.Common.{ap, sym, ◌∙◌}
use Rattle.std.proofs.lemmas.List.{append-nil}
use Rattle.tl_commits.specs.code.Tellings.{written}
use Rattle.tl_commits.proofs.TellingLists.{one-unwritten, one-written}
use Rattle.tl_commits.proofs.tellings.append_written.Goals as goal
use Rattle.tl_commits.proofs.tellings.append_written.Goals.{then-is_in+in_ok-push, else-is_in}

pub loop-place-init : goal.loop-place-init
unfolding written
loop-place-init c = sym (append-nil c.args.told.now.items)

pub loop-place-preserved : goal.loop-place-preserved
loop-place-preserved c = elim c.if-is_in.branch [
  | then-is_in+in_ok-push w ↦ ap (λ v. v.items) w.told-is ∙ w.in_ok-push.ensures.items
      ∙ one-written c.args.places.now c.args.write.now c.args.moment c.loop-place.place c.loop-place.told.items c.args.told.now.items
      w.written_there.result c.loop-place.invariant (sym c.is_in.ensures ∙ w.if-is_in.true) w.written_there.ensures
  | else-is_in w ↦ ap (λ v. v.items) w.told-is ∙ one-unwritten c.args.places.now c.args.write.now c.args.moment c.loop-place.place
      c.loop-place.told.items c.args.told.now.items c.loop-place.invariant (sym c.is_in.ensures ∙ w.if-is_in.false)
]
