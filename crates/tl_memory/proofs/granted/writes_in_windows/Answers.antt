use Rattle.std.proofs.Common.{rules, ap, true, false, ◌∙◌, ◌≡◌, ◌++◌, [], ◌∷◌}
use Rattle.std.proofs.lemmas.List.{take_all}
use Rattle.tl_memory.specs.code.Writers.{some_window, writes_windowed}
use Rattle.tl_memory.proofs.values.Writing.{none_yet, one_kept, one_left}
use Rattle.tl_memory.proofs.granted.writes_in_windows.Goals as goal
use Rattle.tl_memory.proofs.granted.writes_in_windows.Goals.{then-some_window+in_ok-push, else-some_window}

pub loop-access-init : goal.loop-access-init
loop-access-init g c = c.new-writes.ensures.items
    ∙ none_yet (λ x. some_window x.windows.count) (λ x. x.writer.write) c.args.accesses.now

pub loop-access-preserved : goal.loop-access-preserved
loop-access-preserved g c = elim c.if-some_window.branch [
  | then-some_window+in_ok-push w ↦
      let kept : some_window c.access-item.result.windows.count ≡ true = search rules in
      let pushed : c.if-some_window.writes.items
      ≡ c.loop-access.writes.items ++ c.access-item.result.writer.write ∷ [] = search rules in
      pushed ∙ ap (λ l. l ++ c.access-item.result.writer.write ∷ []) c.loop-access.invariant
      ∙ one_kept (λ x. some_window x.windows.count) (λ x. x.writer.write) c.loop-access.access-index
      c.args.accesses.now c.access-item.result c.access-item.result c.access-item.is c.loop-access-test.true kept
  | else-some_window w ↦
      let left : some_window c.access-item.result.windows.count ≡ false = search rules in
      ap (λ v. v.items) w.writes-is ∙ c.loop-access.invariant
      ∙ one_left (λ x. some_window x.windows.count) (λ x. x.writer.write) c.loop-access.access-index
      c.args.accesses.now c.access-item.result c.access-item.result c.access-item.is c.loop-access-test.true left
]

pub returns : goal.returns
returns g c = c.loop-access.invariant
    ∙ ap writes_windowed (take_all c.loop-access.access-index c.args.accesses.now c.loop-access-test.false)
