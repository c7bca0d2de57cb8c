use Rattle.std.proofs.Common.{rules, ap, not, true, false, ◌∙◌, ◌≡◌, ◌++◌, [], ◌∷◌}
use Rattle.std.proofs.lemmas.List.{take_all}
use Rattle.tl_memory.specs.code.Writers.{names, writes_but, writes_outrun}
use Rattle.tl_memory.proofs.values.Writing.{none_yet, one_kept, one_left}
use Rattle.tl_memory.proofs.pending.writes_of_others.Goals as goal
use Rattle.tl_memory.proofs.pending.writes_of_others.Goals.{then-not-is_of+in_ok-push, else-not-is_of}

pub loop-access-init : goal.loop-access-init
loop-access-init g c = c.new-writes.ensures.items
    ∙ none_yet (λ x. not (names c.args.link.0 c.args.source x.writer.asked)) (λ x. x.writer.write) c.args.accesses.now

pub loop-access-preserved : goal.loop-access-preserved
loop-access-preserved g c = elim c.if-not-is_of.branch [
  | then-not-is_of+in_ok-push w ↦
      let kept : names c.args.link.0 c.args.source c.access-item.result.writer.asked ≡ false = search rules in
      let pushed : c.if-not-is_of.writes.items ≡ c.loop-access.writes.items ++ c.access-item.result.writer.write ∷ [] =
      search rules in
      pushed ∙ ap (λ l. l ++ c.access-item.result.writer.write ∷ []) c.loop-access.invariant
      ∙ one_kept (λ x. not (names c.args.link.0 c.args.source x.writer.asked)) (λ x. x.writer.write)
      c.loop-access.access-index c.args.accesses.now c.access-item.result c.access-item.result c.access-item.is
      c.loop-access-test.true
      (ap not kept)
  | else-not-is_of w ↦
      let own : names c.args.link.0 c.args.source c.access-item.result.writer.asked ≡ true = search rules in
      ap (λ v. v.items) w.writes-is ∙ c.loop-access.invariant
      ∙ one_left (λ x. not (names c.args.link.0 c.args.source x.writer.asked)) (λ x. x.writer.write)
      c.loop-access.access-index c.args.accesses.now c.access-item.result c.access-item.result c.access-item.is
      c.loop-access-test.true
      (ap not own)
]

pub returns : goal.returns
returns g c = c.in_ok-append_outrun.ensures ∙ ap (λ l. l ++ writes_outrun c.args.outrun.now)
    (c.loop-access.invariant ∙ ap (writes_but c.args.link.0 c.args.source)
    (take_all c.loop-access.access-index c.args.accesses.now c.loop-access-test.false))
