use Rattle.std.proofs.Common.{sym, ap, not, ◌∙◌, ◌++◌, append-nil}
use Rattle.std.proofs.lemmas.List.{take_all}
use Rattle.tl_memory.specs.code.Early.{is_outrun_of, outrun_but}
use Rattle.tl_memory.proofs.{values.Reached.outrun-kept, values.Reached.outrun-left, values.Writing.none_yet}
use Rattle.tl_memory.proofs.early.append_outrun_but.Goals as goal
use Rattle.tl_memory.proofs.early.append_outrun_but.Goals.{then-not-is_of+in_ok-push, else-not-is_of}

pub loop-access-init : goal.loop-access-init
loop-access-init c = sym (append-nil c.args.left.now.items)
    ∙ ap (λ l. c.args.left.now.items ++ l) (none_yet (λ x. not (is_outrun_of c.args.link.0 c.args.source x)) (λ x. x) c.args.accesses.now)

pub loop-access-preserved : goal.loop-access-preserved
loop-access-preserved c = elim c.if-not-is_of.branch [
  | then-not-is_of+in_ok-push w ↦ ap (λ v. v.items) w.left-is
      ∙ outrun-kept c.args.link.0 c.args.source c.loop-access.access-index c.args.accesses.now _ c.loop-access-test.true
      c.args.left.now.items c.loop-access.left.items w.push.new.self.items
      (sym c.is_of.ensures ∙ w.if-not-is_of.true) w.in_ok-push.ensures.items c.loop-access.invariant
  | else-not-is_of w ↦ ap (λ v. v.items) w.left-is
      ∙ outrun-left c.args.link.0 c.args.source c.loop-access.access-index c.args.accesses.now _ c.loop-access-test.true
      c.args.left.now.items c.loop-access.left.items (sym c.is_of.ensures ∙ w.if-not-is_of.false)
      c.loop-access.invariant
]

pub returns : goal.returns
returns c = c.loop-access.invariant ∙ ap (λ l. c.args.left.now.items ++ outrun_but c.args.link.0 c.args.source l)
    (take_all c.loop-access.access-index c.args.accesses.now c.loop-access-test.false)
