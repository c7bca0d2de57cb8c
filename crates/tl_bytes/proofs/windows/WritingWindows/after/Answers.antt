use Rattle.std.proofs.Common.{arith, ap, not, sym, ◌∙◌}
use Rattle.tl_bytes.proofs.Since.{both_same, closed_after, opened_after, other_than, same_after}
use Rattle.tl_bytes.proofs.windows.WritingWindows.after.Goals as goal

pub returns-then-free-self : goal.returns-then-free-self
returns-then-free-self c = λ w n block asked x t k le free now. same_after c.args.self n block asked x t k le
    (sym free ∙ both_same c.args.free c.args.self.is_open c.if-free-self.true ∙ k.open_is)

pub returns-then-free : goal.returns-then-free
returns-then-free c = λ w n block asked x t k le free now. opened_after c.args.self c.one_more.result c.args.moment n
    block asked x t k le (ap not (sym c.if-free.true) ∙ other_than c.args.free c.args.self.is_open c.if-free-self.false)
    c.one_more.ensures (sym c.if-free.true ∙ free) now

pub returns-else-free : goal.returns-else-free
returns-else-free c = λ w n block asked x t k le free now. closed_after c.args.self c.saturating_sub.result n
    block asked x t k le (ap not (sym c.if-free.false) ∙ other_than c.args.free c.args.self.is_open
    c.if-free-self.false)
    (sym c.if-free.false ∙ free) (omega (arith, c.saturating_sub.ensures, now))
