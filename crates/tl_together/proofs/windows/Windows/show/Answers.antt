use Rattle.std.proofs.Common.{sym, ◌∙◌}
use Rattle.tl_together.proofs.Moments.{none-shown, replaced-kept, shown-is}
use Rattle.tl_together.specs.code.Windows.{shown_window}
use Rattle.tl_together.proofs.windows.Windows.show.Goals as goal

pub returns-in-Some : goal.returns-in-Some
returns-in-Some c =
    let there = sym c.get.ensures ∙ c.in-Some.is in
    rw (← c.self.view_is) (shown-is c.self.inside.moments c.replace.new.self c.args.block c.args.moment
    c.in-Some.window there
    (replaced-kept c.self.inside.moments c.replace.new.self c.args.block c.in-Some.window
    (shown_window c.args.moment c.in-Some.window) there c.replace.ensures))

pub returns-in_default : goal.returns-in_default
returns-in_default c =
    rw (← c.self.view_is) (none-shown c.self.inside.moments c.args.block c.args.moment (sym c.get.ensures ∙ c.in_default.is))
