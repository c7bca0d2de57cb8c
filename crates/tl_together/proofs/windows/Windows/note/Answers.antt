use Rattle.std.proofs.Common.{sym, ◌∙◌}
use Rattle.std.proofs.lemmas.Result.{on_ok_weaker}
use Rattle.std.specs.Prelude.{None, Some}
use Rattle.tl_together.proofs.Moments.{latest-is, noted-is, replaced-kept}
use Rattle.tl_together.proofs.windows.Windows.note.Goals as goal

pub returns-in-None-clause-changed : goal.returns-in-None-clause-changed
returns-in-None-clause-changed c = rw (← c.self.view_is) (on_ok_weaker c.insert.result
    (latest-is c.self.inside.moments c.insert.new.self c.args.block c.args.moment c.args.free None
    c.latest_window.result (sym c.get.ensures ∙ c.in-None.is) c.latest_window.ensures)
    c.insert.ensures.kept)

pub returns-in-None-clause-noted : goal.returns-in-None-clause-noted
returns-in-None-clause-noted c = on_ok_weaker c.insert.result
    (noted-is c.self.inside.moments c.insert.new.self c.args.block c.latest_window.result) c.insert.ensures.kept

pub returns-in-Some-clause-changed : goal.returns-in-Some-clause-changed
returns-in-Some-clause-changed c =
    let there = sym c.get.ensures ∙ c.in-Some.is in
    rw (← c.self.view_is) (latest-is c.self.inside.moments c.replace.new.self c.args.block c.args.moment c.args.free
    (Some c.in-Some.window) c.latest_window-in-Some.result there c.latest_window-in-Some.ensures
    (replaced-kept c.self.inside.moments c.replace.new.self c.args.block c.in-Some.window
    c.latest_window-in-Some.result there c.replace.ensures))

pub returns-in-Some-clause-noted : goal.returns-in-Some-clause-noted
returns-in-Some-clause-noted c =
    noted-is c.self.inside.moments c.replace.new.self c.args.block c.latest_window-in-Some.result
    (replaced-kept c.self.inside.moments c.replace.new.self c.args.block c.in-Some.window
    c.latest_window-in-Some.result (sym c.get.ensures ∙ c.in-Some.is) c.replace.ensures)
