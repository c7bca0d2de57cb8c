use Rattle.tl_engine.proofs.Playing.{header-opened, header-refused}
use Rattle.tl_engine.proofs.run_lines.start.Goals as goal

pub returns-in-None : goal.returns-in-None
returns-in-None g c = rw c.requires (header-refused g.row.FORM _ c.args.line.now _ _ _ c.in-None.is
    c.in_ok-open.ensures)

pub returns-in-Some : goal.returns-in-Some
returns-in-Some g c = rw (c.replace.ensures.after, c.requires) (header-opened g.row.FORM _ c.in-Some.opened c.args.line.now _ _ _ c.in-Some.is
    c.in_ok-open.ensures)
