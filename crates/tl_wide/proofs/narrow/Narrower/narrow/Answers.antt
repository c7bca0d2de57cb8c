use Rattle.std.proofs.Common.{◌∙◌}
use Rattle.tl_wide.proofs.Numbering.{numbered-none, numbered-some}
use Rattle.tl_wide.specs.statement.Width.{part_width}
use Rattle.tl_wide.proofs.narrow.Narrower.narrow.Goals as goal

pub returns-in_default : goal.returns-in_default
returns-in_default g c = λ t f. numbered-none c.args.link c.args.beat.now t c.in_ok-named.field-0 c.name.new.self
    c.in_default.is (c.in_ok-named.ensures t f)

pub returns : goal.returns
returns g c = λ t f.
    let h = numbered-some c.args.link c.args.beat.now t c.in_ok-named.field-0 c.in-Some.named c.name.new.self
    c.in-Some.is
    (c.in_ok-named.ensures t f) in
    (h.0, c.new.ensures (part_width g.row.W) ∙ h.1, h.2)
