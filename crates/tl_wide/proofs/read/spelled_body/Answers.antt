use Rattle.std.proofs.Common.{rules}
use Rattle.tl_wide.specs.code.FromLeft.{placed}
use Rattle.tl_wide.proofs.Placed.{placed-read}
use Rattle.tl_wide.proofs.WellSpelled.{body-a, body-b, body-c, body-d, body-e}
use Rattle.tl_wide.proofs.read.spelled_body.Goals as goal

pub returns-in-65 : goal.returns-in-65
returns-in-65 g c = placed-read c.line_a.result _ c.line_a.new.beat _ _ (search rules) (body-a c.args.bytes.now
    (placed c.line_a.result c.line_a.new.beat) (search rules) (search rules)
    (c.line_a.ensures.read c.args.bytes.now (search rules))) c.line_a.ensures.unchanged

pub returns-in-66 : goal.returns-in-66
returns-in-66 g c = placed-read c.line_b.result _ c.line_b.new.beat _ _ (search rules) (body-b c.args.bytes.now
    (placed c.line_b.result c.line_b.new.beat) (search rules) (search rules)
    (c.line_b.ensures.read c.args.bytes.now (search rules))) c.line_b.ensures.unchanged

pub returns-in-67 : goal.returns-in-67
returns-in-67 g c = placed-read c.line_c.result _ c.line_c.new.beat _ _ (search rules) (body-c c.args.bytes.now
    (placed c.line_c.result c.line_c.new.beat) (search rules) (search rules)
    (c.line_c.ensures.read c.args.bytes.now (search rules))) c.line_c.ensures.unchanged

pub returns-in-68 : goal.returns-in-68
returns-in-68 g c = placed-read c.line_d.result _ c.line_d.new.beat _ _ (search rules) (body-d c.args.bytes.now
    (placed c.line_d.result c.line_d.new.beat) (search rules) (search rules)
    (c.line_d.ensures.read c.args.bytes.now (search rules))) c.line_d.ensures.unchanged

pub returns-then-letter-eq69 : goal.returns-then-letter-eq69
returns-then-letter-eq69 g c = placed-read c.line_e.result _ c.line_e.new.beat _ _ (search rules)
    (body-e c.args.bytes.now
    (placed c.line_e.result c.line_e.new.beat) (search rules) (search rules) c.line_e.ensures.read)
    c.line_e.ensures.unchanged
