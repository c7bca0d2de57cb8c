use Rattle.std.proofs.Common.{rules, ap}
use Rattle.tl_wide.specs.code.FromLeft.{on_c}
use Rattle.tl_wide.proofs.Made.{made_c-ok, made_c-err}
use Rattle.tl_wide.proofs.read.line.place_c.Goals as goal

pub returns-then-is_some-carries_data-clause-read : goal.returns-then-is_some-carries_data-clause-read
returns-then-is_some-carries_data-clause-read g c =
    ap (on_c c.args.head.link) (made_c-err g.row.W c.in_ok-opcode.opcode c.args.head.opcode c.args.head.param
    c.in_ok-param.param _ _ _ _ _ c.is_some.result c.carries_data.result (search rules) (search rules) c.is_some.ensures
    c.carries_data.ensures c.if-is_some-carries_data.true)

pub returns-clause-read : goal.returns-clause-read
returns-clause-read g c =
    ap (on_c c.args.head.link) (made_c-ok _ c.args.head.opcode c.args.head.param (search rules) (search rules))
