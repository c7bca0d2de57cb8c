use Rattle.std.proofs.Common.{rules}
use Rattle.tl_wide.proofs.AtPlaces.{head_places}
use Rattle.tl_wide.proofs.read.line.spelled_head.Goals as goal

pub returns-else-not-link_is-source_is : goal.returns-else-not-link_is-source_is
returns-else-not-link_is-source_is c =
    rw (c.from.ensures, c.from-in-32.ensures) (head_places c.args.bytes.now _ _ _ _ _ _ _ _ _ c.in-32.len_at_least
    (search rules) (search rules) (search rules) (search rules) (search rules) c.value-l1.ensures c.value-l0.ensures
    c.value-opcode.ensures c.value-param.ensures c.value-size.ensures c.value-s3.ensures c.value-s2.ensures
    c.value-s1.ensures c.value-s0.ensures c.if-not-link_is-source_is.false)
