use Rattle.std.proofs.Common.{rules}
use Rattle.tl_wide.proofs.AtPlaces.{id_places}
use Rattle.tl_wide.proofs.read.field.spelled_id.Goals as goal

pub returns : goal.returns
returns c =
    rw (c.from.ensures, c.from-2.ensures) (id_places c.args.bytes.now _ _ _ _ (search rules) (search rules)
    c.value-s3.ensures c.value-s2.ensures c.value-s1.ensures c.value-s0.ensures (search rules))
