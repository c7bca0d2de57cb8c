use Rattle.std.proofs.Common.{rules, eqb, arith, take, w8}
use Rattle.std.proofs.lemmas.List.{length-take-le}
use Rattle.std.proofs.lemmas.Simd.{bitmask_splat}
use Rattle.tl_lines.proofs.lines.ends_among.Goals as goal

pub returns : goal.returns
returns c =
    bitmask_splat w8 eqb (take 16 c.args.bytes.now) 16 10 (length-take-le 16 c.args.bytes.now (search rules)) (omega arith)
