use Rattle.std.proofs.Common.{◌≡◌, ◌<◌, arith, take, drop}
use Rattle.tl_lines.specs.code.FirstLine.{marks}
use Rattle.tl_lines.proofs.FirstLine.{marks-lt, near_marks, rest_marks}
use Rattle.tl_lines.proofs.lines.near_ends.Goals as goal

pub returns : goal.returns
returns c =
    let bytes = c.args.bytes.now in
    let middle : (c.ends_among-middle.result ≡ marks (take 16 (drop 16 bytes))) × (c.ends_among-middle.result < 65536) =
    rest_marks bytes 16 _ c.ends_among-middle.ensures in
    let back : (c.ends_among-back.result ≡ marks (take 16 (drop 32 bytes))) × (c.ends_among-back.result < 65536) =
    rest_marks bytes 32 _ c.ends_among-back.ensures in
    omega (arith, c.ends_among-front.ensures, middle.0, middle.1, back.0, back.1, near_marks bytes c.requires)

pub overflow_add-result : goal.overflow_add-result
overflow_add-result c =
    let bytes = c.args.bytes.now in
    let middle : (c.ends_among-middle.result ≡ marks (take 16 (drop 16 bytes))) × (c.ends_among-middle.result < 65536) =
    rest_marks bytes 16 _ c.ends_among-middle.ensures in
    omega (arith, c.ends_among-front.ensures, marks-lt bytes, middle.1)

pub overflow_add-result-2 : goal.overflow_add-result-2
overflow_add-result-2 c =
    let bytes = c.args.bytes.now in
    let middle : (c.ends_among-middle.result ≡ marks (take 16 (drop 16 bytes))) × (c.ends_among-middle.result < 65536) =
    rest_marks bytes 16 _ c.ends_among-middle.ensures in
    let back : (c.ends_among-back.result ≡ marks (take 16 (drop 32 bytes))) × (c.ends_among-back.result < 65536) =
    rest_marks bytes 32 _ c.ends_among-back.ensures in
    omega (arith, c.ends_among-front.ensures, marks-lt bytes, middle.1, back.1)
