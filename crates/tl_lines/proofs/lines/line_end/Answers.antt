use Rattle.std.proofs.Common.{rules, ◌≡◌, ◌<◌, ◌+◌, arith, take, drop, ap, sym, ◌∙◌}
use Rattle.std.specs.Int.Count.{count_trailing_zeros}
use Rattle.tl_lines.specs.code.FirstLine.{marks}
use Rattle.tl_lines.proofs.FirstLine.{marked_line, rest_marks, unmarked}
use Rattle.tl_lines.proofs.lines.line_end.Goals as goal

pub returns-then-near-ne0 : goal.returns-then-near-ne0
returns-then-near-ne0 c =
    let bytes = c.args.bytes.now in
    let near : c.near_ends-near.result ≡ marks (take 48 bytes) = c.near_ends-near.ensures in
    let some : 0 < c.near_ends-near.result = search rules in
    let place : count_trailing_zeros 64 c.near_ends-near.result ≡ 0 + count_trailing_zeros 64 (marks (take 48 bytes)) =
    omega (arith, ap (count_trailing_zeros 64) near) in
    marked_line bytes 0 48 (search rules) (omega arith) (λ k lt. absurd (omega arith)) (rw near at some) _ place

pub returns-then-far-ne0 : goal.returns-then-far-ne0
returns-then-far-ne0 c =
    let bytes = c.args.bytes.now in
    let near : c.near_ends-near.result ≡ marks (take 48 bytes) = c.near_ends-near.ensures in
    let none : c.near_ends-near.result ≡ 0 = search rules in
    let far : (c.ends_among-far.result ≡ marks (take 16 (drop 48 bytes))) × (c.ends_among-far.result < 65536) =
    rest_marks bytes 48 _ c.ends_among-far.ensures in
    let same : c.ends_among-far.result ≡ marks (take 16 (drop 48 bytes)) = far.0 in
    let some : 0 < c.ends_among-far.result = search rules in
    marked_line bytes 48 16 (search rules) (omega arith) (unmarked bytes 48 (search rules) (sym near ∙ none))
    (rw same at some) _ (ap (λ n. 48 + count_trailing_zeros 64 n) same)
