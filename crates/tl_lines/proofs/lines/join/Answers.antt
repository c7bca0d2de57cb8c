use Rattle.std.proofs.Common.{rules, ◌≡◌, [], refl}
use Rattle.tl_lines.proofs.Progress.{empty_is, refused}
use Rattle.tl_lines.proofs.lines.join.Goals as goal

pub returns-then-is_empty : goal.returns-then-is_empty
returns-then-is_empty c =
    let none : c.args.begun.now.items ≡ [] = empty_is c.args.begun.now.items (search rules) in
    rw none refl

pub returns-then-is_err : goal.returns-then-is_err
returns-then-is_err c = refused _ _ (search rules) c.try_extend_from_slice.ensures.variant.1

pub returns : goal.returns
returns c = search rules
