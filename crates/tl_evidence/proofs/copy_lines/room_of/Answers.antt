use Rattle.std.proofs.Common.{◌≤◌, ◌∙◌, arith, refl, rules, sym}
use Rattle.tl_commits.proofs.AtOnce.{valid-is}
use Rattle.tl_evidence.proofs.CopyTexts.{room-count}
use Rattle.tl_evidence.proofs.copy_lines.room_of.Goals as goal

pub returns : goal.returns
returns c =
    let small : c.args.piece.size ≤ 3 = omega (arith, c.if-piece-gt3.false) in
    record {
      valid = valid-is c.args.piece c.prove_addressed.ensures (sym c.is_valid.ensures ∙ search rules);
      first_is = refl;
      count_is = (room-count c.args.piece.size small).0;
      few = (room-count c.args.piece.size small).1;
      inside = omega (arith, c.if-from-count.false, c.from.ensures, c.from-2.ensures);
    }
