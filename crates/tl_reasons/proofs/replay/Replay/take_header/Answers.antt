use Rattle.std.proofs.Common.{refl, rules, subst}
use Rattle.tl_lines.specs.statement.LinksHeader.{NamesAllowed}
use Rattle.tl_reasons.proofs.Replaying.{same_liberties}
use Rattle.tl_reasons.proofs.replay.Replay.take_header.Goals as goal
use Rattle.tl_params.specs.declared.liberties.Liberties.{Liberties}

pub returns : goal.returns
returns g c = λ _. record {
  kept = record { allow_is = refl; may_is = refl; level_is = refl; good_is = refl; line_is = refl; subject_is = refl };
  width = c.in-Some.header.width;
  levels = c.in-Some.header.levels.items;
  names = subst (λ (l : Liberties). NamesAllowed c.args.self.now.allow c.args.line.now c.in-Some.header.width l
      c.in-Some.header.levels.items)
      (same_liberties c.in-Some.header.may c.args.self.now.may c.ne.result c.ne.ensures c.if-ne.false)
      c.in-Some.ensures;
  of_width = search rules;
  level_is = search rules;
  count_is = refl;
  reached_is = refl;
  recorder_is = refl;
}
