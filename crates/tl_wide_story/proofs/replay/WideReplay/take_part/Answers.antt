use Rattle.std.proofs.Common.{refl, rules, sym, ◌∙◌}
use Rattle.tl_wide_story.proofs.WideReplaying.{ok_of, part_recorded}
use Rattle.tl_wide_story.proofs.replay.WideReplay.take_part.Goals as goal

pub returns-clause-records : goal.returns-clause-records
returns-clause-records g c = λ _.
    part_recorded c.args.self.now _ c.in-Some.number c.args.link c.args.part.now
    (record {
      allow_is = refl;
      may_is = refl;
      level_is = refl;
      fault_is = refl;
      subject_is = c.take.ensures.subject;
      told_is = refl;
      count_is = refl;
    })
    refl refl (search rules)
    (ok_of c.take.result (sym c.is_err.ensures.value ∙ c.if-is_err.false) c.take.ensures.record)
