use Rattle.std.proofs.Common.{refl}
use Rattle.tl_sessions.specs.declared.part_judge.Verdict.TheVariants.{Taken, Broken, OutOfMemory}
use Rattle.tl_sessions.proofs.wide.WideJudge.judge_left.Goals as goal

pub returns-in-Taken : goal.returns-in-Taken
returns-in-Taken g c = (Taken, c.in-Taken.ensures, refl, (refl, refl, refl))

pub returns-in-Broken : goal.returns-in-Broken
returns-in-Broken g c = (Broken c.in-Broken.breach, c.in-Broken.ensures, refl, (c.of_commits.ensures, refl))

pub returns-in-OutOfMemory : goal.returns-in-OutOfMemory
returns-in-OutOfMemory g c = (OutOfMemory c.in-OutOfMemory.rest, c.in-OutOfMemory.ensures, refl, (refl, refl, refl))
