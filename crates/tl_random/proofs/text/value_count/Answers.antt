use Rattle.std.proofs.Common.{arith}
use Rattle.tl_schedule.proofs.AccessBytes.{smaller_power}
use Rattle.tl_random.proofs.text.value_count.Goals as goal

pub returns-clause-value : goal.returns-clause-value
returns-clause-value c = omega (arith, smaller_power c.args.size c.requires)

pub returns-clause-few : goal.returns-clause-few
returns-clause-few c = omega (arith, smaller_power c.args.size c.requires)
