use Rattle.std.{proofs.Common.rules, proofs.Common.◌∙◌, proofs.lemmas.Bool.Decides.nat_tests}
use Rattle.tl_schedule.proofs.Decimals.{digit-step, too_great, no_digits, whole_number}
use Rattle.tl_schedule.proofs.header.digits.Goals as goal

pub returns-then-number-limit-clause-gives : goal.returns-then-number-limit-clause-gives
returns-then-number-limit-clause-gives c =
    let same = c.loop-d.invariant.same ∙ digit-step c.loop-d.number c.in-Some.d c.loop-d.rest.now c.in-Some.after.now
    (search rules) in
    too_great c.args.limit _ c.args.bytes.now _ same (search (rules, nat_tests))

pub loop-d-preserved : goal.loop-d-preserved
loop-d-preserved c =
    let same = c.loop-d.invariant.same ∙ digit-step c.loop-d.number c.in-Some.d c.loop-d.rest.now c.in-Some.after.now
    (search rules) in
    record { same = search (rules, same); within = search rules }

pub returns-then-number-eq0-clause-gives : goal.returns-then-number-eq0-clause-gives
returns-then-number-eq0-clause-gives c = no_digits c.args.limit _ c.args.bytes.now _ c.loop-d.invariant.same
    (search rules) (search rules)

pub returns-else-number-eq0-clause-gives : goal.returns-else-number-eq0-clause-gives
returns-else-number-eq0-clause-gives c = whole_number c.args.limit _ c.args.bytes.now _ c.loop-d.invariant.same
    (search rules) (search rules) (search rules)
