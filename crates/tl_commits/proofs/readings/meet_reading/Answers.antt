use Rattle.std.proofs.Common.{rules, sym, subst, ◌++◌, ◌∷◌, [], true, ◌≡◌}
use Rattle.std.specs.Prelude.{find, is_some}
use Rattle.tl_commits.specs.code.Reading.{IsMet, KnowsReadings, is_of}
use Rattle.tl_commits.proofs.PendingReads.{met-new, met-none, met-some, readings-more}
use Rattle.tl_commits.proofs.readings.meet_reading.Goals as goal

pub returns-in_default-clause-met : goal.returns-in_default-clause-met
returns-in_default-clause-met g c = met-none c.args.readings.now.items c.args.link.0 c.args.beat.now c.in_default.ensures

pub returns-then-is_some-clause-met : goal.returns-then-is_some-clause-met
returns-then-is_some-clause-met g c =
    let found : is_some (find (is_of c.args.link.0 c.in-Some.x.now.source) c.args.readings.now.items) ≡ true =
    search rules in
    met-some c.args.readings.now.items c.args.link.0 c.args.beat.now c.in-Some.x.now c.in-Some.ensures.0 found

pub returns-clause-knows : goal.returns-clause-knows
returns-clause-knows g c = λ complete n e k.
    let pushed : c.push.new.self.items ≡ c.args.readings.now.items ++ c.new.result ∷ [] = search rules in
    subst (λ l. KnowsReadings l complete n e) (sym pushed)
    (readings-more c.new.result c.args.readings.now.items complete n e k)

pub returns-clause-met : goal.returns-clause-met
returns-clause-met g c =
    let pushed : c.push.new.self.items ≡ c.args.readings.now.items ++ c.new.result ∷ [] = search rules in
    subst (λ l. IsMet l c.args.link.0 c.args.beat.now) (sym pushed)
    (met-new c.args.readings.now.items c.args.link c.args.beat.now c.in-Some.x.now c.new.result c.in-Some.ensures.0
    c.new.ensures)
