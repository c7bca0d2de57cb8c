use Rattle.std.proofs.Common.{◌≡◌, true, false, sym, ◌∙◌}
use Rattle.tl_partner.specs.statement.Dropping.{is_drop}
use Rattle.tl_partner.specs.statement.Naming.{plain}
use Rattle.tl_partner.proofs.Leniently.{stalls-misnamed, stalls-dropped, stalls-passed}
use Rattle.tl_partner.proofs.lenient.Lenient.stalls.Goals as goal

pub returns-then-is_misnamed : goal.returns-then-is_misnamed
returns-then-is_misnamed g c = λ config e k. stalls-misnamed c.args.self.now.terms config c.args.link c.args.channel
    c.args.beat.now e (sym c.is_misnamed.ensures ∙ c.if-is_misnamed.true)

pub returns-then-is_drop : goal.returns-then-is_drop
returns-then-is_drop g c = λ config e k.
    let dropped : is_drop c.args.self.now.terms config c.args.link c.args.channel
    (plain c.args.self.now.terms c.args.beat.now) e ≡ true =
    rw c.plain-plain.ensures at (sym (c.is_drop.ensures config e k) ∙ c.if-is_drop.true) in
    c.is_reporting.ensures config e k
    ∙ stalls-dropped c.args.self.now.terms config c.args.link c.args.channel c.args.beat.now e
    (sym c.is_misnamed.ensures ∙ c.if-is_misnamed.false) dropped

pub returns : goal.returns
returns g c = λ config e k.
    let kept : is_drop c.args.self.now.terms config c.args.link c.args.channel
    (plain c.args.self.now.terms c.args.beat.now) e ≡ false =
    rw c.plain-plain.ensures at (sym (c.is_drop.ensures config e k) ∙ c.if-is_drop.false) in
    rw c.plain-plain.ensures at (c.stalls.ensures config e k)
    ∙ stalls-passed c.args.self.now.terms config c.args.link c.args.channel c.args.beat.now e
    (sym c.is_misnamed.ensures ∙ c.if-is_misnamed.false) kept
