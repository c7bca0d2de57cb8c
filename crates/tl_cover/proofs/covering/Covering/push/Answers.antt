use Rattle.std.proofs.Common.{◌∙◌, ◌≤◌, ◌<◌, arith, length, refl, rules}
use Rattle.std.specs.Prelude.{Err}
use Rattle.tl_cover.proofs.Answered.{beyond_all, covers_more, follows_on, refused}
use Rattle.tl_cover.proofs.Links.{past_at}
use Rattle.tl_cover.proofs.covering.Covering.push.Goals as goal

pub returns-then-n-len-clause-answer : goal.returns-then-n-len-clause-answer
returns-then-n-len-clause-answer g c = λ levels l t closed covers.
    c.push.ensures.answer_under levels l t closed covers.knows

pub returns-then-n-len-clause-covers : goal.returns-then-n-len-clause-covers
returns-then-n-len-clause-covers g c = λ levels l t closed covers.
    let beyond : length levels ≤ c.args.link.0 =
    omega (arith, c.if-n-len.true, c.from-n.ensures, c.len.ensures, covers.follows.many) in
    beyond_all c.args.self.now c.push.new.self levels l (c.args.link, c.args.beat.now) t closed covers c.push.result
    beyond
    (c.push.ensures.answer_under levels l t closed covers.knows)
    (c.push.ensures.knows_under levels l t closed covers.knows)

pub returns-in-Ok-take-clause-covers : goal.returns-in-Ok-take-clause-covers
returns-in-Ok-take-clause-covers g c = λ levels l t closed covers.
    let inside : c.from-n.result < length c.args.self.now.pasts.items =
    omega (arith, c.if-n-len.false, c.len.ensures) in
    let within : c.args.link.0 < length levels =
    omega (arith, inside, c.from-n.ensures, covers.follows.many) in
    let past = past_at l (length levels) c.args.self.now.pasts.items c.from-n.result c.index.result.now c.args.link t c.from-n.ensures
    inside (search rules) covers.follows.pasts_are in
    let knows = c.in-Ok.ensures.knows_under levels l t closed covers.knows in
    covers_more c.take.new.self c.push-2.new.self levels l _ c.take.ensures.monitor knows
    (c.in-Ok-take.ensures.follows levels l t knows
    (c.opening-opening.ensures levels l t closed covers within past)
    (follows_on c.args.self.now c.push-2.new.self levels l (c.args.link, c.args.beat.now) t closed covers))
    (c.in-Ok-take.ensures.levels ∙ covers.levels_are) (c.take.ensures.liberties ∙ covers.liberties_are)

pub returns-in-Err-clause-answer : goal.returns-in-Err-clause-answer
returns-in-Err-clause-answer g c = λ levels l t closed covers.
    c.in-Err.ensures.answer_under levels l t closed covers.knows

pub returns-in-Err-clause-covers : goal.returns-in-Err-clause-covers
returns-in-Err-clause-covers g c = λ levels l t closed covers.
    refused c.args.self.now c.push-2.new.self levels l (c.args.link, c.args.beat.now) t closed covers c.in-Err.fault
    (Err c.in-Err.fault) refl (c.in-Err.ensures.knows_under levels l t closed covers.knows)
