use Rattle.std.proofs.Common.{◌≡◌, refl, rules}
use Rattle.std.proofs.lemmas.Result.{on_ok_weaker}
use Rattle.tl_commit_story.proofs.Followed.{follow-grant, follow-other, follow-report, follow-silent, on-both}
use Rattle.tl_commit_story.proofs.grounds.Grounds.follow.Goals as goal

pub returns-then-ne-clause-follows : goal.returns-then-ne-clause-follows
returns-then-ne-clause-follows g c = follow-other c.args.self.now c.args.number c.args.link c.args.beat.now
    (λ same. absurd (search (rules, c.ne.ensures, c.if-ne.true, same)))

pub returns-in-C-clause-follows : goal.returns-in-C-clause-follows
returns-in-C-clause-follows g c =
    let own : c.args.link.0 ≡ c.args.self.now.cached.link.0 = search (rules, c.ne.ensures, c.if-ne.false) in
    on_ok_weaker c.take.result (λ takes.
    follow-report c.args.self.now c.args.number c.args.link own c.take.new.self _ c.args.beat.now c.in-C.x
    c.in-C.is (search rules)
    (takes.0, takes.1 c.args.link c.requires.spelled))
    (on-both c.take.result _ _ c.take.ensures.came c.take.ensures.begun)

pub returns-in-D-clause-follows : goal.returns-in-D-clause-follows
returns-in-D-clause-follows g c =
    let own : c.args.link.0 ≡ c.args.self.now.cached.link.0 = search (rules, c.ne.ensures, c.if-ne.false) in
    on_ok_weaker c.take-in-D.result (λ takes.
    follow-grant c.args.self.now c.args.number c.args.link own c.take-in-D.new.self c.grants-moves.result
    c.args.beat.now c.in-D.x c.in-D.is
    c.grants-moves.ensures (takes.0, takes.1 c.args.link c.requires.spelled))
    (on-both c.take-in-D.result _ _ c.take-in-D.ensures.came c.take-in-D.ensures.begun)

pub returns-in_default : goal.returns-in_default
returns-in_default g c = record {
  same = record { cached_is = refl; monitor_is = refl; since_is = refl; stores_are = refl };
  follows = follow-silent c.args.self.now c.args.number c.args.link c.args.beat.now c.in_default.not-C
      c.in_default.not-D;
}
