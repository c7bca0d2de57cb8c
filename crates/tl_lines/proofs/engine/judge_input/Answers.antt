use Rattle.std.proofs.Common.{rules, ap, [], refl, ◌∙◌}
use Rattle.std.specs.Prelude.{Ok}
use Rattle.std.proofs.KnownBytes.{Consumes-nil}
use Rattle.tl_lines.proofs.JudgedInput.{judged_end, judged_until, judges_on}
use Rattle.tl_lines.proofs.engine.judge_input.Goals as goal

pub loop-init : goal.loop-init
loop-init g c = record {
  room = search rules;
  so_far = ([], Consumes-nil _, c.requires);
  same = refl;
}

pub returns-then-count-eq0-clause-ok : goal.returns-then-count-eq0-clause-ok
returns-then-count-eq0-clause-ok g c =
    judged_end g.H.LineHandler.knows (g.H.LineHandler.tells (g.H.LineHandler.purpose c.args.lines.now.handler)) g.H.LineHandler.ends _ _ _ _ c.loop.lines _ _ _ _
    c.loop.invariant.so_far c.if-count-eq0.true c.in_ok-count.ensures.ok
    (c.in_ok-count.ensures.end (ap Ok c.if-count-eq0.true))
    (rw c.loop.invariant.same at c.finish.ensures.finishes) c.finish.ensures.has

pub returns-in-Broken-clause-ok : goal.returns-in-Broken-clause-ok
returns-in-Broken-clause-ok g c =
    judged_until g.H.LineHandler.knows (g.H.LineHandler.tells (g.H.LineHandler.purpose c.args.lines.now.handler)) g.H.LineHandler.ends _ _ _ c.loop.lines c.feed.new.self _ _ _
    c.loop.invariant.so_far c.in_ok-count.ensures.ok
    (rw (c.deref.ensures.value, c.in-Broken.is, c.loop.invariant.same) at c.in_ok-feed.ensures.feeds)
    (rw c.deref.ensures.value at (c.in_ok-feed.ensures.ends (ap Ok c.in-Broken.is)))

pub loop-preserved : goal.loop-preserved
loop-preserved g c = record {
  room = search rules;
  so_far = judges_on g.H.LineHandler.knows (g.H.LineHandler.tells (g.H.LineHandler.purpose c.args.lines.now.handler)) _ _ _ c.loop.lines c.feed.new.self _ _ _
      c.loop.invariant.so_far c.in_ok-count.ensures.ok
      (rw (c.deref.ensures.value, c.in-Clean.is) at c.in_ok-feed.ensures.feeds);
  same = c.in_ok-feed.ensures.purpose ∙ c.loop.invariant.same;
}
