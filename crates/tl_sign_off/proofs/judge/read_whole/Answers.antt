use Rattle.std.proofs.Common.{rules, ap, [], refl, ◌∙◌}
use Rattle.std.specs.Prelude.{Ok}
use Rattle.std.proofs.KnownBytes.{Consumes-nil}
use Rattle.tl_sign_off.proofs.Whole.{ended, read_on}
use Rattle.tl_sign_off.proofs.judge.read_whole.Goals as goal

pub loop-init : goal.loop-init
loop-init g c = record {
  room = search rules;
  so_far = ([], Consumes-nil _, c.requires.unread, rw c.new-out.ensures.items c.requires.begun);
  same = refl;
}

pub returns-then-count-eq0-clause-ok : goal.returns-then-count-eq0-clause-ok
returns-then-count-eq0-clause-ok g c =
    ended c.close.result _ _ _ c.loop.notes c.loop.lines c.loop.status _ _ _ c.loop.invariant.so_far c.if-count-eq0.true
    c.in_ok-count.ensures.ok (c.in_ok-count.ensures.end (ap Ok c.if-count-eq0.true)) c.close.ensures.judged

pub loop-preserved : goal.loop-preserved
loop-preserved g c = record {
  room = search rules;
  so_far = read_on _ _ _ c.loop.notes c.add.new.self c.loop.lines c.go_on.new.lines c.loop.status c.in_ok-status.status _ _ _
      c.loop.invariant.so_far c.in_ok-count.ensures.ok (rw c.deref.ensures.value at c.in_ok-add.ensures.notes)
      (rw c.deref-in-loop.ensures.value at c.in_ok-status.ensures.judged);
  same = c.in_ok-status.ensures.aim ∙ c.loop.invariant.same;
}
