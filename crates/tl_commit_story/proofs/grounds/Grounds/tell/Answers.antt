use Rattle.std.proofs.lemmas.Result.{on_ok_weaker}
use Rattle.tl_commits.specs.statement.Events.{beats_of}
use Rattle.tl_commit_story.proofs.Followed.{grounds-told}
use Rattle.tl_commit_story.proofs.grounds.Grounds.tell.Goals as goal

pub returns : goal.returns
returns g c = on_ok_weaker c.tell.result (λ says. λ may levels e k.
    grounds-told c.args.self.now may levels e c.args.first c.args.count c.held.result c.args.out.now.items
    c.append_holds.new.out.items c.append_since.new.out.items c.append_begun.new.out.items
    c.append_begun-2.new.out.items c.tell.new.out.items k c.requires
    (c.held.ensures levels may (beats_of e) k.monitor_is) c.in_ok-append_holds.ensures
    (rw c.deref.ensures.value at c.in_ok-append_since.ensures)
    (rw c.deref-2.ensures.value at c.in_ok-append_begun.ensures)
    (rw c.deref-3.ensures.value at c.in_ok-append_begun-2.ensures) says)
    c.tell.ensures
