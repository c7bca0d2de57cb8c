use Rattle.std.proofs.Common.{◌≡◌, rules, refl, sym, ◌∙◌}
use Rattle.std.specs.Prelude.{None}
use Rattle.tl_together.proofs.Following.{followed}
use Rattle.tl_commits.specs.statement.Events.{beats_of}
use Rattle.tl_commits.proofs.PendingReads.{readings-without, unasked}
use Rattle.tl_commits.proofs.readings.forget_answered.Goals as goal

pub returns-then-is_none : goal.returns-then-is_none
returns-then-is_none g c = λ levels l complete n e k lt known.
    let link = c.args.link in
    let source = c.in-D.x.source in
    let t = beats_of e in
    let follows = (k.open_knows refl).monitor_is in
    let none : c.request.result ≡ None = search rules in
    rw c.forget.ensures (readings-without link.0 source c.args.readings.now.items complete n e
    (unasked levels c.requires link source t (followed _ levels l t follows) lt
    (sym (c.request.ensures levels l t k) ∙ none)) known)
