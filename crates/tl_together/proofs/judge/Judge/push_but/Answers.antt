use Rattle.std.proofs.Common.{◌≡◌, refl, sym, ap, ◌∙◌, ◌+◌, length, rules}
use Rattle.std.specs.Prelude.{None}
use Rattle.tl_together.specs.statement.Coherence.{first_broken}
use Rattle.tl_together.specs.statement.Knows.{broken}
use Rattle.tl_together.specs.code.Judged.{judged}
use Rattle.tl_together.proofs.Judging.{broken_so, fine_on_link, judged_fault, next_moment, open_still, refused}
use Rattle.tl_together.proofs.Judging.{remembered, still, taken, unnoted}
use Rattle.tl_memory.proofs.messages.LinkTables.{link-there}
use Rattle.tl_together.proofs.Following.{followed, grown, one_more, same}
use Rattle.tl_together.proofs.Noted.{held_others, said_before}
use Rattle.tl_together.proofs.Showing.{either_leaves, first_noted}
use Rattle.tl_rules.specs.statement.Conformance.{on_link}
use Rattle.tl_together.proofs.judge.Judge.push_but.Goals as goal

pub returns-in_default-change-clause-knows : goal.returns-in_default-change-clause-knows
returns-in_default-change-clause-knows g c = λ levels may t closed k.
    unnoted c.args.self.now _ levels may t closed k refl refl refl refl refl refl c.change.ensures.known

pub returns-in_default-noted-clause-knows : goal.returns-in_default-noted-clause-knows
returns-in_default-noted-clause-knows g c = λ levels may t closed k.
    let same : c.note_window-noted.new.windows ≡ c.args.self.now.windows = search rules in
    unnoted c.args.self.now _ levels may t closed k refl refl refl refl refl same c.change.ensures.known

pub returns-in-Some-judged-clause-answer : goal.returns-in-Some-judged-clause-answer
returns-in-Some-judged-clause-answer g c = λ levels may t closed k.
    let o = open_still c.args.self.now levels may t closed k c.if-self.false in
    let next_is : c.in-Some.next ≡ c.args.self.now.moment + 1 = search rules in
    let now = next_moment c.in-Some.next c.args.self.now.moment t next_is o.moment_is in
    let known = remembered c.args.self.now _ levels may t o refl refl refl refl refl c.change.ensures.known in
    broken_so c.args.self.now c.args.left levels may t closed c.args.link c.args.beat.now c.in-Some-judged.rule c.breach.result k
    c.if-self.false (c.breach.ensures levels may t known) (λ fine.
    let lt = link-there _ levels (c.args.link, c.args.beat.now) t fine in
    let change = c.in-Ok.ensures.change levels t o.memory_is (followed _ levels may t o.monitor_is)
    (one_more _ levels may (c.args.link, c.args.beat.now) t o.monitor_is fine)
    (c.answered-asked.ensures levels may t o.monitor_is lt) now in
    ap (judged c.args.left) (sym (c.broken_memory.ensures levels may t known (c.in-Ok.ensures.free (length levels) t o.memory_is)
    fine change)) ∙ sym c.judged.ensures ∙ c.in-Some-judged.is)

pub returns-in-Some-judged-clause-knows : goal.returns-in-Some-judged-clause-knows
returns-in-Some-judged-clause-knows g c = λ levels may t closed k.
    unnoted c.args.self.now _ levels may t closed k refl refl refl refl refl refl c.change.ensures.known

pub returns-in-Err-clause-answer : goal.returns-in-Err-clause-answer
returns-in-Err-clause-answer g c = λ levels may t closed k.
    let o = open_still c.args.self.now levels may t closed k c.if-self.false in
    refused c.args.self.now c.args.left levels may t closed c.args.link c.args.beat.now c.in-Err.fault c.of_monitor.result k
    c.if-self.false
    (c.in-Err.ensures.answer_under levels may t _ o.monitor_is.knows) c.of_monitor.ensures

pub returns-in-Err-clause-knows : goal.returns-in-Err-clause-knows
returns-in-Err-clause-knows g c = λ levels may t closed k.
    let o = open_still c.args.self.now levels may t closed k c.if-self.false in
    still c.args.self.now _ levels may t closed c.args.link c.args.beat.now c.in-Some.next c.in-Ok.change.held
    c.freedom-before.result _ k
    c.if-self.false c.if-self.false refl refl (same _ levels may t o.monitor_is (c.in-Err.ensures.knows_under levels may t _ o.monitor_is.knows))
    c.note_request.ensures c.in-Ok-noted.ensures.noted
    (λ n s m. let known = c.in-Ok.ensures.free n s m in said_before c.in-Ok.change c.freedom-before.result n s known
    (λ b. c.freedom-before.ensures n b s known)) c.change.ensures.known

pub returns-clause-answer : goal.returns-clause-answer
returns-clause-answer g c = λ levels may t closed k.
    let o = open_still c.args.self.now levels may t closed k c.if-self.false in
    let fine = fine_on_link levels may t (c.args.link, c.args.beat.now)
    (c.in-Ok-try_push.ensures.answer_under levels may t _ o.monitor_is.knows) in
    let lt = link-there _ levels (c.args.link, c.args.beat.now) t fine in
    let next_is : c.in-Some.next ≡ c.args.self.now.moment + 1 = search rules in
    let now = next_moment c.in-Some.next c.args.self.now.moment t next_is o.moment_is in
    let change = c.in-Ok.ensures.change levels t o.memory_is (followed _ levels may t o.monitor_is)
    (one_more _ levels may (c.args.link, c.args.beat.now) t o.monitor_is fine)
    (c.answered-asked.ensures levels may t o.monitor_is lt) now in
    let known = remembered c.args.self.now _ levels may t o refl refl refl refl refl c.change.ensures.known in
    judged_fault c.args.self.now c.args.left levels may t closed c.args.link c.args.beat.now c.broken_memory.result k
    c.if-self.false fine
    (c.broken_memory.ensures levels may t known (c.in-Ok.ensures.free (length levels) t o.memory_is) fine change)
    ∙ ap (λ r. broken (first_broken None r)) (sym c.judged.ensures ∙ c.in_default-judged.is)

pub returns-clause-knows : goal.returns-clause-knows
returns-clause-knows g c = λ levels may t closed k.
    let o = open_still c.args.self.now levels may t closed k c.if-self.false in
    let fine = fine_on_link levels may t (c.args.link, c.args.beat.now)
    (c.in-Ok-try_push.ensures.answer_under levels may t _ o.monitor_is.knows) in
    let lt = link-there _ levels (c.args.link, c.args.beat.now) t fine in
    let next_is : c.in-Some.next ≡ c.args.self.now.moment + 1 = search rules in
    let now = next_moment c.in-Some.next c.args.self.now.moment t next_is o.moment_is in
    let change = c.in-Ok.ensures.change levels t o.memory_is (followed _ levels may t o.monitor_is)
    (one_more _ levels may (c.args.link, c.args.beat.now) t o.monitor_is fine)
    (c.answered-asked.ensures levels may t o.monitor_is lt) now in
    let pushed = grown _ _ levels may (c.args.link, c.args.beat.now) t o.monitor_is fine
    (c.in-Ok-try_push.ensures.knows_under levels may t _ o.monitor_is.knows) in
    let shows = c.shown_by-shown.ensures.shown levels may t o.monitor_is lt in
    let says = c.in-Ok.ensures.free (length levels) t o.memory_is in
    let free = said_before c.in-Ok.change c.freedom-before.result (length levels) t says
    (λ b. c.freedom-before.ensures (length levels) b t says) in
    taken c.args.self.now _ levels may t closed c.args.link c.args.beat.now c.in-Some.next c.in-Ok.change.held
    c.freedom-before.result _ _ k
    c.if-self.false c.if-self.false refl next_is refl pushed c.note_request.ensures c.in-Ok-noted.ensures.noted free
    (either_leaves c.shown_by-shown.result c.in-Ok.change.held c.args.beat.now (on_link c.args.link.0 t)
    (λ b is. c.shown_by-shown.ensures.own b (on_link c.args.link.0 t) is)
    (held_others c.in-Ok.change _ (length levels) c.args.link c.args.beat.now t change))
    (c.note_shown.ensures levels may t pushed lt shows
    (first_noted c.shown_by-shown.result c.in-Ok.change.held _ c.in-Ok-noted.ensures.entered))
    (c.take.ensures levels t (c.change.ensures.known (length levels) t o.memory_is)
    (followed _ levels may t o.monitor_is)
    (one_more _ levels may (c.args.link, c.args.beat.now) t o.monitor_is fine) now change
    (c.freed-free.ensures levels may t pushed o.links_are lt shows
    (c.left_by_others-others.ensures levels may t o.monitor_is lt free)))
