use Rattle.std.proofs.Common.{◌<◌, arith, sym, ap, length, refl, slice_set, ◌∙◌}
use Rattle.tl_memory.proofs.messages.LinkTables.{link-there}
use Rattle.tl_together.proofs.Following.{one_more}
use Rattle.tl_together.proofs.Noted.{on_levels}
use Rattle.tl_commits.specs.statement.Events.{beats_of}
use Rattle.tl_commits.proofs.GrantsKept.{grants-put, met-on, met-put}
use Rattle.tl_commits.proofs.granting.meet_grant.Goals as goal

pub returns-then-beats_come-gt0-clause-met : goal.returns-then-beats_come-gt0-clause-met
returns-then-beats_come-gt0-clause-met g c = λ levels l complete e j fine table k.
    let x = c.args.beat.now in
    let link = c.args.link in
    let lt = link-there _ levels (link, x) (beats_of e) fine in
    let count = c.beats_come.ensures levels l (beats_of e) j lt in
    met-on levels complete (length levels) link x e c.args.grants.now.items
    (one_more _ levels l (link, x) (beats_of e) (j.open_knows refl).monitor_is fine) k
    (λ none. omega (arith, none, count, c.if-beats_come-gt0.true))

pub returns-clause-knows : goal.returns-clause-knows
returns-clause-knows g c = λ levels l complete e j k.
    let items = c.args.grants.now.items in
    let lt : c.args.link.0 < length levels =
    omega (arith, c.if-slot-len.false, c.from-slot.ensures, c.len.ensures, k.count_is) in
    let count = c.beats_come.ensures levels l (beats_of e) j lt in
    grants-put items _ complete (length levels) c.args.link.0 c.in_ok-grants.field-0 e
    (ap (λ i. slice_set items i c.in_ok-grants.field-0) c.from-slot.ensures)
    (omega (arith, count, c.if-beats_come-gt0.false)) k

pub returns-clause-met : goal.returns-clause-met
returns-clause-met g c = λ levels l complete e j fine table k.
    let items = c.args.grants.now.items in
    let x = c.args.beat.now in
    let link = c.args.link in
    let lt = link-there _ levels (link, x) (beats_of e) fine in
    let count = c.beats_come.ensures levels l (beats_of e) j lt in
    met-put levels complete (length levels) link x e items _ c.in_ok-grants.field-0 c.in-Some.x.now
    c.in-Some-request.asked (ap (λ i. slice_set items i c.in_ok-grants.field-0) c.from-slot.ensures) c.in-Some.ensures.0
    (sym (on_levels levels link c.in-Some.x.now.source (beats_of e) lt)
    ∙ sym (c.request.ensures levels l (beats_of e) j) ∙ c.in-Some-request.is)
    (c.in_ok-grants.ensures levels l complete e j table)
    (omega (arith, count, c.if-beats_come-gt0.false))
