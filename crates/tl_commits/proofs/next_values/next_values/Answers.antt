use Rattle.std.proofs.Common.{length, rules, sym, ◌∙◌}
use Rattle.tl_beat.specs.declared.beat.{Beat.Beat, Link.Link}
use Rattle.tl_memory.proofs.messages.LinkTables.{link-there}
use Rattle.tl_commits.specs.statement.Events.{beats_of}
use Rattle.tl_commits.proofs.TableJudged.{kept-known, next-none, next-same, next-some}
use Rattle.tl_commits.proofs.next_values.next_values.Goals as goal

pub returns-in_default-clause-next : goal.returns-in_default-clause-next
returns-in_default-clause-next g c = λ levels l complete e j fine k.
    next-none c.args.table.now complete (length levels) (c.args.link, c.args.beat.now) e k
    (rw c.in_default.is at (c.byte_change.ensures levels l (beats_of e) j fine))

pub returns-then-is_same-clause-next : goal.returns-then-is_same-clause-next
returns-then-is_same-clause-next g c = λ levels l complete e j fine k.
    let x : Link × Beat g.row.W = (c.args.link, c.args.beat.now) in
    let lt = link-there _ levels x (beats_of e) fine in
    let changes = rw c.in-Some.is at (c.byte_change.ensures levels l (beats_of e) j fine) in
    next-same c.args.table.now complete (length levels) c.in-Some.block c.in-Some.change x e k
    (c.is_same.ensures (search rules)) changes
    (sym (c.loses-lost.ensures levels l c.in-Some.block e j lt changes.0) ∙ search rules)

pub returns-clause-next : goal.returns-clause-next
returns-clause-next g c = λ levels l complete e j fine k.
    let x : Link × Beat g.row.W = (c.args.link, c.args.beat.now) in
    let n = length levels in
    let lt = link-there _ levels x (beats_of e) fine in
    let changes = rw c.in-Some.is at (c.byte_change.ensures levels l (beats_of e) j fine) in
    let known = c.meet.ensures.knows g.row.W complete n e k in
    let kept = kept-known c.meet.new.self complete n c.in-Some.block c.in-Some-get.values.now e known
    c.in-Some-get.ensures in
    next-some c.meet.new.self complete n c.in-Some.block c.in-Some.change c.in_ok-next.next x e known
    c.in_ok-meet.ensures.met changes
    (c.in_ok-next.ensures g.row.W complete n c.in-Some.block x e kept changes.1
    (c.loses-lost.ensures levels l c.in-Some.block e j lt changes.0) (c.moment.ensures levels l (beats_of e) j))
