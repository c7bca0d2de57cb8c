use Rattle.std.proofs.Common.{rules, arith, refl, sym, ap, length, ◌∙◌, ◌≡◌, ◌*◌, true, false}
use Rattle.tl_beat.specs.declared.beat.Beat.{Beat}
use Rattle.tl_beat.specs.declared.channel.Channel.{Channel}
use Rattle.tl_burst.specs.statement.Messages.{unfinished}
use Rattle.tl_memory.proofs.messages.LinkTables.{link-there}
use Rattle.tl_rules.specs.statement.Conformance.{on_link}
use Rattle.tl_together.proofs.Following.{followed, one_more}
use Rattle.tl_commits.specs.statement.Events.{beats_of}
use Rattle.tl_commits.proofs.GivenBack.{gives-judged, gives-none, gives-some, gives-unjudged, gives-unknown}
use Rattle.tl_commits.proofs.GivenBack.{report-released, report-room}
use Rattle.tl_commits.proofs.giving_back.gives_truly.Goals as goal

pub returns-then-not-complete : goal.returns-then-not-complete
returns-then-not-complete g c = λ levels l complete e j fine k all.
    let off : c.args.complete ≡ false = search rules in
    gives-unknown complete (length levels) c.args.link.0 c.args.x.now e (sym all ∙ off)

pub returns-in_default : goal.returns-in_default
returns-in_default g c = λ levels l complete e j fine k all.
    let lt = link-there _ levels (c.args.link, Beat.C c.args.x.now) (beats_of e) fine in
    absurd (let no : false ≡ true = (c.in_default.ensures levels l (beats_of e) j lt).1 in cc)

pub returns-then-either : goal.returns-then-either
returns-then-either g c = λ levels l complete e j fine k all.
    let x = c.args.x.now in
    let link = c.args.link in
    let t = beats_of e in
    let o = (j.open_knows refl).monitor_is in
    let lt = link-there _ levels (link, Beat.C x) t fine in
    let messages = (c.in-Some.ensures levels l t j lt).0 in
    let released = report-released levels link x t c.requires (followed _ levels l t o)
    (one_more _ levels l (link, Beat.C x) t o fine) c.in-Some.messages.now.releasing messages.releasing_is
    ∙ sym c.is_released.ensures in
    gives-unjudged complete (length levels) link.0 x e c.is_released.result c.is_spoiled.result c.either.result released
    c.is_spoiled.ensures c.either.ensures c.if-either.true

pub returns-in-None : goal.returns-in-None
returns-in-None g c = λ levels l complete e j fine k all.
    let x = c.args.x.now in
    let link = c.args.link in
    let t = beats_of e in
    let o = (j.open_knows refl).monitor_is in
    let lt = link-there _ levels (link, Beat.C x) t fine in
    let messages = (c.in-Some.ensures levels l t j lt).0 in
    let released = report-released levels link x t c.requires (followed _ levels l t o)
    (one_more _ levels l (link, Beat.C x) t o fine) c.in-Some.messages.now.releasing messages.releasing_is
    ∙ sym c.is_released.ensures in
    gives-judged complete (length levels) link.0 x e c.is_released.result c.is_spoiled.result c.either.result true
    (sym all ∙ c.if-not-complete.false) released c.is_spoiled.ensures c.either.ensures c.if-either.false
    (gives-none complete (length levels) link.0 x e c.in-None.is _)

pub returns-in-Some-lanes : goal.returns-in-Some-lanes
returns-in-Some-lanes g c = λ levels l complete e j fine k all.
    let x = c.args.x.now in
    let link = c.args.link in
    let t = beats_of e in
    let o = (j.open_knows refl).monitor_is in
    let lt = link-there _ levels (link, Beat.C x) t fine in
    let messages = (c.in-Some.ensures levels l t j lt).0 in
    let legal = followed _ levels l t o in
    let lawful = one_more _ levels l (link, Beat.C x) t o fine in
    let released = report-released levels link x t c.requires legal lawful c.in-Some.messages.now.releasing
    messages.releasing_is ∙ sym c.is_released.ensures in
    let burst = unfinished Channel.C (on_link link.0 t) in
    let room = report-room levels link x t c.requires legal lawful in
    let count : c.count.result ≡ length burst = c.count.ensures g.row.W burst messages.c_is.bytes_are in
    let first : c.saturating_mul-first.result ≡ g.row.W * length burst =
    omega (arith, c.saturating_mul-first.ensures, ap (λ m. g.row.W * m) count, room) in
    gives-judged complete (length levels) link.0 x e c.is_released.result c.is_spoiled.result c.either.result
    c.gives_each.result (sym all ∙ c.if-not-complete.false) released c.is_spoiled.ensures c.either.ensures c.if-either.false
    (gives-some complete (length levels) link.0 x e c.block_at.result c.saturating_mul-first.result (length burst)
    c.in-Some-lanes.lanes c.gives_each.result c.in-Some-lanes.is c.block_at.ensures first
    (c.gives_each.ensures complete (length levels) link.0 e k messages (omega (arith, first, room))))
