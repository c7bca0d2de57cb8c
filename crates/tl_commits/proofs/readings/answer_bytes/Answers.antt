use Rattle.std.proofs.Common.{◌≡◌, ◌+◌, ◌*◌, ◌≤◌, rules, arith, refl, ap, true, false, length}
use Rattle.std.specs.Prelude.{find, Some, None}
use Rattle.tl_beat.specs.declared.beat.Beat.{Beat}
use Rattle.tl_beat.specs.declared.channel.Channel.{Channel}
use Rattle.tl_burst.specs.statement.Messages.{unfinished}
use Rattle.tl_memory.proofs.messages.Judging.{read_inside}
use Rattle.tl_memory.proofs.messages.LinkTables.{link-there}
use Rattle.tl_rules.specs.code.Place.{base_of}
use Rattle.tl_together.proofs.Following.{followed, one_more}
use Rattle.tl_commits.specs.code.Reading.{is_of}
use Rattle.tl_commits.specs.statement.Copies.{link_beats}
use Rattle.tl_commits.specs.statement.Events.{beats_of}
use Rattle.tl_commits.proofs.ReadAnswers.{answer-are, kept-of, read-pending, unkept-none, unpending-none}
use Rattle.tl_commits.proofs.readings.answer_bytes.Goals as goal

pub returns-in_default : goal.returns-in_default
returns-in_default g c = λ levels l complete e j fine k op.
    let x = c.args.x.now in
    let t = beats_of e in
    let o = (j.open_knows refl).monitor_is in
    let none : find (is_of c.args.link.0 x.source) c.args.readings.now.items ≡ None = search rules in
    rw (unkept-none levels c.requires c.args.link x e (followed _ levels l t o)
    (one_more _ levels l (c.args.link, Beat.D x) t o fine) complete (length levels) op c.args.readings.now.items k none) tt

pub returns-then-not-is_pending : goal.returns-then-not-is_pending
returns-then-not-is_pending g c = λ levels l complete e j fine k op.
    let x = c.args.x.now in
    let t = beats_of e in
    let o = (j.open_knows refl).monitor_is in
    let r = c.in-Some.reading.now in
    let found : find (is_of c.args.link.0 x.source) c.args.readings.now.items ≡ Some r = search rules in
    let off : c.is_pending.result ≡ false = search rules in
    rw (unpending-none levels c.requires c.args.link x e (followed _ levels l t o)
    (one_more _ levels l (c.args.link, Beat.D x) t o fine) complete (length levels) op c.args.readings.now.items r k found
    c.block_at-block.result c.block_at-block.ensures c.is_pending.result (c.is_pending.ensures levels l t j) off) tt

pub returns : goal.returns
returns g c = λ levels l complete e j fine k op.
    let x = c.args.x.now in
    let link = c.args.link in
    let t = beats_of e in
    let n = length levels in
    let o = (j.open_knows refl).monitor_is in
    let legal = followed _ levels l t o in
    let lawful = one_more _ levels l (link, Beat.D x) t o fine in
    let r = c.in-Some.reading.now in
    let found : find (is_of link.0 x.source) c.args.readings.now.items ≡ Some r = search rules in
    let on : c.is_pending.result ≡ true = search rules in
    let pending = read-pending levels c.requires link x e legal lawful complete n op c.args.readings.now.items r k found
    c.block_at-block.result c.block_at-block.ensures c.is_pending.result (c.is_pending.ensures levels l t j) on in
    let p = pending.0 in
    let is = kept-of levels c.requires link x e legal lawful complete n op c.args.readings.now.items r p k found pending.1 in
    let burst = unfinished Channel.D (link_beats link.0 e) in
    let inside : base_of g.row.W r.address + g.row.W * length burst + g.row.W ≤ 64 =
    rw is.address_is (read_inside levels n link x t c.requires legal lawful p op pending.1) in
    let count : c.beats_come.result ≡ length burst =
    c.beats_come.ensures levels l t j (link-there _ levels (link, Beat.D x) t fine) in
    let first : c.saturating_add.result ≡ base_of g.row.W r.address + g.row.W * length burst =
    omega (
      arith,
      c.saturating_add.ensures,
      c.saturating_mul-come.ensures,
      ap (λ m. g.row.W * m) count,
      c.base.ensures.value,
      inside,
    ) in
    answer-are levels c.requires link x e legal lawful complete n op r p _ pending.1 is c.block_at-block.ensures first
    (omega (arith, first, inside)) c.sets.ensures
