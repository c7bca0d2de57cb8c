use Rattle.std.proofs.Common.{arith, refl, sym, ap, length, ◌∙◌, ◌≡◌, ◌+◌, ◌*◌, true, false}
use Rattle.tl_beat.specs.declared.beat.Beat.{Beat}
use Rattle.tl_beat.specs.declared.channel.Channel.{Channel}
use Rattle.tl_burst.specs.statement.Messages.{unfinished}
use Rattle.tl_memory.proofs.messages.Judging.{doubt-of, granted-of, in_block}
use Rattle.tl_memory.proofs.values.Lanes.{no-lanes}
use Rattle.tl_memory.proofs.messages.LinkTables.{link-there}
use Rattle.tl_rules.specs.statement.History.{is_grant}
use Rattle.tl_together.proofs.Following.{followed, one_more}
use Rattle.tl_commits.specs.statement.Copies.{link_beats}
use Rattle.tl_commits.specs.statement.Events.{beats_of}
use Rattle.tl_commits.specs.statement.True.{before_last_seen, may_grant_seen}
use Rattle.tl_commits.proofs.Granted.{grant-judged, grant-lanes, grant-unjudged}
use Rattle.tl_commits.proofs.granting.GrantBytes.grants_truly.Goals as goal

pub returns-in_default : goal.returns-in_default
returns-in_default g c = λ levels l complete e j fine k kind.
    let lt = link-there _ levels (c.args.link, Beat.D c.args.x.now) (beats_of e) fine in
    absurd (let no : false ≡ true = (c.in_default.ensures levels l (beats_of e) j lt).1 in cc)

pub returns-then-either : goal.returns-then-either
returns-then-either g c = λ levels l complete e j fine k kind.
    let x = c.args.x.now in
    let link = c.args.link in
    let t = beats_of e in
    let n = length levels in
    let o = (j.open_knows refl).monitor_is in
    let messages = (c.in-Some.ensures levels l t j (link-there _ levels (link, Beat.D x) t fine)).0 in
    let legal = followed _ levels l t o in
    let lawful = one_more _ levels l (link, Beat.D x) t o fine in
    let one = granted-of levels n link x t c.requires legal lawful (ap is_grant kind) in
    let doubt = doubt-of levels n link x t c.requires legal lawful c.in-Some.messages.now.granting messages.granting_is
    one.0.block (ap is_grant kind) one.2 ∙ sym c.is_overtaken.ensures in
    grant-unjudged complete n link.0 x e one.0 one.1 c.is_overtaken.result c.is_spoiled.result c.either.result doubt
    c.is_spoiled.ensures c.either.ensures c.if-either.true

pub returns-in-None : goal.returns-in-None
returns-in-None g c = λ levels l complete e j fine k kind.
    let x = c.args.x.now in
    let link = c.args.link in
    let t = beats_of e in
    let n = length levels in
    let o = (j.open_knows refl).monitor_is in
    let messages = (c.in-Some.ensures levels l t j (link-there _ levels (link, Beat.D x) t fine)).0 in
    let legal = followed _ levels l t o in
    let lawful = one_more _ levels l (link, Beat.D x) t o fine in
    let one = granted-of levels n link x t c.requires legal lawful (ap is_grant kind) in
    let doubt = doubt-of levels n link x t c.requires legal lawful c.in-Some.messages.now.granting messages.granting_is
    one.0.block (ap is_grant kind) one.2 ∙ sym c.is_overtaken.ensures in
    let burst = unfinished Channel.D (link_beats link.0 e) in
    grant-judged complete n link.0 x e one.0 one.1 c.is_overtaken.result c.is_spoiled.result c.either.result doubt
    c.is_spoiled.ensures c.either.ensures true c.if-either.false
    (no-lanes (may_grant_seen complete n (before_last_seen link.0 (length burst) e))
    (64 * one.0.block + g.row.W * length burst) x c.in-None.is)

pub returns-in-Some-lanes : goal.returns-in-Some-lanes
returns-in-Some-lanes g c = λ levels l complete e j fine k kind.
    let x = c.args.x.now in
    let link = c.args.link in
    let t = beats_of e in
    let n = length levels in
    let o = (j.open_knows refl).monitor_is in
    let messages = (c.in-Some.ensures levels l t j (link-there _ levels (link, Beat.D x) t fine)).0 in
    let legal = followed _ levels l t o in
    let lawful = one_more _ levels l (link, Beat.D x) t o fine in
    let one = granted-of levels n link x t c.requires legal lawful (ap is_grant kind) in
    let doubt = doubt-of levels n link x t c.requires legal lawful c.in-Some.messages.now.granting messages.granting_is
    one.0.block (ap is_grant kind) one.2 ∙ sym c.is_overtaken.ensures in
    let burst = unfinished Channel.D (link_beats link.0 e) in
    let room = in_block levels n link x t c.requires legal lawful in
    let count : c.count.result ≡ length burst = c.count.ensures g.row.W burst messages.d_is.bytes_are in
    let first : c.saturating_mul-first.result ≡ g.row.W * length burst =
    omega (arith, c.saturating_mul-first.ensures, ap (λ m. g.row.W * m) count, room) in
    grant-judged complete n link.0 x e one.0 one.1 c.is_overtaken.result c.is_spoiled.result c.either.result doubt
    c.is_spoiled.ensures c.either.ensures c.may_bring_each.result c.if-either.false
    (grant-lanes complete n link.0 x e one.0 one.1 c.is_overtaken.result c.is_spoiled.result c.either.result doubt
    c.is_spoiled.ensures c.either.ensures c.saturating_mul-first.result c.in-Some-lanes.lanes c.may_bring_each.result
    c.in-Some-lanes.is first (c.may_bring_each.ensures g.row.W complete n one.0.block
    (before_last_seen link.0 (length burst) e) (k one.0 kind one.1) (omega (arith, first, room))))
