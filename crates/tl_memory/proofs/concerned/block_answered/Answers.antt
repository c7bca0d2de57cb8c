use Rattle.std.proofs.Common.{rules, ap, sym, ◌∙◌, ◌≡◌, true, false}
use Rattle.std.specs.Prelude.{is_some, Some, None}
use Rattle.tl_beat.specs.declared.channel.Channel.{Channel}
use Rattle.tl_burst.specs.statement.Messages.{unfinished}
use Rattle.tl_rules.specs.statement.{Conformance.comes_in_request, History.is_release_ack}
use Rattle.tl_memory.specs.code.Early.{asks_with}
use Rattle.tl_memory.specs.code.Elsewhere.{block_asked}
use Rattle.tl_memory.proofs.messages.EarlyMessages.{asked-with, asks-with, picked, releases-block}
use Rattle.tl_memory.proofs.concerned.block_answered.Goals as goal

pub returns-then-is_release_ack : goal.returns-then-is_release_ack
returns-then-is_release_ack g c = λ past k opened.
    let ack : is_release_ack c.args.x.now.opcode ≡ true = search rules in
    rw ack (c.releases_with.ensures ∙ releases-block c.args.messages.now.releasing c.args.x.now.source past k.releasing_is)

pub returns-in-Some : goal.returns-in-Some
returns-in-Some g c = λ past k opened.
    let y = c.args.x.now in
    let bare : is_release_ack y.opcode ≡ false = search rules in
    let some : asks_with c.args.messages.now.asking y.source ≡ Some c.in-Some.asking = sym c.asks_with.ensures ∙ c.in-Some.is in
    let its = asked-with c.args.messages.now.asking c.in-Some.asking y.source past k.asking_is some in
    rw (bare, its.1) (ap Some c.block_at.ensures ∙ sym its.2)

pub returns-in-None : goal.returns-in-None
returns-in-None g c = λ past k opened.
    let y = c.args.x.now in
    let bare : is_release_ack y.opcode ≡ false = search rules in
    let none : asks_with c.args.messages.now.asking y.source ≡ None = sym c.asks_with.ensures ∙ c.in-None.is in
    let comes : comes_in_request y.source (unfinished Channel.A past) ≡ false =
    sym (asks-with c.args.messages.now.asking y.source past k.asking_is) ∙ ap is_some none in
    rw bare (c.block_asked.ensures ∙ ap block_asked opened ∙ sym (picked (comes_in_request y.source (unfinished Channel.A past)) _ _ comes))
