use Rattle.std.proofs.Common.{rules, ap, refl, sym, ◌∙◌, ◌≡◌, true, false}
use Rattle.std.{proofs.lemmas.Option.same_Some}
use Rattle.std.specs.Prelude.{is_some}
use Rattle.tl_beat.{specs.declared.channel.Channel.Channel}
use Rattle.tl_burst.specs.statement.Messages.{unfinished}
use Rattle.tl_rules.{specs.statement.Conformance.on_link, specs.statement.History.is_release_ack}
use Rattle.tl_rules.specs.statement.Conformance.{comes_in_request}
use Rattle.tl_bytes.specs.statement.Early.{outruns}
use Rattle.tl_memory.proofs.states.Borne.{ack-carried, ack-tells}
use Rattle.tl_memory.proofs.values.ByteChanges.{ack-keeps, same-outrun, unread-none}
use Rattle.tl_memory.proofs.messages.EarlyMessages.{asks-with}
use Rattle.tl_memory.proofs.{states.Taken.none-open, states.Taken.open-asked, states.Taken.response-borne}
use Rattle.tl_memory.proofs.byte_change.by_any_response.Goals as goal

pub returns-then-is_release_ack : goal.returns-then-is_release_ack
returns-then-is_release_ack g c = λ n block t k messages legal opened borne.
    let y = c.args.y.now in
    let link = c.args.link in
    let ack : is_release_ack y.opcode ≡ true = search rules in
    let burst = unfinished Channel.C (on_link link.0 t) in (
      ack-tells block link y t ack (rw ack at borne) (legal.one_beat ack),
      ack-carried c.bytes.result.now link y t ack (c.bytes.ensures g.row.W burst messages.c_is.bytes_are),
      unread-none y (on_link link.0 t) ack,
      ack-keeps n block link y t ack,
    )

pub returns-then-is_some : goal.returns-then-is_some
returns-then-is_some g c = λ n block t k messages legal opened borne.
    let y = c.args.y.now in
    let link = c.args.link in
    let past = on_link link.0 t in
    let bare : is_release_ack y.opcode ≡ false = search rules in
    let one = response-borne link.0 y block t legal borne bare in
    let comes : comes_in_request y.source (unfinished Channel.A past) ≡ true =
    sym (asks-with c.args.messages.now.asking y.source past messages.asking_is)
    ∙ ap is_some (sym c.asks_with.ensures) ∙ sym c.is_some.ensures ∙ c.if-is_some.true in
    same-outrun n block link y one.0 t one.1 (rw (bare, comes) refl)

pub returns-in-Some : goal.returns-in-Some
returns-in-Some g c = λ n block t k messages legal opened borne.
    let y = c.args.y.now in
    let link = c.args.link in
    let past = on_link link.0 t in
    let bare : is_release_ack y.opcode ≡ false = search rules in
    let one = response-borne link.0 y block t legal borne bare in
    let comes : comes_in_request y.source (unfinished Channel.A past) ≡ false =
    sym (asks-with c.args.messages.now.asking y.source past messages.asking_is)
    ∙ ap is_some (sym c.asks_with.ensures) ∙ sym c.is_some.ensures ∙ c.if-is_some.false in
    let late : outruns y past ≡ false = rw (bare, comes) refl in
    let same = same_Some c.in-Some.asked one.0
    (sym c.in-Some.is ∙ open-asked link.0 y c.args.asked one.0 t one.1 late opened) in
    c.by_response.ensures n block t k messages (rw same one.1) late legal.ordered (rw same one.2)

pub returns-in-None : goal.returns-in-None
returns-in-None g c = λ n block t k messages legal opened borne.
    let y = c.args.y.now in
    let link = c.args.link in
    let past = on_link link.0 t in
    let bare : is_release_ack y.opcode ≡ false = search rules in
    let one = response-borne link.0 y block t legal borne bare in
    let comes : comes_in_request y.source (unfinished Channel.A past) ≡ false =
    sym (asks-with c.args.messages.now.asking y.source past messages.asking_is)
    ∙ ap is_some (sym c.asks_with.ensures) ∙ sym c.is_some.ensures ∙ c.if-is_some.false in
    let late : outruns y past ≡ false = rw (bare, comes) refl in
    none-open c.args.asked one.0 c.in-None.is (open-asked link.0 y c.args.asked one.0 t one.1 late opened)
