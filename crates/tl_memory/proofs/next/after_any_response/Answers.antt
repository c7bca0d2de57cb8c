use Rattle.std.proofs.Common.{rules, arith, ap, refl, sym, ◌∙◌, ◌≡◌, true, false, length}
use Rattle.std.{proofs.lemmas.Result.IfOk-weaker, proofs.lemmas.Option.same_Some, specs.Prelude.Some}
use Rattle.std.{specs.Prelude.None}
use Rattle.std.specs.Prelude.{is_some}
use Rattle.tl_beat.{specs.declared.channel.Channel.Channel}
use Rattle.tl_burst.specs.statement.Messages.{unfinished}
use Rattle.tl_rules.{specs.statement.Conformance.on_link, specs.statement.History.is_release_ack}
use Rattle.tl_rules.specs.statement.Conformance.{comes_in_request}
use Rattle.tl_bytes.specs.statement.Early.{outruns}
use Rattle.tl_memory.specs.code.Early.{asks_with}
use Rattle.tl_memory.proofs.messages.EarlyMessages.{asked-with, asks-with}
use Rattle.tl_memory.proofs.{messages.Masks.few, states.Taken.none-open, states.Taken.open-asked}
use Rattle.tl_memory.proofs.{states.Taken.response-borne}
use Rattle.tl_memory.proofs.next.after_any_response.Goals as goal

pub returns-then-is_release_ack : goal.returns-then-is_release_ack
returns-then-is_release_ack g c = IfOk-weaker c.after_early_ack.result _ _ (λ next h n block t k messages legal opened borne now.
    let y = c.args.y.now in
    let ack : is_release_ack y.opcode ≡ true = search rules in
    h n block c.args.link y t k messages ack (legal.one_beat ack) (rw ack at borne) now)
    c.after_early_ack.ensures

pub returns-in-Some : goal.returns-in-Some
returns-in-Some g c = λ n block t k messages legal opened borne now.
    let y = c.args.y.now in
    let link = c.args.link in
    let past = on_link link.0 t in
    let bare : is_release_ack y.opcode ≡ false = search rules in
    let one = response-borne link.0 y block t legal borne bare in
    let some : asks_with c.args.messages.now.asking y.source ≡ Some c.in-Some.asking = sym c.asks_with.ensures ∙ c.in-Some.is in
    let its = asked-with c.args.messages.now.asking c.in-Some.asking y.source past messages.asking_is some in
    let outrun : outruns y past ≡ true = rw (bare, its.1) refl in
    let burst = unfinished Channel.D past in
    let short = few g.row.W (length burst) c.requires.width one.1.room.0 in
    c.in_ok-outrun.ensures n block y one.0 t k one.1 outrun its.0 one.2
    (c.completes-answered.ensures burst messages.d_is (omega (arith, short)))

pub returns-in-Some-asked : goal.returns-in-Some-asked
returns-in-Some-asked g c = IfOk-weaker c.after_response.result _ _ (λ next h n block t k messages legal opened borne now.
    let y = c.args.y.now in
    let link = c.args.link in
    let past = on_link link.0 t in
    let bare : is_release_ack y.opcode ≡ false = search rules in
    let one = response-borne link.0 y block t legal borne bare in
    let none : asks_with c.args.messages.now.asking y.source ≡ None = search rules in
    let comes : comes_in_request y.source (unfinished Channel.A past) ≡ false =
    sym (asks-with c.args.messages.now.asking y.source past messages.asking_is) ∙ ap is_some none in
    let late : outruns y past ≡ false = rw (bare, comes) refl in
    let same = same_Some c.in-Some-asked.asked one.0
    (sym c.in-Some-asked.is ∙ open-asked link.0 y c.args.asked one.0 t one.1 late opened) in
    h n block t k messages (rw same one.1) late legal.ordered (rw same one.2) now)
    c.after_response.ensures

pub returns-in-None : goal.returns-in-None
returns-in-None g c = λ n block t k messages legal opened borne now.
    let y = c.args.y.now in
    let link = c.args.link in
    let past = on_link link.0 t in
    let bare : is_release_ack y.opcode ≡ false = search rules in
    let one = response-borne link.0 y block t legal borne bare in
    let none : asks_with c.args.messages.now.asking y.source ≡ None = search rules in
    let comes : comes_in_request y.source (unfinished Channel.A past) ≡ false =
    sym (asks-with c.args.messages.now.asking y.source past messages.asking_is) ∙ ap is_some none in
    let late : outruns y past ≡ false = rw (bare, comes) refl in
    none-open c.args.asked one.0 c.in-None.is (open-asked link.0 y c.args.asked one.0 t one.1 late opened)
