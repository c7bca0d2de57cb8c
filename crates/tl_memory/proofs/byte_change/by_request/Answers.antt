use Rattle.std.proofs.Common.{rules, arith, ap₂, refl, sym, ◌∙◌, ◌≡◌, ◌&&◌, true, false}
use Rattle.std.{proofs.lemmas.Bool.and_parts, specs.Prelude.length, specs.Prelude.None}
use Rattle.tl_beat.specs.declared.beat.Beat.{Beat}
use Rattle.tl_beat.specs.declared.channel.Channel.{Channel}
use Rattle.tl_burst.specs.statement.Messages.{unfinished}
use Rattle.tl_bytes.specs.statement.Early.{outrun_accesses}
use Rattle.tl_memory.specs.code.Early.{outrun_in}
use Rattle.tl_rules.{specs.statement.Conformance.on_link, specs.statement.History.ends}
use Rattle.tl_memory.proofs.values.ByteChanges.{same-request, settled-change, settles-no_request}
use Rattle.tl_memory.proofs.{messages.Masks.few, states.Settling.kept-found, states.Settling.none-kept}
use Rattle.tl_memory.proofs.{states.Settling.settles-request}
use Rattle.tl_memory.proofs.states.Settling.{unsettled-request}
use Rattle.tl_memory.proofs.byte_change.by_request.Goals as goal

pub returns-in_default : goal.returns-in_default
returns-in_default g c = λ n block t k message is here.
    let y = c.args.y.now in
    let link = c.args.link in
    let unkept : None ≡ outrun_in link.0 y.source c.args.state.now.outrun = search rules in
    same-request n block link y t (settles-no_request link y t
    (none-kept link.0 y.source block c.args.state.now.outrun (outrun_accesses t) k.outrun_are
    (rw here at is.outran) unkept))

pub returns-then-not-both : goal.returns-then-not-both
returns-then-not-both g c = λ n block t k message is here.
    let y = c.args.y.now in
    let link = c.args.link in
    let burst = unfinished Channel.A (on_link link.0 t) in
    let short = few g.row.W (length burst) c.requires.width is.room.0 in
    let there = kept-found link.0 y.source block c.in-Some.access.now c.args.state.now.outrun (outrun_accesses t)
    k.outrun_are (rw here at is.outran) c.in-Some.ensures in
    let off : c.both.result ≡ false = search rules in
    let more : (ends (Beat.A y) (on_link link.0 t) && there.0.answered) ≡ false =
    ap₂ (λ a b. a && b) (sym (c.completes.ensures burst message (omega (arith, short)))) (sym there.2.answered_is)
    ∙ sym c.both.ensures ∙ off in
    same-request n block link y t (unsettled-request block link y there.0 t there.1 more)

pub returns : goal.returns
returns g c = λ n block t k message is here.
    let y = c.args.y.now in
    let link = c.args.link in
    let burst = unfinished Channel.A (on_link link.0 t) in
    let short = few g.row.W (length burst) c.requires.width is.room.0 in
    let there = kept-found link.0 y.source block c.in-Some.access.now c.args.state.now.outrun (outrun_accesses t)
    k.outrun_are (rw here at is.outran) c.in-Some.ensures in
    let on : c.both.result ≡ true = search rules in
    let both = and_parts (ends (Beat.A y) (on_link link.0 t)) c.in-Some.access.now.answered
    (ap₂ (λ a b. a && b) (sym (c.completes.ensures burst message (omega (arith, short)))) refl
    ∙ sym c.both.ensures ∙ on) in
    settled-change n block c.in-Some.access.now (link, Beat.A y) t
    (settles-request link y c.in-Some.access.now there.0 block t there.1 there.2 both.1 both.0)
