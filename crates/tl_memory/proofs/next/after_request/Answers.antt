use Rattle.std.proofs.Common.{rules, arith, ap, sym, ◌∙◌, ◌≡◌, true, false}
use Rattle.std.{proofs.lemmas.Result.IfOk-weaker, specs.Prelude.length, specs.Prelude.is_some, specs.Prelude.None}
use Rattle.tl_beat.specs.declared.channel.Channel.{Channel}
use Rattle.tl_burst.specs.statement.Messages.{unfinished}
use Rattle.tl_rules.specs.statement.Conformance.{on_link}
use Rattle.tl_bytes.specs.statement.Bytes.{asks}
use Rattle.tl_bytes.specs.statement.Early.{outrun_accesses}
use Rattle.tl_memory.specs.code.Early.{outrun_in}
use Rattle.tl_memory.proofs.{states.AskingElsewhere.asks-calm, states.AskingElsewhere.unasked-elsewhere}
use Rattle.tl_memory.proofs.{messages.Masks.few}
use Rattle.tl_memory.proofs.{states.Settling.none-kept, states.Taken.unseen-asked}
use Rattle.tl_memory.proofs.next.after_request.Goals as goal

pub returns-then-not-asks : goal.returns-then-not-asks
returns-then-not-asks g c = λ n block t k message is here now.
    let burst = unfinished Channel.A (on_link c.args.link.0 t) in
    let short = few g.row.W (length burst) c.requires.width is.room.0 in
    let no : c.asks.result ≡ false = search rules in
    let unasked = sym (c.asks.ensures (on_link c.args.link.0 t) message (omega (arith, short))) ∙ no in
    unasked-elsewhere block c.args.link c.args.y.now t
    (record { inside = k.accesses_are.inside; reach_inside = k.outrun_are.inside }) unasked (is.unsettled unasked)

pub returns-in-Some : goal.returns-in-Some
returns-in-Some g c = IfOk-weaker c.after_outrun_request.result _ _ (λ next h n block t k message is here now.
    let y = c.args.y.now in
    let link = c.args.link in
    let burst = unfinished Channel.A (on_link link.0 t) in
    let short = few g.row.W (length burst) c.requires.width is.room.0 in
    let yes : c.asks.result ≡ true = search rules in
    let asked : asks y (on_link link.0 t) ≡ true =
    sym (c.asks.ensures (on_link link.0 t) message (omega (arith, short))) ∙ yes in
    unseen-asked next c.args.state.now n block link y t (asks-calm link y t asked)
    (h n block link y t k is here asked (c.completes.ensures burst message (omega (arith, short)))
    c.in-Some.ensures now))
    c.after_outrun_request.ensures

pub returns : goal.returns
returns g c = λ n block t k message is here now.
    let y = c.args.y.now in
    let link = c.args.link in
    let burst = unfinished Channel.A (on_link link.0 t) in
    let short = few g.row.W (length burst) c.requires.width is.room.0 in
    let yes : c.asks.result ≡ true = search rules in
    let asked : asks y (on_link link.0 t) ≡ true =
    sym (c.asks.ensures (on_link link.0 t) message (omega (arith, short))) ∙ yes in
    let unkept : None ≡ outrun_in link.0 y.source c.args.state.now.outrun = search rules in
    let none = none-kept link.0 y.source block c.args.state.now.outrun (outrun_accesses t) k.outrun_are
    (rw here at is.outran) unkept in
    c.in_ok-asked.ensures n block t k (c.with-all.ensures burst message is.room) is asked (ap is_some none) here now
