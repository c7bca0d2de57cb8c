use Rattle.std.proofs.Common.{rules, arith, sym, ap₂, ◌∙◌, ◌≡◌, ◌&&◌, not, true, false}
use Rattle.std.{proofs.lemmas.Bool.and_parts, specs.Prelude.length, specs.Prelude.◌∷◌}
use Rattle.tl_beat.{specs.declared.beat.Beat.Beat, specs.declared.channel.Channel.Channel}
use Rattle.tl_burst.specs.statement.Messages.{unfinished}
use Rattle.tl_rules.{specs.statement.Conformance.on_link, specs.statement.History.ends}
use Rattle.tl_bytes.specs.statement.Bytes.{is_access}
use Rattle.tl_memory.specs.code.Early.{is_in_doubt}
use Rattle.tl_memory.{specs.code.Taking.tells_response, proofs.messages.Masks.few}
use Rattle.tl_memory.proofs.states.BlockAnswers.{answer-ends, bare-leaves, begun-elsewhere, grant-bare, grant-stays}
use Rattle.tl_memory.proofs.states.BlockAnswers.{grant-tells}
use Rattle.tl_memory.proofs.states.BlockAnswers.{calm-until, told-elsewhere, told-or, told-sure}
use Rattle.tl_memory.proofs.next.after_response.Goals as goal

pub returns-then-not-completes : goal.returns-then-not-completes
returns-then-not-completes g c = λ n block t k messages is late ordered here now.
    let y = c.args.y.now in
    let burst = unfinished Channel.D (on_link c.args.link.0 t) in
    let short = few g.row.W (length burst) c.requires.width is.room.0 in
    let no : c.completes.result ≡ false = search rules in
    let goes_on : ends (Beat.D y) (on_link c.args.link.0 t) ≡ false =
    sym (c.completes.ensures burst messages.d_is (omega (arith, short))) ∙ no in (
      begun-elsewhere block c.args.link y c.args.asked t
          (record { inside = k.accesses_are.inside; reach_inside = k.outrun_are.inside }) is late goes_on,
      calm-until y (on_link c.args.link.0 t) (answer-ends y.opcode c.args.asked.opcode is.answers_it) goes_on,
    )

pub returns-then-both : goal.returns-then-both
returns-then-both g c = λ n block t k messages is late ordered here now.
    let y = c.args.y.now in
    let link = c.args.link in
    let burst = unfinished Channel.D (on_link link.0 t) in
    let short = few g.row.W (length burst) c.requires.width is.room.0 in
    let yes : c.completes.result ≡ true = search rules in
    let over : ends (Beat.D y) (on_link link.0 t) ≡ true =
    sym (c.completes.ensures burst messages.d_is (omega (arith, short))) ∙ yes in
    let on : c.both.result ≡ true = search rules in
    let both = and_parts (tells_response y c.args.asked.opcode) (not (is_in_doubt c.args.messages.now.granting))
    (ap₂ (λ a b. a && not b) (sym c.tells.ensures) (sym c.is_overtaken.ensures) ∙ sym c.both.ensures ∙ on) in
    let told = both.0 in
    let all = c.with-all.ensures burst messages.d_is is.room in
    c.in_ok-told.ensures n block (link, Beat.D y) t k
    (grant-tells block y (on_link link.0 t) c.args.asked is.kept (answer-ends y.opcode c.args.asked.opcode is.answers_it)
    here over told (told-sure block link y c.args.asked t c.args.messages.now.granting is here messages.granting_is ordered
    told both.1))
    (grant-stays link y c.args.asked t is told)
    (bare-leaves block link y c.args.asked t is late (grant-bare link y c.args.asked t is told) k.outrun_are.inside) now
    (rw (answer-ends y.opcode c.args.asked.opcode is.answers_it) (c.bytes.ensures g.row.W (Beat.D y ∷ burst) all.bytes_are))

pub returns-then-is_access : goal.returns-then-is_access
returns-then-is_access g c = λ n block t k messages is late ordered here now.
    let y = c.args.y.now in
    let link = c.args.link in
    let burst = unfinished Channel.D (on_link link.0 t) in
    let short = few g.row.W (length burst) c.requires.width is.room.0 in
    let yes : c.completes.result ≡ true = search rules in
    let over : ends (Beat.D y) (on_link link.0 t) ≡ true =
    sym (c.completes.ensures burst messages.d_is (omega (arith, short))) ∙ yes in
    let on : c.is_access.result ≡ true = search rules in
    let access : is_access c.args.asked.opcode ≡ true = sym c.is_access.ensures ∙ on in
    c.in_ok-after_answer.ensures n block c.args.asked t k is access here late over messages.d_is now

pub returns : goal.returns
returns g c = λ n block t k messages is late ordered here now.
    let y = c.args.y.now in
    let link = c.args.link in
    let off : c.both.result ≡ false = search rules in
    let other : c.is_access.result ≡ false = search rules in
    let less : (tells_response y c.args.asked.opcode && not (is_in_doubt c.args.messages.now.granting)) ≡ false =
    ap₂ (λ a b. a && not b) (sym c.tells.ensures) (sym c.is_overtaken.ensures) ∙ sym c.both.ensures ∙ off in
    c.in_ok-passed.ensures n block (link, Beat.D y) t k
    (told-elsewhere block link y c.args.asked t
    (record { inside = k.accesses_are.inside; reach_inside = k.outrun_are.inside }) is late
    (told-or block link y c.args.asked t c.args.messages.now.granting is here messages.granting_is ordered less)
    (sym c.is_access.ensures ∙ other))
