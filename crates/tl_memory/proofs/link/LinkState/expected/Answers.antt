use Rattle.std.proofs.Common.{arith, sym, ◌∙◌, ◌≡◌, length, true, false}
use Rattle.std.{proofs.lemmas.Bool.eq-eqb, proofs.lemmas.Bool.ne_eqb, specs.Prelude.option_copied}
use Rattle.std.specs.{Box.box_value, Prelude.option_map}
use Rattle.tl_beat.{specs.declared.beat.Beat.Beat, specs.declared.channel.Channel.Channel}
use Rattle.tl_burst.specs.statement.Messages.{unfinished}
use Rattle.tl_rules.{specs.statement.Conformance.on_link, specs.statement.History.begins}
use Rattle.tl_memory.proofs.messages.Expecting.{expects-later}
use Rattle.tl_memory.proofs.messages.ExpectedBeats.{beat-anew, beat-begun, beat-kept}
use Rattle.tl_memory.proofs.states.PassedBy.{none-before}
use Rattle.tl_memory.proofs.link.LinkState.expected.Goals as goal

pub returns-then-beats-eq0 : goal.returns-then-beats-eq0
returns-then-beats-eq0 c = λ w n levels link x t k legal fine first later.
    let burst = unfinished Channel.D (on_link link.0 t) in
    let count : c.count-beats.result ≡ length burst = c.count-beats.ensures w burst k.messages_are.d_is.bytes_are in
    let none : length burst ≡ 0 = omega (arith, count, c.if-beats-eq0.true) in
    let begun : begins (Beat.D x) (on_link link.0 t) ≡ true =
    sym (none-before c.count-beats.result burst count) ∙ eq-eqb c.count-beats.result 0 c.if-beats-eq0.true in
    beat-begun (option_copied c.args.now) n link.0 x.opcode x.source (length burst) t none (first begun)

pub returns-in-Some : goal.returns-in-Some
returns-in-Some c = λ w n levels link x t k legal fine first later.
    let burst = unfinished Channel.D (on_link link.0 t) in
    let count : c.count-beats.result ≡ length burst = c.count-beats.ensures w burst k.messages_are.d_is.bytes_are in
    let goes_on : begins (Beat.D x) (on_link link.0 t) ≡ false =
    sym (none-before c.count-beats.result burst count) ∙ ne_eqb c.count-beats.result 0 c.if-beats-eq0.false in
    beat-anew c.in-Some.known.now n link.0 x.opcode x.source (length burst) t (rw c.in-Some.is at (later goes_on))

pub returns-in-None : goal.returns-in-None
returns-in-None c = λ w n levels link x t k legal fine first later.
    let kept = option_map box_value c.args.self.now.expected in
    let burst = unfinished Channel.D (on_link link.0 t) in
    let count : c.count-beats.result ≡ length burst = c.count-beats.ensures w burst k.messages_are.d_is.bytes_are in
    let goes_on : begins (Beat.D x) (on_link link.0 t) ≡ false =
    sym (none-before c.count-beats.result burst count) ∙ ne_eqb c.count-beats.result 0 c.if-beats-eq0.false in
    rw c.value_of.ensures
    (beat-kept kept n link.0 x.opcode x.source (length burst) t
    (rw c.in-None.is at (later goes_on))
    (expects-later levels link n x t legal fine kept k.expected_is
    (λ none. c.if-beats-eq0.false (count ∙ none))))
