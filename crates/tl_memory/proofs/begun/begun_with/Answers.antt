use Rattle.std.proofs.Common.{sym, ◌∙◌, ◌≡◌, true, false}
use Rattle.std.specs.{Box.box_value, Prelude.option_map}
use Rattle.std.proofs.lemmas.Bool.{eq-eqb, ne_eqb}
use Rattle.std.proofs.lemmas.Result.{IfOk-weaker}
use Rattle.tl_beat.{specs.declared.beat.Beat.Beat, specs.declared.channel.Channel.Channel}
use Rattle.tl_burst.specs.statement.Messages.{unfinished}
use Rattle.tl_rules.specs.statement.Conformance.{on_link}
use Rattle.tl_rules.specs.statement.History.{begins}
use Rattle.tl_memory.proofs.states.Memories.{along-by, begun-by, no-response}
use Rattle.tl_memory.proofs.{states.PassedBy.none-before, states.Taken.response-borne}
use Rattle.tl_memory.proofs.begun.begun_with.Goals as goal

pub returns-then-count-eq0 : goal.returns-then-count-eq0
returns-then-count-eq0 g c = IfOk-weaker c.begun.result _ _ (λ expected h n t k message legal borne all.
    let y = c.in-D.y in
    let link = c.args.link in
    let is = c.in-D.is in
    let answers = response-borne link.0 y c.args.block t (rw is at legal) (rw is at borne) in
    let first : begins (Beat.D y) (on_link link.0 t) ≡ true =
    sym (none-before c.count.result (unfinished Channel.D (on_link link.0 t)) (c.count.ensures g.row.W _
    message.bytes_are)) ∙ eq-eqb c.count.result 0 c.if-count-eq0.true in
    begun-by (option_map box_value expected) n link c.args.x.now y t is first (h n t k answers all))
    c.begun.ensures

pub returns-else-count-eq0 : goal.returns-else-count-eq0
returns-else-count-eq0 g c = IfOk-weaker c.along.result _ _ (λ expected h n t k message legal borne all.
    let y = c.in-D.y in
    let link = c.args.link in
    let is = c.in-D.is in
    let answers = response-borne link.0 y c.args.block t (rw is at legal) (rw is at borne) in
    let later : begins (Beat.D y) (on_link link.0 t) ≡ false =
    sym (none-before c.count.result (unfinished Channel.D (on_link link.0 t)) (c.count.ensures g.row.W _
    message.bytes_are)) ∙ ne_eqb c.count.result 0 c.if-count-eq0.false in
    along-by (option_map box_value expected) n link c.args.x.now y t is later (h n c.args.block t k answers))
    c.along.ensures

pub returns-in_default : goal.returns-in_default
returns-in_default g c = λ n t k message legal borne all.
    no-response n c.args.link c.args.x.now t c.in_default.not-D
