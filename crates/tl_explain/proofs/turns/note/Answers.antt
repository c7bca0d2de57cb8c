use Rattle.std.proofs.Common.{rules, ◌∙◌}
use Rattle.tl_rules.specs.statement.Conformance.{on_link}
use Rattle.tl_explain.proofs.follows.Keys.{granted, turn_next}
use Rattle.tl_explain.proofs.turns.note.Goals as goal

pub returns : goal.returns
returns g c = λ n link t is turn.
    turn_next c.args.turn.now c.take.new.self n c.args.key c.args.moment.now (link, c.args.beat.now) t c.opens.result
    c.closes.result is turn (c.opens.ensures (on_link n t) is.block_is)
    (c.closes.ensures (on_link n t) is.block_is
    (λ b e. c.sink_of-granted.ensures ∙ granted c.args.turn.now n c.args.key t turn b e)) (search rules)
    (search rules)
