use Rattle.std.proofs.Common.{ap, refl, ◌∙◌}
use Rattle.tl_times.proofs.Timing.{all_timed, begun}
use Rattle.tl_times.specs.code.Timing.{cites}
use Rattle.tl_times.proofs.times.append_timed.Goals as goal

pub judge_input-requires : goal.judge_input-requires
judge_input-requires g c = rw c.new-said.ensures.items (c.new-lines.ensures.knows (begun (record { pieces = c.in_ok-pieces.pieces; next = 2 }) refl c.in_ok-pieces.ensures.1))

pub returns-clause-ok : goal.returns-clause-ok
returns-clause-ok g c =
    let (read, consumed, told, ended, has, stands) = c.in_ok-judge_input.ensures.ok in
    all_timed c.judge_input.new.lines.handler read _ _ c.in_ok-judge_input.field-0 _ c.args.explanation.now c.args.out.now.items _
    consumed ended has
    (c.in_ok-judge_input.ensures.purpose ∙ (ap cites c.new-lines.ensures.handler ∙ c.in_ok-pieces.ensures.0))
    (rw (← c.handler.ensures, ← c.as_slice.ensures.value) c.in_ok-append_pieces.ensures)
