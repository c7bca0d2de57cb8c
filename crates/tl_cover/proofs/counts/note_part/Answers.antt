use Rattle.std.proofs.Common.{◌<◌, arith, rules}
use Rattle.std.proofs.Math.Nat.{min-le_left}
use Rattle.tl_cover.proofs.Rows.{row_next}
use Rattle.tl_cover.proofs.counts.note_part.Goals as goal

pub loop-i-preserved : goal.loop-i-preserved
loop-i-preserved g c = λ all low high before.
    let had = c.loop-i.invariant all low high before in
    let inside : c.loop-i.i < c.args.to =
    omega (arith, c.loop-i-test.true, c.min-i-end.ensures, min-le_left c.args.to c.len.result) in (
      omega (arith, inside),
      row_next c.args.line c.args.beat.now c.args.scene.now all c.loop-i.rows.items c.loop-i.i
          c.index.result.now c.index_mut.result.now c.note.new.self c.meets-came.result (omega (arith, inside, high)) had.1
          (search rules) (search rules) c.meets-came.ensures c.in_ok-note.ensures,
    )
