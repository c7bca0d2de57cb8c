use Rattle.std.proofs.Common.{ℕ, ◌≡◌, ◌∙◌, ◌-◌, ◌+◌, suc, sym, drop, arith}
use Rattle.std.proofs.lemmas.List.{length-replicate, length-set}
use Rattle.std.proofs.lemmas.Result.{err_from_is_err_and}
use Rattle.tl_beat.proofs.LanesAt.{lanes-init, lanes-step, lanes-fail, lanes-done, lanes-left, drop_set_more}
use Rattle.tl_beat.proofs.read.field.any_lanes.Goals as goal

pub loop-i-init : goal.loop-i-init
loop-i-init g c = record {
  same = lanes-init g.row.W c.args.field.now;
  len = length-replicate {A = ℕ} g.row.W 0;
}

pub returns-in_err-lane : goal.returns-in_err-lane
returns-in_err-lane g c =
    let p = err_from_is_err_and c.from_residual.result c.from_residual.ensures.1 in
    let left : g.row.W - c.loop-i.i ≡ suc (g.row.W - (c.loop-i.i + 1)) = omega arith in
    rw (p.1, p.2) (sym (lanes-fail _ _ _ c.loop-i.rest.now c.in_err-lane.field-0.0 left c.in_err-lane.ensures)
    ∙ c.loop-i.invariant.same)

pub loop-i-preserved : goal.loop-i-preserved
loop-i-preserved g c =
    let left : g.row.W - c.loop-i.i ≡ suc (g.row.W - (c.loop-i.i + 1)) = omega arith in
    record {
      same = sym (lanes-step (drop (g.row.W - c.loop-i.i) c.loop-i.lanes) _ _ _ c.in_ok-lane.lane c.loop-i.rest.now
          c.in_ok-lane.after.now left c.in_ok-lane.ensures
          (drop_set_more c.loop-i.lanes g.row.W c.loop-i.i c.in_ok-lane.lane (omega arith) c.loop-i.invariant.len))
          ∙ c.loop-i.invariant.same;
      len = length-set _ _ _ ∙ c.loop-i.invariant.len;
    }

pub returns-then-not-is_empty : goal.returns-then-not-is_empty
returns-then-not-is_empty g c = sym (lanes-left _ _ c.loop-i.rest.now (omega arith) (c.if-not-is_empty.ensures))
    ∙ c.loop-i.invariant.same

pub returns : goal.returns
returns g c =
    sym (lanes-done c.loop-i.lanes (g.row.W - c.loop-i.i) c.loop-i.rest.now (omega arith) c.if-not-is_empty.ensures)
    ∙ c.loop-i.invariant.same
