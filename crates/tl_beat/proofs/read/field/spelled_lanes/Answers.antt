use Rattle.std.proofs.Common.{rules, arith, ap, ◌≡◌, ◌*◌, ◌+◌, ◌-◌, ◌/◌, ℕ, take, drop}
use Rattle.tl_beat.proofs.LanesAt.{lanes-eight, lanes-all}
use Rattle.tl_beat.proofs.read.field.spelled_lanes.Goals as goal

pub loop-i-preserved : goal.loop-i-preserved
loop-i-preserved g c =
    let sixteen : 16 * c.loop-i.i + 16 - 16 * c.loop-i.i ≡ 16 = omega arith in
    record {
      same = lanes-eight g.row.W c.loop-i.i c.loop-i.lanes c.args.field.now _ c.in_ok-eight.eight _ _ (search rules)
          c.loop-i.invariant.len
          (ap (λ (k : ℕ). take k (drop (16 * c.loop-i.i) c.args.field.now)) sixteen) c.in_ok-eight.ensures
          c.copy_eight.ensures c.loop-i.invariant.same;
      len = search rules;
    }

pub returns : goal.returns
returns g c =
    let end : c.loop-i.i ≡ g.row.W / 8 = search rules in
    let whole : g.row.W ≡ 8 * c.loop-i.i = search rules in
    lanes-all g.row.W c.loop-i.i c.loop-i.lanes c.args.field.now _ whole (search rules) c.loop-i.invariant.same
