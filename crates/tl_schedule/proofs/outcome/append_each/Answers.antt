use Rattle.std.proofs.Common.{◌≡◌, ◌++◌, [], refl, rules, arith}
use Rattle.tl_schedule.proofs.ByteDigits.{append-step, both-pushed, nothing_behind}
use Rattle.tl_schedule.proofs.outcome.append_each.Goals as goal

pub loop-i-init : goal.loop-i-init
loop-i-init c =
    let empty : c.new-text.result.items ≡ [] = search rules in
    record { text = rw empty (nothing_behind _ c.args.bytes.now [] (omega arith)); len = rw empty refl }

pub loop-i-preserved : goal.loop-i-preserved
loop-i-preserved c =
    let pushed : c.push-in-loop-i.new.self.items ≡ c.loop-i.text.items ++ c.pair.result =
    rw (c.push-in-loop-i.ensures.items, c.push.ensures.items)
    (both-pushed _ c.loop-i.text.items c.pair.result c.pair.ensures) in
    record {
      text = rw pushed (append-step c.loop-i.i c.args.bytes.now [] c.loop-i.text.items c.pair.result (search rules)
          c.pair.ensures c.loop-i.invariant.text);
      len = omega (arith, c.push-in-loop-i.ensures.len, c.push.ensures.len, c.loop-i.invariant.len);
    }
