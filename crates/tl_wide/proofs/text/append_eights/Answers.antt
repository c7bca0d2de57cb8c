use Rattle.std.proofs.Common.{◌≡◌, ◌≤◌, ◌+◌, ◌-◌, ◌*◌, ◌/◌, ◌++◌, length, arith, rules}
use Rattle.tl_wide.proofs.Digits.{eight-more, nothing-behind}
use Rattle.tl_wide.proofs.text.append_eights.Goals as goal

pub loop-i-init : goal.loop-i-init
loop-i-init c = record {
  text = nothing-behind _ c.args.lanes.now c.args.line.now.items (omega (arith, c.requires.eights));
  len = omega arith;
}

pub loop-i-preserved : goal.loop-i-preserved
loop-i-preserved c =
    let count = length c.args.lanes.now / 8 in
    let at = 8 * (count - 1 - c.loop-i.i) in
    let here : 8 * (count - (c.loop-i.i + 1)) ≡ at = omega arith in
    let behind : 8 * (count - c.loop-i.i) ≡ at + 8 = omega (arith, c.loop-i-test.true) in
    let room : length c.loop-i.line.items + 16 ≤ 192 =
    omega (arith, c.requires.room, c.requires.eights, c.loop-i.invariant.len, c.loop-i-test.true) in
    let shown : c.try_extend_from_slice.new.self.items ≡ c.loop-i.line.items ++ c.sixteen_digits.result =
    search (rules, room) in
    let longer : length c.try_extend_from_slice.new.self.items ≡ length c.loop-i.line.items + 16 =
    search (rules, room) in
    record {
      text = rw (shown, here) (eight-more at c.args.lanes.now c.args.line.now.items c.loop-i.line.items
          c.sixteen_digits.result (search rules) (rw behind at c.loop-i.invariant.text));
      len = omega (arith, longer, c.loop-i.invariant.len);
    }
