use Rattle.std.proofs.Common.{◌≡◌, ◌≤◌, ◌*◌, ◌%◌, ◌^◌, arith, lit<}
use Rattle.std.proofs.Math.Nat.{pow-le-pow_right}
use Rattle.std.proofs.lemmas.Bool.{eqb-true}
use Rattle.std.proofs.lemmas.Nat.{one_shl, pow_pos}
use Rattle.tl_rules.proofs.Rooms.{room_in_block, room_in_payload}
use Rattle.tl_rules.proofs.place.Span.new.Goals as goal

pub invariant_of-result : goal.invariant_of-result
invariant_of-result g c =
    let bytes : 1 * 2 ^ c.args.size % 2 ^ 64 ≡ 2 ^ c.args.size = one_shl c.args.size 64 (omega arith) in
    let aligned = eqb-true (c.args.address % 2 ^ c.args.size) 0 c.requires.aligned in
    record {
      some = omega (arith, pow_pos c.args.size);
      within_block = omega (arith, room_in_block c.args.size c.args.address c.requires.small aligned);
      within_payload = omega (
        arith,
        room_in_payload g.row.W c.args.size c.args.address c.requires.width
            c.requires.small aligned,
      );
    }

pub returns-clause-few : goal.returns-clause-few
returns-clause-few g c = λ le.
    let bytes : 1 * 2 ^ c.args.size % 2 ^ 64 ≡ 2 ^ c.args.size = one_shl c.args.size 64 (omega arith) in
    let few : 2 ^ c.args.size ≤ 2 ^ 3 = pow-le-pow_right {n = 2} (lit< tt) {i = c.args.size} {j = 3} le in
    omega arith
