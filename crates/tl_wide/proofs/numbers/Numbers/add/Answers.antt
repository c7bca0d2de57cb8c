use Rattle.std.proofs.Common.{◌≡◌, ◌∙◌, ◌+◌, ◌^◌, ◌<◌, ◌%◌, arith, false, length, refl, sym}
use Rattle.std.proofs.lemmas.Grind.{common_steps}
use Rattle.std.proofs.Math.Nat.{mod-eq_of_lt}
use Rattle.tl_rules.specs.statement.Legality.{is_one_of}
use Rattle.tl_wide.proofs.Naming.{filled-more, found-none, one-known, place-last, within-limit}
use Rattle.tl_wide.specs.statement.Numbers.{found_in}
use Rattle.tl_wide.proofs.numbers.Numbers.add.Goals as goal

pub returns-clause-numbered : goal.returns-clause-numbered
returns-clause-numbered c = λ names knows none le.
    let fresh : is_one_of c.args.name names ≡ false = found-none (found_in c.args.self.now c.args.name) names c.args.name
    (knows.places_are c.args.name) none in
    let few : length names < c.args.limit =
    first_of (
      omega (arith, c.if-self-limit.false, knows.count_is),
      grind (
        arith,
        common_steps,
        c.if-self-limit.false,
        knows.count_is,
      ),
    ) in
    let fits : c.args.self.now.count + 1 < 2 ^ 32 = omega (arith, few, knows.count_is, c.ranges.limit.fits) in (
      within-limit c.args.limit c.args.name names fresh few,
      rw fresh (knows.count_is ∙ sym (place-last names c.args.name fresh)),
      rw fresh (one-known c.args.self.now _ names c.args.name knows fresh none refl (mod-eq_of_lt fits)
          (filled-more c.args.self.now.recent.items c.make_slots.new.slots.items c.fill_slot.new.slots.items
          (c.args.name % 256) c.args.name c.args.self.now.count c.in_ok-make_slots.ensures c.fill_slot.ensures)
          c.in_ok-insert.ensures.more),
    )
