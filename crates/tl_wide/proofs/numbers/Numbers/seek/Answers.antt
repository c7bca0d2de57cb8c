use Rattle.std.proofs.Common.{refl, sym, ◌%◌}
use Rattle.tl_wide.proofs.Naming.{filled, recent-known}
use Rattle.tl_wide.proofs.numbers.Numbers.seek.Goals as goal

pub returns : goal.returns
returns c = λ names knows. (
  recent-known c.args.self.now _ names c.args.name c.in_ok-place.place knows (sym c.in_ok-place.ensures) refl refl refl
      (filled c.args.self.now.recent.items c.fill_slot.new.slots.items (c.args.name % 256) c.args.name
      c.in_ok-place.place c.fill_slot.ensures),
  c.in_ok-place.ensures,
  refl,
)
