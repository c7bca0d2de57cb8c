use Rattle.std.proofs.Common.{arith, ap, refl, ◌∙◌, ◌≡◌, ◌*◌, ◌+◌, ◌-◌, length}
use Rattle.std.specs.Prelude.{if◌then◌else◌, ◌&&◌, nat_le, nat_lt, slice_get}
use Rattle.tl_bytes.specs.statement.KnownBytes.{known_at}
use Rattle.tl_bytes.proofs.Brought.{lane-off, lanes-put, whole_beat, width_positive}
use Rattle.tl_bytes.proofs.carried.CarriedBytes.put.Goals as goal

pub returns-then-end-gt64-clause-bytes : goal.returns-then-end-gt64-clause-bytes
returns-then-end-gt64-clause-bytes g c = λ p lt.
    let w = g.row.W in
    let n = c.args.self.now.beats in
    rw (lane-off w n (length c.args.lanes.now) p (width_positive w c.requires)
    (λ from to. omega (
      arith,
      whole_beat w n p c.requires lt from,
      c.saturating_mul-first.ensures,
      c.saturating_add-end.ensures,
      c.if-end-gt64.true,
    ))) refl

pub returns-clause-bytes : goal.returns-clause-bytes
returns-clause-bytes g c = λ p lt.
    let w = g.row.W in
    let n = c.args.self.now.beats in
    let first : c.saturating_mul-first.result ≡ w * n =
    omega (arith, c.saturating_mul-first.ensures, c.saturating_add-end.ensures, c.if-end-gt64.false) in
    c.set_all.ensures p
    ∙ ap (λ k. if nat_le k p && nat_lt p (k + w) then slice_get c.args.lanes.now (p - k)
    else known_at c.args.self.now.bytes p) first
    ∙ lanes-put w n p c.args.lanes.now (known_at c.args.self.now.bytes p) (width_positive w c.requires) c.told-lanes
