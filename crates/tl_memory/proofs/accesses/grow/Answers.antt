use Rattle.std.proofs.Common.{arith, ap, refl, sym, ◌≡◌, ◌<◌, ℕ, List, [], ◌∷◌, length, slice_get}
use Rattle.std.specs.Prelude.{Some}
use Rattle.std.specs.Box.{box_value}
use Rattle.std.{specs.Global.Vec, specs.Vec.with_item, proofs.lemmas.Option.slice_get_read}
use Rattle.tl_memory.specs.{code.Writers.grown_in, code.Writers.with_writer, declared.pending.PendingAccess.PendingAccess}
use Rattle.tl_memory.specs.declared.writer.Writer.{Writer}
use Rattle.tl_memory.proofs.accesses.grow.Goals as goal

newest-grows : {w : ℕ} (writer : Writer w) (old : Vec (PendingAccess w)) (items : List (PendingAccess w))
    (newest : PendingAccess w) → slice_get items 0 ≡ Some newest
    → with_item old 0 (with_writer writer newest) ≡ grown_in writer old items
newest-grows writer old [] newest there = absurd cc
newest-grows writer old (x ∷ xs) newest there = ap (λ one. with_item old 0 (with_writer writer one)) (sym (same there))
  where
    same : {X : Type 0} {x y : X} → Some x ≡ Some y → x ≡ y
    same e = cc

pub returns-in-Some : goal.returns-in-Some
returns-in-Some g c =
    let old = c.args.accesses.now in
    let newest = c.in-Some.newest.now in
    let below : 0 < length old.items = omega (arith, c.in-Some.ensures.variant.0 refl, old.ok) in
    let grown = newest-grows (box_value c.args.writer) old old.items newest
    (slice_get_read old.items (length old.items) 0 newest refl below c.in-Some.ensures.value) in
    rw c.into_inner-newest.ensures grown
