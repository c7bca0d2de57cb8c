-- What is kept of a block whose only access is a Put, with one more beat of its request.
use Rattle.tl_memory.proofs.Imports.{AreRenewed, PendingAccess, staying}
use Rattle.std.proofs.Common.{◌≡◌, ℕ, Bool, true, false, List, [], ◌∷◌, length, get_or, refl, sym, ap, arith}
use Rattle.std.specs.{Global.Vec, Prelude.Option}
use Rattle.tl_beat.specs.declared.beat.Link.{Link}
use Rattle.tl_bytes.specs.statement.Bytes.{is_put}
use Rattle.tl_memory.specs.code.Writers.{grown_in, IsGrown, stays, with_writer}
use Rattle.tl_memory.specs.declared.writer.Writer.{Writer}
use Rattle.tl_memory.proofs.states.Keeping.{copied-left, copied-none}

pub only-one : {X : Type 0} (xs : List X) (x : X) → length xs ≡ 1 → x ≡ get_or xs 0 x → xs ≡ x ∷ []
only-one [] x long is = absurd (omega (arith, long))
only-one (y ∷ []) x long is = ap (λ z. z ∷ []) (sym is)
only-one (y ∷ z ∷ zs) x long is = absurd (omega (arith, long))

module _ {w : ℕ} (writer : Writer w) (only : PendingAccess w) where
  -- the accesses are then the one with its new writer
  pub grown-items : (old : Vec (PendingAccess w)) (items : List (PendingAccess w)) → items ≡ only ∷ []
      → old.items ≡ only ∷ [] → (grown_in writer old items).items ≡ with_writer writer only ∷ []
  grown-items old items is here = rw (is, here) refl

  -- a Put finds no bytes
  pub put-grown : (more : PendingAccess w → ℕ → ℕ → Bool) → is_put only.writer.asked.request.opcode ≡ true
      → IsGrown writer more only (with_writer writer only)
  put-grown more put = record {
    writer_is = refl;
    windows_are = refl;
    read_is = λ other. absurd (never (rw put at other));
  }
    where
      never : true ≡ false → ⊥
      never e = cc

-- no other stays
pub none-stays : {w : ℕ} (more : PendingAccess w → ℕ → ℕ → Bool) (gone : Option (Link × ℕ)) (only : PendingAccess w)
    (items : List (PendingAccess w)) → items ≡ only ∷ [] → stays gone only ≡ false
    → AreRenewed more (staying gone items) []
none-stays more gone only items is off =
    rw is (copied-left gone more 0 (only ∷ []) [] only (copied-none gone more (only ∷ [])) refl (omega arith) off)
