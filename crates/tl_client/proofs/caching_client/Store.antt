-- What a Store leaves.
use Rattle.tl_client.proofs.Imports.{same_perm, block_at, Caching, Store, low_bytes, copy_stored, caching_terms, zeros}
use Rattle.tl_client.proofs.Imports.{open_at, held_in, copy_in, waiting_in}
use Rattle.std.proofs.Common.{◌≡◌, ℕ, zero, suc, ◌+◌, ◌≤◌, ◌%◌, ◌^◌, Bool, true, false, cond, ◌&&◌, List, ◌∷◌, ◌++◌}
use Rattle.std.proofs.Common.{take, drop, Some, None, refl, sym, ◌∙◌, ap, arith}
use Rattle.std.proofs.lemmas.Bool.{eqb-true}
use Rattle.std.specs.Prelude.{◌==◌, unwrap_or}
use Rattle.std.specs.Int.{to_le_bytes, w64}
use Rattle.tl_params.specs.declared.perm.Perm.TheVariants as perm
use Rattle.tl_rules.specs.statement.Effect.{byte_of}
use Rattle.tl_client.specs.declared.reply.Reply.TheVariants as reply
use Rattle.tl_client.specs.code.Caching.{Does, bytes_in}

first_byte : (value : ℕ) → byte_of value 0 ≡ value % 256
first_byte value = omega arith

low-written : (size value : ℕ) → size ≤ 3 → take (2 ^ size) (to_le_bytes w64 value) ≡ low_bytes value 0 (2 ^ size)
unfolding low_bytes
low-written zero value small = ap (λ b. b ∷ low_bytes value 1 0) (sym (first_byte value))
low-written (suc zero) value small = ap (λ b. b ∷ low_bytes value 1 1) (sym (first_byte value))
low-written (suc (suc zero)) value small = ap (λ b. b ∷ low_bytes value 1 3) (sym (first_byte value))
low-written (suc (suc (suc zero))) value small = ap (λ b. b ∷ low_bytes value 1 7) (sym (first_byte value))
low-written (suc (suc (suc (suc n)))) value small = absurd (omega arith)

-- the bytes that are written are those of the Store
pub written : (address size value at count : ℕ) (old new : List ℕ) → size ≤ 3 → at ≡ address % 64 → count ≡ 2 ^ size
    → new ≡ take at old ++ take count (to_le_bytes w64 value) ++ drop (at + count) old
    → new ≡ copy_stored address size value old
written address size value at count old new small at_is count_is is =
    is ∙ rw (at_is, count_is, low-written size value small) refl

one_block : {w : ℕ} (c : Caching w) (address size value : ℕ) (bytes : List ℕ) (k : ℕ)
    → held_in c.table (block_at address) ≡ perm.Trunk
    → bytes ≡ copy_stored address size value (bytes_in c (block_at address))
    → cond (k == block_at address) (Some bytes) (copy_in c.table k) ≡ cond
    ((k == block_at address) && same_perm perm.Trunk (held_in c.table k))
    (Some (copy_stored address size value (unwrap_or (copy_in c.table k) zeros))) (copy_in c.table k)
one_block c address size value bytes k trunk is = go (k == block_at address) (λ e. eqb-true k (block_at address) e)
  where
    go : (b : Bool) → (b ≡ true → k ≡ block_at address)
        → cond b (Some bytes) (copy_in c.table k) ≡ cond (b && same_perm perm.Trunk (held_in c.table k))
        (Some (copy_stored address size value (unwrap_or (copy_in c.table k) zeros))) (copy_in c.table k)
    go false same = refl
    go true same = rw (same refl, trunk, is) refl

pub does-stored : {w : ℕ} (c d : Caching w) (address size value : ℕ) (bytes : List ℕ)
    → held_in c.table (block_at address) ≡ perm.Trunk
    → bytes ≡ copy_stored address size value (bytes_in c (block_at address))
    → ((k : ℕ) → held_in d.table k ≡ held_in c.table k)
    → ((k : ℕ) → copy_in d.table k ≡ cond (k == block_at address) (Some bytes) (copy_in c.table k))
    → ((k : ℕ) → waiting_in d.table k ≡ waiting_in c.table k)
    → d.requests ≡ c.requests → d.releases ≡ c.releases → d.responses ≡ c.responses → d.granting ≡ c.granting
    → d.closed ≡ c.closed → caching_terms d ≡ caching_terms c
    → Does c d (Store address size value) (reply.Stored, None)
does-stored c d address size value bytes trunk is holds copies waiting requests releases responses granting closed
    terms = record {
      answer = rw trunk refl;
      requests = λ s. ap (λ m. open_at m s) requests;
      releases = λ s. ap (λ m. open_at m s) releases;
      holdings = holds;
      copies = λ k. copies k ∙ one_block c address size value bytes k trunk is;
      waiting = waiting;
      response = responses;
      granting = granting;
      closed = closed;
      terms = terms;
    }
