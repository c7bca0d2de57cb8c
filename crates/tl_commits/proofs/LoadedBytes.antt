-- The bytes that a load may bring.
use Rattle.std.proofs.Common.{◌≡◌, ◌<◌, ◌+◌, ◌*◌, ◌/◌, ◌%◌, ℕ, Bool, true, false, ◌&&◌, ◌||◌, length, refl, sym, ap}
use Rattle.std.proofs.Common.{◌∙◌, arith}
use Rattle.std.specs.Prelude.{if◌then◌else◌, nat_lt, Option, Some, None, is_some}
use Rattle.tl_beat.specs.declared.channel.Channel.TheVariants as channel
use Rattle.tl_burst.specs.statement.Messages.{History, unfinished}
use Rattle.tl_rules.specs.statement.History.{block_at}
use Rattle.tl_bytes.specs.statement.Bytes.{carried_byte, could_be, told_as}
use Rattle.tl_commits.specs.code.Filling.{filled}
use Rattle.tl_commits.specs.statement.Completeness.{Completeness}
use Rattle.tl_commits.specs.statement.Commits.{brings, may_bring, may_have}
use Rattle.tl_commits.specs.statement.Copies.{brought, holds, is_filling, is_known, link_beats}
use Rattle.tl_commits.specs.statement.Events.{Events}
use Rattle.tl_commits.specs.statement.Seen.{values_seen}

-- a byte of the same block
pub block-from : (address i : ℕ) → address % 64 + i < 64 → block_at address ≡ block_at (address + i)
block-from address i room = omega (arith, room)

pub address-from : (address i : ℕ) → 64 * (address / 64) + (address % 64 + i) ≡ address + i
address-from address i = omega arith

-- the byte that a Grant under way has brought
pub brought-is : {w : ℕ} (address : ℕ) (past : History w) → is_some (brought address past) ≡ true
    → brought address past ≡ Some (carried_byte (unfinished channel.D past) (address % 64))
brought-is {w} address past = go (is_filling (address / 64) past && nat_lt (address % 64 / w) (length (unfinished channel.D past)))
  where
    go : {X : Type 0} (b : Bool) {v : X} → is_some (if b then Some v else None) ≡ true
        → (if b then Some v else None) ≡ Some v
    go true e = refl
    go false e = absurd cc

pub not-brought : {X : Type 0} (o : Option X) → is_some o ≡ false → o ≡ None
not-brought None e = refl
not-brought (Some v) e = absurd cc

module _ {w : ℕ} (complete : Completeness) (n link address v : ℕ) (e : Events w) where
  -- what the copy may have: nothing if there is none, any byte if it isn't known
  pub have-none : holds (block_at address) (link_beats link e) ≡ false → may_have complete n link address v e ≡ false
  have-none off = rw off refl

  pub have-unknown : holds (block_at address) (link_beats link e) ≡ true
      → is_known complete link (block_at address) (link_beats link e) ≡ false
      → true ≡ may_have complete n link address v e
  have-unknown on unknown = rw (on, unknown) refl

  pub have-known : holds (block_at address) (link_beats link e) ≡ true
      → is_known complete link (block_at address) (link_beats link e) ≡ true
      → told_as v (values_seen complete n address e) ≡ may_have complete n link address v e
  have-known on known = rw (on, known) refl

  -- what a load may bring: what a Grant under way has brought, or else what the copy may have
  pub brings-filled : (own held : Bool) → held ≡ (own || may_have complete n link address v e)
      → filled (brought address (link_beats link e)) own held v ≡ (own || may_bring complete n link address v e)
  brings-filled own held is = go (brought address (link_beats link e))
    where
      go : (o : Option (Option ℕ)) → filled o own held v ≡ (own || brings o complete n link address v e)
      go None = is
      go (Some value) = refl

-- a byte that a Grant under way has brought, or hasn't
module _ {w : ℕ} (block place : ℕ) (past : History w) (lt : place < 64) (own held : Bool) (v : ℕ) where
  pub fills-one : (value : Option ℕ) → is_some (brought (64 * block + place) past) ≡ true
      → value ≡ carried_byte (unfinished channel.D past) place
      → (own || could_be v value) ≡ filled (brought (64 * block + place) past) own held v
  fills-one value on value_is =
      let at : (64 * block + place) % 64 ≡ place = omega (arith, lt) in
      ap (λ u. own || could_be v u) (value_is ∙ ap (carried_byte (unfinished channel.D past)) (sym at))
      ∙ ap (λ o. filled o own held v) (sym (brought-is (64 * block + place) past on))

  pub fills-none : is_some (brought (64 * block + place) past) ≡ false
      → held ≡ filled (brought (64 * block + place) past) own held v
  fills-none off = ap (λ o. filled o own held v) (sym (not-brought (brought (64 * block + place) past) off))
