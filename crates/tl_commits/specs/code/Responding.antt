-- The values that the bytes of a response may have, as a judge answers them.
use Rattle.std.specs.Prelude.{ℕ, Bool, ◌+◌, ◌*◌, ◌<◌, ◌≤◌, ◌≡◌, Option, Some, None, ⊤}
use Rattle.tl_bytes.specs.statement.Bytes.{Access}
use Rattle.tl_memory.specs.code.ByteSet.{has_at}
use Rattle.tl_rules.specs.declared.past.Request.{Request}
use Rattle.tl_commits.specs.declared.responding.ResponseBytes.{ResponseBytes}
use Rattle.tl_commits.specs.statement.Completeness.{Completeness}
use Rattle.tl_commits.specs.statement.Events.{Events}
use Rattle.tl_commits.specs.statement.ResponseBytes.{answered_from, granted_from, may_be_answered, may_be_granted}

-- the next beat brings bytes of the block from this address on, and the values of each byte of the block are those for
-- which the test is true
pub record AreBytes (b : ResponseBytes) (w from : ℕ) (test : ℕ → ℕ → Bool) : Type 0 where
  pub from_is : 64 * b.block + b.first ≡ from
  pub inside : b.first + w ≤ 64
  pub sets_are : (place v : ℕ) → place < 64 → v < 256 → has_at b.sets place v ≡ test (64 * b.block + place) v

-- M2: the values of the bytes of a GrantData, if it answers this request
abbrev pub AreGranted : {w : ℕ} → Option ResponseBytes → Completeness → ℕ → ℕ → Option Request → Events w → Type 0
AreGranted None complete n link None e = ⊤
AreGranted {w} (Some b) complete n link (Some asked) e =
    AreBytes b w (granted_from link asked e) (may_be_granted complete n link e)
AreGranted _ complete n link _ e = ⊥

-- M3: the values of the bytes of an AccessAckData, if it answers this access
abbrev pub AreAnswered : {w : ℕ} → Option ResponseBytes → Completeness → ℕ → ℕ → Option (Access w) → Events w → Type 0
AreAnswered None complete n link None e = ⊤
AreAnswered {w} (Some b) complete n link (Some access) e =
    AreBytes b w (answered_from link access e) (may_be_answered complete n link access e)
AreAnswered _ complete n link _ e = ⊥
