-- The invariant that a client's calls keep.
use Rattle.std.specs.Prelude.{ℕ, Bool, true, false, List, [], ◌∷◌, ◌≡◌, ◌==◌, ◌&&◌, Option, Some, None, is_some, ⊤}
use Rattle.tl_beat.specs.declared.beat.Beat.{Beat}
use Rattle.tl_beat.specs.declared.beat.Beat.TheVariants as beat
use Rattle.tl_beat.specs.declared.beat.BeatA.{BeatA}
use Rattle.tl_beat.specs.declared.channel.Channel.TheVariants as channel
use Rattle.tl_beat.specs.declared.opcode.OpA.{OpA}
use Rattle.tl_beat.specs.declared.opcode.OpA.TheVariants as a
use Rattle.tl_burst.specs.statement.Messages.{History, unfinished}
use Rattle.tl_params.specs.declared.key.Key.TheVariants.{AcquireOf}
use Rattle.tl_params.specs.declared.perm.Perm.{Perm}
use Rattle.tl_params.specs.declared.perm.Perm.TheVariants as perm
use Rattle.tl_rules.specs.statement.Conformance.{is_grant_without_data}
use Rattle.tl_rules.specs.statement.History.{block_at, is_acquire, is_grant, capped, pending, held}
use Rattle.tl_client.specs.statement.Endpoint.{Endpoint}
use Rattle.tl_client.specs.statement.Requests.{open_beat}

-- the permission isn't None
abbrev pub holds : Perm → Bool
holds perm.None = false
holds _ = true

-- the opcode is AcquirePerm, which asks to write a whole block
abbrev pub is_acquire_perm : OpA → Bool
is_acquire_perm a.AcquirePerm = true
is_acquire_perm _ = false

-- there is a request, and it is an Acquire of the block
abbrev pub acquires : {w : ℕ} → ℕ → Option (BeatA w) → Bool
acquires k None = false
acquires k (Some r) = is_acquire r.opcode && (block_at r.address == k)

-- there is a request, and it is an AcquirePerm of the block
abbrev pub stores_whole : {w : ℕ} → ℕ → Option (BeatA w) → Bool
stores_whole k None = false
stores_whole k (Some r) = is_acquire_perm r.opcode && (block_at r.address == k)

-- there is a request, and it is an Acquire
abbrev pub is_acquire_beat : {w : ℕ} → Option (BeatA w) → Bool
is_acquire_beat None = false
is_acquire_beat (Some r) = is_acquire r.opcode

-- the unfinished response, if it is a Grant, carries data, gives a permission, and answers a pending Acquire
abbrev pub IsGranting : {w : ℕ} → List (Beat w) → History w → Type 0
IsGranting (beat.D x ∷ burst) t =
    is_grant x.opcode ≡ true → (is_grant_without_data x.opcode ≡ false) × (holds (capped x.param) ≡ true)
    × (is_acquire_beat (open_beat x.source t) ≡ true)
IsGranting _ t = ⊤

-- the invariant: it is true of each end that a client can reach
pub record IsEndpointInvariant {w : ℕ} (e : Endpoint w) : Type 0 where
  -- messages are handed out whole, and a Probe has one beat
  pub a_whole : unfinished channel.A e.past ≡ []
  pub b_whole : unfinished channel.B e.past ≡ []
  pub c_whole : unfinished channel.C e.past ≡ []
  pub e_whole : unfinished channel.E e.past ≡ []
  -- there is a copy of a block exactly if the permission held isn't None
  pub copies_held : (k : ℕ) → is_some (e.copies k) ≡ holds (held k e.past)
  -- the bytes of each AcquirePerm wait for its Grant
  pub awaited : (s k : ℕ) → stores_whole k (open_beat s e.past) ≡ true → is_some (e.waiting k) ≡ true
  -- one Acquire of a block at a time
  pub once : (s r k : ℕ) → acquires k (open_beat s e.past) ≡ true → acquires k (open_beat r e.past) ≡ true → s ≡ r
  pub outstanding : (s k : ℕ) → acquires k (open_beat s e.past) ≡ true → pending (AcquireOf k) e.past ≡ true
  pub granting : IsGranting (unfinished channel.D e.past) e.past
