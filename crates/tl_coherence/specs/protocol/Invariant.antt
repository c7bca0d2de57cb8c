-- What holds of the protocol after every event.
use Rattle.std.specs.Prelude.{ℕ, Bool, true, false, not, ◌&&◌, ◌==◌, ◌≡◌, Option, Some, None, ⊤}
use Rattle.tl_beat.specs.declared.channel.Channel.{Channel}
use Rattle.tl_params.specs.declared.param.Cap.{Cap}
use Rattle.tl_params.specs.declared.param.Cap.TheVariants as cap
use Rattle.tl_params.specs.declared.param.Grow.TheVariants as grow
use Rattle.tl_params.specs.declared.perm.Perm.TheVariants as perm
use Rattle.tl_rules.specs.statement.Conformance.{same_perm}
use Rattle.tl_coherence.specs.protocol.Phase.{AcquirePhase, AcquireOpen, same_cap, ClientBlock, View, NoProbe}
use Rattle.tl_coherence.specs.protocol.Phase.{NoRelease, NoAcquire, ok, is_unprobed, is_unreleased}
use Rattle.tl_coherence.specs.protocol.Packet.{Kind, Request, Answer, Holds, IsOrdered, count}
use Rattle.tl_coherence.specs.protocol.Protocol.{Service, Free, Waits, Block, State, SourceState, Asked, InService}
use Rattle.tl_coherence.specs.protocol.Protocol.{Replied, Acquires, view, is_on}
use Rattle.tl_coherence.specs.protocol.Tokens.{is_wanting, is_granting, is_transfer, shown}
use Rattle.tl_coherence.specs.protocol.Protocol.{on, packets_on}

-- one with nothing in flight and nothing held
abbrev pub resting : ClientBlock
resting = record {
  recorded = perm.None;
  probing = NoProbe;
  letting = NoRelease;
  held = perm.None;
  acquiring =
      NoAcquire;
}

-- what the client was given to write hasn't come back: Trunk is recorded, and its Grant was taken
abbrev pub is_out : ClientBlock → View → Bool
is_out p v = same_perm p.recorded perm.Trunk && not (is_granting v)

-- a service that waits has someone to wait for
abbrev pub IsAwaited : Service → (ℕ → ClientBlock) → Type 0
IsAwaited (Waits r own s k) pair = (c : ℕ) × (is_unprobed (pair c).probing ≡ false)
IsAwaited _ pair = ⊤

-- the cap with which an Acquire probes
abbrev pub cap_asked : AcquirePhase → Cap
cap_asked (AcquireOpen whole grow.NtoB) = cap.ToB
cap_asked _ = cap.ToN

-- a service for an Acquire probes with its cap
abbrev pub IsAskedCap : Service → (ℕ → ClientBlock) → Type 0
IsAskedCap (Waits r true s k) pair = same_cap k (cap_asked (pair r).acquiring) ≡ true
IsAskedCap _ pair = ⊤

-- a service for an Acquire has its source
abbrev pub IsOwnSource : Service → (ℕ → ℕ) → Type 0
IsOwnSource (Waits r true s k) source = s ≡ source r
IsOwnSource _ source = ⊤

-- a Trunk that is probed is probed alone
abbrev pub IsAlone : (ℕ → ClientBlock) → Type 0
IsAlone pair =
    (c d : ℕ) → same_perm (pair c).recorded perm.Trunk ≡ true → is_unprobed (pair c).probing ≡ false → (d ≡ c → ⊥)
    → is_unprobed (pair d).probing ≡ true

-- beside a Trunk nobody is recorded
abbrev pub IsOwned : (ℕ → ClientBlock) → Type 0
IsOwned pair = (c d : ℕ) → same_perm (pair c).recorded perm.Trunk ≡ true → (d ≡ c → ⊥)
    → same_perm (pair d).recorded perm.None ≡ true

-- only caching clients have to do with blocks
abbrev pub AreOutside : (ℕ → Bool) → (ℕ → ClientBlock) → Type 0
AreOutside caching pair = (c : ℕ) → caching c ≡ false → pair c ≡ resting

pub record IsWell {X : Type 0} (caching : ℕ → Bool) (b : Block X) : Type 0 where
  -- each client's part
  pub phases : (c : ℕ) → ok (b.pair c) (view b.service c) ≡ true
  -- the block's service, and who owns it
  pub awaited : IsAwaited b.service b.pair
  pub asked_cap : IsAskedCap b.service b.pair
  pub own_source : IsOwnSource b.service b.source
  pub alone : IsAlone b.pair
  pub one_owner : IsOwned b.pair
  pub outside : AreOutside caching b.pair
  -- each copy has the block's bytes
  pub copies : (c : ℕ) → same_perm (b.pair c).held perm.None ≡ false → b.copy c ≡ b.truth
  -- and so has memory, unless Trunk was given and hasn't come back
  pub memory : ((c : ℕ) → is_out (b.pair c) (view b.service c) ≡ false) → b.memory ≡ b.truth

abbrev pub is_asked : SourceState → Bool
is_asked Asked = true
is_asked _ = false

abbrev pub is_replied : SourceState → Bool
is_replied Replied = true
is_replied _ = false

-- ---- which block a source or a tracker is of

abbrev pub is_of : ℕ → Option ℕ → Bool
is_of n None = false
is_of n (Some m) = n == m

abbrev pub acquires_of : ℕ → SourceState → Bool
acquires_of n (Acquires m) = n == m
acquires_of n _ = false

abbrev pub serves_of : ℕ → SourceState → Bool
serves_of n (InService m) = n == m
serves_of n _ = false

-- the client's Acquire of the block is open with this source
abbrev pub acquires_with : {X : Type 0} → ℕ → ℕ → Block X → Bool
acquires_with c source b = is_wanting (b.pair c).acquiring && (source == b.source c)

-- the client's access with this source has the block in service
abbrev pub is_serving : ℕ → ℕ → Service → Bool
is_serving c source (Waits r false t k) = (c == r) && (source == t)
is_serving c source _ = false

abbrev pub serves_with : {X : Type 0} → ℕ → ℕ → Block X → Bool
serves_with c source b = is_serving c source b.service

-- the client's Release of the block is open with this source
abbrev pub releases_with : {X : Type 0} → ℕ → ℕ → Block X → Bool
releases_with c source b = not (is_unreleased (b.pair c).letting) && (source == b.release_source c)

abbrev pub is_busy : Service → Bool
is_busy Free = false
is_busy _ = true

-- the block is in service with this tracker
abbrev pub tracks_with : {X : Type 0} → ℕ → Block X → Bool
tracks_with i b = is_busy b.service && (i == b.tracker)

-- each of these numbers is of a block exactly where the block says so: so it is of one block alone
abbrev pub Names : {A B : Type 0} → (ℕ → A → Bool) → (ℕ → B → Bool) → (ℕ → A) → (ℕ → B) → Type 0
Names of holds f block = (i n : ℕ) → of n (f i) ≡ holds i (block n)

pub record AreNamed {X : Type 0} (s : State X) : Type 0 where
  pub acquires : (c : ℕ) → Names acquires_of (acquires_with c) (s.uses c) s.block
  pub serves : (c : ℕ) → Names serves_of (serves_with c) (s.uses c) s.block
  pub releases : (c : ℕ) → Names is_of (releases_with c) (s.lets c) s.block
  pub trackers : Names is_of tracks_with s.tracked s.block

-- ---- the whole

pub record IsInvariant {X : Type 0} (caching : ℕ → Bool) (s : State X) : Type 0 where
  pub blocks : (n : ℕ) → IsWell caching (s.block n)
  -- on each channel stand exactly the tokens of what is on its way there
  pub transfers : (c : ℕ) (k : Kind) → is_transfer k ≡ true → Holds k (on k (s.link c)) (λ n. shown k c (s.block n))
  pub requests : (c : ℕ) → Holds Request (s.link c).a (λ n. is_asked (s.uses c n))
  pub answers : (c : ℕ) → Holds Answer (s.link c).d (λ n. is_replied (s.uses c n))
  -- a channel has tokens of its own kinds alone
  pub own_kinds : (c : ℕ) (ch : Channel) (k : Kind) (n : ℕ) → is_on ch k ≡ false
      → count k n (packets_on ch (s.link c)) ≡ 0
  -- a ProbeAck of a block stands before a Release of it
  pub ordered : (c n : ℕ) → IsOrdered n (s.link c).c
  pub named : AreNamed s
