-- The state of a block's bytes, after the beats of all links of a manager.
use Rattle.std.specs.Prelude.{ℕ, zero, suc, Bool, true, false, not, [], ◌∷◌, ◌==◌, ◌&&◌, ◌||◌, ◌+◌, ◌*◌, ◌<◌, ◌≡◌}
use Rattle.std.specs.Prelude.{if◌then◌else◌, List, filter, find, is_some, length, nat_lt, Option, Some, None}
use Rattle.tl_beat.specs.declared.beat.Beat.{Beat}
use Rattle.tl_beat.specs.declared.beat.Link.{Link}
use Rattle.tl_params.specs.declared.perm.Perm.TheVariants as perm
use Rattle.tl_rules.specs.statement.Conformance.{Trace, on_link}
use Rattle.tl_bytes.specs.statement.Early.{Outrun, telling_beats}
use Rattle.tl_bytes.specs.statement.Free.{is_free}
use Rattle.tl_bytes.specs.declared.block_bytes.BlockBytes.{BlockBytes}
use Rattle.tl_bytes.specs.code.Tellings.{is_written, left_as, telling_at, value_at}
use Rattle.tl_bytes.specs.declared.carried.CarriedBytes.{CarriedBytes}
use Rattle.tl_bytes.specs.declared.known_bytes.KnownBytes.{KnownBytes}
use Rattle.tl_bytes.specs.statement.KnownBytes.{known_at}
use Rattle.tl_bytes.specs.declared.read_bytes.ReadBytes.{ReadBytes}
use Rattle.tl_bytes.specs.declared.standing.Standing.{Standing}
use Rattle.tl_bytes.specs.declared.write.Write.{Write}
use Rattle.tl_bytes.specs.declared.standing.Standing.TheVariants as standing
use Rattle.tl_bytes.specs.declared.telling.Possible.{Possible}
use Rattle.tl_bytes.specs.declared.telling.Telling.{Telling}
use Rattle.tl_bytes.specs.declared.telling.Told.{Told}
use Rattle.tl_bytes.specs.declared.windows.WindowCount.{WindowCount}
use Rattle.tl_bytes.specs.declared.windows.WindowCount.TheVariants as count
use Rattle.tl_bytes.specs.declared.windows.WritingWindows.{WritingWindows}
use Rattle.tl_bytes.specs.statement.Bytes.{after_beat, could_be, is_settled, may_grant, may_read, may_write, pending_accesses}
use Rattle.tl_bytes.specs.statement.Bytes.{Access, access_writes, carried_byte, may_be, value_left}
use Rattle.tl_bytes.specs.statement.Bytes.{windows_since, window_began, last_window, last_told}

-- the possible values of the byte at a place in this list, in its order
unfoldable pub tellings_at : ℕ → List Told → List Telling
tellings_at place [] = []
tellings_at place (x ∷ told) = if x.place == place then x.telling ∷ tellings_at place told else tellings_at place told

-- the possible values that are kept of the byte at a place, the newest first
abbrev pub tellings_of : BlockBytes → ℕ → List Telling
tellings_of b place = telling_at b.latest place ∷ tellings_at place b.earlier.items

-- the possible values of each byte of the block after t are kept
abbrev pub KnowsBytes : {w : ℕ} → BlockBytes → ℕ → ℕ → Trace w → Type 0
KnowsBytes b n block t = (place : ℕ) → place < 64 → tellings_of b place ≡ may_be n (64 * block + place) t

-- the possible values, and the moment at which a message last set the bytes
pub record KnowsBlock {w : ℕ} (b : BlockBytes) (n block : ℕ) (t : Trace w) : Type 0 where
  pub bytes_are : KnowsBytes b n block t
  pub last_is : b.last ≡ last_told block t

-- these are the bytes of the beats, the newest of which is first, by their places; None if the beat is to come, or is
-- corrupt or denied
abbrev pub HasBytes : {w : ℕ} → KnownBytes → List (Beat w) → Type 0
HasBytes values burst = (place : ℕ) → place < 64 → known_at values place ≡ carried_byte burst place

-- the bytes of the beats are kept, and the number of the beats
pub record KnowsCarried {w : ℕ} (carried : CarriedBytes) (burst : List (Beat w)) : Type 0 where
  pub bytes_are : HasBytes carried.bytes burst
  pub beats_are : carried.beats ≡ length burst

-- these are the bytes of the message that says a block's bytes with a beat
abbrev pub AreCarried : {w : ℕ} → KnownBytes → Link × Beat w → Trace w → Type 0
AreCarried values x t = HasBytes values (telling_beats x.1 (on_link x.0.0 t))

-- this is the write of an access with this answer to the block
abbrev pub IsWrite : {w : ℕ} → Write → ℕ → Access w → List (Beat w) → Type 0
IsWrite write block access answer = (place : ℕ) → place < 64
    → (is_written write place ≡ access_writes (64 * block + place) access)
    × (is_written write place ≡ true → value_at write place ≡ value_left access.request.opcode access answer (64 * block + place))

-- these are the writes of pending accesses to the block, and of those whose answers outran their requests
abbrev pub MayWrite : {w : ℕ} → List Write → ℕ → List (Access w) → List Outrun → Type 0
MayWrite writes block accesses outrun = (place byte : ℕ) → place < 64
    → left_as place byte writes ≡ may_write (64 * block + place) byte accesses outrun

-- with this beat no access is complete that reaches the block and whose answer outran its request
abbrev pub NoneSettled : {w : ℕ} → ℕ → Link × Beat w → Trace w → Type 0
NoneSettled block x t = (place : ℕ) → place < 64 → is_settled (64 * block + place) x t ≡ false

-- with this beat no answer to a pending access is complete
abbrev pub AnswersNone : {w : ℕ} → Link × Beat w → Trace w → Type 0
AnswersNone x t = (n address : ℕ) (before : List Telling) → after_beat n address x.0.0 x.1 t before ≡ before

-- this is the write of an access whose answer outran its request, which is complete with a beat: any value
abbrev pub IsSettling : {w : ℕ} → Write → ℕ → Link × Beat w → Trace w → Type 0
IsSettling write block x t = (place : ℕ) → place < 64
    → (is_written write place ≡ is_settled (64 * block + place) x t)
    × (is_written write place ≡ true → value_at write place ≡ None)

-- the pending accesses that have had a window for writing the block
abbrev pub windowed : {w : ℕ} → ℕ → ℕ → Trace w → List (Access w)
windowed n block t = filter (λ x. nat_lt 0 (windows_since n block x.asked t)) (pending_accesses t)

-- one of these allows the byte at a place
abbrev pub is_listed : ℕ → ℕ → List Possible → Bool
is_listed place byte possible = is_some (find (λ x. (x.place == place) && could_be byte x.value) possible)

-- the possible values of a first window, if there was one, allow the byte at a place
abbrev pub is_among : Option KnownBytes → ℕ → ℕ → Bool
is_among None place byte = false
is_among (Some values) place byte = could_be byte (known_at values place)

-- the bytes kept for a read allow the byte at a place
abbrev pub may_bring : ReadBytes → ℕ → ℕ → Bool
may_bring read place byte = is_among read.first place byte || is_listed place byte read.more.items

-- the bytes that a read may bring of the block are kept
abbrev pub KnowsRead : {w : ℕ} → ReadBytes → ℕ → ℕ → Access w → Trace w → Type 0
KnowsRead read n block access t = (place byte : ℕ) → place < 64
    → may_bring read place byte ≡ may_read n access t (64 * block + place) byte

-- the bytes that may be granted of the block are kept
abbrev pub KnowsGrant : {w : ℕ} → ReadBytes → ℕ → ℕ → Trace w → Type 0
KnowsGrant read n block t = (place byte : ℕ) → place < 64
    → may_bring read place byte ≡ may_grant n t (64 * block + place) byte

-- the relation of an access to the block, when its answer is complete, to its windows and to the last message that set
-- the block's bytes
abbrev pub standing_of : {w : ℕ} → ℕ → ℕ → Access w → Bool → Trace w → Standing
standing_of n block access denied t =
    if is_free n perm.Trunk block t
    then if (windows_since n block access.asked t == 1) && not denied
    then standing.Within (window_began n block access.asked t)
    else standing.Anywhere
    else if nat_lt (last_window n block t) (last_told block t) then standing.Told else standing.Anywhere

-- zero, one or more
abbrev pub count_of : ℕ → WindowCount
count_of zero = count.Zero
count_of (suc zero) = count.One
count_of (suc (suc n)) = count.More

-- the windows for writing that the block has had since a moment: their number, and the beginning of the open one, or if
-- none is open the last moment at which the block was free
pub record KnowsWindows {w : ℕ} (windows : WritingWindows) (n block asked : ℕ) (t : Trace w) : Type 0 where
  pub open_is : windows.is_open ≡ is_free n perm.Trunk block t
  pub count_is : windows.count ≡ count_of (windows_since n block asked t)
  pub began_is : windows.is_open ≡ true → windows.began ≡ window_began n block asked t
  pub last_is : windows.is_open ≡ false → windows.last ≡ last_window n block t
