-- The accesses that are kept, and the entries of those that pass a test.
use Rattle.std.specs.Prelude.{ℕ, Bool, true, false, not, [], ◌∷◌, ◌++◌, ◌==◌, ◌&&◌, ◌||◌, ◌<◌, ◌≤◌, ◌≡◌, if◌then◌else◌, List}
use Rattle.std.specs.Global.{Vec}
use Rattle.std.specs.List.{AllZip}
use Rattle.std.specs.Prelude.{find, is_some, length, Option, Some, None}
use Rattle.std.specs.Vec.{with_item}
use Rattle.tl_beat.specs.declared.beat.Beat.{Beat}
use Rattle.tl_beat.specs.declared.beat.Link.{Link}
use Rattle.tl_params.specs.declared.perm.Perm.TheVariants as perm
use Rattle.tl_rules.specs.statement.Conformance.{Trace}
use Rattle.tl_rules.specs.statement.History.{block_at}
use Rattle.tl_rules.specs.statement.Windows.{needs}
use Rattle.tl_bytes.specs.statement.Free.{is_free}
use Rattle.tl_bytes.specs.code.Tellings.{left_as}
use Rattle.tl_bytes.specs.declared.block_bytes.BlockBytes.{BlockBytes}
use Rattle.tl_bytes.specs.declared.read_bytes.ReadBytes.{ReadBytes}
use Rattle.tl_bytes.specs.declared.windows.WindowCount.{WindowCount}
use Rattle.tl_bytes.specs.declared.windows.WindowCount.TheVariants as count
use Rattle.tl_bytes.specs.declared.write.Write.{Write}
use Rattle.tl_bytes.specs.statement.Bytes.{Access, is_of, is_put, told_as}
use Rattle.tl_bytes.specs.statement.Known.{KnowsWindows, may_bring, tellings_of}
use Rattle.tl_memory.specs.declared.access.Asked.{Asked}
use Rattle.tl_memory.specs.declared.early.OutrunAccess.{OutrunAccess}
use Rattle.tl_memory.specs.declared.free.Freedom.{Freedom}
use Rattle.tl_memory.specs.declared.pending.PendingAccess.{PendingAccess}
use Rattle.tl_memory.specs.declared.writer.Writer.{Writer}
use Rattle.tl_memory.specs.statement.Known.{IsAsked, IsPendingWrite, open_for}

-- the entries of a list that are picked
unfoldable pub picked : {X Y : Type 0} → (X → Bool) → (X → Y) → List X → List Y
picked keep pick [] = []
picked keep pick (x ∷ xs) = if keep x then pick x ∷ picked keep pick xs else picked keep pick xs

-- it has this source on the link
abbrev pub names : {w : ℕ} → ℕ → ℕ → Asked w → Bool
names link source asked = (asked.link.0 == link) && (asked.request.source == source)

-- the bytes that those write that haven't yet
abbrev pub writes_but : {w : ℕ} → ℕ → ℕ → List (PendingAccess w) → List Write
writes_but link source accesses = picked (λ x. not (names link source x.writer.asked)) (λ x. x.writer.write) accesses

-- the writes of those whose answers outran their requests
abbrev pub writes_outrun : List OutrunAccess → List Write
writes_outrun accesses = picked (λ x. true) (λ x. x.write) accesses

-- there was a window
abbrev pub some_window : WindowCount → Bool
some_window count.Zero = false
some_window _ = true

-- the bytes that those write that have had a window
abbrev pub writes_windowed : {w : ℕ} → List (PendingAccess w) → List Write
writes_windowed accesses = picked (λ x. some_window x.windows.count) (λ x. x.writer.write) accesses

-- ---- one more beat

-- the access is the one with this source on the link
abbrev pub is_named : {w : ℕ} → ℕ → ℕ → PendingAccess w → Bool
is_named link source x = names link source x.writer.asked

-- the access isn't the one that is gone, if one is
abbrev pub stays : {w : ℕ} → Option (Link × ℕ) → PendingAccess w → Bool
stays None x = true
stays (Some gone) x = not (is_named gone.0.0 gone.1 x)

-- the accesses that stay
abbrev pub staying : {w : ℕ} → Option (Link × ℕ) → List (PendingAccess w) → List (PendingAccess w)
staying gone accesses = picked (stays gone) (λ x. x) accesses

-- so for accesses themselves
abbrev pub keeps : {w : ℕ} → Option (Link × ℕ) → Access w → Bool
keeps None access = true
keeps (Some gone) access = not (is_of gone.0.0 gone.1 access)

-- one of them is no Put, and finds bytes
abbrev pub finds_bytes : {w : ℕ} → PendingAccess w → Bool
finds_bytes x = not (is_put x.writer.asked.request.opcode)

abbrev pub has_reader : {w : ℕ} → List (PendingAccess w) → Bool
has_reader accesses = is_some (find finds_bytes accesses)

-- its request has one more beat, and it has this writer
abbrev pub with_writer : {w : ℕ} → Writer w → PendingAccess w → PendingAccess w
with_writer writer x = record { writer = writer; windows = x.windows; read = x.read }

-- so the newest of them
abbrev pub grown_in : {w : ℕ} → Writer w → Vec (PendingAccess w) → List (PendingAccess w) → Vec (PendingAccess w)
grown_in writer old [] = old
grown_in writer old (newest ∷ more) = with_item old 0 (with_writer writer newest)

-- the bytes that an access may bring which may bring more, unless it is a Put
abbrev pub IsReading : {w : ℕ} → (PendingAccess w → ℕ → ℕ → Bool) → PendingAccess w → ReadBytes → Type 0
IsReading more old read = is_put old.writer.asked.request.opcode ≡ false → (place byte : ℕ) → place < 64
    → may_bring read place byte ≡ (may_bring old.read place byte || more old place byte)

-- the entry of an access that may bring more, unless it is a Put
pub record IsRenewed {w : ℕ} (more : PendingAccess w → ℕ → ℕ → Bool) (old new : PendingAccess w) : Type 0 where
  pub writer_is : new.writer ≡ old.writer
  pub windows_are : new.windows ≡ old.windows
  pub read_is : IsReading more old new.read

-- the entry of one that asks for more
pub record IsGrown {w : ℕ} (writer : Writer w) (more : PendingAccess w → ℕ → ℕ → Bool) (old new : PendingAccess w)
    : Type 0 where
  pub writer_is : new.writer ≡ writer
  pub windows_are : new.windows ≡ old.windows
  pub read_is : IsReading more old new.read

-- this is the access, and what it may write in its block
abbrev pub IsWriter : {w : ℕ} → Writer w → Access w → Type 0
IsWriter writer access =
    IsAsked writer.asked access × IsPendingWrite writer.write (block_at access.request.address) access

-- of each of them
abbrev pub AreRenewed : {w : ℕ} → (PendingAccess w → ℕ → ℕ → Bool) → List (PendingAccess w) → List (PendingAccess w)
    → Type 0
AreRenewed more old new = AllZip (IsRenewed more) old new

-- the values that an access may find now, by the state of its block, of the other pending accesses, and of those whose
-- answers outran their requests
abbrev pub found_by : {w : ℕ} → Freedom → BlockBytes → List (PendingAccess w) → List OutrunAccess → PendingAccess w → ℕ → ℕ
    → Bool
found_by free bytes accesses outrun x place byte =
    open_for free (needs x.writer.asked.request.opcode)
    && (told_as byte (tellings_of bytes place)
    || left_as place byte (writes_but x.writer.asked.link.0 x.writer.asked.request.source accesses
    ++ writes_outrun outrun))

-- the entry of an access whose block is free after one more beat, at this moment, or isn't
pub record IsWatched {w : ℕ} (free : Bool) (moment : ℕ) (old new : PendingAccess w) : Type 0 where
  pub writer_is : new.writer ≡ old.writer
  pub read_is : new.read ≡ old.read
  pub windows_are : (n block asked : ℕ) (x : Link × Beat w) (t : Trace w)
      → KnowsWindows old.windows n block asked t → asked ≤ length t
      → free ≡ is_free n perm.Trunk block (x ∷ t) → moment ≡ length (x ∷ t)
      → KnowsWindows new.windows n block asked (x ∷ t)

-- of each of them
abbrev pub AreWatched : {w : ℕ} → Bool → ℕ → List (PendingAccess w) → List (PendingAccess w) → Type 0
AreWatched free moment old new = AllZip (IsWatched free moment) old new
