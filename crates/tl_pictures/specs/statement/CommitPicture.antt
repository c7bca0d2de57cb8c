-- The commit by its fields in C, if they are within their ranges.
use Rattle.std.specs.Prelude.{ℕ, Bool, ◌&&◌, ◌==◌, ◌*◌, ◌^◌, nat_lt, option_map, Option, Some, None, if◌then◌else◌}
use Rattle.tl_events.specs.declared.commit.Commit.{Commit}
use Rattle.tl_events.specs.statement.CommitLine.{is_piece}
use Rattle.tl_pictures.specs.declared.commit.CommitPicture.{CommitPicture}
use Rattle.tl_wide_events.specs.declared.commit.WideCommit.{WideCommit}
use Rattle.tl_wide_events.specs.declared.commit.WideCommit.TheVariants as wide
use Rattle.tl_wide_events.specs.declared.commit.WidePiece.{WidePiece}
use Rattle.tl_wide_events.specs.statement.Narrowed.{commit_at}

-- the value has at most 2^size bytes of 8 bits
abbrev pub fits_bytes : ℕ → ℕ → Bool
fits_bytes value size = nat_lt value (2 ^ (8 * 2 ^ size))

-- the piece that these fields say
abbrev pub piece_in : CommitPicture → WidePiece
piece_in x = record { size = x.size; address = x.address }

-- the commit of a piece: 0 is a store, 1 a load, each with a value of as many bytes, and 2 the beginning of a load, whose
-- value is 0
abbrev pub commit_in : CommitPicture → Option WideCommit
commit_in x =
    if x.kind == 0 && fits_bytes x.value x.size then Some (wide.Store (piece_in x) x.value) else
    if x.kind == 1 && fits_bytes x.value x.size then Some (wide.Load (piece_in x) x.value) else
    if x.kind == 2 && x.value == 0 then Some (wide.Begin (piece_in x)) else None

-- the commit with these fields; its piece has at most 8 bytes, at a multiple of their number
abbrev pub wide_commit_shown : CommitPicture → Option WideCommit
wide_commit_shown x = if is_piece x.size x.address then commit_in x else None

-- the same, if its address has 32 bits
abbrev pub commit_shown : CommitPicture → Option Commit
commit_shown x =
    if nat_lt x.address (2 ^ 32) then option_map (λ c. commit_at c x.address) (wide_commit_shown x) else None
