-- The count of each situation in the messages of a trace, and its first line.
use Rattle.std.specs.Prelude.{◌||◌, nat_lt, Option, Some, None, is_some, option_map}
use Rattle.std.specs.Prelude.{ℕ, Bool, ◌+◌, ◌++◌, ◌==◌, ◌&&◌, List, [], ◌∷◌, length, map, if◌then◌else◌, slice_get}
use Rattle.tl_beat.specs.declared.beat.Beat.{Beat}
use Rattle.tl_beat.specs.declared.beat.Link.{Link}
use Rattle.tl_cover.specs.declared.row.LinkBin.{LinkBin}
use Rattle.tl_cover.specs.declared.row.Row.{Row}
use Rattle.tl_cover.specs.declared.situation.Bytes.TheVariants as bytes
use Rattle.tl_cover.specs.declared.situation.Lanes.TheVariants as lanes
use Rattle.tl_cover.specs.declared.situation.Situation.{Situation}
use Rattle.tl_cover.specs.declared.situation.Situation.TheVariants as situation
use Rattle.tl_cover.specs.statement.Bins.{all_bins}
use Rattle.tl_cover.specs.statement.Possible.{is_possible}
use Rattle.tl_cover.specs.statement.Situations.{occurs}
use Rattle.tl_params.specs.declared.level.Level.{Level}
use Rattle.tl_params.specs.declared.liberties.Liberties.{Liberties}
use Rattle.tl_params.specs.declared.param.Arithmetic.TheVariants as arithmetic
use Rattle.tl_params.specs.declared.param.Cap.TheVariants as cap
use Rattle.tl_params.specs.declared.param.Grow.TheVariants as grow
use Rattle.tl_params.specs.declared.param.Logical.TheVariants as logical
use Rattle.tl_params.specs.declared.param.Report.TheVariants as report
use Rattle.tl_rules.specs.statement.Conformance.{Trace}

-- all situations, in the order of the report
abbrev pub all_situations : List Situation
all_situations =
    situation.ProbeBesideRelease
    ∷ situation.ReleaseBesideProbe
    ∷ situation.ProbeBesideAcquire
    ∷ situation.ProbeBesideUpgrade
    ∷ situation.ProbeOfNothing
    ∷ situation.UpgradeLostWithData
    ∷ situation.UpgradeLostWithoutData
    ∷ situation.ReleaseBeforeGrantAck
    ∷ situation.TwoGrants
    ∷ situation.FourGrants
    ∷ situation.Acquired grow.NtoB
    ∷ situation.Acquired grow.NtoT
    ∷ situation.Acquired grow.BtoT
    ∷ situation.Granted grow.NtoB
    ∷ situation.Granted grow.NtoT
    ∷ situation.Granted grow.BtoT
    ∷ situation.Probed cap.ToT
    ∷ situation.Probed cap.ToB
    ∷ situation.Probed cap.ToN
    ∷ situation.Reported report.TtoB
    ∷ situation.Reported report.TtoN
    ∷ situation.Reported report.BtoN
    ∷ situation.Reported report.TtoT
    ∷ situation.Reported report.BtoB
    ∷ situation.Reported report.NtoN
    ∷ situation.Released report.TtoB
    ∷ situation.Released report.TtoN
    ∷ situation.Released report.BtoN
    ∷ situation.Released report.TtoT
    ∷ situation.Released report.BtoB
    ∷ situation.Released report.NtoN
    ∷ situation.AccessBesideTransfer
    ∷ situation.AccessOfHeldBlock
    ∷ situation.Masked lanes.Empty
    ∷ situation.Masked lanes.Partial
    ∷ situation.Masked lanes.Full
    ∷ situation.GetOf bytes.One
    ∷ situation.GetOf bytes.Two
    ∷ situation.GetOf bytes.Four
    ∷ situation.GetOf bytes.Eight
    ∷ situation.GetOf bytes.Sixteen
    ∷ situation.GetOf bytes.ThirtyTwo
    ∷ situation.GetOf bytes.SixtyFour
    ∷ situation.PutOf bytes.One
    ∷ situation.PutOf bytes.Two
    ∷ situation.PutOf bytes.Four
    ∷ situation.PutOf bytes.Eight
    ∷ situation.PutOf bytes.Sixteen
    ∷ situation.PutOf bytes.ThirtyTwo
    ∷ situation.PutOf bytes.SixtyFour
    ∷ situation.AtomicOf bytes.Four
    ∷ situation.AtomicOf bytes.Eight
    ∷ situation.Arithmetic arithmetic.Min
    ∷ situation.Arithmetic arithmetic.Max
    ∷ situation.Arithmetic arithmetic.MinU
    ∷ situation.Arithmetic arithmetic.MaxU
    ∷ situation.Arithmetic arithmetic.Add
    ∷ situation.Logical logical.Xor
    ∷ situation.Logical logical.Or
    ∷ situation.Logical logical.And
    ∷ situation.Logical logical.Swap
    ∷ situation.ResponseAtOnce
    ∷ situation.GrantAckLater
    ∷ situation.Contention
    ∷ situation.ThreeContend
    ∷ situation.ReadOfOwned
    ∷ situation.WriteToOwned
    ∷ situation.AtomicOnOwned
    ∷ situation.WriteToShared
    ∷ situation.ReportBesideGrant
    ∷ situation.BetweenBursts
    ∷ situation.EarlyResponse
    ∷ situation.EarlyGrantAck
    ∷ situation.ProbeWithSource
    ∷ situation.SinkWithoutGrant
    ∷ situation.GrantOfMore
    ∷ situation.CopyDropped
    ∷ situation.GrantDenied
    ∷ situation.DeniedUncorrupt
    ∷ []

-- The lines of the beats that pass the test, each by the beats before it, the first line first, for a trace with its
-- newest beat first. Line 1 of a trace is its header, and each beat has a line.
unfoldable pub lines : {w : ℕ} → (Link × Beat w → Trace w → Bool) → Trace w → List ℕ
lines at [] = []
lines at (x ∷ t) = if at x t then lines at t ++ (length t + 2) ∷ [] else lines at t

-- the count and the first line of a situation that came in these lines
abbrev pub row_of : Situation → List ℕ → Row
row_of s came = record { situation = s; count = length came; first = slice_get came 0 }

-- a situation with its count and its first line, for the trace of n links
abbrev pub row : {w : ℕ} → Liberties → ℕ → Trace w → Situation → Row
row l n t s = row_of s (lines (occurs l n s) t)

-- all situations with their counts and their first lines
abbrev pub covered : {w : ℕ} → Liberties → ℕ → Trace w → List Row
covered l n t = map (row l n t) all_situations

-- ---- the table of a link

-- a message begins in the situation on link i
abbrev pub occurs_on : {w : ℕ} → Liberties → ℕ → ℕ → Situation → Link × Beat w → Trace w → Bool
occurs_on l n i s x t = (x.0.0 == i) && occurs l n s x t

-- a situation with its count and its first line on link i
abbrev pub row_on : {w : ℕ} → Liberties → ℕ → ℕ → Trace w → Situation → Row
row_on l n i t s = row_of s (lines (occurs_on l n i s) t)

-- all bins with their counts and their first lines on link i
abbrev pub table : {w : ℕ} → Liberties → ℕ → ℕ → Trace w → List Row
table l n i t = map (row_on l n i t) all_bins

-- the count of a bin on a link of this level with these liberties; None if such a link can't have it, and it didn't come
abbrev pub cell : ℕ → Liberties → Level → Row → Option ℕ
cell w l level r = if is_possible w l level r.situation || nat_lt 0 r.count then Some r.count else None

-- a bin on a link of this level with these liberties: its row, and whether such a link can have it, or it came
abbrev pub link_bin : ℕ → Liberties → Level → Row → LinkBin
link_bin w l level r = record { row = r; possible = is_some (cell w l level r) }

-- the bin with this number on link i, one of n links, that has this level; None if there is no level or no such bin
abbrev pub bin_at : {w : ℕ} → Liberties → ℕ → ℕ → Trace w → ℕ → Option Level → Option LinkBin
bin_at l n i t number None = None
bin_at {w} l n i t number (Some level) = option_map (link_bin w l level) (slice_get (table l n i t) number)

-- the bin with this number on link i of links of these levels; None if there is no such link or no such bin
abbrev pub bin_on : {w : ℕ} → Liberties → List Level → ℕ → Trace w → ℕ → Option LinkBin
bin_on l levels i t number = bin_at l (length levels) i t number (slice_get levels i)

-- the counts of all bins on links of these levels, the first of which is link i
unfoldable pub cells_from : {w : ℕ} → Liberties → ℕ → ℕ → List Level → Trace w → List (Option ℕ)
cells_from l n i [] t = []
cells_from {w} l n i (level ∷ levels) t = map (cell w l level) (table l n i t) ++ cells_from l n (i + 1) levels t

-- the counts of all bins on all links, link after link
abbrev pub cells : {w : ℕ} → Liberties → List Level → Trace w → List (Option ℕ)
cells l levels t = cells_from l (length levels) 0 levels t
