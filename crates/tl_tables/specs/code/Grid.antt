-- The table of permissions as the code sums it, from bin to bin.
use Rattle.std.specs.Prelude.{ℕ, Bool, true, false, ◌+◌, ◌==◌, ◌&&◌, ◌++◌, List}
use Rattle.std.specs.Prelude.{[], ◌∷◌, codes, if◌then◌else◌, Option, None}
use Rattle.std.specs.List.{flat_map}
use Rattle.tl_beat.specs.declared.opcode.OpC.TheVariants as c
use Rattle.tl_cover.specs.declared.message.MessageKind.TheVariants as kind
use Rattle.tl_cover.specs.declared.message.Param.TheVariants as param
use Rattle.tl_cover.specs.declared.situation.Situation.{Situation}
use Rattle.tl_cover.specs.declared.situation.Situation.TheVariants.{Answered, Granted, Sent}
use Rattle.tl_cover.specs.statement.Bins.{all_bins}
use Rattle.tl_params.specs.declared.param.Cap.{Cap}
use Rattle.tl_params.specs.declared.param.Cap.TheVariants as cap
use Rattle.tl_params.specs.declared.param.Grow.{Grow}
use Rattle.tl_params.specs.declared.param.Grow.TheVariants as grow
use Rattle.tl_params.specs.declared.param.Report.{Report}
use Rattle.tl_params.specs.declared.param.Report.TheVariants as report
use Rattle.tl_params.specs.declared.perm.Perm.{Perm}
use Rattle.tl_params.specs.declared.perm.Perm.TheVariants as perm
use Rattle.tl_params.specs.statement.Names.{cap_name}
use Rattle.tl_params.specs.statement.Param.{cap_code}
use Rattle.tl_tables.specs.declared.grid.Line.{Line}
use Rattle.tl_tables.specs.declared.grid.Line.TheVariants as line
use Rattle.tl_tables.specs.statement.Counts.{cell_at, cell_sum}
use Rattle.tl_tables.specs.statement.Tables.{row_text}

abbrev pub grows : Grow → Cap → Perm → Bool
grows grow.NtoB cap.ToB perm.None = true
grows grow.NtoT cap.ToT perm.None = true
grows grow.BtoT cap.ToT perm.Branch = true
grows _ _ _ = false

abbrev pub is_from : Report → Perm → Bool
is_from report.TtoT perm.Trunk = true
is_from report.TtoB perm.Trunk = true
is_from report.TtoN perm.Trunk = true
is_from report.BtoB perm.Branch = true
is_from report.BtoN perm.Branch = true
is_from report.NtoN perm.None = true
is_from _ _ = false

abbrev pub is_to : Report → Cap → Bool
is_to report.TtoT cap.ToT = true
is_to report.TtoB cap.ToB = true
is_to report.BtoB cap.ToB = true
is_to report.TtoN cap.ToN = true
is_to report.BtoN cap.ToN = true
is_to report.NtoN cap.ToN = true
is_to _ _ = false

abbrev pub is_in : Line → Perm → Situation → Bool
is_in (line.Grant cap) held (Granted grow) = grows grow cap held
is_in (line.Report cap) held (Answered report asked) = (cap_code cap == cap_code asked) && is_from report held
is_in (line.Release cap) held (Sent (kind.C c.Release (param.Report report) bytes)) =
    is_to report cap && is_from report held
is_in (line.Release cap) held (Sent (kind.C c.ReleaseData (param.Report report) bytes)) =
    is_to report cap && is_from report held
is_in _ _ _ = false

-- a sum with the count at this place, if the bin there is in this row and column
abbrev pub with_bin : Line → Perm → List (Option ℕ) → Option ℕ → ℕ → Situation → Option ℕ
with_bin l held counts sum place bin = if is_in l held bin then cell_sum sum (cell_at counts place) else sum

-- a sum with the counts of these bins, the first of which is at this place
abbrev pub sum_from : Line → Perm → List (Option ℕ) → Option ℕ → ℕ → List Situation → Option ℕ
sum_from l held counts sum place [] = sum
sum_from l held counts sum place (bin ∷ bins) =
    sum_from l held counts (with_bin l held counts sum place bin) (place + 1) bins

abbrev pub cell : Line → Perm → List (Option ℕ) → Option ℕ
cell l held counts = sum_from l held counts None 0 all_bins

abbrev pub head_of : Line → List ℕ
head_of (line.Grant cap) = codes "grant-" ++ cap_name cap
head_of (line.Report cap) = codes "report-" ++ cap_name cap
head_of (line.Release cap) = codes "release-" ++ cap_name cap

abbrev pub row_of : ℕ → List (Option ℕ) → Line → List ℕ
row_of w counts l =
    row_text w (head_of l) (cell l perm.None counts ∷ cell l perm.Branch counts ∷ cell l perm.Trunk counts ∷ [])

abbrev pub all_lines : List Line
all_lines =
    line.Grant cap.ToT
    ∷ line.Grant cap.ToB
    ∷ line.Report cap.ToT
    ∷ line.Report cap.ToB
    ∷ line.Report cap.ToN
    ∷ line.Release cap.ToT
    ∷ line.Release cap.ToB
    ∷ line.Release cap.ToN
    ∷ []

abbrev pub rows_of : ℕ → List (Option ℕ) → List ℕ
rows_of w counts = flat_map (row_of w counts) all_lines
