-- Small tables by the definition, and where the bins are.
use Rattle.std.proofs.Common.{◌≡◌, ℕ, zero, suc, ◌+◌, true, List, [], ◌∷◌, codes, refl}
use Rattle.std.specs.List.{flat_map}
use Rattle.std.specs.Prelude.{Option, Some, None}
use Rattle.tl_beat.specs.declared.opcode.OpA.TheVariants as a
use Rattle.tl_cover.specs.declared.message.MessageKind.TheVariants as kind
use Rattle.tl_cover.specs.declared.message.Param.TheVariants as param
use Rattle.tl_params.specs.declared.param.Logical.TheVariants as logical
use Rattle.tl_params.specs.declared.param.Report.TheVariants as report
use Rattle.tl_tables.specs.statement.Counts.{cell_at, place_of, sum_of}
use Rattle.tl_tables.specs.statement.Layout.{Layout, alignments, depths, message_row, messages, permissions}
use Rattle.tl_tables.specs.statement.Layout.{releases, waits}
use Rattle.tl_tables.specs.statement.Tables.{cell_text, has_count, left, right, row_counts, row_text}

-- ---- counts

module _ (counts : List (Option ℕ)) where
  gets : row_counts counts (message_row (kind.A a.Get) param.Zero)
      ≡ cell_at counts 32 ∷ cell_at counts 33 ∷ cell_at counts 34 ∷ cell_at counts 35 ∷ cell_at counts 36
      ∷ cell_at counts 37 ∷ cell_at counts 38 ∷ []
  gets = refl

  -- a LogicalData has 4 bytes or 8
  xors : row_counts counts (message_row (kind.A a.LogicalData) (param.Logical logical.Xor))
      ≡ None ∷ None ∷ cell_at counts 24 ∷ cell_at counts 25 ∷ None ∷ None ∷ None ∷ []
  xors = refl

  -- there is no ReleaseData NtoN
  releases_of_nothing : sum_of counts None (releases report.NtoN) ≡ cell_at counts 79
  releases_of_nothing = refl

-- ---- texts

head_said : left (codes "A-Get") ≡ codes "A-Get                   "
head_said = refl

dash_said : cell_text 8 None ≡ codes "       -"
dash_said = refl

longer_said : right 2 (codes "123") ≡ codes "123"
longer_said = refl

-- a row of zeros is kept, and one without counts is left out
zeros : has_count (None ∷ Some 0 ∷ []) ≡ true
zeros = refl

nothing : row_text 8 (codes "A-Get") (None ∷ None ∷ []) ≡ []
unfolding row_text
nothing = refl

-- ---- places

abbrev found : Option ℕ → List ℕ
found None = []
found (Some place) = place ∷ []

-- the places of the bins in a table, row by row
abbrev places : Layout → List ℕ
places table = flat_map (λ row. flat_map (λ cell. flat_map (λ s. found (place_of s)) cell) row.cells) table.rows

abbrev up : ℕ → ℕ → List ℕ
up from zero = []
up from (suc n) = from ∷ up (from + 1) n

-- each bin is in one cell of these tables
in_messages : places messages ≡ up 0 112
in_messages = refl

in_permissions : places permissions
    ≡ 113 ∷ 114 ∷ 112 ∷ 117 ∷ 116 ∷ 115 ∷ 120 ∷ 119 ∷ 118 ∷ 123 ∷ 122 ∷ 121
    ∷ 77 ∷ 82 ∷ 78 ∷ 74 ∷ 80 ∷ 79 ∷ 76 ∷ 75 ∷ 81 ∷ []
in_permissions = refl

in_waits : places waits ≡ up 124 9
in_waits = refl

in_alignments : places alignments ≡ up 133 28
in_alignments = refl

in_depths : places depths ≡ up 161 42
in_depths = refl
