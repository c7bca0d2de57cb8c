-- The answers of a judge of lines.
use Rattle.std.specs.Prelude.{◌≡◌, ◌<◌, ◌∷◌, ℕ, Bool, true, List, ⊤}
use Rattle.tl_report.specs.declared.line_judge.Judged.{Judged}
use Rattle.tl_report.specs.declared.line_judge.Judged.TheVariants.{AtFault, Taken}
use Rattle.tl_report.specs.statement.Form.{Form, IsAtFault}
use Rattle.tl_report.specs.statement.Taken.{most_cells}

-- what a judge J is for: beats X, judged under terms T
pub record Ways (J T X : Type 0) : Type 1 where
  -- the form of the beats under each terms
  pub form : T → Form X
  -- under these terms the judge has taken these beats, the newest first
  pub knows : J → T → List X → Type 0
  -- it knows them after a line at fault too
  pub goes_on : J → Bool

-- What a judge answers to a line after these beats. It takes the beat, which counts in this cell. Or the line is at
-- fault, and a judge that goes on has taken the beats that it had.
abbrev pub Answers : {J T X : Type 0} → Ways J T X → J → J → T → List X → List ℕ → Judged → Type 0
Answers {J} {T} {X} ways old new terms t line (Taken cell) =
    (x : X) × (ways.form terms).spells line x × (ways.form terms).is_good t x × (cell ≡ (ways.form terms).cell x)
    × ways.knows new terms (x ∷ t)
Answers ways old new terms t line (AtFault fault) =
    IsAtFault (ways.form terms) t line fault × (ways.goes_on old ≡ true → ways.knows new terms t)

-- the same after whatever beats it has taken
abbrev pub JudgesLine : {J T X : Type 0} → Ways J T X → J → J → List ℕ → Judged → Type 0
JudgesLine {J} {T} {X} ways old new line answer =
    (terms : T) (t : List X) → ways.knows old terms t → Answers ways old new terms t line answer

-- the cell is one of the table
abbrev pub IsInTable : Judged → Type 0
IsInTable (Taken cell) = cell < most_cells
IsInTable (AtFault fault) = ⊤
