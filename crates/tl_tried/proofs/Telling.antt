-- What is told of traces that were read.
use Rattle.std.proofs.Common.{◌≡◌, ◌≢◌, ℕ, suc, Bool, false, not, nat_lt, ◌==◌}
use Rattle.std.proofs.Common.{List, [], ◌∷◌, ◌++◌, length, refl, sym, ap, ap₂, ◌∙◌, subst, arith, lt-ltb, ne_eqb}
use Rattle.std.specs.Io.KnownBytes.{Consumes}
use Rattle.std.specs.Prelude.{Option}
use Rattle.tl_command.specs.declared.cover.CoverForm.{CoverForm}
use Rattle.tl_cover.specs.declared.row.Row.{Row}
use Rattle.tl_lines.specs.statement.Lines.{lines_of}
use Rattle.tl_lines.specs.code.Progress.{HasAll}
use Rattle.tl_lines.specs.statement.Run.{EndsAs}
use Rattle.tl_lines.specs.declared.status.Status.{Status}
use Rattle.tl_params.specs.declared.liberties.Liberties.{Liberties}
use Rattle.tl_tried.proofs.CommitsCounted.{counted-at-end}
use Rattle.tl_tried.specs.code.EventFollowing.{EndsCommits, KnowsCommits, found_of_commits}
use Rattle.tl_tried.specs.declared.cover_events.CoverEvents.{CoverEvents}
use Rattle.tl_tried.specs.declared.sum.Sum.{Sum}
use Rattle.tl_tried.specs.declared.tried.Tried.{Tried}
use Rattle.tl_tried.specs.statement.Sums.{cells_of, sums_of}
use Rattle.tl_tried.specs.statement.Told.{Names, shown, told, told_named}
use Rattle.tl_tried.specs.statement.WideEventCovered.{AnyCovered}
use Rattle.tl_wide_event_lines.specs.statement.JudgedWideEvents.{JudgedAny}
use Rattle.tl_tried.specs.statement.Covered.{Found}

-- what was read is judged, and the situations are those of it
abbrev pub Gathered : Liberties → CoverEvents → Option (List ℕ) → Option (List ℕ) → List ℕ → Status → Type 0
Gathered allow h had left verdict status =
    (read : List ℕ) × Consumes had left read × JudgedAny false allow (lines_of read) verdict status
    × EndsAs (JudgedAny false allow) left read verdict status × AnyCovered allow (lines_of read) (found_of_commits h)

-- a handler that was made for this has gathered them
pub gathered : (h old : CoverEvents) (allow : Liberties) (had left : Option (List ℕ)) (verdict : List ℕ)
    (status : Status)
    → old.plain.narrow.allow ≡ allow → h.plain.narrow.allow ≡ allow
    → (read : List ℕ) × Consumes had left read × JudgedAny false old.plain.narrow.allow (lines_of read) verdict status
    × EndsAs (JudgedAny false old.plain.narrow.allow) left read verdict status × HasAll KnowsCommits EndsCommits h (lines_of read)
    status
    → Gathered allow h had left verdict status
gathered h old allow had left verdict status was now (read, consumed, judged, ended, has) = (
  read,
  consumed,
  subst (λ (l : Liberties). JudgedAny false l (lines_of read) verdict status) was judged,
  subst (λ (l : Liberties). EndsAs (JudgedAny false l) left read verdict status) was ended,
  subst (λ (l : Liberties). AnyCovered l (lines_of read) (found_of_commits h)) now (counted-at-end h (lines_of read) status has),
)

-- a trace with them is tried
pub tried : (allow : Liberties) (h : CoverEvents) (had left : Option (List ℕ)) (verdict : List ℕ) (status : Status)
    (said old rows : List Row) (counts : List (Option ℕ)) → Gathered allow h had left verdict status
    → said ≡ (found_of_commits h).0 → counts ≡ (found_of_commits h).1 → old ≡ [] → rows ≡ old ++ said
    → (read : List ℕ) × Consumes had left read × JudgedAny false allow (lines_of read) verdict status
    × EndsAs (JudgedAny false allow) left read verdict status × AnyCovered allow (lines_of read) (rows, counts)
tried allow h had left verdict status said old rows counts (read, consumed, judged, ended, covers) are counted empty is = (
  read,
  consumed,
  judged,
  ended,
  subst (λ (found : Found). AnyCovered allow (lines_of read) found)
      (sym (ap₂ (λ (rs : List Row) (cs : List (Option ℕ)). (rs, cs)) (is ∙ rw (empty, are) refl) counted)) covers,
)

-- what is told of traces, several of which have these names
pub told_so : (form : CoverForm) (names by : Names) (all : List Tried) (sums : List Sum) (cells : List (Option ℕ))
    (old text : List ℕ)
    → by ≡ shown names → sums ≡ sums_of all → cells ≡ cells_of all → old ≡ []
    → text ≡ old ++ told_named form by all sums cells → text ≡ told form names all
told_so form names by all sums cells old text are summed counted empty is =
    is ∙ ap (λ (o : List ℕ). o ++ told_named form by all sums cells) empty
    ∙ ap (λ (b : Names). told_named form b all sums cells) are
    ∙ ap (λ (ss : List Sum). told_named form (shown names) all ss cells) summed
    ∙ ap (λ (cs : List (Option ℕ)). told_named form (shown names) all (sums_of all) cs) counted

-- JSON is for several traces if there are names
pub several_so : (empty : Bool) (names : Names) → empty ≡ (length names == 0) → not empty ≡ nat_lt 0 (length names)
several_so empty [] none = rw none refl
several_so empty (name ∷ names) none =
    let some : suc (length names) ≢ 0 = omega arith in
    rw (none, ne_eqb (suc (length names)) 0 some, lt-ltb 0 (suc (length names)) (omega arith)) refl
