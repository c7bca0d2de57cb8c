-- The rows of a trace, with one more beat.
use Rattle.std.proofs.Common.{◌≡◌, ℕ, Bool, true, false, ◌+◌, ◌==◌, ◌&&◌, List, [], ◌∷◌, ◌++◌, length, refl, sym, ap, ◌∙◌, arith}
use Rattle.std.proofs.Common.{◌<◌, length-append, take, drop}
use Rattle.std.proofs.lemmas.List.{get_or_default}
use Rattle.std.specs.Prelude.{if◌then◌else◌, map, slice_index_or, slice_set, Option, Some, None, slice_get, unwrap_or}
use Rattle.tl_beat.specs.declared.beat.Beat.{Beat}
use Rattle.tl_beat.specs.declared.beat.Link.{Link}
use Rattle.tl_cover.proofs.Changed.{changed_next, long_next}
use Rattle.tl_cover.specs.code.Covering.{noted_if, opening_of, row_with, unseen}
use Rattle.tl_cover.specs.code.Groups.{Fits, groups_in, is_rising}
use Rattle.tl_cover.specs.declared.row.Row.{Row}
use Rattle.tl_cover.specs.declared.scene.Scene.{Scene}
use Rattle.tl_cover.specs.declared.situation.Situation.{Situation}
use Rattle.tl_cover.specs.declared.stretch.TheConstants.{OF_ALL, OF_BINS}
use Rattle.tl_cover.specs.statement.Bins.{all_bins}
use Rattle.tl_cover.specs.statement.Covered.{all_situations, covered, lines, occurs_on, row_of, row_on, table}
use Rattle.tl_cover.specs.statement.Scene.{scene}
use Rattle.tl_cover.specs.statement.Situations.{meets, occurs}
use Rattle.tl_params.specs.declared.liberties.Liberties.{Liberties}
use Rattle.tl_rules.specs.statement.Conformance.{Trace, on_link}
use Rattle.tl_rules.specs.statement.History.{begins}

first_of : (xs : List ℕ) (y : ℕ) → Some (unwrap_or (slice_get xs 0) y) ≡ slice_get (xs ++ y ∷ []) 0
first_of [] y = refl
first_of (x ∷ xs) y = refl

one_longer : (xs : List ℕ) (y : ℕ) → length xs + 1 ≡ length (xs ++ y ∷ [])
one_longer xs y = omega (arith, length-append xs (y ∷ []))

-- one more line, in which the situation came or not
module _ {w : ℕ} (x : Link × Beat w) (t : Trace w) (at : Link × Beat w → Trace w → Bool) (s : Situation) where
  counted_if : (now : Bool) → at x t ≡ now
      → noted_if now (length t + 2) (row_of s (lines at t)) ≡ row_of s (lines at (x ∷ t))
  unfolding lines
  counted_if true is = rw (is, first_of (lines at t) (length t + 2), one_longer (lines at t) (length t + 2)) refl
  counted_if false is = rw is refl

  -- the situation is met by these facts, of a message that begins
  counted_from : (first : Bool) (it : Scene) → at x t ≡ (first && meets s x.1 it)
      → row_with (length t + 2) x.1 (if first then Some it else None) (row_of s (lines at t))
      ≡ row_of s (lines at (x ∷ t))
  counted_from true it is = counted_if (meets s x.1 it) is
  counted_from false it is = counted_if false is

-- the rows of situations, each of which comes in lines of its own
abbrev rows_by : {w : ℕ} → (Situation → Link × Beat w → Trace w → Bool) → Trace w → List Situation → List Row
rows_by at t all = map (λ s. row_of s (lines (at s) t)) all

module _ {w : ℕ} (l : Liberties) (n : ℕ) (x : Link × Beat w) (t : Trace w)
    (at : Situation → Link × Beat w → Trace w → Bool)
    (is : (s : Situation) → at s x t ≡ occurs l n s x t) where
  rows_from : (all : List Situation)
      → map (row_with (length t + 2) x.1 (opening_of l n x.0.0 x.1 t)) (rows_by at t all) ≡ rows_by at (x ∷ t) all
  rows_from [] = refl
  rows_from (s ∷ all) =
      rw (counted_from x t (at s) s (begins x.1 (on_link x.0.0 t)) (scene l n x.0.0 x.1 t) (is s), rows_from all) refl

  -- each row of a trace has one more beat
  rows_more : (all : List Situation) (line : ℕ) (opening : Option Scene) (old new : List Row) → line ≡ length t + 2
      → opening ≡ opening_of l n x.0.0 x.1 t → old ≡ rows_by at t all → new ≡ map (row_with line x.1 opening) old
      → new ≡ rows_by at (x ∷ t) all
  rows_more all line opening old new at_line from before now = now ∙ rw (at_line, from, before) (rows_from all)

-- the rows have the stretches of their lists
module _ {w : ℕ} (l : Liberties) (n : ℕ) (t : Trace w) (rows : List Row) where
  all_fit : rows ≡ covered l n t → Fits 0 OF_ALL rows
  unfolding groups_in is_rising
  all_fit is = rw is (record { groups = refl; rising = refl })

  bins_fit : (i : ℕ) → rows ≡ table l n i t → Fits 0 OF_BINS rows
  unfolding groups_in is_rising
  bins_fit i is = rw is (record { groups = refl; rising = refl })

module _ {w : ℕ} (l : Liberties) (n : ℕ) (x : Link × Beat w) (t : Trace w) (line : ℕ) (opening : Option Scene)
    (old new : List Row) where
  pub rows_counted : line ≡ length t + 2 → opening ≡ opening_of l n x.0.0 x.1 t → old ≡ covered l n t
      → (Fits 0 OF_ALL old → new ≡ map (row_with line x.1 opening) old) → new ≡ covered l n (x ∷ t)
  rows_counted at_line from before now =
      rows_more l n x t (occurs l n) (λ s. refl) all_situations line opening old new at_line from before
      (now (all_fit l n t old before))

  -- and those of its link
  pub table_counted : line ≡ length t + 2 → opening ≡ opening_of l n x.0.0 x.1 t → old ≡ table l n x.0.0 t
      → (Fits 0 OF_BINS old → new ≡ map (row_with line x.1 opening) old) → new ≡ table l n x.0.0 (x ∷ t)
  table_counted at_line from before now =
      rows_more l n x t (occurs_on l n x.0.0) here all_bins line opening old new at_line from before
      (now (bins_fit l n t old x.0.0 before))
    where
      same_number : (m : ℕ) → (m == m) ≡ true
      same_number m = grind arith

      here : (s : Situation) → occurs_on l n x.0.0 s x t ≡ occurs l n s x t
      here s = rw (same_number x.0.0) refl

-- those of another link stay
pub table_kept : {w : ℕ} (l : Liberties) (n i : ℕ) (x : Link × Beat w) (t : Trace w) → (x.0.0 == i) ≡ false
    → table l n i t ≡ table l n i (x ∷ t)
unfolding lines
table_kept l n i x t other = go all_bins
  where
    go : (all : List Situation) → map (row_on l n i t) all ≡ map (row_on l n i (x ∷ t)) all
    go [] = refl
    go (s ∷ all) = rw (other, go all) refl

-- of no beat no situation has come
module _ (w : ℕ) (at : Situation → Link × Beat w → Trace w → Bool) where
  rows_unseen : (all : List Situation) → map unseen all ≡ rows_by at [] all
  unfolding lines
  rows_unseen [] = refl
  rows_unseen (s ∷ all) = rw (rows_unseen all) refl

pub none_covered : (w : ℕ) (l : Liberties) (n : ℕ) → map unseen all_situations ≡ covered {w = w} l n []
none_covered w l n = rows_unseen w (occurs l n) all_situations

pub none_counted : (w : ℕ) (l : Liberties) (n i : ℕ) → map unseen all_bins ≡ table {w = w} l n i []
none_counted w l n i = rows_unseen w (occurs_on l n i) all_bins

unopened : {w : ℕ} (line : ℕ) (x : Beat w) (rows : List Row) → rows ≡ map (row_with line x None) rows
unopened line x [] = refl
unopened line x (r ∷ rows) = ap (λ (rs : List Row). r ∷ rs) (unopened line x rows)

-- where no message begins
pub rows_left : {w : ℕ} (line : ℕ) (x : Beat w) (opening : Option Scene) (rows : List Row) → opening ≡ None
    → rows ≡ map (row_with line x opening) rows
rows_left line x opening rows none = rw none (unopened line x rows)

-- the next row, which is read twice
pub row_next : {w : ℕ} (line : ℕ) (x : Beat w) (s : Scene) (old now : List Row) (i : ℕ) (one other new : Row)
    (came : Bool)
    → i < length old → now ≡ map (row_with line x (Some s)) (take i old) ++ drop i old
    → one ≡ slice_index_or now i one → other ≡ slice_index_or now i other → came ≡ meets one.situation x s
    → new ≡ noted_if came line other
    → slice_set now i new ≡ map (row_with line x (Some s)) (take (i + 1) old) ++ drop (i + 1) old
row_next line x s old now i one other new came lt is first second met noted_so =
    let f = row_with line x (Some s) in
    let long : length now ≡ length old = ap length is ∙ long_next f old i in
    let within : i < length now = omega (arith, lt, long) in
    let same : one ≡ other = first ∙ get_or_default now i one other within ∙ sym second in
    changed_next f old now i other new lt is
    (noted_so ∙ ap (λ b. noted_if b line other) (met ∙ ap (λ (r : Row). meets r.situation x s) same)
    ∙ ap f second)
