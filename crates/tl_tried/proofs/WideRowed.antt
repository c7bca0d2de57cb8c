-- The rows of a wide trace, with one more beat.
use Rattle.std.proofs.Common.{◌≡◌, ◌≤◌, ◌<◌, ◌+◌, ◌-◌, ◌∙◌, ℕ, Bool, true, false, suc, List, [], ◌∷◌, ◌++◌}
use Rattle.std.proofs.Common.{length, map, ap, ap₂, refl, subst, sym, arith, append_assoc, length-append, inl, inr}
use Rattle.std.proofs.lemmas.Bool.{cases_lt, le-ltb, lt-ltb}
use Rattle.std.proofs.lemmas.List.{append-nil}
use Rattle.std.specs.Option.{option_and, option_or}
use Rattle.std.specs.Prelude.{if◌then◌else◌, option_map, slice_get, Option, Some}
use Rattle.tl_beat.specs.declared.beat.Beat.{Beat}
use Rattle.tl_beat.specs.declared.beat.Link.{Link}
use Rattle.tl_cover.specs.declared.row.Row.{Row}
use Rattle.tl_cover.specs.declared.situation.Situation.{Situation}
use Rattle.tl_cover.specs.statement.Covered.{all_situations, covered, lines, row, row_of}
use Rattle.tl_cover.specs.statement.Situations.{occurs}
use Rattle.tl_params.specs.declared.liberties.Liberties.{Liberties}
use Rattle.tl_rules.specs.statement.Conformance.{Trace}
use Rattle.tl_tried.specs.code.WideRows.{first_in, followed}
use Rattle.tl_tried.specs.statement.Sums.{with_each}
use Rattle.tl_tried.specs.statement.WideCovered.{at_wide_line, wide_line}
use Rattle.tl_wide.specs.statement.Verdict.{joined, owner}
use Rattle.tl_wide_lines.proofs.FirstFaults.{owner-last}
use Rattle.tl_wide_lines.specs.code.FirstFault.{behind}

-- ---- the lines of beats that pass a test

-- the lines of more beats stand after those of the others, and are theirs
record Later {w : ℕ} (at : Link × Beat w → Trace w → Bool) (beats t : Trace w) : Type 0 where
  more : List ℕ
  are : lines at (behind beats t) ≡ lines at t ++ more
  within : (m : ℕ) → slice_get more 0 ≡ Some m → (length t + 2 ≤ m) × (m < length t + 2 + length beats)

module _ {w : ℕ} (at : Link × Beat w → Trace w → Bool) where
  later : (beats t : Trace w) → Later at beats t
  unfolding lines behind
  later [] t = record { more = []; are = sym (append-nil (lines at t)); within = λ m none. absurd cc }
  later (x ∷ beats) t = go (at x t) refl (later beats (x ∷ t))
    where
      go : (now : Bool) → at x t ≡ now → Later at beats (x ∷ t) → Later at (x ∷ beats) t
      go true is rest = record {
        more = (length t + 2) ∷ rest.more;
        are = rest.are ∙ rw is (append_assoc (lines at t) ((length t + 2) ∷ []) rest.more);
        within = λ m first. let same : length t + 2 ≡ m = cc in (omega (arith, same), omega (arith, same));
      }
      go false is rest = record {
        more = rest.more;
        are = rest.are ∙ rw is refl;
        within = λ m first. let (from, to) = rest.within m first in (omega (arith, from), omega (arith, to));
      }

  -- the first of them is that of a beat
  first-within : (t : Trace w) (m : ℕ) → slice_get (lines at t) 0 ≡ Some m → (2 ≤ m) × (m < length t + 2)
  unfolding lines
  first-within [] m is = absurd cc
  first-within (x ∷ t) m is = go (at x t) (lines at t) (first-within t m) is
    where
      go : (now : Bool) (before : List ℕ) → (slice_get before 0 ≡ Some m → (2 ≤ m) × (m < length t + 2))
          → slice_get (if now then before ++ (length t + 2) ∷ [] else before) 0 ≡ Some m
          → (2 ≤ m) × (m < suc (length t) + 2)
      go true [] within is = let same : length t + 2 ≡ m = cc in (omega (arith, same), omega (arith, same))
      go true (n ∷ before) within is = let (from, to) = within is in (from, omega (arith, to))
      go false before within is = let (from, to) = within is in (from, omega (arith, to))

-- ---- the wide beats of lines

owner-first : {p : ℕ} (parts : List (Trace p)) (last : Trace p) (i : ℕ) → i < length (joined parts)
    → owner (parts ++ last ∷ []) i ≡ owner parts i
unfolding owner joined
owner-first [] last i within = absurd (omega (arith, within))
owner-first (first ∷ parts) last i within =
    let all = length-append first (joined parts) in
    elim (cases_lt i (length first)) [
      | inl here ↦ rw (lt-ltb i (length first) here) refl
      | inr past ↦
          rw (le-ltb i (length first) past)
          (ap suc (owner-first parts last (i - length first) (omega (arith, within, all, past))))
    ]

module _ {p : ℕ} (parts : List (Trace p)) (last : Trace p) (line many : ℕ) (so_many : length (joined parts) ≡ many)
    (at_line : line ≡ length parts + 2) where
  -- a line of an earlier part
  line-kept : (m : ℕ) → 2 ≤ m → m < many + 2 → wide_line (parts ++ last ∷ []) m ≡ wide_line parts m
  line-kept m from to = ap (λ (i : ℕ). i + 2) (owner-first parts last (m - 2) (omega (arith, so_many, from, to)))

  -- a line of a new one
  line-new : (m : ℕ) → many + 2 ≤ m → m < many + 2 + length last → wide_line (parts ++ last ∷ []) m ≡ line
  line-new m from to =
      ap (λ (i : ℕ). i + 2)
      (owner-last parts last (m - 2) (omega (arith, so_many, from)) (omega (arith, so_many, from, to)))
      ∙ sym at_line

  first-followed : (old more : List ℕ) → ((m : ℕ) → slice_get old 0 ≡ Some m → (2 ≤ m) × (m < many + 2))
      → ((m : ℕ) → slice_get more 0 ≡ Some m → (many + 2 ≤ m) × (m < many + 2 + length last))
      → option_or (option_map (wide_line parts) (slice_get old 0)) (option_and (slice_get (old ++ more) 0) (Some line))
      ≡ option_map (wide_line (parts ++ last ∷ [])) (slice_get (old ++ more) 0)
  first-followed [] [] before after = refl
  first-followed [] (m ∷ more) before after =
      let (from, to) = after m refl in ap (λ (n : ℕ). Some n) (sym (line-new m from to))
  first-followed (m ∷ old) more before after =
      let (from, to) = before m refl in ap (λ (n : ℕ). Some n) (sym (line-kept m from to))

  module _ (l : Liberties) (n : ℕ) (t beats : Trace p) (long : length t ≡ many) (few : length beats ≤ length last) where
    row-followed : (s : Situation)
        → followed line (at_wide_line parts (row l n t s)) (row l n (behind beats t) s)
        ≡ at_wide_line (parts ++ last ∷ []) (row l n (behind beats t) s)
    row-followed s =
        let it = later (occurs l n s) beats t in
        let old = lines (occurs l n s) t in
        let first = first-followed old it.more
        (λ m is. let (from, to) = first-within (occurs l n s) t m is in (from, omega (arith, to, long)))
        (λ m is. let (from, to) = it.within m is in (omega (arith, from, long), omega (arith, to, long, few))) in
        subst
        (λ (came : List ℕ). followed line (at_wide_line parts (row_of s old)) (row_of s came)
        ≡ at_wide_line (parts ++ last ∷ []) (row_of s came)) (sym it.are)
        (ap (λ (f : Option ℕ). record { situation = s; count = length (old ++ it.more); first = f }) first)

    each-followed : (all : List Situation)
        → with_each (followed line) (first_in line) (map (at_wide_line parts) (map (row l n t) all))
        (map (row l n (behind beats t)) all)
        ≡ map (at_wide_line (parts ++ last ∷ [])) (map (row l n (behind beats t)) all)
    each-followed [] = refl
    each-followed (s ∷ all) = ap₂ (λ (r : Row) (rows : List Row). r ∷ rows) (row-followed s) (each-followed all)

    -- the rows follow the beats that a wide beat of this line became, up to the first at fault
    pub rows-followed : with_each (followed line) (first_in line) (map (at_wide_line parts) (covered l n t))
        (covered l n (behind beats t))
        ≡ map (at_wide_line (parts ++ last ∷ [])) (covered l n (behind beats t))
    rows-followed = each-followed all_situations

-- of no beat no situation has come
pub rows-begun : {p : ℕ} (l : Liberties) (n line : ℕ) (parts : List (Trace p))
    → map (first_in line) (covered {w = p} l n []) ≡ map (at_wide_line parts) (covered {w = p} l n [])
unfolding lines
rows-begun {p} l n line parts = go all_situations
  where
    go : (all : List Situation)
        → map (first_in line) (map (row {w = p} l n []) all) ≡ map (at_wide_line parts) (map (row {w = p} l n []) all)
    go [] = refl
    go (s ∷ all) = ap (λ (rows : List Row). at_wide_line parts (row {w = p} l n [] s) ∷ rows) (go all)
