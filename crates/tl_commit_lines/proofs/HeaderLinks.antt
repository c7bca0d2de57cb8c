-- The links of a header of a trace with commits, and the words before them: what was spelled is read, and what was read
-- was spelled so.
use Rattle.tl_commit_lines.specs.code.HeadReading.{commits_at, named_links_at, with_commits, with_word, word_at}
use Rattle.tl_commit_lines.specs.code.HeadReading.{links_at, marked, marked_at, marked_links_at, unmarked, with_levels}
use Rattle.tl_commit_lines.specs.code.HeadReading.{with_mark, zero_at}
use Rattle.tl_commit_lines.specs.statement.MarkedHeader.{commits_text, word_text, AreMarkable, MarkedLinks, links_text}
use Rattle.tl_commit_lines.specs.statement.MarkedHeader.{mark_text, zero_text}
use Rattle.std.proofs.Common.{◌≡◌, ◌≢◌, ◌≤◌, ℕ, zero, suc, List, [], ◌∷◌, ◌++◌, length, refl, ap, sym, ◌∙◌}
use Rattle.std.proofs.Common.{append_assoc, arith, cond, false, subst, true}
use Rattle.std.proofs.lemmas.Bool.{eqb-true}
use Rattle.std.specs.Prelude.{◌==◌, Bool, Option, Some, None, codes, option_map, ⊤}
use Rattle.tl_params.proofs.Headers.{after_taken, is_end-taken, level_taken, more_levels}
use Rattle.tl_params.proofs.UpTo.{all-so, up_to-end, up_to-step}
use Rattle.tl_params.specs.code.HeaderReading.{after_word, level_at, onto}
use Rattle.tl_params.specs.declared.level.Level.{Level}
use Rattle.tl_params.specs.declared.level.Level.TheVariants as level
use Rattle.tl_params.specs.statement.Header.{is_end, level_text}
use Rattle.tl_commit_lines.specs.declared.header.MarkedLevel.{MarkedLevel}

-- only caches store
abbrev IsMarkable : MarkedLevel → Type 0
IsMarkable x = x.complete ≡ true → x.level ≡ level.C

abbrev marked_with : List ℕ → MarkedLevel × List ℕ
marked_with rest = (marked, rest)

abbrev unmarked_with : Level → List ℕ → MarkedLevel × List ℕ
unmarked_with l rest = (unmarked l, rest)

-- what is behind the level that was read, and its level
record IsMark (l : Level) (bytes : List ℕ) (x : MarkedLevel) (rest : List ℕ) : Type 0 where
  level_is : x.level ≡ l
  behind : bytes ≡ mark_text x.complete ++ rest
  markable : IsMarkable x

no-mark : (l : Level) (bytes rest : List ℕ) (x : MarkedLevel) → unmarked_with l bytes ≡ (x, rest) → IsMark l bytes x rest
no-mark l bytes rest x is =
    let same = ap (λ (z : MarkedLevel × List ℕ). z.0) is in
    let ends = ap (λ (z : MarkedLevel × List ℕ). z.1) is in
    rw (← same, ← ends) (record { level_is = refl; behind = refl; markable = λ no. absurd cc })

mark_taken : (l : Level) (bytes rest : List ℕ) (x : MarkedLevel) → with_mark l bytes ≡ (x, rest) → IsMark l bytes x rest
mark_taken level.UL bytes rest x is = no-mark level.UL bytes rest x is
mark_taken level.UH bytes rest x is = no-mark level.UH bytes rest x is
mark_taken level.C [] rest x is = no-mark level.C [] rest x is
mark_taken level.C (c ∷ bytes) rest x is = go (c == 43) refl is
  where
    go : (b : Bool) → (c == 43) ≡ b → cond b (marked_with bytes) (unmarked_with level.C (c ∷ bytes)) ≡ (x, rest)
        → IsMark level.C (c ∷ bytes) x rest
    go true plus same =
        let is_marked = ap (λ (z : MarkedLevel × List ℕ). z.0) same in
        let ends = ap (λ (z : MarkedLevel × List ℕ). z.1) same in
        rw (← is_marked, ← ends, eqb-true c 43 plus) (record { level_is = refl; behind = refl; markable = λ is. refl })
    go false plus same = no-mark level.C (c ∷ bytes) rest x same

-- the bytes of a level with its mark
abbrev pub field : MarkedLevel → List ℕ → List ℕ
field x rest = 32 ∷ (level_text x.level ++ (mark_text x.complete ++ rest))

pub some-is : {A : Type 0} {x y : A} → Some x ≡ Some y → x ≡ y
some-is e = cc

marked_taken : (bytes rest : List ℕ) (x : MarkedLevel) → marked_at bytes ≡ Some (x, rest)
    → (bytes ≡ field x rest) × IsMarkable x
marked_taken bytes rest x e = go (level_at bytes) refl e
  where
    go : (o : Option (Level × List ℕ)) → level_at bytes ≡ o → option_map (λ y. with_mark y.0 y.1) o ≡ Some (x, rest)
        → (bytes ≡ field x rest) × IsMarkable x
    go None is f = absurd cc
    go (Some (l, left)) is f =
        let it = mark_taken l left rest x (some-is f) in (
          level_taken bytes left l is ∙ ap (λ (k : Level). 32 ∷ (level_text k ++ left)) (sym it.level_is)
              ∙ ap (λ (b : List ℕ). 32 ∷ (level_text x.level ++ b)) it.behind,
          it.markable,
        )

-- where no level is read, none is read with its mark
pub no-level : (bytes : List ℕ) → level_at bytes ≡ None → marked_at bytes ≡ None
no-level bytes none = rw none refl

-- the bytes begin with no plus
abbrev pub NoPlus : List ℕ → Type 0
NoPlus [] = ⊤
NoPlus (c ∷ rest) = (c == 43) ≡ false

mark_again : (l : Level) (b : Bool) (rest : List ℕ) → (b ≡ true → l ≡ level.C) → NoPlus rest
    → marked_at (32 ∷ (level_text l ++ (mark_text b ++ rest))) ≡ Some (record { level = l; complete = b }, rest)
mark_again l true rest markable none = rw (markable refl) refl
mark_again level.UL false rest markable none = refl
mark_again level.UH false rest markable none = refl
mark_again level.C false [] markable none = refl
mark_again level.C false (c ∷ rest) markable none = rw none refl

marked_again : (x : MarkedLevel) (rest : List ℕ) → IsMarkable x → NoPlus rest → marked_at (field x rest) ≡ Some (x, rest)
marked_again x rest markable none = mark_again x.level x.complete rest markable none

-- ---- all of them

-- the levels of a header and the end of its line
abbrev pub levels_tail : List MarkedLevel → List ℕ
levels_tail links = links_text links ++ codes "\n"

-- the bytes are those of these levels and a line feed
abbrev AreLinks : List ℕ → List MarkedLevel → Type 0
AreLinks bytes links = (bytes ≡ levels_tail links) × AreMarkable links

one_more : (bytes rest : List ℕ) (x : MarkedLevel) (links : List MarkedLevel) → marked_at bytes ≡ Some (x, rest)
    → AreLinks rest links → AreLinks bytes (x ∷ links)
one_more bytes rest x links is (text, markable) =
    let (front, of_cache) = marked_taken bytes rest x is in
    (rw (front, text) (simp append_assoc), (of_cache, markable))

none_at_end : (bytes : List ℕ) → is_end bytes ≡ true → AreLinks bytes []
none_at_end bytes end = (is_end-taken bytes end, tt)

levels_read : (n : ℕ) (bytes : List ℕ) (links : List MarkedLevel) → links_at n bytes ≡ Some links
    → ((bytes ≡ levels_tail links) × AreMarkable links) × (length links ≤ n)
levels_read n bytes links e = all-so marked_at AreLinks none_at_end one_more n bytes links e

no_plus : (links : List MarkedLevel) → NoPlus (levels_tail links)
no_plus [] = refl
no_plus (x ∷ links) = refl

more_links : (x : MarkedLevel) (rest : List ℕ) → is_end (field x rest) ≡ false
more_links x rest = more_levels x.level (mark_text x.complete ++ rest)

tail_more : (x : MarkedLevel) (links : List MarkedLevel) → levels_tail (x ∷ links) ≡ field x (levels_tail links)
tail_more x links = simp append_assoc

levels_again : (n : ℕ) (links : List MarkedLevel) → length links ≤ n → AreMarkable links
    → links_at n (levels_tail links) ≡ Some links
levels_again n [] few markable = up_to-end marked_at n (10 ∷ []) refl
levels_again zero (x ∷ links) few markable = absurd (omega arith)
levels_again (suc n) (x ∷ links) few markable =
    ap (links_at (suc n)) (tail_more x links)
    ∙ up_to-step marked_at (suc n) n (field x (levels_tail links)) (levels_tail links) x refl
    (more_links x (levels_tail links))
    (marked_again x (levels_tail links) markable.0 (no_plus links))
    ∙ ap (onto x) (levels_again n links (omega arith) markable.1)

-- ---- the words before them

word_taken : (word bytes : List ℕ) → bytes ≡ word_text word (word_at word bytes).0 ++ (word_at word bytes).1
word_taken word bytes = go (after_word word bytes) refl
  where
    go : (o : Option (List ℕ)) → after_word word bytes ≡ o
        → bytes ≡ word_text word (with_word bytes o).0 ++ (with_word bytes o).1
    go None is = refl
    go (Some rest) is = after_taken word bytes rest is

-- a word that stands there is read
pub word-read : (word rest : List ℕ) → word_at word (word ++ rest) ≡ (true, rest)
word-read word rest = ap (with_word (word ++ rest)) (again word)
  where
    same_number : (n : ℕ) → (n == n) ≡ true
    same_number n = grind arith

    again : (front : List ℕ) → after_word front (front ++ rest) ≡ Some rest
    again [] = refl
    again (c ∷ front) = rw (same_number c) (again front)

-- where it doesn't stand there, it isn't
pub no-word : (word bytes : List ℕ) → ((rest : List ℕ) → bytes ≢ word ++ rest) → word_at word bytes ≡ (false, bytes)
no-word word bytes none = go (after_word word bytes) refl
  where
    go : (o : Option (List ℕ)) → after_word word bytes ≡ o → with_word bytes o ≡ (false, bytes)
    go None is = refl
    go (Some rest) is = absurd (none rest (after_taken word bytes rest is))

level-first : (l : Level) (rest : List ℕ)
    → zero_at (32 ∷ (level_text l ++ rest)) ≡ (false, 32 ∷ (level_text l ++ rest))
level-first level.UL rest = refl
level-first level.UH rest = refl
level-first level.C rest = refl

zero_again : (from_zero : Bool) (links : List MarkedLevel)
    → zero_at (zero_text from_zero ++ levels_tail links) ≡ (from_zero, levels_tail links)
zero_again true links = refl
zero_again false [] = refl
zero_again false (x ∷ links) =
    ap zero_at (tail_more x links) ∙ level-first x.level (mark_text x.complete ++ levels_tail links)
    ∙ ap (λ (b : List ℕ). (false, b)) (sym (tail_more x links))

-- the links of a header and the end of its line
abbrev pub tail : MarkedLinks → List ℕ
tail links = zero_text links.zero ++ levels_tail links.levels

links_taken : (bytes : List ℕ) (links : MarkedLinks) → marked_links_at bytes ≡ Some links
    → ((bytes ≡ tail links) × AreMarkable links.levels) × (length links.levels ≤ 16)
links_taken bytes links e = go (links_at 16 (zero_at bytes).1) refl e
  where
    go : (o : Option (List MarkedLevel)) → links_at 16 (zero_at bytes).1 ≡ o
        → with_levels (zero_at bytes).0 o ≡ Some links
        → ((bytes ≡ tail links) × AreMarkable links.levels) × (length links.levels ≤ 16)
    go None is f = absurd cc
    go (Some levels) is f =
        let ((ends, markable), few) = levels_read 16 (zero_at bytes).1 levels is in
        subst (λ (k : MarkedLinks). ((bytes ≡ tail k) × AreMarkable k.levels) × (length k.levels ≤ 16)) (some-is f)
        ((word_taken (codes " zero") bytes ∙ ap (λ (b : List ℕ). zero_text (zero_at bytes).0 ++ b) ends, markable), few)

links_again : (links : MarkedLinks) → length links.levels ≤ 16 → AreMarkable links.levels
    → marked_links_at (tail links) ≡ Some links
links_again links few markable =
    rw (zero_again links.zero links.levels, levels_again 16 links.levels few markable) refl

-- ---- the word `commits` before them

commits-first : (l : Level) (rest : List ℕ)
    → commits_at (32 ∷ (level_text l ++ rest)) ≡ (false, 32 ∷ (level_text l ++ rest))
commits-first level.UL rest = refl
commits-first level.UH rest = refl
commits-first level.C rest = refl

commits_again : (commits from_zero : Bool) (links : List MarkedLevel)
    → commits_at (commits_text commits ++ (zero_text from_zero ++ levels_tail links))
    ≡ (commits, zero_text from_zero ++ levels_tail links)
commits_again true from_zero links = refl
commits_again false true links = refl
commits_again false false [] = refl
commits_again false false (x ∷ links) =
    ap commits_at (tail_more x links) ∙ commits-first x.level (mark_text x.complete ++ levels_tail links)
    ∙ ap (λ (b : List ℕ). (false, b)) (sym (tail_more x links))

-- the links of a header with the word before them, or without
abbrev pub whole_tail : Bool → MarkedLinks → List ℕ
whole_tail commits links = commits_text commits ++ tail links

pub named_taken : (bytes : List ℕ) (commits : Bool) (links : MarkedLinks) → named_links_at bytes ≡ Some (commits, links)
    → ((bytes ≡ whole_tail commits links) × AreMarkable links.levels) × (length links.levels ≤ 16)
named_taken bytes commits links e = go (marked_links_at (commits_at bytes).1) refl e
  where
    go : (o : Option MarkedLinks) → marked_links_at (commits_at bytes).1 ≡ o
        → with_commits (commits_at bytes).0 o ≡ Some (commits, links)
        → ((bytes ≡ whole_tail commits links) × AreMarkable links.levels) × (length links.levels ≤ 16)
    go None is f = absurd cc
    go (Some found) is f =
        let ((ends, markable), few) = links_taken (commits_at bytes).1 found is in
        subst (λ (k : Bool × MarkedLinks). ((bytes ≡ whole_tail k.0 k.1) × AreMarkable k.1.levels)
        × (length k.1.levels ≤ 16)) (some-is f) (
          (
            word_taken (codes " commits") bytes ∙ ap (λ (b : List ℕ). commits_text (commits_at bytes).0 ++ b) ends,
            markable,
          ),
          few,
        )

pub named_again : (commits : Bool) (links : MarkedLinks) → length links.levels ≤ 16 → AreMarkable links.levels
    → named_links_at (whole_tail commits links) ≡ Some (commits, links)
named_again commits links few markable =
    rw (commits_again commits links.zero links.levels, links_again links few markable) refl
