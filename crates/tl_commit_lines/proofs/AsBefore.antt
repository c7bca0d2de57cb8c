-- A trace whose header names no link of level C+, and doesn't say that memory was zero, is judged as before, and no
-- other header says either.
use Rattle.tl_commit_lines.specs.statement.MarkedHeader.{commits_text}
use Rattle.std.proofs.Common.{◌≡◌, ◌∙◌, ℕ, Bool, true, false, List, [], ◌∷◌, ◌++◌, refl, sym, cond, inl, inr, map, codes}
use Rattle.std.proofs.lemmas.List.Folds.{list_any-append}
use Rattle.std.specs.List.{filter, list_any}
use Rattle.std.specs.Prelude.{◌==◌, ◌||◌}
use Rattle.tl_command.specs.statement.LibertyWords.{SpellsLiberties, all_liberties, joined}
use Rattle.tl_lines.specs.declared.status.Status.{Status}
use Rattle.tl_lines.specs.statement.LinksHeader.{NamesLinks, fourth_front}
use Rattle.tl_lines.specs.statement.Trace.{levels_text, trace_word}
use Rattle.tl_params.specs.declared.header.Version.{Version}
use Rattle.tl_params.specs.declared.header.Version.TheVariants.{First, Second, Third}
use Rattle.tl_params.specs.declared.level.Level.{Level}
use Rattle.tl_params.specs.declared.level.Level.TheVariants as level
use Rattle.tl_params.specs.declared.liberties.Liberties.{Liberties}
use Rattle.tl_params.specs.declared.liberties.Liberty.{Liberty}
use Rattle.tl_params.specs.declared.liberties.Liberty.TheVariants as liberty
use Rattle.tl_params.specs.declared.profile.Profile.TheVariants as profile
use Rattle.tl_params.specs.declared.width.Width.{Width}
use Rattle.tl_params.specs.declared.width.Width.TheVariants.{Four, Eight, Sixteen}
use Rattle.tl_params.specs.statement.Header.{level_text, version_text}
use Rattle.tl_params.specs.statement.Liberties.{allows, liberty_name}
use Rattle.tl_wide.specs.declared.width.WideWidth.{WideWidth}
use Rattle.tl_wide.specs.declared.width.WideWidth.TheVariants as wide
use Rattle.tl_wide_lines.specs.statement.JudgedTrace.{JudgedTrace}
use Rattle.tl_wide_lines.specs.statement.WideHeader.{SpellsFifth, fifth_front}
use Rattle.tl_commit_lines.proofs.MarkedHeaders.{none_for}
use Rattle.tl_commit_lines.specs.declared.header.MarkedLevel.{MarkedLevel}
use Rattle.tl_commit_lines.specs.statement.JudgedEvents.{JudgedCommits}
use Rattle.tl_commit_lines.specs.statement.MarkedHeader.{MarkedLinks, SpellsLinks, SpellsMarked, links_text, mark_text}
use Rattle.tl_commit_lines.specs.statement.MarkedHeader.{some_marked, zero_text}

pub as-before : (together : Bool) (allow : Liberties) (line : List ℕ) (lines : List (List ℕ)) (text : List ℕ)
    (status : Status)
    → ((width : Width) (own : Liberties) (links : MarkedLinks) → ¬ SpellsMarked line width own links)
    → JudgedCommits together allow (line ∷ lines) text status → JudgedTrace together allow (line ∷ lines) text status
as-before together allow line lines text status none (inr (unnamed, judged)) = judged
as-before together allow line lines text status none (inl (width, may, links, named, judged)) =
    absurd (none_for allow line none width may links named)

-- ---- a plus, an m or a z is in the headers of traces with commits alone

-- the byte is a plus, an m or a z
abbrev is_sign : ℕ → Bool
is_sign c = (c == 43) || ((c == 109) || (c == 122))

-- there is one among the bytes
abbrev pub has_sign : List ℕ → Bool
has_sign bytes = list_any is_sign bytes

without-both : (a b : List ℕ) → has_sign a ≡ false → has_sign b ≡ false → has_sign (a ++ b) ≡ false
without-both a b none also = rw (list_any-append is_sign a b, none, also) refl

with-last : (a b : List ℕ) → has_sign b ≡ true → has_sign (a ++ b) ≡ true
with-last a b some = list_any-append is_sign a b ∙ go (has_sign a) (has_sign b) some
  where
    go : (x y : Bool) → y ≡ true → (x || y) ≡ true
    go true y is = refl
    go false y is = is

with-first : (a b : List ℕ) → has_sign a ≡ true → has_sign (a ++ b) ≡ true
with-first a b some = rw (list_any-append is_sign a b, some) refl

-- ---- the parts of other headers have none

level-without : (l : Level) → has_sign (level_text l) ≡ false
level-without level.UL = refl
level-without level.UH = refl
level-without level.C = refl

levels-without : (levels : List Level) → has_sign (levels_text levels) ≡ false
levels-without [] = refl
levels-without (l ∷ levels) =
    without-both (codes " " ++ level_text l) (levels_text levels)
    (without-both (codes " ") (level_text l) refl (level-without l)) (levels-without levels)

tail-without : (levels : List Level) → has_sign (levels_text levels ++ codes "\n") ≡ false
tail-without levels = without-both (levels_text levels) (codes "\n") (levels-without levels) refl

name-without : (x : Liberty) → has_sign (liberty_name x) ≡ false
name-without liberty.Ids = refl
name-without liberty.Sinks = refl
name-without liberty.Writer = refl
name-without liberty.Early = refl
name-without liberty.Drops = refl
name-without liberty.Reports = refl
name-without liberty.Denied = refl
name-without liberty.Uncorrupt = refl

joined-more : (name : List ℕ) (names : List (List ℕ)) → has_sign name ≡ false → has_sign (joined names) ≡ false
    → has_sign (joined (name ∷ names)) ≡ false
unfolding joined
joined-more name [] none rest = none
joined-more name (next ∷ names) none rest = without-both name (44 ∷ joined (next ∷ names)) none rest

names-without : (p : Liberty → Bool) (xs : List Liberty) → has_sign (joined (map liberty_name (filter p xs))) ≡ false
unfolding joined
names-without p [] = refl
names-without p (x ∷ xs) = go (p x) (names-without p xs)
  where
    go : (b : Bool) → has_sign (joined (map liberty_name (filter p xs))) ≡ false
        → has_sign (joined (map liberty_name (cond b (x ∷ filter p xs) (filter p xs)))) ≡ false
    go true rest = joined-more (liberty_name x) (map liberty_name (filter p xs)) (name-without x) rest
    go false rest = rest

word-without : (word : List ℕ) (l : Liberties) → SpellsLiberties word l → has_sign word ≡ false
word-without word l (inl (is, set)) = rw is refl
word-without word l (inr (inl (is, set))) = rw is refl
word-without word l (inr (inr (inl (is, set)))) = rw is refl
word-without word l (inr (inr (inr (some, is)))) = rw is (names-without (allows l) all_liberties)

fourth-without : (width : Width) → has_sign (fourth_front width) ≡ false
fourth-without Four = refl
fourth-without Eight = refl
fourth-without Sixteen = refl

fifth-without : (width : WideWidth) → has_sign (fifth_front width) ≡ false
fifth-without wide.Four = refl
fifth-without wide.Eight = refl
fifth-without wide.Sixteen = refl
fifth-without wide.ThirtyTwo = refl
fifth-without wide.SixtyFour = refl

version-without : (version : Version) → has_sign (version_text version) ≡ false
version-without First = refl
version-without (Second Four) = refl
version-without (Second Eight) = refl
version-without (Second Sixteen) = refl
version-without (Third Four profile.One) = refl
version-without (Third Four profile.Two) = refl
version-without (Third Eight profile.One) = refl
version-without (Third Eight profile.Two) = refl
version-without (Third Sixteen profile.One) = refl
version-without (Third Sixteen profile.Two) = refl

-- liberties and levels
named-without : (word : List ℕ) (l : Liberties) (levels : List Level) → SpellsLiberties word l
    → has_sign (word ++ (levels_text levels ++ codes "\n")) ≡ false
named-without word l levels spells =
    without-both word (levels_text levels ++ codes "\n") (word-without word l spells) (tail-without levels)

pub links-without : (line : List ℕ) (width : Width) (may : Liberties) (levels : List Level)
    → NamesLinks line width may levels → has_sign line ≡ false
links-without line width may levels (inr h) = rw h.is_line
    (without-both (fourth_front width) (h.word ++ (levels_text levels ++ codes "\n")) (fourth-without width)
    (named-without h.word may levels h.spells))
links-without line width may levels (inl (p, h, same)) = rw h.is_line
    (without-both (trace_word ++ version_text h.version ++ levels_text levels) (codes "\n")
    (without-both (trace_word ++ version_text h.version) (levels_text levels)
    (without-both trace_word (version_text h.version) refl (version-without h.version)) (levels-without levels)) refl)

pub fifth-header-without : (line : List ℕ) (width : WideWidth) (may : Liberties) (levels : List Level)
    → SpellsFifth line width may levels → has_sign line ≡ false
fifth-header-without line width may levels (rest, is, h) = rw (is, h.are_bytes)
    (without-both (fifth_front width) (h.word ++ (levels_text levels ++ codes "\n")) (fifth-without width)
    (named-without h.word may levels h.spells))

-- ---- a header of a trace with commits has one

marked-with : (links : List MarkedLevel) → some_marked links ≡ true → has_sign (links_text links) ≡ true
marked-with [] some = absurd cc
marked-with (x ∷ links) some =
    with-last (codes " ") (level_text x.level ++ (mark_text x.complete ++ links_text links))
    (with-last (level_text x.level) (mark_text x.complete ++ links_text links) (go x.complete some (marked-with links)))
  where
    go : (b : Bool) → (b || some_marked links) ≡ true → (some_marked links ≡ true → has_sign (links_text links) ≡ true)
        → has_sign (mark_text b ++ links_text links) ≡ true
    go true is rest = refl
    go false is rest = rest is

said-with : (commits from_zero : Bool) (links : List MarkedLevel) → (commits || (from_zero || some_marked links)) ≡ true
    → has_sign (commits_text commits ++ (zero_text from_zero ++ (links_text links ++ codes "\n"))) ≡ true
said-with true from_zero links says =
    with-first (codes " commits") (zero_text from_zero ++ (links_text links ++ codes "\n")) refl
said-with false true links says = with-first (codes " zero") (links_text links ++ codes "\n") refl
said-with false false links says = with-first (links_text links) (codes "\n") (marked-with links says)

-- so have its bytes behind any front
pub links-with : (front rest : List ℕ) (may : Liberties) (links : MarkedLinks) → SpellsLinks rest may links
    → has_sign (front ++ rest) ≡ true
links-with front rest may links h = with-last front rest (rw h.are_bytes (with-last h.word
    (commits_text h.commits ++ (zero_text links.zero ++ (links_text links.levels ++ codes "\n")))
    (said-with h.commits links.zero links.levels h.says)))

header-with : (line : List ℕ) (width : Width) (may : Liberties) (links : MarkedLinks)
    → SpellsMarked line width may links → has_sign line ≡ true
header-with line width may links (rest, is, h) = rw is (links-with (fourth_front width) rest may links h)

-- so it is no other header
pub links-apart : (line : List ℕ) (width other : Width) (may own : Liberties) (levels : List Level)
    (links : MarkedLinks) → NamesLinks line width may levels → ¬ SpellsMarked line other own links
links-apart line width other may own levels links named h =
    let both : false ≡ true = sym (links-without line width may levels named) ∙ header-with line other own links h in
    absurd cc

pub wide-apart : (line : List ℕ) (width : WideWidth) (other : Width) (may own : Liberties) (levels : List Level)
    (links : MarkedLinks) → SpellsFifth line width may levels → ¬ SpellsMarked line other own links
wide-apart line width other may own levels links named h =
    let both : false ≡ true = sym (fifth-header-without line width may levels named)
    ∙ header-with line other own links h in
    absurd cc
