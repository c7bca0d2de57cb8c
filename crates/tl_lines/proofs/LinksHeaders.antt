-- Headers that name what links may do: what was spelled is read, and what was read was spelled so.
use denote.Ref.{Bor}
use Rattle.std.proofs.Common.{◌≡◌, ◌≢◌, ◌≤◌, true, append_assoc, length-append, ℕ, List, [], ◌∷◌, ◌++◌, length, refl, ap, sym, ◌∙◌, arith, codes, inl, inr}
use Rattle.std.specs.Io.BufRead.{ends_with_byte}
use Rattle.std.specs.Prelude.{◌⊎◌, IfSome, MatchOption, Option, Some, None}
use Rattle.tl_beat.proofs.SpelledLines.{ends_with_byte-line}
use Rattle.tl_command.proofs.LibertyWords.{liberties_again, liberties_taken, word-short}
use Rattle.tl_command.specs.code.LibertyReading.{liberties_at}
use Rattle.tl_command.specs.statement.LibertyWords.{LacksComma, SpellsLiberties}
use Rattle.tl_lines.proofs.Headers.{header_again, header_or_none, levels_again, levels_taken}
use Rattle.tl_lines.proofs.Judged.{levels-short, open_line}
use Rattle.tl_lines.proofs.JudgedTraces.{IsReadable}
use Rattle.tl_lines.specs.statement.Lines.{IsOpen}
use Rattle.tl_lines.specs.code.TraceReading.{header_at, levels_at}
use Rattle.tl_lines.specs.declared.header.Header.{Header}
use Rattle.tl_lines.specs.statement.Trace.{IsHeader, SpellsHeader, SpellsLevels, levels_text}
use Rattle.tl_lines.specs.code.HeadReading.{front_at, with_eight, with_four, with_sixteen}
use Rattle.tl_lines.specs.declared.links_header.LinksHeader.{LinksHeader}
use Rattle.tl_lines.specs.statement.LinksHeader.{IsLinks, NamesAllowed, NamesLinks, SpellsFourth, SpellsNamed, fourth_front}
use Rattle.tl_params.proofs.Headers.{after_taken}
use Rattle.tl_params.proofs.Options.{some_pair}
use Rattle.tl_params.specs.code.HeaderReading.{after_word}
use Rattle.tl_params.specs.declared.level.Level.{Level}
use Rattle.tl_params.specs.declared.level.Level.TheVariants as level
use Rattle.tl_params.specs.declared.liberties.Liberties.{Liberties}
use Rattle.tl_params.specs.declared.profile.Profile.{Profile}
use Rattle.tl_params.specs.declared.width.Width.{Width}
use Rattle.tl_params.specs.declared.width.Width.TheVariants.{Four, Eight, Sixteen}
use Rattle.tl_params.specs.statement.Config.{IsCount}
use Rattle.tl_params.specs.statement.Liberties.{liberties_of, united}

-- ---- the front

pub front_again : (width : Width) (rest : List ℕ) → front_at (fourth_front width ++ rest) ≡ Some (width, rest)
front_again Four rest = refl
front_again Eight rest = refl
front_again Sixteen rest = refl

pub front_taken : (line rest : List ℕ) (width : Width) → front_at line ≡ Some (width, rest)
    → line ≡ fourth_front width ++ rest
front_taken line rest width e = at_four (after_word (codes "tltrace 4 4 ") line) refl e
  where
    at_sixteen : (o : Option (List ℕ)) → after_word (codes "tltrace 4 16 ") line ≡ o
        → with_sixteen o ≡ Some (width, rest) → line ≡ fourth_front width ++ rest
    at_sixteen None is f = absurd cc
    at_sixteen (Some left) is f =
        let (same, ends) = some_pair (Sixteen, left) (width, rest) f in
        rw (← same, ← ends) (after_taken (codes "tltrace 4 16 ") line left is)

    at_eight : (o : Option (List ℕ)) → after_word (codes "tltrace 4 8 ") line ≡ o
        → with_eight line o ≡ Some (width, rest) → line ≡ fourth_front width ++ rest
    at_eight None is f = at_sixteen (after_word (codes "tltrace 4 16 ") line) refl f
    at_eight (Some left) is f =
        let (same, ends) = some_pair (Eight, left) (width, rest) f in
        rw (← same, ← ends) (after_taken (codes "tltrace 4 8 ") line left is)

    at_four : (o : Option (List ℕ)) → after_word (codes "tltrace 4 4 ") line ≡ o
        → with_four line o ≡ Some (width, rest) → line ≡ fourth_front width ++ rest
    at_four None is f = at_eight (after_word (codes "tltrace 4 8 ") line) refl f
    at_four (Some left) is f =
        let (same, ends) = some_pair (Four, left) (width, rest) f in
        rw (← same, ← ends) (after_taken (codes "tltrace 4 4 ") line left is)

-- where no front stands there, none is read
pub no_front : (line : List ℕ) → ((width : Width) (rest : List ℕ) → line ≢ fourth_front width ++ rest)
    → front_at line ≡ None
no_front line none = go (front_at line) refl
  where
    go : (o : Option (Width × List ℕ)) → front_at line ≡ o → front_at line ≡ None
    go None is = is
    go (Some (width, rest)) is = absurd (none width rest (front_taken line rest width is))

-- a word that isn't found at the front doesn't stand there
pub not_found : (word line : List ℕ) (found : Option (Bor (List ℕ)))
    → MatchOption found ((rest : List ℕ) → line ≢ word ++ rest) (λ rest. line ≡ word ++ rest.now) → found ≡ None
    → (rest : List ℕ) → line ≢ word ++ rest
not_found word line None none is = none
not_found word line (Some rest) some is = absurd cc

-- the three fronts
pub none_of : (line : List ℕ) → ((rest : List ℕ) → line ≢ fourth_front Four ++ rest)
    → ((rest : List ℕ) → line ≢ fourth_front Eight ++ rest) → ((rest : List ℕ) → line ≢ fourth_front Sixteen ++ rest)
    → front_at line ≡ None
none_of line four eight sixteen = no_front line go
  where
    go : (width : Width) (rest : List ℕ) → line ≢ fourth_front width ++ rest
    go Four = four
    go Eight = eight
    go Sixteen = sixteen

-- ---- a whole header

-- the levels of a header and the end of its line
abbrev pub tail : List Level → List ℕ
tail levels = levels_text levels ++ codes "\n"

-- the first of some bytes, or 0
abbrev first : List ℕ → ℕ
first [] = 0
first (c ∷ bytes) = c

space_first : (l : Level) (levels : List Level) → first (tail (l ∷ levels)) ≡ 32
space_first level.UL levels = refl
space_first level.UH levels = refl
space_first level.C levels = refl

comma_first : (bytes rest : List ℕ) → bytes ≡ 44 ∷ rest → first bytes ≡ 44
comma_first bytes rest e = ap first e

unlike_space : (n : ℕ) → n ≡ 32 → n ≡ 44 → ⊥
unlike_space n space comma = absurd (omega (arith, space, comma))

pub lacks_comma : (levels : List Level) → IsCount (length levels) → LacksComma (tail levels)
lacks_comma [] many rest e = absurd (omega (arith, many.0))
lacks_comma (l ∷ levels) many rest e =
    unlike_space (first (tail (l ∷ levels))) (space_first l levels) (comma_first (tail (l ∷ levels)) rest e)

module _ (line : List ℕ) (width : Width) (may : Liberties) (levels : List Level)
    (h : SpellsFourth line width may levels) where
  pub fourth_at : front_at line ≡ Some (width, h.word ++ tail levels)
  fourth_at = ap front_at h.is_line ∙ front_again width (h.word ++ tail levels)

  pub fourth_behind : (x : Width × List ℕ) → front_at line ≡ Some x → (x.0 ≡ width) × (x.1 ≡ h.word ++ tail levels)
  fourth_behind x is = some_pair x (width, h.word ++ tail levels) (sym is ∙ fourth_at)

  pub fourth_unread : front_at line ≢ None
  fourth_unread none = let some = fourth_at in cc

  -- what stands behind its front
  pub named_behind : (wide : Width) (rest : List ℕ) → front_at line ≡ Some (wide, rest) → SpellsNamed rest may levels
  named_behind wide rest is = record {
    word = h.word;
    spells = h.spells;
    are_bytes = (fourth_behind (wide, rest) is).1;
    so_many = h.so_many;
  }

-- what was read is a header
pub fourth_spelled : (line rest : List ℕ) (width : Width) (may : Liberties) (levels : List Level)
    → front_at line ≡ Some (width, rest) → SpellsNamed rest may levels → SpellsFourth line width may levels
fourth_spelled line rest width may levels front named = record {
  word = named.word;
  spells = named.spells;
  is_line = front_taken line rest width front ∙ ap (λ (x : List ℕ). fourth_front width ++ x) named.are_bytes;
  so_many = named.so_many;
}

-- so are liberties and levels
pub named_spelled : (bytes left word : List ℕ) (may : Liberties) (levels : List Level) → SpellsLiberties word may
    → bytes ≡ word ++ left → SpellsLevels left levels → levels ≢ [] → SpellsNamed bytes may levels
named_spelled bytes left word may [] spells text (ends, few) some = absurd (some refl)
named_spelled bytes left word may (l ∷ levels) spells text (ends, few) some = record {
  word = word;
  spells = spells;
  are_bytes = text ∙ ap (λ (x : List ℕ). word ++ x) ends;
  so_many = (omega arith, few);
}

-- ---- of any version

-- a header of the fourth version is none of the others
none_at : (width : Width) (rest : List ℕ) → header_at (fourth_front width ++ rest) ≡ None
none_at Four rest = refl
none_at Eight rest = refl
none_at Sixteen rest = refl

pub versions_apart : (line : List ℕ) (wide width : Width) (p : Profile) (may : Liberties) (levels others : List Level)
    → SpellsHeader line wide p levels → SpellsFourth line width may others → ⊥
versions_apart line wide width p may levels others s h =
    let some = header_again line wide p levels s in
    let none = ap header_at h.is_line ∙ none_at width (h.word ++ tail others) in
    absurd cc

pub fourth_named : (found : Option LinksHeader) (line : List ℕ)
    → IfSome found (λ header. SpellsFourth line header.width header.may header.levels.items)
    → IfSome found (λ header. NamesLinks line header.width header.may header.levels.items)
fourth_named None line spelled = tt
fourth_named (Some header) line spelled = inr spelled

pub named_fourth : (found : Option LinksHeader) (line : List ℕ)
    → ((width : Width) (p : Profile) (levels : List Level) → ¬ SpellsHeader line width p levels)
    → ((width : Width) (may : Liberties) (levels : List Level) → SpellsFourth line width may levels
    → IsLinks found width may levels)
    → (width : Width) (may : Liberties) (levels : List Level) → NamesLinks line width may levels
    → IsLinks found width may levels
named_fourth found line none every width may levels (inl (p, s, is)) = absurd (none width p levels s)
named_fourth found line none every width may levels (inr h) = every width may levels h

pub named_before : (header : Header) (line : List ℕ) (found : LinksHeader)
    → SpellsHeader line header.width header.profile header.levels.items
    → ((width : Width) (p : Profile) (levels : List Level) → SpellsHeader line width p levels
    → IsHeader (Some header) width p levels)
    → found.width ≡ header.width → found.may ≡ liberties_of header.profile
    → found.levels.items ≡ header.levels.items
    → (width : Width) (may : Liberties) (levels : List Level) → NamesLinks line width may levels
    → IsLinks (Some found) width may levels
named_before header line found spelled every wide may_is many width may levels (inl (p, s, is)) =
    let (w, q, l) = every width p levels s in
    (wide ∙ w, may_is ∙ ap liberties_of q ∙ sym is, many ∙ l)
named_before header line found spelled every wide may_is many width may levels (inr h) =
    absurd (versions_apart line header.width width header.profile may header.levels.items levels spelled h)

-- ---- a line is a header, or none

abbrev pub NamedOrNone : List ℕ → Type 0
NamedOrNone bytes =
    ((may : Liberties) × (levels : List Level) × SpellsNamed bytes may levels)
    ⊎ ((may : Liberties) (levels : List Level) → ¬ SpellsNamed bytes may levels)

module _ (bytes : List ℕ) where
  at_levels : (left word : List ℕ) (may : Liberties) → SpellsLiberties word may → bytes ≡ word ++ left
      → liberties_at bytes ≡ Some (may, left) → (o : Option (List Level)) → levels_at 16 left ≡ o → NamedOrNone bytes
  at_levels left word may spells text named o is = go o is
    where
      unlike : (other : Liberties) (levels : List Level) → SpellsNamed bytes other levels
          → levels_at 16 left ≡ Some levels
      unlike other levels h =
          let read = liberties_again h.word (tail levels) other h.spells (lacks_comma levels h.so_many) in
          let (m, ends) = some_pair (may, left) (other, tail levels) (sym named ∙ ap liberties_at h.are_bytes ∙ read) in
          ap (levels_at 16) ends ∙ levels_again 16 levels h.so_many.1

      none_named : (other : Liberties) (levels : List Level) → levels_at 16 left ≡ None → ¬ SpellsNamed bytes other levels
      none_named other levels none h = let some = unlike other levels h in absurd cc

      not_empty : (other : Liberties) (levels : List Level) → levels_at 16 left ≡ Some []
          → ¬ SpellsNamed bytes other levels
      not_empty other [] empty h = absurd (omega (arith, h.so_many.0))
      not_empty other (l ∷ levels) empty h = let some = unlike other (l ∷ levels) h in absurd cc

      go : (o : Option (List Level)) → levels_at 16 left ≡ o → NamedOrNone bytes
      go None is = inr (λ other levels. none_named other levels is)
      go (Some []) is = inr (λ other levels. not_empty other levels is)
      go (Some (l ∷ levels)) is =
          inl (
            may,
            l ∷ levels,
            named_spelled bytes left word may (l ∷ levels) spells text (levels_taken 16 left (l ∷ levels) is)
                (λ none. absurd cc),
          )

  at_liberties : (o : Option (Liberties × List ℕ)) → liberties_at bytes ≡ o → NamedOrNone bytes
  at_liberties None is = inr (λ other levels h. no other levels h)
    where
      no : (other : Liberties) (levels : List Level) → ¬ SpellsNamed bytes other levels
      no other levels h =
          let read = liberties_again h.word (tail levels) other h.spells (lacks_comma levels h.so_many) in
          let some = ap liberties_at h.are_bytes ∙ read in
          absurd cc
  at_liberties (Some (may, left)) is =
      let (word, spells, text) = liberties_taken bytes left may is in
      at_levels left word may spells text is (levels_at 16 left) refl

pub named_or_none : (bytes : List ℕ) → NamedOrNone bytes
named_or_none bytes = at_liberties bytes (liberties_at bytes) refl

abbrev FourthOrNone : List ℕ → Type 0
FourthOrNone line =
    ((width : Width) × (may : Liberties) × (levels : List Level) × SpellsFourth line width may levels)
    ⊎ ((width : Width) (may : Liberties) (levels : List Level) → ¬ SpellsFourth line width may levels)

fourth_or_none : (line : List ℕ) → FourthOrNone line
fourth_or_none line = go (front_at line) refl
  where
    behind : (wide : Width) (rest : List ℕ) → front_at line ≡ Some (wide, rest) → NamedOrNone rest → FourthOrNone line
    behind wide rest is (inl (may, levels, named)) =
        inl (wide, may, levels, fourth_spelled line rest wide may levels is named)
    behind wide rest is (inr none) =
        inr (λ width may levels h. none may levels (named_behind line width may levels h wide rest is))

    go : (o : Option (Width × List ℕ)) → front_at line ≡ o → FourthOrNone line
    go None is = inr (λ width may levels h. absurd (fourth_unread line width may levels h is))
    go (Some (wide, rest)) is = behind wide rest is (named_or_none rest)

pub links_or_none : (line : List ℕ) → IsReadable NamesLinks line
links_or_none line = go (header_or_none line) (fourth_or_none line)
  where
    go : IsReadable SpellsHeader line → FourthOrNone line → IsReadable NamesLinks line
    go (inl (width, p, levels, s)) fourth = inl (width, liberties_of p, levels, inl (p, s, refl))
    go (inr none) (inl (width, may, levels, h)) = inl (width, may, levels, inr h)
    go (inr none) (inr neither) = inr (λ width may levels named. no width may levels named)
      where
        no : (width : Width) (may : Liberties) (levels : List Level) → ¬ NamesLinks line width may levels
        no width may levels (inl (p, s, is)) = none width p levels s
        no width may levels (inr h) = neither width may levels h

-- ---- a header's line ends in LF, and is short

pub front-short : (width : Width) → length (fourth_front width) ≤ 13
front-short Four = omega arith
front-short Eight = omega arith
front-short Sixteen = omega arith

fourth_open : (line : List ℕ) → IsOpen line → (width : Width) (may : Liberties) (levels : List Level)
    → ¬ SpellsFourth line width may levels
fourth_open line (inl ends) width may levels h =
    let text : line ≡ (fourth_front width ++ (h.word ++ levels_text levels)) ++ 10 ∷ [] =
    h.is_line ∙ ap (λ (x : List ℕ). fourth_front width ++ x)
    (sym (append_assoc h.word (levels_text levels) (10 ∷ [])))
    ∙ sym (append_assoc (fourth_front width) (h.word ++ levels_text levels) (10 ∷ [])) in
    let lf : ends_with_byte 10 line ≡ true =
    rw text (ends_with_byte-line (fourth_front width ++ (h.word ++ levels_text levels))) in
    absurd cc
fourth_open line (inr long) width may levels h =
    let size = ap (λ (x : List ℕ). length x) h.is_line in
    omega (
      arith,
      long,
      size,
      front-short width,
      word-short h.word may h.spells,
      levels-short levels,
      h.so_many.1,
      length-append (fourth_front width) (h.word ++ tail levels),
      length-append h.word (tail levels),
      length-append (levels_text levels) (10 ∷ []),
    )

-- so a line that is open names none
pub open_links : (line : List ℕ) → IsOpen line → (width : Width) (may : Liberties) (levels : List Level)
    → ¬ NamesLinks line width may levels
open_links line is width may levels (inl (p, s, of)) = open_line line is width p levels s
open_links line is width may levels (inr h) = fourth_open line is width may levels h

-- ---- with what is allowed besides

pub allowed_or_none : (allow : Liberties) (line : List ℕ) → IsReadable (NamesAllowed allow) line
allowed_or_none allow line = go (links_or_none line)
  where
    go : IsReadable NamesLinks line → IsReadable (NamesAllowed allow) line
    go (inl (width, own, levels, named)) = inl (width, united own allow, levels, (own, named, refl))
    go (inr none) = inr (λ width may levels named. none width named.0 levels named.1)

pub open_allowed : (allow : Liberties) (line : List ℕ) → IsOpen line → (width : Width) (may : Liberties)
    (levels : List Level) → ¬ NamesAllowed allow line width may levels
open_allowed allow line is width may levels (own, named, same) = open_links line is width own levels named

-- nothing is named by a line that names no links
pub none_for : (allow : Liberties) (line : List ℕ)
    → ((width : Width) (may : Liberties) (levels : List Level) → ¬ NamesLinks line width may levels)
    → (width : Width) (may : Liberties) (levels : List Level) → ¬ NamesAllowed allow line width may levels
none_for allow line none width may levels (own, named, same) = none width own levels named
