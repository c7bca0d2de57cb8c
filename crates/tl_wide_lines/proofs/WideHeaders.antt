-- Headers of wide beats: what was spelled is read, and what was read was spelled so.
use Rattle.std.proofs.Common.{◌≡◌, ◌≢◌, true, append_assoc}
use Rattle.std.proofs.Common.{length-append, ℕ, List, [], ◌∷◌, ◌++◌, ◌≤◌, length}
use Rattle.std.proofs.Common.{refl, ap, sym, subst, ◌∙◌, arith, inl, inr}
use Rattle.std.specs.Io.BufRead.{ends_with_byte}
use Rattle.std.specs.Prelude.{◌⊎◌, Option, Some, None}
use Rattle.tl_beat.proofs.SpelledLines.{ends_with_byte-line}
use Rattle.tl_command.proofs.LibertyWords.{word-short}
use Rattle.tl_lines.proofs.Judged.{levels-short}
use Rattle.tl_lines.proofs.Headers.{header_again}
use Rattle.tl_lines.proofs.LinksHeaders.{NamedOrNone, fourth_at, named_or_none, tail}
use Rattle.tl_lines.specs.code.HeadReading.{front_at}
use Rattle.tl_lines.specs.statement.Lines.{IsOpen}
use Rattle.tl_lines.specs.code.TraceReading.{header_at}
use Rattle.tl_lines.specs.statement.LinksHeader.{NamesLinks, SpellsNamed}
use Rattle.tl_lines.specs.statement.Trace.{levels_text}
use Rattle.tl_params.proofs.Headers.{after_taken}
use Rattle.tl_params.proofs.Options.{some_pair}
use Rattle.tl_params.specs.code.HeaderReading.{after_word}
use Rattle.tl_params.specs.declared.level.Level.{Level}
use Rattle.tl_params.specs.declared.liberties.Liberties.{Liberties}
use Rattle.tl_params.specs.declared.width.Width.{Width}
use Rattle.tl_params.specs.statement.Liberties.{united}
use Rattle.tl_wide.specs.declared.width.WideWidth.{WideWidth}
use Rattle.tl_wide.specs.declared.width.WideWidth.TheVariants.{Four, Eight, Sixteen, ThirtyTwo, SixtyFour}
use Rattle.tl_wide_lines.specs.code.HeadReading.{at_front, or_front, wide_front_at}
use Rattle.tl_wide_lines.specs.statement.WideHeader.{NamesWide, SpellsFifth, fifth_front}

-- ---- the front

pub front_again : (width : WideWidth) (rest : List ℕ) → wide_front_at (fifth_front width ++ rest) ≡ Some (width, rest)
front_again Four rest = refl
front_again Eight rest = refl
front_again Sixteen rest = refl
front_again ThirtyTwo rest = refl
front_again SixtyFour rest = refl

-- what was read stands at the front, by this width or otherwise
front_or : (width : WideWidth) (line : List ℕ) (other : Option (WideWidth × List ℕ)) (x : WideWidth × List ℕ)
    → (other ≡ Some x → line ≡ fifth_front x.0 ++ x.1) → at_front width line other ≡ Some x
    → line ≡ fifth_front x.0 ++ x.1
front_or width line other x behind read = go (after_word (fifth_front width) line) refl read
  where
    go : (o : Option (List ℕ)) → after_word (fifth_front width) line ≡ o → or_front width o other ≡ Some x
        → line ≡ fifth_front x.0 ++ x.1
    go None is f = behind f
    go (Some rest) is f =
        let (same, ends) = some_pair (width, rest) x f in
        rw (← same, ← ends) (after_taken (fifth_front width) line rest is)

pub front_taken : (line : List ℕ) (x : WideWidth × List ℕ) → wide_front_at line ≡ Some x → line ≡ fifth_front x.0 ++ x.1
front_taken line x =
    front_or Four line _ x (front_or Eight line _ x (front_or Sixteen line _ x (front_or ThirtyTwo line _ x
    (front_or SixtyFour line None x (λ none. absurd cc)))))

-- the five fronts
pub none_of : (line : List ℕ) → ((rest : List ℕ) → line ≢ fifth_front Four ++ rest)
    → ((rest : List ℕ) → line ≢ fifth_front Eight ++ rest) → ((rest : List ℕ) → line ≢ fifth_front Sixteen ++ rest)
    → ((rest : List ℕ) → line ≢ fifth_front ThirtyTwo ++ rest)
    → ((rest : List ℕ) → line ≢ fifth_front SixtyFour ++ rest) → wide_front_at line ≡ None
none_of line four eight sixteen thirty_two sixty_four = go (wide_front_at line) refl
  where
    other : (width : WideWidth) (rest : List ℕ) → line ≢ fifth_front width ++ rest
    other Four = four
    other Eight = eight
    other Sixteen = sixteen
    other ThirtyTwo = thirty_two
    other SixtyFour = sixty_four

    go : (o : Option (WideWidth × List ℕ)) → wide_front_at line ≡ o → wide_front_at line ≡ None
    go None is = is
    go (Some x) is = absurd (other x.0 x.1 (front_taken line x is))

-- ---- a whole header

module _ (line : List ℕ) (width : WideWidth) (may : Liberties) (levels : List Level)
    (h : SpellsFifth line width may levels) where
  pub fifth_at : wide_front_at line ≡ Some (width, h.0)
  fifth_at = ap wide_front_at h.1 ∙ front_again width h.0

  pub fifth_behind : (x : WideWidth × List ℕ) → wide_front_at line ≡ Some x → (x.0 ≡ width) × SpellsNamed x.1 may levels
  fifth_behind x is =
      let (same, ends) = some_pair x (width, h.0) (sym is ∙ fifth_at) in
      (same, subst (λ (rest : List ℕ). SpellsNamed rest may levels) (sym ends) h.2)

  pub fifth_unread : wide_front_at line ≢ None
  fifth_unread none = let some = fifth_at in cc

-- ---- a line is a header of wide beats, or none

abbrev FifthOrNone : List ℕ → Type 0
FifthOrNone line =
    ((width : WideWidth) × (may : Liberties) × (levels : List Level) × SpellsFifth line width may levels)
    ⊎ ((width : WideWidth) (may : Liberties) (levels : List Level) → ¬ SpellsFifth line width may levels)

fifth_or_none : (line : List ℕ) → FifthOrNone line
fifth_or_none line = go (wide_front_at line) refl
  where
    named : (x : WideWidth × List ℕ) → wide_front_at line ≡ Some x → NamedOrNone x.1 → FifthOrNone line
    named x is (inl (may, levels, spells)) = inl (x.0, may, levels, (x.1, front_taken line x is, spells))
    named x is (inr none) = inr (λ width may levels h. none may levels (fifth_behind line width may levels h x is).1)

    go : (o : Option (WideWidth × List ℕ)) → wide_front_at line ≡ o → FifthOrNone line
    go None is = inr (λ width may levels h. absurd (fifth_unread line width may levels h is))
    go (Some x) is = named x is (named_or_none x.1)

-- a line is the header of a wide trace, with what is allowed besides, or it is none
abbrev pub WideOrNone : Liberties → List ℕ → Type 0
WideOrNone allow line =
    ((width : WideWidth) × (may : Liberties) × (levels : List Level) × NamesWide allow line width may levels)
    ⊎ ((width : WideWidth) (may : Liberties) (levels : List Level) → ¬ NamesWide allow line width may levels)

pub wide_or_none : (allow : Liberties) (line : List ℕ) → WideOrNone allow line
wide_or_none allow line = go (fifth_or_none line)
  where
    go : FifthOrNone line → WideOrNone allow line
    go (inl (width, own, levels, h)) = inl (width, united own allow, levels, (own, h, refl))
    go (inr none) = inr (λ width may levels named. none width named.0 levels named.1)

-- nothing is named by a line that is no header of wide beats
pub none_for : (allow : Liberties) (line : List ℕ)
    → ((width : WideWidth) (may : Liberties) (levels : List Level) → ¬ SpellsFifth line width may levels)
    → (width : WideWidth) (may : Liberties) (levels : List Level) → ¬ NamesWide allow line width may levels
none_for allow line none width may levels (own, named, same) = none width own levels named

-- ---- a header's line ends in LF, and is short

front-short : (width : WideWidth) → length (fifth_front width) ≤ 13
front-short Four = omega arith
front-short Eight = omega arith
front-short Sixteen = omega arith
front-short ThirtyTwo = omega arith
front-short SixtyFour = omega arith

fifth_open : (line : List ℕ) → IsOpen line → (width : WideWidth) (may : Liberties) (levels : List Level)
    → ¬ SpellsFifth line width may levels
fifth_open line (inl ends) width may levels (rest, is, h) =
    let text : line ≡ (fifth_front width ++ (h.word ++ levels_text levels)) ++ 10 ∷ [] =
    is ∙ ap (λ (x : List ℕ). fifth_front width ++ x) h.are_bytes ∙ ap (λ (x : List ℕ). fifth_front width ++ x)
    (sym (append_assoc h.word (levels_text levels) (10 ∷ [])))
    ∙ sym (append_assoc (fifth_front width) (h.word ++ levels_text levels) (10 ∷ [])) in
    let lf : ends_with_byte 10 line ≡ true =
    rw text (ends_with_byte-line (fifth_front width ++ (h.word ++ levels_text levels))) in
    absurd cc
fifth_open line (inr long) width may levels (rest, is, h) =
    let size = ap (λ (x : List ℕ). length x) (is ∙ ap (λ (x : List ℕ). fifth_front width ++ x) h.are_bytes) in
    omega (
      arith,
      long,
      size,
      front-short width,
      word-short h.word may h.spells,
      levels-short levels,
      h.so_many.1,
      length-append (fifth_front width) (h.word ++ tail levels),
      length-append h.word (tail levels),
      length-append (levels_text levels) (10 ∷ []),
    )

-- so a line that is open names none
pub open_wide : (allow : Liberties) (line : List ℕ) → IsOpen line → (width : WideWidth)
    (may : Liberties) (levels : List Level) → ¬ NamesWide allow line width may levels
open_wide allow line is = none_for allow line (fifth_open line is)

-- ---- headers of other versions

no_header_at : (width : WideWidth) (rest : List ℕ) → header_at (fifth_front width ++ rest) ≡ None
no_header_at Four rest = refl
no_header_at Eight rest = refl
no_header_at Sixteen rest = refl
no_header_at ThirtyTwo rest = refl
no_header_at SixtyFour rest = refl

no_fourth_at : (width : WideWidth) (rest : List ℕ) → front_at (fifth_front width ++ rest) ≡ None
no_fourth_at Four rest = refl
no_fourth_at Eight rest = refl
no_fourth_at Sixteen rest = refl
no_fourth_at ThirtyTwo rest = refl
no_fourth_at SixtyFour rest = refl

-- a header of another version is none of wide beats
pub versions_apart : (line : List ℕ) (width : Width) (wide : WideWidth) (own may : Liberties)
    (levels others : List Level)
    → NamesLinks line width own levels → SpellsFifth line wide may others → ⊥
versions_apart line width wide own may levels others (inl (p, s, is)) (rest, named, h) =
    let some = header_again line width p levels s in
    let none = ap header_at named ∙ no_header_at wide rest in
    absurd cc
versions_apart line width wide own may levels others (inr g) (rest, named, h) =
    let some = fourth_at line width own levels g in
    let none = ap front_at named ∙ no_fourth_at wide rest in
    absurd cc
