-- Headers of wide traces with commits: what was spelled is read, and what was read was spelled so.
use Rattle.std.proofs.Common.{◌≡◌, ◌≢◌, ◌∙◌, ◌≤◌, ℕ, List, length, refl, ap, sym, inl, inr, arith}
use Rattle.std.specs.Prelude.{◌⊎◌, Option, Some, None}
use Rattle.tl_commit_lines.proofs.MarkedHeaders.{LinksOrNone, links_open, links_or_none}
use Rattle.tl_commit_lines.specs.statement.MarkedHeader.{MarkedLinks, SpellsLinks}
use Rattle.tl_lines.specs.statement.Lines.{IsOpen}
use Rattle.tl_params.proofs.Options.{some_pair}
use Rattle.tl_params.specs.declared.liberties.Liberties.{Liberties}
use Rattle.tl_params.specs.statement.Liberties.{united}
use Rattle.tl_wide.specs.declared.width.WideWidth.{WideWidth}
use Rattle.tl_wide.specs.declared.width.WideWidth.TheVariants.{Four, Eight, Sixteen, ThirtyTwo, SixtyFour}
use Rattle.tl_wide_lines.proofs.WideHeaders.{front_again, front_taken}
use Rattle.tl_wide_lines.specs.code.HeadReading.{wide_front_at}
use Rattle.tl_wide_lines.specs.statement.WideHeader.{fifth_front}
use Rattle.tl_wide_event_lines.specs.declared.header.WideCommitHeader.{WideCommitHeader}
use Rattle.tl_wide_event_lines.specs.statement.WideMarkedHeader.{IsWideMarked, NamesWideMarked, SpellsWideMarked}

module _ (line : List ℕ) (width : WideWidth) (may : Liberties) (links : MarkedLinks)
    (h : SpellsWideMarked line width may links) where
  front_is : wide_front_at line ≡ Some (width, h.0)
  front_is = ap wide_front_at h.1 ∙ front_again width h.0

  -- what is read behind the front
  pub wide_behind : (x : WideWidth × List ℕ) → wide_front_at line ≡ Some x → (x.0 ≡ width) × SpellsLinks x.1 may links
  wide_behind x is =
      let (wide, ends) = some_pair x (width, h.0) (sym is ∙ front_is) in
      (wide, rw ends h.2)

  pub wide_unread : wide_front_at line ≢ None
  wide_unread none = let some = front_is in absurd cc

-- ---- a line is a header of a wide trace with commits, or none

abbrev WideOrNone : List ℕ → Type 0
WideOrNone line =
    ((width : WideWidth) × (may : Liberties) × (links : MarkedLinks) × SpellsWideMarked line width may links)
    ⊎ ((width : WideWidth) (may : Liberties) (links : MarkedLinks) → ¬ SpellsWideMarked line width may links)

wide_or_none : (line : List ℕ) → WideOrNone line
wide_or_none line = go (wide_front_at line) refl
  where
    behind : (wide : WideWidth) (rest : List ℕ) → wide_front_at line ≡ Some (wide, rest) → LinksOrNone rest
        → WideOrNone line
    behind wide rest is (inl (may, links, named)) =
        inl (wide, may, links, (rest, front_taken line (wide, rest) is, named))
    behind wide rest is (inr none) =
        inr (λ width may links h. none may links (wide_behind line width may links h (wide, rest) is).1)

    go : (o : Option (WideWidth × List ℕ)) → wide_front_at line ≡ o → WideOrNone line
    go None is = inr (λ width may links h. absurd (wide_unread line width may links h is))
    go (Some (wide, rest)) is = behind wide rest is (links_or_none rest)

-- with what is allowed besides
abbrev pub NamedOrNone : Liberties → List ℕ → Type 0
NamedOrNone allow line =
    ((width : WideWidth) × (may : Liberties) × (links : MarkedLinks) × NamesWideMarked allow line width may links)
    ⊎ ((width : WideWidth) (may : Liberties) (links : MarkedLinks) → ¬ NamesWideMarked allow line width may links)

pub named_or_none : (allow : Liberties) (line : List ℕ) → NamedOrNone allow line
named_or_none allow line = go (wide_or_none line)
  where
    go : WideOrNone line → NamedOrNone allow line
    go (inl (width, own, links, h)) = inl (width, united own allow, links, (own, h, refl))
    go (inr none) = inr (λ width may links named. none width named.0 links named.1)

-- nothing is named by a line that is no such header
pub none_for : (allow : Liberties) (line : List ℕ)
    → ((width : WideWidth) (may : Liberties) (links : MarkedLinks) → ¬ SpellsWideMarked line width may links)
    → (width : WideWidth) (may : Liberties) (links : MarkedLinks) → ¬ NamesWideMarked allow line width may links
none_for allow line none width may links (own, named, same) = none width own links named

pub unnamed : (allow : Liberties) (line : List ℕ) (found : Option WideCommitHeader) → found ≡ None
    → ((width : WideWidth) (may : Liberties) (links : MarkedLinks) → SpellsWideMarked line width may links
    → IsWideMarked found width may links)
    → (width : WideWidth) (may : Liberties) (links : MarkedLinks) → ¬ NamesWideMarked allow line width may links
unnamed allow line found none every = none_for allow line (λ width may links h. rw none at (every width may links h))

-- ---- a header's line ends in LF, and is short

front-short : (width : WideWidth) → length (fifth_front width) ≤ 13
front-short Four = omega arith
front-short Eight = omega arith
front-short Sixteen = omega arith
front-short ThirtyTwo = omega arith
front-short SixtyFour = omega arith

pub open_wide : (allow : Liberties) (line : List ℕ) → IsOpen line → (width : WideWidth) (may : Liberties)
    (links : MarkedLinks) → ¬ NamesWideMarked allow line width may links
open_wide allow line is width may links (own, (rest, is_line, h), same) =
    links_open line (fifth_front width) rest is (front-short width) is_line own links h
