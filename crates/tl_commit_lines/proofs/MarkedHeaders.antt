-- Headers of traces with commits: what was spelled is read, and what was read was spelled so.
use Rattle.tl_commit_lines.specs.code.HeadReading.{commits_at, named_links_at, with_commits, has_some, is_named}
use Rattle.tl_commit_lines.specs.code.HeadReading.{links_at, marked_links_at, with_levels, zero_at}
use Rattle.tl_commit_lines.specs.statement.MarkedHeader.{commits_text, IsMarkedHeader, MarkedLinks, NamesMarked}
use Rattle.tl_commit_lines.specs.statement.MarkedHeader.{SpellsLinks, SpellsMarked, links_text, mark_text, says_commits}
use Rattle.tl_commit_lines.specs.statement.MarkedHeader.{zero_text}
use Rattle.std.specs.Prelude.{◌||◌, ◌==◌, ◌⊎◌, Bool, Option, Some, None}
use Rattle.std.proofs.Common.{◌≡◌, ◌≢◌, ◌≤◌, ◌*◌, ℕ, zero, List, [], ◌∷◌, ◌++◌, length, refl, ap, sym, ◌∙◌}
use Rattle.std.proofs.Common.{append_assoc, arith, false, inl, inr, length-append, true}
use Rattle.std.proofs.lemmas.Bool.{and_parts}
use Rattle.std.specs.Io.BufRead.{ends_with_byte}
use Rattle.tl_beat.proofs.SpelledLines.{ends_with_byte-line}
use Rattle.tl_command.proofs.LibertyWords.{liberties_again, liberties_taken, word-short}
use Rattle.tl_command.specs.code.LibertyReading.{liberties_at}
use Rattle.tl_command.specs.statement.LibertyWords.{LacksComma, SpellsLiberties}
use Rattle.tl_lines.proofs.LinksHeaders.{front-short, front_again, front_taken}
use Rattle.tl_lines.specs.code.HeadReading.{front_at}
use Rattle.tl_lines.specs.statement.LinksHeader.{fourth_front}
use Rattle.tl_lines.specs.statement.Lines.{IsOpen}
use Rattle.tl_params.proofs.Headers.{level-short}
use Rattle.tl_params.proofs.Options.{some_pair}
use Rattle.tl_params.specs.declared.level.Level.TheVariants as level
use Rattle.tl_params.specs.declared.liberties.Liberties.{Liberties}
use Rattle.tl_params.specs.declared.width.Width.{Width}
use Rattle.tl_params.specs.statement.Config.{IsCount}
use Rattle.tl_params.specs.statement.Header.{level_text}
use Rattle.tl_params.specs.statement.Liberties.{united}
use Rattle.tl_commit_lines.specs.declared.header.CommitHeader.{CommitHeader}
use Rattle.tl_commit_lines.specs.declared.header.MarkedLevel.{MarkedLevel}
use Rattle.tl_commit_lines.proofs.HeaderLinks.{some-is, levels_tail, tail, whole_tail, named_taken, named_again}

some-many : (links : List MarkedLevel) → has_some links ≡ true → length links ≤ 16 → IsCount (length links)
some-many [] some few = absurd cc
some-many (x ∷ links) some few = (omega arith, few)

many-some : (links : List MarkedLevel) → IsCount (length links) → has_some links ≡ true
many-some [] many = absurd (omega (arith, many.0))
many-some (x ∷ links) many = refl

pub named-so : {bytes : List ℕ} {may : Liberties} (links : MarkedLinks) (h : SpellsLinks bytes may links)
    → is_named h.commits links ≡ true
named-so links h = rw (many-some links.levels h.so_many) h.says

-- the bytes begin with a comma
abbrev begins_comma : List ℕ → Bool
begins_comma [] = false
begins_comma (c ∷ rest) = c == 44

lacks_comma : (commits from_zero : Bool) (links : List MarkedLevel) → IsCount (length links)
    → LacksComma (commits_text commits ++ (zero_text from_zero ++ levels_tail links))
lacks_comma true from_zero links many rest e = let both : false ≡ true = ap begins_comma e in absurd cc
lacks_comma false true links many rest e = let both : false ≡ true = ap begins_comma e in absurd cc
lacks_comma false false [] many rest e = absurd (omega (arith, many.0))
lacks_comma false false (x ∷ links) many rest e = let both : false ≡ true = ap begins_comma e in absurd cc

pub links_spelled : (bytes left word : List ℕ) (may : Liberties) (commits : Bool) (links : MarkedLinks)
    → SpellsLiberties word may → bytes ≡ word ++ left → named_links_at left ≡ Some (commits, links)
    → is_named commits links ≡ true → SpellsLinks bytes may links
links_spelled bytes left word may commits links spells text read some =
    let ((ends, markable), few) = named_taken left commits links read in
    let both = and_parts (has_some links.levels) (commits || says_commits links) some in
    record {
      word = word;
      spells = spells;
      commits = commits;
      are_bytes = text ∙ ap (λ (x : List ℕ). word ++ x) ends;
      so_many = some-many links.levels both.0 few;
      markable = markable;
      says = both.1;
    }

pub no_comma : {bytes : List ℕ} {may : Liberties} (links : MarkedLinks) (h : SpellsLinks bytes may links)
    → LacksComma (whole_tail h.commits links)
no_comma links h = lacks_comma h.commits links.zero links.levels h.so_many

pub links_are : {bytes : List ℕ} {may : Liberties} (links : MarkedLinks) (h : SpellsLinks bytes may links)
    → (left : List ℕ) → left ≡ whole_tail h.commits links → named_links_at left ≡ Some (h.commits, links)
links_are links h left is = ap named_links_at is ∙ named_again h.commits links h.so_many.1 h.markable

-- what is read behind the front of a header
pub marked_behind : (line : List ℕ) (width : Width) (may : Liberties) (links : MarkedLinks)
    → SpellsMarked line width may links → (x : Width × List ℕ) → front_at line ≡ Some x
    → (x.0 ≡ width) × SpellsLinks x.1 may links
marked_behind line width may links (rest, is_line, h) x is =
    let front : front_at line ≡ Some (width, rest) = ap front_at is_line ∙ front_again width rest in
    let (wide, ends) = some_pair x (width, rest) (sym is ∙ front) in
    (wide, rw ends h)

marked_unread : (line : List ℕ) (width : Width) (may : Liberties) (links : MarkedLinks)
    → SpellsMarked line width may links → front_at line ≢ None
marked_unread line width may links (rest, is_line, h) none =
    let some : front_at line ≡ Some (width, rest) = ap front_at is_line ∙ front_again width rest in
    absurd cc

-- what is read of the words and of the levels behind them
module _ (bytes middle rest : List ℕ) (commits from_zero : Bool) (said : (commits, middle) ≡ commits_at bytes)
    (is : (from_zero, rest) ≡ zero_at middle) where
  links-there : named_links_at bytes ≡ with_commits commits (with_levels from_zero (links_at 16 rest))
  links-there =
      ap (λ (z : Bool × List ℕ). with_commits z.0 (marked_links_at z.1)) (sym said)
      ∙ ap (λ (z : Bool × List ℕ). with_commits commits (with_levels z.0 (links_at 16 z.1))) (sym is)

  pub none-read : links_at 16 rest ≡ None → named_links_at bytes ≡ None
  none-read none =
      links-there ∙ ap (λ (o : Option (List MarkedLevel)). with_commits commits (with_levels from_zero o)) none

  pub some-read : (levels : List MarkedLevel) → links_at 16 rest ≡ Some levels
      → named_links_at bytes ≡ Some (commits, record { zero = from_zero; levels = levels })
  some-read levels some =
      links-there ∙ ap (λ (o : Option (List MarkedLevel)). with_commits commits (with_levels from_zero o)) some

-- whether the word `commits` is there, and the links
abbrev pub said_links : Bool → MarkedLinks → Bool × MarkedLinks
said_links commits links = (commits, links)

-- links that are there are read, as these
pub not_read : (commits : Bool) (links : MarkedLinks) (left : List ℕ) → named_links_at left ≡ None
    → named_links_at left ≡ Some (commits, links) → ⊥
not_read commits links left none some =
    let both : None ≡ Some (said_links commits links) = sym none ∙ some in absurd cc

pub same_links : (said commits : Bool) (found links : MarkedLinks) (left : List ℕ)
    → named_links_at left ≡ Some (said, found) → named_links_at left ≡ Some (commits, links)
    → said_links said found ≡ said_links commits links
same_links said commits found links left is also = some-is (sym is ∙ also)

-- ---- bytes are those of liberties and links, or of none

abbrev pub LinksOrNone : List ℕ → Type 0
LinksOrNone bytes =
    ((may : Liberties) × (links : MarkedLinks) × SpellsLinks bytes may links)
    ⊎ ((may : Liberties) (links : MarkedLinks) → ¬ SpellsLinks bytes may links)

module _ (bytes : List ℕ) where
  at_links : (left word : List ℕ) (may : Liberties) → SpellsLiberties word may → bytes ≡ word ++ left
      → liberties_at bytes ≡ Some (may, left) → (o : Option (Bool × MarkedLinks)) → named_links_at left ≡ o
      → LinksOrNone bytes
  at_links left word may spells text named o is = go o is
    where
      unlike : (other : Liberties) (links : MarkedLinks) (h : SpellsLinks bytes other links)
          → named_links_at left ≡ Some (h.commits, links)
      unlike other links h =
          let end : List ℕ = whole_tail h.commits links in
          let read = liberties_again h.word end other h.spells (no_comma links h) in
          let (m, ends) = some_pair (may, left) (other, end) (sym named ∙ ap liberties_at h.are_bytes ∙ read) in
          links_are links h left ends

      none_read : (other : Liberties) (links : MarkedLinks) → named_links_at left ≡ None
          → ¬ SpellsLinks bytes other links
      none_read other links none h = let some = unlike other links h in absurd cc

      not_marked : (said : Bool) (found links : MarkedLinks) (other : Liberties)
          → named_links_at left ≡ Some (said, found) → is_named said found ≡ false → ¬ SpellsLinks bytes other links
      not_marked said found links other is none h =
          let same = same_links said h.commits found links left is (unlike other links h) in
          let both : false ≡ true =
          sym none ∙ ap (λ (k : Bool × MarkedLinks). is_named k.0 k.1) same ∙ named-so links h in
          absurd cc

      go : (o : Option (Bool × MarkedLinks)) → named_links_at left ≡ o → LinksOrNone bytes
      go None is = inr (λ other links. none_read other links is)
      go (Some (said, links)) is = with_some (is_named said links) refl
        where
          with_some : (b : Bool) → is_named said links ≡ b → LinksOrNone bytes
          with_some true some = inl (may, links, links_spelled bytes left word may said links spells text is some)
          with_some false none = inr (λ other others. not_marked said links others other is none)

  at_liberties : (o : Option (Liberties × List ℕ)) → liberties_at bytes ≡ o → LinksOrNone bytes
  at_liberties None is = inr (λ other links. no other links)
    where
      no : (other : Liberties) (links : MarkedLinks) → ¬ SpellsLinks bytes other links
      no other links h =
          let read = liberties_again h.word (whole_tail h.commits links) other h.spells (no_comma links h) in
          let some = ap liberties_at h.are_bytes ∙ read in
          absurd cc
  at_liberties (Some (may, left)) is =
      let (word, spells, text) = liberties_taken bytes left may is in
      at_links left word may spells text is (named_links_at left) refl

pub links_or_none : (bytes : List ℕ) → LinksOrNone bytes
links_or_none bytes = at_liberties bytes (liberties_at bytes) refl

-- ---- a line is a header of a trace with commits, or none

abbrev MarkedOrNone : List ℕ → Type 0
MarkedOrNone line =
    ((width : Width) × (may : Liberties) × (links : MarkedLinks) × SpellsMarked line width may links)
    ⊎ ((width : Width) (may : Liberties) (links : MarkedLinks) → ¬ SpellsMarked line width may links)

marked_or_none : (line : List ℕ) → MarkedOrNone line
marked_or_none line = go (front_at line) refl
  where
    behind : (wide : Width) (rest : List ℕ) → front_at line ≡ Some (wide, rest) → LinksOrNone rest → MarkedOrNone line
    behind wide rest is (inl (may, links, named)) =
        inl (wide, may, links, (rest, front_taken line rest wide is, named))
    behind wide rest is (inr none) =
        inr (λ width may links h. none may links (marked_behind line width may links h (wide, rest) is).1)

    go : (o : Option (Width × List ℕ)) → front_at line ≡ o → MarkedOrNone line
    go None is = inr (λ width may links h. absurd (marked_unread line width may links h is))
    go (Some (wide, rest)) is = behind wide rest is (links_or_none rest)

-- with what is allowed besides
abbrev pub NamedOrNone : Liberties → List ℕ → Type 0
NamedOrNone allow line =
    ((width : Width) × (may : Liberties) × (links : MarkedLinks) × NamesMarked allow line width may links)
    ⊎ ((width : Width) (may : Liberties) (links : MarkedLinks) → ¬ NamesMarked allow line width may links)

pub named_or_none : (allow : Liberties) (line : List ℕ) → NamedOrNone allow line
named_or_none allow line = go (marked_or_none line)
  where
    go : MarkedOrNone line → NamedOrNone allow line
    go (inl (width, own, links, h)) = inl (width, united own allow, links, (own, h, refl))
    go (inr none) = inr (λ width may links named. none width named.0 links named.1)

-- nothing is named by a line that is no such header
pub none_for : (allow : Liberties) (line : List ℕ)
    → ((width : Width) (may : Liberties) (links : MarkedLinks) → ¬ SpellsMarked line width may links)
    → (width : Width) (may : Liberties) (links : MarkedLinks) → ¬ NamesMarked allow line width may links
none_for allow line none width may links (own, named, same) = none width own links named

pub unnamed : (allow : Liberties) (line : List ℕ) (found : Option CommitHeader) → found ≡ None
    → ((width : Width) (may : Liberties) (links : MarkedLinks) → SpellsMarked line width may links
    → IsMarkedHeader found width may links)
    → (width : Width) (may : Liberties) (links : MarkedLinks) → ¬ NamesMarked allow line width may links
unnamed allow line found none every = none_for allow line (λ width may links h. rw none at (every width may links h))

-- ---- a header's line ends in LF, and is short

mark-short : (b : Bool) → length (mark_text b) ≤ 1
mark-short true = omega arith
mark-short false = omega arith

links-short : (links : List MarkedLevel) → length (links_text links) ≤ 4 * length links
links-short [] = omega arith
links-short (x ∷ links) =
    omega (
      arith,
      length-append (level_text x.level) (mark_text x.complete ++ links_text links),
      length-append (mark_text x.complete) (links_text links),
      level-short x.level,
      mark-short x.complete,
      links-short links,
    )

zero-short : (b : Bool) → length (zero_text b) ≤ 5
zero-short true = omega arith
zero-short false = omega arith

commits-short : (b : Bool) → length (commits_text b) ≤ 8
commits-short true = omega arith
commits-short false = omega arith

-- whatever short text is in front
pub links_open : (line front rest : List ℕ) → IsOpen line → length front ≤ 13 → line ≡ front ++ rest → (may : Liberties)
    (links : MarkedLinks) → ¬ SpellsLinks rest may links
links_open line front rest (inl ends) few is may links h =
    let levels : List ℕ = links_text links.levels in
    let behind : List ℕ = zero_text links.zero ++ levels in
    let both : List ℕ = commits_text h.commits ++ behind in
    let text : line ≡ (front ++ (h.word ++ both)) ++ 10 ∷ [] =
    is ∙ ap (λ (x : List ℕ). front ++ x) (h.are_bytes
    ∙ ap (λ (x : List ℕ). h.word ++ (commits_text h.commits ++ x))
    (sym (append_assoc (zero_text links.zero) levels (10 ∷ [])))
    ∙ ap (λ (x : List ℕ). h.word ++ x) (sym (append_assoc (commits_text h.commits) behind (10 ∷ [])))
    ∙ sym (append_assoc h.word both (10 ∷ [])))
    ∙ sym (append_assoc front (h.word ++ both) (10 ∷ [])) in
    let lf : ends_with_byte 10 line ≡ true =
    rw text (ends_with_byte-line (front ++ (h.word ++ both))) in
    absurd cc
links_open line front rest (inr long) few is may links h =
    let size = ap (λ (x : List ℕ). length x) is in
    let more = ap (λ (x : List ℕ). length x) h.are_bytes in
    omega (
      arith,
      long,
      size,
      more,
      few,
      word-short h.word may h.spells,
      zero-short links.zero,
      commits-short h.commits,
      links-short links.levels,
      h.so_many.1,
      length-append front rest,
      length-append h.word (whole_tail h.commits links),
      length-append (commits_text h.commits) (tail links),
      length-append (zero_text links.zero) (levels_tail links.levels),
      length-append (links_text links.levels) (10 ∷ []),
    )

marked_open : (line : List ℕ) → IsOpen line → (width : Width) (may : Liberties) (links : MarkedLinks)
    → ¬ SpellsMarked line width may links
marked_open line is width may links (rest, is_line, h) =
    links_open line (fourth_front width) rest is (front-short width) is_line may links h

-- so a line that is open names none
pub open_marked : (allow : Liberties) (line : List ℕ) → IsOpen line → (width : Width) (may : Liberties)
    (links : MarkedLinks) → ¬ NamesMarked allow line width may links
open_marked allow line is width may links (own, named, same) = marked_open line is width own links named
