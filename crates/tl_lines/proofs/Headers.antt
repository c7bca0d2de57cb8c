-- Headers of traces: what was spelled is read, and what was read was spelled so.
use Rattle.std.proofs.Common.{◌≡◌, ◌≤◌, ℕ, zero, suc, List, [], ◌∷◌, ◌++◌, length, refl, ap, sym, ◌∙◌, arith}
use Rattle.std.proofs.Common.{append_assoc, inl, inr}
use Rattle.std.specs.Prelude.{◌⊎◌, IfSome, Option, Some, None, option_and_then}
use Rattle.arrayvec.specs.ArrayVec.{ArrayVec}
use Rattle.tl_params.specs.declared.header.Version.{Version}
use Rattle.tl_params.specs.declared.level.Level.{Level}
use Rattle.tl_params.specs.declared.profile.Profile.{Profile}
use Rattle.tl_params.specs.declared.width.Width.{Width}
use Rattle.tl_params.specs.statement.Header.{level_text, profile_of, version_text, width_of}
use Rattle.tl_params.specs.code.HeaderReading.{GivesAll, after_word, level_at, onto, version_at}
use Rattle.tl_params.proofs.Headers.{after_taken, is_end-taken, level_again, level_taken, more_levels, version_again}
use Rattle.tl_params.proofs.Headers.{version_taken}
use Rattle.tl_params.proofs.Options.{some_pair}
use Rattle.tl_params.proofs.UpTo.{all-so, up_to-end, up_to-step}
use Rattle.tl_lines.specs.declared.header.Header.{Header}
use Rattle.tl_lines.specs.statement.Trace.{AreLevels, IsHeader, SpellsHeader, SpellsLevels, header_line, levels_text}
use Rattle.tl_lines.specs.statement.Trace.{trace_word}
use Rattle.tl_lines.specs.code.TraceReading.{GivesHeader, header_at, levels_at, named_at, some_levels}

-- ---- what was read was spelled so

-- the bytes are those of these levels and a line feed
abbrev AreLevelsOf : List ℕ → List Level → Type 0
AreLevelsOf bytes levels = bytes ≡ levels_text levels ++ 10 ∷ []

one_level_more : (bytes rest : List ℕ) (l : Level) (levels : List Level) → level_at bytes ≡ Some (l, rest)
    → AreLevelsOf rest levels → AreLevelsOf bytes (l ∷ levels)
one_level_more bytes rest l levels is others = rw (level_taken bytes rest l is, others) (simp append_assoc)

pub levels_taken : (n : ℕ) (bytes : List ℕ) (levels : List Level) → levels_at n bytes ≡ Some levels
    → AreLevelsOf bytes levels × (length levels ≤ n)
levels_taken n bytes levels e = all-so level_at AreLevelsOf is_end-taken one_level_more n bytes levels e

spelled_line : (line bytes rest : List ℕ) (version : Version) (levels : List Level) → line ≡ trace_word ++ bytes
    → bytes ≡ version_text version ++ rest → rest ≡ levels_text levels ++ 10 ∷ []
    → line ≡ header_line version levels
spelled_line line bytes rest version levels a b c = rw (a, b, c) (simp append_assoc)

pub header_taken : (line : List ℕ) (width : Width) (p : Profile) (levels : List Level)
    → header_at line ≡ Some ((width, p), levels) → SpellsHeader line width p levels
header_taken line width p levels e = at_word (after_word trace_word line) refl e
  where
    at_word : (o : Option (List ℕ)) → after_word trace_word line ≡ o
        → option_and_then named_at o ≡ Some ((width, p), levels) → SpellsHeader line width p levels
    at_word None is f = absurd cc
    at_word (Some bytes) is f = at_version (version_at bytes) refl f
      where
        at_version : (o : Option (Version × List ℕ)) → version_at bytes ≡ o
            → option_and_then (λ v. option_and_then (some_levels v.0) (levels_at 16 v.1)) o ≡ Some ((width, p), levels)
            → SpellsHeader line width p levels
        at_version None found g = absurd cc
        at_version (Some (version, rest)) found g = at_levels (levels_at 16 rest) refl g
          where
            at_levels : (o : Option (List Level)) → levels_at 16 rest ≡ o
                → option_and_then (some_levels version) o ≡ Some ((width, p), levels) → SpellsHeader line width p levels
            at_levels None read h = absurd cc
            at_levels (Some []) read h = absurd cc
            at_levels (Some (l ∷ ls)) read h =
                let (named, same) = some_pair ((width_of version, profile_of version), l ∷ ls) ((width, p), levels) h in
                let (text, few) = levels_taken 16 rest (l ∷ ls) read in
                rw (← same) (record {
                  version = version;
                  is_line = spelled_line line bytes rest version (l ∷ ls) (after_taken trace_word line bytes is)
                      (version_taken bytes rest version found) text;
                  of_width = ap (λ (x : Width × Profile). x.0) named;
                  of_profile = ap (λ (x : Width × Profile). x.1) named;
                  so_many = (omega arith, few);
                })

-- ---- what was spelled is read

pub levels_again : (n : ℕ) (levels : List Level) → length levels ≤ n → levels_at n (levels_text levels ++ 10 ∷ []) ≡ Some
    levels
levels_again n [] few = up_to-end level_at n (10 ∷ []) refl
levels_again zero (l ∷ levels) few = absurd (omega arith)
levels_again (suc n) (l ∷ levels) few =
    let rest = levels_text levels ++ 10 ∷ [] in
    let text : levels_text (l ∷ levels) ++ 10 ∷ [] ≡ 32 ∷ (level_text l ++ rest) =
    ap (λ (xs : List ℕ). 32 ∷ xs) (append_assoc (level_text l) (levels_text levels) (10 ∷ [])) in
    ap (levels_at (suc n)) text ∙ up_to-step level_at (suc n) n (32 ∷ (level_text l ++ rest)) rest l refl
    (more_levels l rest) (level_again l rest)
    ∙ ap (onto l) (levels_again n levels (omega arith))

named_again : (version : Version) (l : Level) (levels : List Level) → length (l ∷ levels) ≤ 16
    → named_at (version_text version ++ (levels_text (l ∷ levels) ++ 10 ∷ [])) ≡ Some
    ((width_of version, profile_of version), l ∷ levels)
named_again version l levels few = rw (version_again version _, levels_again 16 (l ∷ levels) few) refl

-- what a header means
abbrev meaning : Width → Profile → List Level → (Width × Profile) × List Level
meaning width p levels = ((width, p), levels)

pub header_again : (line : List ℕ) (width : Width) (p : Profile) (levels : List Level)
    → SpellsHeader line width p levels → header_at line ≡ Some (meaning width p levels)
header_again line width p [] h = absurd (omega (arith, h.so_many.0))
header_again line width p (l ∷ levels) h =
    let text : line ≡ trace_word ++ (version_text h.version ++ (levels_text (l ∷ levels) ++ 10 ∷ [])) = h.is_line
    ∙ ap (λ (xs : List ℕ). trace_word ++ xs) (append_assoc (version_text h.version) (levels_text (l ∷ levels))
    (10 ∷ [])) in
    rw text (named_again h.version l levels h.so_many.1 ∙ rw (h.of_width, h.of_profile) refl)

-- ---- what the readers say

pub levels_spelled : (r : Option (ArrayVec Level)) (bytes : List ℕ) → GivesAll r (levels_at 16 bytes)
    → IfSome r (λ levels. SpellsLevels bytes levels.items)
levels_spelled None bytes gives = tt
levels_spelled (Some read) bytes gives = levels_taken 16 bytes read.items gives

pub levels_read : (r : Option (ArrayVec Level)) (bytes : List ℕ) → GivesAll r (levels_at 16 bytes)
    → (levels : List Level) → SpellsLevels bytes levels → AreLevels r levels
levels_read None bytes gives levels (text, few) =
    let some = ap (levels_at 16) text ∙ levels_again 16 levels few in
    absurd cc
levels_read (Some read) bytes gives levels (text, few) =
    let same : Some read.items ≡ Some levels = sym gives ∙ ap (levels_at 16) text ∙ levels_again 16 levels few in
    cc

pub read_spelled : (r : Option Header) (line : List ℕ) → GivesHeader r (header_at line)
    → IfSome r (λ header. SpellsHeader line header.width header.profile header.levels.items)
read_spelled None line gives = tt
read_spelled (Some header) line gives = header_taken line header.width header.profile header.levels.items gives

pub spelled_read : (r : Option Header) (line : List ℕ) → GivesHeader r (header_at line)
    → (width : Width) (p : Profile) (levels : List Level)
    → SpellsHeader line width p levels → IsHeader r width p levels
spelled_read None line gives = λ width p levels h. let e = header_again line width p levels h in absurd cc
spelled_read (Some header) line gives = λ width p levels h.
    let e : Some (meaning header.width header.profile header.levels.items) ≡ Some (meaning width p levels) =
    sym gives ∙ header_again line width p levels h in
    let (named, same) = some_pair (meaning header.width header.profile header.levels.items) (meaning width p levels) e
    in
    (ap (λ (x : Width × Profile). x.0) named, ap (λ (x : Width × Profile). x.1) named, same)

-- a line spells a header, or it spells none
pub header_or_none : (line : List ℕ)
    → ((width : Width) × (p : Profile) × (levels : List Level) × SpellsHeader line width p levels)
    ⊎ ((width : Width) (p : Profile) (levels : List Level) → ¬ SpellsHeader line width p levels)
header_or_none line = go (header_at line) refl
  where
    go : (o : Option ((Width × Profile) × List Level)) → header_at line ≡ o
        → ((width : Width) × (p : Profile) × (levels : List Level) × SpellsHeader line width p levels)
        ⊎ ((width : Width) (p : Profile) (levels : List Level) → ¬ SpellsHeader line width p levels)
    go None is = inr (λ width p levels h. let e = header_again line width p levels h in absurd cc)
    go (Some ((width, p), levels)) is = inl (width, p, levels, header_taken line width p levels is)

-- a line spells one header at most
pub one_header : (line : List ℕ) (width other : Width) (p q : Profile) (levels others : List Level)
    → SpellsHeader line width p levels
    → SpellsHeader line other q others → meaning width p levels ≡ meaning other q others
one_header line width other p q levels others s t =
    let same : Some (meaning width p levels) ≡ Some (meaning other q others) =
    sym (header_again line width p levels s) ∙ header_again line other q others t in
    cc
