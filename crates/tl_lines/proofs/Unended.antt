-- The line of a beat, and that of a header, have their LF at the end alone.
use Rattle.std.proofs.Common.{◌≡◌, ◌<◌, ℕ, zero, suc, ◌*◌, ◌/◌, ◌%◌, ◌^◌, Bool, true, false, List, [], ◌∷◌, ◌++◌, codes}
use Rattle.std.proofs.Common.{refl, arith}
use Rattle.std.specs.Prelude.{◌==◌, not, Option, Some, None}
use Rattle.std.proofs.lemmas.Bool.{and_parts, not-true}
use Rattle.std.proofs.lemmas.Bool.Decides.{nat_tests}
use Rattle.std.proofs.lemmas.List.Elements.{All-cons, All-nil}
use Rattle.std.specs.List.{list_all}
use Rattle.tl_beat.specs.declared.beat.Beat.{Beat}
use Rattle.tl_beat.specs.declared.beat.Beat.TheVariants.{A, B, C, D, E}
use Rattle.tl_beat.specs.declared.beat.Link.{Link}
use Rattle.tl_beat.specs.statement.Digits.{bit_text, digit_char, digits, lane_digits, lanes_text}
use Rattle.tl_beat.specs.statement.Line.{fields_of, spaced}
use Rattle.tl_params.specs.declared.header.Version.{Version}
use Rattle.tl_params.specs.declared.header.Version.TheVariants.{First, Second, Third}
use Rattle.tl_params.specs.declared.level.Level.{Level}
use Rattle.tl_params.specs.declared.level.Level.TheVariants as level
use Rattle.tl_params.specs.declared.profile.Profile.TheVariants as profile
use Rattle.tl_params.specs.declared.width.Width.TheVariants.{Four, Eight, Sixteen}
use Rattle.tl_params.specs.statement.Header.{level_text, version_text}
use Rattle.tl_lines.specs.statement.Lines.{LacksLf}
use Rattle.tl_lines.specs.statement.Trace.{levels_text, trace_word}
use Rattle.tl_lines.proofs.Progress.{lacks-append}

-- no byte of it is LF
abbrev IsOther : ℕ → Type 0
IsOther b = (b == 10) ≡ false

-- a text that is known in full
lacks-all : (bytes : List ℕ) → list_all (λ b. not (b == 10)) bytes ≡ true → LacksLf bytes
lacks-all [] e = All-nil IsOther
lacks-all (b ∷ bytes) e =
    let both = and_parts (not (b == 10)) (list_all (λ c. not (c == 10)) bytes) e in
    All-cons IsOther b bytes (not-true (b == 10) both.0) (lacks-all bytes both.1)

-- ---- beats

other-digit : (d : ℕ) → d < 16 → IsOther (digit_char d)
other-digit d small = grind (arith, nat_tests)

lacks-digits : (n number : ℕ) → LacksLf (digits n number)
unfolding digits
lacks-digits zero number = All-nil IsOther
lacks-digits (suc n) number = All-cons IsOther (digit_char (number / 2 ^ (4 * n) % 16)) (digits n number)
    (other-digit (number / 2 ^ (4 * n) % 16) (omega arith)) (lacks-digits n number)

lacks-lane_digits : (lanes : List ℕ) → LacksLf (lane_digits lanes)
unfolding lane_digits
lacks-lane_digits [] = All-nil IsOther
lacks-lane_digits (lane ∷ lanes) = lacks-append (lane_digits lanes) (digits 2 lane) (lacks-lane_digits lanes)
    (lacks-digits 2 lane)

lacks-lanes : (lanes : Option (List ℕ)) → LacksLf (lanes_text lanes)
lacks-lanes None = lacks-all (45 ∷ []) refl
lacks-lanes (Some lanes) = lacks-lane_digits lanes

lacks-bit : (bit : Bool) → LacksLf (bit_text bit)
lacks-bit false = lacks-all (48 ∷ []) refl
lacks-bit true = lacks-all (49 ∷ []) refl

abbrev AllLack : List (List ℕ) → Type 0
AllLack [] = Unit {0}
AllLack (field ∷ fields) = LacksLf field × AllLack fields

lacks-spaced : (fields : List (List ℕ)) → AllLack fields → LacksLf (spaced fields)
unfolding spaced
lacks-spaced [] lack = All-nil IsOther
lacks-spaced (field ∷ []) lack = lack.0
lacks-spaced (field ∷ next ∷ fields) lack = lacks-append field (32 ∷ spaced (next ∷ fields)) lack.0
    (All-cons IsOther 32 (spaced (next ∷ fields)) refl (lacks-spaced (next ∷ fields) lack.1))

lacks-letter : (c : ℕ) → IsOther c → LacksLf (c ∷ [])
lacks-letter c other = All-cons IsOther c [] other (All-nil IsOther)

lacks-fields : {w : ℕ} (link : Link) (x : Beat w) → AllLack (fields_of link x)
lacks-fields {w} link (A x) = (
  lacks-digits 2 link.0,
  (
    lacks-letter 65 refl,
    (
      lacks-digits 1 _,
      (
        lacks-digits 1 x.param,
        (
          lacks-digits 1 x.size,
          (
            lacks-digits 2 x.source,
            (lacks-digits 8 x.address, (lacks-digits (w / 4) x.mask, (lacks-lanes x.lanes, (lacks-bit x.corrupt, tt)))),
          ),
        ),
      ),
    ),
  ),
)
lacks-fields {w} link (B x) = (
  lacks-digits 2 link.0,
  (
    lacks-letter 66 refl,
    (
      lacks-digits 1 _,
      (
        lacks-digits 1 x.param,
        (
          lacks-digits 1 x.size,
          (
            lacks-digits 2 x.source,
            (lacks-digits 8 x.address, (lacks-digits (w / 4) x.mask, (lacks-lanes x.lanes, (lacks-bit x.corrupt, tt)))),
          ),
        ),
      ),
    ),
  ),
)
lacks-fields link (C x) = (
  lacks-digits 2 link.0,
  (
    lacks-letter 67 refl,
    (
      lacks-digits 1 _,
      (
        lacks-digits 1 x.param,
        (
          lacks-digits 1 x.size,
          (
            lacks-digits 2 x.source,
            (lacks-digits 8 x.address, (lacks-lanes x.lanes, (lacks-bit x.corrupt, tt))),
          ),
        ),
      ),
    ),
  ),
)
lacks-fields link (D x) = (
  lacks-digits 2 link.0,
  (
    lacks-letter 68 refl,
    (
      lacks-digits 1 _,
      (
        lacks-digits 1 x.param,
        (
          lacks-digits 1 x.size,
          (
            lacks-digits 2 x.source,
            (lacks-digits 2 x.sink, (lacks-bit x.denied, (lacks-lanes x.lanes, (lacks-bit x.corrupt, tt)))),
          ),
        ),
      ),
    ),
  ),
)
lacks-fields link (E x) = (lacks-digits 2 link.0, (lacks-letter 69 refl, (lacks-digits 2 x.sink, tt)))

pub lacks-beat : {w : ℕ} (link : Link) (x : Beat w) → LacksLf (spaced (fields_of link x))
lacks-beat link x = lacks-spaced (fields_of link x) (lacks-fields link x)

-- ---- headers

lacks-version : (version : Version) → LacksLf (version_text version)
lacks-version First = lacks-all (version_text First) refl
lacks-version (Second Four) = lacks-all (version_text (Second Four)) refl
lacks-version (Second Eight) = lacks-all (version_text (Second Eight)) refl
lacks-version (Second Sixteen) = lacks-all (version_text (Second Sixteen)) refl
lacks-version (Third Four profile.One) = lacks-all (version_text (Third Four profile.One)) refl
lacks-version (Third Four profile.Two) = lacks-all (version_text (Third Four profile.Two)) refl
lacks-version (Third Eight profile.One) = lacks-all (version_text (Third Eight profile.One)) refl
lacks-version (Third Eight profile.Two) = lacks-all (version_text (Third Eight profile.Two)) refl
lacks-version (Third Sixteen profile.One) = lacks-all (version_text (Third Sixteen profile.One)) refl
lacks-version (Third Sixteen profile.Two) = lacks-all (version_text (Third Sixteen profile.Two)) refl

lacks-level : (l : Level) → LacksLf (codes " " ++ level_text l)
lacks-level level.UL = lacks-all (codes " " ++ level_text level.UL) refl
lacks-level level.UH = lacks-all (codes " " ++ level_text level.UH) refl
lacks-level level.C = lacks-all (codes " " ++ level_text level.C) refl

lacks-levels : (levels : List Level) → LacksLf (levels_text levels)
lacks-levels [] = All-nil IsOther
lacks-levels (l ∷ levels) = lacks-append (codes " " ++ level_text l) (levels_text levels) (lacks-level l)
    (lacks-levels levels)

pub lacks-header : (version : Version) (levels : List Level)
    → LacksLf (trace_word ++ version_text version ++ levels_text levels)
lacks-header version levels = lacks-append (trace_word ++ version_text version) (levels_text levels)
    (lacks-append trace_word (version_text version) (lacks-all trace_word refl) (lacks-version version))
    (lacks-levels levels)
