-- What headers name alike, read from left to right, as the code goes; only private clauses cite this.
use denote.Ref.{Bor}
use Rattle.std.specs.Prelude.{◌≡◌, ℕ, zero, suc, List, [], ◌∷◌, option_and_then, Option, Some, None, ◌==◌, ◌&&◌}
use Rattle.std.specs.Prelude.{if◌then◌else◌}
use Rattle.arrayvec.specs.ArrayVec.{ArrayVec}
use Rattle.tl_params.specs.declared.header.Version.{Version}
use Rattle.tl_params.specs.declared.header.Version.TheVariants.{First, Second, Third}
use Rattle.tl_params.specs.declared.level.Level.{Level}
use Rattle.tl_params.specs.declared.level.Level.TheVariants as level
use Rattle.tl_params.specs.declared.profile.Profile.{Profile}
use Rattle.tl_params.specs.declared.profile.Profile.TheVariants as profile
use Rattle.tl_params.specs.declared.width.Width.{Width}
use Rattle.tl_params.specs.declared.width.Width.TheVariants.{Four, Eight, Sixteen}
use Rattle.tl_params.specs.statement.Header.{is_end}

-- the result is that of reading
abbrev pub Gives : {X : Type 0} → Option (X × Bor (List ℕ)) → Option (X × List ℕ) → Type 0
Gives None read = read ≡ None
Gives (Some x) read = read ≡ Some (x.0, x.1.now)

-- a width at the front
abbrev pub width_at : List ℕ → Option (Width × List ℕ)
width_at [] = None
width_at (a ∷ []) = if a == 52 then Some (Four, []) else if a == 56 then Some (Eight, []) else None
width_at (a ∷ b ∷ rest) =
    if a == 52 then Some (Four, b ∷ rest) else if a == 56 then Some (Eight, b ∷ rest) else if (a == 49) && (b == 54)
    then Some (Sixteen, rest) else None

-- a profile at the front, after a space
abbrev pub profile_at : List ℕ → Option (Profile × List ℕ)
profile_at [] = None
profile_at (a ∷ []) = None
profile_at (a ∷ b ∷ rest) = if (a == 32) && (b == 49) then Some (profile.One, rest) else if (a == 32) && (b == 50) then
    Some (profile.Two, rest) else None

abbrev pub with_profile : Width → Option (Profile × List ℕ) → Option (Version × List ℕ)
with_profile width None = None
with_profile width (Some (profile, rest)) = Some (Third width profile, rest)

abbrev pub of_second : Option (Width × List ℕ) → Option (Version × List ℕ)
of_second None = None
of_second (Some (width, rest)) = Some (Second width, rest)

abbrev pub of_third : Option (Width × List ℕ) → Option (Version × List ℕ)
of_third None = None
of_third (Some (width, rest)) = with_profile width (profile_at rest)

-- a version at the front, with the values that it names
abbrev pub version_at : List ℕ → Option (Version × List ℕ)
version_at [] = None
version_at (a ∷ []) = if a == 49 then Some (First, []) else None
version_at (a ∷ b ∷ rest) =
    if a == 49 then Some (First, b ∷ rest) else
    if (a == 50) && (b == 32) then of_second (width_at rest) else
    if (a == 51) && (b == 32) then of_third (width_at rest) else None

-- a level at the front, after a space
abbrev pub level_at : List ℕ → Option (Level × List ℕ)
level_at [] = None
level_at (a ∷ []) = None
level_at (a ∷ b ∷ []) = if (a == 32) && (b == 67) then Some (level.C, []) else None
level_at (a ∷ b ∷ c ∷ rest) =
    if (a == 32) && (b == 85) && (c == 76) then Some (level.UL, rest) else
    if (a == 32) && (b == 85) && (c == 72) then Some (level.UH, rest) else
    if (a == 32) && (b == 67) then Some (level.C, c ∷ rest) else None

-- what follows a word at the front
abbrev pub after_word : List ℕ → List ℕ → Option (List ℕ)
after_word [] bytes = Some bytes
after_word (c ∷ word) [] = None
after_word (c ∷ word) (b ∷ bytes) = if b == c then after_word word bytes else None

-- ---- one after another

abbrev pub onto : {A : Type 0} → A → Option (List A) → Option (List A)
onto x None = None
onto x (Some xs) = Some (x ∷ xs)

-- at most n values that a reader finds at the front, up to a line feed at the end
unfoldable pub up_to : {A : Type 0} → (List ℕ → Option (A × List ℕ)) → ℕ → List ℕ → Option (List A)
up_to read zero bytes = if is_end bytes then Some [] else None
up_to read (suc n) bytes = if is_end bytes then Some [] else option_and_then (λ x. onto x.0 (up_to read n x.1))
    (read bytes)

-- those that were returned are those that reading gives
abbrev pub GivesAll : {A : Type 0} → Option (ArrayVec A) → Option (List A) → Type 0
GivesAll None read = read ≡ None
GivesAll (Some all) read = read ≡ Some all.items
