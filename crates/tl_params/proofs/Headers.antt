-- Versions and levels in headers: what was spelled is read, and what was read was spelled so.
use denote.Ref.{Bor}
use Rattle.std.proofs.Common.{◌≡◌, ◌≢◌, ◌≤◌, ℕ, List, [], ◌∷◌, ◌++◌, length, true, false, refl, ap, ◌∙◌, arith, eqb}
use Rattle.std.proofs.Common.{eqb-true, cond}
use Rattle.std.proofs.lemmas.Bool.Decides.{nat_tests}
use Rattle.std.specs.Prelude.{Bool, ◌&&◌, MatchOption, Option, Some, None}
use Rattle.tl_params.specs.declared.header.Version.{Version}
use Rattle.tl_params.specs.declared.header.Version.TheVariants.{First, Second, Third}
use Rattle.tl_params.specs.declared.level.Level.{Level}
use Rattle.tl_params.specs.declared.level.Level.TheVariants as level
use Rattle.tl_params.specs.declared.profile.Profile.{Profile}
use Rattle.tl_params.specs.declared.profile.Profile.TheVariants as profile
use Rattle.tl_params.specs.declared.width.Width.{Width}
use Rattle.tl_params.specs.declared.width.Width.TheVariants.{Four, Eight, Sixteen}
use Rattle.tl_params.specs.statement.Header.{is_end, level_text, profile_text, version_text, width_text}
use Rattle.tl_params.specs.code.HeaderReading.{Gives, after_word, level_at, of_second, of_third, profile_at, version_at}
use Rattle.tl_params.specs.code.HeaderReading.{width_at, with_profile}
use Rattle.tl_params.proofs.Options.{some_pair}

-- ---- what was read was spelled so

width_taken : (bytes rest : List ℕ) (width : Width) → width_at bytes ≡ Some (width, rest)
    → bytes ≡ width_text width ++ rest
width_taken [] rest width e = absurd cc
width_taken (a ∷ []) rest width e = grind (arith, nat_tests)
width_taken (a ∷ b ∷ bytes) rest width e = grind (arith, nat_tests)

profile_taken : (bytes rest : List ℕ) (p : Profile) → profile_at bytes ≡ Some (p, rest)
    → bytes ≡ 32 ∷ (profile_text p ++ rest)
profile_taken [] rest p e = absurd cc
profile_taken (a ∷ []) rest p e = absurd cc
profile_taken (a ∷ b ∷ bytes) rest p e = grind (arith, nat_tests)

pub level_taken : (bytes rest : List ℕ) (l : Level) → level_at bytes ≡ Some (l, rest)
    → bytes ≡ 32 ∷ (level_text l ++ rest)
level_taken [] rest l e = absurd cc
level_taken (a ∷ []) rest l e = absurd cc
level_taken (a ∷ b ∷ []) rest l e = grind (arith, nat_tests)
level_taken (a ∷ b ∷ c ∷ bytes) rest l e = grind (arith, nat_tests)

pub is_end-taken : (bytes : List ℕ) → is_end bytes ≡ true → bytes ≡ 10 ∷ []
is_end-taken [] e = absurd cc
is_end-taken (c ∷ []) e = rw (eqb-true c 10 e) refl
is_end-taken (c ∷ d ∷ bytes) e = absurd cc

pub after_taken : (word given rest : List ℕ) → after_word word given ≡ Some rest → given ≡ word ++ rest
after_taken [] given rest e = cc
after_taken (c ∷ word) [] rest e = absurd cc
after_taken (c ∷ word) (b ∷ given) rest e = go (eqb b c) refl (after_taken word given rest) e
  where
    go : (x : Bool) → eqb b c ≡ x → (after_word word given ≡ Some rest → given ≡ word ++ rest)
        → cond x (after_word word given) None ≡ Some rest → b ∷ given ≡ c ∷ (word ++ rest)
    go true is more f = rw (eqb-true b c is, more f) refl
    go false is more f = absurd cc

abbrev pub versioned : Version → List ℕ → Version × List ℕ
versioned version rest = (version, rest)

-- the version stands at the front
abbrev IsVersion : List ℕ → List ℕ → Version → Type 0
IsVersion bytes rest version = bytes ≡ version_text version ++ rest

first_taken : (a : ℕ) (bytes rest : List ℕ) (version : Version) → eqb a 49 ≡ true
    → Some (versioned First bytes) ≡ Some (versioned version rest) → IsVersion (a ∷ bytes) rest version
first_taken a bytes rest version is e =
    let (v, r) = some_pair (versioned First bytes) (versioned version rest) e in
    rw (← v, ← r, eqb-true a 49 is) refl

second_taken : (bytes rest : List ℕ) (version : Version) (o : Option (Width × List ℕ)) → width_at bytes ≡ o
    → of_second o ≡ Some (versioned version rest) → IsVersion (50 ∷ 32 ∷ bytes) rest version
second_taken bytes rest version None is e = absurd cc
second_taken bytes rest version (Some (width, after)) is e =
    let (v, r) = some_pair (versioned (Second width) after) (versioned version rest) e in
    rw (← v, ← r, width_taken bytes after width is) refl

third_text : (width : Width) (p : Profile) (rest : List ℕ)
    → 51 ∷ 32 ∷ (width_text width ++ 32 ∷ (profile_text p ++ rest)) ≡ version_text (Third width p) ++ rest
third_text Four p rest = refl
third_text Eight p rest = refl
third_text Sixteen p rest = refl

third_taken : (bytes rest : List ℕ) (version : Version) (o : Option (Width × List ℕ)) → width_at bytes ≡ o
    → of_third o ≡ Some (versioned version rest) → IsVersion (51 ∷ 32 ∷ bytes) rest version
third_taken bytes rest version None is e = absurd cc
third_taken bytes rest version (Some (width, after)) is e = go (profile_at after) refl e
  where
    go : (o : Option (Profile × List ℕ)) → profile_at after ≡ o → with_profile width o ≡ Some (versioned version rest)
        → IsVersion (51 ∷ 32 ∷ bytes) rest version
    go None found f = absurd cc
    go (Some (p, tail)) found f =
        let (v, r) = some_pair (versioned (Third width p) tail) (versioned version rest) f in
        rw (← v, ← r, width_taken bytes after width is, profile_taken after tail p found) (third_text width p tail)

pub version_taken : (bytes rest : List ℕ) (version : Version) → version_at bytes ≡ Some (versioned version rest)
    → IsVersion bytes rest version
version_taken [] rest version e = absurd cc
version_taken (a ∷ []) rest version e = go (eqb a 49) refl e
  where
    go : (b : Bool) → eqb a 49 ≡ b → cond b (Some (versioned First [])) None ≡ Some (versioned version rest)
        → IsVersion (a ∷ []) rest version
    go true is f = first_taken a [] rest version is f
    go false is f = absurd cc
version_taken (a ∷ b ∷ bytes) rest version e = go (eqb a 49) refl (eqb a 50) refl (eqb a 51) refl (eqb b 32) refl e
  where
    go : (x : Bool) → eqb a 49 ≡ x → (y : Bool) → eqb a 50 ≡ y → (z : Bool) → eqb a 51 ≡ z → (s : Bool) → eqb b 32 ≡ s
        → cond x (Some (versioned First (b ∷ bytes)))
        (cond (y && s) (of_second (width_at bytes)) (cond (z && s) (of_third (width_at bytes)) None)) ≡ Some
        (versioned version rest)
        → IsVersion (a ∷ b ∷ bytes) rest version
    go true i y j z k s l f = first_taken a (b ∷ bytes) rest version i f
    go false i true j z k true l f =
        rw (eqb-true a 50 j, eqb-true b 32 l) (second_taken bytes rest version (width_at bytes) refl f)
    go false i true j true k false l f = absurd cc
    go false i true j false k false l f = absurd cc
    go false i false j true k true l f =
        rw (eqb-true a 51 k, eqb-true b 32 l) (third_taken bytes rest version (width_at bytes) refl f)
    go false i false j true k false l f = absurd cc
    go false i false j false k s l f = absurd cc

-- ---- what was spelled is read

pub version_again : (version : Version) (rest : List ℕ) → version_at (version_text version ++ rest) ≡ Some
    (versioned version rest)
version_again First [] = refl
version_again First (c ∷ rest) = refl
version_again (Second Four) [] = refl
version_again (Second Four) (c ∷ rest) = refl
version_again (Second Eight) [] = refl
version_again (Second Eight) (c ∷ rest) = refl
version_again (Second Sixteen) rest = refl
version_again (Third Four profile.One) rest = refl
version_again (Third Four profile.Two) rest = refl
version_again (Third Eight profile.One) rest = refl
version_again (Third Eight profile.Two) rest = refl
version_again (Third Sixteen profile.One) rest = refl
version_again (Third Sixteen profile.Two) rest = refl

pub level_again : (l : Level) (rest : List ℕ) → level_at (32 ∷ (level_text l ++ rest)) ≡ Some (l, rest)
level_again level.UL rest = refl
level_again level.UH rest = refl
level_again level.C [] = refl
level_again level.C (c ∷ rest) = refl

-- a line doesn't end before a level
pub more_levels : (l : Level) (rest : List ℕ) → is_end (32 ∷ (level_text l ++ rest)) ≡ false
more_levels level.UL rest = refl
more_levels level.UH rest = refl
more_levels level.C rest = refl

-- ---- so reading is the spelling

-- what stands at the front, or that none of these texts does
abbrev pub Fronts : {A : Type 0} → (A → List ℕ) → List ℕ → Option (A × Bor (List ℕ)) → Type 0
Fronts {A} text bytes found = MatchOption found ((x : A) (rest : List ℕ) → bytes ≢ text x ++ rest)
    (λ x. bytes ≡ text x.0 ++ x.1.now)

abbrev pub level_field : Level → List ℕ
level_field l = 32 ∷ level_text l

module _ {A : Type 0} (text : A → List ℕ) (read : List ℕ → Option (A × List ℕ)) (taken : (bytes rest : List ℕ) (x : A)
    → read bytes ≡ Some (x, rest) → bytes ≡ text x ++ rest)
    (again : (x : A) (rest : List ℕ) → read (text x ++ rest) ≡ Some (x, rest)) where
  spelled : (bytes : List ℕ) (found : Option (A × Bor (List ℕ))) → Gives found (read bytes) → Fronts text bytes found
  spelled bytes None gives = λ x rest e.
      let some : read bytes ≡ Some (x, rest) = ap read e ∙ again x rest in
      absurd cc
  spelled bytes (Some x) gives = taken bytes x.1.now x.0 gives

  unread : (bytes : List ℕ) → ((x : A) (rest : List ℕ) → bytes ≢ text x ++ rest) → read bytes ≡ None
  unread bytes none = go (read bytes) refl
    where
      go : (o : Option (A × List ℕ)) → read bytes ≡ o → read bytes ≡ None
      go None is = is
      go (Some x) is = absurd (none x.0 x.1 (taken bytes x.1 x.0 is))

pub version_spelled : (bytes : List ℕ) (found : Option (Version × Bor (List ℕ))) → Gives found (version_at bytes)
    → Fronts version_text bytes found
version_spelled = spelled version_text version_at version_taken version_again

pub level_spelled : (bytes : List ℕ) (found : Option (Level × Bor (List ℕ))) → Gives found (level_at bytes)
    → Fronts level_field bytes found
level_spelled = spelled level_field level_at level_taken level_again

pub version_unread : (bytes : List ℕ) → ((version : Version) (rest : List ℕ) → bytes ≢ version_text version ++ rest)
    → version_at bytes ≡ None
version_unread = unread version_text version_at version_taken version_again

pub level_unread : (bytes : List ℕ) → ((l : Level) (rest : List ℕ) → bytes ≢ level_field l ++ rest)
    → level_at bytes ≡ None
level_unread = unread level_field level_at level_taken level_again

pub version_read : (bytes rest : List ℕ) (version : Version) → bytes ≡ version_text version ++ rest
    → version_at bytes ≡ Some (versioned version rest)
version_read bytes rest version e = ap version_at e ∙ version_again version rest

pub level_read : (bytes rest : List ℕ) (l : Level) → bytes ≡ 32 ∷ (level_text l ++ rest)
    → level_at bytes ≡ Some (l, rest)
level_read bytes rest l e = ap level_at e ∙ level_again l rest

-- ---- they are short

pub level-short : (l : Level) → length (level_text l) ≤ 2
level-short level.UL = omega arith
level-short level.UH = omega arith
level-short level.C = omega arith

pub version-short : (version : Version) → length (version_text version) ≤ 6
version-short First = omega arith
version-short (Second Four) = omega arith
version-short (Second Eight) = omega arith
version-short (Second Sixteen) = omega arith
version-short (Third Four profile.One) = omega arith
version-short (Third Four profile.Two) = omega arith
version-short (Third Eight profile.One) = omega arith
version-short (Third Eight profile.Two) = omega arith
version-short (Third Sixteen profile.One) = omega arith
version-short (Third Sixteen profile.Two) = omega arith
