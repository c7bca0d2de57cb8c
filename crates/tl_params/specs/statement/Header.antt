-- The parts that the headers of traces and of schedules share.
use Rattle.std.specs.Prelude.{ℕ, List, [], ◌∷◌, ◌++◌, ◌==◌, Bool, false, codes}
use Rattle.tl_params.specs.declared.header.Version.{Version}
use Rattle.tl_params.specs.declared.header.Version.TheVariants.{First, Second, Third}
use Rattle.tl_params.specs.declared.level.Level.{Level}
use Rattle.tl_params.specs.declared.level.Level.TheVariants as level
use Rattle.tl_params.specs.declared.profile.Profile.{Profile}
use Rattle.tl_params.specs.declared.profile.Profile.TheVariants as profile
use Rattle.tl_params.specs.declared.width.Width.{Width}
use Rattle.tl_params.specs.declared.width.Width.TheVariants.{Four, Eight, Sixteen}

-- the width that a version names; 8 bytes if it names none
abbrev pub width_of : Version → Width
width_of First = Eight
width_of (Second width) = width
width_of (Third width profile) = width

-- the profile that a version names; the first if it names none
abbrev pub profile_of : Version → Profile
profile_of First = profile.One
profile_of (Second width) = profile.One
profile_of (Third width profile) = profile

-- a width as a header spells it, in bytes of a beat
abbrev pub width_text : Width → List ℕ
width_text Four = codes "4"
width_text Eight = codes "8"
width_text Sixteen = codes "16"

-- a profile as a header spells it
abbrev pub profile_text : Profile → List ℕ
profile_text profile.One = codes "1"
profile_text profile.Two = codes "2"

-- a version as a header spells it, with the width and the profile that it names
abbrev pub version_text : Version → List ℕ
version_text First = codes "1"
version_text (Second width) = codes "2 " ++ width_text width
version_text (Third width profile) = codes "3 " ++ width_text width ++ codes " " ++ profile_text profile

-- a level as a header spells it
abbrev pub level_text : Level → List ℕ
level_text level.UL = codes "UL"
level_text level.UH = codes "UH"
level_text level.C = codes "C"

-- the bytes are one line feed
abbrev pub is_end : List ℕ → Bool
is_end [] = false
is_end (c ∷ []) = c == 10
is_end (c ∷ d ∷ cs) = false
