-- The numbers of levels, flags, profiles, widths, channels and links in C.
use Rattle.std.specs.Prelude.{ℕ, Bool, true, ◌&&◌, ◌||◌, ◌==◌, List, [], ◌∷◌, nat_lt, Option, Some, None}
use Rattle.std.specs.Prelude.{if◌then◌else◌}
use Rattle.tl_beat.specs.declared.beat.Link.{Link}
use Rattle.tl_beat.specs.declared.channel.Channel.{Channel}
use Rattle.tl_beat.specs.declared.channel.Channel.TheVariants as channel
use Rattle.tl_burst.specs.statement.Burst.{bit}
use Rattle.tl_params.specs.declared.level.Level.{Level}
use Rattle.tl_params.specs.declared.level.Level.TheVariants as level
use Rattle.tl_params.specs.declared.liberties.Liberties.{Liberties}
use Rattle.tl_params.specs.declared.profile.Profile.{Profile}
use Rattle.tl_params.specs.declared.profile.Profile.TheVariants as profile

-- the level with a code: 0 for UL, 1 for UH, any other for C
abbrev pub level_at : ℕ → Level
level_at code = if code == 0 then level.UL else if code == 1 then level.UH else level.C

-- each code is that of a level: 0, 1 or 2
abbrev pub are_levels : List ℕ → Bool
are_levels [] = true
are_levels (code ∷ codes) = nat_lt code 3 && are_levels codes

-- the flag with a code: 1 is true, any other false
abbrev pub flag_at : ℕ → Bool
flag_at code = code == 1

-- the code is that of a flag: 0 or 1
abbrev pub is_flag : ℕ → Bool
is_flag code = nat_lt code 2

-- each code is that of a flag
abbrev pub are_flags : List ℕ → Bool
are_flags [] = true
are_flags (code ∷ codes) = is_flag code && are_flags codes

-- the profile with a code: 1 for the first, any other for the second
abbrev pub profile_at : ℕ → Profile
profile_at code = if code == 1 then profile.One else profile.Two

-- the code is that of a profile
abbrev pub is_profile : ℕ → Bool
is_profile code = code == 1 || code == 2

-- the liberties with a code: bit 0 for `ids` to bit 7 for `uncorrupt`
abbrev pub liberties_at : ℕ → Liberties
liberties_at code = record {
  ids = bit code 0;
  sinks = bit code 1;
  writer = bit code 2;
  early = bit code 3;
  drops = bit code 4;
  reports = bit code 5;
  denied = bit code 6;
  uncorrupt = bit code 7;
}

-- the number of bytes that a beat may have
abbrev pub is_width : ℕ → Bool
is_width width = width == 4 || width == 8 || width == 16

-- the number of bytes that a wide beat may have
abbrev pub is_wide_width : ℕ → Bool
is_wide_width width = is_width width || width == 32 || width == 64

-- the channel with a code, 0 for A to 4 for E
abbrev pub channel_at : ℕ → Option Channel
channel_at code =
    if code == 0 then Some channel.A else
    if code == 1 then Some channel.B else
    if code == 2 then Some channel.C else if code == 3 then Some channel.D else if code == 4 then Some channel.E else
    None

-- the link with a code, 0 to 15
abbrev pub link_at : ℕ → Option Link
link_at code = if nat_lt code 16 then Some (record { 0 = code }) else None
