-- How the observed values of a block's bytes are kept: the last of each byte by its place, and in one list the
-- earlier ones.
use Rattle.std.specs.Prelude.{ℕ, zero, suc, Bool, true, false, not, [], ◌∷◌, ◌++◌, ◌&&◌, ◌-◌, if◌then◌else◌, List}
use Rattle.std.specs.Box.{box_value}
use Rattle.std.specs.Prelude.{filter, find, is_some, nat_le, nat_lt, Option, Some, None, slice_index_or}
use Rattle.tl_burst.specs.statement.Burst.{bit}
use Rattle.tl_bytes.specs.declared.known_bytes.KnownBytes.{KnownBytes}
use Rattle.tl_bytes.specs.declared.latest.Latest.{Latest}
use Rattle.tl_bytes.specs.declared.latest.Moments.{Moments}
use Rattle.tl_bytes.specs.declared.latest.Moments.TheVariants as moments
use Rattle.tl_bytes.specs.declared.standing.Standing.{Standing}
use Rattle.tl_bytes.specs.declared.standing.Standing.TheVariants as stands
use Rattle.tl_bytes.specs.declared.telling.Telling.{Telling}
use Rattle.tl_bytes.specs.declared.telling.Told.{Told}
use Rattle.tl_bytes.specs.declared.write.Write.{Write}
use Rattle.tl_bytes.specs.statement.Bytes.{could_be, same_value, told_too}
use Rattle.tl_bytes.specs.statement.KnownBytes.{known_at}

-- the place is written
abbrev pub is_written : Write → ℕ → Bool
is_written write place =
    nat_le write.first place && (nat_lt (place - write.first) 64 && bit write.mask (place - write.first))

-- the value that is written there
abbrev pub value_at : Write → ℕ → Option ℕ
value_at write place = known_at write.values (place - write.first)

-- when the byte at a place was observed: at this moment if it is known, otherwise never
abbrev pub moment_of_known : KnownBytes → ℕ → ℕ → ℕ
moment_of_known values moment place = if is_some (known_at values place) then moment else 0

-- when it was observed
abbrev pub moment_at : Moments → KnownBytes → ℕ → ℕ
moment_at (moments.OfKnown moment) values place = moment_of_known values moment place
moment_at (moments.OfAll moment) values place = moment
moment_at (moments.OfEach all) values place = slice_index_or (box_value all) place 0

-- the value last observed at a place: any value if there is none
abbrev pub telling_at : Latest → ℕ → Telling
telling_at latest place = record {
  value = known_at latest.values place;
  moment = moment_at latest.moments latest.values place;
}

-- a value observed at a place that is written is kept beside the new one, if it differs and isn't older
-- than this moment
abbrev pub outlives : Write → ℕ → Told → Bool
outlives write since x = nat_le since x.telling.moment && not (same_value x.telling.value (value_at write x.place))

-- and the values observed at other places are kept
abbrev pub stays : Write → ℕ → Told → Bool
stays write since x = if is_written write x.place then outlives write since x else true

-- the value last observed at a place that is written, if it is kept
abbrev pub is_displaced : Write → ℕ → Told → Bool
is_displaced write since x = if is_written write x.place then outlives write since x else false

-- the values last observed at the first so many places
unfoldable pub displaced : ℕ → Latest → Write → ℕ → List Told
displaced zero latest write since = []
displaced (suc k) latest write since =
    if is_displaced write since (record { place = k; telling = telling_at latest k })
    then displaced k latest write since ++ record { place = k; telling = telling_at latest k } ∷ []
    else displaced k latest write since

-- the values that the bytes may have in addition to the last observed ones, with the written ones
abbrev pub outlived : Latest → List Told → Write → ℕ → List Told
outlived latest earlier write since = displaced 64 latest write since ++ filter (stays write since) earlier

-- the value last observed at a place, with the one that is written at this moment
abbrev pub written_at : Latest → Write → ℕ → ℕ → Telling
written_at latest write moment place =
    if is_written write place then record { value = value_at write place; moment = moment } else telling_at latest place

-- the possible values of a byte when the answer to an access that writes it is complete, by the relation of the access
-- to the block
abbrev pub by_standing : Standing → Telling → List Telling → List Telling
by_standing stands.Told now before = before
by_standing (stands.Within began) now before = told_too now (filter (λ e. nat_le began e.moment) before)
by_standing stands.Anywhere now before = told_too now before

-- the possible values of the byte at a place with a write at this moment, by that relation
abbrev pub with_write : Write → Standing → ℕ → ℕ → List Telling → List Telling
with_write write s moment place before =
    if is_written write place
    then by_standing s (record { value = value_at write place; moment = moment }) before else before

-- it may leave this byte at a place
abbrev pub leaves : ℕ → ℕ → Write → Bool
leaves place byte write = is_written write place && could_be byte (value_at write place)

-- one of these may
abbrev pub left_as : ℕ → ℕ → List Write → Bool
left_as place byte writes = is_some (find (leaves place byte) writes)

-- each value of the first is one of the second
abbrev pub covers_value : Option ℕ → Option ℕ → Bool
covers_value None other = true
covers_value (Some u) other = same_value (Some u) other
