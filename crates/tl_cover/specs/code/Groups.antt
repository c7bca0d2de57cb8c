-- Situations by the messages with which they can come.
use Rattle.std.specs.Prelude.{ℕ, Bool, true, false, ◌≡◌, ◌==◌, ◌&&◌, ◌-◌, ◌++◌, List, [], ◌∷◌, map, nat_le, replicate}
use Rattle.tl_beat.specs.declared.beat.Beat.{Beat}
use Rattle.tl_beat.specs.declared.beat.Beat.TheVariants as beat
use Rattle.tl_beat.specs.declared.opcode.OpA.{OpA}
use Rattle.tl_beat.specs.declared.opcode.OpB.{OpB}
use Rattle.tl_beat.specs.declared.opcode.OpC.{OpC}
use Rattle.tl_beat.specs.declared.opcode.OpD.{OpD}
use Rattle.tl_beat.specs.statement.Opcode.{a_code, b_code, c_code, d_code}
use Rattle.tl_cover.specs.declared.group.Group.{Group}
use Rattle.tl_cover.specs.declared.group.Group.TheVariants as group
use Rattle.tl_cover.specs.declared.message.MessageKind.{MessageKind}
use Rattle.tl_cover.specs.declared.message.MessageKind.TheVariants as kind
use Rattle.tl_cover.specs.declared.row.Row.{Row}
use Rattle.tl_cover.specs.declared.situation.Pending.{Pending}
use Rattle.tl_cover.specs.declared.situation.Pending.TheVariants as pending
use Rattle.tl_cover.specs.declared.situation.Situation.{Situation}
use Rattle.tl_cover.specs.declared.situation.Situation.TheVariants as situation
use Rattle.tl_cover.specs.declared.stretch.Stretch.{Stretch}
use Rattle.tl_cover.specs.statement.Kinds.{asks_for, is_access_beat, is_acquire_beat, is_atomic, is_get}
use Rattle.tl_cover.specs.statement.Kinds.{is_grant_ack_beat, is_grant_beat, is_probe_ack_beat, is_probe_beat, is_put}
use Rattle.tl_cover.specs.statement.Kinds.{is_release_beat}

-- the beat is of channel D
abbrev pub is_response : {w : ℕ} → Beat w → Bool
is_response (beat.D x) = true
is_response _ = false

-- the beat is of channel A and has this opcode
abbrev pub is_a : {w : ℕ} → OpA → Beat w → Bool
is_a opcode (beat.A x) = a_code opcode == a_code x.opcode
is_a opcode _ = false

-- the beat is of channel B and has this opcode
abbrev pub is_b : {w : ℕ} → OpB → Beat w → Bool
is_b opcode (beat.B x) = b_code opcode == b_code x.opcode
is_b opcode _ = false

-- the beat is of channel C and has this opcode
abbrev pub is_c : {w : ℕ} → OpC → Beat w → Bool
is_c opcode (beat.C x) = c_code opcode == c_code x.opcode
is_c opcode _ = false

-- the beat is of channel D and has this opcode
abbrev pub is_d : {w : ℕ} → OpD → Beat w → Bool
is_d opcode (beat.D x) = d_code opcode == d_code x.opcode
is_d opcode _ = false

-- the beat is of a message of this group
abbrev pub has : {w : ℕ} → Group → Beat w → Bool
has group.Any x = true
has group.Acquire x = is_acquire_beat x
has group.Access x = is_access_beat x
has (group.AccessOf bytes) x = is_access_beat x && asks_for bytes x
has group.Get x = is_get x
has group.Put x = is_put x
has group.Atomic x = is_atomic x
has group.Probe x = is_probe_beat x
has group.ProbeAck x = is_probe_ack_beat x
has group.Release x = is_release_beat x
has group.Grant x = is_grant_beat x
has group.Response x = is_response x
has group.GrantAck x = is_grant_ack_beat x
has (group.A opcode) x = is_a opcode x
has (group.B opcode) x = is_b opcode x
has (group.C opcode) x = is_c opcode x
has (group.D opcode) x = is_d opcode x

-- the group of a kind of messages
abbrev pub group_of_kind : MessageKind → Group
group_of_kind (kind.A opcode param bytes) = group.A opcode
group_of_kind (kind.B opcode param bytes) = group.B opcode
group_of_kind (kind.C opcode param bytes) = group.C opcode
group_of_kind (kind.D opcode param bytes) = group.D opcode
group_of_kind kind.E = group.GrantAck

-- the group of the messages of this kind
abbrev pub group_of_pending : Pending → Group
group_of_pending pending.Acquire = group.Acquire
group_of_pending pending.Get = group.Get
group_of_pending pending.Put = group.Put
group_of_pending pending.Atomic = group.Atomic
group_of_pending pending.Release = group.Release
group_of_pending pending.Probe = group.Probe
group_of_pending pending.Grant = group.Grant

-- the group of the messages with which the situation can come
abbrev pub group_of : Situation → Group
group_of situation.ProbeBesideRelease = group.Probe
group_of situation.ReleaseBesideProbe = group.Release
group_of situation.ProbeBesideAcquire = group.Probe
group_of situation.ProbeBesideUpgrade = group.Probe
group_of situation.ProbeOfNothing = group.Probe
group_of situation.UpgradeLostWithData = group.Grant
group_of situation.UpgradeLostWithoutData = group.Grant
group_of situation.ReleaseBeforeGrantAck = group.Release
group_of situation.TwoGrants = group.Grant
group_of situation.FourGrants = group.Grant
group_of (situation.Acquired grow) = group.Acquire
group_of (situation.Granted grow) = group.Grant
group_of (situation.Probed cap) = group.Probe
group_of (situation.Reported report) = group.ProbeAck
group_of (situation.Released report) = group.Release
group_of situation.AccessBesideTransfer = group.Access
group_of situation.AccessOfHeldBlock = group.Access
group_of (situation.Masked lanes) = group.Put
group_of (situation.GetOf bytes) = group.Get
group_of (situation.PutOf bytes) = group.Put
group_of (situation.AtomicOf bytes) = group.Atomic
group_of (situation.Arithmetic operation) = group.Atomic
group_of (situation.Logical operation) = group.Atomic
group_of situation.ResponseAtOnce = group.Response
group_of situation.GrantAckLater = group.GrantAck
group_of situation.Contention = group.Acquire
group_of situation.ThreeContend = group.Acquire
group_of situation.ReadOfOwned = group.Get
group_of situation.WriteToOwned = group.Put
group_of situation.AtomicOnOwned = group.Atomic
group_of situation.WriteToShared = group.Put
group_of situation.ReportBesideGrant = group.ProbeAck
group_of situation.EarlyResponse = group.Response
group_of situation.EarlyGrantAck = group.GrantAck
group_of situation.ProbeWithSource = group.Probe
group_of situation.SinkWithoutGrant = group.Response
group_of situation.GrantOfMore = group.Grant
group_of situation.GrantDenied = group.Grant
group_of situation.DeniedUncorrupt = group.Response
group_of (situation.Sent kind) = group_of_kind kind
group_of (situation.Answered report cap) = group.ProbeAck
group_of (situation.Waited wait) = group.ProbeAck
group_of (situation.Aligned bytes many) = group.AccessOf bytes
group_of (situation.Among kind depth) = group_of_pending kind
group_of situation.BetweenBursts = group.Any
group_of situation.CopyDropped = group.Any

-- the group of each element of a list, by its stretches from this place on
unfoldable pub groups_in : ℕ → List Stretch → List Group
groups_in at [] = []
groups_in at (s ∷ more) = replicate (s.1 - at) s.0 ++ groups_in s.1 more

-- the places of the stretches from this one on don't fall
unfoldable pub is_rising : ℕ → List Stretch → Bool
is_rising at [] = true
is_rising at (s ∷ more) = nat_le at s.1 && is_rising s.1 more

-- These rows have the stretches from this place on.
pub record Fits (at : ℕ) (stretches : List Stretch) (rows : List Row) : Type 0 where
  pub groups : groups_in at stretches ≡ map (λ r. group_of r.situation) rows
  pub rising : is_rising at stretches ≡ true
