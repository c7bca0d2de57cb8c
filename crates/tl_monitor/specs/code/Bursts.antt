-- What a table of unfinished bursts says of each channel.
use Rattle.std.specs.Prelude.{ℕ, Bool, List, [], ◌∷◌, ◌+◌, ◌-◌, ◌==◌, ◌≡◌, ◌<◌, if◌then◌else◌, length, nat_le, Option}
use Rattle.std.specs.Prelude.{Some, None, true}
use Rattle.tl_beat.specs.declared.beat.Beat.{Beat}
use Rattle.tl_beat.specs.declared.channel.Channel.{Channel}
use Rattle.tl_beat.specs.declared.channel.Channel.TheVariants as channel
use Rattle.tl_burst.specs.statement.Messages.{burst_length, on}
use Rattle.tl_beat.specs.statement.Control.{control_of, has_control}
use Rattle.tl_monitor.specs.declared.bursts.Unfinished.{Unfinished}
use Rattle.tl_monitor.specs.declared.bursts.Bursts.{Bursts}

abbrev pub burst_on : {P : Type 0} → Bursts P → Channel → Option (Unfinished P)
burst_on b channel.A = b.a
burst_on b channel.B = b.b
burst_on b channel.C = b.c
burst_on b channel.D = b.d
burst_on b channel.E = b.e

-- these are the beats of the unfinished burst: all that have come, the newest first
abbrev pub IsOf : {w : ℕ} {P : Type 0} → Option (Unfinished P) → List (Beat w) → Type 0
IsOf {w} None beats = beats ≡ []
IsOf {w} (Some u) beats =
    (x : Beat w) × (earlier : List (Beat w)) × (beats ≡ x ∷ earlier) × (u.control ≡ control_of x)
    × (length beats + u.left ≡ burst_length x)
    × (0 < u.left)

-- the beat has the control fields of the unfinished burst, if there is one
abbrev pub continues_burst : {w : ℕ} {P : Type 0} → Beat w → Option (Unfinished P) → Bool
continues_burst x None = true
continues_burst x (Some u) = has_control x u.control

-- the beat is the last one of its burst
abbrev pub is_last : {w : ℕ} {P : Type 0} → Beat w → Option (Unfinished P) → Bool
is_last x None = nat_le (burst_length x) 1
is_last x (Some u) = nat_le u.left 1

-- the beat is one in the middle of the burst, with the control fields of those before it
abbrev pub IsMiddle : {w : ℕ} {P : Type 0} → Beat w → Option (Unfinished P) → Type 0
IsMiddle x None = ⊥
IsMiddle x (Some u) = (has_control x u.control ≡ true) × (1 < u.left)

-- how many beats come after this one
abbrev pub left_after : {w : ℕ} {P : Type 0} → Beat w → Option (Unfinished P) → ℕ
left_after x None = burst_length x - 1
left_after x (Some u) = u.left - 1

-- the payload beside the first beat of the burst
abbrev pub beside_first : {P : Type 0} → P → Option (Unfinished P) → P
beside_first p None = p
beside_first p (Some u) = u.beside

-- the burst with its next beat and this payload beside it; none if that beat is the last
abbrev pub burst_next : {w : ℕ} {P : Type 0} → Beat w → P → Option (Unfinished P) → Option (Unfinished P)
burst_next x p u =
    if left_after x u == 0 then None else Some
    (record { control = control_of x; left = left_after x u; beside = beside_first p u })

-- with a beat that may be of another channel
abbrev pub burst_with : {w : ℕ} {P : Type 0} → Channel → Beat w → P → Option (Unfinished P) → Option (Unfinished P)
burst_with ch x p u = if on ch x then burst_next x p u else u
