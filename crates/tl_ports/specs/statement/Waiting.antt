-- The beats that wait to be sent, on each channel of each link.
use Rattle.std.specs.Prelude.{ℕ, Bool, true, false, List, [], ◌∷◌, ◌++◌, ◌==◌, ◌&&◌, map, filter, if◌then◌else◌}
use Rattle.tl_beat.specs.declared.beat.Beat.{Beat}
use Rattle.tl_beat.specs.declared.beat.Link.{Link}
use Rattle.tl_beat.specs.declared.channel.Channel.{Channel}
use Rattle.tl_beat.specs.declared.channel.Channel.TheVariants as channel
use Rattle.tl_burst.specs.declared.message.Message.{Message}
use Rattle.tl_burst.specs.statement.Burst.{beats_of, beat_of}
use Rattle.tl_burst.specs.statement.Messages.{on}
use Rattle.tl_rules.specs.statement.Legality.{beats_from}
use Rattle.tl_ports.specs.declared.outgoing.Outgoing.{Outgoing}

-- the beats of a message, the first beat first
abbrev pub split : {w : ℕ} → Message w → List (Beat w)
split m = beats_from m 0 (beats_of m)

-- the beat is of this channel of this link
abbrev pub is_on_link : {w : ℕ} → ℕ → Channel → Link × Beat w → Bool
is_on_link link ch x = x.0.0 == link && on ch x.1

-- the beats that wait on a channel of a link, the oldest first
abbrev pub waiting : {w : ℕ} → ℕ → Channel → Outgoing w → List (Beat w)
waiting link ch outgoing = map (λ x. x.1) (filter (λ x. is_on_link link ch x) outgoing.beats.items)

-- the beats that a message handed out on link `at` adds to a channel of a link: all of its beats to its own
abbrev pub handed_on : {w : ℕ} → ℕ → Channel → Link → Message w → List (Beat w)
handed_on link ch at m = if at.0 == link && on ch (beat_of m 0) then split m else []

-- the beats that several messages, each with its link, add to a channel of a link, in order
abbrev pub handed_all : {w : ℕ} → ℕ → Channel → List (Link × Message w) → List (Beat w)
handed_all link ch [] = []
handed_all link ch (x ∷ handed) = handed_on link ch x.0 x.1 ++ handed_all link ch handed

-- the channels are the same
abbrev pub same_channel : Channel → Channel → Bool
same_channel channel.A channel.A = true
same_channel channel.B channel.B = true
same_channel channel.C channel.C = true
same_channel channel.D channel.D = true
same_channel channel.E channel.E = true
same_channel _ _ = false

-- link and channel are the given ones
abbrev pub is_place : ℕ → Channel → ℕ → Channel → Bool
is_place link ch at channel = at == link && same_channel ch channel
