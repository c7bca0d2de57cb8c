-- What an event does to each channel of a link: nothing, or one token, of this kind and number, is pushed or popped.
use Rattle.std.specs.Prelude.{ℕ, Bool, true, not, List, [], ◌∷◌, ◌++◌, ◌≡◌, ◌==◌, ◌&&◌, if◌then◌else◌}
use Rattle.std.specs.Bool.{beq}
use Rattle.tl_beat.specs.declared.channel.Channel.{Channel}
use Rattle.tl_beat.specs.declared.channel.Channel.TheVariants as channel
use Rattle.tl_coherence.specs.protocol.Packet.{Kind, Request, Acquire, Probe, ProbeAck, Release, Answer, Grant}
use Rattle.tl_coherence.specs.protocol.Packet.{ReleaseAck, GrantAck, Packet, same_kind}
use Rattle.tl_coherence.specs.protocol.Protocol.{Link, packet, packets_on, is_on}

pub data Move : Type 0 where
  Stays : Move
  Pushes : Kind → ℕ → Move
  Pops : Kind → ℕ → Move

-- the channel of a kind
abbrev pub channel_for : Kind → Channel
channel_for Request = channel.A
channel_for Acquire = channel.A
channel_for Probe = channel.B
channel_for ProbeAck = channel.C
channel_for Release = channel.C
channel_for Answer = channel.D
channel_for Grant = channel.D
channel_for ReleaseAck = channel.D
channel_for GrantAck = channel.E

-- the tokens after a move
abbrev pub IsMoved : Move → List Packet → List Packet → Type 0
IsMoved Stays xs ys = ys ≡ xs
IsMoved (Pushes k n) xs ys = ys ≡ xs ++ packet k n ∷ []
IsMoved (Pops k n) xs ys = xs ≡ packet k n ∷ ys

-- the token of kind k and number n is there before and after the move as these tests say, and no other
-- number of the kind moves
abbrev pub agrees : Move → Kind → ℕ → Bool → Bool → Bool
agrees Stays k n before after = beq before after
agrees (Pushes j i) k n before after = if same_kind j k then (i == n) && (not before && after) else beq before after
agrees (Pops j i) k n before after = if same_kind j k then (i == n) && not after else beq before after

-- each channel moves a token of its own
abbrev pub is_own_move : Channel → Move → Bool
is_own_move ch Stays = true
is_own_move ch (Pushes k n) = is_on ch k
is_own_move ch (Pops k n) = is_on ch k

-- the link after these moves
abbrev pub AreMoved : (Channel → Move) → Link → Link → Type 0
AreMoved moves l k = (ch : Channel) → IsMoved (moves ch) (packets_on ch l) (packets_on ch k)
