-- How the beats of a channel make up messages: bursts, unfinished bursts, and the split of a history.
use Rattle.std.specs.Prelude.{ℕ, Bool, true, false, not, List, [], ◌∷◌, ◌++◌, ◌==◌, ◌+◌, ◌<◌, ◌≡◌, if◌then◌else◌}
use Rattle.std.specs.Prelude.{length, ⊤}
use Rattle.tl_beat.specs.declared.beat.Beat.{Beat}
use Rattle.tl_beat.specs.declared.beat.Beat.TheVariants as beat
use Rattle.tl_beat.specs.declared.channel.Channel.{Channel}
use Rattle.tl_beat.specs.declared.channel.Channel.TheVariants as channel
pub use Rattle.tl_beat.specs.statement.Control.{channel_of}
use Rattle.tl_beat.specs.statement.Control.{control_of, has_control}
use Rattle.tl_beat.specs.statement.Opcode.{a_carries_data, b_carries_data, c_carries_data, d_carries_data}
use Rattle.tl_burst.specs.declared.message.Message.{Message}
use Rattle.tl_burst.specs.statement.Burst.{data_beats, beats_of, beat_of, burst_of, begun, IsBurst}

-- the beats that a link has carried, the newest first
abbrev pub History : ℕ → Type 0
History w = List (Beat w)

-- the number of beats in the burst of this beat
abbrev pub burst_length : {w : ℕ} → Beat w → ℕ
burst_length {w} (beat.A x) = if a_carries_data x.opcode then data_beats w x.size else 1
burst_length {w} (beat.B x) = if b_carries_data x.opcode then data_beats w x.size else 1
burst_length {w} (beat.C x) = if c_carries_data x.opcode then data_beats w x.size else 1
burst_length {w} (beat.D x) = if d_carries_data x.opcode then data_beats w x.size else 1
burst_length (beat.E x) = 1

-- the channel of a message
abbrev pub channel_in : {w : ℕ} → Message w → Channel
channel_in m = channel_of (beat_of m 0)

-- the beat is of the channel
abbrev pub on : {w : ℕ} → Channel → Beat w → Bool
on channel.A (beat.A x) = true
on channel.B (beat.B x) = true
on channel.C (beat.C x) = true
on channel.D (beat.D x) = true
on channel.E (beat.E x) = true
on _ _ = false

-- the control fields agree
abbrev pub same_control : {w : ℕ} → Beat w → Beat w → Bool
same_control x y = has_control x (control_of y)

-- the beat differs in a control field from the unfinished burst
abbrev pub breaks_burst : {w : ℕ} → Beat w → List (Beat w) → Bool
breaks_burst x [] = false
breaks_burst x (y ∷ ys) = not (same_control x y)

-- the unfinished burst after its next beat: empty if that beat completes it
abbrev pub grown : {w : ℕ} → Beat w → List (Beat w) → List (Beat w)
grown x burst = if length burst + 1 == burst_length x then [] else x ∷ burst

-- the beats of the channel's unfinished burst, the newest first
unfoldable pub unfinished : {w : ℕ} → Channel → History w → List (Beat w)
unfinished ch [] = []
unfinished ch (x ∷ t) = if on ch x then grown x (unfinished ch t) else unfinished ch t

-- the beats of a channel, the newest first
unfoldable pub carried_on : {w : ℕ} → Channel → History w → List (Beat w)
carried_on ch [] = []
carried_on ch (x ∷ t) = if on ch x then x ∷ carried_on ch t else carried_on ch t

-- the beats of these messages, one message after the other; the newest message and beat first
unfoldable pub bursts : {w : ℕ} → List (Message w) → List (Beat w)
bursts [] = []
bursts (m ∷ ms) = burst_of m ++ bursts ms

-- these are the first beats of some message, and not all of them; there may be none
abbrev pub IsBeginning : {w : ℕ} → List (Beat w) → Type 0
IsBeginning {w} rest = (m : Message w) × (n : ℕ) × (n < beats_of m) × (rest ≡ begun m n)

-- each of these messages is zero in the parts that no beat carries
abbrev pub AllWhole : {w : ℕ} → List (Message w) → Type 0
AllWhole [] = ⊤
AllWhole (m ∷ ms) = IsBurst m (burst_of m) × AllWhole ms

-- The beats are the bursts of these messages, one after the other, and then the rest, which is an unfinished burst or
-- empty. Each list has its newest element first.
pub record Splits {w : ℕ} (beats : List (Beat w)) (messages : List (Message w)) (rest : List (Beat w)) : Type 0 where
  pub whole : beats ≡ rest ++ bursts messages
  pub messages_are_whole : AllWhole messages
  pub rest_begins : IsBeginning rest
