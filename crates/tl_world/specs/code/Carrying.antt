-- What the channels of a world hold, and for how many beats they are made.
use Rattle.std.specs.Prelude.{ℕ, List, [], not, ◌≡◌, ◌==◌, ◌<◌, ◌≤◌, ◌*◌, ◌/◌, ◌%◌, if◌then◌else◌, length, max}
use Rattle.std.specs.Prelude.{slice_index_or}
use Rattle.std.specs.Int.{bit_at}
use Rattle.circular_buffer.specs.Buffer.{buffer}
use Rattle.tl_beat.specs.declared.channel.Channel.{Channel}
use Rattle.tl_beat.specs.declared.channel.Channel.TheVariants as channel
use Rattle.tl_burst.specs.statement.Part.{is_empty}
use Rattle.tl_manager.specs.code.Bit.{bit_if}
use Rattle.tl_params.specs.declared.config.Config.{Config}
use Rattle.tl_world.specs.declared.non_empty.NonEmptyChannels.{NonEmptyChannels}
use Rattle.tl_world.specs.declared.ring.Ring.{Ring}
use Rattle.tl_world.specs.declared.rings.Rings.{Rings}
use Rattle.tl_coherence.specs.statement.Delivery.{capacity, sources_of}
use Rattle.tl_coherence.specs.statement.System.{System, terms_at}
pub use Rattle.tl_world.specs.statement.Places.{number, place}

-- the word of a channel, with a bit for each link
abbrev pub word_of : NonEmptyChannels → Channel → ℕ
word_of non_empty ch = slice_index_or non_empty.words (number ch) 0

-- The channels of the first n links hold the beats of those of the whole, and the bit of each is set exactly while
-- it holds a beat.
pub record Carries {w : ℕ} (n : ℕ) (rings : Rings w) (s : System w) : Type 0 where
  pub five_each : length rings.all.items ≡ 5 * n
  pub beats : (k : ℕ) (ch : Channel) (d : Ring w) → k < n → (slice_index_or rings.all.items (place k ch) d).beats.items
      ≡ s.channels k ch
  pub non_empty : (k : ℕ) (ch : Channel) → k < n
      → bit_at (word_of rings.non_empty ch) k ≡ bit_if (not (is_empty (s.channels k ch)))

-- those of the whole hold no more beats than they are made for
abbrev pub Fit : {w : ℕ} → ℕ → Rings w → System w → Type 0
Fit {w} n rings s = (k : ℕ) (ch : Channel) (d : Ring w) → k < n
    → length (s.channels k ch) ≤ (slice_index_or rings.all.items (place k ch) d).beats.capacity

-- they are made for as many beats as before
pub record AreKept {w : ℕ} (old new : Rings w) : Type 0 where
  pub same_number : length new.all.items ≡ length old.all.items
  pub same_capacity : (i : ℕ) (d : Ring w)
      → (slice_index_or new.all.items i d).beats.capacity ≡ (slice_index_or old.all.items i d).beats.capacity

-- the greatest number of beats that each ever held is the one from before, or the present one
abbrev pub Deepen : {w : ℕ} → ℕ → Rings w → Rings w → Type 0
Deepen {w} n old new = (k : ℕ) (ch : Channel) (d : Ring w) → k < n →
    (slice_index_or new.all.items (place k ch) d).deepest ≡ max (slice_index_or old.all.items (place k ch) d).deepest
    (length (slice_index_or new.all.items (place k ch) d).beats.items)

-- The rings carry the channels of this system now, and have noted how deep they ever were.
pub record AreMoved {w : ℕ} (n : ℕ) (old new : Rings w) (s : System w) : Type 0 where
  pub carries : Carries n new s
  pub deepen : Deepen n old new

-- ---- how they are made

abbrev pub channel_at : ℕ → Channel
channel_at n = if n == 0 then channel.A else if n == 1 then channel.B else if n == 2 then channel.C else if n == 3 then
    channel.D else channel.E

-- for how many beats the channel at this place is made
abbrev pub capacity_at : ℕ → Config → ℕ → ℕ
capacity_at w config i = capacity (64 / w) (sources_of (terms_at config (i / 5))) config.trackers (channel_at (i % 5))

-- no bit is set
abbrev pub AreClear : NonEmptyChannels → Type 0
AreClear non_empty = (k : ℕ) (ch : Channel) → bit_at (word_of non_empty ch) k ≡ 0

-- this many channels are made, and hold nothing
pub record AreFresh {w : ℕ} (config : Config) (count : ℕ) (rings : List (Ring w)) : Type 0 where
  pub so_many : length rings ≡ count
  pub beats : (i : ℕ) (d : Ring w) → i < count → (slice_index_or rings i d).beats ≡ buffer [] (capacity_at w config i)
  pub deepest : (i : ℕ) (d : Ring w) → i < count → (slice_index_or rings i d).deepest ≡ 0
