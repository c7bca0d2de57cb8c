-- The state of a narrower after a wide trace, and its answer to the next beat.
use Rattle.std.specs.Prelude.{ℕ, ◌≡◌, ◌≤◌, ◌<◌, ◌^◌, ◌+◌, ◌*◌, false, true, List, length, Option}
use Rattle.std.specs.Prelude.{Some, None, Result, Ok, Err, slice_index_or, ◌∷◌}
use Rattle.tl_beat.specs.declared.beat.Link.{Link}
use Rattle.tl_wide.specs.statement.Numbers.{KnowsNumbers, place_among}
use Rattle.tl_wide.specs.statement.Pieces.{left_of, pieces_of}
use Rattle.tl_wide.specs.declared.beat.WideBeat.{WideBeat}
use Rattle.tl_wide.specs.declared.narrow.Names.{Names}
use Rattle.tl_wide.specs.declared.narrow.Narrower.{Narrower}
use Rattle.tl_wide.specs.declared.numbers.Numbers.{Numbers}
use Rattle.tl_wide.specs.declared.parts.Named.{Named}
use Rattle.tl_wide.specs.declared.parts.Parts.{Parts}
use Rattle.tl_wide.specs.statement.Naming.{WideTrace, blocks, is_beyond, sinks, sources}
use Rattle.tl_wide.specs.statement.Narrowed.{asked_address, beats_of}
use Rattle.tl_wide.specs.statement.Width.{part_width}

-- ---- names

-- the tables have the numbers of the names of this trace, none of them beyond its limit
pub record KnowsNames {w : ℕ} (names : Names) (t : WideTrace w) : Type 0 where
  pub long : length names.sources ≡ 256
  pub blocks_are : KnowsNumbers names.blocks (blocks t)
  pub sources_are : (link : ℕ) (d : Numbers) → link < 256
      → KnowsNumbers (slice_index_or names.sources link d) (sources link t)
  pub sinks_are : KnowsNumbers names.sinks (sinks t)
  pub few_blocks : length (blocks t) ≤ 2 ^ 26
  pub few_sources : (link : ℕ) → length (sources link t) ≤ 256
  pub few_sinks : length (sinks t) ≤ 256

-- ---- the addresses of requests

-- the key of a source's number on a link
abbrev pub key_of : Link → ℕ → ℕ
key_of link number = 256 * link.0 + number

-- the address under the number of a source, 0 if it has none
abbrev pub asked_under : List ℕ → Link → Option ℕ → ℕ
asked_under addresses link None = 0
asked_under addresses link (Some number) = slice_index_or addresses (key_of link number) 0

-- the address of the last request with each source of each link is kept, under the source's number
pub record Asks {w : ℕ} (addresses : List ℕ) (t : WideTrace w) : Type 0 where
  pub kept : (link : Link) (source : ℕ)
      → asked_under addresses link (place_among (sources link.0 t) source) ≡ asked_address link source t
  pub none : (link : Link) (number : ℕ) → length (sources link.0 t) ≤ number → number < 256
      → slice_index_or addresses (key_of link number) 0 ≡ 0

-- ---- both

-- the narrower has followed this trace
abbrev pub Follows : {w : ℕ} → Narrower → WideTrace w → Type 0
Follows n t = KnowsNames n.names t × Asks n.asked.items t

-- The answer to one more beat: the beats that it becomes, or none if a name has no number left. Then, and on an error,
-- the narrower still follows the trace without it.
abbrev pub IsNarrowed : {w : ℕ} {E : Type 0} → Link → WideBeat w → WideTrace w → Result (Option Parts) E → Narrower
    → Type 0
IsNarrowed {w} link x t (Ok (Some parts)) after =
    (is_beyond link ((link, x) ∷ t) ≡ false)
    × (left_of {p = part_width w} x parts ≡ beats_of link x ((link, x) ∷ t)) × Follows after ((link, x) ∷ t)
IsNarrowed link x t (Ok None) after = (is_beyond link ((link, x) ∷ t) ≡ true) × Follows after t
IsNarrowed link x t (Err e) after = Follows after t

-- the same of the names alone: numbers with which the beat becomes those beats
abbrev pub IsNumberedBeat : {w : ℕ} {E : Type 0} → Link → WideBeat w → WideTrace w → Result (Option Named) E → Narrower
    → Type 0
IsNumberedBeat {w} link x t (Ok (Some n)) after =
    (is_beyond link ((link, x) ∷ t) ≡ false)
    × (pieces_of {p = part_width w} x n ≡ beats_of link x ((link, x) ∷ t)) × Follows after ((link, x) ∷ t)
IsNumberedBeat link x t (Ok None) after = (is_beyond link ((link, x) ∷ t) ≡ true) × Follows after t
IsNumberedBeat link x t (Err e) after = Follows after t
