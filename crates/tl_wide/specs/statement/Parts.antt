-- The parts of a wide beat, of at most 16 bytes each.
use Rattle.std.specs.Prelude.{ℕ, zero, suc, Bool, true, false, not, ◌||◌, ◌+◌, ◌-◌, ◌*◌, ◌/◌, ◌%◌, ◌^◌, ◌≡◌}
use Rattle.std.specs.Prelude.{bit_and, filter, is_some, List, [], ◌∷◌, ◌++◌, option_map, Option, Some, None}
use Rattle.std.specs.Prelude.{slice_range}
use Rattle.tl_beat.specs.declared.opcode.OpA.{OpA}
use Rattle.tl_beat.specs.declared.opcode.OpA.TheVariants as a
use Rattle.tl_beat.specs.statement.Opcode.{a_carries_data}
use Rattle.tl_burst.specs.statement.Burst.{bit}
use Rattle.tl_rules.specs.statement.Legality.{each_below, is_lane, is_one_of}
use Rattle.tl_wide.specs.statement.Width.{part_width}

-- ---- the parts of a message

-- the numbers below n
unfoldable pub below : ℕ → List ℕ
below zero = []
below (suc n) = below n ++ n ∷ []

-- a lane of this part carries a byte of a message of this size at this address
abbrev pub reaches_part : ℕ → ℕ → ℕ → ℕ → Bool
reaches_part w size address part =
    not (each_below (part_width w) (λ lane. not (is_lane w size address (part_width w * part + lane))))

-- the parts that carry a byte of the message, the lowest first
abbrev pub parts_of : ℕ → ℕ → ℕ → List ℕ
parts_of w size address = filter (reaches_part w size address) (below (w / part_width w))

-- ---- the lanes and the mask of a part

-- the lanes of a part
abbrev pub part_lanes : ℕ → ℕ → Option (List ℕ) → Option (List ℕ)
part_lanes w part lanes =
    option_map (λ bytes. slice_range bytes (part_width w * part) (part_width w * part + part_width w)) lanes

-- the mask of a part, from that of its beat
abbrev pub part_mask : ℕ → ℕ → ℕ → ℕ
part_mask w mask part = mask / 2 ^ (part_width w * part) % 2 ^ part_width w

-- the mask has a lane that none of these parts has
abbrev pub has_stray : ℕ → List ℕ → ℕ → Bool
has_stray w parts mask = not (each_below 64 (λ lane. not (bit mask lane) || is_one_of (lane / part_width w) parts))

-- The mask of a part: none if the beat's mask has a stray lane, in no part of the message. An empty mask breaks a rule
-- for each opcode but PutPartialData, which `shown_opcode` replaces.
abbrev pub shown_mask : Bool → ℕ → ℕ → ℕ → ℕ
shown_mask true w mask part = 0
shown_mask false w mask part = part_mask w mask part

-- the opcode of a part: a PutPartialData, whose parts may have no lane, becomes a PutFullData, whose parts must have
-- all, if the beat's mask has a stray lane
abbrev pub shown_opcode : Bool → OpA → OpA
shown_opcode true a.PutPartialData = a.PutFullData
shown_opcode _ opcode = opcode

-- the lanes that each of these parts has in the mask
abbrev pub common_mask : ℕ → List ℕ → ℕ → ℕ
common_mask w [] mask = 2 ^ part_width w - 1
common_mask w (part ∷ parts) mask = bit_and (part_mask w mask part) (common_mask w parts mask)

-- ---- a part carries data exactly if its beat does

-- lanes that fit an opcode fit the one that is shown
unfoldable pub shown_carries : (stray : Bool) (opcode : OpA) (lanes : Option (List ℕ))
    → is_some lanes ≡ a_carries_data opcode → is_some lanes ≡ a_carries_data (shown_opcode stray opcode)
shown_carries true a.PutPartialData lanes e = e
shown_carries stray opcode lanes e = e

-- there are lanes of a part exactly if its beat has lanes
unfoldable pub part_carries : (w part : ℕ) (lanes : Option (List ℕ)) (carries : Bool) → is_some lanes ≡ carries
    → is_some (part_lanes w part lanes) ≡ carries
part_carries w part None carries e = e
part_carries w part (Some bytes) carries e = e
