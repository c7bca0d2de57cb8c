-- What the names of a wide beat become, before it is cut into its parts.
use Rattle.std.specs.Prelude.{ℕ, ◌≡◌, false, true, ◌∷◌, Option, Some, None, Result, Ok, Err}
use Rattle.tl_beat.specs.declared.beat.Link.{Link}
use Rattle.tl_wide.specs.declared.beat.WideBeat.{WideBeat}
use Rattle.tl_wide.specs.declared.narrow.Names.{Names}
use Rattle.tl_wide.specs.declared.parts.Named.{Named}
use Rattle.tl_wide.specs.statement.Naming.{WideTrace, is_beyond, narrow_address, place_in, sinks, sources}
use Rattle.tl_wide.specs.statement.Narrowing.{KnowsNames}

-- The answer to one more beat after these, whose names become such numbers, and what is known then. If its names are
-- beyond a limit, and for want of memory, no number changes.
abbrev pub IsNamed : {w : ℕ} {E : Type 0} → Link → WideBeat w → WideTrace w → (Named → Type 0)
    → Result (Option Named) E → Names → Type 0
IsNamed link x t Becomes (Ok (Some n)) after =
    (is_beyond link ((link, x) ∷ t) ≡ false) × Becomes n × KnowsNames after ((link, x) ∷ t)
IsNamed link x t Becomes (Ok None) after = (is_beyond link ((link, x) ∷ t) ≡ true) × KnowsNames after t
IsNamed link x t Becomes (Err e) after = KnowsNames after t

-- what the block and the source become, the source and the sink, and the sink alone
abbrev pub MessageNamed : {w : ℕ} → Link → ℕ → ℕ → WideTrace w → Named → Type 0
MessageNamed link address source t n =
    (n.source ≡ place_in (sources link.0 t) source) × (n.address ≡ narrow_address t address)

abbrev pub ResponseNamed : {w : ℕ} → Link → ℕ → ℕ → WideTrace w → Named → Type 0
ResponseNamed link source sink t n =
    (n.source ≡ place_in (sources link.0 t) source) × (n.sink ≡ place_in (sinks t) sink)

abbrev pub SinkNamed : {w : ℕ} → ℕ → WideTrace w → Named → Type 0
SinkNamed sink t n = n.sink ≡ place_in (sinks t) sink
