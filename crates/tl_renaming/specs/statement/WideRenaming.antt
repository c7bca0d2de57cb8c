-- The names of blocks, sources and sinks don't matter in a wide trace.
use Rattle.std.specs.Prelude.{ℕ, ◌≡◌, List, map}
use Rattle.tl_beat.specs.declared.beat.Link.{Link}
use Rattle.tl_params.specs.declared.level.Level.{Level}
use Rattle.tl_params.specs.declared.liberties.Liberties.{Liberties}
use Rattle.tl_params.specs.statement.Liberties.{no_liberties}
use Rattle.tl_renaming.specs.statement.Renamed.{AreFaithful, Renaming, Renamings, of_link, renamed_address}
use Rattle.tl_wide.specs.declared.beat.WideBeat.{WideBeat}
use Rattle.tl_wide.specs.declared.beat.WideBeat.TheVariants as wide
use Rattle.tl_wide.specs.declared.beat.WideBeatA.{WideBeatA}
use Rattle.tl_wide.specs.declared.beat.WideBeatB.{WideBeatB}
use Rattle.tl_wide.specs.declared.beat.WideBeatC.{WideBeatC}
use Rattle.tl_wide.specs.declared.beat.WideBeatD.{WideBeatD}
use Rattle.tl_wide.specs.statement.Naming.{WideTrace}
use Rattle.tl_wide.specs.statement.Narrowed.{narrowed}
use Rattle.tl_wide.specs.statement.Verdict.{first_wide_fault}

-- a wide beat of channel A renamed
abbrev pub renamed_wide_a : {w : ℕ} → Renaming → WideBeatA w → WideBeatA w
renamed_wide_a r x = record x { source = r.source x.source; address = renamed_address r x.address }

-- a wide beat of channel B renamed
abbrev pub renamed_wide_b : {w : ℕ} → Renaming → WideBeatB w → WideBeatB w
renamed_wide_b r x = record x { source = r.source x.source; address = renamed_address r x.address }

-- a wide beat of channel C renamed
abbrev pub renamed_wide_c : {w : ℕ} → Renaming → WideBeatC w → WideBeatC w
renamed_wide_c r x = record x { source = r.source x.source; address = renamed_address r x.address }

-- a wide beat of channel D renamed
abbrev pub renamed_wide_d : {w : ℕ} → Renaming → WideBeatD w → WideBeatD w
renamed_wide_d r x = record x { source = r.source x.source; sink = r.sink x.sink }

-- a wide beat of any channel renamed
abbrev pub renamed_wide : {w : ℕ} → Renaming → WideBeat w → WideBeat w
renamed_wide r (wide.A x) = wide.A (renamed_wide_a r x)
renamed_wide r (wide.B x) = wide.B (renamed_wide_b r x)
renamed_wide r (wide.C x) = wide.C (renamed_wide_c r x)
renamed_wide r (wide.D x) = wide.D (renamed_wide_d r x)
renamed_wide r (wide.E x) = wide.E (record { sink = r.sink x.sink })

-- a wide beat of a link renamed
abbrev pub renamed_wide_on_link : {w : ℕ} → Renamings → Link × WideBeat w → Link × WideBeat w
renamed_wide_on_link r x = (x.0, renamed_wide (of_link r x.0.0) x.1)

-- a wide trace renamed
abbrev pub renamed_wide_trace : {w : ℕ} → Renamings → WideTrace w → WideTrace w
renamed_wide_trace r t = map (renamed_wide_on_link r) t

-- A renamed wide trace becomes the same narrow trace, at each width. 0 stays 0 among sources and sinks.
abbrev pub KeepsNarrowed : ℕ → Type 0
KeepsNarrowed w = (r : Renamings) (trace : WideTrace w) → AreFaithful no_liberties r
    → narrowed (renamed_wide_trace r trace) ≡ narrowed trace

-- a renamed wide trace has the same first fault, at the same place
abbrev pub KeepsWideFaults : ℕ → Type 0
KeepsWideFaults w = (l : Liberties) (r : Renamings) (levels : List Level) (trace : WideTrace w)
    → AreFaithful no_liberties r
    → first_wide_fault l levels (renamed_wide_trace r trace) ≡ first_wide_fault l levels trace
