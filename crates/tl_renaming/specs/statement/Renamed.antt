-- Maps of blocks, sources and sinks, applied to beats and traces.
use Rattle.std.specs.Prelude.{ℕ, ◌+◌, ◌*◌, ◌%◌, ◌≡◌, false, map}
use Rattle.tl_beat.specs.declared.beat.Beat.{Beat}
use Rattle.tl_beat.specs.declared.beat.Beat.TheVariants as beat
use Rattle.tl_beat.specs.declared.beat.BeatA.{BeatA}
use Rattle.tl_beat.specs.declared.beat.BeatB.{BeatB}
use Rattle.tl_beat.specs.declared.beat.BeatC.{BeatC}
use Rattle.tl_beat.specs.declared.beat.BeatD.{BeatD}
use Rattle.tl_beat.specs.declared.beat.BeatE.{BeatE}
use Rattle.tl_beat.specs.declared.beat.Link.{Link}
use Rattle.tl_burst.specs.statement.Messages.{History}
use Rattle.tl_params.specs.declared.liberties.Liberties.{Liberties}
use Rattle.tl_rules.specs.statement.Conformance.{Trace}
use Rattle.tl_rules.specs.statement.History.{block_at}

-- new numbers for the blocks, the sources and the sinks of a link
pub record Renaming : Type 0 where
  pub block : ℕ → ℕ
  pub source : ℕ → ℕ
  pub sink : ℕ → ℕ

-- no two numbers have the same image
abbrev pub IsOneToOne : (ℕ → ℕ) → Type 0
IsOneToOne f = (m n : ℕ) → f m ≡ f n → m ≡ n

-- a renaming of a link with these liberties keeps different numbers different, and 0 if L2 asks for it
pub record IsFaithful (l : Liberties) (r : Renaming) : Type 0 where
  pub blocks_apart : IsOneToOne r.block
  pub sources_apart : IsOneToOne r.source
  pub sinks_apart : IsOneToOne r.sink
  -- without `ids` a Probe and a ProbeAck have source 0
  pub zero_source : l.ids ≡ false → r.source 0 ≡ 0
  -- without `sinks` a response that grants nothing has sink 0
  pub zero_sink : l.sinks ≡ false → r.sink 0 ≡ 0

-- ---- beats

-- an address with its block renamed
abbrev pub renamed_address : Renaming → ℕ → ℕ
renamed_address r address = 64 * r.block (block_at address) + address % 64

-- a beat of channel A renamed
abbrev pub renamed_a : {w : ℕ} → Renaming → BeatA w → BeatA w
renamed_a r x = record x { source = r.source x.source; address = renamed_address r x.address }

-- a beat of channel B renamed
abbrev pub renamed_b : {w : ℕ} → Renaming → BeatB w → BeatB w
renamed_b r x = record x { source = r.source x.source; address = renamed_address r x.address }

-- a beat of channel C renamed
abbrev pub renamed_c : {w : ℕ} → Renaming → BeatC w → BeatC w
renamed_c r x = record x { source = r.source x.source; address = renamed_address r x.address }

-- a beat of channel D renamed
abbrev pub renamed_d : {w : ℕ} → Renaming → BeatD w → BeatD w
renamed_d r x = record x { source = r.source x.source; sink = r.sink x.sink }

-- a beat of channel E renamed
abbrev pub renamed_e : Renaming → BeatE → BeatE
renamed_e r x = record { sink = r.sink x.sink }

-- a beat of any channel renamed
abbrev pub renamed : {w : ℕ} → Renaming → Beat w → Beat w
renamed r (beat.A x) = beat.A (renamed_a r x)
renamed r (beat.B x) = beat.B (renamed_b r x)
renamed r (beat.C x) = beat.C (renamed_c r x)
renamed r (beat.D x) = beat.D (renamed_d r x)
renamed r (beat.E x) = beat.E (renamed_e r x)

-- ---- histories and traces

-- a history of a link renamed
abbrev pub renamed_history : {w : ℕ} → Renaming → History w → History w
renamed_history r t = map (renamed r) t

-- new numbers for the blocks and the sinks of all links, and for the sources of each link
pub record Renamings : Type 0 where
  pub block : ℕ → ℕ
  pub sources : ℕ → ℕ → ℕ
  pub sink : ℕ → ℕ

-- the renaming of one link
abbrev pub of_link : Renamings → ℕ → Renaming
of_link r n = record { block = r.block; source = r.sources n; sink = r.sink }

-- a beat of a link renamed
abbrev pub renamed_on_link : {w : ℕ} → Renamings → Link × Beat w → Link × Beat w
renamed_on_link r x = (x.0, renamed (of_link r x.0.0) x.1)

-- a trace renamed
abbrev pub renamed_trace : {w : ℕ} → Renamings → Trace w → Trace w
renamed_trace r t = map (renamed_on_link r) t

-- the renaming of each link is faithful
abbrev pub AreFaithful : Liberties → Renamings → Type 0
AreFaithful l r = (n : ℕ) → IsFaithful l (of_link r n)
