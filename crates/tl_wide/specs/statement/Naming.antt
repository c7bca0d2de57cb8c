-- The numbers of the blocks, sources and sinks of a wide trace, by their first appearance.
use Rattle.std.specs.Prelude.{ℕ, suc, Bool, ◌==◌, ◌||◌, ◌+◌, ◌*◌, ◌%◌, ◌^◌, if◌then◌else◌, List, [], ◌∷◌}
use Rattle.std.specs.Prelude.{◌++◌, length, nat_lt, Option, Some, None}
use Rattle.tl_beat.specs.declared.beat.Link.{Link}
use Rattle.tl_rules.specs.statement.History.{block_at}
use Rattle.tl_rules.specs.statement.Legality.{is_one_of}
use Rattle.tl_wide.specs.declared.beat.WideBeat.{WideBeat}
use Rattle.tl_wide.specs.declared.beat.WideBeat.TheVariants as wide

-- a recorded trace: wide beats with their links
abbrev pub WideTrace : ℕ → Type 0
WideTrace w = List (Link × WideBeat w)

-- ---- the names in a beat

-- the block of a beat; one of channel D or E has none
abbrev pub block_named : {w : ℕ} → Link × WideBeat w → Option ℕ
block_named (link, wide.A x) = Some (block_at x.address)
block_named (link, wide.B x) = Some (block_at x.address)
block_named (link, wide.C x) = Some (block_at x.address)
block_named (link, _) = None

-- the source of a beat; one of channel E has none
abbrev pub source_of : {w : ℕ} → WideBeat w → Option ℕ
source_of (wide.A x) = Some x.source
source_of (wide.B x) = Some x.source
source_of (wide.C x) = Some x.source
source_of (wide.D x) = Some x.source
source_of (wide.E x) = None

-- the source of a beat of this link
abbrev pub source_named : {w : ℕ} → ℕ → Link × WideBeat w → Option ℕ
source_named link x = if x.0.0 == link then source_of x.1 else None

-- the sink of a beat of channel D or E
abbrev pub sink_named : {w : ℕ} → Link × WideBeat w → Option ℕ
sink_named (link, wide.D x) = Some x.sink
sink_named (link, wide.E x) = Some x.sink
sink_named (link, _) = None

-- ---- the names in a trace

-- these names with one more, if there is one and it isn't among them
abbrev pub with_number : Option ℕ → List ℕ → List ℕ
with_number None numbers = numbers
with_number (Some n) numbers = if is_one_of n numbers then numbers else numbers ++ n ∷ []

-- these names, then those of the beats, each once, in the order of their first appearance; the newest beat is first in
-- the trace
unfoldable pub named : {w : ℕ} → (Link × WideBeat w → Option ℕ) → List ℕ → WideTrace w → List ℕ
named of first [] = first
named of first (x ∷ t) = with_number (of x) (named of first t)

-- the blocks of a trace
abbrev pub blocks : {w : ℕ} → WideTrace w → List ℕ
blocks t = named block_named [] t

-- The sources of a link, and the sinks of the manager, which all links share. 0 is the first of each, since L2 asks for
-- it.
abbrev pub sources : {w : ℕ} → ℕ → WideTrace w → List ℕ
sources link t = named (source_named link) (0 ∷ []) t

-- the sinks of a trace, after 0
abbrev pub sinks : {w : ℕ} → WideTrace w → List ℕ
sinks t = named sink_named (0 ∷ []) t

-- ---- their numbers

-- the place of a name in a list, counted from 0
unfoldable pub place_in : List ℕ → ℕ → ℕ
place_in [] n = 0
place_in (m ∷ numbers) n = if n == m then 0 else suc (place_in numbers n)

-- the address in the block of this number
abbrev pub in_block : ℕ → ℕ → ℕ
in_block block address = 64 * block + address % 64

-- an address with its block's number in the place of the block
abbrev pub narrow_address : {w : ℕ} → WideTrace w → ℕ → ℕ
narrow_address t address = in_block (place_in (blocks t) (block_at address)) address

-- ---- limits

-- the newest beat of the trace names a block, a source or a sink for which no number is left
abbrev pub is_beyond : {w : ℕ} → Link → WideTrace w → Bool
is_beyond link t =
    nat_lt (2 ^ 26) (length (blocks t)) || (nat_lt 256 (length (sources link.0 t)) || nat_lt 256 (length (sinks t)))
