-- How unfinished messages that may be answered early are kept, and the accesses whose answers outran their requests.
use Rattle.std.specs.Prelude.{ℕ, Bool, true, false, not, ◌∷◌, ◌==◌, ◌&&◌, ◌||◌, ◌-◌, ◌^◌, if◌then◌else◌, List, find}
use Rattle.std.specs.Prelude.{Option, Some, None}
use Rattle.tl_beat.specs.declared.beat.Beat.{Beat}
use Rattle.tl_beat.specs.declared.beat.Beat.TheVariants as beat
use Rattle.tl_beat.specs.declared.beat.BeatA.{BeatA}
use Rattle.tl_beat.specs.declared.beat.BeatC.{BeatC}
use Rattle.tl_beat.specs.declared.beat.BeatD.{BeatD}
use Rattle.tl_beat.specs.declared.opcode.OpD.{OpD}
use Rattle.tl_beat.specs.declared.opcode.OpD.TheVariants as d
use Rattle.tl_rules.specs.statement.History.{block_at, is_grant, is_release}
unfoldable use Rattle.tl_memory.specs.code.Writers.{picked}
use Rattle.tl_memory.specs.declared.early.Asking.{Asking}
use Rattle.tl_memory.specs.declared.early.Doubt.{Doubt}
use Rattle.tl_memory.specs.declared.early.Doubt.TheVariants as doubt
use Rattle.tl_memory.specs.declared.early.Granting.{Granting}
use Rattle.tl_memory.specs.declared.early.OutrunAccess.{OutrunAccess}
use Rattle.tl_memory.specs.declared.early.Releasing.{Releasing}

-- a mask with a bit for each byte of a message of this size
abbrev pub mask_of_size : ℕ → ℕ
mask_of_size size = 2 ^ (2 ^ size) - 1

-- it has this source on the link
abbrev pub is_outrun_of : ℕ → ℕ → OutrunAccess → Bool
is_outrun_of link source access = (access.link.0 == link) && (access.source == source)

-- the one of these with this source on the link
abbrev pub outrun_in : ℕ → ℕ → List OutrunAccess → Option OutrunAccess
outrun_in link source accesses = find (is_outrun_of link source) accesses

-- the others
abbrev pub outrun_but : ℕ → ℕ → List OutrunAccess → List OutrunAccess
outrun_but link source accesses = picked (λ access. not (is_outrun_of link source access)) (λ access. access) accesses

-- ---- the unfinished messages with one more beat

-- the request, by the newest beats of channel A that are unfinished
abbrev pub asking_of : {w : ℕ} → List (Beat w) → Option Asking
asking_of (beat.A x ∷ older) = Some (record { source = x.source; address = x.address; size = x.size })
asking_of _ = None

abbrev pub asking_after : {w : ℕ} → BeatA w → Bool → Option Asking
asking_after x completes =
    if completes then None else Some (record { source = x.source; address = x.address; size = x.size })

-- the Release that goes on, or the one that begins with this beat
abbrev pub releasing_or : {w : ℕ} → Option Releasing → BeatC w → Option Releasing
releasing_or None x = Some (record { source = x.source; block = block_at x.address; answered = false })
releasing_or (Some releasing) x = Some releasing

abbrev pub releasing_after : {w : ℕ} → Option Releasing → BeatC w → Bool → Option Releasing
releasing_after before x completes =
    if completes || not (is_release x.opcode) then None else releasing_or before x

abbrev pub released : Option Releasing → ℕ → Option Releasing
released None source = None
released (Some releasing) source =
    if releasing.source == source
    then Some (record { source = releasing.source; block = releasing.block; answered = true })
    else Some releasing

-- a Grant of this block, if there is one, whose GrantAck hasn't come
abbrev pub granting_new : {w : ℕ} → BeatD w → Option ℕ → Option Granting
granting_new x None = None
granting_new x (Some block) = Some (record { sink = x.sink; block = block; doubt = doubt.Unacknowledged })

abbrev pub granting_or : {w : ℕ} → Option Granting → BeatD w → Option ℕ → Option Granting
granting_or None x block = granting_new x block
granting_or (Some granting) x block = Some granting

abbrev pub granting_after : {w : ℕ} → Option Granting → BeatD w → Option ℕ → Bool → Option Granting
granting_after before x block completes =
    if completes || not (is_grant x.opcode) then None else granting_or before x block

abbrev pub acknowledged : Option Granting → ℕ → Option Granting
acknowledged None sink = None
acknowledged (Some granting) sink =
    if granting.sink == sink
    then Some (record { sink = granting.sink; block = granting.block; doubt = doubt.Acknowledged })
    else Some granting

-- its GrantAck came, and no report since
abbrev pub is_acknowledged : Doubt → Bool
is_acknowledged doubt.Acknowledged = true
is_acknowledged _ = false

abbrev pub overtaken : Option Granting → ℕ → Option Granting
overtaken None block = None
overtaken (Some granting) block =
    if (granting.block == block) && is_acknowledged granting.doubt
    then Some (record { sink = granting.sink; block = granting.block; doubt = doubt.Overtaken })
    else Some granting

-- ---- questions

abbrev pub asks_with : Option Asking → ℕ → Option Asking
asks_with None source = None
asks_with (Some asking) source = if asking.source == source then Some asking else None

abbrev pub releases_with : Option Releasing → ℕ → Option ℕ
releases_with None source = None
releases_with (Some releasing) source = if releasing.source == source then Some releasing.block else None

abbrev pub is_answered : Option Releasing → Bool
is_answered None = false
is_answered (Some releasing) = releasing.answered

abbrev pub grants_with : Option Granting → ℕ → Option ℕ
grants_with None sink = None
grants_with (Some granting) sink = if granting.sink == sink then Some granting.block else None

-- the later beats of the Grant are in doubt
abbrev pub is_doubtful : Doubt → Bool
is_doubtful doubt.Overtaken = true
is_doubtful _ = false

-- its GrantAck hasn't come
abbrev pub is_unacknowledged : Doubt → Bool
is_unacknowledged doubt.Unacknowledged = true
is_unacknowledged _ = false

-- those of this Grant, if there is one
abbrev pub is_in_doubt : Option Granting → Bool
is_in_doubt None = false
is_in_doubt (Some granting) = is_doubtful granting.doubt

-- so are those of a response with this opcode
abbrev pub is_doubted : OpD → Option Granting → Bool
is_doubted d.GrantData granting = is_in_doubt granting
is_doubted _ granting = false
