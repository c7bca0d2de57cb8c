-- When blocks could last be accessed, and requests were complete, counted in beats, and the tables of it.
use Rattle.std.specs.Prelude.{ℕ, suc, Bool, true, false, [], ◌∷◌, ◌&&◌, ◌≡◌, ◌<◌, if◌then◌else◌, List}
use Rattle.std.specs.Prelude.{length, Option, Some, None, is_some, slice_index_or, ⊤}
use Rattle.tl_params.specs.declared.perm.Perm.{Perm}
use Rattle.tl_params.specs.declared.perm.Perm.TheVariants as perm
use Rattle.tl_rules.specs.statement.OpenMessages.{open_request}
use Rattle.tl_rules.specs.statement.Conformance.{Trace, on_link}
use Rattle.tl_beat.specs.declared.beat.Beat.{Beat}
use Rattle.tl_beat.specs.declared.beat.Link.{Link}
use Rattle.tl_params.specs.declared.level.Level.{Level}
use Rattle.tl_params.specs.declared.liberties.Liberties.{Liberties}
use Rattle.tl_monitor.specs.declared.monitor.Monitor.{Monitor}
use Rattle.tl_memory.specs.statement.BlockMap.{value_in}
use Rattle.tl_memory.specs.statement.Links.{KeepsRules}
use Rattle.tl_together.specs.code.Following.{Follows}
use Rattle.tl_monitor.specs.code.LinkState.{is_block}
use Rattle.tl_burst.specs.statement.Messages.{History}
use Rattle.tl_rules.specs.statement.History.{ends}
use Rattle.tl_monitor.specs.statement.Count.{at}
use Rattle.tl_monitor.specs.declared.fault.MonitorFault.{MonitorFault}
use Rattle.tl_monitor.specs.declared.fault.MonitorFault.TheVariants as monitor
use Rattle.tl_together.specs.declared.breach.Breach.TheVariants.{OfLink}
use Rattle.tl_together.specs.declared.fault.JudgeFault.{JudgeFault}
use Rattle.tl_together.specs.declared.fault.JudgeFault.TheVariants as judge
use Rattle.tl_memory.specs.declared.free.Freedom.{Freedom}
use Rattle.tl_together.specs.declared.windows.Window.{Window}
use Rattle.tl_bytes.specs.statement.Free.{is_free, may_hold}
use Rattle.tl_bytes.specs.statement.Shown.{is_window, shows}
use Rattle.tl_together.specs.statement.Asked.{asked_at}

-- how many beats had been taken when one could last access the block who needs so much of it
unfoldable pub window_at : {w : ℕ} → ℕ → Perm → ℕ → Trace w → ℕ
window_at n given block [] = 0
window_at n given block (x ∷ t) = if is_window n given block x t then suc (length t) else window_at n given block t

-- ---- the tables

-- when the request with this source was complete
abbrev pub asked_in : List (List (Option ℕ)) → ℕ → ℕ → Option ℕ
asked_in tables link source = at (slice_index_or tables link []) source

-- the last moments of blocks, as a map of blocks keeps them
abbrev pub Moments : Type 0
Moments = List (List (ℕ × Window))

-- something is noted of the block
abbrev pub is_noted : Moments → ℕ → Bool
is_noted entries block = is_some (value_in entries block)

abbrev pub window_or_none : Option Window → Window
window_or_none None = record { reading = 0; writing = 0 }
window_or_none (Some window) = window

abbrev pub window_in : Moments → ℕ → Window
window_in entries block = window_or_none (value_in entries block)

-- the last moments of a block with this one, for which it is free now
abbrev pub latest_window : Freedom → ℕ → Window → Window
latest_window free moment before = record {
  reading = if free.reading then moment else before.reading;
  writing = if free.writing then moment else before.writing;
}

-- the last moments of a block whose bytes are shown at this one
abbrev pub shown_window : ℕ → Window → Window
shown_window moment before = record { reading = moment; writing = before.writing }

-- the last of these moments for one who needs so much
abbrev pub last_in : Perm → Window → ℕ
last_in perm.Trunk window = window.writing
last_in _ window = window.reading

-- of each request that is pending and complete on one of n links the table has the moment
abbrev pub KnowsAsked : {w : ℕ} → List (List (Option ℕ)) → ℕ → Trace w → Type 0
KnowsAsked tables n t = (link source : ℕ) → link < n → is_some (open_request source (on_link link t)) ≡ true
    → asked_in tables link source ≡ Some (asked_at link source t)

-- of each block that isn't free the table has the last moment at which one could access it
abbrev pub KnowsWindows : {w : ℕ} → Moments → ℕ → Trace w → Type 0
KnowsWindows entries n t = (given : Perm) (block : ℕ) → is_free n given block t ≡ false
    → last_in given (window_in entries block) ≡ window_at n given block t

-- what a monitor's refusal is
abbrev pub fault_of_monitor : MonitorFault → JudgeFault
fault_of_monitor monitor.Levels = judge.Levels
fault_of_monitor (monitor.Broken rule) = judge.Broken (OfLink rule)
fault_of_monitor monitor.Memory = judge.Memory
fault_of_monitor monitor.Closed = judge.Closed

-- The table knows what it knew of the trace, if a beat was noted, and what there is to know of the
-- trace with the beat, if that breaks no rule of its link.
abbrev pub NotesRequest : {w : ℕ} → Monitor w → List (List (Option ℕ)) → List (List (Option ℕ)) → Link → Beat w → ℕ
    → Type 0
NotesRequest {w} m old new link x next = (length new ≡ length old)
    × ((levels : List Level) (l : Liberties) (t : Trace w) → Follows m levels l t → length old ≡ length levels
    → KnowsAsked old (length levels) t
    → KnowsAsked new (length levels) t
    × (next ≡ suc (length t) → KeepsRules l levels (link, x) t
    → KnowsAsked new (length levels) ((link, x) ∷ t)))

-- the table with the moment of a beat, if that shows the bytes of a block
abbrev pub IsShown : {w : ℕ} → ℕ → Beat w → History w → Moments → Moments → Type 0
IsShown moment x past old new = (block : ℕ) → window_in new block
    ≡ (if shows block x past then shown_window moment (window_in old block) else window_in old block)

-- of each block but this one its link may hold as much with the beat as before it
abbrev pub LeavesOthers : {w : ℕ} → Option ℕ → Beat w → History w → Type 0
LeavesOthers block x t = (b : ℕ) → is_block b block ≡ false → may_hold b (x ∷ t) ≡ may_hold b t

-- the block is free for these
abbrev pub IsFreeFor : {w : ℕ} → Freedom → ℕ → ℕ → Trace w → Type 0
IsFreeFor free n block t =
    (free.reading ≡ is_free n perm.Branch block t) × (free.writing ≡ is_free n perm.Trunk block t)

-- If it is noted for whom this block is free, the link holds nothing of it, and the note is right.
abbrev pub IsLeft : {w : ℕ} → Option Freedom → Option ℕ → ℕ → ℕ → Trace w → Type 0
IsLeft None held link n t = ⊤
IsLeft (Some free) held link n t = (block : ℕ) → held ≡ Some block
    → (may_hold block (on_link link t) ≡ perm.None) × IsFreeFor free n block t

-- for these this block is free, if there is one
abbrev pub IsSaid : {w : ℕ} → Option ℕ → Freedom → ℕ → Trace w → Type 0
IsSaid held free n t = (block : ℕ) → held ≡ Some block → IsFreeFor free n block t

-- The same of the table of windows, with a beat that changes what is held of no other block; before it a block was free
-- for these, if there is one.
abbrev pub NotesWindow : {w : ℕ} → Monitor w → ℕ → ℕ → Option ℕ → Freedom → Option ℕ → Moments
    → Moments → Type 0
NotesWindow {w} m links moment said free held old new =
    (levels : List Level) (l : Liberties) (t : Trace w) → Follows m levels l t → links ≡ length levels
    → moment ≡ length t → IsSaid said free (length levels) t → KnowsWindows old (length levels) t
    → KnowsWindows new (length levels) t
    × ((link : Link) (x : Beat w) (shown : Moments) → LeavesOthers held x (on_link link.0 t)
    → IsShown (suc (length t)) x (on_link link.0 t) new shown → KnowsWindows shown (length levels) ((link, x) ∷ t))

-- something is noted of this block, if there is one
abbrev pub HasNoted : Option ℕ → Moments → Type 0
HasNoted held entries = (block : ℕ) → is_block block held ≡ true → is_noted entries block ≡ true

-- the beat shows the bytes of this block, if there is one, if its message is complete
abbrev pub MayShow : {w : ℕ} → Option ℕ → Beat w → History w → Type 0
MayShow shown x past = (block : ℕ) → shows block x past ≡ (ends x past && is_block block shown)

-- the moment of a beat that was taken is noted, if that shows the bytes of a block of which something is noted
abbrev pub NotesShown : {w : ℕ} → Monitor w → Option ℕ → Link → Beat w → ℕ → Moments → Moments
    → Type 0
NotesShown {w} m shown link x moment old new =
    (levels : List Level) (l : Liberties) (t : Trace w) → Follows m levels l ((link, x) ∷ t)
    → link.0 < length levels → MayShow shown x (on_link link.0 t)
    → HasNoted shown old → IsShown moment x (on_link link.0 t) old new
