-- That a run of one memory keeps M4, if no beat breaks a rule of its link and the access reads, or writes a byte of its
-- block with its last beat.
use Rattle.std.specs.Prelude.{ℕ, Bool, true, false, List, [], ◌∷◌, ◌≡◌, ◌+◌, ◌*◌, find, nat_le, None, Some, ⊤}
use Rattle.tl_beat.specs.declared.beat.Beat.{Beat}
use Rattle.tl_beat.specs.declared.beat.Beat.TheVariants as beat
use Rattle.tl_beat.specs.statement.Width.{IsWidth}
use Rattle.tl_burst.specs.statement.Burst.{data_beats}
use Rattle.tl_params.specs.declared.level.Level.{Level}
use Rattle.tl_rules.specs.statement.OpenMessages.{open_request}
use Rattle.tl_rules.specs.declared.past.Request.{Request}
use Rattle.tl_rules.specs.statement.Conformance.{Trace, on_link}
use Rattle.tl_rules.specs.statement.Effect.{Memory}
use Rattle.tl_rules.specs.statement.History.{block_at, is_release_ack}
use Rattle.tl_rules.specs.statement.Windows.{needs}
use Rattle.tl_bytes.specs.statement.Bytes.{Access, access_writes, is_access, is_of, pending_accesses}
use Rattle.tl_bytes.specs.statement.Early.{is_outrun_of, outrun_accesses}
use Rattle.tl_bytes.specs.statement.Shown.{had_window}
use Rattle.tl_memory.specs.statement.Links.{AreLegal}
use Rattle.tl_one_memory.specs.statement.Run.{IsRun, Run, place_in, returns, trace_in}

-- the byte at an address comes with the last beat of a Put
abbrev pub is_last : {w : ℕ} → ℕ → Access w → Bool
is_last {w} address access = nat_le (w * data_beats w access.request.size) (place_in access address + w)

-- The open request with this source is a pending access. If that reads, or writes a byte of its block with its last
-- beat, it has had a window by M4.
pub record HasHad {w : ℕ} (n c s : ℕ) (asked : Request) (t : Trace w) : Type 0 where
  pub access : Access w
  pub pending : find (is_of c s) (pending_accesses t) ≡ Some access
  pub reads : returns asked.opcode ≡ true → had_window n c s (needs asked.opcode) asked.block t ≡ true
  pub writes_last : (address : ℕ) → block_at address ≡ asked.block → access_writes address access ≡ true
      → is_last address access ≡ true → had_window n c s (needs asked.opcode) asked.block t ≡ true

-- so it is with a beat of the answer to an open request for an access, if that isn't denied and didn't come before the
-- request was complete
abbrev pub IsInWindow : {w : ℕ} → ℕ → ℕ → Beat w → Trace w → Type 0
IsInWindow n c (beat.D z) t =
    (asked : Request) → is_release_ack z.opcode ≡ false → z.denied ≡ false
    → find (is_outrun_of c z.source) (outrun_accesses t) ≡ None
    → open_request z.source (on_link c t) ≡ Some asked
    → is_access asked.opcode ≡ true → HasHad n c z.source asked t
IsInWindow n c _ t = ⊤

-- so it is of all beats in a trace
unfoldable pub AreInWindows : {w : ℕ} → ℕ → Trace w → Type 0
AreInWindows n [] = ⊤
AreInWindows n (y ∷ t) = IsInWindow n y.0.0 y.1 t × AreInWindows n t

-- Whatever memory was at first: if there is such a run beside the beats of all links, and no beat breaks a rule of its
-- link, each answer to an access that reads, or writes a byte of its block with its last beat, comes after a window by
-- M4.
abbrev pub AnswersInWindows : ℕ → Type 0
AnswersInWindows w = IsWidth w → (n : ℕ) (first : Memory) (levels : List Level) (run : Run w) → IsRun n first run
    → AreLegal levels (trace_in run) → AreInWindows n (trace_in run)
