-- That an access which one memory performs is answered after windows.
use Rattle.std.specs.Prelude.{ℕ, Bool, true, false, not, [], ◌∷◌, ◌≡◌, ◌==◌}
use Rattle.std.specs.Prelude.{◌&&◌, ◌||◌, ◌/◌, find, length, nat_le, Some, ⊤}
use Rattle.tl_beat.specs.declared.beat.Beat.{Beat}
use Rattle.tl_beat.specs.declared.beat.Beat.TheVariants as beat
use Rattle.tl_beat.specs.declared.beat.Link.{Link}
use Rattle.tl_beat.specs.declared.channel.Channel.TheVariants as channel
use Rattle.tl_burst.specs.statement.Burst.{reaches}
use Rattle.tl_burst.specs.statement.Messages.{unfinished}
use Rattle.tl_params.specs.declared.perm.Perm.{Perm}
use Rattle.tl_rules.specs.statement.Conformance.{Trace, on_link}
use Rattle.tl_rules.specs.statement.Effect.{Memory}
use Rattle.tl_rules.specs.statement.History.{block_at, is_release_ack}
use Rattle.tl_rules.specs.statement.Windows.{needs}
use Rattle.tl_bytes.specs.statement.Bytes.{Access, access_writes, asks_new, is_of, pending_accesses}
use Rattle.tl_bytes.specs.statement.Early.{outrun_accesses, outruns}
use Rattle.tl_bytes.specs.statement.Shown.{is_window}
use Rattle.tl_one_memory.specs.statement.Run.{IsRun, Run, has_come, place_in, returns, trace_in}

-- the beat asks for the byte at an address, for the access with this source of a link: with the last beat of its
-- request, and of a Put with the one that brings the byte, or an earlier one; not if its answer came before
abbrev pub asks_now : {w : ℕ} → ℕ → ℕ → ℕ → Link × Beat w → Trace w → Bool
asks_now c s address (link, beat.A x) t =
    (link.0 == c) && ((x.source == s) && (asks_new link.0 x (on_link link.0 t) (outrun_accesses t)
    && not (has_come x (unfinished channel.A (on_link link.0 t)) address)))
asks_now c s address x t = false

-- since the last such beat there has been a moment at which one may have the block who needs so much of it
unfoldable pub had_window_since : {w : ℕ} → ℕ → ℕ → ℕ → Perm → ℕ → Trace w → Bool
had_window_since n c s given address [] = false
had_window_since n c s given address (x ∷ t) =
    is_window n given (block_at address) x t
    || (not (asks_now c s address x t) && had_window_since n c s given address t)

-- the access reads the byte at an address, and is answered with it
abbrev pub reads_at : {w : ℕ} → ℕ → Access w → Bool
reads_at address access = returns access.request.opcode && reaches access.request.address access.request.size address

-- with a beat of its answer, before which that had k, the access has written the byte at an address, or brings it, or
-- has brought it
abbrev pub has_touched : {w : ℕ} → ℕ → ℕ → Access w → Bool
has_touched {w} k address access =
    (reads_at address access && nat_le (place_in access address / w) k) || access_writes address access

-- a beat of an answer to a pending access, if it isn't denied and the request is complete, comes after a window of each
-- byte that the access has touched with it
abbrev pub IsAfterWindows : {w : ℕ} → ℕ → ℕ → Beat w → Trace w → Type 0
IsAfterWindows {w} n c (beat.D z) t =
    (access : Access w) → is_release_ack z.opcode ≡ false → z.denied ≡ false → outruns z (on_link c t) ≡ false
    → find (is_of c z.source) (pending_accesses t) ≡ Some access → (address : ℕ)
    → has_touched (length (unfinished channel.D (on_link c t))) address access ≡ true
    → had_window_since n c z.source (needs access.request.opcode) address t ≡ true
IsAfterWindows n c _ t = ⊤

-- so it is of all beats in a trace
unfoldable pub AreAfterWindows : {w : ℕ} → ℕ → Trace w → Type 0
AreAfterWindows n [] = ⊤
AreAfterWindows n (y ∷ t) = IsAfterWindows n y.0.0 y.1 t × AreAfterWindows n t

-- Whatever memory was at first: if there is such a run beside the beats of all links, no access whose request is
-- complete is answered before each byte that it has touched by then has had a window.
abbrev pub AnswersAfterWindows : ℕ → Type 0
AnswersAfterWindows w = (n : ℕ) (first : Memory) (run : Run w) → IsRun n first run → AreAfterWindows n (trace_in run)
