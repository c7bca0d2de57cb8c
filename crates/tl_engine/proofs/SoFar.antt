-- The text before the end of the input, under each command.
use Rattle.std.proofs.Common.{◌≡◌, ℕ, ◌-◌, List, [], length, refl, arith, inl, inr}
use Rattle.std.proofs.lemmas.List.{append-nil}
use Rattle.tl_command.specs.declared.command.Command.TheVariants.{Decode, Run}
use Rattle.tl_params.specs.declared.width.Width.{Width}
use Rattle.std.specs.Prelude.{Bool, ◌⊎◌, ◌++◌}
use Rattle.tl_lines.specs.declared.beat_judge.BeatJudge.{BeatJudge}
use Rattle.tl_lines.specs.declared.monitor_lines.MonitorLines.{MonitorLines}
use Rattle.tl_lines.specs.declared.monitor_lines.MonitorLines.TheVariants as watching
use Rattle.tl_engine.specs.declared.play.Player.{Player}
use Rattle.tl_engine.specs.declared.run_lines.RunLines.{RunLines}
use Rattle.tl_engine.specs.declared.run_lines.RunLines.TheVariants as playing
use Rattle.tl_lines.specs.declared.status.Status.TheVariants.{Clean}
use Rattle.tl_engine.specs.code.Playing.{KnowsPlay, KnowsSchedule, form_of}
use Rattle.tl_lines.specs.code.Watching.{KnowsLines, KnowsTrace, is_together}
use Rattle.tl_lines.specs.statement.JudgedSo.{JudgedSo, said_by}
use Rattle.tl_lines.specs.statement.Decoded.{Decodes, DecodesBefore}
use Rattle.tl_lines.specs.statement.Judged.{JudgedAfter}
use Rattle.tl_engine.specs.statement.Played.{PlayedAfter}
use Rattle.tl_engine.specs.statement.Told.{text_so_far}
use Rattle.tl_lines.specs.statement.Width.{bytes_of}

pub decoded_so_far : (width : Width) (lines : List (List ℕ)) (text : List ℕ) → DecodesBefore (bytes_of width) lines text
    → text_so_far (Decode width) lines text
unfolding Decodes
decoded_so_far width lines text before = inr (rw (append-nil lines) at (before [] [] Clean (refl, refl)))

-- these lines are judged so far, before what is said of their number at the end
abbrev SoFar : Bool → List (List ℕ) → List ℕ → Type 0
SoFar together lines text =
    ((lines ≡ []) × (text ≡ []))
    ⊎ JudgedSo together lines (text ++ said_by together (length lines - 1)) Clean

watched_so_far : {w : ℕ} (n : ℕ) (judge : BeatJudge w) (lines : List (List ℕ)) (text : List ℕ)
    → KnowsTrace (is_together n) judge lines text → SoFar (is_together n) lines text
unfolding JudgedAfter
watched_so_far n judge lines text k =
    let beats : length lines - 1 ≡ length k.trace = omega (arith, k.counted) in
    inr (rw beats (rw (append-nil lines) at
    (k.before [] (said_by (is_together n) (length k.trace)) Clean (refl, refl))))

pub judged_so_far : (n : ℕ) (h : MonitorLines n) (lines : List (List ℕ)) (text : List ℕ) → KnowsLines h lines text
    → SoFar (is_together n) lines text
judged_so_far n (watching.Waiting alloc) lines text known = inl known
judged_so_far n (watching.Four judge) lines text known = watched_so_far n judge lines text known
judged_so_far n (watching.Eight judge) lines text known = watched_so_far n judge lines text known
judged_so_far n (watching.Sixteen judge) lines text known = watched_so_far n judge lines text known

player_so_far : {w : ℕ} (n : ℕ) (player : Player w) (lines : List (List ℕ)) (text : List ℕ)
    → KnowsPlay (form_of n) player lines text
    → text_so_far (Run (form_of n)) lines text
unfolding PlayedAfter
player_so_far n player lines text k = inr (rw (append-nil lines) at (k.before [] [] Clean (refl, refl)))

pub played_so_far : (n : ℕ) (h : RunLines n) (lines : List (List ℕ)) (text : List ℕ) → KnowsSchedule h lines text
    → text_so_far (Run (form_of n)) lines text
played_so_far n (playing.Waiting alloc) lines text known = inl known
played_so_far n (playing.Four player) lines text known = player_so_far n player lines text known
played_so_far n (playing.Eight player) lines text known = player_so_far n player lines text known
played_so_far n (playing.Sixteen player) lines text known = player_so_far n player lines text known
