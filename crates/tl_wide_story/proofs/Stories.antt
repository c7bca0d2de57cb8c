-- A story knows what its replay knows.
use Rattle.std.proofs.Common.{◌≡◌, ℕ, List}
use Rattle.std.specs.Prelude.{Option, Some, None, ⊤}
use Rattle.tl_lines.specs.code.Judging.{Judges}
use Rattle.tl_lines.specs.declared.fault.Fault.{Fault}
use Rattle.tl_lines.specs.declared.status.Status.{Status}
use Rattle.tl_wide_story.specs.code.WideReplaying.{KnowsReplay}
use Rattle.tl_wide_story.specs.declared.replay.WideReplay.{WideReplay}
use Rattle.tl_wide_story.specs.declared.story.WideStory.{WideStory}

-- it answers a line as its replay does
pub as_replayed : {w p : ℕ} (old new : WideStory w p) (replay : WideReplay w) (line was is : List ℕ)
    (answer : Option Fault) → replay ≡ new.replay
    → Judges (λ (r : WideReplay w) lines (text : List ℕ). KnowsReplay r lines)
    (λ (lines : List (List ℕ)) (text : List ℕ) (status : Status). ⊤) old.replay replay line was is answer
    → Judges (λ (s : WideStory w p) lines (text : List ℕ). KnowsReplay s.replay lines)
    (λ (lines : List (List ℕ)) (text : List ℕ) (status : Status). ⊤) old new line was is answer
as_replayed old new replay line was is None same judges = λ lines before known. rw same at (judges lines before known)
as_replayed old new replay line was is (Some fault) same judges = judges
