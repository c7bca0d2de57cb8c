-- A beat whose names got their numbers in place.
use Rattle.std.proofs.Common.{◌≡◌, ℕ, ◌<◌, ◌≤◌, ◌^◌, ◌∙◌, false}
use Rattle.std.specs.Prelude.{Option, Some, None, Ok}
use Rattle.tl_beat.specs.declared.beat.Beat.{Beat}
use Rattle.tl_beat.specs.declared.beat.Link.{Link}
use Rattle.tl_wide.proofs.Cut.{at}
use Rattle.tl_wide.proofs.Numbering.{numbered-none, numbered-some}
use Rattle.tl_wide.proofs.OnePart.{all-of-one, becomes-one}
use Rattle.tl_wide.specs.declared.beat.WideBeat.{WideBeat}
use Rattle.tl_wide.specs.declared.narrow.Narrower.{Narrower}
use Rattle.tl_wide.specs.declared.parts.Named.{Named}
use Rattle.tl_wide.specs.statement.Naming.{WideTrace}
use Rattle.tl_wide.specs.statement.Narrowing.{Follows, IsNumberedBeat}
use Rattle.tl_wide.specs.statement.Pieces.{mask_in, piece_of}
use Rattle.tl_wide.specs.statement.Width.{IsWideWidth, part_width}
use Rattle.tl_wide_lines.specs.code.WideJudging.{NarrowsToOne}

-- the answer to the names of a beat
abbrev pub Numbers : {w : ℕ} → Narrower → Narrower → Link → WideBeat w → Option Named → Type 0
Numbers {w} old new link x answer =
    (t : WideTrace w) → Follows old t → IsNumberedBeat {E = ℕ} link x t (Ok answer) new

pub narrows-none : {w : ℕ} (old new : Narrower) (link : Link) (x : WideBeat w) (answer : Option Named)
    → answer ≡ None → Numbers old new link x answer → NarrowsToOne old new link x None
narrows-none old new link x answer is numbers = λ t follows. numbered-none link x t answer new is (numbers t follows)

pub narrows-one : {w : ℕ} (old new : Narrower) (link : Link) (x : WideBeat w) (answer : Option Named) (n : Named)
    (b : Beat w) → IsWideWidth w → w ≤ 16 → mask_in x < 2 ^ w → answer ≡ Some n → Numbers old new link x answer
    → b ≡ piece_of x n false (mask_in x) 0 → NarrowsToOne old new link x (Some b)
narrows-one {w} old new link x answer n b width few small is numbers piece = (
  at n false 0,
  becomes-one {w = w} {p = w} x n b width few small piece,
  λ t follows.
      let h = numbered-some link x t answer n new is (numbers t follows) in
      (h.0, all-of-one {w = w} {p = part_width w} x n width few small ∙ h.1, h.2),
)
