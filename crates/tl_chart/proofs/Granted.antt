-- The blocks of a link, with one more beat.
use Rattle.std.proofs.Common.{◌≡◌, ℕ, Bool, true, false, [], ◌∷◌, refl, sym, ◌∙◌}
use Rattle.std.specs.Prelude.{if◌then◌else◌, Option, None}
use Rattle.tl_beat.specs.declared.beat.Beat.{Beat}
use Rattle.tl_beat.specs.declared.beat.BeatD.{BeatD}
use Rattle.tl_beat.specs.declared.beat.BeatE.{BeatE}
use Rattle.tl_beat.specs.declared.beat.Beat.TheVariants as beat
use Rattle.tl_burst.specs.statement.Messages.{History}
use Rattle.tl_chart.specs.code.Gathered.{KnowsBlocks, granted_next}
use Rattle.tl_chart.specs.declared.blocks.LinkBlocks.{LinkBlocks}
use Rattle.tl_chart.specs.statement.Messages.{block_granted, message_block}
use Rattle.tl_explain.proofs.follows.Links.{blocks_taken}
use Rattle.tl_explain.specs.code.Recorded.{asked_next, block_asked, block_released, released_next}
use Rattle.tl_monitor.specs.statement.Count.{at}
use Rattle.tl_rules.specs.statement.History.{begins, is_release_ack, release_of, request_of}

pub granted_none : (w s : ℕ) → block_granted {w = w} s [] ≡ None
unfolding block_granted
granted_none w s = refl

-- an answer to nothing has no block
pub first_answer : (w : ℕ) (x : BeatD w) → None ≡ message_block {w = w} (beat.D x) []
unfolding release_of request_of
first_answer w x = go (is_release_ack x.opcode)
  where
    go : (b : Bool) → None ≡ (if b then block_released {w = w} (release_of x.source []) else block_asked
        {w = w} (request_of x.source []))
    go true = refl
    go false = refl

pub first_ack : (w : ℕ) (x : BeatE) → None ≡ message_block {w = w} (beat.E x) []
first_ack w x = sym (granted_none w x.sink)

granted_step : {w : ℕ} (y : Beat w) (h : History w) (s : ℕ)
    → granted_next (begins y h) y (message_block y h) s (block_granted s h) ≡ block_granted s (y ∷ h)
unfolding block_granted
granted_step (beat.A x) h s = refl
granted_step (beat.B x) h s = refl
granted_step (beat.C x) h s = refl
granted_step (beat.D x) h s = refl
granted_step (beat.E x) h s = refl

pub granted_taken : {w : ℕ} (b c : LinkBlocks) (y : Beat w) (h : History w) (first : Bool) (block : Option ℕ)
    → first ≡ begins y h → (KnowsBlocks b h → block ≡ message_block y h)
    → ((s : ℕ) → at c.granted s ≡ granted_next first y block s (at b.granted s))
    → ((s : ℕ) → at c.blocks.asked s ≡ asked_next first y s (at b.blocks.asked s))
    → ((s : ℕ) → at c.blocks.released s ≡ released_next first y s (at b.blocks.released s))
    → KnowsBlocks b h → KnowsBlocks c (y ∷ h)
granted_taken b c y h first block is of granted asked released knows = record {
  blocks_are = blocks_taken b.blocks c.blocks y h first is asked released knows.blocks_are;
  granted_are = λ s. granted s ∙ rw (is, of knows, knows.granted_are s) (granted_step y h s);
}
