-- What a gatherer has of a trace.
use Rattle.std.specs.Prelude.{ℕ, Bool, List, [], ◌≡◌, ◌<◌, ◌≤◌, ◌==◌, ◌&&◌, if◌then◌else◌, length, slice_index_or, Option}
use Rattle.std.specs.Prelude.{◌∷◌, ◌++◌, None, false, filter, is_none, nat_lt, not}
use Rattle.tl_beat.specs.declared.beat.Beat.{Beat}
use Rattle.tl_beat.specs.declared.beat.Beat.TheVariants as beat
use Rattle.tl_beat.specs.declared.beat.Link.{Link}
use Rattle.tl_burst.specs.statement.Messages.{History}
use Rattle.tl_chart.specs.declared.blocks.LinkBlocks.{LinkBlocks}
use Rattle.tl_chart.specs.declared.gatherer.Gatherer.{Gatherer}
use Rattle.tl_chart.specs.declared.mark.Mark.{Mark}
use Rattle.tl_chart.specs.statement.Drawn.{Drawn, Holding, drawn}
use Rattle.tl_chart.specs.statement.Messages.{block_granted}
use Rattle.tl_explain.specs.code.Recorded.{AreBlocks}
use Rattle.tl_monitor.specs.statement.Count.{at}
use Rattle.tl_params.specs.declared.perm.Perm.{Perm}
use Rattle.tl_rules.specs.statement.Conformance.{Trace, on_link}
use Rattle.tl_rules.specs.statement.History.{is_grant}

-- the blocks of the last messages of a link with each source or sink
pub record KnowsBlocks {w : ℕ} (b : LinkBlocks) (t : History w) : Type 0 where
  pub blocks_are : AreBlocks b.blocks t
  pub granted_are : (s : ℕ) → at b.granted s ≡ block_granted s t

-- the block of the last Grant with a sink, with one more beat, whose message is of this block
abbrev pub granted_next : {w : ℕ} → Bool → Beat w → Option ℕ → ℕ → Option ℕ → Option ℕ
granted_next first (beat.D x) block s before = if first && (is_grant x.opcode && (x.sink == s)) then block else before
granted_next first _ block s before = before

-- the blocks of each link are known
abbrev pub KnowLinks : {w : ℕ} → List LinkBlocks → Trace w → Type 0
KnowLinks links t = (n : ℕ) (d : LinkBlocks) → n < length links → KnowsBlocks (slice_index_or links n d) (on_link n t)

-- no other link has carried a beat
abbrev pub CarryAll : {w : ℕ} → List LinkBlocks → Trace w → Type 0
CarryAll links t = (n : ℕ) → length links ≤ n → on_link n t ≡ []

-- what has been gathered
abbrev pub drawn_of : Gatherer → Drawn
drawn_of g = record {
  arrows = g.arrows.items;
  marks = g.marks.items;
  more = g.more;
  end = g.end;
  closed = g.closed;
}

-- what is marked, and that a link holds so much from this line on: before the window only the last of each link
abbrev pub marked : ℕ → Link → ℕ → Perm → List Mark → List Mark
marked first link line held marks =
    (if nat_lt line first then filter (λ m. not (m.link.0 == link.0)) marks else marks)
    ++ record { link = link; line = line; held = held } ∷ []

-- nothing is drawn any more, and each message that begins is counted, whatever its block
abbrev pub is_over : Gatherer → Bool
is_over g = g.closed && is_none g.window.block

-- the block of which it is drawn what is held; none if nothing is drawn any more
abbrev pub watched : Gatherer → Option ℕ
watched g = if g.closed then None else g.window.block

-- All that is drawn of the trace, with these permissions of its links, has been gathered. The blocks of its messages
-- are known as long as they bear on that.
pub record Gathers {w : ℕ} (held : Holding w) (g : Gatherer) (t : Trace w) : Type 0 where
  pub drawn_is : drawn_of g ≡ drawn held g.window t
  pub links_are : is_over g ≡ false → KnowLinks g.links.items t
  pub carry_all : is_over g ≡ false → CarryAll g.links.items t
