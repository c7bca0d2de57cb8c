-- What a judge of lines of narrow beats has taken.
use Rattle.std.specs.Prelude.{ℕ, true, List}
use Rattle.tl_beat.specs.declared.beat.Beat.{Beat}
use Rattle.tl_beat.specs.declared.beat.Link.{Link}
use Rattle.tl_lines.specs.code.TraceJudging.{KnowsBeats}
use Rattle.tl_report.specs.code.LineJudging.{Ways}
use Rattle.tl_report.specs.declared.narrow.NarrowLineJudge.{NarrowLineJudge}
use Rattle.tl_report.specs.statement.Form.{Terms, narrow}

-- under these terms it has taken these beats
abbrev pub KnowsNarrow : (w : ℕ) → NarrowLineJudge w → Terms → List (Link × Beat w) → Type 0
KnowsNarrow w judge terms t = KnowsBeats terms.together judge.judge terms.levels terms.may t

-- it takes narrow beats, and knows them after a line at fault too
abbrev pub narrow_ways : (w : ℕ) → Ways (NarrowLineJudge w) Terms (Link × Beat w)
narrow_ways w = record { form = narrow w; knows = KnowsNarrow w; goes_on = λ _. true }
