-- What a judge of wide beats knows of the trace that it has taken, and its answer to the next beat.
use Rattle.std.specs.Prelude.{◌≡◌, ◌∷◌, ℕ, length, Option, Some, None, reverse}
use Rattle.tl_beat.specs.declared.beat.Link.{Link}
use Rattle.tl_lines.specs.code.TraceJudging.{KnowsBeats}
use Rattle.tl_lines.specs.declared.fault.Fault.{Fault}
use Rattle.tl_report.specs.statement.Form.{Terms, first_fault_in}
use Rattle.tl_rules.specs.statement.Conformance.{Trace}
use Rattle.tl_wide.specs.declared.beat.WideBeat.{WideBeat}
use Rattle.tl_wide.specs.statement.Naming.{WideTrace}
use Rattle.tl_wide.specs.statement.Narrowing.{Follows}
use Rattle.tl_wide.specs.statement.Width.{part_width}
use Rattle.tl_wide_lines.specs.code.FirstFault.{IsTaken, beats_taken}
use Rattle.tl_wide_lines.specs.declared.judge.WideJudge.{WideJudge}

-- The judge has taken the beats of this trace, the newest first, none of which is at fault. `beats` has the parts that
-- they became, of any width; the judge's own width is that of the parts.
pub record KnowsTrace {w p : ℕ} (terms : Terms) (judge : WideJudge p) (t : WideTrace w) : Type 0 where
  pub beats : (q : ℕ) → Trace q
  pub are_beats : beats (part_width w) ≡ beats_taken (reverse t)
  pub follows : Follows judge.narrower t
  pub known : KnowsBeats terms.together judge.judge terms.levels terms.may (beats p)
  pub taken : IsTaken terms.together terms.may terms.levels (reverse t)

-- the answer to the next beat: it is taken, or the trace with it has its first fault at it
abbrev pub AnswersNext : {w p : ℕ} → Terms → WideJudge p → WideTrace w → Link × WideBeat w → Option Fault → Type 0
AnswersNext terms new t x None = KnowsTrace terms new (x ∷ t)
AnswersNext terms new t x (Some fault) = first_fault_in terms (x ∷ t) ≡ Some (length t, fault)
