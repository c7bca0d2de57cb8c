-- What a judge of the links of a trace says of a beat, and what its header names.
use Rattle.std.proofs.Common.{◌≡◌, ℕ, Bool, true, false, List, ◌∷◌, ap}
use Rattle.std.specs.Prelude.{Option, Some, None, option_map}
use Rattle.tl_beat.specs.declared.beat.Beat.{Beat}
use Rattle.tl_beat.specs.declared.beat.Link.{Link}
use Rattle.tl_lines.proofs.BeatJudging.{breached_by, whole}
use Rattle.tl_lines.specs.declared.fault.Fault.{Fault}
use Rattle.tl_lines.specs.declared.fault.Fault.TheVariants.{Rule as Breaks}
use Rattle.tl_lines.specs.statement.Coherent.{fault_of_breach}
use Rattle.tl_monitor.proofs.Knowing.{broken_by, unbroken}
use Rattle.tl_monitor.specs.declared.fault.MonitorFault.TheVariants as monitor
use Rattle.tl_monitor.specs.declared.monitor.Monitor.{Monitor}
use Rattle.tl_monitor.specs.statement.Knows.{KnowsUnder, fault_under}
use Rattle.tl_params.specs.declared.level.Level.{Level}
use Rattle.tl_params.specs.declared.liberties.Liberties.{Liberties}
use Rattle.tl_params.specs.declared.rule.Rule.{Rule}
use Rattle.tl_lines.specs.code.TraceJudging.{JudgesBeat, KnowsBeats}
use Rattle.tl_lines.specs.declared.trace_judge.TraceJudge.{TraceJudge}
use Rattle.tl_lines.specs.declared.trace_judge.TraceJudge.TheVariants.{OfAll, OfLinks}
use Rattle.tl_rules.specs.statement.Conformance.{Trace}
use Rattle.tl_rules.specs.statement.Liberties.{broken_on_link_under}
use Rattle.tl_together.specs.declared.breach.Breach.{Breach}
use Rattle.tl_together.specs.declared.fault.JudgeFault.TheVariants as judge
use Rattle.tl_together.specs.declared.judge.Judge.{Judge}
use Rattle.tl_together.specs.statement.Coherence.{broken_together}
use Rattle.tl_together.specs.statement.Knows.{Knows, fault_of}

module _ {w : ℕ} (x : Link × Beat w) where
  -- what is so wherever a monitor, or a judge, has these beats
  abbrev Beside : Monitor w → (List Level → Liberties → Trace w → Type 0) → Type 0
  Beside m So = (levels : List Level) (may : Liberties) (t : Trace w) → KnowsUnder m levels may t false → So levels may t

  abbrev Above : Judge w → (List Level → Liberties → Trace w → Type 0) → Type 0
  Above j So = (levels : List Level) (l : Liberties) (t : Trace w) → Knows j levels l t false → So levels l t

  -- what is said of the beat wherever the judge has these beats
  abbrev Says : TraceJudge w → TraceJudge w → Option Fault → Type 0
  Says old new fault = (together : Bool) (levels : List Level) (may : Liberties) (t : Trace w)
      → KnowsBeats together old levels may t → JudgesBeat together new levels may t x fault

  pub alone_good : (old new : Monitor w) → Beside old (λ levels may t. fault_under levels may t false x ≡ None)
      → Beside old (λ levels may t. KnowsUnder new levels may (x ∷ t) false) → Says (OfLinks old) (OfLinks new) None
  alone_good old new fine knows true levels may t known = absurd known
  alone_good old new fine knows false levels may t known = (
    ap (option_map Breaks) (unbroken (broken_on_link_under may levels x t) (fine levels may t known)),
    knows levels may t known,
  )

  pub alone_bad : (old new : Monitor w) (rule : Rule)
      → Beside old (λ levels may t. fault_under levels may t false x ≡ Some (monitor.Broken rule))
      → Beside old (λ levels may t. KnowsUnder new levels may t false)
      → Says (OfLinks old) (OfLinks new) (Some (Breaks rule))
  alone_bad old new rule broken knows true levels may t known = absurd known
  alone_bad old new rule broken knows false levels may t known = (
    ap (option_map Breaks) (broken_by (broken_on_link_under may levels x t) rule (broken levels may t known)),
    knows levels may t known,
  )

  pub together_good : (old new : Judge w) → Above old (λ levels l t. fault_of levels l t false x ≡ None)
      → Above old (λ levels l t. Knows new levels l (x ∷ t) false) → Says (OfAll old) (OfAll new) None
  together_good old new fine knows false levels may t known = absurd known
  together_good old new fine knows true levels may t known = (
    ap (option_map fault_of_breach)
        (whole (broken_together levels may x t) (fine levels may t known)),
    knows levels may t known,
  )

  pub together_bad : (old new : Judge w) (breach : Breach)
      → Above old (λ levels l t. fault_of levels l t false x ≡ Some (judge.Broken breach))
      → Above old (λ levels l t. Knows new levels l t false) → Says (OfAll old) (OfAll new) (Some (fault_of_breach breach))
  together_bad old new breach broken knows false levels may t known = absurd known
  together_bad old new breach broken knows true levels may t known = (
    ap (option_map fault_of_breach) (breached_by (broken_together levels may x t) breach
        (broken levels may t known)),
    knows levels may t known,
  )

-- what a monitor of links answers of all that it knows, its judge does
pub alone_answers : {w : ℕ} {X : Type 0} (old : TraceJudge w) (m : Monitor w) (is : old ≡ OfLinks m) (answer : X)
    (so : List Level → Trace w → X)
    → ((levels : List Level) (may : Liberties) (t : Trace w) (closed : Bool) → KnowsUnder m levels may t closed
    → answer ≡ so levels t)
    → (together : Bool) (levels : List Level) (may : Liberties) (t : Trace w) → KnowsBeats together old levels may t
    → answer ≡ so levels t
alone_answers old m is answer so says true levels may t known = absurd (rw is at known)
alone_answers old m is answer so says false levels may t known = says levels may t false (rw is at known)

-- and what a judge of all answers
pub together_answers : {w : ℕ} {X : Type 0} (old : TraceJudge w) (j : Judge w) (is : old ≡ OfAll j) (answer : X)
    (so : List Level → Trace w → X)
    → ((levels : List Level) (may : Liberties) (t : Trace w) → Knows j levels may t false → answer ≡ so levels t)
    → (together : Bool) (levels : List Level) (may : Liberties) (t : Trace w) → KnowsBeats together old levels may t
    → answer ≡ so levels t
together_answers old j is answer so says false levels may t known = absurd (rw is at known)
together_answers old j is answer so says true levels may t known = says levels may t (rw is at known)
