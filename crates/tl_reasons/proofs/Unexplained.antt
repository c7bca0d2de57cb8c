-- Why nothing is explained.
use Rattle.std.proofs.Common.{◌≡◌, ◌≢◌, ℕ, List, refl, inl, inr}
use Rattle.std.specs.Prelude.{Bool, Result, Ok, Err, IfErr, IfOk, OnErr, Option}
use Rattle.std.specs.Io.KnownBytes.{Consumes}
use Rattle.tl_reasons.specs.code.Examining.{KnowsExaminer}
use Rattle.tl_lines.specs.code.GivenUp.{IsKnown}
use Rattle.tl_lines.specs.statement.Run.{GivesUpFor, FailsAt, RunsTo}
use Rattle.tl_lines.specs.code.Judging.{KnowsFor}
use Rattle.tl_lines.specs.code.LinkWatching.{judged_for}
use Rattle.tl_reasons.specs.declared.examiner.Examiner.{Examiner}
use Rattle.tl_reasons.specs.declared.explain_fault.ExplainFault.TheVariants.{Tool}
use Rattle.tl_lines.specs.declared.status.Status.{Status}
use Rattle.tl_lines.specs.declared.status.ToolFault.{ToolFault}
use Rattle.tl_lines.specs.declared.status.ToolFault.TheVariants.{Memory, Read, Write}
use Rattle.tl_lines.specs.statement.JudgedLinks.{LinksSoFar}
use Rattle.tl_reasons.specs.statement.Unexplained.{IsUnjudged}
use Rattle.tl_lines.proofs.JudgedLines.{links_so_far}
use Rattle.tl_params.specs.declared.liberties.Liberties.{Liberties}

abbrev IsReadFault : Result Status ToolFault → Type 0
IsReadFault outcome = outcome ≡ Err Read

-- `known` and `tells` are what is known of the lines that were judged, and the verdict on all
module _ (known so_far : List (List ℕ) → List ℕ → Type 0) (tells : List (List ℕ) → List ℕ → Status → Type 0)
    (is_so_far : (lines : List (List ℕ)) (text : List ℕ) → known lines text → so_far lines text) where
  some_read : (outcome : Result Status ToolFault) (had left held holds : Option (List ℕ))
      → IfOk outcome (RunsTo tells had left held holds) → OnErr outcome (FailsAt tells had left held holds)
      → (read : List ℕ) × Consumes had left read
  some_read (Ok status) had left held holds runs fails = (runs.0, runs.2)
  some_read (Err fault) had left held holds runs fails = (fails.0, fails.3)

  unread : (had left held holds : Option (List ℕ)) → GivesUpFor known tells had left held holds Read
      → IsUnjudged so_far tells had left (Tool Read)
  unread had left held holds (read, consumed, inl (text, appended, is_known)) =
      (read, consumed, inl (text, is_so_far _ text is_known))
  unread had left held holds (read, consumed, inr out) = (read, consumed, inr out)

  -- the first reading was given up, of which a writer into memory fails for want of it
  pub unjudged_by : (fault : ToolFault) (outcome : Result Status ToolFault)
      (had left held holds : Option (List ℕ)) → fault ≢ Write → (IsReadFault (Err fault) → IsReadFault outcome)
      → IfOk outcome (RunsTo tells had left held holds) → OnErr outcome (FailsAt tells had left held holds)
      → IfErr outcome (GivesUpFor known tells had left held holds) → IsUnjudged so_far tells had left (Tool fault)
  unjudged_by Memory outcome had left held holds other same runs fails gives =
      some_read outcome had left held holds runs fails
  unjudged_by Read outcome had left held holds other same runs fails gives =
      unread had left held holds (rw (same refl) at gives)
  unjudged_by Write outcome had left held holds other same runs fails gives = absurd (other refl)

-- what an examiner knows of the lines that it has judged
abbrev pub KnowsExamined : Bool → Liberties → List (List ℕ) → List ℕ → Type 0
KnowsExamined together allow =
    IsKnown (KnowsFor (λ (e : Examiner). judged_for e.link_lines) (together, allow) KnowsExaminer)

pub examined-so-far : (together : Bool) (allow : Liberties) (lines : List (List ℕ)) (text : List ℕ)
    → KnowsExamined together allow lines text → LinksSoFar together allow lines text
examined-so-far together allow lines text (e, known) =
    links_so_far together allow lines text (e.link_lines, (known.0.judged, known.1))
