-- The lines of an event's commits.
use Rattle.std.proofs.Common.{◌≡◌, ℕ, List, ◌∷◌, ◌++◌, ap, ◌∙◌, append_assoc}
use Rattle.std.specs.Prelude.{Option, OnOk, Result, Ok, Err}
use Rattle.tl_coherence.specs.declared.event.Event.{Event}
use Rattle.tl_coherence.specs.declared.event.Outcome.{Outcome}
use Rattle.tl_coherence.specs.statement.Log.{Log}
use Rattle.tl_command.specs.declared.command.RunForm.TheVariants.{Outcomes, Trace, TraceWithCommits}
use Rattle.tl_schedule.specs.code.Storing.{Remembers}
use Rattle.tl_schedule.specs.declared.whole.WholeStore.{WholeStore}
use Rattle.tl_schedule.specs.declared.whole.WholeStores.{WholeStores}
use Rattle.tl_schedule.specs.statement.Commits.{asked_commit, at_most_one, commits_text}
use Rattle.tl_schedule.specs.statement.Commits.{store_granted, whole_stores}
use Rattle.tl_schedule.specs.statement.OutcomeLine.{link_of, outcome_line, trace_text}
use Rattle.tl_engine.specs.code.Playing.{Writes}

-- the beat that moved, and the lines of the commits behind it
pub writes-commits : {w : ℕ} {E : Type 0} (old new : WholeStores) (event : Event w) (o : Outcome w)
    (granted : Option WholeStore) (was mid is : List ℕ) (r : Result (Unit {0}) E) → mid ≡ was ++ trace_text event o
    → is ≡ mid ++ commits_text (link_of event) (at_most_one (asked_commit event o) ++ whole_stores granted)
    → ((log : Log w) → Remembers old log → granted ≡ store_granted log event o)
    → OnOk r ((log : Log w) → Remembers old log → Remembers new ((event, o) ∷ log))
    → OnOk r (Writes TraceWithCommits old new event o was is)
writes-commits old new event o granted was mid is (Err e) beat lines grants notes = tt
writes-commits old new event o granted was mid is (Ok x) beat lines grants notes = λ log keeps. (
  lines ∙ ap (λ (t : List ℕ). t ++ commits_text (link_of event) (at_most_one (asked_commit event o) ++ whole_stores
      granted)) beat ∙ append_assoc was (trace_text event o) _ ∙ ap (λ (g : Option WholeStore). was ++ (trace_text event o
      ++ commits_text (link_of event) (at_most_one (asked_commit event o) ++ whole_stores g))) (grants log keeps),
  notes log keeps,
)

-- the line of the outcome alone, or of the beat alone
pub writes-outcome : {w : ℕ} {E : Type 0} (stores : WholeStores) (event : Event w) (o : Outcome w) (was is : List ℕ)
    (r : Result (Unit {0}) E) → OnOk r (is ≡ was ++ outcome_line event o)
    → OnOk r (Writes Outcomes stores stores event o was is)
writes-outcome stores event o was is (Err e) says = tt
writes-outcome stores event o was is (Ok x) says = λ log keeps. (says, tt)

pub writes-trace : {w : ℕ} {E : Type 0} (stores : WholeStores) (event : Event w) (o : Outcome w) (was is : List ℕ)
    (r : Result (Unit {0}) E) → OnOk r (is ≡ was ++ trace_text event o)
    → OnOk r (Writes Trace stores stores event o was is)
writes-trace stores event o was is (Err e) says = tt
writes-trace stores event o was is (Ok x) says = λ log keeps. (says, tt)
