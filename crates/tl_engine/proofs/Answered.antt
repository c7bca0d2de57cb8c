-- What is written of the answer to a Load or a Store is what comes of the event.
use Rattle.std.proofs.Common.{◌≡◌, ℕ, List, [], ◌∷◌, ◌++◌, refl, sym, ap, ◌∙◌}
use Rattle.std.proofs.lemmas.List.{append-nil}
use Rattle.std.specs.Prelude.{Option, Some, None, OnOk, Result, Ok, Err}
use Rattle.tl_beat.specs.declared.beat.Link.{Link}
use Rattle.tl_client.specs.declared.operation.Op.{Op}
use Rattle.tl_client.specs.declared.reply.Reply.{Reply}
use Rattle.tl_coherence.specs.declared.event.Event.TheVariants.{Ask}
use Rattle.tl_coherence.specs.statement.Log.{Log}
use Rattle.tl_command.specs.declared.command.RunForm.{RunForm}
use Rattle.tl_command.specs.declared.command.RunForm.TheVariants.{Outcomes, Trace, TraceWithCommits}
use Rattle.tl_events.specs.declared.commit.Commit.{Commit}
use Rattle.tl_schedule.proofs.Stored.{noted-none}
use Rattle.tl_schedule.specs.declared.whole.WholeStores.{WholeStores}
use Rattle.tl_schedule.specs.statement.Commits.{at_most_one, begun_in, commit_of, commits_text, requested}
use Rattle.tl_schedule.specs.statement.OutcomeLine.{link_of}
use Rattle.tl_world.specs.statement.Answered.{answered}
use Rattle.tl_engine.specs.code.Playing.{Keeps, Writes, asked_text}
use Rattle.tl_engine.specs.statement.Played.{event_text}

-- no commit has no line
pub none-written : (link : Link) (text : List ℕ) → text ≡ text ++ commits_text link []
unfolding commits_text
none-written link text = sym (append-nil text)

written : {w : ℕ} (form : RunForm) (log : Log w) (client : ℕ) (operation : Op w) (answer : Option Reply)
    → event_text form log (Ask client operation) (answered answer) ≡ asked_text form (Ask client operation) answer
written Outcomes log client operation None = refl
written Outcomes log client operation (Some reply) = refl
written Trace log client operation None = refl
written Trace log client operation (Some reply) = refl
written TraceWithCommits log client operation None = refl
written TraceWithCommits log client operation (Some reply) =
    ap (λ (commits : List Commit). commits_text (link_of (Ask client operation)) commits)
    (append-nil (at_most_one (commit_of operation reply)))

-- an operation that is no request begins none
begun-none : {w : ℕ} (client : ℕ) (operation : Op w) (answer : Option Reply) → requested operation ≡ None
    → begun_in (Ask client operation) (answered answer) ≡ None
begun-none client operation None none = refl
begun-none client operation (Some reply) none = rw none refl

kept : {w : ℕ} (form : RunForm) (stores : WholeStores) (log : Log w) (client : ℕ) (operation : Op w)
    (answer : Option Reply) → requested operation ≡ None → Keeps form stores log
    → Keeps form stores ((Ask client operation, answered answer) ∷ log)
kept Outcomes stores log client operation answer none keeps = tt
kept Trace stores log client operation answer none keeps = tt
kept TraceWithCommits stores log client operation answer none keeps =
    noted-none stores (Ask client operation) (answered answer) log (begun-none client operation answer none) keeps

-- so its answer is all that is written of it, and nothing needs to be kept
pub asked-writes : {w : ℕ} {E : Type 0} (form : RunForm) (stores : WholeStores) (client : ℕ) (operation : Op w)
    (answer : Option Reply) (was is : List ℕ) (r : Result (Unit {0}) E) → requested operation ≡ None
    → OnOk r (is ≡ was ++ asked_text form (Ask client operation) answer)
    → OnOk r (Writes form stores stores (Ask client operation) (answered answer) was is)
asked-writes form stores client operation answer was is (Err e) none says = tt
asked-writes form stores client operation answer was is (Ok x) none says = λ log keeps. (
  says ∙ ap (λ (t : List ℕ). was ++ t) (sym (written form log client operation answer)),
  kept form stores log client operation answer none keeps,
)

-- in a trace nothing is written of it
pub asked-traced : {w : ℕ} (stores : WholeStores) (client : ℕ) (operation : Op w) (answer : Option Reply) (was : List ℕ)
    → Writes Trace stores stores (Ask client operation) (answered answer) was was
asked-traced stores client operation answer was = λ log keeps. (
  sym (append-nil was) ∙ ap (λ (t : List ℕ). was ++ t) (sym (written Trace log client operation answer)),
  tt,
)
