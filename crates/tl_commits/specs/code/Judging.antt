-- The fault that a judge of copies answers for one of its judge of beats.
use Rattle.tl_together.specs.declared.fault.JudgeFault.{JudgeFault}
use Rattle.tl_together.specs.declared.fault.JudgeFault.TheVariants as judge
use Rattle.tl_commits.specs.declared.fault.CommitFault.{CommitFault}
use Rattle.tl_commits.specs.declared.fault.CommitFault.TheVariants as fault
use Rattle.tl_commits.specs.declared.rule.CommitBreach.{CommitBreach}
use Rattle.tl_commits.specs.declared.rule.CommitBreach.TheVariants.{OfBeats, OfCommits}
use Rattle.tl_together.specs.declared.breach.Breach.{Breach}
use Rattle.tl_together.specs.declared.breach.Breach.TheVariants.{OfLink}
use Rattle.tl_beat.specs.declared.beat.Beat.{Beat}
use Rattle.tl_beat.specs.declared.beat.Beat.TheVariants as beat
use Rattle.tl_params.specs.declared.memory_rule.MemoryRule.{MemoryRule}
use Rattle.tl_commits.specs.statement.Completeness.{Completeness}
use Rattle.tl_commits.specs.statement.Breaches.{broken_bytes_seen}
use Rattle.tl_commits.specs.statement.Events.{Events}
use Rattle.tl_events.specs.declared.rule.CommitRule.{CommitRule}
use Rattle.std.specs.Prelude.{ℕ, Bool, true, false, ◌≡◌, ◌==◌, if◌then◌else◌, Option, Some, None}
use Rattle.tl_commits.specs.code.Loading.{AreRenewed}
use Rattle.tl_commits.specs.code.ValueTable.{has_own, Table, values_in}
use Rattle.tl_commits.specs.declared.block_values.BlockValues.{BlockValues}
use Rattle.tl_commits.specs.declared.judge.CommitJudge.{CommitJudge}

abbrev pub of_judge : JudgeFault → CommitFault
of_judge judge.Levels = fault.Levels
of_judge (judge.Broken breach) = fault.Broken (OfBeats breach)
of_judge judge.Memory = fault.Memory
of_judge judge.Closed = fault.Memory

abbrev pub of_rule : CommitRule → CommitFault
of_rule rule = fault.Broken (OfCommits rule)

-- it is the breach of a rule of a link
abbrev pub is_of_link : Option Breach → Bool
is_of_link (Some (OfLink rule)) = true
is_of_link _ = false

-- the breach of this rule of beats, or the other one if there is none
abbrev pub breach_or : Option Breach → CommitBreach → Option CommitBreach
breach_or None other = Some other
breach_or (Some breach) other = Some (OfBeats breach)

-- the judges are the same but for the values of blocks
pub record IsSameBut {w : ℕ} (old new : CommitJudge w) : Type 0 where
  pub judge_is : new.judge ≡ old.judge
  pub levels_are : new.levels ≡ old.levels
  pub complete_are : new.complete ≡ old.complete
  pub loads_are : new.loads ≡ old.loads
  pub grants_are : new.grants ≡ old.grants
  pub readings_are : new.readings ≡ old.readings

-- the table with the values of one block, if there are some
abbrev pub HasPut : Table → Table → Option (ℕ × BlockValues) → Type 0
HasPut old new None = new ≡ old
HasPut old new (Some (block, values)) = has_own old block ≡ true
    → (k : ℕ) → values_in new k ≡ (if k == block then Some values else values_in old k)

-- the values of one block are put into the judge, if there are some, and its loads are renewed
pub record IsRecorded {w : ℕ} (old new : CommitJudge w) (next : Option (ℕ × BlockValues)) : Type 0 where
  pub judge_is : new.judge ≡ old.judge
  pub levels_are : new.levels ≡ old.levels
  pub complete_are : new.complete ≡ old.complete
  pub values_are : HasPut old.values new.values next
  pub grants_are : new.grants ≡ old.grants
  pub readings_are : new.readings ≡ old.readings
  pub loads_are : AreRenewed old.judge new.values old.complete.items old.loads.items new.loads.items

-- M2 or M3, if the bytes of a beat aren't true
abbrev pub broken_bytes : {w : ℕ} → Completeness → ℕ → ℕ → Beat w → Events w → Option MemoryRule
broken_bytes complete n link (beat.D x) e = broken_bytes_seen complete n link x e
broken_bytes complete n link _ e = None
