-- The state of a judge after a trace.
use Rattle.std.specs.Prelude.{ℕ, Bool, true, false, List, [], ◌∷◌, ◌≡◌, length, Option, Some, None, Result, Ok, Err, ⊤}
use Rattle.tl_beat.specs.declared.beat.Beat.{Beat}
use Rattle.tl_beat.specs.declared.beat.Link.{Link}
use Rattle.tl_params.specs.declared.level.Level.{Level}
use Rattle.tl_params.specs.declared.liberties.Liberties.{Liberties}
use Rattle.tl_params.specs.statement.Config.{IsCount}
use Rattle.tl_rules.specs.statement.Conformance.{Trace}
use Rattle.tl_memory.specs.statement.Memory.{KnowsMemory}
use Rattle.tl_together.specs.code.Following.{Follows}
use Rattle.tl_together.specs.code.Windows.{KnowsAsked, KnowsWindows}
use Rattle.tl_together.specs.declared.breach.Breach.{Breach}
use Rattle.tl_together.specs.declared.fault.JudgeFault.{JudgeFault}
use Rattle.tl_together.specs.declared.fault.JudgeFault.TheVariants as judge
use Rattle.tl_together.specs.declared.fault.TraceFault.{TraceFault}
use Rattle.tl_together.specs.declared.fault.TraceFault.TheVariants as trace
use Rattle.tl_together.specs.declared.judge.Judge.{Judge}
use Rattle.tl_together.specs.statement.Coherence.{broken_but_bytes, broken_together, first_breach}

-- the judge has these levels and liberties, and the state that the rules need after the trace, whose newest beat is
-- first
pub record KnowsTrace {w : ℕ} (j : Judge w) (levels : List Level) (l : Liberties) (t : Trace w) : Type 0 where
  pub links_are : j.links ≡ length levels
  pub moment_is : j.moment ≡ length t
  pub monitor_is : Follows j.monitor levels l t
  pub tables_are : length j.asked.items ≡ length levels
  pub asked_are : KnowsAsked j.asked.items (length levels) t
  pub windows_are : KnowsWindows j.windows (length levels) t
  pub memory_is : KnowsMemory j.memory (length levels) t

-- the same unless the judge is closed; it is closed after a refusal by a rule
pub record Knows {w : ℕ} (j : Judge w) (levels : List Level) (l : Liberties) (t : Trace w) (closed : Bool) : Type 0 where
  pub closed_is : j.closed ≡ closed
  pub open_knows : closed ≡ false → KnowsTrace j levels l t

-- a new judge, or the reason why there is none
abbrev pub IsNew : {w : ℕ} → List Level → Liberties → Result (Judge w) JudgeFault → Type 0
IsNew levels l (Ok j) = IsCount (length levels) × Knows j levels l [] false
IsNew levels l (Err judge.Levels) = ¬ IsCount (length levels)
IsNew levels l (Err judge.Memory) = IsCount (length levels)
IsNew levels l (Err _) = ⊥

-- the fault of a beat by the rule that it breaks
abbrev pub broken : Option Breach → Option JudgeFault
broken None = None
broken (Some breach) = Some (judge.Broken breach)

-- the fault of a beat with this breach, or with none, apart from Memory: Closed after a refusal
abbrev pub fault_when : Bool → Option Breach → Option JudgeFault
fault_when true breach = Some judge.Closed
fault_when false breach = broken breach

-- the fault of a beat: the first rule that it breaks
abbrev pub fault_of : {w : ℕ} → List Level → Liberties → Trace w → Bool → Link × Beat w → Option JudgeFault
fault_of levels l t closed x = fault_when closed (broken_together levels l x t)

-- the same for a judge that judges neither M2 nor M3
abbrev pub fault_but_bytes : {w : ℕ} → List Level → Liberties → Trace w → Bool → Link × Beat w → Option JudgeFault
fault_but_bytes levels l t closed x = fault_when closed (broken_but_bytes levels l x t)

-- the answer to a beat with this fault, or with none; Memory may be the answer in any case
abbrev pub Answers : Option JudgeFault → Result ⊤ JudgeFault → Type 0
Answers fault (Ok u) = fault ≡ None
Answers fault (Err judge.Memory) = ⊤
Answers fault (Err e) = fault ≡ Some e

-- the trace after an answer: only a beat that was taken is added
abbrev pub recorded_after : {w : ℕ} → Result ⊤ JudgeFault → Link × Beat w → Trace w → Trace w
recorded_after (Ok u) x t = x ∷ t
recorded_after (Err e) x t = t

-- whether the judge is closed after an answer
abbrev pub closed_after : Bool → Result ⊤ JudgeFault → Bool
closed_after closed (Ok u) = false
closed_after closed (Err judge.Memory) = closed
closed_after closed (Err e) = true

-- the answer to a trace: the first beat that breaks a rule, if any; with 1 to 16 levels it may also be Memory
abbrev pub AnswersTrace : {w : ℕ} → List Level → Liberties → Trace w → Result ⊤ TraceFault → Type 0
AnswersTrace levels l beats (Ok u) = IsCount (length levels) × (first_breach levels l beats ≡ None)
AnswersTrace levels l beats (Err (trace.At i breach)) = IsCount (length levels)
    × (first_breach levels l beats ≡ Some (i, breach))
AnswersTrace levels l beats (Err trace.Levels) = ¬ IsCount (length levels)
AnswersTrace levels l beats (Err trace.Memory) = IsCount (length levels)

-- the fault of a trace if a judge refuses beat i so
abbrev pub trace_fault_of : ℕ → JudgeFault → TraceFault
trace_fault_of i (judge.Broken breach) = trace.At i breach
trace_fault_of i _ = trace.Memory
