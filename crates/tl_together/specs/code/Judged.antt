-- What a judge of beats judges that leaves rules to its caller.
use Rattle.std.specs.Prelude.{ℕ, Bool, List, length, Option}
use Rattle.tl_beat.specs.declared.beat.Beat.{Beat}
use Rattle.tl_beat.specs.declared.beat.Link.{Link}
use Rattle.tl_params.specs.declared.level.Level.{Level}
use Rattle.tl_params.specs.declared.liberties.Liberties.{Liberties}
use Rattle.tl_params.specs.declared.memory_rule.MemoryRule.{MemoryRule}
use Rattle.tl_rules.specs.statement.Conformance.{Trace}
use Rattle.tl_rules.specs.statement.Liberties.{broken_on_link_under}
use Rattle.tl_together.specs.declared.breach.Breach.{Breach}
use Rattle.tl_together.specs.declared.breach.Unjudged.{Unjudged}
use Rattle.tl_together.specs.declared.breach.Unjudged.TheVariants as left
use Rattle.tl_together.specs.declared.fault.JudgeFault.{JudgeFault}
use Rattle.tl_together.specs.statement.Coherence.{broken_memory, but_bytes, first_broken}
use Rattle.tl_together.specs.statement.Knows.{fault_when}

-- the rule of memory that a beat breaks, unless it is left
abbrev pub judged : Unjudged → Option MemoryRule → Option MemoryRule
judged left.Nothing rule = rule
judged left.Bytes rule = but_bytes rule

-- the first rule that a beat breaks but for those that are left
abbrev pub broken_but : {w : ℕ} → Unjudged → List Level → Liberties → Link × Beat w → Trace w → Option Breach
broken_but left levels l x t =
    first_broken (broken_on_link_under l levels x t) (judged left (broken_memory (length levels) x.0.0 x.1 t))

-- the fault of a beat, apart from Memory, but for those rules
abbrev pub fault_but : {w : ℕ} → Unjudged → List Level → Liberties → Trace w → Bool → Link × Beat w → Option JudgeFault
fault_but left levels l t closed x = fault_when closed (broken_but left levels l x t)
