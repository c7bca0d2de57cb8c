-- What monitors with one liberty more know of a trace.
use Rattle.std.specs.Prelude.{ℕ, false, ◌≡◌, ◌<◌, ◌≤◌, List, [], length, map, slice_index_or, Result, Ok, Err}
use Rattle.tl_params.specs.declared.level.Level.{Level}
use Rattle.tl_params.specs.declared.liberties.Liberties.{Liberties}
use Rattle.tl_params.specs.declared.liberties.Liberty.{Liberty}
use Rattle.tl_params.specs.statement.Config.{IsCount}
use Rattle.tl_params.specs.statement.Liberties.{with_liberty}
use Rattle.tl_rules.specs.statement.Conformance.{Trace}
use Rattle.tl_monitor.specs.declared.fault.MonitorFault.{MonitorFault}
use Rattle.tl_monitor.specs.declared.fault.MonitorFault.TheVariants as monitor
use Rattle.tl_monitor.specs.statement.Knows.{KnowsUnder}
use Rattle.tl_allowed.specs.declared.allowances.Allowances.{Allowances}
use Rattle.tl_allowed.specs.declared.allowances.Wider.{Wider}
use Rattle.tl_command.specs.statement.LibertyWords.{all_liberties}

-- the liberty of each monitor
abbrev pub liberties_in : {w : ℕ} → List (Wider w) → List Liberty
liberties_in wider = map (λ v. v.liberty) wider

-- a monitor has the liberties and its own one, and knows t
abbrev pub KnowsOne : {w : ℕ} → Wider w → List Level → Liberties → Trace w → Type 0
KnowsOne v levels l t = KnowsUnder v.monitor levels (with_liberty v.liberty l) t false

-- the monitors below n know s, and those from n on know t
pub record KnowsBoth {w : ℕ} (wider : List (Wider w)) (n : ℕ) (levels : List Level) (l : Liberties) (s t : Trace w) : Type 0
  where
    pub liberties_are : liberties_in wider ≡ all_liberties
    pub below : (i : ℕ) (d : Wider w) → i < n → i < length wider → KnowsOne (slice_index_or wider i d) levels l s
    pub from : (i : ℕ) (d : Wider w) → n ≤ i → i < length wider → KnowsOne (slice_index_or wider i d) levels l t

-- there is a monitor for each liberty, and all know t
abbrev pub Knows : {w : ℕ} → Allowances w → List Level → Liberties → Trace w → Type 0
Knows a levels l t = (a.liberties ≡ l) × KnowsBoth a.wider.items 0 levels l t t

-- what is made of links of these levels, or why there is nothing
abbrev pub IsNewAllowances : {w : ℕ} → List Level → Liberties → Result (Allowances w) MonitorFault → Type 0
IsNewAllowances levels l (Ok a) = IsCount (length levels) × Knows a levels l []
IsNewAllowances levels l (Err monitor.Levels) = ¬ IsCount (length levels)
IsNewAllowances levels l (Err monitor.Memory) = IsCount (length levels)
IsNewAllowances levels l (Err _) = ⊥
