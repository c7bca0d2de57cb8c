-- The judgement of a trace whose header names the liberties of its links.
use Rattle.std.specs.Prelude.{◌≡◌, ◌⊎◌, ◌-◌, ◌++◌, ℕ, Bool, true, false, List, [], length, option_map}
use Rattle.tl_lines.specs.statement.JudgedSo.{said_by}
use Rattle.tl_lines.specs.declared.fault.Fault.TheVariants.{Rule as Breaks}
use Rattle.tl_lines.specs.declared.status.Status.{Status}
use Rattle.tl_lines.specs.declared.status.Status.TheVariants.{Clean}
use Rattle.tl_lines.specs.statement.Coherent.{fault_of_breach}
use Rattle.tl_lines.specs.statement.Judged.{FaultsOf, JudgedBy}
use Rattle.tl_lines.specs.statement.LinksHeader.{NamesAllowed}
use Rattle.tl_params.specs.declared.liberties.Liberties.{Liberties}
use Rattle.tl_rules.specs.statement.Liberties.{broken_on_link_under}
use Rattle.tl_together.specs.statement.Coherence.{broken_together}

-- a beat is at fault for the first rule that it breaks after the earlier beats of its own link, which has these
-- liberties
abbrev pub faults_under : FaultsOf Liberties
faults_under w levels may x t = option_map Breaks (broken_on_link_under may levels x t)

-- with all links together, a beat is at fault for the first rule that it breaks after the earlier beats of all links
abbrev pub faults_by : Bool → FaultsOf Liberties
faults_by true w levels may x t = option_map fault_of_breach (broken_together levels may x t)
faults_by false w levels may x t = faults_under w levels may x t

-- The text and status of a trace that is judged with all links together, or link by link. The links have the liberties
-- that the header names and those that are allowed.
abbrev pub JudgedLinks : Bool → Liberties → List (List ℕ) → List ℕ → Status → Type 0
JudgedLinks together allow = JudgedBy (NamesAllowed allow) (faults_by together) (said_by together)

-- the text of these lines, none of which is at fault, before the end of the input
abbrev pub LinksSoFar : Bool → Liberties → List (List ℕ) → List ℕ → Type 0
LinksSoFar together allow lines text =
    ((lines ≡ []) × (text ≡ []))
    ⊎ JudgedLinks together allow lines (text ++ said_by together (length lines - 1)) Clean
