-- Why a beat breaks a rule of its link.
use Rattle.std.specs.Prelude.{◌≡◌, ℕ, true, false, Option, Some}
use Rattle.tl_beat.specs.declared.beat.Beat.{Beat}
use Rattle.tl_beat.specs.declared.beat.Link.{Link}
use Rattle.tl_reasons.specs.statement.Explained.{broken_alone, is_of_order}
use Rattle.tl_explain.specs.declared.reason.Reason.{Reason}
use Rattle.tl_explain.specs.statement.Reasons.{IsEvidenceUnder, convicted_under}
use Rattle.tl_params.specs.declared.level.Level.{Level}
use Rattle.tl_params.specs.declared.liberties.Liberties.{Liberties}
use Rattle.tl_params.specs.declared.rule.Rule.{Rule}
use Rattle.tl_rules.specs.statement.Conformance.{Trace}

-- A beat of a link of this level, which has these liberties, breaks the rule after t: a rule of legality by itself, and
-- a rule of order by a reason. The claim of the reason is true of t, and the rule follows from the reason, the liberties
-- and the beat alone.
pub record IsConvicted {w : ℕ} (may : Liberties) (level : Option Level) (link : Link) (rule : Rule) (x : Beat w)
    (t : Trace w) : Type 0 where
  pub by_order : is_of_order rule ≡ true
      → (reason : Reason) × IsEvidenceUnder may link.0 x reason t × (convicted_under may x reason ≡ Some rule)
  pub by_itself : is_of_order rule ≡ false → broken_alone may level x ≡ Some rule
