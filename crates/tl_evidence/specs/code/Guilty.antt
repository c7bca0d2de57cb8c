-- What a record says of a beat at fault.
use Rattle.std.specs.Prelude.{◌≡◌, ℕ, Option, Some}
use Rattle.tl_beat.specs.declared.beat.Beat.{Beat}
use Rattle.tl_beat.specs.declared.beat.Link.{Link}
use Rattle.tl_evidence.specs.statement.Convicted.{IsConvicted}
use Rattle.tl_explain.specs.code.Recorded.{IsRecordUnder}
use Rattle.tl_explain.specs.declared.reason.Reason.{Reason}
use Rattle.tl_explain.specs.declared.recorder.Recorder.{Recorder}
use Rattle.tl_explain.specs.statement.Reasons.{IsEvidenceUnder, IsSubject, convicted_under}
use Rattle.tl_params.specs.declared.level.Level.{Level}
use Rattle.tl_params.specs.declared.liberties.Liberties.{Liberties}
use Rattle.tl_params.specs.declared.rule.Rule.{Rule}
use Rattle.tl_rules.specs.statement.Conformance.{Trace}

-- there is a reason for which the beat breaks the rule
abbrev pub HasReason : {w : ℕ} → Liberties → Recorder → Rule → Beat w → Type 0
HasReason {w} may r rule x = (t : Trace w) (link : Link) → IsRecordUnder may r t → IsSubject r.subject link x
    → (reason : Reason) × IsEvidenceUnder may r.subject.link.0 x reason t × (convicted_under may x reason ≡ Some rule)

-- the beat breaks the rule, if it is one of this link behind those that are recorded
abbrev pub IsGuilty : {w : ℕ} → Liberties → Option Level → Recorder → Rule → Link → Beat w → Type 0
IsGuilty {w} may level r rule link x =
    (r.subject.link ≡ link) × ((t : Trace w) → IsRecordUnder may r t → IsConvicted may level link rule x t)
