-- A part of a record shows that a beat breaks a rule.
use Rattle.std.proofs.Common.{◌≡◌, ◌∙◌, ℕ, true, false, ap, subst, sym}
use Rattle.std.specs.Prelude.{not, slice_get, List, Option, Some}
use Rattle.tl_beat.specs.declared.beat.Beat.{Beat}
use Rattle.tl_beat.specs.declared.beat.Link.{Link}
use Rattle.tl_reasons.proofs.Explaining.{same_link}
use Rattle.tl_reasons.specs.statement.Explained.{broken_alone, is_of_order}
use Rattle.tl_evidence.specs.code.Guilty.{HasReason, IsGuilty}
use Rattle.tl_evidence.specs.statement.Convicted.{IsConvicted}
use Rattle.tl_explain.specs.declared.recorder.Recorder.{Recorder}
use Rattle.tl_explain.specs.statement.Reasons.{IsEvidenceUnder, IsSubject}
use Rattle.tl_params.specs.declared.level.Level.{Level}
use Rattle.tl_params.specs.declared.liberties.Liberties.{Liberties}
use Rattle.tl_params.specs.declared.rule.Rule.{Rule}
use Rattle.tl_rules.specs.statement.Conformance.{Trace}

module _ {w : ℕ} (may : Liberties) (level : Option Level) (r : Recorder) (rule : Rule) (link : Link) (x : Beat w)
    (of : IsSubject r.subject link x) where
  -- a beat for which there is a reason breaks the rule of order
  pub guilty_by_order : not (is_of_order rule) ≡ false → HasReason may r rule x → IsGuilty may level r rule link x
  guilty_by_order order reasoned =
      let on : r.subject.link ≡ link = same_link r.subject link x of in (
        on,
        λ t recorded.
            let (reason, evidence, convicts) = reasoned t link recorded of in
            record {
              by_order = λ yes. (
                reason,
                subst (λ (k : Link). IsEvidenceUnder may k.0 x reason t) on evidence,
                convicts,
              );
              by_itself = λ no. let both : false ≡ true = sym order ∙ ap not no in absurd cc;
            },
      )

  -- one that breaks a rule of legality does so by itself
  pub guilty_by_itself : not (is_of_order rule) ≡ true → broken_alone may level x ≡ Some rule
      → IsGuilty may level r rule link x
  guilty_by_itself order broken = (
    same_link r.subject link x of,
    λ t recorded. record {
      by_order = λ yes. let both : true ≡ false = sym order ∙ ap not yes in absurd cc;
      by_itself = λ no. broken;
    },
  )

-- the same by what a header says of its links
pub convicted_on : {w : ℕ} (has may : Liberties) (level : Option Level) (levels : List Level) (on link : Link)
    (rule : Rule) (x : Beat w) (t : Trace w) → has ≡ may → level ≡ slice_get levels on.0 → on ≡ link
    → IsConvicted has level link rule x t → IsConvicted may (slice_get levels link.0) link rule x t
convicted_on has may level levels on link rule x t same of_link here convicted =
    subst (λ (l : Liberties). IsConvicted l (slice_get levels link.0) link rule x t) same
    (subst (λ (v : Option Level). IsConvicted has v link rule x t)
    (of_link ∙ ap (λ (k : Link). slice_get levels k.0) here) convicted)
