use Rattle.std.proofs.Common.{◌≡◌, ◌∙◌, ap, inl, inr, refl, subst, sym, true}
use Rattle.std.specs.Prelude.{Option, is_some}
use Rattle.tl_params.specs.declared.liberties.Liberties.{Liberties}
use Rattle.tl_explain.specs.code.Chosen.{reason_by}
use Rattle.tl_explain.specs.declared.reason.Reason.{Reason}
use Rattle.tl_explain.proofs.first.Rules.{told_where_first}
use Rattle.tl_explain.proofs.sound.Bursts.{IsFound, reason_found}
use Rattle.tl_explain.proofs.reason.find_reason_under.Goals as goal

pub returns-clause-told : goal.returns-clause-told
returns-clause-told g c = λ l t link rec is.
    let chosen : c.chosen_reason.result ≡ reason_by l c.args.rule c.args.beat.now c.args.recorder.now =
    c.chosen_reason.ensures
    ∙ ap (λ (i : Liberties). reason_by i c.args.rule c.args.beat.now c.args.recorder.now) rec.liberties_are in
    subst (λ (o : Option Reason). IsFound l l c.args.rule c.args.beat.now c.args.recorder.now.subject.link.0 t o)
    (sym chosen) (reason_found l l c.args.rule link c.args.beat.now c.args.recorder.now t rec is)

pub returns-clause-first : goal.returns-clause-first
returns-clause-first g c = λ l t link rec is asked always broken.
    let chosen : c.chosen_reason.result ≡ reason_by l c.args.rule c.args.beat.now c.args.recorder.now =
    c.chosen_reason.ensures
    ∙ ap (λ (i : Liberties). reason_by i c.args.rule c.args.beat.now c.args.recorder.now) rec.liberties_are in
    subst (λ (o : Option Reason). is_some o ≡ true) (sym chosen)
    (told_where_first l l (λ k h. refl) c.args.recorder.now t rec c.args.rule link c.args.beat.now is asked
    (inl always) broken)

pub returns-clause-first_fault : goal.returns-clause-first_fault
returns-clause-first_fault g c = λ l t link level rec is asked clean broken.
    let chosen : c.chosen_reason.result ≡ reason_by l c.args.rule c.args.beat.now c.args.recorder.now =
    c.chosen_reason.ensures
    ∙ ap (λ (i : Liberties). reason_by i c.args.rule c.args.beat.now c.args.recorder.now) rec.liberties_are in
    subst (λ (o : Option Reason). is_some o ≡ true) (sym chosen)
    (told_where_first l l (λ k h. refl) c.args.recorder.now t rec c.args.rule link c.args.beat.now is asked
    (inr (level, clean)) broken)
