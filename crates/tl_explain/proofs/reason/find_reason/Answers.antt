use Rattle.std.proofs.Common.{◌∙◌, inl, inr}
use Rattle.tl_params.specs.statement.Liberties.{liberties_of, no_liberties}
use Rattle.tl_rules.proofs.Profiles.{in_order-of}
use Rattle.tl_explain.proofs.Ordered.{legal-profile}
use Rattle.tl_explain.proofs.Sayings.{held-profile}
use Rattle.tl_explain.proofs.first.Rules.{told_where_first}
use Rattle.tl_explain.proofs.sound.Bursts.{reason_found}
use Rattle.tl_explain.proofs.reason.find_reason.Goals as goal

pub returns-clause-told : goal.returns-clause-told
returns-clause-told g c = λ t link rec is.
    rw (c.chosen_reason.ensures, c.of.ensures) (reason_found (liberties_of c.args.profile) no_liberties c.args.rule link
    c.args.beat.now c.args.recorder.now t rec is)

pub returns-clause-first : goal.returns-clause-first
returns-clause-first g c = λ t link rec is asked always broken.
    rw (c.chosen_reason.ensures, c.of.ensures) (told_where_first (liberties_of c.args.profile) no_liberties
    (held-profile c.args.profile) c.args.recorder.now t rec c.args.rule link c.args.beat.now is asked (inl always)
    (in_order-of c.args.profile c.args.beat.now _ ∙ broken))

pub returns-clause-first_fault : goal.returns-clause-first_fault
returns-clause-first_fault g c = λ t link level rec is asked clean broken.
    rw (c.chosen_reason.ensures, c.of.ensures) (told_where_first (liberties_of c.args.profile) no_liberties
    (held-profile c.args.profile) c.args.recorder.now t rec c.args.rule link c.args.beat.now is asked
    (inr (level, legal-profile level c.args.profile _ ∙ clean)) (in_order-of c.args.profile c.args.beat.now _ ∙ broken))
