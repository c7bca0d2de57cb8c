use Rattle.std.proofs.Common.{ap, ◌∙◌}
use Rattle.tl_explain.specs.declared.turns.Subject.{Subject}
use Rattle.tl_params.specs.declared.liberties.Liberties.{Liberties}
use Rattle.tl_params.specs.declared.liberties.Liberty.TheVariants.{Uncorrupt}
use Rattle.tl_params.specs.statement.Liberties.{with_liberty}
use Rattle.tl_witness.proofs.Witnesses.{all_named}
use Rattle.tl_witness.proofs.witness.recorder_of.Goals as goal

pub returns : goal.returns
returns c = λ w. record {
  recorded = rw (c.with-all.ensures ∙ ap (λ (l : Liberties). with_liberty Uncorrupt l) c.standard.ensures ∙ all_named) at
      (c.with_liberties.ensures.record w);
  link_is = ap (λ (s : Subject). s.link.0) c.with_liberties.ensures.subject;
  block_is = ap (λ (s : Subject). s.block) c.with_liberties.ensures.subject;
}
