use Rattle.std.proofs.Common.{◌∙◌, ap, arith, add-one, sym, inl, inr, rules, List}
use Rattle.std.{proofs.lemmas.Bool.cases_eq, proofs.lemmas.List.take_all}
use Rattle.tl_params.specs.declared.perm.Perm.{Perm}
use Rattle.tl_manager.{specs.code.Table.entry, proofs.words_of_clients.WordBits.no_bits}
use Rattle.tl_manager.proofs.blocks.Entries.{entry-take_same, entry-take_other}
use Rattle.tl_manager.proofs.table.words_in.Goals as goal

pub loop-client-init : goal.loop-client-init
loop-client-init c = record { apart = search rules; says = λ i. no_bits i }

pub loop-client-preserved : goal.loop-client-preserved
loop-client-preserved c = record {
  apart = c.with-words.result.apart;
  says = λ i. elim (cases_eq i c.loop-client.client) [
    | inl same ↦ rw (same, add-one)
        (c.with-words.ensures.here ∙ sym (entry-take_same c.args.row.now c.loop-client.client (omega arith)))
    | inr other ↦ rw add-one (c.with-words.ensures.others i other ∙ c.loop-client.invariant.says i ∙ sym
        (entry-take_other c.args.row.now c.loop-client.client i other))
  ];
}

pub returns : goal.returns
returns c = λ i. c.loop-client.invariant.says i ∙ ap (λ (row : List Perm). entry row i)
    (take_all c.loop-client.client c.args.row.now (omega arith))
