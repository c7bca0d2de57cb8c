use Rattle.std.proofs.Common.{rules, sym, ap, ◌∙◌, length}
use Rattle.std.{specs.Prelude.if◌then◌else◌, specs.Prelude.Some, specs.Prelude.None, proofs.lemmas.Option.same_Some}
use Rattle.tl_rules.specs.statement.Conformance.{on_link}
use Rattle.tl_memory.{proofs.messages.Kept.place-kept, proofs.messages.Kept.place-there}
use Rattle.tl_memory.{proofs.lawful.LegalBeats.few-before}
use Rattle.tl_memory.proofs.states.Memories.{held-own, is-borne, is-concerned, links-legal, none-free}
use Rattle.tl_memory.proofs.states.Taken.{same-block}
use Rattle.tl_params.specs.declared.perm.Perm.{Perm}
use Rattle.tl_memory.proofs.memory.Memory.changed.Goals as goal

pub returns-clause-change : goal.returns-clause-change
returns-clause-change g c = λ levels t k legal fine asked now borne there.
    let n = length levels in
    let link = c.args.link in
    let x = c.args.x.now in
    let block = c.args.block in
    let messages = (k.links_are.states_are link.0 c.in-Some-get.known.now (sym c.in-Some-get.ensures)).messages_are in
    let state = place-kept c.args.self.now c.in-Some.state.now n block c.args.place t k there c.in-Some.ensures in
    let its = links-legal levels link x t c.requires.width legal fine c.args.self.now.links k.links_are
    c.prove_typed.ensures.typed in
    record {
      block_is = is-borne (Some block) link x t k.blocks_are.inside its borne;
      held_is = c.held_of.ensures ∙ ap (λ b. if b then Some block else None) (c.changes_held.ensures (on_link link.0 t)
          messages (few-before levels link t c.requires.width legal x fine));
      kept = λ other e. rw (← same-block block other e) there;
      next_is = λ other free s e found seen.
          let same = same-block block other e in
          let own = same_Some c.in-Some.state.now s (c.in-Some.ensures ∙ found) in
          rw (← same, ← own) (c.in_ok-next.ensures n block free t state messages its asked borne now (rw same seen));
      expected_is = (c.in_ok-expected.ensures n t state messages.d_is its borne k.addressed).0;
      along_is = (c.in_ok-expected.ensures n t state messages.d_is its borne k.addressed).1;
      concerned = is-concerned link x (Some block) t its borne;
    }

pub returns-in_default-clause-change : goal.returns-in_default-clause-change
returns-in_default-clause-change g c = λ levels t k legal fine asked now borne there. absurd
    (place-there c.args.self.now (length levels) c.args.block c.args.place t k there (search rules))

pub returns-in_default-clause-free : goal.returns-in_default-clause-free
returns-in_default-clause-free g c = λ n t k there.
    none-free c.none.result n t c.none.ensures.block c.none.ensures.held

pub returns-in_default-get-clause-free : goal.returns-in_default-get-clause-free
returns-in_default-get-clause-free g c = λ n t k there.
    none-free c.none-in_default-get.result n t c.none-in_default-get.ensures.block c.none-in_default-get.ensures.held

pub returns-clause-free : goal.returns-clause-free
returns-clause-free g c = λ n t k there.
    let block = c.args.block in
    let state = place-kept c.args.self.now c.in-Some.state.now n block c.args.place t k there c.in-Some.ensures in
    record {
      own = λ other e. held-own c.changes_held.result c.held_of.result block other c.held_of.ensures e;
      reading_is = λ other e. rw (← same-block block other e) (c.freedom-free.ensures n block t state Perm.Branch);
      writing_is = λ other e. rw (← same-block block other e) (c.freedom-free.ensures n block t state Perm.Trunk);
    }
