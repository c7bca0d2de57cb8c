use Rattle.std.proofs.Common.{rules, sym, ◌∙◌, ◌≡◌, true, false, length}
use Rattle.std.{specs.Prelude.None, proofs.lemmas.Result.IfOk-weaker}
use Rattle.tl_burst.specs.statement.Part.{is_small}
use Rattle.tl_rules.specs.statement.Conformance.{on_link}
use Rattle.tl_memory.{proofs.messages.LinkBeats.large-breaks, proofs.lawful.OpenAccesses.is-fine}
use Rattle.tl_memory.{proofs.lawful.OpenAccesses.legal-on}
use Rattle.tl_memory.proofs.states.PassedBy.{none-along, none-begins, passed-by}
use Rattle.tl_memory.proofs.states.Memories.{is-borne, is-concerned, links-legal, none-expected, none-free}
use Rattle.tl_memory.proofs.states.Memories.{nothing-changed}
use Rattle.tl_memory.proofs.{messages.LinkTables.state-there, states.Memories.passing-concerned}
use Rattle.tl_memory.proofs.memory.Memory.change.Goals as goal

pub returns-then-not-is_small-clause-change : goal.returns-then-not-is_small-clause-change
returns-then-not-is_small-clause-change g c = λ levels t k legal fine asked now.
    let link = c.args.link in
    let x = c.args.x.now in
    let f = is-fine _ levels (link, x) t fine in
    let large : is_small x ≡ false = search rules in
    large-breaks f.level x (on_link link.0 t) c.requires (legal-on _ levels link.0 f.level t f.has_level legal) f.fine
    large

pub returns-then-passes_by-clause-change : goal.returns-then-passes_by-clause-change
returns-then-passes_by-clause-change g c = λ levels t k legal fine asked now.
    let link = c.args.link in
    let x = c.args.x.now in
    let yes : c.passes_by.result ≡ true = search rules in
    let passing = sym (c.passes_by.ensures levels t k.links_are legal fine) ∙ yes in
    let its = links-legal levels link x t c.requires legal fine c.args.self.now.links k.links_are
    c.prove_typed.ensures.typed in
    nothing-changed c.none-then-passes_by.result c.args.self.now (length levels) (link, x) t
    c.none-then-passes_by.ensures.block c.none-then-passes_by.ensures.held c.none-then-passes_by.ensures.expected
    (λ block other. passed-by block link x t k.blocks_are.inside its passing)
    (none-begins (length levels) link x t passing) (none-along (length levels) link x t passing)
    (passing-concerned link x t passing)

pub returns-in_default-clause-change : goal.returns-in_default-clause-change
returns-in_default-clause-change g c = λ levels t k legal fine asked now.
    state-there levels c.args.self.now.links (c.args.link, c.args.x.now) t k.links_are fine (search rules)

pub returns-in_default-block_borne-clause-change : goal.returns-in_default-block_borne-clause-change
returns-in_default-block_borne-clause-change g c = λ levels t k legal fine asked now.
    let link = c.args.link in
    let x = c.args.x.now in
    let its = links-legal levels link x t c.requires legal fine c.args.self.now.links k.links_are
    c.prove_typed.ensures.typed in
    let messages = (k.links_are.states_are link.0 c.in-Some.known.now (sym c.in-Some.ensures)).messages_are in
    let unborne = sym (c.block_borne.ensures (on_link link.0 t) messages asked) ∙ c.in_default-block_borne.is in
    nothing-changed c.none-in_default-block_borne.result c.args.self.now (length levels) (link, x) t
    c.none-in_default-block_borne.ensures.block c.none-in_default-block_borne.ensures.held
    c.none-in_default-block_borne.ensures.expected (is-borne None link x t k.blocks_are.inside its unborne)
    (none-expected link x (length levels) t its unborne).0 (none-expected link x (length levels) t its unborne).1
    (is-concerned link x None t its unborne)

pub returns-in_err-place-clause-known : goal.returns-in_err-place-clause-known
returns-in_err-place-clause-known g c = λ n t k. record {
  links_are = k.links_are;
  blocks_are = c.meet.ensures.known n t k.blocks_are;
  addressed = k.addressed;
}

pub returns-clause-known : goal.returns-clause-known
returns-clause-known g c = λ n t k. record {
  links_are = k.links_are;
  blocks_are = c.meet.ensures.known n t k.blocks_are;
  addressed = k.addressed;
}

pub returns-clause-change : goal.returns-clause-change
returns-clause-change g c = IfOk-weaker c.changed.result _ _ (λ change h levels t k legal fine asked now. h levels t
    (record {
      links_are = k.links_are;
      blocks_are = c.meet.ensures.known (length levels) t k.blocks_are;
      addressed = k.addressed;
    }) legal fine asked now (sym (c.block_borne.ensures (on_link c.args.link.0 t)
    (k.links_are.states_are c.args.link.0 c.in-Some.known.now (sym c.in-Some.ensures)).messages_are asked)
    ∙ c.in-Some-block_borne.is)
    (c.in_ok-place.ensures.met (length levels) t k.blocks_are))
    c.changed.ensures.change

pub returns-then-not-is_small-clause-free : goal.returns-then-not-is_small-clause-free
returns-then-not-is_small-clause-free g c = λ n t k.
    none-free c.none.result n t c.none.ensures.block c.none.ensures.held

pub returns-then-passes_by-clause-free : goal.returns-then-passes_by-clause-free
returns-then-passes_by-clause-free g c = λ n t k.
    none-free c.none-then-passes_by.result n t c.none-then-passes_by.ensures.block c.none-then-passes_by.ensures.held

pub returns-in_default-clause-free : goal.returns-in_default-clause-free
returns-in_default-clause-free g c = λ n t k.
    none-free c.none-in_default.result n t c.none-in_default.ensures.block c.none-in_default.ensures.held

pub returns-clause-free : goal.returns-clause-free
returns-clause-free g c = IfOk-weaker c.changed.result _ _ (λ change h n t k. h n t
    (record {
      links_are = k.links_are;
      blocks_are = c.meet.ensures.known n t k.blocks_are;
      addressed = k.addressed;
    }) (c.in_ok-place.ensures.met n t k.blocks_are))
    c.changed.ensures.free
