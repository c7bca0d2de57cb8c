use Rattle.std.proofs.Common.{rules, refl, sym, ◌∙◌, ◌≡◌, false, length}
use Rattle.std.{specs.Prelude.None, specs.Prelude.Some}
use Rattle.tl_burst.specs.statement.Part.{is_small}
use Rattle.tl_rules.specs.statement.Conformance.{on_link}
use Rattle.tl_memory.{proofs.messages.LinkBeats.large-breaks, proofs.lawful.OpenAccesses.is-fine}
use Rattle.tl_memory.{proofs.lawful.OpenAccesses.legal-on}
use Rattle.tl_memory.proofs.values.ByteChanges.{same-elsewhere}
use Rattle.tl_memory.proofs.states.Memories.{all-passed, is-borne, links-legal, others-passed}
use Rattle.tl_memory.proofs.{messages.LinkTables.state-there}
use Rattle.tl_memory.proofs.memory.Memory.byte_change.Goals as goal

pub returns-then-not-is_small : goal.returns-then-not-is_small
returns-then-not-is_small g c = λ levels t k legal fine asked.
    let link = c.args.link in
    let x = c.args.x.now in
    let f = is-fine _ levels (link, x) t fine in
    let large : is_small x ≡ false = search rules in
    large-breaks f.level x (on_link link.0 t) c.requires (legal-on _ levels link.0 f.level t f.has_level legal) f.fine
    large

pub returns-in_default : goal.returns-in_default
returns-in_default g c = λ levels t k legal fine asked.
    state-there levels c.args.self.now.links (c.args.link, c.args.x.now) t k.links_are fine (search rules)

pub returns-in_default-block_borne : goal.returns-in_default-block_borne
returns-in_default-block_borne g c = λ levels t k legal fine asked.
    let link = c.args.link in
    let x = c.args.x.now in
    let its = links-legal levels link x t c.requires legal fine c.args.self.now.links k.links_are
    c.prove_typed.ensures.typed in
    let messages = (k.links_are.states_are link.0 c.in-Some.known.now (sym c.in-Some.ensures)).messages_are in
    let unborne = sym (c.block_borne.ensures (on_link link.0 t) messages asked) ∙ c.in_default-block_borne.is in
    let none = is-borne None link x t k.blocks_are.inside its unborne in (
      unborne,
      λ block. same-elsewhere (length levels) block (link, x) t (all-passed None block (link, x) t none refl).elsewhere,
    )

pub returns : goal.returns
returns g c = λ levels t k legal fine asked.
    let link = c.args.link in
    let x = c.args.x.now in
    let n = length levels in
    let own = c.in-Some-block_borne.block in
    let its = links-legal levels link x t c.requires legal fine c.args.self.now.links k.links_are
    c.prove_typed.ensures.typed in
    let messages = (k.links_are.states_are link.0 c.in-Some.known.now (sym c.in-Some.ensures)).messages_are in
    let borne = sym (c.block_borne.ensures (on_link link.0 t) messages asked) ∙ c.in-Some-block_borne.is in (
      borne,
      c.change_in-change.ensures n t k messages its asked borne,
      λ block apart. same-elsewhere n block (link, x) t (others-passed (Some own) own block (link, x) t
          (is-borne (Some own) link x t k.blocks_are.inside its borne) refl apart).elsewhere,
    )
