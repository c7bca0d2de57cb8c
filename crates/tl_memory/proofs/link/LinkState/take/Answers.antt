use Rattle.std.proofs.Common.{rules, refl, sym, ◌∙◌, ◌≡◌}
use Rattle.std.specs.{Box.box_value, Prelude.option_map}
use Rattle.tl_beat.specs.declared.channel.Channel.{Channel}
use Rattle.tl_burst.specs.statement.Messages.{unfinished}
use Rattle.tl_rules.specs.statement.Conformance.{on_link}
use Rattle.tl_memory.proofs.messages.LinkStates.{link-begins, link-goes_on, link-other}
use Rattle.tl_memory.proofs.lawful.OpenAccesses.{is-fine, legal-on}
use Rattle.tl_memory.proofs.link.LinkState.take.Goals as goal

pub returns-then-first : goal.returns-then-first
returns-then-first g c = λ levels n link t k legal fine concerned first.
    let x = c.args.x.now in
    let past = on_link link.0 t in
    let f = is-fine _ levels (link, x) t fine in
    let messages = c.take.ensures f.level past k.messages_are (legal-on _ levels link.0 f.level t f.has_level legal)
    f.fine concerned in
    let zero : c.count-first.result ≡ 0 = search rules in
    let count = c.count-first.ensures g.row.W (unfinished Channel.D past) k.messages_are.d_is.bytes_are in
    link-begins levels c.requires c.args.self.now (record { messages = c.take.new.self; expected = c.args.begun }) n link x t k
    legal fine messages c.in-D.field-0 (option_map box_value c.args.begun) c.in-D.is refl (sym count ∙ zero) (first c.in-D.field-0 c.in-D.is)

pub returns-else-first : goal.returns-else-first
returns-else-first g c = λ levels n link t k legal fine concerned first.
    let x = c.args.x.now in
    let past = on_link link.0 t in
    let f = is-fine _ levels (link, x) t fine in
    let messages = c.take.ensures f.level past k.messages_are (legal-on _ levels link.0 f.level t f.has_level legal)
    f.fine concerned in
    let some : c.count-first.result ≡ 0 → ⊥ = search rules in
    let count = c.count-first.ensures g.row.W (unfinished Channel.D past) k.messages_are.d_is.bytes_are in
    link-goes_on levels c.requires c.args.self.now (record { messages = c.take.new.self; expected = c.args.self.now.expected }) n
    link x t k legal fine messages c.in-D.field-0 c.in-D.is refl (λ none. some (count ∙ none))

pub returns-in_default : goal.returns-in_default
returns-in_default g c = λ levels n link t k legal fine concerned first.
    let x = c.args.x.now in
    let past = on_link link.0 t in
    let f = is-fine _ levels (link, x) t fine in
    let messages = c.take.ensures f.level past k.messages_are (legal-on _ levels link.0 f.level t f.has_level legal)
    f.fine concerned in
    link-other levels c.requires c.args.self.now (record { messages = c.take.new.self; expected = c.args.self.now.expected }) n
    link x t k legal fine messages c.in_default.not-D refl
