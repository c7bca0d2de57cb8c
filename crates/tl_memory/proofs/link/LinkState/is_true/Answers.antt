use Rattle.std.proofs.Common.{rules, refl, subst, true, false, ◌≡◌, ◌||◌, length}
use Rattle.std.specs.Prelude.{option_copied}
use Rattle.tl_beat.specs.declared.channel.Channel.{Channel}
use Rattle.tl_burst.specs.statement.Messages.{unfinished}
use Rattle.tl_rules.specs.statement.Conformance.{on_link}
use Rattle.tl_memory.{specs.code.Allowed.IsAllowed, specs.code.Allowed.is_judged, specs.code.Early.is_doubted}
use Rattle.tl_memory.proofs.messages.Judging.{doubtful-true, judged-true}
use Rattle.tl_memory.proofs.link.LinkState.is_true.Goals as goal

pub returns : goal.returns
returns g c = λ levels n link t k legal fine first later.
    let x = c.args.x.now in
    let burst = unfinished Channel.D (on_link link.0 t) in
    let expected = option_copied c.expected.result in
    let count : c.count.result ≡ length burst =
    c.count.ensures g.row.W burst k.messages_are.d_is.bytes_are in
    let sound : (x.corrupt || x.denied) ≡ false = search rules in
    let judged : is_judged x.opcode ≡ true = search rules in
    let sure : is_doubted x.opcode c.args.self.now.messages.granting ≡ false = search rules in
    judged-true levels n link x t c.requires legal fine c.args.self.now.messages.granting k.messages_are.granting_is
    expected x.opcode c.is_allowed.result refl
    (c.expected.ensures g.row.W n levels link x t k legal fine first later)
    (subst (λ m. IsAllowed expected m x c.is_allowed.result) count c.is_allowed.ensures) sound judged sure

pub returns-then-doubts : goal.returns-then-doubts
returns-then-doubts g c = λ levels n link t k legal fine first later.
    let x = c.args.x.now in
    let doubt : is_doubted x.opcode c.args.self.now.messages.granting ≡ true = search rules in
    doubtful-true levels n link x t c.requires legal fine c.args.self.now.messages.granting k.messages_are.granting_is
    x.opcode refl doubt
