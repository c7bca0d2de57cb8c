use Rattle.std.proofs.Common.{rules, ap, subst, sym, ◌∙◌, ◌≡◌, ◌∷◌, ◌+◌, ◌*◌, ◌/◌, find, false}
use Rattle.std.specs.Prelude.{None, Some}
use Rattle.tl_beat.{specs.declared.beat.Beat.Beat, specs.declared.channel.Channel.Channel}
use Rattle.tl_beat.{specs.statement.Opcode.a_carries_data}
use Rattle.tl_burst.specs.statement.Messages.{unfinished}
use Rattle.tl_rules.specs.statement.Conformance.{on_link}
use Rattle.tl_memory.{specs.code.Writers.is_named, specs.statement.Known.IsPendingWrite}
use Rattle.tl_memory.{proofs.states.Elsewhere.bytes-kept}
use Rattle.tl_memory.{specs.statement.Known.open_for, proofs.states.Keeping.finds}
use Rattle.tl_memory.proofs.states.States.{at-block, is-found, none-found, reads-only, writes-none}
use Rattle.tl_memory.proofs.block.BlockState.bytes_answered.Goals as goal

pub returns-in_default : goal.returns-in_default
returns-in_default g c = λ n block t k quiet over to unsettled message room now.
    let y = c.args.y.now in
    let none : None ≡ find (is_named c.args.link.0 y.source) c.args.self.now.accesses.items = search rules in
    let found = finds c.args.link.0 y.source (open_for c.args.self.now.free) n block t c.args.self.now.accesses.items
    k.accesses_are to in
    bytes-kept n block c.args.self.now.bytes (c.args.link, Beat.D y) t k.bytes_are quiet
    (λ p lt ended. writes-none (64 * block + p) _ (none-found _ (open_for c.args.self.now.free) n block _ t none found))
    unsettled

pub returns-then-not-carries_data : goal.returns-then-not-carries_data
returns-then-not-carries_data g c = λ n block t k quiet over to unsettled message room now.
    let y = c.args.y.now in
    let there : Some c.in-Some.access.now
    ≡ find (is_named c.args.link.0 y.source) c.args.self.now.accesses.items = search rules in
    let found = finds c.args.link.0 y.source (open_for c.args.self.now.free) n block t c.args.self.now.accesses.items
    k.accesses_are to in
    let one = is-found c.in-Some.access.now _ (open_for c.args.self.now.free) n block _ t there found to in
    let none : a_carries_data one.0.request.opcode ≡ false = ap a_carries_data (sym one.2.asked_is.opcode_is) ∙ sym
    c.carries_data.ensures ∙ c.if-not-carries_data.true in
    bytes-kept n block c.args.self.now.bytes (c.args.link, Beat.D y) t k.bytes_are quiet
    (λ p lt ended. reads-only (64 * block + p) _ one.0 one.1 none) unsettled

pub returns : goal.returns
returns g c = λ n block t k quiet over to unsettled message room now.
    let y = c.args.y.now in
    let burst = unfinished Channel.D (on_link c.args.link.0 t) in
    let there : Some c.in-Some.access.now
    ≡ find (is_named c.args.link.0 y.source) c.args.self.now.accesses.items = search rules in
    let found = finds c.args.link.0 y.source (open_for c.args.self.now.free) n block t c.args.self.now.accesses.items
    k.accesses_are to in
    let one = is-found c.in-Some.access.now _ (open_for c.args.self.now.free) n block _ t there found to in
    rw c.in_ok-new.ensures.ok (c.in_ok-after.ensures.answered g.row.W n block c.args.link y one.0 t k.bytes_are quiet over
    one.1 unsettled (c.standing-standing.ensures g.row.W n block one.0 t k.bytes_are one.2.windows_are) now
    (at-block c.written-write.result (one.0.request.address / 64) block one.0 (Beat.D y ∷ burst) one.3
    (c.written-write.ensures one.0 (Beat.D y ∷ burst) one.2.asked_is
    (subst (λ b. IsPendingWrite c.in-Some.access.now.writer.write b one.0) one.3 one.2.write_is)
    (c.with.ensures burst message room) one.2.lawful)))
