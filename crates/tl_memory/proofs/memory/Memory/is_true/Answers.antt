use Rattle.std.proofs.Common.{refl, sym, length}
use Rattle.tl_beat.specs.declared.beat.Beat.{Beat}
use Rattle.tl_memory.{proofs.messages.Kept.item-there, proofs.messages.LinkTables.link-there}
use Rattle.tl_memory.proofs.memory.Memory.is_true.Goals as goal

pub returns-in-Some : goal.returns-in-Some
returns-in-Some g c = λ levels t k legal fine change. c.is_true.ensures levels (length levels) c.args.link t
    (k.links_are.states_are c.args.link.0 c.in-Some.state.now (sym c.in-Some.ensures)) legal fine
    (λ first. rw c.begun.ensures (change.expected_is c.args.x.now refl first))
    (λ later. rw c.begun.ensures (change.along_is c.args.x.now refl later))

pub returns-in-None : goal.returns-in-None
returns-in-None g c = λ levels t k legal fine change. absurd
    (item-there c.args.self.now.links.states.items c.args.link.0 (length levels) k.links_are.count_is
    (link-there _ levels (c.args.link, Beat.D c.args.x.now) t fine) c.in-None.ensures)
