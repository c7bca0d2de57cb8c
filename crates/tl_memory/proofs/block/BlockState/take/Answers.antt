use Rattle.tl_memory.proofs.states.Tables.{next-seen, next-unseen, next-whole}
use Rattle.tl_memory.proofs.block.BlockState.take.Goals as goal

pub returns-in-Some : goal.returns-in-Some
returns-in-Some g c = λ n block x t k now next.
    let seen = next-seen c.args.self.now c.args.next c.in-Some.free n block x t (rw c.in-Some.is at next) in
    c.watch.ensures n block x t (rw c.put.ensures seen.0) seen.1 now

pub returns-in_default : goal.returns-in_default
returns-in_default g c = λ n block x t k now next.
    rw c.put.ensures (next-whole c.args.self.now c.args.next n block x t k
    (next-unseen c.args.self.now c.args.next c.args.free n block x t c.in_default.not-Some next))
