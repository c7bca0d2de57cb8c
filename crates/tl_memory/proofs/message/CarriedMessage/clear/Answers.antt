use Rattle.std.{proofs.Common.arith, proofs.Common.◌≡◌, specs.Prelude.length}
use Rattle.tl_memory.proofs.messages.Masks.{none_brought}
use Rattle.tl_memory.proofs.message.CarriedMessage.clear.Goals as goal

pub returns-else-count-gt0 : goal.returns-else-count-gt0
returns-else-count-gt0 c = λ w burst k.
    let count : c.count.result ≡ length burst = c.count.ensures w burst k.bytes_are in
    none_brought c.args.self.now burst k (omega (arith, count, c.if-count-gt0.false))
