use Rattle.tl_manager.proofs.words_of_clients.WordBits.{holders-bit}
use Rattle.tl_manager.proofs.bits.Words.holders.Goals as goal

pub returns : goal.returns
returns c = λ i. holders-bit c.args.self.owners c.args.self.sharers i c.args.self.apart
