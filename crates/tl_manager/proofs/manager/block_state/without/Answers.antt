use Rattle.tl_manager.proofs.words_of_clients.WordBits.{without-bit}
use Rattle.tl_manager.proofs.manager.block_state.without.Goals as goal

pub returns : goal.returns
returns c = without-bit c.args.word c.with_bit.result c.args.client c.with_bit.ensures.here c.with_bit.ensures.others
