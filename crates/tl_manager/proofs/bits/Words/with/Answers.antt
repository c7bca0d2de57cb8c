use Rattle.std.proofs.Common.{rules}
use Rattle.tl_manager.proofs.words_of_clients.WordBits.{apart_with}
use Rattle.tl_manager.proofs.bits.Words.with.Goals as goal

pub invariant_of-result : goal.invariant_of-result
invariant_of-result c = record {
  apart = apart_with c.args.self.owners c.args.self.sharers c.with_bit-owners.result c.with_bit-sharers.result
      c.args.client c.args.perm c.args.self.apart
      (search rules) (search rules) c.with_bit-owners.ensures.others c.with_bit-sharers.ensures.others;
}
