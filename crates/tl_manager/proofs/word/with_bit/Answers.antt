use Rattle.std.specs.Int.{w16}
use Rattle.std.proofs.lemmas.Nat.Bits.{bit_at_set_same, bit_at_set_other, bit_at_clear_same}
use Rattle.tl_manager.proofs.words_of_clients.WordBits.{clear_other}
use Rattle.tl_manager.proofs.word.with_bit.Goals as goal

pub returns-then-is_set-clause-here : goal.returns-then-is_set-clause-here
returns-then-is_set-clause-here c = rw c.if-is_set.true (bit_at_set_same w16 c.args.word c.args.place c.requires)

pub returns-then-is_set-clause-others : goal.returns-then-is_set-clause-others
returns-then-is_set-clause-others c = λ i other. bit_at_set_other w16 c.args.word c.args.place c.requires i other

pub returns-else-is_set-clause-here : goal.returns-else-is_set-clause-here
returns-else-is_set-clause-here c = rw c.if-is_set.false (bit_at_clear_same w16 c.args.word c.args.place c.requires)

pub returns-else-is_set-clause-others : goal.returns-else-is_set-clause-others
returns-else-is_set-clause-others c = λ i other. clear_other c.args.word c.args.place i c.ranges.word.fits c.requires
    other
