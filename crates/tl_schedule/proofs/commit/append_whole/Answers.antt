use Rattle.std.proofs.Common.{arith}
use Rattle.tl_schedule.proofs.CommitTexts.{word-written, words-written}
use Rattle.tl_schedule.proofs.commit.append_whole.Goals as goal

pub loop-i-preserved : goal.loop-i-preserved
loop-i-preserved c = rw (c.in_ok-append_commit.ensures.text, c.word_store.ensures.store)
    (word-written c.args.link c.args.store.now c.loop-i.i c.loop-i.out.items _ (omega arith) c.loop-i.invariant)

pub returns : goal.returns
returns c = words-written c.args.link c.args.store.now c.loop-i.i c.loop-i.out.items _ (omega arith) c.loop-i.invariant
