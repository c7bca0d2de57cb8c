use Rattle.std.proofs.Common.{refl}
use Rattle.tl_explain.proofs.follows.Keys.{no_bursts, empty_blocks}
use Rattle.tl_explain.proofs.recorder.Recorder.with_liberties.Goals as goal

pub returns-clause-record : goal.returns-clause-record
returns-clause-record c = λ w.
    let none = no_bursts w c.new.result _ c.new.ensures.a c.new.ensures.b c.new.ensures.c c.new.ensures.d
    c.new.ensures.e in
    record {
      liberties_are = refl;
      bursts_are = λ ch. (none ch).0;
      begun_are = λ ch. (none ch).1;
      blocks_are = empty_blocks w c.new-2.result _ (c.new-2.ensures w);
      turns_are = c.new-3.ensures w c.args.subject;
      held_is = c.new-4.ensures w _ _ c.args.liberties;
    }
