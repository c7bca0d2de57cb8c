use Rattle.std.proofs.Common.{refl, rules}
use Rattle.tl_wide.proofs.Cut.{piece-a, piece-b, piece-c, piece-d}
use Rattle.tl_wide.proofs.parts.piece.Goals as goal

pub returns-in-A : goal.returns-in-A
returns-in-A g c = piece-a c.args.beat.now c.in-A.x c.args.named c.args.stray c.args.mask c.args.part _ (search rules)
    c.shown_opcode.ensures.value refl refl refl refl refl c.lanes_of.ensures.value refl

pub returns-in-B : goal.returns-in-B
returns-in-B g c = piece-b c.args.beat.now c.in-B.x c.args.named c.args.stray c.args.mask c.args.part _ (search rules)
    refl refl refl refl refl refl c.lanes_of-in-B.ensures.value refl

pub returns-in-C : goal.returns-in-C
returns-in-C g c = piece-c c.args.beat.now c.in-C.x c.args.named c.args.stray c.args.mask c.args.part _ (search rules)
    refl refl refl refl refl c.lanes_of-in-C.ensures.value refl

pub returns-in-D : goal.returns-in-D
returns-in-D g c = piece-d c.args.beat.now c.in-D.x c.args.named c.args.stray c.args.mask c.args.part _ (search rules)
    refl refl refl refl refl refl c.lanes_of-in-D.ensures.value refl
