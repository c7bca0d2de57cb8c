use Rattle.tl_bytes.proofs.KnownAt.{known-here, known-past, unknown-here}
use Rattle.tl_bytes.proofs.known_bytes.KnownBytes.at.Goals as goal
use Rattle.tl_bytes.proofs.known_bytes.KnownBytes.at.Goals.{else-place-lt64-via-then-place-lt64+else-self-place-eq1, else-place-lt64-via-else-place-lt64}

pub returns-then-self-place-eq1 : goal.returns-then-self-place-eq1
returns-then-self-place-eq1 c = known-here c.args.self.now c.args.place c.if-place-lt64.true c.if-self-place-eq1.true

pub returns-else-place-lt64 : goal.returns-else-place-lt64
returns-else-place-lt64 c = elim c.else-place-lt64.branch [
  | else-place-lt64-via-then-place-lt64+else-self-place-eq1 w ↦
      unknown-here c.args.self.now c.args.place w.if-place-lt64.true w.if-self-place-eq1.false
  | else-place-lt64-via-else-place-lt64 w ↦ known-past c.args.self.now c.args.place w.if-place-lt64.false
]
