use Rattle.std.proofs.Common.{append_assoc}
use Rattle.tl_beat.specs.statement.Line.{spaced}
use Rattle.tl_wide.proofs.write.append_b.Goals as goal

pub returns-clause-text : goal.returns-clause-text
unfolding spaced
returns-clause-text g c =
    rw (
      c.append_tail.ensures.text,
      c.append_number-2.ensures.text,
      c.append_number.ensures.text,
      c.append_head.ensures.text,
      c.code.ensures,
    ) (simp append_assoc)
