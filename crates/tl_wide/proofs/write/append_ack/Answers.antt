use Rattle.std.proofs.Common.{append_assoc}
use Rattle.tl_beat.specs.statement.Line.{spaced}
use Rattle.tl_wide.proofs.write.append_ack.Goals as goal

pub returns-clause-text : goal.returns-clause-text
unfolding spaced
returns-clause-text g c =
    rw (
      c.append_number.ensures.text,
      c.from-2.ensures,
      c.push-2.ensures.items,
      c.push.ensures.items,
      c.append_digits.ensures.text,
      c.from.ensures,
      c.requires,
    ) (simp append_assoc)
