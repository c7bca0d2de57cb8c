use Rattle.std.proofs.Common.{append_assoc}
use Rattle.tl_beat.specs.statement.Line.{spaced}
use Rattle.tl_wide_lines.proofs.text.append_e.Goals as goal

pub returns : goal.returns
unfolding spaced
returns g c =
    rw (
      c.in_ok-push.ensures.items,
      c.in_ok-append_number.ensures,
      c.from.ensures,
      c.in_ok-append_name.ensures,
    ) (simp append_assoc)
