use Rattle.std.proofs.Common.{sym, refl}
use Rattle.std.proofs.lemmas.List.{take_rest}
use Rattle.tl_beat.proofs.Spaces.{position_some, nothing_after}
use Rattle.tl_beat.proofs.read.after_space.Goals as goal

pub returns-in-None : goal.returns-in-None
returns-in-None c = nothing_after _ c.args.bytes.now (sym c.in-None.ensures)

pub returns-in-Some : goal.returns-in-Some
returns-in-Some c = rw (take_rest, position_some _ c.args.bytes.now c.in-Some.i (sym c.in-Some.ensures)) refl
