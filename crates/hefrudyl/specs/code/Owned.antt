-- What a handle owns.
use Rattle.std.specs.Prelude.{Option, Some, None}
use mir.Syntax.{Ty}
use base.Fml.{Fml, ftrue}
use denote.RattleType.{RattleType}
use denote.RawPtr.{Ptr}
use Rattle.std.specs.Box.Ownership.{box_owns}

abbrev pub owned : (Ty → Ptr → Fml) → (R : RattleType) → Ptr → Option R.Denot → Fml
owned holds R p None = ftrue
owned holds R p (Some x) = box_owns holds R p x
