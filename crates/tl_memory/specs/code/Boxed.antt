-- Lists on the heap.
use Rattle.std.specs.Box.{box_value}
use Rattle.std.specs.Global.{Box, Vec}
use Rattle.std.specs.Prelude.{[], List, Option, Some, None}

-- the items of a list, which is empty if nothing is on the heap
abbrev pub listed : {A : Type 0} → Option (Box (Vec A)) → List A
listed None = []
listed (Some items) = (box_value items).items
