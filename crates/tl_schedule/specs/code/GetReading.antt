-- The line of a Get; only private clauses cite this.
use Rattle.std.specs.Prelude.{◌≡◌, ℕ, List}
use Rattle.tl_beat.specs.statement.Line.{spaced}
use Rattle.tl_schedule.specs.declared.get.GetLine.{GetLine}
use Rattle.tl_schedule.specs.statement.EventLine.{Said, Access, Get, Fits, said_fields}

abbrev pub get_said : GetLine → Said
get_said get = Access get.client get.size get.address Get

-- the text is the line of this Get, whatever the width of beats
abbrev pub SpellsGet : List ℕ → GetLine → Type 0
SpellsGet text get = (w : ℕ) → (text ≡ spaced (said_fields w (get_said get))) × Fits w (get_said get)
