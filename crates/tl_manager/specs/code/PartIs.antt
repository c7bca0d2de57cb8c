-- What a beat is to its burst.
use Rattle.std.specs.Prelude.{ℕ, Bool, true, false, Ok, ◌≡◌}
use Rattle.tl_beat.specs.declared.beat.Beat.{Beat}
use Rattle.tl_burst.specs.declared.part.Part.{Part}
use Rattle.tl_burst.specs.declared.part.Part.TheVariants.{First, Last, Only}
use Rattle.tl_burst.specs.statement.Messages.{History, channel_of, unfinished}
use Rattle.tl_burst.specs.statement.Part.{part_of}

abbrev pub IsPartOf : {w : ℕ} → Beat w → Part → History w → Type 0
IsPartOf x part t = Ok part ≡ part_of x (unfinished (channel_of x) t)

abbrev pub is_first_part : Part → Bool
is_first_part First = true
is_first_part Only = true
is_first_part _ = false

abbrev pub is_last_part : Part → Bool
is_last_part Last = true
is_last_part Only = true
is_last_part _ = false
