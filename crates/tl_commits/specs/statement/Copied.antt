-- The possible values of a byte of a link's copy.
use Rattle.std.specs.Prelude.{ℕ, [], ◌∷◌, List, Option, Some, None}
use Rattle.tl_bytes.specs.declared.telling.Telling.{Telling}
use Rattle.tl_commits.specs.statement.Completeness.{Completeness}
use Rattle.tl_commits.specs.statement.Copies.{brought, link_beats}
use Rattle.tl_commits.specs.statement.Events.{Events}
use Rattle.tl_commits.specs.statement.Seen.{values_seen}

-- the value that a Grant under way has brought, or these if it has brought none
abbrev pub copied : Option (Option ℕ) → List Telling → List Telling
copied None values = values
copied (Some value) values = record { value = value; moment = 0 } ∷ []

-- the possible values of the byte at an address in the copy of a link, or in the one that a Grant under way brings
abbrev pub copy_values : {w : ℕ} → Completeness → ℕ → ℕ → ℕ → Events w → List Telling
copy_values complete n link address e = copied (brought address (link_beats link e)) (values_seen complete n address e)
