-- Fields that are written one after another.
use Rattle.std.specs.Prelude.{ℕ, List, [], ◌∷◌, ◌++◌, drop}
use Rattle.tl_schedule.specs.statement.EventLine.{said_fields}
use Rattle.tl_random.specs.declared.request.Request.{Request}
use Rattle.tl_random.specs.statement.Said.{said_of}

-- each after a space
unfoldable pub behind_spaces : List (List ℕ) → List ℕ
behind_spaces [] = []
behind_spaces (field ∷ fields) = 32 ∷ field ++ behind_spaces fields

-- the fields of a request, after that of its client
abbrev pub request_fields : ℕ → Request → List (List ℕ)
request_fields w request = drop 1 (said_fields w (said_of 0 request))
