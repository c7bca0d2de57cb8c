-- The line that set a value of a byte.
use Rattle.std.specs.Prelude.{ℕ, Bool, not, [], ◌∷◌, ◌==◌, ◌&&◌, if◌then◌else◌, List, find, length}
use Rattle.std.specs.Prelude.{Option, Some, None, is_some}
use Rattle.tl_bytes.specs.declared.telling.Telling.{Telling}
use Rattle.tl_bytes.specs.statement.Bytes.{same_value}
use Rattle.tl_commits.specs.statement.Events.{Events}

-- the possible values are the same, and from the same moment on
abbrev pub same_telling : Telling → Telling → Bool
same_telling x y = same_value x.value y.value && (x.moment == y.moment)

-- the possible value is one of these
abbrev pub is_one : Telling → List Telling → Bool
is_one x values = is_some (find (same_telling x) values)

-- the value v is one of these by an entry that wasn't among those before
abbrev pub comes : ℕ → List Telling → List Telling → Bool
comes v before now = is_some (find (λ x. same_value x.value (Some v) && not (is_one x before)) now)

-- The number of events before the last one with which v came among the possible values of a byte, which are these after
-- each trace. An event that sets the byte to its old value brings this again, from its own moment on. None if
-- no event did.
unfoldable pub set_at : {w : ℕ} → (Events w → List Telling) → ℕ → Events w → Option ℕ
set_at values v [] = None
set_at values v (x ∷ e) = if comes v (values e) (values (x ∷ e)) then Some (length e) else set_at values v e
