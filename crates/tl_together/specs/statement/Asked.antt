-- When the request of an access was complete.
use Rattle.std.specs.Prelude.{ℕ, suc, [], ◌∷◌, ◌&&◌, if◌then◌else◌, length, is_some, is_none}
use Rattle.tl_rules.specs.statement.Conformance.{Trace, on_link}
use Rattle.tl_rules.specs.statement.OpenMessages.{open_request}

-- how many beats had been taken when the request with this source was last complete and before wasn't
unfoldable pub asked_at : {w : ℕ} → ℕ → ℕ → Trace w → ℕ
asked_at link source [] = 0
asked_at link source (x ∷ t) =
    if is_some (open_request source (on_link link (x ∷ t))) && is_none (open_request source (on_link link t)) then suc
    (length t) else asked_at link source t
