-- When a link may read or write a block, by the beats that all links of a manager have carried, and whether there was
-- such a moment for an access.
use Rattle.std.specs.Prelude.{ℕ, zero, suc, Bool, true, false, not, [], ◌∷◌, ◌==◌, ◌&&◌, ◌||◌, Option, Some, None}
use Rattle.std.specs.Prelude.{is_some}
use Rattle.tl_beat.specs.declared.opcode.OpA.{OpA}
use Rattle.tl_beat.specs.declared.opcode.OpA.TheVariants as a
use Rattle.tl_params.specs.declared.perm.Perm.{Perm}
use Rattle.tl_params.specs.declared.perm.Perm.TheVariants as perm
use Rattle.tl_rules.specs.statement.OpenMessages.{open_request}
use Rattle.tl_rules.specs.statement.Conformance.{Trace, on_link, same_perm}
use Rattle.tl_rules.specs.statement.History.{held}

-- ---- conflicting permissions

-- while one link holds the first permission of a block, another may hold the second
abbrev pub leaves : Perm → Perm → Bool
leaves perm.Trunk p = same_perm p perm.None
leaves perm.Branch p = not (same_perm p perm.Trunk)
leaves perm.None p = true

-- this is the link to leave out, if one is left out
abbrev pub is_spared : ℕ → Option ℕ → Bool
is_spared n None = false
is_spared n (Some own) = own == n

-- After t none of the first n links holds a permission of the block that conflicts with `given`. The spared link
-- doesn't count.
unfoldable pub is_free : {w : ℕ} → ℕ → Option ℕ → Perm → ℕ → Trace w → Bool
is_free zero spared given block t = true
is_free (suc n) spared given block t =
    is_free n spared given block t && (is_spared n spared || leaves given (held block (on_link n t)))

-- ---- windows of accesses

-- the permission that a client would need to perform the access itself
abbrev pub needs : OpA → Perm
needs a.Get = perm.Branch
needs a.Intent = perm.None
needs _ = perm.Trunk

-- The request with this source is pending and complete. At some moment since it was complete, none of the first n links
-- held a permission of the block that conflicts with `given`.
unfoldable pub has_window : {w : ℕ} → ℕ → ℕ → ℕ → Perm → ℕ → Trace w → Bool
has_window n link source given block [] = false
has_window n link source given block (x ∷ t) =
    is_some (open_request source (on_link link (x ∷ t))) && (is_free n None given block (x ∷ t) || has_window n link
    source given block t)
