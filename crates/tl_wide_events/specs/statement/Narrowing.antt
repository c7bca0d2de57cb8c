-- The answer of a narrower to the next commit.
use Rattle.std.specs.Prelude.{◌≡◌, ◌∷◌, false, true, ℕ, Option, Some, None, Result, Ok, Err}
use Rattle.tl_beat.specs.declared.beat.Link.{Link}
use Rattle.tl_events.specs.declared.commit.Commit.{Commit}
use Rattle.tl_wide.specs.declared.narrow.Narrower.{Narrower}
use Rattle.tl_wide.specs.statement.Naming.{WideTrace, is_beyond, narrow_address}
use Rattle.tl_wide.specs.statement.Narrowing.{Follows}
use Rattle.tl_wide_events.specs.declared.commit.WideCommit.{WideCommit}
use Rattle.tl_wide_events.specs.declared.commit.WideEvent.TheVariants.{Commit as OfCommit}
use Rattle.tl_wide_events.specs.statement.Narrowed.{address_of, commit_at, named_as}

-- The answer to one more commit after beats with the names of a trace: the commit that it becomes, or none if its block
-- has no number left. Then, and on an error, the narrower still follows the trace without it.
abbrev pub IsCommitNarrowed : {w : ℕ} {E : Type 0} → Link → WideCommit → WideTrace w → Result (Option Commit) E
    → Narrower → Type 0
IsCommitNarrowed link x t (Ok (Some narrowed)) after =
    (is_beyond link ((link, named_as (OfCommit x)) ∷ t) ≡ false)
    × (narrowed ≡ commit_at x (narrow_address ((link, named_as (OfCommit x)) ∷ t) (address_of x)))
    × Follows after ((link, named_as (OfCommit x)) ∷ t)
IsCommitNarrowed link x t (Ok None) after =
    (is_beyond link ((link, named_as (OfCommit x)) ∷ t) ≡ true) × Follows after t
IsCommitNarrowed link x t (Err e) after = Follows after t
