use Rattle.std.proofs.Common.{◌≡◌, ◌<◌, ◌&&◌, ◌+◌, ◌*◌, ℕ, length}
use Rattle.std.specs.Prelude.{is_some, nat_lt}
use Rattle.tl_burst.specs.statement.Messages.{History}
use Rattle.tl_memory.specs.statement.Links.{KnowsMessages}
use Rattle.tl_commits.specs.code.Tellings.{is_in}
use Rattle.tl_commits.specs.statement.Copies.{brought}
use Rattle.tl_commits.proofs.copied.brought_places.Given as goal

abbrev pub invariant-loop-place : goal.invariant-loop-place
invariant-loop-place g l = (length l.places ≡ 64) × ((t : History g.row.W) → KnowsMessages l.messages t
    → (p : ℕ) → p < 64 → is_in l.places p ≡ (nat_lt p l.place && is_some (brought (64 * l.block + p) t)))
