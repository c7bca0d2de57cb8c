use Rattle.std.proofs.Common.{◌≡◌, ◌<◌, ◌≤◌, ℕ}
use Rattle.tl_commit_story.specs.statement.Cached.{newer}
use Rattle.tl_commit_story.specs.code.Stored.{last_in, stored_of}
use Rattle.tl_commit_story.proofs.stores.Stores.take.Given as goal

abbrev pub invariant-loop-place : goal.invariant-loop-place
invariant-loop-place l = record {
  done : (k : ℕ) → k < l.place
      → last_in l.self.last k ≡ newer l.block k (stored_of l.store) (last_in l.fn.self.last k);
  rest : (k : ℕ) → l.place ≤ k → last_in l.self.last k ≡ last_in l.fn.self.last k;
}
