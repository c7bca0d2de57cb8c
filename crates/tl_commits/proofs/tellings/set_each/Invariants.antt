use Rattle.std.proofs.Common.{◌≡◌, ◌<◌, ◌&&◌, ℕ, length}
use Rattle.std.specs.Prelude.{if◌then◌else◌, nat_lt, slice_index_or}
use Rattle.tl_commits.specs.code.Tellings.{is_in, no_told, written_there}
use Rattle.tl_commits.proofs.tellings.set_each.Given as goal

abbrev pub invariant-loop-place : goal.invariant-loop-place
invariant-loop-place l = (length l.told.items ≡ length l.initial.told.items)
    × ((p : ℕ) → p < length l.initial.told.items → slice_index_or l.told.items p no_told
    ≡ (if nat_lt p l.place && is_in l.places p then written_there l.write l.moment p
    else slice_index_or l.initial.told.items p no_told))
