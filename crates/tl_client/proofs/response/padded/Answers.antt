use Rattle.std.proofs.Common.{◌≡◌, ℕ, List, ◌++◌, length, drop, replicate, refl}
use Rattle.std.proofs.lemmas.List.{drop-replicate}
use Rattle.tl_client.specs.statement.Offer
use Rattle.tl_client.proofs.response.padded.Goals as goal

over_zeros : (first new : List ℕ) → new ≡ first → new ++ drop (length first) (replicate 64 0) ≡ Offer.padded first
over_zeros first new e = rw (e, drop-replicate {X = ℕ} (length first) 64 0) refl

pub returns : goal.returns
returns c = over_zeros c.args.first.now c.copy_from_slice.new.self c.copy_from_slice.ensures.after
