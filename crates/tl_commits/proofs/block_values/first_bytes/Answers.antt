use Rattle.std.proofs.Common.{ap, ◌∙◌}
use Rattle.std.proofs.lemmas.List.{get_or-replicate}
use Rattle.std.specs.Prelude.{Some}
use Rattle.tl_commits.proofs.block_values.first_bytes.Goals as goal

pub returns-then-zero : goal.returns-then-zero
returns-then-zero c = λ place lt.
    c.all.ensures place lt ∙ rw c.if-zero.true (ap Some (get_or-replicate 64 place 0 0 lt))
