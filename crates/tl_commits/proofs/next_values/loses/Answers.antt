use Rattle.tl_commits.specs.statement.Copies.{link_beats}
use Rattle.tl_commits.proofs.TableJudged.{loses-own}
use Rattle.tl_commits.proofs.next_values.loses.Goals as goal

pub returns-in-C : goal.returns-in-C
returns-in-C g c = λ levels l block e k lt borne.
    rw c.in-C.is (loses-own block c.in-C.x (link_beats c.args.link.0 e) c.loses_stores.result
    (c.loses_stores.ensures levels l e k lt) (rw c.in-C.is at borne))
