use Rattle.std.proofs.Common.{rules}
use Rattle.std.specs.Prelude.{false}
use Rattle.std.proofs.lemmas.Result.{on_ok_weaker}
use Rattle.tl_witness.proofs.grounds.tell_bytes.Goals as goal

pub returns-in-Ok-clause-bytes : goal.returns-in-Ok-clause-bytes
returns-in-Ok-clause-bytes g c = on_ok_weaker c.tell_lanes_of.result
    (λ told. λ levels l t k fine. told levels l c.args.x.now t (search rules) (c.change.ensures.knows levels l t false k)
    fine (c.in-Ok.ensures.change levels l t k fine))
    c.tell_lanes_of.ensures
