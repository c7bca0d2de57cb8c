use Rattle.std.proofs.Common.{ap, ◌∙◌}
use Rattle.tl_params.specs.declared.perm.Perm.TheVariants as perm
use Rattle.tl_bytes.specs.statement.Free.{is_free}
use Rattle.tl_together.proofs.notes.free_before.Goals as goal

pub returns-in-Some : goal.returns-in-Some
returns-in-Some g c = λ levels may t k links_is said.
    let free = c.freedom_of.ensures levels may t k links_is in (
      free.0 ∙ ap (λ n. is_free n perm.Branch c.args.block t) links_is,
      free.1 ∙ ap (λ n. is_free n perm.Trunk c.args.block t) links_is,
    )

pub returns-in-None : goal.returns-in-None
returns-in-None g c = λ levels may t k links_is said. said c.in-None.is
