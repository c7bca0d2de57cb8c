use Rattle.std.proofs.Common.{◌≡◌, ◌∙◌, rules}
use Rattle.std.specs.Prelude.{find, is_some}
use Rattle.tl_memory.specs.code.Writers.{is_named}
use Rattle.tl_memory.specs.statement.Known.{open_for}
use Rattle.tl_memory.proofs.states.Keeping.{finds}
use Rattle.tl_memory.proofs.states.States.{both-found}
use Rattle.tl_memory.proofs.block.BlockState.is_pending.Goals as goal

pub returns : goal.returns
returns g c = λ n block t k to.
    let s = c.args.self.now in
    let here : c.is_some.result ≡ is_some (find (is_named c.args.link.0 c.args.source) s.accesses.items) = search rules in
    here ∙ both-found _ (open_for s.free) n block _ t
    (finds c.args.link.0 c.args.source (open_for s.free) n block t s.accesses.items k.accesses_are to)
