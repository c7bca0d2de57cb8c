use Rattle.std.proofs.Common.{refl, ◌≡◌, length, arith, Some}
use Rattle.std.{specs.Prelude.slice_get, proofs.lemmas.Option.slice_get_read}
use Rattle.tl_manager.proofs.judging.Refusing.{knows-absent, knows-refused}
use Rattle.tl_manager.proofs.manager.state.ManagerState.refuse.Goals as goal

pub returns-then-number-len-clause-knows : goal.returns-then-number-len-clause-knows
returns-then-number-len-clause-knows g c = λ config e k.
    let found : slice_get c.args.self.now.link_states.items c.args.link.0 ≡ Some c.index_mut.result.now =
    slice_get_read c.args.self.now.link_states.items (length c.args.self.now.link_states.items) c.args.link.0
    c.index_mut.result.now refl (omega arith) (rw c.from-number.ensures at c.index_mut.ensures.value) in
    rw c.from-number.ensures (knows-refused g.D.Directory.perm_of c.args.self.now _ config c.args.link
    c.index_mut.result.now _ e refl refl found refl refl refl refl k)

pub returns-else-number-len-clause-knows : goal.returns-else-number-len-clause-knows
returns-else-number-len-clause-knows g c = λ config e k. knows-absent g.D.Directory.perm_of _ config c.args.link e k
    (omega arith)
