use Rattle.std.proofs.Common.{rules, refl, true, ◌≡◌, find}
use Rattle.tl_bytes.specs.statement.Bytes.{is_get}
use Rattle.std.specs.{Box.box_value, Prelude.option_map}
use Rattle.std.specs.Prelude.{None, Some}
use Rattle.std.proofs.lemmas.Result.{IfOk-weaker}
use Rattle.tl_memory.{specs.code.Writers.is_named, specs.statement.Known.open_for, proofs.states.Keeping.finds}
use Rattle.tl_memory.proofs.states.States.{again-get, again-none, again-other, get-no_put, is-found, none-found}
use Rattle.tl_memory.proofs.block.BlockState.read_again.Goals as goal

pub returns-in_default : goal.returns-in_default
returns-in_default g c = λ n block t k to.
    let s = c.args.self.now in
    let found = finds c.args.link.0 c.args.source (open_for s.free) n block t s.accesses.items k.accesses_are to in
    let none : None ≡ find (is_named c.args.link.0 c.args.source) s.accesses.items = search rules in
    again-none None n _ t (none-found _ (open_for s.free) n block _ t none found) refl

pub returns-then-ne : goal.returns-then-ne
returns-then-ne g c = λ n block t k to.
    let s = c.args.self.now in
    let found = finds c.args.link.0 c.args.source (open_for s.free) n block t s.accesses.items k.accesses_are to in
    let there : Some c.in-Some.access.now
    ≡ find (is_named c.args.link.0 c.args.source) s.accesses.items = search rules in
    let one = is-found c.in-Some.access.now _ (open_for s.free) n block _ t there found to in
    again-other n one.0 _ t one.1 (search rules)

pub returns : goal.returns
returns g c = IfOk-weaker c.read.result _ _ (λ expected h n block t k to.
    let s = c.args.self.now in
    let found = finds c.args.link.0 c.args.source (open_for s.free) n block t s.accesses.items k.accesses_are to in
    let there : Some c.in-Some.access.now
    ≡ find (is_named c.args.link.0 c.args.source) s.accesses.items = search rules in
    let one = is-found c.in-Some.access.now _ (open_for s.free) n block _ t there found to in
    let get : is_get one.0.request.opcode ≡ true = search rules in
    again-get (option_map box_value expected) n block one.0 _ t one.1 one.3 get (h n block t k to (get-no_put one.0 _ one.1 get)))
    c.read.ensures
