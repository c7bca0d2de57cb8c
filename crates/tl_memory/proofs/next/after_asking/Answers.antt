use Rattle.std.proofs.Common.{rules, ◌≡◌, true}
use Rattle.std.{proofs.lemmas.Result.IfOk-weaker, specs.Prelude.Some}
use Rattle.tl_beat.specs.declared.beat.Beat.{Beat}
use Rattle.tl_memory.specs.code.Passing.{acquires_from_none}
use Rattle.tl_memory.proofs.states.AskingElsewhere.{acquire-unasked, unasked-elsewhere}
use Rattle.tl_memory.proofs.states.Taken.{seen-other, seen-request}
use Rattle.tl_memory.proofs.next.after_asking.Goals as goal

pub returns-then-acquires_from_none : goal.returns-then-acquires_from_none
returns-then-acquires_from_none g c = λ n block free t k message is here now seen.
    let y = c.args.y.now in
    let link = c.args.link in
    let acquires : acquires_from_none y ≡ true = search rules in
    seen-other (Some c.in_ok-passed.field-0) free c.args.state.now n block (link, Beat.A y) t seen
    (c.in_ok-passed.ensures n block (link, Beat.A y) t k
    (unasked-elsewhere block link y t (record { inside = k.accesses_are.inside; reach_inside = k.outrun_are.inside })
    (acquire-unasked link y t acquires) (is.unsettled (acquire-unasked link y t acquires))))

pub returns : goal.returns
returns g c = IfOk-weaker c.after_request.result _ _ (λ next h n block free t k message is here now seen.
    let y = c.args.y.now in
    seen-request next free c.args.state.now n block c.args.link y t (search rules) seen
    (h n block t k message is here now))
    c.after_request.ensures
