use Rattle.std.proofs.Common.{arith, refl, ◌≡◌, ◌<◌, length, slice_get, Some, true, false}
use Rattle.std.{specs.Vec.with_item, proofs.lemmas.Option.slice_get_read}
use Rattle.tl_memory.proofs.states.Tables.{blocks-taken}
use Rattle.tl_memory.proofs.blocks.Blocks.take.Goals as goal

pub returns-in-Some : goal.returns-in-Some
returns-in-Some g c = λ n block x t k at now next passes.
    let b = c.args.self.now in
    let place = c.args.place in
    let old = c.in-Some.state.now in
    let below : place < length b.states.items = omega (arith, c.in-Some.ensures.variant.0 refl, b.states.ok) in
    let there : slice_get b.states.items place ≡ Some old =
    slice_get_read b.states.items (length b.states.items) place old refl below c.in-Some.ensures.value in
    blocks-taken b
    (record { states = with_item b.states place c.take.new.self; places = b.places; last = b.last }) old
    c.take.new.self n block place x t refl refl refl there at
    (λ known. c.take.ensures n block x t known now (next old there)) passes k

pub returns-in_default : goal.returns-in_default
returns-in_default g c = λ n block x t k at now next passes.
    let there = k.table_is.stand block c.args.place at in
    let below : c.args.place < c.args.self.now.states.len = omega (arith, there, c.args.self.now.states.ok) in
    absurd (let no : false ≡ true = c.in_default.ensures.variant.1 below in cc)
