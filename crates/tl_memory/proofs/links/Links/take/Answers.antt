use Rattle.std.proofs.Common.{arith, refl, sym, ap, ◌≡◌, ◌<◌, ◌∙◌, length, slice_get, slice_set, Some, true, false}
use Rattle.std.{specs.Vec.with_item, proofs.lemmas.Option.slice_get_read}
use Rattle.tl_memory.proofs.messages.LinkTables.{link-there, links-taken}
use Rattle.tl_memory.proofs.links.Links.take.Goals as goal

pub returns-in-Some : goal.returns-in-Some
returns-in-Some g c = λ levels t k legal fine concerned begun.
    let items = c.args.self.now.states.items in
    let old = c.in-Some.state.now in
    let below : c.from.result < length items =
    omega (arith, c.in-Some.ensures.variant.0 refl, c.args.self.now.states.ok) in
    let there : slice_get items c.args.link.0 ≡ Some old = ap (slice_get items) (sym c.from.ensures) ∙ slice_get_read
    items (length items) c.from.result old refl below c.in-Some.ensures.value in
    links-taken levels c.requires c.args.self.now
    (record { states = with_item c.args.self.now.states c.from.result c.take.new.self }) old
    c.take.new.self (length levels) c.args.link c.args.x.now t
    (ap (λ i. slice_set items i c.take.new.self) c.from.ensures) there legal fine k
    (λ known. c.take.ensures levels (length levels) c.args.link t known legal fine concerned begun)

pub returns-in_default : goal.returns-in_default
returns-in_default g c = λ levels t k legal fine concerned begun.
    let there = link-there _ levels (c.args.link, c.args.x.now) t fine in
    let below : c.from.result < c.args.self.now.states.len =
    omega (arith, there, k.count_is, c.from.ensures, c.args.self.now.states.ok) in
    absurd (let no : false ≡ true = c.in_default.ensures.variant.1 below in cc)
