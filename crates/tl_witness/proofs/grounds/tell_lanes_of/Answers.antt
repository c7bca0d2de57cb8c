use Rattle.std.proofs.Common.{◌≡◌, ap, append-nil, length, refl, sym, ◌∙◌, ◌++◌}
use Rattle.std.proofs.lemmas.Result.{on_ok_weaker}
use Rattle.tl_beat.specs.declared.beat.Beat.{Beat}
use Rattle.tl_memory.proofs.messages.LinkTables.{link-there}
use Rattle.tl_witness.proofs.Brought.{brings, brings-nothing}
use Rattle.tl_witness.specs.statement.Strays.{beats_come}
use Rattle.tl_witness.proofs.grounds.tell_lanes_of.Goals as goal

pub returns-in-None : goal.returns-in-None
returns-in-None g c = λ levels l x t has k fine is.
    let none = brings-nothing (g.X.Places.names c.args.places.now) (length levels) c.args.link.0 x t x.opcode
    (rw c.in-None.is at (c.expected.ensures levels l x t k fine is)) in
    sym (append-nil c.args.out.now.items) ∙ ap (λ text. c.args.out.now.items ++ text) (sym none)

pub returns-in-Some : goal.returns-in-Some
returns-in-Some g c = on_ok_weaker c.tell_strays.result
    (λ told. λ levels l x t has k fine is.
    let so = brings (g.X.Places.names c.args.places.now) levels l c.args.link x t c.requires c.args.judge.now
    (k.open_knows refl) fine c.args.lanes.now has
    c.told-lanes c.in-Some.expected.now x.opcode refl (rw c.in-Some.is at (c.expected.ensures levels l x t k fine is))
    in
    let come : c.beats_come.result ≡ beats_come c.args.link.0 t =
    c.beats_come.ensures levels l t k (link-there _ levels (c.args.link, Beat.D x) t fine) in
    let said = rw come at told in
    said so.room ∙ ap (λ text. c.args.out.now.items ++ text) so.text_is)
    c.tell_strays.ensures
