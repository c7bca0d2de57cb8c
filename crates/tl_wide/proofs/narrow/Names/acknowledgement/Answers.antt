use Rattle.std.proofs.Common.{arith, refl, ◌<◌, ◌∙◌}
use Rattle.tl_wide.proofs.Numbering.{one-given, one-refused, place-fits, sink-becomes, sink-beyond, sink-known}
use Rattle.tl_wide.proofs.Numbering.{sinks-kept}
use Rattle.tl_wide.specs.statement.Naming.{sinks}
use Rattle.tl_wide.proofs.narrow.Names.acknowledgement.Goals as goal

pub returns-in_default : goal.returns-in_default
returns-in_default c = λ w x t eb es ek knows.
    let h = rw c.from.ensures at (one-refused 256 c.from.result (sinks t) c.number.new.self c.in_ok-sink.field-0
    c.in_default.is (c.in_ok-sink.ensures (sinks t) knows.sinks_are knows.few_sinks)) in (
      sink-beyond c.args.link x t c.args.sink ek h.0,
      sinks-kept t c.args.self.now _ knows refl refl h.1,
    )

pub returns : goal.returns
returns c = λ w x t eb es ek knows.
    let lt : c.args.link.0 < 256 = omega arith in
    let h = rw c.from.ensures at (one-given 256 c.from.result (sinks t) c.number.new.self c.in_ok-sink.field-0
    c.in-Some.sink c.in-Some.is (c.in_ok-sink.ensures (sinks t) knows.sinks_are knows.few_sinks)) in
    let few_sink = place-fits 256 (sinks t) c.args.sink c.in-Some.sink h.0 h.1 in
    let all = sink-known c.args.link x t c.args.self.now _ c.args.sink lt eb es ek knows refl refl h.2 h.0 in (
      all.0,
      c.id_of.ensures few_sink ∙ sink-becomes c.args.link x t c.args.sink c.in-Some.sink ek h.1,
      all.1,
    )
