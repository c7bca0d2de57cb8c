use Rattle.std.proofs.Common.{arith, ◌<◌, ◌∙◌}
use Rattle.std.proofs.lemmas.Result.{err_from_is_err_and}
use Rattle.std.specs.Prelude.{slice_index_or}
use Rattle.tl_wide.proofs.Numbering.{given, kept, place-fits, refused, response-beyond, response-known, sink-becomes}
use Rattle.tl_wide.proofs.Numbering.{source-becomes}
use Rattle.tl_wide.specs.statement.Numbers.{KnowsNumbers}
use Rattle.tl_wide.specs.declared.numbers.Numbers.{Numbers}
use Rattle.tl_wide.specs.statement.Naming.{sinks, sources}
use Rattle.tl_wide.proofs.narrow.Names.response.Goals as goal

pub returns-in_err-numbers : goal.returns-in_err-numbers
returns-in_err-numbers c = λ w x t eb es ek knows.
    let p = err_from_is_err_and c.from_residual.result c.from_residual.ensures.1 in
    let lt : c.args.link.0 < 256 = omega arith in
    let h : (d : Numbers) → KnowsNumbers (slice_index_or c.number_response.new.sources c.args.link.0 d)
    (sources c.args.link.0 t) × KnowsNumbers c.number_response.new.sinks (sinks t) =
    λ d. c.in_err-numbers.ensures.numbered (sources c.args.link.0 t) (sinks t) d
    (knows.sources_are c.args.link.0 d lt) knows.sinks_are (knows.few_sources c.args.link.0) knows.few_sinks in
    rw p.1 (kept t c.args.link c.args.self.now _ knows c.number_response.ensures.long
    knows.blocks_are (λ d. (h d).0) c.number_response.ensures.others (h c.number_response.new.sinks).1)

pub returns-in_default : goal.returns-in_default
returns-in_default c = λ w x t eb es ek knows.
    let lt : c.args.link.0 < 256 = omega arith in
    let h = λ (d : Numbers). refused 256 256 c.args.source c.args.sink
    (sources c.args.link.0 t) (sinks t) (slice_index_or c.number_response.new.sources c.args.link.0 d)
    c.number_response.new.sinks c.in_ok-numbers.numbers c.in_default.is
    (c.in_ok-numbers.ensures.numbered (sources c.args.link.0 t) (sinks t) d
    (knows.sources_are c.args.link.0 d lt) knows.sinks_are (knows.few_sources c.args.link.0) knows.few_sinks) in (
      response-beyond c.args.link x t c.args.source c.args.sink es ek (h c.number_response.new.sinks).0,
      kept t c.args.link c.args.self.now _ knows c.number_response.ensures.long knows.blocks_are
          (λ d. (h d).1) c.number_response.ensures.others (h c.number_response.new.sinks).2,
    )

pub returns : goal.returns
returns c = λ w x t eb es ek knows.
    let lt : c.args.link.0 < 256 = omega arith in
    let h = λ (d : Numbers). given 256 256 c.args.source c.args.sink
    (sources c.args.link.0 t) (sinks t) (slice_index_or c.number_response.new.sources c.args.link.0 d)
    c.number_response.new.sinks c.in_ok-numbers.numbers c.in-Some.source c.in-Some.sink c.in-Some.is
    (c.in_ok-numbers.ensures.numbered (sources c.args.link.0 t) (sinks t) d
    (knows.sources_are c.args.link.0 d lt) knows.sinks_are (knows.few_sources c.args.link.0) knows.few_sinks) in
    let one = h c.number_response.new.sinks in
    let few_source = place-fits 256 (sources c.args.link.0 t) c.args.source c.in-Some.source one.0 one.2 in
    let few_sink = place-fits 256 (sinks t) c.args.sink c.in-Some.sink one.1 one.3 in
    let all = response-known c.args.link x t c.args.self.now _ c.args.source c.args.sink eb es ek knows
    c.number_response.ensures.long knows.blocks_are (λ d. (h d).4) c.number_response.ensures.others one.5 one.0 one.1 in (
      all.0,
      (
        c.id_of.ensures few_source ∙ source-becomes c.args.link x t c.args.source c.in-Some.source es one.2,
        c.id_of-2.ensures few_sink ∙ sink-becomes c.args.link x t c.args.sink c.in-Some.sink ek one.3,
      ),
      all.1,
    )
