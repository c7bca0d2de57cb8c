use Rattle.std.proofs.Common.{arith, ◌<◌, ◌∙◌, ◌/◌, ◌^◌}
use Rattle.std.proofs.lemmas.Result.{err_from_is_err_and}
use Rattle.std.specs.Prelude.{slice_index_or}
use Rattle.tl_wide.proofs.Numbering.{block-becomes, given, kept, message-beyond, message-known, place-fits, refused}
use Rattle.tl_wide.proofs.Numbering.{source-becomes}
use Rattle.tl_wide.specs.statement.Numbers.{KnowsNumbers}
use Rattle.tl_wide.specs.declared.numbers.Numbers.{Numbers}
use Rattle.tl_wide.specs.statement.Naming.{blocks, sources}
use Rattle.tl_wide.proofs.narrow.Names.message.Goals as goal

pub returns-in_err-numbers : goal.returns-in_err-numbers
returns-in_err-numbers c = λ w x t eb es ek knows.
    let p = err_from_is_err_and c.from_residual.result c.from_residual.ensures.1 in
    let lt : c.args.link.0 < 256 = omega arith in
    let h : (d : Numbers) → KnowsNumbers c.number_message.new.blocks (blocks t)
    × KnowsNumbers (slice_index_or c.number_message.new.sources c.args.link.0 d) (sources c.args.link.0 t) =
    λ d. c.in_err-numbers.ensures.numbered (blocks t) (sources c.args.link.0 t) d knows.blocks_are
    (knows.sources_are c.args.link.0 d lt) knows.few_blocks (knows.few_sources c.args.link.0) in
    rw p.1 (kept t c.args.link c.args.self.now _ knows c.number_message.ensures.long
    (h c.number_message.new.blocks).0 (λ d. (h d).1) c.number_message.ensures.others knows.sinks_are)

pub returns-in_default : goal.returns-in_default
returns-in_default c = λ w x t eb es ek knows.
    let lt : c.args.link.0 < 256 = omega arith in
    let h = λ (d : Numbers). refused (2 ^ 26) 256 (c.args.address / 64) c.args.source (blocks t)
    (sources c.args.link.0 t) c.number_message.new.blocks
    (slice_index_or c.number_message.new.sources c.args.link.0 d) c.in_ok-numbers.numbers c.in_default.is
    (c.in_ok-numbers.ensures.numbered (blocks t) (sources c.args.link.0 t) d knows.blocks_are
    (knows.sources_are c.args.link.0 d lt) knows.few_blocks (knows.few_sources c.args.link.0)) in (
      message-beyond c.args.link x t (c.args.address / 64) c.args.source eb es (h c.number_message.new.blocks).0,
      kept t c.args.link c.args.self.now _ knows c.number_message.ensures.long (h c.number_message.new.blocks).1
          (λ d. (h d).2) c.number_message.ensures.others knows.sinks_are,
    )

pub returns : goal.returns
returns c = λ w x t eb es ek knows.
    let lt : c.args.link.0 < 256 = omega arith in
    let h = λ (d : Numbers). given (2 ^ 26) 256 (c.args.address / 64) c.args.source (blocks t)
    (sources c.args.link.0 t) c.number_message.new.blocks
    (slice_index_or c.number_message.new.sources c.args.link.0 d) c.in_ok-numbers.numbers c.in-Some.block
    c.in-Some.source c.in-Some.is
    (c.in_ok-numbers.ensures.numbered (blocks t) (sources c.args.link.0 t) d knows.blocks_are
    (knows.sources_are c.args.link.0 d lt) knows.few_blocks (knows.few_sources c.args.link.0)) in
    let one = h c.number_message.new.blocks in
    let few_block = place-fits (2 ^ 26) (blocks t) (c.args.address / 64) c.in-Some.block one.0 one.2 in
    let few_source = place-fits 256 (sources c.args.link.0 t) c.args.source c.in-Some.source one.1 one.3 in
    let all = message-known c.args.link x t c.args.self.now _ (c.args.address / 64) c.args.source eb es ek knows
    c.number_message.ensures.long one.4 (λ d. (h d).5) c.number_message.ensures.others knows.sinks_are one.0 one.1 in (
      all.0,
      (
        c.id_of.ensures few_source ∙ source-becomes c.args.link x t c.args.source c.in-Some.source es one.3,
        block-becomes c.args.link x t c.args.address c.in-Some.block c.address_in.result eb one.2
            (c.address_in.ensures few_block),
      ),
      all.1,
    )
