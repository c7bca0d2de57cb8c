use Rattle.std.proofs.Common.{rules, codes}
use Rattle.clap.specs.Words.{found_of, rows_of}
use Rattle.tl_words.proofs.Tasks.{asked_so, named_so, unasked_so, wide_so}
use Rattle.tl_words.proofs.words.task_named.Goals as goal

pub returns-then-eq-clause-given : goal.returns-then-eq-clause-given
returns-then-eq-clause-given c =
    let rows = rows_of (found_of c.args.found.now) in
    asked_so c.args.name.now (codes "random") rows c.draw.result
    (named_so c.args.name.now (codes "random") (search rules)) c.draw.ensures.drawn

pub returns-then-eq-clause-wrong : goal.returns-then-eq-clause-wrong
returns-then-eq-clause-wrong c =
    let rows = rows_of (found_of c.args.found.now) in
    unasked_so c.args.name.now (codes "random") rows c.draw.result
    (named_so c.args.name.now (codes "random") (search rules)) c.draw.ensures.wrong

pub returns-then-eq-2-clause-given : goal.returns-then-eq-2-clause-given
returns-then-eq-2-clause-given c =
    let rows = rows_of (found_of c.args.found.now) in
    asked_so c.args.name.now (codes "chart") rows c.draw_chart.result
    (named_so c.args.name.now (codes "chart") (search rules)) c.draw_chart.ensures.drawn

pub returns-then-eq-2-clause-wrong : goal.returns-then-eq-2-clause-wrong
returns-then-eq-2-clause-wrong c =
    let rows = rows_of (found_of c.args.found.now) in
    unasked_so c.args.name.now (codes "chart") rows c.draw_chart.result
    (named_so c.args.name.now (codes "chart") (search rules)) c.draw_chart.ensures.wrong

pub returns-then-eq-3-clause-given : goal.returns-then-eq-3-clause-given
returns-then-eq-3-clause-given c =
    let rows = rows_of (found_of c.args.found.now) in
    asked_so c.args.name.now (codes "cover") rows c.tell_covered.result
    (named_so c.args.name.now (codes "cover") (search rules)) c.tell_covered.ensures.told

pub returns-then-eq-3-clause-wrong : goal.returns-then-eq-3-clause-wrong
returns-then-eq-3-clause-wrong c =
    let rows = rows_of (found_of c.args.found.now) in
    unasked_so c.args.name.now (codes "cover") rows c.tell_covered.result
    (named_so c.args.name.now (codes "cover") (search rules)) c.tell_covered.ensures.wrong

pub decode_wide-requires : goal.decode_wide-requires
decode_wide-requires c = (wide_so c.args.name.now (rows_of (found_of c.args.found.now)) (search rules)).1

pub returns-then-is_wide-clause-given : goal.returns-then-is_wide-clause-given
returns-then-is_wide-clause-given c =
    let rows = rows_of (found_of c.args.found.now) in
    asked_so c.args.name.now (codes "decode") rows c.decode_wide.result
    (wide_so c.args.name.now rows (search rules)).0 c.decode_wide.ensures.read

pub returns-then-is_wide-clause-wrong : goal.returns-then-is_wide-clause-wrong
returns-then-is_wide-clause-wrong c =
    let rows = rows_of (found_of c.args.found.now) in
    unasked_so c.args.name.now (codes "decode") rows c.decode_wide.result
    (wide_so c.args.name.now rows (search rules)).0 c.decode_wide.ensures.wrong
