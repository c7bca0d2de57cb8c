use Rattle.std.proofs.Common.{[], arith, refl, rules, ℕ, List, Result, Ok, Err}
use Rattle.std.specs.Prelude.{OnErr, Option}
use Rattle.tl_lines.proofs.Parts.{short_part}
use Rattle.tl_lines.specs.statement.Parts.{AppendsPart, AppendsShort}
use Rattle.std.proofs.lemmas.Result.{err_from_is_err_and}
use Rattle.tl_random.specs.statement.Random.{header_of}
use Rattle.tl_random.proofs.Schedules.{begun, cut_short, finished, nothing_written}
use Rattle.tl_random.proofs.schedule.write_lines.Goals as goal

-- where it was an error with which less was written, a part was written
short_where_err : {T E : Type 0} (r : Result T E) (a b : Option (List ℕ)) (bytes : List ℕ)
    → OnErr r (AppendsShort a b bytes) → OnErr r (AppendsPart a b bytes)
short_where_err (Ok x) a b bytes short = tt
short_where_err (Err e) a b bytes short = short_part a b bytes short

pub returns-in_err-generator-clause-err : goal.returns-in_err-generator-clause-err
returns-in_err-generator-clause-err g c =
    let o = c.args.options.now in
    let p = err_from_is_err_and c.from_residual.result c.from_residual.ensures.1 in
    rw p.1 (nothing_written g.row.BYTES o 0 (header_of o.version o.config) _ _
    (begun g.row.BYTES o (header_of o.version o.config) [] _ refl refl) (omega arith))

pub loop-init : goal.loop-init
loop-init g c = begun g.row.BYTES c.args.options.now _ _ _ c.in_ok-append_schedule_header.ensures (search rules)

pub returns-in_err-append_schedule_header-clause-err : goal.returns-in_err-append_schedule_header-clause-err
returns-in_err-append_schedule_header-clause-err g c =
    let o = c.args.options.now in
    let p = err_from_is_err_and c.from_residual-in_err-append_schedule_header.result
    c.from_residual-in_err-append_schedule_header.ensures.1 in
    rw p.1 (nothing_written g.row.BYTES o 0 (header_of o.version o.config) _ _
    (begun g.row.BYTES o (header_of o.version o.config) [] _ refl refl) (omega arith))

pub loop-preserved : goal.loop-preserved
loop-preserved g c = c.in_ok-put_line.ensures.ok c.loop.counter _ c.loop.invariant

pub returns-in_err-put_line-clause-err : goal.returns-in_err-put_line-clause-err
returns-in_err-put_line-clause-err g c =
    let p = err_from_is_err_and c.from_residual-in_err-put_line.result c.from_residual-in_err-put_line.ensures.1 in
    rw p.1 (c.in_err-put_line.ensures.err c.loop.counter _ c.loop.invariant (search rules))

pub returns-in_err-extend_from_slice-clause-err : goal.returns-in_err-extend_from_slice-clause-err
returns-in_err-extend_from_slice-clause-err g c =
    let p = err_from_is_err_and c.from_residual-in_err-extend_from_slice.result
    c.from_residual-in_err-extend_from_slice.ensures.1 in
    rw p.1 (nothing_written g.row.BYTES c.args.options.now c.loop.counter _ _ _ c.loop.invariant (omega arith))

pub returns-clause-ok : goal.returns-clause-ok
returns-clause-ok g c = finished g.row.BYTES c.args.options.now c.loop.counter c.loop.out.items _ _ _ c.loop.invariant
    (search rules) c.write_all.result
    (rw (c.deref.ensures.value, c.in_ok-extend_from_slice.ensures.items) at c.write_all.ensures.ok)

pub returns-clause-err : goal.returns-clause-err
returns-clause-err g c = cut_short g.row.BYTES c.args.options.now c.loop.counter c.loop.out.items _ _ _ c.loop.invariant
    (search rules) c.write_all.result
    (short_where_err c.write_all.result _ _ _
    (rw (c.deref.ensures.value, c.in_ok-extend_from_slice.ensures.items) at c.write_all.ensures.err))
