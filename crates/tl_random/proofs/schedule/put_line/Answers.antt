use Rattle.std.proofs.Common.{◌+◌, arith}
use Rattle.std.proofs.lemmas.Result.{err_from_is_err_and}
use Rattle.tl_lines.proofs.Parts.{short_part}
use Rattle.tl_random.proofs.Schedules.{gathered, nothing_written, part_written, put}
use Rattle.tl_random.proofs.schedule.put_line.Goals as goal

pub returns-in_err-append_line-clause-err : goal.returns-in_err-append_line-clause-err
returns-in_err-append_line-clause-err g c =
    let p = err_from_is_err_and c.from_residual.result c.from_residual.ensures.1 in
    rw p.1 (λ k had begun few. nothing_written g.row.BYTES c.args.options.now k c.args.out.now.items had _ begun
    (omega (arith, few)))

pub returns-in_err-write_all-clause-err : goal.returns-in_err-write_all-clause-err
returns-in_err-write_all-clause-err g c =
    let p = err_from_is_err_and c.from_residual-in_err-write_all.result c.from_residual-in_err-write_all.ensures.1 in
    rw p.1 (λ k had begun few. part_written g.row.BYTES c.args.options.now (k + 1) c.append_line.new.out.items had _ _
    (gathered g.row.BYTES c.args.options.now k c.args.out.now.items c.append_line.new.out.items had _ begun
    c.in_ok-append_line.ensures.line) (omega (arith, few))
    (short_part _ _ _ (rw c.deref.ensures.value at c.in_err-write_all.ensures.err)))

pub returns-in_ok-write_all-clause-ok : goal.returns-in_ok-write_all-clause-ok
returns-in_ok-write_all-clause-ok g c = λ k had begun.
    put g.row.BYTES c.args.options.now (k + 1) c.append_line.new.out.items c.clear.new.self.items had _ _
    (gathered g.row.BYTES c.args.options.now k c.args.out.now.items c.append_line.new.out.items had _ begun
    c.in_ok-append_line.ensures.line) (rw c.deref.ensures.value at c.in_ok-write_all.ensures.ok) c.clear.ensures.items

pub returns-else-len-ge-CHUNK-clause-ok : goal.returns-else-len-ge-CHUNK-clause-ok
returns-else-len-ge-CHUNK-clause-ok g c = λ k had begun.
    gathered g.row.BYTES c.args.options.now k c.args.out.now.items c.append_line.new.out.items had _ begun
    c.in_ok-append_line.ensures.line
