use Rattle.std.proofs.Common.{◌++◌, [], append_assoc}
use Rattle.std.proofs.lemmas.List.{append-nil}
use Rattle.std.proofs.KnownBytes.{Appends-trans}
use Rattle.std.proofs.lemmas.Result.{err_from_is_err_and}
use Rattle.tl_lines.proofs.Parts.{part_more, longer, short_part}
use Rattle.tl_lines.proofs.output.write_around.Goals as goal

pub returns-in_err-write_all-clause-err : goal.returns-in_err-write_all-clause-err
returns-in_err-write_all-clause-err g c =
    let p = err_from_is_err_and c.from_residual.result c.from_residual.ensures.1 in
    rw p.1 (longer _ _ _ c.args.back.now
    (longer _ _ _ c.args.name.now (short_part _ _ _ c.in_err-write_all.ensures.err)))

pub returns-in_err-write_all-2-clause-err : goal.returns-in_err-write_all-2-clause-err
returns-in_err-write_all-2-clause-err g c =
    let p = err_from_is_err_and c.from_residual-in_err-write_all-2.result c.from_residual-in_err-write_all-2.ensures.1
    in
    rw p.1 (part_more _ _ _ c.args.front.now c.args.name.now c.args.back.now _ c.in_ok-write_all.ensures.ok
    (short_part _ _ _ (rw c.as_bytes.ensures.value at c.in_err-write_all-2.ensures.err)) (simp append_assoc))

pub returns-in_err-write_all-3-clause-err : goal.returns-in_err-write_all-3-clause-err
returns-in_err-write_all-3-clause-err g c =
    let p = err_from_is_err_and c.from_residual-in_err-write_all-3.result c.from_residual-in_err-write_all-3.ensures.1
    in
    rw p.1 (part_more _ _ _ (c.args.front.now ++ c.args.name.now) c.args.back.now [] _
    (Appends-trans _ _ _ _ _ c.in_ok-write_all.ensures.ok
    (rw c.as_bytes.ensures.value at c.in_ok-write_all-2.ensures.ok)) (short_part _ _ _ c.in_err-write_all-3.ensures.err)
    (simp (append_assoc, append-nil)))

pub returns-clause-ok : goal.returns-clause-ok
returns-clause-ok g c =
    Appends-trans _ _ _ (c.args.front.now ++ c.args.name.now) _
    (Appends-trans _ _ _ _ _ c.in_ok-write_all.ensures.ok
    (rw c.as_bytes.ensures.value at c.in_ok-write_all-2.ensures.ok))
    c.in_ok-write_all-3.ensures.ok
