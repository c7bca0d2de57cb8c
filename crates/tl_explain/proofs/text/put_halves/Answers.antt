use Rattle.std.proofs.Common.{arith, ◌-◌, ◌≡◌, length, drop, length-drop}
use Rattle.std.proofs.lemmas.List.{take_all}
use Rattle.tl_explain.proofs.Halves.{halves}
use Rattle.tl_explain.proofs.text.put_halves.Goals as goal

pub returns-clause-text : goal.returns-clause-text
returns-clause-text g c =
    let bytes = c.args.bytes.now in
    let back = length bytes - g.row.K in
    let last : c.bytes_at-last.result ≡ drop back bytes = rw c.bytes_at-last.ensures
    (take_all g.row.K (drop back bytes) (omega (arith, length-drop back bytes, c.requires.halves))) in
    rw (c.put-2.ensures.text, last)
    (halves c.args.at g.row.K back c.args.room.now c.put.new.room bytes (omega (arith, c.requires.halves))
    (omega (arith, c.requires.room)) (rw (c.bytes_at-first.ensures, c.put.ensures.end) at c.put.ensures.text))
