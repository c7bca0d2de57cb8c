use Rattle.std.proofs.Common.{rules, arith, ◌∙◌, sym, ◌≡◌, None}
use Rattle.std.proofs.lemmas.List.{length-set}
use Rattle.tl_schedule.proofs.Fields.{data-init, data-step, data-fails, data-done, data-left}
use Rattle.tl_schedule.proofs.field.data.Goals as goal

pub loop-i-init : goal.loop-i-init
loop-i-init c = record { read = data-init c.args.count c.args.field.now (search rules); len = search rules }

pub returns-in_err-byte : goal.returns-in_err-byte
returns-in_err-byte c =
    let none : c.from_residual.result ≡ None = search rules in
    none ∙ sym (data-fails c.args.count c.loop-i.i c.loop-i.bytes c.args.field.now c.loop-i.rest.now (omega arith)
    c.loop-i.invariant.read (search rules))

pub loop-i-preserved : goal.loop-i-preserved
loop-i-preserved c = record {
  read = data-step c.args.count c.loop-i.i c.in_ok-byte.byte c.loop-i.bytes c.args.field.now c.loop-i.rest.now
      c.in_ok-byte.after.now (omega arith) c.loop-i.invariant.read (search rules);
  len = length-set _ _ _ ∙ c.loop-i.invariant.len;
}

pub returns-then-not-is_empty : goal.returns-then-not-is_empty
returns-then-not-is_empty c =
    sym (data-left c.args.count c.loop-i.i c.loop-i.bytes c.args.field.now c.loop-i.rest.now (omega arith)
    c.loop-i.invariant.read c.if-not-is_empty.ensures)

pub returns : goal.returns
returns c = sym (data-done c.args.count c.loop-i.i c.loop-i.bytes c.args.field.now c.loop-i.rest.now (omega arith)
    c.loop-i.invariant.read c.if-not-is_empty.ensures)
