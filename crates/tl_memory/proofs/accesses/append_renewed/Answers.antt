use Rattle.std.proofs.Common.{rules, ap, append-nil, append_assoc, sym, ◌∙◌, ◌≡◌, ◌++◌, [], ◌∷◌}
use Rattle.std.proofs.lemmas.List.{take_all}
use Rattle.tl_memory.specs.code.Writers.{found_by}
use Rattle.tl_memory.proofs.states.Keeping.{copied-left, copied-more, copied-none}
use Rattle.tl_memory.proofs.accesses.append_renewed.Goals as goal
use Rattle.tl_memory.proofs.accesses.append_renewed.Goals.{then-stays+in_ok-renewed+in_ok-push, else-stays}

pub loop-access-init : goal.loop-access-init
loop-access-init g c = (
  [],
  sym (append-nil c.args.copies.now.items),
  copied-none c.args.gone (found_by c.args.free c.args.bytes.now c.args.accesses.now c.args.outrun.now) c.args.accesses.now,
)

pub loop-access-preserved : goal.loop-access-preserved
loop-access-preserved g c = elim c.if-stays.branch [
  | then-stays+in_ok-renewed+in_ok-push w ↦
      let pushed : c.if-stays.copies.items ≡ c.loop-access.copies.items ++ w.in_ok-renewed.field-0 ∷ [] = search rules in
      let so_far = c.loop-access.invariant in (
        so_far.0 ++ w.in_ok-renewed.field-0 ∷ [],
        pushed ∙ ap (λ l. l ++ w.in_ok-renewed.field-0 ∷ []) so_far.1
            ∙ append_assoc c.args.copies.now.items so_far.0 (w.in_ok-renewed.field-0 ∷ []),
        copied-more c.args.gone (found_by c.args.free c.args.bytes.now c.args.accesses.now c.args.outrun.now) c.loop-access.access-index
            c.args.accesses.now so_far.0 c.access-item.result w.in_ok-renewed.field-0 so_far.2 c.access-item.is
            c.loop-access-test.true (sym c.stays.ensures ∙ w.if-stays.true) w.in_ok-renewed.ensures,
      )
  | else-stays w ↦
      let so_far = c.loop-access.invariant in (
        so_far.0,
        ap (λ v. v.items) w.copies-is ∙ so_far.1,
        copied-left c.args.gone (found_by c.args.free c.args.bytes.now c.args.accesses.now c.args.outrun.now) c.loop-access.access-index
            c.args.accesses.now so_far.0 c.access-item.result so_far.2 c.access-item.is c.loop-access-test.true
            (sym c.stays.ensures ∙ w.if-stays.false),
      )
]

pub returns : goal.returns
returns g c = (
  c.loop-access.invariant.0,
  c.loop-access.invariant.1,
  rw (take_all c.loop-access.access-index c.args.accesses.now c.loop-access-test.false) at c.loop-access.invariant.2,
)
