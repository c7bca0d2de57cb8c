use Rattle.std.proofs.Common.{arith, length, rules, sym, ◌∙◌}
use Rattle.std.proofs.lemmas.Bool.{eqb-false}
use Rattle.tl_params.specs.declared.liberties.Liberty.TheVariants.{Ids}
use Rattle.tl_allowed.proofs.Words.{appended-more, appended-whole, link-later, nothing-said}
use Rattle.tl_allowed.proofs.text.append_allowance.Goals as goal

pub loop-liberty-init : goal.loop-liberty-init
loop-liberty-init c = record { said = nothing-said c.args.out.now.items; next = search rules }

pub loop-liberty-preserved : goal.loop-liberty-preserved
loop-liberty-preserved c = record {
  said = appended-more c.args.out.now.items c.loop-liberty.out.items c.extend_from_slice.new.self.items
      c.extend_from_slice-in-loop-liberty.new.self.items
      c.args.liberties.now c.loop-liberty.liberty-index Ids c.loop-liberty.invariant.said (search rules) (search rules)
      (omega arith);
  next = link-later c.loop-liberty.liberty-index;
}

pub returns : goal.returns
returns c =
    let some = eqb-false (length c.args.liberties.now) 0 (sym c.is_empty.ensures ∙ c.if-is_empty.false) in
    appended-whole c.args.out.now.items c.loop-liberty.out.items c.push.new.self.items c.args.liberties.now
    c.loop-liberty.liberty-index c.loop-liberty.invariant.said c.in_ok-push.ensures.items (omega arith) (omega (arith, some))
