use Rattle.std.proofs.Common.{◌∙◌, rules, sym}
use Rattle.tl_evidence.proofs.Setting.{is-new, none-new, not-new}
use Rattle.tl_evidence.specs.code.Following.{kept_in}
use Rattle.tl_evidence.proofs.set_lines.keep_new.Goals as goal

pub returns-in_default-clause-kept : goal.returns-in_default-clause-kept
returns-in_default-clause-kept c = λ p v small fits.
    none-new c.args.told c.args.before.now p v c.args.count (kept_in c.args.counts.now.items p v) (search rules)

pub returns-then-not-is_one-clause-kept : goal.returns-then-not-is_one-clause-kept
returns-then-not-is_one-clause-kept c = λ p v small fits.
    c.keep.ensures.kept p v small fits
    ∙ is-new c.args.told c.args.before.now p v c.args.count c.in-Some.value (kept_in c.args.counts.now.items p v)
    c.in-Some.is (sym c.is_one.ensures ∙ search rules)

pub returns-else-not-is_one-clause-kept : goal.returns-else-not-is_one-clause-kept
returns-else-not-is_one-clause-kept c = λ p v small fits.
    not-new c.args.told c.args.before.now p v c.args.count (kept_in c.args.counts.now.items p v)
    (sym c.is_one.ensures ∙ search rules)
