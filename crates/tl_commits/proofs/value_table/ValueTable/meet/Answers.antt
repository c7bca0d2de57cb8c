use Rattle.std.proofs.Common.{arith, ap, refl, rules, subst, ◌≡◌, None}
use Rattle.std.proofs.lemmas.Grind.{common_steps}
use Rattle.std.specs.BTreeMap.{is_at}
use Rattle.std.specs.Map.{lookup}
use Rattle.std.specs.Ordering.{nat_cmp}
use Rattle.tl_commits.specs.code.ValueTable.{IsFresh, KnowsTable, own_in, Table}
use Rattle.tl_commits.proofs.TableJudged.{table-fresh, table-same}
use Rattle.tl_commits.proofs.value_table.ValueTable.meet.Goals as goal

pub returns-in-Ok-clause-knows : goal.returns-in-Ok-clause-knows
returns-in-Ok-clause-knows c = λ w complete n e k.
    let old : Table = record { entries = c.self.inside.blocks.entries; first = c.self.inside.first } in
    let new : Table = record { entries = c.insert.new.self.entries; first = c.self.inside.first } in
    let same : c.args.self.now ≡ old = search rules in
    let none : own_in old c.args.block ≡ None = search rules in
    table-fresh old new complete n c.args.block c.in_ok-fresh.fresh e
    (subst (λ (t : Table). KnowsTable t complete n e) same k) none
    (subst (λ (t : Table). IsFresh t.first c.in_ok-fresh.fresh) same c.in_ok-fresh.ensures) refl
    (λ other. grind (arith, common_steps, c.in-Ok.ensures.updates.0 other))

pub returns-clause-knows : goal.returns-clause-knows
returns-clause-knows c = λ w complete n e k.
    let old : Table = record { entries = c.self.inside.blocks.entries; first = c.self.inside.first } in
    let new : Table = record { entries = c.insert.new.self.entries; first = c.self.inside.first } in
    let same : c.args.self.now ≡ old = search rules in
    table-same old new complete n e (subst (λ (t : Table). KnowsTable t complete n e) same k) refl
    (λ other. ap (lookup (is_at (nat_cmp other))) c.in-Err.ensures.err)
