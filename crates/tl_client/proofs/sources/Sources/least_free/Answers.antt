use Rattle.std.proofs.Common.{rules, ◌≡◌, ◌+◌, ◌-◌, suc, sym, ◌∙◌, is_some, arith, true, false}
use Rattle.tl_client.specs.code.Sources.{open_at}
use Rattle.tl_client.proofs.pending.Free.{free_later, free_here, free_nowhere}
use Rattle.tl_client.proofs.sources.Sources.least_free.Goals as goal

pub returns-then-is_none-clause-least : goal.returns-then-is_none-clause-least
returns-then-is_none-clause-least g c =
    let left : c.args.sources - c.loop-source.source ≡ suc (c.args.sources - (c.loop-source.source + 1)) =
    omega arith in
    let free : is_some (open_at c.args.self.now c.loop-source.source) ≡ false = search rules in
    sym (c.loop-source.invariant ∙ free_here (λ s. is_some (open_at c.args.self.now s)) _ _ _ left free)

pub loop-source-preserved : goal.loop-source-preserved
loop-source-preserved g c =
    let left : c.args.sources - c.loop-source.source ≡ suc (c.args.sources - (c.loop-source.source + 1)) =
    omega arith in
    let taken : is_some (open_at c.args.self.now c.loop-source.source) ≡ true = search rules in
    c.loop-source.invariant ∙ free_later (λ s. is_some (open_at c.args.self.now s)) _ _ _ left taken

pub returns-clause-least : goal.returns-clause-least
returns-clause-least g c =
    let left : c.args.sources - c.loop-source.source ≡ 0 = omega arith in
    sym (c.loop-source.invariant ∙ free_nowhere (λ s. is_some (open_at c.args.self.now s)) _ _ left)
