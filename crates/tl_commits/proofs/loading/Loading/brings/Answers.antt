use Rattle.std.proofs.Common.{◌<◌, ◌≡◌, arith, ap, ap₂, ◌∙◌, get_or}
use Rattle.tl_rules.specs.statement.Effect.{byte_of}
use Rattle.tl_memory.specs.code.ByteSet.{has, nothing}
use Rattle.tl_commits.specs.code.Loading.{had}
use Rattle.tl_commits.proofs.Pieces.{below-more, below-none}
use Rattle.tl_commits.proofs.loading.Loading.brings.Goals as goal

pub loop-i-init : goal.loop-i-init
loop-i-init c = below-none (λ i. had c.args.self.now i (byte_of c.args.value i))

pub loop-i-preserved : goal.loop-i-preserved
loop-i-preserved c =
    let few : c.loop-i.i < 8 = omega (arith, c.loop-i-test.true, c.count-i-end.ensures.few) in
    let place : c.from-i.result ≡ c.loop-i.i = c.from-i.ensures in
    below-more c.loop-i.i (λ i. had c.args.self.now i (byte_of c.args.value i)) c.has.result
    c.loop-i.all c.both-all.result
    (c.has.ensures ∙ ap₂ (λ i v. has (get_or c.args.self.now.values i nothing) v) place
    (ap (λ i. get_or c.spread-bytes.result i 0) place ∙ c.spread-bytes.ensures c.loop-i.i few))
    c.loop-i.invariant c.both-all.ensures
