use Rattle.std.proofs.Common.{rules, ◌≡◌, ◌≤◌, sym, inl, inr, arith}
use Rattle.tl_coherence.specs.statement.Load.{load}
use Rattle.tl_engine.proofs.Played.{delivered-none, delivered-more, drains-all}
use Rattle.tl_engine.proofs.play.deliver_all.Goals as goal

pub loop-count-init : goal.loop-count-init
loop-count-init g c = λ config log r. delivered-none c.args.form config log c.args.player.now c.args.out.now.items r

pub loop-count-preserved : goal.loop-count-preserved
loop-count-preserved g c = λ config log r.
    let so_far = c.loop-count.invariant config log r in
    delivered-more c.args.form config log c.loop-count.player _ _ c.loop-count.out.items _ c.loop-count.count
    c.in-Some.link c.in-Some.channel so_far
    (search (rules, c.in-Some.ensures.next config _ so_far.reached.0)) c.in_ok-play_delivery-in-Some.ensures

pub returns-in-None : goal.returns-in-None
returns-in-None g c = λ config log r.
    let so_far = c.loop-count.invariant config log r in
    drains-all c.args.form config log _ _ _ c.loop-count.count r.0.given so_far
    (inl (sym (c.in-None.ensures.next config _ so_far.reached.0)))

pub returns : goal.returns
returns g c = λ config log r.
    let so_far = c.loop-count.invariant config log r in
    let all : c.loop-count.count ≡ c.load-load.result = omega arith in
    let load_is = c.load-load.ensures.load config log r.0 in
    let enough : load log ≤ c.loop-count.count = omega (arith, load_is, all) in
    rw (sym all) (drains-all c.args.form config log _ _ _ c.loop-count.count r.0.given so_far (inr enough))
