use Rattle.std.proofs.Common.{◌≡◌, ◌/◌, ◌<◌, [], ◌∙◌, ap, sym, length, arith}
use Rattle.circular_buffer.specs.Buffer.{buffer}
use Rattle.tl_params.specs.declared.config.ClientConfig.{ClientConfig}
use Rattle.tl_params.specs.declared.level.Level.TheVariants as level
use Rattle.tl_world.specs.code.Carrying.{capacity_at}
use Rattle.tl_world.specs.code.Holds.{clients_of}
use Rattle.tl_world.proofs.Made.{sources-at, one-more}
use Rattle.tl_world.proofs.make.make_rings.Goals as goal

pub loop-at-preserved : goal.loop-at-preserved
loop-at-preserved g c =
    let inside : c.loop-at.at / 5 < clients_of c.args.config.now =
    omega (arith, ap length c.as_slice-clients.ensures.value) in
    let zero : ClientConfig = record { level = level.UL; sources = 0 } in
    let made : capacity_at g.row.W c.args.config.now c.loop-at.at ≡ c.capacity-capacity.result =
    rw (sources-at c.args.config.now (c.loop-at.at / 5) zero inside)
    (sym (rw (c.as_slice-clients.ensures.value, c.channel_at.ensures) at c.capacity-capacity.ensures)) in
    one-more c.args.config.now c.loop-at.at c.loop-at.all.items c.push.new.self.items c.in_ok-new.field-0
    c.loop-at.invariant c.in_ok-push.ensures.items
    (c.in_ok-new.ensures.0 ∙ ap (λ n. buffer [] n) (sym made)) c.in_ok-new.ensures.1
