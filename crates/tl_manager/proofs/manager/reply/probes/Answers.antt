use Rattle.std.proofs.Common.{rules, arith}
use Rattle.tl_manager.proofs.messages.Messages.{probes-none, probes-sent, probes-unsent}
use Rattle.tl_manager.proofs.manager.reply.probes.Goals as goal

pub loop-client-init : goal.loop-client-init
loop-client-init g c = record { few = search rules; sent = probes-none _ _ _ _ c.new-handed.ensures }

pub loop-client-preserved-then-clients-client-eq0 : goal.loop-client-preserved-then-clients-client-eq0
loop-client-preserved-then-clients-client-eq0 g c =
    record { few = omega arith; sent = probes-unsent _ _ _ _ _ c.loop-client.invariant.sent (search rules) }

pub loop-client-preserved : goal.loop-client-preserved
loop-client-preserved g c =
    record {
      few = search rules;
      sent =
          rw c.push.ensures.items (probes-sent _ _ _ _ _ c.probe.result c.loop-client.invariant.sent c.probe.ensures
          (search rules));
    }
