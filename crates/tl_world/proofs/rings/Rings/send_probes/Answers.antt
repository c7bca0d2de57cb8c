use Rattle.std.proofs.Common.{rules, ◌≡◌, ◌==◌, arith}
use Rattle.std.specs.Int.{bit_at}
use Rattle.tl_manager.specs.statement.Handing.{probes}
use Rattle.tl_manager.specs.statement.Holders.{clients_from}
use Rattle.tl_coherence.specs.statement.System.{with_messages}
use Rattle.tl_world.proofs.Queues.{moved-still}
use Rattle.tl_world.proofs.SentProbes.{probes-unsent, probe-sent}
use Rattle.tl_world.proofs.rings.Rings.send_probes.Goals as goal

pub loop-client-init : goal.loop-client-init
unfolding with_messages clients_from
loop-client-init g c = record {
  kept = search rules;
  moved = λ n s carried fits. moved-still n c.args.self.now s carried;
}

pub loop-client-preserved-then-clients-client-eq0 : goal.loop-client-preserved-then-clients-client-eq0
loop-client-preserved-then-clients-client-eq0 g c = record {
  kept = search rules;
  moved = λ n s carried fits.
      rw (probes-unsent c.args.block c.args.cap (λ k. bit_at c.args.clients k == 1) c.loop-client.client (search rules))
      (c.loop-client.invariant.moved n s carried fits);
}

pub loop-client-preserved : goal.loop-client-preserved
loop-client-preserved g c = record {
  kept = search rules;
  moved = λ n s carried fits.
      probe-sent n c.args.self.now c.loop-client.self _ s c.args.block c.args.cap (λ k. bit_at c.args.clients k == 1)
      c.loop-client.client (omega arith) (search rules) c.loop-client.invariant.kept
      (c.loop-client.invariant.moved n s carried fits) (rw (c.probe-message.ensures, c.from.ensures) at
      (c.send.ensures.moved n (with_messages
      (probes c.args.block c.args.cap (clients_from 0 c.loop-client.client (λ k. bit_at c.args.clients k == 1)))
      s))) fits;
}

pub returns-clause-kept : goal.returns-clause-kept
returns-clause-kept g c = c.loop-client.invariant.kept

pub returns-clause-moved : goal.returns-clause-moved
returns-clause-moved g c = λ n s carried fits. let all : c.loop-client.client ≡ 16 = omega arith in
    rw all at (c.loop-client.invariant.moved n s carried fits)
