use Rattle.std.proofs.Common.{rules, ◌≡◌, ◌<◌, None, ap, length, inr, arith}
use Rattle.std.proofs.lemmas.Result.{err_from_is_err_and}
use Rattle.tl_params.specs.declared.config.ClientConfig.{ClientConfig}
use Rattle.tl_params.specs.declared.level.Level.TheVariants as level
use Rattle.tl_params.specs.statement.Config.{config_fault}
use Rattle.tl_client.specs.code.KnowsAny.{KnowsAny, any_terms}
use Rattle.tl_world.specs.code.Holds.{clients_of}
use Rattle.tl_world.proofs.AgentsOfConfig.{no-fault, client-fits, hired, want-of-memory}
use Rattle.tl_world.proofs.agents.agents_of.Goals as goal

pub returns-in_err-agent-clause-err : goal.returns-in_err-agent-clause-err
returns-in_err-agent-clause-err g c =
    let zero : ClientConfig = record { level = level.UL; sources = 0 } in
    let p = err_from_is_err_and c.from_residual-in_err-agent.result c.from_residual-in_err-agent.ensures.1 in
    let fits : config_fault c.args.config.now ≡ None = no-fault (config_fault c.args.config.now) c.in_ok-check.field-0
    (search rules) in
    let inside : c.loop-client.client-index < clients_of c.args.config.now =
    omega (arith, ap length c.as_slice-client-items.ensures.value) in
    let alone = client-fits c.args.config.now c.loop-client.client-index zero fits inside in
    rw (p.1, p.2) (inr (
      fits,
      want-of-memory _ _ (rw (c.as_slice-client-items.ensures.value, alone) at
          c.in_err-agent.ensures),
    ))

pub loop-client-preserved : goal.loop-client-preserved
loop-client-preserved g c =
    let zero : ClientConfig = record { level = level.UL; sources = 0 } in
    let inside : c.loop-client.client-index < clients_of c.args.config.now =
    omega (arith, ap length c.as_slice-client-items.ensures.value) in
    hired KnowsAny any_terms c.args.config.now c.loop-client.client-index c.loop-client.agents.items
    c.push.new.self.items c.in_ok-agent.agent zero c.loop-client.invariant (search rules) inside
    (record {
      fresh = c.in_ok-agent.ensures.1;
      terms_are =
          rw c.as_slice-client-items.ensures.value at c.in_ok-agent.ensures.2;
    })
