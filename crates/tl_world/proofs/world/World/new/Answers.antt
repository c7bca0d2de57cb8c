use Rattle.std.proofs.Common.{[], refl}
use Rattle.std.proofs.lemmas.Result.{err_from_is_err_and}
use Rattle.tl_world.specs.statement.World.{IsWorld}
use Rattle.tl_world.proofs.Happened.{reached-new}
use Rattle.tl_world.proofs.world.World.new.Goals as goal

pub invariant_of-result : goal.invariant_of-result
unfolding IsWorld
invariant_of-result g c =
    let is = reached-new g.A.Agent.represents g.A.Agent.terms g.D.Directory.perm_of c.args.config
    (record {
      network = record { clients = c.args.clients; manager = c.in_ok-manager.manager; rings = c.in_ok-rings.rings };
      outstanding =
          record { requests = 0; releases = 0 };
    }) c.requires.width c.requires.clients c.in_ok-manager.ensures c.in_ok-rings.ensures.fresh
    c.in_ok-rings.ensures.clear refl refl in
    (c.requires.width, (c.args.config, [], is))

pub returns : goal.returns
returns g c =
    reached-new g.A.Agent.represents g.A.Agent.terms g.D.Directory.perm_of c.args.config
    (record {
      network = record { clients = c.args.clients; manager = c.in_ok-manager.manager; rings = c.in_ok-rings.rings };
      outstanding =
          record { requests = 0; releases = 0 };
    }) c.requires.width c.requires.clients c.in_ok-manager.ensures c.in_ok-rings.ensures.fresh
    c.in_ok-rings.ensures.clear refl refl

pub returns-in_err-manager : goal.returns-in_err-manager
returns-in_err-manager g c = let p = err_from_is_err_and c.from_residual.result c.from_residual.ensures.1 in
    rw (p.1, p.2) c.in_err-manager.ensures
