use Rattle.std.proofs.Common.{refl}
use Rattle.std.specs.List.{each_same}
use Rattle.std.proofs.lemmas.Result.{IfOk-weaker}
use Rattle.tl_random.proofs.generator.fresh_world.Goals as goal

pub returns : goal.returns
returns g c = IfOk-weaker c.world_of.result _ _
    (λ world happened. (
      record {
        blocks = c.args.options.now.config.blocks;
        trackers = c.args.options.now.config.trackers;
        clients = c.in_ok-clone.field-0;
        profile = c.args.options.now.config.profile;
      },
      record {
        blocks_are = refl;
        trackers_are = refl;
        clients_are = each_same c.args.options.now.config.clients.items c.in_ok-clone.field-0.items
            c.in_ok-clone.ensures.cases;
        profile_is = refl;
      },
      happened,
    ))
    c.world_of.ensures
