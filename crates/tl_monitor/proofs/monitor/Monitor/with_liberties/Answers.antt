use Rattle.std.proofs.Common.{length, refl, sym, arith, ◌∙◌}
use Rattle.std.proofs.lemmas.Bool.{eqb-false}
use Rattle.tl_monitor.proofs.Knowing.{knows-new}
use Rattle.tl_monitor.proofs.Middle.{lawful-new}
use Rattle.tl_monitor.proofs.monitor.Monitor.with_liberties.Goals as goal

pub returns : goal.returns
returns g c =
    let some = eqb-false (length c.args.levels.now) 0 (sym c.is_empty.ensures ∙ c.if-is_empty.false) in (
      (omega (arith, some), omega arith),
      knows-new _ c.args.levels.now c.args.liberties refl refl c.in-Ok.ensures,
    )

pub invariant_of-result : goal.invariant_of-result
invariant_of-result g c = record { lawful = lawful-new c.args.liberties c.args.levels.now c.in-Ok.links.items c.in-Ok.ensures }
