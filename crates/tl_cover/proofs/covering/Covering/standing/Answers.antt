use Rattle.std.proofs.Common.{ap, ◌∙◌}
use Rattle.std.specs.Prelude.{is_some}
use Rattle.tl_cover.proofs.Awaited.{awaited_any}
use Rattle.tl_cover.proofs.Links.{probe_pending}
use Rattle.tl_cover.proofs.Scenes.{standing_is}
use Rattle.tl_monitor.proofs.Within.{held_within}
use Rattle.tl_rules.specs.statement.Conformance.{on_link}
use Rattle.tl_cover.proofs.covering.Covering.standing.Goals as goal

pub returns : goal.returns
returns g c = λ levels l t closed covers within link.
    let k = c.in-Some.block in
    let past = link.past in
    standing_is l _ c.args.link.0 t c.args.block k _ c.in-Some.is
    (c.held_under.ensures levels l t closed covers.knows ∙ held_within levels c.args.link within l k t)
    (c.has.ensures ∙ past.acquires_are k) (c.has-2.ensures ∙ past.releases_are k)
    (c.is_some.ensures ∙ ap is_some (c.found.ensures ∙ link.probes_are k) ∙ probe_pending c.args.link.0 k t)
    (c.awaits_any.ensures ∙ awaited_any k c.args.past.now.awaited.items (on_link c.args.link.0 t) (past.awaited_are k))
    (c.acquiring.ensures levels l t closed covers) (c.holders.ensures levels l t closed covers)
    (c.holders-2.ensures levels l t closed covers)
