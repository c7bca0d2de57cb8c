use Rattle.std.proofs.Common.{ap, sym, ◌∙◌}
use Rattle.std.specs.Prelude.{Option, ℕ, ◌^◌, is_some, length}
use Rattle.tl_cover.proofs.Apart.{length_apart}
use Rattle.tl_cover.proofs.Links.{asked_is, probe_pending}
use Rattle.tl_cover.proofs.Scenes.{opening_none, opening_some}
use Rattle.tl_monitor.proofs.Within.{begins_within}
use Rattle.tl_cover.specs.statement.Scene.{asked_of, standing_of}
use Rattle.tl_monitor.proofs.Counts.{sum-same}
use Rattle.tl_monitor.specs.statement.Count.{one_if}
use Rattle.tl_rules.specs.statement.Conformance.{on_link}
use Rattle.tl_cover.proofs.covering.Covering.opening.Goals as goal

pub returns-then-not-begins : goal.returns-then-not-begins
returns-then-not-begins g c = λ levels l t closed covers within past.
    opening_none l _ c.args.link.0 t c.args.beat.now
    (sym (c.begins.ensures.under levels l t closed covers.knows
    ∙ begins_within levels c.args.link within c.args.beat.now t)
    ∙ c.if-not-begins.true)

pub returns : goal.returns
returns g c = λ levels l t closed covers within link.
    let h = on_link c.args.link.0 t in
    let past = link.past in
    opening_some l _ c.args.link.0 t c.args.beat.now _
    (sym (c.begins.ensures.under levels l t closed covers.knows
    ∙ begins_within levels c.args.link within c.args.beat.now t)
    ∙ c.if-not-begins.false) covers.follows.line_is
    (c.asked_of.ensures ∙ asked_is l _ c.args.past.now c.args.link.0 t c.block_named-block.result link
    ∙ ap (λ (block : Option ℕ). asked_of c.args.link.0 block t) (c.block_named-block.ensures h past))
    (c.standing.ensures levels l t closed covers within link
    ∙ ap (λ (block : Option ℕ). standing_of l (length levels) c.args.link.0 block t)
    (c.block_named-block.ensures h past))
    (c.len.ensures.counted ∙ sum-same 256 _ _ (λ s lt. ap one_if (past.sinks_are s)))
    (c.depth.ensures h past (length_apart c.args.past.now.probes.items link.apart
    ∙ sum-same (2 ^ 26) _ _ (λ k lt. ap (λ (o : _). one_if (is_some o)) (link.probes_are k)
    ∙ ap one_if (probe_pending c.args.link.0 k t))))
    (c.request_named.ensures h past) past.newest_is (c.answered.ensures h past) (c.is_between.ensures g.row.W h past)
    (c.granting.ensures levels l t closed covers)
