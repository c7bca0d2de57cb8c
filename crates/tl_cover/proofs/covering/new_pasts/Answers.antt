use Rattle.std.proofs.Common.{rules, ◌∙◌}
use Rattle.tl_params.specs.declared.level.Level.TheVariants.{UL}
use Rattle.std.proofs.lemmas.List.{take_all}
use Rattle.tl_cover.proofs.Links.{levels_more, link_none, pasts_more}
use Rattle.tl_cover.proofs.covering.new_pasts.Goals as goal

pub loop-level-preserved : goal.loop-level-preserved
loop-level-preserved c = record {
  unused = pasts_more c.loop-level.pasts.items c.push.new.self.items c.in_ok-new.field-0 (search rules)
      c.loop-level.invariant.unused (link_none _ c.in_ok-new.ensures.past c.in_ok-new.ensures.probes c.in_ok-new.ensures.rows);
  levels = levels_more c.loop-level.pasts.items c.push.new.self.items c.in_ok-new.field-0 c.args.levels.now
      c.loop-level.level-index UL c.loop-level-test.true (search rules)
      c.loop-level.invariant.levels c.in_ok-new.ensures.level;
}

pub returns-clause-levels : goal.returns-clause-levels
returns-clause-levels c = c.loop-level.invariant.levels
    ∙ take_all c.loop-level.level-index c.args.levels.now c.loop-level-test.false
