use Rattle.std.proofs.Common.{rules, ◌∙◌, ◌<◌, ◌≡◌, ◌+◌, arith, length}
use Rattle.std.proofs.lemmas.List.{length-set}
use Rattle.std.proofs.lemmas.Result.{on_ok_weaker}
use Rattle.tl_cover.proofs.Links.{levels_kept, link_taken, pasts_taken}
use Rattle.tl_cover.proofs.Rows.{rows_counted}
use Rattle.tl_monitor.proofs.Within.{ends_within}
use Rattle.tl_cover.proofs.covering.Covering.take.Goals as goal

pub returns-clause-follows : goal.returns-clause-follows
returns-clause-follows g c = on_ok_weaker c.take.result (λ taken levels l t knows is had.
    let n = length levels in
    let i = c.args.link.0 in
    let x = c.args.beat.now in
    let line : c.in_ok-self.field-0 ≡ length t + 2 = c.in_ok-self.ensures ∙ omega (arith, had.line_is) in
    let within : i < n = omega (arith, c.requires.within, had.many) in
    record {
      pasts_are = pasts_taken l n c.args.self.now.pasts.items c.from.result c.index_mut.result.now c.take.new.self
          (c.args.link, x) t c.from.ensures (search rules) c.index_mut.ensures.value
          (link_taken l n c.index_mut.result.now c.take.new.self (c.args.link, x) t c.in_ok-self.field-0 c.args.opening
          c.begins-last.result line is
          (c.begins-last.ensures.under levels l _ _ knows ∙ ends_within levels c.args.link within x t) taken)
          had.pasts_are;
      many = length-set c.args.self.now.pasts.items c.from.result c.take.new.self ∙ had.many;
      count_is = had.count_is;
      rows_are = rows_counted l n (c.args.link, x) t c.in_ok-self.field-0 c.args.opening c.args.self.now.rows.items
          c.note_all.new.rows.items line is had.rows_are c.in_ok-note_all.ensures;
      line_is = line ∙ omega arith;
    }) c.take.ensures

pub returns-clause-levels : goal.returns-clause-levels
returns-clause-levels g c = on_ok_weaker c.take.result (λ taken.
    levels_kept c.args.self.now.pasts.items c.from.result c.index_mut.result.now c.take.new.self (search rules)
    c.index_mut.ensures.value taken.level) c.take.ensures
