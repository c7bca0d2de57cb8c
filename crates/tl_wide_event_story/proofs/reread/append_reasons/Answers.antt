use Rattle.std.proofs.Common.{◌∙◌, rules}
use Rattle.tl_wide_event_story.proofs.Retold.{reasons-are}
use Rattle.tl_wide_event_story.proofs.reread.append_reasons.Goals as goal

pub returns : goal.returns
returns g c = λ told. record {
  link = c.in-Ok.link;
  event = c.in-Ok.event;
  spells = c.in-Ok.ensures.spelled;
  says = λ may links t e k.
      let so = c.in_ok-tell.ensures c.if-not-branch.false may links t e k in (
        so.0,
        reasons-are c.args.fault c.args.number c.in-Ok.link c.in-Ok.event c.args.out.now.items
            c.append_front.new.out.items
            c.extend_from_slice.new.self.items c.deref.result.now so.0 c.requires.empty c.in_ok-append_front.ensures
            c.in_ok-extend_from_slice.ensures.items (c.deref.ensures.value ∙ search (rules, so.1)),
        so.2,
      );
}
