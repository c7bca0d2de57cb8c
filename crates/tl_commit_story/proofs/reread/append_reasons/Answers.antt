use Rattle.std.proofs.Common.{rules}
use Rattle.std.proofs.lemmas.Result.{IfOk-weaker}
use Rattle.tl_commit_story.proofs.Told.{front-told}
use Rattle.tl_commit_story.proofs.reread.append_reasons.Goals as goal

pub returns : goal.returns
returns g c = IfOk-weaker c.tell.result _ _
    (λ told tells. λ yes. record {
      link = c.in-Ok.link;
      event = c.in-Ok.event;
      spells = search rules;
      says = λ together may links e at k.
          let so = tells yes together may links e k in (
            so.0,
            front-told c.args.fault c.args.number c.in-Ok.link c.in-Ok.event e c.args.out.now.items
                c.extend_from_slice.new.self.items c.append_rule.new.out.items c.append_event.new.out.items
                c.tell.new.out.items so.0 at c.requires.empty c.in_ok-extend_from_slice.ensures.items
                c.in_ok-append_rule.ensures c.in_ok-append_event.ensures so.1,
            so.2,
          );
    }) c.tell.ensures
