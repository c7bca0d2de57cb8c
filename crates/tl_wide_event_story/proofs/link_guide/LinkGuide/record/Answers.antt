use Rattle.std.proofs.Common.{◌∙◌, refl, rules, sym}
use Rattle.tl_wide_event_story.proofs.LinkRecorded.{link-followed}
use Rattle.tl_wide_event_story.proofs.link_guide.LinkGuide.record.Goals as goal
use Rattle.tl_wide_story.proofs.WideReplaying.{ok_of}

pub returns : goal.returns
returns g c = λ _.
    link-followed c.args.self.now _ c.in-Some.number c.args.link c.args.part.now refl refl c.take.ensures.subject refl
    (search rules) (ok_of c.take.result (sym c.is_err.ensures.value ∙ c.if-is_err.false) c.take.ensures.record)
