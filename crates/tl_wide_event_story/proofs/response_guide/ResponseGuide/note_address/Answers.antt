use Rattle.std.proofs.Common.{◌∙◌, ℕ, ap}
use Rattle.tl_wide_event_story.proofs.ResponsesGuided.{asked-more}
use Rattle.tl_wide_event_story.specs.code.Guiding.{asked_after}
use Rattle.tl_wide_event_story.proofs.response_guide.ResponseGuide.note_address.Goals as goal

pub returns : goal.returns
returns g c = λ may links names e k. (
  k.0,
  c.asked_after-self.ensures
      ∙ ap (λ (a : ℕ). asked_after c.args.self.now.link c.args.self.now.source c.args.link c.args.beat.now a) k.1
      ∙ asked-more c.args.self.now.link c.args.self.now.source c.args.link c.args.beat.now names,
)
