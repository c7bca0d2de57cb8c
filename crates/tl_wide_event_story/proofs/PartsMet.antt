-- What comes of a part of the wide beat at fault, by the rule.
use Rattle.std.proofs.Common.{◌≡◌, ◌∙◌, ℕ, List, ◌++◌, [], ap, length}
use Rattle.tl_beat.specs.declared.beat.Beat.{Beat}
use Rattle.tl_beat.specs.declared.beat.Link.{Link}
use Rattle.tl_commit_lines.specs.statement.MarkedHeader.{complete_of, levels_of}
use Rattle.tl_evidence.specs.statement.CopyLines.{copy_lines}
use Rattle.tl_events.specs.declared.commit.Event.TheVariants as event
use Rattle.tl_events.specs.declared.rule.CommitRule.{CommitRule}
use Rattle.tl_lines.specs.declared.fault.Fault.TheVariants as fault
use Rattle.tl_params.specs.declared.memory_rule.MemoryRule.{MemoryRule}
use Rattle.tl_params.specs.declared.rule.Rule.{Rule}
use Rattle.tl_wide.specs.declared.beat.WideBeat.{WideBeat}
use Rattle.tl_wide.specs.statement.Naming.{WideTrace}
use Rattle.tl_wide_story.specs.statement.WideNaming as naming
use Rattle.tl_wide_event_story.specs.code.Guiding.{Meets, MeetsCopy, MeetsLink, MeetsResponse}
use Rattle.tl_wide_event_story.specs.declared.copy_guide.CopyGuide.{CopyGuide}
use Rattle.tl_wide_event_story.specs.declared.guide.Kind.TheVariants.{OfCopy, OfLink, OfResponse}
use Rattle.tl_wide_event_story.specs.declared.link_guide.LinkGuide.{LinkGuide}
use Rattle.tl_wide_event_story.specs.declared.passing.Met.{Met}
use Rattle.tl_wide_event_story.specs.declared.passing.Met.TheVariants.{AtFault, Strange, Taken}
use Rattle.tl_wide_event_story.specs.declared.response_guide.ResponseGuide.{ResponseGuide}
use Rattle.tl_wide_event_story.specs.statement.WideGrounds.{beat_address}

module _ {w p : ℕ} (later : List ℕ) (number : ℕ) (link : Link) (x : WideBeat w) (part : Beat p) (is : List ℕ) where
  pub link-met : (old new : LinkGuide w p) (rule : Rule) (met : Met) → MeetsLink old new rule link part met
      → Meets (OfLink old) (OfLink new) later number (fault.Rule rule) link x part is met
  link-met old new rule AtFault meets = λ may links names e k. meets may (levels_of links) e k
  link-met old new rule Taken meets = λ may links names e at k. meets may (levels_of links) e k
  link-met old new rule Strange meets = tt

  pub copy-met : (old new : CopyGuide p) (rule : CommitRule) (address : ℕ) (met : Met)
      → ((l : Link) (t : WideTrace w) → address ≡ beat_address l x t)
      → MeetsCopy old new number (naming.names_of later address) rule link part [] is met
      → Meets {w = w} (OfCopy old) (OfCopy new) later number (fault.CommitRule rule) link x part is met
  copy-met old new rule address AtFault same meets = λ may links names e k.
      let (held, says) = meets may (levels_of links) (complete_of links) e k in (
        held,
        says ∙ ap (λ (a : ℕ). held ++ copy_lines (naming.names_of later a) rule (complete_of links)
            (length (levels_of links)) link.0 (event.Beat part) e) (same link names),
      )
  copy-met old new rule address Taken same meets = λ may links names e at k.
      meets may (levels_of links) (complete_of links) e at k
  copy-met old new rule address Strange same meets = tt

  pub response-met : (old new : ResponseGuide p) (rule : MemoryRule) (met : Met)
      → MeetsResponse old new later number rule link x part [] is met
      → Meets (OfResponse old) (OfResponse new) later number (fault.MemoryRule rule) link x part is met
  response-met old new rule AtFault meets = λ may links names e k. meets may links names e k
  response-met old new rule Taken meets = λ may links names e at k. meets w may links names e at k
  response-met old new rule Strange meets = tt
