-- What a guide knows of the beats of a link, with one more event, and what it says of the event at fault.
use Rattle.std.proofs.Common.{◌≡◌, ◌∙◌, ◌+◌, ◌++◌, ◌∷◌, ℕ, List, [], ap, arith, refl, subst, sym}
use Rattle.std.specs.Prelude.{slice_get}
use Rattle.tl_beat.specs.declared.beat.Beat.{Beat}
use Rattle.tl_beat.specs.declared.beat.Link.{Link}
use Rattle.tl_commit_story.specs.statement.Grounds.{no_cache_words}
use Rattle.tl_commits.specs.statement.Events.{Events, beats_of}
use Rattle.tl_events.specs.declared.commit.Commit.{Commit}
use Rattle.tl_events.specs.declared.commit.Event.TheVariants as event
use Rattle.tl_evidence.proofs.Guilt.{convicted_on}
use Rattle.tl_evidence.specs.code.Guilty.{IsGuilty}
use Rattle.tl_explain.specs.code.Recorded.{IsRecordUnder}
use Rattle.tl_explain.specs.declared.turns.Subject.{Subject}
use Rattle.tl_explain.specs.statement.Evidence.{next_line}
use Rattle.tl_params.specs.declared.level.Level.{Level}
use Rattle.tl_params.specs.declared.liberties.Liberties.{Liberties}
use Rattle.tl_params.specs.declared.rule.Rule.{Rule}
use Rattle.tl_rules.specs.statement.Conformance.{Trace}
use Rattle.tl_wide_event_story.specs.code.Guiding.{ConvictsPart, FollowsLink, KeepsLink, KnowsLinkGuide}
use Rattle.tl_wide_event_story.specs.declared.link_guide.LinkGuide.{LinkGuide}

-- before any event
pub link-begun : {w p : ℕ} (g : LinkGuide w p) (may : Liberties) (levels : List Level) → g.may ≡ may
    → g.level ≡ slice_get levels g.recorder.subject.link.0 → IsRecordUnder {w = p} may g.recorder []
    → g.recorded ≡ 1 → KnowsLinkGuide g may levels []
unfolding beats_of
link-begun g may levels same level kept first = record {
  may_is = same;
  level_is = level;
  records = kept;
  number_is = rw first refl;
}

-- the same beats are recorded
pub link-kept : {w p : ℕ} (old new : LinkGuide w p) → new.may ≡ old.may → new.level ≡ old.level
    → new.recorder ≡ old.recorder → new.recorded ≡ old.recorded → KeepsLink old new
link-kept old new may level recorder recorded = λ l levels e k. record {
  may_is = may ∙ k.may_is;
  level_is = rw (level, recorder) k.level_is;
  records = rw recorder k.records;
  number_is = rw recorded k.number_is;
}

-- a commit is no beat
pub link-commit : {w p : ℕ} (g : LinkGuide w p) (may : Liberties) (levels : List Level) (e : Events p) (link : Link)
    (x : Commit) → KnowsLinkGuide g may levels e → KnowsLinkGuide g may levels ((link, event.Commit x) ∷ e)
unfolding beats_of
link-commit g may levels e link x k = record {
  may_is = k.may_is;
  level_is = k.level_is;
  records = k.records;
  number_is = k.number_is;
}

-- one more beat
pub link-followed : {w p : ℕ} (old new : LinkGuide w p) (number : ℕ) (link : Link) (x : Beat p) → new.may ≡ old.may
    → new.level ≡ old.level → new.recorder.subject ≡ old.recorder.subject → new.recorded ≡ number
    → number ≡ old.recorded + 1
    → ((l : Liberties) (t : Trace p) → number ≡ next_line t → IsRecordUnder l old.recorder t
    → IsRecordUnder l new.recorder ((link, x) ∷ t))
    → FollowsLink old new link (event.Beat x)
unfolding beats_of
link-followed old new number link x may level subject counted next takes = λ l levels e k.
    let at : number ≡ next_line (beats_of e) = next ∙ k.number_is in
    record {
      may_is = may ∙ k.may_is;
      level_is = level ∙ k.level_is ∙ ap (λ (s : Subject). slice_get levels s.link.0) (sym subject);
      records = takes l (beats_of e) at k.records;
      number_is = omega (arith, counted, at);
    }

module _ {w p : ℕ} (g : LinkGuide w p) (link : Link) where
  -- a beat that the record shows to break the rule
  pub link-convicts : (rule : Rule) (x : Beat p) → IsGuilty g.may g.level g.recorder rule link x
      → ConvictsPart g rule link x
  link-convicts rule x (on, guilty) = λ may levels e k.
      convicted_on g.may may g.level levels g.recorder.subject.link link rule x (beats_of e) k.may_is k.level_is on
      (guilty (beats_of e)
      (subst (λ (l : Liberties). IsRecordUnder l g.recorder (beats_of e)) (sym k.may_is) k.records))

  -- the words for a commit of the link
  pub commit-words : (was is : List ℕ) → link ≡ g.recorder.subject.link → is ≡ was ++ no_cache_words g.level
      → (may : Liberties) (levels : List Level) (e : Events p) → KnowsLinkGuide g may levels e
      → is ≡ was ++ no_cache_words (slice_get levels link.0)
  commit-words was is on says = λ may levels e k.
      says
      ∙ ap (λ o. was ++ no_cache_words o) (k.level_is ∙ ap (λ (l : Link). slice_get levels l.0) (sym on))
