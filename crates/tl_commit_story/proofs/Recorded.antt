-- The record of a link goes on with each event, and shows that an event breaks a rule.
use Rattle.std.proofs.Common.{◌≡◌, ◌∙◌, ℕ, Bool, true, false, List, [], ◌∷◌, ◌++◌, refl, ap, sym, subst, append_assoc}
use Rattle.std.specs.Prelude.{Option, Some, slice_get}
use Rattle.tl_allowed.specs.code.Known.{Knows}
use Rattle.tl_allowed.specs.declared.allowances.Allowances.{Allowances}
use Rattle.tl_beat.specs.declared.beat.Beat.{Beat}
use Rattle.tl_beat.specs.declared.beat.Link.{Link}
use Rattle.tl_commits.specs.statement.Events.{Events, beats_of}
use Rattle.tl_events.specs.declared.commit.Commit.{Commit}
use Rattle.tl_events.specs.declared.commit.Event.TheVariants as event
use Rattle.tl_evidence.proofs.Guilt.{convicted_on}
use Rattle.tl_evidence.specs.code.Guilty.{IsGuilty}
use Rattle.tl_explain.specs.code.Recorded.{IsRecordUnder}
use Rattle.tl_explain.specs.declared.recorder.Recorder.{Recorder}
use Rattle.tl_explain.specs.statement.Evidence.{next_line}
use Rattle.tl_params.specs.declared.level.Level.{Level}
use Rattle.tl_params.specs.declared.liberties.Liberties.{Liberties}
use Rattle.tl_params.specs.declared.rule.Rule.{Rule}
use Rattle.tl_rules.specs.statement.Conformance.{Trace}
use Rattle.tl_commit_story.proofs.Numbers.{numbered-next}
use Rattle.tl_commit_story.specs.code.Recording.{KnowsAllowances, KnowsLink, RecordsEvent, TellsLink}
use Rattle.tl_commit_story.specs.declared.link_record.LinkRecord.{LinkRecord}
use Rattle.tl_commit_story.specs.statement.Grounds.{allowance, no_cache_words}
use Rattle.tl_commit_story.specs.statement.Numbered.{no_beat, no_link, numbered}

-- the record takes this beat
abbrev pub Takes : {w : ℕ} → Recorder → Recorder → ℕ → Link → Beat w → Type 0
Takes {w} old new number link x = (l : Liberties) (t : Trace w) → number ≡ next_line t → IsRecordUnder l old t
    → IsRecordUnder l new ((link, x) ∷ t)

module _ {w : ℕ} (old : LinkRecord w) (recorder : Recorder) (number : ℕ) (link : Link)
    (same : recorder.subject ≡ old.recorder.subject) where
  pub beat-recorded : (allowances : Option (Allowances w)) (x : Beat w) → Takes old.recorder recorder number link x
      → ((together : Bool) (levels : List Level) (may : Liberties) (t : Trace w)
      → KnowsAllowances together old.allowances levels may t
      → KnowsAllowances together allowances levels may ((link, x) ∷ t))
      → RecordsEvent old (record old { recorder = recorder; allowances = allowances }) number link (event.Beat x)
  unfolding numbered beats_of
  beat-recorded allowances x takes allows = λ together may levels e at k. record {
    recorded = takes may (numbered e) (numbered-next number e at) k.recorded;
    may_is = k.may_is;
    level_is = rw same k.level_is;
    allowed = allows together levels may (beats_of e) k.allowed;
  }

  pub commit-recorded : Takes old.recorder recorder number no_link (no_beat w) → (x : Commit)
      → RecordsEvent old (record old { recorder = recorder }) number link (event.Commit x)
  unfolding numbered beats_of
  commit-recorded takes x = λ together may levels e at k. record {
    recorded = takes may (numbered e) (numbered-next number e at) k.recorded;
    may_is = k.may_is;
    level_is = rw same k.level_is;
    allowed = k.allowed;
  }

-- the further liberties with one more beat
pub allowed-next : {w : ℕ} (old : Option (Allowances w)) (a new : Allowances w) (link : Link) (x : Beat w)
    → old ≡ Some a
    → ((levels : List Level) (may : Liberties) (t : Trace w) → Knows a levels may t → Knows new levels may ((link, x) ∷ t))
    → (together : Bool) (levels : List Level) (may : Liberties) (t : Trace w) → KnowsAllowances together old levels may t
    → KnowsAllowances together (Some new) levels may ((link, x) ∷ t)
allowed-next old a new link x is takes true levels may t known = absurd (rw is at known)
allowed-next old a new link x is takes false levels may t known = takes levels may t (rw is at known)

-- before any event
pub none-recorded : {w : ℕ} (together : Bool) (r : LinkRecord w) (levels : List Level) (may : Liberties)
    → IsRecordUnder {w = w} may r.recorder [] → r.may ≡ may → r.level ≡ slice_get levels r.recorder.subject.link.0
    → KnowsAllowances together r.allowances levels may [] → KnowsLink together r may levels []
unfolding numbered beats_of
none-recorded together r levels may kept same level allowed = record {
  recorded = kept;
  may_is = same;
  level_is = level;
  allowed = allowed;
}

module _ {w : ℕ} (r : LinkRecord w) (rule : Rule) (link : Link) (was is : List ℕ) where
  -- a beat that the record shows to break the rule
  pub beat-told : (x : Beat w) (evidence mid : List ℕ) → IsGuilty r.may r.level r.recorder rule link x
      → mid ≡ was ++ evidence
      → ((together : Bool) (levels : List Level) (may : Liberties) (e : Events w)
      → KnowsAllowances together r.allowances levels may (beats_of e)
      → is ≡ mid ++ allowance together levels may link x e)
      → TellsLink r rule link (event.Beat x) was is
  beat-told x evidence mid (on, guilty) first then = λ together may levels e k. (
    evidence ++ allowance together levels may link x e,
    then together levels may e k.allowed ∙ rw first (append_assoc was evidence (allowance together levels may link x e)),
    (
      convicted_on r.may may r.level levels r.recorder.subject.link link rule x (numbered e) k.may_is k.level_is on
          (guilty (numbered e)
          (subst (λ (l : Liberties). IsRecordUnder l r.recorder (numbered e)) (sym k.may_is) k.recorded)),
      (evidence, refl),
    ),
  )

  -- a commit of the link
  pub commit-told : (x : Commit) → link ≡ r.recorder.subject.link → is ≡ was ++ no_cache_words r.level
      → TellsLink r rule link (event.Commit x) was is
  commit-told x on says = λ together may levels e k. (
    no_cache_words r.level,
    says,
    ap no_cache_words (k.level_is ∙ ap (λ (l : Link). slice_get levels l.0) (sym on)),
  )
