-- What a guide knows of a block in the cache of a link, with one more event, and what it tells.
use Rattle.std.proofs.Common.{◌≡◌, ◌∙◌, ◌+◌, ◌++◌, ◌∷◌, ℕ, Bool, true, false, List}
use Rattle.std.proofs.Common.{[], ap, append_assoc, cond, length, refl, subst, sym}
use Rattle.std.proofs.lemmas.Bool.{eq-eqb, ne_eqb}
use Rattle.std.specs.Prelude.{◌==◌, ◌&&◌}
use Rattle.tl_beat.specs.declared.beat.Beat.{Beat}
use Rattle.tl_beat.specs.declared.beat.Beat.TheVariants as beat
use Rattle.tl_beat.specs.declared.beat.BeatC.{BeatC}
use Rattle.tl_beat.specs.declared.beat.BeatD.{BeatD}
use Rattle.tl_beat.specs.declared.beat.Link.{Link}
use Rattle.tl_beat.specs.declared.channel.Channel.TheVariants as channel
use Rattle.tl_burst.specs.statement.Messages.{burst_length, on, unfinished}
use Rattle.tl_commit_story.proofs.Followed.{grown-length, unfinished-next}
use Rattle.tl_commits.specs.statement.Completeness.{Completeness}
use Rattle.tl_commits.specs.statement.Copies.{link_beats}
use Rattle.tl_commits.specs.statement.Events.{Events, beats_of}
use Rattle.tl_events.specs.declared.commit.Commit.{Commit}
use Rattle.tl_events.specs.declared.commit.Event.{Event}
use Rattle.tl_events.specs.declared.commit.Event.TheVariants as event
use Rattle.tl_events.specs.declared.rule.CommitRule.{CommitRule}
use Rattle.tl_evidence.specs.code.Following.{KnowsCopy, RecordsCopy}
use Rattle.tl_evidence.specs.declared.copy_record.CopyRecord.{CopyRecord}
use Rattle.tl_evidence.specs.statement.CopyLines.{copy_lines}
use Rattle.tl_params.specs.declared.level.Level.{Level}
use Rattle.tl_params.specs.declared.liberties.Liberties.{Liberties}
use Rattle.tl_rules.specs.statement.Conformance.{on_link}
use Rattle.tl_wide_event_story.specs.code.Guiding.{FollowsCopy, KnowsCopyGuide, TellsCopy}
use Rattle.tl_wide_event_story.specs.declared.copy_guide.CopyGuide.{CopyGuide}
use Rattle.tl_wide_story.specs.statement.WideNaming as naming
use Rattle.tl_witness.specs.statement.Naming.{Naming}

-- ---- the beats of an unfinished report

-- this many beats of the unfinished message on channel C of link n have come
abbrev pub HaveCome : {p : ℕ} → ℕ → ℕ → Events p → Type 0
HaveCome came n e = came ≡ length (unfinished channel.C (link_beats n e))

not-on : (b : Bool) → (b && false) ≡ false
not-on true = refl
not-on false = refl

module _ {p : ℕ} (was n : ℕ) (link : Link) (e : Events p) (known : HaveCome was n e) where
  -- after a commit
  pub came-commit : (x : Commit) → HaveCome was n ((link, event.Commit x) ∷ e)
  unfolding beats_of
  came-commit x = known

  -- a beat of another link or another channel
  came-left : (x : Beat p) → ((link.0 == n) && on channel.C x) ≡ false → HaveCome was n ((link, event.Beat x) ∷ e)
  unfolding beats_of
  came-left x other = rw (unfinished-next channel.C n link x (beats_of e), other) known

  -- one of channel C of the link
  came-taken : (is : ℕ) (x : Beat p) → ((link.0 == n) && on channel.C x) ≡ true
      → is ≡ cond (was + 1 == burst_length x) 0 (was + 1) → HaveCome is n ((link, event.Beat x) ∷ e)
  unfolding beats_of
  came-taken is x ours counts = rw (
    unfinished-next channel.C n link x (beats_of e),
    ours,
    grown-length x (unfinished channel.C (on_link n (beats_of e))),
    ← known,
  ) counts

  pub came-other : (x : Beat p) → (link.0 ≡ n → ⊥) → HaveCome was n ((link, event.Beat x) ∷ e)
  came-other x other = came-left x (let no : (link.0 == n) ≡ false = ne_eqb link.0 n other in rw no refl)

  pub came-silent : (x : Beat p) → ((y : BeatC p) → x ≡ beat.C y → ⊥) → HaveCome was n ((link, event.Beat x) ∷ e)
  came-silent (beat.A y) report = came-left (beat.A y) (not-on _)
  came-silent (beat.B y) report = came-left (beat.B y) (not-on _)
  came-silent (beat.C y) report = absurd (report y refl)
  came-silent (beat.D y) report = came-left (beat.D y) (not-on _)
  came-silent (beat.E y) report = came-left (beat.E y) (not-on _)

  pub came-grant : (x : Beat p) (y : BeatD p) → x ≡ beat.D y → HaveCome was n ((link, event.Beat x) ∷ e)
  came-grant x y at = came-left x (rw at (not-on _))

  pub came-report : (is : ℕ) (x : Beat p) (y : BeatC p) → x ≡ beat.C y → link.0 ≡ n
      → is ≡ cond (was + 1 == burst_length x) 0 (was + 1) → HaveCome is n ((link, event.Beat x) ∷ e)
  came-report is x y at own counts = came-taken is x (rw (eq-eqb link.0 n own, at) refl) counts

-- ---- all that is kept

-- before any event
pub copy-begun : {p : ℕ} (g : CopyGuide p) (may : Liberties) (levels : List Level) (complete : Completeness)
    → KnowsCopy g.record may levels complete [] → g.record.link ≡ g.link → g.giving.came ≡ 0
    → KnowsCopyGuide g may levels complete []
unfolding beats_of on_link unfinished
copy-begun g may levels complete known same none = record { record_is = known; link_is = same; came_is = none }

-- one more event, with which the record became this one
pub copy-followed : {p : ℕ} (old new : CopyGuide p) (recorded : CopyRecord p) (number : ℕ) (link : Link) (x : Event p)
    → RecordsCopy old.record recorded number link x → recorded.link ≡ old.record.link → new.record ≡ recorded
    → new.link ≡ old.link
    → ((e : Events p) → HaveCome old.giving.came old.link.0 e
    → HaveCome new.giving.came old.link.0 ((link, x) ∷ e))
    → FollowsCopy old new number link x
copy-followed {p} old new recorded number link x takes kept is same counts = λ may levels complete e at k. record {
  record_is = subst (λ (r : CopyRecord p). KnowsCopy r may levels complete ((link, x) ∷ e)) (sym is)
      (takes may levels complete e at k.record_is);
  link_is = ap (λ (r : CopyRecord p). r.link) is ∙ kept ∙ k.link_is ∙ sym same;
  came_is = subst (λ (l : Link). HaveCome new.giving.came l.0 ((link, x) ∷ e)) (sym same) (counts e k.came_is);
}

-- ---- the text

-- what is held, and then the values of bytes
pub copy-told : {p : ℕ} (g : CopyGuide p) (names : Naming) (rule : CommitRule) (x : Event p) (was held mid is : List ℕ)
    → mid ≡ was ++ held
    → ((may : Liberties) (levels : List Level) (complete : Completeness) (e : Events p)
    → KnowsCopy g.record may levels complete e → HaveCome g.giving.came g.record.link.0 e
    → is ≡ mid ++ copy_lines names rule complete (length levels) g.record.link.0 x e)
    → TellsCopy g names rule g.link x was is
copy-told {p} g names rule x was held mid is first says = λ may levels complete e k.
    let came : HaveCome g.giving.came g.record.link.0 e =
    subst (λ (l : Link). HaveCome g.giving.came l.0 e) (sym k.link_is) k.came_is in (
      held,
      says may levels complete e k.record_is came
          ∙ ap (λ (l : Link). mid ++ copy_lines names rule complete (length levels) l.0 x e) k.link_is
          ∙ ap (λ (text : List ℕ). text ++ copy_lines names rule complete (length levels) g.link.0 x e) first
          ∙ append_assoc was held (copy_lines names rule complete (length levels) g.link.0 x e),
    )

-- the same of an event of the link, in the block of this address
pub copy-told-of : {p : ℕ} (g : CopyGuide p) (later : List ℕ) (address whole : ℕ) (rule : CommitRule) (link : Link)
    (x : Event p) (was is : List ℕ) → link ≡ g.link → address ≡ whole
    → TellsCopy g (naming.names_of later address) rule g.link x was is
    → TellsCopy g (naming.names_of later whole) rule link x was is
copy-told-of g later address whole rule link x was is on at tells =
    subst (λ (l : Link). TellsCopy g (naming.names_of later whole) rule l x was is) (sym on)
    (subst (λ (n : ℕ). TellsCopy g (naming.names_of later n) rule g.link x was is) at tells)
