-- The events that a wide event becomes, judged one after another.
use Rattle.std.proofs.Common.{◌≡◌, ◌∙◌, ℕ, List, [], ◌∷◌, ap, refl, subst, sym, inl, inr}
use Rattle.std.specs.Prelude.{false, option_map, Option, Some, None, Err}
use Rattle.tl_beat.specs.declared.beat.Beat.{Beat}
use Rattle.tl_beat.specs.declared.beat.Link.{Link}
use Rattle.tl_beat.specs.statement.Width.{IsWidth}
use Rattle.tl_commits.specs.declared.judge.CommitJudge.{CommitJudge}
use Rattle.tl_commits.specs.declared.rule.CommitBreach.{CommitBreach}
use Rattle.tl_commits.specs.declared.rule.CommitBreach.TheVariants.{OfBeats}
use Rattle.tl_commits.specs.statement.Completeness.{Completeness}
use Rattle.tl_commits.specs.statement.Breaches.{broken_event}
use Rattle.tl_commits.specs.statement.Events.{Events, beats_of}
use Rattle.tl_commits.specs.statement.Knows.{IsEvent, KnowsCommits}
use Rattle.tl_events.specs.declared.commit.Commit.{Commit}
use Rattle.tl_events.specs.declared.commit.Event.{Event}
use Rattle.tl_events.specs.declared.commit.Event.TheVariants as event
use Rattle.tl_params.specs.declared.level.Level.{Level}
use Rattle.tl_params.specs.declared.liberties.Liberties.{Liberties}
use Rattle.tl_params.specs.declared.rule.Rule.{Rule}
use Rattle.tl_monitor.specs.declared.fault.MonitorFault.{MonitorFault}
use Rattle.tl_monitor.specs.declared.fault.MonitorFault.TheVariants as monitor
use Rattle.tl_monitor.specs.declared.monitor.Monitor.{Monitor}
use Rattle.tl_monitor.specs.statement.Knows as alone
use Rattle.tl_monitor.specs.statement.Knows.{KnowsUnder, fault_under}
use Rattle.tl_monitor.specs.statement.Numbers.{IsMoreUnder}
use Rattle.tl_rules.specs.statement.Conformance.{Trace, on_link}
use Rattle.tl_rules.specs.statement.Liberties.{broken_on_link_under}
use Rattle.tl_together.specs.declared.breach.Breach.{Breach}
use Rattle.tl_together.specs.declared.fault.JudgeFault.TheVariants as judge
use Rattle.tl_together.specs.declared.judge.Judge.{Judge}
use Rattle.tl_together.specs.statement.Coherence.{broken_together}
use Rattle.tl_together.specs.statement.Knows as together
use Rattle.tl_wide.proofs.Reached.{by_width}
use Rattle.tl_wide.specs.statement.Width.{IsWideWidth, part_width}
use Rattle.tl_wide_events.specs.statement.Narrowed.{with_events}
use Rattle.tl_sessions.specs.code.WideJudging.{PartsLeft, PartsStop}
use Rattle.tl_sessions.specs.declared.part_judge.PartJudge.{PartJudge}
use Rattle.tl_sessions.specs.declared.part_judge.PartJudge.TheVariants.{OfLinks, OfAll, OfEvents}
use Rattle.tl_sessions.specs.statement.Wide.{Judging, Alone, Together, WithCommits, KnowsParts, RunsOutAt, RunsOutAtEvent}
use Rattle.tl_sessions.specs.statement.Wide.{breach_of, of_link, or_breach, part_breach}

-- the parts of a wide beat have a width
pub part-width : (w p : ℕ) → IsWideWidth w → p ≡ part_width w → IsWidth p
part-width =
    by_width (λ w p. IsWidth p) (inl refl) (inr (inl refl)) (inr (inr refl)) (inr (inr refl)) (inr (inr refl))

-- ---- one beat of a monitor

none-of : (o : Option Rule) → alone.broken o ≡ None → option_map of_link o ≡ None
none-of None e = refl
none-of (Some rule) e = absurd cc

some-of : (o : Option Rule) (rule : Rule) → alone.broken o ≡ Some (monitor.Broken rule)
    → option_map of_link o ≡ Some (of_link rule)
some-of None rule e = absurd cc
some-of (Some other) rule e = cc

-- memory runs out at a beat, which breaks no rule then
no-rule : (o : Option Rule) (fault : MonitorFault) → alone.Answers (alone.broken o) (Err fault)
    → ((rule : Rule) → fault ≡ monitor.Broken rule → ⊥) → (fault ≡ monitor.Memory) × (o ≡ None)
no-rule None monitor.Levels answer other = absurd cc
no-rule None (monitor.Broken found) answer other = absurd (other found refl)
no-rule None monitor.Memory answer other = (refl, refl)
no-rule None monitor.Closed answer other = absurd cc
no-rule (Some rule) monitor.Levels answer other = absurd cc
no-rule (Some rule) (monitor.Broken found) answer other = absurd (other found refl)
no-rule (Some rule) monitor.Memory answer other = absurd cc
no-rule (Some rule) monitor.Closed answer other = absurd cc

module _ {p : ℕ} (link : Link) (x : Beat p) (old new : Monitor p) where
  pub alone-good : ((levels : List Level) (l : Liberties) (t : Trace p) → KnowsUnder old levels l t false
      → fault_under levels l t false (link, x) ≡ None)
      → ((levels : List Level) (l : Liberties) (t : Trace p) → KnowsUnder old levels l t false
      → KnowsUnder new levels l ((link, x) ∷ t) false)
      → (judging : Judging) (levels : List Level) (l : Liberties) (e : Events p)
      → KnowsParts judging (OfLinks old) levels l e → IsEvent {w = p} (event.Beat x)
      → (breach_of judging levels l link (event.Beat x) e ≡ None)
      × KnowsParts judging (OfLinks new) levels l ((link, event.Beat x) ∷ e)
  unfolding beats_of
  alone-good answer knows Alone levels l e known valid = (
    none-of (broken_on_link_under l levels (link, x) (beats_of e)) (answer levels l (beats_of e) known),
    knows levels l (beats_of e) known,
  )
  alone-good answer knows Together levels l e known valid = absurd known
  alone-good answer knows (WithCommits complete) levels l e known valid = absurd known

  pub alone-bad : (rule : Rule) → ((levels : List Level) (l : Liberties) (t : Trace p) → KnowsUnder old levels l t false
      → fault_under levels l t false (link, x) ≡ Some (monitor.Broken rule))
      → (judging : Judging) (levels : List Level) (l : Liberties) (e : Events p)
      → KnowsParts judging (OfLinks old) levels l e → IsEvent {w = p} (event.Beat x)
      → breach_of judging levels l link (event.Beat x) e ≡ Some (of_link rule)
  alone-bad rule answer Alone levels l e known valid =
      some-of (broken_on_link_under l levels (link, x) (beats_of e)) rule (answer levels l (beats_of e) known)
  alone-bad rule answer Together levels l e known valid = absurd known
  alone-bad rule answer (WithCommits complete) levels l e known valid = absurd known

  pub alone-kept : (fault : MonitorFault) → ((rule : Rule) → fault ≡ monitor.Broken rule → ⊥)
      → ((levels : List Level) (l : Liberties) (t : Trace p) → KnowsUnder old levels l t false
      → alone.Answers (fault_under levels l t false (link, x)) (Err fault))
      → ((levels : List Level) (l : Liberties) (t : Trace p) → KnowsUnder old levels l t false
      → KnowsUnder new levels l t false)
      → ((levels : List Level) (l : Liberties) (t : Trace p) → KnowsUnder old levels l t false
      → IsMoreUnder l (on_link link.0 t) x (Err fault))
      → (judging : Judging) (levels : List Level) (l : Liberties) (e : Events p)
      → KnowsParts judging (OfLinks old) levels l e → IsEvent {w = p} (event.Beat x)
      → KnowsParts judging (OfLinks new) levels l e × RunsOutAtEvent judging levels l link (event.Beat x) e
  alone-kept fault other answer knows more Alone levels l e known valid =
      let (memory, none) = no-rule (broken_on_link_under l levels (link, x) (beats_of e)) fault
      (answer levels l (beats_of e) known) other in (
        knows levels l (beats_of e) known,
        (ap (option_map of_link) none, rw memory at (more levels l (beats_of e) known)),
      )
  alone-kept fault other answer knows more Together levels l e known valid = absurd known
  alone-kept fault other answer knows more (WithCommits complete) levels l e known valid = absurd known

-- a monitor takes each commit
pub alone-commit : {p : ℕ} (link : Link) (x : Commit) (m : Monitor p) (judging : Judging) (levels : List Level)
    (l : Liberties) (e : Events p) → KnowsParts judging (OfLinks m) levels l e → IsEvent {w = p} (event.Commit x)
    → (breach_of judging levels l link (event.Commit x) e ≡ None)
    × KnowsParts judging (OfLinks m) levels l ((link, event.Commit x) ∷ e)
unfolding beats_of
alone-commit link x m Alone levels l e known valid = (refl, known)
alone-commit link x m Together levels l e known valid = absurd known
alone-commit link x m (WithCommits complete) levels l e known valid = absurd known

-- ---- one beat of a judge of all links

none-of-all : (o : Option Breach) → together.broken o ≡ None → option_map OfBeats o ≡ None
none-of-all None e = refl
none-of-all (Some breach) e = absurd cc

some-of-all : (o : Option Breach) (breach : Breach) → together.broken o ≡ Some (judge.Broken breach)
    → option_map OfBeats o ≡ Some (OfBeats breach)
some-of-all None breach e = absurd cc
some-of-all (Some other) breach e = cc

module _ {p : ℕ} (link : Link) (x : Beat p) (old new : Judge p) where
  pub together-good : ((levels : List Level) (l : Liberties) (t : Trace p) → together.Knows old levels l t false
      → together.fault_of levels l t false (link, x) ≡ None)
      → ((levels : List Level) (l : Liberties) (t : Trace p) → together.Knows old levels l t false
      → together.Knows new levels l ((link, x) ∷ t) false)
      → (judging : Judging) (levels : List Level) (l : Liberties) (e : Events p)
      → KnowsParts judging (OfAll old) levels l e → IsEvent {w = p} (event.Beat x)
      → (breach_of judging levels l link (event.Beat x) e ≡ None)
      × KnowsParts judging (OfAll new) levels l ((link, event.Beat x) ∷ e)
  unfolding beats_of
  together-good answer knows Together levels l e known valid = (
    none-of-all (broken_together levels l (link, x) (beats_of e)) (answer levels l (beats_of e) known),
    knows levels l (beats_of e) known,
  )
  together-good answer knows Alone levels l e known valid = absurd known
  together-good answer knows (WithCommits complete) levels l e known valid = absurd known

  pub together-bad : (breach : Breach)
      → ((levels : List Level) (l : Liberties) (t : Trace p) → together.Knows old levels l t false
      → together.fault_of levels l t false (link, x) ≡ Some (judge.Broken breach))
      → (judging : Judging) (levels : List Level) (l : Liberties) (e : Events p)
      → KnowsParts judging (OfAll old) levels l e → IsEvent {w = p} (event.Beat x)
      → breach_of judging levels l link (event.Beat x) e ≡ Some (OfBeats breach)
  together-bad breach answer Together levels l e known valid =
      some-of-all (broken_together levels l (link, x) (beats_of e)) breach (answer levels l (beats_of e) known)
  together-bad breach answer Alone levels l e known valid = absurd known
  together-bad breach answer (WithCommits complete) levels l e known valid = absurd known

  pub together-kept : ((levels : List Level) (l : Liberties) (t : Trace p) → together.Knows old levels l t false
      → together.Knows new levels l t false)
      → (judging : Judging) (levels : List Level) (l : Liberties) (e : Events p)
      → KnowsParts judging (OfAll old) levels l e → IsEvent {w = p} (event.Beat x)
      → KnowsParts judging (OfAll new) levels l e × RunsOutAtEvent judging levels l link (event.Beat x) e
  together-kept knows Together levels l e known valid = (knows levels l (beats_of e) known, tt)
  together-kept knows Alone levels l e known valid = absurd known
  together-kept knows (WithCommits complete) levels l e known valid = absurd known

-- a judge of beats takes each commit
pub together-commit : {p : ℕ} (link : Link) (x : Commit) (j : Judge p) (judging : Judging) (levels : List Level)
    (l : Liberties) (e : Events p) → KnowsParts judging (OfAll j) levels l e → IsEvent {w = p} (event.Commit x)
    → (breach_of judging levels l link (event.Commit x) e ≡ None)
    × KnowsParts judging (OfAll j) levels l ((link, event.Commit x) ∷ e)
unfolding beats_of
together-commit link x j Together levels l e known valid = (refl, known)
together-commit link x j Alone levels l e known valid = absurd known
together-commit link x j (WithCommits complete) levels l e known valid = absurd known

-- ---- one event of a judge of beats and commits

module _ {p : ℕ} (link : Link) (x : Event p) (old new : CommitJudge p) where
  pub events-good : ((levels : List Level) (complete : Completeness) (l : Liberties) (e : Events p)
      → KnowsCommits old levels complete l e → IsEvent x → broken_event levels complete l link x e ≡ None)
      → ((levels : List Level) (complete : Completeness) (l : Liberties) (e : Events p)
      → KnowsCommits old levels complete l e → IsEvent x → KnowsCommits new levels complete l ((link, x) ∷ e))
      → (judging : Judging) (levels : List Level) (l : Liberties) (e : Events p)
      → KnowsParts judging (OfEvents old) levels l e → IsEvent x
      → (breach_of judging levels l link x e ≡ None) × KnowsParts judging (OfEvents new) levels l ((link, x) ∷ e)
  events-good answer knows (WithCommits complete) levels l e known valid =
      (answer levels complete l e known valid, knows levels complete l e known valid)
  events-good answer knows Alone levels l e known valid = absurd known
  events-good answer knows Together levels l e known valid = absurd known

  pub events-bad : (breach : CommitBreach) →
      ((levels : List Level) (complete : Completeness) (l : Liberties) (e : Events p)
      → KnowsCommits old levels complete l e → IsEvent x → broken_event levels complete l link x e ≡ Some breach)
      → (judging : Judging) (levels : List Level) (l : Liberties) (e : Events p)
      → KnowsParts judging (OfEvents old) levels l e → IsEvent x → breach_of judging levels l link x e ≡ Some breach
  events-bad breach answer (WithCommits complete) levels l e known valid = answer levels complete l e known valid
  events-bad breach answer Alone levels l e known valid = absurd known
  events-bad breach answer Together levels l e known valid = absurd known

  pub events-kept : ((levels : List Level) (complete : Completeness) (l : Liberties) (e : Events p)
      → KnowsCommits old levels complete l e → IsEvent x → KnowsCommits new levels complete l e)
      → (judging : Judging) (levels : List Level) (l : Liberties) (e : Events p)
      → KnowsParts judging (OfEvents old) levels l e → IsEvent x
      → KnowsParts judging (OfEvents new) levels l e × RunsOutAtEvent judging levels l link x e
  events-kept knows (WithCommits complete) levels l e known valid = (knows levels complete l e known valid, tt)
  events-kept knows Alone levels l e known valid = absurd known
  events-kept knows Together levels l e known valid = absurd known

-- ---- events in turn

-- nothing has been judged
pub none-judged : {p : ℕ} (judge : PartJudge p) (link : Link) (events : List (Event p))
    → PartsLeft judge judge link events events
none-judged judge link events = λ judging levels l e known. (e, known, refl, refl)

module _ {p : ℕ} (old now : PartJudge p) (link : Link) (events : List (Event p)) where
  -- an event is taken
  pub part_taken : (new : PartJudge p) (x : Event p) (rest more : List (Event p)) → rest ≡ x ∷ more
      → PartsLeft old now link events rest
      → ((judging : Judging) (levels : List Level) (l : Liberties) (e : Events p) → KnowsParts judging now levels l e
      → (breach_of judging levels l link x e ≡ None) × KnowsParts judging new levels l ((link, x) ∷ e))
      → PartsLeft old new link events more
  unfolding part_breach with_events
  part_taken new x rest more is so_far judged = λ judging levels l e known.
      let (u, knows, same, taken) = (rw is at so_far) judging levels l e known in
      let (good, known_more) = judged judging levels l u knows in (
        (link, x) ∷ u,
        known_more,
        same ∙ ap (λ (o : Option CommitBreach). or_breach o (part_breach judging levels l link more ((link, x) ∷ u))) good,
        taken,
      )

  -- an event breaks a rule
  pub part_bad : (x : Event p) (rest more : List (Event p)) (found : CommitBreach) → rest ≡ x ∷ more
      → PartsLeft old now link events rest
      → ((judging : Judging) (levels : List Level) (l : Liberties) (e : Events p) → KnowsParts judging now levels l e
      → breach_of judging levels l link x e ≡ Some found)
      → (judging : Judging) (levels : List Level) (l : Liberties) (e : Events p) → KnowsParts judging old levels l e
      → part_breach judging levels l link events e ≡ Some found
  unfolding part_breach with_events
  part_bad x rest more found is so_far judged = λ judging levels l e known.
      let (u, knows, same, taken) = (rw is at so_far) judging levels l e known in
      same ∙ ap (λ (o : Option CommitBreach). or_breach o (part_breach judging levels l link more ((link, x) ∷ u)))
      (judged judging levels l u knows)

  -- memory runs out at an event
  pub part_refused : (new : PartJudge p) (x : Event p) (rest more : List (Event p)) → rest ≡ x ∷ more
      → PartsLeft old now link events rest
      → ((judging : Judging) (levels : List Level) (l : Liberties) (e : Events p) → KnowsParts judging now levels l e
      → KnowsParts judging new levels l e × RunsOutAtEvent judging levels l link x e)
      → PartsStop old new link events rest
  part_refused new x rest more is so_far judged = λ judging levels l e known.
      let (u, knows, same, taken) = so_far judging levels l e known in
      let (kept, stops) = judged judging levels l u knows in (
        u,
        kept,
        same,
        taken,
        subst (λ (events : List (Event p)). RunsOutAt judging levels l link events u) (sym is) stops,
      )

  -- no event is left
  pub parts_good : (rest : List (Event p)) → rest ≡ [] → PartsLeft old now link events rest
      → (judging : Judging) (levels : List Level) (l : Liberties) (e : Events p) → KnowsParts judging old levels l e
      → (part_breach judging levels l link events e ≡ None)
      × KnowsParts judging now levels l (with_events link events e)
  unfolding part_breach with_events
  parts_good rest is so_far = λ judging levels l e known.
      let (u, knows, same, taken) = (rw is at so_far) judging levels l e known in
      (same, subst (λ (v : Events p). KnowsParts judging now levels l v) (sym taken) knows)

-- ---- one event alone

module _ {p : ℕ} (old new : PartJudge p) (link : Link) (x : Event p) where
  pub one_good : ((judging : Judging) (levels : List Level) (l : Liberties) (e : Events p)
      → KnowsParts judging old levels l e
      → (breach_of judging levels l link x e ≡ None) × KnowsParts judging new levels l ((link, x) ∷ e))
      → (judging : Judging) (levels : List Level) (l : Liberties) (e : Events p) → KnowsParts judging old levels l e
      → (part_breach judging levels l link (x ∷ []) e ≡ None)
      × KnowsParts judging new levels l (with_events link (x ∷ []) e)
  one_good h =
      parts_good old new link (x ∷ []) [] refl
      (part_taken old old link (x ∷ []) new x (x ∷ []) [] refl (none-judged old link (x ∷ [])) h)

  pub one_bad : (found : CommitBreach) → ((judging : Judging) (levels : List Level) (l : Liberties) (e : Events p)
      → KnowsParts judging old levels l e → breach_of judging levels l link x e ≡ Some found)
      → (judging : Judging) (levels : List Level) (l : Liberties) (e : Events p) → KnowsParts judging old levels l e
      → part_breach judging levels l link (x ∷ []) e ≡ Some found
  one_bad found h = part_bad old old link (x ∷ []) x (x ∷ []) [] found refl (none-judged old link (x ∷ [])) h

  pub one_refused : ((judging : Judging) (levels : List Level) (l : Liberties) (e : Events p)
      → KnowsParts judging old levels l e → KnowsParts judging new levels l e × RunsOutAtEvent judging levels l link x e)
      → PartsStop old new link (x ∷ []) (x ∷ [])
  one_refused h = part_refused old old link (x ∷ []) new x (x ∷ []) [] refl (none-judged old link (x ∷ [])) h
