-- What is known while the lines of a trace with commits are read again, up to the line at fault.
use Rattle.std.specs.Prelude.{◌≡◌, ◌+◌, ◌++◌, ◌∷◌, ℕ, Bool, true, false, [], List, length, Option, Some, None, ⊤}
use Rattle.tl_beat.specs.declared.beat.Link.{Link}
use Rattle.tl_commits.specs.statement.Events.{Events}
use Rattle.tl_lines.specs.declared.fault.Fault.{Fault}
use Rattle.tl_lines.specs.statement.Width.{bytes_of}
use Rattle.tl_events.specs.declared.commit.Event.{Event}
use Rattle.tl_events.specs.statement.EventLine.{SpellsEvent}
use Rattle.tl_params.specs.declared.liberties.Liberties.{Liberties}
use Rattle.tl_params.specs.declared.width.Width.{Width}
use Rattle.tl_commit_lines.specs.code.EventWatching.{KnowsEventLines}
use Rattle.tl_commit_lines.specs.statement.MarkedHeader.{MarkedLinks, NamesMarked}
use Rattle.tl_commit_story.specs.code.Followers.{FollowsEvent, KnowsFollower}
use Rattle.tl_commit_story.specs.declared.follower.Follower.{Follower}
use Rattle.tl_commit_story.specs.declared.replay.Replay.{Replay}
use Rattle.tl_commit_story.specs.declared.replay.State.{State}
use Rattle.tl_commit_story.specs.declared.replay.State.TheVariants.{Waiting, Following, Lost}
use Rattle.tl_commit_story.specs.declared.story.Story.{Story}
use Rattle.tl_commit_story.specs.statement.Explained.{AreSpelled}
use Rattle.tl_commit_story.specs.statement.Grounds.{AreGrounds, front_of}

-- ---- one line

-- the line is a header of beats of this width, and nothing is known behind it
pub record BeginsFollowing {w : ℕ} (r : Replay w) (f : Follower w) (line : List ℕ) : Type 0 where
  pub width : Width
  pub may : Liberties
  pub links : MarkedLinks
  pub of_width : bytes_of width ≡ w
  pub named : NamesMarked r.allow line width may links
  pub known : KnowsFollower r.together f may links []

-- what the first line begins
abbrev pub Begins : {w : ℕ} → Replay w → State w → List ℕ → Type 0
Begins r Waiting line = ⊥
Begins r (Following f) line = BeginsFollowing r f line
Begins r Lost line = ⊤

-- the line of this number spells an event, which was taken
pub record TakesLine {w : ℕ} (old new : Follower w) (number : ℕ) (line : List ℕ) : Type 0 where
  pub link : Link
  pub event : Event w
  pub spells : SpellsEvent line link event
  pub takes : FollowsEvent old new number link event

-- what came of the state at the line of this number
abbrev pub GoesOn : {w : ℕ} → Replay w → State w → State w → ℕ → List ℕ → Type 0
GoesOn r old Lost number line = ⊤
GoesOn r Waiting new number line = Begins r new line
GoesOn r (Following old) (Following new) number line = TakesLine old new number line
GoesOn r _ _ number line = ⊥

-- only the state has changed, so
pub record Reads {w : ℕ} (old new : Replay w) (number : ℕ) (line : List ℕ) : Type 0 where
  pub same : new ≡ record old { state = new.state }
  pub goes : GoesOn old old.state new.state number line

-- the line of this number spells an event, and the text has the reasons for its fault
pub record HasReasons {w : ℕ} (f : Follower w) (found : Fault) (number : ℕ) (line text : List ℕ) : Type 0 where
  pub link : Link
  pub event : Event w
  pub spells : SpellsEvent line link event
  pub says : (together : Bool) (may : Liberties) (links : MarkedLinks) (e : Events w) → number ≡ length e + 2
      → KnowsFollower together f may links e
      → (grounds : List ℕ) × (text ≡ front_of found link event e ++ grounds)
      × AreGrounds together found may links link event e grounds

-- ---- all lines

-- the lines are a header and those of events, of which all is kept that may be told
pub record AreReplayed {w : ℕ} (r : Replay w) (f : Follower w) (lines : List (List ℕ)) : Type 0 where
  pub width : Width
  pub of_width : bytes_of width ≡ w
  pub may : Liberties
  pub links : MarkedLinks
  pub header : List ℕ
  pub spelled : List (List ℕ)
  pub are_lines : lines ≡ header ∷ spelled
  pub named : NamesMarked r.allow header width may links
  pub events : Events w
  pub are_spelled : AreSpelled events spelled
  pub counted : r.count ≡ length events + 1
  pub known : KnowsFollower r.together f may links events

abbrev pub KnowsState : {w : ℕ} → Replay w → State w → List (List ℕ) → Type 0
KnowsState r Waiting lines = (lines ≡ []) × (r.count ≡ 0)
KnowsState r (Following f) lines = AreReplayed r f lines
KnowsState r Lost lines = ⊤

-- these lines have been read, before the one at fault
abbrev pub KnowsReplay : {w : ℕ} → Replay w → List (List ℕ) → Type 0
KnowsReplay r lines = (r.told ≡ false) × KnowsState r r.state lines

-- The line at fault is one of these, and the reasons are for it.
pub record HasTold {w : ℕ} (r : Replay w) (lines : List (List ℕ)) : Type 0 where
  pub width : Width
  pub of_width : bytes_of width ≡ w
  pub may : Liberties
  pub links : MarkedLinks
  pub header : List ℕ
  pub before : List (List ℕ)
  pub line : List ℕ
  pub more : List (List ℕ)
  pub are_lines : lines ≡ (header ∷ before) ++ line ∷ more
  pub named : NamesMarked r.allow header width may links
  pub events : Events w
  pub are_spelled : AreSpelled events before
  pub counted : r.count ≡ length events + 1
  pub link : Link
  pub event : Event w
  pub spells : SpellsEvent line link event
  pub grounds : List ℕ
  pub says : r.reasons.items ≡ front_of r.fault link event events ++ grounds
  pub are : AreGrounds r.together r.fault may links link event events grounds

-- what is known once reading has stopped
abbrev pub EndsReplay : {w : ℕ} → Replay w → List (List ℕ) → Type 0
EndsReplay r lines = r.told ≡ true → HasTold r lines

-- one more line was read, which isn't at fault
abbrev pub ReadsOn : {w : ℕ} → Replay w → Replay w → List ℕ → Type 0
ReadsOn old new line = (lines : List (List ℕ)) → KnowsReplay old lines → KnowsReplay new (lines ++ line ∷ [])

-- the line at fault was read
abbrev pub ReadsLast : {w : ℕ} → Replay w → Replay w → List ℕ → Type 0
ReadsLast old new line = (lines : List (List ℕ)) → KnowsReplay old lines → (more : List (List ℕ))
    → EndsReplay new (lines ++ line ∷ more)

-- a line was read, which has this fault or none
abbrev pub ReadsLine : {w : ℕ} → Replay w → Replay w → List ℕ → Option Fault → Type 0
ReadsLine old new line None = ReadsOn old new line
ReadsLine old new line (Some found) = ReadsLast old new line

-- ---- the handler

-- the lines have been judged, and read again
abbrev pub KnowsStory : {w : ℕ} → Story w → List (List ℕ) → List ℕ → Type 0
KnowsStory h lines text = KnowsEventLines h.lines lines text × KnowsReplay h.replay lines

abbrev pub EndsStory : {w : ℕ} → Story w → List (List ℕ) → Type 0
EndsStory h lines = EndsReplay h.replay lines
