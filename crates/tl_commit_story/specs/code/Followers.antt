-- What is known of the events of a trace, by the fault for which they are followed.
use Rattle.std.specs.Prelude.{◌≡◌, ◌+◌, ◌++◌, ◌∷◌, ℕ, Bool, List, length, ⊤}
use Rattle.tl_beat.specs.declared.beat.Link.{Link}
use Rattle.tl_commit_lines.specs.statement.MarkedHeader.{MarkedLinks, complete_of, levels_of}
use Rattle.tl_commits.specs.statement.Events.{Events}
use Rattle.tl_lines.specs.declared.fault.Fault.{Fault}
use Rattle.tl_events.specs.declared.commit.Event.{Event}
use Rattle.tl_events.specs.declared.rule.CommitRule.{CommitRule}
use Rattle.tl_evidence.specs.code.Following.{KnowsCopy}
use Rattle.tl_evidence.specs.statement.CopyLines.{copy_lines}
use Rattle.tl_params.specs.declared.level.Level.{Level}
use Rattle.tl_params.specs.declared.liberties.Liberties.{Liberties}
use Rattle.tl_witness.specs.statement.Naming.{as_recorded}
use Rattle.tl_commit_story.specs.code.Following.{KnowsGrounds}
use Rattle.tl_commit_story.specs.code.Recording.{KnowsLink}
use Rattle.tl_commit_story.specs.code.Responses.{KnowsResponses}
use Rattle.tl_commit_story.specs.declared.follower.Follower.{Follower}
use Rattle.tl_commit_story.specs.declared.follower.Follower.TheVariants.{OfCopy, OfLink, OfNothing, OfResponse}
use Rattle.tl_commit_story.specs.declared.copy_follower.CopyFollower.{CopyFollower}
use Rattle.tl_commit_story.specs.declared.grounds.Grounds.{Grounds}
use Rattle.tl_commit_story.specs.statement.Grounds.{AreGrounds, copy_grounds}

-- for a rule of stores and loads
abbrev pub KnowsCopyFollower : {w : ℕ} → CopyFollower w → Liberties → MarkedLinks → Events w → Type 0
KnowsCopyFollower f may links e =
    KnowsGrounds f.grounds may (levels_of links) e × KnowsCopy f.record may (levels_of links) (complete_of links) e

-- with one more event, in the line of this number
abbrev pub FollowsCopy : {w : ℕ} → CopyFollower w → CopyFollower w → ℕ → Link → Event w → Type 0
FollowsCopy {w} old new number link x =
    (may : Liberties) (links : MarkedLinks) (e : Events w) → number ≡ length e + 2
    → KnowsCopyFollower old may links e → KnowsCopyFollower new may links ((link, x) ∷ e)

-- all that is kept is what the events say
abbrev pub KnowsFollower : {w : ℕ} → Bool → Follower w → Liberties → MarkedLinks → Events w → Type 0
KnowsFollower together (OfLink r) may links e = KnowsLink together r may (levels_of links) e
KnowsFollower together (OfCopy f) may links e = KnowsCopyFollower f may links e
KnowsFollower together (OfResponse f) may links e = KnowsResponses f may links e
KnowsFollower together OfNothing may links e = ⊤

-- one more event, in the line of this number
abbrev pub FollowsEvent : {w : ℕ} → Follower w → Follower w → ℕ → Link → Event w → Type 0
FollowsEvent {w} old new number link x =
    (together : Bool) (may : Liberties) (links : MarkedLinks) (e : Events w) → number ≡ length e + 2
    → KnowsFollower together old may links e → KnowsFollower together new may links ((link, x) ∷ e)

-- the text has the permission held, data under way and the last stores, behind the text before
abbrev pub TellsHeld : {w : ℕ} → Grounds w → Link → Event w → List ℕ → List ℕ → Type 0
TellsHeld {w} g link x was is =
    (may : Liberties) (levels : List Level) (e : Events w) → KnowsGrounds g may levels e
    → is ≡ was ++ copy_grounds may levels link x e

-- the text has the grounds, behind what it had, for a rule of stores and loads
abbrev pub TellsCopy : {w : ℕ} → CopyFollower w → CommitRule → Link → Event w → List ℕ → List ℕ → Type 0
TellsCopy {w} f rule link x was is =
    (may : Liberties) (links : MarkedLinks) (e : Events w) → KnowsCopyFollower f may links e
    → is ≡ was ++ (copy_grounds may (levels_of links) link x e
    ++ copy_lines as_recorded rule (complete_of links) (length (levels_of links)) link.0 x e)

-- for the fault of an event
abbrev pub TellsGrounds : {w : ℕ} → Follower w → Fault → Link → Event w → List ℕ → List ℕ → Type 0
TellsGrounds {w} f found link x was is =
    (together : Bool) (may : Liberties) (links : MarkedLinks) (e : Events w) → KnowsFollower together f may links e
    → (grounds : List ℕ) × (is ≡ was ++ grounds) × AreGrounds together found may links link x e grounds
