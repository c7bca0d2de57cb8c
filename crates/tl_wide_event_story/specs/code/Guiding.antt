-- What the guides for the first fault of a wide trace know of its events.
use Rattle.std.specs.Prelude.{◌≡◌, ◌==◌, ◌&&◌, ◌+◌, ◌++◌, ◌∷◌, ℕ, Bool, true}
use Rattle.std.specs.Prelude.{false, List, [], length, slice_get, if◌then◌else◌, ⊤}
use Rattle.tl_beat.specs.declared.beat.Beat.{Beat}
use Rattle.tl_beat.specs.declared.beat.Link.{Link}
use Rattle.tl_beat.specs.declared.channel.Channel.TheVariants as channel
use Rattle.tl_burst.specs.statement.Messages.{unfinished}
use Rattle.tl_commit_lines.specs.statement.MarkedHeader.{MarkedLinks, complete_of, levels_of}
use Rattle.tl_commit_story.specs.code.Responses.{KnowsResponses}
use Rattle.tl_commit_story.specs.statement.Grounds.{memory_grounds}
use Rattle.tl_commits.specs.statement.Completeness.{Completeness}
use Rattle.tl_commits.specs.statement.Copies.{link_beats}
use Rattle.tl_commits.specs.statement.Events.{Events, beats_of}
use Rattle.tl_events.specs.declared.commit.Commit.{Commit}
use Rattle.tl_events.specs.declared.commit.Event.{Event}
use Rattle.tl_events.specs.declared.commit.Event.TheVariants as event
use Rattle.tl_events.specs.declared.rule.CommitRule.{CommitRule}
use Rattle.tl_evidence.specs.code.Following.{KnowsCopy}
use Rattle.tl_evidence.specs.statement.Convicted.{IsConvicted}
use Rattle.tl_evidence.specs.statement.CopyLines.{copy_lines}
use Rattle.tl_explain.specs.code.Recorded.{IsRecordUnder}
use Rattle.tl_explain.specs.statement.Evidence.{next_line}
use Rattle.tl_lines.specs.declared.fault.Fault.{Fault}
use Rattle.tl_lines.specs.declared.fault.Fault.TheVariants.{Rule as Breaks}
use Rattle.tl_params.specs.declared.level.Level.{Level}
use Rattle.tl_params.specs.declared.liberties.Liberties.{Liberties}
use Rattle.tl_params.specs.declared.memory_rule.MemoryRule.{MemoryRule}
use Rattle.tl_params.specs.declared.rule.Rule.{Rule}
use Rattle.tl_wide.specs.declared.beat.WideBeat.{WideBeat}
use Rattle.tl_wide.specs.declared.beat.WideBeat.TheVariants as wide
use Rattle.tl_wide.specs.statement.Naming.{WideTrace}
use Rattle.tl_wide.specs.statement.Narrowed.{asked_address}
use Rattle.tl_wide.specs.statement.Narrowing.{Follows}
use Rattle.tl_wide.specs.statement.Width.{part_width}
use Rattle.tl_wide_events.specs.declared.commit.WideCommit.{WideCommit}
use Rattle.tl_wide_events.specs.declared.commit.WideEvent.{WideEvent}
use Rattle.tl_wide_events.specs.declared.commit.WideEvent.TheVariants as wide_event
use Rattle.tl_wide_events.specs.statement.Narrowed.{WideEvents, address_of, as_events, names_of, narrowed, with_events}
use Rattle.tl_wide_story.specs.statement.WideNaming as naming
use Rattle.tl_witness.specs.statement.Naming.{Naming}
use Rattle.tl_wide_event_story.specs.declared.copy_guide.CopyGuide.{CopyGuide}
use Rattle.tl_wide_event_story.specs.declared.guide.Guide.{Guide}
use Rattle.tl_wide_event_story.specs.declared.guide.Kind.{Kind}
use Rattle.tl_wide_event_story.specs.declared.guide.Kind.TheVariants.{OfCopy, OfLink, OfNothing, OfResponse}
use Rattle.tl_wide_event_story.specs.declared.link_guide.LinkGuide.{LinkGuide}
use Rattle.tl_wide_event_story.specs.declared.passing.Met.{Met}
use Rattle.tl_wide_event_story.specs.declared.response_guide.ResponseGuide.{ResponseGuide}
use Rattle.tl_wide_event_story.specs.declared.passing.Met.TheVariants.{AtFault, Strange, Taken}
use Rattle.tl_wide_event_story.specs.statement.WideGrounds.{AreGrounds, AreWideGrounds, beat_address, later_numbers}
use Rattle.tl_wide_event_story.specs.statement.WideGrounds.{later_parts, names_for}

-- ---- a rule of a link

-- the beats of the events are recorded
pub record KnowsLinkGuide {w p : ℕ} (g : LinkGuide w p) (may : Liberties) (levels : List Level) (e : Events p)
    : Type 0 where
  pub may_is : g.may ≡ may
  pub level_is : g.level ≡ slice_get levels g.recorder.subject.link.0
  pub records : IsRecordUnder may g.recorder (beats_of e)
  pub number_is : g.recorded + 1 ≡ next_line (beats_of e)

-- what is known of one is known of the other
abbrev pub KeepsLink : {w p : ℕ} → LinkGuide w p → LinkGuide w p → Type 0
KeepsLink {w} {p} old new =
    (may : Liberties) (levels : List Level) (e : Events p) → KnowsLinkGuide old may levels e
    → KnowsLinkGuide new may levels e

-- one more event
abbrev pub FollowsLink : {w p : ℕ} → LinkGuide w p → LinkGuide w p → Link → Event p → Type 0
FollowsLink {w} {p} old new link x =
    (may : Liberties) (levels : List Level) (e : Events p) → KnowsLinkGuide old may levels e
    → KnowsLinkGuide new may levels ((link, x) ∷ e)

-- the beat breaks the rule, if it is one of a link, after those that are recorded
abbrev pub ConvictsPart : {w p : ℕ} → LinkGuide w p → Rule → Link → Beat p → Type 0
ConvictsPart {w} {p} g rule link x =
    (may : Liberties) (levels : List Level) (e : Events p) → KnowsLinkGuide g may levels e
    → IsConvicted may (slice_get levels link.0) link rule x (beats_of e)

-- what came of a part of the wide beat at fault
abbrev pub MeetsLink : {w p : ℕ} → LinkGuide w p → LinkGuide w p → Rule → Link → Beat p → Met → Type 0
MeetsLink old new rule link x AtFault = ConvictsPart old rule link x
MeetsLink old new rule link x Taken = FollowsLink old new link (event.Beat x)
MeetsLink old new rule link x Strange = ⊤

-- ---- a rule of stores and loads

-- the values of the block's bytes are kept, and the number of beats of an unfinished report
pub record KnowsCopyGuide {p : ℕ} (g : CopyGuide p) (may : Liberties) (levels : List Level) (complete : Completeness)
    (e : Events p) : Type 0 where
  pub record_is : KnowsCopy g.record may levels complete e
  pub link_is : g.record.link ≡ g.link
  pub came_is : g.giving.came ≡ length (unfinished channel.C (link_beats g.link.0 e))

-- one more event, which was recorded with this number
abbrev pub FollowsCopy : {p : ℕ} → CopyGuide p → CopyGuide p → ℕ → Link → Event p → Type 0
FollowsCopy {p} old new number link x =
    (may : Liberties) (levels : List Level) (complete : Completeness) (e : Events p) → number ≡ length e + 2
    → KnowsCopyGuide old may levels complete e → KnowsCopyGuide new may levels complete ((link, x) ∷ e)

-- the text ends with the values of bytes, behind what it had and what is held
abbrev pub TellsCopy : {p : ℕ} → CopyGuide p → Naming → CommitRule → Link → Event p → List ℕ → List ℕ → Type 0
TellsCopy {p} g names rule link x was is =
    (may : Liberties) (levels : List Level) (complete : Completeness) (e : Events p)
    → KnowsCopyGuide g may levels complete e
    → (held : List ℕ) × (is ≡ was ++ (held ++ copy_lines names rule complete (length levels) link.0 x e))

-- what came of a part of the wide beat at fault
abbrev pub MeetsCopy : {p : ℕ} → CopyGuide p → CopyGuide p → ℕ → Naming → CommitRule → Link → Beat p → List ℕ → List ℕ
    → Met → Type 0
MeetsCopy old new number names rule link x was is AtFault = TellsCopy old names rule link (event.Beat x) was is
MeetsCopy old new number names rule link x was is Taken = FollowsCopy old new number link (event.Beat x)
MeetsCopy old new number names rule link x was is Strange = ⊤

-- ---- a rule of memory

-- all that is kept is what the events say, which those with these names became
abbrev pub KnowsResponseGuide : {w p : ℕ} → ResponseGuide p → Liberties → MarkedLinks → WideTrace w → Events p → Type 0
KnowsResponseGuide g may links names e =
    KnowsResponses g.follower may links e × (g.asked ≡ asked_address g.link g.source names)

-- the address of the last request with a source on a link, after one more wide beat
abbrev pub asked_after : {w : ℕ} → Link → ℕ → Link → WideBeat w → ℕ → ℕ
asked_after own source link (wide.A x) before =
    if (link.0 == own.0) && (x.source == source) then x.address else before
asked_after own source link _ before = before

-- one more wide beat has come, whose parts haven't
abbrev pub NotesRequest : {w p : ℕ} → ResponseGuide p → ResponseGuide p → Link → WideBeat w → Type 0
NotesRequest {w} {p} old new link x =
    (may : Liberties) (links : MarkedLinks) (names : WideTrace w) (e : Events p)
    → KnowsResponseGuide old may links names e → KnowsResponseGuide new may links ((link, x) ∷ names) e

-- one more event, which was recorded with this number
abbrev pub FollowsResponse : {p : ℕ} → ResponseGuide p → ResponseGuide p → ℕ → Link → Event p → Type 0
FollowsResponse {p} old new number link x =
    (w : ℕ) (may : Liberties) (links : MarkedLinks) (names : WideTrace w) (e : Events p) → number ≡ length e + 2
    → KnowsResponseGuide old may links names e → KnowsResponseGuide new may links names ((link, x) ∷ e)

-- the wide beat is a response with this source on a link
abbrev pub IsResponse : {w : ℕ} → Link → ℕ → Link → WideBeat w → Type 0
IsResponse own source link (wide.D x) = (link ≡ own) × (x.source ≡ source)
IsResponse own source link _ = ⊥

-- the text has the grounds for a part of a wide beat, behind what it had; these are the numbers of later parts
abbrev pub TellsResponse : {w p : ℕ} → ResponseGuide p → List ℕ → MemoryRule → Link → WideBeat w → Beat p → List ℕ
    → List ℕ → Type 0
TellsResponse {w} {p} g later rule link x part was is =
    (may : Liberties) (links : MarkedLinks) (names : WideTrace w) (e : Events p)
    → KnowsResponseGuide g may links ((link, x) ∷ names) e
    → is ≡ was ++ memory_grounds (naming.names_of later (beat_address link x names)) rule (complete_of links)
    (length (levels_of links)) link (event.Beat part) e

-- what came of a part of the wide beat at fault
abbrev pub MeetsResponse : {w p : ℕ} → ResponseGuide p → ResponseGuide p → List ℕ → ℕ → MemoryRule → Link → WideBeat w
    → Beat p → List ℕ → List ℕ → Met → Type 0
MeetsResponse old new later number rule link x part was is AtFault = TellsResponse old later rule link x part was is
MeetsResponse old new later number rule link x part was is Taken = FollowsResponse old new number link (event.Beat part)
MeetsResponse old new later number rule link x part was is Strange = ⊤

-- ---- any rule

-- All that is kept is what the events say. They are those that events with these names became.
abbrev pub KnowsKind : {w p : ℕ} → Kind w p → Liberties → MarkedLinks → WideTrace w → Events p → Type 0
KnowsKind (OfLink g) may links names e = KnowsLinkGuide g may (levels_of links) e
KnowsKind (OfCopy g) may links names e = KnowsCopyGuide g may (levels_of links) (complete_of links) e
KnowsKind (OfResponse g) may links names e = KnowsResponseGuide g may links names e
KnowsKind OfNothing may links names e = ⊤

-- one more wide beat has come, whose parts haven't
abbrev pub NotesBeat : {w p : ℕ} → Kind w p → Kind w p → Link → WideBeat w → Type 0
NotesBeat {w} {p} old new link x =
    (may : Liberties) (links : MarkedLinks) (names : WideTrace w) (e : Events p) → KnowsKind old may links names e
    → KnowsKind new may links ((link, x) ∷ names) e

-- one more event, which was recorded with this number
abbrev pub FollowsEvent : {w p : ℕ} → Kind w p → Kind w p → ℕ → Link → Event p → Type 0
FollowsEvent {w} {p} old new number link x =
    (may : Liberties) (links : MarkedLinks) (names : WideTrace w) (e : Events p) → number ≡ length e + 2
    → KnowsKind old may links names e → KnowsKind new may links names ((link, x) ∷ e)

-- the text is grounds for a part of a wide beat; these are the numbers of later parts
abbrev pub AreTold : {w p : ℕ} → Kind w p → List ℕ → Fault → Link → WideBeat w → Beat p → List ℕ → Type 0
AreTold {w} {p} kind later found link x part grounds =
    (may : Liberties) (links : MarkedLinks) (names : WideTrace w) (e : Events p)
    → KnowsKind kind may links ((link, x) ∷ names) e
    → AreGrounds (naming.names_of later (beat_address link x names)) found may links link (event.Beat part) e grounds

-- what came of a part of the wide beat at fault, with this text in which there was none
abbrev pub Meets : {w p : ℕ} → Kind w p → Kind w p → List ℕ → ℕ → Fault → Link → WideBeat w → Beat p → List ℕ → Met
    → Type 0
Meets old new later number found link x part is AtFault = AreTold old later found link x part is
Meets old new later number found link x part is Taken = FollowsEvent old new number link (event.Beat part)
Meets old new later number found link x part is Strange = ⊤

-- what came of a part of the wide beat at fault
abbrev pub MeetsPart : {w p : ℕ} → Kind w p → Kind w p → List ℕ → ℕ → Fault → Link → WideBeat w → Beat p → List ℕ
    → List ℕ → Met → Type 0
MeetsPart old new later number found link x part was is AtFault =
    (grounds : List ℕ) × (is ≡ was ++ grounds) × AreTold old later found link x part grounds
MeetsPart old new later number found link x part was is Taken =
    FollowsEvent old new number link (event.Beat part) × (is ≡ was)
MeetsPart old new later number found link x part was is Strange = ⊤

-- the text has the grounds for a commit, which becomes this narrow one, behind what it had
abbrev pub TellsCommit : {w p : ℕ} → Kind w p → List ℕ → Fault → Link → WideCommit → Commit → List ℕ → List ℕ → Type 0
TellsCommit {w} {p} kind later found link x narrow was is =
    (may : Liberties) (links : MarkedLinks) (names : WideTrace w) (e : Events p) → KnowsKind kind may links names e
    → (grounds : List ℕ) × (is ≡ was ++ grounds)
    × AreGrounds (naming.names_of later (address_of x)) found may links link (event.Commit narrow) e grounds

-- the fault is a breach of a rule of a link
abbrev pub is_of_link : Fault → Bool
is_of_link (Breaks rule) = true
is_of_link _ = false

-- the text has more behind what it had, if the fault is a breach of a rule of a link
abbrev pub TellsMore : Fault → List ℕ → List ℕ → Type 0
TellsMore found was is = (more : List ℕ) × (is ≡ was ++ more) × (is_of_link found ≡ false → more ≡ [])

-- ---- the events that wide events become

-- Events with these names became those of e, and these are the numbers of later parts.
pub record KnowsRecorded {w p : ℕ} (g : Guide w p) (may : Liberties) (links : MarkedLinks) (names : WideTrace w)
    (later : List ℕ) (e : Events p) : Type 0 where
  pub recorded : g.recorded ≡ length e + 1
  pub later_is : g.numbering.later.items ≡ later
  pub kind : KnowsKind g.kind may links names e

-- the numbers of later parts with that of one more event
abbrev pub with_later : Bool → ℕ → List ℕ → List ℕ
with_later is_later number later = if is_later then later ++ number ∷ [] else later

-- there are some
abbrev pub has_some : {A : Type 0} → List A → Bool
has_some [] = false
has_some (x ∷ xs) = true

-- one more event was taken, which is a later part or not
pub record TakesEvent {w p : ℕ} (old new : Guide w p) (link : Link) (is_later : Bool) (x : Event p) : Type 0 where
  pub narrower_is : new.narrower ≡ old.narrower
  pub takes : (may : Liberties) (links : MarkedLinks) (names : WideTrace w) (later : List ℕ) (e : Events p)
      → KnowsRecorded old may links names later e
      → KnowsRecorded new may links names (with_later is_later (length e + 2) later) ((link, x) ∷ e)

-- these events were taken, which one wide event becomes
pub record TakesEvents {w p : ℕ} (old new : Guide w p) (link : Link) (events : List (Event p)) : Type 0 where
  pub narrower_is : new.narrower ≡ old.narrower
  pub takes : (may : Liberties) (links : MarkedLinks) (names : WideTrace w) (later : List ℕ) (e : Events p)
      → KnowsRecorded old may links names later e
      → KnowsRecorded new may links names (later ++ later_numbers (length e + 2) events) (with_events link events e)

-- these parts are left of those of a wide beat, and the others were taken
pub record PartsTaken {w p : ℕ} (old now : Guide w p) (link : Link) (is_later : Bool) (beats left : List (Beat p))
    : Type 0 where
  pub first : List (Beat p)
  pub parts_are : beats ≡ first ++ left
  pub later_is : is_later ≡ has_some (as_events first)
  pub takes : TakesEvents old now link (as_events first)

-- what came of a part of the wide beat at fault, before which others were taken or not
abbrev pub MeetsBeat : {w p : ℕ} → Guide w p → Guide w p → Fault → Link → WideBeat w → Bool → Beat p → List ℕ → List ℕ
    → Met → Type 0
MeetsBeat old new found link x is_later part was is AtFault =
    (grounds : List ℕ) × (is ≡ was ++ grounds)
    × AreTold old.kind old.numbering.later.items found link x part grounds
MeetsBeat old new found link x is_later part was is Taken =
    TakesEvent old new link is_later (event.Beat part) × (is ≡ was)
MeetsBeat old new found link x is_later part was is Strange = ⊤

-- Of these beats, `part` is the one for whose fault the grounds are, after those of e and the ones in `first`.
pub record HasBeat {w p : ℕ} (found : Fault) (may : Liberties) (links : MarkedLinks) (t : WideEvents w) (link : Link)
    (x : WideBeat w) (beats : List (Beat p)) (e : Events p) (grounds : List ℕ) : Type 0 where
  pub first : List (Beat p)
  pub part : Beat p
  pub left : List (Beat p)
  pub parts_are : beats ≡ first ++ part ∷ left
  pub are : AreGrounds (names_for link (wide_event.Beat x) t (length e + 2) (as_events first)) found may links link
      (event.Beat part) (with_events link (as_events first) e) grounds

-- the text has the grounds for the first of these parts that is at fault, behind what it had
abbrev pub TellsFirst : {w p : ℕ} → Guide w p → Fault → Link → WideBeat w → List (Beat p) → List ℕ → List ℕ → Type 0
TellsFirst {w} {p} g found link x beats was is =
    (may : Liberties) (links : MarkedLinks) (t : WideEvents w) (e : Events p)
    → KnowsRecorded g may links (names_of ((link, wide_event.Beat x) ∷ t)) (later_parts t) e
    → (grounds : List ℕ) × (is ≡ was ++ grounds) × HasBeat found may links t link x beats e grounds

-- ---- wide events

-- These wide events were followed. What they become is given for each width of a part, so that it is of this guide's.
pub record KnowsGuide {w p : ℕ} (g : Guide w p) (may : Liberties) (links : MarkedLinks) (t : WideEvents w)
    (e : (q : ℕ) → Events q) : Type 0 where
  pub follows : Follows g.narrower (names_of t)
  pub becomes : e (part_width w) ≡ narrowed t
  pub known : KnowsRecorded g may links (names_of t) (later_parts t) (e p)

-- one more wide event was taken
abbrev pub TakesWide : {w p : ℕ} → Guide w p → Guide w p → Link → WideEvent w → Type 0
TakesWide {w} {p} old new link x =
    (may : Liberties) (links : MarkedLinks) (t : WideEvents w) (e : (q : ℕ) → Events q)
    → KnowsGuide old may links t e
    → (f : (q : ℕ) → Events q) × KnowsGuide new may links ((link, x) ∷ t) f

-- the text has the grounds for the fault of a wide event, behind what it had
abbrev pub TellsWide : {w p : ℕ} → Guide w p → Fault → Link → WideEvent w → List ℕ → List ℕ → Type 0
TellsWide {w} {p} g found link x was is =
    (may : Liberties) (links : MarkedLinks) (t : WideEvents w) (e : (q : ℕ) → Events q) → KnowsGuide g may links t e
    → (grounds : List ℕ) × (is ≡ was ++ grounds) × AreWideGrounds found may links t link x grounds
