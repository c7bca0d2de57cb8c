-- The grounds for the fault of a wide event are those for one of the events that it becomes.
use Rattle.std.proofs.Common.{◌≡◌, ◌∙◌, ◌+◌, ℕ, false, List, [], ◌∷◌, ◌++◌, length, refl, ap, sym, subst}
use Rattle.std.proofs.Common.{append_assoc}
use Rattle.std.proofs.lemmas.List.{append-nil, map-append}
use Rattle.tl_beat.specs.declared.beat.Beat.{Beat}
use Rattle.tl_beat.specs.declared.beat.Link.{Link}
use Rattle.tl_commit_lines.specs.statement.MarkedHeader.{MarkedLinks}
use Rattle.tl_commits.specs.statement.Events.{Events}
use Rattle.tl_events.specs.declared.commit.Event.{Event}
use Rattle.tl_events.specs.declared.commit.Event.TheVariants as event
use Rattle.tl_lines.specs.declared.fault.Fault.{Fault}
use Rattle.tl_lines.specs.declared.fault.Fault.TheVariants as fault
use Rattle.tl_params.specs.declared.liberties.Liberties.{Liberties}
use Rattle.tl_events.specs.declared.commit.Commit.{Commit}
use Rattle.tl_wide.specs.declared.beat.WideBeat.{WideBeat}
use Rattle.tl_wide_events.specs.declared.commit.WideCommit.{WideCommit}
use Rattle.tl_wide.specs.statement.Width.{part_width}
use Rattle.tl_wide_events.specs.declared.commit.WideEvent.{WideEvent}
use Rattle.tl_wide_events.specs.declared.commit.WideEvent.TheVariants as wide_event
use Rattle.tl_wide_events.specs.statement.Narrowed.{WideEvents, address_of, as_events}
use Rattle.tl_wide_events.specs.statement.Narrowed.{events_of, names_of, narrowed, with_events}
use Rattle.tl_wide_story.specs.statement.WideNaming as naming
use Rattle.tl_witness.specs.statement.Naming.{Naming}
use Rattle.tl_wide_event_story.proofs.Guided.{Becomes, Readies}
use Rattle.tl_wide_event_story.specs.code.Guiding.{AreTold, HasBeat, TakesEvents, TellsCommit}
use Rattle.tl_wide_event_story.specs.code.Guiding.{TellsFirst, TellsMore, TellsWide, is_of_link}
use Rattle.tl_wide_event_story.specs.declared.guide.Guide.{Guide}
use Rattle.tl_wide_event_story.specs.statement.WideGrounds.{AreGrounds, AreWideGrounds, HasPart, beat_address}
use Rattle.tl_wide_event_story.specs.statement.WideGrounds.{later_parts, names_for}

-- ---- a part

-- The part that is met is the first that isn't taken.
pub first-told : {w p : ℕ} (old now : Guide w p) (found : Fault) (link : Link) (x : WideBeat w)
    (beats first left : List (Beat p)) (part : Beat p) (was is grounds : List ℕ) → beats ≡ first ++ part ∷ left
    → TakesEvents old now link (as_events first) → is ≡ was ++ grounds
    → AreTold now.kind now.numbering.later.items found link x part grounds → TellsFirst old found link x beats was is
first-told {w} {p} old now found link x beats first left part was is grounds parts takes says told =
    λ may links t e k.
    let next = takes.takes may links _ (later_parts t) e k in (
      grounds,
      says,
      record {
        first = first;
        part = part;
        left = left;
        parts_are = parts;
        are = subst (λ (l : List ℕ). AreGrounds (naming.names_of l (beat_address link x (names_of t)))
            found may links link
            (event.Beat part) (with_events link (as_events first) e) grounds) next.later_is
            (told may links (names_of t) (with_events link (as_events first) e) next.kind);
      },
    )

-- ---- more text

-- grounds with more behind them, which only those of a rule of a link have
more-grounds : {p : ℕ} (names : Naming) (found : Fault) (may : Liberties) (links : MarkedLinks) (link : Link)
    (part : Beat p)
    (e : Events p) (grounds more : List ℕ) → (is_of_link found ≡ false → more ≡ [])
    → AreGrounds names found may links link (event.Beat part) e grounds
    → AreGrounds names found may links link (event.Beat part) e (grounds ++ more)
more-grounds names (fault.Rule rule) may links link part e grounds more none are = are
more-grounds names found may links link part e grounds more none are =
    subst (λ (l : List ℕ). AreGrounds names found may links link (event.Beat part) e l)
    (sym (append-nil grounds) ∙ ap (λ (l : List ℕ). grounds ++ l) (sym (none refl))) are

pub first-more : {w p : ℕ} (old : Guide w p) (found : Fault) (link : Link) (x : WideBeat w) (beats : List (Beat p))
    (was mid is : List ℕ) → TellsFirst old found link x beats was mid → TellsMore found mid is
    → TellsFirst old found link x beats was is
first-more {w} {p} old found link x beats was mid is tells (more, says, none) = λ may links t e k.
    let (grounds, said, has) = tells may links t e k in (
      grounds ++ more,
      says ∙ ap (λ (l : List ℕ). l ++ more) said ∙ append_assoc was grounds more,
      record {
        first = has.first;
        part = has.part;
        left = has.left;
        parts_are = has.parts_are;
        are = more-grounds (names_for link (wide_event.Beat x) t (length e + 2) (as_events has.first))
            found may links link
            has.part (with_events link (as_events has.first) e) grounds more none has.are;
      },
    )

-- ---- a wide event

module _ {w p : ℕ} (part : p ≡ part_width w) (found : Fault) (link : Link) where
  -- grounds for one of the events are those for the wide event
  wide-grounds : (x : WideEvent w) (events : (q : ℕ) → List (Event q)) (may : Liberties) (links : MarkedLinks)
      (t : WideEvents w) (e : (q : ℕ) → Events q) (grounds : List ℕ) → e (part_width w) ≡ narrowed t
      → events (part_width w) ≡ events_of link x (names_of ((link, x) ∷ t))
      → HasPart {p = p} found may links t link x (events p) (e p) grounds
      → AreWideGrounds found may links t link x grounds
  wide-grounds x events may links t e grounds becomes are has =
      subst (λ (l : List (Event (part_width w))). HasPart {p = part_width w} found may links t link x l (narrowed t)
      grounds)
      are
      (subst (λ (u : Events (part_width w)). HasPart {p = part_width w} found may links t link x
      (events (part_width w)) u
      grounds) becomes
      (subst (λ (q : ℕ). HasPart {p = q} found may links t link x (events q) (e q) grounds) part has))

  has-part : (x : WideBeat w) (may : Liberties) (links : MarkedLinks) (t : WideEvents w) (beats : List (Beat p))
      (e : Events p) (grounds : List ℕ) → HasBeat found may links t link x beats e grounds
      → HasPart found may links t link (wide_event.Beat x) (as_events beats) e grounds
  has-part x may links t beats e grounds has = record {
    first = as_events has.first;
    part = event.Beat has.part;
    left = as_events has.left;
    parts_are = ap (λ (l : List (Beat p)). as_events l) has.parts_are
        ∙ map-append (λ b. event.Beat b) has.first (has.part ∷ has.left);
    are = has.are;
  }

  pub beat-told : (old mid : Guide w p) (x : WideBeat w) (beats : (q : ℕ) → List (Beat q)) (was is : List ℕ)
      → Becomes old mid link (wide_event.Beat x) (λ q. as_events (beats q)) → Readies old mid link (wide_event.Beat x)
      → TellsFirst mid found link x (beats p) was is → TellsWide old found link (wide_event.Beat x) was is
  beat-told old mid x beats was is becomes readies tells = λ may links t e k.
      let (grounds, says, has) = tells may links t (e p) (readies may links t (later_parts t) (e p) k.known) in (
        grounds,
        says,
        wide-grounds (wide_event.Beat x) (λ q. as_events (beats q)) may links t e grounds k.becomes
            (becomes t k.follows).0
            (has-part x may links t (beats p) (e p) grounds has),
      )

  pub commit-told : (old mid : Guide w p) (x : WideCommit) (narrow : Commit) (was is : List ℕ)
      → Becomes old mid link (wide_event.Commit x) (λ q. event.Commit narrow ∷ [])
      → TellsCommit old.kind old.numbering.later.items found link x narrow was is
      → TellsWide old found link (wide_event.Commit x) was is
  unfolding with_events
  commit-told old mid x narrow was is becomes tells = λ may links t e k.
      let (grounds, says, are) = tells may links (names_of t) (e p) k.known.kind in (
        grounds,
        says,
        wide-grounds (wide_event.Commit x) (λ q. event.Commit narrow ∷ []) may links t e grounds k.becomes
            (becomes t k.follows).0 (record {
              first = [];
              part = event.Commit narrow;
              left = [];
              parts_are = refl;
              are = subst (λ (l : List ℕ). AreGrounds (naming.names_of l (address_of x)) found may links link
                  (event.Commit narrow) (e p) grounds) (k.known.later_is ∙ sym (append-nil (later_parts t))) are;
            }),
      )
