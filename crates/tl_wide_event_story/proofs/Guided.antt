-- The events that wide events become are followed one after another.
use Rattle.std.proofs.Common.{◌≡◌, ◌∙◌, ◌+◌, ℕ, Bool, true, false, List, [], ◌∷◌, ◌++◌, length, refl, ap, sym, subst}
use Rattle.std.proofs.Common.{append_assoc, arith}
use Rattle.std.proofs.lemmas.List.{append-nil, map-append}
use Rattle.tl_beat.specs.declared.beat.Beat.{Beat}
use Rattle.tl_beat.specs.declared.beat.Link.{Link}
use Rattle.tl_commit_lines.specs.statement.MarkedHeader.{MarkedLinks}
use Rattle.tl_commits.specs.statement.Events.{Events}
use Rattle.tl_events.specs.declared.commit.Event.{Event}
use Rattle.tl_events.specs.declared.commit.Event.TheVariants as event
use Rattle.tl_params.specs.declared.liberties.Liberties.{Liberties}
use Rattle.tl_events.specs.declared.commit.Commit.{Commit}
use Rattle.tl_wide.specs.declared.beat.WideBeat.{WideBeat}
use Rattle.tl_wide.specs.declared.parts.Parts.{Parts}
use Rattle.tl_wide.specs.statement.Naming.{WideTrace, is_beyond, narrow_address}
use Rattle.tl_wide.specs.statement.Narrowed.{asked_address, beats_of}
use Rattle.tl_wide.specs.statement.Narrowing.{Follows}
use Rattle.tl_wide.specs.statement.Pieces.{left_of}
use Rattle.tl_wide.specs.statement.Width.{part_width}
use Rattle.tl_wide_events.specs.declared.commit.WideCommit.{WideCommit}
use Rattle.tl_wide_events.specs.declared.commit.WideEvent.{WideEvent}
use Rattle.tl_wide_events.specs.declared.commit.WideEvent.TheVariants as wide_event
use Rattle.tl_wide_events.specs.statement.Narrowed.{WideEvents, address_of, as_events, commit_at, events_of, named_as}
use Rattle.tl_wide_events.specs.statement.Narrowed.{names_of, narrowed, with_events}
use Rattle.tl_wide_story.specs.declared.numbering.Numbering.{Numbering}
use Rattle.tl_wide_event_story.specs.code.Guiding.{FollowsEvent, KnowsGuide, KnowsKind}
use Rattle.tl_wide_event_story.specs.code.Guiding.{KnowsRecorded, NotesBeat, PartsTaken}
use Rattle.tl_wide_event_story.specs.code.Guiding.{TakesEvent, TakesEvents, TakesWide, has_some, with_later}
use Rattle.tl_wide_event_story.specs.declared.guide.Guide.{Guide}
use Rattle.tl_wide_event_story.specs.declared.guide.Kind.{Kind}
use Rattle.tl_wide_event_story.specs.declared.guide.Kind.TheVariants.{OfCopy, OfLink, OfNothing, OfResponse}
use Rattle.tl_wide_event_story.specs.statement.WideGrounds.{later_numbers, later_parts, numbers_from}

-- ---- lists

numbers-more : {A : Type 0} (n : ℕ) (xs : List A) (x : A)
    → numbers_from n (xs ++ x ∷ []) ≡ numbers_from n xs ++ (n + length xs) ∷ []
unfolding numbers_from
numbers-more n [] x = ap (λ (m : ℕ). m ∷ []) (omega arith)
numbers-more n (y ∷ xs) x = ap (λ (l : List ℕ). n ∷ l) (numbers-more (n + 1) xs x
    ∙ ap (λ (m : ℕ). numbers_from (n + 1) xs ++ m ∷ []) (omega arith))

-- with one more of them
pub later-more : {A : Type 0} (n : ℕ) (later : List ℕ) (first : List A) (x : A)
    → with_later (has_some first) (n + length first) (later ++ later_numbers n first)
    ≡ later ++ later_numbers n (first ++ x ∷ [])
unfolding numbers_from
later-more n later [] x = refl
later-more n later (y ∷ first) x =
    append_assoc later (numbers_from (n + 1) first) ((n + length (y ∷ first)) ∷ [])
    ∙ ap (λ (l : List ℕ). later ++ l) (ap (λ (m : ℕ). numbers_from (n + 1) first ++ m ∷ []) (omega arith)
    ∙ sym (numbers-more (n + 1) first x))

events-more : {p : ℕ} (link : Link) (first : List (Event p)) (x : Event p) (e : Events p)
    → with_events link (first ++ x ∷ []) e ≡ (link, x) ∷ with_events link first e
unfolding with_events
events-more link [] x e = refl
events-more link (y ∷ first) x e = events-more link first x ((link, y) ∷ e)

events-length : {p : ℕ} (link : Link) (events : List (Event p)) (e : Events p)
    → length (with_events link events e) ≡ length e + length events
unfolding with_events
events-length link [] e = omega arith
events-length link (x ∷ events) e = omega (arith, events-length link events ((link, x) ∷ e))

-- ---- one event

-- an event was taken and its number noted
pub event-taken : {w p : ℕ} (old new : Guide w p) (kind : Kind w p) (number : ℕ) (link : Link) (is_later : Bool)
    (x : Event p) → number ≡ old.recorded + 1 → FollowsEvent old.kind kind number link x → new.kind ≡ kind
    → new.narrower ≡ old.narrower → new.recorded ≡ number
    → new.numbering.later.items ≡ with_later is_later number old.numbering.later.items
    → TakesEvent old new link is_later x
event-taken {w} {p} old new kind number link is_later x counts follows kind_is narrower_is recorded later_is = record {
  narrower_is = narrower_is;
  takes = λ may links names later e k.
      let at : number ≡ length e + 2 = omega (arith, counts, k.recorded) in
      record {
        recorded = omega (arith, recorded, at);
        later_is = later_is ∙ ap (λ (n : ℕ). with_later is_later n old.numbering.later.items) at
            ∙ ap (λ (l : List ℕ). with_later is_later (length e + 2) l) k.later_is;
        kind = subst (λ (s : Kind w p). KnowsKind s may links names ((link, x) ∷ e)) (sym kind_is)
            (follows may links names e at k.kind);
      };
}

-- ---- the events of one wide event

pub none-taken : {w p : ℕ} (g : Guide w p) (link : Link) → TakesEvents g g link []
unfolding with_events
none-taken g link = record {
  narrower_is = refl;
  takes = λ may links names later e k. record {
    recorded = k.recorded;
    later_is = k.later_is ∙ sym (append-nil later);
    kind = k.kind;
  };
}

pub more-taken : {w p : ℕ} (old now new : Guide w p) (link : Link) (first : List (Event p)) (x : Event p)
    → TakesEvents old now link first → TakesEvent now new link (has_some first) x
    → TakesEvents old new link (first ++ x ∷ [])
more-taken {w} {p} old now new link first x one more = record {
  narrower_is = more.narrower_is ∙ one.narrower_is;
  takes = λ may links names later e k.
      let next = more.takes may links names _ _ (one.takes may links names later e k) in
      let number : length (with_events link first e) + 2 ≡ length e + 2 + length first =
      omega (arith, events-length link first e) in
      subst (λ (u : Events p). KnowsRecorded new may links names
      (later ++ later_numbers (length e + 2) (first ++ x ∷ [])) u)
      (sym (events-more link first x e))
      (subst (λ (l : List ℕ). KnowsRecorded new may links names l ((link, x) ∷ with_events link first e))
      (ap (λ (n : ℕ). with_later (has_some first) n (later ++ later_numbers (length e + 2) first)) number
      ∙ later-more (length e + 2) later first x) next);
}

-- a commit becomes one event
pub one-taken : {w p : ℕ} (old new : Guide w p) (link : Link) (x : Event p) → TakesEvent old new link false x
    → TakesEvents old new link (x ∷ [])
one-taken old new link x takes = more-taken old old new link [] x (none-taken old link) takes

-- ---- the parts of a wide beat

some-more : {A : Type 0} (xs : List A) (x : A) → has_some (xs ++ x ∷ []) ≡ true
some-more [] x = refl
some-more (y ∷ xs) x = refl

pub parts-none : {w p : ℕ} (g : Guide w p) (link : Link) (beats : List (Beat p)) → PartsTaken g g link false beats beats
parts-none g link beats = record { first = []; parts_are = refl; later_is = refl; takes = none-taken g link }

pub parts-more : {w p : ℕ} (old now new : Guide w p) (link : Link) (is_later : Bool) (beats left rest : List (Beat p))
    (part : Beat p) → left ≡ part ∷ rest → PartsTaken old now link is_later beats left
    → TakesEvent now new link is_later (event.Beat part) → PartsTaken old new link true beats rest
parts-more {w} {p} old now new link is_later beats left rest part is so_far takes =
    let events : as_events (so_far.first ++ part ∷ []) ≡ as_events so_far.first ++ event.Beat part ∷ [] =
    map-append (λ (b : Beat p). event.Beat b) so_far.first (part ∷ []) in
    record {
      first = so_far.first ++ part ∷ [];
      parts_are = so_far.parts_are ∙ ap (λ (l : List (Beat p)). so_far.first ++ l) is
          ∙ sym (append_assoc so_far.first (part ∷ []) rest);
      later_is = sym (ap (λ (l : List (Event p)). has_some l) events ∙ some-more (as_events so_far.first)
          (event.Beat part));
      takes = subst (λ (l : List (Event p)). TakesEvents old new link l) (sym events)
          (more-taken old now new link (as_events so_far.first) (event.Beat part) so_far.takes
          (subst (λ (b : Bool). TakesEvent now new link b (event.Beat part)) so_far.later_is takes));
    }

pub parts-all : {w p : ℕ} (old now : Guide w p) (link : Link) (is_later : Bool) (beats left : List (Beat p)) → left ≡ []
    → PartsTaken old now link is_later beats left → TakesEvents old now link (as_events beats)
parts-all {w} {p} old now link is_later beats left none so_far =
    subst (λ (l : List (Beat p)). TakesEvents old now link (as_events l))
    (sym (so_far.parts_are ∙ ap (λ (l : List (Beat p)). so_far.first ++ l) none ∙ append-nil so_far.first)) so_far.takes

-- ---- a wide event

-- before any event
pub none-guided : {w p : ℕ} (g : Guide w p) (may : Liberties) (links : MarkedLinks) → Follows {w = w} g.narrower []
    → g.recorded ≡ 1 → g.numbering.later.items ≡ [] → KnowsKind g.kind may links [] []
    → KnowsGuide g may links [] (λ q. [])
unfolding later_parts narrowed
none-guided g may links follows recorded later kind = record {
  follows = follows;
  becomes = refl;
  known = record { recorded = recorded; later_is = later; kind = kind };
}

-- What is known before a wide event is known of its names too.
abbrev pub Readies : {w p : ℕ} → Guide w p → Guide w p → Link → WideEvent w → Type 0
Readies {w} {p} old mid link x =
    (may : Liberties) (links : MarkedLinks) (t : WideEvents w) (later : List ℕ) (e : Events p)
    → KnowsRecorded old may links (names_of t) later e → KnowsRecorded mid may links (names_of ((link, x) ∷ t)) later e

-- The wide event becomes these events. They are given for each width of a part.
abbrev pub Becomes : {w p : ℕ} → Guide w p → Guide w p → Link → WideEvent w → ((q : ℕ) → List (Event q)) → Type 0
Becomes {w} old mid link x events = (t : WideEvents w) → Follows old.narrower (names_of t)
    → (events (part_width w) ≡ events_of link x (names_of ((link, x) ∷ t)))
    × Follows mid.narrower (names_of ((link, x) ∷ t))

pub beat-becomes : {w p : ℕ} (old mid : Guide w p) (link : Link) (x : WideBeat w) (parts : Parts)
    → ((t : WideTrace w) → Follows old.narrower t → (is_beyond link ((link, x) ∷ t) ≡ false)
    × (left_of {p = part_width w} x parts ≡ beats_of link x ((link, x) ∷ t)) × Follows mid.narrower ((link, x) ∷ t))
    → Becomes old mid link (wide_event.Beat x) (λ q. as_events (left_of {p = q} x parts))
beat-becomes {w} old mid link x parts narrows = λ t follows.
    let (within, are, after) = narrows (names_of t) follows in
    (ap (λ (l : List (Beat (part_width w))). as_events l) are, after)

pub beat-readies : {w p : ℕ} (old mid : Guide w p) (link : Link) (x : WideBeat w) → mid.recorded ≡ old.recorded
    → mid.numbering ≡ old.numbering → NotesBeat old.kind mid.kind link x → Readies old mid link (wide_event.Beat x)
beat-readies old mid link x recorded numbering notes = λ may links t later e k. record {
  recorded = recorded ∙ k.recorded;
  later_is = ap (λ (n : Numbering). n.later.items) numbering ∙ k.later_is;
  kind = notes may links (names_of t) e k.kind;
}

pub commit-becomes : {w p : ℕ} (old mid : Guide w p) (link : Link) (x : WideCommit) (narrow : Commit)
    → ((t : WideTrace w) → Follows old.narrower t
    → (is_beyond link ((link, named_as (wide_event.Commit x)) ∷ t) ≡ false)
    × (narrow ≡ commit_at x (narrow_address ((link, named_as (wide_event.Commit x)) ∷ t) (address_of x)))
    × Follows mid.narrower ((link, named_as (wide_event.Commit x)) ∷ t))
    → Becomes old mid link (wide_event.Commit x) (λ q. event.Commit narrow ∷ [])
commit-becomes old mid link x narrow narrows = λ t follows.
    let (within, are, after) = narrows (names_of t) follows in
    (ap (λ (c : Commit). event.Commit c ∷ []) are, after)

-- the address of no request changes with a commit
kind-committed : {w p : ℕ} (kind : Kind w p) (link : Link) (x : WideCommit) (may : Liberties) (links : MarkedLinks)
    (t : WideEvents w) (e : Events p) → KnowsKind kind may links (names_of t) e
    → KnowsKind kind may links (names_of ((link, wide_event.Commit x) ∷ t)) e
unfolding asked_address
kind-committed (OfLink g) link x may links t e k = k
kind-committed (OfCopy g) link x may links t e k = k
kind-committed (OfResponse g) link x may links t e k = k
kind-committed OfNothing link x may links t e k = k

pub commit-readies : {w p : ℕ} (old mid : Guide w p) (link : Link) (x : WideCommit) → mid.recorded ≡ old.recorded
    → mid.numbering ≡ old.numbering → mid.kind ≡ old.kind → Readies old mid link (wide_event.Commit x)
commit-readies {w} {p} old mid link x recorded numbering kind = λ may links t later e k. record {
  recorded = recorded ∙ k.recorded;
  later_is = ap (λ (n : Numbering). n.later.items) numbering ∙ k.later_is;
  kind = subst (λ (s : Kind w p). KnowsKind s may links (names_of ((link, wide_event.Commit x) ∷ t)) e) (sym kind)
      (kind-committed old.kind link x may links t e k.kind);
}

module _ {w p : ℕ} (part : p ≡ part_width w) (link : Link) (x : WideEvent w) (events : (q : ℕ) → List (Event q)) where
  -- the numbers of later parts don't depend on the width of a part
  same-later : (t : WideEvents w) (e : (q : ℕ) → Events q) → e (part_width w) ≡ narrowed t
      → events (part_width w) ≡ events_of link x (names_of ((link, x) ∷ t))
      → later_parts t ++ later_numbers (length (e p) + 2) (events p) ≡ later_parts ((link, x) ∷ t)
  unfolding later_parts
  same-later t e becomes are =
      subst (λ (q : ℕ). later_parts t ++ later_numbers (length (e q) + 2) (events q)
      ≡ later_parts t ++ later_numbers (length (e (part_width w)) + 2) (events (part_width w))) (sym part) refl
      ∙ ap (λ (u : Events (part_width w)). later_parts t ++ later_numbers (length u + 2) (events (part_width w)))
      becomes
      ∙ ap (λ (l : List (Event (part_width w))). later_parts t ++ later_numbers (length (narrowed t) + 2) l) are

  becomes-more : (t : WideEvents w) (e : (q : ℕ) → Events q) → e (part_width w) ≡ narrowed t
      → events (part_width w) ≡ events_of link x (names_of ((link, x) ∷ t))
      → with_events link (events (part_width w)) (e (part_width w)) ≡ narrowed ((link, x) ∷ t)
  unfolding narrowed
  becomes-more t e becomes are =
      ap (λ (u : Events (part_width w)). with_events link (events (part_width w)) u) becomes
      ∙ ap (λ (l : List (Event (part_width w))). with_events link l (narrowed t)) are

  pub wide-taken : (old mid new : Guide w p) → Becomes old mid link x events → Readies old mid link x
      → TakesEvents mid new link (events p) → TakesWide old new link x
  wide-taken old mid new becomes readies takes = λ may links t e k.
      let (are, follows) = becomes t k.follows in
      let next = takes.takes may links _ (later_parts t) (e p) (readies may links t (later_parts t) (e p) k.known) in (
        (λ q. with_events link (events q) (e q)),
        record {
          follows = rw takes.narrower_is follows;
          becomes = becomes-more t e k.becomes are;
          known = subst (λ (l : List ℕ). KnowsRecorded new may links (names_of ((link, x) ∷ t)) l
              (with_events link (events p) (e p))) (same-later t e k.becomes are) next;
        },
      )
