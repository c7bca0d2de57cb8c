-- A line spells one event or none: the letter of a commit is no channel's.
use Rattle.std.proofs.Common.{◌≡◌, ◌≢◌, ℕ, Bool, true, false, not, cond, List, [], ◌∷◌, length, refl, ◌∙◌, ap, sym}
use Rattle.std.proofs.Common.{inl, inr}
use Rattle.std.proofs.lemmas.Bool.{eqb-true}
use Rattle.std.specs.Io.BufRead.{ends_with_byte}
use Rattle.std.specs.Prelude.{◌⊎◌, Option, Some, None, Result, Ok, Err, ◌||◌, ◌==◌, nat_lt}
use Rattle.std.specs.Result.{result_err}
use Rattle.tl_beat.proofs.ReadFields.{ok_is, ok_of}
use Rattle.tl_beat.proofs.ReadLines.{reading-spells}
use Rattle.tl_beat.proofs.SpelledLines.{one-beat}
use Rattle.tl_beat.proofs.SpelledLines as beats
use Rattle.tl_beat.proofs.Faults as beat_faults
use Rattle.tl_beat.specs.code.Reading.{reading}
use Rattle.tl_beat.specs.declared.beat.Beat.{Beat}
use Rattle.tl_beat.specs.declared.beat.Link.{Link}
use Rattle.tl_beat.specs.declared.fault.LineFault.{LineFault}
use Rattle.tl_beat.specs.declared.fault.LineFault.TheVariants.{F1, F2, F3, F4, F5, F6}
use Rattle.tl_beat.specs.statement.Width.{IsWidth}
use Rattle.tl_beat.specs.statement.First.{first_if}
use Rattle.tl_beat.specs.statement.Line.{Spells, channel_fault, channel_named, field, fields_fault, line_fault, pieces}
use Rattle.tl_beat.specs.statement.Line.{without_last}
use Rattle.tl_events.proofs.CommitFaults.{reading-fault}
use Rattle.tl_events.proofs.CommitSpelled.{ok-spells, reading-spelled}
use Rattle.tl_events.specs.code.CommitReading.{reading_commit}
use Rattle.tl_events.specs.declared.commit.Commit.{Commit}
use Rattle.tl_events.specs.declared.commit.Event.{Event}
use Rattle.tl_events.specs.declared.commit.Event.TheVariants as event
use Rattle.tl_events.specs.statement.CommitLine.{I, L, Letter, S, SpellsCommit, commit_fault, commit_fields_fault}
use Rattle.tl_events.specs.statement.CommitLine.{letter_fault, letter_named}
use Rattle.tl_events.specs.statement.EventLine.{SpellsEvent, event_fault}

-- a letter of a commit names no channel
no-channel : (second : List ℕ) (letter : Letter) → letter_named second ≡ Some letter → channel_named second ≡ None
no-channel [] letter is = absurd cc
no-channel (c ∷ d ∷ cs) letter is = absurd cc
no-channel (c ∷ []) letter is = go (c == 83) (c == 76) (c == 73) refl refl refl is
  where
    go : (s l i : Bool) → (c == 83) ≡ s → (c == 76) ≡ l → (c == 73) ≡ i
        → cond s (Some S) (cond l (Some L) (cond i (Some I) None)) ≡ Some letter → channel_named (c ∷ []) ≡ None
    go true l i is_s is_l is_i named = rw (eqb-true c 83 is_s) refl
    go false true i is_s is_l is_i named = rw (eqb-true c 76 is_l) refl
    go false false true is_s is_l is_i named = rw (eqb-true c 73 is_i) refl
    go false false false is_s is_l is_i named = absurd cc

-- so its line has the fault of a letter that is no channel's
no-letter : (w : ℕ) (second : List ℕ) (fields : List (List ℕ)) (letter : Option Letter) → letter_named second ≡ letter
    → letter_fault letter fields ≡ None → channel_fault w (channel_named second) fields ≡ Some F2
no-letter w second fields None named is = absurd cc
no-letter w second fields (Some letter) named is = rw (no-channel second letter named) refl

no-fields : (w : ℕ) (fields : List (List ℕ)) → commit_fields_fault fields ≡ None → fields_fault w fields ≡ Some F2
no-fields w fields is = go (nat_lt (length fields) 2) is
  where
    go : (b : Bool) → first_if b F1 (letter_fault (letter_named (field fields 1)) fields) ≡ None
        → first_if b F1 (channel_fault w (channel_named (field fields 1)) fields) ≡ Some F2
    go true none = absurd cc
    go false none = no-letter w (field fields 1) fields (letter_named (field fields 1)) refl none

pub no-beat : (w : ℕ) (line : List ℕ) → commit_fault line ≡ None → line_fault w line ≡ Some F2
no-beat w line is = go (nat_lt 256 (length line) || not (ends_with_byte 10 line)) is
  where
    go : (b : Bool) → first_if b F1 (commit_fields_fault (pieces (without_last line))) ≡ None
        → first_if b F1 (fields_fault w (pieces (without_last line))) ≡ Some F2
    go true none = absurd cc
    go false none = no-fields w (pieces (without_last line)) none

-- what a commit's line spells has no fault
unfaulted : (line : List ℕ) (link : Link) (x : Commit) → SpellsCommit line link x → commit_fault line ≡ None
unfaulted line link x spells = sym (reading-fault line) ∙ ap result_err (reading-spelled line link x spells)

pub spelled-commit : (w : ℕ) (line : List ℕ) (link : Link) (x : Commit) → SpellsCommit line link x
    → line_fault w line ≡ Some F2
spelled-commit w line link x spells = no-beat w line (unfaulted line link x spells)

-- what a beat's line spells has none either
spelled-beat : {w : ℕ} (line : List ℕ) (link : Link) (x : Beat w) → IsWidth w → Spells line link x
    → line_fault w line ≡ None
spelled-beat {w} line link x width spells =
    sym (beat_faults.reading-fault w line) ∙ ap result_err (beats.reading-spelled line link x width spells)

-- ---- events

pub spelled-event : {w : ℕ} (line : List ℕ) (link : Link) (x : Event w) → IsWidth w → SpellsEvent line link x
    → event_fault w line ≡ None
spelled-event line link (event.Beat x) width spells = rw (spelled-beat line link x width spells) refl
spelled-event {w} line link (event.Commit x) width spells =
    rw (spelled-commit w line link x spells) (unfaulted line link x spells)

-- a line spells one event
pub one-event : {w : ℕ} (line : List ℕ) (k l : Link) (x y : Event w) → IsWidth w → SpellsEvent line k x
    → SpellsEvent line l y → (k ≡ l) × (x ≡ y)
one-event line k l (event.Beat x) (event.Beat y) width s t =
    let (links, beats) = one-beat line k l x y width s t in
    (links, ap event.Beat beats)
one-event line k l (event.Commit x) (event.Commit y) width s t =
    let same : (k, x) ≡ (l, y) = ok_is (sym (reading-spelled line k x s) ∙ reading-spelled line l y t) in
    (ap (λ (z : Link × Commit). z.0) same, ap (λ (z : Link × Commit). event.Commit z.1) same)
one-event {w} line k l (event.Beat x) (event.Commit y) width s t =
    let no : None ≡ Some F2 = sym (spelled-beat line k x width s) ∙ spelled-commit w line l y t in
    absurd cc
one-event {w} line k l (event.Commit x) (event.Beat y) width s t =
    let no : None ≡ Some F2 = sym (spelled-beat line l y width t) ∙ spelled-commit w line k x s in
    absurd cc

pub ok-event : {w : ℕ} (line : List ℕ) (k l : Link) (x y : Event w) → IsWidth w → SpellsEvent line k x
    → SpellsEvent line l y → ok_of {A = Link × Event w} (k, x) ≡ ok_of (l, y)
ok-event line k l x y width s t =
    let (links, events) = one-event line k l x y width s t in
    rw (links, events) refl

-- a line with a fault of a beat's line spells none, unless the letter is no channel's
pub none-spelled : {w : ℕ} (line : List ℕ) (fault : LineFault) → IsWidth w → Some fault ≡ line_fault w line
    → fault ≢ F2 → (link : Link) (x : Event w) → ¬ SpellsEvent line link x
none-spelled line fault width is other link (event.Beat x) spells =
    let no : Some fault ≡ None = is ∙ spelled-beat line link x width spells in
    absurd cc
none-spelled {w} line fault width is other link (event.Commit x) spells =
    let same : Some fault ≡ Some F2 = is ∙ spelled-commit w line link x spells in
    absurd (other cc)

-- a line spells an event, or it has a fault
abbrev pub EventOrFault : ℕ → List ℕ → Type 0
EventOrFault w line =
    ((link : Link) × (x : Event w) × SpellsEvent line link x) ⊎ ((fault : LineFault) × (event_fault w line ≡ Some fault))

pub event-or-fault : (w : ℕ) (line : List ℕ) → IsWidth w → EventOrFault w line
event-or-fault w line width = go (reading w line) refl
  where
    commit : (r : Result (Link × Commit) LineFault) → reading_commit line ≡ r → line_fault w line ≡ Some F2
        → EventOrFault w line
    commit (Ok (link, x)) is of_beat = inl (link, event.Commit x, ok-spells line (Ok (link, x)) (sym is))
    commit (Err fault) is of_beat = inr (fault, rw of_beat (sym (reading-fault line) ∙ ap result_err is))

    other : (fault : LineFault) → line_fault w line ≡ Some fault → EventOrFault w line
    other F2 of_beat = commit (reading_commit line) refl of_beat
    other F1 of_beat = inr (F1, rw of_beat refl)
    other F3 of_beat = inr (F3, rw of_beat refl)
    other F4 of_beat = inr (F4, rw of_beat refl)
    other F5 of_beat = inr (F5, rw of_beat refl)
    other F6 of_beat = inr (F6, rw of_beat refl)

    go : (r : Result (Link × Beat w) LineFault) → reading w line ≡ r → EventOrFault w line
    go (Ok (link, x)) is = inl (link, event.Beat x, reading-spells line link x width is)
    go (Err fault) is = other fault (sym (beat_faults.reading-fault w line) ∙ ap result_err is)
