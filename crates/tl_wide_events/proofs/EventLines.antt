-- A line spells one event of a wide trace or none: the letter of a commit is no channel's.
use Rattle.std.proofs.Common.{◌≡◌, ◌≢◌, ℕ, List, refl, ◌∙◌, ap, ap₂, sym, inl, inr}
use Rattle.std.specs.Prelude.{◌⊎◌, Option, Some, None, Result, Ok, Err}
use Rattle.std.specs.Result.{result_err}
use Rattle.tl_beat.proofs.ReadFields.{ok_is, ok_of}
use Rattle.tl_beat.specs.declared.beat.Link.{Link}
use Rattle.tl_beat.specs.declared.fault.LineFault.{LineFault}
use Rattle.tl_beat.specs.declared.fault.LineFault.TheVariants.{F1, F2, F3, F4, F5, F6}
use Rattle.tl_events.proofs.CommitSpelled.{reading-spelled as commit-read}
use Rattle.tl_events.specs.declared.commit.Commit.{Commit}
use Rattle.tl_wide.proofs.Faults.{reading-fault}
use Rattle.tl_wide.proofs.ReadLines.{reading-spells}
use Rattle.tl_wide.proofs.SpelledLines.{reading-spelled}
use Rattle.tl_wide.specs.code.Reading.{reading}
use Rattle.tl_wide.specs.declared.beat.WideBeat.{WideBeat}
use Rattle.tl_wide.specs.statement.Line.{WideSpells, wide_fields_fault, wide_line_fault}
use Rattle.tl_wide.specs.statement.Width.{IsWideWidth}
use Rattle.tl_wide_events.proofs.CommitFaults.{fields-of, spelled-line, unfaulted}
use Rattle.tl_wide_events.proofs.HalvedLines.{cut, halved, high_half, low_half}
use Rattle.tl_wide_events.specs.code.Halves.{widened}
use Rattle.tl_wide_events.specs.declared.commit.WideCommit.{WideCommit}
use Rattle.tl_wide_events.specs.declared.commit.WideCommit.TheVariants as commit
use Rattle.tl_wide_events.specs.declared.commit.WideEvent.{WideEvent}
use Rattle.tl_wide_events.specs.declared.commit.WideEvent.TheVariants as wide
use Rattle.tl_wide_events.specs.statement.WideCommitLine.{SpellsWideCommit, wide_commit_fault, wide_commit_fields}
use Rattle.tl_wide_events.specs.statement.WideEventLine.{SpellsWideEvent, wide_event_fault}

-- ---- a commit's line is no beat's

spelled-commit : (w : ℕ) (line : List ℕ) (link : Link) (x : WideCommit) → SpellsWideCommit line link x
    → wide_line_fault w line ≡ Some F2
spelled-commit w line link x s =
    let f = fields-of line link x s in
    rw (f.whole, f.are) (no-channel x)
  where
    no-channel : (x : WideCommit) → wide_fields_fault w (wide_commit_fields link x) ≡ Some F2
    no-channel (commit.Store piece value) = refl
    no-channel (commit.Load piece value) = refl
    no-channel (commit.Begin piece) = refl

-- what a beat's line spells has no fault
spelled-beat : {w : ℕ} (line : List ℕ) (link : Link) (x : WideBeat w) → IsWideWidth w → WideSpells line link x
    → wide_line_fault w line ≡ None
spelled-beat {w} line link x width spells =
    sym (reading-fault w line) ∙ ap result_err (reading-spelled line link x width spells)

-- ---- one event of a line

abbrev commit_of : Link → WideCommit → Link × WideCommit
commit_of link x = (link, x)

pub one-commit : (line : List ℕ) (k l : Link) (x y : WideCommit) → SpellsWideCommit line k x → SpellsWideCommit line l y
    → (k, x) ≡ commit_of l y
one-commit line k l x y s t =
    let h = halved line k x s in
    let i = halved line l y t in
    let lows : (k, low_half x) ≡ low_of l (low_half y) =
    ok_is (sym (commit-read (cut line) k (low_half x) h.low) ∙ commit-read (cut line) l (low_half y) i.low) in
    let highs : high_half x ≡ high_half y = ok_is (sym h.high ∙ i.high) in
    ap (commit_of k) (sym h.both) ∙ ap₂ (λ (z : Link × Commit) (n : ℕ). commit_of z.0 (widened z.1 n)) lows highs
    ∙ ap (commit_of l) i.both
  where
    low_of : Link → Commit → Link × Commit
    low_of link x = (link, x)

one-beat : {w : ℕ} (line : List ℕ) (k l : Link) (x y : WideBeat w) → IsWideWidth w → WideSpells line k x
    → WideSpells line l y → ok_of {A = Link × WideBeat w} (k, x) ≡ ok_of (l, y)
one-beat line k l x y width s t =
    sym (reading-spelled line k x width s) ∙ reading-spelled line l y width t

-- ---- events

pub spelled-event : {w : ℕ} (line : List ℕ) (link : Link) (x : WideEvent w) → IsWideWidth w
    → SpellsWideEvent line link x → wide_event_fault w line ≡ None
spelled-event line link (wide.Beat x) width spells = rw (spelled-beat line link x width spells) refl
spelled-event {w} line link (wide.Commit x) width spells =
    rw (spelled-commit w line link x spells) (unfaulted line link x spells)

abbrev event_of : {w : ℕ} → Link → WideEvent w → Link × WideEvent w
event_of link x = (link, x)

-- a line spells one event
pub one-event : {w : ℕ} (line : List ℕ) (k l : Link) (x y : WideEvent w) → IsWideWidth w → SpellsWideEvent line k x
    → SpellsWideEvent line l y → (k, x) ≡ event_of l y
one-event {w} line k l (wide.Beat x) (wide.Beat y) width s t =
    let same : (k, x) ≡ (l, y) = ok_is (one-beat line k l x y width s t) in
    ap (λ (z : Link × WideBeat w). event_of z.0 (wide.Beat z.1)) same
one-event line k l (wide.Commit x) (wide.Commit y) width s t =
    ap (λ (z : Link × WideCommit). event_of z.0 (wide.Commit z.1)) (one-commit line k l x y s t)
one-event {w} line k l (wide.Beat x) (wide.Commit y) width s t =
    let no : None ≡ Some F2 = sym (spelled-beat line k x width s) ∙ spelled-commit w line l y t in
    absurd cc
one-event {w} line k l (wide.Commit x) (wide.Beat y) width s t =
    let no : None ≡ Some F2 = sym (spelled-beat line l y width t) ∙ spelled-commit w line k x s in
    absurd cc

pub same-event : {w : ℕ} (line : List ℕ) (k l : Link) (x y : WideEvent w) → IsWideWidth w → SpellsWideEvent line k x
    → SpellsWideEvent line l y → (k ≡ l) × (x ≡ y)
same-event {w} line k l x y width s t =
    let same = one-event line k l x y width s t in
    (ap (λ (z : Link × WideEvent w). z.0) same, ap (λ (z : Link × WideEvent w). z.1) same)

pub ok-event : {w : ℕ} (line : List ℕ) (k l : Link) (x y : WideEvent w) → IsWideWidth w → SpellsWideEvent line k x
    → SpellsWideEvent line l y → ok_of {A = Link × WideEvent w} (k, x) ≡ ok_of (l, y)
ok-event {w} line k l x y width s t = ap (λ (z : Link × WideEvent w). ok_of z) (one-event line k l x y width s t)

-- a line with a fault of a beat's line spells none, unless the letter is no channel's
pub none-spelled : {w : ℕ} (line : List ℕ) (fault : LineFault) → IsWideWidth w → Some fault ≡ wide_line_fault w line
    → fault ≢ F2 → (link : Link) (x : WideEvent w) → ¬ SpellsWideEvent line link x
none-spelled line fault width is other link (wide.Beat x) spells =
    let no : Some fault ≡ None = is ∙ spelled-beat line link x width spells in
    absurd cc
none-spelled {w} line fault width is other link (wide.Commit x) spells =
    let same : Some fault ≡ Some F2 = is ∙ spelled-commit w line link x spells in
    absurd (other cc)

-- a line spells an event, or it has a fault
abbrev pub EventOrFault : ℕ → List ℕ → Type 0
EventOrFault w line =
    ((link : Link) × (x : WideEvent w) × SpellsWideEvent line link x)
    ⊎ ((fault : LineFault) × (wide_event_fault w line ≡ Some fault))

pub event-or-fault : (w : ℕ) (line : List ℕ) → IsWideWidth w → EventOrFault w line
event-or-fault w line width = go (reading w line) refl
  where
    commit_or : (o : Option LineFault) → wide_commit_fault line ≡ o → wide_line_fault w line ≡ Some F2
        → EventOrFault w line
    commit_or None is of_beat =
        let (link, x, spells) = spelled-line line is in inl (link, wide.Commit x, spells)
    commit_or (Some fault) is of_beat = inr (fault, rw of_beat is)

    other : (fault : LineFault) → wide_line_fault w line ≡ Some fault → EventOrFault w line
    other F2 of_beat = commit_or (wide_commit_fault line) refl of_beat
    other F1 of_beat = inr (F1, rw of_beat refl)
    other F3 of_beat = inr (F3, rw of_beat refl)
    other F4 of_beat = inr (F4, rw of_beat refl)
    other F5 of_beat = inr (F5, rw of_beat refl)
    other F6 of_beat = inr (F6, rw of_beat refl)

    go : (r : Result (Link × WideBeat w) LineFault) → reading w line ≡ r → EventOrFault w line
    go (Ok (link, x)) is = inl (link, wide.Beat x, reading-spells line link x width is)
    go (Err fault) is = other fault (sym (reading-fault w line) ∙ ap result_err is)
