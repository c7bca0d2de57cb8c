-- What is said in a line has the sizes of its types, and each line says something or nothing.
use Rattle.std.proofs.Common.{◌≡◌, ◌<◌, ◌≤◌, ℕ, ◌-◌, ◌%◌, ◌^◌, Bool, true, false, cond, List, ◌++◌, length, take, refl}
use Rattle.std.proofs.Common.{sym, subst, arith, inl, inr, length-append, lt-ltb, lit<}
use Rattle.std.specs.Prelude.{◌⊎◌, ◌||◌, not, nat_lt, replicate, if◌then◌else◌, Result, Ok, Err, ok_or}
use Rattle.std.specs.Io.BufRead.{ends_with_byte}
use Rattle.std.proofs.Math.Nat.{pow-le-pow_right}
use Rattle.std.proofs.lemmas.List.{length-take, length-replicate}
use Rattle.std.proofs.lemmas.List.Elements.{All-append, All-take}
use Rattle.tl_beat.specs.statement.Width.{IsWidth}
use Rattle.tl_coherence.specs.declared.event.Event.{Event}
use Rattle.tl_coherence.specs.statement.Headline.{IsTyped}
use Rattle.tl_coherence.specs.statement.Ranged.{AreBytes, IsRanged}
use Rattle.tl_coherence.proofs.lines.Ranges.{zeros-bytes}
use Rattle.tl_schedule.specs.declared.line.EventFault.{EventFault}
use Rattle.tl_schedule.specs.declared.line.EventFault.TheVariants.{F1, F8}
use Rattle.tl_schedule.specs.declared.line.Line.{Line}
use Rattle.tl_schedule.specs.statement.EventLine.{Asked, Get, Put, Part, Arith, Logic, Hint, AskedFits, Fits, Said}
use Rattle.tl_schedule.specs.statement.EventLine.{Load, Store, Acquire, Whole, Release, Access, Deliver}
use Rattle.tl_schedule.specs.statement.EventLine.{SpellsEvent, SpellsLine, asked_payload, event_fault, event_of}
use Rattle.tl_schedule.specs.statement.EventLine.{payload_of}
use Rattle.tl_schedule.specs.code.EventReading.{event_at, line_at}
use Rattle.tl_schedule.proofs.WholeLines.{read_said, said_read}
use Rattle.tl_lines.specs.statement.Lines.{IsOpen}

-- ---- sizes

width-few : (w : ℕ) → IsWidth w → (0 < w) × (w ≤ 64)
width-few w is = elim is [
  | inl four ↦ (omega (arith, four), omega (arith, four))
  | inr more ↦ elim more [
    | inl eight ↦ (omega (arith, eight), omega (arith, eight))
    | inr
        sixteen ↦ (omega (arith, sixteen), omega (arith, sixteen))
  ]
]

payload-long : (w size address : ℕ) (bytes : List ℕ) → IsWidth w → size ≤ 6 → length bytes ≡ 2 ^ size
    → length (payload_of w size address bytes) ≡ 64
payload-long w size address bytes width small long = go (nat_lt (2 ^ size) w)
  where
    few : 2 ^ size ≤ 2 ^ 6
    few = pow-le-pow_right {n = 2} (lit< tt) {i = size} {j = 6} small

    filled : List ℕ
    filled = bytes ++ replicate (64 - length bytes) 0

    full : length filled ≡ 64
    full = omega (
      arith,
      length-append bytes (replicate (64 - length bytes) 0),
      length-replicate {A = ℕ}
          (64 - length bytes) 0,
      long,
      few,
    )

    go : (b : Bool) → length
        (if b then replicate (address % w) 0 ++ (take (w - address % w) filled ++ replicate (64 - w) 0) else filled)
        ≡ 64
    go true =
        let within = width-few w width in
        let below : address % w < w = omega (arith, within.0) in
        let front = length-replicate {A = ℕ} (address % w) 0 in
        let middle = length-take (w - address % w) filled in
        let back = length-replicate {A = ℕ} (64 - w) 0 in
        let both = length-append (take (w - address % w) filled) (replicate (64 - w) 0) in
        let all = length-append (replicate (address % w) 0) (take (w - address % w) filled ++ replicate (64 - w) 0) in
        omega (arith, within.1, below, front, middle, back, both, all, full)
    go false = full

asked-long : (w size address : ℕ) (asked : Asked) → IsWidth w → size ≤ 6 → AskedFits w size asked
    → length (asked_payload w size address asked) ≡ 64
asked-long w size address Get width small fits = length-replicate {A = ℕ} 64 0
asked-long w size address (Put bytes) width small (long, each) = payload-long w size address bytes width small long
asked-long w size address (Part mask bytes) width small (room, are) =
    payload-long w size address bytes width small are.0
asked-long w size address (Arith operation bytes) width small (long, each) =
    payload-long w size address bytes width small long
asked-long w size address (Logic operation bytes) width small (long, each) =
    payload-long w size address bytes width small long
asked-long w size address (Hint intent) width small fits = length-replicate {A = ℕ} 64 0

typed-said : {w : ℕ} (said : Said) (fits : Fits w said) → IsWidth w → IsTyped {w = w} (event_of said fits)
typed-said (Load client size address) fits width = tt
typed-said (Store client size address value) fits width = tt
typed-said (Acquire client block grow) fits width = tt
typed-said (Whole client block bytes) (room, other, are) width = are.0
typed-said (Release client block prune) fits width = tt
typed-said {w} (Access client size address asked) (room, small, other, fits) width =
    asked-long w size address asked width small fits
typed-said (Deliver link channel) fits width = tt

pub typed-spelled : {w : ℕ} (line : List ℕ) (e : Event w) → IsWidth w → SpellsEvent line e → IsTyped e
typed-spelled {w} line e width s = subst (λ (x : Event w). IsTyped x) s.means (typed-said s.said s.fits width)

-- ---- bytes

payload-bytes : (w size address : ℕ) (bytes : List ℕ) → AreBytes bytes → AreBytes (payload_of w size address bytes)
payload-bytes w size address bytes are = go (nat_lt (2 ^ size) w)
  where
    filled : List ℕ
    filled = bytes ++ replicate (64 - length bytes) 0

    all : AreBytes filled
    all = All-append (λ byte. byte < 2 ^ 8) bytes (replicate (64 - length bytes) 0) are
        (zeros-bytes (64 - length bytes))

    go : (b : Bool) → AreBytes
        (if b then replicate (address % w) 0 ++ (take (w - address % w) filled ++ replicate (64 - w) 0) else filled)
    go true =
        All-append (λ byte. byte < 2 ^ 8) (replicate (address % w) 0)
        (take (w - address % w) filled ++ replicate (64 - w) 0) (zeros-bytes (address % w))
        (All-append (λ byte. byte < 2 ^ 8) (take (w - address % w) filled) (replicate (64 - w) 0)
        (All-take (λ byte. byte < 2 ^ 8) (w - address % w) filled all) (zeros-bytes (64 - w)))
    go false = all

asked-bytes : (w size address : ℕ) (asked : Asked) → AskedFits w size asked
    → AreBytes (asked_payload w size address asked)
asked-bytes w size address Get fits = zeros-bytes 64
asked-bytes w size address (Put bytes) (long, each) = payload-bytes w size address bytes each
asked-bytes w size address (Part mask bytes) (room, are) = payload-bytes w size address bytes are.1
asked-bytes w size address (Arith operation bytes) (long, each) = payload-bytes w size address bytes each
asked-bytes w size address (Logic operation bytes) (long, each) = payload-bytes w size address bytes each
asked-bytes w size address (Hint intent) fits = zeros-bytes 64

ranged-said : (w : ℕ) (said : Said) (fits : Fits w said) → IsRanged {w = w} (event_of said fits)
ranged-said w (Load client size address) fits = tt
ranged-said w (Store client size address value) fits = tt
ranged-said w (Acquire client block grow) fits = tt
ranged-said w (Whole client block bytes) (room, other, are) = are.1
ranged-said w (Release client block prune) fits = tt
ranged-said w (Access client size address asked) (room, small, other, fits) = asked-bytes w size address asked fits
ranged-said w (Deliver link channel) fits = tt

pub ranged-spelled : {w : ℕ} (line : List ℕ) (e : Event w) → SpellsEvent line e → IsRanged e
ranged-spelled {w} line e s = subst (λ (x : Event w). IsRanged x) s.means (ranged-said w s.said s.fits)

-- ---- lines

-- a line that is read otherwise says nothing
pub says-none : {w : ℕ} (line : List ℕ) (fault : EventFault) → IsWidth w → event_at {w = w} line ≡ Err fault
    → (said : Line w) → ¬ SpellsLine line said
says-none {w} line fault width e said s = refused (sym e) (said_read (event_at line) line width refl said s)
  where
    refused : {r : Result (Line w) EventFault} → Err fault ≡ r → r ≡ Ok said → ⊥
    refused p q = absurd cc

pub says-or-not : {w : ℕ} (line : List ℕ) → IsWidth w → ((said : Line w) × SpellsLine line said)
    ⊎ ((said : Line w) → ¬ SpellsLine line said)
says-or-not {w} line width = go (event_at line) refl
  where
    go : (r : Result (Line w) EventFault) → event_at line ≡ r → ((said : Line w) × SpellsLine line said)
        ⊎ ((said : Line w) → ¬ SpellsLine line said)
    go (Ok said) e = inl (said, read_said (Ok said) line (sym e))
    go (Err fault) e = inr (says-none line fault width e)

-- a line with no LF at its end, or of more than 256 bytes
is-open : (line : List ℕ) → IsOpen line → (nat_lt 256 (length line) || not (ends_with_byte 10 line)) ≡ true
is-open line (inl ends) = go (nat_lt 256 (length line))
  where
    go : (b : Bool) → (b || not (ends_with_byte 10 line)) ≡ true
    go true = refl
    go false = rw ends refl
is-open line (inr long) = rw (lt-ltb 256 (length line) long) refl

pub open-fault : (line : List ℕ) → IsOpen line → event_fault line ≡ F1
open-fault line is = rw (is-open line is) refl

pub open-none : {w : ℕ} (line : List ℕ) → IsWidth w → IsOpen line → (said : Line w) → ¬ SpellsLine line said
open-none {w} line width is =
    says-none line F1 width (read (nat_lt 256 (length line) || not (ends_with_byte 10 line)) (is-open line is))
  where
    read : (b : Bool) → b ≡ true → cond b (Err F1) (ok_or (line_at {w = w} (take (length line - 1) line)) F8) ≡ Err F1
    read true e = refl
    read false e = absurd cc
