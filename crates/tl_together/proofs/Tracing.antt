-- The first breach of a trace of which a beginning was judged.
use Rattle.std.proofs.Common.{◌≡◌, ℕ, List, [], ◌∷◌, ◌++◌, length, ◌<◌, ◌≤◌, ◌+◌, false, refl, ap, sym, ◌∙◌, arith}
use Rattle.std.proofs.Common.{take, drop, reverse}
use Rattle.std.specs.Prelude.{slice_index_or, Option, Some, None, Err}
use Rattle.std.proofs.lemmas.List.{drop_more, take_more, drop_all, reverse-append, length-reverse, length-take-le}
use Rattle.tl_beat.specs.declared.beat.Beat.{Beat}
use Rattle.tl_beat.specs.declared.beat.Link.{Link}
use Rattle.tl_params.specs.declared.level.Level.{Level}
use Rattle.tl_params.specs.declared.liberties.Liberties.{Liberties}
use Rattle.tl_params.specs.statement.Config.{IsCount}
use Rattle.tl_rules.specs.statement.Conformance.{Trace}
use Rattle.tl_together.specs.declared.breach.Breach.{Breach}
use Rattle.tl_together.specs.declared.judge.Judge.{Judge}
use Rattle.tl_together.specs.declared.fault.JudgeFault.{JudgeFault}
use Rattle.tl_together.specs.declared.fault.JudgeFault.TheVariants as judge
use Rattle.tl_together.specs.statement.Coherence.{broken_together, breach_from}
use Rattle.tl_together.specs.statement.Knows.{Knows, Answers, AnswersTrace, fault_of, broken, trace_fault_of}

-- the first fault of a trace of which a beginning was judged
unbroken : (o : Option Breach) → broken o ≡ None → o ≡ None
unbroken None e = refl
unbroken (Some r) e = absurd cc

broken_by : (o : Option Breach) (r : Breach) → broken o ≡ Some (judge.Broken r) → o ≡ Some r
broken_by None r e = absurd cc
broken_by (Some s) r e = cc

judged : {w : ℕ} (i : ℕ) (trace : Trace w) (x : Link × Beat w) → i < length trace → x ≡ slice_index_or trace i x
    → (drop i trace ≡ x ∷ drop (i + 1) trace) × (reverse (take (i + 1) trace) ≡ x ∷ reverse (take i trace))
judged {w} i trace x lt is =
    let more : take (i + 1) trace ≡ take i trace ++ x ∷ [] =
    take_more trace i x lt ∙ ap (λ (y : Link × Beat w). take i trace ++ y ∷ []) (sym is) in
    let first : drop i trace ≡ x ∷ drop (i + 1) trace =
    drop_more trace i x lt ∙ ap (λ (y : Link × Beat w). y ∷ drop (i + 1) trace) (sym is) in
    (first, ap reverse more ∙ reverse-append (take i trace) (x ∷ []))

pub known-goes_on : {w : ℕ} (m : Judge w) (levels : List Level) (may : Liberties) (trace : Trace w) (i : ℕ)
    (x : Link × Beat w) → i < length trace → x ≡ slice_index_or trace i x
    → Knows m levels may (x ∷ reverse (take i trace)) false → Knows m levels may (reverse (take (i + 1) trace)) false
known-goes_on m levels may trace i x lt is k = rw ((judged i trace x lt is).1) k

pub fault-goes_on : {w : ℕ} (levels : List Level) (may : Liberties) (trace : Trace w) (i : ℕ) (x : Link × Beat w)
    → i < length trace → x ≡ slice_index_or trace i x
    → fault_of levels may (reverse (take i trace)) false x ≡ None
    → breach_from levels may (reverse (take i trace)) (drop i trace) ≡ breach_from levels may (reverse (take (i + 1) trace))
    (drop (i + 1) trace)
unfolding breach_from
fault-goes_on levels may trace i x lt is none =
    let e = judged i trace x lt is in
    let fine : broken_together levels may x (reverse (take i trace)) ≡ None =
    unbroken (broken_together levels may x (reverse (take i trace))) none in
    rw (e.0, e.1, fine) refl

fault-found : {w : ℕ} (levels : List Level) (may : Liberties) (trace : Trace w) (i : ℕ) (x : Link × Beat w) (r : Breach)
    → i < length trace → x ≡ slice_index_or trace i x
    → fault_of levels may (reverse (take i trace)) false x ≡ Some (judge.Broken r)
    → breach_from levels may (reverse (take i trace)) (drop i trace) ≡ Some (i, r)
unfolding breach_from
fault-found levels may trace i x r lt is found =
    let e = judged i trace x lt is in
    let here : broken_together levels may x (reverse (take i trace)) ≡ Some r =
    broken_by (broken_together levels may x (reverse (take i trace))) r found in
    let count : length (reverse (take i trace)) ≡ i = length-reverse (take i trace) ∙ length-take-le i trace
    (omega arith) in
    rw (e.0, here, count) refl

pub fault-none : {w : ℕ} (levels : List Level) (may : Liberties) (trace before : Trace w) (i : ℕ) → length trace ≤ i
    → breach_from levels may before (drop i trace) ≡ None
unfolding breach_from
fault-none levels may trace before i le = rw (drop_all i trace le) refl

pub fault-answered : {w : ℕ} (levels : List Level) (may : Liberties) (beats : Trace w) (i : ℕ) (x : Link × Beat w)
    (e : JudgeFault) → IsCount (length levels) → i < length beats
    → x ≡ slice_index_or beats i x
    → breach_from levels may [] beats ≡ breach_from levels may (reverse (take i beats)) (drop i beats)
    → Answers (fault_of levels may (reverse (take i beats)) false x) (Err e)
    → AnswersTrace levels may beats (Err (trace_fault_of i e))
fault-answered levels may beats i x (judge.Broken breach) counted lt is same answer =
    (counted, same ∙ fault-found levels may beats i x breach lt is answer)
fault-answered levels may beats i x judge.Levels counted lt is same answer = counted
fault-answered levels may beats i x judge.Memory counted lt is same answer = counted
fault-answered levels may beats i x judge.Closed counted lt is same answer = counted
