-- The lines of commits, one after the other.
use Rattle.std.proofs.Common.{◌≡◌, ◌<◌, ◌≤◌, ℕ, zero, suc, ◌+◌, ◌-◌, ◌*◌, ◌/◌, ◌%◌, ◌^◌, List, [], ◌∷◌, ◌++◌, refl, sym}
use Rattle.std.proofs.Common.{append_assoc, ap, ◌∙◌, arith, mod-lt, pow_pos}
use Rattle.std.{proofs.Math.Nat.div-div-eq-div-mul, proofs.lemmas.Nat.div-mul-add, proofs.Math.Pow.mod-mod-pow}
use Rattle.std.{proofs.lemmas.Nat.mod-pow-add, proofs.lemmas.Nat.pow-add, proofs.lemmas.List.append-nil}
use Rattle.std.specs.Prelude.{Option, Some, None, OnOk, Result, Ok, Err, if◌then◌else◌, is_ok}
use Rattle.tl_beat.specs.declared.beat.Link.{Link}
use Rattle.tl_beat.specs.statement.Digits.{digit_char, digits}
use Rattle.tl_beat.specs.statement.Line.{spaced}
use Rattle.tl_events.specs.declared.commit.Commit.{Commit}
use Rattle.tl_events.specs.declared.commit.Piece.{Piece}
use Rattle.tl_events.specs.statement.CommitLine.{commit_line, value_digits}
use Rattle.tl_schedule.specs.code.CommitWriting.{piece_text, value_text}
use Rattle.tl_schedule.specs.declared.whole.WholeStore.{WholeStore}
use Rattle.tl_schedule.specs.statement.Commits.{at_most_one, commits_text, word_store, word_stores}

-- ---- a number of sixteen digits in two halves

more_digits : (w k n : ℕ) → w ≡ suc k → digits w n ≡ digit_char (n / 2 ^ (4 * k) % 16) ∷ digits k n
unfolding digits
more_digits w k n e = rw e refl

no_digits : (n : ℕ) → digits 0 n ≡ []
unfolding digits
no_digits n = refl

-- the digits above the eight lowest are those of the quotient
high-digits : (k w n : ℕ) → w ≡ k + 8 → digits k (n / 2 ^ 32) ++ digits 8 n ≡ digits w n
high-digits zero w n e = let eight : w ≡ 8 = omega (arith, e) in rw (no_digits (n / 2 ^ 32), eight) refl
high-digits (suc k) w n e =
    let exponent : 4 * (k + 8) ≡ 32 + 4 * k = omega arith in
    let digit : n / 2 ^ 32 / 2 ^ (4 * k) ≡ n / 2 ^ (4 * (k + 8)) =
    div-div-eq-div-mul n (2 ^ 32) (2 ^ (4 * k))
    ∙ ap (λ (x : ℕ). n / x) (sym (ap (λ (x : ℕ). 2 ^ x) exponent ∙ pow-add 2 32 (4 * k))) in
    rw (more_digits (suc k) k (n / 2 ^ 32) refl, more_digits w (k + 8) n (omega (arith, e)), digit)
    (ap (λ (t : List ℕ). digit_char (n / 2 ^ (4 * (k + 8)) % 16) ∷ t) (high-digits k (k + 8) n refl))

-- the digit at place k of the remainder
low-digit : (n k : ℕ) → k < 8 → n % 2 ^ 32 / 2 ^ (4 * k) % 16 ≡ n / 2 ^ (4 * k) % 16
low-digit n k less =
    let j = 28 - 4 * k in
    let exponent : 32 ≡ (j + 4) + 4 * k = omega (arith, less) in
    let high = n / 2 ^ (4 * k) % 2 ^ (j + 4) in
    let low = n % 2 ^ (4 * k) in
    let below : low < 2 ^ (4 * k) = mod-lt n (pow_pos (4 * k)) in
    let parts : n % 2 ^ 32 ≡ high * 2 ^ (4 * k) + low =
    ap (λ (x : ℕ). n % 2 ^ x) exponent ∙ mod-pow-add n (j + 4) (4 * k) in
    let front : n % 2 ^ 32 / 2 ^ (4 * k) ≡ high =
    ap (λ (x : ℕ). x / 2 ^ (4 * k)) parts ∙ div-mul-add high (2 ^ (4 * k)) low below in
    ap (λ (x : ℕ). x % 16) front ∙ mod-mod-pow (n / 2 ^ (4 * k)) j 4

low-digits : (k n : ℕ) → k ≤ 8 → digits k (n % 2 ^ 32) ≡ digits k n
low-digits zero n le = rw (no_digits (n % 2 ^ 32), no_digits n) refl
low-digits (suc k) n le =
    rw (more_digits (suc k) k (n % 2 ^ 32) refl, more_digits (suc k) k n refl, low-digit n k (omega (arith, le)))
    (ap (λ (t : List ℕ). digit_char (n / 2 ^ (4 * k) % 16) ∷ t) (low-digits k n (omega (arith, le))))

halves : (n : ℕ) → digits 8 (n / 2 ^ 32) ++ digits 8 (n % 2 ^ 32) ≡ digits 16 n
halves n = rw (low-digits 8 n (omega arith)) (high-digits 8 16 n refl)

-- the value of a piece of eight bytes is written in two halves
pub value-written : (old mid one two : List ℕ) (size n : ℕ) → size ≡ 3 → mid ≡ old ++ 32 ∷ []
    → one ≡ mid ++ digits 8 (n / 2 ^ 32) → two ≡ one ++ digits 8 (n % 2 ^ 32) → two ≡ old ++ value_text size n
value-written old mid one two size n eight is_mid is_one is_two =
    rw (is_two, is_one, is_mid, eight)
    (append_assoc (old ++ 32 ∷ []) (digits 8 (n / 2 ^ 32)) (digits 8 (n % 2 ^ 32))
    ∙ ap (λ (t : List ℕ). (old ++ 32 ∷ []) ++ t) (halves n) ∙ append_assoc old (32 ∷ []) (digits 16 n))

-- ---- the line of a commit

-- the fields of a store or a load, one after the other
pub valued-line : (link : Link) (letter : ℕ) (piece : Piece) (value : ℕ)
    → piece_text link letter piece ++ value_text piece.size value
    ≡ spaced (digits 2 link.0 ∷ (letter ∷ []) ∷ digits 1 piece.size ∷ digits 8 piece.address
    ∷ digits (value_digits piece.size) value ∷ [])
unfolding spaced
valued-line link letter piece value =
    append_assoc (digits 2 link.0) _ (value_text piece.size value)
    ∙ ap (λ (t : List ℕ). digits 2 link.0 ++ 32 ∷ letter ∷ 32 ∷ t)
    (append_assoc (digits 1 piece.size) (32 ∷ digits 8 piece.address) (value_text piece.size value))

-- those of the beginning of a load
pub begin-line : (link : Link) (letter : ℕ) (piece : Piece)
    → piece_text link letter piece
    ≡ spaced (digits 2 link.0 ∷ (letter ∷ []) ∷ digits 1 piece.size ∷ digits 8 piece.address ∷ [])
unfolding spaced
begin-line link letter piece = refl

-- a text that is appended where there is memory
pub appended : {E : Type 0} (r : Result (Unit {0}) E) (out said new line : List ℕ) → said ≡ line
    → new ≡ (if is_ok r then out ++ said else out) → OnOk r (new ≡ out ++ line)
appended (Ok x) out said new line same is = is ∙ ap (λ (t : List ℕ). out ++ t) same
appended (Err e) out said new line same is = tt

-- ---- the lines of commits

-- the line of the commit of an event, if it has one
pub one-line : {E : Type 0} (out new : List ℕ) (link l : Link) (x : Commit) (o : Option Commit)
    (r : Result (Unit {0}) E) → Some x ≡ o → l ≡ link → OnOk r (new ≡ out ++ commit_line l x)
    → OnOk r (new ≡ out ++ commits_text link (at_most_one o))
unfolding commits_text
one-line out new link l x o (Err e) some same says = tt
one-line out new link l x o (Ok u) some same says =
    says ∙ rw (← some, same) (ap (λ (t : List ℕ). out ++ t) (sym (append-nil (commit_line link x))))

pub no-line : (out : List ℕ) (link : Link) (o : Option Commit) → None ≡ o
    → out ≡ out ++ commits_text link (at_most_one o)
unfolding commits_text
no-line out link o none = rw (← none) (sym (append-nil out))

texts-append : (link : Link) (xs ys : List Commit) → commits_text link (xs ++ ys)
    ≡ commits_text link xs ++ commits_text link ys
unfolding commits_text
texts-append link [] ys = refl
texts-append link (x ∷ xs) ys =
    ap (λ (t : List ℕ). commit_line link x ++ t) (texts-append link xs ys)
    ∙ sym (append_assoc (commit_line link x) (commits_text link xs) (commits_text link ys))

-- the lines of commits, and of more behind them
pub both-texts : {E : Type 0} (out mid new : List ℕ) (link l : Link) (xs ys : List Commit) (r : Result (Unit {0}) E)
    → l ≡ link → mid ≡ out ++ commits_text link xs → OnOk r (new ≡ mid ++ commits_text l ys)
    → OnOk r (new ≡ out ++ commits_text link (xs ++ ys))
both-texts out mid new link l xs ys (Err e) same is says = tt
both-texts out mid new link l xs ys (Ok u) same is says =
    says ∙ rw (is, same, texts-append link xs ys)
    (append_assoc out (commits_text link xs) (commits_text link ys))

-- the store of one more word of a block is written
pub word-written : (link : Link) (store : WholeStore) (i : ℕ) (out all : List ℕ) → i < 8
    → out ++ commits_text link (word_stores store i (8 - i)) ≡ all
    → (out ++ commit_line link (word_store store i)) ++ commits_text link (word_stores store (i + 1) (8 - (i + 1))) ≡ all
unfolding word_stores commits_text
word-written link store i out all less so_far =
    let left : 8 - i ≡ suc (8 - (i + 1)) = omega arith in
    append_assoc out (commit_line link (word_store store i)) _ ∙ rw left at so_far

pub words-written : (link : Link) (store : WholeStore) (i : ℕ) (out all : List ℕ) → 8 ≤ i
    → out ++ commits_text link (word_stores store i (8 - i)) ≡ all → out ≡ all
unfolding word_stores commits_text
words-written link store i out all done so_far = sym (append-nil out) ∙ (let none : 8 - i ≡ 0 = omega arith in rw none at so_far)
