-- Which of the messages that are pending is the next to be told.
use Rattle.std.proofs.Common.{◌≡◌, ◌+◌, ◌<◌, ℕ, suc, Bool, true, false, not, List, [], ◌∷◌, ◌++◌, refl, sym, ◌∙◌}
use Rattle.std.proofs.Common.{ap, append_assoc, inl, inr, arith, get_or, length, take}
use Rattle.std.specs.Prelude.{◌&&◌, codes, slice_index_or, Option, Some, None}
use Rattle.std.specs.Fmt.{decimal}
use Rattle.std.specs.List.{AllPass, Contains}
use Rattle.std.proofs.lemmas.Bool.Decides.{nat_tests}
use Rattle.std.proofs.lemmas.List.{take_more}
use Rattle.std.proofs.lemmas.List.Elements.{All-append, All-cons, All-nil, Contains-append_left, Contains-append_right}
use Rattle.tl_explain.specs.declared.ledger.Pending.{Pending}
use Rattle.tl_explain.specs.declared.told.Spelling.{Spelling}
use Rattle.tl_explain.specs.statement.Pending.{IsNext, TellsOldest, TellsOne, is_before, is_behind, pending_heading}

-- ---- one message more

pass-one : (test : Pending → Bool) (before : List Pending) (x : Pending) → AllPass test before → test x ≡ true
    → AllPass test (before ++ x ∷ [])
pass-one test before x all is = All-append (λ y. test y ≡ true) before (x ∷ []) all
    (All-cons (λ y. test y ≡ true) x [] is (All-nil (λ y. test y ≡ true)))

own : (x : Pending) → Contains (x ∷ []) x
own x = (0, omega arith, refl)

-- one that doesn't stand behind the other is left out
pub left-out : (before : List Pending) (after oldest : Option Pending) (x : Pending) → is_behind after x ≡ false
    → IsNext before after oldest → IsNext (before ++ x ∷ []) after oldest
left-out before after None x apart all = pass-one (λ y. not (is_behind after y)) before x all (rw apart refl)
left-out before after (Some p) x apart is = (
  Contains-append_left before (x ∷ []) p is.0,
  is.1,
  pass-one (λ y. not (is_behind after y && is_before y p)) before x is.2 (rw apart refl),
)

-- nothing stands before itself
not-itself : (x : Pending) → is_before x x ≡ false
not-itself x = grind (arith, nat_tests)

none-behind : (behind b : Bool) → not behind ≡ true → not (behind && b) ≡ true
none-behind true b e = absurd cc
none-behind false b e = refl

-- the first that does
pub first-behind : (before : List Pending) (after : Option Pending) (x : Pending) → is_behind after x ≡ true
    → IsNext before after None → IsNext (before ++ x ∷ []) after (Some x)
first-behind before after x stands all = (
  Contains-append_right before (x ∷ []) x (own x),
  stands,
  pass-one (λ y. not (is_behind after y && is_before y x)) before x
      (λ k d lt. none-behind (is_behind after (slice_index_or before k d)) (is_before (slice_index_or before k d) x)
      (all k d lt)) (rw (stands, not-itself x) refl),
)

-- what stands before an older one stands before a younger one
older : (x y z : Pending) → is_before x y ≡ true → is_before z x ≡ true → is_before z y ≡ true
older x y z e f = grind (arith, nat_tests, e, f)

not-older : (behind : Bool) (x y z : Pending) → is_before x y ≡ true → not (behind && is_before z y) ≡ true
    → not (behind && is_before z x) ≡ true
not-older false x y z e f = refl
not-older true x y z e f = go (is_before z x) refl
  where
    go : (b : Bool) → is_before z x ≡ b → not (true && b) ≡ true
    go false is = refl
    go true is = let late : is_before z y ≡ true = older x y z e is in rw late at f

-- one that stands before the oldest so far
pub older-one : (before : List Pending) (after : Option Pending) (p x : Pending) → is_behind after x ≡ true
    → is_before x p ≡ true → IsNext before after (Some p) → IsNext (before ++ x ∷ []) after (Some x)
older-one before after p x stands first is = (
  Contains-append_right before (x ∷ []) x (own x),
  stands,
  pass-one (λ y. not (is_behind after y && is_before y x)) before x
      (λ k d lt. not-older (is_behind after (slice_index_or before k d)) x p (slice_index_or before k d) first
      (is.2 k d lt)) (rw (stands, not-itself x) refl),
)

-- and one that doesn't
pub younger-one : (before : List Pending) (after : Option Pending) (p x : Pending) → is_before x p ≡ false
    → IsNext before after (Some p) → IsNext (before ++ x ∷ []) after (Some p)
younger-one before after p x late is = (
  Contains-append_left before (x ∷ []) p is.0,
  is.1,
  pass-one (λ y. not (is_behind after y && is_before y p)) before x is.2 (behind-or-not (is_behind after x)),
)
  where
    behind-or-not : (b : Bool) → not (b && is_before x p) ≡ true
    behind-or-not true = rw late refl
    behind-or-not false = refl

-- ---- one after another

pub told-none : (says : ℕ → Spelling → List ℕ → List ℕ → Type 0) (n k : ℕ) (pending : List Pending)
    (after : Option Pending) (old : List ℕ) → n ≡ suc k
    → IsNext pending after None → TellsOldest says pending after n old old
unfolding TellsOldest
told-none says n k pending after old e is = rw e (inl (is, refl))

pub told-next : (says : ℕ → Spelling → List ℕ → List ℕ → Type 0) (n k : ℕ) (pending : List Pending)
    (after : Option Pending) (next : Pending) (old mid new : List ℕ)
    → n ≡ suc k → IsNext pending after (Some next) → TellsOne says next old mid
    → TellsOldest says pending (Some next) k mid new → TellsOldest says pending after n old new
unfolding TellsOldest
told-next says n k pending after next old mid new e is one more = rw e (inr (next, mid, is, one, more))

pub told-all : (says : ℕ → Spelling → List ℕ → List ℕ → Type 0) (n : ℕ) (pending : List Pending)
    (after : Option Pending) (old : List ℕ) → n ≡ 0
    → TellsOldest says pending after n old old
unfolding TellsOldest
told-all says n pending after old e = rw e refl

-- one more of the messages was looked at
pub next-kept : (items seen : List Pending) (i : ℕ) (d : Pending) (after oldest result : Option Pending)
    → seen ≡ items → i < length seen → IsNext (take i items) after oldest
    → ((before : List Pending) → IsNext before after oldest → IsNext (before ++ get_or seen i d ∷ []) after result)
    → IsNext (take (i + 1) items) after result
next-kept items seen i d after oldest result same lt is next =
    rw (sym (ap (λ (xs : List Pending). take (i + 1) xs) same) ∙ take_more seen i d lt)
    (next (take i seen) (rw same is))

-- a text in three pieces
pub heading-told : (count : ℕ) (out a b c number : List ℕ) → a ≡ out ++ codes "  pending at the end: "
    → number ≡ decimal count → b ≡ a ++ number → c ≡ b ++ codes ", the oldest first\n"
    → c ≡ out ++ pending_heading count
unfolding pending_heading
heading-told count out a b c number first is second third =
    rw (third, second, first, is)
    (append_assoc (out ++ codes "  pending at the end: ") (decimal count) (codes ", the oldest first\n")
    ∙ append_assoc out (codes "  pending at the end: ") (decimal count ++ codes ", the oldest first\n"))
