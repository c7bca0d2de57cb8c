-- The windows for writing that an access has had, with one more beat.
use Rattle.tl_bytes.proofs.Imports.{Beat, Link, Trace, is_free, windows_since, window_began, last_window}
use Rattle.std.proofs.Common.{◌≡◌, ℕ, suc, Bool, true, false, not, ◌&&◌, ◌||◌, ◌+◌, ◌<◌, ◌≤◌, [], ◌∷◌, length, refl}
use Rattle.std.proofs.Common.{sym, ap, ◌∙◌, arith}
use Rattle.std.specs.Prelude.{if◌then◌else◌, nat_lt, ◌==◌}
use Rattle.std.specs.Bool.{beq}
use Rattle.std.proofs.lemmas.Bool.{lt-ltb, le-ltb, eq-eqb, ne_eqb}
use Rattle.tl_params.specs.declared.perm.Perm.{Perm}
use Rattle.tl_bytes.specs.declared.windows.WindowCount.{WindowCount}
use Rattle.tl_bytes.specs.declared.windows.WritingWindows.{WritingWindows}
use Rattle.tl_bytes.specs.statement.Known.{count_of, KnowsWindows}

-- before the request was complete there was none
none_before : {w : ℕ} (n block asked : ℕ) (t : Trace w) → length t < asked → windows_since n block asked t ≡ 0
unfolding windows_since
none_before n block asked [] lt = refl
none_before n block asked (x ∷ t) lt = rw (lt-ltb (suc (length t)) asked lt) refl

since : (early own was free : Bool) (k : ℕ) → early ≡ false
    → (if early then 0 else k + (if free && (own || not was) then 1 else 0))
    ≡ k + (if free && (own || not was) then 1 else 0)
since early own was free k e = rw e refl

at_once : (own was free : Bool) (k : ℕ) → own ≡ true → k ≡ 0
    → k + (if free && (own || not was) then 1 else 0) ≡ (if free then 1 else 0)
at_once true was true k e f = rw f refl
at_once true was false k e f = rw f refl
at_once false was free k e f = absurd cc

later : (own was free : Bool) (k : ℕ) → own ≡ false
    → k + (if free && (own || not was) then 1 else 0) ≡ k + (if free && not was then 1 else 0)
later own was free k e = rw e refl

-- the first, at the moment at which the request is complete
pub since_now : {w : ℕ} (n block asked : ℕ) (x : Link × Beat w) (t : Trace w) → asked ≡ suc (length t)
    → windows_since n block asked (x ∷ t) ≡ (if is_free n Perm.Trunk block (x ∷ t) then 1 else 0)
unfolding windows_since
since_now n block asked x t now =
    since (nat_lt (suc (length t)) asked) (suc (length t) == asked) (is_free n Perm.Trunk block t)
    (is_free n Perm.Trunk block (x ∷ t)) (windows_since n block asked t)
    (le-ltb (suc (length t)) asked (omega arith))
    ∙ at_once (suc (length t) == asked) (is_free n Perm.Trunk block t) (is_free n Perm.Trunk block (x ∷ t))
    (windows_since n block asked t) (eq-eqb (suc (length t)) asked (sym now))
    (none_before n block asked t (omega arith))

-- one more where the block is free, and wasn't
pub since_more : {w : ℕ} (n block asked : ℕ) (x : Link × Beat w) (t : Trace w) → asked ≤ length t
    → windows_since n block asked (x ∷ t) ≡ windows_since n block asked
    t + (if is_free n Perm.Trunk block (x ∷ t) && not (is_free n Perm.Trunk block t) then 1 else 0)
unfolding windows_since
since_more n block asked x t le =
    since (nat_lt (suc (length t)) asked) (suc (length t) == asked) (is_free n Perm.Trunk block t)
    (is_free n Perm.Trunk block (x ∷ t)) (windows_since n block asked t)
    (le-ltb (suc (length t)) asked (omega arith))
    ∙ later (suc (length t) == asked) (is_free n Perm.Trunk block t) (is_free n Perm.Trunk block (x ∷ t))
    (windows_since n block asked t) (ne_eqb (suc (length t)) asked (omega arith))

began : (after was : Bool) (k m : ℕ) → after && was ≡ false → (if after && was then k else m) ≡ m
began after was k m e = rw e refl

-- the windows of an access whose request is complete now
pub asked_now : {w : ℕ} (free : Bool) (seen : WindowCount) (asked last n block : ℕ) (x : Link × Beat w) (t : Trace w)
    → seen ≡ (if free then WindowCount.One else WindowCount.Zero) → free ≡ is_free n Perm.Trunk block (x ∷ t)
    → asked ≡ suc (length t) → (free ≡ false → last ≡ last_window n block (x ∷ t))
    → KnowsWindows (record { is_open = free; count = seen; began = asked; last = last }) n block asked (x ∷ t)
unfolding window_began
asked_now free seen asked last n block x t counts is_now now last_is = record {
  open_is = is_now;
  count_is = counts ∙ one free ∙ ap (λ b. count_of (if b then 1 else 0)) is_now
      ∙ ap count_of (sym (since_now n block asked x t now));
  began_is = λ e. now ∙ sym (began (nat_lt asked (suc (length t))) (is_free n Perm.Trunk block t)
      (window_began n block asked t) (suc (length t))
      (early (nat_lt asked (suc (length t))) (is_free n Perm.Trunk block t)
      (le-ltb asked (suc (length t)) (omega arith))));
  last_is = last_is;
}
  where
    one : (b : Bool) → (if b then WindowCount.One else WindowCount.Zero) ≡ count_of (if b then 1 else 0)
    one true = refl
    one false = refl

    early : (a b : Bool) → a ≡ false → a && b ≡ false
    early a b e = rw e refl

-- where the block is free, this is the last moment at which it was
last_now : {w : ℕ} (n block : ℕ) (t : Trace w) → is_free n Perm.Trunk block t ≡ true
    → last_window n block t ≡ length t
unfolding last_window
last_now n block [] e = refl
last_now n block (x ∷ t) e = rw e refl

nothing_more : (k : ℕ) → k + 0 ≡ k
nothing_more k = omega arith

-- the block is as free as it was
pub same_after : {w : ℕ} (windows : WritingWindows) (n block asked : ℕ) (x : Link × Beat w) (t : Trace w)
    → KnowsWindows windows n block asked t → asked ≤ length t → is_free n Perm.Trunk block (x ∷ t) ≡ is_free n
    Perm.Trunk block t → KnowsWindows windows n block asked (x ∷ t)
unfolding last_window window_began
same_after windows n block asked x t k le same = record {
  open_is = k.open_is ∙ sym same;
  count_is = k.count_is ∙ ap count_of
      (sym (since_more n block asked x t le ∙ rw same (never (is_free n Perm.Trunk block t) _)));
  began_is = λ e. k.began_is e ∙ sym (rw (lt-ltb asked (suc (length t)) (omega arith), sym k.open_is ∙ e) refl);
  last_is = λ e. k.last_is e ∙ rw (same, sym k.open_is ∙ e) refl;
}
  where
    never : (b : Bool) (k : ℕ) → k + (if b && not b then 1 else 0) ≡ k
    never true k = nothing_more k
    never false k = nothing_more k

-- the block isn't free any more
pub closed_after : {w : ℕ} (windows : WritingWindows) (last n block asked : ℕ) (x : Link × Beat w) (t : Trace w)
    → KnowsWindows windows n block asked t → asked ≤ length t → true ≡ windows.is_open
    → false ≡ is_free n Perm.Trunk block (x ∷ t) → last ≡ length t
    → KnowsWindows (record windows { is_open = false; last = last }) n block asked (x ∷ t)
unfolding last_window
closed_after windows last n block asked x t k le was closed now = record {
  open_is = closed;
  count_is = k.count_is ∙ ap count_of (sym (since_more n block asked x t le ∙ rw (← closed) (nothing_more _)));
  began_is = λ e. absurd cc;
  last_is = λ e. now ∙ sym (rw (← closed) (last_now n block t (sym (was ∙ k.open_is))));
}

-- it is free again
pub opened_after : {w : ℕ} (windows : WritingWindows) (seen : WindowCount) (moment n block asked : ℕ)
    (x : Link × Beat w) (t : Trace w) → KnowsWindows windows n block asked t → asked ≤ length t
    → false ≡ windows.is_open → ((k : ℕ) → windows.count ≡ count_of k → seen ≡ count_of (suc k))
    → true ≡ is_free n Perm.Trunk block (x ∷ t) → moment ≡ suc (length t)
    → KnowsWindows (record windows { is_open = true; count = seen; began = moment }) n block asked (x ∷ t)
unfolding last_window window_began
opened_after windows seen moment n block asked x t k le was one free now = record {
  open_is = free;
  count_is = one (windows_since n block asked t) k.count_is ∙ ap count_of (sym one_since);
  began_is = λ e. now ∙ sym (rw (← (was ∙ k.open_is)) (began' (nat_lt asked (suc (length t)))
      (window_began n block asked t) (suc (length t))));
  last_is = λ e. absurd cc;
}
  where
    more : (k : ℕ) → k + 1 ≡ suc k
    more k = omega arith

    one_since : windows_since n block asked (x ∷ t) ≡ suc (windows_since n block asked t)
    one_since = since_more n block asked x t le ∙ rw (← free, ← (was ∙ k.open_is))
        (more (windows_since n block asked t))

    began' : (after : Bool) (k m : ℕ) → (if after && false then k else m) ≡ m
    began' true k m = refl
    began' false k m = refl

-- two that are the same, or aren't
pub both_same : (a b : Bool) → beq a b ≡ true → a ≡ b
both_same true false e = absurd cc
both_same false true e = absurd cc
both_same v u e = refl

pub other_than : (a b : Bool) → beq a b ≡ false → not a ≡ b
other_than true false e = refl
other_than false true e = refl
other_than v u e = absurd cc
