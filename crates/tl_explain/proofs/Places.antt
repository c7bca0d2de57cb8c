-- The messages that are told of stand at their places, and none behind them says otherwise.
use Rattle.std.proofs.Common.{◌≡◌, ℕ, ◌==◌, ◌++◌, [], ◌∷◌, true, false, Bool}
use Rattle.std.proofs.Common.{refl, sym, ap, ◌∙◌, append-nil}
use Rattle.std.specs.Prelude.{Option, Some, None, if◌then◌else◌}
use Rattle.tl_beat.specs.declared.beat.Beat.{Beat}
use Rattle.tl_beat.specs.declared.beat.Link.{Link}
use Rattle.tl_params.specs.declared.key.Key.{Key}
use Rattle.tl_rules.specs.statement.Conformance.{Trace, on_link}
use Rattle.tl_rules.specs.statement.History.{pending}
use Rattle.tl_explain.specs.declared.told.Mention.{Mention}
use Rattle.tl_explain.specs.statement.Evidence.{is_opening, is_closing, is_saying, last_opening}
use Rattle.tl_explain.specs.statement.Evidence.{last_saying, last_where, left_of, told}
use Rattle.tl_explain.specs.statement.Since.{HasNone, IsLast, IsLastIfAny, IsPendingSince}
use Rattle.tl_explain.specs.statement.Since.{IsHeldSince}
use Rattle.tl_explain.proofs.Rests.{held_left}

some_same : {A : Type 0} {x y : A} → Some x ≡ Some y → x ≡ y
some_same e = cc

-- ---- the last beat that is such a one

module _ {w : ℕ} (is : Link × Beat w → Trace w → Bool) where
  last_here : (x : Link × Beat w) (t : Trace w) (m : Mention) → is x t ≡ true → told x t ≡ m → IsLast is m (x ∷ t)
  unfolding HasNone
  last_here x t m such e = ([], x, t, refl, sym e, such, tt)

  last_more : (x : Link × Beat w) (t : Trace w) (m : Mention) → is x t ≡ false → IsLast is m t → IsLast is m (x ∷ t)
  unfolding HasNone
  last_more x t m none (later, y, earlier, stands, tells, such, none_behind) = (
    x ∷ later,
    y,
    earlier,
    ap (λ (s : Trace w). x ∷ s) stands,
    tells,
    such,
    (ap (is x) (sym stands) ∙ none, none_behind),
  )

  pub last_found : (t : Trace w) (m : Mention) → last_where is t ≡ Some m → IsLast is m t
  unfolding last_where
  last_found [] m e = absurd cc
  last_found (x ∷ t) m e = go (is x t) refl (last_found t m) e
    where
      go : (b : Bool) → is x t ≡ b → (last_where is t ≡ Some m → IsLast is m t)
          → (if b then Some (told x t) else last_where is t) ≡ Some m → IsLast is m (x ∷ t)
      go true such before f = last_here x t m such (some_same f)
      go false none before f = last_more x t m none (before f)

  pub none_found : (t : Trace w) → last_where is t ≡ None → HasNone is t []
  unfolding last_where HasNone
  none_found [] e = tt
  none_found (x ∷ t) e = go (is x t) refl (none_found t) e
    where
      go : (b : Bool) → is x t ≡ b → (last_where is t ≡ None → HasNone is t [])
          → (if b then Some (told x t) else last_where is t) ≡ None → (is x (t ++ []) ≡ false) × HasNone is t []
      go true such before f = absurd cc
      go false none before f = (ap (is x) (append-nil t) ∙ none, before f)

  pub last_if_any : (t : Trace w) → IsLastIfAny is (last_where is t) t
  last_if_any t = go (last_where is t) refl
    where
      go : (o : Option Mention) → last_where is t ≡ o → IsLastIfAny is o t
      go None e = none_found t e
      go (Some m) e = last_found t m e

  -- and it is that beat alone
  pub found_last : (t : Trace w) (m : Mention) → IsLast is m t → last_where is t ≡ Some m
  unfolding last_where HasNone
  found_last t m (later, y, earlier, stands, tells, such, none_behind) =
      ap (last_where is) stands ∙ go later none_behind
    where
      go : (l : Trace w) → HasNone is l (y ∷ earlier) → last_where is (l ++ y ∷ earlier) ≡ Some m
      go [] none = rw (such, tells) refl
      go (x ∷ l) none = rw none.0 (go l none.1)

-- ---- a key is pending since its last opening

pending_more : {w : ℕ} (n : ℕ) (k : Key) (x : Link × Beat w) (t : Trace w)
    → pending k (on_link n (x ∷ t)) ≡ (if is_opening n k x t then true else if is_closing n k x t then false else
    pending k (on_link n t))
unfolding pending on_link
pending_more n k x t = go (x.0.0 == n) refl
  where
    go : (b : Bool) → (x.0.0 == n) ≡ b
        → pending k (on_link n (x ∷ t)) ≡ (if is_opening n k x t then true else if is_closing n k x t then false else
        pending k (on_link n t))
    go true e = rw e refl
    go false e = rw e refl

pub pending_since : {w : ℕ} (n : ℕ) (k : Key) (t : Trace w) (m : Mention) → pending k (on_link n t) ≡ true
    → last_opening n k t ≡ Some m
    → IsPendingSince n k m t
unfolding last_where HasNone pending on_link
pending_since n k [] m p e = absurd cc
pending_since {w} n k (x ∷ t) m p e =
    go (pending_since n k t m) (is_opening n k x t) refl (is_closing n k x t) refl (sym (pending_more n k x t) ∙ p) e
  where
    go : (pending k (on_link n t) ≡ true → last_opening n k t ≡ Some m → IsPendingSince n k m t)
        → (o : Bool) → is_opening n k x t ≡ o → (c : Bool) → is_closing n k x t ≡ c
        → (if o then true else if c then false else pending k (on_link n t)) ≡ true
        → (if o then Some (told x t) else last_opening n k t) ≡ Some m
        → IsPendingSince n k m (x ∷ t)
    go before true opened c closed q f = ([], x, t, refl, sym (some_same f), opened, tt, tt)
    go before false opened true closed q f = absurd cc
    go before false opened false closed q f =
        let since = before q f in (
          x ∷ since.0,
          since.1,
          since.2,
          ap (λ (s : Trace w). x ∷ s) since.3,
          since.4,
          since.5,
          (ap (is_opening n k x) (sym since.3) ∙ opened, since.6),
          (ap (is_closing n k x) (sym since.3) ∙ closed, since.7),
        )

pub pending_told : {w : ℕ} (n : ℕ) (k : Key) (t : Trace w) (m : Mention) → IsPendingSince n k m t
    → pending k (on_link n t) ≡ true
unfolding HasNone
pending_told {w} n k t m since = ap (λ (s : Trace w). pending k (on_link n s)) since.3 ∙ go since.0 since.6 since.7
  where
    go : (l : Trace w) → HasNone (is_opening n k) l (since.1 ∷ since.2) → HasNone (is_closing n k) l (since.1 ∷ since.2)
        → pending k (on_link n (l ++ since.1 ∷ since.2)) ≡ true
    go [] a b = pending_more n k since.1 since.2 ∙ rw since.5 refl
    go (x ∷ l) a b = pending_more n k x (l ++ since.1 ∷ since.2) ∙ rw (a.0, b.0) (go l a.1 b.1)

-- it is the last opening
pub opened_last : {w : ℕ} (n : ℕ) (k : Key) (t : Trace w) (m : Mention) → IsPendingSince n k m t
    → IsLast (is_opening n k) m t
opened_last n k t m since = (since.0, since.1, since.2, since.3, since.4, since.5, since.6)

-- ---- what is held

pub held_since : {w : ℕ} (n k : ℕ) (t : Trace w) → IsHeldSince n k (left_of (last_saying n k t)) (last_saying n k t) t
held_since n k t = go (last_saying n k t) refl
  where
    go : (o : Option Mention) → last_saying n k t ≡ o → IsHeldSince n k (left_of o) o t
    go None e = (ap left_of (sym e) ∙ sym (held_left n k t), refl, none_found (is_saying n k) t e)
    go (Some m) e = (ap left_of (sym e) ∙ sym (held_left n k t), refl, last_found (is_saying n k) t m e)
