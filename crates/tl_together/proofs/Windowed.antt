-- When blocks could last be accessed, and requests were complete: what the tables say of a trace, and with one more beat.
use Rattle.std.proofs.Common.{◌≡◌, ℕ, zero, suc, Bool, true, false, ◌&&◌, ◌||◌, ◌<◌, ◌≤◌, [], ◌∷◌, length}
use Rattle.std.proofs.Common.{refl, sym, ◌∙◌, arith}
use Rattle.std.specs.Prelude.{if◌then◌else◌, not, Option, Some, None, is_some, is_none, nat_le}
use Rattle.std.proofs.lemmas.Bool.{both_ways}
use Rattle.tl_beat.specs.declared.beat.Beat.{Beat}
use Rattle.tl_beat.specs.declared.beat.Link.{Link}
use Rattle.tl_params.specs.declared.perm.Perm.{Perm}
use Rattle.tl_params.specs.declared.perm.Perm.TheVariants as perm
use Rattle.tl_rules.specs.code.Open.{open_request}
use Rattle.tl_rules.specs.statement.Conformance.{Trace, on_link, same_perm}
use Rattle.tl_rules.specs.statement.History.{pending}
use Rattle.tl_bytes.specs.statement.Free.{is_free, may_hold}
use Rattle.tl_bytes.specs.statement.Shown.{had_window, is_window, shows}
use Rattle.tl_together.specs.statement.Asked.{asked_at}
use Rattle.tl_together.specs.code.Windows.{last_in, shown_window, window_at}
use Rattle.tl_together.specs.declared.windows.Window.{Window}

-- ---- windows

pub free_last : {w : ℕ} (n : ℕ) (given : Perm) (block : ℕ) (t : Trace w) → is_free n given block t ≡ true
    → window_at n given block t ≡ length t
unfolding window_at
free_last n given block [] e = refl
free_last n given block (x ∷ t) e = rw e refl

last_le : {w : ℕ} (n : ℕ) (given : Perm) (block : ℕ) (t : Trace w) → window_at n given block t ≤ length t
unfolding window_at
last_le n given block [] = omega arith
last_le n given block (x ∷ t) = go (is_window n given block x t) (last_le n given block t)
  where
    go : (b : Bool) → window_at n given block t ≤ length t
        → (if b then suc (length t) else window_at n given block t) ≤ suc (length t)
    go true le = omega arith
    go false le = omega (arith, le)

asked_le : {w : ℕ} (link source : ℕ) (t : Trace w) → asked_at link source t ≤ length t
unfolding asked_at
asked_le link source [] = omega arith
asked_le link source (x ∷ t) =
    go (is_some (open_request source (on_link link (x ∷ t))) && is_none (open_request source (on_link link t)))
    (asked_le link source t)
  where
    go : (b : Bool) → asked_at link source t ≤ length t → (if b then suc (length t) else asked_at link source t) ≤ suc
        (length t)
    go true le = omega arith
    go false le = omega (arith, le)

le_true : (a b : ℕ) → a ≤ b → nat_le a b ≡ true
le_true a b le = grind (arith, le)

le_false : (a b : ℕ) → b < a → nat_le a b ≡ false
le_false a b lt = grind (arith, lt)

none_open : (w source : ℕ) → is_some (open_request {w = w} source []) ≡ false
unfolding pending
none_open w source = refl

no_beats : (w link : ℕ) → on_link {w = w} link [] ≡ []
unfolding on_link
no_beats w link = refl

none_is : {X : Type 0} (o : Option X) → is_none o ≡ not (is_some o)
none_is None = refl
none_is (Some x) = refl

-- a request has had a window where one could access its block when it was complete or later
pub window-is : {w : ℕ} (n link source : ℕ) (given : Perm) (block : ℕ) (t : Trace w)
    → had_window n link source given block t ≡ (is_some (open_request source (on_link link t)) && nat_le
    (asked_at link source t) (window_at n given block t))
unfolding had_window asked_at window_at
window-is {w} n link source given block [] =
    let none : is_some (open_request source (on_link {w = w} link [])) ≡ false =
    rw (no_beats w link) (none_open w source) in
    rw none refl
window-is n link source given block (x ∷ t) =
    rw (window-is n link source given block t, none_is (open_request source (on_link link t)))
    (go (is_some (open_request source (on_link link (x ∷ t)))) (is_window n given block x t)
    (is_some (open_request source (on_link link t)))
    (asked_at link source t) (window_at n given block t) (length t) (asked_le link source t) (last_le n given block t))
  where
    go : (now free before : Bool) (asked last count : ℕ) → asked ≤ count → last ≤ count
        → (now && (free || (before && nat_le asked last)))
        ≡ (now && nat_le (if now && not before then suc count else asked) (if free then suc count else last))
    go false free before asked last count le1 le2 = refl
    go true true true asked last count le1 le2 = sym (le_true asked (suc count) (omega (arith, le1)))
    go true true false asked last count le1 le2 = sym (le_true (suc count) (suc count) (omega arith))
    go true false true asked last count le1 le2 = refl
    go true false false asked last count le1 le2 = sym (le_false (suc count) last (omega (arith, le2)))

pub free_window : {w : ℕ} (n link source : ℕ) (given : Perm) (block : ℕ) (t : Trace w)
    → is_some (open_request source (on_link link t)) ≡ true
    → is_free n given block t ≡ true → had_window n link source given block t ≡ true
free_window n link source given block t asked free =
    window-is n link source given block t ∙ rw (asked, free_last n given block t free)
    (le_true (asked_at link source t) (length t) (asked_le link source t))

-- ---- one more beat

-- where as much is held of a block, it is as free
pub as_free : {w : ℕ} (n : ℕ) (given : Perm) (block : ℕ) (s t : Trace w)
    → ((link : ℕ) → may_hold block (on_link link s) ≡ may_hold block (on_link link t))
    → is_free n given block s ≡ is_free n given block t
unfolding is_free
as_free zero given block s t same = refl
as_free (suc n) given block s t same = rw (as_free n given block s t same, same n) refl

-- what is none always leaves
pub none_free : {w : ℕ} (n block : ℕ) (t : Trace w) → is_free n perm.None block t ≡ true
unfolding is_free
none_free zero block t = refl
none_free (suc n) block t = rw (none_free n block t) refl

-- a block that isn't free is one that nobody may access, where its bytes aren't shown to who reads it
pub last_still : {w : ℕ} (n : ℕ) (given : Perm) (block : ℕ) (y : Link × Beat w) (t : Trace w)
    → is_free n given block (y ∷ t) ≡ false
    → (same_perm given perm.Branch && shows block y.1 (on_link y.0.0 t)) ≡ false
    → window_at n given block (y ∷ t) ≡ window_at n given block t
unfolding window_at
last_still n given block y t closed hidden = rw (closed, hidden) refl

-- where they are, it may be read; for who writes it nothing is new
pub last_shown : {w : ℕ} (given : Perm) (n block moment : ℕ) (window : Window) (y : Link × Beat w) (t : Trace w)
    → is_free n given block (y ∷ t) ≡ false → shows block y.1 (on_link y.0.0 t) ≡ true → moment ≡ suc (length t)
    → ((same_perm given perm.Branch && shows block y.1 (on_link y.0.0 t)) ≡ false
    → last_in given window ≡ window_at n given block (y ∷ t))
    → last_in given (shown_window moment window) ≡ window_at n given block (y ∷ t)
unfolding window_at
last_shown perm.Branch n block moment window y t closed shown now still = rw (closed, shown) now
last_shown perm.Trunk n block moment window y t closed shown now still = still refl
last_shown perm.None n block moment window y t closed shown now still =
    absurd (both_ways (is_free n perm.None block (y ∷ t)) closed (none_free n block (y ∷ t)))

pub asked_now : {w : ℕ} (link source : ℕ) (y : Link × Beat w) (t : Trace w)
    → is_some (open_request source (on_link link (y ∷ t))) ≡ true
    → is_some (open_request source (on_link link t)) ≡ false
    → asked_at link source (y ∷ t) ≡ suc (length t)
unfolding asked_at
asked_now link source y t now before = rw (now, none_is (open_request source (on_link link t)), before) refl

pub asked_still : {w : ℕ} (link source : ℕ) (y : Link × Beat w) (t : Trace w)
    → is_some (open_request source (on_link link t)) ≡ true
    → asked_at link source (y ∷ t) ≡ asked_at link source t
unfolding asked_at
asked_still link source y t before =
    rw (none_is (open_request source (on_link link t)), before)
    (go (is_some (open_request source (on_link link (y ∷ t)))) (asked_at link source t))
  where
    go : (b : Bool) (n : ℕ) → (if b && false then suc (length t) else n) ≡ n
    go true n = refl
    go false n = refl
