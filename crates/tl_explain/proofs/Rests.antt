-- What is told of a trace is so.
use Rattle.std.proofs.Common.{◌≡◌, ℕ, ◌+◌, ◌<◌, ◌≤◌, ◌==◌, ◌&&◌, ◌||◌, [], ◌∷◌, true, false, Bool, refl, sym, arith}
use Rattle.std.specs.Prelude.{Option, Some, None, is_some, if◌then◌else◌, nat_le, unwrap_or}
use Rattle.tl_beat.specs.declared.beat.Beat.{Beat}
use Rattle.tl_beat.specs.declared.beat.Beat.TheVariants as beat
use Rattle.tl_beat.specs.declared.beat.Link.{Link}
use Rattle.tl_burst.specs.statement.Messages.{History}
use Rattle.tl_params.specs.declared.key.Key.{Key}
use Rattle.tl_params.specs.declared.perm.Perm.{Perm}
use Rattle.tl_rules.specs.statement.Conformance.{Trace, on_link}
use Rattle.tl_rules.specs.statement.History.{pending, held, says_held, grants, is_probe_ack}
use Rattle.tl_rules.specs.statement.History.{is_release, block_at, reported, capped}
use Rattle.tl_beat.specs.statement.Control.{control_of}
use Rattle.tl_explain.specs.declared.told.Mention.{Mention}
use Rattle.tl_explain.specs.statement.Evidence.{is_open, last_opening, last_closing, last_saying}
use Rattle.tl_explain.specs.statement.Evidence.{last_where, left_by, left_of, next_line, told}

-- ---- what is told stands before

abbrev IsBefore : ℕ → Option Mention → Type 0
IsBefore n None = Unit {0}
IsBefore n (Some m) = m.line < n

before_more : (n : ℕ) (o : Option Mention) → IsBefore n o → IsBefore (n + 1) o
before_more n None h = tt
before_more n (Some m) h = omega arith

before_if : (n : ℕ) (b : Bool) (m : Mention) (o : Option Mention) → m.line ≡ n → IsBefore n o
    → IsBefore (n + 1) (if b then Some m else o)
before_if n true m o e h = omega arith
before_if n false m o e h = before_more n o h

line_more : {w : ℕ} (x : Link × Beat w) (t : Trace w) → next_line (x ∷ t) ≡ next_line t + 1
line_more x t = omega arith

opening_before : {w : ℕ} (n : ℕ) (k : Key) (t : Trace w) → IsBefore (next_line t) (last_opening n k t)
unfolding last_where
opening_before n k [] = tt
opening_before n k (x ∷ t) =
    rw (line_more x t) (before_if (next_line t) _ (told x t) (last_opening n k t) refl (opening_before n k t))

closing_before : {w : ℕ} (n : ℕ) (k : Key) (t : Trace w) → IsBefore (next_line t) (last_closing n k t)
unfolding last_where
closing_before n k [] = tt
closing_before n k (x ∷ t) =
    rw (line_more x t) (before_if (next_line t) _ (told x t) (last_closing n k t) refl (closing_before n k t))

-- ---- a key is pending where its last opening isn't followed by a closing

le_true : (a b : ℕ) → a ≤ b → nat_le a b ≡ true
le_true a b h = grind arith

le_false : (a b : ℕ) → b < a → nat_le a b ≡ false
le_false a b h = grind arith

open_step : (line : ℕ) (opens closes : Bool) (m n : Mention) (o c : Option Mention) (p : Bool) → m.line ≡ line
    → n.line ≡ line → IsBefore line o → IsBefore line c → p ≡ is_open o c
    → (if opens then true else if closes then false else p) ≡ is_open (if opens then Some m else o)
    (if closes then Some n else c)
open_step line true true m n o c p e f x y h = sym (le_true n.line m.line (omega arith))
open_step line true false m n o None p e f x y h = refl
open_step line true false m n o (Some c) p e f x y h = sym (le_true c.line m.line (omega arith))
open_step line false true m n None c p e f x y h = refl
open_step line false true m n (Some o) c p e f x y h = sym (le_false n.line o.line (omega arith))
open_step line false false m n o c p e f x y h = h

pending_step : {w : ℕ} (n : ℕ) (k : Key) (x : Link × Beat w) (t : Trace w) (here : Bool) → (x.0.0 == n) ≡ here
    → pending k (on_link n t) ≡ is_open (last_opening n k t) (last_closing n k t)
    → pending k (on_link n (x ∷ t)) ≡ is_open (last_opening n k (x ∷ t)) (last_closing n k (x ∷ t))
unfolding pending on_link last_where
pending_step n k x t true e ih =
    rw e (open_step (next_line t) _ _ (told x t) (told x t) (last_opening n k t) (last_closing n k t)
    (pending k (on_link n t)) refl refl (opening_before n k t) (closing_before n k t) ih)
pending_step n k x t false e ih = rw e ih

pub pending_open : {w : ℕ} (n : ℕ) (k : Key) (t : Trace w) → pending k (on_link n t) ≡ is_open (last_opening n k t)
    (last_closing n k t)
unfolding pending on_link last_where
pending_open n k [] = refl
pending_open n k (x ∷ t) = pending_step n k x t (x.0.0 == n) refl (pending_open n k t)

-- ---- what is held is what the last message left

says_left : {w : ℕ} (k : ℕ) (y : Beat w) (h : History w) (p : Perm) → says_held k y h ≡ Some p
    → p ≡ left_by (control_of y)
says_left k (beat.A x) h p e = absurd cc
says_left k (beat.B x) h p e = absurd cc
says_left k (beat.C x) h p e = go ((is_probe_ack x.opcode || is_release x.opcode) && (block_at x.address == k)) e
  where
    go : (b : Bool) → (if b then Some (reported x.param) else None) ≡ Some p → p ≡ reported x.param
    go true f = cc
    go false f = absurd cc
says_left k (beat.D x) h p e = go (grants k x h) e
  where
    go : (b : Bool) → (if b then Some (capped x.param) else None) ≡ Some p → p ≡ capped x.param
    go true f = cc
    go false f = absurd cc
says_left k (beat.E x) h p e = absurd cc

left_step : (ends : Bool) (says : Option Perm) (m : Mention) (o : Option Mention) (p : Perm)
    → ((q : Perm) → says ≡ Some q → q ≡ left_by m.control) → p ≡ left_of o
    → (if ends then unwrap_or says p else p) ≡ left_of (if ends && is_some says then Some m else o)
left_step true None m o p e ih = ih
left_step true (Some q) m o p e ih = e q refl
left_step false None m o p e ih = ih
left_step false (Some q) m o p e ih = ih

held_step : {w : ℕ} (n k : ℕ) (x : Link × Beat w) (t : Trace w) (here : Bool) → (x.0.0 == n) ≡ here
    → held k (on_link n t) ≡ left_of (last_saying n k t)
    → held k (on_link n (x ∷ t)) ≡ left_of (last_saying n k (x ∷ t))
unfolding held on_link last_where
held_step n k x t true e ih =
    rw e (left_step _ (says_held k x.1 (on_link n t)) (told x t) (last_saying n k t) (held k (on_link n t))
    (says_left k x.1 (on_link n t)) ih)
held_step n k x t false e ih = rw e ih

pub held_left : {w : ℕ} (n k : ℕ) (t : Trace w) → held k (on_link n t) ≡ left_of (last_saying n k t)
unfolding held on_link last_where
held_left n k [] = refl
held_left n k (x ∷ t) = held_step n k x t (x.0.0 == n) refl (held_left n k t)
