-- What is said of each link after a beat was taken, or a message handed out, on one of them.
use Rattle.tl_manager.proofs.Imports.{Beat, BeatE, Link, Message, History, unfinished, sent, Trace, on_link, begins}
use Rattle.tl_manager.proofs.Imports.{ends, opens, closes, pending}
use Rattle.std.proofs.Common.{◌≡◌, ℕ, ◌==◌, Bool, true, false, cond, ◌&&◌, [], ◌∷◌, refl, ap, ◌∙◌}
use Rattle.std.specs.Prelude.{if◌then◌else◌}
use Rattle.tl_beat.specs.declared.channel.Channel.{Channel}
use Rattle.tl_params.specs.declared.key.Key.{Key}
use Rattle.tl_manager.proofs.pending.Handed.{after_sent, own_link, other_link}

-- ---- one link

pub own_beat : {w : ℕ} (client : ℕ) (link : Link) (x : Beat w) (t : Trace w) → (link.0 == client) ≡ true
    → on_link client ((link, x) ∷ t) ≡ x ∷ on_link client t
unfolding on_link
own_beat client link x t e = rw e refl

pub other_beat : {w : ℕ} (client : ℕ) (link : Link) (x : Beat w) (t : Trace w) → (link.0 == client) ≡ false
    → on_link client ((link, x) ∷ t) ≡ on_link client t
unfolding on_link
other_beat client link x t e = rw e refl

-- what a beat doesn't change
pub beat-keeps : {w : ℕ} {A : Type 0} (value : History w → A) (client : ℕ) (link : Link) (x : Beat w) (t : Trace w)
    → ((h : History w) → value (x ∷ h) ≡ value h)
    → value (on_link client ((link, x) ∷ t)) ≡ value (on_link client t)
beat-keeps value client link x t same = go (link.0 == client) refl
  where
    go : (b : Bool) → (link.0 == client) ≡ b → value (on_link client ((link, x) ∷ t)) ≡ value (on_link client t)
    go true e = ap value (own_beat client link x t e) ∙ same (on_link client t)
    go false e = ap value (other_beat client link x t e)

-- what a message doesn't change
pub sent-keeps : {w : ℕ} {A : Type 0} (value : History w → A) (client : ℕ) (link : Link) (m : Message w) (t : Trace w)
    → ((h : History w) → h ≡ on_link client t → value (sent m h) ≡ value h)
    → value (on_link client (after_sent link m t)) ≡ value (on_link client t)
sent-keeps value client link m t same = go (link.0 == client) refl
  where
    go : (b : Bool) → (link.0 == client) ≡ b → value (on_link client (after_sent link m t)) ≡ value (on_link client t)
    go true e = ap value (own_link client link m t e) ∙ same (on_link client t) refl
    go false e = ap value (other_link client link m t e)

-- ---- what is pending after a beat (to stand in tl_rules)

-- one that opens it at most
pub pending-opened : {w : ℕ} (k : Key) (x : Beat w) (t : History w) → closes k x t ≡ false
    → pending k (x ∷ t) ≡ (if begins x t && opens k x t then true else pending k t)
unfolding pending
pending-opened k x t c = rw c (go (begins x t && opens k x t) (ends x t))
  where
    go : (a b : Bool) → cond a true (cond (b && false) false (pending k t)) ≡ cond a true (pending k t)
    go true b = refl
    go false true = refl
    go false false = refl

-- one that closes it at most
pub pending-closed : {w : ℕ} (k : Key) (x : Beat w) (t : History w) → opens k x t ≡ false
    → pending k (x ∷ t) ≡ (if ends x t && closes k x t then false else pending k t)
unfolding pending
pending-closed k x t o = rw o (go (begins x t))
  where
    go : (a : Bool) → cond (a && false) true (cond (ends x t && closes k x t) false (pending k t)) ≡ cond
        (ends x t && closes k x t) false (pending k t)
    go true = refl
    go false = refl

-- ---- channel E has messages of one beat

pub none-on_e : {w : ℕ} (t : History w) → unfinished Channel.E t ≡ []
unfolding unfinished
none-on_e [] = refl
none-on_e (Beat.A x ∷ t) = none-on_e t
none-on_e (Beat.B x ∷ t) = none-on_e t
none-on_e (Beat.C x ∷ t) = none-on_e t
none-on_e (Beat.D x ∷ t) = none-on_e t
none-on_e (Beat.E x ∷ t) = rw (none-on_e t) refl

pub whole-e : {w : ℕ} (x : BeatE) (t : History w) → (begins {w = w} (Beat.E x) t ≡ true)
    × (ends {w = w} (Beat.E x) t ≡ true)
whole-e x t = rw (none-on_e t) (refl, refl)
