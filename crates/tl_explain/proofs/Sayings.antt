-- What is held of a block, and the last message that says so, on a link with liberties.
use Rattle.std.proofs.Common.{◌≡◌, ℕ, ◌==◌, ◌&&◌, [], ◌∷◌, true, false, Bool, refl, sym, ap, ap₂, ◌∙◌, subst}
use Rattle.std.proofs.Common.{append-nil}
use Rattle.std.specs.Prelude.{Option, Some, None, if◌then◌else◌, is_some, unwrap_or}
use Rattle.tl_beat.specs.declared.beat.Beat.{Beat}
use Rattle.tl_beat.specs.declared.beat.Link.{Link}
use Rattle.tl_burst.specs.statement.Messages.{History}
use Rattle.tl_params.specs.declared.liberties.Liberties.{Liberties}
use Rattle.tl_params.specs.declared.perm.Perm.{Perm}
use Rattle.tl_params.specs.declared.perm.Perm.TheVariants as perm
use Rattle.tl_params.specs.declared.profile.Profile.{Profile}
use Rattle.tl_params.specs.declared.profile.Profile.TheVariants as profile
use Rattle.tl_params.specs.statement.Liberties.{liberties_of, no_liberties}
use Rattle.tl_rules.specs.statement.Conformance.{Trace, on_link}
use Rattle.tl_rules.specs.statement.History.{ends}
use Rattle.tl_rules.specs.statement.Liberties.{held_under, says_held_under}
use Rattle.tl_rules.proofs.Profiles.{held-of}
use Rattle.tl_explain.specs.declared.held.Held.{Held}
use Rattle.tl_explain.specs.declared.told.Mention.{Mention}
use Rattle.tl_explain.specs.declared.turns.Moment.{Moment}
use Rattle.tl_explain.specs.code.Recorded.{IsHeld, IsMoment}
use Rattle.tl_explain.specs.statement.Evidence.{is_saying_under, last_saying_under, last_where}
use Rattle.tl_explain.specs.statement.Evidence.{mention_of, said_under, told}
use Rattle.tl_explain.specs.statement.Since.{HasNone, IsHeldSinceUnder}
use Rattle.tl_explain.proofs.follows.Keys.{here, mention_if}

-- ---- one beat more

pub held_more : {w : ℕ} (l : Liberties) (n k : ℕ) (x : Link × Beat w) (t : Trace w)
    → held_under l k (on_link n (x ∷ t)) ≡ unwrap_or (said_under l n k x t) (held_under l k (on_link n t))
unfolding held_under on_link
held_more l n k x t = go (x.0.0 == n) refl (ends x.1 (on_link n t)) refl
  where
    go : (own : Bool) → (x.0.0 == n) ≡ own → (last : Bool) → ends x.1 (on_link n t) ≡ last
        → held_under l k (on_link n (x ∷ t)) ≡ unwrap_or (said_under l n k x t) (held_under l k (on_link n t))
    go true e true f = rw (e, f) refl
    go true e false f = rw (e, f) refl
    go false e last f = rw e refl

module _ {w : ℕ} (l : Liberties) (n k : ℕ) (x : Link × Beat w) (t : Trace w) where
  last_more : (o : Option Perm) → said_under l n k x t ≡ o
      → last_saying_under l n k (x ∷ t) ≡ (if is_some o then Some (told x t) else last_saying_under l n k t)
  unfolding last_where
  last_more o e = ap (λ (s : Option Perm). if is_some s then Some (told x t) else last_saying_under l n k t) e

  -- a beat that says nothing of the block
  since_kept : (p : Perm) (o : Option Mention) → said_under l n k x t ≡ None
      → p ≡ held_under l k (on_link n (x ∷ t)) → IsHeldSinceUnder l n k p o t → IsHeldSinceUnder l n k p o (x ∷ t)
  unfolding HasNone
  since_kept p None e holds (was, none, nothing) = (
    holds,
    none,
    (ap (λ (s : Trace w). is_saying_under l n k x s) (append-nil t) ∙ ap (λ (s : Option Perm). is_some s) e, nothing),
  )
  since_kept p (Some m) e holds (was, (later, y, earlier, stands, tells, says, nothing)) = (
    holds,
    (
      x ∷ later,
      y,
      earlier,
      ap (λ (s : Trace w). x ∷ s) stands,
      tells,
      says,
      (ap (λ (s : Trace w). is_saying_under l n k x s) (sym stands) ∙ ap (λ (s : Option Perm). is_some s) e, nothing),
    ),
  )

  abbrev Since : Perm → Option Mention → Type 0
  Since p o = IsHeldSinceUnder l n k p o (x ∷ t)

  since_more : IsHeldSinceUnder l n k (held_under l k (on_link n t)) (last_saying_under l n k t) t
      → IsHeldSinceUnder l n k (held_under l k (on_link n (x ∷ t))) (last_saying_under l n k (x ∷ t)) (x ∷ t)
  unfolding HasNone
  since_more before = go (said_under l n k x t) refl
    where
      go : (o : Option Perm) → said_under l n k x t ≡ o
          → Since (held_under l k (on_link n (x ∷ t))) (last_saying_under l n k (x ∷ t))
      go None e =
          let holds : held_under l k (on_link n (x ∷ t)) ≡ held_under l k (on_link n t) =
          held_more l n k x t ∙ ap (λ (s : Option Perm). unwrap_or s (held_under l k (on_link n t))) e in
          subst (λ (o : Option Mention). Since (held_under l k (on_link n (x ∷ t))) o) (sym (last_more None e))
          (subst (λ (p : Perm). Since p (last_saying_under l n k t)) (sym holds)
          (since_kept (held_under l k (on_link n t)) (last_saying_under l n k t) e (sym holds) before))
      go (Some p) e =
          let holds : held_under l k (on_link n (x ∷ t)) ≡ p =
          held_more l n k x t ∙ ap (λ (s : Option Perm). unwrap_or s (held_under l k (on_link n t))) e in
          subst (λ (o : Option Mention). Since (held_under l k (on_link n (x ∷ t))) o) (sym (last_more (Some p) e))
          (subst (λ (q : Perm). Since q (Some (told x t))) (sym holds) (sym holds, ([], x, t, refl, refl, e, tt)))

-- ---- since the last message that says so

pub held_since-under : {w : ℕ} (l : Liberties) (n k : ℕ) (t : Trace w)
    → IsHeldSinceUnder l n k (held_under l k (on_link n t)) (last_saying_under l n k t) t
unfolding last_where HasNone held_under on_link
held_since-under l n k [] = (refl, refl, tt)
held_since-under l n k (x ∷ t) = since_more l n k x t (held_since-under l n k t)

-- what is kept of it is so
pub held_told : {w : ℕ} (h : Held) (l : Liberties) (n k : ℕ) (t : Trace w) → IsHeld h l n k t
    → IsHeldSinceUnder l n k h.perm (mention_of h.since) t
held_told h l n k t is =
    subst (λ (p : Perm). IsHeldSinceUnder l n k p (mention_of h.since) t) (sym is.perm_is)
    (subst (λ (o : Option Mention). IsHeldSinceUnder l n k (held_under l k (on_link n t)) o t) (sym is.since_is)
    (held_since-under l n k t))

-- ---- what is kept, by one beat

pub no_held : {w : ℕ} (h : Held) (l : Liberties) (n k : ℕ) → h.perm ≡ perm.None → h.since ≡ None
    → IsHeld {w = w} h l n k []
unfolding last_where held_under on_link
no_held h l n k p o = record { perm_is = p; since_is = ap mention_of o }

perm_by : (b : Bool) (s : Option Perm) (p : Perm)
    → (if b then unwrap_or s p else p) ≡ unwrap_or (if b then s else None) p
perm_by true s p = refl
perm_by false s p = refl

some_by : (b : Bool) (s : Option Perm) → (b && is_some s) ≡ is_some (if b then s else None)
some_by true s = refl
some_by false s = refl

pub held_next : {w : ℕ} (old new : Held) (l : Liberties) (n k : ℕ) (m : Moment) (x : Link × Beat w) (t : Trace w)
    (said : Option Perm) → IsMoment m n x t → IsHeld old l n k t → said ≡ says_held_under l k x.1 (on_link n t)
    → new.perm ≡ (if m.last then unwrap_or said old.perm else old.perm)
    → new.since ≡ (if m.last && is_some said then Some m.told else old.since) → IsHeld new l n k (x ∷ t)
held_next old new l n k m x t said is was says perm since = record {
  perm_is = perm ∙ perm_by m.last said old.perm ∙ ap₂ (λ (s : Option Perm) (p : Perm). unwrap_or s p) (sym now)
      was.perm_is ∙ sym (held_more l n k x t);
  since_is = ap mention_of since ∙ mention_if (m.last && is_some said) m.told old.since
      ∙ ap (λ (b : Bool). if b then Some m.told.mention else mention_of old.since) (some_by m.last said)
      ∙ ap₂ (λ (c : Mention) (o : Option Mention). if is_some (if m.last then said else None) then Some c else o)
      is.told_is was.since_is
      ∙ sym (last_more l n k x t (if m.last then said else None) now);
}
  where
    now : said_under l n k x t ≡ (if m.last then said else None)
    now = ap₂ (λ (b : Bool) (s : Option Perm). if b then s else None)
        (here x.0.0 n (ends x.1 (on_link n t)) is.of_link ∙ sym is.last_is) (sym says)

-- a beat of another link
pub held_kept : {w : ℕ} (h : Held) (l : Liberties) (n k : ℕ) (x : Link × Beat w) (t : Trace w)
    → (x.0.0 == n) ≡ false → IsHeld h l n k t → IsHeld h l n k (x ∷ t)
held_kept h l n k x t elsewhere is = record {
  perm_is = is.perm_is ∙ sym (held_more l n k x t
      ∙ ap (λ (s : Option Perm). unwrap_or s (held_under l k (on_link n t))) nothing);
  since_is = is.since_is ∙ sym (last_more l n k x t None nothing);
}
  where
    nothing : said_under l n k x t ≡ None
    nothing = ap (λ (b : Bool). if b && ends x.1 (on_link n t) then says_held_under l k x.1 (on_link n t) else None)
        elsewhere

-- ---- of a profile

pub held-profile : {w : ℕ} (p : Profile) (k : ℕ) (h : History w)
    → held_under no_liberties k h ≡ held_under (liberties_of p) k h
held-profile p k h = held-of profile.One k h ∙ sym (held-of p k h)
