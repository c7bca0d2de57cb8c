-- The rules of order, each by itself, are those that a monitor judges by.
use Rattle.std.proofs.Common.{◌≡◌, ℕ, ◌&&◌, [], ◌∷◌, List, true, false, Bool, refl, sym, ap, ◌∙◌, subst}
use Rattle.std.specs.Prelude.{Option, Some, None, if◌then◌else◌}
use Rattle.tl_beat.specs.declared.beat.Beat.{Beat}
use Rattle.tl_beat.specs.declared.beat.Beat.TheVariants as beat
use Rattle.tl_beat.specs.declared.opcode.OpC.{OpC}
use Rattle.tl_beat.specs.declared.opcode.OpC.TheVariants as c
use Rattle.tl_beat.specs.statement.First.{first_if}
use Rattle.tl_burst.specs.statement.Messages.{History, breaks_burst, channel_of, unfinished}
use Rattle.tl_params.specs.declared.level.Level.{Level}
use Rattle.tl_params.specs.declared.liberties.Liberties.{Liberties}
use Rattle.tl_params.specs.declared.profile.Profile.{Profile}
use Rattle.tl_params.specs.declared.rule.Rule.{Rule}
use Rattle.tl_params.specs.declared.rule.Rule.TheVariants.{A1, A2, A3, L1, L2, L3, L4, L5, L6, L7, S1, H1, H2, H3, H4}
use Rattle.tl_params.specs.declared.rule.Rule.TheVariants.{H5, H6, H7, H8, H9, H10, H11, H12, H13}
use Rattle.tl_params.specs.statement.Liberties.{liberties_of}
use Rattle.tl_rules.specs.statement.Conformance.{broken_in_order, is_legal}
use Rattle.tl_rules.specs.statement.History.{begins, is_probe_ack, is_release}
use Rattle.tl_rules.specs.statement.Liberties.{broken_in_order_under, broken_order_under, is_legal_under}
use Rattle.tl_rules.proofs.Profiles.{after-of, in_order-of}
use Rattle.tl_explain.specs.statement.OrderRules.{BreaksBy, BreaksUnder, breaks_at_first_under, first_broken_under}
use Rattle.tl_explain.specs.statement.OrderRules.{first_by, order_rules}
use Rattle.tl_explain.specs.statement.Reasons.{Breaks, first_broken}
use Rattle.tl_explain.proofs.Plain.{is_one}

-- ---- a rule that is found is broken

decided : (breaks : Rule → Bool) (rule r : Rule) (b : Bool) (rest : Option Rule) → breaks r ≡ b
    → (rest ≡ Some rule → breaks rule ≡ true) → first_if b r rest ≡ Some rule → breaks rule ≡ true
decided breaks rule r true rest e among f = ap breaks (sym (is_one f)) ∙ e
decided breaks rule r false rest e among f = among f

among : (breaks : Rule → Bool) (rules : List Rule) (rule : Rule) → first_by breaks rules ≡ Some rule
    → breaks rule ≡ true
among breaks [] rule e = absurd cc
among breaks (r ∷ rules) rule e =
    decided breaks rule r (breaks r) (first_by breaks rules) refl (among breaks rules rule) e

module _ {w : ℕ} (breaks : Rule → Bool) (apart : breaks S1 ≡ false) (x : Beat w) (t : History w) where
  at_first : (rule : Rule) → begins x t ≡ true → breaks rule ≡ true → BreaksBy breaks rule x t
  at_first S1 first e = absurd (let both = sym apart ∙ e in cc)
  at_first A1 first e = (first, e)
  at_first A2 first e = (first, e)
  at_first A3 first e = (first, e)
  at_first L1 first e = (first, e)
  at_first L2 first e = (first, e)
  at_first L3 first e = (first, e)
  at_first L4 first e = (first, e)
  at_first L5 first e = (first, e)
  at_first L6 first e = (first, e)
  at_first L7 first e = (first, e)
  at_first H1 first e = (first, e)
  at_first H2 first e = (first, e)
  at_first H3 first e = (first, e)
  at_first H4 first e = (first, e)
  at_first H5 first e = (first, e)
  at_first H6 first e = (first, e)
  at_first H7 first e = (first, e)
  at_first H8 first e = (first, e)
  at_first H9 first e = (first, e)
  at_first H10 first e = (first, e)
  at_first H11 first e = (first, e)
  at_first H12 first e = (first, e)
  at_first H13 first e = (first, e)

  found-broken : (order : Option Rule) (rule : Rule) → order ≡ first_by breaks order_rules
      → (if begins x t then order else first_if (breaks_burst x (unfinished (channel_of x) t)) S1 None) ≡ Some rule
      → BreaksBy breaks rule x t
  found-broken order rule is e = go (begins x t) refl e
    where
      later : begins x t ≡ false → (b : Bool) → breaks_burst x (unfinished (channel_of x) t) ≡ b
          → first_if b S1 None ≡ Some rule → BreaksBy breaks rule x t
      later f true g h = subst (λ (q : Rule). BreaksBy breaks q x t) (is_one h) (f, g)
      later f false g h = absurd cc

      go : (b : Bool) → begins x t ≡ b
          → (if b then order else first_if (breaks_burst x (unfinished (channel_of x) t)) S1 None) ≡ Some rule
          → BreaksBy breaks rule x t
      go true f g = at_first rule f (among breaks order_rules rule (sym is ∙ g))
      go false f g = later f (breaks_burst x (unfinished (channel_of x) t)) refl g

-- ---- the rules of a link

-- a message on channel C is a Release, a ProbeAck or neither
release_or_report : (o : OpC) (u v w x y : Bool)
    → (if is_release o then first_if u H1 (first_if v H13 None) else
    if is_probe_ack o then first_if w H10 (first_if x H11 (first_if y H12 None)) else None)
    ≡ first_if (is_release o && u) H1
    (first_if (is_probe_ack o && w) H10
    (first_if (is_probe_ack o && x) H11
    (first_if (is_probe_ack o && y) H12
    (first_if (is_release o && v) H13 None))))
release_or_report c.AccessAck u v w x y = refl
release_or_report c.AccessAckData u v w x y = refl
release_or_report c.HintAck u v w x y = refl
release_or_report c.ProbeAck u v w x y = refl
release_or_report c.ProbeAckData u v w x y = refl
release_or_report c.Release u v w x y = refl
release_or_report c.ReleaseData u v w x y = refl

module _ {w : ℕ} (l : Liberties) (x : Beat w) (t : History w) where
  pub first-under : broken_order_under l x t ≡ first_broken_under l order_rules x t
  unfolding broken_order_under
  first-under = go x
    where
      go : (y : Beat w) → broken_order_under l y t ≡ first_broken_under l order_rules y t
      go (beat.A y) = refl
      go (beat.B y) = refl
      go (beat.C y) = release_or_report y.opcode _ _ _ _ _
      go (beat.D y) = refl
      go (beat.E y) = refl

  pub of_message-under : begins x t ≡ true → broken_in_order_under l x t ≡ first_broken_under l order_rules x t
  of_message-under e = rw e first-under

  pub of_burst-under : begins x t ≡ false
      → broken_in_order_under l x t ≡ first_if (breaks_burst x (unfinished (channel_of x) t)) S1 None
  of_burst-under e = rw e refl

  pub breaks-under : (rule : Rule) → broken_in_order_under l x t ≡ Some rule → BreaksUnder l rule x t
  breaks-under rule e = found-broken (λ r. breaks_at_first_under l r x t) (go x) x t (broken_order_under l x t) rule
      first-under e
    where
      go : (y : Beat w) → breaks_at_first_under l S1 y t ≡ false
      go (beat.A y) = refl
      go (beat.B y) = refl
      go (beat.C y) = refl
      go (beat.D y) = refl
      go (beat.E y) = refl

-- ---- of a profile

pub of_message : {w : ℕ} (p : Profile) (x : Beat w) (t : History w) → begins x t ≡ true
    → broken_in_order p x t ≡ first_broken p order_rules x t
of_message p x t e = sym (in_order-of p x t) ∙ of_message-under (liberties_of p) x t e

pub of_burst : {w : ℕ} (p : Profile) (x : Beat w) (t : History w) → begins x t ≡ false
    → broken_in_order p x t ≡ first_if (breaks_burst x (unfinished (channel_of x) t)) S1 None
of_burst p x t e = sym (in_order-of p x t) ∙ of_burst-under (liberties_of p) x t e

pub breaks_first : {w : ℕ} (p : Profile) (rule : Rule) (x : Beat w) (t : History w)
    → broken_in_order p x t ≡ Some rule → Breaks p rule x t
breaks_first p rule x t e = breaks-under (liberties_of p) x t rule (in_order-of p x t ∙ e)

-- the same beats are legal on a link of a profile
pub legal-profile : {w : ℕ} (l : Level) (p : Profile) (h : History w)
    → is_legal_under (liberties_of p) l h ≡ is_legal l p h
unfolding is_legal is_legal_under
legal-profile l p [] = refl
legal-profile l p (x ∷ h) = rw (after-of p l x h, legal-profile l p h) refl
