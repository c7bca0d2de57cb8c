-- An access whose request is pending and complete on its link is pending by the trace of all links.
use Rattle.tl_true_bytes.proofs.Imports.{Beat, BeatA, BeatD, Link, History, unfinished, Trace, on_link, ends, Access}
use Rattle.tl_true_bytes.proofs.Imports.{asked_by, is_release_ack, is_access, is_of, pending_accesses, Channel}
use Rattle.tl_burst.specs.statement.Messages.{on}
use Rattle.tl_rules.specs.statement.Conformance.{comes_in_request}
use Rattle.tl_true_bytes.specs.code.Beside.{comes}
use Rattle.tl_bytes.specs.statement.Bytes.{all_but, asked_since, asks, asks_new, is_put}
use Rattle.tl_bytes.specs.statement.Early.{outrun_accesses}
use Rattle.tl_bytes.proofs.OnTime.{AreOnTime, IsOnTime}
use Rattle.tl_concord.proofs.Late.{asks-late, leaves-late}
use Rattle.std.proofs.Common.{◌≡◌, ℕ, suc, Bool, true, false, not, ◌&&◌, ◌||◌, List, [], ◌∷◌, length, inl, inr, refl, sym, ◌∙◌, subst}
use Rattle.std.specs.Prelude.{if◌then◌else◌, ◌==◌, find, Some}
use Rattle.std.proofs.lemmas.Bool.{and_from, and_parts, eq-eqb, eqb-true}
use Rattle.tl_bytes.proofs.Pending.{AsksNot, IsPending, found-asked, pending-after}
use Rattle.tl_true_bytes.proofs.Opened.{GoesOn, IsAskedBy, IsOpen, last-asks, open-before}

-- an access with this source of the link is pending
abbrev pub IsSomePending : {w : ℕ} → ℕ → ℕ → Trace w → Type 0
IsSomePending {w} c s t = (p : Access w) × IsPending c s p t

module _ {w : ℕ} (c s : ℕ) (link : Link) (t : Trace w) (late : AreOnTime t) where
  abbrev past : History w
  past = on_link link.0 t

  abbrev access : BeatA w → Access w
  access z = asked_by link.0 z (Beat.A z ∷ unfinished Channel.A past)
      (asked_since (find (is_of link.0 z.source) (pending_accesses t)) (suc (length t)))

  -- one that is asked for now
  asked-now : (z : BeatA w) → is_access z.opcode && ends (Beat.A z) past ≡ true → link.0 ≡ c → z.source ≡ s
      → IsPending c s (access z) ((link, Beat.A z) ∷ t)
  unfolding pending_accesses
  asked-now z completes here from =
      go (asks_new link.0 z past (outrun_accesses t)) (asks-late link.0 z past t late ∙ asked)
    where
      mine : is_of c s (access z) ≡ true
      mine = and_from (link.0 == c) (z.source == s) (eq-eqb link.0 c here) (eq-eqb z.source s from)

      asked : asks z past ≡ true
      asked =
          let both = and_parts (is_access z.opcode) (ends (Beat.A z) past) completes in
          and_from (is_access z.opcode) (is_put z.opcode || ends (Beat.A z) past) both.0
          (either (is_put z.opcode) (ends (Beat.A z) past) both.1)
        where
          either : (a b : Bool) → b ≡ true → a || b ≡ true
          either true b e = refl
          either false b e = e

      go : (b : Bool) → b ≡ true
          → find (is_of c s) (if b then access z ∷ all_but link.0 z.source (pending_accesses t) else pending_accesses t)
          ≡ Some (access z)
      go true e = rw mine refl
      go false e = absurd cc

  -- one that isn't answered now
  kept-now : (y : Beat w) (p : Access w) → IsPending c s p t
      → ((z : BeatD w) → y ≡ Beat.D z → not (is_release_ack z.opcode) && ends (Beat.D z) past ≡ true → link.0 ≡ c
      → z.source ≡ s → ⊥)
      → IsOnTime y past
      → IsSomePending c s ((link, y) ∷ t)
  unfolding pending_accesses
  kept-now (Beat.A z) p pending left in_time = go (asks_new link.0 z past (outrun_accesses t))
    where
      before : List (Access w)
      before = pending_accesses t

      own : (b : Bool) → (q : Access w) × ((if b then Some (access z) else find (is_of c s) before) ≡ Some q)
      own true = (access z, refl)
      own false = (p, pending)

      go : (b : Bool) → (q : Access w)
          × (find (is_of c s) (if b then access z ∷ all_but link.0 z.source before else before) ≡ Some q)
      go true =
          let some = own ((link.0 == c) && (z.source == s)) in
          (some.0, found-asked c s link.0 z.source (access z) before refl refl ∙ some.1)
      go false = (p, pending)
  kept-now (Beat.D z) p pending left in_time =
      elim (pending-after c s p (link, Beat.D z) t pending (λ y e. absurd cc)) [
        | inl still ↦ (p, still)
        | inr answered ↦ absurd (left answered.last answered.beat_is
            (sym (leaves-late answered.last past (subst (λ b. IsOnTime b past) answered.beat_is in_time))
            ∙ answered.completes) (sym answered.link_is) (sym answered.source_is))
      ]
  kept-now (Beat.B z) p pending left in_time = (p, pending)
  kept-now (Beat.C z) p pending left in_time = (p, pending)
  kept-now (Beat.E z) p pending left in_time = (p, pending)

  -- with one more beat
  pub pending-more : (y : Beat w) → IsOnTime y past → GoesOn y past → (IsOpen s (on_link c t) → IsSomePending c s t)
      → IsOpen s (on_link c ((link, y) ∷ t)) → IsSomePending c s ((link, y) ∷ t)
  unfolding on_link
  pending-more y in_time goes_on before is = go (link.0 == c) refl is
    where
      here : link.0 ≡ c → IsOpen s (y ∷ on_link c t) → IsSomePending c s ((link, y) ∷ t)
      here same is = elim (open-before s (on_link c t) y (rw same at goes_on) is) [
        | inl old ↦
            let was = before old.0 in
            kept-now y was.0 was.1 (λ z e answers at from. old.1 z e (rw same at answers) from) in_time
        | inr new ↦ asked new
      ]
        where
          asked : IsAskedBy s y (on_link c t) → IsSomePending c s ((link, y) ∷ t)
          asked new = subst (λ (b : Beat w). IsSomePending c s ((link, b) ∷ t)) (sym new.beat_is)
              (access new.last, asked-now new.last (rw (← same) at new.completes_is) same new.source_is)

      go : (b : Bool) → (link.0 == c) ≡ b → IsOpen s (if b then y ∷ on_link c t else on_link c t)
          → IsSomePending c s ((link, y) ∷ t)
      go true e is = here (eqb-true link.0 c e) is
      go false e is =
          let was = before is in
          kept-now y was.0 was.1 (λ z f answers at from.
          let no : true ≡ false = sym (eq-eqb link.0 c at) ∙ e in cc) in_time

-- ---- what is to come of a request

-- with a beat of another channel as much as before
pub comes-other : {w : ℕ} (c s : ℕ) (link : Link) (y : Beat w) (t : Trace w) → on Channel.A y ≡ false
    → comes c s ((link, y) ∷ t) ≡ comes c s t
unfolding on_link unfinished
comes-other c s link y t off = go (link.0 == c)
  where
    go : (b : Bool) → comes_in_request s (unfinished Channel.A (if b then y ∷ on_link c t else on_link c t))
        ≡ comes_in_request s (unfinished Channel.A (on_link c t))
    go true = rw off refl
    go false = refl

-- with one of its own beats, more if that doesn't complete it
pub comes-own : {w : ℕ} (link : Link) (z : BeatA w) (t : Trace w)
    → comes link.0 z.source ((link, Beat.A z) ∷ t) ≡ not (ends (Beat.A z) (on_link link.0 t))
unfolding on_link unfinished
comes-own {w} link z t = rw (eq-eqb link.0 link.0 refl) (go (ends (Beat.A z) (on_link link.0 t)))
  where
    go : (b : Bool)
        → comes_in_request z.source (if b then [] else Beat.A z ∷ unfinished Channel.A (on_link link.0 t)) ≡ not b
    go true = refl
    go false = eq-eqb z.source z.source refl

-- where no more is to come after a beat that doesn't ask for it, no more was
pub comes-before : {w : ℕ} (c s : ℕ) (link : Link) (y : Beat w) (t : Trace w) → AreOnTime t → GoesOn y (on_link link.0 t)
    → AsksNot c s (link, y) t → comes c s ((link, y) ∷ t) ≡ false → comes c s t ≡ false
unfolding on_link
comes-before {w} c s link (Beat.A z) t late goes_on never whole = go (link.0 == c) refl whole
  where
    here : link.0 ≡ c → (b : Bool) → comes c s t ≡ b
        → comes_in_request s (unfinished Channel.A (Beat.A z ∷ on_link c t)) ≡ false → b ≡ false
    here own false e whole = refl
    here own true e whole =
        let asked = last-asks s z (on_link c t) (rw own at goes_on) e whole in
        absurd (never z refl (asks-late link.0 z (on_link link.0 t) t late ∙ rw own asked.0) (sym own) (sym asked.1))

    go : (b : Bool) → (link.0 == c) ≡ b
        → comes_in_request s (unfinished Channel.A (if b then Beat.A z ∷ on_link c t else on_link c t)) ≡ false
        → comes c s t ≡ false
    go true e whole = here (eqb-true link.0 c e) (comes c s t) refl whole
    go false e whole = whole
comes-before c s link (Beat.B z) t late goes_on never whole = sym (comes-other c s link (Beat.B z) t refl) ∙ whole
comes-before c s link (Beat.C z) t late goes_on never whole = sym (comes-other c s link (Beat.C z) t refl) ∙ whole
comes-before c s link (Beat.D z) t late goes_on never whole = sym (comes-other c s link (Beat.D z) t refl) ∙ whole
comes-before c s link (Beat.E z) t late goes_on never whole = sym (comes-other c s link (Beat.E z) t refl) ∙ whole
