-- What is known of all links, with one more beat.
use Rattle.tl_memory.proofs.Imports.{IsWidth, Beat, Link, Level, Trace, IsLegal, LinkState, AreLegal, KnowsLink}
use Rattle.std.proofs.Common.{◌≡◌, ℕ, suc, zero, pred, List, [], ◌∷◌, ◌++◌, ◌<◌, ◌⊎◌, length, inl, inr, refl, sym, ap}
use Rattle.std.proofs.Common.{◌∙◌, Some, None, slice_get, slice_set, arith}
use Rattle.std.proofs.lemmas.List.{length-set}
use Rattle.std.proofs.lemmas.Option.{none-some, same_Some, slice_get_cases, slice_get_within}
use Rattle.tl_params.specs.declared.liberties.Liberties.{Liberties}
use Rattle.tl_memory.{specs.declared.links.Links.Links, specs.statement.Links.KeepsRules, specs.statement.Links.KnowsLinks}
use Rattle.tl_memory.{proofs.messages.LinkStates.link-elsewhere, proofs.lawful.OpenAccesses.is-fine}

-- ---- elements of lists

-- one that is found was put there, or was found before
found-set : {X : Type 0} (xs : List X) (i k : ℕ) (y x : X) → slice_get (slice_set xs i y) k ≡ Some x
    → ((k ≡ i) × (x ≡ y)) ⊎ ((k ≡ i → ⊥) × (slice_get xs k ≡ Some x))
found-set [] i k y x e = absurd cc
found-set (z ∷ xs) zero zero y x e = inl (refl, sym (same_Some y x e))
found-set (z ∷ xs) (suc i) (suc k) y x e = elim (found-set xs i k y x e) [
  | inl here ↦ inl (ap suc here.0, here.1)
  | inr apart ↦ inr ((λ n. apart.0 (ap pred n)), apart.1)
]
found-set (z ∷ xs) v u y x e = inr ((λ n. absurd (omega (arith, n))), e)

found-append : {X : Type 0} (xs : List X) (k : ℕ) (y x : X) → slice_get (xs ++ y ∷ []) k ≡ Some x
    → (slice_get xs k ≡ Some x) ⊎ (x ≡ y)
found-append [] zero y x e = inr (sym (same_Some y x e))
found-append [] (suc k) y x e = absurd cc
found-append (z ∷ xs) zero y x e = inl e
found-append (z ∷ xs) (suc k) y x e = found-append xs k y x e

-- ---- links that have carried nothing

-- of each of these nothing is known, of whichever link it is
pub record AreNew (states : List LinkState) : Type 0 where
  pub each : (k : ℕ) (s : LinkState) → slice_get states k ≡ Some s → (w n link : ℕ) → KnowsLink {w = w} s n link []

pub none-new : AreNew []
none-new = record { each = λ k s e. absurd cc }

pub one-new : (states : List LinkState) (s : LinkState) → AreNew states
    → ((w n link : ℕ) → KnowsLink {w = w} s n link []) → AreNew (states ++ s ∷ [])
one-new states s are new = record {
  each = λ k x e. elim (found-append states k s x e) [
    | inl before ↦ are.each k x before
    | inr same ↦ rw same new
  ];
}

pub links-first : (l : Links) (w n : ℕ) → length l.states.items ≡ n → AreNew l.states.items → KnowsLinks {w = w} l n []
links-first l w n count are = record {
  count_is = count;
  states_are = λ link s e. are.each link s e w n link;
}

-- ---- one more beat

-- a beat that breaks no rule is of a link that there is
pub link-there : {w : ℕ} (l : Liberties) (levels : List Level) (x : Link × Beat w) (t : Trace w)
    → KeepsRules l levels x t → x.0.0 < length levels
link-there l levels x t fine =
    let f = is-fine _ levels x t fine in slice_get_within levels x.0.0 f.level f.has_level

-- of which a state is kept
pub state-there : {w : ℕ} {X : Type 0} (levels : List Level) (l : Links) (x : Link × Beat w) (t : Trace w)
    → KnowsLinks l (length levels) t → IsLegal levels x t → slice_get l.states.items x.0.0 ≡ None → X
state-there levels l x t k fine none = elim (slice_get_cases l.states.items x.0.0).1 [
  | inl found ↦ absurd (none-some found.0 (sym none ∙ found.2))
  | inr past ↦ absurd (omega (arith, link-there _ levels x t fine, past.0, k.count_is))
]

pub links-taken : {w : ℕ} (levels : List Level) (is : IsWidth w) (l new : Links) (old next : LinkState) (n : ℕ)
    (link : Link) (x : Beat w) (t : Trace w)
    → new.states.items ≡ slice_set l.states.items link.0 next → slice_get l.states.items link.0 ≡ Some old
    → AreLegal levels t → IsLegal levels (link, x) t → KnowsLinks l n t
    → (KnowsLink old n link.0 t → KnowsLink next n link.0 ((link, x) ∷ t)) → KnowsLinks new n ((link, x) ∷ t)
links-taken levels is l new old next n link x t set there legal fine k taken = record {
  count_is = ap length set ∙ length-set l.states.items link.0 next ∙ k.count_is;
  states_are = λ c s e. elim (found-set l.states.items link.0 c next s (rw set at e)) [
    | inl here ↦ rw (here.0, here.1) (taken (k.states_are link.0 old there))
    | inr apart ↦ link-elsewhere levels is s n c (link, x) t legal fine (λ own. apart.0 (sym own))
        (k.states_are c s apart.1)
  ];
}
