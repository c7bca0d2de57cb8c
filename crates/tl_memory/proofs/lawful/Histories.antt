-- The histories of the links of a trace where no beat broke a rule.
use Rattle.tl_memory.proofs.Imports.{Beat, History, Level, Link, Trace, all_liberties, broken_after_under, is_legal_under}
use Rattle.tl_memory.proofs.Imports.{on_link, AreLegal}
use Rattle.std.proofs.Common.{◌≡◌, ℕ, true, List, [], ◌∷◌, Option, Some, None, refl, sym, ap, ◌∙◌, inl, inr}
use Rattle.std.specs.Prelude.{slice_get}
use Rattle.std.proofs.lemmas.Bool.{cases_eq, eq-eqb, ne_eqb}
use Rattle.tl_params.specs.declared.liberties.Liberties.{Liberties}
use Rattle.tl_rules.specs.statement.Liberties.{broken_at_level_under}
use Rattle.tl_bytes.proofs.Finding.{same-some}
use Rattle.tl_memory.specs.statement.Links.{KeepRules, KeepsRules}

pub own-link : {w : ℕ} (c : ℕ) (x : Link × Beat w) (t : Trace w) → x.0.0 ≡ c → on_link c (x ∷ t) ≡ x.1 ∷ on_link c t
unfolding on_link
own-link c x t e = rw (eq-eqb x.0.0 c e) refl

pub other-link : {w : ℕ} (c : ℕ) (x : Link × Beat w) (t : Trace w) → (x.0.0 ≡ c → ⊥) → on_link c (x ∷ t) ≡ on_link c t
unfolding on_link
other-link c x t ne = rw (ne_eqb x.0.0 c ne) refl

-- the beat breaks no rule of its link, which has a level
pub record IsFine {w : ℕ} (l : Liberties) (levels : List Level) (x : Link × Beat w) (t : Trace w) : Type 0 where
  pub level : Level
  pub has_level : slice_get levels x.0.0 ≡ Some level
  pub fine : broken_after_under l level x.1 (on_link x.0.0 t) ≡ None

pub is-fine : {w : ℕ} (l : Liberties) (levels : List Level) (x : Link × Beat w) (t : Trace w)
    → KeepsRules l levels x t → IsFine l levels x t
is-fine l levels x t e = go (slice_get levels x.0.0) refl e
  where
    go : (o : Option Level) → slice_get levels x.0.0 ≡ o → broken_at_level_under l o x.1 (on_link x.0.0 t) ≡ None
        → IsFine l levels x t
    go None is e = absurd cc
    go (Some level) is e = record { level = level; has_level = is; fine = e }

pub legal-on : {w : ℕ} (l : Liberties) (levels : List Level) (c : ℕ) (level : Level) (t : Trace w)
    → slice_get levels c ≡ Some level → KeepRules l levels t → is_legal_under l level (on_link c t) ≡ true
unfolding on_link is_legal_under
legal-on l levels c level [] has legal = refl
legal-on l levels c level (x ∷ t) has legal = elim (cases_eq x.0.0 c) [
  | inr other ↦ rw (ne_eqb x.0.0 c other) (legal-on _ levels c level t has legal.1)
  | inl own ↦
      let f = is-fine _ levels x t legal.0 in
      let level_is : f.level ≡ level = same-some level f.level (sym has ∙ ap (slice_get levels) (sym own) ∙ f.has_level)
      in
      let fine : broken_after_under l level x.1 (on_link c t) ≡ None =
      ap (λ k. broken_after_under l k x.1 (on_link c t)) (sym level_is)
      ∙ ap (λ n. broken_after_under l f.level x.1 (on_link n t)) (sym own) ∙ f.fine in
      rw (eq-eqb x.0.0 c own, fine) (legal-on _ levels c level t has legal.1)
]

-- a link without a level has no beats
pub legal-link : {w : ℕ} (levels : List Level) (c : ℕ) (t : Trace w) → AreLegal levels t
    → (l : Level) × (is_legal_under all_liberties l (on_link c t) ≡ true)
unfolding on_link is_legal_under
legal-link {w} levels c t legal = go (slice_get levels c) refl
  where
    no_beats : (t : Trace w) → slice_get levels c ≡ None → AreLegal levels t → on_link c t ≡ []
    no_beats [] none legal = refl
    no_beats (x ∷ t) none legal = elim (cases_eq x.0.0 c) [
      | inr other ↦ rw (ne_eqb x.0.0 c other) (no_beats t none legal.1)
      | inl own ↦
          let f = is-fine _ levels x t legal.0 in
          absurd (let no : None ≡ Some f.level = sym none ∙ ap (slice_get levels) (sym own) ∙ f.has_level in cc)
    ]

    nothing : (h : History w) → h ≡ [] → is_legal_under all_liberties Level.UL h ≡ true
    nothing h none = rw none refl

    go : (o : Option Level) → slice_get levels c ≡ o → (l : Level) × (is_legal_under all_liberties l (on_link c t) ≡ true)
    go (Some l) has = (l, legal-on _ levels c l t has legal)
    go None none = (Level.UL, nothing (on_link c t) (no_beats t none legal))
