-- That more liberties only forgive, of histories and of traces.
use Rattle.tl_forgiving.proofs.Imports.{Beat, History, channel_of, unfinished, IsWithin, Level, Liberties, Rule, begins}
use Rattle.tl_forgiving.proofs.Held.{held-alike}
use Rattle.tl_forgiving.proofs.Lawful.{AreLawful, IsLawful, lawful-beat, lawful-history, unbroken}
use Rattle.tl_forgiving.proofs.Legal.{legal-more}
use Rattle.tl_forgiving.proofs.Ordered.{order-more}
use Rattle.tl_forgiving.specs.statement.Forgiving.{ForgivesHistories, ForgivesTraces, HoldsAlike}
use Rattle.std.proofs.Common.{◌≡◌, ℕ, Bool, true, false, List, [], ◌∷◌, length, refl, sym, ap, ◌∙◌, subst}
use Rattle.std.specs.Prelude.{if◌then◌else◌, Option, Some, None, slice_get, ◌==◌}
use Rattle.std.proofs.lemmas.Bool.{eqb-true}
use Rattle.tl_beat.specs.declared.beat.Link.{Link}
use Rattle.tl_beat.specs.statement.First.{first_if}
use Rattle.tl_burst.specs.statement.Messages.{breaks_burst}
use Rattle.tl_params.specs.declared.rule.Rule.TheVariants.{S1}
use Rattle.tl_rules.specs.statement.Conformance.{Trace, fault_or, on_link}
use Rattle.tl_rules.specs.statement.Liberties.{broken_at_level_under}
use Rattle.tl_rules.specs.statement.Liberties.{broken_on_link_under, broken_order_under, fault_from_under}
use Rattle.tl_rules.specs.statement.Liberties.{is_legal_under}

module _ {w : ℕ} (l m : Liberties) (within : IsWithin l m) where
  -- ---- one beat after a history

  lawful-more : (level : Level) (x : Beat w) (t : History w) → AreLawful l level t → IsLawful l level x t
      → IsLawful m level x t
  lawful-more level x t before lawful = record {
    alone = legal-more l m within level (channel_of x) x lawful.alone;
    ordered = go (begins x t)
        (order-more l m level within t before (λ k. held-alike l m level k t within before) x lawful) lawful.ordered;
  }
    where
      go : (now : Bool) → (broken_order_under l x t ≡ None → broken_order_under m x t ≡ None)
          → (if now then broken_order_under l x t else first_if (breaks_burst x (unfinished (channel_of x) t)) S1 None)
          ≡ None
          → (if now then broken_order_under m x t else first_if (breaks_burst x (unfinished (channel_of x) t)) S1 None)
          ≡ None
      go true order e = order e
      go false order e = e

  -- ---- a history

  legal-more-history : (level : Level) (t : History w) → AreLawful l level t → is_legal_under m level t ≡ true
  unfolding AreLawful is_legal_under
  legal-more-history level [] lawful = refl
  legal-more-history level (x ∷ t) lawful =
      rw (unbroken m level x t (lawful-more level x t lawful.1 lawful.0)) (legal-more-history level t lawful.1)

  -- ---- a trace

  -- what a trace has brought of each link breaks no rule
  abbrev EachLawful : List Level → Trace w → Type 0
  EachLawful levels t = (n : ℕ) (level : Level) → slice_get levels n ≡ Some level → AreLawful l level (on_link n t)

  next-lawful : (levels : List Level) (x : Link × Beat w) (t : Trace w) → EachLawful levels t
      → broken_on_link_under l levels x t ≡ None → EachLawful levels (x ∷ t)
  unfolding AreLawful on_link
  next-lawful levels x t before e n level is = go (x.0.0 == n) refl
    where
      here : x.0.0 ≡ n → IsLawful l level x.1 (on_link n t)
      here same = subst (λ i. IsLawful l level x.1 (on_link i t)) same (lawful-beat l level x.1 (on_link x.0.0 t)
          (ap (λ o. broken_at_level_under l o x.1 (on_link x.0.0 t)) (sym is ∙ ap (slice_get levels) (sym same)) ∙ e))

      go : (own : Bool) → (x.0.0 == n) ≡ own → AreLawful l level (if x.0.0 == n then x.1 ∷ on_link n t else on_link n t)
      go true o = rw o (here (eqb-true x.0.0 n o), before n level is)
      go false o = rw o (before n level is)

  unbroken-more : (levels : List Level) (x : Link × Beat w) (t : Trace w) → EachLawful levels t
      → broken_on_link_under l levels x t ≡ None → broken_on_link_under m levels x t ≡ None
  unbroken-more levels x t before e = go (slice_get levels x.0.0) refl e
    where
      go : (o : Option Level) → slice_get levels x.0.0 ≡ o
          → broken_at_level_under l o x.1 (on_link x.0.0 t) ≡ None
          → broken_at_level_under m o x.1 (on_link x.0.0 t) ≡ None
      go None is f = absurd cc
      go (Some level) is f =
          let history = before x.0.0 level is in
          unbroken m level x.1 (on_link x.0.0 t)
          (lawful-more level x.1 (on_link x.0.0 t) history (lawful-beat l level x.1 (on_link x.0.0 t) f))

  faultless-more : (levels : List Level) (before trace : Trace w) → EachLawful levels before
      → fault_from_under l levels before trace ≡ None → fault_from_under m levels before trace ≡ None
  unfolding fault_from_under
  faultless-more levels before [] lawful e = refl
  faultless-more levels before (x ∷ trace) lawful e =
      let here = none (broken_on_link_under l levels x before) (length before)
      (fault_from_under l levels (x ∷ before) trace) e in
      rw (unbroken-more levels x before lawful here.0) (faultless-more levels (x ∷ before) trace
      (next-lawful levels x before lawful here.0) here.1)
    where
      none : (o : Option Rule) (i : ℕ) (rest : Option (ℕ × Rule)) → fault_or o i rest ≡ None
          → (o ≡ None) × (rest ≡ None)
      none None i rest f = (refl, f)
      none (Some r) i rest f = absurd cc

-- ---- the law

pub histories : {w : ℕ} → ForgivesHistories w
histories l m level t within e = legal-more-history l m within level t (lawful-history l level t e)

pub traces : {w : ℕ} → ForgivesTraces w
unfolding AreLawful on_link
traces l m levels trace within e = faultless-more l m within levels [] trace (λ n level is. tt) e

pub held : {w : ℕ} → HoldsAlike w
held l m level k t within e = held-alike l m level k t within (lawful-history l level t e)
