-- All links of a manager together, of renamed traces.
use Rattle.tl_renaming.proofs.Imports.{Beat, A, B, C, D, E, renamed}
use Rattle.tl_renaming.{proofs.Bytes.bytes-kept, proofs.Fitting.all-fit, proofs.Fitting.all-roomy}
use Rattle.tl_renaming.{proofs.Fitting.few-lanes, proofs.Granting.beginning-kept}
use Rattle.tl_renaming.proofs.MayBe.{AreFitting, AreInBlocks}
use Rattle.tl_renaming.proofs.Traces.{beats-kept, on-link-kept}
use Rattle.tl_renaming.specs.statement.Renamed.{AreFaithful, Renamings, of_link, renamed_on_link, renamed_trace}
use Rattle.tl_renaming.specs.statement.Together.{AreTypedOn}
use Rattle.std.proofs.Common.{◌≡◌, ℕ, List, [], ◌∷◌, length, refl, sym, ap, ◌∙◌, arith}
use Rattle.std.proofs.Math.Path.{ap₂}
use Rattle.std.specs.Prelude.{Option, Some, None}
use Rattle.tl_beat.{specs.declared.beat.Link.Link, specs.statement.Width.IsWidth}
use Rattle.tl_memory.{proofs.lawful.OpenAccesses.is-fine, proofs.lawful.OpenAccesses.legal-on}
use Rattle.tl_memory.{proofs.lawful.Unfinished.room}
use Rattle.tl_memory.specs.statement.Links.{AreLegal, IsLegal, KeepRules}
use Rattle.tl_params.specs.declared.level.Level.{Level}
use Rattle.tl_params.specs.declared.rule.Rule.{Rule}
use Rattle.tl_params.specs.declared.liberties.Liberties.{Liberties}
use Rattle.tl_rules.specs.laws.Typed.{IsTyped}
use Rattle.tl_rules.specs.statement.Conformance.{Trace, on_link}
use Rattle.tl_rules.specs.statement.Liberties.{broken_on_link_under}
use Rattle.tl_together.proofs.Following.{widened}
use Rattle.tl_together.specs.declared.breach.Breach.{Breach}
use Rattle.tl_params.specs.declared.memory_rule.MemoryRule.{MemoryRule}
use Rattle.tl_together.specs.statement.Coherence.{breach_from, breach_or, broken_memory, broken_together, first_breach}
use Rattle.tl_together.specs.statement.Coherence.{first_broken, memory_rule_or}

-- after a lawful trace the accesses lie in one block each
in-blocks : {w : ℕ} → IsWidth w → (levels : List Level) (t : Trace w) → AreLegal levels t → AreTypedOn t
    → AreInBlocks t
in-blocks width levels t legal typed =
    record { pending_fit = all-fit width levels t legal typed; outrun_fit = all-roomy width levels t legal }

fitting : {w : ℕ} → IsWidth w → (levels : List Level) (t : Trace w) → AreLegal levels t → AreTypedOn t
    → AreFitting t
fitting width levels [] legal typed = in-blocks width levels [] legal typed
fitting width levels (x ∷ t) legal typed =
    (in-blocks width levels (x ∷ t) legal typed, fitting width levels t legal.1 typed.1)

module _ {w : ℕ} (l : Liberties) (r : Renamings) (faithful : AreFaithful l r)
    (width : IsWidth w) where
  -- ---- the rules of memory

  memory-kept : (levels : List Level) (link : Link) (x : Beat w) (t : Trace w) → IsLegal levels (link, x) t
      → AreLegal levels t → IsTyped x → AreFitting t → (n : ℕ)
      → broken_memory n link.0 (renamed (of_link r link.0) x) (renamed_trace r t) ≡ broken_memory n link.0 x t
  memory-kept levels link (D x) t fine legal typed fits n =
      let f = is-fine _ levels (link, D x) t fine in
      let long = room f.level (D x) (on_link link.0 t) width
      (legal-on _ levels link.0 f.level t f.has_level legal) f.fine in
      ap₂ memory_rule_or (beginning-kept l r faithful n link.0 x t)
      (bytes-kept l r faithful width n link.0 x t fits (omega (arith, long, few-lanes (D x) typed)))
  memory-kept levels link (A x) t fine legal typed fits n = refl
  memory-kept levels link (B x) t fine legal typed fits n = refl
  memory-kept levels link (C x) t fine legal typed fits n = refl
  memory-kept levels link (E x) t fine legal typed fits n = refl

  -- ---- all rules

  link-rule-kept : (levels : List Level) (x : Link × Beat w) (t : Trace w)
      → broken_on_link_under l levels (renamed_on_link r x) (renamed_trace r t) ≡ broken_on_link_under l levels x t
  link-rule-kept levels x t = on-link-kept r l faithful width levels x t

  same-first : (o : Option Rule) (memory others : Option MemoryRule) → (o ≡ None → others ≡ memory)
      → first_broken o others ≡ first_broken o memory
  same-first None memory others same = ap (first_broken None) (same refl)
  same-first (Some rule) memory others same = refl

  pub together-kept : (levels : List Level) (x : Link × Beat w) (t : Trace w) → KeepRules l levels t → AreTypedOn (x ∷ t)
      → broken_together levels l (renamed_on_link r x) (renamed_trace r t) ≡ broken_together levels l x t
  together-kept levels x t legal typed =
      ap (λ o. first_broken o (broken_memory (length levels) x.0.0 (renamed (of_link r x.0.0) x.1) (renamed_trace r t)))
      (link-rule-kept levels x t)
      ∙ same-first (broken_on_link_under l levels x t) (broken_memory (length levels) x.0.0 x.1 t)
      (broken_memory (length levels) x.0.0 (renamed (of_link r x.0.0) x.1) (renamed_trace r t))
      (λ fine.
      let all = widened levels l (x ∷ t) (fine, legal) in
      memory-kept levels x.0 x.1 t all.0 all.1 typed.0 (fitting width levels t all.1 typed.1) (length levels))

  -- ---- a trace

  -- a beat that breaks no rule at all breaks none of its link
  unbroken-link : (levels : List Level) (x : Link × Beat w) (t : Trace w) → broken_together levels l x t ≡ None
      → broken_on_link_under l levels x t ≡ None
  unbroken-link levels x t e = go (broken_on_link_under l levels x t) (broken_memory (length levels) x.0.0 x.1 t) e
    where
      go : (o : Option Rule) (memory : Option MemoryRule) → first_broken o memory ≡ None → o ≡ None
      go None memory f = refl
      go (Some rule) memory f = absurd cc

  breaches-kept : (levels : List Level) (before trace : Trace w) → KeepRules l levels before → AreTypedOn before
      → AreTypedOn trace
      → breach_from levels l (renamed_trace r before) (renamed_trace r trace) ≡ breach_from levels l before trace
  unfolding breach_from
  breaches-kept levels before [] legal typed coming = refl
  breaches-kept levels before (x ∷ trace) legal typed coming =
      ap₂ (λ b i. breach_or b i (breach_from levels l (renamed_trace r (x ∷ before)) (renamed_trace r trace)))
      (together-kept levels x before legal (coming.0, typed)) (beats-kept r before)
      ∙ go (broken_together levels l x before) refl
      (λ fine. breaches-kept levels (x ∷ before) trace (fine, legal) (coming.0, typed) coming.1)
    where
      go : (o : Option Breach) → broken_together levels l x before ≡ o
          → (broken_on_link_under l levels x before ≡ None
          → breach_from levels l (renamed_trace r (x ∷ before)) (renamed_trace r trace)
          ≡ breach_from levels l (x ∷ before) trace)
          → breach_or (broken_together levels l x before) (length before)
          (breach_from levels l (renamed_trace r (x ∷ before)) (renamed_trace r trace))
          ≡ breach_or (broken_together levels l x before) (length before) (breach_from levels l (x ∷ before) trace)
      go None e rest = ap (breach_or (broken_together levels l x before) (length before))
          (rest (unbroken-link levels x before e))
      go (Some breach) e rest =
          ap (λ o. breach_or o (length before)
          (breach_from levels l (renamed_trace r (x ∷ before)) (renamed_trace r trace))) e
          ∙ sym (ap (λ o. breach_or o (length before) (breach_from levels l (x ∷ before) trace)) e)

  pub first-breach-kept : (levels : List Level) (trace : Trace w) → AreTypedOn trace
      → first_breach levels l (renamed_trace r trace) ≡ first_breach levels l trace
  first-breach-kept levels trace typed = breaches-kept levels [] trace tt tt typed
