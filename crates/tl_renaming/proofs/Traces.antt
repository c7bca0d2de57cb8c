-- Renamed histories and traces.
use Rattle.tl_renaming.proofs.Imports.{Beat, History, channel_of, unfinished, IsFaithful, Liberties, Renaming}
use Rattle.tl_renaming.proofs.Imports.{renamed, renamed_history}
use Rattle.tl_renaming.{proofs.Legal.legal-kept, proofs.Ordered.order-kept}
use Rattle.tl_renaming.proofs.Bursts.{begins-kept, breaks-burst-kept, channel-kept, unfinished-kept}
use Rattle.tl_renaming.specs.statement.Renamed.{AreFaithful, Renamings, of_link, renamed_on_link, renamed_trace}
use Rattle.std.proofs.Common.{◌≡◌, ℕ, suc, Bool, true, false, List, [], ◌∷◌, length, refl, ap}
use Rattle.std.specs.Prelude.{if◌then◌else◌, Option, Some, None, slice_get, ◌==◌}
use Rattle.std.proofs.lemmas.Bool.{eqb-true}
use Rattle.tl_beat.{specs.declared.beat.Link.Link, specs.statement.Width.IsWidth}
use Rattle.tl_params.specs.declared.level.Level.{Level}
use Rattle.tl_params.specs.declared.rule.Rule.{Rule}
use Rattle.tl_rules.specs.statement.Conformance.{Trace, on_link}
use Rattle.tl_rules.specs.statement.Liberties.{broken_after_under, broken_at_level_under, broken_given_under}
use Rattle.tl_rules.specs.statement.Liberties.{broken_in_order_under, broken_on_link_under, fault_from_under}
use Rattle.tl_rules.specs.statement.Liberties.{first_fault_under, illegal_under}

-- ---- one beat after a history

module _ {w : ℕ} (l : Liberties) (r : Renaming) (faithful : IsFaithful l r) where
  in-order-kept : (x : Beat w) (t : History w)
      → broken_in_order_under l (renamed r x) (renamed_history r t) ≡ broken_in_order_under l x t
  in-order-kept x t =
      rw (
        begins-kept r x t,
        order-kept l r faithful x t,
        channel-kept r x,
        unfinished-kept r (channel_of x) t,
        breaks-burst-kept r l faithful x (unfinished (channel_of x) t),
      ) refl

  given-kept : (o : Option Rule) (x : Beat w) (t : History w)
      → broken_given_under l o (renamed r x) (renamed_history r t) ≡ broken_given_under l o x t
  given-kept None x t = in-order-kept x t
  given-kept (Some rule) x t = refl

  pub after-kept : IsWidth w → (level : Level) (x : Beat w) (t : History w)
      → broken_after_under l level (renamed r x) (renamed_history r t) ≡ broken_after_under l level x t
  unfolding broken_after_under
  after-kept width level x t =
      rw (channel-kept r x, legal-kept l r faithful width level (channel_of x) x)
      (given-kept (illegal_under l level (channel_of x) x) x t)

-- ---- traces

module _ {w : ℕ} (r : Renamings) where
  pub link-kept : (n : ℕ) (t : Trace w) → on_link n (renamed_trace r t) ≡ renamed_history (of_link r n) (on_link n t)
  unfolding on_link
  link-kept n [] = refl
  link-kept n (x ∷ t) = rw (link-kept n t) (go (x.0.0 == n) refl)
    where
      go : (b : Bool) → (x.0.0 == n) ≡ b
          → (if b then renamed (of_link r x.0.0) x.1 ∷ renamed_history (of_link r n) (on_link n t)
          else renamed_history (of_link r n) (on_link n t))
          ≡ renamed_history (of_link r n) (if b then x.1 ∷ on_link n t else on_link n t)
      go true e = ap (λ i. renamed (of_link r i) x.1 ∷ renamed_history (of_link r n) (on_link n t)) (eqb-true x.0.0 n e)
      go false e = refl

  pub beats-kept : (t : Trace w) → length (renamed_trace r t) ≡ length t
  beats-kept [] = refl
  beats-kept (x ∷ t) = ap suc (beats-kept t)

  module _ (l : Liberties) (faithful : AreFaithful l r) (width : IsWidth w) where
    at-level-kept : (o : Option Level) (n : ℕ) (x : Beat w) (t : History w)
        → broken_at_level_under l o (renamed (of_link r n) x) (renamed_history (of_link r n) t)
        ≡ broken_at_level_under l o x t
    at-level-kept None n x t = refl
    at-level-kept (Some level) n x t = after-kept l (of_link r n) (faithful n) width level x t

    pub on-link-kept : (levels : List Level) (x : Link × Beat w) (t : Trace w)
        → broken_on_link_under l levels (renamed_on_link r x) (renamed_trace r t) ≡ broken_on_link_under l levels x t
    on-link-kept levels x t =
        rw (link-kept x.0.0 t) (at-level-kept (slice_get levels x.0.0) x.0.0 x.1 (on_link x.0.0 t))

    faults-kept : (levels : List Level) (before trace : Trace w)
        → fault_from_under l levels (renamed_trace r before) (renamed_trace r trace)
        ≡ fault_from_under l levels before trace
    unfolding fault_from_under
    faults-kept levels before [] = refl
    faults-kept levels before (x ∷ trace) =
        rw (on-link-kept levels x before, beats-kept before, faults-kept levels (x ∷ before) trace) refl

    pub first-fault-kept : (levels : List Level) (trace : Trace w)
        → first_fault_under l levels (renamed_trace r trace) ≡ first_fault_under l levels trace
    first-fault-kept levels trace = faults-kept levels [] trace
