-- One more beat of a trace, on its own link and on the others, and one more link.
use Rattle.std.proofs.Common.{◌≡◌, ◌≢◌, ◌<◌, ℕ, zero, suc, List, [], ◌∷◌, ◌++◌, length, refl, arith}
use Rattle.std.specs.Prelude.{slice_index_or}
use Rattle.std.proofs.lemmas.Bool.{eq-eqb, ne_eqb}
use Rattle.tl_beat.specs.declared.beat.Beat.{Beat}
use Rattle.tl_beat.specs.declared.beat.Link.{Link}
use Rattle.tl_rules.specs.statement.Conformance.{Trace, on_link}

pub own_link : {w : ℕ} (n : ℕ) (x : Link × Beat w) (t : Trace w) → x.0.0 ≡ n → on_link n (x ∷ t) ≡ x.1 ∷ on_link n t
unfolding on_link
own_link n x t own = rw (eq-eqb x.0.0 n own) refl

pub other_link : {w : ℕ} (n : ℕ) (x : Link × Beat w) (t : Trace w) → x.0.0 ≢ n → on_link n (x ∷ t) ≡ on_link n t
unfolding on_link
other_link n x t other = rw (ne_eqb x.0.0 n other) refl

-- what holds of each of these and of one more holds of all
pub all_more : {X : Type 0} (P : X → Type 0) (xs : List X) (x : X)
    → ((n : ℕ) (d : X) → n < length xs → P (slice_index_or xs n d)) → P x
    → (n : ℕ) (d : X) → n < length (xs ++ x ∷ []) → P (slice_index_or (xs ++ x ∷ []) n d)
all_more P [] x all one zero d lt = one
all_more P [] x all one (suc n) d lt = absurd (omega (arith, lt))
all_more P (y ∷ ys) x all one zero d lt = all 0 d (omega arith)
all_more P (y ∷ ys) x all one (suc n) d lt =
    all_more P ys x (λ m e less. all (suc m) e (omega (arith, less))) one n d (omega (arith, lt))
