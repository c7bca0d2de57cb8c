-- A configuration within its limits, as arithmetic.
use Rattle.std.proofs.Common.{◌≡◌, ◌<◌, ◌&&◌, ℕ, zero, suc, Bool, true, false, List, [], ◌∷◌, Some, None, refl, length}
use Rattle.std.proofs.Common.{arith, Option, not, if◌then◌else◌, slice_index_or}
use Rattle.tl_coherence.proofs
use proofs.Imports.{ClientConfig, sources_fit, all_sources_fit}
use Rattle.tl_params.specs.declared.config.NewFault.{NewFault}

pub all-fit : (clients : List ClientConfig) (i : ℕ) (d : ClientConfig) → all_sources_fit clients ≡ true
    → i < length clients → sources_fit (slice_index_or clients i d) ≡ true
all-fit [] i d fit lt = absurd (omega (arith, lt))
all-fit (x ∷ clients) zero d fit lt =
    let both-first : (a b : Bool) → (a && b) ≡ true → a ≡ true = elim [ true ↦ λ b e. refl | false ↦ λ b e. absurd cc ]
    in
    both-first (sources_fit x) (all_sources_fit clients) fit
all-fit (x ∷ clients) (suc i) d fit lt =
    let both-second : (a b : Bool) → (a && b) ≡ true → b ≡ true = elim [ true ↦ λ b e. e | false ↦ λ b e. absurd cc ] in
    all-fit clients i d (both-second (sources_fit x) (all_sources_fit clients) fit) (omega (arith, lt))

abbrev limits_broken : Bool → Bool → Bool → Bool → Option NewFault
limits_broken a b c e = if not a then Some NewFault.N1 else if not b then Some NewFault.N2 else if not c then Some
    NewFault.N3 else if not e then Some NewFault.N4 else None

pub limits-fit : (a b c e : Bool) → limits_broken a b c e ≡ None → (a ≡ true) × (b ≡ true) × (c ≡ true) × (e ≡ true)
limits-fit a b c e f = grind arith
