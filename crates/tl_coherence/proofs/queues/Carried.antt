-- A message that is pushed, and a beat that is taken.
use Rattle.std.proofs.Common.{◌≡◌, ℕ, suc, ◌<◌, ◌+◌, ◌-◌, List, [], ◌∷◌, ◌++◌, refl, sym, ◌∙◌, ap, arith, append_assoc}
use Rattle.std.proofs.Common.{append-nil, ◌==◌}
use Rattle.tl_coherence.proofs
use proofs.Imports.{Beat, length-begun, Message, beats_of, beat_of, begun, burst_of, grown, completes, not_last}
use proofs.Imports.{is_last, beats_from, IsCarried}
use Rattle.tl_burst.proofs.Splitting.{length-of_beat}
use Rattle.tl_coherence.specs.refinement.Carried.{spelled}

spelled-append : {w : ℕ} (ms ns : List (Message w)) → spelled (ms ++ ns) ≡ spelled ms ++ spelled ns
unfolding spelled
spelled-append [] ns = refl
spelled-append (m ∷ ms) ns =
    rw (spelled-append ms ns) (sym (append_assoc (beats_from m 0 (beats_of m)) (spelled ms) (spelled ns)))

spelled-one : {w : ℕ} (m : Message w) → spelled (m ∷ []) ≡ beats_from m 0 (beats_of m)
unfolding spelled
spelled-one m = append-nil (beats_from m 0 (beats_of m))

-- ---- a message is pushed

pub carried-push : {w : ℕ} (rest : List (Beat w)) (ms : List (Message w)) (queue : List (Beat w)) (m : Message w)
    → 0 < beats_of m → IsCarried rest ms queue → IsCarried rest (ms ++ m ∷ []) (queue ++ beats_from m 0 (beats_of m))
unfolding spelled
carried-push {w} rest [] queue m pos h =
    let all : beats_of m - 0 ≡ beats_of m = omega arith in
    (0, pos, h.0, rw (h.1, all) (sym (append-nil (beats_from m 0 (beats_of m)))))
carried-push rest (n ∷ ms) queue m pos (k, lt, r, q) = (
  k,
  lt,
  r,
  rw (q, spelled-append ms (m ∷ []), spelled-one m)
      (append_assoc (beats_from n k (beats_of n - k)) (spelled ms) (beats_from m 0 (beats_of m))),
)

-- ---- the first beat is taken

from_next : {w : ℕ} (m : Message w) (k n : ℕ) → n ≡ suc (n - 1) → beats_from m k n ≡ beat_of m k ∷ beats_from m (k + 1)
    (n - 1)
unfolding beats_from
from_next m k n e = grind arith

no_beats : {w : ℕ} (m : Message w) (k : ℕ) (beats : List (Beat w)) → (beats_from m k 0 ++ beats) ≡ beats
unfolding beats_from
no_beats m k beats = refl

-- what the first beat of a channel is, and what is left: `m` is its message, and it is beat k
pub record IsNext {w : ℕ} (x : Beat w) (rest : List (Beat w)) (m : Message w) (ms : List (Message w))
    (queue : List (Beat w)) : Type 0 where
  pub k : ℕ
  pub within : k < beats_of m
  pub beat_is : x ≡ beat_of m k
  pub rest_is : rest ≡ begun m k
  pub completes_is : completes x rest ≡ (k + 1 == beats_of m)
  -- not the last one: the message stays, with one more beat at the receiver
  pub more : k + 1 < beats_of m → (grown x rest ≡ x ∷ rest) × IsCarried (x ∷ rest) (m ∷ ms) queue
  -- the last one: the message is gone, and the receiver has it whole
  pub last : k + 1 ≡ beats_of m → (grown x rest ≡ []) × (x ∷ rest ≡ burst_of m) × IsCarried [] ms queue

pub tail_is : {w : ℕ} (x y : Beat w) (xs ys : List (Beat w)) → x ∷ xs ≡ y ∷ ys → (x ≡ y) × (xs ≡ ys)
tail_is x y xs ys e = (cc, cc)

carried_rest : {w : ℕ} (ms : List (Message w)) → ((n : Message w) → 0 < beats_of n) → IsCarried [] ms (spelled ms)
unfolding spelled
carried_rest ms e = grind arith

pub carried-next : {w : ℕ} (x : Beat w) (rest : List (Beat w)) (m : Message w) (ms : List (Message w))
    (queue : List (Beat w)) → ((n : Message w) → 0 < beats_of n)
    → IsCarried rest (m ∷ ms) (x ∷ queue) → IsNext x rest m ms queue
carried-next {w} x rest m ms queue pos (k, lt, r, q) =
    let next_lt : k + 1 < beats_of m → suc k < beats_of m = λ h. omega (arith, h) in
    let ap₂_from : (a b c d : ℕ) → a ≡ b → c ≡ d → (beats_from m a c ++ spelled ms) ≡ (beats_from m b d ++ spelled ms) =
    λ a b c d e f. rw (e, f) refl in
    let n = beats_of m in
    let parts = tail_is x _ queue _ (q ∙ ap (λ b. b ++ spelled ms) (from_next m k (n - k) (omega (arith, lt)))) in
    let left : n - k - 1 ≡ n - (k + 1) = omega arith in
    record {
      k = k;
      within = lt;
      beat_is = parts.0;
      rest_is = r;
      completes_is = rw (parts.0, r, length-begun m k, length-of_beat m k) refl;
      more = λ lt2. (
        rw (parts.0, r, length-begun m k, length-of_beat m k, not_last k n lt2) refl,
        let fact = parts.1 ∙ ap₂_from (k + 1) (suc k) (n - k - 1) (n - suc k) (omega arith) (omega arith) in
            (suc k, next_lt lt2, rw (parts.0, r) refl, fact),
      );
      last = λ e.
          let none : n - k - 1 ≡ 0 = omega (arith, e) in
          let queue_is : queue ≡ spelled ms = parts.1 ∙ ap (λ i. beats_from m (k + 1) i ++ spelled ms)
          none ∙ no_beats m (k + 1) (spelled ms) in (
            rw (parts.0, r, length-begun m k, length-of_beat m k, is_last k n e) refl,
            rw (parts.0, r) (whole e),
            rw queue_is (carried_rest ms pos),
          );
    }
  where
    whole : k + 1 ≡ beats_of m → begun m (suc k) ≡ burst_of m
    whole e = let f : suc k ≡ beats_of m = omega (arith, e) in ap (λ i. begun m i) f

-- a channel without a beat has no message
pub carried-none : {w : ℕ} (rest : List (Beat w)) (ms : List (Message w)) → IsCarried rest ms [] → ms ≡ []
carried-none rest [] h = refl
carried-none {w} rest (m ∷ ms) (k, lt, r, q) =
    let nothing_is : (x : Beat w) (xs : List (Beat w)) → [] ≡ x ∷ xs → ⊥ = λ x xs e. absurd cc in
    absurd (nothing_is (beat_of m k) (beats_from m (k + 1) (beats_of m - k - 1) ++ spelled ms)
    (q ∙ ap (λ b. b ++ spelled ms) (from_next m k (beats_of m - k) (omega (arith, lt)))))
