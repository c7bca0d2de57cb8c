-- What trackers keep, where the trace grows.
use Rattle.tl_manager.proofs.Imports.{Trace, block_at, is_one_of, bit_if, is_missing, Each, AreApart, is_granted}
use Rattle.tl_manager.proofs.Imports.{Service, services, service_of_block, trackers_of, service_with, IsTracked}
use Rattle.tl_manager.proofs.Imports.{Tracker, Free, Probing, Granted}
use Rattle.std.proofs.Common.{◌≡◌, ◌≢◌, ℕ, ◌==◌, Bool, true, false, not, List, [], ◌∷◌, Some, refl, sym, ap, ◌∙◌}
use Rattle.std.specs.Prelude.{filter, if◌then◌else◌}
use Rattle.std.proofs.lemmas.Bool.{eqb-true, eq-eqb, ne_eqb}
use Rattle.tl_manager.{proofs.words_of_clients.Counts.same_tracker, proofs.pending.Replied.block-of}
use Rattle.tl_manager.{proofs.services.Serving.some_is}

-- a service that is as it was
pub record IsStill {w : ℕ} (k : ℕ) (s : Service w) (t u : Trace w) : Type 0 where
  pub serves : service_of_block k (services u) ≡ Some s
  pub granted : is_granted u s ≡ is_granted t s
  pub missing : (c : ℕ) → is_missing c k u ≡ is_missing c k t

-- the trackers whose services are as they were keep what is true of them
pub tracked-still : {w : ℕ} (n : ℕ) (tracker : Tracker w) (t u : Trace w)
    → (is_one_of n (trackers_of (services t)) ≡ false → is_one_of n (trackers_of (services u)) ≡ false)
    → ((k : ℕ) (s : Service w) → service_of_block k (services t) ≡ Some s → s.tracker ≡ n → IsStill k s t u)
    → IsTracked n tracker t → IsTracked n tracker u
tracked-still n Free t u free still is = free is
tracked-still n (Probing link request missing) t u free still is =
    let s = still (block_at request.address) (service_with n link request) is.serves refl in
    record {
      serves = s.serves;
      unanswered = s.granted ∙ is.unanswered;
      bits =
          λ c. is.bits c ∙ ap bit_if (sym (s.missing c));
    }
tracked-still n (Granted link block) t u free still is =
    let s = still block (service_with n link is.request) is.serves refl in
    record { request = is.request; block_is = is.block_is; serves = s.serves; granted = s.granted ∙ is.granted }

-- the service of another tracker is of another block
pub other_block : {w : ℕ} (n k : ℕ) (s v : Service w) (ss : List (Service w)) → service_of_block n ss ≡ Some s
    → service_of_block k ss ≡ Some v → v.tracker ≢ s.tracker → (n == k) ≡ false
other_block n k s v ss e f apart =
    ne_eqb n k (λ same. apart
    (ap (λ (x : Service _). x.tracker) (some_is v s (sym f ∙ ap (λ i. service_of_block i ss) (sym same) ∙ e))))

-- where the services of a block end, its tracker is free
pub tracker-ended : {w : ℕ} (n : ℕ) (s : Service w) (ss : List (Service w)) → AreApart (trackers_of ss)
    → service_of_block n ss ≡ Some s
    → is_one_of s.tracker (trackers_of (filter (λ v. not (block_at v.request.address == n)) ss)) ≡ false
tracker-ended {w} n s ss apart e = none (block-of n ss s e) ss (same_tracker n ss s apart e)
  where
    none : (block_at s.request.address == n) ≡ true → (vs : List (Service w))
        → Each (λ v. (v.tracker == s.tracker) ≡ true → v ≡ s) vs
        → is_one_of s.tracker (trackers_of (filter (λ v. not (block_at v.request.address == n)) vs)) ≡ false
    none here [] each = refl
    none here (v ∷ vs) each = go (block_at v.request.address == n) refl (s.tracker == v.tracker) refl
        (none here vs each.1)
      where
        go : (b : Bool) → (block_at v.request.address == n) ≡ b → (d : Bool) → (s.tracker == v.tracker) ≡ d
            → is_one_of s.tracker (trackers_of (filter (λ u. not (block_at u.request.address == n)) vs)) ≡ false
            → is_one_of s.tracker (trackers_of (if not b then v ∷ filter (λ u. not (block_at u.request.address == n)) vs
            else filter (λ u. not (block_at u.request.address == n)) vs)) ≡ false
        go true f d g rest = rest
        go false f false g rest = rw g rest
        go false f true g rest = absurd (
            let turned : (v.tracker == s.tracker) ≡ true =
            eq-eqb v.tracker s.tracker (sym (eqb-true s.tracker v.tracker g)) in
            let same : v ≡ s = each.0 turned in
            let there : (block_at v.request.address == n) ≡ true =
            ap (λ (x : Service w). block_at x.request.address == n) same ∙ here in
            cc)
