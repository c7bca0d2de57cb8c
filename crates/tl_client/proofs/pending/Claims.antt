-- The transfers of a block that are open, by what is kept of them.
use Rattle.tl_client.proofs.Imports.{BeatA, BeatC, AcquireOf, ReleaseOf, pending, releases, Caching, Endpoint, acquires}
use Rattle.tl_client.proofs.Imports.{KnowsCaching, open_beat, open_release, fields_of, release_fields}
use Rattle.std.proofs.Common.{◌≡◌, ℕ, zero, suc, Bool, true, false, ◌||◌, List, [], ◌∷◌, Option, Some, None, refl, sym}
use Rattle.std.proofs.Common.{◌∙◌, ap}
use Rattle.std.specs.List.{list_any}
use Rattle.std.specs.Prelude.{slice_get}
use Rattle.std.specs.Option.{option_flatten}
use Rattle.tl_client.specs.statement.Requests.{acquires_block, releases_block}
use Rattle.std.specs.Cmp.{both_ways}

any-at : {T : Type 0} (f : Option T → Bool) (xs : List (Option T)) (s : ℕ) → f None ≡ false
    → f (option_flatten (slice_get xs s)) ≡ true → list_any f xs ≡ true
any-at f [] s none is = absurd cc
any-at f (x ∷ xs) zero none is = rw is refl
any-at {T} f (x ∷ xs) (suc s) none is = go (f x) (any-at f xs s none is)
  where
    go : (b : Bool) → list_any f xs ≡ true → (b || list_any f xs) ≡ true
    go true more = refl
    go false more = more

at-any : {T : Type 0} (f : Option T → Bool) (xs : List (Option T)) → list_any f xs ≡ true
    → (s : ℕ) × (f (option_flatten (slice_get xs s)) ≡ true)
at-any f [] is = absurd cc
at-any {T} f (x ∷ xs) is = go (f x) refl (λ any. at-any f xs any) is
  where
    go : (b : Bool) → f x ≡ b → (list_any f xs ≡ true → (s : ℕ) × (f (option_flatten (slice_get xs s)) ≡ true))
        → (b || list_any f xs) ≡ true
        → (s : ℕ) × (f (option_flatten (slice_get (x ∷ xs) s)) ≡ true)
    go true e later any = (0, e)
    go false e later any = let found = later any in (suc found.0, found.1)

acquires-fields : {w : ℕ} (k : ℕ) (r : Option (BeatA w)) → acquires_block k (fields_of r) ≡ acquires k r
acquires-fields k None = refl
acquires-fields k (Some r) = refl

releases-fields : {w : ℕ} (k : ℕ) (r : Option (BeatC w)) → releases_block k (release_fields r) ≡ releases k r
releases-fields k None = refl
releases-fields k (Some r) = refl

-- an Acquire of the block is open exactly where one is pending
pub acquiring : {w : ℕ} (c : Caching w) (e : Endpoint w) (k : ℕ) → KnowsCaching c e
    → list_any (acquires_block k) c.requests.with_source ≡ pending (AcquireOf k) e.past
acquiring c e k knows = both_ways _ _
    (λ any. let found = at-any (acquires_block k) c.requests.with_source any in
    knows.kept.outstanding found.0 k (sym (acquires-fields k (open_beat found.0 e.past)) ∙ sym
    (ap (acquires_block k) (knows.requests_are found.0)) ∙ found.1))
    (λ is. let found = knows.accounted.claimed.acquired k is in
    any-at (acquires_block k) c.requests.with_source found.0 refl
    (ap (acquires_block k) (knows.requests_are found.0) ∙ acquires-fields k (open_beat found.0 e.past) ∙ found.1))

-- and a Release likewise
pub releasing : {w : ℕ} (c : Caching w) (e : Endpoint w) (k : ℕ) → KnowsCaching c e
    → list_any (releases_block k) c.releases.with_source ≡ pending (ReleaseOf k) e.past
releasing c e k knows = both_ways _ _
    (λ any. let found = at-any (releases_block k) c.releases.with_source any in
    knows.accounted.claimed.releasing found.0 k (sym (releases-fields k (open_release found.0 e.past)) ∙ sym
    (ap (releases_block k) (knows.releases_are found.0)) ∙ found.1))
    (λ is. let found = knows.accounted.claimed.released k is in
    any-at (releases_block k) c.releases.with_source found.0 refl
    (ap (releases_block k) (knows.releases_are found.0) ∙ releases-fields k (open_release found.0 e.past)
    ∙ found.1))
