-- The addresses of requests after one beat more.
use Rattle.std.proofs.Common.{◌≡◌, ℕ, ◌<◌, ◌≤◌, Bool, true, false, List, [], ◌∷◌, ◌++◌, length}
use Rattle.std.proofs.Common.{refl, sym, ap, ◌∙◌, arith, inl, inr}
use Rattle.std.proofs.lemmas.Bool.{cases_eq, eq-eqb, eqb-true, ne_eqb}
use Rattle.std.proofs.lemmas.List.{get_or-set_other, get_or-set_same, length-append}
use Rattle.std.specs.Prelude.{◌==◌, ◌&&◌, if◌then◌else◌, Option, Some, None, slice_index_or, slice_set}
use Rattle.tl_beat.specs.declared.beat.Link.{Link}
use Rattle.tl_rules.specs.statement.Legality.{is_one_of}
use Rattle.tl_wide.proofs.Naming.{places-more}
use Rattle.tl_wide.proofs.Names.{among-sources, place-below, place-once, sources-more, sources-other, with-longer}
use Rattle.tl_wide.specs.statement.Narrowing.{Asks, asked_under, key_of}
use Rattle.tl_wide.specs.statement.Numbers.{place_among}
use Rattle.tl_wide.specs.declared.beat.WideBeat.{WideBeat}
use Rattle.tl_wide.specs.declared.beat.WideBeat.TheVariants as wide
use Rattle.tl_wide.specs.declared.beat.WideBeatA.{WideBeatA}
use Rattle.tl_wide.specs.statement.Naming.{WideTrace, named, place_in, source_of, sources, with_number}
use Rattle.tl_wide.specs.statement.Narrowed.{asked_address}

-- ---- a new source has no address

-- no address is kept under the numbers from these names on
abbrev NoneFrom : List ℕ → Link → List ℕ → Type 0
NoneFrom addresses l names =
    (n : ℕ) → length names ≤ n → n < 256 → slice_index_or addresses (key_of l n) 0 ≡ 0

under-more : (addresses : List ℕ) (l : Link) (names : List ℕ) (o : Option ℕ) (s : ℕ)
    → length (with_number o names) ≤ 256 → NoneFrom addresses l names
    → asked_under addresses l (place_among (with_number o names) s) ≡ asked_under addresses l (place_among names s)
under-more addresses l names None s few none = refl
under-more addresses l names (Some n) s few none = go (is_one_of n names) refl few
  where
    new : (b : Bool) → (s == n) ≡ b → is_one_of n names ≡ false → length names < 256
        → asked_under addresses l (if b then Some (length names) else place_among names s)
        ≡ asked_under addresses l (place_among names s)
    new true e fresh lt =
        let same : s ≡ n = eqb-true s n e in
        rw (same, fresh) (none (length names) (omega arith) lt)
    new false e fresh lt = refl

    go : (b : Bool) → is_one_of n names ≡ b → length (if b then names else names ++ n ∷ []) ≤ 256
        → asked_under addresses l (place_among (if b then names else names ++ n ∷ []) s)
        ≡ asked_under addresses l (place_among names s)
    go true e few = refl
    go false e few =
        let lt : length names < 256 = omega (arith, few, length-append names (n ∷ [])) in
        rw (places-more names n s e) (new (s == n) refl e lt)

-- the addresses under the sources of one beat more are those before
under-kept : {w : ℕ} (link : Link) (x : WideBeat w) (t : WideTrace w) (addresses : List ℕ) (l : Link) (s : ℕ)
    → length (sources link.0 ((link, x) ∷ t)) ≤ 256 → Asks addresses t
    → asked_under addresses l (place_among (sources l.0 ((link, x) ∷ t)) s) ≡ asked_address l s t
under-kept link x t addresses l s few asks = elim (cases_eq l.0 link.0) [
  | inl same ↦
      let more = sources-more link l x t same in
      let few_l : length (with_number (source_of x) (sources l.0 t)) ≤ 256 = rw (← more, same) few in
      rw more (under-more addresses l (sources l.0 t) (source_of x) s few_l (asks.none l) ∙ asks.kept l s)
  | inr other ↦ rw (sources-other link x t l.0 other) (asks.kept l s)
]

-- as many sources as before, or more
longer : {w : ℕ} (link : Link) (x : WideBeat w) (t : WideTrace w) (l : Link)
    → length (sources l.0 t) ≤ length (sources l.0 ((link, x) ∷ t))
longer link x t l = elim (cases_eq l.0 link.0) [
  | inl same ↦ rw (sources-more link l x t same) (with-longer (sources l.0 t) (source_of x))
  | inr other ↦ rw (sources-other link x t l.0 other) (omega arith)
]

-- ---- one beat more

-- of another channel than A
pub asks-kept : {w : ℕ} (link : Link) (x : WideBeat w) (t : WideTrace w) (addresses : List ℕ)
    → length (sources link.0 ((link, x) ∷ t)) ≤ 256
    → ((l : Link) (s : ℕ) → asked_address l s ((link, x) ∷ t) ≡ asked_address l s t)
    → Asks addresses t → Asks addresses ((link, x) ∷ t)
asks-kept link x t addresses few skips asks = record {
  kept = λ l s. under-kept link x t addresses l s few asks ∙ sym (skips l s);
  none = λ l n le lt. let more = longer link x t l in asks.none l n (omega (arith, le, more)) lt;
}

-- the address under the number of a source
pub asked-is : {w : ℕ} (addresses : List ℕ) (link : Link) (s n : ℕ) (t : WideTrace w) → Asks addresses t
    → is_one_of s (sources link.0 t) ≡ true → n ≡ place_in (sources link.0 t) s
    → slice_index_or addresses (key_of link n) 0 ≡ asked_address link s t
asked-is addresses link s n t asks among is = rw is (rw among at (asks.kept link s))

-- ---- a request

-- the addresses with that of a source in its place
abbrev pub IsKept : List ℕ → List ℕ → Link → ℕ → ℕ → Type 0
IsKept old new link n address =
    (k : ℕ) → slice_index_or new k 0 ≡ (if k == key_of link n then address else slice_index_or old k 0)

under-set : (old new : List ℕ) (link l : Link) (own names : List ℕ) (a s n address : ℕ)
    → (l.0 ≡ link.0 → names ≡ own) → is_one_of a own ≡ true → n ≡ place_in own a → length own ≤ 256
    → length names ≤ 256 → IsKept old new link n address
    → asked_under new l (place_among names s)
    ≡ (if (link.0 == l.0) && (a == s) then address else asked_under old l (place_among names s))
under-set old new link l own names a s n address same among is few_own few changed =
    go (is_one_of s names) refl (link.0 == l.0) refl (a == s) refl
  where
    n_lt : n < 256
    n_lt = let lt = place-below own a among in omega (arith, is, lt, few_own)

    not_own : (p : ℕ) → p < 256 → p ≡ place_in names s → is_one_of s names ≡ true → ((link.0 == l.0) && (a == s)) ≡ false
        → (b : Bool) → (key_of l p == key_of link n) ≡ b
        → (if b then address else slice_index_or old (key_of l p) 0) ≡ slice_index_or old (key_of l p) 0
    not_own p lt placed there apart true e =
        let keys : key_of l p ≡ key_of link n = eqb-true (key_of l p) (key_of link n) e in
        let links : l.0 ≡ link.0 = omega (arith, keys, lt, n_lt) in
        let places : p ≡ n = omega (arith, keys, links) in
        let names_are = same links in
        let there_own : is_one_of s own ≡ true = rw names_are at there in
        let placed_own : place_in own a ≡ place_in own s = sym is ∙ sym places ∙ rw names_are at placed in
        let one = place-once own a s among there_own placed_own in
        absurd (let no : ((link.0 == l.0) && (a == s)) ≡ true =
        rw (eq-eqb link.0 l.0 (sym links), eq-eqb a s one) refl in cc)
    not_own p lt placed there apart false e = refl

    go : (b : Bool) → is_one_of s names ≡ b → (x : Bool) → (link.0 == l.0) ≡ x → (y : Bool) → (a == s) ≡ y
        → asked_under new l (if b then Some (place_in names s) else None)
        ≡ (if x && y then address else asked_under old l (if b then Some (place_in names s) else None))
    go true there true ex true ey =
        let links : l.0 ≡ link.0 = sym (eqb-true link.0 l.0 ex) in
        let one : a ≡ s = eqb-true a s ey in
        let placed : place_in names s ≡ n = rw (same links, ← one) (sym is) in
        let keys : key_of l (place_in names s) ≡ key_of link n = omega (arith, links, placed) in
        changed (key_of l (place_in names s)) ∙ rw (eq-eqb (key_of l (place_in names s)) (key_of link n) keys) refl
    go true there true ex false ey =
        let lt = place-below names s there in
        changed (key_of l (place_in names s)) ∙ not_own (place_in names s) (omega (arith, lt, few)) refl there
        (rw (ex, ey) refl) (key_of l (place_in names s) == key_of link n) refl
    go true there false ex y ey =
        let lt = place-below names s there in
        changed (key_of l (place_in names s)) ∙ not_own (place_in names s) (omega (arith, lt, few)) refl there
        (rw ex refl) (key_of l (place_in names s) == key_of link n) refl
    go false there true ex true ey =
        let links : l.0 ≡ link.0 = sym (eqb-true link.0 l.0 ex) in
        let one : a ≡ s = eqb-true a s ey in
        absurd (let no : is_one_of s names ≡ true = rw (same links, ← one) among in cc)
    go false there true ex false ey = refl
    go false there false ex y ey = refl

-- what is kept where there is room
pub kept-at : (old more new : List ℕ) (link : Link) (n key address : ℕ)
    → ((k : ℕ) → slice_index_or more k 0 ≡ slice_index_or old k 0) → key ≡ key_of link n → key < length more
    → new ≡ slice_set more key address → IsKept old new link n address
kept-at old more new link n key address same is lt set k = elim (cases_eq k key) [
  | inl own ↦
      let here : (k == key_of link n) ≡ true = eq-eqb k (key_of link n) (own ∙ is) in
      rw (here, set, own) (get_or-set_same more key address 0 lt)
  | inr other ↦
      let apart : (k == key_of link n) ≡ false = ne_eqb k (key_of link n) (λ e. other (e ∙ sym is)) in
      rw (apart, set) (get_or-set_other more key k address 0 other ∙ same k)
]

-- the same addresses in more room
pub same-asked : {w : ℕ} (old new : List ℕ) (t : WideTrace w)
    → ((k : ℕ) → slice_index_or new k 0 ≡ slice_index_or old k 0) → Asks old t → Asks new t
same-asked old new t same asks = record {
  kept = λ l s. go l (place_among (sources l.0 t) s) ∙ asks.kept l s;
  none = λ l n le lt. same (key_of l n) ∙ asks.none l n le lt;
}
  where
    go : (l : Link) (o : Option ℕ) → asked_under new l o ≡ asked_under old l o
    go l None = refl
    go l (Some n) = same (key_of l n)

-- a beat of channel A has its own address
pub asks-more : {w : ℕ} (link : Link) (x : WideBeatA w) (t : WideTrace w) (old new : List ℕ) (n : ℕ)
    → ((i : ℕ) → length (sources i ((link, wide.A x) ∷ t)) ≤ 256)
    → n ≡ place_in (sources link.0 ((link, wide.A x) ∷ t)) x.source → IsKept old new link n x.address
    → Asks old t → Asks new ((link, wide.A x) ∷ t)
unfolding asked_address
asks-more link x t old new n few is changed asks =
    let among = among-sources link (wide.A x) t x.source refl in
    let lt = place-below (sources link.0 ((link, wide.A x) ∷ t)) x.source among in
    record {
      kept = λ l s.
          under-set old new link l (sources link.0 ((link, wide.A x) ∷ t)) (sources l.0 ((link, wide.A x) ∷ t))
          x.source s n x.address (λ e. rw e refl) among is (few link.0) (few l.0) changed
          ∙ ap (λ k. if (link.0 == l.0) && (x.source == s) then x.address else k)
          (under-kept link (wide.A x) t old l s (few link.0) asks);
      none = λ l k le k_lt.
          let more = longer link (wide.A x) t l in
          let before = asks.none l k (omega (arith, le, more)) k_lt in
          changed (key_of l k) ∙ past l k (key_of l k == key_of link n) refl le k_lt (omega (arith, is, lt))
          (few link.0) before;
    }
  where
    past : (l : Link) (k : ℕ) (b : Bool) → (key_of l k == key_of link n) ≡ b
        → length (sources l.0 ((link, wide.A x) ∷ t)) ≤ k → k < 256
        → n < length (sources link.0 ((link, wide.A x) ∷ t)) → length (sources link.0 ((link, wide.A x) ∷ t)) ≤ 256
        → slice_index_or old (key_of l k) 0 ≡ 0 → (if b then x.address else slice_index_or old (key_of l k) 0) ≡ 0
    past l k true e le k_lt n_lt few_own before =
        let keys : key_of l k ≡ key_of link n = eqb-true (key_of l k) (key_of link n) e in
        let links : l.0 ≡ link.0 = omega (arith, keys, k_lt, n_lt, few_own) in
        let le_own : length (sources link.0 ((link, wide.A x) ∷ t)) ≤ k = rw links at le in
        absurd (omega (arith, keys, links, le_own, n_lt))
    past l k false e le k_lt n_lt few_own before = before

-- ---- before the first beat

pub nothing-asked : (w : ℕ) (addresses : List ℕ) → addresses ≡ [] → Asks {w = w} addresses []
unfolding named asked_address
nothing-asked w addresses none = record {
  kept = λ l s. rw none (go l (place_among (0 ∷ []) s));
  none = λ l n le lt. rw none refl;
}
  where
    go : (l : Link) (o : Option ℕ) → asked_under [] l o ≡ 0
    go l None = refl
    go l (Some n) = refl
