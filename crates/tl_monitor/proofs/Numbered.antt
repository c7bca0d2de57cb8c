-- How many keys are pending and blocks held: as many as are kept, and more with a beat that opens one.
use Rattle.std.proofs.Common.{◌≡◌, ◌≢◌, ℕ, ◌<◌, ◌≤◌, ◌+◌, ◌^◌, Bool, true, false, refl, sym, ap, ap₂, ◌∙◌, arith, ◌⊎◌}
use Rattle.std.proofs.Common.{inl, inr}
use Rattle.std.specs.Prelude.{if◌then◌else◌, ◌∷◌, length, List, Some, None, is_some}
use Rattle.std.specs.List.{sum}
use Rattle.std.proofs.lemmas.Bool.{cases_Bool, eq-eqb, ne_eqb, le-ltb, lt-ltb}
use Rattle.tl_beat.specs.statement.Width.{IsWidth}
use Rattle.tl_beat.specs.declared.beat.Beat.{Beat}
use Rattle.tl_burst.specs.statement.Messages.{History}
use Rattle.tl_params.specs.declared.key.Key.TheVariants.{RequestSource, ReleaseSource, AcquireOf, ReleaseOf, GrantSink}
use Rattle.tl_params.specs.declared.key.Key.TheVariants.{GrantAckOf, ProbeOf}
use Rattle.tl_params.specs.declared.level.Level.{Level}
use Rattle.tl_params.specs.declared.liberties.Liberties.{Liberties}
use Rattle.tl_rules.specs.declared.table.Block.{Block}
use Rattle.tl_rules.specs.statement.History.{begins, ends, pending}
use Rattle.tl_beat.specs.declared.beat.Link.{Link}
use Rattle.tl_rules.specs.statement.Conformance.{Trace, on_link}
use Rattle.tl_rules.specs.statement.Liberties.{broken_after_under, held_under}
use Rattle.tl_rules.specs.code.Tables.{kept_block, block_next, bears_on, empty_block}
use Rattle.tl_rules.proofs.Tables.{block-next, pending-probe, pending-grant}
use Rattle.tl_monitor.specs.statement.Count.{sum_below, count_below, one_if, at}
use Rattle.tl_monitor.specs.code.Blocks.{open_of}
use Rattle.tl_monitor.specs.statement.Numbers.{is_held, AnyMore, entry_count_under, numbers_under}
use Rattle.tl_monitor.specs.code.KnownBlocks.{known_in}
use Rattle.tl_monitor.specs.code.LinkState.{came_in, is_first, touched, is_block, entries_in, OpensBlock}
use Rattle.tl_monitor.specs.code.LinkState as link_state
use Rattle.tl_monitor.specs.code.Keeps.{Keeps}
use Rattle.tl_monitor.specs.declared.link_state.LinkState.{LinkState}
use Rattle.tl_monitor.proofs.Counts.{sum-same, sum-changed, sum-both}
use Rattle.tl_monitor.proofs.Keeping.{begins-is, ends-is, same_touched}
use Rattle.tl_monitor.proofs.Keepings.{came-is}
use Rattle.tl_monitor.proofs.LooksUp.{request-pending, release-pending}

-- ---- as many as are kept

same_count : (n : ℕ) (f g : ℕ → Bool) → ((i : ℕ) → f i ≡ g i) → count_below n f ≡ count_below n g
same_count n f g same = sum-same n (λ i. one_if (f i)) (λ i. one_if (g i)) (λ i lt. ap one_if (same i))

-- of five counts the sum is the count of the five
five : (n : ℕ) (h a r p g : ℕ → ℕ) → sum_below n (λ i. h i + a i + r i + p i + g i) ≡ sum_below n h + sum_below n
    a + sum_below n r + sum_below n p + sum_below n g
five n h a r p g =
    let one = sum-both n (λ i. h i + a i + r i + p i) g in
    let two = sum-both n (λ i. h i + a i + r i) p in
    let three = sum-both n (λ i. h i + a i) r in
    let four = sum-both n h a in
    omega (arith, one, two, three, four)

opened : {w : ℕ} {lib : Liberties} (k : LinkState) (t : History w) → Keeps lib k t → sum_below (2 ^ 32) (λ b. open_of (known_in k.blocks b))
    ≡ count_below (2 ^ 32) (λ b. is_held (held_under lib b t)) + count_below (2 ^ 32) (λ b. pending (AcquireOf b) t) + count_below
    (2 ^ 32) (λ b. pending (ReleaseOf b) t)
    + count_below (2 ^ 32) (λ b. pending (ProbeOf b) t) + count_below (2 ^ 32) (λ b. pending (GrantAckOf b) t)
unfolding open_of
opened {lib = lib} k t keeps =
    sum-same (2 ^ 32) (λ b. open_of (known_in k.blocks b))
    (λ b. one_if (is_held (held_under lib b t)) + one_if (pending (AcquireOf b) t) + one_if (pending (ReleaseOf b) t) + one_if
    (pending (ProbeOf b) t) + one_if (pending (GrantAckOf b) t))
    (λ b lt. ap open_of (keeps.blocks_are b)
    ∙ ap₂ (λ p g. one_if (is_held (held_under lib b t)) + one_if (pending (AcquireOf b) t) + one_if (pending (ReleaseOf b) t)
    + one_if p + one_if g) (sym (pending-probe b t)) (sym (pending-grant b t)))
    ∙ five (2 ^ 32) (λ b. one_if (is_held (held_under lib b t))) (λ b. one_if (pending (AcquireOf b) t))
    (λ b. one_if (pending (ReleaseOf b) t))
    (λ b. one_if (pending (ProbeOf b) t)) (λ b. one_if (pending (GrantAckOf b) t))

pub entries-are : {w : ℕ} {lib : Liberties} (k : LinkState) (t : History w) → Keeps lib k t → entries_in k ≡ sum (numbers_under lib t)
entries-are k t keeps =
    let requests = same_count 256 (λ s. is_some (at k.requests s)) (λ s. pending (RequestSource s) t)
    (λ s. request-pending k t s keeps) in
    let releases = same_count 256 (λ s. is_some (at k.releases s)) (λ s. pending (ReleaseSource s) t)
    (λ s. release-pending k t s keeps) in
    let sinks = same_count 256 (λ s. is_some (at k.sinks s)) (λ s. pending (GrantSink s) t) keeps.sinks_are in
    let blocks = opened k t keeps in
    omega (arith, requests, releases, sinks, blocks)

-- ---- more of one kind

one_more : (n b : ℕ) (f g : ℕ → Bool) → b < n → ((k : ℕ) → k ≢ b → f k ≡ g k) → f b ≡ false → g b ≡ true
    → count_below n f < count_below n g
one_more n b f g lt same was is =
    let e = sum-changed n b (λ k. one_if (f k)) (λ k. one_if (g k)) lt (λ k other. ap one_if (same k other)) in
    let x : one_if (f b) ≡ 0 = rw was refl in
    let y : one_if (g b) ≡ 1 = rw is refl in
    omega (arith, e, x, y)

-- what a beat leaves of each block but the one that it touches
others_stay : {w : ℕ} (lib : Liberties) (l : Level) (k : LinkState) (x : Beat w) (t : History w) (b n : ℕ) → IsWidth w
    → Keeps lib k t → broken_after_under lib l x t ≡ None
    → touched (is_first x k) (link_state.completes x k) x k ≡ Some b
    → kept_block lib n (x ∷ t) ≡ (if is_block n (Some b) then block_next lib (is_first x k) (link_state.completes x k) (came_in lib x k) x
    (kept_block lib n t) else kept_block lib n t)
others_stay lib l k x t b n width keeps legal is =
    block-next lib n x t ∙ ap (λ o. if bears_on n x t then block_next lib (begins x t) (ends x t) o x
    (kept_block lib n t) else kept_block lib n t) (came-is lib k x t keeps)
    ∙ ap₂ (λ f g. if bears_on n x t then block_next lib f g (came_in lib x k) x (kept_block lib n t) else kept_block lib
    n t) (begins-is k x t keeps) (ends-is lib l k x t width keeps legal)
    ∙ same_touched lib l k x t n (is_first x k) (link_state.completes x k) (came_in lib x k) keeps legal
    ∙ ap (λ o. if is_block n o then block_next lib (is_first x k) (link_state.completes x k) (came_in lib x k) x (kept_block lib n t) else
    kept_block lib n t) is

-- a block of which something is open or held
some_open : (c : Block) → 0 < open_of c → (is_held c.held ≡ true) ⊎ (c.acquire ≡ true) ⊎ (c.release ≡ true)
    ⊎ (is_some c.probe ≡ true) ⊎ (is_some c.grant ≡ true)
unfolding open_of
some_open c pos = elim (cases_Bool (is_held c.held)) [
  | inl h ↦ inl h
  | inr nh ↦ elim (cases_Bool c.acquire) [
    | inl a ↦ inr (inl a)
    | inr na ↦ elim (cases_Bool c.release) [
      | inl r ↦ inr (inr (inl r))
      | inr nr ↦ elim (cases_Bool (is_some c.probe)) [
        | inl q ↦ inr (inr (inr (inl q)))
        | inr nq ↦ elim (cases_Bool (is_some c.grant)) [
          | inl g ↦ inr (inr (inr (inr g)))
          | inr ng ↦ let none : 0 < 0 = rw (nh, na, nr, nq, ng) at pos in absurd (omega arith)
        ]
      ]
    ]
  ]
]

pub some-more : {w : ℕ} (lib : Liberties) (l : Level) (k : LinkState) (x : Beat w) (t : History w) (b : ℕ) → IsWidth w
    → Keeps lib k t → broken_after_under lib l x t ≡ None → OpensBlock lib k x b
    → AnyMore (numbers_under lib t) (numbers_under lib (x ∷ t))
some-more {w} lib l k x t b width keeps legal new =
    let step : (n : ℕ) → kept_block lib n (x ∷ t) ≡ (if is_block n (Some b) then block_next lib (is_first x k)
    (link_state.completes x k) (came_in lib x k) x
    (kept_block lib n t) else kept_block lib n t) = λ n. others_stay lib l k x t b n width keeps legal new.is_touched in
    let before : kept_block lib b t ≡ empty_block = sym (keeps.blocks_are b) ∙ new.was_empty in
    let after : kept_block lib b (x ∷ t) ≡ block_next lib (is_first x k) (link_state.completes x k) (came_in lib x k) x (known_in k.blocks b) =
    step b ∙ rw (eq-eqb b b refl) refl ∙ ap (block_next lib (is_first x k) (link_state.completes x k) (came_in lib x k) x)
    (sym (keeps.blocks_are b)) in
    let apart : (n : ℕ) → n ≢ b → kept_block lib n t ≡ kept_block lib n (x ∷ t) =
    λ n other. sym (step n ∙ rw (ne_eqb n b other) refl) in
    let pos : 0 < open_of (kept_block lib b (x ∷ t)) = rw after new.then_open in
    let more : (f : Block → Bool) → f empty_block ≡ false → f (kept_block lib b (x ∷ t)) ≡ true
    → count_below (2 ^ 32) (λ n. f (kept_block lib n t)) < count_below (2 ^ 32) (λ n. f (kept_block lib n (x ∷ t))) =
    λ f none is. one_more (2 ^ 32) b (λ n. f (kept_block lib n t)) (λ n. f (kept_block lib n (x ∷ t))) new.is_number
    (λ n other. ap f (apart n other)) (ap f before ∙ none) is in
    elim (some_open (kept_block lib b (x ∷ t)) pos) [
      | inl h ↦ inr (inr (inr (inr (inr (inr (inr (inl (more (λ c. is_held c.held) refl h))))))))
      | inr (inl a) ↦ inr (inr (inr (inl (more (λ c. c.acquire) refl a))))
      | inr (inr (inl r)) ↦ inr (inr (inr (inr (inl (more (λ c. c.release) refl r)))))
      | inr (inr (inr (inl q))) ↦ inr (inr (inr (inr (inr (inl (by_probe (more (λ c. is_some c.probe) refl q)))))))
      | inr (inr (inr (inr g))) ↦ inr
          (inr (inr (inr (inr (inr (inl (by_grant (more (λ c. is_some c.grant) refl g))))))))
    ]
  where
    by_probe : count_below (2 ^ 32) (λ n. is_some (kept_block lib n t).probe) < count_below (2 ^ 32)
        (λ n. is_some (kept_block lib n (x ∷ t)).probe)
        → count_below (2 ^ 32) (λ n. pending (ProbeOf n) t) < count_below (2 ^ 32) (λ n. pending (ProbeOf n) (x ∷ t))
    by_probe lt =
        let e = same_count (2 ^ 32) (λ n. pending (ProbeOf n) t) (λ n. is_some (kept_block lib n t).probe)
        (λ n. pending-probe n t) in
        let f = same_count (2 ^ 32) (λ n. pending (ProbeOf n) (x ∷ t)) (λ n. is_some (kept_block lib n (x ∷ t)).probe)
        (λ n. pending-probe n (x ∷ t)) in
        omega (arith, e, f, lt)

    by_grant : count_below (2 ^ 32) (λ n. is_some (kept_block lib n t).grant) < count_below (2 ^ 32)
        (λ n. is_some (kept_block lib n (x ∷ t)).grant)
        → count_below (2 ^ 32) (λ n. pending (GrantAckOf n) t) < count_below (2 ^ 32)
        (λ n. pending (GrantAckOf n) (x ∷ t))
    by_grant lt =
        let e = same_count (2 ^ 32) (λ n. pending (GrantAckOf n) t) (λ n. is_some (kept_block lib n t).grant)
        (λ n. pending-grant n t) in
        let f = same_count (2 ^ 32) (λ n. pending (GrantAckOf n) (x ∷ t)) (λ n. is_some (kept_block lib n (x ∷ t)).grant)
        (λ n. pending-grant n (x ∷ t)) in
        omega (arith, e, f, lt)

-- of a link without a level there are none
pub no-entries : {w : ℕ} (lib : Liberties) (levels : List Level) (link : Link) (t : Trace w) (n count : ℕ) → n ≡ link.0
    → count ≡ length levels → count ≤ n → 0 ≡ entry_count_under lib levels link t
no-entries lib levels link t n count own counted none = rw (le-ltb link.0 (length levels) (omega arith)) refl

pub link-entries : {w : ℕ} (lib : Liberties) (levels : List Level) (link : Link) (t : Trace w) (k : LinkState) (n count : ℕ) → n ≡ link.0
    → count ≡ length levels → n < count → Keeps lib k (on_link n t)
    → entries_in k ≡ entry_count_under lib levels link t
link-entries {w} lib levels link t k n count own counted lt keeps =
    let below : link.0 < length levels = omega arith in
    entries-are k (on_link n t) keeps ∙ rw (lt-ltb link.0 (length levels) below)
    (ap (λ i. sum (numbers_under lib (on_link i t))) own)
