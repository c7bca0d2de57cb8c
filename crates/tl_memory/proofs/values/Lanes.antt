-- The lanes of a response's beat, and what the response may bring there.
use Rattle.tl_memory.proofs.Imports.{BeatD, IsWidth, reaches, base_of, Trace, block_at, base_in_memory, Access}
use Rattle.tl_memory.proofs.Imports.{KnowsGrant, may_bring, Expected, Expects, is_to, Beat}
use Rattle.std.proofs.Common.{◌≡◌, ℕ, zero, suc, Bool, true, false, not, ◌+◌, ◌*◌, ◌/◌, ◌%◌, ◌^◌, ◌<◌, ◌≤◌, List}
use Rattle.std.proofs.Common.{[], ◌∷◌, length, None, Some, refl, sym, ap, ap₂, ◌∙◌, arith, get_or, drop}
use Rattle.std.{specs.Prelude.◌&&◌, specs.Prelude.nat_le, specs.Prelude.nat_lt, proofs.lemmas.List.at_drop_more}
use Rattle.std.{proofs.Math.Nat.div-mul-le_self, proofs.Math.Nat.pow-le-pow_right}
use Rattle.std.proofs.lemmas.Bool.{eqb-true, le-leb, lt-ltb, or_right}
use Rattle.tl_rules.specs.statement.Admission.{lanes_of}
use Rattle.tl_bytes.specs.statement.Bytes.{each_from, may_grant}
use Rattle.tl_memory.{specs.code.Expected.allows, specs.statement.Expecting.may_answer}

-- ---- one lane after another

pub all-passed : (test : ℕ → ℕ → Bool) (from i : ℕ) (lanes : List ℕ) → length lanes ≤ i
    → each_from test (from + i) (drop i lanes) ≡ true
unfolding each_from
all-passed test from i lanes le = rw (none-left i lanes le) refl
  where
    none-left : (i : ℕ) (lanes : List ℕ) → length lanes ≤ i → drop i lanes ≡ []
    none-left zero [] le = refl
    none-left zero (v ∷ lanes) le = absurd (omega arith)
    none-left (suc i) [] le = refl
    none-left (suc i) (v ∷ lanes) le = none-left i lanes (omega (arith, le))

one_more : (test : ℕ → ℕ → Bool) (from i : ℕ) (lanes : List ℕ) → i < length lanes
    → each_from test (from + i) (drop i lanes)
    ≡ (test (from + i) (get_or lanes i 0) && each_from test (from + (i + 1)) (drop (i + 1) lanes))
unfolding each_from
one_more test from i lanes lt =
    let next : from + i + 1 ≡ from + (i + 1) = omega arith in
    at_drop_more (λ l. each_from test (from + i) l) lanes i 0 lt
    ∙ ap (λ n. test (from + i) (get_or lanes i 0) && each_from test n (drop (i + 1) lanes)) next

pub one-passed : (test : ℕ → ℕ → Bool) (from i : ℕ) (lanes : List ℕ) → i < length lanes
    → test (from + i) (get_or lanes i 0) ≡ true
    → each_from test (from + i) (drop i lanes) ≡ each_from test (from + (i + 1)) (drop (i + 1) lanes)
one-passed test from i lanes lt e = one_more test from i lanes lt ∙ rw e refl

pub one-failed : (test : ℕ → ℕ → Bool) (from i : ℕ) (lanes : List ℕ) → i < length lanes
    → test (from + i) (get_or lanes i 0) ≡ false → each_from test (from + i) (drop i lanes) ≡ false
one-failed test from i lanes lt e = one_more test from i lanes lt ∙ rw e refl

-- all pass a test that each byte passes
pub each-passed : (test : ℕ → ℕ → Bool) (from : ℕ) (lanes : List ℕ) → ((address v : ℕ) → test address v ≡ true)
    → each_from test from lanes ≡ true
unfolding each_from
each-passed test from [] all = refl
each-passed test from (v ∷ lanes) all = rw (all from v) (each-passed test (from + 1) lanes all)

-- any byte is allowed where each place may bring any
pub open-allows : (e : Expected) → ((place v : ℕ) → may_bring e.bytes place v ≡ true) → (address v : ℕ)
    → allows e address v ≡ true
open-allows e all address v =
    or_right (not (reaches e.address e.size address)) (may_bring e.bytes (address % 64) v) (all (address % 64) v)

-- a byte that is judged by its place
pub at-lane : (e : Expected) (block first lane place v : ℕ) (b : Bool) → place ≡ first + lane
    → b ≡ allows e (64 * block + place) v → allows e (64 * block + first + lane) v ≡ b
at-lane e block first lane place v b same is =
    let here : 64 * block + first + lane ≡ 64 * block + place = omega (arith, same) in
    ap (λ i. allows e i v) here ∙ sym is

-- the bytes of a beat that has none, or these
pub no-lanes : {w : ℕ} (test : ℕ → ℕ → Bool) (from : ℕ) (x : BeatD w) → x.lanes ≡ None
    → true ≡ each_from test from (lanes_of (Beat.D x))
unfolding each_from
no-lanes test from x none = rw none refl

pub some-lanes : (w : ℕ) (test : ℕ → ℕ → Bool) (address k first : ℕ) (lanes : List ℕ) (x : BeatD w) (b : Bool)
    → IsWidth w → x.lanes ≡ Some lanes → first ≡ base_of w address + w * k
    → b ≡ each_from test (64 * block_at address + first) lanes
    → b ≡ each_from test (w * (address / w) + w * k) (lanes_of (Beat.D x))
some-lanes w test address k first lanes x b is some at e =
    let start = base_in_memory w address is in
    let from : w * (address / w) + w * k ≡ 64 * (address / 64) + first = omega (arith, start, at) in
    rw (some, from) e

-- a request of more than a block reaches each byte of its block from its address on
pub reach-far : (address size place : ℕ) → place < 64 → address % 64 ≤ place → 6 < size
    → nat_lt 6 size ≡ reaches address size (64 * (address / 64) + place)
reach-far address size place lt from far =
    let bytes : 2 ^ 6 ≤ 2 ^ size = pow-le-pow_right {n = 2} (omega arith) {i = 6} {j = size} (omega (arith, far)) in
    rw (
      lt-ltb 6 size far,
      le-leb address (64 * (address / 64) + place) (omega (arith, from)),
      lt-ltb (64 * (address / 64) + place) (address + 2 ^ size) (omega (arith, lt, bytes)),
    ) refl

-- tests that agree on each lane
each-same : (one other : ℕ → ℕ → Bool) (from : ℕ) (lanes : List ℕ)
    → ((j v : ℕ) → j < length lanes → one (from + j) v ≡ other (from + j) v)
    → each_from one from lanes ≡ each_from other from lanes
unfolding each_from
each-same one other from [] same = refl
each-same one other from (v ∷ lanes) same =
    let here : from + 0 ≡ from = omega arith in
    ap₂ (λ b c. b && c) (ap (λ i. one i v) (sym here) ∙ same 0 v (omega arith) ∙ ap (λ i. other i v) here)
    (each-same one other (from + 1) lanes (λ j u lt.
    let next : from + 1 + j ≡ from + suc j = omega arith in
    ap (λ i. one i u) next ∙ same (suc j) u (omega (arith, lt)) ∙ ap (λ i. other i u) (sym next)))

-- ---- what a response may bring there

-- a block begins with its first place
pub base-of_block : (w address block : ℕ) → address ≡ 64 * block → base_of w address ≡ 0
base-of_block w address block at = ap (λ m. m / w * w) first ∙ zero_over w
  where
    first : address % 64 ≡ 0
    first = omega (arith, at)

    zero_over : (w : ℕ) → 0 / w * w ≡ 0
    zero_over w = let le = div-mul-le_self 0 w in omega (arith, le)

-- a GrantData may bring what may be granted
pub granted-byte : {w : ℕ} (e : Expected) (n block p v : ℕ) (t : Trace w) → e.address ≡ 64 * block → e.size ≡ 6
    → KnowsGrant e.bytes n block t → p < 64 → allows e (64 * block + p) v ≡ may_grant n t (64 * block + p) v
granted-byte e n block p v t at sized known lt =
    let inside : (64 * block + p) % 64 ≡ p = omega arith in
    let from : nat_le (64 * block) (64 * block + p) ≡ true = le-leb (64 * block) (64 * block + p) (omega arith) in
    let to : nat_lt (64 * block + p) (64 * block + 2 ^ 6) ≡ true =
    lt-ltb (64 * block + p) (64 * block + 2 ^ 6) (omega (arith, lt)) in
    rw (at, sized, inside, from, to) (known p v lt)

pub granted-all : (w : ℕ) (e : Expected) (n block k : ℕ) (t : Trace w) (lanes : List ℕ) → IsWidth w
    → e.address ≡ 64 * block → e.size ≡ 6 → KnowsGrant e.bytes n block t → w * k + w ≤ 64 → length lanes ≤ w
    → each_from (allows e) (w * (e.address / w) + w * k) lanes ≡ each_from (may_grant n t) (64 * block + w * k) lanes
granted-all w e n block k t lanes is at sized known room few =
    ap (λ i. each_from (allows e) (i + w * k) lanes) start
    ∙ each-same (allows e) (may_grant n t) (64 * block + w * k) lanes (λ j v lt.
    let place : w * k + j < 64 = omega (arith, lt, few, room) in
    let here : 64 * block + w * k + j ≡ 64 * block + (w * k + j) = omega arith in
    rw here (granted-byte e n block (w * k + j) v t at sized known place))
  where
    start : w * (e.address / w) ≡ 64 * block
    start =
        let base = base-of_block w e.address block at in
        let whole = base_in_memory w e.address is in
        omega (arith, whole, base, at)

-- an AccessAckData what its request may bring, and anything where that doesn't reach
pub read-byte : {w : ℕ} (e : Expected) (n block p v : ℕ) (access : Access w) (t : Trace w)
    → Expects (Some e) n block (Some access) t → p < 64
    → allows e (64 * block + p) v ≡ may_answer n access t (64 * block + p) v
read-byte e n block p v access t known lt =
    let inside : (64 * block + p) % 64 ≡ p = omega arith in
    rw (known.0, known.1, inside, known.2 p v lt) refl

pub read-all : {w : ℕ} (e : Expected) (n block k : ℕ) (access : Access w) (t : Trace w) (lanes : List ℕ) → IsWidth w
    → Expects (Some e) n block (Some access) t → is_to block access ≡ true
    → base_of w access.request.address + w * k + w ≤ 64 → length lanes ≤ w
    → each_from (allows e) (w * (e.address / w) + w * k) lanes
    ≡ each_from (may_answer n access t) (w * (access.request.address / w) + w * k) lanes
read-all {w} e n block k access t lanes is known to room few =
    ap (λ a. each_from (allows e) (w * (a / w) + w * k) lanes) known.0
    ∙ each-same (allows e) (may_answer n access t) (w * (access.request.address / w) + w * k) lanes (λ j v lt.
    let base = base_of w access.request.address in
    let place : base + w * k + j < 64 = omega (arith, lt, few, room) in
    let here : w * (access.request.address / w) + w * k + j ≡ 64 * block + (base + w * k + j) = omega (arith, start) in
    rw here (read-byte e n block (base + w * k + j) v access t known place))
  where
    start : w * (access.request.address / w) ≡ 64 * block + base_of w access.request.address
    start = base_in_memory w access.request.address is ∙ ap (λ b. 64 * b + base_of w access.request.address)
        (eqb-true (block_at access.request.address) block to)
