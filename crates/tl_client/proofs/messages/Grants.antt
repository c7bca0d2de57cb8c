-- What is known of a Grant that breaks no rule.
use Rattle.tl_client.proofs.Imports.{Beat, BeatA, BeatD, OpA, OpD, d_carries_data, History, unfinished, same_control}
use Rattle.tl_client.proofs.Imports.{breaks_burst, completes, RequestSource, Perm, Profile, S1, H2, H3, answers, admits}
use Rattle.tl_client.proofs.Imports.{same_perm, broken_order, broken_in_order, block_at, is_acquire, is_grant, capped}
use Rattle.tl_client.proofs.Imports.{pending, request_of, held, next_rule, IsGranting, holds, is_acquire_beat}
use Rattle.tl_client.proofs.Imports.{open_beat, not_release_ack}
use Rattle.std.proofs.Common.{◌≡◌, ℕ, zero, suc, ◌≤◌, Bool, true, false, not, cond, ◌&&◌, ◌||◌, List, [], ◌∷◌, Option}
use Rattle.std.proofs.Common.{Some, None, refl, sym, ◌∙◌, arith, inl, inr}
use Rattle.std.specs.Prelude.{◌==◌, ⊤}
use Rattle.std.proofs.lemmas.Bool.{and_parts, or_parts, not-false, eqb-true, cases_Bool, both_ways, or_cases}
use Rattle.tl_beat.specs.declared.beat.Beat.TheVariants as beat
use Rattle.tl_beat.specs.declared.channel.Channel.TheVariants as channel
use Rattle.tl_beat.specs.declared.opcode.OpA.TheVariants as a
use Rattle.tl_beat.specs.declared.opcode.OpD.TheVariants as d
use Rattle.tl_beat.specs.statement.Opcode.{d_code}
use Rattle.tl_params.specs.declared.perm.Perm.TheVariants as perm
use Rattle.tl_params.specs.declared.profile.Profile.TheVariants as profile
use Rattle.tl_params.specs.declared.rule.Rule.TheVariants.{H6}
use Rattle.tl_rules.specs.statement.Conformance.{fits_grow, has_request, misgrants, is_acquire_block}
use Rattle.tl_rules.specs.statement.Conformance.{is_grant_without_data, size_asked}

-- a client that gets no data has a copy already
abbrev pub HasCopy : {w : ℕ} → Option (BeatA w) → History w → Type 0
HasCopy None t = ⊤
HasCopy (Some r) t = is_acquire_block r.opcode ≡ true → holds (held (block_at r.address) t) ≡ true

pub record IsGoodGrant {w : ℕ} (x : BeatD w) (t : History w) : Type 0 where
  pub answers_acquire : is_acquire_beat (open_beat x.source t) ≡ true
  pub gives : holds (capped x.param) ≡ true
  pub has_copy : is_grant_without_data x.opcode ≡ true → HasCopy (request_of x.source t) t

-- ---- the first beat

grant_answers : (answer : OpD) (request : OpA) → is_grant answer ≡ true → answers answer request ≡ true
    → is_acquire request ≡ true
grant_answers answer a.AcquireBlock g e = refl
grant_answers answer a.AcquirePerm g e = refl
grant_answers d.Grant a.PutFullData g e = absurd cc
grant_answers d.Grant a.PutPartialData g e = absurd cc
grant_answers d.Grant a.ArithmeticData g e = absurd cc
grant_answers d.Grant a.LogicalData g e = absurd cc
grant_answers d.Grant a.Get g e = absurd cc
grant_answers d.Grant a.Intent g e = absurd cc
grant_answers d.GrantData a.PutFullData g e = absurd cc
grant_answers d.GrantData a.PutPartialData g e = absurd cc
grant_answers d.GrantData a.ArithmeticData g e = absurd cc
grant_answers d.GrantData a.LogicalData g e = absurd cc
grant_answers d.GrantData a.Get g e = absurd cc
grant_answers d.GrantData a.Intent g e = absurd cc
grant_answers d.AccessAck request g e = absurd (let no : false ≡ true = g in cc)
grant_answers d.AccessAckData request g e = absurd (let no : false ≡ true = g in cc)
grant_answers d.HintAck request g e = absurd (let no : false ≡ true = g in cc)
grant_answers d.ReleaseAck request g e = absurd (let no : false ≡ true = g in cc)

gives_at : (cap : ℕ) → cap ≤ 1 → holds (capped cap) ≡ true
gives_at zero le = refl
gives_at (suc zero) le = refl
gives_at (suc (suc n)) le = absurd (omega arith)

one_or_none : (grow cap : ℕ) → cond (grow == 0) (cap == 1) (cap == 0) ≡ true → cap ≤ 1
one_or_none grow cap e = go (grow == 0) e
  where
    go : (b : Bool) → cond b (cap == 1) (cap == 0) ≡ true → cap ≤ 1
    go true f = let one = eqb-true cap 1 f in omega (arith, one)
    go false f = let none = eqb-true cap 0 f in omega (arith, none)

at_most_one : (grow cap : ℕ) → cond (grow == 0) ((cap == 0) || (cap == 1)) (cap == 0) ≡ true → cap ≤ 1
at_most_one grow cap e = go (grow == 0) e
  where
    go : (b : Bool) → cond b ((cap == 0) || (cap == 1)) (cap == 0) ≡ true → cap ≤ 1
    go true f = elim (or_cases (cap == 0) (cap == 1) f) [
      | inl none ↦ let h = eqb-true cap 0 none in omega (arith, h)
      | inr one ↦ let h = eqb-true cap 1 one in omega (arith, h)
    ]
    go false f = let none = eqb-true cap 0 f in omega (arith, none)

fits : (p : Profile) (opcode : OpA) (grow cap : ℕ) → fits_grow p opcode grow cap ≡ true → cap ≤ 1
fits profile.One opcode grow cap e = one_or_none grow cap e
fits profile.Two a.AcquireBlock grow cap e = at_most_one grow cap e
fits profile.Two a.AcquirePerm grow cap e = one_or_none grow cap e
fits profile.Two a.PutFullData grow cap e = one_or_none grow cap e
fits profile.Two a.PutPartialData grow cap e = one_or_none grow cap e
fits profile.Two a.ArithmeticData grow cap e = one_or_none grow cap e
fits profile.Two a.LogicalData grow cap e = one_or_none grow cap e
fits profile.Two a.Get grow cap e = one_or_none grow cap e
fits profile.Two a.Intent grow cap e = one_or_none grow cap e

branch_holds : (p : Perm) → same_perm p perm.Branch ≡ true → holds p ≡ true
branch_holds perm.None e = absurd cc
branch_holds perm.Branch e = refl
branch_holds perm.Trunk e = refl

good_first : {w : ℕ} (p : Profile) (x : BeatD w) (t : History w) (o : Option (BeatA w)) → is_grant x.opcode ≡ true
    → request_of x.source t ≡ o → pending (RequestSource x.source) t ≡ true
    → admits x.opcode o ≡ true → misgrants p x o t ≡ false → IsGoodGrant x t
good_first p x t None g is live admitted fine = absurd cc
good_first p x t (Some r) g is live admitted fine =
    let parts = or_parts (not (fits_grow p r.opcode r.param x.param)) _ fine in
    let others = or_parts (is_grant_without_data
    x.opcode && (is_acquire_block r.opcode && not (same_perm (held (block_at r.address) t) perm.Branch))) _ parts.1
    in
    record {
      answers_acquire = rw (live, is) (grant_answers x.opcode r.opcode g admitted);
      gives = gives_at x.param
          (fits p r.opcode r.param x.param (not-false (fits_grow p r.opcode r.param x.param) parts.0));
      has_copy = λ bare. rw is (λ block. branch_holds (held (block_at r.address) t)
          (not-false (same_perm (held (block_at r.address) t) perm.Branch) (rw (bare, block) at others.0)));
    }

first_grant : {w : ℕ} (p : Profile) (x : BeatD w) (t : History w) → is_grant x.opcode ≡ true
    → broken_order p (beat.D x) t ≡ None → IsGoodGrant x t
unfolding broken_order
first_grant p x t g none =
    let two = next_rule (not (has_request x t)) H2 _ none in
    let three = next_rule (not (x.size == size_asked x t)) H3 _ two.1 in
    let six = next_rule (is_grant x.opcode && misgrants p x (request_of x.source t) t) H6 _ three.1 in
    let asked = and_parts (pending (RequestSource x.source) t) _
    (rw (not_release_ack x.opcode g) at (not-false (has_request x t) two.0)) in
    let admitted = and_parts _ (admits x.opcode (request_of x.source t)) asked.1 in
    good_first p x t (request_of x.source t) g refl asked.0 admitted.1 (rw g at six.0)

-- ---- a later beat

is_grant-code : (opcode : OpD) → is_grant opcode ≡ ((d_code opcode == 4) || (d_code opcode == 5))
is_grant-code d.AccessAck = refl
is_grant-code d.AccessAckData = refl
is_grant-code d.HintAck = refl
is_grant-code d.Grant = refl
is_grant-code d.GrantData = refl
is_grant-code d.ReleaseAck = refl

bare-code : (opcode : OpD) → is_grant_without_data opcode ≡ (d_code opcode == 4)
bare-code d.AccessAck = refl
bare-code d.AccessAckData = refl
bare-code d.HintAck = refl
bare-code d.Grant = refl
bare-code d.GrantData = refl
bare-code d.ReleaseAck = refl

later_grant : {w : ℕ} (x : BeatD w) (burst : List (Beat w)) (y : Beat w) (t : History w) → is_grant x.opcode ≡ true
    → same_control (beat.D x) y ≡ true → IsGranting (y ∷ burst) t
    → IsGoodGrant x t × (is_grant_without_data x.opcode ≡ false)
later_grant x burst (beat.A y) t g same granting = absurd cc
later_grant x burst (beat.B y) t g same granting = absurd cc
later_grant x burst (beat.C y) t g same granting = absurd cc
later_grant x burst (beat.E y) t g same granting = absurd cc
later_grant x burst (beat.D y) t g same granting =
    let one = and_parts (d_code x.opcode == d_code y.opcode) _ same in
    let two = and_parts (x.param == y.param) _ one.1 in
    let three = and_parts (x.size == y.size) _ two.1 in
    let four = and_parts (x.source == y.source) _ three.1 in
    let code : d_code x.opcode ≡ d_code y.opcode = eqb-true (d_code x.opcode) (d_code y.opcode) one.0 in
    let param : x.param ≡ y.param = eqb-true x.param y.param two.0 in
    let source : x.source ≡ y.source = eqb-true x.source y.source four.0 in
    let grants : is_grant y.opcode ≡ true = is_grant-code y.opcode ∙ rw (← code) (sym (is_grant-code x.opcode) ∙ g) in
    let known = granting grants in
    let bare : is_grant_without_data x.opcode ≡ false =
    bare-code x.opcode ∙ rw code (sym (bare-code y.opcode) ∙ known.0) in (
      record {
        answers_acquire = rw source known.2;
        gives = rw param known.1;
        has_copy =
            λ h. absurd (both_ways (is_grant_without_data x.opcode) bare h);
      },
      bare,
    )

-- ---- any beat

bare_single : (opcode : OpD) → is_grant_without_data opcode ≡ true → d_carries_data opcode ≡ false
bare_single d.Grant e = refl
bare_single d.AccessAck e = refl
bare_single d.HintAck e = refl
bare_single d.ReleaseAck e = refl
bare_single d.AccessAckData e = absurd (let no : false ≡ true = e in cc)
bare_single d.GrantData e = absurd (let no : false ≡ true = e in cc)

first_bare : {w : ℕ} (x : BeatD w) → completes (beat.D x) [] ≡ false → is_grant_without_data x.opcode ≡ false
first_bare x more = elim (cases_Bool (is_grant_without_data x.opcode)) [
  | inl bare ↦ absurd (let no : true ≡ false = rw (bare_single x.opcode bare) at more in cc)
  | inr other ↦ other
]

pub good_grant : {w : ℕ} (p : Profile) (x : BeatD w) (t : History w) (burst : List (Beat w))
    → unfinished channel.D t ≡ burst → IsGranting burst t → is_grant x.opcode ≡ true
    → broken_in_order p (beat.D x) t ≡ None
    → IsGoodGrant x t × (completes (beat.D x) burst ≡ false → is_grant_without_data x.opcode ≡ false)
good_grant p x t [] is granting g none = (first_grant p x t g (rw is at none), first_bare x)
good_grant p x t (y ∷ burst) is granting g none =
    let continues = next_rule (breaks_burst (beat.D x) (y ∷ burst)) S1 None (rw is at none) in
    let later = later_grant x burst y t g (not-false (same_control (beat.D x) y) continues.0) granting in
    (later.0, λ more. later.1)
