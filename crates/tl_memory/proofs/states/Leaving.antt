-- Which of the pending accesses, and of those whose answers outran their requests, a beat leaves.
use Rattle.tl_memory.proofs.Imports.{Beat, BeatA, BeatC, BeatD, Link, Trace, on_link, block_at, Access, is_of, is_to}
use Rattle.tl_memory.proofs.Imports.{reaches}
use Rattle.std.proofs.Common.{◌≡◌, ℕ, Bool, true, false, not, ◌+◌, ◌*◌, ◌/◌, ◌<◌, List, [], ◌∷◌, refl, sym, ap, ◌∙◌}
use Rattle.std.proofs.Common.{inl, inr, subst, arith}
use Rattle.std.specs.Prelude.{if◌then◌else◌, filter, find, ◌==◌, Option, Some, None}
use Rattle.std.proofs.lemmas.Bool.{cases_Bool, eq-eqb, eqb-true}
use Rattle.tl_beat.{specs.declared.beat.BeatB.BeatB, specs.declared.beat.BeatE.BeatE}
use Rattle.tl_bytes.specs.statement.Bytes.{all_but, is_settled}
use Rattle.tl_memory.{specs.code.Elsewhere.NoneIsTo}
use Rattle.tl_bytes.specs.statement.Early.{Outrun, is_outrun_of, outruns, reaches_byte, settled_by, without}
use Rattle.tl_bytes.specs.statement.Early.{without_settled}
use Rattle.tl_memory.specs.code.Elsewhere.{LeavesOutrun}
use Rattle.tl_memory.specs.code.Taking.{AreOutrunIn}
use Rattle.tl_memory.specs.statement.Known.{AllReachInside, outruns_in}
use Rattle.tl_memory.proofs.lawful.OutrunNames.{found-key}
unfoldable use Rattle.tl_bytes.specs.statement.Early.{outrun_accesses}
use Rattle.tl_memory.proofs.Plain.{true_false, some-same}

-- those that are gone are to another block
pub none-gone : {w : ℕ} (link source block : ℕ) (accesses : List (Access w)) → NoneIsTo link source block accesses
    → filter (is_to block) (all_but link source accesses) ≡ filter (is_to block) accesses
none-gone link source block [] none = refl
none-gone link source block (access ∷ accesses) none =
    let more = none-gone link source block accesses none.1 in
    elim (cases_Bool (is_of link source access)) [
      | inl own ↦ rw (own, none.0 own) more
      | inr other ↦ elim (cases_Bool (is_to block access)) [
        | inl here ↦ rw (other, here) (ap (λ l. access ∷ l) more)
        | inr there ↦ rw (other, there) more
      ]
    ]

-- an access that is asked for is among those that are pending
pub asked-elsewhere : {w : ℕ} (c : Bool) (link source block : ℕ) (access : Access w) (before : List (Access w))
    → (c ≡ true → is_to block access ≡ false) → (c ≡ true → NoneIsTo link source block before)
    → filter (is_to block) (if c then access ∷ all_but link source before else before) ≡ filter (is_to block) before
asked-elsewhere true link source block access before other none =
    rw (other refl) (none-gone link source block before (none refl))
asked-elsewhere false link source block access before other none = refl

-- a beat that leaves the accesses whose answers outran their requests
pub leaves-still : {w : ℕ} (block : ℕ) (x : Link × Beat w) (t : Trace w) → outrun_accesses (x ∷ t) ≡ outrun_accesses t
    → AllReachInside (outrun_accesses t) → LeavesOutrun block x t
leaves-still block x t same inside = record { stay = ap (filter (outruns_in block)) same; reach_inside = rw same inside }

-- the same, if it is of none of these channels
pub leaves-probe : {w : ℕ} (link : Link) (y : BeatB w) (t : Trace w)
    → outrun_accesses ((link, Beat.B y) ∷ t) ≡ outrun_accesses t
unfolding outrun_accesses
leaves-probe link y t = refl

pub leaves-report : {w : ℕ} (link : Link) (y : BeatC w) (t : Trace w)
    → outrun_accesses ((link, Beat.C y) ∷ t) ≡ outrun_accesses t
unfolding outrun_accesses
leaves-report link y t = refl

pub leaves-ack : {w : ℕ} (link : Link) (y : BeatE) (t : Trace w)
    → outrun_accesses {w = w} ((link, Beat.E y) ∷ t) ≡ outrun_accesses t
unfolding outrun_accesses
leaves-ack link y t = refl

-- with a beat of a request they are those that it doesn't settle
pub leaves-request : {w : ℕ} (link : Link) (y : BeatA w) (t : Trace w) (o : Option Outrun)
    → settled_by link.0 (Beat.A y) (on_link link.0 t) (outrun_accesses t) ≡ o
    → outrun_accesses ((link, Beat.A y) ∷ t) ≡ without_settled o (outrun_accesses t)
unfolding outrun_accesses
leaves-request link y t o e = ap (λ o. without_settled o (outrun_accesses t)) e

-- and with a response that doesn't outrun its request
pub leaves-response : {w : ℕ} (link : Link) (y : BeatD w) (t : Trace w) (o : Option Outrun)
    → outruns y (on_link link.0 t) ≡ false
    → settled_by link.0 (Beat.D y) (on_link link.0 t) (outrun_accesses t) ≡ o
    → outrun_accesses ((link, Beat.D y) ∷ t) ≡ without_settled o (outrun_accesses t)
unfolding outrun_accesses
leaves-response link y t o late e = rw late (ap (λ o. without_settled o (outrun_accesses t)) e)

-- those that are gone are to another block
pub none-out : (link source block other : ℕ) (accesses : List Outrun) → AreOutrunIn link source other accesses
    → (other == block) ≡ false
    → filter (outruns_in block) (without link source accesses) ≡ filter (outruns_in block) accesses
none-out link source block other [] are differ = refl
none-out link source block other (a ∷ accesses) are differ =
    let more = none-out link source block other accesses are.1 differ in
    elim (cases_Bool (is_outrun_of link source a)) [
      | inr stays ↦ elim (cases_Bool (outruns_in block a)) [
        | inl here ↦ rw (stays, here) (ap (λ l. a ∷ l) more)
        | inr there ↦ rw (stays, there) more
      ]
      | inl own ↦
          let there : outruns_in block a ≡ false =
          ap (λ k. k == block) (eqb-true (a.address / 64) other (are.0 own)) ∙ differ in
          rw (own, there) more
    ]

pub reach-left : (keep : Outrun → Bool) (accesses : List Outrun) → AllReachInside accesses
    → AllReachInside (filter keep accesses)
reach-left keep [] all = tt
reach-left keep (a ∷ accesses) all = elim (cases_Bool (keep a)) [
  | inl on ↦ rw on (all.0, reach-left keep accesses all.1)
  | inr off ↦ rw off (reach-left keep accesses all.1)
]

found-reaches : (link source : ℕ) (accesses : List Outrun) (a : Outrun) → AllReachInside accesses
    → find (is_outrun_of link source) accesses ≡ Some a → (address : ℕ) → reaches a.address a.size address ≡ true
    → block_at address ≡ block_at a.address
found-reaches link source [] a all found = absurd cc
found-reaches link source (b ∷ accesses) a all found = elim (cases_Bool (is_outrun_of link source b)) [
  | inl here ↦ let same : Some b ≡ Some a = rw here at found in
      subst (λ (v : Outrun). (address : ℕ) → reaches v.address v.size address ≡ true → block_at address ≡ block_at v.address)
      (some-same same) all.0
  | inr other ↦ found-reaches link source accesses a all.1 (rw other at found)
]

pub found-there : (link source block : ℕ) (accesses : List Outrun) (a : Outrun) → AreOutrunIn link source block accesses
    → find (is_outrun_of link source) accesses ≡ Some a → outruns_in block a ≡ true
found-there link source block [] a are found = absurd cc
found-there link source block (b ∷ accesses) a are found = elim (cases_Bool (is_outrun_of link source b)) [
  | inl here ↦ let same : Some b ≡ Some a = rw here at found in
      ap (outruns_in block) (sym (some-same same)) ∙ are.0 here
  | inr other ↦ found-there link source block accesses a are.1 (rw other at found)
]

-- What a beat leaves of a block that settles an access to another one, or none.
pub record SettlesElsewhere {w : ℕ} (block : ℕ) (x : Link × Beat w) (t : Trace w) : Type 0 where
  pub unsettled : (place : ℕ) → place < 64 → is_settled (64 * block + place) x t ≡ false
  pub outrun : LeavesOutrun block x t

pub settles-none : {w : ℕ} (block : ℕ) (x : Link × Beat w) (t : Trace w)
    → settled_by x.0.0 x.1 (on_link x.0.0 t) (outrun_accesses t) ≡ None
    → outrun_accesses (x ∷ t) ≡ outrun_accesses t → AllReachInside (outrun_accesses t) → SettlesElsewhere block x t
settles-none block x t none same inside = record {
  unsettled = λ place lt. ap (reaches_byte (64 * block + place)) none;
  outrun = leaves-still block x t same inside;
}

pub settles-other : {w : ℕ} (block other source : ℕ) (x : Link × Beat w) (t : Trace w)
    → (o : Option Outrun) → settled_by x.0.0 x.1 (on_link x.0.0 t) (outrun_accesses t) ≡ o
    → ((a : Outrun) → o ≡ Some a → find (is_outrun_of x.0.0 source) (outrun_accesses t) ≡ Some a)
    → outrun_accesses (x ∷ t) ≡ without_settled o (outrun_accesses t)
    → AreOutrunIn x.0.0 source other (outrun_accesses t) → (other == block) ≡ false
    → AllReachInside (outrun_accesses t) → SettlesElsewhere block x t
settles-other block other source x t None settled found same are differ inside =
    settles-none block x t settled same inside
settles-other block other source x t (Some a) settled found same are differ inside =
    let key = found-key x.0.0 source (outrun_accesses t) a (found a refl) in
    record {
      unsettled = λ place lt. ap (reaches_byte (64 * block + place)) settled ∙ unreached place lt;
      outrun = record {
        stay = ap (filter (outruns_in block)) same
            ∙ none-out a.link a.source block other (outrun_accesses t)
            (subst (λ n. AreOutrunIn n a.source other (outrun_accesses t)) (sym key.0)
            (subst (λ n. AreOutrunIn x.0.0 n other (outrun_accesses t)) (sym key.1) are)) differ;
        reach_inside = rw same (reach-left (λ b. not (is_outrun_of a.link a.source b)) (outrun_accesses t) inside);
      };
    }
  where
    unreached : (place : ℕ) → place < 64 → reaches a.address a.size (64 * block + place) ≡ false
    unreached place lt = elim (cases_Bool (reaches a.address a.size (64 * block + place))) [
      | inr none ↦ none
      | inl some ↦
          let here = found-reaches x.0.0 source (outrun_accesses t) a inside (found a refl) (64 * block + place) some in
          let to = eqb-true (a.address / 64) other (found-there x.0.0 source other (outrun_accesses t) a are (found a refl))
          in
          let own : (64 * block + place) / 64 ≡ block = omega (arith, lt) in
          true_false (sym (eq-eqb other block (sym to ∙ sym here ∙ own)) ∙ differ)
    ]
