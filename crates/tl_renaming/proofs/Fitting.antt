-- The accesses of a lawful trace lie in one block each.
use Rattle.tl_renaming.proofs.Imports.{Beat, A, B, C, D, E, BeatA, Channel, History, channel_of, ends, unfinished}
use Rattle.tl_renaming.proofs.Values.{Fits}
use Rattle.tl_renaming.specs.statement.Together.{AreTypedOn}
use Rattle.std.proofs.Common.{◌≡◌, ℕ, suc, Bool, true, false, ◌+◌, ◌*◌, ◌/◌, ◌%◌, ◌^◌, ◌<◌, ◌≤◌, List, [], ◌∷◌, length}
use Rattle.std.proofs.Common.{arith, inl, inr}
use Rattle.std.specs.Prelude.{All, eqb, find, if◌then◌else◌, IfSome, min, None, not, Option, Some, unwrap_or, ⊤}
use Rattle.std.proofs.lemmas.Bool.{cases_lt, eqb-true, le-ltb, lt-ltb}
use Rattle.std.proofs.lemmas.List.{length-append}
use Rattle.std.proofs.lemmas.List.Elements.{All-cons, All-filter, All-head, All-nil}
use Rattle.tl_beat.{specs.statement.Opcode.a_carries_data, specs.statement.Width.IsWidth}
use Rattle.tl_burst.{specs.statement.Burst.data_beats, specs.statement.Messages.burst_length, specs.statement.Messages.on}
use Rattle.tl_burst.proofs.Bits.{earlier_place}
use Rattle.std.proofs.Math.Nat.{mul-suc}
use Rattle.tl_burst.specs.statement.Part.{completes}
use Rattle.tl_bytes.specs.statement.Bytes.{Access, all_but, asked_by, asked_since, asks_new, is_of, leaves_pending}
use Rattle.tl_bytes.specs.statement.Early.{Outrun, is_outrun_of, outrun_by, outrun_with, outruns, settled_by, without}
use Rattle.tl_bytes.specs.statement.Early.{without_settled}
unfoldable use Rattle.tl_bytes.specs.statement.Early.{outrun_accesses}
use Rattle.tl_renaming.proofs.Outrun.{IsRoomy, left-roomy}
use Rattle.tl_bytes.specs.statement.Bytes.{pending_accesses, pending_with}
use Rattle.tl_memory.proofs.{lawful.Lawful.by_itself, lawful.Lawful.is-request, lawful.Lawful.legal-parts}
use Rattle.tl_memory.proofs.{lawful.OpenAccesses.is-fine, lawful.OpenAccesses.legal-on}
use Rattle.tl_memory.proofs.lawful.Unfinished.{fewer-before}
use Rattle.tl_memory.specs.statement.Links.{AreLegal}
use Rattle.tl_params.specs.declared.level.Level.{Level}
use Rattle.tl_rules.{proofs.Rooms.room_in_block, proofs.Rooms.room_of_base}
use Rattle.tl_rules.{specs.code.Place.base_of, specs.laws.Typed.AreTyped, specs.laws.Typed.IsTyped}
use Rattle.tl_rules.specs.statement.Admission.{bytes_carried, lanes_of}
use Rattle.tl_rules.specs.statement.Conformance.{Trace, on_link}
use Rattle.tl_bytes.specs.statement.Free.{all_liberties}
use Rattle.tl_rules.specs.statement.Liberties.{broken_after_under, illegal_under, is_legal_under}

-- the beats of a link have lanes of their width, where those of a trace have
typed-link : {w : ℕ} (n : ℕ) (t : Trace w) → AreTypedOn t → AreTyped (on_link n t)
unfolding on_link
typed-link n [] typed = tt
typed-link {w} n (x ∷ t) typed = go (eqb x.0.0 n) (typed-link n t typed.1)
  where
    go : (b : Bool) → AreTyped (on_link n t) → AreTyped (if b then x.1 ∷ on_link n t else on_link n t)
    go true rest = (typed.0, rest)
    go false rest = rest

typed-burst : {w : ℕ} (ch : Channel) (t : History w) → AreTyped t → AreTyped (unfinished ch t)
unfolding unfinished
typed-burst ch [] typed = tt
typed-burst {w} ch (x ∷ t) typed = go (on ch x) (completes x (unfinished ch t)) (typed-burst ch t typed.1)
  where
    go : (own last : Bool) → AreTyped (unfinished ch t)
        → AreTyped (if own then (if last then [] else x ∷ unfinished ch t) else unfinished ch t)
    go true true rest = tt
    go true false rest = (typed.0, rest)
    go false last rest = rest

-- ---- one access

some-lanes : (w : ℕ) (o : Option (List ℕ)) → IfSome o (λ lanes. length lanes ≡ w) → length (unwrap_or o []) ≤ w
some-lanes w None typed = omega arith
some-lanes w (Some lanes) typed = omega (arith, typed)

pub few-lanes : {w : ℕ} (x : Beat w) → IsTyped x → length (lanes_of x) ≤ w
few-lanes {w} (A x) typed = some-lanes w x.lanes typed.1
few-lanes {w} (B x) typed = some-lanes w x.lanes typed.1
few-lanes {w} (C x) typed = some-lanes w x.lanes typed
few-lanes {w} (D x) typed = some-lanes w x.lanes typed
few-lanes (E x) typed = omega arith

few-bytes : {w : ℕ} (beats : List (Beat w)) → AreTyped beats → length (bytes_carried beats) ≤ w * length beats
unfolding bytes_carried
few-bytes [] typed = omega arith
few-bytes {w} (x ∷ beats) typed =
    let next : w * suc (length beats) ≡ w * length beats + w = omega arith in
    omega (
      arith,
      next,
      length-append (bytes_carried beats) (lanes_of x),
      few-bytes beats typed.1,
      few-lanes x typed.0,
    )

module _ (w : ℕ) (width : IsWidth w) where
  -- whole beats take no more than their bytes
  whole-beats : (size : ℕ) → w * (2 ^ size / w) ≤ 2 ^ size
  whole-beats size = elim width [
    | inl e ↦ rw e (omega arith)
    | inr more ↦ elim more [ inl e ↦ rw e (omega arith) | inr e ↦ rw e (omega arith) ]
  ]

  below-place : (address : ℕ) → base_of w address ≤ address % 64
  below-place address = elim width [
    | inl e ↦ rw e (omega arith)
    | inr more ↦ elim more [ inl e ↦ rw e (omega arith) | inr e ↦ rw e (omega arith) ]
  ]

  data-room : (size address : ℕ) → address % 64 + 2 ^ size ≤ 64 → base_of w address + w * data_beats w size ≤ 64
  data-room size address room = elim (cases_lt w (2 ^ size)) [
    | inl long ↦ rw (lt-ltb w (2 ^ size) long) (omega (arith, whole-beats size, below-place address, room))
    | inr short ↦
        let one : w * 1 ≡ w = omega arith in
        rw (le-ltb w (2 ^ size) short, one) (room_of_base w address width)
  ]

  burst-room : (carries : Bool) (size address : ℕ) → address % 64 + 2 ^ size ≤ 64
      → base_of w address + w * (if carries then data_beats w size else 1) ≤ 64
  burst-room true size address room = data-room size address room
  burst-room false size address room = let one : w * 1 ≡ w = omega arith in rw one (room_of_base w address width)

module _ {w : ℕ} (width : IsWidth w) where
  asked-fits : (level : Level) (link : ℕ) (x : BeatA w) (burst : List (Beat w)) (moment : ℕ)
      → illegal_under all_liberties level Channel.A (A x) ≡ None → AreTyped (A x ∷ burst) → length burst < burst_length (A x)
      → Fits (asked_by link x (A x ∷ burst) moment)
  asked-fits level link x burst moment legal typed some =
      let asked = is-request level x width legal in
      let aligned = eqb-true (x.address % 2 ^ x.size) 0 asked.aligned in
      let room = room_in_block x.size x.address asked.small aligned in
      let same : min x.size 6 ≡ x.size = omega (arith, asked.small) in
      let few = few-bytes (A x ∷ burst) typed in
      let count = burst-room w width (a_carries_data x.opcode) x.size x.address room in
      let place = earlier_place w (burst_length (A x)) (length burst) some in
      record {
        in_payload = omega (arith, few, mul-suc w (length burst), place, count);
        in_block = rw same room;
      }

  step-fits : (level : Level) (link : ℕ) (x : Beat w) (t : History w) (moment : ℕ) (outrun : List Outrun)
      (before : List (Access w))
      → illegal_under all_liberties level (channel_of x) x ≡ None
      → length (unfinished (channel_of x) t) < burst_length x → IsTyped x → AreTyped t → All Fits before
      → All Fits (pending_with link x t moment outrun before)
  step-fits level link (A x) t moment outrun before legal some typed rest fits = go (asks_new link x t outrun)
    where
      since : ℕ
      since = asked_since (find (is_of link x.source) before) moment

      go : (b : Bool)
          → All Fits (if b then asked_by link x (A x ∷ unfinished Channel.A t) since ∷ all_but link x.source before
          else before)
      go true = All-cons Fits (asked_by link x (A x ∷ unfinished Channel.A t) since) (all_but link x.source before)
          (asked-fits level link x (unfinished Channel.A t) since legal (typed, typed-burst Channel.A t rest) some)
          (All-filter (λ access. not (is_of link x.source access)) Fits before fits)
      go false = fits
  step-fits level link (D x) t moment outrun before legal some typed rest fits = go (leaves_pending x t)
    where
      go : (b : Bool) → All Fits (if b then all_but link x.source before else before)
      go true = All-filter (λ access. not (is_of link x.source access)) Fits before fits
      go false = fits
  step-fits level link (B x) t moment outrun before legal some typed rest fits = fits
  step-fits level link (C x) t moment outrun before legal some typed rest fits = fits
  step-fits level link (E x) t moment outrun before legal some typed rest fits = fits

  -- ---- an access whose answer outran its request

  -- what a beat of a request reaches lies in one block
  abbrev IsInBlock : Beat w → Type 0
  IsInBlock (A x) = x.address % 64 + 2 ^ x.size ≤ 64
  IsInBlock _ = ⊤

  beat-in-block : (level : Level) (x : Beat w) → illegal_under all_liberties level (channel_of x) x ≡ None → IsInBlock x
  beat-in-block level (A x) legal =
      let asked = is-request level x width legal in
      room_in_block x.size x.address asked.small (eqb-true (x.address % 2 ^ x.size) 0 asked.aligned)
  beat-in-block level (B x) legal = tt
  beat-in-block level (C x) legal = tt
  beat-in-block level (D x) legal = tt
  beat-in-block level (E x) legal = tt

  -- so it is with all beats of an unfinished one
  burst-in-block : (level : Level) (t : History w) → is_legal_under all_liberties level t ≡ true
      → All IsInBlock (unfinished Channel.A t)
  unfolding unfinished
  burst-in-block level [] legal = All-nil IsInBlock
  burst-in-block level (x ∷ t) legal =
      go (on Channel.A x) (completes x (unfinished Channel.A t)) (burst-in-block level t parts.1)
    where
      parts : (broken_after_under all_liberties level x t ≡ None) × (is_legal_under all_liberties level t ≡ true)
      parts = legal-parts level x t legal

      go : (own last : Bool) → All IsInBlock (unfinished Channel.A t)
          → All IsInBlock (if own then (if last then [] else x ∷ unfinished Channel.A t) else unfinished Channel.A t)
      go true true rest = All-nil IsInBlock
      go true false rest =
          All-cons IsInBlock x (unfinished Channel.A t) (beat-in-block level x (by_itself level x t parts.0)) rest
      go false last rest = rest

  begun-roomy : (link : ℕ) (burst : List (Beat w)) (answered : Bool) (before : List Outrun) → All IsInBlock burst
      → All IsRoomy before → All IsRoomy (outrun_by link burst answered before)
  begun-roomy link (A x ∷ older) answered before inside roomy =
      All-cons IsRoomy _ before (All-head IsInBlock (A x) older inside) roomy
  begun-roomy link [] answered before inside roomy = roomy
  begun-roomy link (B x ∷ older) answered before inside roomy = roomy
  begun-roomy link (C x ∷ older) answered before inside roomy = roomy
  begun-roomy link (D x ∷ older) answered before inside roomy = roomy
  begun-roomy link (E x ∷ older) answered before inside roomy = roomy

  step-roomy : (level : Level) (link : ℕ) (x : Beat w) (t : History w) (before : List Outrun)
      → is_legal_under all_liberties level t ≡ true → All IsRoomy before → All IsRoomy (outrun_with link x t before)
  step-roomy level link (D x) t before legal roomy = go (outruns x t)
    where
      go : (b : Bool)
          → All IsRoomy (if b then outrun_by link (unfinished Channel.A t) (ends (D x) t) (without link x.source before)
          else without_settled (settled_by link (D x) t before) before)
      go true = begun-roomy link (unfinished Channel.A t) (ends (D x) t) (without link x.source before)
          (burst-in-block level t legal)
          (All-filter (λ access. not (is_outrun_of link x.source access)) IsRoomy before roomy)
      go false = left-roomy (settled_by link (D x) t before) before roomy
  step-roomy level link (A x) t before legal roomy = left-roomy (settled_by link (A x) t before) before roomy
  step-roomy level link (B x) t before legal roomy = roomy
  step-roomy level link (C x) t before legal roomy = roomy
  step-roomy level link (E x) t before legal roomy = roomy

  -- ---- a trace

  pub all-roomy : (levels : List Level) (t : Trace w) → AreLegal levels t → All IsRoomy (outrun_accesses t)
  unfolding outrun_accesses
  all-roomy levels [] legal = All-nil IsRoomy
  all-roomy levels (x ∷ t) legal =
      let fine = is-fine _ levels x t legal.0 in
      step-roomy fine.level x.0.0 x.1 (on_link x.0.0 t) (outrun_accesses t)
      (legal-on _ levels x.0.0 fine.level t fine.has_level legal.1) (all-roomy levels t legal.1)

  pub all-fit : (levels : List Level) (t : Trace w) → AreLegal levels t → AreTypedOn t → All Fits (pending_accesses t)
  unfolding pending_accesses
  all-fit levels [] legal typed = All-nil Fits
  all-fit levels (x ∷ t) legal typed =
      let fine = is-fine _ levels x t legal.0 in
      step-fits fine.level x.0.0 x.1 (on_link x.0.0 t) (suc (length t)) (outrun_accesses t) (pending_accesses t)
      (by_itself fine.level x.1 (on_link x.0.0 t) fine.fine)
      (fewer-before fine.level x.1 (on_link x.0.0 t) width
      (legal-on _ levels x.0.0 fine.level t fine.has_level legal.1) fine.fine) typed.0 (typed-link x.0.0 t typed.1)
      (all-fit levels t legal.1 typed.1)
