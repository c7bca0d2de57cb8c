-- A request that was taken whole breaks no L rule, and is zero where no beat carries anything.
use Rattle.tl_manager.proofs.Imports.{IsWidth, a_carries_data, Beat, BeatA, Link, A, MessageA, beats_of, a_beat_of}
use Rattle.tl_manager.proofs.Imports.{IsZeroFrom, burst_length, Config, Level, payload_of, is_spoiled, a_control, a_own}
use Rattle.tl_manager.proofs.Imports.{illegal, illegal_a, both_none, Each, IsSound, IsTyped, IsPerformable}
use Rattle.tl_manager.proofs.Imports.{masks_carried, corrupt_carried, level_of}
use Rattle.std.proofs.Common.{◌≡◌, ℕ, suc, ◌+◌, ◌-◌, ◌*◌, ◌^◌, ◌<◌, ◌≤◌, Bool, true, false, List, [], ◌∷◌, ◌++◌, length}
use Rattle.std.proofs.Common.{Option, Some, None, refl, sym, ap, ◌∙◌, arith}
use Rattle.std.specs.Prelude.{nat_le, is_some, IfSome, unwrap_or, replicate, if◌then◌else◌}
use Rattle.std.proofs.lemmas.List.{drop_at, length-append, length-replicate}
use Rattle.std.{proofs.lemmas.Nat.pow_pos, proofs.lemmas.Bool.leb-true}
use Rattle.tl_beat.specs.declared.channel.Channel.{Channel}
use Rattle.tl_rules.{specs.statement.Admission.bytes_carried, specs.statement.Admission.lanes_of}
use Rattle.tl_rules.{proofs.Checks.beats_room, proofs.Legal.legal_from_beats}
use Rattle.tl_manager.{specs.code.Kept.IsLike, specs.statement.Request.mask_of, specs.statement.Request.corrupt_of}
use Rattle.tl_manager.{proofs.messages.Lawful.no_bit, proofs.words_of_clients.Lists.each_weaker}
use Rattle.tl_manager.{proofs.messages.Sound.leveled}
use Rattle.tl_manager.proofs.words_of_clients.Masks.{legal-narrow, masks-below, each_mask}

-- the beats of one request, all of which are sound
pub record IsWhole {w : ℕ} (config : Config) (link : Link) (x : BeatA w) (y : Beat w) : Type 0 where
  pub sound : IsSound config (link, y)
  pub like : IsLike x y

-- ---- the payload

lanes_length : {w : ℕ} (x : BeatA w) (y : Beat w) (carries : Bool) → a_carries_data x.opcode ≡ carries → IsLike x y
    → IsTyped y → length (lanes_of y) ≡ (if carries then w else 0)
lanes_length {w} x (Beat.A y) carries e like typed = go y.lanes (y.carries ∙ ap a_carries_data like.0 ∙ e) typed.1
  where
    go : (o : Option (List ℕ)) → is_some o ≡ carries → IfSome o (λ lanes. length lanes ≡ w)
        → length (unwrap_or o []) ≡ (if carries then w else 0)
    go (Some lanes) some long = rw (← some) long
    go None none long = rw (← none) refl
lanes_length x (Beat.B y) carries e like typed = absurd like
lanes_length x (Beat.C y) carries e like typed = absurd like
lanes_length x (Beat.D y) carries e like typed = absurd like
lanes_length x (Beat.E y) carries e like typed = absurd like

bytes_length : {w : ℕ} (beats : List (Beat w)) (n : ℕ) → Each (λ y. length (lanes_of y) ≡ n) beats
    → length (bytes_carried beats) ≡ n * length beats
unfolding bytes_carried
bytes_length [] n each = omega arith
bytes_length (x ∷ beats) n each =
    let before = bytes_length beats n each.1 in
    let place : n * suc (length beats) ≡ n * length beats + n = omega arith in
    rw place (length-append (bytes_carried beats) (lanes_of x) ∙ omega (arith, before, each.0))

zero_after : (bytes : List ℕ) (k : ℕ) → length bytes ≡ k → IsZeroFrom k (bytes ++ replicate (64 - length bytes) 0)
zero_after bytes k long = drop_at bytes (replicate (64 - length bytes) 0) k long ∙ ap (λ n. replicate (64 - n) 0) long

payload_blank : {w : ℕ} (config : Config) (link : Link) (x : BeatA w) (beats : List (Beat w)) (n : ℕ) (carries : Bool)
    → a_carries_data x.opcode ≡ carries → length beats ≡ n
    → Each (IsWhole config link x) beats → IsZeroFrom (if carries then w * n else 0) (payload_of beats)
payload_blank {w} config link x beats n carries e long each =
    zero_after (bytes_carried beats) (if carries then w * n else 0)
    (bytes_length beats (if carries then w else 0)
    (each_weaker (IsWhole config link x) (λ y. length (lanes_of y) ≡ (if carries then w else 0)) beats
    (λ y ok. lanes_length x y carries e ok.like ok.sound.typed) each) ∙ go carries)
  where
    go : (b : Bool) → (if b then w else 0) * length beats ≡ (if b then w * n else 0)
    go true = ap (λ k. w * k) long
    go false = omega arith

payload_filled : {w : ℕ} (config : Config) (link : Link) (x : BeatA w) (beats : List (Beat w)) (carries : Bool)
    → a_carries_data x.opcode ≡ carries → w * length beats ≤ 64
    → Each (IsWhole config link x) beats → length (payload_of beats) ≡ 64
payload_filled {w} config link x beats carries e room each =
    let bytes = bytes_length beats (if carries then w else 0)
    (each_weaker (IsWhole config link x) (λ y. length (lanes_of y) ≡ (if carries then w else 0)) beats
    (λ y ok. lanes_length x y carries e ok.like ok.sound.typed) each) in
    let few = below carries in
    let none : ℕ = 0 in
    let rest = length-replicate (64 - length (bytes_carried beats)) none in
    let whole = length-append (bytes_carried beats) (replicate (64 - length (bytes_carried beats)) none) in
    whole ∙ ap (λ i. length (bytes_carried beats) + i) rest ∙ omega (arith, bytes, few)
  where
    below : (b : Bool) → (if b then w else 0) * length beats ≤ 64
    below true = room
    below false = omega arith

-- ---- masks and corrupt bits

beat_narrow : {w : ℕ} (config : Config) (link : Link) (x : BeatA w) (y : Beat w) → IsWidth w → IsWhole config link x y
    → mask_of y < 2 ^ w
beat_narrow config link x (Beat.A y) width ok =
    let l = leveled (level_of config link.0) (Beat.A y) ok.sound.lawful in
    legal-narrow l.0 y width ok.sound.typed.0 l.2
beat_narrow config link x v width ok = absurd ok.like

beat_own : {w : ℕ} (config : Config) (link : Link) (l : Level) (x : BeatA w) (y : Beat w)
    → level_of config link.0 ≡ Some l → IsWhole config link x y
    → a_own w x.opcode x.size x.address (mask_of y) false ≡ None
beat_own {w} config link l x (Beat.A y) has_level ok =
    let legal : illegal l Channel.A (Beat.A y) ≡ None = rw has_level at ok.sound.lawful in
    let own = (both_none (a_control w l y.opcode y.param y.size y.address)
    (a_own w y.opcode y.size y.address y.mask y.corrupt) (sym (illegal_a l y) ∙ legal)).1 in
    rw (ok.like.0, ok.like.1, ok.like.2, ok.sound.clean) at own
beat_own config link l x (Beat.B y) has_level ok = absurd ok.like
beat_own config link l x (Beat.C y) has_level ok = absurd ok.like
beat_own config link l x (Beat.D y) has_level ok = absurd ok.like
beat_own config link l x (Beat.E y) has_level ok = absurd ok.like

beat_clean : {w : ℕ} (y : Beat w) → is_spoiled y ≡ false → corrupt_of y ≡ 0
beat_clean (Beat.A y) e = rw e refl
beat_clean v e = refl

none_corrupt : {w : ℕ} (beats : List (Beat w)) → Each (λ y. is_spoiled y ≡ false) beats → corrupt_carried beats ≡ 0
unfolding corrupt_carried
none_corrupt [] each = refl
none_corrupt (x ∷ beats) each = rw (none_corrupt beats each.1, beat_clean x each.0) (omega arith)

-- ---- the request

abbrev pub made_of : {w : ℕ} (x : BeatA w) → List (Beat w) → nat_le x.size 6 ≡ true → MessageA w
made_of x beats fits = record {
  opcode = x.opcode;
  param = x.param;
  size = x.size;
  source = x.source;
  address = x.address;
  payload = payload_of beats;
  mask = masks_carried beats;
  corrupt = corrupt_carried beats;
  small = leb-true x.size 6 fits;
}

legal_beat : {w : ℕ} (config : Config) (link : Link) (l : Level) (x : BeatA w) (beats : List (Beat w))
    (fits : nat_le x.size 6 ≡ true) (i : ℕ) → IsWidth w → level_of config link.0 ≡ Some l
    → illegal l Channel.A (Beat.A x) ≡ None → Each (IsWhole config link x) beats
    → length beats ≡ beats_of (A (made_of x beats fits)) → i < length beats
    → illegal l Channel.A (Beat.A (a_beat_of (made_of x beats fits) i)) ≡ None
legal_beat {w} config link l x beats fits i width has_level legal each long lt =
    let control = (both_none (a_control w l x.opcode x.param x.size x.address)
    (a_own w x.opcode x.size x.address x.mask x.corrupt) (sym (illegal_a l x) ∙ legal)).0 in
    let room : w * length beats ≤ 64 = rw long (beats_room (A (made_of x beats fits)) width) in
    let own = each_mask (λ mask. a_own w x.opcode x.size x.address mask false ≡ None) beats i
    (each_weaker (IsWhole config link x) (λ y. mask_of y < 2 ^ w) beats (λ y ok. beat_narrow config link x y width ok)
    each) room
    (each_weaker (IsWhole config link x) (λ y. a_own w x.opcode x.size x.address (mask_of y) false ≡ None) beats
    (λ y ok. beat_own config link l x y has_level ok) each) lt in
    let clean : corrupt_carried beats ≡ 0 =
    none_corrupt beats (each_weaker (IsWhole config link x) (λ y. is_spoiled y ≡ false) beats
    (λ y ok. ok.sound.clean) each) in
    illegal_a l (a_beat_of (made_of x beats fits) i) ∙ rw (control, clean, no_bit i) own

-- the service of a request that has these beats
pub performable : {w : ℕ} (config : Config) (link : Link) (x : BeatA w) (beats : List (Beat w)) (tracker : ℕ)
    (fits : nat_le x.size 6 ≡ true) → IsWidth w → IsSound config (link, Beat.A x)
    → Each (IsWhole config link x) beats → length beats ≡ burst_length (Beat.A x)
    → IsPerformable config (record { tracker = tracker; link = link; request = made_of x beats fits })
performable {w} config link x beats tracker fits width ok each long =
    let l = leveled (level_of config link.0) (Beat.A x) ok.lawful in
    let clean : corrupt_carried beats ≡ 0 =
    none_corrupt beats (each_weaker (IsWhole config link x) (λ y. is_spoiled y ≡ false) beats
    (λ y whole. whole.sound.clean) each) in
    let below = masks-below beats (each_weaker (IsWhole config link x) (λ y. mask_of y < 2 ^ w) beats
    (λ y whole. beat_narrow config link x y width whole) each) in
    record {
      lawful = rw l.1 (legal_from_beats l.0 Channel.A (A (made_of x beats fits))
          (λ i lt. legal_beat config link l.0 x beats fits i width l.1 l.2 each long (rw long lt)));
      blank = (
        payload_blank config link x beats (beats_of (A (made_of x beats fits))) (a_carries_data x.opcode) refl long
            each,
        rw long at below,
        rw clean (pow_pos (beats_of (A (made_of x beats fits)))),
      );
      filled = payload_filled config link x beats (a_carries_data x.opcode) refl
          (rw long (beats_room (A (made_of x beats fits)) width)) each;
      clean = clean;
      inside = ok.inside;
    }
