-- A Put that goes on with a beat: what has come of it stays as it was.
use Rattle.tl_one_memory.proofs.Imports.{Beat, Link, unfinished, Trace, on_link}
use Rattle.tl_one_memory.proofs.Imports.{Memory, Access, access_writes, could_be}
use Rattle.tl_one_memory.proofs.Imports.{carried_byte, is_of, pending_accesses, pending_value, IsPending}
unfoldable use Rattle.tl_rules.specs.statement.Admission.{bytes_carried}
unfoldable use Rattle.tl_bytes.specs.statement.Bytes.{carried_mask}
use Rattle.tl_one_memory.proofs.Imports.{effect}
use Rattle.std.proofs.Common.{◌≡◌, ℕ, zero, suc, Bool, true, false, ◌&&◌, ◌||◌}
use Rattle.std.proofs.Common.{◌+◌, ◌-◌, ◌*◌, ◌/◌, ◌^◌, ◌<◌, List, [], ◌∷◌}
use Rattle.std.proofs.Common.{◌⊎◌, inl, inr, length, refl, sym, ap, ◌∙◌, subst, arith}
use Rattle.std.specs.Prelude.{if◌then◌else◌, ◌==◌, ◌++◌, find, is_some, nat_le}
use Rattle.std.specs.Prelude.{nat_lt, Option, Some, None, slice_get, unwrap_or}
use Rattle.std.proofs.lemmas.Bool.{and_parts, cases_eq, eq-eqb, ltb-true}
use Rattle.std.proofs.lemmas.Nat.Bits.{bit_at_cat_low}
use Rattle.tl_beat.{specs.declared.beat.BeatA.BeatA, specs.declared.channel.Channel.Channel}
use Rattle.tl_beat.specs.declared.opcode.OpA.{OpA}
use Rattle.tl_beat.specs.statement.Opcode.{a_carries_data}
use Rattle.tl_burst.proofs.ControlFields.{control_a}
use Rattle.tl_burst.{specs.declared.message.Message.Message, specs.declared.message.MessageA.MessageA}
use Rattle.tl_burst.specs.statement.Burst.{bit, byte_at, byte_if, place_of}
use Rattle.tl_burst.specs.statement.Messages.{History, burst_length}
use Rattle.tl_rules.specs.statement.Admission.{is_spoiled, lanes_of}
use Rattle.tl_rules.specs.statement.Effect.{after}
use Rattle.tl_rules.specs.statement.History.{ends}
use Rattle.tl_bytes.specs.statement.Bytes.{asked_by, asked_since, asks_new, found_memory, is_access, is_put, writes}
use Rattle.tl_bytes.specs.statement.Early.{outrun_accesses}
use Rattle.tl_bytes.proofs.Finding.{none-some}
use Rattle.tl_bytes.proofs.Pending.{AsksNot, IsAskedNow, pending-before}
use Rattle.tl_memory.proofs.lawful.OpenAccesses.{other-link, own-link}
use Rattle.tl_memory.proofs.values.Payloads.{wide-length}
use Rattle.tl_memory.proofs.values.Writing.{put_pending}
use Rattle.tl_memory.specs.statement.Known.{AreWide}
use Rattle.tl_one_memory.proofs.Outrun.{asks-or, never-both}
use Rattle.tl_one_memory.specs.statement.Run.{GoesOn}

-- ---- the beats of an unfinished request

newest-a : {w : ℕ} (z y : BeatA w) (older : List (Beat w)) (h : History w)
    → unfinished Channel.A (Beat.A z ∷ h) ≡ Beat.A y ∷ older → (y ≡ z) × (older ≡ unfinished Channel.A h)
unfolding unfinished
newest-a {w} z y older h e = go (length (unfinished Channel.A h) + 1 == burst_length (Beat.A z)) e
  where
    parts : (burst : List (Beat w)) → Beat.A z ∷ burst ≡ Beat.A y ∷ older → (y ≡ z) × (older ≡ burst)
    parts burst f = (cc, cc)

    go : (last : Bool) → (if last then [] else Beat.A z ∷ unfinished Channel.A h) ≡ Beat.A y ∷ older
        → (y ≡ z) × (older ≡ unfinished Channel.A h)
    go true f = absurd cc
    go false f = parts (unfinished Channel.A h) f

-- each beat of a Put asks
put-asks : (o : OpA) (last : Bool) → is_put o ≡ true → is_access o && (is_put o || last) ≡ true
put-asks OpA.PutFullData last e = refl
put-asks OpA.PutPartialData last e = refl
put-asks v last e = absurd cc

-- what is asked for is told by the newest beat, and those before it
same-asked : {w : ℕ} (c d : ℕ) (y z : BeatA w) (older burst : List (Beat w)) (moment : ℕ) (p : Access w) → c ≡ d → y ≡ z
    → older ≡ burst → p ≡ asked_by d z (Beat.A z ∷ burst) moment → p ≡ asked_by c y (Beat.A y ∷ older) p.asked
same-asked c d y z older burst moment p e f g h =
    rw (e, f, g) (h ∙ ap (asked_by d z (Beat.A z ∷ burst)) (sym (ap (λ q. q.asked) h)))

-- where a Put's beats are unfinished, the access that is pending with its source is what these ask for
put-so-far : {w : ℕ} (c : ℕ) (y : BeatA w) (older : List (Beat w)) (p : Access w) (t : Trace w)
    → unfinished Channel.A (on_link c t) ≡ Beat.A y ∷ older → is_put y.opcode ≡ true → IsPending c y.source p t
    → p ≡ asked_by c y (Beat.A y ∷ older) p.asked
unfolding pending_accesses unfinished
put-so-far c y older p [] e put pending = absurd (none-some p pending)
put-so-far {w} c y older p (x ∷ t) e put pending = elim (pending-before c y.source p x t pending) [
  | inl old ↦ elim (cases_eq x.0.0 c) [
    | inr other ↦ put-so-far c y older p t (ap (unfinished Channel.A) (sym (other-link c x t other)) ∙ e) put old.0
    | inl own ↦ mine own old.0 old.1 x.1 refl (ap (unfinished Channel.A) (sym (own-link c x t own)) ∙ e)
        (λ f. put-so-far c y older p t f put old.0)
  ]
  | inr new ↦
      let own : x.0.0 ≡ c = sym new.link_is in
      let parts = newest-a new.beat y older (on_link c t)
      (ap (λ b. unfinished Channel.A (b ∷ on_link c t)) (sym new.beat_is)
      ∙ ap (unfinished Channel.A) (sym (own-link c x t own)) ∙ e) in
      same-asked c x.0.0 y new.beat older (unfinished Channel.A (on_link x.0.0 t))
      (asked_since (find (is_of x.0.0 new.beat.source) (pending_accesses t)) (suc (length t))) p new.link_is parts.0
      (parts.1 ∙ ap (λ d. unfinished Channel.A (on_link d t)) new.link_is) new.access_is
]
  where
    mine : x.0.0 ≡ c → IsPending c y.source p t → AsksNot c y.source x t → (b : Beat w) → x.1 ≡ b
        → unfinished Channel.A (b ∷ on_link c t) ≡ Beat.A y ∷ older
        → (unfinished Channel.A (on_link c t) ≡ Beat.A y ∷ older → p ≡ asked_by c y (Beat.A y ∷ older) p.asked)
        → p ≡ asked_by c y (Beat.A y ∷ older) p.asked
    mine own was never (Beat.A z) is f before =
        let parts = newest-a z y older (on_link c t) f in
        let source : y.source ≡ z.source = ap (λ (b : BeatA w). b.source) parts.0 in
        absurd (asks-or x.0.0 z (on_link x.0.0 t) t (put-asks z.opcode (ends (Beat.A z) (on_link x.0.0 t))
        (ap (λ (b : BeatA w). is_put b.opcode) (sym parts.0) ∙ put))
        (λ new. never z is new (sym own) source)
        (λ access outrun. never-both c y.source p access t was (rw (← own, source) outrun)))
    mine own was never (Beat.B z) is f before = before f
    mine own was never (Beat.C z) is f before = before f
    mine own was never (Beat.D z) is f before = before f
    mine own was never (Beat.E z) is f before = before f

-- ---- the byte at an address that has come

slice-more : (xs ys : List ℕ) (p : ℕ) → p < length xs → slice_get (xs ++ ys) p ≡ slice_get xs p
slice-more [] ys p lt = absurd (omega (arith, lt))
slice-more (x ∷ xs) ys zero lt = refl
slice-more (x ∷ xs) ys (suc p) lt = slice-more xs ys p (omega (arith, lt))

bit-more : (mask more k p : ℕ) → p < k → bit (mask + more * 2 ^ k) p ≡ bit mask p
bit-more mask more k p lt =
    let turned : mask + more * 2 ^ k ≡ more * 2 ^ k + mask = omega arith in
    rw turned (ap (λ n. n == 1) (bit_at_cat_low more k mask p lt))

byte-more : (w : ℕ) (o q : OpA) (base from address mask more k : ℕ) (payload lanes : List ℕ) → o ≡ q → base ≡ from
    → length payload ≡ k → address - w * (base / w) < k
    → (if a_carries_data o then byte_if (λ p. bit (mask + more * 2 ^ k) p) (payload ++ lanes) (place_of w base address)
    else None)
    ≡ (if a_carries_data q then byte_if (λ p. bit mask p) payload (place_of w from address) else None)
byte-more w o q base from address mask more k payload lanes e f long lt =
    rw (← e, ← f) (carrying (a_carries_data o))
  where
    placed : (b : Bool)
        → byte_if (λ p. bit (mask + more * 2 ^ k) p) (payload ++ lanes)
        (if b then Some (address - w * (base / w)) else None)
        ≡ byte_if (λ p. bit mask p) payload (if b then Some (address - w * (base / w)) else None)
    placed false = refl
    placed true = rw (
      bit-more mask more k (address - w * (base / w)) lt,
      slice-more payload lanes (address - w * (base / w)) (omega (arith, long, lt)),
    ) refl

    carrying : (carries : Bool)
        → (if carries then byte_if (λ p. bit (mask + more * 2 ^ k) p) (payload ++ lanes) (place_of w base address) else
        None)
        ≡ (if carries then byte_if (λ p. bit mask p) payload (place_of w base address) else None)
    carrying false = refl
    carrying true = placed (nat_le (w * (base / w)) address)

-- Puts that have the same byte write the same
same-writes : {w : ℕ} (o q : OpA) (m r : MessageA w) (address : ℕ) → o ≡ q → is_put o ≡ true
    → byte_at 0 (Message.A m) address ≡ byte_at 0 (Message.A r) address → writes o m address ≡ writes q r address
same-writes OpA.PutFullData q m r address e put same = rw (← e) (ap is_some same)
same-writes OpA.PutPartialData q m r address e put same = rw (← e) (ap is_some same)
same-writes v q m r address e put same = absurd cc

same-after : {w : ℕ} (o q : OpA) (m r : MessageA w) (f g : Memory) (address : ℕ) → o ≡ q → is_put o ≡ true
    → byte_at 0 (Message.A m) address ≡ byte_at 0 (Message.A r) address → f address ≡ g address
    → after o m f address ≡ after q r g address
same-after OpA.PutFullData q m r f g address e put same at_it =
    rw (← e) (ap (λ b. unwrap_or b (f address)) same ∙ ap (unwrap_or (byte_at 0 (Message.A r) address)) at_it)
same-after OpA.PutPartialData q m r f g address e put same at_it =
    rw (← e) (ap (λ b. unwrap_or b (f address)) same ∙ ap (unwrap_or (byte_at 0 (Message.A r) address)) at_it)
same-after v q m r f g address e put same at_it = absurd cc

-- a value that may be so may be so where a beat more is corrupt
value-more : {w : ℕ} (v i j : ℕ) (spoiled : Bool) (x : Beat w) (o : Option (Beat w)) → i ≡ j
    → could_be v (if is_some o || false then None else Some i) ≡ true
    → could_be v (if is_some (if spoiled then Some x else o) || false then None else Some j) ≡ true
value-more v i j true x o e could = refl
value-more v i j false x o e could = rw (← e) could

-- ---- an access that is asked for again

-- an access that is pending was so before, as far as windows, and the byte at an address, go
pub record WasPending {w : ℕ} (address c s : ℕ) (p : Access w) (t : Trace w) : Type 0 where
  pub old : Access w
  pub pending : IsPending c s old t
  pub asked_is : p.asked ≡ old.asked
  pub opcode_is : p.request.opcode ≡ old.request.opcode
  pub writes_is : access_writes address p ≡ access_writes address old

-- and it is a Put that may write each value there that it might before
pub record HasGrown {w : ℕ} (address c s : ℕ) (p : Access w) (t : Trace w) : Type 0 where
  pub was : WasPending address c s p t
  pub put : is_put p.request.opcode ≡ true
  pub values : (v : ℕ) → could_be v (pending_value was.old.request.opcode was.old address) ≡ true
      → could_be v (pending_value p.request.opcode p address) ≡ true

module _ {w : ℕ} (d : ℕ) (z y : BeatA w) (older : List (Beat w)) (moment address : ℕ) where
  abbrev old : Access w
  old = asked_by d y (Beat.A y ∷ older) moment

  abbrev new : Access w
  new = asked_by d z (Beat.A z ∷ Beat.A y ∷ older) moment

  same-byte : z.opcode ≡ y.opcode → z.address ≡ y.address → length (bytes_carried (Beat.A y ∷ older)) ≡ w * suc
      (length older)
      → address - w * (z.address / w) < w * suc (length older)
      → byte_at 0 (Message.A new.request) address ≡ byte_at 0 (Message.A old.request) address
  unfolding bytes_carried carried_mask
  same-byte opcode address_is long lt =
      byte-more w z.opcode y.opcode z.address y.address address (carried_mask (Beat.A y ∷ older)) z.mask
      (w * suc (length older)) (bytes_carried (Beat.A y ∷ older)) (lanes_of (Beat.A z)) opcode address_is long lt

  same-value : (v : ℕ) → z.opcode ≡ y.opcode → is_put z.opcode ≡ true
      → byte_at 0 (Message.A new.request) address ≡ byte_at 0 (Message.A old.request) address
      → could_be v (pending_value y.opcode old address) ≡ true → could_be v (pending_value z.opcode new address) ≡ true
  unfolding carried_byte effect
  same-value v opcode put same could =
      subst (λ o. could_be v o ≡ true) (put_pending z.opcode new address put)
      (value-more v (after y.opcode old.request (found_memory old.request []) address)
      (after z.opcode new.request (found_memory new.request []) address) z.corrupt (Beat.A z)
      (find is_spoiled (Beat.A y ∷ older))
      (sym (same-after z.opcode y.opcode new.request old.request (found_memory new.request [])
      (found_memory old.request []) address opcode put same refl))
      (subst (λ o. could_be v o ≡ true)
      (sym (put_pending y.opcode old address (ap is_put (sym opcode) ∙ put))) could))

pending-as : {w : ℕ} (c s d i : ℕ) (p : Access w) (t : Trace w) → c ≡ d → s ≡ i → IsPending c s p t → IsPending d i p t
pending-as c s d i p t e f pending = rw (← e, ← f) pending

pub has-grown : {w : ℕ} (address c s : ℕ) (p : Access w) (x : Link × Beat w) (t : Trace w) (now : IsAskedNow c s p x t)
    → GoesOn now.beat (unfinished Channel.A (on_link x.0.0 t)) address → (old : Access w) → IsPending c s old t
    → HasGrown address c s p t
has-grown {w} address c s p x t now on before pending = record {
  was = record {
    old = before;
    pending = pending;
    asked_is = ap (λ (q : Access w). q.asked) new_is;
    opcode_is = ap (λ (q : Access w). q.request.opcode) new_is ∙ fields.0
        ∙ sym (ap (λ (q : Access w). q.request.opcode) old_is);
    writes_is = ap (access_writes address) new_is
        ∙ same-writes z.opcode y.opcode one.request other.request address fields.0 put byte
        ∙ sym (ap (access_writes address) old_is);
  };
  put = ap (λ (q : Access w). is_put q.request.opcode) new_is ∙ put;
  values = λ v could. subst (λ (q : Access w). could_be v (pending_value q.request.opcode q address) ≡ true)
      (sym new_is)
      (same-value x.0.0 z y on.older before.asked address v fields.0 put byte
      (subst (λ (q : Access w). could_be v (pending_value q.request.opcode q address) ≡ true) old_is could));
}
  where
    z : BeatA w
    z = now.beat

    y : BeatA w
    y = on.newest

    fields : (z.opcode ≡ y.opcode) × (z.param ≡ y.param) × (z.size ≡ y.size) × (z.source ≡ y.source)
        × (z.address ≡ y.address)
    fields = control_a z y on.same

    came : (is_put z.opcode ≡ true)
        × (nat_lt (address - w * (z.address / w)) (w * length (unfinished Channel.A (on_link x.0.0 t))) ≡ true)
    came = and_parts (is_put z.opcode)
        (nat_lt (address - w * (z.address / w)) (w * length (unfinished Channel.A (on_link x.0.0 t)))) on.came

    put : is_put z.opcode ≡ true
    put = came.0

    other : Access w
    other = asked_by x.0.0 y (Beat.A y ∷ on.older) before.asked

    one : Access w
    one = asked_by x.0.0 z (Beat.A z ∷ Beat.A y ∷ on.older) before.asked

    old_is : before ≡ other
    old_is = put-so-far x.0.0 y on.older before t on.burst_is (ap is_put (sym fields.0) ∙ put)
        (pending-as c s x.0.0 y.source before t now.link_is (now.source_is ∙ fields.3) pending)

    here : find (is_of x.0.0 z.source) (pending_accesses t) ≡ Some before
    here = pending-as c s x.0.0 z.source before t now.link_is now.source_is pending

    new_is : p ≡ one
    new_is = now.access_is
        ∙ ap (λ (b : List (Beat w)). asked_by x.0.0 z (Beat.A z ∷ b)
        (asked_since (find (is_of x.0.0 z.source) (pending_accesses t)) (suc (length t)))) on.burst_is
        ∙ ap (λ (o : Option (Access w)). asked_by x.0.0 z (Beat.A z ∷ Beat.A y ∷ on.older)
        (asked_since o (suc (length t)))) here

    count : length (unfinished Channel.A (on_link x.0.0 t)) ≡ suc (length on.older)
    count = ap (λ (b : List (Beat w)). length b) on.burst_is

    byte : byte_at 0 (Message.A one.request) address ≡ byte_at 0 (Message.A other.request) address
    byte = same-byte x.0.0 z y on.older before.asked address fields.0 fields.4
        (wide-length (Beat.A y ∷ on.older) (subst (λ (b : List (Beat w)). AreWide b) on.burst_is on.wide))
        (rw (← count) (ltb-true (address - w * (z.address / w)) (w * length (unfinished Channel.A (on_link x.0.0 t)))
        came.1))

-- ---- whether an access is asked for with a beat

pub asked-or : {w : ℕ} (c s : ℕ) (y : Link × Beat w) (t : Trace w)
    → AsksNot c s y t ⊎ ((p : Access w) × IsAskedNow c s p y t)
asked-or {w} c s y t = go y.1 refl
  where
    same_a : (x z : BeatA w) → Beat.A x ≡ Beat.A z → x ≡ z
    same_a x z e = cc

    by : (z : BeatA w) → y.1 ≡ Beat.A z → (b : Bool)
        → asks_new y.0.0 z (on_link y.0.0 t) (outrun_accesses t) ≡ b
        → AsksNot c s y t ⊎ ((p : Access w) × IsAskedNow c s p y t)
    by z e false f = inl (λ x h over. absurd (let no : true ≡ false =
        sym over ∙ ap (λ v. asks_new y.0.0 v (on_link y.0.0 t) (outrun_accesses t)) (same_a x z (sym h ∙ e)) ∙ f
        in cc))
    by z e true f = elim (cases_eq c y.0.0) [
      | inr ne ↦ inl (λ x h over link source. ne link)
      | inl link ↦ elim (cases_eq s z.source) [
        | inr ne ↦ inl (λ x h over own source.
            ne (source ∙ ap (λ (v : BeatA w). v.source) (same_a x z (sym h ∙ e))))
        | inl source ↦ inr (
          _,
          record { beat = z; beat_is = e; asks_it = f; link_is = link; source_is = source; access_is = refl },
        )
      ]
    ]

    go : (b : Beat w) → y.1 ≡ b → AsksNot c s y t ⊎ ((p : Access w) × IsAskedNow c s p y t)
    go (Beat.A z) e = by z e (asks_new y.0.0 z (on_link y.0.0 t) (outrun_accesses t)) refl
    go (Beat.B z) e = inl (λ x h. absurd (let no : Beat.A x ≡ Beat.B z = sym h ∙ e in cc))
    go (Beat.C z) e = inl (λ x h. absurd (let no : Beat.A x ≡ Beat.C z = sym h ∙ e in cc))
    go (Beat.D z) e = inl (λ x h. absurd (let no : Beat.A x ≡ Beat.D z = sym h ∙ e in cc))
    go (Beat.E z) e = inl (λ x h. absurd (let no : Beat.A x ≡ Beat.E z = sym h ∙ e in cc))

-- one that is asked for is pending
pub asked-pending : {w : ℕ} (c s : ℕ) (p : Access w) (y : Link × Beat w) (t : Trace w) → IsAskedNow c s p y t
    → IsPending c s p (y ∷ t)
unfolding pending_accesses
asked-pending c s p y t now =
    rw (now.beat_is, now.asks_it, eq-eqb y.0.0 c (sym now.link_is), eq-eqb now.beat.source s (sym now.source_is))
    (ap Some (sym now.access_is))
