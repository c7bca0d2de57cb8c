-- A request that is pending and complete was completed by a beat since which no answer to it was.
use Rattle.tl_true_bytes.proofs.Imports.{Beat, BeatA, BeatD, OpA, data_beats, History, unfinished, ends, is_release_ack}
use Rattle.tl_true_bytes.proofs.Imports.{pending, request_of, is_access, same_d, Channel}
use Rattle.std.proofs.Common.{◌≡◌, ℕ, suc, Bool, true, false, not, ◌&&◌, ◌||◌, ◌+◌, List, [], ◌∷◌, length, ◌⊎◌, inl, inr}
use Rattle.std.proofs.Common.{refl, sym, ◌∙◌, ap, arith}
use Rattle.std.specs.Prelude.{if◌then◌else◌, ◌==◌, Option, Some, None}
use Rattle.std.proofs.lemmas.Bool.{and_from, and_parts, eq-eqb, eqb-true}
use Rattle.tl_beat.specs.statement.Opcode.{a_carries_data}
use Rattle.tl_bytes.specs.statement.Bytes.{asks, is_put}
use Rattle.tl_burst.specs.statement.Part.{is_empty}
use Rattle.tl_params.specs.declared.key.Key.TheVariants.{RequestSource}
use Rattle.tl_rules.{specs.statement.Conformance.comes_in_request, specs.statement.History.begins}

-- the request, where there is one, is of an access
abbrev pub asks_access : {w : ℕ} → Option (BeatA w) → Bool
asks_access None = false
asks_access (Some x) = is_access x.opcode

-- the request with this source is pending and complete, and is of an access
pub record IsOpen {w : ℕ} (s : ℕ) (h : History w) : Type 0 where
  pub pending_is : pending (RequestSource s) h ≡ true
  pub whole : comes_in_request s (unfinished Channel.A h) ≡ false
  pub accesses : asks_access (request_of s h) ≡ true

-- the beat completes the request of an access with this source
pub record IsAskedBy {w : ℕ} (s : ℕ) (y : Beat w) (h : History w) : Type 0 where
  pub last : BeatA w
  pub beat_is : y ≡ Beat.A last
  pub completes_is : is_access last.opcode && ends (Beat.A last) h ≡ true
  pub source_is : last.source ≡ s

-- the beat doesn't complete the answer to the request with this source
abbrev pub LeavesOpen : {w : ℕ} → ℕ → Beat w → History w → Type 0
LeavesOpen {w} s y h = (z : BeatD w) → y ≡ Beat.D z → not (is_release_ack z.opcode) && ends (Beat.D z) h ≡ true
    → z.source ≡ s → ⊥

-- a beat of channel A goes on with the request that has begun
abbrev pub GoesOn : {w : ℕ} → Beat w → History w → Type 0
GoesOn {w} y h = (z v : BeatA w) (older : List (Beat w)) → y ≡ Beat.A z → unfinished Channel.A h ≡ Beat.A v ∷ older
    → z.source ≡ v.source

unopened : (b c d : Bool) → (if b && false then true else (if c && false then false else d)) ≡ d
unopened true true d = refl
unopened true false d = refl
unopened false true d = refl
unopened false false d = refl

-- one that reads and writes nothing has one beat
one_beat : (w : ℕ) (o : OpA) (size : ℕ) → is_access o ≡ false → (if a_carries_data o then data_beats w size else 1) ≡ 1
one_beat w OpA.Intent size e = refl
one_beat w OpA.AcquireBlock size e = refl
one_beat w OpA.AcquirePerm size e = refl
one_beat w v size e = absurd cc

only_beat : {w : ℕ} (u : List (Beat w)) (n : ℕ) → n ≡ 1 → (length u + 1 == n) ≡ true → is_empty u ≡ true
only_beat [] n one e = refl
only_beat (x ∷ u) n one e =
    let long : suc (length u) + 1 ≡ n = eqb-true (suc (length u) + 1) n e in
    absurd (omega (arith, long, one))

-- a beat of channel A behind which no more of a request is to come, of which more was to come before it, asks for an
-- access with its source
pub last-asks : {w : ℕ} (s : ℕ) (z : BeatA w) (h : History w) → GoesOn (Beat.A z) h
    → comes_in_request s (unfinished Channel.A h) ≡ true → comes_in_request s (unfinished Channel.A (Beat.A z ∷ h)) ≡ false
    → (asks z h ≡ true) × (z.source ≡ s)
unfolding unfinished
last-asks {w} s z h goes_on before after = go (unfinished Channel.A h) refl before
  where
    go : (u : List (Beat w)) → unfinished Channel.A h ≡ u → comes_in_request s u ≡ true
        → (asks z h ≡ true) × (z.source ≡ s)
    go (Beat.A v ∷ older) is come = (last (ends (Beat.A z) h) refl after, source)
      where
        source : z.source ≡ s
        source = goes_on z v older refl is ∙ eqb-true v.source s come

        access : (b : Bool) → is_access z.opcode ≡ b → ends (Beat.A z) h ≡ true → b ≡ true
        access true e l = refl
        access false e l = absurd (let no : false ≡ true = sym (ap is_empty is)
            ∙ only_beat (unfinished Channel.A h) _ (one_beat w z.opcode z.size e) l in cc)

        last : (b : Bool) → ends (Beat.A z) h ≡ b
            → comes_in_request s (if b then [] else Beat.A z ∷ unfinished Channel.A h) ≡ false → asks z h ≡ true
        last true e whole = and_from (is_access z.opcode) (is_put z.opcode || ends (Beat.A z) h)
            (access (is_access z.opcode) refl e) (either (is_put z.opcode) e)
          where
            either : (b : Bool) → ends (Beat.A z) h ≡ true → b || ends (Beat.A z) h ≡ true
            either true l = refl
            either false l = l
        last false e whole = absurd (let no : true ≡ false = sym (eq-eqb z.source s source) ∙ whole in cc)
    go v is come = absurd cc

module _ {w : ℕ} (s : ℕ) (h : History w) where
  -- with a beat of channel D
  open-before_d : (z : BeatD w) → IsOpen s (Beat.D z ∷ h) → IsOpen s h × LeavesOpen s (Beat.D z) h
  unfolding pending unfinished request_of
  open-before_d z is = go (begins (Beat.D z) h)
      (ends (Beat.D z) h && (not (is_release_ack z.opcode) && (z.source == s)))
      refl is.pending_is
    where
      kept : ends (Beat.D z) h && (not (is_release_ack z.opcode) && (z.source == s)) ≡ false
          → pending (RequestSource s) h ≡ true → IsOpen s h × LeavesOpen s (Beat.D z) h
      kept e f = (
        record { pending_is = f; whole = is.whole; accesses = is.accesses },
        λ y y_is answers from.
            let parts = and_parts (not (is_release_ack y.opcode)) (ends (Beat.D y) h) answers in
            let all : ends (Beat.D y) h && (not (is_release_ack y.opcode) && (y.source == s)) ≡ true =
            and_from _ _ parts.1 (and_from _ _ parts.0 (eq-eqb y.source s from)) in
            let no : true ≡ false = sym all
            ∙ sym (ap (λ (v : BeatD w). ends (Beat.D v) h && (not (is_release_ack v.opcode) && (v.source == s)))
            (same_d z y y_is)) ∙ e in cc,
      )

      go : (b c : Bool) → ends (Beat.D z) h && (not (is_release_ack z.opcode) && (z.source == s)) ≡ c
          → (if b && false then true else (if c then false else pending (RequestSource s) h)) ≡ true
          → IsOpen s h × LeavesOpen s (Beat.D z) h
      go true true e f = absurd cc
      go false true e f = absurd cc
      go true false e f = kept e f
      go false false e f = kept e f

  -- with a beat of channel A
  open-before_a : (z : BeatA w) → GoesOn (Beat.A z) h → IsOpen s (Beat.A z ∷ h) → IsOpen s h ⊎ IsAskedBy s (Beat.A z) h
  unfolding pending unfinished request_of
  open-before_a z goes_on is = go (z.source == s) refl (begins (Beat.A z) h) refl (ends (Beat.A z) h) refl is.pending_is
      is.whole is.accesses
    where
      u : List (Beat w)
      u = unfinished Channel.A h

      go : (own : Bool) → (z.source == s) ≡ own → (first : Bool) → is_empty u ≡ first → (last : Bool)
          → ends (Beat.A z) h ≡ last
          → (if first && own then true else (if last && false then false else pending (RequestSource s) h)) ≡ true
          → comes_in_request s (if last then [] else Beat.A z ∷ u) ≡ false
          → asks_access (if first && own then Some z else request_of s h) ≡ true → IsOpen s h ⊎ IsAskedBy s (Beat.A z) h
      go true own first f false l p whole accesses =
          absurd (let no : true ≡ false = sym own ∙ whole in cc)
      go true own first f true l p whole accesses = inr (record {
        last = z;
        beat_is = refl;
        completes_is = and_from (is_access z.opcode) (ends (Beat.A z) h)
            (reads (is_access z.opcode) refl first f accesses) l;
        source_is = eqb-true z.source s own;
      })
        where
          reads : (b : Bool) → is_access z.opcode ≡ b → (i : Bool) → is_empty u ≡ i
              → asks_access (if i && true then Some z else request_of s h) ≡ true → b ≡ true
          reads true e i g so = refl
          reads false e true g so = let no : false ≡ true = sym e ∙ so in cc
          reads false e false g so =
              let no : false ≡ true = sym g ∙ only_beat u _ (one_beat w z.opcode z.size e) l in absurd cc
      go false other first f last l p whole accesses = inl (record {
        pending_is = now first last p;
        whole = rest u refl;
        accesses = mine first accesses;
      })
        where
          now : (b c : Bool) → (if b && false then true else (if c && false then false else pending (RequestSource s)
              h)) ≡ true → pending (RequestSource s) h ≡ true
          now b c e = sym (unopened b c (pending (RequestSource s) h)) ∙ e

          mine : (b : Bool) → asks_access (if b && false then Some z else request_of s h) ≡ true
              → asks_access (request_of s h) ≡ true
          mine true e = e
          mine false e = e

          rest : (v : List (Beat w)) → u ≡ v → comes_in_request s v ≡ false
          rest (Beat.A v ∷ older) e = ap (λ k. k == s) (sym (goes_on z v older refl e)) ∙ other
          rest v e = refl

  -- so it was before, and isn't answered now, or is asked for now
  pub open-before : (y : Beat w) → GoesOn y h → IsOpen s (y ∷ h) → (IsOpen s h × LeavesOpen s y h) ⊎ IsAskedBy s y h
  unfolding pending unfinished request_of
  open-before (Beat.A z) goes_on is = elim (open-before_a z goes_on is) [
    | inl old ↦ inl (old, λ y e. absurd cc)
    | inr new ↦ inr new
  ]
  open-before (Beat.D z) goes_on is = inl (open-before_d z is)
  open-before (Beat.B z) goes_on is = inl (
    record {
      pending_is = sym (unopened (begins (Beat.B z) h) (ends (Beat.B z) h) (pending (RequestSource s) h))
          ∙ is.pending_is;
      whole = is.whole;
      accesses = is.accesses;
    },
    λ y e. absurd cc,
  )
  open-before (Beat.C z) goes_on is = inl (
    record {
      pending_is = sym (unopened (begins (Beat.C z) h) (ends (Beat.C z) h) (pending (RequestSource s) h))
          ∙ is.pending_is;
      whole = is.whole;
      accesses = is.accesses;
    },
    λ y e. absurd cc,
  )
  open-before (Beat.E z) goes_on is = inl (
    record {
      pending_is = sym (unopened (begins (Beat.E z) h) (ends (Beat.E z) h) (pending (RequestSource s) h))
          ∙ is.pending_is;
      whole = is.whole;
      accesses = is.accesses;
    },
    λ y e. absurd cc,
  )
