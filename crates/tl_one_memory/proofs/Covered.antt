-- What a byte may be has the value that memory has, with one more beat.
use Rattle.tl_one_memory.proofs.Imports.{Beat, BeatD, Link, unfinished, Trace, on_link, block_at, is_free, Access}
use Rattle.tl_one_memory.proofs.Imports.{access_writes, carried_byte, could_be, is_of, may_be, pending_accesses}
use Rattle.tl_one_memory.proofs.Imports.{pending_value, windows_since, among-filter, same-some, IsPending, asked-by_now}
use Rattle.std.proofs.Common.{◌≡◌, ℕ, suc, Bool, true, false, not, ◌&&◌, ◌<◌, ◌≤◌, ◌%◌, List, [], ◌∷◌, ◌⊎◌, inl, inr}
use Rattle.std.proofs.Common.{length, refl, sym, ap, ◌∙◌, subst, arith}
use Rattle.std.specs.Prelude.{if◌then◌else◌, find, filter, Option, Some, None, ◌==◌, nat_le, nat_lt}
use Rattle.std.proofs.lemmas.Bool.{le-leb, eqb-true, not-false, not-true, ltb-true, or_right}
use Rattle.tl_beat.specs.declared.channel.Channel.{Channel}
use Rattle.tl_burst.specs.statement.Messages.{History}
use Rattle.tl_params.specs.declared.perm.Perm.{Perm}
use Rattle.tl_bytes.specs.declared.telling.Telling.{Telling}
use Rattle.tl_bytes.specs.statement.Bytes.{after_answer, after_beat, after_settling, after_write, is_settled}
use Rattle.tl_bytes.specs.statement.Bytes.{same_value, tells, told_too, value_left, window_began}
unfoldable use Rattle.tl_bytes.specs.statement.Bytes.{last_told, last_window}
use Rattle.tl_bytes.specs.statement.Early.{ends_request, telling_beats}
use Rattle.tl_bytes.proofs.Finding.{Among, among-map, among-or}
use Rattle.tl_bytes.proofs.Pending.{AsksNot, IsAnsweredNow, IsAskedNow, pending-after, pending-before}
use Rattle.tl_memory.proofs.values.Writing.{put_left}
use Rattle.tl_one_memory.proofs.Growing.{HasGrown, WasPending, asked-or, asked-pending}
use Rattle.tl_one_memory.proofs.Outrun.{IsOutrunNow, MayLeave, ReachesOwn, outrun-after, outrun-now}
use Rattle.tl_one_memory.proofs.Spans.{began_by_now, one-still, windowed-more}
use Rattle.tl_one_memory.specs.statement.Run.{may_have_written}

abbrev pub is_writable : {w : ℕ} → ℕ → ℕ → Trace w → Bool
is_writable n address t = is_free n Perm.Trunk (block_at address) t

not-before : (m n : ℕ) → n ≤ m → nat_lt m n ≡ false
not-before m n le = go (nat_lt m n) refl
  where
    go : (b : Bool) → nat_lt m n ≡ b → b ≡ false
    go false e = refl
    go true e = absurd (let lt = ltb-true m n e in omega (arith, lt, le))

-- no message set the byte since its block was last free for writing
abbrev pub IsUntold : {w : ℕ} → ℕ → ℕ → Trace w → Type 0
IsUntold n address t = nat_lt (last_window n (block_at address) t) (last_told (block_at address) t) ≡ false

told_by_now : {w : ℕ} (block : ℕ) (t : Trace w) → last_told block t ≤ length t
unfolding last_told
told_by_now block [] = omega arith
told_by_now {w} block (x ∷ t) = go (tells block x.1 (on_link x.0.0 t)) (told_by_now block t)
  where
    go : (b : Bool) → last_told block t ≤ length t → (if b then suc (length t) else last_told block t) ≤ suc (length t)
    go true le = omega arith
    go false le = omega (arith, le)

-- so it is where the block is free for writing
pub untold-free : {w : ℕ} (n address : ℕ) (t : Trace w) → is_writable n address t ≡ true → IsUntold n address t
unfolding last_window
untold-free n address [] free = not-before 0 (last_told (block_at address) []) (told_by_now (block_at address) [])
untold-free n address (x ∷ t) free =
    rw free (not-before (suc (length t)) (last_told (block_at address) (x ∷ t)) (told_by_now (block_at address) (x ∷ t)))

-- and after a beat that doesn't set the byte
untold-after : {w : ℕ} (n address : ℕ) (x : Link × Beat w) (t : Trace w) → tells (block_at address) x.1 (on_link x.0.0 t)
    ≡ false → IsUntold n address t → IsUntold n address (x ∷ t)
unfolding last_told last_window
untold-after {w} n address x t untold was = rw untold (go (is_writable n address (x ∷ t)))
  where
    go : (b : Bool) → nat_lt (if b then suc (length t) else last_window n (block_at address) t)
        (last_told (block_at address) t) ≡ false
    go true = not-before (suc (length t)) (last_told (block_at address) t)
        (let le = told_by_now (block_at address) t in omega (arith, le))
    go false = was

-- `done` are the accesses that were performed at the address and aren't answered whole, and `Answers` says what answers
-- them

-- each pending access that was performed, and writes the byte, has had a window
abbrev pub AreWindowed : {w : ℕ} → ℕ → ℕ → (ℕ → ℕ → Type 0) → Trace w → Type 0
AreWindowed {w} n address done t = (c s : ℕ) (p : Access w) → done c s → IsPending c s p t
    → access_writes address p ≡ true → 0 < windows_since n (block_at address) p.asked t

-- no such access that has had one window, which is open, has had it since a later moment
abbrev pub IsLate : {w : ℕ} → ℕ → ℕ → (ℕ → ℕ → Type 0) → Trace w → ℕ → Type 0
IsLate {w} n address done t moment = (c s : ℕ) (p : Access w) → done c s → IsPending c s p t
    → access_writes address p ≡ true → is_writable n address t ≡ true
    → windows_since n (block_at address) p.asked t ≡ 1 → window_began n (block_at address) p.asked t ≤ moment

-- the value is one that the byte may be, told since then
abbrev pub IsToldLate : {w : ℕ} → ℕ → ℕ → ℕ → (ℕ → ℕ → Type 0) → Trace w → Telling → Type 0
IsToldLate n address v done t e = (could_be v e.value ≡ true) × IsLate n address done t e.moment

-- it is what a pending access has written, in a window behind which no message has set the byte
pub record IsWrittenNow {w : ℕ} (n address v : ℕ) (done : ℕ → ℕ → Type 0) (Answers : ℕ → ℕ → Access w → List (Beat w)
    → Type 0) (t : Trace w) : Type 0 where
  pub link : ℕ
  pub source : ℕ
  pub access : Access w
  pub performed : done link source
  pub pending : IsPending link source access t
  pub writes : access_writes address access ≡ true
  pub value_is : (burst : List (Beat w)) → Answers link source access burst
      → could_be v (value_left access.request.opcode access burst address) ≡ true
  pub pending_is : could_be v (pending_value access.request.opcode access address) ≡ true
  pub untold : IsUntold n address t

-- it was told, or written now, or an access has it whose answer outran its request
abbrev pub IsCovered : {w : ℕ} → ℕ → ℕ → ℕ → (ℕ → ℕ → Type 0) → (ℕ → ℕ → Access w → List (Beat w) → Type 0) → Trace w
    → Type 0
IsCovered n address v done Answers t = Among (IsToldLate n address v done t) (may_be n address t)
    ⊎ (IsWrittenNow n address v done Answers t ⊎ MayLeave address t)

-- what is known of the beat that comes after t
pub record IsOrderly {w : ℕ} (n address v : ℕ) (done : ℕ → ℕ → Type 0)
    (Answers : ℕ → ℕ → Access w → List (Beat w) → Type 0)
    (y : Link × Beat w) (t : Trace w) : Type 0 where
  -- an access that is asked for, and was performed at the address, is a Put that goes on
  pub asks_again : (c s : ℕ) (p : Access w) → IsAskedNow c s p y t → done c s → HasGrown address c s p t
  -- one that is answered was, if it writes the byte and isn't denied, with this answer
  pub answers_done : (z : BeatD w) (p : Access w) → y.1 ≡ Beat.D z → ends_request z (on_link y.0.0 t) ≡ true
      → IsPending y.0.0 z.source p t → access_writes address p ≡ true
      → (z.denied ≡ false → done y.0.0 z.source)
      × Answers y.0.0 z.source p (Beat.D z ∷ unfinished Channel.D (on_link y.0.0 t))
  -- an answer that comes before its request is complete is to the access that may have written the byte
  pub outruns_own : (c s : ℕ) → may_have_written c s address t ≡ true → ReachesOwn address c s y t

pub could_be-same : (v : ℕ) (a b : Option ℕ) → could_be v a ≡ true → same_value a b ≡ true → could_be v b ≡ true
could_be-same v a None e f = refl
could_be-same v None (Some u) e f = absurd cc
could_be-same v (Some u) (Some x) e f = ap (λ (i : ℕ). i == v) (sym (eqb-true u x f)) ∙ e

module _ {w : ℕ} (n address v : ℕ) (done : ℕ → ℕ → Type 0) (Answers : ℕ → ℕ → Access w → List (Beat w) → Type 0)
    (t : Trace w) where
  abbrev block : ℕ
  block = block_at address

  abbrev Told : Telling → Type 0
  Told = IsToldLate n address v done t

  late-now : IsLate n address done t (length t)
  late-now c s p performed pending writes free one = began_by_now n block p.asked t

  -- ---- an access is answered

  module _ (c s : ℕ) (p : Access w) (denied : Bool) (performed : denied ≡ false → done c s)
      (pending : IsPending c s p t)
      (writes : access_writes address p ≡ true) (given : Option ℕ) where
    abbrev now : Telling
    now = record { value = given; moment = length t }

    written-too : (before : List Telling) → Among Told before → Among Told (told_too now before)
    written-too before is = among-or Told (λ e. not (same_value e.value now.value)) now before
        (λ e told same. (
          could_be-same v e.value now.value told.0 (not-false (same_value e.value now.value) same),
          late-now,
        )) is

    written-after : (before : List Telling) → Among Told before → Among Told (after_write n block p denied now t before)
    written-after before is = go (is_writable n address t) refl (windows_since n block p.asked t == 1) refl (not denied)
        refl
        (nat_lt (last_window n block t) (last_told block t))
      where
        go : (free : Bool) → is_writable n address t ≡ free → (one : Bool)
            → (windows_since n block p.asked t == 1) ≡ one → (granted : Bool) → not denied ≡ granted → (told : Bool)
            → Among Told (if free then if one && granted then told_too now
            (filter (λ e. nat_le (window_began n block p.asked t) e.moment) before) else told_too now before else
            if told then before else told_too now before)
        go true free true one true given told =
            written-too (filter (λ e. nat_le (window_began n block p.asked t) e.moment) before)
            (among-filter Told (λ e. nat_le (window_began n block p.asked t) e.moment) before
            (λ e late. le-leb (window_began n block p.asked t) e.moment
            (late.1 c s p (performed (not-true denied given)) pending writes free
            (eqb-true (windows_since n block p.asked t) 1 one))) is)
        go false free one e granted given true = is
        go v free u one x given y = written-too before is

    written-now : (before : List Telling) → could_be v given ≡ true → IsUntold n address t
        → Among Told (after_write n block p denied now t before)
    written-now before could untold =
        rw untold (go (is_writable n address t) ((windows_since n block p.asked t == 1) && not denied))
      where
        go : (free : Bool) → (one : Bool)
            → Among Told (if free then if one then told_too now
            (filter (λ e. nat_le (window_began n block p.asked t) e.moment) before) else told_too now before else
            told_too now before)
        go true true = inl (could, late-now)
        go true false = inl (could, late-now)
        go false one = inl (could, late-now)

  -- ---- one more beat

  module _ (y : Link × Beat w) (orderly : IsOrderly n address v done Answers y t)
      (windowed : AreWindowed n address done t) where
    abbrev past : History w
    past = on_link y.0.0 t

    pending-was : (c s : ℕ) (p : Access w) → done c s → IsPending c s p (y ∷ t) → WasPending address c s p t
    pending-was c s p performed pending = elim (pending-before c s p y t pending) [
      | inl old ↦ record { old = p; pending = old.0; asked_is = refl; opcode_is = refl; writes_is = refl }
      | inr new ↦ (orderly.asks_again c s p new performed).was
    ]

    pub windowed-after : AreWindowed n address done (y ∷ t)
    windowed-after c s p performed pending writes =
        let was = pending-was c s p performed pending in
        rw was.asked_is
        (windowed-more n block was.old.asked y t (asked-by_now c s was.old t was.pending).by_now
        (windowed c s was.old performed was.pending (sym was.writes_is ∙ writes)))

    late-after : (moment : ℕ) → IsLate n address done t moment → IsLate n address done (y ∷ t) moment
    late-after moment late c s p performed pending writes free one =
        let was = pending-was c s p performed pending in
        let wrote : access_writes address was.old ≡ true = sym was.writes_is ∙ writes in
        let still = one-still n block was.old.asked y t (asked-by_now c s was.old t was.pending).by_now
        (windowed c s was.old performed was.pending wrote) free
        (ap (λ k. windows_since n block k (y ∷ t)) (sym was.asked_is) ∙ one) in
        let le = late c s was.old performed was.pending wrote still.was_free still.was_one in
        rw was.asked_is (omega (arith, le, still.began_is))

    told-after : (tellings : List Telling) → Among Told tellings → Among (IsToldLate n address v done (y ∷ t)) tellings
    told-after tellings is = among-map Told (IsToldLate n address v done (y ∷ t)) tellings
        (λ e told. (told.0, late-after e.moment told.1)) is

    -- of what isn't told by it
    told-beat : Among Told (may_be n address t) → Among Told (after_beat n address y.0.0 y.1 t (may_be n address t))
    told-beat is = go y.1 refl
      where
        found : (z : BeatD w) → y.1 ≡ Beat.D z → ends_request z past ≡ true → (o : Option (Access w))
            → find (is_of y.0.0 z.source) (pending_accesses t) ≡ o
            → Among Told (after_answer n address o (Beat.D z ∷ unfinished Channel.D past) t (may_be n address t))
        found z e f None g = is
        found z e f (Some p) g = go (access_writes address p) refl
          where
            go : (b : Bool) → access_writes address p ≡ b
                → Among Told (if b then after_write n block p z.denied
                (record {
                  value = value_left p.request.opcode p (Beat.D z ∷ unfinished Channel.D past) address;
                  moment = length t;
                }) t
                (may_be n address t) else may_be n address t)
            go false i = is
            go true i = written-after y.0.0 z.source p z.denied (orderly.answers_done z p e f g i).0 g i
                (value_left p.request.opcode p (Beat.D z ∷ unfinished Channel.D past) address) (may_be n address t) is

        ended : (z : BeatD w) → y.1 ≡ Beat.D z → (b : Bool) → ends_request z past ≡ b
            → Among Told (if b then after_answer n address (find (is_of y.0.0 z.source) (pending_accesses t))
            (Beat.D z ∷ unfinished Channel.D past) t (may_be n address t) else may_be n address t)
        ended z e true f = found z e f (find (is_of y.0.0 z.source) (pending_accesses t)) refl
        ended z e false f = is

        go : (b : Beat w) → y.1 ≡ b → Among Told (after_beat n address y.0.0 b t (may_be n address t))
        go (Beat.D z) e = ended z e (ends_request z past) refl
        go v e = is

    -- what the access has written that is answered now
    answered-beat : (c s : ℕ) (p : Access w) → done c s → IsPending c s p t → access_writes address p ≡ true
        → ((burst : List (Beat w)) → Answers c s p burst
        → could_be v (value_left p.request.opcode p burst address) ≡ true)
        → IsUntold n address t → (now : IsAnsweredNow c s y t) → ends_request now.last past ≡ true
        → Among Told (after_beat n address y.0.0 y.1 t (may_be n address t))
    answered-beat c s p performed pending writes value untold now completes =
        rw (now.beat_is, completes, here, writes)
        (written-now c s p now.last.denied (λ granted. performed) pending writes
        (value_left p.request.opcode p (Beat.D now.last ∷ unfinished Channel.D past)
        address) (may_be n address t) (value (Beat.D now.last ∷ unfinished Channel.D past)
        (rw (now.link_is, now.source_is) (orderly.answers_done now.last p now.beat_is completes here writes).1))
        untold)
      where
        here : find (is_of y.0.0 now.last.source) (pending_accesses t) ≡ Some p
        here = rw (← now.link_is, ← now.source_is) pending

    -- and with an access that is settled with it
    settled-told : (before : List Telling) → Among (IsToldLate n address v done (y ∷ t)) before
        → Among (IsToldLate n address v done (y ∷ t)) (after_settling address y t before)
    settled-told before is = go (is_settled address y t)
      where
        go : (b : Bool) → Among (IsToldLate n address v done (y ∷ t))
            (if b then told_too (record { value = None; moment = length t }) before else before)
        go true = inl (refl, late-after (length t) late-now)
        go false = is

    -- who may have written the byte
    pending-written : (c s : ℕ) (p : Access w) → IsPending c s p t → access_writes address p ≡ true
        → may_have_written c s address t ≡ true
    pending-written c s p pending writes = rw (pending, writes) refl

    outrun-written : (left : MayLeave address t) → may_have_written left.link left.source address t ≡ true
    outrun-written left = rw left.is (or_right _ _ left.reached)

    -- where what is told is so, and it was so where nothing is
    pub covered-after : (tells block y.1 past ≡ true
        → could_be v (carried_byte (telling_beats y.1 past) (address % 64)) ≡ true)
        → (tells block y.1 past ≡ false → IsCovered n address v done Answers t)
        → IsCovered n address v done Answers (y ∷ t)
    unfolding may_be
    covered-after told_so old = go (tells block y.1 past) refl
      where
        -- of a Put that goes on
        grown : tells block y.1 past ≡ false → (now : IsWrittenNow n address v done Answers t) (p : Access w)
            → IsAskedNow now.link now.source p y t → IsWrittenNow n address v done Answers (y ∷ t)
        grown e now p asked = record {
          link = now.link;
          source = now.source;
          access = p;
          performed = now.performed;
          pending = asked-pending now.link now.source p y t asked;
          writes = more.was.writes_is ∙ ap (access_writes address) same ∙ now.writes;
          value_is = λ burst answers.
              ap (could_be v) (sym (put_left p.request.opcode p burst address more.put)) ∙ could;
          pending_is = could;
          untold = untold-after n address y t e now.untold;
        }
          where
            more : HasGrown address now.link now.source p t
            more = orderly.asks_again now.link now.source p asked now.performed

            same : more.was.old ≡ now.access
            same = same-some now.access more.was.old (sym now.pending ∙ more.was.pending)

            could : could_be v (pending_value p.request.opcode p address) ≡ true
            could = more.values v (subst (λ (q : Access w). could_be v (pending_value q.request.opcode q address)
                ≡ true)
                (sym same) now.pending_is)

        unasked : tells block y.1 past ≡ false → (now : IsWrittenNow n address v done Answers t)
            → AsksNot now.link now.source y t → IsCovered n address v done Answers (y ∷ t)
        unasked e now never = elim (pending-after now.link now.source now.access y t now.pending never) [
          | inl pending ↦ inr (inl (record {
            link = now.link;
            source = now.source;
            access = now.access;
            performed = now.performed;
            pending = pending;
            writes = now.writes;
            value_is = now.value_is;
            pending_is = now.pending_is;
            untold = untold-after n address y t e now.untold;
          }))
          | inr answered ↦ by (ends_request answered.last past) answered refl
        ]
          where
            by : (b : Bool) → (answered : IsAnsweredNow now.link now.source y t) → ends_request answered.last past ≡ b
                → IsCovered n address v done Answers (y ∷ t)
            by true answered f = inl (rw e (settled-told (after_beat n address y.0.0 y.1 t (may_be n address t))
                (told-after (after_beat n address y.0.0 y.1 t (may_be n address t))
                (answered-beat now.link now.source now.access now.performed now.pending now.writes now.value_is
                now.untold answered f))))
            by false answered f =
                let early : IsOutrunNow now.link now.source y t =
                record {
                  beat = answered.last;
                  beat_is = answered.beat_is;
                  early = rw f at answered.completes;
                  link_is = answered.link_is;
                  source_is = answered.source_is;
                } in
                inr (inr (outrun-now address now.link now.source y t early
                (orderly.outruns_own now.link now.source (pending-written now.link now.source now.access now.pending
                now.writes))))

        written : tells block y.1 past ≡ false → IsWrittenNow n address v done Answers t
            → IsCovered n address v done Answers (y ∷ t)
        written e now = elim (asked-or now.link now.source y t) [
          | inr again ↦ inr (inl (grown e now again.0 again.1))
          | inl never ↦ unasked e now never
        ]

        go : (b : Bool) → tells block y.1 past ≡ b → IsCovered n address v done Answers (y ∷ t)
        go true e = inl (rw e (inl (told_so e, late-after (length t) late-now)))
        go false e = elim (old e) [
          | inl told ↦ inl (rw e (settled-told (after_beat n address y.0.0 y.1 t (may_be n address t))
              (told-after (after_beat n address y.0.0 y.1 t (may_be n address t)) (told-beat told))))
          | inr now ↦ elim now [
            | inl now ↦ written e now
            | inr left ↦ elim (outrun-after address y t left
                (orderly.outruns_own left.link left.source (outrun-written left))) [
                  | inl still ↦ inr (inr still)
                  | inr settled ↦ inl (rw (e, settled) (inl (refl, late-after (length t) late-now)))
                ]
          ]
        ]
