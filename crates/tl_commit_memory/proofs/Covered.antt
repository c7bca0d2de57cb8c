-- One of the possible values of a byte is the one that memory has, or a pending access writes it, with one more beat.
use Rattle.tl_commit_memory.proofs.Imports.{Access, Among, Beat, BeatD, Channel, IsPending, Link, Telling, Trace}
use Rattle.tl_commit_memory.proofs.Imports.{access_writes, among-filter, among-map, asked-by_now, block_at, could_be}
use Rattle.tl_commit_memory.proofs.Imports.{is_of, on_link, pending_accesses, pending_value, same-some}
use Rattle.tl_commit_memory.proofs.Imports.{unfinished, windows_since}
use Rattle.std.proofs.Common.{◌≡◌, ℕ, suc, Bool, true, false, not, ◌&&◌, ◌≤◌, List, [], ◌∷◌, ◌⊎◌, inl, inr, length}
use Rattle.std.proofs.Common.{refl, sym, ap, ◌∙◌, subst, arith}
use Rattle.std.specs.Prelude.{if◌then◌else◌, find, filter, Option, Some, None, ◌==◌, nat_le, nat_lt}
use Rattle.std.proofs.lemmas.Bool.{le-leb, eqb-true, not-false, not-true, ltb-true, or_right}
use Rattle.tl_burst.specs.statement.Messages.{History}
use Rattle.tl_bytes.specs.statement.Bytes.{after_answer, after_beat, after_settling, after_write, is_settled}
unfoldable use Rattle.tl_bytes.specs.statement.Bytes.{last_told, last_window}
use Rattle.tl_bytes.specs.statement.Bytes.{same_value, tells, told_too, value_left, window_began}
use Rattle.tl_bytes.specs.statement.Early.{ends_request}
use Rattle.tl_bytes.proofs.Finding.{among-or}
use Rattle.tl_bytes.proofs.Pending.{AsksNot, IsAnsweredNow, IsAskedNow, pending-after, pending-before}
use Rattle.tl_memory.proofs.values.Writing.{put_left}
use Rattle.tl_one_memory.proofs.Covered.{AreWindowed, IsLate, IsOrderly, IsToldLate, IsUntold, IsWrittenNow}
use Rattle.tl_one_memory.proofs.Covered.{could_be-same, is_writable}
use Rattle.tl_one_memory.proofs.Growing.{HasGrown, WasPending, asked-or, asked-pending}
use Rattle.tl_one_memory.proofs.Outrun.{IsOutrunNow, MayLeave, outrun-after, outrun-now}
use Rattle.tl_one_memory.proofs.Spans.{began_by_now, one-still}
use Rattle.tl_one_memory.specs.statement.Run.{may_have_written}

-- ---- no message sets the byte

told_by_now : {w : ℕ} (block : ℕ) (t : Trace w) → last_told block t ≤ length t
unfolding last_told
told_by_now block [] = omega arith
told_by_now {w} block (x ∷ t) = go (tells block x.1 (on_link x.0.0 t)) (told_by_now block t)
  where
    go : (b : Bool) → last_told block t ≤ length t → (if b then suc (length t) else last_told block t) ≤ suc (length t)
    go true le = omega arith
    go false le = omega (arith, le)

-- and the window behind which none did stays the last
untold-after : {w : ℕ} (n address : ℕ) (x : Link × Beat w) (t : Trace w)
    → tells (block_at address) x.1 (on_link x.0.0 t) ≡ false → IsUntold n address t → IsUntold n address (x ∷ t)
unfolding last_told last_window
untold-after {w} n address x t untold was = rw untold (go (is_writable n address (x ∷ t)))
  where
    go : (b : Bool) → nat_lt (if b then suc (length t) else last_window n (block_at address) t)
        (last_told (block_at address) t) ≡ false
    go true = past-now (nat_lt (suc (length t)) (last_told (block_at address) t)) refl
      where
        past-now : (b : Bool) → nat_lt (suc (length t)) (last_told (block_at address) t) ≡ b → b ≡ false
        past-now false e = refl
        past-now true e = absurd (let lt = ltb-true (suc (length t)) (last_told (block_at address) t) e in
            let le = told_by_now (block_at address) t in omega (arith, lt, le))
    go false = was

-- ---- the possible values

-- One of these possible values was told late, or a pending access has written the byte now, or one has it whose answer
-- outran its request.
abbrev pub IsCoveredBy : {w : ℕ} → ℕ → ℕ → ℕ → (ℕ → ℕ → Type 0) → (ℕ → ℕ → Access w → List (Beat w) → Type 0) → Trace w
    → List Telling → Type 0
IsCoveredBy n address v done Answers t values = Among (IsToldLate n address v done t) values
    ⊎ (IsWrittenNow n address v done Answers t ⊎ MayLeave address t)

-- these with a beat that tells nothing
abbrev pub with_untold : {w : ℕ} → ℕ → ℕ → Link × Beat w → Trace w → List Telling → List Telling
with_untold n address y t values = after_settling address y t (after_beat n address y.0.0 y.1 t values)

module _ {w : ℕ} (n address v : ℕ) (done : ℕ → ℕ → Type 0) (Answers : ℕ → ℕ → Access w → List (Beat w) → Type 0)
    (t : Trace w) where
  abbrev block : ℕ
  block = block_at address

  abbrev Told : Telling → Type 0
  Told = IsToldLate n address v done t

  late-now : IsLate n address done t (length t)
  late-now c s p performed pending writes free one = began_by_now n block p.asked t

  -- what is told now is told late
  pub told-now : (value : Option ℕ) → could_be v value ≡ true → (rest : List Telling)
      → Among Told (record { value = value; moment = length t } ∷ rest)
  told-now value could rest = inl (could, late-now)

  -- ---- an access is answered

  module _ (c s : ℕ) (p : Access w) (denied : Bool) (performed : denied ≡ false → done c s)
      (pending : IsPending c s p t)
      (writes : access_writes address p ≡ true) (given : Option ℕ) where
    abbrev now : Telling
    now = record { value = given; moment = length t }

    written-too : (before : List Telling) → Among Told before → Among Told (told_too now before)
    written-too before is = among-or Told (λ e. not (same_value e.value now.value)) now before
        (λ e told same. (
          could_be-same v e.value now.value told.0 (not-false (same_value e.value now.value) same),
          late-now,
        )) is

    written-after : (before : List Telling) → Among Told before → Among Told (after_write n block p denied now t before)
    written-after before is = go (is_writable n address t) refl (windows_since n block p.asked t == 1) refl (not denied)
        refl
        (nat_lt (last_window n block t) (last_told block t))
      where
        go : (free : Bool) → is_writable n address t ≡ free → (one : Bool)
            → (windows_since n block p.asked t == 1) ≡ one → (granted : Bool) → not denied ≡ granted → (told : Bool)
            → Among Told (if free then if one && granted then told_too now
            (filter (λ e. nat_le (window_began n block p.asked t) e.moment) before) else told_too now before else
            if told then before else told_too now before)
        go true free true one true given told =
            written-too (filter (λ e. nat_le (window_began n block p.asked t) e.moment) before)
            (among-filter Told (λ e. nat_le (window_began n block p.asked t) e.moment) before
            (λ e late. le-leb (window_began n block p.asked t) e.moment
            (late.1 c s p (performed (not-true denied given)) pending writes free
            (eqb-true (windows_since n block p.asked t) 1 one))) is)
        go true free false e granted given told = written-too before is
        go true free true e false given told = written-too before is
        go false free one e granted given true = is
        go false free u one x given false = written-too before is

    written-now : (before : List Telling) → could_be v given ≡ true → IsUntold n address t
        → Among Told (after_write n block p denied now t before)
    written-now before could untold =
        rw untold (go (is_writable n address t) ((windows_since n block p.asked t == 1) && not denied))
      where
        go : (free : Bool) → (one : Bool)
            → Among Told (if free then if one then told_too now
            (filter (λ e. nat_le (window_began n block p.asked t) e.moment) before) else told_too now before else
            told_too now before)
        go true true = inl (could, late-now)
        go true false = inl (could, late-now)
        go false one = inl (could, late-now)

  -- ---- one more beat

  module _ (y : Link × Beat w) (orderly : IsOrderly n address v done Answers y t)
      (windowed : AreWindowed n address done t) (values : List Telling) where
    abbrev past : History w
    past = on_link y.0.0 t

    pending-was : (c s : ℕ) (p : Access w) → done c s → IsPending c s p (y ∷ t) → WasPending address c s p t
    pending-was c s p performed pending = elim (pending-before c s p y t pending) [
      | inl old ↦ record { old = p; pending = old.0; asked_is = refl; opcode_is = refl; writes_is = refl }
      | inr new ↦ (orderly.asks_again c s p new performed).was
    ]

    still-late : (moment : ℕ) → IsLate n address done t moment → IsLate n address done (y ∷ t) moment
    still-late moment late c s p performed pending writes free one =
        let was = pending-was c s p performed pending in
        let wrote : access_writes address was.old ≡ true = sym was.writes_is ∙ writes in
        let still = one-still n block was.old.asked y t (asked-by_now c s was.old t was.pending).by_now
        (windowed c s was.old performed was.pending wrote) free
        (ap (λ k. windows_since n block k (y ∷ t)) (sym was.asked_is) ∙ one) in
        let le = late c s was.old performed was.pending wrote still.was_free still.was_one in
        rw was.asked_is (omega (arith, le, still.began_is))

    told-after : (tellings : List Telling) → Among Told tellings → Among (IsToldLate n address v done (y ∷ t)) tellings
    told-after tellings is = among-map Told (IsToldLate n address v done (y ∷ t)) tellings
        (λ e told. (told.0, still-late e.moment told.1)) is

    -- a message tells the byte
    pub told-by : (value : Option ℕ) → could_be v value ≡ true
        → IsCoveredBy n address v done Answers (y ∷ t) (record { value = value; moment = length t } ∷ [])
    told-by value could = inl (inl (could, still-late (length t) late-now))

    -- of what isn't told by it
    told-beat : Among Told values → Among Told (after_beat n address y.0.0 y.1 t values)
    told-beat is = go y.1 refl
      where
        found : (z : BeatD w) → y.1 ≡ Beat.D z → ends_request z past ≡ true → (o : Option (Access w))
            → find (is_of y.0.0 z.source) (pending_accesses t) ≡ o
            → Among Told (after_answer n address o (Beat.D z ∷ unfinished Channel.D past) t values)
        found z e f None g = is
        found z e f (Some p) g = go (access_writes address p) refl
          where
            go : (b : Bool) → access_writes address p ≡ b
                → Among Told (if b then after_write n block p z.denied
                (record {
                  value = value_left p.request.opcode p (Beat.D z ∷ unfinished Channel.D past) address;
                  moment = length t;
                }) t
                values else values)
            go false i = is
            go true i = written-after y.0.0 z.source p z.denied (orderly.answers_done z p e f g i).0 g i
                (value_left p.request.opcode p (Beat.D z ∷ unfinished Channel.D past) address) values is

        ended : (z : BeatD w) → y.1 ≡ Beat.D z → (b : Bool) → ends_request z past ≡ b
            → Among Told (if b then after_answer n address (find (is_of y.0.0 z.source) (pending_accesses t))
            (Beat.D z ∷ unfinished Channel.D past) t values else values)
        ended z e true f = found z e f (find (is_of y.0.0 z.source) (pending_accesses t)) refl
        ended z e false f = is

        go : (b : Beat w) → y.1 ≡ b → Among Told (after_beat n address y.0.0 b t values)
        go (Beat.D z) e = ended z e (ends_request z past) refl
        go v e = is

    -- what the access has written that is answered now
    answered-beat : (c s : ℕ) (p : Access w) → done c s → IsPending c s p t → access_writes address p ≡ true
        → ((burst : List (Beat w)) → Answers c s p burst
        → could_be v (value_left p.request.opcode p burst address) ≡ true)
        → IsUntold n address t → (now : IsAnsweredNow c s y t) → ends_request now.last past ≡ true
        → Among Told (after_beat n address y.0.0 y.1 t values)
    answered-beat c s p performed pending writes value untold now completes =
        rw (now.beat_is, completes, here, writes)
        (written-now c s p now.last.denied (λ granted. performed) pending writes
        (value_left p.request.opcode p (Beat.D now.last ∷ unfinished Channel.D past)
        address) values (value (Beat.D now.last ∷ unfinished Channel.D past)
        (rw (now.link_is, now.source_is) (orderly.answers_done now.last p now.beat_is completes here writes).1))
        untold)
      where
        here : find (is_of y.0.0 now.last.source) (pending_accesses t) ≡ Some p
        here = rw (← now.link_is, ← now.source_is) pending

    -- and with an access that is settled with it
    settled-told : (before : List Telling) → Among (IsToldLate n address v done (y ∷ t)) before
        → Among (IsToldLate n address v done (y ∷ t)) (after_settling address y t before)
    settled-told before is = go (is_settled address y t)
      where
        go : (b : Bool) → Among (IsToldLate n address v done (y ∷ t))
            (if b then told_too (record { value = None; moment = length t }) before else before)
        go true = inl (refl, still-late (length t) late-now)
        go false = is

    -- who may have written the byte
    pending-written : (c s : ℕ) (p : Access w) → IsPending c s p t → access_writes address p ≡ true
        → may_have_written c s address t ≡ true
    pending-written c s p pending writes = rw (pending, writes) refl

    outrun-written : (left : MayLeave address t) → may_have_written left.link left.source address t ≡ true
    outrun-written left = rw left.is (or_right _ _ left.reached)

    abbrev Covered : Type 0
    Covered = IsCoveredBy n address v done Answers (y ∷ t) (with_untold n address y t values)

    -- what was covered is so still, if no message tells the byte
    pub covered-untold : tells block y.1 past ≡ false → IsCoveredBy n address v done Answers t values → Covered
    covered-untold e old = elim old [
      | inl told ↦ inl (settled-told (after_beat n address y.0.0 y.1 t values)
          (told-after (after_beat n address y.0.0 y.1 t values) (told-beat told)))
      | inr now ↦ elim now [
        | inl now ↦ written now
        | inr left ↦ elim (outrun-after address y t left
            (orderly.outruns_own left.link left.source (outrun-written left))) [
              | inl still ↦ inr (inr still)
              | inr settled ↦ inl (rw settled (inl (refl, still-late (length t) late-now)))
            ]
      ]
    ]
      where
        -- of a Put that goes on
        grown : (now : IsWrittenNow n address v done Answers t) (p : Access w)
            → IsAskedNow now.link now.source p y t → IsWrittenNow n address v done Answers (y ∷ t)
        grown now p asked = record {
          link = now.link;
          source = now.source;
          access = p;
          performed = now.performed;
          pending = asked-pending now.link now.source p y t asked;
          writes = more.was.writes_is ∙ ap (access_writes address) same ∙ now.writes;
          value_is = λ burst answers.
              ap (could_be v) (sym (put_left p.request.opcode p burst address more.put)) ∙ could;
          pending_is = could;
          untold = untold-after n address y t e now.untold;
        }
          where
            more : HasGrown address now.link now.source p t
            more = orderly.asks_again now.link now.source p asked now.performed

            same : more.was.old ≡ now.access
            same = same-some now.access more.was.old (sym now.pending ∙ more.was.pending)

            could : could_be v (pending_value p.request.opcode p address) ≡ true
            could = more.values v (subst (λ (q : Access w). could_be v (pending_value q.request.opcode q address)
                ≡ true)
                (sym same) now.pending_is)

        unasked : (now : IsWrittenNow n address v done Answers t) → AsksNot now.link now.source y t → Covered
        unasked now never = elim (pending-after now.link now.source now.access y t now.pending never) [
          | inl pending ↦ inr (inl (record {
            link = now.link;
            source = now.source;
            access = now.access;
            performed = now.performed;
            pending = pending;
            writes = now.writes;
            value_is = now.value_is;
            pending_is = now.pending_is;
            untold = untold-after n address y t e now.untold;
          }))
          | inr answered ↦ by (ends_request answered.last past) answered refl
        ]
          where
            by : (b : Bool) → (answered : IsAnsweredNow now.link now.source y t) → ends_request answered.last past ≡ b
                → Covered
            by true answered f = inl (settled-told (after_beat n address y.0.0 y.1 t values)
                (told-after (after_beat n address y.0.0 y.1 t values)
                (answered-beat now.link now.source now.access now.performed now.pending now.writes now.value_is
                now.untold answered f)))
            by false answered f =
                let early : IsOutrunNow now.link now.source y t =
                record {
                  beat = answered.last;
                  beat_is = answered.beat_is;
                  early = rw f at answered.completes;
                  link_is = answered.link_is;
                  source_is = answered.source_is;
                } in
                inr (inr (outrun-now address now.link now.source y t early
                (orderly.outruns_own now.link now.source (pending-written now.link now.source now.access now.pending
                now.writes))))

        written : IsWrittenNow n address v done Answers t → Covered
        written now = elim (asked-or now.link now.source y t) [
          | inr again ↦ inr (inl (grown now again.0 again.1))
          | inl never ↦ unasked now never
        ]

-- ---- other accesses that are performed

-- it is so too with other accesses performed, and other answers, that are the same of those that are pending
pub covered-as : {w : ℕ} (n address v : ℕ) (done done' : ℕ → ℕ → Type 0)
    (Answers Answers' : ℕ → ℕ → Access w → List (Beat w) → Type 0) (t : Trace w)
    → ((c s : ℕ) (p : Access w) → IsPending c s p t → access_writes address p ≡ true → done' c s → done c s)
    → ((c s : ℕ) (p : Access w) → IsPending c s p t → access_writes address p ≡ true → done c s
    → done' c s × ((burst : List (Beat w)) → Answers' c s p burst → Answers c s p burst))
    → (values : List Telling)
    → IsCoveredBy n address v done Answers t values → IsCoveredBy n address v done' Answers' t values
covered-as {w} n address v done done' Answers Answers' t back forth values is = elim is [
  | inl told ↦ inl (among-map (IsToldLate n address v done t) (IsToldLate n address v done' t) values
      (λ e each. (each.0, late-as e.moment each.1)) told)
  | inr other ↦ elim other [
    | inr left ↦ inr (inr left)
    | inl now ↦
        let more = forth now.link now.source now.access now.pending now.writes now.performed in
        inr (inl (record {
          link = now.link;
          source = now.source;
          access = now.access;
          performed = more.0;
          pending = now.pending;
          writes = now.writes;
          value_is = λ burst answers. now.value_is burst (more.1 burst answers);
          pending_is = now.pending_is;
          untold = now.untold;
        }))
  ]
]
  where
    late-as : (moment : ℕ) → IsLate n address done t moment → IsLate n address done' t moment
    late-as moment late c s p performed pending writes =
        late c s p (back c s p pending writes performed) pending writes
