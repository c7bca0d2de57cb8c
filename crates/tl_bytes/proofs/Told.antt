-- What is kept of tellings is what each byte may be.
use Rattle.tl_bytes.proofs.Imports.{Beat, Link, unfinished, Trace, on_link, is_free, Write, BlockBytes, Telling, Told}
use Rattle.tl_bytes.proofs.Imports.{Access, may_be, pending_accesses, told_as, windows_since, window_began, last_window}
use Rattle.tl_bytes.proofs.Imports.{last_told, tellings_at, tellings_of, KnowsBlock}
use Rattle.std.proofs.Common.{◌≡◌, ℕ, zero, suc, Bool, true, false, not, ◌&&◌, ◌+◌, ◌*◌, ◌/◌, ◌%◌, ◌<◌, ◌≤◌, List, []}
use Rattle.std.proofs.Common.{◌∷◌, ◌++◌, length, refl, sym, ap, ap₂, ◌∙◌, arith, inl, inr, append_assoc, drop, get_or}
use Rattle.std.specs.Prelude.{if◌then◌else◌, Option, Some, None, nat_lt, nat_le, filter, find, ◌==◌}
use Rattle.std.{proofs.Math.ListN.drop_of_length-le, proofs.lemmas.List.at_drop_more, proofs.Math.Dec.leb-zero}
use Rattle.std.{proofs.Math.Numerals.add-one}
use Rattle.std.proofs.lemmas.Bool.{cases_Bool, cases_eq, eq-eqb, lt-leb, ne_eqb}
use Rattle.tl_beat.{specs.declared.beat.BeatD.BeatD, specs.declared.channel.Channel.Channel}
use Rattle.tl_params.specs.declared.perm.Perm.{Perm}
use Rattle.tl_bytes.specs.declared.{known_bytes.KnownBytes.KnownBytes, latest.Latest.Latest}
use Rattle.tl_bytes.specs.statement.KnownBytes.{known_at}
use Rattle.tl_bytes.specs.code.Tellings.{by_standing, displaced, is_displaced, is_written, outlived, stays, telling_at, value_at}
use Rattle.tl_bytes.specs.code.Tellings.{written_at}
use Rattle.tl_bytes.specs.declared.standing.Standing.{Standing}
use Rattle.tl_bytes.specs.statement.Bytes.{access_writes, after_settling, after_write, could_be, ends_request, is_of}
use Rattle.tl_bytes.specs.statement.Bytes.{is_settled, same_value, tells}
use Rattle.tl_bytes.specs.statement.Bytes.{told_too, value_left}
use Rattle.tl_bytes.specs.statement.Known.{AnswersNone, AreCarried, IsSettling, IsWrite, NoneSettled, standing_of}

-- ---- the list of tellings, place by place

pub tellings-append : (p : ℕ) (xs ys : List Told) → tellings_at p (xs ++ ys) ≡ tellings_at p xs ++ tellings_at p ys
unfolding tellings_at
tellings-append p [] ys = refl
tellings-append p (x ∷ xs) ys = one (x.place == p) x.telling _ _ _ (tellings-append p xs ys)
  where
    one : (b : Bool) (e : Telling) (all left right : List Telling) → all ≡ left ++ right
        → (if b then e ∷ all else all) ≡ (if b then e ∷ left else left) ++ right
    one true e all left right same = ap (λ l. e ∷ l) same
    one false e all left right same = same

module _ (write : Write) (since : ℕ) where
  -- what was told of a place that is written stays where it is told otherwise, and no sooner
  abbrev pub stays_at : ℕ → Telling → Bool
  stays_at p e = nat_le since e.moment && not (same_value e.value (value_at write p))

  -- of a place that isn't written all stays
  pub stays-all : (p : ℕ) (before : List Told) → is_written write p ≡ false
      → tellings_at p (filter (stays write since) before) ≡ tellings_at p before
  unfolding tellings_at
  stays-all p [] off = refl
  stays-all p (x ∷ before) off = elim (cases_eq x.place p) [
    | inl same ↦ rw (same, off, eq-eqb p p refl) (ap (λ l. x.telling ∷ l) (stays-all p before off))
    | inr ne ↦ elim (cases_Bool (stays write since x)) [
      | inl stay ↦ rw (stay, ne_eqb x.place p ne) (stays-all p before off)
      | inr goes ↦ rw (goes, ne_eqb x.place p ne) (stays-all p before off)
    ]
  ]

  -- and of one that is, so much
  pub stays-some : (p : ℕ) (before : List Told) → is_written write p ≡ true
      → tellings_at p (filter (stays write since) before) ≡ filter (stays_at p) (tellings_at p before)
  unfolding tellings_at
  stays-some p [] on = refl
  stays-some p (x ∷ before) on = elim (cases_eq x.place p) [
    | inl same ↦ elim (cases_Bool (stays_at p x.telling)) [
      | inl stay ↦
          rw (same, on, eq-eqb p p refl, stay, eq-eqb p p refl) (ap (λ l. x.telling ∷ l) (stays-some p before on))
      | inr goes ↦ rw (same, on, eq-eqb p p refl, goes) (stays-some p before on)
    ]
    | inr ne ↦ elim (cases_Bool (stays write since x)) [
      | inl stay ↦ rw (stay, ne_eqb x.place p ne) (stays-some p before on)
      | inr goes ↦ rw (goes, ne_eqb x.place p ne) (stays-some p before on)
    ]
  ]

  module _ (latest : Latest) where
    abbrev last_at : ℕ → Told
    last_at p = record { place = p; telling = telling_at latest p }

    alone-at : (p : ℕ) → tellings_at p (last_at p ∷ []) ≡ telling_at latest p ∷ []
    unfolding tellings_at
    alone-at p = rw (eq-eqb p p refl) refl

    alone-off : (k p : ℕ) → (k ≡ p → ⊥) → tellings_at p (last_at k ∷ []) ≡ []
    unfolding tellings_at
    alone-off k p ne = rw (ne_eqb k p ne) refl

    -- of a place whose last telling isn't displaced there is none
    displaced-none : (k p : ℕ) → is_displaced write since (last_at p) ≡ false
        → tellings_at p (displaced k latest write since) ≡ []
    unfolding displaced tellings_at
    displaced-none zero p off = refl
    displaced-none (suc k) p off = elim (cases_Bool (is_displaced write since (last_at k))) [
      | inr stays ↦ rw stays (displaced-none k p off)
      | inl goes ↦
          rw goes (tellings-append p (displaced k latest write since) (last_at k ∷ [])
          ∙ rw (displaced-none k p off) (alone-off k p (λ same.
          absurd (differ (sym goes ∙ ap (λ q. is_displaced write since (last_at q)) same ∙ off)))))
    ]
      where
        differ : true ≡ false → ⊥
        differ e = cc

    -- and of one that comes later neither
    displaced-later : (k p : ℕ) → k ≤ p → tellings_at p (displaced k latest write since) ≡ []
    unfolding displaced tellings_at
    displaced-later zero p le = refl
    displaced-later (suc k) p le = elim (cases_Bool (is_displaced write since (last_at k))) [
      | inr stays ↦ rw stays (displaced-later k p (omega arith))
      | inl goes ↦ rw goes (tellings-append p (displaced k latest write since) (last_at k ∷ []) ∙ rw
          (displaced-later k p (omega arith)) (alone-off k p (λ same. omega arith)))
    ]

    displaced-one : (k p : ℕ) → p < k → is_displaced write since (last_at p) ≡ true
        → tellings_at p (displaced k latest write since) ≡ telling_at latest p ∷ []
    unfolding displaced tellings_at
    displaced-one zero p lt on = absurd (omega arith)
    displaced-one (suc k) p lt on = elim (cases_eq k p) [
      | inl same ↦ rw (same, on) (tellings-append p (displaced p latest write since) (last_at p ∷ []) ∙ rw
          (displaced-later p p (omega arith)) (alone-at p))
      | inr ne ↦ elim (cases_Bool (is_displaced write since (last_at k))) [
        | inr stays ↦ rw stays (displaced-one k p (omega arith) on)
        | inl goes ↦ rw goes (tellings-append p (displaced k latest write since) (last_at k ∷ []) ∙ rw
            (displaced-one k p (omega arith) on, alone-off k p ne) refl)
      ]
    ]

    -- one place more
    pub one-displaced : (k : ℕ) (items before : List Told) → items ≡ before ++ displaced k latest write since
        → is_displaced write since (last_at k) ≡ true
        → items ++ last_at k ∷ [] ≡ before ++ displaced (k + 1) latest write since
    unfolding displaced
    one-displaced k items before is goes =
        rw (add-one k, goes, is) (append_assoc before (displaced k latest write since) (last_at k ∷ []))

    pub one-stays : (k : ℕ) (items before : List Told) → items ≡ before ++ displaced k latest write since
        → is_displaced write since (last_at k) ≡ false → items ≡ before ++ displaced (k + 1) latest write since
    unfolding displaced
    one-stays k items before is stays = rw (add-one k, stays) is

    -- nor is one where all were told before this moment
    pub none-displaced : (k : ℕ) → ((p : ℕ) → p < k → (telling_at latest p).moment < since)
        → displaced k latest write since ≡ []
    unfolding displaced
    none-displaced zero old = refl
    none-displaced (suc k) old = rw (goes, none-displaced k (λ p lt. old p (omega (arith, lt)))) refl
      where
        goes : is_displaced write since (last_at k) ≡ false
        goes = elim (cases_Bool (is_written write k)) [
          | inl on ↦ rw (on, lt-leb since (telling_at latest k).moment (old k (omega arith))) refl
          | inr off ↦ rw off refl
        ]

    -- beside what is written what was told before stays as far as it outlives that
    outlived-on : (earlier : List Told) (p : ℕ) → p < 64 → is_written write p ≡ true
        → tellings_at p (outlived latest earlier write since)
        ≡ filter (stays_at p) (telling_at latest p ∷ tellings_at p earlier)
    outlived-on earlier p lt on =
        tellings-append p (displaced 64 latest write since) (filter (stays write since) earlier)
        ∙ elim (cases_Bool (stays_at p (telling_at latest p))) [
          | inl stay ↦ rw (displaced-one 64 p lt (rw on stay), stays-some p earlier on, stay) refl
          | inr goes ↦ rw (displaced-none 64 p (rw on goes), stays-some p earlier on, goes) refl
        ]

    outlived-off : (earlier : List Told) (p : ℕ) → is_written write p ≡ false
        → tellings_at p (outlived latest earlier write since) ≡ tellings_at p earlier
    outlived-off earlier p off =
        tellings-append p (displaced 64 latest write since) (filter (stays write since) earlier)
        ∙ rw (displaced-none 64 p (rw off refl), stays-all p earlier off) refl

-- ---- what a byte may be

block-of : (block p : ℕ) → p < 64 → (64 * block + p) / 64 ≡ block
block-of block p lt = omega arith

place-of : (block p : ℕ) → p < 64 → (64 * block + p) % 64 ≡ p
place-of block p lt = omega arith

-- a block that was told of
pub told-is : {w : ℕ} (values : KnownBytes) (moment n block : ℕ) (b : BlockBytes) (x : Link × Beat w) (t : Trace w)
    → ((p : ℕ) → p < 64 → telling_at b.latest p ≡ record { value = known_at values p; moment = moment })
    → b.earlier.items ≡ [] → b.last ≡ moment + 1 → tells block x.1 (on_link x.0.0 t) ≡ true → moment ≡ length t
    → AreCarried values x t → KnowsBlock b n block (x ∷ t)
unfolding may_be last_told tellings_at
told-is values moment n block b x t last none when told now carried = record {
  bytes_are = λ p lt. ap₂ (λ e l. e ∷ tellings_at p l) (last p lt) none
      ∙ rw (block-of block p lt, place-of block p lt, told, carried p lt, now) refl;
  last_is = rw told (omega (arith, when, now));
}

-- a block of which nothing was
pub untold-is : {w : ℕ} (n block : ℕ) (b : BlockBytes)
    → ((p : ℕ) → telling_at b.latest p ≡ record { value = None; moment = 0 }) → b.earlier.items ≡ [] → b.last ≡ 0
    → KnowsBlock {w = w} b n block []
unfolding may_be last_told tellings_at
untold-is n block b latest none last = record {
  bytes_are = λ p lt. ap₂ (λ e l. e ∷ tellings_at p l) (latest p) none;
  last_is = rw last refl;
}

-- the same bytes
pub copy-known : {w : ℕ} (a b : BlockBytes) (n block : ℕ) (t : Trace w)
    → ((p : ℕ) → telling_at b.latest p ≡ telling_at a.latest p)
    → b.earlier.items ≡ a.earlier.items → b.last ≡ a.last → KnowsBlock a n block t → KnowsBlock b n block t
copy-known a b n block t latest earlier last k = record {
  bytes_are = λ p lt. ap₂ (λ e m. e ∷ tellings_at p m) (latest p) earlier ∙ k.bytes_are p lt;
  last_is = rw last k.last_is;
}

-- what a byte may be when an access was answered that writes it, by how that stands
pub by-standing : {w : ℕ} (n block : ℕ) (access : Access w) (denied : Bool) (now : Telling) (t : Trace w)
    (before : List Telling)
    → after_write n block access denied now t before ≡ by_standing (standing_of n block access denied t) now before
by-standing n block access denied now t before =
    by (is_free n Perm.Trunk block t) ((windows_since n block access.asked t == 1) && not denied)
    (nat_lt (last_window n block t) (last_told block t)) (window_began n block access.asked t)
  where
    by : (free one told : Bool) (began : ℕ)
        → (if free then if one then told_too now (filter (λ e. nat_le began e.moment) before) else told_too now before
        else if told then before else told_too now before)
        ≡ by_standing (if free then if one then Standing.Within began else Standing.Anywhere else
        if told then Standing.Told else Standing.Anywhere) now before
    by true true told began = refl
    by true false told began = refl
    by false one true began = refl
    by false one false began = refl

may_be-written : {w : ℕ} (n block p : ℕ) (link : Link) (y : BeatD w) (access : Access w) (t : Trace w) → p < 64
    → tells block (Beat.D y) (on_link link.0 t) ≡ false → ends_request y (on_link link.0 t) ≡ true
    → find (is_of link.0 y.source) (pending_accesses t) ≡ Some access
    → is_settled (64 * block + p) (link, Beat.D y) t ≡ false
    → may_be n (64 * block + p) ((link, Beat.D y) ∷ t) ≡ (if access_writes (64 * block + p) access then by_standing
    (standing_of n block access y.denied t)
    (record {
      value = value_left access.request.opcode access (Beat.D y ∷ unfinished Channel.D (on_link link.0 t)) (64 * block + p);
      moment = length t;
    }) (may_be n (64 * block + p) t)
    else may_be n (64 * block + p) t)
unfolding may_be
may_be-written n block p link y access t lt quiet ended found none =
    rw (block-of block p lt, quiet, none, ended, found, block-of block p lt)
    (ap (λ l. if access_writes (64 * block + p) access then l else may_be n (64 * block + p) t)
    (by-standing n block access y.denied (record {
      value = value_left access.request.opcode access (Beat.D y ∷ unfinished Channel.D (on_link link.0 t)) (64 * block + p);
      moment = length t;
    }) t (may_be n (64 * block + p) t)))

-- what was told no sooner, and not the same
pub once : (since : ℕ) (value : Option ℕ) (before : List Telling)
    → filter (λ e. nat_le since e.moment && not (same_value e.value value)) before
    ≡ filter (λ e. not (same_value e.value value)) (filter (λ e. nat_le since e.moment) before)
once since value [] = refl
once since value (e ∷ before) = elim (cases_Bool (nat_le since e.moment)) [
  | inr sooner ↦ rw sooner (once since value before)
  | inl later ↦ elim (cases_Bool (not (same_value e.value value))) [
    | inl other ↦ rw (later, other) (ap (λ l. e ∷ l) (once since value before))
    | inr same ↦ rw (later, same) (once since value before)
  ]
]

-- the bytes that an access wrote, by how it stands
pub written-is : {w : ℕ} (write : Write) (moment n block : ℕ) (s : Standing) (old new : BlockBytes) (link : Link)
    (y : BeatD w) (access : Access w) (t : Trace w) → new.last ≡ old.last
    → ((p : ℕ) → p < 64 → tellings_of new
    p ≡ (if is_written write p then by_standing s (record { value = value_at write p; moment = moment })
    (tellings_of old p) else tellings_of old p)) → KnowsBlock old n block t
    → tells block (Beat.D y) (on_link link.0 t) ≡ false → ends_request y (on_link link.0 t) ≡ true
    → find (is_of link.0 y.source) (pending_accesses t) ≡ Some access → NoneSettled block (link, Beat.D y) t
    → s ≡ standing_of n block access y.denied t → moment ≡ length t → IsWrite write block access (Beat.D y ∷ unfinished Channel.D (on_link link.0 t))
    → KnowsBlock new n block ((link, Beat.D y) ∷ t)
unfolding last_told
written-is write moment n block s old new link y access t last items k quiet ended found none stands now written =
    record {
      bytes_are = λ p lt. items p lt
          ∙ rw (stands, now, k.bytes_are p lt) (where_written (is_written write p) (value_at write p)
          (value_left access.request.opcode access (Beat.D y ∷ unfinished Channel.D (on_link link.0 t)) (64 * block + p))
          (standing_of n block access y.denied t) (length t) (may_be n (64 * block + p) t) (written p lt).1
          ∙ rw ((written p lt).0) (sym (may_be-written n block p link y access t lt quiet ended found (none p lt))));
      last_is = rw (last, quiet) k.last_is;
    }
  where
    where_written : (b : Bool) (u v : Option ℕ) (s : Standing) (m : ℕ) (before : List Telling) → (b ≡ true → u ≡ v)
        → (if b then by_standing s (record { value = u; moment = m }) before else before)
        ≡ (if b then by_standing s (record { value = v; moment = m }) before else before)
    where_written true u v s m before e = ap (λ z. by_standing s (record { value = z; moment = m }) before) (e refl)
    where_written false u v s m before e = refl

-- the bytes that an access may have left whose answer outran its request
pub settled-is : {w : ℕ} (write : Write) (moment n block : ℕ) (s : Standing) (old new : BlockBytes) (x : Link × Beat w)
    (t : Trace w) → new.last ≡ old.last
    → ((p : ℕ) → p < 64 → tellings_of new
    p ≡ (if is_written write p then by_standing s (record { value = value_at write p; moment = moment })
    (tellings_of old p) else tellings_of old p)) → KnowsBlock old n block t
    → tells block x.1 (on_link x.0.0 t) ≡ false → AnswersNone x t → s ≡ Standing.Anywhere → moment ≡ length t
    → IsSettling write block x t → KnowsBlock new n block (x ∷ t)
unfolding last_told may_be
settled-is write moment n block s old new x t last items k quiet none stands now written =
    record {
      bytes_are = λ p lt. items p lt
          ∙ rw (now, k.bytes_are p lt) (where_settled (is_written write p) (value_at write p) (length t)
          (may_be n (64 * block + p) t) s stands (written p lt).1 ∙ rw ((written p lt).0) (sym (settled_at p lt)));
      last_is = rw (last, quiet) k.last_is;
    }
  where
    where_settled : (b : Bool) (v : Option ℕ) (m : ℕ) (before : List Telling) (s : Standing) → s ≡ Standing.Anywhere
        → (b ≡ true → v ≡ None) → (if b then by_standing s (record { value = v; moment = m }) before else before)
        ≡ (if b then told_too (record { value = None; moment = m }) before else before)
    where_settled true v m before s f e =
        ap₂ (λ r z. by_standing r (record { value = z; moment = m }) before) f (e refl)
    where_settled false v m before s f e = refl

    settled_at : (p : ℕ) → p < 64 → may_be n (64 * block + p) (x ∷ t)
        ≡ after_settling (64 * block + p) x t (may_be n (64 * block + p) t)
    settled_at p lt = rw (block-of block p lt, quiet, none n (64 * block + p) (may_be n (64 * block + p) t)) refl

-- what is kept of a place with what is written in the one window that has been open since a moment
pub written-within : (write : Write) (moment since p : ℕ) (old new : BlockBytes) → p < 64
    → telling_at new.latest p ≡ written_at old.latest write moment p
    → new.earlier.items ≡ outlived old.latest old.earlier.items write since
    → tellings_of new p ≡ (if is_written write p then by_standing (Standing.Within since)
    (record { value = value_at write p; moment = moment }) (tellings_of old p) else tellings_of old p)
written-within write moment since p old new lt latest earlier =
    ap₂ (λ e l. e ∷ tellings_at p l) latest earlier ∙ elim (cases_Bool (is_written write p)) [
      | inr off ↦ rw off (ap (λ l. telling_at old.latest p ∷ l)
          (outlived-off write since old.latest old.earlier.items p off))
      | inl on ↦ rw on (ap (λ l. record { value = value_at write p; moment = moment } ∷ l)
          (outlived-on write since old.latest old.earlier.items p lt on ∙ once since (value_at write p)
          (telling_at old.latest p ∷ tellings_at p old.earlier.items)))
    ]

pub all-later : (before : List Telling) → filter (λ e. nat_le 0 e.moment) before ≡ before
all-later [] = refl
all-later (e ∷ before) = rw (leb-zero e.moment) (ap (λ l. e ∷ l) (all-later before))

-- and at any moment
pub written-anywhere : (write : Write) (moment p : ℕ) (old new : BlockBytes) → p < 64
    → telling_at new.latest p ≡ written_at old.latest write moment p
    → new.earlier.items ≡ outlived old.latest old.earlier.items write 0
    → tellings_of new p ≡ (if is_written write p then by_standing Standing.Anywhere
    (record { value = value_at write p; moment = moment }) (tellings_of old p) else tellings_of old p)
written-anywhere write moment p old new lt latest earlier =
    written-within write moment 0 p old new lt latest earlier
    ∙ ap (λ (l : List Telling). if is_written write p then told_too
    (record { value = value_at write p; moment = moment }) l else tellings_of old p) (all-later (tellings_of old p))

pub kept-told : {X : Type 0} (b : Bool) (x : X) → x ≡ (if b then x else x)
kept-told true x = refl
kept-told false x = refl

-- ---- whether a byte may be this

-- told here so
pub seen-here : (p v : ℕ) (items : List Told) (i : ℕ) (d : Told) → i < length items → (get_or items i d).place ≡ p
    → could_be v (get_or items i d).telling.value ≡ true → told_as v (tellings_at p (drop i items)) ≡ true
unfolding tellings_at
seen-here p v items i d lt same could =
    at_drop_more (λ l. told_as v (tellings_at p l)) items i d lt ∙ rw (eq-eqb _ p same, could) refl

-- or not
pub seen-not : (p v : ℕ) (items : List Told) (i : ℕ) (d : Told) → i < length items
    → could_be v (get_or items i d).telling.value ≡ false
    → told_as v (tellings_at p (drop i items)) ≡ told_as v (tellings_at p (drop (i + 1) items))
unfolding tellings_at
seen-not p v items i d lt could =
    at_drop_more (λ l. told_as v (tellings_at p l)) items i d lt
    ∙ one ((get_or items i d).place == p) (get_or items i d).telling (tellings_at p (drop (i + 1) items)) could
  where
    one : (b : Bool) (e : Telling) (l : List Telling) → could_be v e.value ≡ false
        → told_as v (if b then e ∷ l else l) ≡ told_as v l
    one true e l could = rw could refl
    one false e l could = refl

-- or of another place
pub seen-elsewhere : (p v : ℕ) (items : List Told) (i : ℕ) (d : Told) → i < length items
    → ((get_or items i d).place ≡ p → ⊥)
    → told_as v (tellings_at p (drop i items)) ≡ told_as v (tellings_at p (drop (i + 1) items))
unfolding tellings_at
seen-elsewhere p v items i d lt other =
    at_drop_more (λ l. told_as v (tellings_at p l)) items i d lt ∙ rw (ne_eqb _ p other) refl

-- nothing is left to see
pub seen-none : (p v : ℕ) (items : List Told) (i : ℕ) → length items ≤ i
    → told_as v (tellings_at p (drop i items)) ≡ false
unfolding tellings_at
seen-none p v items i le = rw (drop_of_length-le items le) refl
