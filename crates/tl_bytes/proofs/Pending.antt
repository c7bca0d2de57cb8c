-- The accesses that are pending with one more beat.
use Rattle.tl_bytes.proofs.Imports.{Beat, Link, unfinished, Trace, on_link, Access, pending_accesses}
use Rattle.std.proofs.Common.{◌≡◌, ℕ, suc, Bool, true, false, ◌&&◌, ◌<◌, ◌≤◌, List, [], ◌∷◌, ◌⊎◌, inl, inr, length}
use Rattle.std.proofs.Common.{refl, sym, ap, ◌∙◌, arith}
use Rattle.std.specs.Prelude.{if◌then◌else◌, find, Option, Some, None, ◌==◌}
use Rattle.std.proofs.lemmas.Bool.{cases_eq, eq-eqb, eqb-true, and_parts}
use Rattle.tl_beat.{specs.declared.beat.BeatA.BeatA, specs.declared.beat.BeatD.BeatD}
use Rattle.tl_beat.{specs.declared.channel.Channel.Channel}
use Rattle.tl_burst.specs.statement.Messages.{History}
use Rattle.tl_bytes.specs.statement.Bytes.{all_but, asked_by, asked_since, asks_new, is_of, leaves_pending}
use Rattle.tl_bytes.specs.statement.Bytes.{pending_with}
use Rattle.tl_bytes.specs.statement.Early.{Outrun, outrun_accesses}
use Rattle.tl_bytes.proofs.Finding.{find-left, find-left_out, same-some}

-- the access with this source of the link is pending
abbrev pub IsPending : {w : ℕ} → ℕ → ℕ → Access w → Trace w → Type 0
IsPending c s p t = find (is_of c s) (pending_accesses t) ≡ Some p

-- it is asked for with the beat: with one of a Put's beats, or the last of another request
pub record IsAskedNow {w : ℕ} (c s : ℕ) (p : Access w) (y : Link × Beat w) (t : Trace w) : Type 0 where
  pub beat : BeatA w
  pub beat_is : y.1 ≡ Beat.A beat
  pub asks_it : asks_new y.0.0 beat (on_link y.0.0 t) (outrun_accesses t) ≡ true
  pub link_is : c ≡ y.0.0
  pub source_is : s ≡ beat.source
  pub access_is : p ≡ asked_by y.0.0 beat (Beat.A beat ∷ unfinished Channel.A (on_link y.0.0 t))
      (asked_since (find (is_of y.0.0 beat.source) (pending_accesses t)) (suc (length t)))

-- none is asked for with this source
abbrev pub AsksNot : {w : ℕ} → ℕ → ℕ → Link × Beat w → Trace w → Type 0
AsksNot {w} c s y t = (z : BeatA w) → y.1 ≡ Beat.A z → asks_new y.0.0 z (on_link y.0.0 t) (outrun_accesses t) ≡ true → c ≡ y.0.0 → s ≡ z.source → ⊥

-- the beat completes its answer, or the answer outruns the request
pub record IsAnsweredNow {w : ℕ} (c s : ℕ) (y : Link × Beat w) (t : Trace w) : Type 0 where
  pub last : BeatD w
  pub beat_is : y.1 ≡ Beat.D last
  pub completes : leaves_pending last (on_link y.0.0 t) ≡ true
  pub link_is : c ≡ y.0.0
  pub source_is : s ≡ last.source

-- another source, or another link, is another access
apart : {w : ℕ} (c s link source : ℕ) (x : Access w) → ((c ≡ link) × (s ≡ source) → ⊥) → is_of c s x ≡ true
    → is_of link source x ≡ false
apart c s link source x ne e = go (is_of link source x) refl
  where
    go : (b : Bool) → is_of link source x ≡ b → b ≡ false
    go false f = refl
    go true f =
        let one = and_parts (x.link == c) (x.request.source == s) e in
        let other = and_parts (x.link == link) (x.request.source == source) f in
        absurd (ne (
          sym (eqb-true x.link c one.0) ∙ eqb-true x.link link other.0,
          sym (eqb-true x.request.source s one.1) ∙ eqb-true x.request.source source other.1,
        ))

-- what is found among those that are left, where one is gone
pub found-but : {w : ℕ} (c s link source : ℕ) (accesses : List (Access w)) → ((c ≡ link) × (s ≡ source) → ⊥)
    → find (is_of c s) (all_but link source accesses) ≡ find (is_of c s) accesses
found-but c s link source accesses ne =
    find-left (is_of link source) (is_of c s) accesses (λ x. apart c s link source x ne)

pub gone-but : {w : ℕ} (c s link source : ℕ) (accesses : List (Access w)) → c ≡ link → s ≡ source
    → find (is_of c s) (all_but link source accesses) ≡ None
gone-but c s link source accesses e f =
    find-left_out (is_of link source) (is_of c s) accesses (λ x g. rw (← e, ← f) g)

-- what is found where one is asked for with this source
pub found-asked : {w : ℕ} (c s link source : ℕ) (new : Access w) (accesses : List (Access w)) → new.link ≡ link
    → new.request.source ≡ source → find (is_of c s) (new ∷ all_but link source accesses)
    ≡ (if (link == c) && (source == s) then Some new else find (is_of c s) accesses)
found-asked {w} c s link source new accesses e f = go ((link == c) && (source == s)) refl
  where
    go : (b : Bool) → (link == c) && (source == s) ≡ b
        → find (is_of c s) (new ∷ all_but link source accesses) ≡ (if b then Some new else find (is_of c s) accesses)
    go true g = rw (e, f, g) refl
    go false g = rw (e, f, g) (found-but c s link source accesses
        (λ same. absurd (let no : true ≡ false =
        sym (both_true (eq-eqb link c (sym same.0)) (eq-eqb source s (sym same.1))) ∙ g in cc)))
      where
        both_true : {a b : Bool} → a ≡ true → b ≡ true → a && b ≡ true
        both_true h k = rw (h, k) refl

-- an access that is pending was so before, and isn't asked for now, or is asked for now
pub pending-before : {w : ℕ} (c s : ℕ) (p : Access w) (y : Link × Beat w) (t : Trace w) → IsPending c s p (y ∷ t)
    → (IsPending c s p t × AsksNot c s y t) ⊎ IsAskedNow c s p y t
unfolding pending_accesses
pending-before {w} c s p y t is = go y.1 refl is
  where
    before : List (Access w)
    before = pending_accesses t

    past : History w
    past = on_link y.0.0 t

    out : List Outrun
    out = outrun_accesses t

    Result : Type 0
    Result = (IsPending c s p t × AsksNot c s y t) ⊎ IsAskedNow c s p y t

    same_a : {x z : BeatA w} → Beat.A x ≡ Beat.A z → x ≡ z
    same_a e = cc

    asks_now : (z : BeatA w) → y.1 ≡ Beat.A z → (b : Bool) → asks_new y.0.0 z past out ≡ b → (new : Access w)
        → new ≡ asked_by y.0.0 z (Beat.A z ∷ unfinished Channel.A past)
        (asked_since (find (is_of y.0.0 z.source) before) (suc (length t)))
        → find (is_of c s) (if b then new ∷ all_but y.0.0 z.source before else before) ≡ Some p → Result
    asks_now z e false f new g is = inl (
      is,
      λ x h over link source. absurd (let no : true ≡ false =
          sym over ∙ ap (λ v. asks_new y.0.0 v past out) (same_a (sym h ∙ e)) ∙ f in cc),
    )
    asks_now z e true f new g is = own ((y.0.0 == c) && (z.source == s)) refl
        (sym (found-asked c s y.0.0 z.source new before (ap (λ (q : Access w). q.link) g)
        (ap (λ (q : Access w). q.request.source) g)) ∙ is)
      where
        own : (b : Bool) → (y.0.0 == c) && (z.source == s) ≡ b
            → (if b then Some new else find (is_of c s) before) ≡ Some p → Result
        own false other is = inl (
          is,
          λ x h over link source. absurd (let same = same_a (sym h ∙ e) in
              let no : true ≡ false = sym (both_true (eq-eqb y.0.0 c (sym link))
              (eq-eqb z.source s (ap (λ (v : BeatA w). v.source) (sym same) ∙ sym source))) ∙ other in cc),
        )
          where
            both_true : {a b : Bool} → a ≡ true → b ≡ true → a && b ≡ true
            both_true h k = rw (h, k) refl
        own true both_are is =
            let both = and_parts (y.0.0 == c) (z.source == s) both_are in
            inr (record {
              beat = z;
              beat_is = e;
              asks_it = f;
              link_is = sym (eqb-true y.0.0 c both.0);
              source_is = sym (eqb-true z.source s both.1);
              access_is = same-some new p is ∙ g;
            })

    answers : (z : BeatD w) → y.1 ≡ Beat.D z → (b : Bool) → leaves_pending z past ≡ b
        → find (is_of c s) (if b then all_but y.0.0 z.source before else before) ≡ Some p → Result
    answers z e false f is = inl (is, λ x h. absurd (let no : Beat.A x ≡ Beat.D z = sym h ∙ e in cc))
    answers z e true f is = elim (cases_eq c y.0.0) [
      | inr ne ↦ inl (sym (found-but c s y.0.0 z.source before (λ same. ne same.0)) ∙ is, never)
      | inl link ↦ elim (cases_eq s z.source) [
        | inr ne ↦ inl (sym (found-but c s y.0.0 z.source before (λ same. ne same.1)) ∙ is, never)
        | inl source ↦ absurd (let none : None ≡ Some p = sym (gone-but c s y.0.0 z.source before link source) ∙ is in
            cc)
      ]
    ]
      where
        never : AsksNot c s y t
        never x h = absurd (let no : Beat.A x ≡ Beat.D z = sym h ∙ e in cc)

    go : (b : Beat w) → y.1 ≡ b → find (is_of c s) (pending_with y.0.0 b past (suc (length t)) out before) ≡ Some p → Result
    go (Beat.A z) e is = asks_now z e (asks_new y.0.0 z past out) refl _ refl is
    go (Beat.D z) e is = answers z e (leaves_pending z past) refl is
    go (Beat.B z) e is = inl (is, λ x h. absurd (let no : Beat.A x ≡ Beat.B z = sym h ∙ e in cc))
    go (Beat.C z) e is = inl (is, λ x h. absurd (let no : Beat.A x ≡ Beat.C z = sym h ∙ e in cc))
    go (Beat.E z) e is = inl (is, λ x h. absurd (let no : Beat.A x ≡ Beat.E z = sym h ∙ e in cc))

-- one that is pending stays so, where its answer isn't complete now, and none is asked for with its source
pub pending-after : {w : ℕ} (c s : ℕ) (p : Access w) (y : Link × Beat w) (t : Trace w) → IsPending c s p t
    → AsksNot c s y t → IsPending c s p (y ∷ t) ⊎ IsAnsweredNow c s y t
unfolding pending_accesses
pending-after {w} c s p y t is never = go y.1 refl
  where
    before : List (Access w)
    before = pending_accesses t

    past : History w
    past = on_link y.0.0 t

    out : List Outrun
    out = outrun_accesses t

    Result : Beat w → Type 0
    Result b = (find (is_of c s) (pending_with y.0.0 b past (suc (length t)) out before) ≡ Some p) ⊎ IsAnsweredNow c s y t

    asks_now : (z : BeatA w) → y.1 ≡ Beat.A z → (b : Bool) → asks_new y.0.0 z past out ≡ b → (new : Access w) → new.link ≡ y.0.0
        → new.request.source ≡ z.source
        → find (is_of c s) (if b then new ∷ all_but y.0.0 z.source before else before) ≡ Some p
    asks_now z e false f new g h = is
    asks_now z e true f new g h =
        found-asked c s y.0.0 z.source new before g h ∙ own ((y.0.0 == c) && (z.source == s)) refl
      where
        own : (b : Bool) → (y.0.0 == c) && (z.source == s) ≡ b
            → (if b then Some new else find (is_of c s) before) ≡ Some p
        own false other = is
        own true both_are =
            let both = and_parts (y.0.0 == c) (z.source == s) both_are in
            absurd (never z e f (sym (eqb-true y.0.0 c both.0)) (sym (eqb-true z.source s both.1)))

    answers : (z : BeatD w) → y.1 ≡ Beat.D z → (b : Bool) → leaves_pending z past ≡ b
        → (find (is_of c s) (if b then all_but y.0.0 z.source before else before) ≡ Some p) ⊎ IsAnsweredNow c s y t
    answers z e false f = inl is
    answers z e true f = elim (cases_eq c y.0.0) [
      | inr ne ↦ inl (found-but c s y.0.0 z.source before (λ same. ne same.0) ∙ is)
      | inl link ↦ elim (cases_eq s z.source) [
        | inr ne ↦ inl (found-but c s y.0.0 z.source before (λ same. ne same.1) ∙ is)
        | inl source ↦ inr (record { last = z; beat_is = e; completes = f; link_is = link; source_is = source })
      ]
    ]

    go : (b : Beat w) → y.1 ≡ b → Result b
    go (Beat.A z) e = inl (asks_now z e (asks_new y.0.0 z past out) refl _ refl refl)
    go (Beat.D z) e = answers z e (leaves_pending z past) refl
    go v e = inl is

-- when a pending access was first asked for
pub record IsAsked {w : ℕ} (p : Access w) (t : Trace w) : Type 0 where
  pub some : 0 < p.asked
  pub by_now : p.asked ≤ length t

pub asked-by_now : {w : ℕ} (c s : ℕ) (p : Access w) (t : Trace w) → IsPending c s p t → IsAsked p t
unfolding pending_accesses
asked-by_now c s p [] is = absurd cc
asked-by_now {w} c s p (y ∷ t) is = elim (pending-before c s p y t is) [
  | inl old ↦ later (asked-by_now c s p t old.0)
  | inr new ↦ first new.beat.source (find (is_of y.0.0 new.beat.source) (pending_accesses t)) refl
      (ap (λ (q : Access w). q.asked) new.access_is) (λ q e. asked-by_now y.0.0 new.beat.source q t e)
]
  where
    later : {q : Access w} → IsAsked q t → IsAsked q (y ∷ t)
    later was = record { some = was.some; by_now = omega (arith, was.by_now) }

    first : (source : ℕ) (o : Option (Access w)) → find (is_of y.0.0 source) (pending_accesses t) ≡ o
        → p.asked ≡ asked_since o (suc (length t))
        → ((q : Access w) → find (is_of y.0.0 source) (pending_accesses t) ≡ Some q → IsAsked q t) → IsAsked p (y ∷ t)
    first source None e now before = record { some = omega (arith, now); by_now = omega (arith, now) }
    first source (Some q) e since before =
        let was = before q e in
        record { some = omega (arith, since, was.some); by_now = omega (arith, since, was.by_now) }
