-- An access whose answer outran its request is not pending, and stays such an access until its answer is complete.
use Rattle.tl_memory.proofs.Imports.{Beat, BeatA, BeatD, Link, History, Level, Trace, Access, ends, is_of}
use Rattle.tl_memory.proofs.Imports.{is_release_ack, on_link, pending_accesses, unfinished}
use Rattle.std.proofs.Common.{◌≡◌, ◌⊎◌, ℕ, suc, Bool, true, false, not, ◌&&◌, ◌||◌, List, [], ◌∷◌, length, refl, sym}
use Rattle.std.proofs.Common.{ap, ◌∙◌, inl, inr, subst}
use Rattle.std.specs.Prelude.{◌==◌, if◌then◌else◌, find, is_some, Option, Some, None}
use Rattle.std.proofs.lemmas.Bool.{and_parts, cases_Bool, eq-eqb, eqb-true}
use Rattle.tl_beat.specs.declared.channel.Channel.{Channel}
use Rattle.tl_rules.specs.statement.Conformance.{comes_in_request}
use Rattle.tl_bytes.specs.statement.Bytes.{asks, pending_with}
use Rattle.tl_bytes.proofs.Pending.{pending-before, gone-but as gone-access}
use Rattle.tl_bytes.specs.statement.Early.{Outrun, ends_request, if_answered, is_outrun_of, outrun_by, outrun_with}
use Rattle.tl_bytes.specs.statement.Early.{outruns, settled_by, without, without_settled}
unfoldable use Rattle.tl_bytes.specs.statement.Early.{outrun_accesses}
use Rattle.tl_memory.proofs.lawful.Open.{completes_answer}
use Rattle.tl_memory.proofs.lawful.OutrunNames.{found-key, outruns-parts}
use Rattle.tl_memory.proofs.lawful.OutrunSteps.{IsOutNow}
pub use Rattle.tl_memory.proofs.lawful.OutrunNames.{IsOut, apart, found-but, either-key, settled-a, settled-d}
pub use Rattle.tl_memory.proofs.lawful.OutrunNames.{comes-parts}
pub use Rattle.tl_memory.proofs.lawful.OutrunSteps.{out-before}
pub use Rattle.tl_memory.proofs.lawful.OutrunRequests.{kept-pending, kept-fields, outrun-from}
use Rattle.tl_memory.proofs.Plain.{true_false, none-some}

unpending-now : {w : ℕ} (c s : ℕ) (a : Outrun) (x : Link × Beat w) (t : Trace w) → IsOutNow c s a x t
    → find (is_of c s) (pending_accesses (x ∷ t)) ≡ None
unfolding pending_accesses
unpending-now c s a x t now =
    subst (λ b. find (is_of c s) (pending_with x.0.0 b (on_link x.0.0 t) (suc (length t)) (outrun_accesses t)
    (pending_accesses t)) ≡ None) (sym now.beat_is)
    (rw (either (ends_request now.answer (on_link x.0.0 t)) now.outruns_it)
    (gone-access c s x.0.0 now.answer.source (pending_accesses t) now.link_is now.source_is))
  where
    either : (b : Bool) → outruns now.answer (on_link x.0.0 t) ≡ true → (b || outruns now.answer (on_link x.0.0 t)) ≡ true
    either true e = refl
    either false e = e

pub out-unpending : {w : ℕ} (c s : ℕ) (a : Outrun) (t : Trace w) → IsOut c s a t
    → find (is_of c s) (pending_accesses t) ≡ None
unfolding outrun_accesses
out-unpending c s a [] out = none-some out
out-unpending {w} c s a (x ∷ t) out = elim (out-before c s a x t out) [
  | inr now ↦ unpending-now c s a x t now
  | inl old ↦ go old.0 (out-unpending c s a t old.0) (find (is_of c s) (pending_accesses (x ∷ t))) refl
]
  where
    go : IsOut c s a t → find (is_of c s) (pending_accesses t) ≡ None → (o : Option (Access w)) → find (is_of c s) (pending_accesses (x ∷ t)) ≡ o
        → find (is_of c s) (pending_accesses (x ∷ t)) ≡ None
    go old none None e = e
    go old none (Some p) e = elim (pending-before c s p x t e) [
      | inl was ↦ none-some (sym none ∙ was.0)
      | inr asked ↦
          let beat = asked.beat in
          let fresh = (and_parts (asks beat (on_link x.0.0 t)) _ asked.asks_it).1 in
          let found : find (is_outrun_of x.0.0 beat.source) (outrun_accesses t) ≡ Some a =
          ap (λ n. find (is_outrun_of n beat.source) (outrun_accesses t)) (sym asked.link_is)
          ∙ ap (λ n. find (is_outrun_of c n) (outrun_accesses t)) (sym asked.source_is) ∙ old in
          true_false (sym fresh ∙ ap (λ o. not (is_some o)) found)
    ]

-- ---- until the answer is complete

-- an access stays among them until its answer is complete
pub out-still : {w : ℕ} (levels : List Level) (c s : ℕ) (a : Outrun) (x : Link × Beat w) (t : Trace w)
    → IsOut c s a t → a.answered ≡ false → (x.0.0 ≡ c → completes_answer s x.1 (on_link x.0.0 t) ≡ false)
    → (b : Outrun) × IsOut c s b (x ∷ t) × (b.answered ≡ false)
unfolding outrun_accesses
out-still {w} levels c s a x t out more unended = go x.1 unended
  where
    past : History w
    past = on_link x.0.0 t

    before : List Outrun
    before = outrun_accesses t

    Result : Beat w → Type 0
    Result b = (k : Outrun) × (find (is_outrun_of c s) (outrun_with x.0.0 b past before) ≡ Some k) × (k.answered ≡ false)

    unsettled-if : (o : Option Outrun) → o ≡ Some a → if_answered o ≡ None
    unsettled-if o e = rw (e, more) refl

    settles : (o : Option Outrun) (y-source : ℕ) → (o ≡ None) ⊎ (find (is_outrun_of x.0.0 y-source) before ≡ o)
        → ((x.0.0 ≡ c) × (y-source ≡ s) → o ≡ None)
        → (k : Outrun) × (find (is_outrun_of c s) (without_settled o before) ≡ Some k) × (k.answered ≡ false)
    settles None y-source is own = (a, out, more)
    settles (Some b) y-source (inl e) own = none-some (sym e)
    settles (Some b) y-source (inr e) own =
        let key = found-key x.0.0 y-source before b e in
        elim (either-key c s b.link b.source) [
          | inl same ↦ none-some (sym (own (sym key.0 ∙ sym same.0, sym key.1 ∙ sym same.1)))
          | inr ne ↦ (a, found-but c s b.link b.source before ne ∙ out, more)
        ]

    settled-either-a : (y : BeatA w) → (settled_by x.0.0 (Beat.A y) past before ≡ None)
        ⊎ (find (is_outrun_of x.0.0 y.source) before ≡ settled_by x.0.0 (Beat.A y) past before)
    settled-either-a y = either (settled_by x.0.0 (Beat.A y) past before) refl
      where
        either : (o : Option Outrun) → settled_by x.0.0 (Beat.A y) past before ≡ o
            → (settled_by x.0.0 (Beat.A y) past before ≡ None)
            ⊎ (find (is_outrun_of x.0.0 y.source) before ≡ settled_by x.0.0 (Beat.A y) past before)
        either None e = inl e
        either (Some b) e = inr (settled-a x.0.0 y past before b e ∙ sym e)

    own-found : (source : ℕ) → (x.0.0 ≡ c) × (source ≡ s) → find (is_outrun_of x.0.0 source) before ≡ Some a
    own-found source own = rw (own.0, own.1) out

    request : (y : BeatA w) → Result (Beat.A y)
    request y = settles (settled_by x.0.0 (Beat.A y) past before) y.source (settled-either-a y) (λ own.
        if-last (ends (Beat.A y) past) (unsettled-if (find (is_outrun_of x.0.0 y.source) before) (own-found y.source own)))
      where
        if-last : (b : Bool) → if_answered (find (is_outrun_of x.0.0 y.source) before) ≡ None
            → ◌≡◌ {A = Option Outrun} (if b then if_answered (find (is_outrun_of x.0.0 y.source) before) else None) None
        if-last true e = e
        if-last false e = refl

    answer : (y : BeatD w) → (x.0.0 ≡ c → completes_answer s (Beat.D y) past ≡ false) → (b : Bool)
        → outruns y past ≡ b
        → (k : Outrun) × (find (is_outrun_of c s) (if b
        then outrun_by x.0.0 (unfinished Channel.A past) (ends (Beat.D y) past) (without x.0.0 y.source before)
        else without_settled (settled_by x.0.0 (Beat.D y) past before) before) ≡ Some k) × (k.answered ≡ false)
    answer y unended false f = settles (settled_by x.0.0 (Beat.D y) past before) y.source
        (either (settled_by x.0.0 (Beat.D y) past before) refl)
        (λ own. unless (ends (Beat.D y) past) (is_release_ack y.opcode)
        (comes_in_request y.source (unfinished Channel.A past)) (y.source == s) (eq-eqb y.source s own.1) (unended own.0))
      where
        either : (o : Option Outrun) → settled_by x.0.0 (Beat.D y) past before ≡ o
            → (settled_by x.0.0 (Beat.D y) past before ≡ None)
            ⊎ (find (is_outrun_of x.0.0 y.source) before ≡ settled_by x.0.0 (Beat.D y) past before)
        either None e = inl e
        either (Some b) e = inr (settled-d x.0.0 y past before b e ∙ sym e)

        unless : (last ack comes own : Bool) → own ≡ true → (last && (not ack && own)) ≡ false
            → ◌≡◌ {A = Option Outrun} (if ((not ack && last) && not comes)
            then find (is_outrun_of x.0.0 y.source) before else None) None
        unless true false comes true e off = true_false off
        unless true true comes own e off = refl
        unless false true comes own e off = refl
        unless false false comes own e off = refl
        unless last ack comes false e off = true_false (sym e)
    answer y unended true f =
        let first = comes-parts y.source (unfinished Channel.A past) (outruns-parts y past f).1 in
        rw (first.2) (own first.0 first.3 (either-key c s x.0.0 first.0.source))
      where
        own : (z : BeatA w) → z.source ≡ y.source → ((c ≡ x.0.0) × (s ≡ z.source)) ⊎ ((c ≡ x.0.0) × (s ≡ z.source) → ⊥)
            → (k : Outrun) × ((if (x.0.0 == c) && (z.source == s) then Some (record {
              link = x.0.0;
              source = z.source;
              address = z.address;
              size = z.size;
              answered = ends (Beat.D y) past;
            }) else find (is_outrun_of c s) (without x.0.0 y.source before)) ≡ Some k) × (k.answered ≡ false)
        own z same (inl key) = (
          record {
            link = x.0.0;
            source = z.source;
            address = z.address;
            size = z.size;
            answered = ends (Beat.D y) past;
          },
          rw (eq-eqb x.0.0 c (sym key.0), eq-eqb z.source s (sym key.1)) refl,
          unless (ends (Beat.D y) past) (is_release_ack y.opcode) (y.source == s) (outruns-parts y past f).0
              (eq-eqb y.source s (sym same ∙ sym key.1)) (unended (sym key.0)),
        )
          where
            unless : (last ack own : Bool) → ack ≡ false → own ≡ true → (last && (not ack && own)) ≡ false → last ≡ false
            unless true false true e g off = off
            unless true true own e g off = true_false e
            unless true ack false e g off = true_false (sym g)
            unless false ack own e g off = refl
        own z same (inr ne) = (
          a,
          rw (off ne) (found-but c s x.0.0 y.source before (λ k. ne (k.0, k.1 ∙ sym same)) ∙ out),
          more,
        )
          where
            off : ((c ≡ x.0.0) × (s ≡ z.source) → ⊥) → ((x.0.0 == c) && (z.source == s)) ≡ false
            off ne = elim (cases_Bool ((x.0.0 == c) && (z.source == s))) [
              | inr e ↦ e
              | inl e ↦
                  let both = and_parts (x.0.0 == c) (z.source == s) e in
                  absurd (ne (sym (eqb-true x.0.0 c both.0), sym (eqb-true z.source s both.1)))
            ]

    go : (b : Beat w) → (x.0.0 ≡ c → completes_answer s b past ≡ false) → Result b
    go (Beat.A y) unended = request y
    go (Beat.D y) unended = answer y unended (outruns y past) refl
    go (Beat.B y) unended = (a, out, more)
    go (Beat.C y) unended = (a, out, more)
    go (Beat.E y) unended = (a, out, more)
