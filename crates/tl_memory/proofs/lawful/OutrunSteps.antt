-- An access whose answer outran its request was one before a beat, or becomes one with it.
use Rattle.tl_memory.proofs.Imports.{Beat, BeatA, BeatD, Link, History, Trace, ends, on_link, unfinished}
use Rattle.std.proofs.Common.{◌≡◌, ◌⊎◌, ℕ, Bool, true, false, ◌&&◌, List, ◌∷◌, refl, sym, ◌∙◌, inl, inr, subst}
use Rattle.std.specs.Prelude.{◌==◌, ⊤, if◌then◌else◌, find, Option, Some, None}
use Rattle.std.proofs.lemmas.Bool.{and_parts, cases_Bool, eq-eqb, eqb-true}
use Rattle.tl_beat.specs.declared.channel.Channel.{Channel}
use Rattle.tl_bytes.proofs.Finding.{same-some}
use Rattle.tl_bytes.specs.statement.Early.{Outrun, ends_request, is_outrun_of, outrun_by, outrun_with, outruns}
use Rattle.tl_bytes.specs.statement.Early.{settled_by, without, without_settled}
unfoldable use Rattle.tl_bytes.specs.statement.Early.{outrun_accesses}
use Rattle.tl_memory.proofs.lawful.OutrunNames.{IsOut, found-but, gone-but, either-key, found-key, settled-a}
use Rattle.tl_memory.proofs.lawful.OutrunNames.{settled-d, comes-parts, outruns-parts}
use Rattle.tl_memory.proofs.Plain.{none-some}

-- the access is settled with none of these beats
abbrev pub StaysBy : {w : ℕ} → ℕ → Outrun → Beat w → History w → Type 0
StaysBy s a (Beat.A y) past = y.source ≡ s → ends (Beat.A y) past ≡ true → a.answered ≡ true → ⊥
StaysBy s a (Beat.D y) past = y.source ≡ s → (ends_request y past ≡ false) × (outruns y past ≡ false)
StaysBy s a _ past = ⊤

-- its answer comes with the beat
pub record IsOutNow {w : ℕ} (c s : ℕ) (a : Outrun) (x : Link × Beat w) (t : Trace w) : Type 0 where
  pub answer : BeatD w
  pub beat_is : x.1 ≡ Beat.D answer
  pub first : BeatA w
  pub older : List (Beat w)
  pub outruns_it : outruns answer (on_link x.0.0 t) ≡ true
  pub burst_is : unfinished Channel.A (on_link x.0.0 t) ≡ Beat.A first ∷ older
  pub link_is : c ≡ x.0.0
  pub source_is : s ≡ answer.source
  pub same_source : first.source ≡ answer.source
  pub access_is : a ≡ record {
    link = x.0.0;
    source = first.source;
    address = first.address;
    size = first.size;
    answered = ends (Beat.D answer) (on_link x.0.0 t);
  }

-- one that is among them was so before, or its answer comes now
pub out-before : {w : ℕ} (c s : ℕ) (a : Outrun) (x : Link × Beat w) (t : Trace w) → IsOut c s a (x ∷ t)
    → (IsOut c s a t × (c ≡ x.0.0 → StaysBy s a x.1 (on_link x.0.0 t))) ⊎ IsOutNow c s a x t
unfolding outrun_accesses
out-before {w} c s a x t is = go x.1 refl is
  where
    past : History w
    past = on_link x.0.0 t

    out : List Outrun
    out = outrun_accesses t

    Result : Type 0
    Result = (IsOut c s a t × (c ≡ x.0.0 → StaysBy s a x.1 past)) ⊎ IsOutNow c s a x t

    same-d : {y z : BeatD w} → Beat.D y ≡ Beat.D z → y ≡ z
    same-d e = cc

    settles-a : (y : BeatA w) → x.1 ≡ Beat.A y → (o : Option Outrun) → settled_by x.0.0 (Beat.A y) past out ≡ o
        → find (is_outrun_of c s) (without_settled o out) ≡ Some a → Result
    settles-a y e None f is = inl (
      is,
      λ own. subst (λ b. StaysBy s a b past) (sym e) (λ source last answered.
          let same : find (is_outrun_of x.0.0 y.source) out ≡ Some a = rw (← own, source) is in
          let settled : settled_by x.0.0 (Beat.A y) past out ≡ Some a = rw (last, same, answered) refl in
          none-some (sym f ∙ settled)),
    )
    settles-a y e (Some b) f is =
        let key = found-key x.0.0 y.source out b (settled-a x.0.0 y past out b f) in
        elim (either-key c s b.link b.source) [
          | inl same ↦ none-some (sym (gone-but c s b.link b.source out same.0 same.1) ∙ is)
          | inr ne ↦ inl (
            sym (found-but c s b.link b.source out ne) ∙ is,
            λ own. subst (λ b. StaysBy s a b past) (sym e) (λ source last answered.
                ne (own ∙ sym key.0, sym source ∙ sym key.1)),
          )
        ]

    settles-d : (y : BeatD w) → x.1 ≡ Beat.D y → outruns y past ≡ false → (o : Option Outrun)
        → settled_by x.0.0 (Beat.D y) past out ≡ o → find (is_outrun_of c s) (without_settled o out) ≡ Some a → Result
    settles-d y e late None f is = inl (
      is,
      λ own. subst (λ b. StaysBy s a b past) (sym e) (λ source. (
        elim (cases_Bool (ends_request y past)) [
          | inr off ↦ off
          | inl on ↦
              let same : find (is_outrun_of x.0.0 y.source) out ≡ Some a = rw (← own, source) is in
              let settled : settled_by x.0.0 (Beat.D y) past out ≡ Some a = rw on same in
              none-some (sym f ∙ settled)
        ],
        late,
      )),
    )
    settles-d y e late (Some b) f is =
        let key = found-key x.0.0 y.source out b (settled-d x.0.0 y past out b f) in
        elim (either-key c s b.link b.source) [
          | inl same ↦ none-some (sym (gone-but c s b.link b.source out same.0 same.1) ∙ is)
          | inr ne ↦ inl (
            sym (found-but c s b.link b.source out ne) ∙ is,
            λ own. subst (λ b. StaysBy s a b past) (sym e) (λ source.
                absurd (ne (own ∙ sym key.0, sym source ∙ sym key.1))),
          )
        ]

    answers : (y : BeatD w) → x.1 ≡ Beat.D y → (b : Bool) → outruns y past ≡ b
        → find (is_outrun_of c s) (if b
        then outrun_by x.0.0 (unfinished Channel.A past) (ends (Beat.D y) past) (without x.0.0 y.source out)
        else without_settled (settled_by x.0.0 (Beat.D y) past out) out) ≡ Some a → Result
    answers y e false f is = settles-d y e f (settled_by x.0.0 (Beat.D y) past out) refl is
    answers y e true f is =
        let first = comes-parts y.source (unfinished Channel.A past) (outruns-parts y past f).1 in
        own first.0 first.1 first.2 first.3 (rw first.2 at is) (either-key c s x.0.0 first.0.source)
      where
        own : (z : BeatA w) (older : List (Beat w)) → unfinished Channel.A past ≡ Beat.A z ∷ older → z.source ≡ y.source
            → (if (x.0.0 == c) && (z.source == s) then Some (record {
              link = x.0.0;
              source = z.source;
              address = z.address;
              size = z.size;
              answered = ends (Beat.D y) past;
            }) else find (is_outrun_of c s) (without x.0.0 y.source out)) ≡ Some a
            → ((c ≡ x.0.0) × (s ≡ z.source)) ⊎ ((c ≡ x.0.0) × (s ≡ z.source) → ⊥) → Result
        own z older burst same is (inl key) = inr (record {
          answer = y;
          beat_is = e;
          first = z;
          older = older;
          outruns_it = f;
          burst_is = burst;
          link_is = key.0;
          source_is = key.1 ∙ same;
          same_source = same;
          access_is = same-some _ a (rw (eq-eqb x.0.0 c (sym key.0), eq-eqb z.source s (sym key.1)) at is);
        })
        own z older burst same is (inr ne) =
            let other : (c ≡ x.0.0) × (s ≡ y.source) → ⊥ = λ k. ne (k.0, k.1 ∙ sym same) in
            inl (
              sym (found-but c s x.0.0 y.source out other) ∙ (rw (off ne) at is),
              λ own. subst (λ b. StaysBy s a b past) (sym e) (λ source. absurd (other (own, sym source))),
            )
          where
            off : ((c ≡ x.0.0) × (s ≡ z.source) → ⊥) → ((x.0.0 == c) && (z.source == s)) ≡ false
            off ne = elim (cases_Bool ((x.0.0 == c) && (z.source == s))) [
              | inr e ↦ e
              | inl e ↦
                  let both = and_parts (x.0.0 == c) (z.source == s) e in
                  absurd (ne (sym (eqb-true x.0.0 c both.0), sym (eqb-true z.source s both.1)))
            ]

    go : (b : Beat w) → x.1 ≡ b → find (is_outrun_of c s) (outrun_with x.0.0 b past out) ≡ Some a → Result
    go (Beat.A y) e is = settles-a y e (settled_by x.0.0 (Beat.A y) past out) refl is
    go (Beat.D y) e is = answers y e (outruns y past) refl is
    go (Beat.B y) e is = inl (is, λ own. subst (λ b. StaysBy s a b past) (sym e) tt)
    go (Beat.C y) e is = inl (is, λ own. subst (λ b. StaysBy s a b past) (sym e) tt)
    go (Beat.E y) e is = inl (is, λ own. subst (λ b. StaysBy s a b past) (sym e) tt)
