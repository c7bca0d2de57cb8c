-- Accesses whose answers outran their requests, with one more beat.
use Rattle.tl_one_memory.proofs.Imports.{Beat, BeatD, Link, reaches, unfinished, Trace, on_link, Access, IsPending}
use Rattle.std.proofs.Common.{◌≡◌, ℕ, Bool, true, false, not, ◌&&◌, List, [], ◌∷◌, ◌⊎◌, inl, inr, refl, sym}
use Rattle.std.proofs.Common.{◌∙◌}
use Rattle.std.specs.Prelude.{find, Option, Some, None, ◌==◌}
use Rattle.std.proofs.lemmas.Bool.{and_parts, eq-eqb, eqb-true}
use Rattle.tl_beat.specs.declared.{beat.BeatA.BeatA, channel.Channel.Channel}
use Rattle.tl_burst.specs.statement.Messages.{History}
use Rattle.tl_rules.specs.statement.{Conformance.comes_in_request, History.ends, History.is_release_ack}
use Rattle.tl_bytes.specs.statement.Bytes.{asks, asks_new, is_settled}
use Rattle.tl_bytes.specs.statement.Early.{Outrun, is_outrun, is_outrun_of, outrun_by, outrun_with, outruns}
use Rattle.tl_bytes.specs.statement.Early.{settled_by, without, without_settled}
unfoldable use Rattle.tl_bytes.specs.statement.Early.{outrun_accesses}
use Rattle.tl_bytes.proofs.Finding.{among-found, found-among, found-passes, none-some}
use Rattle.tl_memory.proofs.lawful.Outrunning.{IsOut, apart, either-key, found-but, out-unpending, settled-a, settled-d}

-- the beat belongs to an answer that comes before the request is complete
pub record IsOutrunNow {w : ℕ} (c s : ℕ) (y : Link × Beat w) (t : Trace w) : Type 0 where
  pub beat : BeatD w
  pub beat_is : y.1 ≡ Beat.D beat
  pub early : outruns beat (on_link y.0.0 t) ≡ true
  pub link_is : c ≡ y.0.0
  pub source_is : s ≡ beat.source

-- an access has its own link and source
own_key : (link source : ℕ) → (link == link) && (source == source) ≡ true
own_key link source = rw (eq-eqb link link refl, eq-eqb source source refl) refl

-- ---- an access is settled

-- one that was found is found still, or is the settled one
settled-after : (c s : ℕ) (o : Option Outrun) (access : Outrun) (before : List Outrun)
    → ((a : Outrun) → o ≡ Some a → (key : ℕ × ℕ) × (find (is_outrun_of key.0 key.1) before ≡ Some a))
    → find (is_outrun_of c s) before ≡ Some access
    → (find (is_outrun_of c s) (without_settled o before) ≡ Some access) ⊎ (o ≡ Some access)
settled-after c s None access before found e = inl e
settled-after c s (Some other) access before found e = elim (either-key c s other.link other.source) [
  | inr ne ↦ inl (found-but c s other.link other.source before ne ∙ e)
  | inl same ↦
      let key = (found other refl).0 in
      let there : find (is_outrun_of key.0 key.1) before ≡ Some other = (found other refl).1 in
      let own = and_parts (other.link == key.0) (other.source == key.1)
      (found-passes (is_outrun_of key.0 key.1) before other there) in
      let here : find (is_outrun_of key.0 key.1) before ≡ Some access =
      rw (← eqb-true other.link key.0 own.0, ← eqb-true other.source key.1 own.1, ← same.0, ← same.1) e in
      inr (sym there ∙ here)
]

-- the settled access is the one with the source of the beat
settled-found : {w : ℕ} (link : ℕ) (b : Beat w) (past : History w) (before : List Outrun) (a : Outrun)
    → settled_by link b past before ≡ Some a
    → (key : ℕ × ℕ) × (find (is_outrun_of key.0 key.1) before ≡ Some a)
settled-found link (Beat.A x) past before a e = ((link, x.source), settled-a link x past before a e)
settled-found link (Beat.D x) past before a e = ((link, x.source), settled-d link x past before a e)
settled-found link (Beat.B x) past before a e = absurd cc
settled-found link (Beat.C x) past before a e = absurd cc
settled-found link (Beat.E x) past before a e = absurd cc

-- ---- one more beat

-- no access is pending whose answer outran its request
pub never-both : {w : ℕ} (c s : ℕ) (p : Access w) (access : Outrun) (t : Trace w) → IsPending c s p t
    → IsOut c s access t → ⊥
never-both c s p access t pending out = none-some p (sym (out-unpending c s access t out) ∙ pending)

-- what is asked for is asked for anew, or its answer outran the request
pub asks-or : {w : ℕ} (link : ℕ) (z : BeatA w) (past : History w) (t : Trace w) → asks z past ≡ true
    → (asks_new link z past (outrun_accesses t) ≡ true → ⊥)
    → ((access : Outrun) → IsOut link z.source access t → ⊥) → ⊥
asks-or link z past t asking new outrun = go (find (is_outrun_of link z.source) (outrun_accesses t)) refl
  where
    go : (o : Option Outrun) → find (is_outrun_of link z.source) (outrun_accesses t) ≡ o → ⊥
    go None e = new (rw (asking, e) refl)
    go (Some access) e = outrun access e

-- ---- the byte at an address

-- such an access may write the byte at an address
pub record MayLeave {w : ℕ} (address : ℕ) (t : Trace w) : Type 0 where
  pub link : ℕ
  pub source : ℕ
  pub access : Outrun
  pub is : IsOut link source access t
  pub reached : reaches access.address access.size address ≡ true

pub may-leave : {w : ℕ} (address : ℕ) (t : Trace w) → MayLeave address t
    → is_outrun address (outrun_accesses t) ≡ true
may-leave address t now =
    found-among (λ a. reaches a.address a.size address ≡ true) (λ a. reaches a.address a.size address)
    (outrun_accesses t) (λ a reached. reached)
    (among-found (λ a. reaches a.address a.size address ≡ true) (is_outrun_of now.link now.source) (outrun_accesses t)
    now.access now.is now.reached)

-- the unfinished request on the link of a beat reaches the byte, if the beat belongs to an answer to that
abbrev pub ReachesOwn : {w : ℕ} → ℕ → ℕ → ℕ → Link × Beat w → Trace w → Type 0
ReachesOwn {w} address c s y t = IsOutrunNow c s y t → (z : BeatA w) (older : List (Beat w))
    → unfinished Channel.A (on_link y.0.0 t) ≡ Beat.A z ∷ older → reaches z.address z.size address ≡ true

-- the access of an answer that comes before its request is complete may write what the request reaches
pub outrun-now : {w : ℕ} (address c s : ℕ) (y : Link × Beat w) (t : Trace w) → IsOutrunNow c s y t
    → ReachesOwn address c s y t → MayLeave address (y ∷ t)
unfolding outrun_accesses
outrun-now {w} address c s y t now own = go (unfinished Channel.A past) refl comes
  where
    past : History w
    past = on_link y.0.0 t

    comes : comes_in_request now.beat.source (unfinished Channel.A past) ≡ true
    comes = (and_parts (not (is_release_ack now.beat.opcode)) _ now.early).1

    go : (burst : List (Beat w)) → unfinished Channel.A past ≡ burst → comes_in_request now.beat.source burst ≡ true
        → MayLeave address (y ∷ t)
    go (Beat.A z ∷ older) e f = record {
      link = y.0.0;
      source = now.beat.source;
      access = record {
        link = y.0.0;
        source = z.source;
        address = z.address;
        size = z.size;
        answered = ends (Beat.D now.beat) past;
      };
      is = rw (now.beat_is, now.early, e, eq-eqb y.0.0 y.0.0 refl, f) refl;
      reached = own now z older e;
    }
    go [] e f = absurd cc
    go (Beat.B z ∷ older) e f = absurd cc
    go (Beat.C z ∷ older) e f = absurd cc
    go (Beat.D z ∷ older) e f = absurd cc
    go (Beat.E z ∷ older) e f = absurd cc

-- an access that may write a byte may do so still, or is settled with the beat
pub outrun-after : {w : ℕ} (address : ℕ) (y : Link × Beat w) (t : Trace w) (was : MayLeave address t)
    → ReachesOwn address was.link was.source y t
    → MayLeave address (y ∷ t) ⊎ (is_settled address y t ≡ true)
unfolding outrun_accesses
outrun-after {w} address y t was own = go y.1 refl
  where
    past : History w
    past = on_link y.0.0 t

    before : List Outrun
    before = outrun_accesses t

    Result : Type 0
    Result = MayLeave address (y ∷ t) ⊎ (is_settled address y t ≡ true)

    kept : find (is_outrun_of was.link was.source) (outrun_with y.0.0 y.1 past before) ≡ Some was.access → Result
    kept e = inl (record { link = was.link; source = was.source; access = was.access; is = e; reached = was.reached })

    settled : (b : Beat w) → y.1 ≡ b
        → outrun_with y.0.0 b past before ≡ without_settled (settled_by y.0.0 b past before) before → Result
    settled b e with_it =
        elim (settled-after was.link was.source (settled_by y.0.0 b past before) was.access before
        (λ a f. settled-found y.0.0 b past before a f) was.is) [
          | inl still ↦ kept (rw (e, with_it) still)
          | inr done ↦ inr (rw (e, done) was.reached)
        ]

    -- it is the access of this answer, or another one
    early : (z : BeatD w) → y.1 ≡ Beat.D z → outruns z past ≡ true → Result
    early z e f = elim (either-key was.link was.source y.0.0 z.source) [
      | inl same ↦
          let now : IsOutrunNow was.link was.source y t =
          record { beat = z; beat_is = e; early = f; link_is = same.0; source_is = same.1 } in
          inl (outrun-now address was.link was.source y t now own)
      | inr ne ↦ kept (rw (e, f) (other ne (unfinished Channel.A past)
          (and_parts (not (is_release_ack z.opcode)) (comes_in_request z.source (unfinished Channel.A past)) f).1))
    ]
      where
        other : ((was.link ≡ y.0.0) × (was.source ≡ z.source) → ⊥) → (burst : List (Beat w))
            → comes_in_request z.source burst ≡ true
            → find (is_outrun_of was.link was.source) (outrun_by y.0.0 burst (ends (Beat.D z) past)
            (without y.0.0 z.source before)) ≡ Some was.access
        other ne (Beat.A x ∷ older) comes =
            rw (
              apart y.0.0 x.source was.link was.source (record {
                link = y.0.0;
                source = x.source;
                address = x.address;
                size = x.size;
                answered = ends (Beat.D z) past;
              }) (λ same. ne (sym same.0, sym same.1 ∙ eqb-true x.source z.source comes)) (own_key y.0.0 x.source),
              found-but was.link was.source y.0.0 z.source before ne,
            ) was.is
        other ne [] comes = absurd cc
        other ne (Beat.B x ∷ older) comes = absurd cc
        other ne (Beat.C x ∷ older) comes = absurd cc
        other ne (Beat.D x ∷ older) comes = absurd cc
        other ne (Beat.E x ∷ older) comes = absurd cc

    response : (z : BeatD w) → y.1 ≡ Beat.D z → (b : Bool) → outruns z past ≡ b → Result
    response z e true f = early z e f
    response z e false f = settled (Beat.D z) e (rw f refl)

    go : (b : Beat w) → y.1 ≡ b → Result
    go (Beat.D z) e = response z e (outruns z past) refl
    go (Beat.A z) e = settled (Beat.A z) e refl
    go (Beat.B z) e = settled (Beat.B z) e refl
    go (Beat.C z) e = settled (Beat.C z) e refl
    go (Beat.E z) e = settled (Beat.E z) e refl
