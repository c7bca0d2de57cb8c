-- What is kept of the Release of a link that may be answered early, with one more beat.
use Rattle.tl_memory.proofs.Imports.{Beat, BeatA, BeatC, BeatD, History, unfinished, block_at, begins, ends}
use Rattle.std.proofs.Common.{◌≡◌, ℕ, Bool, true, false, not, cond, ◌&&◌, List, [], ◌∷◌, refl, sym, ap, ◌∙◌, subst, inl}
use Rattle.std.proofs.Common.{inr}
use Rattle.std.specs.Prelude.{if◌then◌else◌, Option, Some, None, ◌==◌}
use Rattle.std.proofs.lemmas.Bool.{cases_Bool, eq-eqb, eqb-true, ne_eqb}
use Rattle.tl_beat.specs.declared.beat.{BeatB.BeatB, BeatE.BeatE}
use Rattle.tl_beat.specs.declared.channel.Channel.{Channel}
use Rattle.tl_burst.specs.statement.Part.{completes, is_empty}
use Rattle.tl_params.specs.declared.key.Key.{Key}
use Rattle.tl_params.specs.declared.key.Key.TheVariants.{ReleaseOf, ReleaseSource}
use Rattle.tl_params.specs.declared.level.Level.{Level}
use Rattle.tl_params.specs.declared.liberties.Liberties.{Liberties}
use Rattle.tl_rules.specs.statement.History.{is_release, is_release_ack, closes, opens, releases}
unfoldable use Rattle.tl_rules.specs.statement.History.{pending, release_of}
use Rattle.tl_rules.specs.statement.Liberties.{broken_in_order_under}
use Rattle.tl_rules.{proofs.Sent.pending-closed, proofs.Sent.pending-quiet}
use Rattle.tl_forgiving.proofs.Bursts.{IsSameC, Before, before-c}
use Rattle.tl_forgiving.proofs.Bursts.Before.{Nothing, Earlier}
use Rattle.tl_forgiving.proofs.Implied.{first}
use Rattle.tl_forgiving.proofs.Lawful.{AreLawful}
use Rattle.tl_forgiving.proofs.Releases.{acknowledged, awaited}
use Rattle.tl_memory.specs.code.Early.{released, releasing_after, releasing_or}
use Rattle.tl_memory.specs.declared.early.{Releasing.Releasing}
use Rattle.tl_memory.specs.statement.Links.{IsReleasing, KnowsReleasing}

some-is : {a b : ℕ} → Some a ≡ Some b → a ≡ b
some-is e = cc

pub same-c : {w : ℕ} {x y : BeatC w} → Beat.C x ≡ Beat.C y → x ≡ y
same-c e = cc

pub same-d : {w : ℕ} {x y : BeatD w} → Beat.D x ≡ Beat.D y → x ≡ y
same-d e = cc

pub head-is : {X : Type 0} {x y : X} {xs ys : List X} → x ∷ xs ≡ y ∷ ys → x ≡ y
head-is e = cc

pub no-head : {X : Type 0} {x : X} {xs : List X} → [] ≡ x ∷ xs → ⊥
no-head e = cc

pub differs : true ≡ false → ⊥
differs e = cc

-- a beat that begins no message opens nothing
pub quiet-later : {w : ℕ} (key : Key) (x : Beat w) (t : History w) → closes key x t ≡ false → begins x t ≡ false
    → pending key (x ∷ t) ≡ pending key t
unfolding pending
quiet-later key x t closed later = rw (later, closed) (go (opens key x t) (ends x t))
  where
    go : (a b : Bool) → cond (false && a) true (cond (b && false) false (pending key t)) ≡ pending key t
    go a true = refl
    go a false = refl

-- beats of channels A, B and E leave it
pub releasing-a : {w : ℕ} (o : Option Releasing) (x : BeatA w) (t : History w) → KnowsReleasing o t
    → KnowsReleasing o (Beat.A x ∷ t)
unfolding unfinished release_of
releasing-a None x t k = k
releasing-a (Some r) x t k = (
  k.0,
  k.1,
  k.2,
  k.3,
  record {
    source_is = k.4.source_is;
    block_is = k.4.block_is;
    of_block = k.4.of_block;
    waits_is = pending-quiet (ReleaseOf r.block) (Beat.A x) t refl refl ∙ k.4.waits_is;
    pends = λ n. pending-quiet (ReleaseSource k.0.source) (Beat.A x) t refl refl ∙ k.4.pends n;
  },
)

pub releasing-b : {w : ℕ} (o : Option Releasing) (x : BeatB w) (t : History w) → KnowsReleasing o t
    → KnowsReleasing o (Beat.B x ∷ t)
unfolding unfinished release_of
releasing-b None x t k = k
releasing-b (Some r) x t k = (
  k.0,
  k.1,
  k.2,
  k.3,
  record {
    source_is = k.4.source_is;
    block_is = k.4.block_is;
    of_block = k.4.of_block;
    waits_is = pending-quiet (ReleaseOf r.block) (Beat.B x) t refl refl ∙ k.4.waits_is;
    pends = λ n. pending-quiet (ReleaseSource k.0.source) (Beat.B x) t refl refl ∙ k.4.pends n;
  },
)

pub releasing-e : {w : ℕ} (o : Option Releasing) (x : BeatE) (t : History w) → KnowsReleasing o t
    → KnowsReleasing o (Beat.E x ∷ t)
unfolding unfinished release_of
releasing-e None x t k = k
releasing-e (Some r) x t k = (
  k.0,
  k.1,
  k.2,
  k.3,
  record {
    source_is = k.4.source_is;
    block_is = k.4.block_is;
    of_block = k.4.of_block;
    waits_is = pending-quiet (ReleaseOf r.block) (Beat.E x) t refl refl ∙ k.4.waits_is;
    pends = λ n. pending-quiet (ReleaseSource k.0.source) (Beat.E x) t refl refl ∙ k.4.pends n;
  },
)

module _ {w : ℕ} (l : Liberties) (level : Level) (t : History w) (lawful : AreLawful l level t) where
  -- what a beat of channel D leaves of it that is no ReleaseAck, or not the last
  releasing-still : (o : Option Releasing) (x : BeatD w) → (ends (Beat.D x) t && is_release_ack x.opcode) ≡ false
      → KnowsReleasing o t → KnowsReleasing o (Beat.D x ∷ t)
  unfolding unfinished release_of
  releasing-still None x other k = k
  releasing-still (Some r) x other k = (
    k.0,
    k.1,
    k.2,
    k.3,
    record {
      source_is = k.4.source_is;
      block_is = k.4.block_is;
      of_block = k.4.of_block;
      waits_is = pending-closed (ReleaseOf r.block) (Beat.D x) t refl
          ∙ unclosed (ends (Beat.D x) t) (is_release_ack x.opcode) (releases r.block (release_of x.source t))
          (pending (ReleaseOf r.block) t) other
          ∙ k.4.waits_is;
      pends = λ n. pending-closed (ReleaseSource k.0.source) (Beat.D x) t refl
          ∙ unclosed (ends (Beat.D x) t) (is_release_ack x.opcode) (x.source == k.0.source)
          (pending (ReleaseSource k.0.source) t) other
          ∙ k.4.pends n;
    },
  )
    where
      unclosed : (last ack own before : Bool) → (last && ack) ≡ false
          → cond (last && (ack && own)) false before ≡ before
      unclosed true true own before e = absurd cc
      unclosed true false own before e = refl
      unclosed false ack own before e = refl

  -- a ReleaseAck of another source closes no Release of the block
  not-closed : (r : Releasing) (y : BeatC w) (x : BeatD w) → IsReleasing r y t → r.answered ≡ false
      → (r.source == x.source) ≡ false → broken_in_order_under l (Beat.D x) t ≡ None → is_release_ack x.opcode ≡ true
      → ends (Beat.D x) t ≡ true → releases r.block (release_of x.source t) ≡ false
  not-closed r y x k waiting other ordered ack last = elim (cases_Bool (releases r.block (release_of x.source t))) [
    | inr closes_not ↦ closes_not
    | inl of_it ↦
        let pends = first (pending (ReleaseSource x.source) t) _ (acknowledged l x t ordered ack last) in
        let one = awaited l level t lawful x.source r.block pends of_it in
        let two = awaited l level t lawful y.source r.block (k.pends waiting) k.of_block in
        let same : r.source ≡ x.source = k.source_is ∙ some-is (sym two.last ∙ one.last) in
        absurd (differs (sym (eq-eqb r.source x.source same) ∙ other))
  ]

  releasing-acked : (o : Option Releasing) (x : BeatD w) → broken_in_order_under l (Beat.D x) t ≡ None
      → is_release_ack x.opcode ≡ true → ends (Beat.D x) t ≡ true → KnowsReleasing o t
      → KnowsReleasing (released o x.source) (Beat.D x ∷ t)
  unfolding unfinished release_of
  releasing-acked None x ordered ack last k = k
  releasing-acked (Some r) x ordered ack last k = elim (cases_Bool (r.source == x.source)) [
    | inl own ↦ rw own (
      k.0,
      k.1,
      k.2,
      k.3,
      record {
        source_is = k.4.source_is;
        block_is = k.4.block_is;
        of_block = k.4.of_block;
        waits_is = pending-closed (ReleaseOf r.block) (Beat.D x) t refl ∙ rw (last, ack, closes own) refl;
        pends = λ n. absurd (differs n);
      },
    )
    | inr other ↦ rw other (
      k.0,
      k.1,
      k.2,
      k.3,
      record {
        source_is = k.4.source_is;
        block_is = k.4.block_is;
        of_block = k.4.of_block;
        waits_is = pending-closed (ReleaseOf r.block) (Beat.D x) t refl ∙ stays other;
        pends = λ n. pending-closed (ReleaseSource k.0.source) (Beat.D x) t refl
            ∙ rw (last, ack, apart other) (k.4.pends n);
      },
    )
  ]
    where
      closes : (r.source == x.source) ≡ true → releases r.block (release_of x.source t) ≡ true
      closes own = ap (λ s. releases r.block (release_of s t)) (sym (eqb-true r.source x.source own) ∙ k.4.source_is)
          ∙ k.4.of_block

      apart : (r.source == x.source) ≡ false → (x.source == k.0.source) ≡ false
      apart other = ne_eqb x.source k.0.source (λ same.
          differs (sym (eq-eqb r.source x.source (k.4.source_is ∙ sym same)) ∙ other))

      stays : (r.source == x.source) ≡ false
          → cond (ends (Beat.D x) t && (is_release_ack x.opcode && releases r.block (release_of x.source t))) false
          (pending (ReleaseOf r.block) t) ≡ not r.answered
      stays other = elim (cases_Bool r.answered) [
        | inl answered ↦ rw (k.4.waits_is, answered) (either _)
        | inr waiting ↦ rw (last, ack, not-closed r k.0 x k.4 waiting other ordered ack last) k.4.waits_is
      ]
        where
          either : (b : Bool) → cond b false false ≡ false
          either true = refl
          either false = refl

  releasing-begun : (x : BeatC w) → unfinished Channel.C t ≡ [] → completes (Beat.C x) (unfinished Channel.C t) ≡ false
      → is_release x.opcode ≡ true
      → KnowsReleasing (Some (record { source = x.source; block = block_at x.address; answered = false })) (Beat.C x ∷ t)
  unfolding unfinished pending release_of
  releasing-begun x none more kind = (
    x,
    unfinished Channel.C t,
    rw more refl,
    kind,
    record {
      source_is = refl;
      block_is = refl;
      of_block = rw (none, kind, eq-eqb x.source x.source refl)
          (eq-eqb (block_at x.address) (block_at x.address) refl);
      waits_is = rw (none, kind, eq-eqb (block_at x.address) (block_at x.address) refl) refl;
      pends = λ n. rw (none, kind, eq-eqb x.source x.source refl) refl;
    },
  )

  releasing-goes_on : (r : Releasing) (x z : BeatC w) (rest : List (Beat w)) → unfinished Channel.C t ≡ Beat.C z ∷ rest
      → completes (Beat.C x) (unfinished Channel.C t) ≡ false → is_release x.opcode ≡ true → IsSameC x z
      → IsReleasing r z t → KnowsReleasing (Some r) (Beat.C x ∷ t)
  unfolding unfinished release_of
  releasing-goes_on r x z rest burst more kind alike k = (
    x,
    unfinished Channel.C t,
    rw more refl,
    kind,
    record {
      source_is = k.source_is ∙ sym alike.source;
      block_is = k.block_is ∙ ap block_at (sym alike.address);
      of_block = rw burst (ap (λ s. releases r.block (release_of s t)) alike.source ∙ k.of_block);
      waits_is = quiet-later (ReleaseOf r.block) (Beat.C x) t refl (ap is_empty burst) ∙ k.waits_is;
      pends = λ n. quiet-later (ReleaseSource x.source) (Beat.C x) t refl (ap is_empty burst)
          ∙ ap (λ s. pending (ReleaseSource s) t) alike.source ∙ k.pends n;
    },
  )

  -- a beat of channel D
  pub releasing-d : (o : Option Releasing) (x : BeatD w) → broken_in_order_under l (Beat.D x) t ≡ None
      → KnowsReleasing o t
      → KnowsReleasing (if ends (Beat.D x) t && is_release_ack x.opcode then released o x.source else o) (Beat.D x ∷ t)
  releasing-d o x ordered k = go (ends (Beat.D x) t) refl (is_release_ack x.opcode) refl
    where
      go : (last : Bool) → ends (Beat.D x) t ≡ last → (ack : Bool) → is_release_ack x.opcode ≡ ack
          → KnowsReleasing (if last && ack then released o x.source else o) (Beat.D x ∷ t)
      go true e true f = releasing-acked o x ordered f e k
      go true e false f = releasing-still o x (rw (e, f) refl) k
      go false e ack f = releasing-still o x (rw e refl) k

  -- a beat of channel C
  pub releasing-c : (o : Option Releasing) (x : BeatC w) → broken_in_order_under l (Beat.C x) t ≡ None
      → KnowsReleasing o t
      → KnowsReleasing (releasing_after o x (completes (Beat.C x) (unfinished Channel.C t))) (Beat.C x ∷ t)
  unfolding unfinished
  releasing-c o x ordered k =
      go (completes (Beat.C x) (unfinished Channel.C t)) refl (is_release x.opcode) refl (before-c l t x ordered) o k
    where
      whole : completes (Beat.C x) (unfinished Channel.C t) ≡ true → KnowsReleasing None (Beat.C x ∷ t)
      whole last y older e = absurd (no-head (sym (rw last refl) ∙ e))

      other : completes (Beat.C x) (unfinished Channel.C t) ≡ false → is_release x.opcode ≡ false
          → KnowsReleasing None (Beat.C x ∷ t)
      other more kind y older e =
          let is : Beat.C x ∷ unfinished Channel.C t ≡ Beat.C y ∷ older = sym (rw more refl) ∙ e in
          ap (λ (z : BeatC w). is_release z.opcode) (sym (same-c (head-is is))) ∙ kind

      fresh : (o : Option Releasing) → KnowsReleasing o t → unfinished Channel.C t ≡ [] → o ≡ None
      fresh None k none = refl
      fresh (Some r) k none = absurd (no-head (sym none ∙ k.2))

      goes : (o : Option Releasing) → KnowsReleasing o t → (z : BeatC w) (rest : List (Beat w))
          → unfinished Channel.C t ≡ Beat.C z ∷ rest → IsSameC x z
          → completes (Beat.C x) (unfinished Channel.C t) ≡ false → is_release x.opcode ≡ true
          → KnowsReleasing (releasing_or o x) (Beat.C x ∷ t)
      goes None k z rest burst alike more kind =
          absurd (differs (sym kind ∙ ap is_release alike.opcode ∙ k z rest burst))
      goes (Some r) k z rest burst alike more kind =
          let same : k.0 ≡ z = same-c (head-is (sym k.2 ∙ burst)) in
          releasing-goes_on r x z rest burst more kind alike (subst (λ v. IsReleasing r v t) same k.4)

      go : (last : Bool) → completes (Beat.C x) (unfinished Channel.C t) ≡ last → (kind : Bool)
          → is_release x.opcode ≡ kind → Before Beat.C (λ z. IsSameC x z) (unfinished Channel.C t)
          → (o : Option Releasing) → KnowsReleasing o t → KnowsReleasing (releasing_after o x last) (Beat.C x ∷ t)
      go true e kind f burst o k = whole e
      go false e false f burst o k = rw f (other e f)
      go false e true f (Nothing none) o k = rw (f, fresh o k none) (releasing-begun x none e f)
      go false e true f (Earlier z rest burst alike) o k = rw f (goes o k z rest burst alike e f)
