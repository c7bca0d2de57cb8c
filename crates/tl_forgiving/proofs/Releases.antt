-- Where Releases and their answers are in order, a Release whose burst is unfinished is pending of its block, unless
-- it may be answered before its end.
use Rattle.tl_forgiving.proofs.Imports.{Beat, A, B, C, D, E, Channel, History, unfinished, Level, Liberties}
use Rattle.tl_forgiving.proofs.Imports.{begins, block_at, ends, is_release, is_release_ack, pending, release_of}
use Rattle.tl_forgiving.proofs.Bursts.{IsSameC, Before, before-c, grown-by}
use Rattle.tl_forgiving.proofs.Bursts.Before.{Nothing, Earlier}
use Rattle.tl_forgiving.proofs.Implied.{first, first-fails, not-false, rest-none, second, second-fails, test-fails}
use Rattle.tl_forgiving.proofs.Lawful.{AreLawful, begun-lawfully, one-beat}
use Rattle.std.proofs.Common.{◌≡◌, ℕ, Bool, true, false, not, cond, ◌&&◌, List, [], ◌∷◌, refl, sym, ap, ap₂}
use Rattle.std.proofs.Common.{◌∙◌, subst}
use Rattle.std.specs.Prelude.{if◌then◌else◌, None, Option, Some, ◌==◌}
use Rattle.std.proofs.lemmas.Bool.{eq-eqb, eqb-true}
use Rattle.tl_beat.{specs.declared.beat.BeatC.BeatC, specs.declared.beat.BeatD.BeatD}
use Rattle.tl_params.specs.declared.key.Key.TheVariants.{AcquireOf, ReleaseOf, ReleaseSource}
use Rattle.tl_params.specs.declared.rule.Rule.TheVariants.{H1, H2, H13}
use Rattle.tl_rules.specs.statement.Conformance.{comes_in_release}
use Rattle.tl_rules.specs.statement.History.{releases}
use Rattle.tl_rules.specs.statement.Liberties.{broken_in_order_under, broken_order_under}
use Rattle.tl_rules.specs.statement.Liberties.{has_request_under}
use Rattle.tl_rules.{proofs.Named.still, proofs.Sent.pending-closed, proofs.Sent.pending-quiet, proofs.Tables.neither}

-- the source of the last Release of the block that began in t
unfoldable pub last_source : {w : ℕ} → ℕ → History w → Option ℕ
last_source k [] = None
last_source k (C x ∷ t) =
    if begins (C x) t && (is_release x.opcode && (block_at x.address == k)) then Some x.source else last_source k t
last_source k (v ∷ t) = last_source k t

-- the block waits for a ReleaseAck, of the last Release that began, which has this source
pub record IsAwaited {w : ℕ} (s k : ℕ) (t : History w) : Type 0 where
  pub waits : pending (ReleaseOf k) t ≡ true
  pub last : last_source k t ≡ Some s

-- so it is of each block of which a Release with this source is pending
abbrev pub AreAwaited : {w : ℕ} → History w → Type 0
AreAwaited t = (s k : ℕ) → pending (ReleaseSource s) t ≡ true → releases k (release_of s t) ≡ true → IsAwaited s k t

module _ {w : ℕ} (l : Liberties) where
  -- a ReleaseAck that ends comes while its Release is pending; unless it may come early, no burst of that is unfinished
  pub acknowledged : (x : BeatD w) (t : History w) → broken_in_order_under l (D x) t ≡ None
      → is_release_ack x.opcode ≡ true → ends (D x) t ≡ true
      → (pending (ReleaseSource x.source) t && not (not l.early && comes_in_release x.source (unfinished Channel.C t)))
      ≡ true
  unfolding broken_order_under
  acknowledged x t ordered ack last =
      rw ack at (not-false (has_request_under l x t) (test-fails (not (has_request_under l x t)) H2 _
      (begun-lawfully l (D x) t ordered (one-beat x t ack last))))

  -- a Release that begins is of a block of which none is pending
  alone : (x : BeatC w) (t : History w) → broken_in_order_under l (C x) t ≡ None
      → begins (C x) t ≡ true → is_release x.opcode ≡ true → pending (ReleaseOf (block_at x.address)) t ≡ false
  unfolding broken_order_under
  alone x t ordered now release =
      first-fails (pending (ReleaseOf (block_at x.address)) t) _
      (second-fails (pending (AcquireOf (block_at x.address)) t) _
      (test-fails _ H13 None (rest-none (pending (ReleaseSource x.source) t) H1 _
      (rw release at (begun-lawfully l (C x) t ordered now)))))

  awaited-c : (x : BeatC w) (t : History w) → broken_in_order_under l (C x) t ≡ None → AreAwaited t
      → AreAwaited (C x ∷ t)
  unfolding pending release_of last_source
  awaited-c x t ordered before s k waits of_block =
      go (begins (C x) t) refl (is_release x.opcode) refl (x.source == s) refl (block_at x.address == k) refl
    where
      was : (if ends (C x) t && false then false else pending (ReleaseSource s) t) ≡ true
          → releases k (release_of s t) ≡ true → IsAwaited s k t
      was p q = before s k (sym (neither false (ends (C x) t) (pending (ReleaseSource s) t)) ∙ p) q

      stays : IsAwaited s k t → (if ends (C x) t && false then false else pending (ReleaseOf k) t) ≡ true
      stays old = neither false (ends (C x) t) (pending (ReleaseOf k) t) ∙ old.waits

      go : (now : Bool) → begins (C x) t ≡ now → (release : Bool) → is_release x.opcode ≡ release → (own : Bool)
          → (x.source == s) ≡ own → (here : Bool) → (block_at x.address == k) ≡ here → IsAwaited s k (C x ∷ t)
      go true n true r true o true h = record {
        waits = rw (n, r, h) refl;
        last = rw (n, r, h) (ap (λ i. Some i) (eqb-true x.source s o));
      }
      go true n true r true o false h = absurd (let wrong : false ≡ true = rw (n, r, o, h) at of_block in cc)
      go true n true r false o true h = absurd (
          let old = was (rw (n, r, o) at waits) (rw (n, r, o) at of_block) in
          let wrong : true ≡ false = sym old.waits ∙ ap (λ i. pending (ReleaseOf i) t)
          (sym (eqb-true (block_at x.address) k h)) ∙ alone x t ordered n r in
          cc)
      go true n true r false o false h =
          let old = was (rw (n, r, o) at waits) (rw (n, r, o) at of_block) in
          record { waits = rw (n, r, h) (stays old); last = rw (n, r, h) old.last }
      go true n false r own o here h =
          let old = was (rw (n, r) at waits) (rw (n, r) at of_block) in
          record { waits = rw (n, r) (stays old); last = rw (n, r) old.last }
      go false n release r own o here h =
          let old = was (rw n at waits) (rw n at of_block) in
          record { waits = rw n (stays old); last = rw n old.last }

  awaited-d : (x : BeatD w) (t : History w) → broken_in_order_under l (D x) t ≡ None → AreAwaited t
      → AreAwaited (D x ∷ t)
  unfolding release_of last_source
  awaited-d x t ordered before s k waits of_block =
      record {
        waits = pending-closed (ReleaseOf k) (D x) t refl ∙ kept (ends (D x) t) refl (is_release_ack x.opcode) refl
            (releases k (release_of x.source t)) refl;
        last = old.last;
      }
    where
      closed : cond (ends (D x) t && (is_release_ack x.opcode && (x.source == s))) false (pending (ReleaseSource s) t)
          ≡ true
      closed = sym (pending-closed (ReleaseSource s) (D x) t refl) ∙ waits

      old : IsAwaited s k t
      old = before s k (still (ends (D x) t && (is_release_ack x.opcode && (x.source == s)))
          (pending (ReleaseSource s) t) closed) of_block

      some : {a b : ℕ} → Some a ≡ Some b → a ≡ b
      some e = cc

      kept : (last : Bool) → ends (D x) t ≡ last → (ack : Bool) → is_release_ack x.opcode ≡ ack → (own : Bool)
          → releases k (release_of x.source t) ≡ own
          → cond (ends (D x) t && (is_release_ack x.opcode && releases k (release_of x.source t))) false
          (pending (ReleaseOf k) t) ≡ true
      kept true f true a true o =
          let pends = first (pending (ReleaseSource x.source) t) _ (acknowledged x t ordered a f) in
          let other = before x.source k pends o in
          let equal : (x.source == s) ≡ true = eq-eqb x.source s (some (sym other.last ∙ old.last)) in
          absurd (let wrong : false ≡ true = rw (f, a, equal) at closed in cc)
      kept true f true a false o = rw (f, a, o) old.waits
      kept true f false a own o = rw (f, a) old.waits
      kept false f ack a own o = rw f old.waits

-- ---- by induction

pub awaited : {w : ℕ} (l : Liberties) (level : Level) (t : History w) → AreLawful l level t → AreAwaited t
unfolding AreLawful release_of last_source
awaited l level [] lawful s k waits of_block = absurd cc
awaited l level (C x ∷ t) lawful s k waits of_block =
    awaited-c l x t lawful.0.ordered (awaited l level t lawful.1) s k waits of_block
awaited l level (D x ∷ t) lawful s k waits of_block =
    awaited-d l x t lawful.0.ordered (awaited l level t lawful.1) s k waits of_block
awaited l level (A x ∷ t) lawful s k waits of_block =
    let before : pending (ReleaseSource s) t ≡ true = sym (pending-quiet (ReleaseSource s) (A x) t refl refl) ∙ waits in
    let old = awaited l level t lawful.1 s k before of_block in
    record { waits = pending-quiet (ReleaseOf k) (A x) t refl refl ∙ old.waits; last = old.last }
awaited l level (B x ∷ t) lawful s k waits of_block =
    let before : pending (ReleaseSource s) t ≡ true = sym (pending-quiet (ReleaseSource s) (B x) t refl refl) ∙ waits in
    let old = awaited l level t lawful.1 s k before of_block in
    record { waits = pending-quiet (ReleaseOf k) (B x) t refl refl ∙ old.waits; last = old.last }
awaited l level (E x ∷ t) lawful s k waits of_block =
    let before : pending (ReleaseSource s) t ≡ true = sym (pending-quiet (ReleaseSource s) (E x) t refl refl) ∙ waits in
    let old = awaited l level t lawful.1 s k before of_block in
    record { waits = pending-quiet (ReleaseOf k) (E x) t refl refl ∙ old.waits; last = old.last }

-- ---- a Release whose burst is unfinished

-- it is pending, of its block
pub record IsComing {w : ℕ} (y : BeatC w) (t : History w) : Type 0 where
  pub waits : pending (ReleaseSource y.source) t ≡ true
  pub of_block : releases (block_at y.address) (release_of y.source t) ≡ true

module _ {w : ℕ} (l : Liberties) (late : l.early ≡ false) where
  coming-c : (x y : BeatC w) (older : List (Beat w)) (t : History w) → broken_in_order_under l (C x) t ≡ None
      → ((z : BeatC w) (rest : List (Beat w)) → unfinished Channel.C t ≡ C z ∷ rest → is_release z.opcode ≡ true
      → IsComing z t)
      → unfinished Channel.C (C x ∷ t) ≡ C y ∷ older → is_release y.opcode ≡ true → IsComing y (C x ∷ t)
  unfolding unfinished pending release_of
  coming-c x y older t ordered before e release =
      let is = grown-by (C x) (C y) (unfinished Channel.C t) older e in
      subst (λ (z : BeatC w). is_release z.opcode ≡ true → IsComing z (C x ∷ t)) (same is.0)
      (go is.1 (before-c l t x ordered)) release
    where
      same : {x y : BeatC w} → C x ≡ C y → x ≡ y
      same f = cc

      go : ends (C x) t ≡ false → Before C (λ z. IsSameC x z) (unfinished Channel.C t)
          → is_release x.opcode ≡ true → IsComing x (C x ∷ t)
      go more (Nothing none) kind =
          let own : (x.source == x.source) ≡ true = eq-eqb x.source x.source refl in
          record {
            waits = rw (none, kind, own) refl;
            of_block = rw (none, kind, own) (eq-eqb (block_at x.address) (block_at x.address) refl);
          }
      go more (Earlier z rest burst alike) kind =
          let old = before z rest burst (ap is_release (sym alike.opcode) ∙ kind) in
          record {
            waits = rw (more, burst) (ap (λ s. pending (ReleaseSource s) t) alike.source ∙ old.waits);
            of_block = rw burst (ap₂ (λ a s. releases (block_at a) (release_of s t)) alike.address alike.source
                ∙ old.of_block);
          }

  coming-d : (x : BeatD w) (y : BeatC w) (older : List (Beat w)) (t : History w)
      → broken_in_order_under l (D x) t ≡ None → unfinished Channel.C t ≡ C y ∷ older → is_release y.opcode ≡ true
      → IsComing y t → IsComing y (D x ∷ t)
  unfolding release_of
  coming-d x y older t ordered burst release old = record {
    waits = pending-closed (ReleaseSource y.source) (D x) t refl
        ∙ go (ends (D x) t) refl (is_release_ack x.opcode) refl (x.source == y.source) refl;
    of_block = old.of_block;
  }
    where
      go : (last : Bool) → ends (D x) t ≡ last → (ack : Bool) → is_release_ack x.opcode ≡ ack → (own : Bool)
          → (x.source == y.source) ≡ own
          → cond (ends (D x) t && (is_release_ack x.opcode && (x.source == y.source))) false
          (pending (ReleaseSource y.source) t) ≡ true
      go true f true a true o =
          let other : (y.source == x.source) ≡ true = eq-eqb y.source x.source (sym (eqb-true x.source y.source o)) in
          absurd (
          let wrong : false ≡ true = rw (late, burst, release, other) at (second
          (pending (ReleaseSource x.source) t) _ (acknowledged l x t ordered a f)) in
          cc)
      go true f true a false o = rw (f, a, o) old.waits
      go true f false a own o = rw (f, a) old.waits
      go false f ack a own o = rw f old.waits

  pub coming : (level : Level) (t : History w) → AreLawful l level t → (y : BeatC w) (older : List (Beat w))
      → unfinished Channel.C t ≡ C y ∷ older → is_release y.opcode ≡ true → IsComing y t
  unfolding unfinished AreLawful release_of
  coming level [] lawful y older e release = absurd cc
  coming level (C x ∷ t) lawful y older e release =
      coming-c x y older t lawful.0.ordered (λ z rest f kind. coming level t lawful.1 z rest f kind) e release
  coming level (D x ∷ t) lawful y older e release =
      coming-d x y older t lawful.0.ordered e release (coming level t lawful.1 y older e release)
  coming level (A x ∷ t) lawful y older e release =
      let old = coming level t lawful.1 y older e release in
      record { waits = pending-quiet (ReleaseSource y.source) (A x) t refl refl ∙ old.waits; of_block = old.of_block }
  coming level (B x ∷ t) lawful y older e release =
      let old = coming level t lawful.1 y older e release in
      record { waits = pending-quiet (ReleaseSource y.source) (B x) t refl refl ∙ old.waits; of_block = old.of_block }
  coming level (E x ∷ t) lawful y older e release =
      let old = coming level t lawful.1 y older e release in
      record { waits = pending-quiet (ReleaseSource y.source) (E x) t refl refl ∙ old.waits; of_block = old.of_block }

  -- so its block waits for a ReleaseAck
  pub unanswered-release : (level : Level) (t : History w) → AreLawful l level t → (y : BeatC w) (older : List (Beat w))
      → unfinished Channel.C t ≡ C y ∷ older → is_release y.opcode ≡ true
      → pending (ReleaseOf (block_at y.address)) t ≡ true
  unanswered-release level t lawful y older e release =
      let is = coming level t lawful y older e release in
      (awaited l level t lawful y.source (block_at y.address) is.waits is.of_block).waits
