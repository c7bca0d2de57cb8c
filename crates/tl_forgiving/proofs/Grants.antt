-- Where Grants and their answers are in order, a Grant whose burst is unfinished waits for its GrantAck, unless it may
-- be answered before its end.
use Rattle.tl_forgiving.proofs.Imports.{Beat, A, B, C, D, E, Channel, History, unfinished, is_empty, Level, Liberties}
use Rattle.tl_forgiving.proofs.Imports.{asks_for, begins, ends, grant_sink, is_grant, is_release_ack, pending}
use Rattle.tl_forgiving.proofs.Imports.{request_of}
use Rattle.tl_forgiving.proofs.Bursts.{IsSameD, Before, before-d, grown-by}
use Rattle.tl_forgiving.proofs.Bursts.Before.{Nothing, Earlier}
use Rattle.tl_forgiving.proofs.Implied.{first, not-false, second-fails, test-fails}
use Rattle.tl_forgiving.proofs.Lawful.{AreLawful, begun-lawfully}
use Rattle.std.proofs.Common.{◌≡◌, ℕ, Bool, true, false, not, cond, ◌&&◌, ◌||◌, List, [], ◌∷◌, refl, sym, ap, ◌∙◌}
use Rattle.std.proofs.Common.{subst}
use Rattle.std.specs.Prelude.{if◌then◌else◌, None, Some, ◌==◌}
use Rattle.std.proofs.lemmas.Bool.{eqb-true}
use Rattle.tl_beat.{specs.declared.beat.BeatA.BeatA, specs.declared.beat.BeatD.BeatD, specs.declared.beat.BeatE.BeatE}
use Rattle.tl_params.specs.declared.key.Key.TheVariants.{GrantAckOf, GrantSink, RequestSource}
use Rattle.tl_params.specs.declared.rule.Rule.TheVariants.{H1, H2, H8}
use Rattle.tl_rules.specs.statement.Conformance.{comes_in_grant}
use Rattle.tl_rules.specs.statement.History.{is_sink}
use Rattle.tl_rules.specs.statement.Liberties.{broken_in_order_under, broken_order_under, has_request_under}
use Rattle.tl_rules.{proofs.Open.not_release_ack, proofs.Sent.pending-closed, proofs.Sent.pending-quiet}
use Rattle.tl_rules.proofs.Tables.{neither}

-- no GrantAck is unfinished
pub none-on-e : {w : ℕ} (t : History w) → unfinished Channel.E t ≡ []
unfolding unfinished
none-on-e [] = refl
none-on-e (A x ∷ t) = none-on-e t
none-on-e (B x ∷ t) = none-on-e t
none-on-e (C x ∷ t) = none-on-e t
none-on-e (D x ∷ t) = none-on-e t
none-on-e (E x ∷ t) = rw (none-on-e t) refl

-- the block waits for a GrantAck, of the last Grant that began, which has this sink
pub record IsGranted {w : ℕ} (sink k : ℕ) (t : History w) : Type 0 where
  pub waits : pending (GrantAckOf k) t ≡ true
  pub last : grant_sink k t ≡ Some sink

-- the request of the Grant is pending, and its block is being granted
pub record IsGranting {w : ℕ} (y : BeatD w) (t : History w) : Type 0 where
  pub asked : pending (RequestSource y.source) t ≡ true
  pub given : (k : ℕ) → asks_for k (request_of y.source t) ≡ true → IsGranted y.sink k t

module _ {w : ℕ} (l : Liberties) where
  -- a Grant that begins answers a request that is pending
  answers : (x : BeatD w) (t : History w) → broken_in_order_under l (D x) t ≡ None → begins (D x) t ≡ true
      → is_grant x.opcode ≡ true → pending (RequestSource x.source) t ≡ true
  unfolding broken_order_under
  answers x t ordered now grant =
      first (pending (RequestSource x.source) t) _ (rw (not_release_ack x.opcode grant) at (not-false
      (has_request_under l x t)
      (test-fails (not (has_request_under l x t)) H2 _ (begun-lawfully l (D x) t ordered now))))

  -- a GrantAck comes for no Grant whose burst is unfinished, unless it may come early
  pub late-ack : (x : BeatE) (t : History w) → l.early ≡ false → broken_in_order_under l (E x) t ≡ None
      → comes_in_grant x.sink (unfinished Channel.D t) ≡ false
  unfolding broken_order_under
  late-ack x t late ordered =
      rw late at (second-fails (not (pending (GrantSink x.sink) t)) _
      (test-fails (not (pending (GrantSink x.sink) t) || (not l.early && comes_in_grant x.sink
      (unfinished Channel.D t))) H8 None (begun-lawfully l (E x) t ordered (ap is_empty (none-on-e t)))))

  granting-a : (x : BeatA w) (y : BeatD w) (t : History w) → broken_in_order_under l (A x) t ≡ None
      → IsGranting y t → IsGranting y (A x ∷ t)
  unfolding pending request_of grant_sink broken_order_under
  granting-a x y t ordered old = go (begins (A x) t) refl (x.source == y.source) refl
    where
      stays : (if ends (A x) t && false then false else pending (RequestSource y.source) t) ≡ true
      stays = neither false (ends (A x) t) (pending (RequestSource y.source) t) ∙ old.asked

      kept : (asks : request_of y.source (A x ∷ t) ≡ request_of y.source t)
          → (pending (RequestSource y.source) (A x ∷ t) ≡ true) → IsGranting y (A x ∷ t)
      kept asks waits = record {
        asked = waits;
        given = λ k own.
            let is = old.given k (ap (asks_for k) (sym asks) ∙ own) in
            record { waits = pending-quiet (GrantAckOf k) (A x) t refl refl ∙ is.waits; last = is.last };
      }

      go : (now : Bool) → begins (A x) t ≡ now → (own : Bool) → (x.source == y.source) ≡ own
          → IsGranting y (A x ∷ t)
      go true n true o = absurd (
          let free : pending (RequestSource x.source) t ≡ false =
          test-fails (pending (RequestSource x.source) t) H1 _ (begun-lawfully l (A x) t ordered n) in
          let wrong : true ≡ false = sym old.asked ∙ ap (λ s. pending (RequestSource s) t)
          (sym (eqb-true x.source y.source o)) ∙ free in
          cc)
      go true n false o =
          kept (rw (n, o) refl) (rw (n, o) stays)
      go false n own o = kept (rw n refl) (rw n stays)

  granting-d : (x y : BeatD w) (older : List (Beat w)) (t : History w) → broken_in_order_under l (D x) t ≡ None
      → ((z : BeatD w) (rest : List (Beat w)) → unfinished Channel.D t ≡ D z ∷ rest → is_grant z.opcode ≡ true
      → IsGranting z t)
      → unfinished Channel.D (D x ∷ t) ≡ D y ∷ older → is_grant y.opcode ≡ true → IsGranting y (D x ∷ t)
  unfolding unfinished pending request_of grant_sink
  granting-d x y older t ordered before e grant =
      let is = grown-by (D x) (D y) (unfinished Channel.D t) older e in
      subst (λ (z : BeatD w). is_grant z.opcode ≡ true → IsGranting z (D x ∷ t)) (same is.0)
      (go is.1 (before-d l t x ordered)) grant
    where
      same : {x y : BeatD w} → D x ≡ D y → x ≡ y
      same f = cc

      unended : (now closing before : Bool) → before ≡ true
          → (if now && false then true else if false && closing then false else before) ≡ true
      unended true closing before f = f
      unended false closing before f = f

      waiting : ends (D x) t ≡ false → pending (RequestSource x.source) t ≡ true
          → pending (RequestSource x.source) (D x ∷ t) ≡ true
      waiting more asked =
          rw more (unended (begins (D x) t) (not (is_release_ack x.opcode) && (x.source == x.source))
          (pending (RequestSource x.source) t) asked)

      go : ends (D x) t ≡ false → Before D (λ z. IsSameD x z) (unfinished Channel.D t)
          → is_grant x.opcode ≡ true → IsGranting x (D x ∷ t)
      go more (Nothing none) kind = record {
        asked = waiting more (answers x t ordered (ap is_empty none) kind);
        given = λ k own. record { waits = rw (none, kind, own) refl; last = rw (none, kind, own) refl };
      }
      go more (Earlier z rest burst alike) kind =
          let old = before z rest burst (ap is_grant (sym alike.opcode) ∙ kind) in
          record {
            asked = waiting more (ap (λ s. pending (RequestSource s) t) alike.source ∙ old.asked);
            given = λ k own.
                let is = old.given k (ap (λ s. asks_for k (request_of s t)) (sym alike.source) ∙ own) in
                record {
                  waits = rw (more, burst) is.waits;
                  last = rw burst (is.last ∙ ap (λ i. Some i) (sym alike.sink));
                };
          }

  granting-e : (x : BeatE) (y : BeatD w) (older : List (Beat w)) (t : History w) → l.early ≡ false
      → broken_in_order_under l (E x) t ≡ None → unfinished Channel.D t ≡ D y ∷ older → is_grant y.opcode ≡ true
      → IsGranting y t → IsGranting y (E x ∷ t)
  unfolding request_of grant_sink
  granting-e x y older t late ordered burst grant old = record {
    asked = pending-quiet (RequestSource y.source) (E x) t refl refl ∙ old.asked;
    given = λ k own.
        let is = old.given k own in
        record {
          waits = pending-closed (GrantAckOf k) (E x) t refl ∙ kept k is (ends (E x) t) refl;
          last = is.last;
        };
  }
    where
      other : (y.sink == x.sink) ≡ false
      other = rw (burst, grant) at (late-ack x t late ordered)

      kept : (k : ℕ) → IsGranted y.sink k t → (last : Bool) → ends (E x) t ≡ last
          → cond (ends (E x) t && is_sink x.sink (grant_sink k t)) false (pending (GrantAckOf k) t) ≡ true
      kept k is true f = rw (f, is.last, other) is.waits
      kept k is false f = rw f is.waits

-- ---- by induction

pub granting : {w : ℕ} (l : Liberties) (level : Level) (late : l.early ≡ false) (t : History w) → AreLawful l level t
    → (y : BeatD w) (older : List (Beat w)) → unfinished Channel.D t ≡ D y ∷ older → is_grant y.opcode ≡ true
    → IsGranting y t
unfolding unfinished AreLawful request_of grant_sink
granting l level late [] lawful y older e grant = absurd cc
granting l level late (A x ∷ t) lawful y older e grant =
    granting-a l x y t lawful.0.ordered (granting l level late t lawful.1 y older e grant)
granting l level late (D x ∷ t) lawful y older e grant =
    granting-d l x y older t lawful.0.ordered (λ z rest f kind. granting l level late t lawful.1 z rest f kind) e grant
granting l level late (E x ∷ t) lawful y older e grant =
    granting-e l x y older t late lawful.0.ordered e grant (granting l level late t lawful.1 y older e grant)
granting l level late (B x ∷ t) lawful y older e grant =
    let old = granting l level late t lawful.1 y older e grant in
    record {
      asked = pending-quiet (RequestSource y.source) (B x) t refl refl ∙ old.asked;
      given = λ k own.
          let is = old.given k own in
          record { waits = pending-quiet (GrantAckOf k) (B x) t refl refl ∙ is.waits; last = is.last };
    }
granting l level late (C x ∷ t) lawful y older e grant =
    let old = granting l level late t lawful.1 y older e grant in
    record {
      asked = pending-quiet (RequestSource y.source) (C x) t refl refl ∙ old.asked;
      given = λ k own.
          let is = old.given k own in
          record { waits = pending-quiet (GrantAckOf k) (C x) t refl refl ∙ is.waits; last = is.last };
    }
