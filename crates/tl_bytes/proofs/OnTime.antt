-- On a link without the liberty `early` no answer begins before the message that it answers is complete.
use Rattle.tl_bytes.proofs.Imports.{Beat, Link, unfinished, Trace, on_link}
use Rattle.std.proofs.Common.{◌≡◌, ℕ, Bool, true, false, not, ◌&&◌, List, [], ◌∷◌, refl, sym, ap, ◌∙◌, inl, inr, subst}
use Rattle.std.specs.Prelude.{if◌then◌else◌, None, ◌==◌, ⊤}
use Rattle.std.proofs.lemmas.Bool.{cases_eq, ne_eqb}
use Rattle.tl_beat.specs.declared.beat.{BeatA.BeatA, BeatC.BeatC, BeatD.BeatD}
use Rattle.tl_beat.specs.declared.channel.Channel.{Channel}
use Rattle.tl_burst.specs.statement.Messages.{History, same_control}
use Rattle.tl_burst.specs.statement.Part.{completes, is_empty}
use Rattle.tl_burst.proofs.ControlFields.{control_a}
use Rattle.tl_params.specs.declared.key.Key.TheVariants.{GrantAckOf, ReleaseOf, ReleaseSource, RequestSource}
use Rattle.tl_params.specs.declared.level.Level.{Level}
use Rattle.tl_params.specs.declared.liberties.Liberties.{Liberties}
use Rattle.tl_params.specs.declared.rule.Rule.TheVariants.{H1, H2}
use Rattle.tl_rules.specs.statement.Conformance.{admits, comes_in_release, comes_in_request}
use Rattle.tl_rules.specs.statement.History.{asks_for, begins, block_at, ends, grants, is_grant, is_release, is_release_ack}
unfoldable use Rattle.tl_rules.specs.statement.History.{grant_sink, pending, release_of, request_of}
use Rattle.tl_rules.specs.statement.Liberties.{broken_in_order_under, broken_order_under, has_request_under}
use Rattle.tl_rules.proofs.Sent.{pending-closed, pending-quiet}
use Rattle.tl_forgiving.proofs.Bursts.{IsSameC, IsSameD, Before, before-c, before-d, grown-by}
use Rattle.tl_forgiving.proofs.Bursts.Before.{Nothing, Earlier}
use Rattle.tl_forgiving.proofs.Grants.{granting}
use Rattle.tl_forgiving.proofs.Implied.{first, not-false, not-true, second, test-fails}
use Rattle.tl_forgiving.proofs.Lawful.{AreLawful, begun-lawfully, goes-on}
use Rattle.tl_forgiving.proofs.Releases.{acknowledged, unanswered-release}
use Rattle.tl_bytes.specs.statement.Early.{ends_request, is_overtaken, is_release_of, is_released, outrun_accesses}
use Rattle.tl_bytes.specs.statement.Early.{outrun_with, outruns, without_settled}

-- ---- the request of a response is complete

-- the request with this source is pending, and complete
pub record IsWhole {w : ℕ} (s : ℕ) (t : History w) : Type 0 where
  pub waits : pending (RequestSource s) t ≡ true
  pub whole : comes_in_request s (unfinished Channel.A t) ≡ false

-- so is that of each response whose burst is unfinished
abbrev Serves : {w : ℕ} → History w → Type 0
Serves {w} t = (y : BeatD w) (older : List (Beat w)) → unfinished Channel.D t ≡ Beat.D y ∷ older
    → is_release_ack y.opcode ≡ false → IsWhole y.source t

module _ {w : ℕ} (l : Liberties) (late : l.early ≡ false) where
  -- a beat of channel A has another source than a request that is pending and complete
  fresh : (s : ℕ) (x : BeatA w) (t : History w) → broken_in_order_under l (Beat.A x) t ≡ None → IsWhole s t
      → (x.source == s) ≡ false
  unfolding broken_order_under
  fresh s x t ordered k = go (unfinished Channel.A t) refl k.whole
    where
      no : true ≡ false → ⊥
      no e = cc

      goes : (z : Beat w) (rest : List (Beat w)) → unfinished Channel.A t ≡ z ∷ rest
          → same_control (Beat.A x) z ≡ true
      goes z rest is = goes-on l (Beat.A x) z rest t ordered is

      go : (burst : List (Beat w)) → unfinished Channel.A t ≡ burst → comes_in_request s burst ≡ false
          → (x.source == s) ≡ false
      go [] is apart = elim (cases_eq x.source s) [
        | inr ne ↦ ne_eqb x.source s ne
        | inl same ↦ absurd (no (sym k.waits ∙ ap (λ n. pending (RequestSource n) t) (sym same)
            ∙ test-fails (pending (RequestSource x.source) t) H1 _
            (begun-lawfully l (Beat.A x) t ordered (ap is_empty is))))
      ]
      go (Beat.A z ∷ rest) is apart =
          let same = control_a x z (goes (Beat.A z) rest is) in
          rw same.3 apart
      go (Beat.B z ∷ rest) is apart = absurd (let wrong : false ≡ true = goes (Beat.B z) rest is in cc)
      go (Beat.C z ∷ rest) is apart = absurd (let wrong : false ≡ true = goes (Beat.C z) rest is in cc)
      go (Beat.D z ∷ rest) is apart = absurd (let wrong : false ≡ true = goes (Beat.D z) rest is in cc)
      go (Beat.E z ∷ rest) is apart = absurd (let wrong : false ≡ true = goes (Beat.E z) rest is in cc)

  -- so the request stays so with it
  whole-a : (s : ℕ) (x : BeatA w) (t : History w) → broken_in_order_under l (Beat.A x) t ≡ None → IsWhole s t
      → IsWhole s (Beat.A x ∷ t)
  unfolding unfinished
  whole-a s x t ordered k =
      let other = fresh s x t ordered k in
      record {
        waits = pending-quiet (RequestSource s) (Beat.A x) t other refl ∙ k.waits;
        whole = go (completes (Beat.A x) (unfinished Channel.A t)) other;
      }
    where
      go : (last : Bool) → (x.source == s) ≡ false
          → comes_in_request s (if last then [] else Beat.A x ∷ unfinished Channel.A t) ≡ false
      go true e = refl
      go false e = e

  -- a response that begins answers a complete request
  begun-whole : (x : BeatD w) (t : History w) → broken_in_order_under l (Beat.D x) t ≡ None
      → begins (Beat.D x) t ≡ true → is_release_ack x.opcode ≡ false → IsWhole x.source t
  unfolding broken_order_under
  begun-whole x t ordered now other =
      let has : (pending (RequestSource x.source) t && (not (not l.early && comes_in_request x.source
      (unfinished Channel.A t)) && admits x.opcode (request_of x.source t))) ≡ true =
      rw other at (not-false (has_request_under l x t)
      (test-fails (not (has_request_under l x t)) H2 _ (begun-lawfully l (Beat.D x) t ordered now))) in
      let rest = second (pending (RequestSource x.source) t) _ has in
      record {
        waits = first (pending (RequestSource x.source) t) _ has;
        whole = not-true (comes_in_request x.source (unfinished Channel.A t))
            (rw late at (first (not (not l.early && comes_in_request x.source (unfinished Channel.A t))) _ rest));
      }

  -- and each beat of one that isn't a ReleaseAck
  served : (x : BeatD w) (t : History w) → broken_in_order_under l (Beat.D x) t ≡ None → Serves t
      → is_release_ack x.opcode ≡ false → IsWhole x.source t
  served x t ordered before other = go (before-d l t x ordered)
    where
      go : Before Beat.D (λ z. IsSameD x z) (unfinished Channel.D t) → IsWhole x.source t
      go (Nothing none) = begun-whole x t ordered (ap is_empty none) other
      go (Earlier z rest burst alike) =
          subst (λ s. IsWhole s t) (sym alike.source)
          (before z rest burst (ap is_release_ack (sym alike.opcode) ∙ other))

  serves-d : (x y : BeatD w) (older : List (Beat w)) (t : History w) → broken_in_order_under l (Beat.D x) t ≡ None
      → Serves t → unfinished Channel.D (Beat.D x ∷ t) ≡ Beat.D y ∷ older → is_release_ack y.opcode ≡ false
      → IsWhole y.source (Beat.D x ∷ t)
  unfolding unfinished
  serves-d x y older t ordered before e other =
      let is = grown-by (Beat.D x) (Beat.D y) (unfinished Channel.D t) older e in
      subst (λ (z : BeatD w). is_release_ack z.opcode ≡ false → IsWhole z.source (Beat.D x ∷ t)) (same is.0)
      (λ f. still is.1 (served x t ordered before f)) other
    where
      same : {x y : BeatD w} → Beat.D x ≡ Beat.D y → x ≡ y
      same f = cc

      still : ends (Beat.D x) t ≡ false → IsWhole x.source t → IsWhole x.source (Beat.D x ∷ t)
      still more k = record {
        waits = pending-closed (RequestSource x.source) (Beat.D x) t refl ∙ rw more k.waits;
        whole = k.whole;
      }

  serves : (level : Level) (t : History w) → AreLawful l level t → Serves t
  unfolding unfinished AreLawful
  serves level [] lawful y older e other = absurd cc
  serves level (Beat.A x ∷ t) lawful y older e other =
      whole-a y.source x t lawful.0.ordered (serves level t lawful.1 y older e other)
  serves level (Beat.D x ∷ t) lawful y older e other =
      serves-d x y older t lawful.0.ordered (serves level t lawful.1) e other
  serves level (Beat.B x ∷ t) lawful y older e other =
      let old = serves level t lawful.1 y older e other in
      record { waits = pending-quiet (RequestSource y.source) (Beat.B x) t refl refl ∙ old.waits; whole = old.whole }
  serves level (Beat.C x ∷ t) lawful y older e other =
      let old = serves level t lawful.1 y older e other in
      record { waits = pending-quiet (RequestSource y.source) (Beat.C x) t refl refl ∙ old.waits; whole = old.whole }
  serves level (Beat.E x ∷ t) lawful y older e other =
      let old = serves level t lawful.1 y older e other in
      record { waits = pending-quiet (RequestSource y.source) (Beat.E x) t refl refl ∙ old.waits; whole = old.whole }

  -- no response outruns its request
  pub not-outrun : (level : Level) (x : BeatD w) (t : History w) → AreLawful l level t
      → broken_in_order_under l (Beat.D x) t ≡ None → outruns x t ≡ false
  not-outrun level x t lawful ordered = go (is_release_ack x.opcode) refl
    where
      go : (ack : Bool) → is_release_ack x.opcode ≡ ack → outruns x t ≡ false
      go true a = rw a refl
      go false a = rw (a, (served x t ordered (serves level t lawful) a).whole) refl

  -- no ReleaseAck comes before its Release is complete
  pub not-released-early : (block : ℕ) (x : BeatD w) (t : History w) → broken_in_order_under l (Beat.D x) t ≡ None
      → is_release_ack x.opcode ≡ true → ends (Beat.D x) t ≡ true
      → is_release_of block x.source (unfinished Channel.C t) ≡ false
  not-released-early block x t ordered ack last =
      go (unfinished Channel.C t) (not-true (comes_in_release x.source (unfinished Channel.C t))
      (rw late at (second (pending (ReleaseSource x.source) t)
      (not (not l.early && comes_in_release x.source (unfinished Channel.C t)))
      (acknowledged l x t ordered ack last))))
    where
      go : (burst : List (Beat w)) → comes_in_release x.source burst ≡ false → is_release_of block x.source burst ≡ false
      go [] e = refl
      go (Beat.A z ∷ rest) e = refl
      go (Beat.B z ∷ rest) e = refl
      go (Beat.C z ∷ rest) e = rw e refl
      go (Beat.D z ∷ rest) e = refl
      go (Beat.E z ∷ rest) e = refl

  -- the Release that a beat goes on with isn't answered
  pub not-released : (level : Level) (block : ℕ) (x : BeatC w) (t : History w) → AreLawful l level t
      → broken_in_order_under l (Beat.C x) t ≡ None → block_at x.address ≡ block
      → is_released block (Beat.C x) t ≡ false
  not-released level block x t lawful ordered of_block =
      go (is_release x.opcode) refl (before-c l t x ordered)
    where
      go : (kind : Bool) → is_release x.opcode ≡ kind → Before Beat.C (λ z. IsSameC x z) (unfinished Channel.C t)
          → is_released block (Beat.C x) t ≡ false
      go false k burst = rw k refl
      go true k (Nothing none) = rw (k, none) refl
      go true k (Earlier z rest burst alike) =
          let waits : pending (ReleaseOf block) t ≡ true =
          ap (λ b. pending (ReleaseOf b) t) (sym of_block) ∙ ap (λ a. pending (ReleaseOf (block_at a)) t) alike.address
          ∙ unanswered-release l late level t lawful z rest burst (ap is_release (sym alike.opcode) ∙ k) in
          rw (k, burst, waits) refl

  -- the Grant that a beat goes on with isn't overtaken
  pub not-overtaken : (level : Level) (block : ℕ) (x : BeatD w) (t : History w) → AreLawful l level t
      → broken_in_order_under l (Beat.D x) t ≡ None → grants block x t ≡ true
      → is_overtaken block x t ≡ false
  not-overtaken level block x t lawful ordered of_block = go (before-d l t x ordered)
    where
      kind : is_grant x.opcode ≡ true
      kind = first (is_grant x.opcode) _ of_block

      own : asks_for block (request_of x.source t) ≡ true
      own = second (is_grant x.opcode) _ of_block

      go : Before Beat.D (λ z. IsSameD x z) (unfinished Channel.D t) → is_overtaken block x t ≡ false
      go (Nothing none) = rw none refl
      go (Earlier z rest burst alike) =
          let waits : pending (GrantAckOf block) t ≡ true =
          ((granting l level late t lawful z rest burst (ap is_grant (sym alike.opcode) ∙ kind)).given block
          (ap (λ s. asks_for block (request_of s t)) (sym alike.source) ∙ own)).waits in
          rw (burst, waits) refl

-- ---- traces without such answers

-- no response of the trace outruns its request
abbrev pub IsOnTime : {w : ℕ} → Beat w → History w → Type 0
IsOnTime (Beat.D x) past = outruns x past ≡ false
IsOnTime _ past = ⊤

abbrev pub AreOnTime : {w : ℕ} → Trace w → Type 0
AreOnTime [] = ⊤
AreOnTime (x ∷ t) = IsOnTime x.1 (on_link x.0.0 t) × AreOnTime t

-- then there are none of its accesses
pub none-outrun : {w : ℕ} (t : Trace w) → AreOnTime t → outrun_accesses t ≡ []
unfolding outrun_accesses
none-outrun [] late = refl
none-outrun {w} (x ∷ t) late = rw (none-outrun t late.1) (go x.1 late.0)
  where
    either : {X : Type 0} (b : Bool) (o : X) → (if b then o else o) ≡ o
    either true o = refl
    either false o = refl

    go : (b : Beat w) → IsOnTime b (on_link x.0.0 t) → outrun_with x.0.0 b (on_link x.0.0 t) [] ≡ []
    go (Beat.A y) e = ap (λ o. without_settled o []) (either (ends (Beat.A y) (on_link x.0.0 t)) None)
    go (Beat.D y) e = rw e (ap (λ o. without_settled o []) (either (ends_request y (on_link x.0.0 t)) None))
    go (Beat.B y) e = refl
    go (Beat.C y) e = refl
    go (Beat.E y) e = refl
