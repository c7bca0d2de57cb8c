-- No two blocks wait for a GrantAck with the same sink.
use Rattle.tl_memory.proofs.Imports.{Beat, BeatD, History, Level, begins, ends, is_grant}
use Rattle.std.proofs.Common.{◌≡◌, ℕ, Bool, true, false, cond, ◌&&◌, [], ◌∷◌, refl, sym, ap, ◌∙◌}
use Rattle.std.specs.Prelude.{if◌then◌else◌, Some, None, ◌==◌}
use Rattle.std.proofs.lemmas.Bool.{eq-eqb, eqb-true, ne_eqb, cases_eq}
use Rattle.std.proofs.Common.{inl, inr}
use Rattle.tl_beat.specs.declared.beat.BeatE.{BeatE}
use Rattle.tl_params.specs.declared.key.Key.TheVariants.{GrantAckOf, GrantSink}
use Rattle.tl_params.specs.declared.liberties.Liberties.{Liberties}
use Rattle.tl_params.specs.declared.rule.Rule.TheVariants.{H2, H3, H6, H7}
use Rattle.tl_rules.specs.statement.History.{asks_for, is_sink}
unfoldable use Rattle.tl_rules.specs.statement.History.{grant_sink, pending, request_of}
use Rattle.tl_rules.specs.statement.Liberties.{broken_in_order_under, broken_order_under}
use Rattle.tl_rules.{proofs.Sent.pending-closed, proofs.Sent.pending-quiet, proofs.Tables.neither}
use Rattle.tl_forgiving.proofs.Grants.{none-on-e}
use Rattle.tl_forgiving.proofs.Implied.{rest-none, test-fails}
use Rattle.tl_forgiving.proofs.Lawful.{AreLawful, begun-lawfully}
unfoldable use Rattle.tl_memory.specs.statement.Links.{granted_request}
use Rattle.tl_memory.proofs.Plain.{true_false, some-same}

-- a block that waits for a GrantAck is that of the last Grant with its sink, which is pending
pub record IsGiven {w : ℕ} (k s : ℕ) (t : History w) : Type 0 where
  pub waits : pending (GrantSink s) t ≡ true
  pub own : asks_for k (granted_request s t) ≡ true

abbrev pub AreGiven : {w : ℕ} → History w → Type 0
AreGiven t = (k s : ℕ) → pending (GrantAckOf k) t ≡ true → grant_sink k t ≡ Some s → IsGiven k s t

module _ {w : ℕ} (l : Liberties) where
  -- a Grant that begins has a sink that isn't pending
  unused : (x : BeatD w) (t : History w) → broken_in_order_under l (Beat.D x) t ≡ None → begins (Beat.D x) t ≡ true
      → is_grant x.opcode ≡ true → pending (GrantSink x.sink) t ≡ false
  unfolding broken_order_under
  unused x t ordered now grant =
      rw grant at (test-fails (is_grant x.opcode && pending (GrantSink x.sink) t) H7 None
      (rest-none _ H6 _ (rest-none _ H3 _ (rest-none _ H2 _ (begun-lawfully l (Beat.D x) t ordered now)))))

  given-d : (x : BeatD w) (t : History w) → broken_in_order_under l (Beat.D x) t ≡ None → AreGiven t
      → AreGiven (Beat.D x ∷ t)
  unfolding pending grant_sink granted_request
  given-d x t ordered before k s waits last =
      go (begins (Beat.D x) t) refl (is_grant x.opcode) refl (asks_for k (request_of x.source t)) refl (x.sink == s) refl
    where
      was : (if ends (Beat.D x) t && false then false else pending (GrantAckOf k) t) ≡ true → grant_sink k t ≡ Some s
          → IsGiven k s t
      was p q = before k s (sym (neither false (ends (Beat.D x) t) (pending (GrantAckOf k) t)) ∙ p) q

      stays : IsGiven k s t → (if ends (Beat.D x) t && false then false else pending (GrantSink s) t) ≡ true
      stays old = neither false (ends (Beat.D x) t) (pending (GrantSink s) t) ∙ old.waits

      go : (now : Bool) → begins (Beat.D x) t ≡ now → (grant : Bool) → is_grant x.opcode ≡ grant → (here : Bool)
          → asks_for k (request_of x.source t) ≡ here → (own : Bool) → (x.sink == s) ≡ own
          → IsGiven k s (Beat.D x ∷ t)
      go true n true g true h own o =
          let same : x.sink ≡ s = some-same (rw (n, g, h) at last) in
          record { waits = rw (n, g, eq-eqb x.sink s same) refl; own = rw (n, g, eq-eqb x.sink s same) h }
      go true n true g false h true o =
          let old = was (rw (n, g, h) at waits) (rw (n, g, h) at last) in
          true_false (sym old.waits ∙ ap (λ i. pending (GrantSink i) t) (sym (eqb-true x.sink s o))
          ∙ unused x t ordered n g)
      go true n true g false h false o =
          let old = was (rw (n, g, h) at waits) (rw (n, g, h) at last) in
          record { waits = rw (n, g, o) (stays old); own = rw (n, g, o) old.own }
      go true n false g here h own o =
          let old = was (rw (n, g) at waits) (rw (n, g) at last) in
          record { waits = rw (n, g) (stays old); own = rw (n, g) old.own }
      go false n grant g here h own o =
          let old = was (rw n at waits) (rw n at last) in
          record { waits = rw n (stays old); own = rw n old.own }

given-e : {w : ℕ} (x : BeatE) (t : History w) → AreGiven t → AreGiven (Beat.E x ∷ t)
unfolding grant_sink granted_request
given-e x t before k s waits last =
    let old = before k s (was (ends (Beat.E x) t && is_sink x.sink (grant_sink k t)) closed) last in
    record { waits = pending-closed (GrantSink s) (Beat.E x) t refl ∙ rw (one_beat, other) old.waits; own = old.own }
  where
    one_beat : ends (Beat.E x) t ≡ true
    one_beat = rw (none-on-e t) refl

    closed : cond (ends (Beat.E x) t && is_sink x.sink (grant_sink k t)) false (pending (GrantAckOf k) t) ≡ true
    closed = sym (pending-closed (GrantAckOf k) (Beat.E x) t refl) ∙ waits

    was : (b : Bool) → cond b false (pending (GrantAckOf k) t) ≡ true → pending (GrantAckOf k) t ≡ true
    was true e = true_false (sym e)
    was false e = e

    other : (x.sink == s) ≡ false
    other = elim (cases_eq x.sink s) [
      | inr ne ↦ ne_eqb x.sink s ne
      | inl same ↦ true_false (sym (rw (one_beat, last, eq-eqb s x.sink (sym same)) at closed))
    ]

pub are-given : {w : ℕ} (l : Liberties) (level : Level) (t : History w) → AreLawful l level t → AreGiven t
unfolding AreLawful grant_sink granted_request
are-given l level [] lawful k s waits last = absurd cc
are-given l level (Beat.D x ∷ t) lawful k s waits last =
    given-d l x t lawful.0.ordered (are-given l level t lawful.1) k s waits last
are-given l level (Beat.E x ∷ t) lawful k s waits last = given-e x t (are-given l level t lawful.1) k s waits last
are-given l level (Beat.A x ∷ t) lawful k s waits last =
    let old = are-given l level t lawful.1 k s (sym (pending-quiet (GrantAckOf k) (Beat.A x) t refl refl) ∙ waits) last in
    record { waits = pending-quiet (GrantSink s) (Beat.A x) t refl refl ∙ old.waits; own = old.own }
are-given l level (Beat.B x ∷ t) lawful k s waits last =
    let old = are-given l level t lawful.1 k s (sym (pending-quiet (GrantAckOf k) (Beat.B x) t refl refl) ∙ waits) last in
    record { waits = pending-quiet (GrantSink s) (Beat.B x) t refl refl ∙ old.waits; own = old.own }
are-given l level (Beat.C x ∷ t) lawful k s waits last =
    let old = are-given l level t lawful.1 k s (sym (pending-quiet (GrantAckOf k) (Beat.C x) t refl refl) ∙ waits) last in
    record { waits = pending-quiet (GrantSink s) (Beat.C x) t refl refl ∙ old.waits; own = old.own }
