-- What a manager knows after it refused a beat, and which links are closed.
use Rattle.tl_manager.proofs.Imports.{Beat, Link, Channel, Config, Perm, admission_of, IsKept, Knows, End, Judgement}
use Rattle.tl_manager.proofs.Imports.{Breaks, judged, refused, IsLinkState, ManagerState, LinkState, Memory}
use Rattle.std.proofs.Common.{◌≡◌, ◌≢◌, ℕ, zero, suc, ◌≤◌, ◌==◌, true, false, List, [], ◌∷◌, length, Some, refl, sym}
use Rattle.std.proofs.Common.{ap, ◌∙◌, arith, inl, inr}
use Rattle.std.{specs.Prelude.slice_get, specs.Prelude.slice_set, proofs.lemmas.Bool.cases_eq}
use Rattle.std.{proofs.lemmas.Bool.eq-eqb, proofs.lemmas.Bool.ne_eqb, proofs.lemmas.Option.slice_get_within}
use Rattle.std.{proofs.lemmas.List.length-set}
use Rattle.tl_manager.{specs.code.Admission.is_stall, specs.statement.Offer.is_waiting, specs.statement.Offer.stalls}

-- ---- stalls

pub stall-is : (j : Judgement) → is_stall (admission_of j) ≡ is_waiting j
stall-is (Breaks rule) = refl
stall-is v = refl

pub stalls-judged : {w : ℕ} (config : Config) (link : Link) (ch : Channel) (x : Beat w) (e : End w)
    → is_stall (admission_of (judged config link ch x e)) ≡ stalls config link ch x e
unfolding stalls
stalls-judged config link ch x e = stall-is (judged config link ch x e)

-- ---- refusals

-- what is kept depends on neither the links that are closed nor memory
pub kept-beside : {w : ℕ} (config : Config) (closed : List ℕ) (memory : Memory) (e : End w) → IsKept config e
    → IsKept config (record { trace = e.trace; closed = closed; memory = memory })
kept-beside config closed memory e k =
    record {
      sound = k.sound;
      whole = k.whole;
      bursts = k.bursts;
      requests = k.requests;
      tracked = k.tracked;
      trackers_apart = k.trackers_apart;
      blocks_apart =
          k.blocks_apart;
      sinks = k.sinks;
      releases = k.releases;
      few = k.few;
      steady = k.steady;
    }

still-link_state : {w : ℕ} (config : Config) (link : Link) (client : ℕ) (link_state : LinkState w) (e : End w)
    → (client == link.0) ≡ false → IsLinkState config link_state client e
    → IsLinkState config link_state client (refused link e)
still-link_state config link client link_state e other is =
    record { level = is.level; closed = is.closed ∙ rw other refl; carried = is.carried }

pub knows-absent : {w : ℕ} {M : Type 0} (perm_of : M → ℕ → ℕ → Perm) (state : ManagerState w M) (config : Config)
    (link : Link) (e : End w) → Knows perm_of state config e
    → length state.link_states.items ≤ link.0 → Knows perm_of state config (refused link e)
knows-absent perm_of state config link e k past = record {
  fits = k.fits;
  kept = kept-beside config (link.0 ∷ e.closed) e.memory e k.kept;
  block_state = k.block_state;
  size = k.size;
  count = k.count;
  link_states = λ client link_state found.
      let within = slice_get_within state.link_states.items client link_state found in
      still-link_state config link client link_state e
      (ne_eqb client link.0 (λ same. omega (arith, same, within, past))) (k.link_states client link_state found);
}

pub set-other : {X : Type 0} (xs : List X) (i j : ℕ) (x y : X) → j ≢ i → slice_get (slice_set xs i y) j ≡ Some x
    → slice_get xs j ≡ Some x
set-other (z ∷ xs) zero zero x y other e = absurd (other refl)
set-other (z ∷ xs) (suc i) (suc j) x y other e = set-other xs i j x y (λ same. other (ap suc same)) e
set-other v u z x y other e = e

pub set-here : {X : Type 0} (xs : List X) (i : ℕ) (x y : X) → slice_get (slice_set xs i y) i ≡ Some x → x ≡ y
set-here [] i x y e = absurd cc
set-here (z ∷ xs) zero x y e = cc
set-here (z ∷ xs) (suc i) x y e = set-here xs i x y e

pub knows-refused : {w : ℕ} {M : Type 0} (perm_of : M → ℕ → ℕ → Perm) (old new : ManagerState w M) (config : Config)
    (link : Link) (before after : LinkState w) (e : End w) → new.block_state ≡ old.block_state
    → new.link_states.items ≡ slice_set old.link_states.items link.0 after
    → slice_get old.link_states.items link.0 ≡ Some before → after.level ≡ before.level
    → after.requests ≡ before.requests → after.reports ≡ before.reports → after.closed ≡ true
    → Knows perm_of old config e → Knows perm_of new config (refused link e)
knows-refused {w} perm_of old new config link before after e block_state link_states found level requests reports closed
    k = record {
      fits = k.fits;
      kept = kept-beside config (link.0 ∷ e.closed) e.memory e k.kept;
      block_state = rw block_state k.block_state;
      size = rw block_state k.size;
      count = ap length link_states ∙ length-set old.link_states.items link.0 after ∙ k.count;
      link_states = λ client link_state at. elim (cases_eq client link.0) [
        | inl same ↦
            let here = k.link_states link.0 before found in
            let is : link_state ≡ after = set-here old.link_states.items link.0 link_state after
            (rw (same, link_states) at at) in
            rw (is, same) (record {
              level = here.level ∙ ap Some (sym level);
              closed = closed ∙ rw (eq-eqb link.0 link.0 refl) refl;
              carried = record {
                requests = requests ∙ here.carried.requests;
                reports =
                    reports ∙ here.carried.reports;
              };
            })
        | inr other ↦ still-link_state config link client link_state e (ne_eqb client link.0 other)
            (k.link_states client link_state (set-other old.link_states.items link.0 client link_state after other
            (rw link_states at at)))
      ];
    }
