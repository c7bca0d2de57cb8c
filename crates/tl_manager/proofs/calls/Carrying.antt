-- What a manager knows after it took a beat.
use Rattle.tl_manager.proofs.Imports.{IsWidth, Beat, Link, Channel, first_if, Message, IsBurst, History, channel_of}
use Rattle.tl_manager.proofs.Imports.{breaks_burst, unfinished, is_empty, Config, Perm, Profile, S1, on_link}
use Rattle.tl_manager.proofs.Imports.{broken_in_order, broken_order, ends, next_rule, is_of_clients, IsComplete}
use Rattle.tl_manager.proofs.Imports.{with_handed, IsBlockState, Each, IsSound, HasBlock, IsKept, Knows, IsPassed}
use Rattle.tl_manager.proofs.Imports.{reaction, End, taken, IsLinkState, ManagerState, LinkState}
use Rattle.std.proofs.Common.{◌≡◌, ℕ, ◌==◌, Bool, true, false, List, [], ◌∷◌, length, Some, None, refl, sym, ap, ◌∙◌}
use Rattle.std.proofs.Common.{inl, inr}
use Rattle.std.specs.Prelude.{slice_get, slice_set, if◌then◌else◌}
use Rattle.std.proofs.lemmas.Bool.{cases_eq, eq-eqb, ne_eqb}
use Rattle.std.proofs.lemmas.List.{length-set}
use Rattle.tl_burst.specs.statement.Part.{completes}
use Rattle.tl_manager.{specs.code.BurstFor.burst_for, specs.code.BurstFor.burst_with}
use Rattle.tl_manager.{proofs.messages.Continued.bursts-handed, proofs.calls.Reactions.reaction_handable}
use Rattle.tl_manager.{proofs.judging.Judging.burst-is, proofs.calls.Keeping.is_taken, proofs.calls.Keeping.kept-taken}
use Rattle.tl_manager.{proofs.judging.Refusing.set-other, proofs.judging.Refusing.set-here}
use Rattle.tl_manager.proofs.pending.LinkHistories.{own_beat, other_beat}

burst-with : {w : ℕ} (ch : Channel) (x : Beat w) (h : History w) → burst_with ch x (unfinished ch h) ≡ unfinished ch
    (x ∷ h)
unfolding unfinished
burst-with ch x h = refl

-- the burst that is unfinished on a channel of clients
burst-own : {w : ℕ} (config : Config) (ch : Channel) (link : Link) (x : Beat w) (e : End w) → is_of_clients ch ≡ true
    → IsWidth w → IsPassed config link x e.trace
    → Each (IsSound config) e.trace → burst_with ch x (unfinished ch (on_link link.0 e.trace)) ≡ unfinished ch
    (on_link link.0 (taken link x (reaction config link x e) e).trace)
burst-own config ch link x e theirs width ok sound =
    burst-with ch x (on_link link.0 e.trace) ∙ ap (unfinished ch)
    (sym (own_beat link.0 link x e.trace (eq-eqb link.0 link.0 refl)))
    ∙ sym (bursts-handed config ch link.0 (reaction config link x e).handed ((link, x) ∷ e.trace) theirs
    (reaction_handable config link x e width ok.sound sound))

burst-other : {w : ℕ} (config : Config) (ch : Channel) (client : ℕ) (link : Link) (x : Beat w) (e : End w)
    → (link.0 == client) ≡ false → is_of_clients ch ≡ true → IsWidth w
    → IsPassed config link x e.trace → Each (IsSound config) e.trace
    → unfinished ch (on_link client e.trace) ≡ unfinished ch
    (on_link client (taken link x (reaction config link x e) e).trace)
burst-other config ch client link x e other theirs width ok sound =
    ap (unfinished ch) (sym (other_beat client link x e.trace other))
    ∙ sym (bursts-handed config ch client (reaction config link x e).handed ((link, x) ∷ e.trace) theirs
    (reaction_handable config link x e width ok.sound sound))

pub knows-taken : {w : ℕ} {M : Type 0} (perm_of : M → ℕ → ℕ → Perm) (old new : ManagerState w M) (config : Config)
    (link : Link) (before after : LinkState w) (x : Beat w) (e : End w) → IsWidth w
    → IsPassed config link x e.trace → new.link_states.items ≡ slice_set old.link_states.items link.0 after
    → slice_get old.link_states.items link.0 ≡ Some before
    → after.level ≡ before.level → after.closed ≡ before.closed
    → after.requests ≡ burst_with Channel.A x before.requests → after.reports ≡ burst_with Channel.C x before.reports
    → length new.block_state.blocks.bytes.items ≡ length old.block_state.blocks.bytes.items
    → IsBlockState perm_of config new.block_state (with_handed (reaction config link x e).handed ((link, x) ∷ e.trace))
    (reaction config link x e).memory → Knows perm_of old config e
    → Knows perm_of new config (taken link x (reaction config link x e) e)
knows-taken {w} perm_of old new config link before after x e width ok link_states found level closed requests reports
    size block_state k = record {
      fits = k.fits;
      kept = kept-taken config link x e width ok k.kept;
      block_state = block_state;
      size = size ∙ k.size;
      count = ap length link_states ∙ length-set old.link_states.items link.0 after ∙ k.count;
      link_states = λ client link_state at. elim (cases_eq client link.0) [
        | inl same ↦
            let here = k.link_states link.0 before found in
            let is : link_state ≡ after = set-here old.link_states.items link.0 link_state after
            (rw (same, link_states) at at) in
            rw (is, same) (record {
              level = here.level ∙ ap Some (sym level);
              closed = closed ∙ here.closed;
              carried = record {
                requests = requests ∙ ap (burst_with Channel.A x) here.carried.requests ∙ burst-own config Channel.A
                    link x
                    e refl width ok k.kept.sound;
                reports = reports ∙ ap (burst_with Channel.C x) here.carried.reports ∙ burst-own config Channel.C link x
                    e
                    refl width ok k.kept.sound;
              };
            })
        | inr other ↦
            let there = k.link_states client link_state (set-other old.link_states.items link.0 client link_state after
            other (rw link_states at at)) in
            let away = ne_eqb link.0 client (λ same. other (sym same)) in
            record {
              level = there.level;
              closed = there.closed;
              carried = record {
                requests = there.carried.requests ∙ burst-other config Channel.A client link x e away refl width ok
                    k.kept.sound;
                reports = there.carried.reports ∙ burst-other config Channel.C client link x e away refl width ok
                    k.kept.sound;
              };
            }
      ];
    }

-- ---- a beat that passes, and its burst

unbroken : {w : ℕ} (p : Profile) (x : Beat w) (t : History w) → broken_in_order p x t ≡ None
    → breaks_burst x (unfinished (channel_of x) t) ≡ false
unbroken {w} p x t e = go (unfinished (channel_of x) t) e
  where
    go : (burst : List (Beat w))
        → (if is_empty burst then broken_order p x t else first_if (breaks_burst x burst) S1 None) ≡ None
        → breaks_burst x burst ≡ false
    go [] f = refl
    go (y ∷ ys) f = (next_rule (breaks_burst x (y ∷ ys)) S1 None f).0

pub goes-on : {w : ℕ} (config : Config) (link : Link) (link_state : LinkState w) (x : Beat w) (e : End w)
    → IsPassed config link x e.trace → IsLinkState config link_state link.0 e
    → breaks_burst x (burst_for link_state.requests link_state.reports x) ≡ false
goes-on config link link_state x e ok is = rw (burst-is link_state link.0 x e.trace ok.theirs is.carried)
    (unbroken config.profile x (on_link link.0 e.trace) ok.order)

pub last-is : {w : ℕ} (config : Config) (link : Link) (link_state : LinkState w) (x : Beat w) (e : End w) (last : Bool)
    → IsPassed config link x e.trace → IsLinkState config link_state link.0 e
    → last ≡ completes x (burst_for link_state.requests link_state.reports x) → ends x (on_link link.0 e.trace) ≡ last
last-is config link link_state x e last ok is at =
    sym (rw (burst-is link_state link.0 x e.trace ok.theirs is.carried) at at)

pub is-complete : {w : ℕ} (config : Config) (link : Link) (link_state : LinkState w) (x : Beat w) (m : Message w)
    (e : End w) → IsWidth w → IsPassed config link x e.trace → IsKept config e
    → IsLinkState config link_state link.0 e → true ≡ completes x (burst_for link_state.requests link_state.reports x)
    → IsBurst m (x ∷ burst_for link_state.requests link_state.reports x) → HasBlock m → IsComplete config link x m e
is-complete config link link_state x m e width ok kept is last burst filled = record {
  taken = is_taken config link x e width ok kept;
  last = last-is config link link_state x e true ok is last;
  burst = rw (burst-is link_state link.0 x e.trace ok.theirs is.carried) at burst;
  filled = filled;
}
