-- Nothing is recorded of blocks outside of the map.
use Rattle.tl_manager.proofs.Imports.{Beat, Link, History, Config, Trace, on_link, begins, ends, block_at, is_grant}
use Rattle.tl_manager.proofs.Imports.{is_probe_ack, is_release, asks_for, request_of, says_held, held, never, recorded}
use Rattle.tl_manager.proofs.Imports.{Each, IsSound}
use Rattle.std.proofs.Common.{◌≡◌, ℕ, ◌≤◌, ◌==◌, Bool, true, false, ◌&&◌, ◌||◌, [], ◌∷◌, Some, None, refl, arith}
use Rattle.std.specs.Prelude.{if◌then◌else◌, nat_le, unwrap_or}
use Rattle.std.proofs.lemmas.Bool.{ne_eqb, leb-false}
use Rattle.tl_params.specs.declared.perm.Perm.{Perm}
use Rattle.tl_manager.proofs.messages.Sound.{sound_on_link}

abbrev Sound : {w : ℕ} → Config → Link → History w → Type 0
Sound config link t = Each (λ x. IsSound config (link, x)) t

elsewhere : (blocks k block : ℕ) → nat_le blocks block ≡ false → blocks ≤ k → (block == k) ≡ false
elsewhere blocks k block inside past = ne_eqb block k (λ e. omega (arith, leb-false blocks block inside, e, past))

unasked : {w : ℕ} (config : Config) (link : Link) (k s : ℕ) (t : History w) → Sound config link t → config.blocks ≤ k
    → asks_for k (request_of s t) ≡ false
unfolding request_of
unasked config link k s [] each past = refl
unasked {w} config link k s (Beat.A x ∷ t) each past =
    go (begins (Beat.A x) t && (x.source == s)) (unasked config link k s t each.1 past)
  where
    go : (b : Bool) → asks_for k (request_of s t) ≡ false → asks_for k (if b then Some x else request_of s t) ≡ false
    go true rest = elsewhere config.blocks k (block_at x.address) each.0.inside past
    go false rest = rest
unasked config link k s (Beat.B x ∷ t) each past = unasked config link k s t each.1 past
unasked config link k s (Beat.C x ∷ t) each past = unasked config link k s t each.1 past
unasked config link k s (Beat.D x ∷ t) each past = unasked config link k s t each.1 past
unasked config link k s (Beat.E x ∷ t) each past = unasked config link k s t each.1 past

unsaid : {w : ℕ} (config : Config) (link : Link) (k : ℕ) (x : Beat w) (t : History w) → IsSound config (link, x)
    → Sound config link t → config.blocks ≤ k → says_held k x t ≡ None
unsaid config link k (Beat.A x) t is each past = refl
unsaid config link k (Beat.B x) t is each past = refl
unsaid config link k (Beat.C x) t is each past =
    rw (
      elsewhere config.blocks k (block_at x.address) is.inside past,
      never
          (is_probe_ack x.opcode || is_release x.opcode),
    ) refl
unsaid config link k (Beat.D x) t is each past =
    rw (unasked config link k x.source t each past, never (is_grant x.opcode)) refl
unsaid config link k (Beat.E x) t is each past = refl

unheld : {w : ℕ} (config : Config) (link : Link) (k : ℕ) (t : History w) → Sound config link t → config.blocks ≤ k
    → held k t ≡ Perm.None
unfolding held
unheld config link k [] each past = refl
unheld {w} config link k (x ∷ t) each past = go (ends x t) (unheld config link k t each.1 past)
  where
    go : (b : Bool) → held k t ≡ Perm.None → (if b then unwrap_or (says_held k x t) (held k t) else held k t)
        ≡ Perm.None
    go true rest = rw (unsaid config link k x t each.0 each.1 past) rest
    go false rest = rest

pub recorded-outside : {w : ℕ} (config : Config) (client k : ℕ) (t : Trace w) → Each (IsSound config) t
    → config.blocks ≤ k → recorded client k t ≡ Perm.None
recorded-outside config client k t sound past = unheld config (record { 0 = client }) k (on_link client t)
    (sound_on_link config client t sound) past
