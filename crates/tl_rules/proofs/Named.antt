-- Where a request, a Release or a Probe is pending, there is one.
use Rattle.std.proofs.Common.{◌≡◌, ℕ, Bool, true, false, cond, ◌&&◌, [], ◌∷◌, Option, Some, refl}
use Rattle.std.specs.Prelude.{◌==◌, is_some}
use Rattle.tl_beat.specs.declared.beat.Beat.TheVariants.{A, B, C, D, E}
use Rattle.tl_burst.specs.statement.Messages.{History}
use Rattle.tl_params.specs.declared.key.Key.TheVariants.{RequestSource, ReleaseSource, ProbeOf}
use Rattle.tl_rules.specs.statement.History.{begins, ends, closes, pending, request_of, release_of, probe_of, block_at}
use Rattle.tl_rules.specs.statement.History.{is_probe, is_release}
use Rattle.tl_rules.proofs.Sent.{pending-quiet, pending-closed}

pub still : (b p : Bool) → cond b false p ≡ true → p ≡ true
still true p e = absurd cc
still false p e = e

opened : {X : Type 0} (b last p : Bool) (x : X) (o : Option X) → (p ≡ true → is_some o ≡ true)
    → cond b true (cond (last && false) false p) ≡ true → is_some (cond b (Some x) o) ≡ true
opened true last p x o more e = refl
opened false true p x o more e = more e
opened false false p x o more e = more e

pub request-there : {w : ℕ} (s : ℕ) (t : History w) → pending (RequestSource s) t ≡ true
    → is_some (request_of s t) ≡ true
unfolding pending request_of
request-there s [] e = absurd cc
request-there s (A x ∷ t) e = opened (begins (A x) t && (x.source == s)) (ends (A x) t) (pending (RequestSource s) t) x
    (request_of s t) (request-there s t) e
request-there s (B x ∷ t) e = request-there s t (rw (pending-quiet (RequestSource s) (B x) t refl refl) at e)
request-there s (C x ∷ t) e = request-there s t (rw (pending-quiet (RequestSource s) (C x) t refl refl) at e)
request-there s (D x ∷ t) e =
    request-there s t (still (ends (D x) t && closes (RequestSource s) (D x) t) (pending (RequestSource s) t)
    (rw (pending-closed (RequestSource s) (D x) t refl) at e))
request-there s (E x ∷ t) e = request-there s t (rw (pending-quiet (RequestSource s) (E x) t refl refl) at e)

pub release-there : {w : ℕ} (s : ℕ) (t : History w) → pending (ReleaseSource s) t ≡ true
    → is_some (release_of s t) ≡ true
unfolding pending release_of
release-there s [] e = absurd cc
release-there s (A x ∷ t) e = release-there s t (rw (pending-quiet (ReleaseSource s) (A x) t refl refl) at e)
release-there s (B x ∷ t) e = release-there s t (rw (pending-quiet (ReleaseSource s) (B x) t refl refl) at e)
release-there s (C x ∷ t) e = opened (begins (C x) t && (is_release x.opcode && (x.source == s))) (ends (C x) t)
    (pending (ReleaseSource s) t) x (release_of s t) (release-there s t) e
release-there s (D x ∷ t) e =
    release-there s t (still (ends (D x) t && closes (ReleaseSource s) (D x) t) (pending (ReleaseSource s) t)
    (rw (pending-closed (ReleaseSource s) (D x) t refl) at e))
release-there s (E x ∷ t) e = release-there s t (rw (pending-quiet (ReleaseSource s) (E x) t refl refl) at e)

pub probe-there : {w : ℕ} (k : ℕ) (t : History w) → pending (ProbeOf k) t ≡ true → is_some (probe_of k t) ≡ true
unfolding pending probe_of
probe-there k [] e = absurd cc
probe-there k (A x ∷ t) e = probe-there k t (rw (pending-quiet (ProbeOf k) (A x) t refl refl) at e)
probe-there k (B x ∷ t) e = opened (begins (B x) t && (is_probe x.opcode && (block_at x.address == k))) (ends (B x) t)
    (pending (ProbeOf k) t) x (probe_of k t) (probe-there k t) e
probe-there k (C x ∷ t) e =
    probe-there k t (still (ends (C x) t && closes (ProbeOf k) (C x) t) (pending (ProbeOf k) t)
    (rw (pending-closed (ProbeOf k) (C x) t refl) at e))
probe-there k (D x ∷ t) e = probe-there k t (rw (pending-quiet (ProbeOf k) (D x) t refl refl) at e)
probe-there k (E x ∷ t) e = probe-there k t (rw (pending-quiet (ProbeOf k) (E x) t refl refl) at e)
