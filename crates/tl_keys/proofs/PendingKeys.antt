-- What is pending of one source, sink or block after a lawful history, and what is held of a block, is what the messages
-- say that name it.
use Rattle.tl_keys.proofs.Imports.{Beat, A, B, C, D, E, History, Profile, begins, block_at, ends}
use Rattle.tl_keys.proofs.Imports.{pending, Name, is_kept, names, restricted, OfBlock, OfSink}
use Rattle.tl_keys.proofs.Imports.{OfSource}
use Rattle.std.proofs.Common.{◌≡◌, ℕ, Bool, true, false, not, ◌&&◌, ◌||◌, [], ◌∷◌, refl, sym, ap, ◌∙◌}
use Rattle.std.specs.Prelude.{if◌then◌else◌, Some, None, ◌==◌, unwrap_or}
use Rattle.tl_params.{specs.declared.key.Key.Key, specs.declared.perm.Perm.Perm}
use Rattle.tl_params.specs.declared.key.Key.TheVariants.{RequestSource, ReleaseSource, AcquireOf, ReleaseOf, GrantSink}
use Rattle.tl_params.specs.declared.key.Key.TheVariants.{GrantAckOf, ProbeOf}
use Rattle.tl_rules.specs.statement.History.{capped, closes, held, is_acquire, is_grant, is_probe}
use Rattle.tl_rules.specs.statement.History.{is_probe_ack, is_release, is_release_ack, is_sink, opens}
use Rattle.tl_rules.specs.statement.History.{says_held}
use Rattle.tl_rules.proofs.Tables.{neither}
use Rattle.tl_keys.{proofs.Kept.same-begins, proofs.Kept.same-ends, proofs.Lawful.AreInOrder, proofs.Named.kept-is}
use Rattle.tl_keys.proofs.Keys.{and-none, granted-off, released-off, with, granted-on, released-on, sink-alike}

module _ {w : ℕ} (p : Profile) where
  -- A key is pending alike, if a message that doesn't name the source, sink or block neither opens nor closes it, and
  -- one that does opens and closes it after the kept beats as after all.
  alike : (n : Name) (k : Key) → ((x : Beat w) (t : History w) → names n x t ≡ false → (opens k x t ≡ false)
      × (closes k x t ≡ false)) → ((x : Beat w) (t : History w) → AreInOrder p t → names n x t ≡ true
      → (opens k x (restricted n t) ≡ opens k x t) × (closes k x (restricted n t) ≡ closes k x t)) → (t : History w)
      → AreInOrder p t → pending k (restricted n t) ≡ pending k t
  unfolding restricted pending AreInOrder
  alike n k off on [] lawful = refl
  alike n k off on (x ∷ t) lawful =
      go (alike n k off on t lawful.1) (names n x t) refl (kept-is p n x t lawful)
    where
      go : pending k (restricted n t) ≡ pending k t → (named : Bool) → names n x t ≡ named
          → is_kept n x t (restricted n t) ≡ names n x t
          → pending k (with p n x t)
          ≡ (if begins x t && opens k x t then true else if ends x t && closes k x t then false else pending k t)
      go before true f kept =
          let said = on x t lawful.1 f in
          rw (kept ∙ f) (rw (same-begins n x t (kept ∙ f), same-ends n x t (kept ∙ f), said.0, said.1, before) refl)
      go before false f kept =
          let said = off x t f in
          rw (kept ∙ f, said.0, said.1, neither (begins x t) (ends x t) (pending k t)) before

  -- of one that names it, where that depends on nothing before
  pub request-pending : (s : ℕ) (t : History w) → AreInOrder p t
      → pending (RequestSource s) (restricted (OfSource s) t) ≡ pending (RequestSource s) t
  request-pending s = alike (OfSource s) (RequestSource s) off on
    where
      off : (x : Beat w) (t : History w) → names (OfSource s) x t ≡ false
          → (opens (RequestSource s) x t ≡ false) × (closes (RequestSource s) x t ≡ false)
      off (A x) t e = (e, refl)
      off (D x) t e = (refl, and-none (not (is_release_ack x.opcode)) (x.source == s) e)
      off v t e = (refl, refl)

      on : (x : Beat w) (t : History w) → AreInOrder p t → names (OfSource s) x t ≡ true
          → (opens (RequestSource s) x (restricted (OfSource s) t) ≡ opens (RequestSource s) x t)
          × (closes (RequestSource s) x (restricted (OfSource s) t) ≡ closes (RequestSource s) x t)
      on (A x) t lawful e = (refl, refl)
      on v t lawful e = (refl, refl)

  pub release-pending : (s : ℕ) (t : History w) → AreInOrder p t
      → pending (ReleaseSource s) (restricted (OfSource s) t) ≡ pending (ReleaseSource s) t
  release-pending s = alike (OfSource s) (ReleaseSource s) off on
    where
      off : (x : Beat w) (t : History w) → names (OfSource s) x t ≡ false
          → (opens (ReleaseSource s) x t ≡ false) × (closes (ReleaseSource s) x t ≡ false)
      off (C x) t e = (and-none (is_release x.opcode) (x.source == s) e, refl)
      off (D x) t e = (refl, and-none (is_release_ack x.opcode) (x.source == s) e)
      off v t e = (refl, refl)

      on : (x : Beat w) (t : History w) → AreInOrder p t → names (OfSource s) x t ≡ true
          → (opens (ReleaseSource s) x (restricted (OfSource s) t) ≡ opens (ReleaseSource s) x t)
          × (closes (ReleaseSource s) x (restricted (OfSource s) t) ≡ closes (ReleaseSource s) x t)
      on (A x) t lawful e = (refl, refl)
      on v t lawful e = (refl, refl)

  pub sink-pending : (k : ℕ) (t : History w) → AreInOrder p t
      → pending (GrantSink k) (restricted (OfSink k) t) ≡ pending (GrantSink k) t
  sink-pending k = alike (OfSink k) (GrantSink k) off on
    where
      off : (x : Beat w) (t : History w) → names (OfSink k) x t ≡ false
          → (opens (GrantSink k) x t ≡ false) × (closes (GrantSink k) x t ≡ false)
      off (D x) t e = (and-none (is_grant x.opcode) (x.sink == k) e, refl)
      off (E x) t e = (refl, e)
      off v t e = (refl, refl)

      on : (x : Beat w) (t : History w) → AreInOrder p t → names (OfSink k) x t ≡ true
          → (opens (GrantSink k) x (restricted (OfSink k) t) ≡ opens (GrantSink k) x t)
          × (closes (GrantSink k) x (restricted (OfSink k) t) ≡ closes (GrantSink k) x t)
      on (A x) t lawful e = (refl, refl)
      on v t lawful e = (refl, refl)

  pub acquire-pending : (b : ℕ) (t : History w) → AreInOrder p t
      → pending (AcquireOf b) (restricted (OfBlock b) t) ≡ pending (AcquireOf b) t
  acquire-pending b = alike (OfBlock b) (AcquireOf b) off on
    where
      off : (x : Beat w) (t : History w) → names (OfBlock b) x t ≡ false
          → (opens (AcquireOf b) x t ≡ false) × (closes (AcquireOf b) x t ≡ false)
      off (A x) t e = (and-none (is_acquire x.opcode) (block_at x.address == b) e, refl)
      off (D x) t e = (refl, granted-off b x t e)
      off v t e = (refl, refl)

      on : (x : Beat w) (t : History w) → AreInOrder p t → names (OfBlock b) x t ≡ true
          → (opens (AcquireOf b) x (restricted (OfBlock b) t) ≡ opens (AcquireOf b) x t)
          × (closes (AcquireOf b) x (restricted (OfBlock b) t) ≡ closes (AcquireOf b) x t)
      on (D x) t lawful e = (refl, granted-on p b x t lawful e)
      on v t lawful e = (refl, refl)

  pub release-of-pending : (b : ℕ) (t : History w) → AreInOrder p t
      → pending (ReleaseOf b) (restricted (OfBlock b) t) ≡ pending (ReleaseOf b) t
  release-of-pending b = alike (OfBlock b) (ReleaseOf b) off on
    where
      off : (x : Beat w) (t : History w) → names (OfBlock b) x t ≡ false
          → (opens (ReleaseOf b) x t ≡ false) × (closes (ReleaseOf b) x t ≡ false)
      off (C x) t e = (and-none (is_release x.opcode) (block_at x.address == b) e, refl)
      off (D x) t e = (refl, released-off b x t e)
      off v t e = (refl, refl)

      on : (x : Beat w) (t : History w) → AreInOrder p t → names (OfBlock b) x t ≡ true
          → (opens (ReleaseOf b) x (restricted (OfBlock b) t) ≡ opens (ReleaseOf b) x t)
          × (closes (ReleaseOf b) x (restricted (OfBlock b) t) ≡ closes (ReleaseOf b) x t)
      on (D x) t lawful e = (refl, released-on p b x t lawful e)
      on v t lawful e = (refl, refl)

  pub grant-ack-pending : (b : ℕ) (t : History w) → AreInOrder p t
      → pending (GrantAckOf b) (restricted (OfBlock b) t) ≡ pending (GrantAckOf b) t
  grant-ack-pending b = alike (OfBlock b) (GrantAckOf b) off on
    where
      off : (x : Beat w) (t : History w) → names (OfBlock b) x t ≡ false
          → (opens (GrantAckOf b) x t ≡ false) × (closes (GrantAckOf b) x t ≡ false)
      off (D x) t e = (granted-off b x t e, refl)
      off (E x) t e = (refl, e)
      off v t e = (refl, refl)

      on : (x : Beat w) (t : History w) → AreInOrder p t → names (OfBlock b) x t ≡ true
          → (opens (GrantAckOf b) x (restricted (OfBlock b) t) ≡ opens (GrantAckOf b) x t)
          × (closes (GrantAckOf b) x (restricted (OfBlock b) t) ≡ closes (GrantAckOf b) x t)
      on (D x) t lawful e = (granted-on p b x t lawful e, refl)
      on (E x) t lawful e = (refl, ap (is_sink x.sink) (sink-alike p b t lawful))
      on v t lawful e = (refl, refl)

  pub probe-pending : (b : ℕ) (t : History w) → AreInOrder p t
      → pending (ProbeOf b) (restricted (OfBlock b) t) ≡ pending (ProbeOf b) t
  probe-pending b = alike (OfBlock b) (ProbeOf b) off on
    where
      off : (x : Beat w) (t : History w) → names (OfBlock b) x t ≡ false
          → (opens (ProbeOf b) x t ≡ false) × (closes (ProbeOf b) x t ≡ false)
      off (B x) t e = (and-none (is_probe x.opcode) (block_at x.address == b) e, refl)
      off (C x) t e = (refl, and-none (is_probe_ack x.opcode) (block_at x.address == b) e)
      off v t e = (refl, refl)

      on : (x : Beat w) (t : History w) → AreInOrder p t → names (OfBlock b) x t ≡ true
          → (opens (ProbeOf b) x (restricted (OfBlock b) t) ≡ opens (ProbeOf b) x t)
          × (closes (ProbeOf b) x (restricted (OfBlock b) t) ≡ closes (ProbeOf b) x t)
      on (A x) t lawful e = (refl, refl)
      on v t lawful e = (refl, refl)

  -- ---- what is held

  pub held-alike : (b : ℕ) (t : History w) → AreInOrder p t → held b (restricted (OfBlock b) t) ≡ held b t
  unfolding restricted held AreInOrder
  held-alike b [] lawful = refl
  held-alike b (x ∷ t) lawful =
      go (held-alike b t lawful.1) (names (OfBlock b) x t) refl (kept-is p (OfBlock b) x t lawful)
    where
      off : (y : Beat w) → names (OfBlock b) y t ≡ false → says_held b y t ≡ None
      off (C y) e = rw (and-none (is_probe_ack y.opcode || is_release y.opcode) (block_at y.address == b) e) refl
      off (D y) e = rw (granted-off b y t e) refl
      off v e = refl

      on : (y : Beat w) → names (OfBlock b) y t ≡ true → says_held b y (restricted (OfBlock b) t) ≡ says_held b y t
      on (D y) e = ap (λ (g : Bool). if g then Some (capped y.param) else None) (granted-on p b y t lawful.1 e)
      on v e = refl

      unmoved : (last : Bool) (before : Perm) → (if last then before else before) ≡ before
      unmoved true before = refl
      unmoved false before = refl

      go : held b (restricted (OfBlock b) t) ≡ held b t → (named : Bool) → names (OfBlock b) x t ≡ named
          → is_kept (OfBlock b) x t (restricted (OfBlock b) t) ≡ names (OfBlock b) x t
          → held b (with p (OfBlock b) x t) ≡ (if ends x t then unwrap_or (says_held b x t) (held b t) else held b t)
      go before true f kept = rw (kept ∙ f) (rw (same-ends (OfBlock b) x t (kept ∙ f), on x f, before) refl)
      go before false f kept = rw (kept ∙ f, off x f) (before ∙ sym (unmoved (ends x t) (held b t)))
