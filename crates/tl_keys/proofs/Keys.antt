-- What a lawful history says of one source, sink or block is what the messages say that name it.
use Rattle.tl_keys.proofs.Imports.{Beat, A, B, C, D, E, BeatD, History, Profile, asks_for, begins, block_at}
use Rattle.tl_keys.proofs.Imports.{release_of, request_of, Name, is_kept, names, restricted, OfBlock}
use Rattle.tl_keys.proofs.Imports.{OfSource}
use Rattle.std.proofs.Common.{◌≡◌, ℕ, Bool, true, false, ◌&&◌, [], ◌∷◌, refl, ap, ◌∙◌}
use Rattle.std.specs.Prelude.{if◌then◌else◌, Option, Some, ◌==◌}
use Rattle.tl_beat.{specs.declared.beat.BeatA.BeatA, specs.declared.beat.BeatC.BeatC, specs.declared.opcode.OpD.OpD}
use Rattle.tl_params.specs.declared.key.Key.TheVariants.{ReleaseOf}
use Rattle.tl_rules.specs.statement.History.{closes, grant_sink, grants, is_grant, is_probe}
use Rattle.tl_rules.specs.statement.History.{is_release, is_release_ack, probe_of}
use Rattle.tl_rules.specs.statement.History.{releases}
use Rattle.tl_keys.{proofs.Kept.same-begins, proofs.Lawful.AreInOrder, proofs.Named.kept-is}

pub and-none : (a b : Bool) → b ≡ false → (a && b) ≡ false
and-none true b e = e
and-none false b e = refl

-- ---- what a response names

-- one that doesn't name the block neither grants it nor ends a Release of it
pub granted-off : {w : ℕ} (b : ℕ) (x : BeatD w) (t : History w) → names (OfBlock b) (D x) t ≡ false → grants b x t ≡ false
granted-off b x t e = go x.opcode refl
  where
    go : (o : OpD) → x.opcode ≡ o → grants b x t ≡ false
    go OpD.Grant f = rw f (rw f at e)
    go OpD.GrantData f = rw f (rw f at e)
    go v f = rw f refl

pub released-off : {w : ℕ} (b : ℕ) (x : BeatD w) (t : History w) → names (OfBlock b) (D x) t ≡ false
    → closes (ReleaseOf b) (D x) t ≡ false
released-off b x t e = go (is_release_ack x.opcode) refl
  where
    go : (o : Bool) → is_release_ack x.opcode ≡ o
        → (is_release_ack x.opcode && releases b (release_of x.source t)) ≡ false
    go true f = rw f (rw f at e)
    go false f = rw f refl

-- ---- the message that another one names

-- a beat that says nothing, kept or not
pub passed : {w : ℕ} {X : Type 0} (f : History w → X) (k : Bool) (x : Beat w) (r : History w) (v : X) → f (x ∷ r) ≡ f r
    → f r ≡ v → f (if k then x ∷ r else r) ≡ v
passed f true x r v same e = same ∙ e
passed f false x r v same e = e

module _ {w : ℕ} (p : Profile) where
  -- the kept beats of a history with one more
  abbrev pub with : Name → Beat w → History w → History w
  with n x t = if is_kept n x t (restricted n t) then x ∷ restricted n t else restricted n t

  pub request-alike : (s : ℕ) (t : History w) → AreInOrder p t
      → request_of s (restricted (OfSource s) t) ≡ request_of s t
  unfolding restricted request_of AreInOrder
  request-alike s [] lawful = refl
  request-alike s (A x ∷ t) lawful =
      go (request-alike s t lawful.1) (x.source == s) refl (kept-is p (OfSource s) (A x) t lawful)
    where
      go : request_of s (restricted (OfSource s) t) ≡ request_of s t → (b : Bool) → (x.source == s) ≡ b
          → is_kept (OfSource s) (A x) t (restricted (OfSource s) t) ≡ (x.source == s)
          → request_of s (with (OfSource s) (A x) t)
          ≡ (if begins (A x) t && (x.source == s) then Some x else request_of s t)
      go before true f kept = rw (kept ∙ f) (rw (same-begins (OfSource s) (A x) t (kept ∙ f), before) refl)
      go before false f kept = rw (kept ∙ f, f, and-none (begins (A x) t) false refl) before
  request-alike s (B x ∷ t) lawful = passed (request_of s) (is_kept (OfSource s) (B x) t (restricted (OfSource s) t))
      (B x) (restricted (OfSource s) t) (request_of s t) refl (request-alike s t lawful.1)
  request-alike s (C x ∷ t) lawful = passed (request_of s) (is_kept (OfSource s) (C x) t (restricted (OfSource s) t))
      (C x) (restricted (OfSource s) t) (request_of s t) refl (request-alike s t lawful.1)
  request-alike s (D x ∷ t) lawful = passed (request_of s) (is_kept (OfSource s) (D x) t (restricted (OfSource s) t))
      (D x) (restricted (OfSource s) t) (request_of s t) refl (request-alike s t lawful.1)
  request-alike s (E x ∷ t) lawful = passed (request_of s) (is_kept (OfSource s) (E x) t (restricted (OfSource s) t))
      (E x) (restricted (OfSource s) t) (request_of s t) refl (request-alike s t lawful.1)

  pub release-alike : (s : ℕ) (t : History w) → AreInOrder p t
      → release_of s (restricted (OfSource s) t) ≡ release_of s t
  unfolding restricted release_of AreInOrder
  release-alike s [] lawful = refl
  release-alike s (C x ∷ t) lawful =
      go (release-alike s t lawful.1) (x.source == s) refl (kept-is p (OfSource s) (C x) t lawful)
    where
      go : release_of s (restricted (OfSource s) t) ≡ release_of s t → (b : Bool) → (x.source == s) ≡ b
          → is_kept (OfSource s) (C x) t (restricted (OfSource s) t) ≡ (x.source == s)
          → release_of s (with (OfSource s) (C x) t)
          ≡ (if begins (C x) t && (is_release x.opcode && (x.source == s)) then Some x else release_of s t)
      go before true f kept = rw (kept ∙ f) (rw (same-begins (OfSource s) (C x) t (kept ∙ f), before) refl)
      go before false f kept =
          rw (kept ∙ f, f, and-none (is_release x.opcode) false refl, and-none (begins (C x) t) false refl) before
  release-alike s (A x ∷ t) lawful = passed (release_of s) (is_kept (OfSource s) (A x) t (restricted (OfSource s) t))
      (A x) (restricted (OfSource s) t) (release_of s t) refl (release-alike s t lawful.1)
  release-alike s (B x ∷ t) lawful = passed (release_of s) (is_kept (OfSource s) (B x) t (restricted (OfSource s) t))
      (B x) (restricted (OfSource s) t) (release_of s t) refl (release-alike s t lawful.1)
  release-alike s (D x ∷ t) lawful = passed (release_of s) (is_kept (OfSource s) (D x) t (restricted (OfSource s) t))
      (D x) (restricted (OfSource s) t) (release_of s t) refl (release-alike s t lawful.1)
  release-alike s (E x ∷ t) lawful = passed (release_of s) (is_kept (OfSource s) (E x) t (restricted (OfSource s) t))
      (E x) (restricted (OfSource s) t) (release_of s t) refl (release-alike s t lawful.1)

  -- the request of a block, by the block alone
  pub request-of-block : (b s : ℕ) (t : History w) → AreInOrder p t → asks_for b (request_of s t) ≡ true
      → request_of s (restricted (OfBlock b) t) ≡ request_of s t
  unfolding restricted request_of AreInOrder
  request-of-block b s [] lawful asked = refl
  request-of-block b s (A x ∷ t) lawful asked =
      go (request-of-block b s t lawful.1) (begins (A x) t) refl (x.source == s) refl
      (kept-is p (OfBlock b) (A x) t lawful) (is_kept (OfBlock b) (A x) t (restricted (OfBlock b) t)) refl
    where
      go : (asks_for b (request_of s t) ≡ true → request_of s (restricted (OfBlock b) t) ≡ request_of s t)
          → (first : Bool) → begins (A x) t ≡ first → (own : Bool) → (x.source == s) ≡ own
          → is_kept (OfBlock b) (A x) t (restricted (OfBlock b) t) ≡ (block_at x.address == b) → (k : Bool)
          → is_kept (OfBlock b) (A x) t (restricted (OfBlock b) t) ≡ k
          → request_of s (with (OfBlock b) (A x) t)
          ≡ (if begins (A x) t && (x.source == s) then Some x else request_of s t)
      go before true f true g kept k is =
          let here : block_at x.address == b ≡ true = rw (f, g) at asked in
          rw (kept ∙ here) (rw (same-begins (OfBlock b) (A x) t (kept ∙ here), f, g) refl)
      go before true f false g kept true is =
          rw is (rw (same-begins (OfBlock b) (A x) t is, f, g) (before (rw (f, g) at asked)))
      go before true f false g kept false is = rw (is, f, g) (before (rw (f, g) at asked))
      go before false f own g kept true is =
          rw is (rw (same-begins (OfBlock b) (A x) t is, f) (before (rw f at asked)))
      go before false f own g kept false is = rw (is, f) (before (rw f at asked))
  request-of-block b s (B x ∷ t) lawful asked =
      passed (request_of s) (is_kept (OfBlock b) (B x) t (restricted (OfBlock b) t)) (B x) (restricted (OfBlock b) t)
      (request_of s t) refl (request-of-block b s t lawful.1 asked)
  request-of-block b s (C x ∷ t) lawful asked =
      passed (request_of s) (is_kept (OfBlock b) (C x) t (restricted (OfBlock b) t)) (C x) (restricted (OfBlock b) t)
      (request_of s t) refl (request-of-block b s t lawful.1 asked)
  request-of-block b s (D x ∷ t) lawful asked =
      passed (request_of s) (is_kept (OfBlock b) (D x) t (restricted (OfBlock b) t)) (D x) (restricted (OfBlock b) t)
      (request_of s t) refl (request-of-block b s t lawful.1 asked)
  request-of-block b s (E x ∷ t) lawful asked =
      passed (request_of s) (is_kept (OfBlock b) (E x) t (restricted (OfBlock b) t)) (E x) (restricted (OfBlock b) t)
      (request_of s t) refl (request-of-block b s t lawful.1 asked)

  pub release-of-block : (b s : ℕ) (t : History w) → AreInOrder p t → releases b (release_of s t) ≡ true
      → release_of s (restricted (OfBlock b) t) ≡ release_of s t
  unfolding restricted release_of AreInOrder
  release-of-block b s [] lawful asked = refl
  release-of-block b s (C x ∷ t) lawful asked =
      go (release-of-block b s t lawful.1) (begins (C x) t) refl (is_release x.opcode && (x.source == s)) refl
      (kept-is p (OfBlock b) (C x) t lawful) (is_kept (OfBlock b) (C x) t (restricted (OfBlock b) t)) refl
    where
      go : (releases b (release_of s t) ≡ true → release_of s (restricted (OfBlock b) t) ≡ release_of s t)
          → (first : Bool) → begins (C x) t ≡ first → (own : Bool) → (is_release x.opcode && (x.source == s)) ≡ own
          → is_kept (OfBlock b) (C x) t (restricted (OfBlock b) t) ≡ (block_at x.address == b) → (k : Bool)
          → is_kept (OfBlock b) (C x) t (restricted (OfBlock b) t) ≡ k
          → release_of s (with (OfBlock b) (C x) t)
          ≡ (if begins (C x) t && (is_release x.opcode && (x.source == s)) then Some x else release_of s t)
      go before true f true g kept k is =
          let here : block_at x.address == b ≡ true = rw (f, g) at asked in
          rw (kept ∙ here) (rw (same-begins (OfBlock b) (C x) t (kept ∙ here), f, g) refl)
      go before true f false g kept true is =
          rw is (rw (same-begins (OfBlock b) (C x) t is, f, g) (before (rw (f, g) at asked)))
      go before true f false g kept false is = rw (is, f, g) (before (rw (f, g) at asked))
      go before false f own g kept true is =
          rw is (rw (same-begins (OfBlock b) (C x) t is, f) (before (rw f at asked)))
      go before false f own g kept false is = rw (is, f) (before (rw f at asked))
  release-of-block b s (A x ∷ t) lawful asked =
      passed (release_of s) (is_kept (OfBlock b) (A x) t (restricted (OfBlock b) t)) (A x) (restricted (OfBlock b) t)
      (release_of s t) refl (release-of-block b s t lawful.1 asked)
  release-of-block b s (B x ∷ t) lawful asked =
      passed (release_of s) (is_kept (OfBlock b) (B x) t (restricted (OfBlock b) t)) (B x) (restricted (OfBlock b) t)
      (release_of s t) refl (release-of-block b s t lawful.1 asked)
  release-of-block b s (D x ∷ t) lawful asked =
      passed (release_of s) (is_kept (OfBlock b) (D x) t (restricted (OfBlock b) t)) (D x) (restricted (OfBlock b) t)
      (release_of s t) refl (release-of-block b s t lawful.1 asked)
  release-of-block b s (E x ∷ t) lawful asked =
      passed (release_of s) (is_kept (OfBlock b) (E x) t (restricted (OfBlock b) t)) (E x) (restricted (OfBlock b) t)
      (release_of s t) refl (release-of-block b s t lawful.1 asked)

  -- ---- what a message that names the block says of it

  pub granted-on : (b : ℕ) (x : BeatD w) (t : History w) → AreInOrder p t → names (OfBlock b) (D x) t ≡ true
      → grants b x (restricted (OfBlock b) t) ≡ grants b x t
  granted-on b x t lawful e = go x.opcode refl
    where
      asked : (is_release_ack x.opcode ≡ false) → grants b x (restricted (OfBlock b) t) ≡ grants b x t
      asked f = ap (λ (o : Option (BeatA w)). is_grant x.opcode && asks_for b o)
          (request-of-block b x.source t lawful (rw f at e))

      go : (o : OpD) → x.opcode ≡ o → grants b x (restricted (OfBlock b) t) ≡ grants b x t
      go OpD.Grant f = asked (ap is_release_ack f)
      go OpD.GrantData f = asked (ap is_release_ack f)
      go v f = rw f refl

  pub released-on : (b : ℕ) (x : BeatD w) (t : History w) → AreInOrder p t → names (OfBlock b) (D x) t ≡ true
      → closes (ReleaseOf b) (D x) (restricted (OfBlock b) t) ≡ closes (ReleaseOf b) (D x) t
  released-on b x t lawful e = go (is_release_ack x.opcode) refl
    where
      go : (o : Bool) → is_release_ack x.opcode ≡ o
          → (is_release_ack x.opcode && releases b (release_of x.source (restricted (OfBlock b) t)))
          ≡ (is_release_ack x.opcode && releases b (release_of x.source t))
      go true f = ap (λ (o : Option (BeatC w)). is_release_ack x.opcode && releases b o)
          (release-of-block b x.source t lawful (rw f at e))
      go false f = rw f refl

  pub sink-alike : (b : ℕ) (t : History w) → AreInOrder p t → grant_sink b (restricted (OfBlock b) t) ≡ grant_sink b t
  unfolding restricted grant_sink AreInOrder
  sink-alike b [] lawful = refl
  sink-alike b (D x ∷ t) lawful =
      go (sink-alike b t lawful.1) (names (OfBlock b) (D x) t) refl (kept-is p (OfBlock b) (D x) t lawful)
    where
      go : grant_sink b (restricted (OfBlock b) t) ≡ grant_sink b t → (named : Bool) → names (OfBlock b) (D x) t ≡ named
          → is_kept (OfBlock b) (D x) t (restricted (OfBlock b) t) ≡ names (OfBlock b) (D x) t
          → grant_sink b (with (OfBlock b) (D x) t)
          ≡ (if begins (D x) t && grants b x t then Some x.sink else grant_sink b t)
      go before true f kept = rw (kept ∙ f)
          (rw (same-begins (OfBlock b) (D x) t (kept ∙ f), granted-on b x t lawful.1 f, before) refl)
      go before false f kept =
          rw (kept ∙ f, granted-off b x t f, and-none (begins (D x) t) false refl) before
  sink-alike b (A x ∷ t) lawful = passed (grant_sink b) (is_kept (OfBlock b) (A x) t (restricted (OfBlock b) t))
      (A x) (restricted (OfBlock b) t) (grant_sink b t) refl (sink-alike b t lawful.1)
  sink-alike b (B x ∷ t) lawful = passed (grant_sink b) (is_kept (OfBlock b) (B x) t (restricted (OfBlock b) t))
      (B x) (restricted (OfBlock b) t) (grant_sink b t) refl (sink-alike b t lawful.1)
  sink-alike b (C x ∷ t) lawful = passed (grant_sink b) (is_kept (OfBlock b) (C x) t (restricted (OfBlock b) t))
      (C x) (restricted (OfBlock b) t) (grant_sink b t) refl (sink-alike b t lawful.1)
  sink-alike b (E x ∷ t) lawful = passed (grant_sink b) (is_kept (OfBlock b) (E x) t (restricted (OfBlock b) t))
      (E x) (restricted (OfBlock b) t) (grant_sink b t) refl (sink-alike b t lawful.1)

  pub probe-alike : (b : ℕ) (t : History w) → AreInOrder p t → probe_of b (restricted (OfBlock b) t) ≡ probe_of b t
  unfolding restricted probe_of AreInOrder
  probe-alike b [] lawful = refl
  probe-alike b (B x ∷ t) lawful =
      go (probe-alike b t lawful.1) (block_at x.address == b) refl (kept-is p (OfBlock b) (B x) t lawful)
    where
      go : probe_of b (restricted (OfBlock b) t) ≡ probe_of b t → (own : Bool) → (block_at x.address == b) ≡ own
          → is_kept (OfBlock b) (B x) t (restricted (OfBlock b) t) ≡ (block_at x.address == b)
          → probe_of b (with (OfBlock b) (B x) t)
          ≡ (if begins (B x) t && (is_probe x.opcode && (block_at x.address == b)) then Some x else probe_of b t)
      go before true f kept = rw (kept ∙ f) (rw (same-begins (OfBlock b) (B x) t (kept ∙ f), before) refl)
      go before false f kept =
          rw (kept ∙ f, f, and-none (is_probe x.opcode) false refl, and-none (begins (B x) t) false refl) before
  probe-alike b (A x ∷ t) lawful = passed (probe_of b) (is_kept (OfBlock b) (A x) t (restricted (OfBlock b) t))
      (A x) (restricted (OfBlock b) t) (probe_of b t) refl (probe-alike b t lawful.1)
  probe-alike b (C x ∷ t) lawful = passed (probe_of b) (is_kept (OfBlock b) (C x) t (restricted (OfBlock b) t))
      (C x) (restricted (OfBlock b) t) (probe_of b t) refl (probe-alike b t lawful.1)
  probe-alike b (D x ∷ t) lawful = passed (probe_of b) (is_kept (OfBlock b) (D x) t (restricted (OfBlock b) t))
      (D x) (restricted (OfBlock b) t) (probe_of b t) refl (probe-alike b t lawful.1)
  probe-alike b (E x ∷ t) lawful = passed (probe_of b) (is_kept (OfBlock b) (E x) t (restricted (OfBlock b) t))
      (E x) (restricted (OfBlock b) t) (probe_of b t) refl (probe-alike b t lawful.1)
