-- Each rule of order, after all messages and after those that name the one source, sink or block.
use Rattle.tl_keys.proofs.Imports.{Beat, A, B, C, D, E, BeatD, Channel, History, unfinished, is_empty, Profile}
use Rattle.tl_keys.proofs.Imports.{asks_for, begins, block_at, pending, request_of, Name, is_kept, names, restricted}
use Rattle.tl_keys.proofs.Imports.{OfBlock, OfSink, OfSource}
use Rattle.std.proofs.Common.{◌≡◌, ◌⊎◌, ℕ, Bool, true, false, not, ◌&&◌, ◌||◌, List, [], ◌∷◌, refl, sym, ap, ◌∙◌, inl}
use Rattle.std.proofs.Common.{inr}
use Rattle.std.specs.Prelude.{if◌then◌else◌, Option, Some, None, ◌==◌}
use Rattle.std.proofs.lemmas.Bool.{eq-eqb}
use Rattle.tl_beat.{specs.declared.beat.BeatA.BeatA, specs.declared.opcode.OpC.OpC, specs.statement.First.first_if}
use Rattle.tl_params.specs.declared.key.Key.TheVariants.{AcquireOf, ProbeOf, ReleaseOf, ReleaseSource}
use Rattle.tl_params.specs.declared.rule.Rule.TheVariants.{H1, H10, H11, H12, H13}
use Rattle.tl_params.specs.statement.Param.{prune_of}
use Rattle.tl_rules.specs.statement.Conformance.{broken_order, comes_in_grant, comes_in_release, comes_in_request}
use Rattle.tl_rules.specs.statement.Conformance.{has_request, misgrants, misreports, prunes_from, answers_wrong_probe}
use Rattle.tl_rules.specs.statement.Conformance.{size_asked}
use Rattle.tl_rules.specs.statement.History.{held, is_grant, is_probe_ack, is_release, probe_of}
use Rattle.tl_keys.{specs.statement.OneKey.AreAlike, specs.statement.OneKey.OneKey, proofs.Kept.same-begins}
use Rattle.tl_keys.{proofs.Kept.whole-or-none, proofs.Lawful.AreInOrder, proofs.Lawful.in-order, proofs.Named.are-named}
use Rattle.tl_keys.specs.statement.Rules.{block_of, first_of, tests}
use Rattle.tl_keys.proofs.Keys.{passed, probe-alike}
use Rattle.tl_keys.proofs.PendingKeys.{acquire-pending, grant-ack-pending, held-alike, probe-pending}
use Rattle.tl_keys.proofs.Keys.{release-alike, request-alike, request-of-block}
use Rattle.tl_keys.proofs.PendingKeys.{release-of-pending, release-pending}
use Rattle.tl_keys.proofs.PendingKeys.{request-pending, sink-pending}

-- where no request with a source began, none of the kept ones did
none-asked : {w : ℕ} (n : Name) (s : ℕ) (t : History w) → request_of s t ≡ None → request_of s (restricted n t) ≡ None
unfolding restricted request_of
none-asked n s [] e = refl
none-asked {w} n s (A x ∷ t) e =
    go (none-asked n s t) (begins (A x) t && (x.source == s)) refl (is_kept n (A x) t (restricted n t)) refl
  where
    go : (request_of s t ≡ None → request_of s (restricted n t) ≡ None) → (own : Bool)
        → (begins (A x) t && (x.source == s)) ≡ own → (k : Bool) → is_kept n (A x) t (restricted n t) ≡ k
        → request_of s (if is_kept n (A x) t (restricted n t) then A x ∷ restricted n t else restricted n t) ≡ None
    go before true f k is = absurd (let some : Some x ≡ None = rw f at e in cc)
    go before false f false is = rw is (before (rw f at e))
    go before false f true is =
        rw is (rw (same-begins n (A x) t is, f) (before (rw f at e)))
none-asked n s (B x ∷ t) e = passed (request_of s) (is_kept n (B x) t (restricted n t)) (B x) (restricted n t) None refl
    (none-asked n s t e)
none-asked n s (C x ∷ t) e = passed (request_of s) (is_kept n (C x) t (restricted n t)) (C x) (restricted n t) None refl
    (none-asked n s t e)
none-asked n s (D x ∷ t) e = passed (request_of s) (is_kept n (D x) t (restricted n t)) (D x) (restricted n t) None refl
    (none-asked n s t e)
none-asked n s (E x ∷ t) e = passed (request_of s) (is_kept n (E x) t (restricted n t)) (E x) (restricted n t) None refl
    (none-asked n s t e)

-- ---- a message that is on its way

module _ {w : ℕ} (p : Profile) (t : History w) (lawful : AreInOrder p t) where
  -- a test of unfinished bursts that holds of one alone that names it holds of the kept beats alike
  coming-alike : (n : Name) (ch : Channel) (test : List (Beat w) → Bool) → test [] ≡ false
      → ((y : Beat w) (older : List (Beat w)) → test (y ∷ older) ≡ true → names n y t ≡ true)
      → test (unfinished ch t) ≡ test (unfinished ch (restricted n t))
  coming-alike n ch test none named = go (whole-or-none n ch t) (unfinished ch t) refl
    where
      go : (unfinished ch (restricted n t) ≡ unfinished ch t) ⊎ (unfinished ch (restricted n t) ≡ [])
          → (burst : List (Beat w)) → unfinished ch t ≡ burst
          → test (unfinished ch t) ≡ test (unfinished ch (restricted n t))
      go (inl same) burst e = ap test (sym same)
      go (inr gone) [] e = ap test e ∙ ap test (sym gone)
      go (inr gone) (y ∷ older) e = ap test e ∙ untold (test (y ∷ older)) refl ∙ sym none ∙ ap test (sym gone)
        where
          untold : (b : Bool) → test (y ∷ older) ≡ b → b ≡ false
          untold false f = refl
          untold true f = absurd (
              let no : true ≡ false = sym (named y older f) ∙ are-named p n t lawful ch y older e
              ∙ ap (λ (v : List (Beat w)). not (is_empty v)) gone in
              cc)

  -- a request with this source, a Release with it, a Grant with this sink
  request-coming : (s : ℕ) → comes_in_request s (unfinished Channel.A t)
      ≡ comes_in_request s (unfinished Channel.A (restricted (OfSource s) t))
  request-coming s = coming-alike (OfSource s) Channel.A (comes_in_request s) refl named
    where
      named : (y : Beat w) (older : List (Beat w)) → comes_in_request s (y ∷ older) ≡ true
          → names (OfSource s) y t ≡ true
      named (A y) older e = e
      named v older e = absurd cc

  release-coming : (s : ℕ) → comes_in_release s (unfinished Channel.C t)
      ≡ comes_in_release s (unfinished Channel.C (restricted (OfSource s) t))
  release-coming s = coming-alike (OfSource s) Channel.C (comes_in_release s) refl named
    where
      named : (y : Beat w) (older : List (Beat w)) → comes_in_release s (y ∷ older) ≡ true
          → names (OfSource s) y t ≡ true
      named (C y) older e = right (is_release y.opcode) (y.source == s) e
        where
          right : (a b : Bool) → (a && b) ≡ true → b ≡ true
          right true b f = f
          right false b f = absurd cc
      named (A y) older e = absurd cc
      named (B y) older e = absurd cc
      named (D y) older e = absurd cc
      named (E y) older e = absurd cc

  grant-coming : (k : ℕ) → comes_in_grant k (unfinished Channel.D t)
      ≡ comes_in_grant k (unfinished Channel.D (restricted (OfSink k) t))
  grant-coming k = coming-alike (OfSink k) Channel.D (comes_in_grant k) refl named
    where
      named : (y : Beat w) (older : List (Beat w)) → comes_in_grant k (y ∷ older) ≡ true → names (OfSink k) y t ≡ true
      named (D y) older e = right (is_grant y.opcode) (y.sink == k) e
        where
          right : (a b : Bool) → (a && b) ≡ true → b ≡ true
          right true b f = f
          right false b f = absurd cc
      named (A y) older e = absurd cc
      named (B y) older e = absurd cc
      named (C y) older e = absurd cc
      named (E y) older e = absurd cc

  -- ---- responses

  answer-alike : (x : BeatD w) → has_request x t ≡ has_request x (restricted (OfSource x.source) t)
  answer-alike x =
      rw (
        sym (release-pending p x.source t lawful),
        sym (request-pending p x.source t lawful),
        release-coming x.source,
        request-coming x.source,
        sym (request-alike p x.source t lawful),
      ) refl

  size-alike : (x : BeatD w) → size_asked x t ≡ size_asked x (restricted (OfSource x.source) t)
  size-alike x = rw (sym (request-alike p x.source t lawful), sym (release-alike p x.source t lawful)) refl

  -- a Grant, by the block of its request
  grant-alike : (x : BeatD w) → (is_grant x.opcode && misgrants p x (request_of x.source t) t)
      ≡ (is_grant x.opcode && misgrants p x
      (request_of x.source (restricted (OfBlock (block_of (request_of x.source t))) t))
      (restricted (OfBlock (block_of (request_of x.source t))) t))
  grant-alike x = go (request_of x.source t) refl
    where
      go : (o : Option (BeatA w)) → request_of x.source t ≡ o
          → (is_grant x.opcode && misgrants p x (request_of x.source t) t)
          ≡ (is_grant x.opcode && misgrants p x (request_of x.source (restricted (OfBlock (block_of o)) t))
          (restricted (OfBlock (block_of o)) t))
      go None e = rw (e, none-asked (OfBlock 0) x.source t e) refl
      go (Some r) e =
          rw (
            request-of-block p (block_at r.address) x.source t lawful
                (ap (asks_for (block_at r.address)) e ∙ eq-eqb (block_at r.address) (block_at r.address) refl),
            e,
            held-alike p (block_at r.address) t lawful,
            probe-pending p (block_at r.address) t lawful,
          ) refl

-- ---- all rules

-- a Release isn't the answer to a Probe
one-kind : (o : OpC) → (is_release o && is_probe_ack o) ≡ false
one-kind OpC.Release = refl
one-kind v = refl

chosen : (a b r1 r13 h10 h11 h12 : Bool) → (a && b) ≡ false
    → (if a then first_if r1 H1 (first_if r13 H13 None) else
    if b then first_if h10 H10 (first_if h11 H11 (first_if h12 H12 None)) else None)
    ≡ first_if (a && r1) H1 (first_if (a && r13) H13
    (first_if (b && h10) H10 (first_if (b && h11) H11 (first_if (b && h12) H12 None))))
chosen true true r1 r13 h10 h11 h12 e = absurd cc
chosen true false r1 r13 h10 h11 h12 e = refl
chosen false true r1 r13 h10 h11 h12 e = refl
chosen false false r1 r13 h10 h11 h12 e = refl

ordered : {w : ℕ} (p : Profile) (x : Beat w) (t : History w) → broken_order p x t ≡ first_of (tests p x t) t
unfolding broken_order
ordered p (C x) t = chosen (is_release x.opcode) (is_probe_ack x.opcode) (pending (ReleaseSource x.source) t)
    (pending (AcquireOf (block_at x.address)) t || (pending (ReleaseOf (block_at x.address)) t || not
    (prunes_from (prune_of x.param) (held (block_at x.address) t))))
    (not (pending (ProbeOf (block_at x.address)) t) || answers_wrong_probe x (probe_of (block_at x.address) t))
    (pending (ReleaseOf (block_at x.address)) t)
    (misreports x (probe_of (block_at x.address) t) (held (block_at x.address) t)) (one-kind x.opcode)
ordered p v t = refl

each-alike : {w : ℕ} (p : Profile) (x : Beat w) (t : History w) → AreInOrder p t → AreAlike (tests p x t) t
each-alike p (A x) t lawful =
    let b = block_at x.address in (
      sym (request-pending p x.source t lawful),
      (
        rw (acquire-pending p b t lawful, release-of-pending p b t lawful) refl,
        (rw (held-alike p b t lawful) refl, tt),
      ),
    )
each-alike p (B x) t lawful =
    let b = block_at x.address in (rw (probe-pending p b t lawful, grant-ack-pending p b t lawful) refl, tt)
each-alike p (C x) t lawful =
    let b = block_at x.address in (
      rw (release-pending p x.source t lawful) refl,
      (
        rw (acquire-pending p b t lawful, release-of-pending p b t lawful, held-alike p b t lawful) refl,
        (
          rw (probe-pending p b t lawful, probe-alike p b t lawful) refl,
          (
            rw (release-of-pending p b t lawful) refl,
            (rw (probe-alike p b t lawful, held-alike p b t lawful) refl, tt),
          ),
        ),
      ),
    )
each-alike p (D x) t lawful = (
  ap not (answer-alike p t lawful x),
  (
    ap (λ (n : ℕ). not (x.size == n)) (size-alike p t lawful x),
    (grant-alike p t lawful x, (rw (sink-pending p x.sink t lawful) refl, tt)),
  ),
)
each-alike p (E x) t lawful = (rw (sink-pending p x.sink t lawful, sym (grant-coming p t lawful x.sink)) refl, tt)

pub one-key : {w : ℕ} → OneKey w
one-key l p t x legal = record { first = ordered p x t; each = each-alike p x t (in-order l p t legal) }
