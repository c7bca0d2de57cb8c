-- A message that breaks no rule of order under some liberties breaks none under more, after a history after which the
-- same is held.
use Rattle.tl_forgiving.proofs.Imports.{Beat, A, B, C, D, E, Channel, History, unfinished, IsWithin, Level}
use Rattle.tl_forgiving.proofs.Imports.{Liberties, begins, block_at, is_grant, is_release, is_release_ack, pending}
use Rattle.tl_forgiving.proofs.Imports.{request_of}
use Rattle.tl_forgiving.proofs.Implied.{Implies, and-more, if-more, ladder-less, not-less, or-more}
use Rattle.tl_forgiving.proofs.Lawful.{AreLawful, IsLawful}
use Rattle.tl_forgiving.proofs.Legal.{denied-alike, probe-ack-source, probe-source}
use Rattle.std.proofs.Common.{◌≡◌, ℕ, Bool, true, false, not, ◌&&◌, ◌||◌, [], ◌∷◌, refl, sym, ◌∙◌}
use Rattle.std.specs.Prelude.{if◌then◌else◌, None, Option, Some, ◌==◌}
use Rattle.std.proofs.lemmas.Bool.{eq-eqb, eqb-true}
use Rattle.tl_beat.{specs.declared.beat.BeatA.BeatA, specs.declared.beat.BeatC.BeatC}
use Rattle.tl_beat.{specs.declared.beat.BeatD.BeatD, specs.declared.beat.BeatE.BeatE}
use Rattle.tl_beat.{specs.declared.opcode.OpA.OpA}
use Rattle.tl_params.specs.declared.key.Key.TheVariants.{AcquireOf, GrantSink, ProbeOf, ReleaseOf, ReleaseSource}
use Rattle.tl_params.specs.declared.key.Key.TheVariants.{RequestSource}
use Rattle.tl_params.specs.declared.liberties.Liberty.TheVariants.{Drops, Early, Reports, Writer}
use Rattle.tl_params.specs.declared.param.Grow.TheVariants as grow
use Rattle.tl_params.specs.declared.param.Prune.TheVariants as prune
use Rattle.tl_params.specs.declared.param.Report.TheVariants as report
use Rattle.tl_params.specs.declared.param.Cap.TheVariants as cap
use Rattle.tl_params.specs.declared.profile.Profile.TheVariants as Profile
use Rattle.tl_params.specs.declared.perm.Perm.{Perm}
use Rattle.tl_params.specs.declared.rule.Rule.TheVariants.{H1, H10, H11, H12, H13, H2, H3, H4, H5, H6, H8}
use Rattle.tl_params.specs.statement.Param.{cap_code, grow_code, prune_of, report_named}
use Rattle.tl_rules.specs.statement.Conformance.{admits, answers_wrong_probe, comes_in_grant, comes_in_release}
use Rattle.tl_rules.specs.statement.Conformance.{comes_in_request, fits_grow, grows_from}
use Rattle.tl_rules.specs.statement.Conformance.{prunes_from, size_asked}
use Rattle.tl_rules.specs.statement.History.{is_acquire, is_probe, is_probe_ack, probe_of}
use Rattle.tl_rules.specs.statement.Liberties.{broken_order_under, broken_probe_ack_under, broken_release_under}
use Rattle.tl_rules.specs.statement.Liberties.{grows_from_none, grows_from_under, has_other_source, has_request_under}
use Rattle.tl_rules.specs.statement.Liberties.{held_under, misgrants_under, misreports_under, profile_under}
use Rattle.tl_rules.specs.statement.Liberties.{releases_from, reports_from, reports_none}
use Rattle.tl_rules.proofs.Open.{never}

-- ---- tables

-- a prune that starts from a permission is a report that starts from it
pruned : (a b c d e f : Bool) (p : Perm)
    → prunes_from (if a then Some prune.TtoB else if b then Some prune.TtoN else if c then Some prune.BtoN else None) p
    ≡ true
    → reports_from (if a then Some report.TtoB else if b then Some report.TtoN else if c then Some report.BtoN else
    if d then Some report.TtoT else if e then Some report.BtoB else if f then Some report.NtoN else None) p ≡ true
pruned true b c d e f p is = is
pruned false true c d e f p is = is
pruned false false true d e f p is = is
pruned false false false d e f p is = absurd cc

-- a Release that starts from what is held, where reports may be more, and drops
released : (few more few_drops more_drops : Bool) (param : ℕ) (p : Perm) → Implies few more
    → Implies few_drops more_drops
    → Implies
    (if few then (few_drops && reports_none param) || reports_from (report_named param) p else
    prunes_from (prune_of param) p)
    (if more then (more_drops && reports_none param) || reports_from (report_named param) p else
    prunes_from (prune_of param) p)
released true true few_drops more_drops param p within drops =
    or-more (few_drops && reports_none param) (reports_from (report_named param) p)
    (more_drops && reports_none param) (reports_from (report_named param) p)
    (and-more few_drops (reports_none param) more_drops (reports_none param) drops (λ e. e)) (λ e. e)
released true false few_drops more_drops param p within drops = absurd (let wrong : false ≡ true = within refl in cc)
released false false few_drops more_drops param p within drops = λ e. e
released false true few_drops more_drops param p within drops =
    or-more false (prunes_from (prune_of param) p) (more_drops && reports_none param)
    (reports_from (report_named param) p) (λ e. absurd cc)
    (pruned (param == 0) (param == 1) (param == 2) (param == 3) (param == 4) (param == 5) p)

-- a cap that fits without `writer` fits with it
fits-more : (l m : Liberties) → IsWithin l m → (opcode : OpA) (param given : ℕ)
    → Implies (fits_grow (profile_under l) opcode param given) (fits_grow (profile_under m) opcode param given)
fits-more l m within opcode param given = go l.writer m.writer refl refl (within Writer)
  where
    wider : (o : OpA) → Implies (if param == grow_code grow.NtoB then given == cap_code cap.ToB else given == cap_code
        cap.ToT) (fits_grow Profile.Two o param given)
    wider OpA.AcquireBlock =
        if-more (param == grow_code grow.NtoB) (given == cap_code cap.ToB) (given == cap_code cap.ToT)
        ((given == cap_code cap.ToT) || (given == cap_code cap.ToB)) (given == cap_code cap.ToT)
        (or-more false (given == cap_code cap.ToB) (given == cap_code cap.ToT) (given == cap_code cap.ToB)
        (λ e. absurd cc) (λ e. e)) (λ e. e)
    wider v = λ e. e

    go : (few more : Bool) → l.writer ≡ few → m.writer ≡ more → Implies few more
        → Implies (fits_grow (profile_under l) opcode param given) (fits_grow (profile_under m) opcode param given)
    go true true is_few is_more f = rw (is_few, is_more) (λ e. e)
    go true false is_few is_more f = absurd (let wrong : false ≡ true = f refl in cc)
    go false false is_few is_more f = rw (is_few, is_more) (λ e. e)
    go false true is_few is_more f = rw (is_few, is_more) (wider opcode)

-- ---- sources of Probes

-- without `ids` a ProbeAck with source 0 has the source of the last Probe
pub zero-sources : {w : ℕ} (l : Liberties) (level : Level) (k : ℕ) (x : BeatC w) (t : History w) → l.ids ≡ false
    → (x.source == 0) ≡ true → AreLawful l level t → has_other_source x (probe_of k t) ≡ false
unfolding AreLawful probe_of
zero-sources l level k x [] fixed zero lawful = refl
zero-sources l level k x (A y ∷ t) fixed zero lawful = zero-sources l level k x t fixed zero lawful.1
zero-sources l level k x (C y ∷ t) fixed zero lawful = zero-sources l level k x t fixed zero lawful.1
zero-sources l level k x (D y ∷ t) fixed zero lawful = zero-sources l level k x t fixed zero lawful.1
zero-sources l level k x (E y ∷ t) fixed zero lawful = zero-sources l level k x t fixed zero lawful.1
zero-sources {w} l level k x (B y ∷ t) fixed zero lawful =
    go (begins (B y) t && (is_probe y.opcode && (block_at y.address == k)))
    (zero-sources l level k x t fixed zero lawful.1)
  where
    equal : (x.source == y.source) ≡ true
    equal = eq-eqb x.source y.source (eqb-true x.source 0 zero
        ∙ sym (eqb-true y.source 0 (probe-source l level Channel.B y fixed lawful.0.alone)))

    go : (b : Bool) → has_other_source x (probe_of k t) ≡ false
        → has_other_source x (if b then Some y else probe_of k t) ≡ false
    go true before = rw equal refl
    go false before = before

module _ {w : ℕ} (l m : Liberties) (level : Level) (within : IsWithin l m) (t : History w)
    (before : AreLawful l level t) (alike : (k : ℕ) → held_under m k t ≡ held_under l k t) where
  -- ---- channel A

  grows-more : (param : ℕ) (p : Perm) → Implies (grows_from_under l param p) (grows_from_under m param p)
  grows-more param p =
      or-more (l.drops && grows_from_none param) (grows_from param p) (m.drops && grows_from_none param)
      (grows_from param p)
      (and-more l.drops (grows_from_none param) m.drops (grows_from_none param) (within Drops) (λ e. e)) (λ e. e)

  order-a : (x : BeatA w) → broken_order_under l (A x) t ≡ None → broken_order_under m (A x) t ≡ None
  unfolding broken_order_under
  order-a x =
      rw (alike (block_at x.address)) (
      ladder-less (pending (RequestSource x.source) t) (pending (RequestSource x.source) t) H1 _ _ (λ e. e)
      (ladder-less _ _ H4 _ _ (λ e. e)
      (ladder-less (is_acquire x.opcode && not (grows_from_under l x.param (held_under l (block_at x.address) t)))
      (is_acquire x.opcode && not (grows_from_under m x.param (held_under l (block_at x.address) t))) H5 None None
      (and-more (is_acquire x.opcode) (not (grows_from_under m x.param (held_under l (block_at x.address) t)))
      (is_acquire x.opcode) (not (grows_from_under l x.param (held_under l (block_at x.address) t))) (λ e. e)
      (not-less (grows_from_under l x.param (held_under l (block_at x.address) t))
      (grows_from_under m x.param (held_under l (block_at x.address) t))
      (grows-more x.param (held_under l (block_at x.address) t)))) (λ e. e))))

  -- ---- channel C

  release-order : (x : BeatC w) → broken_release_under l x t ≡ None → broken_release_under m x t ≡ None
  release-order x =
      rw (alike (block_at x.address)) (
      ladder-less (pending (ReleaseSource x.source) t) (pending (ReleaseSource x.source) t) H1 _ _ (λ e. e)
      (ladder-less (pending (AcquireOf (block_at x.address)) t || (pending (ReleaseOf (block_at x.address)) t || not
      (releases_from l x.param (held_under l (block_at x.address) t))))
      (pending (AcquireOf (block_at x.address)) t || (pending (ReleaseOf (block_at x.address)) t || not
      (releases_from m x.param (held_under l (block_at x.address) t)))) H13 None None
      (or-more (pending (AcquireOf (block_at x.address)) t) _ (pending (AcquireOf (block_at x.address)) t) _ (λ e. e)
      (or-more (pending (ReleaseOf (block_at x.address)) t) _ (pending (ReleaseOf (block_at x.address)) t) _ (λ e. e)
      (not-less (releases_from l x.param (held_under l (block_at x.address) t))
      (releases_from m x.param (held_under l (block_at x.address) t))
      (released l.reports m.reports l.drops m.drops x.param (held_under l (block_at x.address) t) (within Reports)
      (within Drops))))) (λ e. e)))

  sources-less : (x : BeatC w) → IsLawful l level (C x) t → is_probe_ack x.opcode ≡ true
      → Implies (m.ids && has_other_source x (probe_of (block_at x.address) t))
      (l.ids && has_other_source x (probe_of (block_at x.address) t))
  sources-less x lawful ack = go l.ids refl
    where
      go : (few : Bool) → l.ids ≡ few → Implies (m.ids && has_other_source x (probe_of (block_at x.address) t))
          (few && has_other_source x (probe_of (block_at x.address) t))
      go true is = and-more m.ids (has_other_source x (probe_of (block_at x.address) t)) true
          (has_other_source x (probe_of (block_at x.address) t)) (λ e. refl) (λ e. e)
      go false is = rw (
        zero-sources l level (block_at x.address) x t is
            (probe-ack-source l level Channel.C x is ack lawful.alone) before,
        never m.ids,
      ) (λ e. absurd cc)

  probe-ack-order : (x : BeatC w) → IsLawful l level (C x) t → is_probe_ack x.opcode ≡ true
      → broken_probe_ack_under l x t ≡ None → broken_probe_ack_under m x t ≡ None
  probe-ack-order x lawful ack =
      rw (alike (block_at x.address)) (
      ladder-less (not (pending (ProbeOf (block_at x.address)) t)
      || ((l.ids && has_other_source x (probe_of (block_at x.address) t))
      || answers_wrong_probe x (probe_of (block_at x.address) t)))
      (not (pending (ProbeOf (block_at x.address)) t)
      || ((m.ids && has_other_source x (probe_of (block_at x.address) t))
      || answers_wrong_probe x (probe_of (block_at x.address) t))) H10 _ _
      (or-more (not (pending (ProbeOf (block_at x.address)) t)) _ (not (pending (ProbeOf (block_at x.address)) t)) _
      (λ e. e)
      (or-more (m.ids && has_other_source x (probe_of (block_at x.address) t))
      (answers_wrong_probe x (probe_of (block_at x.address) t))
      (l.ids && has_other_source x (probe_of (block_at x.address) t))
      (answers_wrong_probe x (probe_of (block_at x.address) t)) (sources-less x lawful ack) (λ e. e)))
      (ladder-less (pending (ReleaseOf (block_at x.address)) t) (pending (ReleaseOf (block_at x.address)) t) H11 _ _
      (λ e. e)
      (ladder-less
      (misreports_under l x (probe_of (block_at x.address) t) (held_under l (block_at x.address) t))
      (misreports_under m x (probe_of (block_at x.address) t) (held_under l (block_at x.address) t)) H12 None None
      (and-more (not (m.drops && reports_none x.param)) _ (not (l.drops && reports_none x.param)) _
      (not-less (l.drops && reports_none x.param) (m.drops && reports_none x.param)
      (and-more l.drops (reports_none x.param) m.drops (reports_none x.param) (within Drops) (λ e. e))) (λ e. e))
      (λ e. e))))

  order-c : (x : BeatC w) → IsLawful l level (C x) t → broken_order_under l (C x) t ≡ None
      → broken_order_under m (C x) t ≡ None
  unfolding broken_order_under
  order-c x lawful = go (is_release x.opcode) refl (is_probe_ack x.opcode) refl
    where
      go : (release : Bool) → is_release x.opcode ≡ release → (ack : Bool) → is_probe_ack x.opcode ≡ ack
          → (if is_release x.opcode then broken_release_under l x t else
          if is_probe_ack x.opcode then broken_probe_ack_under l x t else None) ≡ None
          → (if is_release x.opcode then broken_release_under m x t else
          if is_probe_ack x.opcode then broken_probe_ack_under m x t else None) ≡ None
      go true r ack a = rw r (release-order x)
      go false r true a = rw (r, a) (probe-ack-order x lawful a)
      go false r false a = rw (r, a) (λ e. refl)

  -- ---- channel D

  early-more : (coming : Bool) → Implies (not (not l.early && coming)) (not (not m.early && coming))
  early-more coming =
      not-less (not m.early && coming) (not l.early && coming)
      (and-more (not m.early) coming (not l.early) coming (not-less l.early m.early (within Early)) (λ e. e))

  asked-more : (x : BeatD w) → Implies (has_request_under l x t) (has_request_under m x t)
  asked-more x =
      if-more (is_release_ack x.opcode) _ _ _ _
      (and-more (pending (ReleaseSource x.source) t)
      (not (not l.early && comes_in_release x.source (unfinished Channel.C t)))
      (pending (ReleaseSource x.source) t) (not (not m.early && comes_in_release x.source (unfinished Channel.C t)))
      (λ e. e)
      (early-more (comes_in_release x.source (unfinished Channel.C t))))
      (and-more (pending (RequestSource x.source) t)
      (not (not l.early && comes_in_request x.source (unfinished Channel.A t))
      && admits x.opcode (request_of x.source t)) (pending (RequestSource x.source) t)
      (not (not m.early && comes_in_request x.source (unfinished Channel.A t))
      && admits x.opcode (request_of x.source t)) (λ e. e)
      (and-more (not (not l.early && comes_in_request x.source (unfinished Channel.A t)))
      (admits x.opcode (request_of x.source t))
      (not (not m.early && comes_in_request x.source (unfinished Channel.A t)))
      (admits x.opcode (request_of x.source t)) (early-more (comes_in_request x.source (unfinished Channel.A t)))
      (λ e. e)))

  grants-less : (x : BeatD w) → IsLawful l level (D x) t → is_grant x.opcode ≡ true → (o : Option (BeatA w))
      → Implies (misgrants_under m x o t) (misgrants_under l x o t)
  grants-less x lawful grant None = λ e. e
  grants-less x lawful grant (Some r) =
      rw (alike (block_at r.address), denied-alike l m level Channel.D x within (rw grant refl) lawful.alone) (
      if-more (l.denied && x.denied) _ _ _ _ (λ e. e)
      (or-more (not (fits_grow (profile_under m) r.opcode r.param x.param)) _
      (not (fits_grow (profile_under l) r.opcode r.param x.param)) _
      (not-less (fits_grow (profile_under l) r.opcode r.param x.param)
      (fits_grow (profile_under m) r.opcode r.param x.param)
      (fits-more l m within r.opcode r.param x.param)) (λ e. e)))

  order-d : (x : BeatD w) → IsLawful l level (D x) t → broken_order_under l (D x) t ≡ None
      → broken_order_under m (D x) t ≡ None
  unfolding broken_order_under
  order-d x lawful =
      ladder-less (not (has_request_under l x t)) (not (has_request_under m x t)) H2 _ _
      (not-less (has_request_under l x t) (has_request_under m x t) (asked-more x))
      (ladder-less (not (x.size == size_asked x t)) (not (x.size == size_asked x t)) H3 _ _ (λ e. e)
      (ladder-less (is_grant x.opcode && misgrants_under l x (request_of x.source t) t)
      (is_grant x.opcode && misgrants_under m x (request_of x.source t) t) H6 _ _
      (less (is_grant x.opcode) refl)
      (λ e. e)))
    where
      less : (grant : Bool) → is_grant x.opcode ≡ grant
          → Implies (grant && misgrants_under m x (request_of x.source t) t)
          (grant && misgrants_under l x (request_of x.source t) t)
      less true g = grants-less x lawful g (request_of x.source t)
      less false g = λ e. e

  -- ---- channel E

  order-e : (x : BeatE) → broken_order_under l (E x) t ≡ None → broken_order_under m (E x) t ≡ None
  unfolding broken_order_under
  order-e x =
      ladder-less (not (pending (GrantSink x.sink) t)
      || (not l.early && comes_in_grant x.sink (unfinished Channel.D t)))
      (not (pending (GrantSink x.sink) t)
      || (not m.early && comes_in_grant x.sink (unfinished Channel.D t))) H8 None None
      (or-more (not (pending (GrantSink x.sink) t)) _ (not (pending (GrantSink x.sink) t)) _ (λ e. e)
      (and-more (not m.early) (comes_in_grant x.sink (unfinished Channel.D t)) (not l.early)
      (comes_in_grant x.sink (unfinished Channel.D t)) (not-less l.early m.early (within Early)) (λ e. e))) (λ e. e)

  -- ---- all

  pub order-more : (x : Beat w) → IsLawful l level x t → broken_order_under l x t ≡ None
      → broken_order_under m x t ≡ None
  unfolding broken_order_under
  order-more (A x) lawful e = order-a x e
  order-more (B x) lawful e = e
  order-more (C x) lawful e = order-c x lawful e
  order-more (D x) lawful e = order-d x lawful e
  order-more (E x) lawful e = order-e x e
