-- A situation comes with no message of another group than its own.
use Rattle.std.proofs.Common.{◌≡◌, ◌≤◌, ◌<◌, ℕ, zero, suc, Bool, true, false, ◌&&◌, ◌+◌, ◌-◌}
use Rattle.std.proofs.Common.{List, [], ◌∷◌, ◌++◌, length, refl, sym, ap, ap₂, ◌∙◌, add-one, arith}
use Rattle.std.specs.Prelude.{Some, drop, map, nat_le, replicate, slice_index_or}
use Rattle.std.proofs.lemmas.Bool.{leb-true}
use Rattle.std.proofs.lemmas.List.{drop-drop, drop_all, length-drop, length-map}
use Rattle.tl_beat.specs.declared.beat.Beat.{Beat}
use Rattle.tl_beat.specs.declared.beat.Beat.TheVariants as beat
use Rattle.tl_beat.specs.declared.opcode.OpA.{OpA}
use Rattle.tl_beat.specs.declared.opcode.OpA.TheVariants as a
use Rattle.tl_cover.proofs.Lists.{first_half, second_half}
use Rattle.tl_cover.specs.code.Covering.{noted_to, row_with}
use Rattle.tl_cover.specs.code.Groups.{Fits, group_of, groups_in, has, is_rising}
use Rattle.tl_cover.specs.declared.group.Group.{Group}
use Rattle.tl_cover.specs.declared.message.MessageKind.TheVariants as kind
use Rattle.tl_cover.specs.declared.row.Row.{Row}
use Rattle.tl_cover.specs.declared.scene.Scene.{Scene}
use Rattle.tl_cover.specs.declared.situation.Pending.TheVariants as pending
use Rattle.tl_cover.specs.declared.situation.Situation.{Situation}
use Rattle.tl_cover.specs.declared.situation.Situation.TheVariants as situation
use Rattle.tl_cover.specs.declared.stretch.Stretch.{Stretch}
use Rattle.tl_cover.specs.statement.Kinds.{is_arithmetic_opcode, is_atomic_opcode, is_logical_opcode, is_partial_opcode}
use Rattle.tl_cover.specs.statement.Kinds.{asks_for, is_access_beat, is_aligned, is_put_opcode}
use Rattle.tl_cover.specs.statement.Situations.{meets}

-- the opcodes of groups
is_no_partial : (o : OpA) → is_put_opcode o ≡ false → is_partial_opcode o ≡ false
is_no_partial a.PutFullData e = refl
is_no_partial a.PutPartialData e = e
is_no_partial a.ArithmeticData e = refl
is_no_partial a.LogicalData e = refl
is_no_partial a.Get e = refl
is_no_partial a.Intent e = refl
is_no_partial a.AcquireBlock e = refl
is_no_partial a.AcquirePerm e = refl

is_no_arithmetic : (o : OpA) → is_atomic_opcode o ≡ false → is_arithmetic_opcode o ≡ false
is_no_arithmetic a.PutFullData e = refl
is_no_arithmetic a.PutPartialData e = refl
is_no_arithmetic a.ArithmeticData e = e
is_no_arithmetic a.LogicalData e = refl
is_no_arithmetic a.Get e = refl
is_no_arithmetic a.Intent e = refl
is_no_arithmetic a.AcquireBlock e = refl
is_no_arithmetic a.AcquirePerm e = refl

is_no_logical : (o : OpA) → is_atomic_opcode o ≡ false → is_logical_opcode o ≡ false
is_no_logical a.PutFullData e = refl
is_no_logical a.PutPartialData e = refl
is_no_logical a.ArithmeticData e = refl
is_no_logical a.LogicalData e = e
is_no_logical a.Get e = refl
is_no_logical a.Intent e = refl
is_no_logical a.AcquireBlock e = refl
is_no_logical a.AcquirePerm e = refl

-- a situation
module _ {w : ℕ} (s : Scene) where
  pub comes_with : (it : Situation) (x : Beat w) → has (group_of it) x ≡ false → meets it x s ≡ false
  comes_with situation.ProbeBesideRelease x e = rw e refl
  comes_with situation.ReleaseBesideProbe x e = rw e refl
  comes_with situation.ProbeBesideAcquire x e = rw e refl
  comes_with situation.ProbeBesideUpgrade x e = rw e refl
  comes_with situation.ProbeOfNothing x e = rw e refl
  comes_with situation.UpgradeLostWithData (beat.A x) e = refl
  comes_with situation.UpgradeLostWithData (beat.B x) e = refl
  comes_with situation.UpgradeLostWithData (beat.C x) e = refl
  comes_with situation.UpgradeLostWithData (beat.D x) e = rw e refl
  comes_with situation.UpgradeLostWithData (beat.E x) e = refl
  comes_with situation.UpgradeLostWithoutData (beat.A x) e = refl
  comes_with situation.UpgradeLostWithoutData (beat.B x) e = refl
  comes_with situation.UpgradeLostWithoutData (beat.C x) e = refl
  comes_with situation.UpgradeLostWithoutData (beat.D x) e = rw e refl
  comes_with situation.UpgradeLostWithoutData (beat.E x) e = refl
  comes_with situation.ReleaseBeforeGrantAck x e = rw e refl
  comes_with situation.TwoGrants x e = rw e refl
  comes_with situation.FourGrants x e = rw e refl
  comes_with (situation.Acquired grow) (beat.A x) e = rw e refl
  comes_with (situation.Acquired grow) (beat.B x) e = refl
  comes_with (situation.Acquired grow) (beat.C x) e = refl
  comes_with (situation.Acquired grow) (beat.D x) e = refl
  comes_with (situation.Acquired grow) (beat.E x) e = refl
  comes_with (situation.Granted grow) (beat.A x) e = refl
  comes_with (situation.Granted grow) (beat.B x) e = refl
  comes_with (situation.Granted grow) (beat.C x) e = refl
  comes_with (situation.Granted grow) (beat.D x) e = rw e refl
  comes_with (situation.Granted grow) (beat.E x) e = refl
  comes_with (situation.Probed cap) (beat.A x) e = refl
  comes_with (situation.Probed cap) (beat.B x) e = rw e refl
  comes_with (situation.Probed cap) (beat.C x) e = refl
  comes_with (situation.Probed cap) (beat.D x) e = refl
  comes_with (situation.Probed cap) (beat.E x) e = refl
  comes_with (situation.Reported report) (beat.A x) e = refl
  comes_with (situation.Reported report) (beat.B x) e = refl
  comes_with (situation.Reported report) (beat.C x) e = rw e refl
  comes_with (situation.Reported report) (beat.D x) e = refl
  comes_with (situation.Reported report) (beat.E x) e = refl
  comes_with (situation.Released report) (beat.A x) e = refl
  comes_with (situation.Released report) (beat.B x) e = refl
  comes_with (situation.Released report) (beat.C x) e = rw e refl
  comes_with (situation.Released report) (beat.D x) e = refl
  comes_with (situation.Released report) (beat.E x) e = refl
  comes_with situation.AccessBesideTransfer x e = rw e refl
  comes_with situation.AccessOfHeldBlock x e = rw e refl
  comes_with (situation.Masked lanes) (beat.A x) e = rw (is_no_partial x.opcode e) refl
  comes_with (situation.Masked lanes) (beat.B x) e = refl
  comes_with (situation.Masked lanes) (beat.C x) e = refl
  comes_with (situation.Masked lanes) (beat.D x) e = refl
  comes_with (situation.Masked lanes) (beat.E x) e = refl
  comes_with (situation.GetOf bytes) x e = rw e refl
  comes_with (situation.PutOf bytes) x e = rw e refl
  comes_with (situation.AtomicOf bytes) x e = rw e refl
  comes_with (situation.Arithmetic operation) (beat.A x) e = rw (is_no_arithmetic x.opcode e) refl
  comes_with (situation.Arithmetic operation) (beat.B x) e = refl
  comes_with (situation.Arithmetic operation) (beat.C x) e = refl
  comes_with (situation.Arithmetic operation) (beat.D x) e = refl
  comes_with (situation.Arithmetic operation) (beat.E x) e = refl
  comes_with (situation.Logical operation) (beat.A x) e = rw (is_no_logical x.opcode e) refl
  comes_with (situation.Logical operation) (beat.B x) e = refl
  comes_with (situation.Logical operation) (beat.C x) e = refl
  comes_with (situation.Logical operation) (beat.D x) e = refl
  comes_with (situation.Logical operation) (beat.E x) e = refl
  comes_with situation.ResponseAtOnce (beat.A x) e = refl
  comes_with situation.ResponseAtOnce (beat.B x) e = refl
  comes_with situation.ResponseAtOnce (beat.C x) e = refl
  comes_with situation.ResponseAtOnce (beat.D x) e = absurd cc
  comes_with situation.ResponseAtOnce (beat.E x) e = refl
  comes_with situation.GrantAckLater x e = rw e refl
  comes_with situation.Contention x e = rw e refl
  comes_with situation.ThreeContend x e = rw e refl
  comes_with situation.ReadOfOwned x e = rw e refl
  comes_with situation.WriteToOwned x e = rw e refl
  comes_with situation.AtomicOnOwned x e = rw e refl
  comes_with situation.WriteToShared x e = rw e refl
  comes_with situation.ReportBesideGrant (beat.A x) e = refl
  comes_with situation.ReportBesideGrant (beat.B x) e = refl
  comes_with situation.ReportBesideGrant (beat.C x) e = rw e refl
  comes_with situation.ReportBesideGrant (beat.D x) e = refl
  comes_with situation.ReportBesideGrant (beat.E x) e = refl
  comes_with situation.BetweenBursts x e = absurd cc
  comes_with situation.EarlyResponse (beat.A x) e = refl
  comes_with situation.EarlyResponse (beat.B x) e = refl
  comes_with situation.EarlyResponse (beat.C x) e = refl
  comes_with situation.EarlyResponse (beat.D x) e = absurd cc
  comes_with situation.EarlyResponse (beat.E x) e = refl
  comes_with situation.EarlyGrantAck (beat.A x) e = refl
  comes_with situation.EarlyGrantAck (beat.B x) e = refl
  comes_with situation.EarlyGrantAck (beat.C x) e = refl
  comes_with situation.EarlyGrantAck (beat.D x) e = refl
  comes_with situation.EarlyGrantAck (beat.E x) e = absurd cc
  comes_with situation.ProbeWithSource (beat.A x) e = refl
  comes_with situation.ProbeWithSource (beat.B x) e = rw e refl
  comes_with situation.ProbeWithSource (beat.C x) e = refl
  comes_with situation.ProbeWithSource (beat.D x) e = refl
  comes_with situation.ProbeWithSource (beat.E x) e = refl
  comes_with situation.SinkWithoutGrant (beat.A x) e = refl
  comes_with situation.SinkWithoutGrant (beat.B x) e = refl
  comes_with situation.SinkWithoutGrant (beat.C x) e = refl
  comes_with situation.SinkWithoutGrant (beat.D x) e = absurd cc
  comes_with situation.SinkWithoutGrant (beat.E x) e = refl
  comes_with situation.GrantOfMore (beat.A x) e = refl
  comes_with situation.GrantOfMore (beat.B x) e = refl
  comes_with situation.GrantOfMore (beat.C x) e = refl
  comes_with situation.GrantOfMore (beat.D x) e = rw e refl
  comes_with situation.GrantOfMore (beat.E x) e = refl
  comes_with situation.CopyDropped x e = absurd cc
  comes_with situation.GrantDenied (beat.A x) e = refl
  comes_with situation.GrantDenied (beat.B x) e = refl
  comes_with situation.GrantDenied (beat.C x) e = refl
  comes_with situation.GrantDenied (beat.D x) e = rw e refl
  comes_with situation.GrantDenied (beat.E x) e = refl
  comes_with situation.DeniedUncorrupt (beat.A x) e = refl
  comes_with situation.DeniedUncorrupt (beat.B x) e = refl
  comes_with situation.DeniedUncorrupt (beat.C x) e = refl
  comes_with situation.DeniedUncorrupt (beat.D x) e = absurd cc
  comes_with situation.DeniedUncorrupt (beat.E x) e = refl
  comes_with (situation.Answered report cap) (beat.A x) e = refl
  comes_with (situation.Answered report cap) (beat.B x) e = refl
  comes_with (situation.Answered report cap) (beat.C x) e = rw e refl
  comes_with (situation.Answered report cap) (beat.D x) e = refl
  comes_with (situation.Answered report cap) (beat.E x) e = refl
  comes_with (situation.Waited wait) x e = rw e refl
  comes_with (situation.Sent (kind.A opcode param bytes)) (beat.A x) e = rw e refl
  comes_with (situation.Sent (kind.A opcode param bytes)) (beat.B x) e = refl
  comes_with (situation.Sent (kind.A opcode param bytes)) (beat.C x) e = refl
  comes_with (situation.Sent (kind.A opcode param bytes)) (beat.D x) e = refl
  comes_with (situation.Sent (kind.A opcode param bytes)) (beat.E x) e = refl
  comes_with (situation.Sent (kind.B opcode param bytes)) (beat.A x) e = refl
  comes_with (situation.Sent (kind.B opcode param bytes)) (beat.B x) e = rw e refl
  comes_with (situation.Sent (kind.B opcode param bytes)) (beat.C x) e = refl
  comes_with (situation.Sent (kind.B opcode param bytes)) (beat.D x) e = refl
  comes_with (situation.Sent (kind.B opcode param bytes)) (beat.E x) e = refl
  comes_with (situation.Sent (kind.C opcode param bytes)) (beat.A x) e = refl
  comes_with (situation.Sent (kind.C opcode param bytes)) (beat.B x) e = refl
  comes_with (situation.Sent (kind.C opcode param bytes)) (beat.C x) e = rw e refl
  comes_with (situation.Sent (kind.C opcode param bytes)) (beat.D x) e = refl
  comes_with (situation.Sent (kind.C opcode param bytes)) (beat.E x) e = refl
  comes_with (situation.Sent (kind.D opcode param bytes)) (beat.A x) e = refl
  comes_with (situation.Sent (kind.D opcode param bytes)) (beat.B x) e = refl
  comes_with (situation.Sent (kind.D opcode param bytes)) (beat.C x) e = refl
  comes_with (situation.Sent (kind.D opcode param bytes)) (beat.D x) e = rw e refl
  comes_with (situation.Sent (kind.D opcode param bytes)) (beat.E x) e = refl
  comes_with (situation.Sent kind.E) (beat.A x) e = refl
  comes_with (situation.Sent kind.E) (beat.B x) e = refl
  comes_with (situation.Sent kind.E) (beat.C x) e = refl
  comes_with (situation.Sent kind.E) (beat.D x) e = refl
  comes_with (situation.Sent kind.E) (beat.E x) e = absurd cc
  comes_with (situation.Among pending.Acquire depth) x e = rw e refl
  comes_with (situation.Among pending.Get depth) x e = rw e refl
  comes_with (situation.Among pending.Put depth) x e = rw e refl
  comes_with (situation.Among pending.Atomic depth) x e = rw e refl
  comes_with (situation.Among pending.Release depth) x e = rw e refl
  comes_with (situation.Among pending.Probe depth) x e = rw e refl
  comes_with (situation.Among pending.Grant depth) x e = rw e refl
  comes_with (situation.Aligned bytes many) x e = first_two (is_access_beat x) (asks_for bytes x) (is_aligned many x) e
    where
      first_two : (p q r : Bool) → (p && q) ≡ false → (p && (q && r)) ≡ false
      first_two true q r e = rw e refl
      first_two false q r e = refl

abbrev groups_of : List Row → List Group
groups_of rows = map (λ r. group_of r.situation) rows

first_same : (g k : Group) (gs ks : List Group) → g ∷ gs ≡ k ∷ ks → g ≡ k
first_same g k gs ks e = ap (λ (all : List Group). first_of all) e
  where
    first_of : List Group → Group
    first_of [] = g
    first_of (one ∷ more) = one

others_same : (g k : Group) (gs ks : List Group) → g ∷ gs ≡ k ∷ ks → gs ≡ ks
others_same g k gs ks e = ap (λ (all : List Group). others_of all) e
  where
    others_of : List Group → List Group
    others_of [] = []
    others_of (one ∷ more) = more

-- a stretch in front of others
pub stretch_first : (n : ℕ) (g : Group) (rest : List Group) (rows : List Row)
    → replicate n g ++ rest ≡ groups_of rows → rest ≡ groups_of (drop n rows)
stretch_first zero g rest rows is = is
stretch_first (suc n) g rest [] is = absurd cc
stretch_first (suc n) g rest (r ∷ rows) is =
    stretch_first n g rest rows (others_same g (group_of r.situation) (replicate n g ++ rest) (groups_of rows) is)

pub stretch_within : (n : ℕ) (g : Group) (rest : List Group) (rows : List Row)
    → replicate n g ++ rest ≡ groups_of rows → n ≤ length rows
stretch_within zero g rest rows is = omega arith
stretch_within (suc n) g rest [] is = absurd cc
stretch_within (suc n) g rest (r ∷ rows) is = omega (
  arith,
  stretch_within n g rest rows (others_same g (group_of r.situation) (replicate n g ++ rest) (groups_of rows) is),
)

module _ {w : ℕ} (line : ℕ) (x : Beat w) (s : Scene) where
  -- a row of another group stays
  row_stays : (r : Row) → has (group_of r.situation) x ≡ false → row_with line x (Some s) r ≡ r
  row_stays r e = rw (comes_with s r.situation x e) refl

  -- and so do the rows of a stretch
  rows_stay : (n : ℕ) (g : Group) (rest : List Group) (rows : List Row) → has g x ≡ false
      → replicate n g ++ rest ≡ groups_of rows → rows ≡ noted_to line x s n rows
  rows_stay zero g rest rows other is = refl
  rows_stay (suc n) g rest [] other is = refl
  rows_stay (suc n) g rest (r ∷ rows) other is =
      let same : group_of r.situation ≡ g =
      sym (first_same g (group_of r.situation) (replicate n g ++ rest) (groups_of rows) is) in
      ap₂ (λ (one : Row) (more : List Row). one ∷ more)
      (sym (row_stays r (ap (λ (k : Group). has k x) same ∙ other)))
      (rows_stay n g rest rows other (others_same g (group_of r.situation) (replicate n g ++ rest) (groups_of rows) is))

  noted_none : (i : ℕ) → noted_to line x s i [] ≡ []
  noted_none zero = refl
  noted_none (suc i) = refl

  -- wherever the stretch stands
  pub left_out : (at n : ℕ) (g : Group) (rest : List Group) (rows : List Row) → has g x ≡ false
      → replicate n g ++ rest ≡ groups_of (drop at rows) → noted_to line x s at rows ≡ noted_to line x s (at + n) rows
  left_out zero n g rest rows other is =
      let none : zero + n ≡ n = omega arith in rw none (rows_stay n g rest rows other is)
  left_out (suc at) n g rest [] other is = noted_none (suc at) ∙ sym (noted_none (suc at + n))
  left_out (suc at) n g rest (r ∷ rows) other is =
      let step : suc at + n ≡ suc (at + n) = omega arith in
      rw step (ap (λ (more : List Row). row_with line x (Some s) r ∷ more) (left_out at n g rest rows other is))

  -- up to the end of all
  pub noted_whole : (i : ℕ) (rows : List Row) → length rows ≤ i → noted_to line x s i rows
      ≡ map (row_with line x (Some s)) rows
  noted_whole zero [] all = refl
  noted_whole zero (r ∷ rows) all = absurd (omega (arith, all))
  noted_whole (suc i) [] all = refl
  noted_whole (suc i) (r ∷ rows) all =
      ap (λ (more : List Row). row_with line x (Some s) r ∷ more) (noted_whole i rows (omega (arith, all)))

-- the next stretch, and the rows behind it
module _ (at j : ℕ) (stretches : List Stretch) (d : Stretch) (rows : List Row) (lt : j < length stretches)
    (few : at ≤ length rows) (fits : Fits at (drop j stretches) (drop at rows)) where
  abbrev one : Stretch
  one = slice_index_or stretches j d

  abbrev more : List Stretch
  more = drop (j + 1) stretches

  one_first : drop j stretches ≡ one ∷ more
  one_first = rw add-one (go j stretches lt)
    where
      go : (i : ℕ) (all : List Stretch) → i < length all → drop i all ≡ slice_index_or all i d ∷ drop (suc i) all
      go i [] within = absurd (omega (arith, within))
      go zero (s ∷ all) within = refl
      go (suc i) (s ∷ all) within = go i all (omega (arith, within))

  is_one : replicate (one.1 - at) one.0 ++ groups_in one.1 more ≡ groups_of (drop at rows)
  unfolding groups_in
  is_one = ap (groups_in at) (sym one_first) ∙ fits.groups

  rises : (nat_le at one.1 && is_rising one.1 more) ≡ true
  unfolding is_rising
  rises = ap (is_rising at) (sym one_first) ∙ fits.rising

  pub not_less : at ≤ one.1
  not_less = leb-true at one.1 (first_half (nat_le at one.1) (is_rising one.1 more) rises)

  on : at + (one.1 - at) ≡ one.1
  on = omega (arith, not_less)

  pub not_beyond : one.1 ≤ length rows
  not_beyond =
      let within : one.1 - at ≤ length (drop at rows) =
      stretch_within (one.1 - at) one.0 (groups_in one.1 more) (drop at rows) is_one in
      let long : length (drop at rows) ≡ length rows - at = length-drop at rows in
      omega (arith, within, long, few, not_less)

  pub fits_next : Fits one.1 more (drop one.1 rows)
  fits_next = record {
    groups = stretch_first (one.1 - at) one.0 (groups_in one.1 more) (drop at rows) is_one
        ∙ ap groups_of (drop-drop (one.1 - at) at rows ∙ ap (λ (i : ℕ). drop i rows) on);
    rising = second_half (nat_le at one.1) (is_rising one.1 more) rises;
  }

  module _ {w : ℕ} (line : ℕ) (x : Beat w) (s : Scene) where
    -- a stretch of another group is passed by
    passed : has one.0 x ≡ false → noted_to line x s at rows ≡ noted_to line x s one.1 rows
    passed other =
        left_out line x s at (one.1 - at) one.0 (groups_in one.1 more) rows other is_one
        ∙ ap (λ (i : ℕ). noted_to line x s i rows) on

    pub stretch_noted : (now new : List Row) → now ≡ noted_to line x s at rows
        → ((all : List Row) → at ≤ one.1 → one.1 ≤ length all → now ≡ noted_to line x s at all
        → (has one.0 x ≡ false → noted_to line x s at all ≡ noted_to line x s one.1 all)
        → new ≡ noted_to line x s one.1 all)
        → (new ≡ noted_to line x s one.1 rows) × (one.1 ≤ length rows) × Fits one.1 more (drop one.1 rows)
    stretch_noted now new is step = (step rows not_less not_beyond is passed, not_beyond, fits_next)

-- no stretch is left
pub none_left : (at j : ℕ) (stretches : List Stretch) (rows : List Row) → length stretches ≤ j
    → Fits at (drop j stretches) (drop at rows) → length rows ≤ at
unfolding groups_in
none_left at j stretches rows all fits =
    let gone : drop j stretches ≡ [] = drop_all j stretches all in
    let left : [] ≡ groups_of (drop at rows) = ap (groups_in at) (sym gone) ∙ fits.groups in
    let long : length (drop at rows) ≡ length rows - at = length-drop at rows in
    let many : 0 ≡ length (drop at rows) =
    ap length left ∙ length-map (drop at rows) (λ (r : Row). group_of r.situation) in
    omega (arith, many, long)
