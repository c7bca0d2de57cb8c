-- The parts of a beat, those that came and those that are still to come.
use Rattle.std.proofs.Common.{◌≡◌, ℕ, ◌+◌, ◌-◌, ◌/◌, ◌<◌, ◌≤◌, Bool, true, false, cond, [], ◌∷◌, map, refl, ap}
use Rattle.std.proofs.Common.{◌∙◌, arith}
use Rattle.std.proofs.lemmas.Bool.{ne_eqb}
use Rattle.std.specs.Prelude.{filter}
use Rattle.tl_beat.specs.declared.beat.Beat.{Beat}
use Rattle.tl_beat.specs.declared.beat.Beat.TheVariants as beat
use Rattle.tl_beat.specs.declared.beat.BeatA.{BeatA}
use Rattle.tl_beat.specs.declared.beat.BeatB.{BeatB}
use Rattle.tl_beat.specs.declared.beat.BeatC.{BeatC}
use Rattle.tl_beat.specs.declared.beat.BeatD.{BeatD}
use Rattle.tl_burst.proofs.Same.{same_a, same_b, same_c, same_d}
use Rattle.tl_wide.proofs.Reached.{from-none, from-part, from-zero}
use Rattle.tl_wide.specs.statement.Pieces.{carries_of, from, left_of, mask_in, piece_of, pieces_of, reached_at}
use Rattle.tl_wide.specs.statement.Pieces.{size_in}
use Rattle.tl_wide.specs.declared.beat.WideBeat.{WideBeat}
use Rattle.tl_wide.specs.declared.beat.WideBeat.TheVariants as wide
use Rattle.tl_wide.specs.declared.beat.WideBeatA.{WideBeatA}
use Rattle.tl_wide.specs.declared.beat.WideBeatB.{WideBeatB}
use Rattle.tl_wide.specs.declared.beat.WideBeatC.{WideBeatC}
use Rattle.tl_wide.specs.declared.beat.WideBeatD.{WideBeatD}
use Rattle.tl_wide.specs.declared.parts.Named.{Named}
use Rattle.tl_wide.specs.declared.parts.Parts.{Parts}
use Rattle.tl_wide.specs.statement.Narrowed.{lone_mask}
use Rattle.tl_wide.specs.statement.Parts.{has_stray, part_lanes, parts_of, reaches_part, shown_mask, shown_opcode}
use Rattle.tl_wide.specs.statement.Width.{part_width}

-- ---- one part

pub piece-a : {w p : ℕ} (x : WideBeat w) (y : WideBeatA w) (n : Named) (stray : Bool) (mask part : ℕ) (b : BeatA p)
    → x ≡ wide.A y → b.opcode ≡ shown_opcode stray y.opcode → b.param ≡ y.param → b.size ≡ y.size
    → b.source ≡ n.source → b.address ≡ n.address → b.mask ≡ mask → b.lanes ≡ part_lanes w part y.lanes
    → b.corrupt ≡ y.corrupt → beat.A b ≡ piece_of x n stray mask part
piece-a x y n stray mask part b is e1 e2 e3 e4 e5 e6 e7 e8 = rw is (ap beat.A (same_a b _ e1 e2 e3 e4 e5 e6 e7 e8))

pub piece-b : {w p : ℕ} (x : WideBeat w) (y : WideBeatB w) (n : Named) (stray : Bool) (mask part : ℕ) (b : BeatB p)
    → x ≡ wide.B y → b.opcode ≡ y.opcode → b.param ≡ y.param → b.size ≡ y.size
    → b.source ≡ n.source → b.address ≡ n.address → b.mask ≡ mask → b.lanes ≡ part_lanes w part y.lanes
    → b.corrupt ≡ y.corrupt → beat.B b ≡ piece_of x n stray mask part
piece-b x y n stray mask part b is e1 e2 e3 e4 e5 e6 e7 e8 = rw is (ap beat.B (same_b b _ e1 e2 e3 e4 e5 e6 e7 e8))

pub piece-c : {w p : ℕ} (x : WideBeat w) (y : WideBeatC w) (n : Named) (stray : Bool) (mask part : ℕ) (b : BeatC p)
    → x ≡ wide.C y → b.opcode ≡ y.opcode → b.param ≡ y.param → b.size ≡ y.size
    → b.source ≡ n.source → b.address ≡ n.address → b.lanes ≡ part_lanes w part y.lanes
    → b.corrupt ≡ y.corrupt → beat.C b ≡ piece_of x n stray mask part
piece-c x y n stray mask part b is e1 e2 e3 e4 e5 e6 e7 = rw is (ap beat.C (same_c b _ e1 e2 e3 e4 e5 e6 e7))

pub piece-d : {w p : ℕ} (x : WideBeat w) (y : WideBeatD w) (n : Named) (stray : Bool) (mask part : ℕ) (b : BeatD p)
    → x ≡ wide.D y → b.opcode ≡ y.opcode → b.param ≡ y.param → b.size ≡ y.size
    → b.source ≡ n.source → b.sink ≡ n.sink → b.denied ≡ y.denied → b.lanes ≡ part_lanes w part y.lanes
    → b.corrupt ≡ y.corrupt → beat.D b ≡ piece_of x n stray mask part
piece-d x y n stray mask part b is e1 e2 e3 e4 e5 e6 e7 e8 = rw is (ap beat.D (same_d b _ e1 e2 e3 e4 e5 e6 e7 e8))

-- ---- all parts

abbrev pub at : Named → Bool → ℕ → Parts
at n stray next = record { named = n; stray = stray; next = next }

pub all-left : {w p : ℕ} (x : WideBeat w) (n : Named) (stray : Bool)
    → stray ≡ has_stray w (parts_of w (size_in x) (reached_at x n.asked)) (mask_in x)
    → left_of {p = p} x (at n stray 0) ≡ pieces_of {p = p} x n
all-left {w} {p} x n stray is = rw (← is) (go (carries_of x) _)
  where
    test : ℕ → Bool
    test = reaches_part w (size_in x) (reached_at x n.asked)

    one : ℕ → Beat p
    one = λ part. piece_of x n stray (shown_mask stray w (mask_in x) part) part

    same : w / part_width w - 0 ≡ w / part_width w
    same = omega arith

    go : (b : Bool) (alone : Beat p)
        → cond b (map one (filter test (from 0 (w / part_width w - 0)))) (alone ∷ [])
        ≡ cond b (map one (parts_of w (size_in x) (reached_at x n.asked))) (alone ∷ [])
    go true alone = rw same (ap (λ ps. map one (filter test ps)) (from-zero (w / part_width w)))
    go false alone = refl

-- a beat without data has one part
pub alone-none : {w p : ℕ} (x : WideBeat w) (s : Parts) → carries_of x ≡ false → 0 < s.next → left_of {p = p} x s ≡ []
alone-none x s none past = rw (none, ne_eqb s.next 0 (λ z. absurd (omega arith))) refl

pub alone-one : {w p : ℕ} (x : WideBeat w) (s : Parts) (b : Beat p) → carries_of x ≡ false → s.next ≡ 0
    → b ≡ piece_of x s.named s.stray
    (lone_mask w s.stray (parts_of w (size_in x) (reached_at x s.named.asked)) (mask_in x)) 0
    → left_of x s ≡ b ∷ left_of x (at s.named s.stray 1)
alone-one x s b none first is = rw (none, first, is) refl

-- those of a beat with data
pub next-none : {w p : ℕ} (x : WideBeat w) (s : Parts) (q part : ℕ) → q ≡ part_width w → carries_of x ≡ true
    → filter (reaches_part w (size_in x) (reached_at x s.named.asked)) (from s.next (w / q - s.next))
    ≡ filter (reaches_part w (size_in x) (reached_at x s.named.asked)) (from part (w / q - part))
    → w / q ≤ part → left_of {p = p} x s ≡ []
next-none {w} x s q part is some so_far end =
    let none : w / q - part ≡ 0 = omega arith in
    let left = so_far ∙ ap (λ ps. filter (reaches_part w (size_in x) (reached_at x s.named.asked)) ps)
    (from-none part (w / q - part) none) in
    rw (some, ← is, left) refl

pub next-one : {w p : ℕ} (x : WideBeat w) (s : Parts) (q part : ℕ) (b : Beat p) → q ≡ part_width w
    → carries_of x ≡ true
    → filter (reaches_part w (size_in x) (reached_at x s.named.asked)) (from s.next (w / q - s.next))
    ≡ filter (reaches_part w (size_in x) (reached_at x s.named.asked)) (from part (w / q - part))
    → part < w / q → reaches_part w (size_in x) (reached_at x s.named.asked) part ≡ true
    → b ≡ piece_of x s.named s.stray (shown_mask s.stray w (mask_in x) part) part
    → left_of x s ≡ b ∷ left_of x (at s.named s.stray (part + 1))
next-one {w} x s q part b is some so_far lt reached piece_is =
    let left = so_far ∙ ap (λ ps. filter (reaches_part w (size_in x) (reached_at x s.named.asked)) ps)
    (from-part (w / q) part lt) ∙ ap (λ b. cond b (part ∷ filter
    (reaches_part w (size_in x) (reached_at x s.named.asked)) (from (part + 1) (w / q - (part + 1))))
    (filter (reaches_part w (size_in x) (reached_at x s.named.asked)) (from (part + 1) (w / q - (part + 1))))) reached
    in
    rw (some, ← is, left, piece_is) refl

pub next-passed : (n part : ℕ) (test : ℕ → Bool) → part < n → test part ≡ false
    → filter test (from part (n - part)) ≡ filter test (from (part + 1) (n - (part + 1)))
next-passed n part test lt passed = rw (from-part n part lt, passed) refl
