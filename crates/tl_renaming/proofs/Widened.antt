-- A narrow trace written wide becomes that trace with its blocks, sources and sinks renamed.
use Rattle.tl_renaming.proofs.Imports.{Beat, A, B, C, D, E, BeatA, BeatB, BeatC, BeatD, Liberties, block_at}
use Rattle.tl_renaming.proofs.Imports.{renamed}
use Rattle.tl_renaming.proofs.Appearing.{AllBelow, all_of, few-names, first-extends, later-extends, none-distinct, now-among}
use Rattle.tl_renaming.proofs.Appearing.{one-distinct}
use Rattle.tl_renaming.proofs.OnePart.{first-lanes, first-mask, lone-mask, no-stray, one-part, part-is}
use Rattle.tl_renaming.proofs.SameBeats.{same-a, same-b, same-c, same-d}
use Rattle.tl_renaming.proofs.Spread.{first-place, place-spread, spread, spread-apart}
use Rattle.tl_renaming.proofs.Traces.{first-fault-kept}
use Rattle.tl_renaming.specs.statement.Renamed.{AreFaithful, Renamings, of_link, renamed_on_link, renamed_trace}
use Rattle.tl_renaming.specs.statement.Widened.{HaveLines, KeepsNarrow, widened, widened_a, widened_b, widened_c, widened_d}
use Rattle.tl_renaming.specs.statement.Widened.{widened_trace}
use Rattle.std.proofs.Common.{◌≡◌, ℕ, zero, suc, ◌+◌, ◌-◌, ◌*◌, ◌%◌, ◌^◌, ◌<◌, Bool, true, false, ◌||◌, List, []}
use Rattle.std.proofs.Common.{◌∷◌, length, map, refl, sym, ap, ◌∙◌, subst, arith}
use Rattle.std.proofs.Math.Path.{ap₂}
use Rattle.std.specs.Prelude.{if◌then◌else◌, IfSome, Option, Some, None, option_map, ◌==◌}
use Rattle.std.proofs.lemmas.Bool.{eq-eqb, eqb-true, le-ltb}
use Rattle.tl_beat.specs.declared.beat.Link.{Link}
use Rattle.tl_beat.specs.statement.Line.{IsInRange, IsWritable}
use Rattle.tl_beat.{specs.statement.Opcode.a_carries_data, specs.statement.Opcode.b_carries_data}
use Rattle.tl_beat.{specs.statement.Opcode.c_carries_data, specs.statement.Opcode.d_carries_data}
use Rattle.tl_beat.specs.statement.Width.{IsWidth}
use Rattle.tl_params.specs.declared.level.Level.{Level}
use Rattle.tl_params.specs.declared.rule.Rule.{Rule}
use Rattle.tl_rules.specs.statement.Conformance.{Trace, fault_or}
use Rattle.tl_rules.specs.statement.Legality.{is_one_of}
use Rattle.tl_rules.specs.statement.Liberties.{broken_on_link_under, fault_from_under, first_fault_under}
use Rattle.tl_wide.specs.declared.beat.WideBeat.{WideBeat}
use Rattle.tl_wide.specs.declared.beat.WideBeat.TheVariants as wide
use Rattle.tl_wide.specs.statement.Naming.{WideTrace, block_named, blocks, is_beyond, narrow_address, place_in}
use Rattle.tl_wide.specs.statement.Naming.{sink_named, sinks, source_named, sources}
use Rattle.tl_wide.specs.statement.Narrowed.{a_part, a_parts, asked_address, b_part, b_parts, beats_of, c_part, d_part}
use Rattle.tl_wide.specs.statement.Narrowed.{narrowed_from, on_one_link, parts_where}
use Rattle.tl_wide.specs.statement.Parts.{common_mask, has_stray, part_carries, part_lanes, part_mask}
use Rattle.tl_wide.specs.statement.Parts.{shown_carries}
use Rattle.tl_wide.specs.statement.Verdict.{Breaks, fault_of_parts, joined, owner}
use Rattle.tl_wide.specs.statement.Width.{part_width}

-- ---- the renaming by the whole of a wide trace

module _ {w : ℕ} (whole : WideTrace w) where
  abbrev pub by_appearance : Renamings
  by_appearance = record {
    block = spread (blocks whole);
    sources = λ n. spread (sources n whole);
    sink = spread (sinks whole);
  }

  pub appearance-faithful : (l : Liberties) → AreFaithful l by_appearance
  appearance-faithful l n = record {
    blocks_apart = spread-apart (blocks whole);
    sources_apart = spread-apart (sources n whole);
    sinks_apart = spread-apart (sinks whole);
    zero_source = λ fixed. first-place 0 (sources n whole) (first-extends (source_named n) (0 ∷ []) whole);
    zero_sink = λ fixed. first-place 0 (sinks whole) (first-extends sink_named (0 ∷ []) whole);
  }

-- ---- one beat, which is the newest of those that came

module _ (w : ℕ) (width : IsWidth w) (link : Link) (before coming : WideTrace w) where
  abbrev after : WideBeat w → WideTrace w
  after x = all_of ((link, x) ∷ before) coming

  block-place : (x : WideBeat w) (address : ℕ) → block_named (link, x) ≡ Some (block_at address)
      → narrow_address ((link, x) ∷ before) address
      ≡ 64 * spread (blocks (after x)) (block_at address) + address % 64
  block-place x address e =
      ap (λ b. 64 * b + address % 64) (place-spread (blocks ((link, x) ∷ before)) (blocks (after x)) (block_at address)
      (later-extends block_named [] ((link, x) ∷ before) coming)
      (now-among block_named [] (link, x) before (block_at address) e))

  source-place : (x : WideBeat w) (source : ℕ) → source_named link.0 (link, x) ≡ Some source
      → place_in (sources link.0 ((link, x) ∷ before)) source ≡ spread (sources link.0 (after x)) source
  source-place x source e =
      place-spread (sources link.0 ((link, x) ∷ before)) (sources link.0 (after x)) source
      (later-extends (source_named link.0) (0 ∷ []) ((link, x) ∷ before) coming)
      (now-among (source_named link.0) (0 ∷ []) (link, x) before source e)

  sink-place : (x : WideBeat w) (sink : ℕ) → sink_named (link, x) ≡ Some sink
      → place_in (sinks ((link, x) ∷ before)) sink ≡ spread (sinks (after x)) sink
  sink-place x sink e =
      place-spread (sinks ((link, x) ∷ before)) (sinks (after x)) sink
      (later-extends sink_named (0 ∷ []) ((link, x) ∷ before) coming)
      (now-among sink_named (0 ∷ []) (link, x) before sink e)

  -- the beat is of its link
  own-link : (source : ℕ) → (if link.0 == link.0 then Some source else None) ≡ Some source
  own-link source = rw (eq-eqb link.0 link.0 refl) refl

  -- what a beat becomes
  abbrev becomes : (x : Beat (part_width w)) → Beat (part_width w)
  becomes x = renamed (of_link (by_appearance (after (widened w x))) link.0) x

  part-a : (x : BeatA (part_width w)) (mask : ℕ) → mask ≡ x.mask → IsInRange (A x)
      → A (a_part link (widened_a w x) ((link, wide.A (widened_a w x)) ∷ before) false mask 0) ≡ becomes (A x)
  part-a x mask e range =
      ap A (same-a x.opcode x.param x.size x.corrupt
      (place_in (sources link.0 ((link, wide.A (widened_a w x)) ∷ before)) x.source)
      (spread (sources link.0 (after (wide.A (widened_a w x)))) x.source)
      (narrow_address ((link, wide.A (widened_a w x)) ∷ before) x.address)
      (64 * spread (blocks (after (wide.A (widened_a w x)))) (block_at x.address) + x.address % 64) mask x.mask
      (part_lanes w 0 x.lanes) x.lanes
      (part_carries w 0 x.lanes (a_carries_data x.opcode) (shown_carries false x.opcode x.lanes x.carries)) x.carries
      (source-place (wide.A (widened_a w x)) x.source (own-link x.source))
      (block-place (wide.A (widened_a w x)) x.address refl) e (first-lanes w width x.lanes range.2))

  one-a : (x : BeatA (part_width w)) → IsWritable (A x) → IsInRange (A x)
      → beats_of link (widened w (A x)) ((link, widened w (A x)) ∷ before) ≡ becomes (A x) ∷ []
  one-a x writable range =
      ap (λ ps. a_parts link (widened_a w x) ((link, wide.A (widened_a w x)) ∷ before) (has_stray w ps x.mask) ps)
      (one-part w width x.size x.address)
      ∙ ap (λ s. a_parts link (widened_a w x) ((link, wide.A (widened_a w x)) ∷ before) s (0 ∷ []))
      (no-stray w width x.mask writable.2) ∙ go (a_carries_data x.opcode)
    where
      go : (b : Bool)
          → (if b then A (a_part link (widened_a w x) ((link, wide.A (widened_a w x)) ∷ before) false
          (part_mask w x.mask 0) 0) ∷ []
          else A (a_part link (widened_a w x) ((link, wide.A (widened_a w x)) ∷ before) false
          (common_mask w (0 ∷ []) x.mask) 0) ∷ []) ≡ becomes (A x) ∷ []
      go true = ap (λ z. z ∷ []) (part-a x (part_mask w x.mask 0) (first-mask w width x.mask writable.2) range)
      go false = ap (λ z. z ∷ []) (part-a x (common_mask w (0 ∷ []) x.mask) (lone-mask w width x.mask writable.2) range)

  part-b : (x : BeatB (part_width w)) (mask : ℕ) → mask ≡ x.mask → IsInRange (B x)
      → B (b_part link (widened_b w x) ((link, wide.B (widened_b w x)) ∷ before) mask 0) ≡ becomes (B x)
  part-b x mask e range =
      ap B (same-b x.opcode x.param x.size x.corrupt
      (place_in (sources link.0 ((link, wide.B (widened_b w x)) ∷ before)) x.source)
      (spread (sources link.0 (after (wide.B (widened_b w x)))) x.source)
      (narrow_address ((link, wide.B (widened_b w x)) ∷ before) x.address)
      (64 * spread (blocks (after (wide.B (widened_b w x)))) (block_at x.address) + x.address % 64) mask x.mask
      (part_lanes w 0 x.lanes) x.lanes
      (part_carries w 0 x.lanes (b_carries_data x.opcode) x.carries) x.carries
      (source-place (wide.B (widened_b w x)) x.source (own-link x.source))
      (block-place (wide.B (widened_b w x)) x.address refl) e (first-lanes w width x.lanes range.2))

  one-b : (x : BeatB (part_width w)) → IsWritable (B x) → IsInRange (B x)
      → beats_of link (widened w (B x)) ((link, widened w (B x)) ∷ before) ≡ becomes (B x) ∷ []
  one-b x writable range =
      ap (λ ps. b_parts link (widened_b w x) ((link, wide.B (widened_b w x)) ∷ before) (has_stray w ps x.mask) ps)
      (one-part w width x.size x.address)
      ∙ ap (λ s. b_parts link (widened_b w x) ((link, wide.B (widened_b w x)) ∷ before) s (0 ∷ []))
      (no-stray w width x.mask writable.2) ∙ go (b_carries_data x.opcode)
    where
      go : (b : Bool)
          → (if b then B (b_part link (widened_b w x) ((link, wide.B (widened_b w x)) ∷ before)
          (part_mask w x.mask 0) 0) ∷ []
          else B (b_part link (widened_b w x) ((link, wide.B (widened_b w x)) ∷ before)
          (common_mask w (0 ∷ []) x.mask) 0) ∷ []) ≡ becomes (B x) ∷ []
      go true = ap (λ z. z ∷ []) (part-b x (part_mask w x.mask 0) (first-mask w width x.mask writable.2) range)
      go false = ap (λ z. z ∷ []) (part-b x (common_mask w (0 ∷ []) x.mask) (lone-mask w width x.mask writable.2) range)

  part-c : (x : BeatC (part_width w)) → IsInRange (C x)
      → C (c_part link (widened_c w x) ((link, wide.C (widened_c w x)) ∷ before) 0) ≡ becomes (C x)
  part-c x range =
      ap C (same-c x.opcode x.param x.size x.corrupt
      (place_in (sources link.0 ((link, wide.C (widened_c w x)) ∷ before)) x.source)
      (spread (sources link.0 (after (wide.C (widened_c w x)))) x.source)
      (narrow_address ((link, wide.C (widened_c w x)) ∷ before) x.address)
      (64 * spread (blocks (after (wide.C (widened_c w x)))) (block_at x.address) + x.address % 64)
      (part_lanes w 0 x.lanes) x.lanes (part_carries w 0 x.lanes (c_carries_data x.opcode) x.carries) x.carries
      (source-place (wide.C (widened_c w x)) x.source (own-link x.source))
      (block-place (wide.C (widened_c w x)) x.address refl) (first-lanes w width x.lanes range.2))

  part-d : (x : BeatD (part_width w)) → IsInRange (D x)
      → D (d_part link (widened_d w x) ((link, wide.D (widened_d w x)) ∷ before) 0) ≡ becomes (D x)
  part-d x range =
      ap D (same-d x.opcode x.param x.size x.denied x.corrupt
      (place_in (sources link.0 ((link, wide.D (widened_d w x)) ∷ before)) x.source)
      (spread (sources link.0 (after (wide.D (widened_d w x)))) x.source)
      (place_in (sinks ((link, wide.D (widened_d w x)) ∷ before)) x.sink)
      (spread (sinks (after (wide.D (widened_d w x)))) x.sink)
      (part_lanes w 0 x.lanes) x.lanes (part_carries w 0 x.lanes (d_carries_data x.opcode) x.carries) x.carries
      (source-place (wide.D (widened_d w x)) x.source (own-link x.source))
      (sink-place (wide.D (widened_d w x)) x.sink refl) (first-lanes w width x.lanes range.2))

  either : {X : Type 0} (b : Bool) (x y : X) → x ≡ y → (if b then x ∷ [] else x ∷ []) ≡ y ∷ []
  either true x y e = ap (λ z. z ∷ []) e
  either false x y e = ap (λ z. z ∷ []) e

  pub one-beat : (x : Beat (part_width w)) → IsWritable x → IsInRange x
      → beats_of link (widened w x) ((link, widened w x) ∷ before) ≡ becomes x ∷ []
  one-beat (A x) writable range = one-a x writable range
  one-beat (B x) writable range = one-b x writable range
  one-beat (C x) writable range =
      ap (λ ps. parts_where (c_carries_data x.opcode)
      (λ part. C (c_part link (widened_c w x) ((link, wide.C (widened_c w x)) ∷ before) part)) ps
      (C (c_part link (widened_c w x) ((link, wide.C (widened_c w x)) ∷ before) 0))) (one-part w width x.size x.address)
      ∙ either (c_carries_data x.opcode) (C (c_part link (widened_c w x) ((link, wide.C (widened_c w x)) ∷ before) 0))
      (becomes (C x)) (part-c x range)
  one-beat (D x) writable range =
      ap (λ ps. parts_where (d_carries_data x.opcode)
      (λ part. D (d_part link (widened_d w x) ((link, wide.D (widened_d w x)) ∷ before) part)) ps
      (D (d_part link (widened_d w x) ((link, wide.D (widened_d w x)) ∷ before) 0)))
      (one-part w width x.size (asked_address link x.source ((link, wide.D (widened_d w x)) ∷ before)))
      ∙ either (d_carries_data x.opcode) (D (d_part link (widened_d w x) ((link, wide.D (widened_d w x)) ∷ before) 0))
      (becomes (D x)) (part-d x range)
  one-beat (E x) writable range =
      ap (λ s. E (record { sink = s }) ∷ []) (sink-place (wide.E (record { sink = x.sink })) x.sink refl)

-- ---- no name is beyond a limit

block-below : (address : ℕ) → address < 2 ^ 32 → block_at address < 2 ^ 26
block-below address lt = omega (arith, lt)

below-if : (b : Bool) (n bound : ℕ) → n < bound → IfSome (if b then Some n else None) (λ k. k < bound)
below-if true n bound lt = lt
below-if false n bound lt = tt

none-if : (b : Bool) (bound : ℕ) → IfSome (if b then None else None) (λ k. k < bound)
none-if true bound = tt
none-if false bound = tt

zero-alone : (k : ℕ) → is_one_of k (0 ∷ []) ≡ true → k < 256
zero-alone k e = go (k == 0) refl e
  where
    go : (b : Bool) → (k == 0) ≡ b → (b || false) ≡ true → k < 256
    go true f g = let none = eqb-true k 0 f in omega (arith, none)
    go false f g = absurd cc

module _ (w : ℕ) where
  -- what beats within their types name
  pub blocks-below : (t : Trace (part_width w)) → HaveLines t → AllBelow block_named [] (2 ^ 26) (widened_trace w t)
  blocks-below [] lines = tt
  blocks-below ((link, A x) ∷ t) lines = (block-below x.address lines.0.1.1, blocks-below t lines.1)
  blocks-below ((link, B x) ∷ t) lines = (block-below x.address lines.0.1.1, blocks-below t lines.1)
  blocks-below ((link, C x) ∷ t) lines = (block-below x.address lines.0.1.1, blocks-below t lines.1)
  blocks-below ((link, D x) ∷ t) lines = (tt, blocks-below t lines.1)
  blocks-below ((link, E x) ∷ t) lines = (tt, blocks-below t lines.1)

  pub sources-below : (n : ℕ) (t : Trace (part_width w)) → HaveLines t
      → AllBelow (source_named n) (0 ∷ []) 256 (widened_trace w t)
  sources-below n [] lines = tt
  sources-below n ((link, A x) ∷ t) lines =
      (below-if (link.0 == n) x.source 256 lines.0.1.0, sources-below n t lines.1)
  sources-below n ((link, B x) ∷ t) lines =
      (below-if (link.0 == n) x.source 256 lines.0.1.0, sources-below n t lines.1)
  sources-below n ((link, C x) ∷ t) lines =
      (below-if (link.0 == n) x.source 256 lines.0.1.0, sources-below n t lines.1)
  sources-below n ((link, D x) ∷ t) lines =
      (below-if (link.0 == n) x.source 256 lines.0.1.0, sources-below n t lines.1)
  sources-below n ((link, E x) ∷ t) lines = (none-if (link.0 == n) 256, sources-below n t lines.1)

  pub sinks-below : (t : Trace (part_width w)) → HaveLines t → AllBelow sink_named (0 ∷ []) 256 (widened_trace w t)
  sinks-below [] lines = tt
  sinks-below ((link, A x) ∷ t) lines = (tt, sinks-below t lines.1)
  sinks-below ((link, B x) ∷ t) lines = (tt, sinks-below t lines.1)
  sinks-below ((link, C x) ∷ t) lines = (tt, sinks-below t lines.1)
  sinks-below ((link, D x) ∷ t) lines = (lines.0.1.1, sinks-below t lines.1)
  sinks-below ((link, E x) ∷ t) lines = (lines.0.1, sinks-below t lines.1)

  within-limits : (link : Link) (t : Trace (part_width w)) → HaveLines t → is_beyond link (widened_trace w t) ≡ false
  within-limits link t lines =
      rw (
        le-ltb (2 ^ 26) (length (blocks (widened_trace w t))) (few-names block_named [] (2 ^ 26) (widened_trace w t)
            none-distinct (λ k e. absurd cc) (blocks-below t lines)),
        le-ltb 256 (length (sources link.0 (widened_trace w t))) (few-names (source_named link.0) (0 ∷ []) 256
            (widened_trace w t) (one-distinct 0) zero-alone (sources-below link.0 t lines)),
        le-ltb 256 (length (sinks (widened_trace w t))) (few-names sink_named (0 ∷ []) 256 (widened_trace w t)
            (one-distinct 0) zero-alone (sinks-below t lines)),
      ) refl

-- ---- traces of one beat each

abbrev singles : {v : ℕ} → Trace v → List (Trace v)
singles t = map (λ x. x ∷ []) t

joined-singles : {v : ℕ} (t : Trace v) → joined (singles t) ≡ t
unfolding joined
joined-singles [] = refl
joined-singles (x ∷ t) = ap (λ rest. x ∷ rest) (joined-singles t)

length-singles : {v : ℕ} (t : Trace v) → length (singles t) ≡ length t
length-singles [] = refl
length-singles (x ∷ t) = ap suc (length-singles t)

owner-singles : {v : ℕ} (t : Trace v) (i : ℕ) → i < length t → owner (singles t) i ≡ i
unfolding owner
owner-singles [] i lt = absurd (omega (arith, lt))
owner-singles (x ∷ t) zero lt = refl
owner-singles (x ∷ t) (suc i) lt =
    let back : suc i - 1 ≡ i = omega arith in
    rw (le-ltb (suc i) 1 (omega arith), back) (ap suc (owner-singles t i (omega (arith, lt))))

length-map : {X Y : Type 0} (f : X → Y) (xs : List X) → length (map f xs) ≡ length xs
length-map f [] = refl
length-map f (x ∷ xs) = ap suc (length-map f xs)

-- ---- the place of a fault

fault-within : {v : ℕ} (l : Liberties) (levels : List Level) (before trace : Trace v) (fault : ℕ × Rule)
    → fault_from_under l levels before trace ≡ Some fault → fault.0 < length before + length trace
unfolding fault_from_under
fault-within l levels before [] fault e = absurd cc
fault-within {v} l levels before (x ∷ trace) fault e =
    go (broken_on_link_under l levels x before) (fault-within l levels (x ∷ before) trace fault) e
  where
    place_of : (a b : ℕ × Rule) → Some a ≡ Some b → a ≡ b
    place_of a b f = cc

    go : (o : Option Rule)
        → (fault_from_under l levels (x ∷ before) trace ≡ Some fault
        → fault.0 < length (x ∷ before) + length trace)
        → fault_or o (length before) (fault_from_under l levels (x ∷ before) trace) ≡ Some fault
        → fault.0 < length before + length (x ∷ trace)
    go None rest f = let lt = rest f in omega (arith, lt)
    go (Some rule) rest f =
        let here : length before ≡ fault.0 = ap (λ (p : ℕ × Rule). p.0) (place_of (length before, rule) fault f) in
        omega (arith, here)

-- ---- the law

module _ (w : ℕ) (width : IsWidth w) where
  one-each : (before trace : Trace (part_width w)) → HaveLines before → HaveLines trace
      → narrowed_from (widened_trace w before) (widened_trace w trace)
      ≡ singles (renamed_trace (by_appearance (all_of (widened_trace w before) (widened_trace w trace))) trace)
  unfolding narrowed_from
  one-each before [] been coming = refl
  one-each before (x ∷ trace) been coming =
      ap (λ b. if b then [] else on_one_link x.0 (beats_of x.0 (widened w x.1) ((x.0, widened w x.1)
      ∷ widened_trace w before)) ∷ narrowed_from ((x.0, widened w x.1) ∷ widened_trace w before) (widened_trace w trace))
      (within-limits w x.0 (x ∷ before) (coming.0, been))
      ∙ ap₂ (λ beats rest. on_one_link x.0 beats ∷ rest)
      (one-beat w width x.0 (widened_trace w before) (widened_trace w trace) x.1 coming.0.0 coming.0.1)
      (one-each (x ∷ before) trace (coming.0, been) coming.1)

  pub narrow-kept : KeepsNarrow w
  narrow-kept l levels trace lines =
      ap (λ parts. fault_of_parts parts (length (widened_trace w trace)) (first_fault_under l levels (joined parts)))
      (one-each [] trace tt lines)
      ∙ ap (λ t. fault_of_parts (singles (renamed_trace (by_appearance (all_of [] (widened_trace w trace))) trace))
      (length (widened_trace w trace)) (first_fault_under l levels t))
      (joined-singles (renamed_trace (by_appearance (all_of [] (widened_trace w trace))) trace))
      ∙ ap (fault_of_parts (singles (renamed_trace (by_appearance (all_of [] (widened_trace w trace))) trace))
      (length (widened_trace w trace)))
      (first-fault-kept (by_appearance (all_of [] (widened_trace w trace))) l
      (appearance-faithful (all_of [] (widened_trace w trace)) l) (subst IsWidth (sym (part-is w width)) width) levels
      trace)
      ∙ done (first_fault_under l levels trace) refl
    where
      count : length (singles (renamed_trace (by_appearance (all_of [] (widened_trace w trace))) trace)) ≡ length trace
      count = length-singles (renamed_trace (by_appearance (all_of [] (widened_trace w trace))) trace)
          ∙ length-map (renamed_on_link (by_appearance (all_of [] (widened_trace w trace)))) trace

      done : (o : Option (ℕ × Rule)) → first_fault_under l levels trace ≡ o
          → fault_of_parts (singles (renamed_trace (by_appearance (all_of [] (widened_trace w trace))) trace))
          (length (widened_trace w trace)) o ≡ option_map (λ fault. (fault.0, Breaks fault.1)) o
      done None e =
          rw (le-ltb (length (singles (renamed_trace (by_appearance (all_of [] (widened_trace w trace))) trace)))
          (length (widened_trace w trace)) (let wide_count = length-map {Y = Link × WideBeat w} (λ (x : Link × Beat (part_width w)).
          (x.0, widened w x.1)) trace in omega (arith, count, wide_count))) refl
      done (Some fault) e =
          let within = fault-within l levels [] trace fault e in
          let renamed_count = length-map (renamed_on_link (by_appearance (all_of [] (widened_trace w trace)))) trace in
          ap (λ i. Some (i, Breaks fault.1))
          (owner-singles (renamed_trace (by_appearance (all_of [] (widened_trace w trace))) trace) fault.0
          (omega (arith, within, renamed_count)))
