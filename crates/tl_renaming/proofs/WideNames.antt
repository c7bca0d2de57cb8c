-- The names of a renamed wide trace.
use Rattle.tl_renaming.proofs.Addresses.{block-of, kept-modulo, low-bits}
use Rattle.tl_renaming.proofs.Imports.{IsOneToOne, block_at, renamed_address}
use Rattle.tl_renaming.proofs.Numbers.{same-test}
use Rattle.tl_renaming.specs.statement.Renamed.{AreFaithful, Renamings, of_link}
use Rattle.tl_renaming.specs.statement.WideRenaming.{renamed_wide, renamed_wide_on_link, renamed_wide_trace}
use Rattle.std.proofs.Common.{◌≡◌, ℕ, suc, ◌+◌, ◌*◌, ◌/◌, ◌%◌, ◌^◌, Bool, true, false, not, ◌&&◌, ◌||◌, List, [], ◌∷◌, ◌++◌}
use Rattle.std.proofs.Common.{length, map, refl, sym, ap, ◌∙◌, arith, inl, inr}
use Rattle.std.proofs.Math.Path.{ap₂}
use Rattle.std.specs.Prelude.{filter, if◌then◌else◌, nat_le, nat_lt, Option, Some, None, option_map, ◌==◌}
use Rattle.std.proofs.lemmas.Bool.{eqb-true}
use Rattle.tl_beat.specs.declared.beat.Link.{Link}
use Rattle.tl_params.specs.statement.Liberties.{no_liberties}
use Rattle.tl_rules.specs.statement.Legality.{each_below, is_one_of}
use Rattle.tl_wide.specs.declared.beat.WideBeat.{WideBeat}
use Rattle.tl_wide.specs.declared.beat.WideBeat.TheVariants as wide
use Rattle.tl_wide.specs.statement.Naming.{WideTrace, block_named, blocks, is_beyond, named, narrow_address, place_in}
use Rattle.tl_wide.specs.statement.Naming.{sink_named, sinks, source_named, source_of, sources, with_number}
use Rattle.tl_wide.specs.statement.Narrowed.{asked_address}
use Rattle.tl_wide.specs.statement.Parts.{below, parts_of}
use Rattle.tl_wide.specs.statement.Width.{IsWideWidth, part_width}

-- ---- renamed names in a list

module _ (f : ℕ → ℕ) (apart : IsOneToOne f) where
  pub place-kept : (names : List ℕ) (n : ℕ) → place_in (map f names) (f n) ≡ place_in names n
  unfolding place_in
  place-kept [] n = refl
  place-kept (m ∷ names) n = rw (same-test f apart n m, place-kept names n) refl

  among-kept : (names : List ℕ) (n : ℕ) → is_one_of (f n) (map f names) ≡ is_one_of n names
  among-kept [] n = refl
  among-kept (m ∷ names) n = ap₂ (λ a b. a || b) (same-test f apart n m) (among-kept names n)

  end-kept : (names : List ℕ) (n : ℕ) → map f names ++ f n ∷ [] ≡ map f (names ++ n ∷ [])
  end-kept [] n = refl
  end-kept (m ∷ names) n = ap (λ rest. f m ∷ rest) (end-kept names n)

  with-kept : (o : Option ℕ) (names : List ℕ) → with_number (option_map f o) (map f names) ≡ map f (with_number o names)
  with-kept None names = refl
  with-kept (Some n) names = rw (among-kept names n, end-kept names n) (go (is_one_of n names))
    where
      go : (b : Bool) → (if b then map f names else map f (names ++ n ∷ [])) ≡ map f (if b then names else names ++ n ∷ [])
      go true = refl
      go false = refl

pub count-kept : {X Y : Type 0} (f : X → Y) (xs : List X) → length (map f xs) ≡ length xs
count-kept f [] = refl
count-kept f (x ∷ xs) = ap suc (count-kept f xs)

-- ---- the names of a trace

module _ {w : ℕ} (r : Renamings) (faithful : AreFaithful no_liberties r) where
  named-kept : (f : ℕ → ℕ) → IsOneToOne f → (of : Link × WideBeat w → Option ℕ) (first : List ℕ) → map f first ≡ first
      → ((x : Link × WideBeat w) → of (renamed_wide_on_link r x) ≡ option_map f (of x)) → (t : WideTrace w)
      → named of first (renamed_wide_trace r t) ≡ map f (named of first t)
  unfolding named
  named-kept f apart of first start each [] = sym start
  named-kept f apart of first start each (x ∷ t) =
      ap₂ with_number (each x) (named-kept f apart of first start each t) ∙ with-kept f apart (of x) (named of first t)

  block-renamed : (x : Link × WideBeat w) → block_named (renamed_wide_on_link r x) ≡ option_map r.block (block_named x)
  block-renamed (link, wide.A x) = ap Some (block-of r.block x.address)
  block-renamed (link, wide.B x) = ap Some (block-of r.block x.address)
  block-renamed (link, wide.C x) = ap Some (block-of r.block x.address)
  block-renamed (link, wide.D x) = refl
  block-renamed (link, wide.E x) = refl

  source-of-renamed : (n : ℕ) (x : WideBeat w) → source_of (renamed_wide (of_link r n) x)
      ≡ option_map (r.sources n) (source_of x)
  source-of-renamed n (wide.A x) = refl
  source-of-renamed n (wide.B x) = refl
  source-of-renamed n (wide.C x) = refl
  source-of-renamed n (wide.D x) = refl
  source-of-renamed n (wide.E x) = refl

  source-renamed : (n : ℕ) (x : Link × WideBeat w) → source_named n (renamed_wide_on_link r x)
      ≡ option_map (r.sources n) (source_named n x)
  source-renamed n x = go (x.0.0 == n) refl
    where
      go : (b : Bool) → (x.0.0 == n) ≡ b
          → (if b then source_of (renamed_wide (of_link r x.0.0) x.1) else None)
          ≡ option_map (r.sources n) (if b then source_of x.1 else None)
      go true e = ap (λ i. source_of (renamed_wide (of_link r i) x.1)) (eqb-true x.0.0 n e) ∙ source-of-renamed n x.1
      go false e = refl

  sink-renamed : (x : Link × WideBeat w) → sink_named (renamed_wide_on_link r x) ≡ option_map r.sink (sink_named x)
  sink-renamed (link, wide.A x) = refl
  sink-renamed (link, wide.B x) = refl
  sink-renamed (link, wide.C x) = refl
  sink-renamed (link, wide.D x) = refl
  sink-renamed (link, wide.E x) = refl

  blocks-kept : (t : WideTrace w) → blocks (renamed_wide_trace r t) ≡ map r.block (blocks t)
  blocks-kept t = named-kept r.block (faithful 0).blocks_apart block_named [] refl block-renamed t

  sources-kept : (n : ℕ) (t : WideTrace w) → sources n (renamed_wide_trace r t) ≡ map (r.sources n) (sources n t)
  sources-kept n t =
      named-kept (r.sources n) (faithful n).sources_apart (source_named n) (0 ∷ [])
      (ap (λ z. z ∷ []) ((faithful n).zero_source refl)) (source-renamed n) t

  sinks-kept : (t : WideTrace w) → sinks (renamed_wide_trace r t) ≡ map r.sink (sinks t)
  sinks-kept t =
      named-kept r.sink (faithful 0).sinks_apart sink_named (0 ∷ []) (ap (λ z. z ∷ []) ((faithful 0).zero_sink refl))
      sink-renamed t

  -- ---- their places

  pub source-place : (n s : ℕ) (t : WideTrace w)
      → place_in (sources n (renamed_wide_trace r t)) (r.sources n s) ≡ place_in (sources n t) s
  source-place n s t =
      ap (λ names. place_in names (r.sources n s)) (sources-kept n t)
      ∙ place-kept (r.sources n) (faithful n).sources_apart (sources n t) s

  pub sink-place : (s : ℕ) (t : WideTrace w) → place_in (sinks (renamed_wide_trace r t)) (r.sink s) ≡ place_in (sinks t) s
  sink-place s t =
      ap (λ names. place_in names (r.sink s)) (sinks-kept t) ∙ place-kept r.sink (faithful 0).sinks_apart (sinks t) s

  pub address-place : (n address : ℕ) (t : WideTrace w)
      → narrow_address (renamed_wide_trace r t) (renamed_address (of_link r n) address) ≡ narrow_address t address
  address-place n address t =
      ap₂ (λ block low. 64 * block + low)
      (ap₂ place_in (blocks-kept t) (block-of r.block address)
      ∙ place-kept r.block (faithful 0).blocks_apart (blocks t) (block_at address)) (low-bits r.block address)

  pub beyond-kept : (link : Link) (t : WideTrace w) → is_beyond link (renamed_wide_trace r t) ≡ is_beyond link t
  beyond-kept link t =
      ap₂ (λ a b. a || b)
      (ap (nat_lt (2 ^ 26)) (ap length (blocks-kept t) ∙ count-kept r.block (blocks t)))
      (ap₂ (λ a b. a || b)
      (ap (nat_lt 256) (ap length (sources-kept link.0 t) ∙ count-kept (r.sources link.0) (sources link.0 t)))
      (ap (nat_lt 256) (ap length (sinks-kept t) ∙ count-kept r.sink (sinks t))))

  -- ---- the parts

  module _ (width : IsWideWidth w) where
    same-place : (n address : ℕ) → renamed_address (of_link r n) address % w ≡ address % w
    same-place n address = elim width [
      | inl e ↦ rw e (kept-modulo r.block address 2 (omega arith))
      | inr more ↦ elim more [
        | inl e ↦ rw e (kept-modulo r.block address 3 (omega arith))
        | inr more ↦ elim more [
          | inl e ↦ rw e (kept-modulo r.block address 4 (omega arith))
          | inr more ↦ elim more [
            | inl e ↦ rw e (kept-modulo r.block address 5 (omega arith))
            | inr e ↦ rw e (kept-modulo r.block address 6 (omega arith))
          ]
        ]
      ]
    ]

    -- the parts follow from the place of an address in a beat
    parts-by-place : (size a b : ℕ) → a % w ≡ b % w → parts_of w size a ≡ parts_of w size b
    parts-by-place size a b e =
        ap (λ place. filter (λ part. not (each_below (part_width w) (λ lane.
        not (if nat_le w (2 ^ size) then nat_lt (part_width w * part + lane) w
        else nat_le place (part_width w * part + lane) && nat_lt (part_width w * part + lane) (place + 2 ^ size)))))
        (below (w / part_width w))) e

    pub parts-kept : (n size address : ℕ)
        → parts_of w size (renamed_address (of_link r n) address) ≡ parts_of w size address
    parts-kept n size address =
        parts-by-place size (renamed_address (of_link r n) address) address (same-place n address)

    asked-kept : (link : Link) (s : ℕ) (t : WideTrace w)
        → asked_address link (r.sources link.0 s) (renamed_wide_trace r t) % w ≡ asked_address link s t % w
    unfolding asked_address
    asked-kept link s [] = refl
    asked-kept link s ((on, wide.A x) ∷ t) = go (on.0 == link.0) refl (asked-kept link s t)
      where
        chosen : (b : Bool)
            → asked_address link (r.sources link.0 s) (renamed_wide_trace r t) % w ≡ asked_address link s t % w
            → (if b then renamed_address (of_link r on.0) x.address
            else asked_address link (r.sources link.0 s) (renamed_wide_trace r t)) % w
            ≡ (if b then x.address else asked_address link s t) % w
        chosen true rest = same-place on.0 x.address
        chosen false rest = rest

        go : (b : Bool) → (on.0 == link.0) ≡ b
            → asked_address link (r.sources link.0 s) (renamed_wide_trace r t) % w ≡ asked_address link s t % w
            → (if b && (r.sources on.0 x.source == r.sources link.0 s) then renamed_address (of_link r on.0) x.address
            else asked_address link (r.sources link.0 s) (renamed_wide_trace r t)) % w
            ≡ (if b && (x.source == s) then x.address else asked_address link s t) % w
        go true e rest =
            ap (λ b. (if b then renamed_address (of_link r on.0) x.address
            else asked_address link (r.sources link.0 s) (renamed_wide_trace r t)) % w)
            (ap (λ i. r.sources i x.source == r.sources link.0 s) (eqb-true on.0 link.0 e)
            ∙ same-test (r.sources link.0) (faithful link.0).sources_apart x.source s)
            ∙ chosen (x.source == s) rest
        go false e rest = rest
    asked-kept link s ((on, wide.B x) ∷ t) = asked-kept link s t
    asked-kept link s ((on, wide.C x) ∷ t) = asked-kept link s t
    asked-kept link s ((on, wide.D x) ∷ t) = asked-kept link s t
    asked-kept link s ((on, wide.E x) ∷ t) = asked-kept link s t

    pub asked-parts-kept : (link : Link) (size s : ℕ) (t : WideTrace w)
        → parts_of w size (asked_address link (r.sources link.0 s) (renamed_wide_trace r t))
        ≡ parts_of w size (asked_address link s t)
    asked-parts-kept link size s t =
        parts-by-place size (asked_address link (r.sources link.0 s) (renamed_wide_trace r t)) (asked_address link s t)
        (asked-kept link s t)
