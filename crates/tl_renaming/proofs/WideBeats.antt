-- What a renamed wide trace becomes.
use Rattle.tl_renaming.proofs.Imports.{A, B, C, D, E, Liberties}
use Rattle.tl_renaming.proofs.SameBeats.{make-a, make-b, make-c, make-d}
use Rattle.tl_renaming.proofs.WideNames.{address-place, asked-parts-kept, beyond-kept, count-kept, parts-kept, sink-place}
use Rattle.tl_renaming.proofs.WideNames.{source-place}
use Rattle.tl_renaming.specs.statement.Renamed.{AreFaithful, Renamings, of_link}
use Rattle.tl_renaming.specs.statement.WideRenaming.{renamed_wide, renamed_wide_a, renamed_wide_b, renamed_wide_c}
use Rattle.tl_renaming.specs.statement.WideRenaming.{renamed_wide_d, renamed_wide_on_link, renamed_wide_trace}
use Rattle.std.proofs.Common.{◌≡◌, ℕ, Bool, List, [], ◌∷◌, refl, ap, ◌∙◌}
use Rattle.std.proofs.Math.Path.{ap₂}
use Rattle.std.specs.Prelude.{if◌then◌else◌}
use Rattle.tl_beat.specs.declared.beat.Link.{Link}
use Rattle.tl_beat.{specs.statement.Opcode.a_carries_data, specs.statement.Opcode.b_carries_data}
use Rattle.tl_beat.{specs.statement.Opcode.c_carries_data, specs.statement.Opcode.d_carries_data}
use Rattle.tl_params.specs.declared.level.Level.{Level}
use Rattle.tl_params.specs.statement.Liberties.{no_liberties}
use Rattle.tl_rules.specs.statement.Liberties.{first_fault_under}
use Rattle.tl_wide.specs.declared.beat.WideBeat.{WideBeat}
use Rattle.tl_wide.specs.declared.beat.WideBeat.TheVariants as wide
use Rattle.tl_wide.specs.declared.beat.WideBeatA.{WideBeatA}
use Rattle.tl_wide.specs.declared.beat.WideBeatB.{WideBeatB}
use Rattle.tl_wide.specs.declared.beat.WideBeatC.{WideBeatC}
use Rattle.tl_wide.specs.declared.beat.WideBeatD.{WideBeatD}
use Rattle.tl_wide.specs.statement.Naming.{WideTrace, is_beyond}
use Rattle.tl_wide.specs.statement.Narrowed.{a_parts, asked_address, b_parts, beats_of, c_part, d_part, lone_mask, narrowed}
use Rattle.tl_wide.specs.statement.Narrowed.{narrowed_from, on_one_link, parts_where}
use Rattle.tl_wide.specs.statement.Parts.{has_stray, part_carries, part_lanes, parts_of, shown_carries, shown_mask}
use Rattle.tl_wide.specs.statement.Parts.{shown_opcode}
use Rattle.tl_wide.specs.statement.Verdict.{fault_of_parts, first_wide_fault, joined}
use Rattle.tl_wide.specs.statement.Width.{IsWideWidth}

module _ {w : ℕ} (r : Renamings) (faithful : AreFaithful no_liberties r) (width : IsWideWidth w) where
  -- ---- one beat, after a trace that has it

  a-kept : (link : Link) (x : WideBeatA w) (t : WideTrace w) (stray : Bool) (parts : List ℕ)
      → a_parts link (renamed_wide_a (of_link r link.0) x) (renamed_wide_trace r t) stray parts
      ≡ a_parts link x t stray parts
  a-kept link x t stray parts =
      ap₂ (λ s a. parts_where (a_carries_data x.opcode)
      (λ part. A (make-a (shown_opcode stray x.opcode) x.param x.size x.corrupt s a (shown_mask stray w x.mask part)
      (part_lanes w part x.lanes) (part_carries w part x.lanes (a_carries_data (shown_opcode stray x.opcode))
      (shown_carries stray x.opcode x.lanes x.carries)))) parts
      (A (make-a (shown_opcode stray x.opcode) x.param x.size x.corrupt s a (lone_mask w stray parts x.mask)
      (part_lanes w 0 x.lanes) (part_carries w 0 x.lanes (a_carries_data (shown_opcode stray x.opcode))
      (shown_carries stray x.opcode x.lanes x.carries)))))
      (source-place r faithful link.0 x.source t) (address-place r faithful link.0 x.address t)

  b-kept : (link : Link) (x : WideBeatB w) (t : WideTrace w) (stray : Bool) (parts : List ℕ)
      → b_parts link (renamed_wide_b (of_link r link.0) x) (renamed_wide_trace r t) stray parts
      ≡ b_parts link x t stray parts
  b-kept link x t stray parts =
      ap₂ (λ s a. parts_where (b_carries_data x.opcode)
      (λ part. B (make-b x.opcode x.param x.size x.corrupt s a (shown_mask stray w x.mask part)
      (part_lanes w part x.lanes) (part_carries w part x.lanes (b_carries_data x.opcode) x.carries))) parts
      (B (make-b x.opcode x.param x.size x.corrupt s a (lone_mask w stray parts x.mask)
      (part_lanes w 0 x.lanes) (part_carries w 0 x.lanes (b_carries_data x.opcode) x.carries))))
      (source-place r faithful link.0 x.source t) (address-place r faithful link.0 x.address t)

  c-kept : (link : Link) (x : WideBeatC w) (t : WideTrace w) (parts : List ℕ)
      → parts_where (c_carries_data x.opcode)
      (λ part. C (c_part link (renamed_wide_c (of_link r link.0) x) (renamed_wide_trace r t) part)) parts
      (C (c_part link (renamed_wide_c (of_link r link.0) x) (renamed_wide_trace r t) 0))
      ≡ parts_where (c_carries_data x.opcode) (λ part. C (c_part link x t part)) parts (C (c_part link x t 0))
  c-kept link x t parts =
      ap₂ (λ s a. parts_where (c_carries_data x.opcode)
      (λ part. C (make-c x.opcode x.param x.size x.corrupt s a (part_lanes w part x.lanes)
      (part_carries w part x.lanes (c_carries_data x.opcode) x.carries))) parts
      (C (make-c x.opcode x.param x.size x.corrupt s a (part_lanes w 0 x.lanes)
      (part_carries w 0 x.lanes (c_carries_data x.opcode) x.carries))))
      (source-place r faithful link.0 x.source t) (address-place r faithful link.0 x.address t)

  d-kept : (link : Link) (x : WideBeatD w) (t : WideTrace w) (parts : List ℕ)
      → parts_where (d_carries_data x.opcode)
      (λ part. D (d_part link (renamed_wide_d (of_link r link.0) x) (renamed_wide_trace r t) part)) parts
      (D (d_part link (renamed_wide_d (of_link r link.0) x) (renamed_wide_trace r t) 0))
      ≡ parts_where (d_carries_data x.opcode) (λ part. D (d_part link x t part)) parts (D (d_part link x t 0))
  d-kept link x t parts =
      ap₂ (λ s k. parts_where (d_carries_data x.opcode)
      (λ part. D (make-d x.opcode x.param x.size x.denied x.corrupt s k (part_lanes w part x.lanes)
      (part_carries w part x.lanes (d_carries_data x.opcode) x.carries))) parts
      (D (make-d x.opcode x.param x.size x.denied x.corrupt s k (part_lanes w 0 x.lanes)
      (part_carries w 0 x.lanes (d_carries_data x.opcode) x.carries))))
      (source-place r faithful link.0 x.source t) (sink-place r faithful x.sink t)

  beats-kept : (link : Link) (x : WideBeat w) (t : WideTrace w)
      → beats_of link (renamed_wide (of_link r link.0) x) (renamed_wide_trace r t) ≡ beats_of link x t
  beats-kept link (wide.A x) t =
      ap (λ ps. a_parts link (renamed_wide_a (of_link r link.0) x) (renamed_wide_trace r t) (has_stray w ps x.mask) ps)
      (parts-kept r faithful width link.0 x.size x.address)
      ∙ a-kept link x t (has_stray w (parts_of w x.size x.address) x.mask) (parts_of w x.size x.address)
  beats-kept link (wide.B x) t =
      ap (λ ps. b_parts link (renamed_wide_b (of_link r link.0) x) (renamed_wide_trace r t) (has_stray w ps x.mask) ps)
      (parts-kept r faithful width link.0 x.size x.address)
      ∙ b-kept link x t (has_stray w (parts_of w x.size x.address) x.mask) (parts_of w x.size x.address)
  beats-kept link (wide.C x) t =
      ap (λ ps. parts_where (c_carries_data x.opcode)
      (λ part. C (c_part link (renamed_wide_c (of_link r link.0) x) (renamed_wide_trace r t) part)) ps
      (C (c_part link (renamed_wide_c (of_link r link.0) x) (renamed_wide_trace r t) 0)))
      (parts-kept r faithful width link.0 x.size x.address)
      ∙ c-kept link x t (parts_of w x.size x.address)
  beats-kept link (wide.D x) t =
      ap (λ ps. parts_where (d_carries_data x.opcode)
      (λ part. D (d_part link (renamed_wide_d (of_link r link.0) x) (renamed_wide_trace r t) part)) ps
      (D (d_part link (renamed_wide_d (of_link r link.0) x) (renamed_wide_trace r t) 0)))
      (asked-parts-kept r faithful width link x.size x.source t)
      ∙ d-kept link x t (parts_of w x.size (asked_address link x.source t))
  beats-kept link (wide.E x) t = ap (λ s. E (record { sink = s }) ∷ []) (sink-place r faithful x.sink t)

  -- ---- a trace

  from-kept : (before trace : WideTrace w)
      → narrowed_from (renamed_wide_trace r before) (renamed_wide_trace r trace) ≡ narrowed_from before trace
  unfolding narrowed_from
  from-kept before [] = refl
  from-kept before (x ∷ trace) =
      ap (λ b. if b then [] else on_one_link x.0 (beats_of x.0 (renamed_wide (of_link r x.0.0) x.1)
      (renamed_wide_trace r (x ∷ before))) ∷ narrowed_from (renamed_wide_trace r (x ∷ before))
      (renamed_wide_trace r trace)) (beyond-kept r faithful x.0 (x ∷ before))
      ∙ ap₂ (λ beats rest. if is_beyond x.0 (x ∷ before) then [] else on_one_link x.0 beats ∷ rest)
      (beats-kept x.0 x.1 (x ∷ before)) (from-kept (x ∷ before) trace)

  pub narrowed-kept : (trace : WideTrace w) → narrowed (renamed_wide_trace r trace) ≡ narrowed trace
  narrowed-kept trace = from-kept [] trace

  pub wide-fault-kept : (l : Liberties) (levels : List Level) (trace : WideTrace w)
      → first_wide_fault l levels (renamed_wide_trace r trace) ≡ first_wide_fault l levels trace
  wide-fault-kept l levels trace =
      ap₂ (λ parts count. fault_of_parts parts count (first_fault_under l levels (joined parts)))
      (narrowed-kept trace) (count-kept (renamed_wide_on_link r) trace)
