-- What small wide traces become, and what is at fault with them, worked out.
use Rattle.std.proofs.Common.{◌≡◌, ℕ, zero, suc, refl, true, false, List, [], ◌∷◌, ◌++◌, replicate}
use Rattle.std.specs.Prelude.{Some, None}
use Rattle.tl_beat.specs.declared.beat.Beat.{Beat}
use Rattle.tl_beat.specs.declared.beat.Beat.TheVariants as beat
use Rattle.tl_beat.specs.declared.beat.Link.{Link}
use Rattle.tl_beat.specs.declared.opcode.OpA.TheVariants as a
use Rattle.tl_beat.specs.declared.opcode.OpB.TheVariants as b
use Rattle.tl_beat.specs.declared.opcode.OpD.TheVariants as d
use Rattle.tl_params.specs.declared.level.Level.TheVariants as level
use Rattle.tl_params.specs.declared.rule.Rule.TheVariants.{L2, L5, H2}
use Rattle.tl_params.specs.statement.Liberties.{no_liberties}
use Rattle.tl_burst.specs.statement.Messages.{unfinished}
use Rattle.tl_rules.specs.statement.Conformance.{on_link}
use Rattle.tl_rules.specs.statement.History.{pending, request_of}
use Rattle.tl_rules.specs.statement.Legality.{each_below}
use Rattle.tl_rules.specs.statement.Liberties.{broken_after_under, broken_order_under, fault_from_under, illegal_under}
use Rattle.tl_wide.specs.declared.beat.WideBeat.{WideBeat}
use Rattle.tl_wide.specs.declared.beat.WideBeat.TheVariants as wide
use Rattle.tl_wide.specs.statement.Naming.{WideTrace, is_beyond, named, place_in}
use Rattle.tl_wide.specs.statement.Narrowed.{asked_address, narrowed, narrowed_from}
use Rattle.tl_wide.specs.statement.Parts.{below, part_carries, shown_carries}
use Rattle.tl_wide.specs.statement.Verdict.{Breaks, first_wide_fault, joined, owner}

abbrev link_0 : Link
link_0 = record { 0 = 0 }

abbrev link_1 : Link
link_1 = record { 0 = 1 }

-- ---- wide beats

abbrev get : {w : ℕ} → ℕ → ℕ → ℕ → ℕ → WideBeat w
get size source address mask = wide.A (record {
  opcode = a.Get;
  param = 0;
  size = size;
  source = source;
  address = address;
  mask = mask;
  lanes = None;
  corrupt = false;
  carries = refl;
})

abbrev put : {w : ℕ} → ℕ → ℕ → ℕ → List ℕ → WideBeat w
put size address mask lanes = wide.A (record {
  opcode = a.PutPartialData;
  param = 0;
  size = size;
  source = 0;
  address = address;
  mask = mask;
  lanes = Some lanes;
  corrupt = false;
  carries = refl;
})

abbrev probe : {w : ℕ} → ℕ → ℕ → ℕ → WideBeat w
probe source address mask = wide.B (record {
  opcode = b.ProbeBlock;
  param = 0;
  size = 6;
  source = source;
  address = address;
  mask = mask;
  lanes = None;
  corrupt = false;
  carries = refl;
})

abbrev answer : {w : ℕ} → ℕ → ℕ → List ℕ → WideBeat w
answer size source lanes = wide.D (record {
  opcode = d.AccessAckData;
  param = 0;
  size = size;
  source = source;
  sink = 0;
  denied = false;
  lanes = Some lanes;
  corrupt = false;
  carries = refl;
})

abbrev grant : {w : ℕ} → ℕ → WideBeat w
grant sink = wide.D (record {
  opcode = d.Grant;
  param = 0;
  size = 6;
  source = 0;
  sink = sink;
  denied = false;
  lanes = None;
  corrupt = false;
  carries = refl;
})

-- ---- beats of the rules

abbrev narrow_get : {w : ℕ} → ℕ → ℕ → ℕ → ℕ → Beat w
narrow_get size source address mask = beat.A (record {
  opcode = a.Get;
  param = 0;
  size = size;
  source = source;
  address = address;
  mask = mask;
  lanes = None;
  corrupt = false;
  carries = refl;
})

abbrev narrow_put : {w : ℕ} → ℕ → ℕ → ℕ → List ℕ → Beat w
narrow_put size address mask lanes = beat.A (record {
  opcode = a.PutPartialData;
  param = 0;
  size = size;
  source = 0;
  address = address;
  mask = mask;
  lanes = Some lanes;
  corrupt = false;
  carries = refl;
})

abbrev narrow_answer : {w : ℕ} → ℕ → ℕ → List ℕ → Beat w
narrow_answer size source lanes = beat.D (record {
  opcode = d.AccessAckData;
  param = 0;
  size = size;
  source = source;
  sink = 0;
  denied = false;
  lanes = Some lanes;
  corrupt = false;
  carries = refl;
})

abbrev narrow_grant : {w : ℕ} → ℕ → Beat w
narrow_grant sink = beat.D (record {
  opcode = d.Grant;
  param = 0;
  size = 6;
  source = 0;
  sink = sink;
  denied = false;
  lanes = None;
  corrupt = false;
  carries = refl;
})

-- lanes that all hold one byte
abbrev all : ℕ → ℕ → List ℕ
all count byte = replicate count byte

-- ---- numbers

-- Of three Gets of 8 bytes at 1_8000_0008, 1_8000_0040 and 1_8000_0000 the blocks are 0, 1 and 0 again. Sources 1ff and
-- 7 of link 0 are 1 and 2, source 1ff of link 1 is 1 there.
numbers : narrowed {w = 8}
    ((link_0, get 3 511 6442450952 255) ∷ (link_0, get 3 7 6442451008 255) ∷ (link_1, get 3 511 6442450944 255) ∷ [])
    ≡ ((link_0, narrow_get 3 1 8 255) ∷ []) ∷ ((link_0, narrow_get 3 2 64 255) ∷ [])
    ∷ ((link_1, narrow_get 3 1 0 255) ∷ []) ∷ []
unfolding narrowed_from named place_in below each_below part_carries shown_carries
numbers = refl

-- sinks 200 and 100 of two links are 1 and 2
one_table_of_sinks : narrowed {w = 8} ((link_0, grant 512) ∷ (link_1, grant 256) ∷ (link_0, grant 512) ∷ [])
    ≡ ((link_0, narrow_grant 1) ∷ []) ∷ ((link_1, narrow_grant 2) ∷ []) ∷ ((link_0, narrow_grant 1) ∷ []) ∷ []
unfolding narrowed_from named place_in below each_below part_carries shown_carries asked_address
one_table_of_sinks = refl

-- ---- limits

-- Gets with the sources n, n - 1 and so on to 1, the newest first
abbrev sources_to : ℕ → WideTrace 8
sources_to zero = []
sources_to (suc n) = (link_0, get 3 (suc n) 0 255) ∷ sources_to n

-- GrantAcks with such sinks
abbrev sinks_to : ℕ → WideTrace 8
sinks_to zero = []
sinks_to (suc n) = (link_0, wide.E (record { sink = suc n })) ∷ sinks_to n

-- 256 sources have numbers, 0 among them, and 257 haven't; so with sinks
as_many_sources : is_beyond link_0 (sources_to 255) ≡ false
unfolding named
as_many_sources = refl

one_source_more : is_beyond link_0 (sources_to 256) ≡ true
unfolding named
one_source_more = refl

as_many_sinks : is_beyond link_0 (sinks_to 255) ≡ false
unfolding named
as_many_sinks = refl

one_sink_more : is_beyond link_0 (sinks_to 256) ≡ true
unfolding named
one_sink_more = refl

-- ---- parts

-- a Get of 64 bytes on a bus of 64 has one part, with all its lanes
whole_block : narrowed {w = 64} ((link_0, get 6 0 6442450944 18446744073709551615) ∷ [])
    ≡ ((link_0, narrow_get 6 0 0 65535) ∷ []) ∷ []
unfolding narrowed_from named place_in below each_below part_carries shown_carries
whole_block = refl

-- of one of 4 bytes in its third part the mask is that of the part
few_bytes : narrowed {w = 64} ((link_0, get 2 0 6442450980 1030792151040) ∷ [])
    ≡ ((link_0, narrow_get 2 0 36 240) ∷ []) ∷ []
unfolding narrowed_from named place_in below each_below part_carries shown_carries
few_bytes = refl

-- a Put of 32 bytes in the upper half of such a beat has its third and its fourth part
upper_half : narrowed {w = 64}
    ((link_0, put 5 6442450976 18446744065119617024 (all 32 0 ++ (all 16 1 ++ all 16 2))) ∷ [])
    ≡ ((link_0, narrow_put 5 32 65534 (all 16 1)) ∷ (link_0, narrow_put 5 32 65535 (all 16 2)) ∷ []) ∷ []
unfolding narrowed_from named place_in below each_below part_carries shown_carries
upper_half = refl

-- the answer to a Get of 16 bytes has the part that the Get's address names
asked_part : narrowed {w = 32}
    ((link_0, get 4 5 6442450960 4294901760) ∷ (link_0, answer 4 5 (all 16 1 ++ all 16 2)) ∷ [])
    ≡ ((link_0, narrow_get 4 1 16 65535) ∷ []) ∷ ((link_0, narrow_answer 4 1 (all 16 2)) ∷ []) ∷ []
unfolding narrowed_from named place_in below each_below part_carries shown_carries asked_address
asked_part = refl

-- a Get with this source on another link names no part of it
other_link : narrowed {w = 32}
    ((link_0, get 4 5 6442450960 4294901760) ∷ (link_1, get 4 5 6442450944 65535)
    ∷ (link_0, answer 4 5 (all 16 1 ++ all 16 2)) ∷ [])
    ≡ ((link_0, narrow_get 4 1 16 65535) ∷ []) ∷ ((link_1, narrow_get 4 1 0 65535) ∷ [])
    ∷ ((link_0, narrow_answer 4 1 (all 16 2)) ∷ []) ∷ []
unfolding narrowed_from named place_in below each_below part_carries shown_carries asked_address
other_link = refl

-- ---- verdicts

-- a lane of a mask that no part of the message has: here lane 16, of a Put of 16 bytes whose part is the first
stray_lane : first_wide_fault {w = 32} no_liberties (level.UH ∷ [])
    ((link_0, put 4 6442450944 98303 (all 32 1)) ∷ []) ≡ Some (0, Breaks L5)
unfolding narrowed_from named place_in below each_below part_carries shown_carries joined owner fault_from_under illegal_under
    broken_after_under on_link
stray_lane = refl

-- without it there is no fault
no_stray_lane : first_wide_fault {w = 32} no_liberties (level.UH ∷ [])
    ((link_0, put 4 6442450944 32767 (all 32 1)) ∷ []) ≡ None
unfolding narrowed_from named place_in below each_below part_carries shown_carries joined owner fault_from_under illegal_under
    broken_after_under broken_order_under on_link unfinished pending
no_stray_lane = refl

-- a Get of 32 bytes on a bus of 64, in whose mask a lane of its second part is missing
missing_lane : first_wide_fault {w = 64} no_liberties (level.UH ∷ [])
    ((link_0, get 5 0 6442450944 2147483647) ∷ []) ≡ Some (0, Breaks L5)
unfolding narrowed_from named place_in below each_below part_carries shown_carries joined owner fault_from_under illegal_under
    broken_after_under on_link
missing_lane = refl

-- a Probe whose source isn't 0, though no source came before it
source_of_probe : first_wide_fault {w = 64} no_liberties (level.C ∷ [])
    ((link_0, probe 5 6442450944 18446744073709551615) ∷ []) ≡ Some (0, Breaks L2)
unfolding narrowed_from named place_in below each_below part_carries shown_carries joined owner fault_from_under illegal_under
    broken_after_under on_link
source_of_probe = refl

-- the second beat is at fault, of which the first part is the third of all: an answer to no request
at_wide_beat : first_wide_fault {w = 32} no_liberties (level.UH ∷ [])
    ((link_0, put 5 6442450944 4294967295 (all 32 1)) ∷ (link_0, answer 5 7 (all 32 1)) ∷ []) ≡ Some (1, Breaks H2)
unfolding narrowed_from named place_in below each_below part_carries shown_carries joined owner fault_from_under illegal_under
    broken_after_under broken_order_under on_link unfinished pending asked_address request_of
at_wide_beat = refl
