-- What small wide traces with stores and loads become, worked out.
use Rattle.std.proofs.Common.{◌≡◌, ℕ, refl, false, List, [], ◌∷◌, ◌++◌, replicate}
use Rattle.std.specs.Prelude.{Some, None}
use Rattle.tl_beat.specs.declared.beat.Beat.TheVariants as beat
use Rattle.tl_beat.specs.declared.beat.Link.{Link}
use Rattle.tl_beat.specs.declared.opcode.OpA.TheVariants as a
use Rattle.tl_events.specs.declared.commit.Commit.TheVariants as commit
use Rattle.tl_events.specs.declared.commit.Event.{Event}
use Rattle.tl_events.specs.declared.commit.Event.TheVariants as event
use Rattle.tl_rules.specs.statement.Legality.{each_below}
use Rattle.tl_wide.specs.declared.beat.WideBeat.TheVariants as beats
use Rattle.tl_wide.specs.statement.Naming.{named, place_in}
use Rattle.tl_wide.specs.statement.Parts.{below, part_carries, shown_carries}
use Rattle.tl_wide_events.specs.declared.commit.WideCommit.TheVariants as stored
use Rattle.tl_wide_events.specs.declared.commit.WideEvent.{WideEvent}
use Rattle.tl_wide_events.specs.declared.commit.WideEvent.TheVariants as wide
use Rattle.tl_wide_events.specs.statement.Narrowed.{narrowed, with_events}

abbrev link_0 : Link
link_0 = record { 0 = 0 }

abbrev link_1 : Link
link_1 = record { 0 = 1 }

-- ---- wide events

abbrev get : {w : ℕ} → ℕ → ℕ → ℕ → WideEvent w
get source address mask = wide.Beat (beats.A (record {
  opcode = a.Get;
  param = 0;
  size = 3;
  source = source;
  address = address;
  mask = mask;
  lanes = None;
  corrupt = false;
  carries = refl;
}))

abbrev put : {w : ℕ} → ℕ → ℕ → List ℕ → WideEvent w
put address mask lanes = wide.Beat (beats.A (record {
  opcode = a.PutFullData;
  param = 0;
  size = 5;
  source = 0;
  address = address;
  mask = mask;
  lanes = Some lanes;
  corrupt = false;
  carries = refl;
}))

abbrev store : {w : ℕ} → ℕ → ℕ → ℕ → WideEvent w
store size address value = wide.Commit (stored.Store (record { size = size; address = address }) value)

abbrev load : {w : ℕ} → ℕ → ℕ → ℕ → WideEvent w
load size address value = wide.Commit (stored.Load (record { size = size; address = address }) value)

abbrev begin : {w : ℕ} → ℕ → ℕ → WideEvent w
begin size address = wide.Commit (stored.Begin (record { size = size; address = address }))

-- ---- events of the rules

abbrev narrow_get : {w : ℕ} → ℕ → ℕ → ℕ → Event w
narrow_get source address mask = event.Beat (beat.A (record {
  opcode = a.Get;
  param = 0;
  size = 3;
  source = source;
  address = address;
  mask = mask;
  lanes = None;
  corrupt = false;
  carries = refl;
}))

abbrev narrow_put : {w : ℕ} → ℕ → ℕ → List ℕ → Event w
narrow_put address mask lanes = event.Beat (beat.A (record {
  opcode = a.PutFullData;
  param = 0;
  size = 5;
  source = 0;
  address = address;
  mask = mask;
  lanes = Some lanes;
  corrupt = false;
  carries = refl;
}))

abbrev narrow_store : {w : ℕ} → ℕ → ℕ → ℕ → Event w
narrow_store size address value = event.Commit (commit.Store (record { size = size; address = address }) value)

abbrev narrow_load : {w : ℕ} → ℕ → ℕ → ℕ → Event w
narrow_load size address value = event.Commit (commit.Load (record { size = size; address = address }) value)

abbrev narrow_begin : {w : ℕ} → ℕ → ℕ → Event w
narrow_begin size address = event.Commit (commit.Begin (record { size = size; address = address }))

-- ---- numbers

-- A Get at 1_8000_0008, a store at 1_8000_0048, a load at 1_8000_0000 and one that begins at ffff_0000_0000_0010, the
-- newest first. Their blocks are 0, 1, 0 again and 2: a commit has the number of a block as a beat has it. Source 1ff is 1.
numbers : narrowed {w = 8}
    ((link_1, begin 1 18446462598732840976) ∷ (link_1, load 0 6442450944 7) ∷ (link_0, store 3 6442451016 5)
    ∷ (link_0, get 511 6442450952 255) ∷ [])
    ≡ (link_1, narrow_begin 1 144) ∷ (link_1, narrow_load 0 0 7) ∷ (link_0, narrow_store 3 72 5)
    ∷ (link_0, narrow_get 1 8 255) ∷ []
unfolding narrowed with_events named place_in below each_below part_carries shown_carries
numbers = refl

-- a commit that comes first gives its block the number 0, and the beat after it has that too
commit_first : narrowed {w = 8} ((link_0, get 511 6442450952 255) ∷ (link_1, store 0 6442450947 9) ∷ [])
    ≡ (link_0, narrow_get 1 8 255) ∷ (link_1, narrow_store 0 3 9) ∷ []
unfolding narrowed with_events named place_in below each_below part_carries shown_carries
commit_first = refl

-- ---- parts

-- a Put of 32 bytes on a bus of 32, after a store: two events, the upper part as the newest
two_parts : narrowed {w = 32}
    ((link_0, put 6442450976 4294967295 (replicate 16 1 ++ replicate 16 2)) ∷ (link_1, store 2 6442450940 4) ∷ [])
    ≡ (link_0, narrow_put 96 65535 (replicate 16 2)) ∷ (link_0, narrow_put 96 65535 (replicate 16 1))
    ∷ (link_1, narrow_store 2 60 4) ∷ []
unfolding narrowed with_events named place_in below each_below part_carries shown_carries
two_parts = refl
