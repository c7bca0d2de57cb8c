-- The commit that a commit of a wide trace becomes.
use Rattle.std.proofs.Common.{◌≡◌, ◌∙◌, ◌/◌, ◌%◌, ℕ, false, List, ◌∷◌, ap, arith, refl}
use Rattle.std.specs.Prelude.{Option, Some, None, Ok}
use Rattle.tl_beat.specs.declared.beat.Beat.{Beat}
use Rattle.tl_beat.specs.declared.beat.Beat.TheVariants as beat
use Rattle.tl_beat.specs.declared.beat.Link.{Link}
use Rattle.tl_events.specs.declared.commit.Commit.{Commit}
use Rattle.tl_beat.specs.declared.opcode.OpB.TheVariants.{ProbeBlock}
use Rattle.tl_wide.specs.declared.beat.WideBeatB.{WideBeatB}
use Rattle.tl_wide.proofs.Numbering.{numbered-none, numbered-some}
use Rattle.tl_wide.specs.declared.narrow.Narrower.{Narrower}
use Rattle.tl_wide.specs.declared.parts.Named.{Named}
use Rattle.tl_wide.specs.statement.Naming.{WideTrace, in_block, narrow_address}
use Rattle.tl_wide.specs.statement.Narrowed.{beats_of}
use Rattle.tl_wide.specs.statement.Narrowing.{IsNumberedBeat}
use Rattle.tl_wide.specs.statement.Pieces.{pieces_of}
use Rattle.tl_wide.specs.statement.Width.{part_width}
use Rattle.tl_wide_events.specs.declared.commit.WideCommit.{WideCommit}
use Rattle.tl_wide_events.specs.declared.commit.WideEvent.TheVariants.{Commit as OfCommit}
use Rattle.tl_wide_events.specs.statement.Narrowed.{address_of, commit_at, named_as}
use Rattle.tl_wide_events.specs.statement.Narrowing.{IsCommitNarrowed}

-- the beat that has the names of a commit
abbrev pub probe_of : (w : ℕ) → WideCommit → WideBeatB w
probe_of w x = record {
  opcode = ProbeBlock;
  param = 0;
  size = 6;
  source = 0;
  address = address_of x;
  mask = 0;
  lanes = None;
  corrupt = false;
  carries = refl;
}

-- the address of the first of these beats
abbrev first_address : {w : ℕ} → List (Beat w) → ℕ
first_address (beat.B x ∷ beats) = x.address
first_address _ = 0

-- an address by its block and its place in it
placed : (block a b : ℕ) → a % 64 ≡ b % 64 → a / 64 ≡ in_block block b / 64 → a ≡ in_block block b
placed block a b place is = omega (arith, place, is)

module _ {w : ℕ} (link : Link) (x : WideCommit) (t : WideTrace w) where
  -- the names after the commit
  abbrev after : WideTrace w
  after = (link, named_as (OfCommit x)) ∷ t

  becomes : (n : Named) (address : ℕ)
      → pieces_of {w = w} {p = part_width w} (named_as (OfCommit x)) n ≡ beats_of link (named_as (OfCommit x)) after
      → address % 64 ≡ address_of x % 64 → address / 64 ≡ n.address / 64 → address ≡ narrow_address after (address_of x)
  becomes n address pieces place block =
      placed _ address (address_of x) place (block ∙ ap (λ (k : ℕ). k / 64) (ap first_address pieces))

  -- the narrower has a number for the block
  pub commit-numbered : (o : Option Named) (n : Named) (new : Narrower) (address : ℕ) (narrowed : Commit)
      → o ≡ Some n → IsNumberedBeat {E = ℕ} link (named_as (OfCommit x)) t (Ok o) new
      → address % 64 ≡ address_of x % 64 → address / 64 ≡ n.address / 64 → narrowed ≡ commit_at x address
      → IsCommitNarrowed {E = ℕ} link x t (Ok (Some narrowed)) new
  commit-numbered o n new address narrowed is numbered place block same =
      let h = numbered-some link (named_as (OfCommit x)) t o n new is numbered in
      (h.0, same ∙ ap (commit_at x) (becomes n address h.1 place block), h.2)

  -- or none is left
  pub commit-beyond : (o : Option Named) (new : Narrower) → o ≡ None
      → IsNumberedBeat {E = ℕ} link (named_as (OfCommit x)) t (Ok o) new → IsCommitNarrowed {E = ℕ} link x t (Ok None) new
  commit-beyond o new is numbered = numbered-none link (named_as (OfCommit x)) t o new is numbered
