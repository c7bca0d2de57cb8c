-- The Grant that is under way on a link.
use Rattle.std.proofs.Common.{◌≡◌, ℕ, Bool, true, false, ◌&&◌, List, [], ◌∷◌, refl, sym, ap}
use Rattle.std.proofs.lemmas.Bool.{eqb-true}
use Rattle.std.specs.Prelude.{◌==◌, Option, Some, None}
use Rattle.tl_beat.specs.declared.beat.Beat.{Beat}
use Rattle.tl_beat.specs.declared.beat.Beat.TheVariants as beat
use Rattle.tl_beat.specs.declared.beat.BeatA.{BeatA}
use Rattle.tl_beat.specs.declared.channel.Channel.TheVariants as channel
use Rattle.tl_burst.specs.statement.Messages.{History, unfinished}
use Rattle.tl_memory.specs.declared.early.Granting.{Granting}
use Rattle.tl_memory.specs.statement.Links.{KnowsGranting}
use Rattle.tl_rules.specs.statement.History.{asks_for, block_at, request_of}
use Rattle.tl_commits.specs.statement.Copies.{is_filled_by, is_filling}

-- the block of the Grant, if there is one
abbrev pub fills : Option Granting → ℕ → Bool
fills None block = false
fills (Some granting) block = granting.block == block

-- a request for a block is one for no other
asked-for : {w : ℕ} (own block : ℕ) (o : Option (BeatA w)) → asks_for own o ≡ true → asks_for block o ≡ (own == block)
asked-for own block None e = absurd cc
asked-for own block (Some x) e =
    ap (λ (k : ℕ). k == block) (eqb-true (block_at x.address) own e)

pub filling-is : {w : ℕ} (o : Option Granting) (block : ℕ) (t : History w) → KnowsGranting o t
    → fills o block ≡ is_filling block t
filling-is {w} None block t none = go (unfinished channel.D t) refl
  where
    go : (beats : List (Beat w)) → unfinished channel.D t ≡ beats → false ≡ is_filled_by block beats t
    go [] e = refl
    go (beat.D y ∷ older) e = ap (λ (b : Bool). b && asks_for block (request_of y.source t)) (sym (none y older e))
    go (beat.A y ∷ older) e = refl
    go (beat.B y ∷ older) e = refl
    go (beat.C y ∷ older) e = refl
    go (beat.E y ∷ older) e = refl
filling-is (Some granting) block t (y, older, e, granted, is) =
    rw (e, granted) (sym (asked-for granting.block block (request_of y.source t) is.of_block))
