-- Which Releases are pending at the manager's end of a link: it answers each as it is complete.
use Rattle.std.specs.Prelude.{ℕ, Bool, true, false, List, ◌∷◌, ◌==◌, ◌&&◌, ◌≡◌, ⊤}
use Rattle.tl_beat.specs.declared.beat.Beat.{Beat}
use Rattle.tl_beat.specs.declared.beat.Beat.TheVariants as beat
use Rattle.tl_beat.specs.declared.channel.Channel.TheVariants as channel
use Rattle.tl_burst.specs.statement.Messages.{History, unfinished}
use Rattle.tl_params.specs.declared.key.Key.TheVariants.{ReleaseSource, ReleaseOf}
use Rattle.tl_rules.specs.statement.Conformance.{comes_in_release}
use Rattle.tl_rules.specs.statement.History.{pending, release_of, releases, block_at, is_release}

-- the unfinished burst is a Release of this block
abbrev pub comes_of : {w : ℕ} → ℕ → List (Beat w) → Bool
comes_of k (beat.C x ∷ burst) = is_release x.opcode && (block_at x.address == k)
comes_of k _ = false

-- the Release that began last with the source of the unfinished one is that one
abbrev pub NamesBlock : {w : ℕ} → History w → List (Beat w) → Type 0
NamesBlock t (beat.C x ∷ burst) = (k : ℕ) → is_release x.opcode ≡ true
    → releases k (release_of x.source t) ≡ (block_at x.address == k)
NamesBlock t _ = ⊤

-- a history in which each Release is answered but for one that is unfinished
pub record IsAnswered {w : ℕ} (t : History w) : Type 0 where
  pub sources : (s : ℕ) → pending (ReleaseSource s) t ≡ comes_in_release s (unfinished channel.C t)
  pub blocks : (k : ℕ) → pending (ReleaseOf k) t ≡ comes_of k (unfinished channel.C t)
  pub named : NamesBlock t (unfinished channel.C t)
