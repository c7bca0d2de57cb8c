-- The report that is under way on a link.
use Rattle.std.proofs.Common.{◌≡◌, ℕ, Bool, true, false, not, ◌&&◌, ◌||◌, List, [], ◌∷◌, refl, sym, ap, ◌∙◌}
use Rattle.std.proofs.lemmas.Bool.{eqb-true}
use Rattle.std.specs.Prelude.{◌==◌, Option, Some, None}
use Rattle.tl_beat.specs.declared.beat.Beat.{Beat}
use Rattle.tl_beat.specs.declared.beat.Beat.TheVariants as beat
use Rattle.tl_beat.specs.declared.channel.Channel.TheVariants as channel
use Rattle.tl_burst.specs.statement.Messages.{History, unfinished}
use Rattle.tl_memory.specs.declared.early.Releasing.{Releasing}
use Rattle.tl_memory.specs.statement.Links.{KnowsReleasing}
use Rattle.tl_monitor.specs.statement.Reporting.{report_of}
use Rattle.tl_params.specs.declared.key.Key.TheVariants.{ReleaseOf}
use Rattle.tl_rules.specs.statement.History.{block_at, is_release, pending}
use Rattle.tl_commits.specs.code.Giving.{given_with}
use Rattle.tl_commits.specs.statement.Copies.{is_given_by, is_giving}

pub giving-is : {w : ℕ} (o : Option Releasing) (block : ℕ) (t : History w) → KnowsReleasing o t
    → given_with (report_of (unfinished channel.C t)) o block ≡ is_giving block t
giving-is {w} None block t none = go (unfinished channel.C t) refl
  where
    go : (beats : List (Beat w)) → unfinished channel.C t ≡ beats
        → given_with (report_of beats) None block ≡ is_given_by block beats t
    go [] e = refl
    go (beat.C y ∷ older) e = rw (none y older e) refl
    go (beat.A y ∷ older) e = refl
    go (beat.B y ∷ older) e = refl
    go (beat.D y ∷ older) e = refl
    go (beat.E y ∷ older) e = refl
giving-is (Some releasing) block t (y, older, e, is, knows) =
    rw e (go (block_at y.address == block) refl)
  where
    go : (b : Bool) → (block_at y.address == block) ≡ b
        → (b && (not (is_release y.opcode) || not releasing.answered))
        ≡ (b && (not (is_release y.opcode) || pending (ReleaseOf block) t))
    go true same =
        let own : releasing.block ≡ block = knows.block_is ∙ eqb-true (block_at y.address) block same in
        ap (λ (b : Bool). not (is_release y.opcode) || b)
        (sym knows.waits_is ∙ ap (λ (k : ℕ). pending (ReleaseOf k) t) own)
    go false same = refl
