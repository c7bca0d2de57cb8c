-- No link is granted a permission that conflicts with that of another link. Only the beats that all links have carried
-- count.
use Rattle.std.specs.Prelude.{ℕ, true, ◌≡◌, ◌≢◌, Some, ⊤}
use Rattle.tl_beat.specs.declared.beat.Beat.{Beat}
use Rattle.tl_beat.specs.declared.beat.Beat.TheVariants as beat
use Rattle.tl_params.specs.declared.config.Config.{Config}
use Rattle.tl_params.specs.declared.perm.Perm.TheVariants as perm
use Rattle.tl_rules.specs.statement.Conformance.{Trace, on_link}
use Rattle.tl_rules.specs.statement.History.{begins, grants, held, capped}
use Rattle.tl_rules.specs.statement.Windows.{is_free}
use Rattle.tl_coherence.specs.statement.Flow.{EachTaken, trace_of}
use Rattle.tl_coherence.specs.statement.Headline.{IsGiven}
use Rattle.tl_coherence.specs.statement.Log.{Log}

-- if this beat begins a Grant after t, no other link holds a permission of the block that conflicts with its cap
abbrev pub IsGivenAlone : {w : ℕ} → ℕ → Beat w → Trace w → Type 0
IsGivenAlone link (beat.D y) t = (n block : ℕ) → begins (beat.D y) (on_link link t) ≡ true
    → grants block y (on_link link t) ≡ true → is_free n (Some link) (capped y.param) block t ≡ true
IsGivenAlone link _ t = ⊤

-- while one link holds Trunk of a block, each other link holds None
abbrev pub IsOneWriter : {w : ℕ} → Trace w → Type 0
IsOneWriter t = (one other block : ℕ) → other ≢ one → held block (on_link one t) ≡ perm.Trunk
    → held block (on_link other t) ≡ perm.None

-- Whatever happens to a manager and its clients, no Grant conflicts with a permission on another link, and no link
-- holds a permission beside Trunk on another.
pub record IsApart {w : ℕ} (log : Log w) : Type 0 where
  pub given_alone : EachTaken (λ earlier link x. IsGivenAlone link x (trace_of earlier)) log
  pub one_writer : IsOneWriter (trace_of log)

-- this is true of each log
abbrev pub Apart : ℕ → Type 0
Apart w = (config : Config) (log : Log w) → IsGiven config log → IsApart log
