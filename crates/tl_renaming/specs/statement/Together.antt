-- Renaming changes no verdict on all links of a manager together.
use Rattle.std.specs.Prelude.{ℕ, ◌≡◌, [], ◌∷◌, List, ⊤}
use Rattle.tl_beat.specs.declared.beat.Beat.{Beat}
use Rattle.tl_beat.specs.declared.beat.Link.{Link}
use Rattle.tl_memory.specs.statement.Links.{KeepRules}
use Rattle.tl_params.specs.declared.level.Level.{Level}
use Rattle.tl_params.specs.declared.liberties.Liberties.{Liberties}
use Rattle.tl_renaming.specs.statement.Renamed.{AreFaithful, Renamings, renamed_on_link, renamed_trace}
use Rattle.tl_rules.specs.laws.Typed.{IsTyped}
use Rattle.tl_rules.specs.statement.Conformance.{Trace}
use Rattle.tl_together.specs.statement.Coherence.{broken_together, first_breach}

-- each beat has the number of lanes and of mask bits of its type
abbrev pub AreTypedOn : {w : ℕ} → Trace w → Type 0
AreTypedOn [] = ⊤
AreTypedOn (x ∷ t) = IsTyped x.1 × AreTypedOn t

-- a renamed beat breaks the same rule, of its link or of memory, after a renamed trace without a beat that breaks a
-- rule of its link
abbrev pub KeepsTogether : ℕ → Type 0
KeepsTogether w = (l : Liberties) (r : Renamings) (levels : List Level) (x : Link × Beat w) (t : Trace w)
    → AreFaithful l r → KeepRules l levels t → AreTypedOn (x ∷ t)
    → broken_together levels l (renamed_on_link r x) (renamed_trace r t) ≡ broken_together levels l x t

-- a renamed trace has the same first breach: the same rule and place
abbrev pub KeepsBreaches : ℕ → Type 0
KeepsBreaches w = (l : Liberties) (r : Renamings) (levels : List Level) (trace : Trace w)
    → AreFaithful l r → AreTypedOn trace
    → first_breach levels l (renamed_trace r trace) ≡ first_breach levels l trace
