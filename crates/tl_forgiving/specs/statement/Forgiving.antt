-- More liberties only forgive: a history or trace that breaks no rule under some liberties breaks none under more.
use Rattle.std.specs.Prelude.{ℕ, true, ◌≡◌, List, None}
use Rattle.tl_burst.specs.statement.Messages.{History}
use Rattle.tl_params.specs.declared.level.Level.{Level}
use Rattle.tl_params.specs.declared.liberties.Liberties.{Liberties}
use Rattle.tl_params.specs.declared.liberties.Liberty.{Liberty}
use Rattle.tl_params.specs.statement.Liberties.{allows}
use Rattle.tl_rules.specs.statement.Conformance.{Trace}
use Rattle.tl_rules.specs.statement.Liberties.{first_fault_under, held_under, is_legal_under}

-- each liberty that is in l is in m
abbrev pub IsWithin : Liberties → Liberties → Type 0
IsWithin l m = (x : Liberty) → allows l x ≡ true → allows m x ≡ true

-- a link's history that breaks no rule under some liberties breaks none under more
abbrev pub ForgivesHistories : ℕ → Type 0
ForgivesHistories w = (l m : Liberties) (level : Level) (t : History w) → IsWithin l m
    → is_legal_under l level t ≡ true → is_legal_under m level t ≡ true

-- a recorded trace of several links that breaks no rule under some liberties breaks none under more
abbrev pub ForgivesTraces : ℕ → Type 0
ForgivesTraces w = (l m : Liberties) (levels : List Level) (trace : Trace w) → IsWithin l m
    → first_fault_under l levels trace ≡ None → first_fault_under m levels trace ≡ None

-- after a history that breaks no rule under the fewer liberties, both leave the same permission of each block
abbrev pub HoldsAlike : ℕ → Type 0
HoldsAlike w = (l m : Liberties) (level : Level) (k : ℕ) (t : History w) → IsWithin l m
    → is_legal_under l level t ≡ true → held_under m k t ≡ held_under l k t
