-- Each rule of order depends only on the messages with one source, one sink or one block.
use Rattle.std.specs.Prelude.{ℕ, true, ◌≡◌, List, [], ◌∷◌, ⊤}
use Rattle.tl_beat.specs.declared.beat.Beat.{Beat}
use Rattle.tl_burst.specs.statement.Messages.{History}
use Rattle.tl_params.specs.declared.level.Level.{Level}
use Rattle.tl_params.specs.declared.profile.Profile.{Profile}
use Rattle.tl_rules.specs.statement.Conformance.{broken_order, is_legal}
use Rattle.tl_keys.specs.statement.Restricted.{restricted}
use Rattle.tl_keys.specs.statement.Rules.{Test, first_of, tests}

-- each of these tests has the same result after t and after the part of t with its source, sink or block
abbrev pub AreAlike : {w : ℕ} → List (Test w) → History w → Type 0
AreAlike [] t = ⊤
AreAlike (test ∷ rest) t = (test.breaks t ≡ test.breaks (restricted test.name t)) × AreAlike rest t

-- for a message that begins with this beat after t
pub record IsOfOneKey {w : ℕ} (p : Profile) (x : Beat w) (t : History w) : Type 0 where
  -- the first rule of order that it breaks is the first of these tests that it fails
  pub first : broken_order p x t ≡ first_of (tests p x t) t
  -- and each test has the same result after the part of t with its source, sink or block
  pub each : AreAlike (tests p x t) t

-- this is true after each history that breaks no rule
abbrev pub OneKey : ℕ → Type 0
OneKey w = (l : Level) (p : Profile) (t : History w) (x : Beat w) → is_legal l p t ≡ true → IsOfOneKey p x t
