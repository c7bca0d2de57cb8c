-- The words of an allowance, as they are appended.
use Rattle.std.specs.Prelude.{ℕ, zero, suc, List, [], ◌∷◌, ◌++◌, codes}
use Rattle.tl_params.specs.declared.liberties.Liberty.{Liberty}
use Rattle.tl_params.specs.statement.Liberties.{liberty_name}

-- the text before the name of this place
abbrev pub link_before : ℕ → List ℕ
link_before zero = codes " (allowed under "
link_before (suc n) = codes " or "

-- names, the first of which has this place, each after its separator
unfoldable pub said_from : ℕ → List Liberty → List ℕ
said_from n [] = []
said_from n (one ∷ more) = link_before n ++ (liberty_name one ++ said_from (suc n) more)
