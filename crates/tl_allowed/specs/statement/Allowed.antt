-- The single liberties under which a beat would break no rule.
use Rattle.std.specs.Prelude.{ℕ, Bool, not, ◌&&◌, List, [], ◌∷◌, ◌++◌, is_none, codes}
use Rattle.std.specs.List.{filter}
use Rattle.tl_beat.specs.declared.beat.Beat.{Beat}
use Rattle.tl_beat.specs.declared.beat.Link.{Link}
use Rattle.tl_command.specs.statement.LibertyWords.{all_liberties}
use Rattle.tl_params.specs.declared.level.Level.{Level}
use Rattle.tl_params.specs.declared.liberties.Liberties.{Liberties}
use Rattle.tl_params.specs.declared.liberties.Liberty.{Liberty}
use Rattle.tl_params.specs.statement.Liberties.{allows, liberty_name, with_liberty}
use Rattle.tl_rules.specs.statement.Conformance.{Trace}
use Rattle.tl_rules.specs.statement.Liberties.{broken_on_link_under}

-- this liberty isn't one of l, and with it and l the beat breaks no rule on its link after t
abbrev pub would_allow : {w : ℕ} → Liberties → List Level → Link × Beat w → Trace w → Liberty → Bool
would_allow l levels x t one = not (allows l one) && is_none (broken_on_link_under (with_liberty one l) levels x t)

-- the liberties of which each alone, added to l, would allow the beat
abbrev pub allowed_under : {w : ℕ} → Liberties → List Level → Link × Beat w → Trace w → List Liberty
allowed_under l levels x t = filter (would_allow l levels x t) all_liberties

-- their names, joined by "or"
unfoldable pub either_of : List Liberty → List ℕ
either_of [] = []
either_of (one ∷ []) = liberty_name one
either_of (one ∷ other ∷ more) = liberty_name one ++ (codes " or " ++ either_of (other ∷ more))

-- the end of the sentence of a fault that each of these liberties alone would allow; empty if there are none
abbrev pub allowance_text : List Liberty → List ℕ
allowance_text [] = []
allowance_text (one ∷ more) = codes " (allowed under " ++ (either_of (one ∷ more) ++ codes ")")
