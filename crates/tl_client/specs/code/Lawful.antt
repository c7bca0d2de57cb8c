-- That what a client keeps of an unfinished response breaks no rule by itself.
use Rattle.std.specs.Prelude.{ℕ, Bool, true, List, [], ◌∷◌, is_none}
use Rattle.tl_beat.specs.declared.beat.Beat.{Beat}
use Rattle.tl_beat.specs.declared.channel.Channel.TheVariants as channel
use Rattle.tl_params.specs.declared.level.Level.{Level}
use Rattle.tl_rules.specs.statement.Legality.{illegal}

-- the newest beat of the unfinished response breaks no rule by itself
abbrev pub is_lawful : {w : ℕ} → Level → List (Beat w) → Bool
is_lawful level [] = true
is_lawful level (x ∷ burst) = is_none (illegal level channel.D x)
