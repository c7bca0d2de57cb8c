-- The burst that a client's beat is of.
use Rattle.std.specs.Prelude.{ℕ, List, [], ◌∷◌, if◌then◌else◌}
use Rattle.tl_beat.specs.declared.beat.Beat.{Beat}
use Rattle.tl_beat.specs.declared.beat.Beat.TheVariants as beat
use Rattle.tl_beat.specs.declared.channel.Channel.{Channel}
use Rattle.tl_burst.specs.statement.Messages.{grown, on}

-- of those that are unfinished on the channels A and C
abbrev pub burst_for : {w : ℕ} → List (Beat w) → List (Beat w) → Beat w → List (Beat w)
burst_for requests reports (beat.A x) = requests
burst_for requests reports (beat.C x) = reports
burst_for requests reports _ = []

-- the burst that is unfinished on a channel, after a beat that may be of another one
abbrev pub burst_with : {w : ℕ} → Channel → Beat w → List (Beat w) → List (Beat w)
burst_with ch x burst = if on ch x then grown x burst else burst

-- and after a beat that doesn't complete its burst
abbrev pub burst_more : {w : ℕ} → Channel → Beat w → List (Beat w) → List (Beat w)
burst_more ch x burst = if on ch x then x ∷ burst else burst
