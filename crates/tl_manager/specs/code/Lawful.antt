-- That what a link keeps of its unfinished messages breaks no rule by itself.
use Rattle.std.specs.Prelude.{ℕ, None, List, [], ◌∷◌, ◌≡◌, ⊤, true, false}
use Rattle.tl_beat.specs.declared.beat.Beat.{Beat}
use Rattle.tl_beat.specs.declared.beat.Beat.TheVariants as beat
use Rattle.tl_beat.specs.declared.channel.Channel.{Channel}
use Rattle.tl_beat.specs.declared.channel.Channel.TheVariants as channel
use Rattle.tl_burst.specs.statement.Messages.{channel_of}
use Rattle.tl_params.specs.declared.level.Level.{Level}
use Rattle.tl_rules.specs.statement.Legality.{illegal, a_has_mask}
use Rattle.tl_manager.specs.declared.manager.link_state.LinkState.{LinkState}

-- the newest beat of an unfinished message breaks no rule by itself
abbrev pub IsLawful : {w : ℕ} → Level → List (Beat w) → Type 0
IsLawful level [] = ⊤
IsLawful level (x ∷ burst) = illegal level (channel_of x) x ≡ None

-- so it is with the messages of a link
abbrev pub IsLawfulSoFar : {w : ℕ} → LinkState w → Type 0
IsLawfulSoFar link_state = IsLawful link_state.level link_state.requests × IsLawful link_state.level link_state.reports

-- what a beat has of its own breaks no rule if it goes on with a message, and it isn't corrupt
abbrev pub IsFit : {w : ℕ} → Channel → Beat w → Type 0
IsFit {w} channel.A (beat.A x) = (x.corrupt ≡ false) × (a_has_mask w x.opcode x.size x.address x.mask ≡ true)
IsFit channel.C (beat.C x) = x.corrupt ≡ false
IsFit _ _ = ⊥
