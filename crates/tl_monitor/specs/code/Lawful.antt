-- That the beats of an unfinished response break no rule by themselves.
use Rattle.std.specs.Prelude.{ℕ, true, false, ◌≡◌, ◌<◌, List, length, slice_index_or, Option, Some, None, ⊤}
use Rattle.tl_beat.specs.declared.beat.Beat.TheVariants as beat
use Rattle.tl_beat.specs.declared.beat.BeatD.{BeatD}
use Rattle.tl_beat.specs.declared.channel.Channel.TheVariants as channel
use Rattle.tl_beat.specs.statement.Control.{has_control}
use Rattle.tl_params.specs.declared.level.Level.{Level}
use Rattle.tl_params.specs.declared.liberties.Liberties.{Liberties}
use Rattle.tl_rules.specs.statement.Admission.{is_spoiled}
use Rattle.tl_rules.specs.statement.Liberties.{illegal_under}
use Rattle.tl_monitor.specs.declared.bursts.Unfinished.{Unfinished}
use Rattle.tl_monitor.specs.declared.monitor.MonitoredLink.{MonitoredLink}

-- a beat with the control fields of the unfinished response, neither corrupt nor denied, breaks no rule by itself
abbrev pub IsLawful : ℕ → Liberties → Level → Option (Unfinished ⊤) → Type 0
IsLawful w l level burst = (u : Unfinished ⊤) → burst ≡ Some u → (x : BeatD w) → has_control (beat.D x) u.control ≡ true
    → is_spoiled (beat.D x) ≡ false → illegal_under l level channel.D (beat.D x) ≡ None

-- so it is on each link
abbrev pub AreLawful : ℕ → Liberties → List MonitoredLink → Type 0
AreLawful w l links = (n : ℕ) (d : MonitoredLink) → n < length links
    → IsLawful w l (slice_index_or links n d).level (slice_index_or links n d).state.bursts.d
