-- A beat that was delivered has room in its line.
use Rattle.std.proofs.Common.{◌≡◌, ℕ, false, ◌∙◌, ap, subst, ◌∷◌}
use Rattle.std.specs.Prelude.{All}
use Rattle.std.proofs.lemmas.List.Elements.{All-head}
use Rattle.tl_beat.specs.declared.beat.Link.{Link}
use Rattle.tl_beat.specs.declared.beat.Beat.{Beat}
use Rattle.tl_beat.specs.declared.channel.Channel.{Channel}
use Rattle.tl_beat.specs.statement.Line.{IsWritable}
use Rattle.tl_params.specs.declared.config.Config.{Config}
use Rattle.tl_schedule.specs.statement.OutcomeLine.{HasLine}
use Rattle.tl_coherence.specs.declared.event.Event.{Event}
use Rattle.tl_coherence.specs.declared.event.Event.TheVariants.{Ask, Deliver}
use Rattle.tl_coherence.specs.declared.event.Outcome.{Outcome}
use Rattle.tl_coherence.specs.declared.event.Outcome.TheVariants as outcome
use Rattle.tl_coherence.specs.statement.Draining.{is_moving}
use Rattle.tl_coherence.specs.statement.Flow.{flow}
use Rattle.tl_coherence.specs.statement.Headline.{IsGiven}
use Rattle.tl_coherence.specs.statement.Log.{Log, IsLog}
use Rattle.tl_coherence.proofs.lines.Delivered.{have-room}
use Rattle.tl_coherence.proofs.flow.Flows.{asked-still}
use Rattle.tl_coherence.proofs.flow.FlowTraces.{taken}

pub delivered-writable : {w : ℕ} (config : Config) (log : Log w) (link : Link) (ch : Channel) (o : Outcome w)
    (x : Beat w)
    → IsGiven config ((Deliver link ch, o) ∷ log) → flow link.0 ((Deliver link ch, o) ∷ log) ≡ x ∷ flow link.0 log
    → IsWritable x
delivered-writable config log link ch o x given flowing =
    All-head IsWritable x (flow link.0 log)
    (subst (All IsWritable) flowing (have-room config ((Deliver link ch, o) ∷ log) given link.0))

-- where no beat is moved there is none without room
still-writable : {w : ℕ} (o : Outcome w) → is_moving o ≡ false → HasLine o
still-writable (outcome.Moved x) e = absurd cc
still-writable (outcome.Done x source f) e = absurd cc
still-writable (outcome.Replied r) e = tt
still-writable outcome.Empty e = tt
still-writable outcome.Stalled e = tt
still-writable outcome.NoSuchClient e = tt

pub writable : {w : ℕ} (config : Config) (log : Log w) (event : Event w) (o : Outcome w)
    → IsGiven config ((event, o) ∷ log) → HasLine o
unfolding flow IsLog
writable config log (Ask client op) o given =
    still-writable o (ap is_moving given.is_log.0 ∙ asked-still config log client op)
writable config log (Deliver link ch) (outcome.Moved x) given = delivered-writable config log link ch (outcome.Moved x)
    x given (taken link x (flow link.0 log))
writable config log (Deliver link ch) (outcome.Done x source f) given =
    delivered-writable config log link ch (outcome.Done x source f) x given (taken link x (flow link.0 log))
writable config log (Deliver link ch) (outcome.Replied r) given = tt
writable config log (Deliver link ch) outcome.Empty given = tt
writable config log (Deliver link ch) outcome.Stalled given = tt
writable config log (Deliver link ch) outcome.NoSuchClient given = tt
