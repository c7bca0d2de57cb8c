-- The Probes of a world ask for data, so that no report loses what was stored.
use Rattle.std.proofs.Common.{◌≡◌, ℕ, Bool, true, false, ◌&&◌, refl, sym, ◌∙◌, ap}
use Rattle.std.specs.Prelude.{if◌then◌else◌, ◌==◌, None}
use Rattle.tl_beat.specs.declared.beat.Beat.{Beat}
use Rattle.tl_burst.specs.statement.Messages.{History}
use Rattle.tl_params.specs.declared.config.Config.{Config}
use Rattle.tl_params.specs.declared.key.Key.{Key}
use Rattle.tl_rules.specs.statement.History.{block_at}
unfoldable use Rattle.tl_rules.specs.statement.Conformance.{on_link}
unfoldable use Rattle.tl_rules.specs.statement.History.{pending, probe_of}
use Rattle.tl_rules.specs.statement.OpenMessages.{open_probe, probe_fields}
use Rattle.tl_coherence.specs.refinement.SimulationRelation.{MonitorRelations}
unfoldable use Rattle.tl_coherence.specs.statement.Flow.{flow, trace_of}
use Rattle.tl_coherence.specs.statement.Headline.{IsGiven}
use Rattle.tl_coherence.specs.statement.Log.{Log}
unfoldable use Rattle.tl_coherence.specs.statement.Log.{system_after}
use Rattle.tl_coherence.proofs.deliveries.Matching.{shadow}
use Rattle.tl_coherence.proofs.flow.FlowTraces.{trace-flows}
use Rattle.tl_coherence.proofs.flow.Flows.{flowed}
use Rattle.tl_commits.specs.statement.Seen.{asks_nothing, is_plain_ack, loses_stores}

pub asks-data : {w : ℕ} (config : Config) (log : Log w) → IsGiven config log → (c n : ℕ)
    → asks_nothing (open_probe n (on_link c (trace_of log))) ≡ false
asks-data {w} config log given c n = ap (λ (t : History w). asks_nothing (open_probe n t)) (trace-flows c log)
    ∙ go (pending (Key.ProbeOf n) (flow c log)) refl
  where
    values : MonitorRelations log (shadow config log).mail (shadow config log).state (system_after config log)
    values = flowed config log given.width given.typed given.is_log

    go : (b : Bool) → pending (Key.ProbeOf n) (flow c log) ≡ b
        → asks_nothing (if b then probe_fields (probe_of n (flow c log)) else None) ≡ false
    go false e = refl
    go true e = rw ((values c).probed n (sym ((values c).probes n) ∙ e)) refl

pub loses-none : {w : ℕ} (block : ℕ) (x : Beat w) (past : History w) → asks_nothing (open_probe block past) ≡ false
    → loses_stores block x past ≡ false
loses-none block (Beat.C x) past e = rw e (off (is_plain_ack x.opcode && (block_at x.address == block)))
  where
    off : (a : Bool) → (a && false) ≡ false
    off true = refl
    off false = refl
loses-none block (Beat.A x) past e = refl
loses-none block (Beat.B x) past e = refl
loses-none block (Beat.D x) past e = refl
loses-none block (Beat.E x) past e = refl
