-- What a judgement is in a call's answer.
use Rattle.std.specs.Prelude.{ℕ, Bool, true, false, Option, None, Result, Ok, Err}
use Rattle.tl_beat.specs.declared.beat.Beat.{Beat}
use Rattle.tl_beat.specs.declared.beat.Link.{Link}
use Rattle.tl_beat.specs.statement.First.{first_if}
use Rattle.tl_params.specs.declared.config.Config.{Config}
use Rattle.tl_params.specs.declared.rule.Rule.{Rule}
use Rattle.tl_params.specs.declared.rule.Rule.TheVariants.{A1, A2}
use Rattle.tl_rules.specs.statement.Admission.{is_outside, is_spoiled}
use Rattle.tl_rules.specs.statement.Conformance.{Trace, on_link, broken_in_order}
use Rattle.tl_manager.specs.statement.Offer.{Judgement, Breaks, Waits, Passes, breaks_or, waits_or, before_stall}
use Rattle.tl_manager.specs.statement.Offer.{must_wait}
use Rattle.tl_manager.specs.declared.manager.admission.Admission.{Admission}
use Rattle.tl_manager.specs.declared.manager.admission.Admission.TheVariants as admission

abbrev pub admission_of : Judgement → Result Admission Rule
admission_of (Breaks rule) = Err rule
admission_of Waits = Ok admission.Waits
admission_of Passes = Ok admission.Passes

-- by the rule of order that is broken, and whether the beat has to wait, is outside of the map, and is spoiled
abbrev pub judged_by : Option Rule → Bool → Bool → Bool → Judgement
judged_by broken waits outside spoiled =
    breaks_or (before_stall broken)
    (waits_or waits (breaks_or broken (breaks_or (first_if outside A1 (first_if spoiled A2 None)) Passes)))

-- of a beat that breaks no L rule
abbrev pub judged_in_order : {w : ℕ} → Config → Link → Beat w → Trace w → Judgement
judged_in_order config link x t =
    judged_by (broken_in_order config.profile x (on_link link.0 t)) (must_wait config link x t)
    (is_outside config.blocks x) (is_spoiled x)

-- the answer is that the beat waits
abbrev pub is_stall : Result Admission Rule → Bool
is_stall (Ok admission.Waits) = true
is_stall (Ok admission.Passes) = false
is_stall (Err rule) = false
