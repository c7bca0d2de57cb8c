-- The L rules under liberties, by fields that a liberty excuses.
use Rattle.std.proofs.Common.{◌≡◌, ℕ, Bool, true, false, ◌&&◌, ◌||◌, refl, sym, ap, ◌∙◌, inl, inr, arith}
use Rattle.std.specs.Prelude.{not, ◌==◌, is_some, Option, Some, None, if◌then◌else◌}
use Rattle.std.specs.Option.{option_or}
use Rattle.std.proofs.lemmas.Bool.{cases_Bool}
use Rattle.std.proofs.lemmas.Bool.Decides.{nat_tests}
use Rattle.tl_beat.specs.declared.channel.Channel.{Channel}
use Rattle.tl_beat.specs.declared.channel.Channel.TheVariants as channel
use Rattle.tl_beat.specs.declared.beat.Beat.{Beat}
use Rattle.tl_beat.specs.declared.beat.BeatB.{BeatB}
use Rattle.tl_beat.specs.declared.beat.BeatC.{BeatC}
use Rattle.tl_beat.specs.declared.beat.BeatD.{BeatD}
use Rattle.tl_beat.specs.declared.beat.Beat.TheVariants.{A, B, C, D, E}
use Rattle.tl_beat.specs.declared.opcode.OpC.{OpC}
use Rattle.tl_beat.specs.declared.opcode.OpC.TheVariants as c
use Rattle.tl_beat.specs.declared.opcode.OpD.{OpD}
use Rattle.tl_beat.specs.declared.opcode.OpD.TheVariants as d
use Rattle.tl_params.specs.declared.level.Level.{Level}
use Rattle.tl_params.specs.declared.liberties.Liberties.{Liberties}
use Rattle.tl_params.specs.declared.param.Report.TheVariants as report
use Rattle.tl_params.specs.statement.Liberties.{no_liberties}
use Rattle.tl_params.specs.statement.Param.{prune_of, report_code, report_named}
use Rattle.tl_rules.specs.statement.Legality.{c_has_param, c_has_source, d_has_sink, illegal, may_be_denied}
use Rattle.tl_rules.specs.statement.Liberties.{c_has_param_under, illegal_under, may_be_denied_under}
use Rattle.tl_rules.specs.code.Control.{b_control, b_own, c_control, c_own, d_control, d_own}
use Rattle.tl_rules.specs.code.Excused.{excused_denied, excused_param, excused_probe_source, excused_sink, excused_source}
use Rattle.tl_rules.proofs.Verdicts.{or-first_if}

-- ---- field by field

probe_source : (ids : Bool) (source : ℕ) → (ids || (source == 0)) ≡ ((if ids then 0 else source) == 0)
probe_source true source = refl
probe_source false source = refl

always : (b : Bool) → (b || true) ≡ true
always true = refl
always false = refl

source_is : (l : Liberties) (opcode : OpC) (source : ℕ)
    → (l.ids || c_has_source opcode source) ≡ c_has_source opcode (excused_source l opcode source)
source_is l c.ProbeAck source = probe_source l.ids source
source_is l c.ProbeAckData source = probe_source l.ids source
source_is l c.AccessAck source = always l.ids
source_is l c.AccessAckData source = always l.ids
source_is l c.HintAck source = always l.ids
source_is l c.Release source = always l.ids
source_is l c.ReleaseData source = always l.ids

-- what is no report is no prune
no_prune : (n : ℕ) → is_some (report_named n) ≡ false → is_some (prune_of n) ≡ false
no_prune n e = grind (arith, nat_tests)

release_param : (reports : Bool) (param : ℕ)
    → (if reports then is_some (report_named param) else is_some (prune_of param))
    ≡ is_some (prune_of (if reports && is_some (report_named param) then 2 else param))
release_param false param = refl
release_param true param = elim (cases_Bool (is_some (report_named param))) [
  | inl named ↦ rw named refl
  | inr none ↦ rw (none, no_prune param none) refl
]

data_param : (reports : Bool) (param : ℕ)
    → ((reports && (param == 3)) || c_has_param c.ReleaseData param)
    ≡ c_has_param c.ReleaseData (if reports && (param == 3) then 1 else param)
data_param false param = refl
data_param true param = elim (cases_Bool (param == 3)) [
  | inl three ↦ rw three refl
  | inr other ↦ rw other refl
]

param_is : (l : Liberties) (opcode : OpC) (param : ℕ)
    → c_has_param_under l opcode param ≡ c_has_param opcode (excused_param l opcode param)
param_is l c.Release param = release_param l.reports param
param_is l c.ReleaseData param = data_param l.reports param
param_is l c.AccessAck param = refl
param_is l c.AccessAckData param = refl
param_is l c.HintAck param = refl
param_is l c.ProbeAck param = refl
param_is l c.ProbeAckData param = refl

sink_is : (l : Liberties) (opcode : OpD) (sink : ℕ)
    → (l.sinks || d_has_sink opcode sink) ≡ d_has_sink opcode (excused_sink l sink)
sink_is l d.Grant sink = always l.sinks
sink_is l d.GrantData sink = always l.sinks
sink_is l d.AccessAck sink = probe_source l.sinks sink
sink_is l d.AccessAckData sink = probe_source l.sinks sink
sink_is l d.HintAck sink = probe_source l.sinks sink
sink_is l d.ReleaseAck sink = probe_source l.sinks sink

excuses : (denied allowed before : Bool)
    → (denied && not (allowed || before)) ≡ ((denied && not allowed) && not before)
excuses true true before = refl
excuses true false before = refl
excuses false allowed before = refl

excuses_own : (denied allowed : Bool) → (denied && not allowed) ≡ ((denied && not allowed) && true)
excuses_own true true = refl
excuses_own true false = refl
excuses_own false allowed = refl

excuses_none : (denied before : Bool) → (denied && not before) ≡ ((denied && true) && not before)
excuses_none true before = refl
excuses_none false before = refl

denied_is : (l : Liberties) (opcode : OpD) (denied corrupt : Bool)
    → (denied && not (may_be_denied_under l opcode corrupt))
    ≡ (excused_denied l opcode denied corrupt && not (may_be_denied opcode corrupt))
denied_is l d.AccessAckData denied corrupt = excuses denied l.uncorrupt corrupt
denied_is l d.Grant denied corrupt = excuses_own denied l.denied
denied_is l d.GrantData denied corrupt = excuses_own denied (l.denied && corrupt)
denied_is l d.AccessAck denied corrupt = excuses_none denied true
denied_is l d.HintAck denied corrupt = excuses_none denied true
denied_is l d.ReleaseAck denied corrupt = excuses_none denied false

-- ---- channel by channel

pub illegal_under_b : {w : ℕ} (l : Liberties) (level : Level) (x : BeatB w)
    → illegal_under l level channel.B (B x)
    ≡ option_or (b_control level x.opcode x.param x.size (excused_probe_source l x.source) x.address)
    (b_own w x.opcode x.size x.address x.mask x.corrupt)
unfolding illegal_under
illegal_under_b {w} l level x = rw (probe_source l.ids x.source) (sym (simp or-first_if))

pub illegal_under_c : {w : ℕ} (l : Liberties) (level : Level) (x : BeatC w)
    → illegal_under l level channel.C (C x)
    ≡ option_or (c_control level x.opcode (excused_param l x.opcode x.param) x.size
    (excused_source l x.opcode x.source) x.address) (c_own x.opcode x.corrupt)
unfolding illegal_under
illegal_under_c {w} l level x =
    rw (source_is l x.opcode x.source, param_is l x.opcode x.param) (sym (simp or-first_if))

pub illegal_under_d : {w : ℕ} (l : Liberties) (level : Level) (x : BeatD w)
    → illegal_under l level channel.D (D x)
    ≡ option_or (d_control w level x.opcode x.param x.size (excused_sink l x.sink))
    (d_own x.opcode (excused_denied l x.opcode x.denied x.corrupt) x.corrupt)
unfolding illegal_under
illegal_under_d {w} l level x =
    rw (sink_is l x.opcode x.sink, denied_is l x.opcode x.denied x.corrupt) (sym (simp or-first_if))
