-- The rules between the links of a manager, over the one trace of all their beats.
use Rattle.std.specs.Prelude.{ℕ, zero, suc, Bool, true, false, [], ◌∷◌, ◌==◌, ◌&&◌, ◌||◌, if◌then◌else◌, List, length}
use Rattle.std.specs.Prelude.{Option, Some, None}
use Rattle.tl_beat.specs.declared.beat.Beat.{Beat}
use Rattle.tl_beat.specs.declared.beat.Beat.TheVariants as beat
use Rattle.tl_beat.specs.declared.beat.BeatD.{BeatD}
use Rattle.tl_beat.specs.declared.beat.Link.{Link}
use Rattle.tl_beat.specs.declared.opcode.OpD.{OpD}
use Rattle.tl_beat.specs.declared.opcode.OpD.TheVariants as d
use Rattle.tl_params.specs.declared.level.Level.{Level}
use Rattle.tl_params.specs.declared.perm.Perm.{Perm}
use Rattle.tl_params.specs.declared.liberties.Liberties.{Liberties}
use Rattle.tl_params.specs.declared.rule.Rule.{Rule}
use Rattle.tl_rules.specs.statement.OpenMessages.{open_request}
use Rattle.tl_rules.specs.declared.past.Request.{Request}
use Rattle.tl_rules.specs.statement.Conformance.{Trace, on_link}
use Rattle.tl_rules.specs.statement.History.{begins, is_grant, capped}
use Rattle.tl_rules.specs.statement.Liberties.{broken_on_link_under}
use Rattle.tl_rules.specs.statement.Windows.{leaves, needs}
use Rattle.tl_monitor.specs.statement.Granting.{granted_under}
use Rattle.tl_bytes.specs.statement.Bytes.{is_true}
use Rattle.tl_bytes.specs.statement.Free.{all_liberties}
use Rattle.tl_bytes.specs.statement.Shown.{had_window}
use Rattle.tl_params.specs.declared.memory_rule.MemoryRule.{MemoryRule}
use Rattle.tl_params.specs.declared.memory_rule.MemoryRule.TheVariants.{M1, M2, M3, M4}
use Rattle.tl_together.specs.declared.breach.Breach.{Breach}
use Rattle.tl_together.specs.declared.breach.Breach.TheVariants.{OfLink, OfMemory}

-- the opcode is of an answer to an access
abbrev pub is_access_ack : OpD → Bool
is_access_ack d.AccessAck = true
is_access_ack d.AccessAckData = true
is_access_ack _ = false

-- ---- the rules of memory

-- None of the first n links but this one holds, or is being granted, a permission of the block that conflicts with the
-- given one. A Grant counts as held from its first beat on.
unfoldable pub is_grantable : {w : ℕ} → ℕ → ℕ → Perm → ℕ → Trace w → Bool
is_grantable zero link given block t = true
is_grantable (suc n) link given block t =
    is_grantable n link given block t && ((link == n) || leaves given (granted_under all_liberties block (on_link n t)))

-- M1, at the first beat of a Grant that answers this request: another link holds, or is being granted, a permission
-- that conflicts with the cap
abbrev pub broken_grant : {w : ℕ} → ℕ → ℕ → BeatD w → Option Request → Trace w → Option MemoryRule
broken_grant n link x None t = None
broken_grant n link x (Some asked) t = if is_grantable n link (capped x.param) asked.block t
    then None else Some M1

-- M4, at the first beat of the answer to an access: the access has had no window
abbrev pub broken_access : {w : ℕ} → ℕ → ℕ → BeatD w → Option Request → Trace w → Option MemoryRule
broken_access n link x None t = None
broken_access n link x (Some asked) t = if had_window n link x.source (needs asked.opcode) asked.block t then None else
    Some M4

-- the rule of memory that a response breaks by beginning after t; a denied one breaks none
abbrev pub broken_response : {w : ℕ} → ℕ → ℕ → BeatD w → Trace w → Option MemoryRule
broken_response n link x t =
    if x.denied then None else
    if is_grant x.opcode then broken_grant n link x (open_request x.source (on_link link t)) t else
    if is_access_ack x.opcode then broken_access n link x (open_request x.source (on_link link t)) t else None

-- the same for any beat of a response: none if the beat doesn't begin it
abbrev pub broken_beginning : {w : ℕ} → ℕ → ℕ → BeatD w → Trace w → Option MemoryRule
broken_beginning n link x t = if begins (beat.D x) (on_link link t) then broken_response n link x t else None

-- the rule for the bytes of a response with this opcode
abbrev pub rule_of_bytes : OpD → MemoryRule
rule_of_bytes d.GrantData = M2
rule_of_bytes _ = M3

-- M2 and M3, at each beat of a response with data: its bytes aren't true
abbrev pub broken_bytes : {w : ℕ} → ℕ → ℕ → BeatD w → Trace w → Option MemoryRule
broken_bytes n link x t = if is_true x.opcode n link x t then None else Some (rule_of_bytes x.opcode)

-- the first rule, or the other if there is no first
abbrev pub memory_rule_or : Option MemoryRule → Option MemoryRule → Option MemoryRule
memory_rule_or None other = other
memory_rule_or (Some rule) other = Some rule

-- the rule of memory that a beat breaks after t, on one of n links: M1 and M4 come before M2 and M3
abbrev pub broken_memory : {w : ℕ} → ℕ → ℕ → Beat w → Trace w → Option MemoryRule
broken_memory n link (beat.D x) t = memory_rule_or (broken_beginning n link x t) (broken_bytes n link x t)
broken_memory n link _ t = None

-- ---- all rules together

-- the breach of a beat, by the rule of its link and the rule of memory that it breaks: the rule of its link comes first
abbrev pub first_broken : Option Rule → Option MemoryRule → Option Breach
first_broken (Some rule) memory = Some (OfLink rule)
first_broken None (Some rule) = Some (OfMemory rule)
first_broken None None = None

-- the first rule that a beat breaks after t, which has the beats taken before it on all links, the newest first; the
-- links have these liberties, and the rules of the beat's link come first
abbrev pub broken_together : {w : ℕ} → List Level → Liberties → Link × Beat w → Trace w → Option Breach
broken_together levels l x t = first_broken (broken_on_link_under l levels x t) (broken_memory (length levels) x.0.0 x.1 t)

-- the rule of memory, unless it is M2 or M3
abbrev pub but_bytes : Option MemoryRule → Option MemoryRule
but_bytes (Some M2) = None
but_bytes (Some M3) = None
but_bytes rule = rule

-- the first rule that a beat breaks apart from M2 and M3: a response may bring any bytes
abbrev pub broken_but_bytes : {w : ℕ} → List Level → Liberties → Link × Beat w → Trace w → Option Breach
broken_but_bytes levels l x t =
    first_broken (broken_on_link_under l levels x t) (but_bytes (broken_memory (length levels) x.0.0 x.1 t))

-- a breach at place i, or the first one of the rest if there is none
abbrev pub breach_or : Option Breach → ℕ → Option (ℕ × Breach) → Option (ℕ × Breach)
breach_or None i rest = rest
breach_or (Some breach) i rest = Some (i, breach)

-- The place and the rule of the first beat of `trace` that breaks a rule. `before` has the beats before these, the
-- newest first; in `trace` the next one is first.
unfoldable pub breach_from : {w : ℕ} → List Level → Liberties → Trace w → Trace w → Option (ℕ × Breach)
breach_from levels l before [] = None
breach_from levels l before (x ∷ trace) =
    breach_or (broken_together levels l x before) (length before) (breach_from levels l (x ∷ before) trace)

-- the place of the first beat of a trace that breaks a rule, with the rule
abbrev pub first_breach : {w : ℕ} → List Level → Liberties → Trace w → Option (ℕ × Breach)
first_breach levels l trace = breach_from levels l [] trace
