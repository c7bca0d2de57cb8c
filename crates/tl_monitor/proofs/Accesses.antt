-- What the first beats of accesses and of their answers break of the order of messages.
use Rattle.std.proofs.Common.{◌≡◌, ℕ, Bool, true, false, refl, sym, ◌∙◌}
use Rattle.std.specs.Prelude.{not, ◌&&◌, ◌==◌, Option, Some, None, is_some, if◌then◌else◌}
use Rattle.tl_beat.specs.declared.beat.Beat.{Beat}
use Rattle.tl_beat.specs.declared.beat.Beat.TheVariants.{A, D}
use Rattle.tl_beat.specs.declared.beat.BeatA.{BeatA}
use Rattle.tl_beat.specs.declared.beat.BeatD.{BeatD}
use Rattle.tl_beat.specs.declared.channel.Channel.TheVariants as channel
use Rattle.tl_beat.specs.declared.opcode.OpD.{OpD}
use Rattle.tl_beat.specs.declared.opcode.OpD.TheVariants as d
use Rattle.tl_beat.specs.statement.First.{first_if}
use Rattle.tl_burst.specs.statement.Messages.{History, unfinished}
use Rattle.tl_params.specs.declared.key.Key.TheVariants.{RequestSource}
use Rattle.tl_params.specs.declared.liberties.Liberties.{Liberties}
use Rattle.tl_params.specs.declared.rule.Rule.TheVariants.{H1, H2, H3}
use Rattle.tl_rules.specs.declared.past.Request.{Request}
use Rattle.tl_rules.specs.statement.History.{is_acquire, is_grant, is_release_ack, pending, request_of}
use Rattle.tl_rules.specs.statement.Conformance.{admits, answers, comes_in_request}
use Rattle.tl_rules.specs.statement.Liberties.{broken_in_order_under, broken_order_under}
use Rattle.tl_rules.specs.code.Open.{open_request_under, request_fields}
use Rattle.tl_rules.proofs.Open.{answered}
use Rattle.tl_monitor.specs.statement.Count.{at}
use Rattle.tl_monitor.specs.code.LinkState.{is_access, is_first}
use Rattle.tl_monitor.specs.code.Keeps.{Keeps}
use Rattle.tl_monitor.specs.declared.link_state.LinkState.{LinkState}
use Rattle.tl_monitor.proofs.Keeping.{begins-is}
use Rattle.tl_monitor.proofs.LooksUp.{request-pending}

pub begun : {w : ℕ} (k : LinkState) (x : Beat w) (lib : Liberties) (t : History w) → Keeps lib k t → is_first x k ≡ true
    → broken_in_order_under lib x t ≡ broken_order_under lib x t
begun k x lib t keeps first = rw (begins-is k x t keeps, first) refl

-- of a request that bears on no block its source is asked alone
pub request-rule : {w : ℕ} (k : LinkState) (x : Beat w) (y : BeatA w) (lib : Liberties) (t : History w) (taken : Bool)
    → Keeps lib k t → is_first x k ≡ true → x ≡ A y → is_acquire y.opcode ≡ false
    → is_some (at k.requests y.source) ≡ taken → first_if taken H1 None ≡ broken_in_order_under lib x t
unfolding broken_order_under
request-rule k x y lib t taken keeps first own access is =
    sym (begun k x lib t keeps first ∙ rw (own, access, ← request-pending k t y.source keeps, is) refl)

no-transfer : (opcode : OpD) → is_access opcode ≡ true → (is_grant opcode ≡ false) × (is_release_ack opcode ≡ false)
no-transfer d.AccessAck e = (refl, refl)
no-transfer d.AccessAckData e = (refl, refl)
no-transfer d.HintAck e = (refl, refl)
no-transfer d.Grant e = absurd cc
no-transfer d.GrantData e = absurd cc
no-transfer d.ReleaseAck e = absurd cc

unasked : {w : ℕ} (opcode : OpD) (before comes : Bool) (o : Option (BeatA w))
    → None ≡ (if before && not comes then request_fields o else None)
    → (before && (not comes && admits opcode o)) ≡ false
unasked opcode true false None e = refl
unasked opcode true false (Some x) e = absurd cc
unasked opcode true true o e = refl
unasked opcode false comes o e = refl

-- an answer to no request that is open
pub answer-none : {w : ℕ} (k : LinkState) (x : Beat w) (y : BeatD w) (lib : Liberties) (t : History w) → Keeps lib k t
    → is_first x k ≡ true → x ≡ D y → is_access y.opcode ≡ true → None ≡ open_request_under lib y.source t
    → Some H2 ≡ broken_in_order_under lib x t
unfolding broken_order_under
answer-none k x y lib t keeps first own access none =
    let ack = (no-transfer y.opcode access).1 in
    let unasked = unasked y.opcode (pending (RequestSource y.source) t)
    (not lib.early && comes_in_request y.source (unfinished channel.A t)) (request_of y.source t) none in
    sym (begun k x lib t keeps first ∙ rw (own, ack, unasked) refl)

-- an answer that bears on no block, to an open request
pub answer-rule : {w : ℕ} (k : LinkState) (x : Beat w) (y : BeatD w) (r : Request) (lib : Liberties) (t : History w)
    (fits same : Bool) → Keeps lib k t → is_first x k ≡ true → x ≡ D y → is_access y.opcode ≡ true
    → Some r ≡ open_request_under lib y.source t → answers y.opcode r.opcode ≡ fits → (y.size == r.size) ≡ same
    → first_if (not fits) H2 (first_if (not same) H3 None) ≡ broken_in_order_under lib x t
unfolding broken_order_under
answer-rule k x y r lib t fits same keeps first own access some fit size =
    let other = no-transfer y.opcode access in
    sym (begun k x lib t keeps first ∙ rw own (answered y t lib r other.1 some ∙ rw (fit, size, other.0) refl))
