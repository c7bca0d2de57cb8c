-- The lines that explain a breach of a rule between links.
use Rattle.std.specs.Prelude.{ℕ, zero, suc, [], ◌++◌, ◌+◌, ◌*◌, ◌==◌, if◌then◌else◌, codes, List, Option, Some, None}
use Rattle.std.specs.Fmt.{decimal}
use Rattle.tl_beat.specs.declared.beat.BeatD.{BeatD}
use Rattle.tl_beat.specs.declared.channel.Channel.TheVariants as channel
use Rattle.tl_beat.specs.declared.control.Control.{Control}
use Rattle.tl_beat.specs.declared.control.Control.TheVariants as control
use Rattle.tl_beat.specs.statement.Digits.{digits}
use Rattle.tl_params.specs.declared.perm.Perm.{Perm}
use Rattle.tl_rules.specs.statement.OpenMessages.{open_request}
use Rattle.tl_rules.specs.declared.past.Request.{Request}
use Rattle.tl_rules.specs.statement.Conformance.{Trace, on_link}
use Rattle.tl_rules.specs.statement.History.{capped, is_release_ack}
use Rattle.tl_rules.specs.statement.Windows.{leaves, needs}
use Rattle.tl_bytes.specs.statement.Free.{all_liberties, may_hold}
use Rattle.tl_monitor.specs.statement.Granting.{coming}
use Rattle.tl_explain.specs.declared.told.Mention.{Mention}
use Rattle.tl_explain.specs.statement.Evidence.{burst_opening, last_saying_under}
use Rattle.tl_explain.specs.statement.Sentences.{perm_name}
use Rattle.tl_together.specs.statement.Asked.{asked_at}
use Rattle.tl_params.specs.declared.memory_rule.MemoryRule.{MemoryRule}
use Rattle.tl_params.specs.declared.memory_rule.MemoryRule.TheVariants.{M1, M4}
use Rattle.tl_witness.specs.statement.Naming.{Naming}
use Rattle.tl_witness.specs.statement.Strays.{bytes_text}

-- the words for an answer that set a permission: it came before the last beat of the message that it answers
abbrev pub early_text : Control → List ℕ
early_text (control.D x) =
    if is_release_ack x.opcode then codes " (a ReleaseAck before the last beat of its Release)" else []
early_text (control.E x) = codes " (a GrantAck before the last beat of its Grant)"
early_text _ = []

-- the line since which this is so, if a message is cited
abbrev pub since_text : Naming → Option Mention → List ℕ
since_text names None = []
since_text names (Some m) = codes " since line " ++ decimal (names.line m.line) ++ early_text m.control

-- a link holds, or is being granted, this permission of the block, since the cited message
unfoldable pub permission_line : Naming → ℕ → List ℕ → ℕ → Perm → Option Mention → List ℕ
permission_line names link verb block perm since =
    codes "  link " ++ digits 2 link ++ verb ++ perm_name perm ++ codes " of block " ++ names.address (64 * block)
    ++ since_text names since ++ codes "\n"

-- the line for a link, if it holds a permission of the block that conflicts with `given`
abbrev pub holder_text : {w : ℕ} → Naming → ℕ → Perm → ℕ → Trace w → List ℕ
holder_text names link given block t =
    if leaves given (may_hold block (on_link link t)) then [] else
    permission_line names link (codes " holds ") block (may_hold block (on_link link t))
    (last_saying_under all_liberties link block t)

-- A line for each of the first n links that holds such a permission: the permission that the last message on that link
-- left, and the line since which it is held. That is the line of the message's last beat or, if that came first, of the
-- last beat of its answer.
unfoldable pub holders_text : {w : ℕ} → Naming → ℕ → Perm → ℕ → Trace w → List ℕ
holders_text names zero given block t = []
holders_text names (suc n) given block t = holders_text names n given block t ++ holder_text names n given block t

-- the line for a link, if it holds such a permission, or is being granted one: that of its unfinished Grant
abbrev pub conflict_by : {w : ℕ} → Naming → Option Perm → ℕ → Perm → ℕ → Trace w → List ℕ
conflict_by names None link given block t = holder_text names link given block t
conflict_by names (Some perm) link given block t =
    if leaves given perm then [] else
    permission_line names link (codes " is being granted ") block perm (burst_opening link channel.D t)

-- M1: a line for each of the first n links, except its own, that holds or is being granted such a permission
unfoldable pub conflicts_text : {w : ℕ} → Naming → ℕ → ℕ → Perm → ℕ → Trace w → List ℕ
conflicts_text names zero own given block t = []
conflicts_text names (suc n) own given block t =
    conflicts_text names n own given block t
    ++ (if own == n then [] else conflict_by names (coming block (on_link n t)) n given block t)

-- the request was complete in this line
unfoldable pub asked_line : Naming → ℕ → List ℕ
asked_line names n = codes "  its request was complete in line " ++ decimal (names.line n) ++ codes "\n"

-- M4: the line in which the request of the access was complete, and the links that hold a conflicting permission
abbrev pub access_text : {w : ℕ} → Naming → ℕ → ℕ → ℕ → Request → ℕ → Trace w → List ℕ
access_text names n link source asked block t =
    asked_line names (asked_at link source t + 1) ++ holders_text names n (needs asked.opcode) block t

-- ---- the lines for each rule

-- M1: the lines for a Grant that answers this request
abbrev pub grant_grounds : {w : ℕ} → Naming → ℕ → ℕ → BeatD w → Option Request → Trace w → List ℕ
grant_grounds names n link x None t = []
grant_grounds names n link x (Some asked) t = conflicts_text names n link (capped x.param) asked.block t

-- M4: the lines for an answer to this request
abbrev pub access_grounds : {w : ℕ} → Naming → ℕ → ℕ → BeatD w → Option Request → Trace w → List ℕ
access_grounds names n link x None t = []
access_grounds names n link x (Some asked) t = access_text names n link x.source asked asked.block t

-- the lines for a breach of the rule by a beat of a response, after t, on one of n links
abbrev pub grounds_text : {w : ℕ} → Naming → MemoryRule → ℕ → ℕ → BeatD w → Trace w → List ℕ
grounds_text names M1 n link x t = grant_grounds names n link x (open_request x.source (on_link link t)) t
grounds_text names M4 n link x t = access_grounds names n link x (open_request x.source (on_link link t)) t
grounds_text names _ n link x t = bytes_text names x.opcode n link x t
