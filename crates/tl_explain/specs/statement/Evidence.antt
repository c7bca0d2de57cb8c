-- The evidence for a verdict: the messages of a trace that opened and closed a key, and the message that left the
-- permission held.
use Rattle.std.specs.Prelude.{ℕ, Bool, true, false, [], ◌∷◌, ◌==◌, ◌&&◌, ◌+◌, if◌then◌else◌, length, nat_le}
use Rattle.std.specs.Prelude.{Option, Some, None, is_some}
use Rattle.tl_beat.specs.declared.beat.Beat.{Beat}
use Rattle.tl_beat.specs.declared.beat.Link.{Link}
use Rattle.tl_beat.specs.declared.channel.Channel.{Channel}
use Rattle.tl_burst.specs.statement.Messages.{on, unfinished}
use Rattle.tl_burst.specs.statement.Part.{is_empty}
use Rattle.tl_params.specs.declared.key.Key.{Key}
use Rattle.tl_params.specs.declared.liberties.Liberties.{Liberties}
use Rattle.tl_params.specs.declared.perm.Perm.{Perm}
use Rattle.tl_params.specs.declared.perm.Perm.TheVariants as perm
use Rattle.tl_rules.specs.statement.Conformance.{Trace, on_link}
use Rattle.tl_rules.specs.statement.History.{begins, ends, opens, closes, says_held, reported, capped}
use Rattle.tl_rules.specs.statement.Liberties.{says_held_under}
use Rattle.tl_beat.specs.statement.Control.{control_of}
use Rattle.tl_beat.specs.declared.control.Control.{Control}
use Rattle.tl_beat.specs.declared.control.Control.TheVariants as control
use Rattle.tl_explain.specs.declared.told.Mention.{Mention}
use Rattle.tl_explain.specs.declared.told.Told.{Told}

-- A beat is cited by its control fields and the number of its line. Line 1 is the header, so this is the number of the
-- line after the beats of t.
abbrev pub next_line : {w : ℕ} → Trace w → ℕ
next_line t = length t + 2

-- the beat x after t, as it is cited
abbrev pub told : {w : ℕ} → Link × Beat w → Trace w → Mention
told x t = record { line = next_line t; control = control_of x.1 }

-- the last beat, as it is cited, for which the test is true after the beats before it
unfoldable pub last_where : {w : ℕ} → (Link × Beat w → Trace w → Bool) → Trace w → Option Mention
last_where is [] = None
last_where is (x ∷ t) = if is x t then Some (told x t) else last_where is t

-- the citation without its spelling
abbrev pub mention_of : Option Told → Option Mention
mention_of None = None
mention_of (Some m) = Some m.mention

-- ---- the last message of link n that opened a key, and the last that closed it

-- the beat x after t begins a message on link n that opens the key
abbrev pub is_opening : {w : ℕ} → ℕ → Key → Link × Beat w → Trace w → Bool
is_opening n k x t = (x.0.0 == n) && (begins x.1 (on_link n t) && opens k x.1 (on_link n t))

-- the beat x after t completes a message on link n that closes the key
abbrev pub is_closing : {w : ℕ} → ℕ → Key → Link × Beat w → Trace w → Bool
is_closing n k x t = (x.0.0 == n) && (ends x.1 (on_link n t) && closes k x.1 (on_link n t))

-- the last message that opened the key on link n
abbrev pub last_opening : {w : ℕ} → ℕ → Key → Trace w → Option Mention
last_opening n k t = last_where (is_opening n k) t

-- the last message that closed the key on link n
abbrev pub last_closing : {w : ℕ} → ℕ → Key → Trace w → Option Mention
last_closing n k t = last_where (is_closing n k) t

-- the key is open: it has an opening, and no closing after that
abbrev pub is_open : Option (Mention) → Option (Mention) → Bool
is_open None closing = false
is_open (Some opening) None = true
is_open (Some opening) (Some closing) = nat_le closing.line opening.line

-- ---- the message that left the permission that link n holds of block k

-- the beat x after t completes a message on link n that sets the permission of block k
abbrev pub is_saying : {w : ℕ} → ℕ → ℕ → Link × Beat w → Trace w → Bool
is_saying n k x t = (x.0.0 == n) && (ends x.1 (on_link n t) && is_some (says_held k x.1 (on_link n t)))

-- the last message that set the permission of block k on link n
abbrev pub last_saying : {w : ℕ} → ℕ → ℕ → Trace w → Option Mention
last_saying n k t = last_where (is_saying n k) t

-- the same for a link with these liberties: the permission of the block that this beat sets, if it completes a message
-- that sets one
abbrev pub said_under : {w : ℕ} → Liberties → ℕ → ℕ → Link × Beat w → Trace w → Option Perm
said_under l n k x t =
    if (x.0.0 == n) && ends x.1 (on_link n t) then says_held_under l k x.1 (on_link n t) else None

-- the beat x after t sets the permission of block k on link n, which has these liberties
abbrev pub is_saying_under : {w : ℕ} → Liberties → ℕ → ℕ → Link × Beat w → Trace w → Bool
is_saying_under l n k x t = is_some (said_under l n k x t)

-- the last message that set the permission of block k on link n, which has these liberties
abbrev pub last_saying_under : {w : ℕ} → Liberties → ℕ → ℕ → Trace w → Option Mention
last_saying_under l n k t = last_where (is_saying_under l n k) t

-- the permission that a Grant, ProbeAck or Release leaves
abbrev pub left_by : Control → Perm
left_by (control.C x) = reported x.param
left_by (control.D x) = capped x.param
left_by _ = perm.None

-- the permission that the cited message leaves; None if none is cited
abbrev pub left_of : Option (Mention) → Perm
left_of None = perm.None
left_of (Some said) = left_by said.control

-- ---- the first beat of the unfinished burst on a channel of link n

-- this beat, as it is cited; None if no burst is unfinished
unfoldable pub burst_opening : {w : ℕ} → ℕ → Channel → Trace w → Option (Mention)
burst_opening n ch [] = None
burst_opening n ch (x ∷ t) =
    if (x.0.0 == n) && on ch x.1
    then (if is_empty (unfinished ch (on_link n (x ∷ t))) then None else if is_empty (unfinished ch (on_link n t)) then
    Some (told x t) else burst_opening n ch t)
    else burst_opening n ch t
