-- The place of a cited message in a trace, and that no later message changes the claim. Traces have the newest beat
-- first: in `later ++ x ∷ earlier` the beats `later` come after x.
use Rattle.std.specs.Prelude.{ℕ, Bool, true, false, List, [], ◌∷◌, ◌++◌, ◌≡◌, ◌<◌, ⊤, Option, Some, None}
use Rattle.tl_beat.specs.declared.beat.Beat.{Beat}
use Rattle.tl_beat.specs.declared.beat.Link.{Link}
use Rattle.tl_beat.specs.declared.channel.Channel.{Channel}
use Rattle.tl_burst.specs.statement.Messages.{carried_on, on, unfinished}
use Rattle.tl_params.specs.declared.key.Key.{Key}
use Rattle.tl_params.specs.declared.liberties.Liberties.{Liberties}
use Rattle.tl_params.specs.declared.perm.Perm.{Perm}
use Rattle.tl_params.specs.declared.perm.Perm.TheVariants as perm
use Rattle.tl_rules.specs.statement.Conformance.{Trace, on_link}
use Rattle.tl_rules.specs.statement.History.{begins, held}
use Rattle.tl_rules.specs.statement.Liberties.{held_under}
use Rattle.tl_explain.specs.declared.told.Mention.{Mention}
use Rattle.tl_explain.specs.statement.Evidence.{told, is_opening, is_closing, is_saying, is_saying_under, left_by}
use Rattle.tl_explain.specs.statement.Evidence.{said_under}

-- the test is false of each of the beats `later`, which come after those of t
unfoldable pub HasNone : {w : ℕ} → (Link × Beat w → Trace w → Bool) → Trace w → Trace w → Type 0
HasNone is [] t = ⊤
HasNone is (x ∷ later) t = (is x (later ++ t) ≡ false) × HasNone is later t

-- the test is true of the cited beat, and false of each beat after it
abbrev pub IsLast : {w : ℕ} → (Link × Beat w → Trace w → Bool) → Mention → Trace w → Type 0
IsLast {w} is m t =
    (later : Trace w) × (x : Link × Beat w) × (earlier : Trace w) × (t ≡ later ++ x ∷ earlier) × (m ≡ told x earlier)
    × (is x earlier ≡ true)
    × HasNone is later (x ∷ earlier)

-- the cited beat is the last for which the test is true; if none is cited there is none
abbrev pub IsLastIfAny : {w : ℕ} → (Link × Beat w → Trace w → Bool) → Option Mention → Trace w → Type 0
IsLastIfAny is None t = HasNone is t []
IsLastIfAny is (Some m) t = IsLast is m t

-- the cited message opened the key on link n, and no later message opened or closed it
abbrev pub IsPendingSince : {w : ℕ} → ℕ → Key → Mention → Trace w → Type 0
IsPendingSince {w} n k m t =
    (later : Trace w) × (x : Link × Beat w) × (earlier : Trace w) × (t ≡ later ++ x ∷ earlier) × (m ≡ told x earlier)
    × (is_opening n k x earlier ≡ true) × HasNone (is_opening n k) later (x ∷ earlier) × HasNone (is_closing n k) later
    (x ∷ earlier)

-- no message has opened the key on link n
abbrev pub IsNeverOpened : {w : ℕ} → ℕ → Key → Trace w → Type 0
IsNeverOpened n k t = HasNone (is_opening n k) t []

-- the first message was the last that opened the key on link n, and the second, after it, the last that closed it
abbrev pub IsClosedBy : {w : ℕ} → ℕ → Key → Mention → Mention → Trace w → Type 0
IsClosedBy n k opening closing t = IsLast (is_opening n k) opening t × IsLast (is_closing n k) closing t
    × (opening.line < closing.line)

-- Link n holds the permission p of block k since this message, and no later message sets the permission. If no message
-- is cited, none has set it, and p is None.
abbrev pub IsHeldSince : {w : ℕ} → ℕ → ℕ → Perm → Option Mention → Trace w → Type 0
IsHeldSince n k p None t = (p ≡ held k (on_link n t)) × (p ≡ perm.None) × HasNone (is_saying n k) t []
IsHeldSince n k p (Some m) t = (p ≡ held k (on_link n t)) × (p ≡ left_by m.control) × IsLast (is_saying n k) m t

-- the cited message sets the permission p of block k on link n, which has these liberties, and no later message sets
-- one
abbrev pub IsSaidBy : {w : ℕ} → Liberties → ℕ → ℕ → Perm → Mention → Trace w → Type 0
IsSaidBy {w} l n k p m t =
    (later : Trace w) × (x : Link × Beat w) × (earlier : Trace w) × (t ≡ later ++ x ∷ earlier) × (m ≡ told x earlier)
    × (said_under l n k x earlier ≡ Some p) × HasNone (is_saying_under l n k) later (x ∷ earlier)

-- the same on a link with these liberties
abbrev pub IsHeldSinceUnder : {w : ℕ} → Liberties → ℕ → ℕ → Perm → Option Mention → Trace w → Type 0
IsHeldSinceUnder l n k p None t =
    (p ≡ held_under l k (on_link n t)) × (p ≡ perm.None) × HasNone (is_saying_under l n k) t []
IsHeldSinceUnder l n k p (Some m) t = (p ≡ held_under l k (on_link n t)) × IsSaidBy l n k p m t

-- the unfinished burst on a channel of link n began with the cited beat, and has the beats of the channel from there on
abbrev pub IsBurstSince : {w : ℕ} → ℕ → Channel → List (Beat w) → Mention → Trace w → Type 0
IsBurstSince {w} n ch burst m t =
    (later : Trace w) × (x : Link × Beat w) × (earlier : Trace w) × (t ≡ later ++ x ∷ earlier) × (m ≡ told x earlier)
    × (x.0.0 ≡ n) × (on ch x.1 ≡ true) × (begins x.1 (on_link n earlier) ≡ true)
    × (unfinished ch (on_link n t) ≡ burst) × (burst ≡ carried_on ch (on_link n later) ++ x.1 ∷ [])
