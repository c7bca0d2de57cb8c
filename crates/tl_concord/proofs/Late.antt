-- In a world no answer begins before the message that it answers is complete, so that the definitions of the bytes of
-- memory are those of late answers.
use Rattle.tl_concord.proofs.Imports.{Beat, History, channel_of, unfinished, Config, on_link, tells, tells_late}
use Rattle.tl_concord.proofs.Imports.{trace_of, IsGiven, Log, and_left, and_right, ends, grants}
use Rattle.std.proofs.Common.{◌≡◌, ℕ, Bool, true, false, not, ◌&&◌, ◌||◌, List, [], ◌∷◌, refl}
use Rattle.std.specs.Prelude.{None}
use Rattle.tl_beat.specs.declared.{beat.BeatA.BeatA, beat.BeatD.BeatD, beat.Link.Link, channel.Channel.Channel}
use Rattle.tl_beat.specs.declared.opcode.OpD.{OpD}
use Rattle.tl_bytes.proofs.{LateAnswers.tells-late, OnTime.AreOnTime, OnTime.IsOnTime, OnTime.none-outrun}
use Rattle.tl_bytes.proofs.OnTime.{not-outrun}
use Rattle.tl_bytes.specs.statement.Bytes.{asks, asks_new, leaves_pending}
use Rattle.tl_bytes.specs.statement.Early.{outrun_accesses}
use Rattle.tl_bytes.specs.statement.Early.{telling_beats}
use Rattle.tl_coherence.proofs.bound.Settling.{given-before}
use Rattle.tl_coherence.specs.declared.{event.Event.Event, event.Outcome.Outcome}
use Rattle.tl_coherence.specs.declared.event.Event.TheVariants.{Deliver}
use Rattle.tl_coherence.specs.statement.{Delivery.levels_of, Flow.IsTaken, Flow.taken_at}
unfoldable use Rattle.tl_coherence.specs.statement.Flow.{EachTaken}
use Rattle.tl_concord.proofs.Alike.{kept-world}
use Rattle.tl_forgiving.proofs.Lawful.{AreLawful, lawful-beat, lawful-history}
use Rattle.tl_memory.proofs.lawful.OpenAccesses.{is-fine, legal-on}
use Rattle.tl_memory.specs.statement.Links.{KeepRules}
use Rattle.tl_params.specs.declared.{level.Level.Level, liberties.Liberties.Liberties}
use Rattle.tl_params.specs.statement.Liberties.{liberties_of}
use Rattle.tl_rules.specs.statement.Conformance.{Trace, comes_in_request}
use Rattle.tl_rules.specs.statement.History.{is_grant, is_release_ack}
use Rattle.tl_rules.specs.statement.Liberties.{broken_in_order_under}

-- ---- where no beat broke a rule of its link

-- the beat breaks no rule of order after a history that broke no rule
record IsLate {w : ℕ} (l : Liberties) (x : Link × Beat w) (t : Trace w) : Type 0 where
  level : Level
  lawful : AreLawful l level (on_link x.0.0 t)
  ordered : broken_in_order_under l x.1 (on_link x.0.0 t) ≡ None

is-late : {w : ℕ} (levels : List Level) (l : Liberties) (x : Link × Beat w) (t : Trace w) → KeepRules l levels (x ∷ t)
    → IsLate l x t
is-late levels l x t kept =
    let fine = is-fine l levels x t kept.0 in
    let past = legal-on l levels x.0.0 fine.level t fine.has_level kept.1 in
    record {
      level = fine.level;
      lawful = lawful-history l fine.level (on_link x.0.0 t) past;
      ordered = (lawful-beat l fine.level x.1 (on_link x.0.0 t) fine.fine).ordered;
    }

-- a beat sets a block's bytes as one of late answers does
pub tells-kept : {w : ℕ} (levels : List Level) (l : Liberties) (x : Link × Beat w) (t : Trace w) → l.early ≡ false
    → KeepRules l levels (x ∷ t) → (block : ℕ)
    → tells block x.1 (on_link x.0.0 t) ≡ tells_late block x.1 (on_link x.0.0 t)
tells-kept levels l x t late kept block =
    let is = is-late levels l x t kept in
    tells-late l late is.level block (on_link x.0.0 t) is.lawful x.1 is.ordered

-- no response comes before its request is complete
pub on-time : {w : ℕ} (levels : List Level) (l : Liberties) (t : Trace w) → l.early ≡ false → KeepRules l levels t
    → AreOnTime t
on-time levels l [] late kept = tt
on-time {w} levels l (x ∷ t) late kept = (here x.1 is.ordered, on-time levels l t late kept.1)
  where
    is : IsLate l x t
    is = is-late levels l x t kept

    here : (b : Beat w) → broken_in_order_under l b (on_link x.0.0 t) ≡ None → IsOnTime b (on_link x.0.0 t)
    here (Beat.D z) ordered = not-outrun l late is.level z (on_link x.0.0 t) is.lawful ordered
    here (Beat.A z) ordered = tt
    here (Beat.B z) ordered = tt
    here (Beat.C z) ordered = tt
    here (Beat.E z) ordered = tt

-- with the beat an access may be performed, as where no answer may come early
pub asks-late : {w : ℕ} (link : ℕ) (z : BeatA w) (past : History w) (t : Trace w) → AreOnTime t
    → asks_new link z past (outrun_accesses t) ≡ asks z past
asks-late link z past t late = rw (none-outrun t late) (same (asks z past))
  where
    same : (b : Bool) → b && true ≡ b
    same true = refl
    same false = refl

-- and with the beat an access isn't pending any more
pub leaves-late : {w : ℕ} (z : BeatD w) (past : History w) → IsOnTime (Beat.D z) past
    → leaves_pending z past ≡ (not (is_release_ack z.opcode) && ends (Beat.D z) past)
leaves-late {w} z past late =
    same (is_release_ack z.opcode) (ends (Beat.D z) past) (comes_in_request z.source (unfinished Channel.A past)) late
  where
    same : (ack last comes : Bool) → not ack && comes ≡ false
        → ((not ack && last) && not comes || (not ack && comes)) ≡ (not ack && last)
    same true last comes e = refl
    same false true false e = refl
    same false false false e = refl
    same false last true e = absurd cc

-- the message that sets a block's bytes with a beat is the one that the beat completes
pub telling-late : {w : ℕ} (block : ℕ) (x : Beat w) (past : History w) → tells_late block x past ≡ true
    → telling_beats x past ≡ x ∷ unfinished (channel_of x) past
telling-late {w} block (Beat.D z) past e = go (is_release_ack z.opcode) refl
  where
    granting : is_grant z.opcode ≡ true
    granting = and_left (is_grant z.opcode) _ (and_left (grants block z past) _ (and_right (ends (Beat.D z) past) _ e))

    no_ack : (o : OpD) → is_grant o ≡ true → is_release_ack o ≡ true → ⊥
    no_ack OpD.ReleaseAck f g = absurd cc
    no_ack v f g = absurd cc

    go : (ack : Bool) → is_release_ack z.opcode ≡ ack → telling_beats (Beat.D z) past ≡ Beat.D z ∷ unfinished Channel.D past
    go true f = absurd (no_ack z.opcode granting f)
    go false f = rw f refl
telling-late block (Beat.A z) past e = refl
telling-late block (Beat.B z) past e = refl
telling-late block (Beat.C z) past e = refl
telling-late block (Beat.E z) past e = refl

-- ---- the beats that a world delivers

pub world-late : {w : ℕ} {config : Config} (log : Log w) → IsGiven config log → AreOnTime (trace_of log)
world-late {config = config} log given =
    on-time (levels_of config) (liberties_of config.profile) (trace_of log) refl (kept-world log given)

-- what follows for each delivered beat, since no beat broke a rule of its link
pub each-kept : {w : ℕ} (config : Config) (P Q : Log w → ℕ → Beat w → Type 0)
    → ((earlier : Log w) (link : Link) (x : Beat w)
    → KeepRules (liberties_of config.profile) (levels_of config) ((link, x) ∷ trace_of earlier) → P earlier link.0 x
    → Q earlier link.0 x)
    → (log : Log w) → IsGiven config log → EachTaken P log → EachTaken Q log
unfolding EachTaken trace_of
each-kept config P Q each [] given taken = tt
each-kept {w} config P Q each ((event, o) ∷ log) given taken =
    (now event o given taken.0, each-kept config P Q each log (given-before config (event, o) log given) taken.1)
  where
    now : (event : Event w) (o : Outcome w) → IsGiven config ((event, o) ∷ log) → IsTaken P log (taken_at event o)
        → IsTaken Q log (taken_at event o)
    now (Deliver link ch) (Outcome.Moved x) given is =
        each log link x (kept-world ((Deliver link ch, Outcome.Moved x) ∷ log) given) is
    now (Deliver link ch) (Outcome.Done x source f) given is =
        each log link x (kept-world ((Deliver link ch, Outcome.Done x source f) ∷ log) given) is
    now event o given is = tt
