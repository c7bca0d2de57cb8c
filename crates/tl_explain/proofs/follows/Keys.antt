-- What a beat makes of the keys.
use Rattle.std.proofs.Common.{◌≡◌, ℕ, ◌==◌, ◌&&◌, List, [], ◌∷◌}
use Rattle.std.proofs.Common.{true, false, Bool, refl, sym, ap, ap₂, ◌∙◌, arith}
use Rattle.std.specs.Prelude.{Option, Some, None, if◌then◌else◌}
use Rattle.tl_beat.specs.declared.beat.Beat.{Beat}
use Rattle.tl_beat.specs.declared.beat.Beat.TheVariants as beat
use Rattle.tl_beat.specs.declared.beat.BeatA.{BeatA}
use Rattle.tl_beat.specs.declared.beat.BeatC.{BeatC}
use Rattle.tl_beat.specs.declared.beat.Link.{Link}
use Rattle.tl_beat.specs.declared.opcode.OpD.{OpD}
use Rattle.tl_beat.specs.declared.opcode.OpD.TheVariants as d
use Rattle.tl_burst.specs.statement.Messages.{History, unfinished}
use Rattle.tl_params.specs.declared.key.Key.{Key}
use Rattle.tl_params.specs.declared.key.Key.TheVariants.{GrantAckOf}
use Rattle.tl_rules.specs.statement.Conformance.{Trace, on_link}
use Rattle.tl_rules.specs.statement.History.{begins, opens, closes, is_grant, is_release_ack}
use Rattle.tl_rules.specs.statement.History.{asks_for, releases, request_of, release_of, grant_sink, is_sink}
use Rattle.tl_beat.specs.statement.Control.{control_of}
use Rattle.tl_explain.specs.declared.told.Mention.{Mention}
use Rattle.tl_explain.specs.declared.told.Told.{Told}
use Rattle.tl_explain.specs.declared.turn.Turn.{Turn}
use Rattle.tl_explain.specs.declared.turns.Moment.{Moment}
use Rattle.tl_explain.specs.declared.blocks.Blocks.{Blocks}
use Rattle.tl_monitor.specs.declared.bursts.Bursts.{Bursts}
use Rattle.tl_beat.specs.declared.channel.Channel.{Channel}
use Rattle.tl_beat.specs.declared.channel.Channel.TheVariants as channel
use Rattle.tl_monitor.specs.statement.Count.{at}
use Rattle.tl_explain.specs.statement.Evidence.{last_opening, last_where, mention_of, told}
use Rattle.tl_explain.specs.code.Recorded.{AreBlocks, IsBegun, IsMoment, IsTurn}
use Rattle.tl_explain.specs.code.Recorded.{begun_by}
use Rattle.tl_monitor.specs.code.Bursts.{IsOf, burst_on}
use Rattle.tl_explain.specs.code.Recorded.{block_asked, block_released}
use Rattle.tl_explain.specs.code.Recorded.{is_number, sink_by, sink_in}

asked_is : {w : ℕ} (k : ℕ) (a : Option (BeatA w)) → is_number k (block_asked a) ≡ asks_for k a
asked_is k None = refl
asked_is k (Some x) = refl

released_is : {w : ℕ} (k : ℕ) (r : Option (BeatC w)) → is_number k (block_released r) ≡ releases k r
released_is k None = refl
released_is k (Some x) = refl

pub grant_block : {w : ℕ} (o : OpD) (k : ℕ) (r : Option (BeatC w)) (a : Option (BeatA w))
    → (is_grant o && is_number k (if is_release_ack o then block_released r else block_asked a))
    ≡ (is_grant o && asks_for k a)
grant_block d.AccessAck k r a = refl
grant_block d.AccessAckData k r a = refl
grant_block d.HintAck k r a = refl
grant_block d.Grant k r a = asked_is k a
grant_block d.GrantData k r a = asked_is k a
grant_block d.ReleaseAck k r a = refl

pub release_block : {w : ℕ} (o : OpD) (k : ℕ) (r : Option (BeatC w)) (a : Option (BeatA w))
    → (is_release_ack o && is_number k (if is_release_ack o then block_released r else block_asked a))
    ≡ (is_release_ack o && releases k r)
release_block d.AccessAck k r a = refl
release_block d.AccessAckData k r a = refl
release_block d.HintAck k r a = refl
release_block d.Grant k r a = refl
release_block d.GrantData k r a = refl
release_block d.ReleaseAck k r a = released_is k r

pub sink_is : (s : ℕ) (o : Option ℕ) → is_number s o ≡ is_sink s o
sink_is s None = refl
sink_is s (Some n) = refl

-- ---- the sink of the last Grant of a block

mention_sink : Option Mention → Option ℕ
mention_sink None = None
mention_sink (Some m) = sink_by m.control

sink_of_told : (o : Option Told) → sink_in o ≡ mention_sink (mention_of o)
unfolding mention_sink
sink_of_told None = refl
sink_of_told (Some m) = refl

never : {A : Type 0} (b : Bool) (m rest : A) → (if b && false then m else rest) ≡ rest
never true m rest = refl
never false m rest = refl

chosen : (b : Bool) (m : Mention) (rest : Option Mention) (s : ℕ) (g : Option ℕ) → mention_sink rest ≡ g
    → sink_by m.control ≡ Some s
    → mention_sink (if b then Some m else rest) ≡ (if b then Some s else g)
unfolding mention_sink
chosen true m rest s g e f = f
chosen false m rest s g e f = e

sink_step : {w : ℕ} (b : ℕ) (y : Beat w) (h : History w) (here : Bool) (m : Mention) (rest : Option Mention)
    → m.control ≡ control_of y → mention_sink rest ≡ grant_sink b h
    → mention_sink (if here && (begins y h && opens (GrantAckOf b) y h) then Some m else rest) ≡ grant_sink b
    (if here then y ∷ h else h)
unfolding grant_sink
sink_step b y h false m rest e ih = ih
sink_step b (beat.A x) h true m rest e ih = ap mention_sink (never _ (Some m) rest) ∙ ih
sink_step b (beat.B x) h true m rest e ih = ap mention_sink (never _ (Some m) rest) ∙ ih
sink_step b (beat.C x) h true m rest e ih = ap mention_sink (never _ (Some m) rest) ∙ ih
sink_step b (beat.D x) h true m rest e ih = chosen _ m rest x.sink _ ih (ap sink_by e)
sink_step b (beat.E x) h true m rest e ih = ap mention_sink (never _ (Some m) rest) ∙ ih

granted_is : {w : ℕ} (n b : ℕ) (t : Trace w) → mention_sink (last_opening n (GrantAckOf b) t) ≡ grant_sink b
    (on_link n t)
unfolding last_where on_link grant_sink mention_sink
granted_is n b [] = refl
granted_is n b (x ∷ t) = sink_step b x.1 (on_link n t) (x.0.0 == n) (told x t) (last_opening n (GrantAckOf b) t) refl
    (granted_is n b t)

-- ---- one key, by one beat

pub mention_if : (b : Bool) (m : Told) (rest : Option Told)
    → mention_of (if b then Some m else rest) ≡ (if b then Some m.mention else mention_of rest)
mention_if true m rest = refl
mention_if false m rest = refl

pub here : (a n : ℕ) (b : Bool) → a ≡ n → ((a == n) && b) ≡ b
here a n b e = rw e (rw (same n) refl)
  where
    same : (k : ℕ) → (k == k) ≡ true
    same k = grind arith

-- the last Grant that opened the key had this sink
pub granted : {w : ℕ} (turn : Turn) (n : ℕ) (k : Key) (t : Trace w) → IsTurn turn n k t → (b : ℕ) → k ≡ GrantAckOf b
    → sink_in turn.opening ≡ grant_sink b (on_link n t)
granted turn n k t is b e = sink_of_told turn.opening ∙ ap mention_sink is.opening_is
    ∙ ap (λ (j : Key). mention_sink (last_opening n j t)) e ∙ granted_is n b t

pub turn_next : {w : ℕ} (old new : Turn) (n : ℕ) (k : Key) (m : Moment) (x : Link × Beat w) (t : Trace w) (o c : Bool)
    → IsMoment m n x t → IsTurn old n k t → o ≡ opens k x.1 (on_link n t) → c ≡ closes k x.1 (on_link n t)
    → new.opening ≡ (if m.first && o then Some m.told else old.opening)
    → new.closing ≡ (if m.last && c then Some m.told else old.closing) → IsTurn new n k (x ∷ t)
unfolding last_where
turn_next old new n k m x t o c is turn opens closes opening closing =
    let begun = ap₂ (λ (a b : Bool). a && b) is.first_is opens ∙ sym (here x.0.0 n _ is.of_link) in
    let ended = ap₂ (λ (a b : Bool). a && b) is.last_is closes ∙ sym (here x.0.0 n _ is.of_link) in
    record {
      opening_is = ap mention_of opening ∙ mention_if _ m.told old.opening ∙ rw (begun, is.told_is, turn.opening_is)
          refl;
      closing_is = ap mention_of closing ∙ mention_if _ m.told old.closing ∙ rw (ended, is.told_is, turn.closing_is)
          refl;
    }

-- ---- before any beat

pub no_turn : {w : ℕ} (turn : Turn) (n : ℕ) (k : Key) → turn.opening ≡ None → turn.closing ≡ None
    → IsTurn {w = w} turn n k []
unfolding last_where
no_turn turn n k opening closing = record { opening_is = ap mention_of opening; closing_is = ap mention_of closing }

pub no_blocks : (w : ℕ) (asked released : List (Option ℕ)) → ((s : ℕ) → at asked s ≡ None)
    → ((s : ℕ) → at released s ≡ None)
    → AreBlocks {w = w} (record { asked = asked; released = released }) []
unfolding request_of release_of
no_blocks w asked released a r = record { asked_are = a; released_are = r }

pub empty_blocks : (w : ℕ) (b : Blocks) (n : ℕ) → AreBlocks {w = w} b [] → AreBlocks {w = w} b (on_link n [])
unfolding on_link
empty_blocks w b n are = are

pub no_bursts : (w : ℕ) (b : Bursts Moment) (n : ℕ) → b.a ≡ None → b.b ≡ None → b.c ≡ None → b.d ≡ None → b.e ≡ None
    → (ch : Channel) → IsOf {w = w} (burst_on b ch) (unfinished ch (on_link n []))
    × IsBegun {w = w} (begun_by (burst_on b ch)) n ch []
unfolding unfinished on_link
no_bursts w b n a bb c d e channel.A = rw a (refl, refl)
no_bursts w b n a bb c d e channel.B = rw bb (refl, refl)
no_bursts w b n a bb c d e channel.C = rw c (refl, refl)
no_bursts w b n a bb c d e channel.D = rw d (refl, refl)
no_bursts w b n a bb c d e channel.E = rw e (refl, refl)
