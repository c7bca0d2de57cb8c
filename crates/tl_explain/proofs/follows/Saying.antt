-- What a message says of what is held of a block, by what is recorded.
use Rattle.std.proofs.Common.{◌≡◌, ℕ, ◌==◌, ◌&&◌, ◌||◌, ◌∷◌, List, true, false, Bool, not, refl, sym, ap, ap₂, ◌∙◌}
use Rattle.std.specs.Prelude.{Option, Some, None, if◌then◌else◌, is_none, nat_le}
use Rattle.tl_beat.specs.declared.beat.Beat.{Beat}
use Rattle.tl_beat.specs.declared.beat.Beat.TheVariants as beat
use Rattle.tl_beat.specs.declared.beat.BeatA.{BeatA}
use Rattle.tl_beat.specs.declared.beat.BeatC.{BeatC}
use Rattle.tl_beat.specs.declared.beat.BeatD.{BeatD}
use Rattle.tl_beat.specs.declared.beat.BeatE.{BeatE}
use Rattle.tl_beat.specs.declared.beat.Link.{Link}
use Rattle.tl_beat.specs.declared.channel.Channel.TheVariants as channel
use Rattle.tl_beat.specs.statement.Control.{control_of}
use Rattle.tl_burst.specs.statement.Messages.{History, unfinished}
use Rattle.tl_monitor.specs.code.LinkState.{given_by_control, left_by_control}
use Rattle.tl_params.specs.declared.key.Key.{Key}
use Rattle.tl_params.specs.declared.key.Key.TheVariants.{GrantAckOf, ReleaseOf}
use Rattle.tl_params.specs.declared.liberties.Liberties.{Liberties}
use Rattle.tl_params.specs.declared.perm.Perm.{Perm}
use Rattle.tl_rules.specs.statement.Conformance.{Trace, on_link}
use Rattle.tl_rules.specs.statement.History.{begins, block_at, capped, grant_sink, is_grant, is_probe_ack}
use Rattle.tl_rules.specs.statement.History.{is_release, is_release_ack, is_sink, pending, release_of, releases}
use Rattle.tl_rules.specs.statement.History.{reported, request_of}
use Rattle.tl_rules.specs.statement.Liberties.{given_by_grant, left_by_release, says_held_under}
use Rattle.tl_explain.specs.declared.bursts.Begun.{Begun}
use Rattle.tl_explain.specs.declared.recorder.Recorder.{Recorder}
use Rattle.tl_explain.specs.declared.told.Told.{Told}
use Rattle.tl_explain.specs.declared.turn.Turn.{Turn}
use Rattle.tl_explain.specs.declared.turns.Moment.{Moment}
use Rattle.tl_explain.specs.code.Recorded.{IsBegun, IsMoment, IsRecordUnder, IsTurn, begun_on}
use Rattle.tl_explain.specs.code.Recorded.{block_of, is_number, open_message, sink_in}
use Rattle.tl_explain.specs.code.Saying.{said_by, said_by_burst, said_on_a, said_on_c, said_on_d, said_on_e}
use Rattle.tl_explain.specs.statement.Evidence.{is_open, mention_of}
use Rattle.tl_explain.proofs.Rests.{pending_open}
use Rattle.tl_explain.proofs.follows.Keys.{grant_block, granted, release_block, sink_is}

-- ---- the key that is pending, by its turn

module _ {w : ℕ} (n : ℕ) (k : Key) (turn : Turn) (t : Trace w) (is : IsTurn turn n k t) where
  open_is : is_open (mention_of turn.opening) (mention_of turn.closing) ≡ pending k (on_link n t)
  open_is = ap₂ is_open is.opening_is is.closing_is ∙ sym (pending_open n k t)

  free_is : is_none (open_message turn) ≡ not (pending k (on_link n t))
  free_is = go turn.opening turn.closing ∙ ap not open_is
    where
      by_flag : (b : Bool) (m : Told) → is_none (if b then Some m else None) ≡ not b
      by_flag true m = refl
      by_flag false m = refl

      go : (o c : Option Told)
          → is_none (if is_open (mention_of o) (mention_of c) then o else None) ≡ not (is_open (mention_of o) (mention_of c))
      go None c = refl
      go (Some m) None = refl
      go (Some m) (Some c) = by_flag (nat_le c.mention.line m.mention.line) m

-- and the sink of the Grant that is open
open_sink : (b : Bool) (o : Option Told) (s : ℕ) → is_number s (sink_in (if b then o else None)) ≡ (b && is_number s (sink_in o))
open_sink true o s = refl
open_sink false o s = refl

acknowledged-is : {w : ℕ} (n k s : ℕ) (turn : Turn) (t : Trace w) → IsTurn turn n (GrantAckOf k) t
    → is_number s (sink_in (open_message turn)) ≡ (pending (GrantAckOf k) (on_link n t) && is_sink s (grant_sink k (on_link n t)))
acknowledged-is n k s turn t is =
    open_sink (is_open (mention_of turn.opening) (mention_of turn.closing)) turn.opening s
    ∙ ap₂ (λ (a b : Bool). a && b) (open_is n (GrantAckOf k) turn t is)
    (sink_is s (sink_in turn.opening) ∙ ap (is_sink s) (granted turn n (GrantAckOf k) t is k refl))

-- ---- what the burst says that isn't complete

newest-left : {w : ℕ} (s : ℕ) (y : Beat w) (ys : List (Beat w))
    → left_by_control s (control_of y) ≡ left_by_release s (y ∷ ys)
newest-left s (beat.A x) ys = refl
newest-left s (beat.B x) ys = refl
newest-left s (beat.C x) ys = refl
newest-left s (beat.D x) ys = refl
newest-left s (beat.E x) ys = refl

newest-given : {w : ℕ} (s : ℕ) (y : Beat w) (ys : List (Beat w))
    → given_by_control s (control_of y) ≡ given_by_grant s (y ∷ ys)
newest-given s (beat.A x) ys = refl
newest-given s (beat.B x) ys = refl
newest-given s (beat.C x) ys = refl
newest-given s (beat.D x) ys = refl
newest-given s (beat.E x) ys = refl

left-is : {w : ℕ} (s n : ℕ) (o : Option Begun) (t : Trace w) → IsBegun o n channel.C t
    → said_by_burst (left_by_control s) o ≡ left_by_release s (unfinished channel.C (on_link n t))
left-is s n None t is = ap (left_by_release s) (sym is)
left-is s n (Some b) t (y, earlier, is, newest, came, opening) =
    ap (left_by_control s) newest ∙ newest-left s y earlier ∙ ap (left_by_release s) (sym is)

given-is : {w : ℕ} (s n : ℕ) (o : Option Begun) (t : Trace w) → IsBegun o n channel.D t
    → said_by_burst (given_by_control s) o ≡ given_by_grant s (unfinished channel.D (on_link n t))
given-is s n None t is = ap (given_by_grant s) (sym is)
given-is s n (Some b) t (y, earlier, is, newest, came, opening) =
    ap (given_by_control s) newest ∙ newest-given s y earlier ∙ ap (given_by_grant s) (sym is)

-- ---- what a message says

guarded : (e a n m : Bool) (c rest : Option Perm) → (a && n) ≡ (a && m)
    → (if e && a then (if n then c else None) else rest) ≡ (if e && a then (if m then c else None) else rest)
guarded true true n m c rest same = ap (λ (b : Bool). if b then c else None) same
guarded true false n m c rest same = refl
guarded false a n m c rest same = refl

module _ {w : ℕ} (l : Liberties) (r : Recorder) (m : Moment) (link : Link) (t : Trace w) (rec : IsRecordUnder l r t) where
  abbrev n : ℕ
  n = r.subject.link.0

  abbrev k : ℕ
  k = r.subject.block

  abbrev h : History w
  h = on_link n t

  on_a : (x : BeatA w) → IsMoment m n (link, beat.A x) t → said_by r m (beat.A x) ≡ says_held_under l k (beat.A x) h
  on_a x is = ap₂ (λ (i : Liberties) (b : Bool). said_on_a i k b x) rec.liberties_are is.first_is

  on_c : (x : BeatC w) → IsMoment m n (link, beat.C x) t → said_by r m (beat.C x) ≡ says_held_under l k (beat.C x) h
  on_c x is =
      ap₂ (λ (i : Liberties) (b : Bool). said_on_c i k b (open_message r.turns.release) x) rec.liberties_are is.first_is
      ∙ ap (λ (free : Bool). if l.early && (is_release x.opcode && (not (begins (beat.C x) h) && free)) then None else
      if (is_probe_ack x.opcode || is_release x.opcode) && (block_at x.address == k) then Some (reported x.param) else
      None) (free_is n (ReleaseOf k) r.turns.release t rec.turns_are.release_is)

  on_d : (x : BeatD w) → IsMoment m n (link, beat.D x) t → said_by r m (beat.D x) ≡ says_held_under l k (beat.D x) h
  on_d x is =
      ap₂ (λ (i : Liberties) (b : Bool). said_on_d i k b (open_message r.turns.grant_ack) m.block (begun_on r channel.C) x)
      rec.liberties_are is.first_is
      ∙ ap (λ (o : Option ℕ). said_on_d l k (begins (beat.D x) h) (open_message r.turns.grant_ack) o
      (begun_on r channel.C) x) is.block_is
      ∙ ap₂ (λ (free : Bool) (came : Option Perm). if l.denied && x.denied then None else
      if l.early && (is_grant x.opcode && (not (begins (beat.D x) h) && free)) then None else
      if l.early && is_release_ack x.opcode then (if is_number k (block_of (beat.D x) h) then came else None) else
      if is_grant x.opcode && is_number k (block_of (beat.D x) h) then Some (capped x.param) else None)
      (free_is n (GrantAckOf k) r.turns.grant_ack t rec.turns_are.grant_ack_is)
      (left-is x.source n (begun_on r channel.C) t (rec.begun_are channel.C))
      ∙ ap (λ (rest : Option Perm). if l.denied && x.denied then None else
      if l.early && (is_grant x.opcode && (not (begins (beat.D x) h) && not (pending (GrantAckOf k) h))) then None else
      rest)
      (guarded l.early (is_release_ack x.opcode) (is_number k (block_of (beat.D x) h))
      (releases k (release_of x.source h)) (left_by_release x.source (unfinished channel.C h))
      (if is_grant x.opcode && is_number k (block_of (beat.D x) h) then Some (capped x.param) else None)
      (release_block x.opcode k (release_of x.source h) (request_of x.source h))
      ∙ ap (λ (b : Bool). if l.early && is_release_ack x.opcode
      then (if releases k (release_of x.source h) then left_by_release x.source (unfinished channel.C h) else None)
      else if b then Some (capped x.param) else None)
      (grant_block x.opcode k (release_of x.source h) (request_of x.source h)))

  on_e : (x : BeatE) → IsMoment m n (link, beat.E x) t → said_by {w = w} r m (beat.E x) ≡ says_held_under l k (beat.E x) h
  on_e x is =
      ap (λ (i : Liberties). said_on_e i (open_message r.turns.grant_ack) (begun_on r channel.D) x) rec.liberties_are
      ∙ ap₂ (λ (b : Bool) (came : Option Perm). if l.early && b then came else None)
      (acknowledged-is n k x.sink r.turns.grant_ack t rec.turns_are.grant_ack_is)
      (given-is x.sink n (begun_on r channel.D) t (rec.begun_are channel.D))

  pub said_is : (x : Beat w) → IsMoment m n (link, x) t → said_by r m x ≡ says_held_under l k x h
  said_is (beat.A x) is = on_a x is
  said_is (beat.B x) is = refl
  said_is (beat.C x) is = on_c x is
  said_is (beat.D x) is = on_d x is
  said_is (beat.E x) is = on_e x is
