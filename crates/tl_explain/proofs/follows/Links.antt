-- A beat of another link.
use Rattle.std.proofs.Common.{◌≡◌, ℕ, ◌==◌, List, [], ◌∷◌, length}
use Rattle.std.proofs.Common.{true, false, Bool, refl, sym, ap, ◌∙◌, arith}
use Rattle.std.specs.Prelude.{Option, Some, None, is_none, if◌then◌else◌}
use Rattle.tl_beat.specs.declared.beat.Beat.{Beat}
use Rattle.tl_beat.specs.declared.beat.Beat.TheVariants as beat
use Rattle.tl_beat.specs.declared.beat.BeatA.{BeatA}
use Rattle.tl_beat.specs.declared.beat.BeatC.{BeatC}
use Rattle.tl_beat.specs.declared.beat.Link.{Link}
use Rattle.tl_burst.specs.statement.Messages.{History, breaks_burst, burst_length, channel_of, grown, on, unfinished}
use Rattle.tl_burst.specs.statement.Part.{is_empty}
use Rattle.tl_params.specs.declared.key.Key.{Key}
use Rattle.tl_rules.specs.statement.Conformance.{Trace, on_link}
use Rattle.tl_rules.specs.statement.History.{begins, block_at, opens}
use Rattle.tl_rules.specs.statement.History.{request_of, release_of}
use Rattle.tl_beat.specs.statement.Control.{control_of}
use Rattle.tl_explain.specs.declared.told.Mention.{Mention}
use Rattle.tl_explain.specs.declared.turn.Turn.{Turn}
use Rattle.tl_explain.specs.declared.turns.Moment.{Moment}
use Rattle.tl_explain.specs.declared.turns.Subject.{Subject}
use Rattle.tl_explain.specs.declared.turns.Turns.{Turns}
use Rattle.tl_explain.specs.declared.blocks.Blocks.{Blocks}
use Rattle.tl_explain.specs.declared.bursts.Begun.{Begun}
use Rattle.tl_explain.specs.declared.recorder.Recorder.{Recorder}
use Rattle.tl_beat.specs.declared.channel.Channel.{Channel}
use Rattle.tl_beat.specs.declared.channel.Channel.TheVariants as channel
use Rattle.tl_monitor.specs.statement.Count.{at}
use Rattle.tl_explain.specs.statement.Evidence.{last_where, burst_opening, told}
use Rattle.tl_explain.specs.code.Recorded.{AreBlocks, AreTurns, IsBegun, IsHeld, IsMoment, IsRecordUnder, IsTurn}
use Rattle.tl_explain.specs.code.Recorded.{asked_next}
use Rattle.tl_params.specs.declared.liberties.Liberties.{Liberties}
use Rattle.tl_explain.specs.code.Recorded.{begun_by, begun_on, released_next, block_asked, block_of, block_released}
use Rattle.tl_explain.proofs.sound.Openings.{grown_is}
use Rattle.tl_monitor.specs.declared.bursts.Bursts.{Bursts}
use Rattle.tl_monitor.specs.declared.bursts.Unfinished.{Unfinished}
use Rattle.tl_monitor.specs.code.Bursts.{IsOf, beside_first, burst_next, burst_on, burst_with, continues_burst, is_last}
use Rattle.tl_monitor.specs.code.Bursts.{left_after}
use Rattle.tl_monitor.proofs.Continued.{bursts-next, first-is, last-is}
use Rattle.tl_monitor.proofs.OnLink.{own_link}
use Rattle.std.proofs.lemmas.Bool.{cases_Bool}
use Rattle.std.proofs.Common.{inl, inr, not, ◌-◌, suc, ◌<◌}
use Rattle.tl_beat.specs.statement.Width.{IsWidth}
use Rattle.tl_beat.specs.statement.Control.{has_control}
use Rattle.tl_explain.proofs.follows.Keys.{here}
use Rattle.tl_explain.proofs.Plain.{same_true}
use Rattle.tl_explain.proofs.Sayings.{held_kept}

-- a beat that makes nothing of a burst
begun_kept : {w : ℕ} (b : Option Begun) (n : ℕ) (ch : Channel) (x : Link × Beat w) (t : Trace w)
    → unfinished ch (on_link n (x ∷ t)) ≡ unfinished ch (on_link n t)
    → burst_opening n ch (x ∷ t) ≡ burst_opening n ch t → IsBegun b n ch t → IsBegun b n ch (x ∷ t)
begun_kept None n ch x t beats opening is = beats ∙ is
begun_kept (Some b) n ch x t beats opening is =
    (is.0, is.1, beats ∙ is.2, is.3, ap length beats ∙ is.4, opening ∙ is.5)

module _ {w : ℕ} (n : ℕ) (x : Link × Beat w) (t : Trace w) (elsewhere : (x.0.0 == n) ≡ false) where
  not_on : on_link n (x ∷ t) ≡ on_link n t
  unfolding on_link
  not_on = rw elsewhere refl

  turn_kept : (turn : Turn) (k : Key) → IsTurn turn n k t → IsTurn turn n k (x ∷ t)
  unfolding last_where
  turn_kept turn k is = record {
    opening_is = is.opening_is ∙ rw elsewhere refl;
    closing_is =
        is.closing_is ∙ rw elsewhere refl;
  }

  opening_kept : (ch : Channel) → burst_opening n ch (x ∷ t) ≡ burst_opening n ch t
  unfolding burst_opening
  opening_kept ch = rw elsewhere refl

turns_kept : {w : ℕ} (r : Turns) (subject : Subject) (x : Link × Beat w) (t : Trace w)
    → (x.0.0 == subject.link.0) ≡ false → AreTurns r subject t → AreTurns r subject (x ∷ t)
turns_kept r subject x t elsewhere is = record {
  request_is = turn_kept subject.link.0 x t elsewhere r.request _ is.request_is;
  release_with_source_is = turn_kept subject.link.0 x t elsewhere r.release_with_source _ is.release_with_source_is;
  acquire_is = turn_kept subject.link.0 x t elsewhere r.acquire _ is.acquire_is;
  release_is = turn_kept subject.link.0 x t elsewhere r.release _ is.release_is;
  sink_is = turn_kept subject.link.0 x t elsewhere r.sink _ is.sink_is;
  grant_ack_is = turn_kept subject.link.0 x t elsewhere r.grant_ack _ is.grant_ack_is;
  probe_is = turn_kept subject.link.0 x t elsewhere r.probe _ is.probe_is;
}

pub record_kept : {w : ℕ} (l : Liberties) (r : Recorder) (x : Link × Beat w) (t : Trace w)
    → (x.0.0 == r.subject.link.0) ≡ false → IsRecordUnder l r t → IsRecordUnder l r (x ∷ t)
record_kept l r x t elsewhere is = record {
  liberties_are = is.liberties_are;
  bursts_are = rw (not_on r.subject.link.0 x t elsewhere) is.bursts_are;
  begun_are = λ ch. begun_kept (begun_on r ch) r.subject.link.0 ch x t
      (ap (unfinished ch) (not_on r.subject.link.0 x t elsewhere))
      (opening_kept r.subject.link.0 x t elsewhere ch) (is.begun_are ch);
  blocks_are = rw (not_on r.subject.link.0 x t elsewhere) is.blocks_are;
  turns_are = turns_kept r.turns r.subject x t elsewhere is.turns_are;
  held_is = held_kept r.held l r.subject.link.0 r.subject.block x t elsewhere is.held_is;
}

-- ---- a beat of the link: what it makes of the burst on its channel

-- the beat continues the burst
continues : {w : ℕ} (x : Beat w) (u : Option (Unfinished Moment)) (beats : List (Beat w)) → IsOf u beats
    → continues_burst x u ≡ true → breaks_burst x beats ≡ false
continues x None beats of c = ap (breaks_burst x) of
continues x (Some u) beats (y, earlier, e, same, long, more) c =
    ap (breaks_burst x) e ∙ ap not (sym (ap (has_control x) same) ∙ c)

abbrev BegunOf : {w : ℕ} → Option Begun → List (Beat w) → Option Mention → Type 0
BegunOf None u opening = u ≡ []
BegunOf {w} (Some b) u opening =
    (newest : Beat w) × (earlier : List (Beat w)) × (u ≡ newest ∷ earlier) × (b.newest ≡ control_of newest)
    × (length u ≡ b.came) × (opening ≡ Some b.first.mention)

into : {w : ℕ} (b : Option Begun) (n : ℕ) (ch : Channel) (t : Trace w) → IsBegun b n ch t
    → BegunOf b (unfinished ch (on_link n t)) (burst_opening n ch t)
into None n ch t is = is
into (Some b) n ch t is = is

back : {w : ℕ} (b : Option Begun) (n : ℕ) (ch : Channel) (t : Trace w)
    → BegunOf b (unfinished ch (on_link n t)) (burst_opening n ch t) → IsBegun b n ch t
back None n ch t is = is
back (Some b) n ch t is = is

-- the burst with its next beat, which is the last or isn't
abbrev next_burst : {w : ℕ} → Beat w → Moment → Option (Unfinished Moment) → Bool → Option (Unfinished Moment)
next_burst y m u done = if done then None else Some
    (record { control = control_of y; left = left_after y u; beside = beside_first m u })

begun_next : {w : ℕ} (y : Beat w) (m : Moment) (u : Option (Unfinished Moment)) (beats v : List (Beat w))
    (was is : Option Mention) → m.length ≡ burst_length y → v ≡ grown y beats
    → is ≡ (if is_empty v then None else if is_empty beats then Some m.told.mention else was) → IsOf u beats
    → BegunOf (begun_by u) beats was → IsOf (burst_next y m u) v → BegunOf (begun_by (burst_next y m u)) v is
begun_next {w} y m u beats v was is long grows opens of begun next = go (left_after y u == 0) next
  where
    came : (u : Option (Unfinished Moment)) → IsOf u beats → BegunOf (begun_by u) beats was → 0 < left_after y u
        → length (y ∷ beats) ≡ (beside_first m u).length - left_after y u
    came None of begun more = let none : length beats ≡ 0 = ap length of in omega (arith, long, none, more)
    came (Some u) (x, earlier, e, same, all, left) begun more =
        let some : length beats ≡ suc (length earlier) = ap length e in
        let so_far : length beats ≡ u.beside.length - u.left = begun.4 in
        omega (arith, some, so_far, more)

    first : (u : Option (Unfinished Moment)) → IsOf u beats → BegunOf (begun_by u) beats was
        → (if is_empty beats then Some m.told.mention else was) ≡ Some (beside_first m u).told.mention
    first None of begun = rw of refl
    first (Some u) of begun = rw begun.2 begun.5

    go : (done : Bool) → IsOf (next_burst y m u done) v → BegunOf (begun_by (next_burst y m u done)) v is
    go true next = next
    go false (x, earlier, e, same, all, more) =
        let now : v ≡ y ∷ beats = grown_is y beats v grows (ap is_empty e) in (
          y,
          beats,
          now,
          refl,
          ap length now ∙ came u of begun more,
          opens ∙ rw now (first u of begun),
        )

unfinished_taken : {w : ℕ} (n : ℕ) (x : Link × Beat w) (t : Trace w) → (x.0.0 == n) ≡ true
    → (ch : Channel) → on ch x.1 ≡ true
    → unfinished ch (on_link n (x ∷ t)) ≡ grown x.1 (unfinished ch (on_link n t))
unfolding unfinished on_link
unfinished_taken n x t own ch here = rw (own, here) refl

begun_taken : {w : ℕ} (n : ℕ) (ch : Channel) (x : Link × Beat w) (t : Trace w) (u : Option (Unfinished Moment))
    (m : Moment) → (x.0.0 == n) ≡ true → IsMoment m n x t → IsOf u (unfinished ch (on_link n t))
    → IsOf (burst_with ch x.1 m u) (unfinished ch (on_link n (x ∷ t))) → IsBegun (begun_by u) n ch t
    → IsBegun (begun_by (burst_with ch x.1 m u)) n ch (x ∷ t)
unfolding burst_opening unfinished on_link
begun_taken n ch x t u m own is of next begun = elim (cases_Bool (on ch x.1)) [
  | inl here ↦
      let grows = unfinished_taken n x t own ch here in
      let opens : burst_opening n ch (x ∷ t) ≡ (if is_empty (unfinished ch (on_link n (x ∷ t))) then None else if
      is_empty (unfinished ch (on_link n t)) then Some m.told.mention else burst_opening n ch t) =
      rw (own, here, is.told_is) refl in
      rw here (back (begun_by (burst_next x.1 m u)) n ch (x ∷ t)
      (begun_next x.1 m u (unfinished ch (on_link n t)) (unfinished ch (on_link n (x ∷ t))) (burst_opening n ch t)
      (burst_opening n ch (x ∷ t)) is.length_is grows opens of (into (begun_by u) n ch t begun) (rw here at next)))
  | inr other ↦
      let beats : unfinished ch (on_link n (x ∷ t)) ≡ unfinished ch (on_link n t) = rw (own, other) refl in
      let opening : burst_opening n ch (x ∷ t) ≡ burst_opening n ch t = rw (own, other) refl in
      rw other (begun_kept (begun_by u) n ch x t beats opening begun)
]

-- ---- and of the moment, and of the blocks

asked_if : {w : ℕ} (c : Bool) (x : BeatA w) (r : Option (BeatA w))
    → (if c then Some (block_at x.address) else block_asked r) ≡ block_asked (if c then Some x else r)
asked_if true x r = refl
asked_if false x r = refl

released_if : {w : ℕ} (c : Bool) (x : BeatC w) (r : Option (BeatC w))
    → (if c then Some (block_at x.address) else block_released r) ≡ block_released (if c then Some x else r)
released_if true x r = refl
released_if false x r = refl

asked_step : {w : ℕ} (y : Beat w) (h : History w) (s : ℕ) → asked_next (begins y h) y s (block_asked (request_of s h))
    ≡ block_asked (request_of s (y ∷ h))
unfolding request_of
asked_step (beat.A x) h s = asked_if _ x (request_of s h)
asked_step (beat.B x) h s = refl
asked_step (beat.C x) h s = refl
asked_step (beat.D x) h s = refl
asked_step (beat.E x) h s = refl

released_step : {w : ℕ} (y : Beat w) (h : History w) (s : ℕ)
    → released_next (begins y h) y s (block_released (release_of s h)) ≡ block_released (release_of s (y ∷ h))
unfolding release_of
released_step (beat.A x) h s = refl
released_step (beat.B x) h s = refl
released_step (beat.C x) h s = released_if _ x (release_of s h)
released_step (beat.D x) h s = refl
released_step (beat.E x) h s = refl

pub blocks_taken : {w : ℕ} (b c : Blocks) (y : Beat w) (h : History w) (first : Bool) → first ≡ begins y h
    → ((s : ℕ) → at c.asked s ≡ asked_next first y s (at b.asked s))
    → ((s : ℕ) → at c.released s ≡ released_next first y s (at b.released s)) → AreBlocks b h → AreBlocks c (y ∷ h)
blocks_taken b c y h first is asked released are = record {
  asked_are = λ s. asked s ∙ rw (is, are.asked_are s) (asked_step y h s);
  released_are = λ s. released s ∙ rw (is, are.released_are s) (released_step y h s);
}

pub by_channel : {w : ℕ} (new old : Bursts Moment) (x : Beat w) (m : Moment) → new.a ≡ burst_with channel.A x m old.a
    → new.b ≡ burst_with channel.B x m old.b → new.c ≡ burst_with channel.C x m old.c
    → new.d ≡ burst_with channel.D x m old.d → new.e ≡ burst_with channel.E x m old.e
    → (ch : Channel) → burst_on new ch ≡ burst_with ch x m (burst_on old ch)
by_channel new old x m a b c d e channel.A = a
by_channel new old x m a b c d e channel.B = b
by_channel new old x m a b c d e channel.C = c
by_channel new old x m a b c d e channel.D = d
by_channel new old x m a b c d e channel.E = e

-- the next beat of a link
pub moment_is : {w : ℕ} (l : Liberties) (r : Recorder) (m : Moment) (x : Link × Beat w) (t : Trace w) → IsWidth w
    → x.0.0 ≡ r.subject.link.0 → m.told.mention ≡ told x t → m.length ≡ burst_length x.1
    → m.first ≡ is_none (burst_on r.bursts (channel_of x.1))
    → m.last ≡ is_last x.1 (burst_on r.bursts (channel_of x.1))
    → ((h : History w) → AreBlocks r.blocks h → m.block ≡ block_of x.1 h)
    → continues_burst x.1 (burst_on r.bursts (channel_of x.1)) ≡ true → IsRecordUnder l r t
    → IsMoment m r.subject.link.0 x t
moment_is l r m x t width own is long first last block goes rec =
    let h = on_link r.subject.link.0 t in
    let u = burst_on r.bursts (channel_of x.1) in
    let of = rec.bursts_are (channel_of x.1) in
    record {
      told_is = is;
      length_is = long;
      of_link = own;
      first_is = first ∙ sym (first-is u (unfinished (channel_of x.1) h) of);
      last_is = last ∙ sym (last-is x.1 u (unfinished (channel_of x.1) h) width of
          (continues x.1 u (unfinished (channel_of x.1) h) of goes));
      block_is = block h rec.blocks_are;
    }

pub record_taken : {w : ℕ} (l : Liberties) (r q : Recorder) (m : Moment) (x : Link × Beat w) (t : Trace w) → IsWidth w
    → IsMoment m r.subject.link.0 x t → q.subject ≡ r.subject → q.liberties ≡ r.liberties
    → continues_burst x.1 (burst_on r.bursts (channel_of x.1)) ≡ true
    → AreTurns q.turns r.subject (x ∷ t) → IsHeld q.held l r.subject.link.0 r.subject.block (x ∷ t)
    → ((s : ℕ) → at q.blocks.asked s ≡ asked_next m.first x.1 s (at r.blocks.asked s))
    → ((s : ℕ) → at q.blocks.released s ≡ released_next m.first x.1 s (at r.blocks.released s))
    → ((ch : Channel) → burst_on q.bursts ch ≡ burst_with ch x.1 m (burst_on r.bursts ch)) → IsRecordUnder l r t
    → IsRecordUnder l q (x ∷ t)
record_taken {w} l r q m x t width is same allowed goes turns held asked released bursts rec =
    let n = r.subject.link.0 in
    let here : (x.0.0 == n) ≡ true = same_true x.0.0 n is.of_link in
    let own : on_link n (x ∷ t) ≡ x.1 ∷ on_link n t = own_link n x t is.of_link in
    let goes_on = continues x.1 (burst_on r.bursts (channel_of x.1)) (unfinished (channel_of x.1) (on_link n t))
    (rec.bursts_are (channel_of x.1)) goes in
    let next : (ch : Channel) → IsOf (burst_with ch x.1 m (burst_on r.bursts ch)) (unfinished ch (on_link n (x ∷ t))) =
    λ ch. rw own (bursts-next ch x.1 m (on_link n t) (burst_on r.bursts ch) width (rec.bursts_are ch) goes_on) in
    let all_bursts : (ch : Channel) → IsOf (burst_on q.bursts ch) (unfinished ch (on_link n (x ∷ t))) =
    λ ch. rw (bursts ch) (next ch) in
    let all_begun : (ch : Channel) → IsBegun (begun_on q ch) n ch (x ∷ t) =
    λ ch. rw (bursts ch) (begun_taken n ch x t (burst_on r.bursts ch) m here is (rec.bursts_are ch) (next ch)
    (rec.begun_are ch)) in
    let all_blocks : AreBlocks q.blocks (on_link n (x ∷ t)) =
    rw own (blocks_taken r.blocks q.blocks x.1 (on_link n t) m.first is.first_is asked released rec.blocks_are) in
    record {
      bursts_are = rw same all_bursts;
      begun_are = rw same all_begun;
      blocks_are = rw same all_blocks;
      turns_are = rw same turns;
      liberties_are = allowed ∙ rec.liberties_are;
      held_is = rw same held;
    }
