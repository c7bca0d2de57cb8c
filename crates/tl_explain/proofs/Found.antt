-- A request, Release or Probe that is pending is told of, and what is told has its fields.
use Rattle.std.proofs.Common.{◌≡◌, ℕ, ◌==◌, ◌&&◌, ◌||◌, true, false, Bool, not, refl, sym, ap, ap₂, ◌∙◌}
use Rattle.std.proofs.Common.{subst, inl, inr, ◌⊎◌}
use Rattle.std.specs.Prelude.{Option, Some, None, if◌then◌else◌, is_some}
use Rattle.tl_beat.specs.declared.beat.Beat.{Beat}
use Rattle.tl_beat.specs.declared.beat.Beat.TheVariants as beat
use Rattle.tl_beat.specs.declared.beat.BeatA.{BeatA}
use Rattle.tl_beat.specs.declared.beat.BeatC.{BeatC}
use Rattle.tl_beat.specs.declared.beat.BeatD.{BeatD}
use Rattle.tl_beat.specs.declared.opcode.OpD.{OpD}
use Rattle.tl_beat.specs.declared.opcode.OpD.TheVariants as d
use Rattle.tl_beat.specs.declared.channel.Channel.TheVariants as channel
use Rattle.tl_beat.specs.statement.First.{first_if}
use Rattle.tl_burst.specs.statement.Messages.{History, unfinished}
use Rattle.tl_params.specs.declared.key.Key.{Key}
use Rattle.tl_params.specs.declared.key.Key.TheVariants.{RequestSource, ReleaseSource}
use Rattle.tl_params.specs.declared.key.Key.TheVariants.{ProbeOf}
use Rattle.tl_params.specs.declared.liberties.Liberties.{Liberties}
use Rattle.tl_params.specs.declared.perm.Perm.{Perm}
use Rattle.tl_params.specs.declared.rule.Rule.{Rule}
use Rattle.tl_rules.specs.statement.Conformance.{Trace, on_link, admits, fits_grow}
use Rattle.tl_rules.specs.statement.Conformance.{comes_in_release, comes_in_request}
use Rattle.tl_rules.specs.statement.Conformance.{size_asked}
use Rattle.tl_rules.specs.statement.Liberties.{has_request_under, held_under, misgrants_under, misreports_under}
use Rattle.tl_rules.specs.statement.Liberties.{profile_under}
use Rattle.tl_rules.specs.statement.History.{begins, block_at, opens, pending, probe_of, release_of, request_of}
use Rattle.tl_rules.specs.statement.History.{is_grant, is_release_ack}
use Rattle.tl_beat.specs.statement.Control.{control_of}
use Rattle.tl_beat.specs.declared.control.Control.TheVariants as control
use Rattle.tl_beat.specs.declared.control.ControlA.{ControlA}
use Rattle.tl_beat.specs.declared.control.ControlB.{ControlB}
use Rattle.tl_beat.specs.declared.control.ControlC.{ControlC}
use Rattle.tl_explain.specs.declared.recorder.Recorder.{Recorder}
use Rattle.tl_explain.specs.declared.told.Mention.{Mention}
use Rattle.tl_explain.specs.declared.told.Told.{Told}
use Rattle.tl_explain.specs.declared.turn.Turn.{Turn}
use Rattle.tl_explain.specs.declared.reason.Reason.TheVariants.{WithoutData, WrongCap}
use Rattle.tl_explain.specs.code.Chosen.{asked_by, grant_by, probed_by, report_by, size_by}
use Rattle.tl_explain.specs.code.Recorded.{IsRecordUnder, IsTurn, open_message}
use Rattle.tl_explain.specs.statement.Evidence.{is_open, mention_of}
use Rattle.tl_explain.specs.statement.Reasons.{HasBlockAsked, gives_nothing, has_wrong_cap, is_misreport, lacks_data}
use Rattle.tl_explain.specs.statement.Since.{IsPendingSince}
use Rattle.tl_explain.proofs.convicts.Waiting.{AskedSo, ProbedSo, ReleasedSo, asked_by_beat, asked_so, named}
use Rattle.tl_explain.proofs.convicts.Waiting.{probe_step, probed_by_beat, probed_so, release_step, released_by_beat}
use Rattle.tl_explain.proofs.convicts.Waiting.{released_so, request_step}
use Rattle.tl_explain.proofs.Rests.{pending_open}
use Rattle.tl_explain.proofs.sound.Openings.{open_since}
use Rattle.tl_explain.proofs.Plain.{is_one, both_true, same_true}

pub or_false : (a b : Bool) → (a || b) ≡ false → (a ≡ false) × (b ≡ false)
or_false true b e = absurd cc
or_false false b e = (refl, e)

pub not_false : (b : Bool) → not b ≡ false → b ≡ true
not_false true e = refl
not_false false e = absurd cc

-- this test decides, or the rest
pub decides : (b : Bool) (r : Rule) (rest : Option Rule) (rule : Rule) → first_if b r rest ≡ Some rule
    → ((b ≡ true) × (r ≡ rule)) ⊎ ((b ≡ false) × (rest ≡ Some rule))
decides true r rest rule e = inl (refl, is_one e)
decides false r rest rule e = inr (refl, e)

last_true : (a b c : Bool) → a ≡ false → b ≡ false → (a || (b || c)) ≡ true → c ≡ true
last_true true b c e f g = absurd cc
last_true false true c e f g = absurd cc
last_true false false c e f g = g

-- a Grant that has its cap and its data, and isn't one for its request, comes while a Probe of the block is pending
probe_left : {w : ℕ} (lib : Liberties) (x : BeatD w) (a : ControlA) (z : BeatA w) (q : Perm) (k : ℕ) (h : History w)
    → a.opcode ≡ z.opcode → a.param ≡ z.param → q ≡ held_under lib k h → k ≡ block_at z.address
    → has_wrong_cap lib x a ≡ false → lacks_data lib x a q ≡ false → misgrants_under lib x (Some z) h ≡ true
    → pending (ProbeOf k) h ≡ true
probe_left lib x a z q k h opcode param held block fits has bad = go (gives_nothing lib x) refl
  where
    go : (b : Bool) → gives_nothing lib x ≡ b → pending (ProbeOf k) h ≡ true
    go true e = rw block (rw e at bad)
    go false e = rw block (last_true (not (fits_grow (profile_under lib) z.opcode z.param x.param)) _ _
        (rw (e, opcode, param) at fits) (rw (e, opcode, held, block) at has) (rw e at bad))

-- ---- a key that is pending has its message

module _ {w : ℕ} (n : ℕ) (t : Trace w) where
  abbrev now : History w
  now = on_link n t

  pub opened : (k : Key) (turn : Turn) → IsTurn turn n k t → pending k now ≡ true
      → (m : Told) × (open_message turn ≡ Some m)
  opened k turn is e = go turn.opening refl (ap₂ is_open is.opening_is is.closing_is ∙ sym (pending_open n k t) ∙ e)
    where
      go : (o : Option Told) → turn.opening ≡ o → is_open (mention_of turn.opening) (mention_of turn.closing) ≡ true
          → (m : Told) × (open_message turn ≡ Some m)
      go None f h = let no : is_open None (mention_of turn.closing) ≡ true =
          ap (λ (z : Option Told). is_open (mention_of z) (mention_of turn.closing)) (sym f) ∙ h in absurd cc
      go (Some m) f h = (m, rw h f)

  opens_with : (k : Key) (m : Mention) (since : IsPendingSince n k m t) → opens k since.1.1 (on_link n since.2) ≡ true
  opens_with k m since =
      (both_true (begins since.1.1 (on_link n since.2)) (opens k since.1.1 (on_link n since.2))
      (both_true (since.1.0.0 == n) (begins since.1.1 (on_link n since.2) && opens k since.1.1 (on_link n since.2))
      since.5).1).1

  is_a : (s : ℕ) (y : Beat w) (h : History w) → opens (RequestSource s) y h ≡ true
      → (r : ControlA) × (control_of y ≡ control.A r)
  is_a s (beat.A x) h e = (
    record {
      opcode = x.opcode;
      param = x.param;
      size = x.size;
      source = x.source;
      address =
          x.address;
    },
    refl,
  )
  is_a s (beat.B x) h e = absurd cc
  is_a s (beat.C x) h e = absurd cc
  is_a s (beat.D x) h e = absurd cc
  is_a s (beat.E x) h e = absurd cc

  is_b : (k : ℕ) (y : Beat w) (h : History w) → opens (ProbeOf k) y h ≡ true
      → (r : ControlB) × (control_of y ≡ control.B r)
  is_b k (beat.A x) h e = absurd cc
  is_b k (beat.B x) h e = (
    record {
      opcode = x.opcode;
      param = x.param;
      size = x.size;
      source = x.source;
      address =
          x.address;
    },
    refl,
  )
  is_b k (beat.C x) h e = absurd cc
  is_b k (beat.D x) h e = absurd cc
  is_b k (beat.E x) h e = absurd cc

  is_c : (s : ℕ) (y : Beat w) (h : History w) → opens (ReleaseSource s) y h ≡ true
      → (r : ControlC) × (control_of y ≡ control.C r)
  is_c s (beat.A x) h e = absurd cc
  is_c s (beat.B x) h e = absurd cc
  is_c s (beat.C x) h e = (
    record {
      opcode = x.opcode;
      param = x.param;
      size = x.size;
      source = x.source;
      address =
          x.address;
    },
    refl,
  )
  is_c s (beat.D x) h e = absurd cc
  is_c s (beat.E x) h e = absurd cc

  request_open : (s : ℕ) (turn : Turn) → IsTurn turn n (RequestSource s) t → pending (RequestSource s) now ≡ true
      → (m : Told) × (open_message turn ≡ Some m) × (r : ControlA) × (m.mention.control ≡ control.A r)
      × AskedSo r (request_of s now)
  request_open s turn is e =
      let found = opened (RequestSource s) turn is e in
      let since = open_since turn n (RequestSource s) t is found.0 found.1 in
      let of = is_a s since.1.1 (on_link n since.2) (opens_with (RequestSource s) found.0.mention since) in
      let control = ap (λ (z : Mention). z.control) since.4 in (
        found.0,
        found.1,
        of.0,
        control ∙ of.1,
        asked_so of.0 since.1.1 (request_of s now) (sym of.1) (named (RequestSource s) (request_of s) asked_by_beat
            (request_step s) n found.0.mention t since),
      )

  release_open : (s : ℕ) (turn : Turn) → IsTurn turn n (ReleaseSource s) t → pending (ReleaseSource s) now ≡ true
      → (m : Told) × (open_message turn ≡ Some m) × (r : ControlC) × (m.mention.control ≡ control.C r)
      × ReleasedSo r (release_of s now)
  release_open s turn is e =
      let found = opened (ReleaseSource s) turn is e in
      let since = open_since turn n (ReleaseSource s) t is found.0 found.1 in
      let of = is_c s since.1.1 (on_link n since.2) (opens_with (ReleaseSource s) found.0.mention since) in
      let control = ap (λ (z : Mention). z.control) since.4 in (
        found.0,
        found.1,
        of.0,
        control ∙ of.1,
        released_so of.0 since.1.1 (release_of s now) (sym of.1)
            (named (ReleaseSource s) (release_of s) released_by_beat
            (release_step s) n found.0.mention t since),
      )

  probe_open : (k : ℕ) (turn : Turn) → IsTurn turn n (ProbeOf k) t → pending (ProbeOf k) now ≡ true
      → (m : Told) × (open_message turn ≡ Some m) × (r : ControlB) × (m.mention.control ≡ control.B r)
      × ProbedSo r (probe_of k now)
  probe_open k turn is e =
      let found = opened (ProbeOf k) turn is e in
      let since = open_since turn n (ProbeOf k) t is found.0 found.1 in
      let of = is_b k since.1.1 (on_link n since.2) (opens_with (ProbeOf k) found.0.mention since) in
      let control = ap (λ (z : Mention). z.control) since.4 in (
        found.0,
        found.1,
        of.0,
        control ∙ of.1,
        probed_so of.0 since.1.1 (probe_of k now) (sym of.1)
            (named (ProbeOf k) (probe_of k) probed_by_beat (probe_step k)
            n found.0.mention t since),
      )

-- ---- sizes, Grants and reports

pub grant_no_ack : (o : OpD) → is_grant o ≡ true → is_release_ack o ≡ false
grant_no_ack d.AccessAck e = absurd cc
grant_no_ack d.AccessAckData e = absurd cc
grant_no_ack d.HintAck e = absurd cc
grant_no_ack d.Grant e = refl
grant_no_ack d.GrantData e = refl
grant_no_ack d.ReleaseAck e = absurd cc

-- the rules are judged by some liberties, the record is kept under others, under which as much is held
module _ {w : ℕ} (lib base : Liberties) (as_much : (k : ℕ) (h : History w) → held_under base k h ≡ held_under lib k h)
    (r : Recorder) (t : Trace w) (rec : IsRecordUnder base r t) where
  abbrev h : History w
  h = on_link r.subject.link.0 t

  abbrev l : ℕ
  l = r.subject.link.0

  pub request_told : (s : ℕ) → r.subject.source ≡ s → pending (RequestSource s) h ≡ true
      → (m : Told) × (open_message r.turns.request ≡ Some m) × (a : ControlA) × (m.mention.control ≡ control.A a)
      × AskedSo a (request_of s h)
  request_told s e is = request_open l t s r.turns.request
      (subst (λ (i : ℕ). IsTurn r.turns.request l (RequestSource i) t) e rec.turns_are.request_is) is

  release_told : (s : ℕ) → r.subject.source ≡ s → pending (ReleaseSource s) h ≡ true
      → (m : Told) × (open_message r.turns.release_with_source ≡ Some m) × (a : ControlC)
      × (m.mention.control ≡ control.C a) × ReleasedSo a (release_of s h)
  release_told s e is =
      release_open l t s r.turns.release_with_source
      (subst (λ (i : ℕ). IsTurn r.turns.release_with_source l (ReleaseSource i) t) e
      rec.turns_are.release_with_source_is) is

  pub probe_told : (k : ℕ) → r.subject.block ≡ k → pending (ProbeOf k) h ≡ true
      → (m : Told) × (open_message r.turns.probe ≡ Some m) × (a : ControlB) × (m.mention.control ≡ control.B a)
      × ProbedSo a (probe_of k h)
  probe_told k e is = probe_open l t k r.turns.probe (subst (λ (i : ℕ). IsTurn r.turns.probe l (ProbeOf i) t) e
      rec.turns_are.probe_is) is

  pub perm_is : (k : ℕ) → r.subject.block ≡ k → r.held.perm ≡ held_under lib k h
  perm_is k e = rec.held_is.perm_is ∙ ap (λ (i : ℕ). held_under base i h) e ∙ as_much k h

  pub size_told : (x : BeatD w) → r.subject.source ≡ x.source → has_request_under lib x h ≡ true
      → (x.size == size_asked x h) ≡ false
      → is_some (size_by x (asked_by x r)) ≡ true
  size_told x source has other = go (is_release_ack x.opcode) refl
    where
      go : (b : Bool) → is_release_ack x.opcode ≡ b → is_some (size_by x (asked_by x r)) ≡ true
      go true ack =
          let is : pending (ReleaseSource x.source) h ≡ true =
          (both_true (pending (ReleaseSource x.source) h) (not (not lib.early && comes_in_release x.source (unfinished channel.C h)))
          (rw ack at has)).0 in
          let m = release_told x.source source is in
          let size : (x.size == m.4.0.size) ≡ false = rw (ack, m.4.1) at other in
          let own : (x.size == m.2.size) ≡ false = ap (λ (s : ℕ). x.size == s) m.4.2 ∙ size in
          rw (ack, m.1, m.3, own) refl
      go false ack =
          let is : pending (RequestSource x.source) h ≡ true =
          (both_true (pending (RequestSource x.source) h)
          (not (not lib.early && comes_in_request x.source (unfinished channel.A h)) && admits x.opcode (request_of x.source h))
          (rw ack at has)).0 in
          let m = request_told x.source source is in
          let size : (x.size == m.4.0.size) ≡ false = rw (ack, m.4.1) at other in
          let own : (x.size == m.2.size) ≡ false = ap (λ (s : ℕ). x.size == s) m.4.4 ∙ size in
          rw (ack, m.1, m.3, own) refl

  pub grant_told : (x : BeatD w) → r.subject.source ≡ x.source → HasBlockAsked r.subject (beat.D x) t
      → has_request_under lib x h ≡ true → is_grant x.opcode ≡ true
      → misgrants_under lib x (request_of x.source h) h ≡ true
      → is_some (grant_by lib x (open_message r.turns.request) r) ≡ true
  grant_told x source asked has grant wrong = rw (m.1, m.3) (capped (has_wrong_cap lib x m.2) refl)
    where
      is : pending (RequestSource x.source) h ≡ true
      is = (both_true (pending (RequestSource x.source) h)
          (not (not lib.early && comes_in_request x.source (unfinished channel.A h)) && admits x.opcode
          (request_of x.source h)) (rw (grant_no_ack x.opcode grant) at has)).0

      m : (m : Told) × (open_message r.turns.request ≡ Some m) × (a : ControlA) × (m.mention.control ≡ control.A a)
          × AskedSo a (request_of x.source h)
      m = request_told x.source source is

      z : BeatA w
      z = m.4.0

      block : r.subject.block ≡ block_at z.address
      block = rw m.4.1 at asked

      same : block_at m.2.address ≡ r.subject.block
      same = ap block_at m.4.5 ∙ sym block

      bad : misgrants_under lib x (Some z) h ≡ true
      bad = rw m.4.1 at wrong

      probing : pending (ProbeOf r.subject.block) h ≡ true → is_some (probed_by m.0 (open_message r.turns.probe)) ≡ true
      probing on = let q = probe_told r.subject.block refl on in rw q.1 refl

      lacking : (b : Bool) → lacks_data lib x m.2 r.held.perm ≡ b → has_wrong_cap lib x m.2 ≡ false
          → is_some (if not (block_at m.2.address == r.subject.block) then None else
          if b then Some (WithoutData m.0 r.held) else probed_by m.0 (open_message r.turns.probe)) ≡ true
      lacking true e fits = rw (same_true (block_at m.2.address) r.subject.block same) refl
      lacking false e fits = rw (same_true (block_at m.2.address) r.subject.block same)
          (probing (probe_left lib x m.2 z r.held.perm r.subject.block h m.4.2 m.4.3 (perm_is r.subject.block refl) block
          fits e bad))

      capped : (b : Bool) → has_wrong_cap lib x m.2 ≡ b
          → is_some (if b then Some (WrongCap m.0) else if not (block_at m.2.address == r.subject.block) then None else
          if lacks_data lib x m.2 r.held.perm then Some (WithoutData m.0 r.held)
          else probed_by m.0 (open_message r.turns.probe)) ≡ true
      capped true e = refl
      capped false e = lacking (lacks_data lib x m.2 r.held.perm) refl e

  pub report_told : (x : BeatC w) → r.subject.block ≡ block_at x.address
      → pending (ProbeOf (block_at x.address)) h ≡ true
      → misreports_under lib x (probe_of (block_at x.address) h) (held_under lib (block_at x.address) h) ≡ true
      → is_some (report_by lib x (open_message r.turns.probe) r.held) ≡ true
  report_told x block is wrong =
      let m = probe_told (block_at x.address) block is in
      let other : is_misreport lib x.param m.4.0.param (held_under lib (block_at x.address) h) ≡ true = rw m.4.1 at wrong
      in
      let own : is_misreport lib x.param m.2.param r.held.perm ≡ true =
      ap₂ (λ (c : ℕ) (q : Perm). is_misreport lib x.param c q) m.4.3 (perm_is (block_at x.address) block) ∙ other in
      rw (m.1, m.3, own) refl
