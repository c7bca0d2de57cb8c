-- Where a rule is the first that a beat breaks, a reason is told.
use Rattle.std.proofs.Common.{◌≡◌, ℕ, ◌==◌, ◌&&◌, ◌||◌, true, false, Bool, not, refl, sym, ap, ap₂, ◌∙◌}
use Rattle.std.proofs.Common.{inl, inr, ◌⊎◌, subst}
use Rattle.std.specs.Prelude.{Option, Some, None, is_some, if◌then◌else◌}
use Rattle.tl_beat.specs.declared.beat.Beat.{Beat}
use Rattle.tl_beat.specs.declared.beat.Beat.TheVariants as beat
use Rattle.tl_beat.specs.declared.beat.BeatC.{BeatC}
use Rattle.tl_burst.specs.statement.Messages.{History, unfinished}
use Rattle.tl_params.specs.declared.key.Key.{Key}
use Rattle.tl_params.specs.declared.level.Level.{Level}
use Rattle.tl_params.specs.declared.liberties.Liberties.{Liberties}
use Rattle.tl_params.specs.declared.rule.Rule.{Rule}
use Rattle.tl_params.specs.declared.rule.Rule.TheVariants.{A1, A2, A3, L1, L2, L3, L4, L5, L6, L7, S1, H1, H2, H3, H4}
use Rattle.tl_params.specs.declared.rule.Rule.TheVariants.{H5, H6, H7, H8, H9, H10, H11, H12, H13}
use Rattle.tl_rules.specs.statement.Conformance.{Trace}
use Rattle.tl_rules.specs.statement.Liberties.{is_legal_under}
use Rattle.tl_rules.specs.statement.Conformance.{on_link}
use Rattle.tl_rules.specs.statement.History.{is_probe_ack}
use Rattle.tl_rules.specs.statement.History.{is_release, pending}
use Rattle.tl_explain.specs.declared.bursts.Begun.{Begun}
use Rattle.tl_explain.specs.declared.reason.Reason.{Reason}
use Rattle.tl_explain.specs.declared.recorder.Recorder.{Recorder}
use Rattle.tl_explain.specs.declared.told.Mention.{Mention}
use Rattle.tl_explain.specs.declared.told.Told.{Told}
use Rattle.tl_explain.specs.declared.turn.Turn.{Turn}
use Rattle.tl_explain.specs.code.Chosen.{awaited, first_reason, for_message}
use Rattle.tl_explain.specs.code.Chosen.{for_probe_ack, for_release}
use Rattle.tl_explain.specs.code.Chosen.{is_of_bursts, missing_by}
use Rattle.tl_explain.specs.code.Chosen.{where_missing, where_pending}
use Rattle.tl_explain.specs.code.Recorded.{IsBegun, IsTurn, open_message, comes_by}
use Rattle.tl_explain.specs.statement.Evidence.{is_open, mention_of}
use Rattle.tl_explain.specs.statement.Reasons.{comes_in, opening_channel}
use Rattle.tl_explain.proofs.Found.{opened}
use Rattle.tl_explain.proofs.Rests.{pending_open}
use Rattle.tl_explain.proofs.sound.Openings.{comes-is, opened_some}
use Rattle.tl_explain.proofs.WholeBursts.{burst_opened, none_comes}
use Rattle.tl_explain.proofs.Plain.{both_true, is_one, not_true, same_true}

pub or_three : (a b c : Bool) → (a || (b || c)) ≡ true → ((a || b) ≡ true) ⊎ (c ≡ true)
or_three true b c e = inl refl
or_three false true c e = inl refl
or_three false false c e = inr e

pub or_true : (a b : Bool) → (a || b) ≡ true → (a ≡ true) ⊎ (b ≡ true)
or_true true b e = inl refl
or_true false b e = inr e

pub and_false : (a b : Bool) → (a && b) ≡ false → (a ≡ false) ⊎ (b ≡ false)
and_false true b e = inr e
and_false false b e = inl refl

pub either_told : (a b : Option Reason) → (is_some a ≡ true) ⊎ (is_some b ≡ true) → is_some (first_reason a b) ≡ true
either_told (Some x) b e = refl
either_told None b (inl e) = absurd cc
either_told None b (inr e) = e

-- ---- what is told of a key

module _ {w : ℕ} (n : ℕ) (t : Trace w) (k : Key) (turn : Turn) (is : IsTurn turn n k t) where
  abbrev now : History w
  now = on_link n t

  pub pending_told : pending k now ≡ true → is_some (where_pending k turn) ≡ true
  pending_told e = let m = opened n t k turn is e in rw m.1 refl

  pub free_told : (b : Option Begun) → pending k now ≡ false → is_some (where_missing k turn b) ≡ true
  free_told b e = go turn.opening turn.closing (ap₂ is_open is.opening_is is.closing_is ∙ sym (pending_open n k t) ∙ e)
    where
      go : (o c : Option Told) → is_open (mention_of o) (mention_of c) ≡ false
          → is_some (missing_by k o c (if is_open (mention_of o) (mention_of c) then o else None) b) ≡ true
      go None c f = refl
      go (Some m) None f = absurd cc
      go (Some m) (Some c) f = rw f refl

  unfinished_told : (lib : Liberties) (b : Option Begun) → IsBegun b n (opening_channel k) t → pending k now ≡ true
      → comes_in k (unfinished (opening_channel k) now) ≡ true → (v : Level) → is_legal_under lib v now ≡ true
      → is_some (where_missing k turn b) ≡ true
  unfinished_told lib None begun e comes v clean = absurd (none_comes w k (ap (comes_in k) (sym begun) ∙ comes))
  unfinished_told lib (Some b) begun e comes v clean =
      unfinished_is turn.opening turn.closing (open_message turn) m.0 b of.1 m.1 line opens_key
    where
      unfinished_is : (o c q : Option Told) (m : Told) (b : Begun) → o ≡ Some m → q ≡ Some m
          → (b.first.mention.line == m.mention.line) ≡ true → comes_by k b.newest ≡ true
          → is_some (missing_by k o c q (Some b)) ≡ true
      unfinished_is o c q m b f g here opens = rw (f, g, here, opens) refl

      m : (m : Told) × (open_message turn ≡ Some m)
      m = opened n t k turn is e

      of : (is_open (mention_of turn.opening) (mention_of turn.closing) ≡ true) × (turn.opening ≡ Some m.0)
      of = opened_some turn.opening turn.closing m.0 m.1

      same : b.first.mention ≡ m.0.mention
      same = is_one (sym begun.5 ∙ sym (burst_opened n k v lib t clean comes) ∙ sym is.opening_is
          ∙ ap mention_of of.1)

      line : (b.first.mention.line == m.0.mention.line) ≡ true
      line = same_true b.first.mention.line m.0.mention.line (ap (λ (z : Mention). z.line) same)

      opens_key : comes_by k b.newest ≡ true
      opens_key = ap (comes_by k) begun.3 ∙ comes-is k begun.0 begun.1 ∙ sym (ap (comes_in k) begun.2) ∙ comes

  -- where the message has to be complete before its answer
  pub awaited_told : (lib : Liberties) (b : Option Begun) → IsBegun b n (opening_channel k) t → pending k now ≡ true
      → (not lib.early && comes_in k (unfinished (opening_channel k) now)) ≡ true → (v : Level)
      → is_legal_under lib v now ≡ true → is_some (where_missing k turn (awaited lib b)) ≡ true
  awaited_told lib b begun e late v clean =
      let both = both_true (not lib.early) (comes_in k (unfinished (opening_channel k) now)) late in
      subst (λ (o : Option Begun). is_some (where_missing k turn o) ≡ true)
      (sym (ap (λ (early : Bool). if early then None else b) (not_true lib.early both.0)))
      (unfinished_told lib b begun e both.1 v clean)

-- ---- a reason of messages is of no rule of bursts

no_message_c : {w : ℕ} (lib : Liberties) (x : BeatC w) (r : Recorder) (a b : Bool)
    → is_some (if a then for_release lib S1 x r else if b then for_probe_ack lib S1 x r else None) ≡ true → ⊥
no_message_c lib x r true b e = absurd cc
no_message_c lib x r false true e = absurd cc
no_message_c lib x r false false e = absurd cc

no_message : {w : ℕ} (lib : Liberties) (r : Recorder) (x : Beat w) → is_some (for_message lib S1 x r) ≡ true → ⊥
no_message lib r (beat.A x) e = absurd cc
no_message lib r (beat.B x) e = absurd cc
no_message lib r (beat.C x) e = no_message_c lib x r (is_release x.opcode) (is_probe_ack x.opcode) e
no_message lib r (beat.D x) e = absurd cc
no_message lib r (beat.E x) e = absurd cc

pub not_of_bursts : {w : ℕ} (lib : Liberties) (r : Recorder) (rule : Rule) (x : Beat w)
    → is_some (for_message lib rule x r) ≡ true → is_of_bursts rule ≡ false
not_of_bursts lib r S1 x e = absurd (no_message lib r x e)
not_of_bursts lib r A1 x e = refl
not_of_bursts lib r A2 x e = refl
not_of_bursts lib r A3 x e = refl
not_of_bursts lib r L1 x e = refl
not_of_bursts lib r L2 x e = refl
not_of_bursts lib r L3 x e = refl
not_of_bursts lib r L4 x e = refl
not_of_bursts lib r L5 x e = refl
not_of_bursts lib r L6 x e = refl
not_of_bursts lib r L7 x e = refl
not_of_bursts lib r H1 x e = refl
not_of_bursts lib r H2 x e = refl
not_of_bursts lib r H3 x e = refl
not_of_bursts lib r H4 x e = refl
not_of_bursts lib r H5 x e = refl
not_of_bursts lib r H6 x e = refl
not_of_bursts lib r H7 x e = refl
not_of_bursts lib r H8 x e = refl
not_of_bursts lib r H9 x e = refl
not_of_bursts lib r H10 x e = refl
not_of_bursts lib r H11 x e = refl
not_of_bursts lib r H12 x e = refl
not_of_bursts lib r H13 x e = refl
