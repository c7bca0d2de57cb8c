-- A beat that breaks no L rule under some liberties breaks none under more.
use Rattle.tl_forgiving.proofs.Imports.{Beat, A, B, C, D, E, Channel, IsWithin, Level, Liberties}
use Rattle.tl_forgiving.proofs.Implied.{Implies, and-more, ladder-less, not-false, not-less, or-more, rest-none}
use Rattle.tl_forgiving.proofs.Implied.{second, second-fails, test-fails, third-fails}
use Rattle.std.proofs.Common.{◌≡◌, ℕ, Bool, true, false, not, ◌&&◌, ◌||◌, refl}
use Rattle.std.specs.Prelude.{if◌then◌else◌, None, Some, is_some, ◌==◌}
use Rattle.tl_beat.specs.declared.opcode.OpC.{OpC}
use Rattle.tl_beat.specs.declared.opcode.OpD.{OpD}
use Rattle.tl_beat.specs.declared.beat.BeatB.{BeatB}
use Rattle.tl_beat.specs.declared.beat.BeatC.{BeatC}
use Rattle.tl_beat.specs.declared.beat.BeatD.{BeatD}
use Rattle.tl_beat.specs.statement.Opcode.{d_carries_data}
use Rattle.tl_params.specs.declared.liberties.Liberty.TheVariants.{Denied, Ids, Reports, Sinks, Uncorrupt}
use Rattle.tl_params.specs.declared.param.Prune.TheVariants as prune
use Rattle.tl_params.specs.declared.param.Report.TheVariants as report
use Rattle.tl_params.specs.declared.rule.Rule.TheVariants.{L1, L2, L3, L4, L5, L6, L7}
use Rattle.tl_params.specs.statement.Param.{cap_of, prune_of, report_code, report_named}
use Rattle.tl_rules.specs.statement.Legality.{breaks_l1, breaks_l3, breaks_l4, breaks_l5, breaks_l7, c_has_param}
use Rattle.tl_rules.specs.statement.Legality.{c_has_source, d_has_param, d_has_sink}
use Rattle.tl_rules.specs.statement.History.{is_grant, is_probe_ack, is_release_ack}
use Rattle.tl_rules.specs.statement.Liberties.{breaks_l2_under, breaks_l6_under, c_has_param_under, illegal_under}
use Rattle.tl_rules.specs.statement.Liberties.{may_be_denied_under}
use Rattle.tl_rules.proofs.Open.{never}

-- a Release's param is a report as well
named : (a b c d e f : Bool)
    → is_some (if a then Some prune.TtoB else if b then Some prune.TtoN else if c then Some prune.BtoN else None)
    ≡ true
    → is_some (if a then Some report.TtoB else if b then Some report.TtoN else if c then Some report.BtoN else
    if d then Some report.TtoT else if e then Some report.BtoB else if f then Some report.NtoN else None) ≡ true
named true b c d e f is = refl
named false true c d e f is = refl
named false false true d e f is = refl
named false false false d e f is = absurd cc

reported : (n : ℕ) → Implies (is_some (prune_of n)) (is_some (report_named n))
reported n = named (n == 0) (n == 1) (n == 2) (n == 3) (n == 4) (n == 5)

module _ (l m : Liberties) (within : IsWithin l m) where
  -- ---- L2

  param-more : (opcode : OpC) (param : ℕ)
      → Implies (c_has_param_under l opcode param) (c_has_param_under m opcode param)
  param-more OpC.Release param = go l.reports m.reports (within Reports)
    where
      go : (a b : Bool) → Implies a b
          → Implies (if a then is_some (report_named param) else c_has_param OpC.Release param)
          (if b then is_some (report_named param) else c_has_param OpC.Release param)
      go true true f e = e
      go true false f e = absurd (let no : false ≡ true = f refl in cc)
      go false true f e = reported param e
      go false false f e = e
  param-more OpC.ReleaseData param =
      or-more (l.reports && (param == report_code report.TtoT)) (c_has_param OpC.ReleaseData param)
      (m.reports && (param == report_code report.TtoT)) (c_has_param OpC.ReleaseData param)
      (and-more l.reports (param == report_code report.TtoT) m.reports (param == report_code report.TtoT)
      (within Reports) (λ e. e)) (λ e. e)
  param-more OpC.AccessAck param = λ e. e
  param-more OpC.AccessAckData param = λ e. e
  param-more OpC.HintAck param = λ e. e
  param-more OpC.ProbeAck param = λ e. e
  param-more OpC.ProbeAckData param = λ e. e

  l2-less : {w : ℕ} (x : Beat w) → Implies (breaks_l2_under m x) (breaks_l2_under l x)
  l2-less (A x) = λ e. e
  l2-less (B x) =
      not-less (is_some (cap_of x.param) && (l.ids || (x.source == 0)))
      (is_some (cap_of x.param) && (m.ids || (x.source == 0)))
      (and-more (is_some (cap_of x.param)) (l.ids || (x.source == 0)) (is_some (cap_of x.param))
      (m.ids || (x.source == 0)) (λ e. e)
      (or-more l.ids (x.source == 0) m.ids (x.source == 0) (within Ids) (λ e. e)))
  l2-less (C x) =
      not-less (c_has_param_under l x.opcode x.param && (l.ids || c_has_source x.opcode x.source))
      (c_has_param_under m x.opcode x.param && (m.ids || c_has_source x.opcode x.source))
      (and-more (c_has_param_under l x.opcode x.param) (l.ids || c_has_source x.opcode x.source)
      (c_has_param_under m x.opcode x.param) (m.ids || c_has_source x.opcode x.source)
      (param-more x.opcode x.param)
      (or-more l.ids (c_has_source x.opcode x.source) m.ids (c_has_source x.opcode x.source) (within Ids) (λ e. e)))
  l2-less (D x) =
      not-less (d_has_param x.opcode x.param && (l.sinks || d_has_sink x.opcode x.sink))
      (d_has_param x.opcode x.param && (m.sinks || d_has_sink x.opcode x.sink))
      (and-more (d_has_param x.opcode x.param) (l.sinks || d_has_sink x.opcode x.sink) (d_has_param x.opcode x.param)
      (m.sinks || d_has_sink x.opcode x.sink) (λ e. e)
      (or-more l.sinks (d_has_sink x.opcode x.sink) m.sinks (d_has_sink x.opcode x.sink) (within Sinks) (λ e. e)))
  l2-less (E x) = λ e. e

  -- ---- L6

  denied-more : (opcode : OpD) (corrupt : Bool)
      → Implies (may_be_denied_under l opcode corrupt) (may_be_denied_under m opcode corrupt)
  denied-more OpD.AccessAckData corrupt = or-more l.uncorrupt corrupt m.uncorrupt corrupt (within Uncorrupt) (λ e. e)
  denied-more OpD.Grant corrupt = within Denied
  denied-more OpD.GrantData corrupt = and-more l.denied corrupt m.denied corrupt (within Denied) (λ e. e)
  denied-more OpD.AccessAck corrupt = λ e. e
  denied-more OpD.HintAck corrupt = λ e. e
  denied-more OpD.ReleaseAck corrupt = λ e. e

  l6-less : {w : ℕ} (x : Beat w) → Implies (breaks_l6_under m x) (breaks_l6_under l x)
  l6-less (A x) = λ e. e
  l6-less (B x) = λ e. e
  l6-less (C x) = λ e. e
  l6-less (D x) =
      or-more (x.corrupt && not (d_carries_data x.opcode))
      (x.denied && not (may_be_denied_under m x.opcode x.corrupt)) (x.corrupt && not (d_carries_data x.opcode))
      (x.denied && not (may_be_denied_under l x.opcode x.corrupt)) (λ e. e)
      (and-more x.denied (not (may_be_denied_under m x.opcode x.corrupt)) x.denied
      (not (may_be_denied_under l x.opcode x.corrupt)) (λ e. e)
      (not-less (may_be_denied_under l x.opcode x.corrupt) (may_be_denied_under m x.opcode x.corrupt)
      (denied-more x.opcode x.corrupt)))
  l6-less (E x) = λ e. e

  -- ---- all L rules

  pub legal-more : {w : ℕ} (level : Level) (ch : Channel) (x : Beat w) → illegal_under l level ch x ≡ None
      → illegal_under m level ch x ≡ None
  unfolding illegal_under
  legal-more level ch x =
      ladder-less (breaks_l1 level ch x) (breaks_l1 level ch x) L1 _ _ (λ e. e)
      (ladder-less (breaks_l7 x) (breaks_l7 x) L7 _ _ (λ e. e)
      (ladder-less (breaks_l2_under l x) (breaks_l2_under m x) L2 _ _ (l2-less x)
      (ladder-less (breaks_l3 level x) (breaks_l3 level x) L3 _ _ (λ e. e)
      (ladder-less (breaks_l4 x) (breaks_l4 x) L4 _ _ (λ e. e)
      (ladder-less (breaks_l5 x) (breaks_l5 x) L5 _ _ (λ e. e)
      (ladder-less (breaks_l6_under l x) (breaks_l6_under m x) L6 None None (l6-less x) (λ e. e)))))))

-- ---- what a beat has that breaks no L rule

module _ {w : ℕ} (l : Liberties) (level : Level) (ch : Channel) (x : Beat w)
    (legal : illegal_under l level ch x ≡ None) where
  keeps-l2 : breaks_l2_under l x ≡ false
  unfolding illegal_under
  keeps-l2 =
      third-fails (breaks_l1 level ch x) (breaks_l7 x) (breaks_l2_under l x) L1 L7 L2 _ legal

  keeps-l6 : breaks_l6_under l x ≡ false
  unfolding illegal_under
  keeps-l6 =
      test-fails (breaks_l6_under l x) L6 None (rest-none (breaks_l5 x) L5 _ (rest-none (breaks_l4 x) L4 _
      (rest-none (breaks_l3 level x) L3 _ (rest-none (breaks_l2_under l x) L2 _ (rest-none (breaks_l7 x) L7 _
      (rest-none (breaks_l1 level ch x) L1 _ legal))))))

-- without `ids` a Probe and a ProbeAck have source 0
pub probe-source : {w : ℕ} (l : Liberties) (level : Level) (ch : Channel) (x : BeatB w) → l.ids ≡ false
    → illegal_under l level ch (B x) ≡ None → (x.source == 0) ≡ true
probe-source l level ch x without legal =
    rw without at (second (is_some (cap_of x.param)) (l.ids || (x.source == 0))
    (not-false (is_some (cap_of x.param) && (l.ids || (x.source == 0))) (keeps-l2 l level ch (B x) legal)))

pub probe-ack-source : {w : ℕ} (l : Liberties) (level : Level) (ch : Channel) (x : BeatC w) → l.ids ≡ false
    → is_probe_ack x.opcode ≡ true → illegal_under l level ch (C x) ≡ None → (x.source == 0) ≡ true
probe-ack-source l level ch x without ack legal =
    go x.opcode ack
    (rw without at (second (c_has_param_under l x.opcode x.param) (l.ids || c_has_source x.opcode x.source)
    (not-false (c_has_param_under l x.opcode x.param && (l.ids || c_has_source x.opcode x.source))
    (keeps-l2 l level ch (C x) legal))))
  where
    go : (o : OpC) → is_probe_ack o ≡ true → c_has_source o x.source ≡ true → (x.source == 0) ≡ true
    go OpC.ProbeAck f e = e
    go OpC.ProbeAckData f e = e
    go v f e = absurd cc

-- without `denied` no Grant is denied, and no ReleaseAck ever
never-denied : {w : ℕ} (l : Liberties) (level : Level) (ch : Channel) (x : BeatD w) → l.denied ≡ false
    → (is_grant x.opcode || is_release_ack x.opcode) ≡ true → illegal_under l level ch (D x) ≡ None → x.denied ≡ false
never-denied l level ch x without kind legal =
    go x.opcode kind (second-fails (x.corrupt && not (d_carries_data x.opcode))
    (x.denied && not (may_be_denied_under l x.opcode x.corrupt)) (keeps-l6 l level ch (D x) legal))
  where
    alone : (a : Bool) → (a && true) ≡ false → a ≡ false
    alone true e = absurd cc
    alone false e = refl

    go : (o : OpD) → (is_grant o || is_release_ack o) ≡ true
        → (x.denied && not (may_be_denied_under l o x.corrupt)) ≡ false → x.denied ≡ false
    go OpD.Grant f e = alone x.denied (rw without at e)
    go OpD.GrantData f e = alone x.denied (rw without at e)
    go OpD.ReleaseAck f e = alone x.denied e
    go v f e = absurd cc

-- so whether it is denied and may be is alike under more liberties
pub denied-alike : {w : ℕ} (l m : Liberties) (level : Level) (ch : Channel) (x : BeatD w) → IsWithin l m
    → (is_grant x.opcode || is_release_ack x.opcode) ≡ true → illegal_under l level ch (D x) ≡ None
    → (m.denied && x.denied) ≡ (l.denied && x.denied)
denied-alike l m level ch x within kind legal = go l.denied refl (within Denied)
  where
    go : (few : Bool) → l.denied ≡ few → Implies few m.denied → (m.denied && x.denied) ≡ (few && x.denied)
    go true is f = rw (f refl) refl
    go false is f = rw (never-denied l level ch x is kind legal) (never m.denied)
