-- Bursts.
use Rattle.std.proofs.Common.{◌≡◌, ℕ, List, length, true, false, Bool}
use Rattle.std.proofs.Common.{not, refl, sym, ap, ◌∙◌, subst}
use Rattle.std.specs.Prelude.{Option, Some, None, IfSome, is_none, if◌then◌else◌}
use Rattle.tl_beat.specs.declared.beat.Beat.{Beat}
use Rattle.tl_beat.specs.declared.beat.Link.{Link}
use Rattle.tl_beat.specs.statement.First.{first_if}
use Rattle.tl_burst.specs.statement.Messages.{channel_of}
use Rattle.tl_burst.specs.statement.Part.{is_empty}
use Rattle.tl_params.specs.declared.liberties.Liberties.{Liberties}
use Rattle.tl_params.specs.declared.rule.Rule.{Rule}
use Rattle.tl_params.specs.declared.rule.Rule.TheVariants.{A1, A2, A3, L1, L2, L3, L4, L5, L6, L7, S1, H1, H2, H3, H4}
use Rattle.tl_params.specs.declared.rule.Rule.TheVariants.{H5, H6, H7, H8, H9, H10, H11, H12, H13}
use Rattle.tl_rules.specs.statement.Conformance.{Trace, on_link}
use Rattle.tl_rules.specs.statement.History.{begins}
use Rattle.tl_beat.specs.statement.Control.{has_control}
use Rattle.tl_explain.specs.declared.bursts.Begun.{Begun}
use Rattle.tl_explain.specs.declared.reason.Reason.{Reason}
use Rattle.tl_explain.specs.declared.reason.Reason.TheVariants.{Pending, Never, Closed, Unfinished, OtherKind}
use Rattle.tl_explain.specs.declared.reason.Reason.TheVariants.{OtherSize, WrongCap, WithoutData, Probed, Holds}
use Rattle.tl_explain.specs.declared.reason.Reason.TheVariants.{OtherSource, WrongProbe, Misreport, Differs}
use Rattle.tl_explain.specs.declared.recorder.Recorder.{Recorder}
use Rattle.tl_explain.specs.code.Chosen.{for_message}
use Rattle.tl_explain.specs.code.Chosen.{differs_by, is_of_bursts, reason_by}
use Rattle.tl_explain.specs.code.Recorded.{IsBegun, IsRecordUnder, begun_on}
use Rattle.tl_explain.specs.statement.Reasons.{IsEvidenceUnder, is_of_messages, IsSubject}
use Rattle.tl_explain.specs.statement.Reasons.{convicted_under}
use Rattle.tl_explain.specs.statement.Since.{IsBurstSince}
use Rattle.tl_explain.proofs.sound.Openings.{burst_since}
use Rattle.tl_explain.proofs.sound.Keys.{IsSound}
use Rattle.tl_explain.proofs.sound.Rules.{by_flag, message_sound}
use Rattle.tl_explain.proofs.Plain.{is_one}

bursts_rule : (rule : Rule) → is_of_bursts rule ≡ true → rule ≡ S1
bursts_rule A1 e = absurd cc
bursts_rule A2 e = absurd cc
bursts_rule A3 e = absurd cc
bursts_rule L1 e = absurd cc
bursts_rule L2 e = absurd cc
bursts_rule L3 e = absurd cc
bursts_rule L4 e = absurd cc
bursts_rule L5 e = absurd cc
bursts_rule L6 e = absurd cc
bursts_rule L7 e = absurd cc
bursts_rule S1 e = refl
bursts_rule H1 e = absurd cc
bursts_rule H2 e = absurd cc
bursts_rule H3 e = absurd cc
bursts_rule H4 e = absurd cc
bursts_rule H5 e = absurd cc
bursts_rule H6 e = absurd cc
bursts_rule H7 e = absurd cc
bursts_rule H8 e = absurd cc
bursts_rule H9 e = absurd cc
bursts_rule H10 e = absurd cc
bursts_rule H11 e = absurd cc
bursts_rule H12 e = absurd cc
bursts_rule H13 e = absurd cc

of_messages : {w : ℕ} (lib : Liberties) (rule : Rule) (x : Beat w) (reason : Reason) → convicted_under lib x reason ≡ Some rule
    → is_of_bursts rule ≡ false → is_of_messages reason ≡ true
of_messages lib rule x (Pending k m) e f = refl
of_messages lib rule x (Never k) e f = refl
of_messages lib rule x (Closed k o c) e f = refl
of_messages lib rule x (Unfinished k m came) e f = refl
of_messages lib rule x (OtherKind m) e f = refl
of_messages lib rule x (OtherSize m) e f = refl
of_messages lib rule x (WrongCap m) e f = refl
of_messages lib rule x (WithoutData m h) e f = refl
of_messages lib rule x (Probed m q) e f = refl
of_messages lib rule x (Holds h) e f = refl
of_messages lib rule x (OtherSource m) e f = refl
of_messages lib rule x (WrongProbe m) e f = refl
of_messages lib rule x (Misreport m h) e f = refl
of_messages lib rule x (Differs b) e f = go (not (has_control x b.newest)) e
  where
    go : (c : Bool) → first_if c S1 None ≡ Some rule → is_of_messages (Differs b) ≡ true
    go true h = let no : true ≡ false = ap is_of_bursts (is_one h) ∙ f in absurd cc
    go false h = absurd cc

-- the evidence and the rule of a reason, if there is one
abbrev pub IsFound : {w : ℕ} → Liberties → Liberties → Rule → Beat w → ℕ → Trace w → Option Reason → Type 0
IsFound lib base rule x n t o =
    IfSome o (λ reason. IsEvidenceUnder base n x reason t × (convicted_under lib x reason ≡ Some rule))

found_of_sound : {w : ℕ} (lib base : Liberties) (rule : Rule) (x : Beat w) (n : ℕ) (t : Trace w) (o : Option Reason)
    → begins x (on_link n t) ≡ true → is_of_bursts rule ≡ false
    → IsSound lib base rule x n t o → IsFound lib base rule x n t o
found_of_sound lib base rule x n t None first other sound = tt
found_of_sound lib base rule x n t (Some reason) first other sound =
    ((first ∙ sym (of_messages lib rule x reason sound.1 other), sound.0), sound.1)

differs_found : {w : ℕ} (lib base : Liberties) (x : Beat w) (n : ℕ) (t : Trace w) (b : Option Begun)
    → IsBegun b n (channel_of x) t → IsFound lib base S1 x n t (differs_by x b)
differs_found lib base x n t None begun = tt
differs_found {w} lib base x n t (Some b) begun = go (has_control x b.newest) refl
  where
    go : (c : Bool) → has_control x b.newest ≡ c → IsFound lib base S1 x n t (if c then None else Some (Differs b))
    go true e = tt
    go false e = (
      (
        ap is_empty begun.2,
        (
          begun.0,
          begun.1,
          subst (λ (u : List (Beat w)). IsBurstSince n (channel_of x) u b.first.mention t) begun.2
              (burst_since n (channel_of x) t b.first.mention begun.5),
          sym begun.4 ∙ ap length begun.2,
          begun.3,
        ),
      ),
      rw e refl,
    )

none_begun : {w : ℕ} (b : Option Begun) (x : Beat w) (n : ℕ) (t : Trace w) → is_none b ≡ true
    → IsBegun b n (channel_of x) t → begins x (on_link n t) ≡ true
none_begun None x n t e begun = ap is_empty begun
none_begun (Some b) x n t e begun = absurd cc

pub reason_found : {w : ℕ} (lib base : Liberties) (rule : Rule) (link : Link) (x : Beat w) (r : Recorder) (t : Trace w)
    → IsRecordUnder base r t → IsSubject r.subject link x
    → IsFound lib base rule x r.subject.link.0 t (reason_by lib rule x r)
reason_found lib base rule link x r t rec is =
    by_flag (IsFound lib base rule x r.subject.link.0 t) (is_of_bursts rule) (differs_by x (begun_on r (channel_of x)))
    (if is_none (begun_on r (channel_of x)) then for_message lib rule x r else None)
    (λ e. subst (λ (s : Rule). IsFound lib base s x r.subject.link.0 t (differs_by x (begun_on r (channel_of x))))
    (sym (bursts_rule rule e))
    (differs_found lib base x r.subject.link.0 t (begun_on r (channel_of x)) (rec.begun_are (channel_of x))))
    (λ other. by_flag (IsFound lib base rule x r.subject.link.0 t) (is_none (begun_on r (channel_of x)))
    (for_message lib rule x r) None
    (λ none. found_of_sound lib base rule x r.subject.link.0 t (for_message lib rule x r)
    (none_begun (begun_on r (channel_of x)) x r.subject.link.0 t none (rec.begun_are (channel_of x))) other
    (message_sound lib base r t rec rule link x is))
    (λ e. tt))
