-- From the evidence of a reason and the beat alone, the rule is broken.
use Rattle.std.proofs.Common.{◌≡◌, ℕ, ◌<◌, ◌==◌, ◌&&◌, ◌||◌, [], ◌∷◌, true, false, Bool}
use Rattle.std.proofs.Common.{not, refl, sym, ap, ◌∙◌, arith, subst, append-nil}
use Rattle.std.specs.Prelude.{Some, None, if◌then◌else◌, nat_le}
use Rattle.std.proofs.lemmas.Bool.{eqb-true}
use Rattle.tl_beat.specs.declared.beat.Beat.{Beat}
use Rattle.tl_beat.specs.declared.beat.Beat.TheVariants as beat
use Rattle.tl_beat.specs.declared.beat.BeatD.{BeatD}
use Rattle.tl_beat.specs.declared.beat.BeatE.{BeatE}
use Rattle.tl_beat.specs.declared.beat.Link.{Link}
use Rattle.tl_beat.specs.declared.channel.Channel.TheVariants as channel
use Rattle.tl_beat.specs.statement.First.{first_if}
use Rattle.tl_burst.specs.statement.Messages.{History, unfinished}
use Rattle.tl_params.specs.declared.key.Key.{Key}
use Rattle.tl_params.specs.declared.key.Key.TheVariants.{RequestSource, ReleaseSource, AcquireOf, ReleaseOf, GrantSink}
use Rattle.tl_params.specs.declared.key.Key.TheVariants.{GrantAckOf, ProbeOf}
use Rattle.tl_params.specs.declared.liberties.Liberties.{Liberties}
use Rattle.tl_params.specs.declared.rule.Rule.{Rule}
use Rattle.tl_params.specs.declared.rule.Rule.TheVariants.{H1, H2, H4, H7, H8, H9, H10, H11, H13}
use Rattle.tl_rules.specs.statement.Conformance.{Trace, on_link}
use Rattle.tl_rules.specs.statement.Conformance.{comes_in_grant, comes_in_release, comes_in_request}
use Rattle.tl_rules.specs.statement.History.{begins, block_at, pending}
use Rattle.tl_rules.specs.statement.History.{is_acquire, is_grant, is_probe, is_probe_ack, is_release, is_release_ack}
use Rattle.tl_rules.specs.statement.Liberties.{held_under, releases_from}
use Rattle.tl_explain.specs.declared.told.Mention.{Mention}
use Rattle.tl_explain.specs.statement.Evidence.{is_closing, is_opening, last_where}
use Rattle.tl_explain.specs.statement.OrderRules.{BreaksUnder}
use Rattle.tl_explain.specs.statement.Reasons.{comes_in}
use Rattle.tl_explain.specs.statement.Reasons.{opening_channel, rule_of_missing, rule_of_pending, rule_of_unfinished}
use Rattle.tl_explain.specs.statement.Since.{HasNone, IsClosedBy, IsNeverOpened}
use Rattle.tl_explain.proofs.Places.{found_last}
use Rattle.tl_explain.proofs.Rests.{pending_open}
use Rattle.tl_explain.proofs.Plain.{is_one, both_true, not_true}

pub or_true : (a b : Bool) → b ≡ true → (a || b) ≡ true
or_true true b e = refl
or_true false b e = e

pub by_rule : (rule : Rule) (P : Rule → Type 0) (b : Bool) (r : Rule) → first_if b r None ≡ Some rule → (b ≡ true → P r)
    → P rule
by_rule rule P true r e f = subst P (is_one e) (f refl)
by_rule rule P false r e f = absurd cc

by_rules : (rule : Rule) (P : Rule → Type 0) (b c : Bool) (r s : Rule) → first_if b r (first_if c s None) ≡ Some rule
    → (b ≡ true → P r) → (c ≡ true → P s) → P rule
by_rules rule P true c r s e f g = subst P (is_one e) (f refl)
by_rules rule P false c r s e f g = by_rule rule P c s e g

-- ---- keys that are pending, and keys that aren't

module _ {w : ℕ} (lib : Liberties) (rule : Rule) (h : History w) where
  abbrev Does : Beat w → Rule → Type 0
  Does x r = BreaksUnder lib r x h

  at_key : (key : ℕ → Key) (a b : ℕ) (v : Bool) → (a == b) ≡ true → pending (key b) h ≡ v → pending (key a) h ≡ v
  at_key key a b v e is = ap (λ (i : ℕ). pending (key i) h) (eqb-true a b e) ∙ is

  pub pending_breaks : (x : Beat w) (k : Key) → rule_of_pending x k ≡ Some rule → begins x h ≡ true → pending k h ≡ true
      → BreaksUnder lib rule x h
  pending_breaks (beat.A x) (RequestSource s) e first is = by_rule rule (Does (beat.A x)) (x.source == s) H1 e
      (λ f. (first, at_key RequestSource x.source s true f is))
  pending_breaks (beat.A x) (AcquireOf k) e first is =
      by_rule rule (Does (beat.A x)) (is_acquire x.opcode && (block_at x.address == k)) H4 e (λ f.
      let both = both_true (is_acquire x.opcode) (block_at x.address == k) f in
      (first, rw (both.0, at_key AcquireOf (block_at x.address) k true both.1 is) refl))
  pending_breaks (beat.A x) (ReleaseOf k) e first is =
      by_rule rule (Does (beat.A x)) (is_acquire x.opcode && (block_at x.address == k)) H4 e (λ f.
      let both = both_true (is_acquire x.opcode) (block_at x.address == k) f in (
        first,
        rw both.0 (or_true (pending (AcquireOf (block_at x.address)) h)
            (pending (ReleaseOf (block_at x.address)) h) (at_key ReleaseOf (block_at x.address) k true both.1 is)),
      ))
  pending_breaks (beat.B x) (ProbeOf k) e first is =
      by_rule rule (Does (beat.B x)) (is_probe x.opcode && (block_at x.address == k)) H9 e (λ f.
      let both = both_true (is_probe x.opcode) (block_at x.address == k) f in
      (first, rw (both.0, at_key ProbeOf (block_at x.address) k true both.1 is) refl))
  pending_breaks (beat.B x) (GrantAckOf k) e first is =
      by_rule rule (Does (beat.B x)) (is_probe x.opcode && (block_at x.address == k)) H9 e (λ f.
      let both = both_true (is_probe x.opcode) (block_at x.address == k) f in (
        first,
        rw both.0 (or_true (pending (ProbeOf (block_at x.address)) h)
            (pending (GrantAckOf (block_at x.address)) h) (at_key GrantAckOf (block_at x.address) k true both.1 is)),
      ))
  pending_breaks (beat.C x) (ReleaseSource s) e first is =
      by_rule rule (Does (beat.C x)) (is_release x.opcode && (x.source == s)) H1 e (λ f.
      let both = both_true (is_release x.opcode) (x.source == s) f in
      (first, rw (both.0, at_key ReleaseSource x.source s true both.1 is) refl))
  pending_breaks (beat.C x) (AcquireOf k) e first is =
      by_rule rule (Does (beat.C x)) (is_release x.opcode && (block_at x.address == k)) H13 e (λ f.
      let both = both_true (is_release x.opcode) (block_at x.address == k) f in
      (first, rw (both.0, at_key AcquireOf (block_at x.address) k true both.1 is) refl))
  pending_breaks (beat.C x) (ReleaseOf k) e first is =
      by_rules rule (Does (beat.C x)) (is_release x.opcode && (block_at x.address == k))
      (is_probe_ack x.opcode && (block_at x.address == k)) H13 H11 e
      (λ f. let both = both_true (is_release x.opcode) (block_at x.address == k) f in (
        first,
        rw both.0 (or_true (pending (AcquireOf (block_at x.address)) h)
            (pending (ReleaseOf (block_at x.address)) h || not
            (releases_from lib x.param (held_under lib (block_at x.address) h)))
            (rw (at_key ReleaseOf (block_at x.address) k true both.1 is) refl)),
      ))
      (λ f. let both = both_true (is_probe_ack x.opcode) (block_at x.address == k) f in
      (first, rw (both.0, at_key ReleaseOf (block_at x.address) k true both.1 is) refl))
  pending_breaks (beat.D x) (GrantSink s) e first is =
      by_rule rule (Does (beat.D x)) (is_grant x.opcode && (x.sink == s)) H7 e (λ f.
      let both = both_true (is_grant x.opcode) (x.sink == s) f in
      (first, rw (both.0, at_key GrantSink x.sink s true both.1 is) refl))
  pending_breaks (beat.A x) (ReleaseSource s) e first is = absurd cc
  pending_breaks (beat.A x) (GrantSink s) e first is = absurd cc
  pending_breaks (beat.A x) (GrantAckOf k) e first is = absurd cc
  pending_breaks (beat.A x) (ProbeOf k) e first is = absurd cc
  pending_breaks (beat.B x) (RequestSource s) e first is = absurd cc
  pending_breaks (beat.B x) (ReleaseSource s) e first is = absurd cc
  pending_breaks (beat.B x) (AcquireOf k) e first is = absurd cc
  pending_breaks (beat.B x) (ReleaseOf k) e first is = absurd cc
  pending_breaks (beat.B x) (GrantSink s) e first is = absurd cc
  pending_breaks (beat.C x) (RequestSource s) e first is = absurd cc
  pending_breaks (beat.C x) (GrantSink s) e first is = absurd cc
  pending_breaks (beat.C x) (GrantAckOf k) e first is = absurd cc
  pending_breaks (beat.C x) (ProbeOf k) e first is = absurd cc
  pending_breaks (beat.D x) (RequestSource s) e first is = absurd cc
  pending_breaks (beat.D x) (ReleaseSource s) e first is = absurd cc
  pending_breaks (beat.D x) (AcquireOf k) e first is = absurd cc
  pending_breaks (beat.D x) (ReleaseOf k) e first is = absurd cc
  pending_breaks (beat.D x) (GrantAckOf k) e first is = absurd cc
  pending_breaks (beat.D x) (ProbeOf k) e first is = absurd cc
  pending_breaks (beat.E x) (RequestSource s) e first is = absurd cc
  pending_breaks (beat.E x) (ReleaseSource s) e first is = absurd cc
  pending_breaks (beat.E x) (AcquireOf k) e first is = absurd cc
  pending_breaks (beat.E x) (ReleaseOf k) e first is = absurd cc
  pending_breaks (beat.E x) (GrantSink s) e first is = absurd cc
  pending_breaks (beat.E x) (GrantAckOf k) e first is = absurd cc
  pending_breaks (beat.E x) (ProbeOf k) e first is = absurd cc

  pub missing_breaks : (x : Beat w) (k : Key) → rule_of_missing x k ≡ Some rule → begins x h ≡ true → pending k h ≡ false
      → BreaksUnder lib rule x h
  missing_breaks (beat.C x) (ProbeOf k) e first is =
      by_rule rule (Does (beat.C x)) (is_probe_ack x.opcode && (block_at x.address == k)) H10 e (λ f.
      let both = both_true (is_probe_ack x.opcode) (block_at x.address == k) f in
      (first, rw (both.0, at_key ProbeOf (block_at x.address) k false both.1 is) refl))
  missing_breaks (beat.D x) (RequestSource s) e first is =
      by_rule rule (Does (beat.D x)) (not (is_release_ack x.opcode) && (x.source == s)) H2 e (λ f.
      let both = both_true (not (is_release_ack x.opcode)) (x.source == s) f in
      (first, rw (not_true (is_release_ack x.opcode) both.0, at_key RequestSource x.source s false both.1 is) refl))
  missing_breaks (beat.D x) (ReleaseSource s) e first is =
      by_rule rule (Does (beat.D x)) (is_release_ack x.opcode && (x.source == s)) H2 e (λ f.
      let both = both_true (is_release_ack x.opcode) (x.source == s) f in
      (first, rw (both.0, at_key ReleaseSource x.source s false both.1 is) refl))
  missing_breaks (beat.E x) (GrantSink s) e first is =
      by_rule rule (Does (beat.E x)) (x.sink == s) H8 e (λ f. (first, rw (at_key GrantSink x.sink s false f is) refl))
  missing_breaks (beat.A x) (RequestSource s) e first is = absurd cc
  missing_breaks (beat.A x) (ReleaseSource s) e first is = absurd cc
  missing_breaks (beat.A x) (AcquireOf k) e first is = absurd cc
  missing_breaks (beat.A x) (ReleaseOf k) e first is = absurd cc
  missing_breaks (beat.A x) (GrantSink s) e first is = absurd cc
  missing_breaks (beat.A x) (GrantAckOf k) e first is = absurd cc
  missing_breaks (beat.A x) (ProbeOf k) e first is = absurd cc
  missing_breaks (beat.B x) (RequestSource s) e first is = absurd cc
  missing_breaks (beat.B x) (ReleaseSource s) e first is = absurd cc
  missing_breaks (beat.B x) (AcquireOf k) e first is = absurd cc
  missing_breaks (beat.B x) (ReleaseOf k) e first is = absurd cc
  missing_breaks (beat.B x) (GrantSink s) e first is = absurd cc
  missing_breaks (beat.B x) (GrantAckOf k) e first is = absurd cc
  missing_breaks (beat.B x) (ProbeOf k) e first is = absurd cc
  missing_breaks (beat.C x) (RequestSource s) e first is = absurd cc
  missing_breaks (beat.C x) (ReleaseSource s) e first is = absurd cc
  missing_breaks (beat.C x) (AcquireOf k) e first is = absurd cc
  missing_breaks (beat.C x) (ReleaseOf k) e first is = absurd cc
  missing_breaks (beat.C x) (GrantSink s) e first is = absurd cc
  missing_breaks (beat.C x) (GrantAckOf k) e first is = absurd cc
  missing_breaks (beat.D x) (AcquireOf k) e first is = absurd cc
  missing_breaks (beat.D x) (ReleaseOf k) e first is = absurd cc
  missing_breaks (beat.D x) (GrantSink s) e first is = absurd cc
  missing_breaks (beat.D x) (GrantAckOf k) e first is = absurd cc
  missing_breaks (beat.D x) (ProbeOf k) e first is = absurd cc
  missing_breaks (beat.E x) (RequestSource s) e first is = absurd cc
  missing_breaks (beat.E x) (ReleaseSource s) e first is = absurd cc
  missing_breaks (beat.E x) (AcquireOf k) e first is = absurd cc
  missing_breaks (beat.E x) (ReleaseOf k) e first is = absurd cc
  missing_breaks (beat.E x) (GrantAckOf k) e first is = absurd cc
  missing_breaks (beat.E x) (ProbeOf k) e first is = absurd cc

  -- a message that isn't complete, where it has to be
  late_response : lib.early ≡ false → (x : BeatD w) (k : Key) → rule_of_missing (beat.D x) k ≡ Some rule
      → begins (beat.D x) h ≡ true → pending k h ≡ true → comes_in k (unfinished (opening_channel k) h) ≡ true
      → BreaksUnder lib rule (beat.D x) h
  late_response early x (RequestSource s) e first is comes =
      by_rule rule (Does (beat.D x)) (not (is_release_ack x.opcode) && (x.source == s)) H2 e (λ f.
      let both = both_true (not (is_release_ack x.opcode)) (x.source == s) f in
      let late : comes_in_request x.source (unfinished channel.A h) ≡ true =
      ap (λ (i : ℕ). comes_in_request i (unfinished channel.A h)) (eqb-true x.source s both.1) ∙ comes in (
        first,
        rw (
          not_true (is_release_ack x.opcode) both.0,
          at_key RequestSource x.source s true both.1 is,
          early,
          late,
        ) refl,
      ))
  late_response early x (ReleaseSource s) e first is comes =
      by_rule rule (Does (beat.D x)) (is_release_ack x.opcode && (x.source == s)) H2 e (λ f.
      let both = both_true (is_release_ack x.opcode) (x.source == s) f in
      let late : comes_in_release x.source (unfinished channel.C h) ≡ true =
      ap (λ (i : ℕ). comes_in_release i (unfinished channel.C h)) (eqb-true x.source s both.1) ∙ comes in
      (first, rw (both.0, at_key ReleaseSource x.source s true both.1 is, early, late) refl))
  late_response early x (AcquireOf k) e first is comes = absurd cc
  late_response early x (ReleaseOf k) e first is comes = absurd cc
  late_response early x (GrantSink s) e first is comes = absurd cc
  late_response early x (GrantAckOf k) e first is comes = absurd cc
  late_response early x (ProbeOf k) e first is comes = absurd cc

  late_grant : lib.early ≡ false → (x : BeatE) (k : Key) → rule_of_missing {w = w} (beat.E x) k ≡ Some rule
      → begins (beat.E x) h ≡ true → pending k h ≡ true → comes_in k (unfinished (opening_channel k) h) ≡ true
      → BreaksUnder lib rule (beat.E x) h
  late_grant early x (GrantSink s) e first is comes = by_rule rule (Does (beat.E x)) (x.sink == s) H8 e (λ f.
      let comes_so : comes_in_grant x.sink (unfinished channel.D h) ≡ true =
      ap (λ (i : ℕ). comes_in_grant i (unfinished channel.D h)) (eqb-true x.sink s f) ∙ comes in
      let late : (not lib.early && comes_in_grant x.sink (unfinished channel.D h)) ≡ true = rw (early, comes_so) refl
      in
      (first, or_true (not (pending (GrantSink x.sink) h)) _ late))
  late_grant early x (RequestSource s) e first is comes = absurd cc
  late_grant early x (ReleaseSource s) e first is comes = absurd cc
  late_grant early x (AcquireOf k) e first is comes = absurd cc
  late_grant early x (ReleaseOf k) e first is comes = absurd cc
  late_grant early x (GrantAckOf k) e first is comes = absurd cc
  late_grant early x (ProbeOf k) e first is comes = absurd cc

  pub unfinished_breaks : (x : Beat w) (k : Key) → rule_of_unfinished lib x k ≡ Some rule → begins x h ≡ true
      → pending k h ≡ true → comes_in k (unfinished (opening_channel k) h) ≡ true → BreaksUnder lib rule x h
  unfinished_breaks (beat.A x) k e first is comes = absurd cc
  unfinished_breaks (beat.B x) k e first is comes = absurd cc
  unfinished_breaks (beat.C x) k e first is comes = absurd cc
  unfinished_breaks (beat.D x) k e first is comes = go lib.early refl e
    where
      go : (b : Bool) → lib.early ≡ b → (if b then None else rule_of_missing (beat.D x) k) ≡ Some rule
          → BreaksUnder lib rule (beat.D x) h
      go true f g = absurd cc
      go false f g = late_response f x k g first is comes
  unfinished_breaks (beat.E x) k e first is comes = go lib.early refl e
    where
      go : (b : Bool) → lib.early ≡ b → (if b then None else rule_of_missing {w = w} (beat.E x) k) ≡ Some rule
          → BreaksUnder lib rule (beat.E x) h
      go true f g = absurd cc
      go false f g = late_grant f x k g first is comes

none_last : {w : ℕ} (is : Link × Beat w → Trace w → Bool) (t : Trace w) → HasNone is t [] → last_where is t ≡ None
unfolding last_where HasNone
none_last is [] e = refl
none_last is (x ∷ t) e = rw (ap (is x) (sym (append-nil t)) ∙ e.0) (none_last is t e.1)

pub never_pending : {w : ℕ} (n : ℕ) (k : Key) (t : Trace w) → IsNeverOpened n k t → pending k (on_link n t) ≡ false
never_pending n k t is = pending_open n k t ∙ rw (none_last (is_opening n k) t is) refl

before_false : (a b : ℕ) → a < b → nat_le b a ≡ false
before_false a b e = grind arith

pub closed_free : {w : ℕ} (n : ℕ) (k : Key) (t : Trace w) (o c : Mention) → IsClosedBy n k o c t
    → pending k (on_link n t) ≡ false
closed_free n k t o c is =
    pending_open n k t ∙ rw (found_last (is_opening n k) t o is.0, found_last (is_closing n k) t c is.1)
    (before_false o.line c.line is.2)
