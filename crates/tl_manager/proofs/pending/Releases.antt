-- A Release is pending only while its burst is unfinished, since it is answered at its last beat.
use Rattle.tl_manager.proofs.Imports.{IsWidth, Beat, BeatA, BeatC, BeatE, first_if, Message, B, D, MessageD, beats_of}
use Rattle.tl_manager.proofs.Imports.{History, unfinished, breaks_burst, same_control, burst_length, is_empty}
use Rattle.tl_manager.proofs.Imports.{beats-positive, Profile, S1, sent, broken_in_order, broken_order, begins, ends}
use Rattle.tl_manager.proofs.Imports.{pending, block_at, is_release, is_release_ack, next_rule, unfinished-sent_other}
use Rattle.tl_manager.proofs.Imports.{pending-sent_b, pending-sent_d}
use Rattle.std.proofs.Common.{◌≡◌, ℕ, ◌+◌, ◌==◌, Bool, true, false, not, ◌&&◌, List, [], ◌∷◌, length, None, refl, sym}
use Rattle.std.proofs.Common.{ap, subst, ◌∙◌}
use Rattle.std.{specs.Prelude.if◌then◌else◌, specs.Prelude.⊤, proofs.lemmas.Bool.eq-eqb, proofs.lemmas.Bool.not-false}
use Rattle.tl_beat.specs.declared.channel.Channel.{Channel}
use Rattle.tl_burst.{specs.declared.message.MessageB.MessageB, proofs.ControlFields.control_c}
use Rattle.tl_params.specs.declared.key.Key.TheVariants.{ReleaseSource, ReleaseOf}
use Rattle.tl_rules.{specs.statement.History.release_of, specs.statement.History.releases}
use Rattle.tl_rules.{specs.statement.Conformance.comes_in_release, proofs.Sent.release_of-other, proofs.Tables.neither}
use Rattle.tl_manager.specs.code.Releases.{comes_of, NamesBlock, IsAnswered}

-- the unfinished burst of a channel has its beats
abbrev AreC : {w : ℕ} → List (Beat w) → Type 0
AreC [] = ⊤
AreC (Beat.C x ∷ burst) = AreC burst
AreC (_ ∷ burst) = ⊥

all_c : {w : ℕ} (t : History w) → AreC (unfinished Channel.C t)
unfolding unfinished
all_c [] = tt
all_c (Beat.A x ∷ t) = all_c t
all_c (Beat.B x ∷ t) = all_c t
all_c {w} (Beat.C x ∷ t) = go (length (unfinished Channel.C t) + 1 == burst_length (Beat.C x)) (all_c t)
  where
    go : (last : Bool) → AreC (unfinished Channel.C t) → AreC (if last then [] else Beat.C x ∷ unfinished Channel.C t)
    go true rest = tt
    go false rest = rest
all_c (Beat.D x ∷ t) = all_c t
all_c (Beat.E x ∷ t) = all_c t

-- ---- beats of other channels

named-same : {w : ℕ} (t u : History w) (burst : List (Beat w)) → ((s : ℕ) → release_of s u ≡ release_of s t)
    → NamesBlock t burst → NamesBlock u burst
named-same t u (Beat.C x ∷ burst) same ok = λ k e. ap (releases k) (same x.source) ∙ ok k e
named-same t u v same ok = tt

pub answered-a : {w : ℕ} (x : BeatA w) (t : History w) → IsAnswered t → IsAnswered (Beat.A x ∷ t)
unfolding pending unfinished release_of
answered-a x t ok = record {
  sources = λ s. neither (begins (Beat.A x) t) (ends (Beat.A x) t) (pending (ReleaseSource s) t) ∙ ok.sources s;
  blocks = λ k. neither (begins (Beat.A x) t) (ends (Beat.A x) t) (pending (ReleaseOf k) t) ∙ ok.blocks k;
  named = named-same t (Beat.A x ∷ t) (unfinished Channel.C t) (λ s. refl) ok.named;
}

pub answered-e : {w : ℕ} (x : BeatE) (t : History w) → IsAnswered t → IsAnswered (Beat.E x ∷ t)
unfolding pending unfinished release_of
answered-e {w} x t ok = record {
  sources = λ s. neither (begins {w = w} (Beat.E x) t) (ends {w = w} (Beat.E x) t) (pending (ReleaseSource s) t)
      ∙ ok.sources s;
  blocks = λ k. neither (begins {w = w} (Beat.E x) t) (ends {w = w} (Beat.E x) t) (pending (ReleaseOf k) t) ∙ ok.blocks
      k;
  named = named-same t (Beat.E x ∷ t) (unfinished Channel.C t) (λ s. refl) ok.named;
}

-- ---- beats of channel C

-- what the history says after a beat of channel C, before any answer
pub record IsCarried {w : ℕ} (x : BeatC w) (t : History w) : Type 0 where
  pub sources : (s : ℕ) → pending (ReleaseSource s) (Beat.C x ∷ t) ≡ (is_release x.opcode && (x.source == s))
  pub blocks : (k : ℕ) → pending (ReleaseOf k) (Beat.C x ∷ t) ≡ (is_release x.opcode && (block_at x.address == k))
  pub named : (k : ℕ) → is_release x.opcode ≡ true
      → releases k (release_of x.source (Beat.C x ∷ t)) ≡ (block_at x.address == k)

opened : (mine last : Bool) → (if true && mine then true else if last && false then false else false) ≡ mine
opened true last = refl
opened false true = refl
opened false false = refl

later : (mine last before : Bool) → (if false && mine then true else if last && false then false else before) ≡ before
later mine true before = refl
later mine false before = refl

pub first_carried : {w : ℕ} (x : BeatC w) (t : History w) → IsAnswered t → unfinished Channel.C t ≡ [] → IsCarried x t
unfolding pending release_of
first_carried x t ok none = record {
  sources = λ s. rw (none, ok.sources s ∙ ap (comes_in_release s) none)
      (opened (is_release x.opcode && (x.source == s)) (1 == burst_length (Beat.C x)));
  blocks = λ k. rw (none, ok.blocks k ∙ ap (comes_of k) none) (opened (is_release x.opcode && (block_at x.address == k))
      (1 == burst_length (Beat.C x)));
  named = λ k e. rw (none, e, eq-eqb x.source x.source refl) refl;
}

pub next_carried : {w : ℕ} (x y : BeatC w) (burst : List (Beat w)) (t : History w) → IsAnswered t
    → unfinished Channel.C t ≡ Beat.C y ∷ burst → same_control (Beat.C x) (Beat.C y) ≡ true → IsCarried x t
unfolding pending release_of
next_carried x y burst t ok is same =
    let fields = control_c x y (rw same refl) in
    let named = subst (NamesBlock t) is ok.named in
    record {
      sources = λ s. rw is (later (is_release x.opcode && (x.source == s))
          (length (Beat.C y ∷ burst) + 1 == burst_length (Beat.C x))
          (pending (ReleaseSource s) t)) ∙ ok.sources s ∙ ap (comes_in_release s) is ∙ rw (fields.0, fields.3) refl;
      blocks = λ k. rw is (later (is_release x.opcode && (block_at x.address == k))
          (length (Beat.C y ∷ burst) + 1 == burst_length (Beat.C x))
          (pending (ReleaseOf k) t)) ∙ ok.blocks k ∙ ap (comes_of k) is ∙ rw (fields.0, fields.4) refl;
      named = λ k e. rw is (ap (λ n. releases k (release_of n t)) fields.3 ∙ named k (rw fields.0 at e) ∙ ap
          (λ a. block_at a == k) (sym fields.4));
    }

carried_from : {w : ℕ} (p : Profile) (x : BeatC w) (t : History w) (burst : List (Beat w))
    → unfinished Channel.C t ≡ burst → AreC burst → IsAnswered t
    → (if is_empty burst then broken_order p (Beat.C x) t else first_if (breaks_burst (Beat.C x) burst) S1 None) ≡ None
    → IsCarried x t
carried_from p x t [] is own ok e = first_carried x t ok is
carried_from p x t (Beat.C y ∷ burst) is own ok e =
    next_carried x y burst t ok is
    (not-false (same_control (Beat.C x) (Beat.C y)) (next_rule (not (same_control (Beat.C x) (Beat.C y))) S1 None
    e).0)
carried_from p x t v is own ok e = absurd own

pub carried : {w : ℕ} (p : Profile) (x : BeatC w) (t : History w) → IsAnswered t → broken_in_order p (Beat.C x) t ≡ None
    → IsCarried x t
carried p x t ok e = carried_from p x t (unfinished Channel.C t) refl (all_c t) ok e

-- the history after a beat that doesn't complete its message
pub not_last : {w : ℕ} (x : BeatC w) (t : History w) → IsCarried x t
    → unfinished Channel.C (Beat.C x ∷ t) ≡ Beat.C x ∷ unfinished Channel.C t → IsAnswered (Beat.C x ∷ t)
not_last x t c is = record {
  sources = λ s. c.sources s ∙ ap (comes_in_release s) (sym is);
  blocks = λ k. c.blocks k ∙ ap (comes_of k) (sym is);
  named = subst (NamesBlock (Beat.C x ∷ t)) (sym is) c.named;
}

-- after the last beat of a message that is no Release
pub no_release : {w : ℕ} (x : BeatC w) (t : History w) → IsCarried x t → unfinished Channel.C (Beat.C x ∷ t) ≡ []
    → is_release x.opcode ≡ false → IsAnswered (Beat.C x ∷ t)
no_release x t c is other = record {
  sources = λ s. c.sources s ∙ rw other refl ∙ ap (comes_in_release s) (sym is);
  blocks = λ k. c.blocks k ∙ rw other refl ∙ ap (comes_of k) (sym is);
  named = subst (NamesBlock (Beat.C x ∷ t)) (sym is) tt;
}

-- ---- messages that are handed out

-- no answer to a Release
abbrev pub IsNoAck : {w : ℕ} → Message w → Type 0
IsNoAck (D m) = is_release_ack m.opcode ≡ false
IsNoAck _ = ⊤

pub answered-b : {w : ℕ} (m : MessageB w) (t : History w) → IsWidth w → unfinished Channel.B t ≡ [] → IsAnswered t
    → IsAnswered (sent (B m) t)
answered-b m t width none ok =
    let same = unfinished-sent_other Channel.C (B m) t refl in
    record {
      sources = λ s. pending-sent_b (ReleaseSource s) m t none (beats-positive (B m) width) ∙ ok.sources s ∙ ap
          (comes_in_release s) (sym same);
      blocks = λ k. pending-sent_b (ReleaseOf k) m t none (beats-positive (B m) width) ∙ ok.blocks k ∙ ap (comes_of k)
          (sym same);
      named = subst (NamesBlock (sent (B m) t)) (sym same) (named-same t (sent (B m) t) (unfinished Channel.C t)
          (λ s. release_of-other s (B m) t (beats_of (B m)) refl) ok.named);
    }

pub answered-d : {w : ℕ} (m : MessageD w) (t : History w) → IsWidth w → unfinished Channel.D t ≡ []
    → is_release_ack m.opcode ≡ false → IsAnswered t → IsAnswered (sent (D m) t)
answered-d m t width none other ok =
    let same = unfinished-sent_other Channel.C (D m) t refl in
    record {
      sources = λ s. pending-sent_d (ReleaseSource s) m t none (beats-positive (D m) width) ∙ rw other refl ∙ ok.sources
          s ∙ ap (comes_in_release s) (sym same);
      blocks = λ k. pending-sent_d (ReleaseOf k) m t none (beats-positive (D m) width) ∙ rw other refl ∙ ok.blocks
          k ∙ ap (comes_of k) (sym same);
      named = subst (NamesBlock (sent (D m) t)) (sym same) (named-same t (sent (D m) t) (unfinished Channel.C t)
          (λ s. release_of-other s (D m) t (beats_of (D m)) refl) ok.named);
    }

chosen : (mine answered before : Bool) → before ≡ mine → answered ≡ mine
    → (if false then true else if answered then false else before) ≡ false
chosen true true before e f = refl
chosen false false before e f = e
chosen v u before e f = absurd cc

-- the ReleaseAck of a Release
pub released : {w : ℕ} (x : BeatC w) (m : MessageD w) (t : History w) → IsWidth w → IsCarried x t
    → is_release x.opcode ≡ true → unfinished Channel.C (Beat.C x ∷ t) ≡ []
    → unfinished Channel.D (Beat.C x ∷ t) ≡ [] → is_release_ack m.opcode ≡ true → m.source ≡ x.source
    → IsAnswered (sent (D m) (Beat.C x ∷ t))
released {w} x m t width c release last none ack source =
    let same : unfinished Channel.C (sent (D m) (Beat.C x ∷ t)) ≡ [] =
    unfinished-sent_other Channel.C (D m) (Beat.C x ∷ t) refl ∙ last in
    record {
      sources = λ s. pending-sent_d (ReleaseSource s) m (Beat.C x ∷ t) none (beats-positive (D m) width)
          ∙ chosen (x.source == s) (is_release_ack m.opcode && (m.source == s))
          (pending (ReleaseSource s) (Beat.C x ∷ t)) (c.sources s ∙ rw release refl) (rw (ack, source) refl)
          ∙ ap (comes_in_release s) (sym same);
      blocks = λ k. pending-sent_d (ReleaseOf k) m (Beat.C x ∷ t) none (beats-positive (D m) width)
          ∙ chosen (block_at x.address == k)
          (is_release_ack m.opcode && releases k (release_of m.source (Beat.C x ∷ t)))
          (pending (ReleaseOf k) (Beat.C x ∷ t))
          (c.blocks k ∙ rw release refl) (rw (ack, source) (c.named k release))
          ∙ ap (comes_of k) (sym same);
      named = subst (NamesBlock (sent (D m) (Beat.C x ∷ t))) (sym same) tt;
    }
