-- The reasons of messages.
use Rattle.std.proofs.Common.{◌≡◌, ℕ, ◌==◌, ◌&&◌, true, false, Bool}
use Rattle.std.proofs.Common.{not, refl, sym, ap, ap₂, ◌∙◌, subst}
use Rattle.std.specs.Prelude.{Option, Some, None, if◌then◌else◌}
use Rattle.std.proofs.lemmas.Bool.{eqb-true}
use Rattle.tl_beat.specs.declared.beat.Beat.{Beat}
use Rattle.tl_beat.specs.declared.beat.Beat.TheVariants as beat
use Rattle.tl_beat.specs.declared.beat.BeatC.{BeatC}
use Rattle.tl_beat.specs.declared.beat.BeatD.{BeatD}
use Rattle.tl_beat.specs.statement.Opcode.{c_carries_data}
use Rattle.tl_burst.specs.statement.Messages.{History}
use Rattle.tl_params.specs.declared.key.Key.{Key}
use Rattle.tl_params.specs.declared.key.Key.TheVariants.{RequestSource, ReleaseSource}
use Rattle.tl_params.specs.declared.key.Key.TheVariants.{ProbeOf}
use Rattle.tl_params.specs.declared.liberties.Liberties.{Liberties}
use Rattle.tl_params.specs.declared.rule.Rule.{Rule}
use Rattle.tl_params.specs.declared.rule.Rule.TheVariants.{H2, H3}
use Rattle.tl_params.specs.declared.rule.Rule.TheVariants.{H6, H10, H12}
use Rattle.tl_rules.specs.statement.Conformance.{Trace, answers, is_probe_block}
use Rattle.tl_rules.specs.statement.History.{block_at, opens, is_grant, is_probe}
use Rattle.tl_rules.specs.statement.History.{is_probe_ack, is_release_ack}
use Rattle.tl_beat.specs.statement.Control.{control_of}
use Rattle.tl_beat.specs.declared.control.Control.{Control}
use Rattle.tl_beat.specs.declared.control.ControlB.{ControlB}
use Rattle.tl_beat.specs.declared.control.Control.TheVariants as control
use Rattle.tl_explain.specs.declared.reason.Reason.{Reason}
use Rattle.tl_explain.specs.declared.reason.Reason.TheVariants.{OtherKind}
use Rattle.tl_explain.specs.declared.reason.Reason.TheVariants.{OtherSize, WrongCap, WithoutData}
use Rattle.tl_explain.specs.declared.reason.Reason.TheVariants.{OtherSource, WrongProbe, Misreport}
use Rattle.tl_explain.specs.declared.recorder.Recorder.{Recorder}
use Rattle.tl_explain.specs.declared.told.Mention.{Mention}
use Rattle.tl_explain.specs.declared.told.Told.{Told}
use Rattle.tl_explain.specs.code.Chosen.{kind_in, kind_by}
use Rattle.tl_explain.specs.code.Chosen.{size_in, size_by, probed_by, grant_in, grant_by, probe_in, report_in}
use Rattle.tl_explain.specs.code.Recorded.{IsHeld, open_message}
use Rattle.tl_explain.specs.declared.held.Held.{Held}
use Rattle.tl_explain.specs.statement.Evidence.{mention_of}
use Rattle.tl_explain.specs.statement.Reasons.{IsUnanswered, answer_key, block_named, has_wrong_cap, is_misreport}
use Rattle.tl_explain.specs.statement.Reasons.{lacks_data, rule_of_cap, rule_of_data, rule_of_report}
use Rattle.tl_explain.specs.statement.Since.{IsHeldSinceUnder, IsPendingSince}
use Rattle.tl_explain.proofs.Sayings.{held_told}
use Rattle.tl_beat.specs.statement.First.{first_if}
use Rattle.tl_explain.proofs.sound.Openings.{address_in, opening_of, probe_block, release_source, request_source, source_in}
use Rattle.tl_explain.proofs.sound.Keys.{IsSound}
use Rattle.tl_explain.proofs.Plain.{both_true, same_true}

unanswered : {w : ℕ} (n : ℕ) (k : Key) (m : Mention) (t : Trace w) (c : Control) → m.control ≡ c → answer_key c ≡ Some k
    → IsPendingSince n k m t → IsUnanswered n m t
unanswered n k m t c is key since = (k, ap answer_key is ∙ key, since)

request_asked : {w : ℕ} (n s : ℕ) (m : Mention) (t : Trace w) → IsPendingSince n (RequestSource s) m t
    → source_in m.control ≡ s
request_asked n s m t since = let o = opening_of n (RequestSource s) m t since in
    ap source_in o.2 ∙ request_source s o.0 o.1 o.3

release_asked : {w : ℕ} (n s : ℕ) (m : Mention) (t : Trace w) → IsPendingSince n (ReleaseSource s) m t
    → source_in m.control ≡ s
release_asked n s m t since = let o = opening_of n (ReleaseSource s) m t since in
    ap source_in o.2 ∙ release_source s o.0 o.1 o.3

probe_asked : {w : ℕ} (n k : ℕ) (m : Mention) (t : Trace w) → IsPendingSince n (ProbeOf k) m t
    → block_at (address_in m.control) ≡ k
probe_asked n k m t since = let o = opening_of n (ProbeOf k) m t since in
    ap (λ (c : Control). block_at (address_in c)) o.2 ∙ probe_block k o.0 o.1 o.3

module _ {w : ℕ} (lib base : Liberties) (x : BeatD w) (n : ℕ) (t : Trace w) where
  abbrev Answers : Rule → Option Reason → Type 0
  Answers rule o = IsSound lib base rule (beat.D x) n t o

  pub kind_sound : (o : Option Told) → ((m : Told) → o ≡ Some m → IsPendingSince n (RequestSource x.source) m.mention t)
      → is_release_ack x.opcode ≡ false
      → Answers H2 (kind_by x o)
  unfolding source_in
  kind_sound None since no_ack = tt
  kind_sound (Some m) since no_ack = go m.mention.control refl
    where
      go : (c : Control) → m.mention.control ≡ c → Answers H2 (kind_in x m c)
      go (control.A r) e = other (answers x.opcode r.opcode) refl
        where
          other : (b : Bool) → answers x.opcode r.opcode ≡ b → Answers H2 (if b then None else Some (OtherKind m))
          other true f = tt
          other false f =
              let from : r.source ≡ x.source = sym (ap source_in e) ∙ request_asked n x.source m.mention t
              (since m refl) in (
                unanswered n (RequestSource x.source) m.mention t (control.A r) e
                    (ap (λ (s : ℕ). Some (RequestSource s)) from) (since m refl),
                rw (e, no_ack, same_true x.source r.source (sym from), f) refl,
              )
      go (control.B r) e = tt
      go (control.C r) e = tt
      go (control.D r) e = tt
      go (control.E r) e = tt

  is_request : Control → Bool
  is_request (control.A r) = true
  is_request (control.B r) = false
  is_request (control.C r) = false
  is_request (control.D r) = false
  is_request (control.E r) = false

  of_release : (s : ℕ) (y : Beat w) (h : History w) → opens (ReleaseSource s) y h ≡ true
      → is_request (control_of y) ≡ false
  unfolding is_request
  of_release s (beat.A z) h e = absurd cc
  of_release s (beat.B z) h e = refl
  of_release s (beat.C z) h e = refl
  of_release s (beat.D z) h e = refl
  of_release s (beat.E z) h e = refl

  of_request : (s : ℕ) (y : Beat w) (h : History w) → opens (RequestSource s) y h ≡ true
      → is_request (control_of y) ≡ true
  unfolding is_request
  of_request s (beat.A z) h e = refl
  of_request s (beat.B z) h e = absurd cc
  of_request s (beat.C z) h e = absurd cc
  of_request s (beat.D z) h e = absurd cc
  of_request s (beat.E z) h e = absurd cc

  pub release_size_sound : (o : Option Told)
      → ((m : Told) → o ≡ Some m → IsPendingSince n (ReleaseSource x.source) m.mention t)
      → is_release_ack x.opcode ≡ true
      → Answers H3 (size_by x o)
  unfolding source_in is_request
  release_size_sound None since ack = tt
  release_size_sound (Some m) since ack = go m.mention.control refl
    where
      go : (c : Control) → m.mention.control ≡ c → Answers H3 (size_in x m c)
      go (control.A r) e =
          let o = opening_of n (ReleaseSource x.source) m.mention t (since m refl) in
          let no : true ≡ false = ap is_request (sym e ∙ o.2) ∙ of_release x.source o.0 o.1 o.3 in absurd cc
      go (control.B r) e = tt
      go (control.C r) e = other (x.size == r.size) refl
        where
          other : (b : Bool) → (x.size == r.size) ≡ b → Answers H3 (if b then None else Some (OtherSize m))
          other true f = tt
          other false f =
              let from : r.source ≡ x.source = sym (ap source_in e) ∙ release_asked n x.source m.mention t
              (since m refl) in (
                unanswered n (ReleaseSource x.source) m.mention t (control.C r) e
                    (ap (λ (s : ℕ). Some (ReleaseSource s)) from) (since m refl),
                rw (e, ack, same_true x.source r.source (sym from), f) refl,
              )
      go (control.D r) e = tt
      go (control.E r) e = tt

  pub request_size_sound : (o : Option Told)
      → ((m : Told) → o ≡ Some m → IsPendingSince n (RequestSource x.source) m.mention t)
      → is_release_ack x.opcode ≡ false
      → Answers H3 (size_by x o)
  unfolding source_in is_request
  request_size_sound None since ack = tt
  request_size_sound (Some m) since ack = go m.mention.control refl
    where
      go : (c : Control) → m.mention.control ≡ c → Answers H3 (size_in x m c)
      go (control.C r) e =
          let o = opening_of n (RequestSource x.source) m.mention t (since m refl) in
          let no : false ≡ true = ap is_request (sym e ∙ o.2) ∙ of_request x.source o.0 o.1 o.3 in absurd cc
      go (control.B r) e = tt
      go (control.A r) e = other (x.size == r.size) refl
        where
          other : (b : Bool) → (x.size == r.size) ≡ b → Answers H3 (if b then None else Some (OtherSize m))
          other true f = tt
          other false f =
              let from : r.source ≡ x.source = sym (ap source_in e) ∙ request_asked n x.source m.mention t
              (since m refl) in (
                unanswered n (RequestSource x.source) m.mention t (control.A r) e
                    (ap (λ (s : ℕ). Some (RequestSource s)) from) (since m refl),
                rw (e, ack, same_true x.source r.source (sym from), f) refl,
              )
      go (control.D r) e = tt
      go (control.E r) e = tt

-- the control fields of a Probe
abbrev IsProbe : ℕ → Control → Type 0
IsProbe k c = (y : ControlB) × (c ≡ control.B y) × (block_at y.address ≡ k)

of_probe : {w : ℕ} (k : ℕ) (y : Beat w) (h : History w) → opens (ProbeOf k) y h ≡ true → IsProbe k (control_of y)
of_probe k (beat.A x) h e = absurd cc
of_probe k (beat.B x) h e = (
  record { opcode = x.opcode; param = x.param; size = x.size; source = x.source; address = x.address },
  refl,
  eqb-true (block_at x.address) k (both_true (is_probe x.opcode) (block_at x.address == k) e).1,
)
of_probe k (beat.C x) h e = absurd cc
of_probe k (beat.D x) h e = absurd cc
of_probe k (beat.E x) h e = absurd cc

pub probe_is : {w : ℕ} (n k : ℕ) (m : Mention) (t : Trace w) → IsPendingSince n (ProbeOf k) m t → IsProbe k m.control
probe_is n k m t since =
    let o = opening_of n (ProbeOf k) m t since in
    let z = of_probe k o.0 o.1 o.3 in
    (z.0, o.2 ∙ z.1, z.2)

probe_waits : {w : ℕ} (n k : ℕ) (m : Mention) (t : Trace w) → IsPendingSince n (ProbeOf k) m t → IsUnanswered n m t
probe_waits n k m t since =
    let z = probe_is n k m t since in
    unanswered n (ProbeOf k) m t (control.B z.0) z.1 (ap (λ (b : ℕ). Some (ProbeOf b)) z.2) since

module _ {w : ℕ} (lib base : Liberties) (x : BeatD w) (n : ℕ) (t : Trace w) (r : Recorder) where
  abbrev Grants : Option Reason → Type 0
  Grants o = IsSound lib base H6 (beat.D x) n t o

  pub grant_sound : (o : Option Told) → ((m : Told) → o ≡ Some m → IsPendingSince n (RequestSource x.source) m.mention t)
      → is_grant x.opcode ≡ true
      → IsHeld r.held base n r.subject.block t
      → ((m : Told) → open_message r.turns.probe ≡ Some m → IsPendingSince n (ProbeOf r.subject.block) m.mention t)
      → Grants (grant_by lib x o r)
  unfolding source_in
  grant_sound None since grant said probed = tt
  grant_sound (Some m) since grant said probed = go m.mention.control refl
    where
      go : (c : Control) → m.mention.control ≡ c → Grants (grant_in lib x m c r)
      go (control.A a) e = fits (has_wrong_cap lib x a) refl
        where
          from : a.source ≡ x.source
          from = sym (ap source_in e) ∙ request_asked n x.source m.mention t (since m refl)

          waits : IsUnanswered n m.mention t
          waits = unanswered n (RequestSource x.source) m.mention t (control.A a) e
              (ap (λ (s : ℕ). Some (RequestSource s)) from) (since m refl)

          probing : (o : Option Told) → open_message r.turns.probe ≡ o → block_at a.address ≡ r.subject.block
              → Grants (probed_by m o)
          probing None f block = tt
          probing (Some probe) f block =
              let z = probe_is n r.subject.block probe.mention t (probed probe f) in (
                (waits, probe_waits n r.subject.block probe.mention t (probed probe f)),
                rw (
                  e,
                  z.1,
                  grant,
                  same_true x.source a.source (sym from),
                  same_true (block_at z.0.address)
                      (block_at a.address) (z.2 ∙ sym block),
                ) refl,
              )

          lacks : (b : Bool) → lacks_data lib x a r.held.perm ≡ b → block_at a.address ≡ r.subject.block
              → Grants (if b then Some (WithoutData m r.held) else probed_by m (open_message r.turns.probe))
          lacks true f block = (
            (
              waits,
              (
                block_at a.address,
                ap block_named e,
                subst (λ (k : ℕ). IsHeldSinceUnder base n k r.held.perm (mention_of r.held.since) t) (sym block)
                    (held_told r.held base n r.subject.block t said),
              ),
            ),
            ap (λ (c : Control). rule_of_data lib (beat.D x) c r.held.perm) e
                ∙ ap₂ (λ (b c : Bool). first_if (b && c) H6 None) (same_true x.source a.source (sym from)) f,
          )
          lacks false f block = probing (open_message r.turns.probe) refl block

          of_block : (b : Bool) → (block_at a.address == r.subject.block) ≡ b
              → Grants (if not b then None else if lacks_data lib x a r.held.perm
              then Some (WithoutData m r.held) else probed_by m (open_message r.turns.probe))
          of_block false f = tt
          of_block true f = lacks (lacks_data lib x a r.held.perm) refl
              (eqb-true (block_at a.address) r.subject.block f)

          fits : (b : Bool) → has_wrong_cap lib x a ≡ b
              → Grants (if b then Some (WrongCap m) else if not (block_at a.address == r.subject.block) then None
              else if lacks_data lib x a r.held.perm
              then Some (WithoutData m r.held) else probed_by m (open_message r.turns.probe))
          fits true f = (
            waits,
            ap (rule_of_cap lib (beat.D x)) e
                ∙ ap₂ (λ (b c : Bool). first_if (b && (c && has_wrong_cap lib x a)) H6 None) grant
                (same_true x.source a.source (sym from))
                ∙ ap (λ (b : Bool). first_if b H6 None) f,
          )
          fits false f = of_block (block_at a.address == r.subject.block) refl
      go (control.B a) e = tt
      go (control.C a) e = tt
      go (control.D a) e = tt
      go (control.E a) e = tt

module _ {w : ℕ} (lib base : Liberties) (x : BeatC w) (n : ℕ) (t : Trace w) where
  abbrev Acks : Rule → Option Reason → Type 0
  Acks rule o = IsSound lib base rule (beat.C x) n t o

  pub probe_sound : (m : Told) → IsPendingSince n (ProbeOf (block_at x.address)) m.mention t
      → is_probe_ack x.opcode ≡ true → Acks H10 (probe_in lib x m m.mention.control)
  unfolding address_in
  probe_sound m since ack = go m.mention.control refl
    where
      go : (c : Control) → m.mention.control ≡ c → Acks H10 (probe_in lib x m c)
      go (control.B y) e = sourced (lib.ids && not (x.source == y.source)) refl
        where
          of : block_at y.address ≡ block_at x.address
          of = sym (ap (λ (c : Control). block_at (address_in c)) e) ∙ probe_asked n (block_at x.address) m.mention t
              since

          other : (b : Bool) → (c_carries_data x.opcode && not (is_probe_block y.opcode)) ≡ b
              → Acks H10 (if b then Some (WrongProbe m) else None)
          other true f = (
            probe_waits n (block_at x.address) m.mention t since,
            rw
                (e, ack, same_true (block_at x.address) (block_at y.address) (sym of), f) refl,
          )
          other false f = tt

          sourced : (b : Bool) → (lib.ids && not (x.source == y.source)) ≡ b
              → Acks H10 (if b then Some (OtherSource m) else
              if c_carries_data x.opcode && not (is_probe_block y.opcode) then Some (WrongProbe m) else None)
          sourced true f = (
            probe_waits n (block_at x.address) m.mention t since,
            rw
                (e, ack, same_true (block_at x.address) (block_at y.address) (sym of), f) refl,
          )
          sourced false f = other (c_carries_data x.opcode && not (is_probe_block y.opcode)) refl
      go (control.A y) e = tt
      go (control.C y) e = tt
      go (control.D y) e = tt
      go (control.E y) e = tt

  pub report_sound : (m : Told) → IsPendingSince n (ProbeOf (block_at x.address)) m.mention t
      → is_probe_ack x.opcode ≡ true
      → (held : Held) → IsHeld held base n (block_at x.address) t
      → Acks H12 (report_in lib x m m.mention.control held)
  unfolding address_in
  report_sound m since ack held is = go m.mention.control refl
    where
      go : (c : Control) → m.mention.control ≡ c → Acks H12 (report_in lib x m c held)
      go (control.B y) e = other (is_misreport lib x.param y.param held.perm) refl
        where
          of : block_at y.address ≡ block_at x.address
          of = sym (ap (λ (c : Control). block_at (address_in c)) e) ∙ probe_asked n (block_at x.address) m.mention t
              since

          other : (b : Bool) → is_misreport lib x.param y.param held.perm ≡ b
              → Acks H12 (if b then Some (Misreport m held) else None)
          other false f = tt
          other true f = (
            (
              probe_waits n (block_at x.address) m.mention t since,
              (
                block_at y.address,
                ap block_named e,
                subst (λ (k : ℕ). IsHeldSinceUnder base n k held.perm (mention_of held.since) t) (sym of)
                    (held_told held base n (block_at x.address) t is),
              ),
            ),
            ap (λ (c : Control). rule_of_report lib (beat.C x) c held.perm) e
                ∙ ap₂ (λ (b c : Bool). first_if (b && (c && is_misreport lib x.param y.param held.perm)) H12 None) ack
                (same_true (block_at x.address) (block_at y.address) (sym of))
                ∙ ap (λ (b : Bool). first_if b H12 None) f,
          )
      go (control.A y) e = tt
      go (control.C y) e = tt
      go (control.D y) e = tt
      go (control.E y) e = tt
