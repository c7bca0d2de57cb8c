-- What the order of messages says where a message that is named is open, and where it isn't.
use Rattle.std.proofs.Common.{◌≡◌, ℕ, Bool, true, false, ◌&&◌, ◌||◌, refl, sym, inl, inr}
use Rattle.std.specs.Prelude.{if◌then◌else◌, [], ◌∷◌, not, Option, Some, None, ◌==◌}
use Rattle.std.proofs.lemmas.Bool.{cases_Bool}
use Rattle.tl_beat.specs.declared.beat.Beat.TheVariants.{A, B, C, D, E}
use Rattle.tl_beat.specs.declared.beat.BeatC.{BeatC}
use Rattle.tl_beat.specs.declared.beat.BeatD.{BeatD}
use Rattle.tl_burst.specs.statement.Messages.{History, unfinished}
use Rattle.tl_params.specs.declared.key.Key.TheVariants.{RequestSource, ReleaseSource, ReleaseOf, GrantSink, ProbeOf}
use Rattle.tl_params.specs.declared.liberties.Liberties.{Liberties}
use Rattle.tl_params.specs.declared.rule.Rule.TheVariants.{H2, H3, H6, H7, H10, H11, H12}
use Rattle.tl_rules.specs.statement.History.{begins, ends, closes, pending, request_of, release_of, probe_of}
use Rattle.tl_rules.specs.statement.History.{is_release, is_grant, is_release_ack, is_probe, block_at, held}
use Rattle.tl_rules.specs.statement.Conformance.{answers_wrong_probe, misreports, is_probe_block, is_report_at, answers}
use Rattle.tl_rules.specs.statement.Conformance.{admits, size_of_request, comes_in_release, comes_in_request}
use Rattle.tl_rules.specs.statement.Liberties.{broken_d_under, broken_probe_ack_under, has_other_source, held_under}
use Rattle.tl_rules.specs.statement.Liberties.{misgrants_under, reports_none}
use Rattle.tl_rules.specs.code.Open.{open_request, open_probe, request_fields, release_size, probe_fields}
use Rattle.tl_rules.specs.code.Open.{is_number, open_release_under, open_request_under, probe_source, source_of}
use Rattle.tl_rules.specs.declared.past.Probe.{Probe}
use Rattle.tl_params.specs.declared.perm.Perm.{Perm}
use Rattle.tl_params.specs.statement.Param.{cap_of}
use Rattle.tl_beat.specs.statement.Opcode.{c_carries_data}
use Rattle.tl_beat.specs.declared.beat.BeatB.{BeatB}
use Rattle.tl_rules.specs.declared.past.Request.{Request}
use Rattle.tl_beat.specs.declared.channel.Channel.TheVariants as channel
use Rattle.tl_params.specs.declared.rule.Rule.{Rule}
use Rattle.tl_beat.specs.declared.beat.BeatA.{BeatA}
use Rattle.tl_beat.specs.statement.First.{first_if}
use Rattle.tl_beat.specs.declared.opcode.OpD.{OpD}
use Rattle.tl_beat.specs.declared.opcode.OpD.TheVariants as d

-- what grants ends no Release
pub not_release_ack : (opcode : OpD) → is_grant opcode ≡ true → is_release_ack opcode ≡ false
not_release_ack d.Grant e = refl
not_release_ack d.GrantData e = refl
not_release_ack d.AccessAck e = absurd cc
not_release_ack d.AccessAckData e = absurd cc
not_release_ack d.HintAck e = absurd cc
not_release_ack d.ReleaseAck e = absurd cc

pub never : (b : Bool) → (b && false) ≡ false
never true = refl
never false = refl

-- what is pending and isn't opened now was pending before
pub still : (opened closed before : Bool) → opened ≡ false → (if opened then true else if closed then false else before)
    ≡ true → before ≡ true
still true closed before e h = absurd cc
still false true before e h = absurd cc
still false false before e h = h

-- a Release that is pending has begun
pub release-begun : {w : ℕ} (s : ℕ) (t : History w) → pending (ReleaseSource s) t ≡ true
    → release_size (release_of s t) ≡ None → ⊥
unfolding pending release_of
release-begun s [] p none = absurd cc
release-begun s (A y ∷ t) p none =
    release-begun s t (still (begins (A y) t && false) (ends (A y) t && closes (ReleaseSource s) (A y) t)
    (pending (ReleaseSource s) t) (never (begins (A y) t)) p) none
release-begun s (B y ∷ t) p none =
    release-begun s t (still (begins (B y) t && false) (ends (B y) t && closes (ReleaseSource s) (B y) t)
    (pending (ReleaseSource s) t) (never (begins (B y) t)) p) none
release-begun s (C y ∷ t) p none = elim (cases_Bool (begins (C y) t && (is_release y.opcode && (y.source == s)))) [
  | inl now ↦ let none' : Some y.size ≡ None = rw now at none in absurd cc
  | inr before ↦ release-begun s t (still _ (ends (C y) t && closes (ReleaseSource s) (C y) t)
      (pending (ReleaseSource s) t) before p) (rw before at none)
]
release-begun s (D y ∷ t) p none =
    release-begun s t (still (begins (D y) t && false) (ends (D y) t && closes (ReleaseSource s) (D y) t)
    (pending (ReleaseSource s) t) (never (begins (D y) t)) p) none
release-begun s (E y ∷ t) p none =
    release-begun s t (still (begins (E y) t && false) (ends (E y) t && closes (ReleaseSource s) (E y) t)
    (pending (ReleaseSource s) t) (never (begins (E y) t)) p) none

-- a Probe that is pending has begun
pub probe-begun : {w : ℕ} (k : ℕ) (t : History w) → pending (ProbeOf k) t ≡ true → probe_fields (probe_of k t) ≡ None
    → ⊥
unfolding pending probe_of
probe-begun k [] p none = absurd cc
probe-begun k (A y ∷ t) p none =
    probe-begun k t (still (begins (A y) t && false) (ends (A y) t && closes (ProbeOf k) (A y) t)
    (pending (ProbeOf k) t) (never (begins (A y) t)) p) none
probe-begun k (B y ∷ t) p none = elim (cases_Bool (begins (B y) t && (is_probe y.opcode && (block_at y.address == k)))) [
  | inl now ↦ let none' : probe_fields (Some y) ≡ None = rw now at none in absurd cc
  | inr before ↦ probe-begun k t (still _ (ends (B y) t && closes (ProbeOf k) (B y) t) (pending (ProbeOf k) t) before p)
      (rw before at none)
]
probe-begun k (C y ∷ t) p none =
    probe-begun k t (still (begins (C y) t && false) (ends (C y) t && closes (ProbeOf k) (C y) t)
    (pending (ProbeOf k) t) (never (begins (C y) t)) p) none
probe-begun k (D y ∷ t) p none =
    probe-begun k t (still (begins (D y) t && false) (ends (D y) t && closes (ProbeOf k) (D y) t)
    (pending (ProbeOf k) t) (never (begins (D y) t)) p) none
probe-begun k (E y ∷ t) p none =
    probe-begun k t (still (begins (E y) t && false) (ends (E y) t && closes (ProbeOf k) (E y) t)
    (pending (ProbeOf k) t) (never (begins (E y) t)) p) none

-- ---- where none is open

pub no-release : {w : ℕ} (l : Liberties) (x : BeatD w) (t : History w) → is_release_ack x.opcode ≡ true
    → None ≡ open_release_under l x.source t → Some H2 ≡ broken_d_under l x t
no-release l x t ack none =
    elim (cases_Bool (pending (ReleaseSource x.source) t && not
    (not l.early && comes_in_release x.source (unfinished channel.C t)))) [
      | inl is ↦
          let size_none : release_size (release_of x.source t) ≡ None = sym (rw is at none) in
          absurd (release-begun x.source t (and-left (pending (ReleaseSource x.source) t) _ is) size_none)
      | inr isnt ↦ rw (ack, isnt) refl
    ]
  where
    and-left : (a b : Bool) → (a && b) ≡ true → a ≡ true
    and-left true b e = refl
    and-left false b e = absurd cc

pub no-probe : {w : ℕ} (l : Liberties) (x : BeatC w) (k : ℕ) (t : History w) → k ≡ block_at x.address
    → None ≡ open_probe k t → Some H10 ≡ broken_probe_ack_under l x t
no-probe l x k t own none = elim (cases_Bool (pending (ProbeOf k) t)) [
  | inl is ↦ absurd (probe-begun k t is (sym (rw is at none)))
  | inr isnt ↦ rw (sym own, isnt) refl
]

-- ---- where the request is open

fields_of : {w : ℕ} (asked : Bool) (o : Option (BeatA w)) (r : Request)
    → Some r ≡ (if asked then request_fields o else None) → (asked ≡ true) × (request_fields o ≡ Some r)
fields_of true o r e = (refl, sym e)
fields_of false o r e = absurd cc

-- the request that is open is the last one with its source
pub request-fields : {w : ℕ} (s : ℕ) (t : History w) (r : Request) → Some r ≡ open_request s t
    → request_fields (request_of s t) ≡ Some r
request-fields s t r e =
    (fields_of (pending (RequestSource s) t && not (comes_in_request s (unfinished channel.A t))) (request_of s t) r
    e).1

judged : {w : ℕ} (x : BeatD w) (before comes : Bool) (o : Option (BeatA w)) (r : Request) (rest : Option Rule)
    → (before && not comes) ≡ true → request_fields o ≡ Some r
    → first_if (not (before && (not comes && admits x.opcode o))) H2
    (first_if (not (x.size == size_of_request o)) H3 rest) ≡ first_if
    (not (answers x.opcode r.opcode)) H2 (first_if (not (x.size == r.size)) H3 rest)
judged x true false (Some y) r rest both fields = let same : r ≡ record {
  opcode = y.opcode;
  param = y.param;
  size =
      y.size;
  block = block_at y.address;
} = cc in rw same refl
judged x true false None r rest both fields = absurd cc
judged x true true o r rest both fields = absurd cc
judged x false comes o r rest both fields = absurd cc

-- the request that is open under liberties is the last one with its source
pub request-fields-under : {w : ℕ} (l : Liberties) (s : ℕ) (t : History w) (r : Request)
    → Some r ≡ open_request_under l s t → request_fields (request_of s t) ≡ Some r
request-fields-under l s t r e =
    (fields_of (pending (RequestSource s) t && not (not l.early && comes_in_request s (unfinished channel.A t)))
    (request_of s t) r e).1

-- what an answer to an open request breaks
pub answered : {w : ℕ} (x : BeatD w) (t : History w) (l : Liberties) (r : Request) → is_release_ack x.opcode ≡ false
    → Some r ≡ open_request_under l x.source t
    → broken_d_under l x t ≡ first_if (not (answers x.opcode r.opcode)) H2 (first_if (not (x.size == r.size)) H3
    (first_if (is_grant x.opcode && misgrants_under l x (request_of x.source t) t) H6
    (first_if (is_grant x.opcode && pending (GrantSink x.sink) t) H7 None)))
answered x t l r ack e =
    let comes = not l.early && comes_in_request x.source (unfinished channel.A t) in
    let known = fields_of (pending (RequestSource x.source) t && not comes) (request_of x.source t) r e in
    rw ack (judged x (pending (RequestSource x.source) t) comes (request_of x.source t) r _ known.0 known.1)

-- ---- where the Probe is open

probed_by : {w : ℕ} (x : BeatC w) (before ids excused : Bool) (o : Option (BeatB w)) (q : Probe) (late : Bool)
    (p : Perm) → Some q ≡ (if before then probe_fields o else None)
    → first_if (not before || ((ids && has_other_source x o) || answers_wrong_probe x o)) H10
    (first_if late H11 (first_if (not excused && misreports x o p) H12 None))
    ≡ first_if (ids && not (is_number x.source (if before then source_of o else None))) H10
    (first_if (c_carries_data x.opcode && not (is_probe_block q.opcode)) H10
    (first_if late H11 (first_if (not excused && not (is_report_at x.param (cap_of q.param) p)) H12 None)))
probed_by x true ids excused (Some y) q late p e =
    let same : q ≡ record { opcode = y.opcode; param = y.param } = cc in
    rw same (split (ids && not (x.source == y.source)) (c_carries_data x.opcode && not (is_probe_block y.opcode)) _)
  where
    split : (a b : Bool) (rest : Option Rule) → first_if (a || b) H10 rest ≡ first_if a H10 (first_if b H10 rest)
    split true b rest = refl
    split false b rest = refl
probed_by x true ids excused None q late p e = absurd cc
probed_by x false ids excused o q late p e = absurd cc

-- what a ProbeAck of an open Probe breaks
pub probed : {w : ℕ} (l : Liberties) (x : BeatC w) (k : ℕ) (t : History w) (q : Probe) → k ≡ block_at x.address
    → Some q ≡ open_probe k t
    → broken_probe_ack_under l x t
    ≡ first_if (l.ids && not (is_number x.source (probe_source k t))) H10
    (first_if (c_carries_data x.opcode && not (is_probe_block q.opcode)) H10
    (first_if (pending (ReleaseOf k) t) H11
    (first_if (not (l.drops && reports_none x.param) && not (is_report_at x.param (cap_of q.param) (held_under l k t)))
    H12 None)))
probed l x k t q own e = rw (sym own) (probed_by x (pending (ProbeOf k) t) l.ids (l.drops && reports_none x.param)
    (probe_of k t) q (pending (ReleaseOf k) t) (held_under l k t) e)
