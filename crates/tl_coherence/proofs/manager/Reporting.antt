-- What the messages of channel C say that a client has in flight, and what the manager takes of them.
-- Beats and answers after which the manager's end says the same of all but what is recorded and which ProbeAcks are
-- missing.
-- What the manager knows after a ProbeAck that isn't the last one missing, after a Release, and after a beat of channel
-- C that isn't the last of its message.
use Rattle.std.proofs.Common.{◌≡◌, ℕ, ◌*◌, Bool, true, false, not, ◌&&◌, ◌||◌, ◌==◌, if◌then◌else◌, List, [], ◌∷◌, Some}
use Rattle.std.proofs.Common.{None, refl, sym, ◌∙◌, ap, arith, inl, inr, length, eqb-true, ne_eqb, pow_pos, unwrap_or}
use Rattle.tl_coherence.proofs
use proofs.Imports.{cases_eq, drop_all, Beat, BeatC, Link, Channel, OpB, OpC, c_carries_data, IsWidth, beats-positive}
use proofs.Imports.{Message, D, MessageA, MessageC, MessageD, IsBlankAfter, IsZeroFrom, beats_of, data_beats}
use proofs.Imports.{unfinished, Key, Prune, Report, Perm, prune_code, prune_left, prune_right, report_code, report_left}
use proofs.Imports.{report_right, held-sent_d, whole_block, Trace, same_perm, on_link, block_at, ends, is_grant}
use proofs.Imports.{is_probe_ack, is_release, is_release_ack, reported, held, pending, request_of, same_block, zeros}
use proofs.Imports.{about, probe_ack, release, after_sent, other_link, own_link, beat-keeps, other_beat, own_beat}
use proofs.Imports.{request_of-c, reply-quiet, request-reply, recorded, services, Packet, set, ClientBlock, is_unprobed}
use proofs.Imports.{after_release_taken, after_report, Block, State, let_block, release_taken, report_taken}
use proofs.Imports.{reported_block}
use Rattle.tl_manager.{proofs.pending.Accesses.services-release_ack, proofs.pending.Handed.recorded-taken}
use Rattle.tl_manager.{proofs.pending.LinkHistories.pending-closed, proofs.pending.Probing.services-c}
use proofs.manager.BlockAccounts.{IsTraced}
use proofs.queues.Tokens.{set-part, same_number, set-same, set-other}

-- a message of channel C about a block, with its bytes where it gives Trunk up
pub record IsAbout {w : ℕ} (is_report : Bool) (n param : ℕ) (carries : Bool) (truth : List ℕ) (m : MessageC w) : Type 0
  where
    pub reports : is_probe_ack m.opcode ≡ is_report
    pub releases : is_release m.opcode ≡ not is_report
    pub block : block_at m.address ≡ n
    pub param_is : m.param ≡ param
    pub carries_is : c_carries_data m.opcode ≡ carries
    pub payload_is : carries ≡ true → m.payload ≡ truth
    pub long : length m.payload ≡ 64
    pub blank : IsBlankAfter (beats_of (Message.C m)) (Message.C m)

about_data : {w : ℕ} (b : Bool) (opcode : OpC) (param source n : ℕ) (truth : List ℕ) → IsWidth w
    → is_probe_ack opcode ≡ b → is_release opcode ≡ not b → c_carries_data opcode ≡ true → length truth ≡ 64
    → IsAbout {w = w} b n param true truth (about opcode param source n truth)
about_data {w} b opcode param source n truth width reports releases carries long = record {
  reports = reports;
  releases = releases;
  block = same_block n;
  param_is = refl;
  carries_is = carries;
  payload_is = λ e. refl;
  long = long;
  blank = rw carries (all_carried, pow_pos (data_beats w 6));
}
  where
    all_carried : IsZeroFrom (w * data_beats w 6) truth
    all_carried = rw (whole_block w width) (drop_all 64 truth (omega (arith, long)))

about_none : {w : ℕ} (b : Bool) (opcode : OpC) (param source n : ℕ) (truth : List ℕ) → is_probe_ack opcode ≡ b
    → is_release opcode ≡ not b → c_carries_data opcode ≡ false
    → IsAbout {w = w} b n param false truth (about opcode param source n zeros)
about_none b opcode param source n truth reports releases bare = grind (arith, same_block)

-- a ProbeAck
pub report-about : {w : ℕ} (r : Report) (n : ℕ) (truth : List ℕ) → IsWidth w → length truth ≡ 64
    → (m : MessageC w) × (probe_ack OpB.ProbeBlock (report_left r) r n truth ≡ Message.C m)
    × IsAbout true n (report_code r) (same_perm (report_left r) Perm.Trunk) truth m
report-about Report.BtoN n truth width long =
    (_, refl, about_none true OpC.ProbeAck (report_code Report.BtoN) 0 n truth refl refl refl)
report-about Report.BtoB n truth width long =
    (_, refl, about_none true OpC.ProbeAck (report_code Report.BtoB) 0 n truth refl refl refl)
report-about Report.NtoN n truth width long =
    (_, refl, about_none true OpC.ProbeAck (report_code Report.NtoN) 0 n truth refl refl refl)
report-about r n truth width long =
    (_, refl, about_data true OpC.ProbeAckData (report_code r) 0 n truth width refl refl refl long)

-- a Release
pub release-about : {w : ℕ} (r : Prune) (source n : ℕ) (truth : List ℕ) → IsWidth w → length truth ≡ 64
    → (m : MessageC w) × (release r source n truth ≡ Message.C m) × IsAbout false n (prune_code r)
    (same_perm (prune_left r) Perm.Trunk) truth m × (m.source ≡ source)
release-about Prune.BtoN source n truth width long =
    (_, refl, about_none false OpC.Release (prune_code Prune.BtoN) source n truth refl refl refl, refl)
release-about r source n truth width long =
    (_, refl, about_data false OpC.ReleaseData (prune_code r) source n truth width refl refl refl long, refl)

pub reported-prune : (r : Prune) → reported (prune_code r) ≡ prune_right r
reported-prune r = grind arith

-- ---- the manager's end

pub record AreQuiet {w : ℕ} (t u : Trace w) : Type 0 where
  pub serves : services u ≡ services t
  pub requests : (c q : ℕ) → request_of q (on_link c u) ≡ request_of q (on_link c t)

-- one after another
pub quiet-then : {w : ℕ} {t u v : Trace w} → AreQuiet t u → AreQuiet u v → AreQuiet t v
quiet-then a b = record { serves = b.serves ∙ a.serves; requests = λ c q. b.requests c q ∙ a.requests c q }

-- ---- a beat of channel C

pub quiet-c : {w : ℕ} (link : Link) (x : BeatC w) (t : Trace w) → AreQuiet t ((link, Beat.C x) ∷ t)
quiet-c link x t = record {
  serves = services-c link x t;
  requests = λ c q. beat-keeps (request_of q) c link (Beat.C x) t (request_of-c q x);
}

-- what is recorded after it
recorded-c : {w : ℕ} (link : Link) (x : BeatC w) (t : Trace w) (d i : ℕ) → recorded d i ((link, Beat.C x) ∷ t)
    ≡ unwrap_or (if (link.0 == d)
    && (ends (Beat.C x) (on_link d t) && ((is_probe_ack x.opcode || is_release x.opcode) && (block_at x.address == i)))
    then Some (reported x.param) else None) (recorded d i t)
recorded-c link x t d i = recorded-taken d link i (Beat.C x) t refl

-- the last beat of a ProbeAck or Release of a block
pub record IsLastOf {w : ℕ} (c n : ℕ) (right : Perm) (x : BeatC w) (t : Trace w) : Type 0 where
  pub last : ends (Beat.C x) (on_link c t) ≡ true
  pub kind : (is_probe_ack x.opcode || is_release x.opcode) ≡ true
  pub block : block_at x.address ≡ n
  pub right_is : reported x.param ≡ right

pub recorded-last : {w : ℕ} {c n : ℕ} {right : Perm} {x : BeatC w} {t : Trace w} → IsLastOf c n right x t → (d i : ℕ)
    → recorded d i ((record { 0 = c }, Beat.C x) ∷ t) ≡ (if (c == d) && (n == i) then right else recorded d i t)
recorded-last {c} {n} {right} {x} {t} is d i =
    let go : (b : Bool) → unwrap_or (if b then Some right else None) (recorded c i t)
    ≡ (if b then right else recorded c i t) = elim [ true ↦ refl | false ↦ refl ] in
    recorded-c (record { 0 = c }) x t d i ∙ elim (cases_eq c d) [
      | inl same ↦ rw (← same, is.last, is.kind, is.block, is.right_is, same_number c) (go (n == i))
      | inr other ↦ rw (ne_eqb c d other) refl
    ]

part_or : (p : Perm) (b : Bool) (q : Perm) → unwrap_or (if b && false then Some p else None) q ≡ q
part_or p b q = grind arith

-- a beat that isn't the last one
pub recorded-part : {w : ℕ} (c : ℕ) (x : BeatC w) (t : Trace w) → ends (Beat.C x) (on_link c t) ≡ false → (d i : ℕ)
    → recorded d i ((record { 0 = c }, Beat.C x) ∷ t) ≡ recorded d i t
recorded-part c x t part d i = recorded-c (record { 0 = c }) x t d i ∙ elim (cases_eq c d) [
  | inl same ↦ rw (← same, part) (part_or (reported x.param) (c == c) (recorded c i t))
  | inr other ↦ rw (ne_eqb c d other) refl
]

-- ---- which ProbeAcks are missing after it

missing-c : {w : ℕ} (c : ℕ) (x : BeatC w) (t : Trace w) (d i : ℕ)
    → pending (Key.ProbeOf i) (on_link d ((record { 0 = c }, Beat.C x) ∷ t))
    ≡ (if (c == d) && (ends (Beat.C x) (on_link d t) && (is_probe_ack x.opcode && (block_at x.address == i))) then false
    else pending (Key.ProbeOf i) (on_link d t))
missing-c c x t d i = go (c == d) refl
  where
    go : (b : Bool) → (c == d) ≡ b → pending (Key.ProbeOf i) (on_link d ((record { 0 = c }, Beat.C x) ∷ t))
        ≡ (if b && (ends (Beat.C x) (on_link d t) && (is_probe_ack x.opcode && (block_at x.address == i))) then false
        else pending (Key.ProbeOf i) (on_link d t))
    go true e = ap (pending (Key.ProbeOf i)) (own_beat d (record { 0 = c }) (Beat.C x) t e) ∙ pending-closed
        (Key.ProbeOf i) (Beat.C x) (on_link d t) refl
    go false e = ap (pending (Key.ProbeOf i)) (other_beat d (record { 0 = c }) (Beat.C x) t e)

pub missing-last : {w : ℕ} {c n : ℕ} {right : Perm} {x : BeatC w} {t : Trace w} → IsLastOf c n right x t
    → is_probe_ack x.opcode ≡ true → (d i : ℕ) → pending (Key.ProbeOf i) (on_link d ((record { 0 = c }, Beat.C x) ∷ t))
    ≡ (if (c == d) && (n == i) then false else pending (Key.ProbeOf i) (on_link d t))
missing-last {c} {x} {t} is report d i = grind (arith, missing-c, cases_eq)

none_or : (a b p : Bool) → (if a && (b && false) then false else p) ≡ p
none_or a b p = grind arith

pub missing-release : {w : ℕ} (c : ℕ) (x : BeatC w) (t : Trace w) → is_probe_ack x.opcode ≡ false → (d i : ℕ)
    → pending (Key.ProbeOf i) (on_link d ((record { 0 = c }, Beat.C x) ∷ t)) ≡ pending (Key.ProbeOf i) (on_link d t)
missing-release {w} c x t kind d i = grind (arith, missing-c, none_or)

pub missing-part : {w : ℕ} (c : ℕ) (x : BeatC w) (t : Trace w) → ends (Beat.C x) (on_link c t) ≡ false → (d i : ℕ)
    → pending (Key.ProbeOf i) (on_link d ((record { 0 = c }, Beat.C x) ∷ t)) ≡ pending (Key.ProbeOf i) (on_link d t)
missing-part {w} c x t part d i = grind (arith, missing-c, cases_eq)

-- ---- an answer to a Release

pub quiet-release_ack : {w : ℕ} (link : Link) (m : MessageD w) (t : Trace w) → IsWidth w
    → unfinished Channel.D (on_link link.0 t) ≡ [] → is_release_ack m.opcode ≡ true → is_grant m.opcode ≡ false
    → AreQuiet t (after_sent link (D m) t)
quiet-release_ack link m t width none ack other =
    record { serves = services-release_ack link m t width none ack; requests = λ c q. request-reply link m t c q }

-- what is recorded after an answer that is no Grant
pub recorded-answer : {w : ℕ} (link : Link) (m : MessageD w) (t : Trace w) → IsWidth w
    → unfinished Channel.D (on_link link.0 t) ≡ [] → is_grant m.opcode ≡ false → (d i : ℕ)
    → recorded d i (after_sent link (D m) t) ≡ recorded d i t
recorded-answer link m t width none other d i = go (link.0 == d) refl
  where
    go : (b : Bool) → (link.0 == d) ≡ b → recorded d i (after_sent link (D m) t) ≡ recorded d i t
    go true e = ap (held i) (own_link d link (D m) t e) ∙ held-sent_d i m (on_link d t)
        (rw (eqb-true link.0 d e) at none) (beats-positive (D m) width) ∙ rw other refl
    go false e = ap (held i) (other_link d link (D m) t e)

-- ---- the protocol: no service or tracker changes

pub record AreStill {X : Type 0} (s z : State X) : Type 0 where
  pub services : (n : ℕ) → (z.block n).service ≡ (s.block n).service
  pub trackers : (n : ℕ) → (z.block n).tracker ≡ (s.block n).tracker

pub traced-still : {w : ℕ} {X : Type 0} {request : ℕ → MessageA w} {s z : State X} {t u : Trace w} → AreQuiet t u
    → AreStill s z → ((c n : ℕ) → recorded c n u ≡ ((z.block n).pair c).recorded)
    → ((c n : ℕ) → pending (Key.ProbeOf n) (on_link c u) ≡ not (is_unprobed ((z.block n).pair c).probing))
    → IsTraced request s t → IsTraced request z u
traced-still quiet still records missing known = record {
  recorded_is = records;
  probes = missing;
  serving_is = λ n. cc (quiet.serves, known.serving_is n, still.services n, still.trackers n);
  requests = λ n. rw (still.services n) (known.requests n);
  asked = λ n r source own k e. quiet.requests r source ∙ known.asked n r source own k (sym (still.services n) ∙ e);
}

-- ---- one client of one block has another pair

pub pair-part : {X A : Type 0} (part : ClientBlock → A) (c n : ℕ) (p : ClientBlock) (new : Block X) (block : ℕ
    → Block X) → ((d : ℕ) → new.pair d ≡ set c p (block n).pair d) → (d i : ℕ)
    → part ((set n new block i).pair d) ≡ (if (c == d) && (n == i) then part p else part ((block i).pair d))
pair-part part c n p new block is d i =
    let never : (b : Bool) → part ((block i).pair d) ≡ (if b && false then part p else part ((block i).pair d)) =
    elim [ true ↦ refl | false ↦ refl ] in
    elim (cases_eq i n) [
      | inl same ↦ rw (same, set-same n new block, same_number n, is d) (elim (cases_eq d c) [
        | inl mine ↦ rw (mine, set-same c p (block n).pair, same_number c) refl
        | inr apart ↦ let differ : c ≡ d → ⊥ = λ e. apart (sym e) in
            rw (set-other c d p (block n).pair apart, ne_eqb c d differ) refl
      ])
      | inr other ↦ let differ : n ≡ i → ⊥ = λ e. other (sym e) in rw (set-other n i new block other, ne_eqb n i differ)
          (never (c == d))
    ]

-- a part that it has as before
pub pair-still : {X A : Type 0} (part : ClientBlock → A) (c n : ℕ) (p : ClientBlock) (new : Block X) (block : ℕ
    → Block X) → ((d : ℕ) → new.pair d ≡ set c p (block n).pair d) → part p ≡ part ((block n).pair c) → (d i : ℕ)
    → part ((set n new block i).pair d) ≡ part ((block i).pair d)
pair-still part c n p new block is same d i = pair-part part c n p new block is d i ∙ go (c == d) (n == i) refl refl
  where
    go : (a b : Bool) → (c == d) ≡ a → (n == i) ≡ b → (if a && b then part p else part ((block i).pair d)) ≡ part
        ((block i).pair d)
    go true true e f = rw (← eqb-true c d e, ← eqb-true n i f) same
    go a b e f = refl

-- ---- a beat that isn't the last one

pub traced-report_part : {w : ℕ} {X : Type 0} {request : ℕ → MessageA w} (c : ℕ) (x : BeatC w) {s : State X}
    {t : Trace w} → ends (Beat.C x) (on_link c t) ≡ false → IsTraced request s t
    → IsTraced request s ((record { 0 = c }, Beat.C x) ∷ t)
traced-report_part c x {t} part known = traced-still (quiet-c (record { 0 = c }) x t)
    (record { services = λ n. refl; trackers = λ n. refl }) (λ d i. recorded-part c x t part d i
    ∙ known.recorded_is d i) (λ d i. missing-part c x t part d i ∙ known.probes d i) known

-- ---- a ProbeAck, where others are missing

still-reported : {X : Type 0} (c n : ℕ) (r : Report) (rest : List Packet) (s : State X)
    → AreStill s (report_taken c n r rest s)
still-reported c n r rest s = record {
  services = λ i. set-part (λ b. b.service) n (reported_block c r (s.block n)) s.block refl i;
  trackers = λ i. set-part (λ b. b.tracker) n (reported_block c r (s.block n)) s.block refl i;
}

-- what is said of the one client and block, and of the others as before
same_or : {A : Type 0} (b : Bool) (p q q' : A) → q ≡ q' → (if b then p else q) ≡ (if b then p else q')
same_or b p q q' e = ap (λ z. if b then p else z) e

pub reported-records : {w : ℕ} {X : Type 0} {request : ℕ → MessageA w} {c n : ℕ} (r : Report) (new : Block X)
    {x : BeatC w} {s : State X} {t : Trace w} → IsLastOf c n (report_right r) x t
    → ((d : ℕ) → new.pair d ≡ set c (after_report r ((s.block n).pair c)) (s.block n).pair d) → IsTraced request s t
    → (d i : ℕ) → recorded d i ((record { 0 = c }, Beat.C x) ∷ t) ≡ ((set n new s.block i).pair d).recorded
reported-records {c} {n} r new {s} is pairs known d i = recorded-last is d i
    ∙ same_or ((c == d) && (n == i)) (report_right r) _ _ (known.recorded_is d i)
    ∙ sym (pair-part (λ p. p.recorded) c n (after_report r ((s.block n).pair c)) new s.block pairs d i)

pub reported-missing : {w : ℕ} {X : Type 0} {request : ℕ → MessageA w} {c n : ℕ} (r : Report) (new : Block X)
    {x : BeatC w} {s : State X} {t : Trace w} → IsLastOf c n (report_right r) x t → is_probe_ack x.opcode ≡ true
    → ((d : ℕ) → new.pair d ≡ set c (after_report r ((s.block n).pair c)) (s.block n).pair d)
    → IsTraced request s t → (d i : ℕ) → pending (Key.ProbeOf i) (on_link d ((record { 0 = c }, Beat.C x) ∷ t))
    ≡ not (is_unprobed ((set n new s.block i).pair d).probing)
reported-missing {c} {n} r new {s} is report pairs known d i =
    missing-last is report d i ∙ same_or ((c == d) && (n == i)) false _ _ (known.probes d i)
    ∙ sym (pair-part (λ p. not (is_unprobed p.probing)) c n (after_report r ((s.block n).pair c)) new s.block pairs d i)

pub traced-reported : {w : ℕ} {X : Type 0} {request : ℕ → MessageA w} {c n : ℕ} (r : Report) (rest : List Packet)
    {x : BeatC w} {s : State X} {t : Trace w} → IsLastOf c n (report_right r) x t → is_probe_ack x.opcode ≡ true
    → IsTraced request s t → IsTraced request (report_taken c n r rest s) ((record { 0 = c }, Beat.C x) ∷ t)
traced-reported {c} {n} r rest {x} {s} {t} is report known = traced-still (quiet-c (record { 0 = c }) x t)
    (still-reported c n r rest s) (λ d i. reported-records r (reported_block c r (s.block n)) is (λ j. refl) known d i)
    (λ d i. reported-missing r (reported_block c r (s.block n)) is report (λ j. refl) known d i) known

-- ---- a Release

still-released : {X : Type 0} (c n : ℕ) (r : Prune) (rest : List Packet) (s : State X)
    → AreStill s (release_taken c n r rest s)
still-released c n r rest s = record {
  services = λ i. set-part (λ b. b.service) n (let_block c r (s.block n)) s.block refl i;
  trackers = λ i. set-part (λ b. b.tracker) n (let_block c r (s.block n)) s.block refl i;
}

probing-released : {X A : Type 0} (part : ClientBlock → A)
    → ((r : Prune) (p : ClientBlock) → part (after_release_taken r p) ≡ part p)
    → (c n : ℕ) (r : Prune) (rest : List Packet) (s : State X) (d i : ℕ)
    → part (((release_taken c n r rest s).block i).pair d) ≡ part ((s.block i).pair d)
probing-released part same c n r rest s d i = pair-still part c n _
    (let_block c r (s.block n)) s.block (λ j. refl) (same r ((s.block n).pair c)) d i

-- the answer of a Release, on a link where nothing handed out is unfinished
pub record IsReleased {w : ℕ} (c : ℕ) (x : BeatC w) (m : MessageD w) (t : Trace w) : Type 0 where
  pub width : IsWidth w
  pub other : is_probe_ack x.opcode ≡ false
  pub ack : is_release_ack m.opcode ≡ true
  pub none : is_grant m.opcode ≡ false
  pub whole : unfinished Channel.D (on_link c ((record { 0 = c }, Beat.C x) ∷ t)) ≡ []

released-quiet : {w : ℕ} {c : ℕ} {x : BeatC w} {m : MessageD w} {t : Trace w} → IsReleased c x m t
    → AreQuiet t (after_sent (record { 0 = c }) (D m) ((record { 0 = c }, Beat.C x) ∷ t))
released-quiet {c} {x} {m} {t} is = quiet-then (quiet-c (record { 0 = c }) x t)
    (quiet-release_ack (record { 0 = c }) m ((record { 0 = c }, Beat.C x) ∷ t) is.width is.whole is.ack is.none)

pub traced-released : {w : ℕ} {X : Type 0} {request : ℕ → MessageA w} {c n : ℕ} (r : Prune) (rest : List Packet)
    {x : BeatC w} {m : MessageD w} {s : State X} {t : Trace w} → IsLastOf c n (prune_right r) x t → IsReleased c x m t
    → IsTraced request s t → IsTraced request (release_taken c n r rest s)
    (after_sent (record { 0 = c }) (D m) ((record { 0 = c }, Beat.C x) ∷ t))
traced-released {w} {c} {n} r rest {x} {m} {s} {t} is answer known =
    let u : Trace w = (record { 0 = c }, Beat.C x) ∷ t in
    traced-still (released-quiet answer) (still-released c n r rest s) (λ d i. recorded-answer _ m u answer.width
    answer.whole answer.none d i ∙ recorded-last is d i ∙ same_or ((c == d) && (n == i)) (prune_right r) _ _
    (known.recorded_is d i) ∙ sym (pair-part (λ p. p.recorded) c n (after_release_taken r ((s.block n).pair c))
    (let_block c r (s.block n)) s.block (λ j. refl) d i)) (λ d i. reply-quiet (Key.ProbeOf i) _ m u d
    answer.width answer.whole (λ e. (refl, refl)) ∙ missing-release c x t answer.other d i ∙ known.probes d i
    ∙ sym (probing-released (λ p. not (is_unprobed p.probing)) (λ q p. refl) c n r rest s d i)) known
