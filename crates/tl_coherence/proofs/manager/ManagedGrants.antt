-- A Grant of a block to a client whose request asks for it: what is pending on the link after it.
-- What the manager knows after the last ProbeAck that an access waited for, whose answer is handed out.
-- What the manager knows after the last ProbeAck that an Acquire waited for, whose Grant is handed out.
-- What the manager knows after a GrantAck, which frees its block.
use Rattle.std.proofs.Common.{◌≡◌, ℕ, Bool, true, false, not, ◌&&◌, ◌==◌, if◌then◌else◌, List, [], ◌∷◌, Option, Some}
use Rattle.std.proofs.Common.{None, refl, sym, ◌∙◌, ap, arith, inl, inr, eqb-true, ne_eqb, unwrap_or}
use Rattle.tl_coherence.proofs
use proofs.Imports.{and_parts, cases_eq, same_Some, Beat, BeatC, BeatE, Channel, IsWidth, beats-positive, D, MessageA}
use proofs.Imports.{MessageD, a_beat_of, unfinished, Key, Cap, Report, cap_right, report_right, held-sent_d}
use proofs.Imports.{held_unsaid, pending-quiet, Trace, on_link, asks_for, block_at, capped, is_acquire, is_grant}
use proofs.Imports.{is_probe_ack, held, pending, request_of, request_of-e, after_sent, other_link, own_link, beat-keeps}
use proofs.Imports.{IsReply, reply-quiet, request-reply, AreApart, blocks_of, recorded, is_access_answer}
use proofs.Imports.{service_of_block, services, AreNamed, is_busy, Packet, set, ClientBlock, is_unprobed}
use proofs.Imports.{after_grant_sent, after_report, Block, GrantTaken, Service, State, Waits, ended_block, freed_block}
use proofs.Imports.{grant_ack_taken, granted_block, report_answers, report_grants, reported_block, client_in}
use proofs.Imports.{service_with, IsFor}
use Rattle.tl_manager.{proofs.pending.Acked.services-e, specs.statement.Service.is_ended_by}
use Rattle.tl_manager.{proofs.words_of_clients.Counts.serving-without, specs.laws.Pending.IsAccounted}
use Rattle.tl_manager.proofs.services.Serving.{if_passes, serving-filter}
use Rattle.tl_manager.proofs.pending.Accesses.{answer_kind, services-answer}
use Rattle.tl_manager.proofs.pending.Granted.{IsGrant, services-grant}
use Rattle.tl_manager.specs.statement.Service as manager
use proofs.queues.Tokens.{same_number, set-same, set-other, set-each, set-part}
use proofs.manager.Reporting.{quiet-c, IsLastOf, recorded-answer, reported-records, reported-missing}
use proofs.manager.BlockAccounts.{IsTraced}
use proofs.protocol.BothParts.{is_of-is}

-- ---- a Grant of block n to client q, whose request asks for that block

pub record IsGiven {w : ℕ} (q n : ℕ) (m : MessageD w) (u : Trace w) : Type 0 where
  pub width : IsWidth w
  pub whole : unfinished Channel.D (on_link q u) ≡ []
  pub grants : is_grant m.opcode ≡ true
  pub asks : (i : ℕ) → asks_for i (request_of m.source (on_link q u)) ≡ (n == i)

grants_it : {w : ℕ} {q n : ℕ} {m : MessageD w} {u : Trace w} → IsGiven q n m u → (d i : ℕ)
    → (q == d) ≡ true → (is_grant m.opcode && asks_for i (request_of m.source (on_link d u))) ≡ (n == i)
grants_it {q} is d i e = rw (← eqb-true q d e, is.grants) (is.asks i)

pub given-records : {w : ℕ} {q n : ℕ} {m : MessageD w} {u : Trace w} → IsGiven q n m u → (d i : ℕ)
    → recorded d i (after_sent (record { 0 = q }) (D m) u) ≡ (if (q == d) && (n == i) then capped m.param else recorded
    d i u)
given-records {w} {q} {n} {m} {u} is d i = go (q == d) refl
  where
    said : (b : Bool) → unwrap_or (if b then Some (capped m.param) else None) (recorded d i u)
        ≡ (if b then capped m.param else recorded d i u)
    said b = grind arith

    go : (b : Bool) → (q == d) ≡ b → recorded d i (after_sent (record { 0 = q }) (D m) u)
        ≡ (if b && (n == i) then capped m.param else recorded d i u)
    go true e = let fact = held-sent_d i m (on_link d u) (rw (eqb-true q d e) at is.whole) (beats-positive
        (D m) is.width) in cc (own_link d (record { 0 = q }) (D m) u e, grants_it is d i e, said (n == i))
    go false e = ap (held i) (other_link d (record { 0 = q }) (D m) u e)

-- ---- one client of one block has another pair than it had in the block's place

pub pair-over : {X A : Type 0} (part : ClientBlock → A) (q n : ℕ) (p : ClientBlock) (new mid : Block X) (block : ℕ
    → Block X) → ((d : ℕ) → new.pair d ≡ set q p mid.pair d) → (d i : ℕ)
    → part ((set n new block i).pair d) ≡ (if (q == d) && (n == i) then part p else part ((set n mid block i).pair d))
pair-over part q n p new mid block is d i =
    let never : (b : Bool) → part ((block i).pair d) ≡ (if b && false then part p else part ((block i).pair d)) =
    elim [ true ↦ refl | false ↦ refl ] in
    elim (cases_eq i n) [
      | inl same ↦ rw (same, set-same n new block, set-same n mid block, same_number n, is d) (elim (cases_eq d q) [
        | inl mine ↦ rw (mine, set-same q p mid.pair, same_number q) refl
        | inr apart ↦ let differ : q ≡ d → ⊥ = λ e. apart (sym e) in
            rw (set-other q d p mid.pair apart, ne_eqb q d differ) refl
      ])
      | inr other ↦ let differ : n ≡ i → ⊥ = λ e. other (sym e) in
          rw (set-other n i new block other, set-other n i mid block other, ne_eqb n i differ) (never (q == d))
    ]

-- ---- a tracker

-- the tracker of a block that is in service is of the block, and no other one is
pub tracker-of : {X : Type 0} (n : ℕ) {s : State X} → AreNamed s → is_busy (s.block n).service ≡ true
    → s.tracked (s.block n).tracker ≡ Some n
tracker-of n {s} named busy = is_of-is n _ (named.trackers (s.block n).tracker n
    ∙ rw (busy, same_number (s.block n).tracker) refl)

-- ---- the answer

-- what is said before the answer is handed out
abbrev pub taken : {w : ℕ} → ℕ → BeatC w → Trace w → Trace w
taken c x t = (record { 0 = c }, Beat.C x) ∷ t

-- the service of the block
abbrev pub service_for : {w : ℕ} {X : Type 0} → ℕ → ℕ → (ℕ → MessageA w) → State X → manager.Service w
service_for q n request s = record { tracker = (s.block n).tracker; link = record { 0 = q }; request = request n }

pub record IsEnding {w : ℕ} {X : Type 0} (c q n source : ℕ) (k : Cap) (r : Report) (x : BeatC w) (m : MessageD w)
    (request : ℕ → MessageA w) (s : State X) (t : Trace w) : Type 0 where
  pub last : IsLastOf c n (report_right r) x t
  pub report : is_probe_ack x.opcode ≡ true
  pub waits : (s.block n).service ≡ Waits q false source k
  pub reply : IsReply n (service_for q n request s) m (taken c x t)
  pub answers : is_access_answer m.opcode ≡ true
  pub accounted : IsAccounted (taken c x t)
  pub access : is_acquire (request n).opcode ≡ false

pub traced-ended : {w : ℕ} {X : Type 0} {request : ℕ → MessageA w} {c q n source : ℕ} {k : Cap} {r : Report} (f : X
    → X) (rest : List Packet) {x : BeatC w} {m : MessageD w} {s : State X} {t : Trace w}
    → IsEnding c q n source k r x m request s t → IsTraced request s t
    → IsTraced request (report_answers c q n source r f rest s) (after_sent (record { 0 = q }) (D m) (taken c x t))
traced-ended {w} {X} {request} {c} {q} {n} {r} f rest {x} {m} {s} {t} is known =
    let u : Trace w = taken c x t in
    let new : Block X = ended_block c r f (s.block n) in
    let asked_now : (i p source : ℕ) (own : Bool) (cap : Cap) → (set n new s.block i).service ≡ Waits p own source cap
    → request_of source (on_link p t) ≡ Some (a_beat_of (request i) 0) =
    λ i p source own cap. set-each (λ j z. z.service ≡ Waits p own source cap → request_of source (on_link p t)
    ≡ Some (a_beat_of (request j) 0)) n new s.block (λ e. absurd cc) (λ j ne. known.asked j p source own cap) i in
    record {
      recorded_is = λ d i. recorded-answer _ m u is.reply.width is.reply.whole
          (answer_kind m.opcode is.answers) d i ∙ reported-records r new is.last (λ j. refl) known d i;
      probes = λ d i. reply-quiet (Key.ProbeOf i) _ m u d is.reply.width is.reply.whole
          (λ e. (refl, refl)) ∙ reported-missing r new is.last is.report (λ j. refl) known d i;
      serving_is = λ i. ap (service_of_block i) (services-answer n (service_for q n request s) m u is.reply is.answers
          is.access is.accounted) ∙ serving-without n i (services u) ∙ elim (cases_eq n i) [
            | inl same ↦ rw (← same, same_number n) refl
            | inr apart ↦ rw (ne_eqb n i apart, ne_eqb i n (λ e. apart (sym e)))
                (ap (service_of_block i) (quiet-c (record { 0 = c }) x t).serves ∙ known.serving_is i)
          ];
      requests = set-each (λ i z. IsFor z.service i (request i)) n new s.block tt (λ i ne. known.requests i);
      asked = λ i p source own cap e. request-reply (record { 0 = q }) m u p
          source ∙ (quiet-c (record { 0 = c }) x t).requests p source ∙ asked_now i p source own cap e;
    }

-- ---- the Grant of a service that waited

pub record IsConceded {w : ℕ} {X : Type 0} (c q n source : ℕ) (k gift : Cap) (r : Report) (x : BeatC w) (m : MessageD w)
    (request : ℕ → MessageA w) (s : State X) (t : Trace w) : Type 0 where
  pub last : IsLastOf c n (report_right r) x t
  pub report : is_probe_ack x.opcode ≡ true
  pub waits : (s.block n).service ≡ Waits q true source k
  pub apart : c ≡ q → ⊥
  pub grant : IsGrant n (service_for q n request s) m (taken c x t)
  pub source_is : (request n).source ≡ source
  pub block_is : block_at (request n).address ≡ n
  pub asked : request_of source (on_link q t) ≡ Some (a_beat_of (request n) 0)
  pub cap_is : capped m.param ≡ cap_right gift

conceded-given : {w : ℕ} {X : Type 0} {c q n source : ℕ} {k gift : Cap} {r : Report} {x : BeatC w} {m : MessageD w}
    {request : ℕ → MessageA w} {s : State X} {t : Trace w}
    → IsConceded c q n source k gift r x m request s t → IsGiven q n m (taken c x t)
conceded-given {c} {q} {source} {x} {t} is = record {
  width = is.grant.reply.width;
  whole = is.grant.reply.whole;
  grants = is.grant.grants;
  asks = λ i. let fact = (quiet-c (record { 0 = c }) x t).requests q source in
      cc (is.grant.reply.source, is.source_is, is.asked, is.block_is);
}

pub traced-conceded : {w : ℕ} {X : Type 0} {request : ℕ → MessageA w} {c q n source : ℕ} {k gift : Cap} {r : Report}
    (dt : Bool) (rest : List Packet) {x : BeatC w} {m : MessageD w} {s : State X} {t : Trace w}
    → IsConceded c q n source k gift r x m request s t → IsTraced request s t
    → IsTraced request (report_grants c q n r dt gift rest s) (after_sent (record { 0 = q }) (D m) (taken c x t))
traced-conceded {w} {X} {request} {c} {q} {n} {gift} {r} dt rest {x} {m} {s} {t} is known =
    let new = granted_block c q r dt gift (s.block n) in
    let u = taken c x t in
    let given : IsGiven q n m u = conceded-given is in
    let records_now : (d i : ℕ) → (if (q == d) && (n == i) then capped m.param else recorded d i u)
    ≡ (if (q == d) && (n == i) then cap_right gift else ((set n mid s.block i).pair d).recorded) =
    λ d i. rw (is.cap_is, reported-records r mid is.last (λ j. refl) known d i) refl in
    let asked_now : (i p from : ℕ) (own : Bool) (low : Cap) → (set n new s.block i).service ≡ Waits p own from low
    → request_of from (on_link p t) ≡ Some (a_beat_of (request i) 0) = λ i p from own low. set-each
    (λ j z. z.service ≡ Waits p own from low → request_of from (on_link p t) ≡ Some (a_beat_of (request j) 0)) n new
    s.block (λ e. absurd cc) (λ j ne. known.asked j p from own low) i in
    record {
      recorded_is = λ d i. given-records given d i ∙ records_now d i ∙ sym
          (pair-over (λ p. p.recorded) q n gives new mid s.block (λ j. refl) d i);
      probes = λ d i. reply-quiet (Key.ProbeOf i) (record { 0 = q }) m u d given.width given.whole (λ e. (refl, refl))
          ∙ reported-missing r mid is.last is.report (λ j. refl) known d i
          ∙ sym (pair-over (λ p. not (is_unprobed p.probing)) q n gives new mid s.block (λ j. refl) d i
          ∙ probing_same d i ((q == d) && (n == i)) refl);
      serving_is = λ i. ap (service_of_block i) (services-grant (record { 0 = q }) m u given.width given.whole
          given.grants ∙ (quiet-c (record { 0 = c }) x t).serves) ∙ known.serving_is i ∙ sym (elim (cases_eq i n) [
            | inl same ↦ rw (same, set-same n new s.block, is.waits) refl
            | inr other ↦ rw (set-other n i new s.block other) refl
          ]);
      requests = set-each (λ i z. IsFor z.service i (request i)) n new s.block (is.grant.acquires, is.block_is)
          (λ i ne. known.requests i);
      asked = λ i p from own low e. request-reply (record { 0 = q }) m u p from
          ∙ (quiet-c (record { 0 = c }) x t).requests p from ∙ asked_now i p from own low e;
    }
  where
    mid : Block X
    mid = reported_block c r (s.block n)

    gives : ClientBlock
    gives = after_grant_sent gift ((s.block n).pair q)

    probing_same : (d i : ℕ) (b : Bool) → ((q == d) && (n == i)) ≡ b
        → (if b then not (is_unprobed gives.probing) else not (is_unprobed ((set n mid s.block i).pair d).probing))
        ≡ not (is_unprobed ((set n mid s.block i).pair d).probing)
    probing_same d i false e = refl
    probing_same d i true e =
        let p = and_parts (q == d) (n == i) e in
        rw (
          ← eqb-true q d p.0,
          ← eqb-true n i p.1,
          set-same n mid s.block,
          set-other c q (after_report r ((s.block n).pair c)) (s.block n).pair (λ f. is.apart (sym f)),
        ) refl

-- ---- a beat of channel E

abbrev pub acked : {w : ℕ} → ℕ → BeatE → Trace w → Trace w
acked c x t = (record { 0 = c }, Beat.E x) ∷ t

-- ---- the GrantAck of a block

pub record IsAcked {w : ℕ} {X : Type 0} (c n : ℕ) (x : BeatE) (request : ℕ → MessageA w) (s : State X)
    (t : Trace w) : Type 0 where
  pub taken : (s.block n).service ≡ GrantTaken c
  pub sink_is : x.sink ≡ (s.block n).tracker
  pub acquires : is_acquire (request n).opcode ≡ true
  pub named : AreNamed s
  pub apart : AreApart (blocks_of (services t))

-- a block that is in service has a client
client_busy : (s : Service) (r : ℕ) → client_in s ≡ Some r → is_busy s ≡ true
client_busy s r e = grind arith

-- ---- services

-- the service of the block ends, and no other one
serving-acked : {w : ℕ} {X : Type 0} {c n : ℕ} {x : BeatE} {request : ℕ → MessageA w} {s : State X} {t : Trace w}
    → IsAcked c n x request s t → IsTraced request s t → (i : ℕ)
    → (service_of_block i (services (acked c x t)) ≡ (if i == n then None else service_of_block i (services t)))
serving-acked {w} {c} {n} {x} {request} {s} {t} is known i =
    let passed : service_of_block i (services (acked c x t)) ≡ if_passes keeps (service_of_block i (services t)) =
    ap (service_of_block i) (services-e (record { 0 = c }) x t) ∙ serving-filter i keeps _ is.apart in
    passed ∙ elim (cases_eq i n) [
      | inl same ↦ rw (same, known.serving_is n, is.taken)
          (rw (same_number c, is.acquires, is.sink_is, same_number (s.block n).tracker, same_number n) refl)
      | inr other ↦ rw (ne_eqb i n other, known.serving_is i) (kept other (client_in (s.block i).service) refl)
    ]
  where
    keeps : manager.Service w → Bool
    keeps v = not (is_ended_by (record { 0 = c }, Beat.E x) v)

    -- no two blocks have one tracker
    differ : (r : ℕ) → (i ≡ n → ⊥) → client_in (s.block i).service ≡ Some r → ((s.block i).tracker == x.sink) ≡ false
    differ r other e = cc (ne_eqb (s.block i).tracker x.sink (λ same. let first = tracker-of i is.named (client_busy
        (s.block i).service r e) in let second = tracker-of n is.named (rw is.taken refl) in let both : Some i
        ≡ Some n = sym first ∙ ap s.tracked (same ∙ is.sink_is) ∙ second in other (same_Some i n both)))

    never : (a b : Bool) → (a && (b && false)) ≡ false
    never a b = grind arith

    stays : (a : Bool) (v : manager.Service w) → a ≡ false → (if not a then Some v else None) ≡ Some v
    stays a v e = rw e refl

    kept : (i ≡ n → ⊥) → (o : Option ℕ) → client_in (s.block i).service ≡ o
        → if_passes keeps (service_with o (s.block i).tracker (request i)) ≡ service_with o (s.block i).tracker
        (request i)
    kept other None e = refl
    kept other (Some r) e = stays (is_ended_by (record { 0 = c }, Beat.E x)
        (record { tracker = (s.block i).tracker; link = record { 0 = r }; request = request i })) _
        (rw (differ r other e) (never (r == c) (is_acquire (request i).opcode)))

-- ---- what is known

pub traced-acked : {w : ℕ} {X : Type 0} {request : ℕ → MessageA w} {c n : ℕ} (rest : List Packet) {x : BeatE}
    {s : State X} {t : Trace w} → IsAcked c n x request s t → IsTraced request s t
    → IsTraced request (grant_ack_taken c n rest s) (acked c x t)
traced-acked {X} {request} {c} {n} rest {x} {s} {t} is known =
    let new : Block X = freed_block (s.block n) in
    let asked_now : (i p from : ℕ) (own : Bool) (low : Cap) → (set n new s.block i).service ≡ Waits p own from low
    → request_of from (on_link p t) ≡ Some (a_beat_of (request i) 0) = λ i p from own low. set-each
    (λ j z. z.service ≡ Waits p own from low → request_of from (on_link p t) ≡ Some (a_beat_of (request j) 0)) n new
    s.block (λ e. absurd cc) (λ j ne. known.asked j p from own low) i in
    record {
      recorded_is = λ d i. beat-keeps (held i) d (record { 0 = c }) (Beat.E x) t (λ h. held_unsaid i (Beat.E x) h refl)
          ∙ known.recorded_is d i ∙ sym (set-part (λ b. (b.pair d).recorded) n new s.block refl i);
      probes = λ d i. beat-keeps (pending (Key.ProbeOf i)) d (record { 0 = c }) (Beat.E x) t
          (λ h. pending-quiet (Key.ProbeOf i) (Beat.E x) h refl refl) ∙ known.probes d i
          ∙ sym (set-part (λ b. not (is_unprobed (b.pair d).probing)) n new s.block refl i);
      serving_is = λ i. serving-acked is known i ∙ elim (cases_eq i n) [
        | inl same ↦ rw (same, set-same n new s.block, same_number n) refl
        | inr other ↦ rw (set-other n i new s.block other, ne_eqb i n other) (known.serving_is i)
      ];
      requests = set-each (λ i z. IsFor z.service i (request i)) n new s.block tt (λ i ne. known.requests i);
      asked = λ i p from own low e. beat-keeps (request_of from) p (record { 0 = c }) (Beat.E x) t (request_of-e from x)
          ∙ asked_now i p from own low e;
    }
