-- The service that the last report of a block settles.
-- All that is kept of the manager's end, after the last ProbeAck that a request waited for.
-- What the manager hands out at a beat of channel C or E: the messages of the tokens that the protocol pushes.
use Rattle.std.proofs.Common.{◌≡◌, ℕ, Bool, true, false, not, List, [], ◌∷◌, Some, refl, sym, ◌∙◌, ap, subst, arith}
use Rattle.std.proofs.Common.{length}
use Rattle.tl_coherence.proofs
use proofs.Imports.{Beat, BeatC, Channel, Message, MessageA, MessageC, MessageD, c_beat_of, Config, Cap, Grow, Report}
use proofs.Imports.{Perm, cap_code, cap_right, grow_code, report_code, report_left, report_right, Trace, same_perm}
use proofs.Imports.{Memory, effect, block_at, capped, is_grant, is_release_ack, reported-report, cap-gives, memory_with}
use proofs.Imports.{performed-access, performed-acquire, is_taken, passed, of_served, grants_by_opcode, IsReply}
use proofs.Imports.{IsReady, End, Reaction, access_answer, cap_granted, grant, performed, with_handed, is_settled}
use proofs.Imports.{recorded, level_of, reaction, is_access_answer, service_of_block, services, IsWell, Grant, Packet}
use proofs.Imports.{set, ClientBlock, after_grant_sent, after_report, is_granted_data, Acquires, Block, GrantSent}
use proofs.Imports.{State, Waits, ended_block, granted_block, report_answers, report_grants, reported_block}
use proofs.Imports.{AbstractState, acquire_opcode, answers, gift, is_unheld, performs, with_state, some_below, grant_of}
use proofs.Imports.{block_message, IsServedWith, IsFor}
use Rattle.tl_coherence.specs.protocol.Protocol as protocol
use Rattle.tl_coherence.proofs.manager.ManagedGrants as endings
use Rattle.tl_coherence.specs.refinement.AbstractStep.{with_answer}
use Rattle.tl_manager.{proofs.calls.Events.reaction-settled, proofs.pending.SteadyReports.report-ready}
use Rattle.tl_manager.{specs.code.Kept.IsPerformable, specs.statement.Holders.has_copy}
use Rattle.tl_rules.specs.declared.answer.Answer.{Answer}
use Rattle.tl_manager.specs.statement.Holders as holders
use Rattle.tl_manager.specs.statement.Handing as handing
use proofs.manager.{Unseen.memory-granted, ManagerTakes.IsTakenUp, BlockAccounts.IsTraced, Accounts.nobody-same}
use proofs.manager.ManagedGrants.{service_for, traced-conceded, IsConceded, traced-ended, IsEnding}
use proofs.manager.Memories.{block_in, IsManagerOf, IsEnd, ends-it, last-of, memory-end, others_probed, settled-is}
use proofs.manager.Memories.{left, kept-left, others-left, blocks-now, block-performed, answer-performed}
use proofs.manager.Reporting.{quiet-c, IsLastOf, reported-records}
use proofs.queues.{Tokens.set-same, Tokens.set-each, Tokens.set-other, Codes.gives-some, Codes.data-same}

-- ---- the service of the block

-- the last ProbeAck of a service that waits
pub record IsSettling {w : ℕ} (config : Config) (c q n source k : ℕ) (own : Bool) (low : Cap) (r : Report)
    (m : MessageC w) (h : AbstractState w) (e : End w) : Type 0 where
  pub up : IsTakenUp config c Channel.C (Beat.C (c_beat_of m k)) e
  pub end : IsEnd true c n (report_code r) (same_perm (report_left r) Perm.Trunk) (h.state.block n).truth k m e
  pub alone : some_below (length config.clients.items) (others_probed c (h.state.block n).pair) ≡ false
  pub waits : (h.state.block n).service ≡ Waits q own source low
  pub is : IsManagerOf config h e

abbrev pub trace_with : {w : ℕ} → ℕ → ℕ → MessageC w → End w → Trace w
trace_with c k m e = endings.taken c (c_beat_of m k) e.trace

pub settling-last : {w : ℕ} {config : Config} {c q n source k : ℕ} {own : Bool} {low : Cap} {r : Report}
    {m : MessageC w} {h : AbstractState w} {e : End w} → IsSettling config c q n source k own low r m h e
    → IsLastOf c n (report_right r) (c_beat_of m k) e.trace
settling-last {r} at = last-of _ at.end (reported-report r)

settling-all : {w : ℕ} {config : Config} {c q n source k : ℕ} {own : Bool} {low : Cap} {r : Report} {m : MessageC w}
    {h : AbstractState w} {e : End w}
    → IsSettling config c q n source k own low r m h e → is_settled config n (trace_with c k m e) ≡ true
settling-all {config} {h} {e} at =
    settled-is config h e (settling-last at) at.end.about.reports at.is.traced ∙ ap not at.alone

settling-found : {w : ℕ} {config : Config} {c q n source k : ℕ} {own : Bool} {low : Cap} {r : Report} {m : MessageC w}
    {h : AbstractState w} {e : End w} → IsSettling config c q n source k own low r m h e
    → service_of_block n (services (trace_with c k m e)) ≡ Some (service_for q n h.request h.state)
settling-found {c} {n} {k} {m} {e} at = grind (arith, quiet-c)

pub settling-ready : {w : ℕ} {config : Config} {c q n source k : ℕ} {own : Bool} {low : Cap} {r : Report}
    {m : MessageC w} {h : AbstractState w} {e : End w} → IsSettling config c q n source k own low r m h e
    → IsReady config n (service_for q n h.request h.state) (trace_with c k m e)
settling-ready {config} {c} {q} {n} {k} {m} {h} {e} at = rw at.end.about.block at
    (report-ready config (record { 0 = c }) (c_beat_of m k) (service_for q n h.request h.state) e
    (is_taken config (record { 0 = c }) (Beat.C (c_beat_of m k)) e at.end.width (passed config
    (record { 0 = c }) Channel.C (Beat.C (c_beat_of m k)) e tt at.up.passes) at.is.manager_kept) at.end.about.reports
    (ap (λ i. service_of_block i (services (trace_with c k m e))) at.end.about.block ∙ settling-found at)
    (ap (λ i. is_settled config i (trace_with c k m e)) at.end.about.block ∙ settling-all at))

pub settling-reaction : {w : ℕ} {config : Config} {c q n source k : ℕ} {own : Bool} {low : Cap} {r : Report}
    {m : MessageC w} {h : AbstractState w} {e : End w} → IsSettling config c q n source k own low r m h e
    → reaction config (record { 0 = c }) (Beat.C (c_beat_of m k)) e ≡ performed config
    (service_for q n h.request h.state) (trace_with c k m e) (memory_with (record { 0 = c }) (c_beat_of m k) e)
settling-reaction {config} {c} {q} {n} {k} {m} {h} {e} at = cc (reaction-settled config (record { 0 = c })
    (c_beat_of m k) (service_for q n h.request h.state) e (ends-it at.end) at.end.about.releases at.end.about.reports
    (ap (λ i. is_settled config i (trace_with c k m e)) at.end.about.block ∙ settling-all at)
    (ap (λ i. service_of_block i (services (trace_with c k m e))) at.end.about.block ∙ settling-found at))

-- the request is lawful
pub settling-lawful : {w : ℕ} {config : Config} {c q n source k : ℕ} {own : Bool} {low : Cap} {r : Report}
    {m : MessageC w} {h : AbstractState w} {e : End w} → IsSettling config c q n source k own low r m h e
    → IsPerformable config (service_for q n h.request h.state)
settling-lawful {config} {n} {e} at = of_served (IsPerformable config) n _
    _ (at.is.traced.serving_is n ∙ rw at.waits refl) at.is.manager_kept.requests

pub settling-for : {w : ℕ} {config : Config} {c q n source k : ℕ} {own : Bool} {low : Cap} {r : Report} {m : MessageC w}
    {h : AbstractState w} {e : End w}
    → IsSettling config c q n source k own low r m h e → IsFor (Waits q own source low) n (h.request n)
settling-for {n} at = rw at.waits at (at.is.traced.requests n)

-- the answer is the reply of the service
pub settling-reply : {w : ℕ} {config : Config} {c q n source k : ℕ} {own : Bool} {low : Cap} {r : Report}
    {m : MessageC w} (i : MessageD w) {h : AbstractState w} {e : End w}
    → IsSettling config c q n source k own low r m h e → i.source ≡ (h.request n).source
    → is_release_ack i.opcode ≡ false → IsReply n (service_for q n h.request h.state) i (trace_with c k m e)
settling-reply {q} {source} i at source_is other =
    let ready = settling-ready at in
    record {
      width = at.end.width;
      serves = ready.serves;
      unanswered = ready.unanswered;
      source = source_is;
      answers = other;
      settled = ready.settled;
      whole = (ready.whole q).1;
      blocks_apart = ready.blocks_apart;
      trackers_apart = ready.trackers_apart;
    }

-- the memory that the request finds
pub settling-memory : {w : ℕ} {config : Config} {c q n source k : ℕ} {own : Bool} {low : Cap} {r : Report}
    {m : MessageC w} {h : AbstractState w} {e : End w} → IsSettling config c q n source k own low r m h e
    → block_in (memory_with (record { 0 = c }) (c_beat_of m k) e) n ≡ protocol.written r (h.state.block n).truth
    (h.state.block n).memory
settling-memory {c} {n} {k} {r} {m} {h} {e} at = cc (memory-end at.end, at.is.memory n)

-- ---- an access

answer_is : {w : ℕ} (r : MessageA w) (kind : Answer) → (m : MessageD w) × (access_answer r kind ≡ Message.D m)
    × (is_access_answer m.opcode ≡ true) × (is_release_ack m.opcode ≡ false) × (m.source ≡ r.source)
answer_is r Answer.Ack = (_, refl, refl, refl, refl)
answer_is r kind = (_, refl, refl, refl, refl)

-- what is done: the access is performed on what the ProbeAcks left of the block, and its answer is handed out
pub reaction-ended : {w : ℕ} {config : Config} {c q n source k : ℕ} {low : Cap} {r : Report} {m : MessageC w}
    {h : AbstractState w} {e : End w} → IsSettling config c q n source k false low r m h e
    → reaction config (record { 0 = c }) (Beat.C (c_beat_of m k)) e
    ≡ record {
      handed = (
        record { 0 = q },
        answers (h.request n) (protocol.written r (h.state.block n).truth (h.state.block n).memory),
      ) ∷ [];
      memory = (effect (Message.A (h.request n)) (memory_with (record { 0 = c }) (c_beat_of m k) e)).0;
    }
reaction-ended {config} {c} {q} {n} {k} {m} {h} {e} at =
    let for = settling-for at in
    let memory = memory_with (record { 0 = c }) (c_beat_of m k) e in
    settling-reaction at ∙ performed-access config _ (trace_with c k m e) memory for.0 ∙ ap (λ i. record {
      handed = (record { 0 = q }, i) ∷ [];
      memory = (effect (Message.A (h.request n)) memory).0;
    })
    (answer-performed (level_of config q) (h.request n) memory n at.end.width (settling-lawful at).lawful for.2 ∙ ap
    (answers (h.request n)) (settling-memory at))

pub ended-left : {w : ℕ} {config : Config} {c q n source k : ℕ} {low : Cap} {r : Report} (rest : List Packet)
    {m : MessageC w} {h : AbstractState w} {e : End w} → IsSettling config c q n source k false low r m h e
    → IsManagerOf config (with_answer q source
    (answers (h.request n) (protocol.written r (h.state.block n).truth (h.state.block n).memory))
    (with_state (report_answers c q n source r (performs (h.request n)) rest h.state) h))
    (left c (Beat.C (c_beat_of m k)) (reaction config (record { 0 = c }) (Beat.C (c_beat_of m k)) e) e)
unfolding with_handed
ended-left {w} {config} {c} {q} {n} {source} {k} {low} {r} rest {m} {h} {e} at =
    let x : BeatC w = c_beat_of m k in
    let new : Block (List ℕ) = ended_block c r (performs (h.request n)) (h.state.block n) in
    let after : State (List ℕ) = report_answers c q n source r (performs (h.request n)) rest h.state in
    let said = answers (h.request n) (protocol.written r (h.state.block n).truth (h.state.block n).memory) in
    let does : Reaction w = record {
      handed = (record { 0 = q }, said) ∷ [];
      memory = (effect (Message.A (h.request n)) (memory_with (record { 0 = c }) x e)).0;
    } in
    let done = reaction-ended at in
    let for = settling-for at in
    let reply = answer_is (h.request n) _ in
    let ending : IsEnding c q n source low r x reply.0 h.request h.state e.trace = record {
      last = settling-last at;
      report = at.end.about.reports;
      waits = at.waits;
      reply = settling-reply reply.0 at reply.4 reply.3;
      answers = reply.2;
      accounted = (settling-ready at).accounted;
      access = for.0;
    } in
    let still = set-each (λ i z. IsServedWith h.mail z.service (h.request i)) n new h.state.block tt
    (λ i ne. at.is.served_with i) in
    subst (λ d. IsManagerOf config (with_answer q source said (with_state after h))
    (left c (Beat.C x) d e)) (sym done) (record {
      traced = subst (λ i. IsTraced h.request after (with_handed ((record { 0 = q }, i) ∷ [])
          (trace_with c k m e))) (sym reply.1) (traced-ended (performs (h.request n)) rest ending at.is.traced);
      served_with = λ i. still i;
      manager_kept = kept-left x does at.end.width at.up done at.is.manager_kept;
      memory = λ i. cc (blocks-now e.memory does.memory n new h.state (block-performed (level_of config q) (h.request n)
          (memory_with (record { 0 = c }) x e) n at.end.width (settling-lawful at).lawful for.2
          ∙ ap (performs (h.request n)) (settling-memory at))
          (others-left n x does at.end.width at.up done at.is.manager_kept at.end.about.block) at.is.memory i);
      all_live = at.is.all_live;
    })

-- ---- an Acquire

-- the Grant of an Acquire, by what is recorded
grant-made : {w : ℕ} (config : Config) (q n tracker : ℕ) (v : MessageA w) (t : Trace w) (memory : Memory)
    (whole : Bool) (g : Grow) (unheld : Bool) (p : Perm) → v.opcode ≡ acquire_opcode whole → v.param ≡ grow_code g
    → block_at v.address ≡ n → holders.is_unheld config n t ≡ unheld → recorded q n t ≡ p
    → grant config (record { tracker = tracker; link = record { 0 = q }; request = v }) t memory ≡ grant_of
    (GrantSent q (is_granted_data whole g p) (gift config.profile whole g unheld)) v.source tracker (block_in memory n)
grant-made config q n tracker v t memory whole g unheld p opcode param block none held_is =
    let go : (d : Bool) → handing.grant_with (record { tracker = tracker; link = record { 0 = q }; request = v })
    (gift config.profile whole g unheld) d memory ≡ grant_of (GrantSent q d (gift config.profile whole g unheld))
    v.source tracker (block_in memory n) = elim [ true ↦ rw block refl | false ↦ refl ] in
    let cap_is : cap_granted config.profile v.opcode v.param (holders.is_unheld config (block_at v.address) t) ≡ gift
    config.profile whole g unheld = rw (opcode, param, block, none) refl in
    let data_is : handing.is_granted_data v.opcode v.param (recorded q (block_at v.address) t) ≡ is_granted_data whole g
    p = rw (opcode, param, block, held_is) (data-same whole g p) in
    cc (cap_is, data_is, go (is_granted_data whole g p))

given_is : {w : ℕ} (q : ℕ) (d : Bool) (k : Cap) (source sink : ℕ) (payload : List ℕ)
    → (m : MessageD w) × (grant_of (GrantSent q d k) source sink payload ≡ Message.D m) × (is_grant m.opcode ≡ true)
    × (is_release_ack m.opcode ≡ false) × (m.source ≡ source) × (m.sink ≡ sink) × (m.param ≡ cap_code k)
given_is q d k source sink payload = let kinds = grants_by_opcode d in (_, refl, kinds.0, kinds.1, refl, refl, refl)

-- what is recorded of the block before the Grant
abbrev pub pairs_after : ℕ → Report → (ℕ → ClientBlock) → ℕ → ClientBlock
pairs_after c r pair = set c (after_report r (pair c)) pair

settling-records : {w : ℕ} {config : Config} {c q n source k : ℕ} {own : Bool} {low : Cap} {r : Report} {m : MessageC w}
    {h : AbstractState w} {e : End w} → IsSettling config c q n source k own low r m h e
    → (d : ℕ) → recorded d n (trace_with c k m e) ≡ (pairs_after c r (h.state.block n).pair d).recorded
settling-records {c} {n} {r} {h} at d =
    reported-records r (reported_block c r (h.state.block n)) (settling-last at) (λ j. refl) at.is.traced d n
    ∙ ap (λ b. (b.pair d).recorded) (set-same n (reported_block c r (h.state.block n)) h.state.block)

has_copy-is : (p : Perm) → has_copy p ≡ not (same_perm p Perm.None)
has_copy-is p = grind arith

-- the Acquire that is granted is the one that client q has open
pub record IsWanted {w : ℕ} (c q n source : ℕ) (whole : Bool) (g : Grow) (h : AbstractState w) : Type 0 where
  pub apart : c ≡ q → ⊥
  pub used : h.state.uses q source ≡ Acquires n
  pub opcode_is : (h.request n).opcode ≡ acquire_opcode whole
  pub param_is : (h.request n).param ≡ grow_code g

-- what it is granted
abbrev pub gift_after : {w : ℕ} → Config → ℕ → ℕ → Report → Bool → Grow → AbstractState w → Cap
gift_after config c n r whole g h =
    gift config.profile whole g (is_unheld (length config.clients.items) (pairs_after c r (h.state.block n).pair))

abbrev pub grant_after : {w : ℕ} → Config → ℕ → ℕ → ℕ → ℕ → Report → Bool → Grow → AbstractState w → Message w
grant_after config c q n source r whole g h = grant_of (GrantSent q
    (is_granted_data whole g ((h.state.block n).pair q).recorded) (gift_after config c n r whole g h)) source
    (h.state.block n).tracker (protocol.written r (h.state.block n).truth (h.state.block n).memory)

-- what is done: the Grant is handed out, with what the ProbeAcks left of the block
pub reaction-conceded : {w : ℕ} {config : Config} {c q n source k : ℕ} {low : Cap} {r : Report} {whole : Bool}
    {g : Grow} {m : MessageC w} {h : AbstractState w}
    {e : End w} → IsSettling config c q n source k true low r m h e → IsWanted c q n source whole g h
    → reaction config (record { 0 = c }) (Beat.C (c_beat_of m k)) e ≡ record {
      handed = (record { 0 = q }, grant_after config c q n source r whole g h) ∷ [];
      memory = memory_with (record { 0 = c }) (c_beat_of m k) e;
    }
reaction-conceded {w} {config} {c} {q} {n} {source} {k} {low} {r} {whole} {g} {m} {h} {e} at wanted =
    let u : Trace w = trace_with c k m e in
    let memory : Memory = memory_with (record { 0 = c }) (c_beat_of m k) e in
    let unheld : Bool = is_unheld (length config.clients.items) (pairs_after c r (h.state.block n).pair) in
    let for = settling-for at in
    let none : holders.is_unheld config n u ≡ unheld = cc (nobody-same config (λ d. has_copy (recorded d n u))
    (λ d. not (same_perm (pairs_after c r (h.state.block n).pair d).recorded Perm.None))
    (λ d. ap has_copy (settling-records at d) ∙ has_copy-is (pairs_after c r (h.state.block n).pair d).recorded)) in
    let sent : grant_of (GrantSent q (is_granted_data whole g ((h.state.block n).pair q).recorded)
    (gift config.profile whole g unheld)) (h.request n).source (h.state.block n).tracker (block_in memory n)
    ≡ grant_after config c q n source r whole g h = rw (for.1, settling-memory at) refl in
    let fact = grant-made config q n (h.state.block n).tracker (h.request n) u memory whole g unheld
    _ wanted.opcode_is wanted.param_is for.2 none (settling-records at q ∙ (ap (λ p. p.recorded)
    (set-other c q (after_report r ((h.state.block n).pair c)) (h.state.block n).pair (λ f. wanted.apart (sym f))))) in
    cc (settling-reaction at, performed-acquire config (service_for q n h.request h.state) u memory for.0, sent)

pub conceded-left : {w : ℕ} {config : Config} {c q n source k : ℕ} {low : Cap} {r : Report} {whole : Bool} {g : Grow}
    (rest : List Packet) {m : MessageC w} {h : AbstractState w} {e : End w}
    → IsSettling config c q n source k true low r m h e → IsWanted c q n source whole g h
    → IsManagerOf config (with_state
    (report_grants c q n r (is_granted_data whole g ((h.state.block n).pair q).recorded)
    (gift_after config c n r whole g h) rest h.state) h)
    (left c (Beat.C (c_beat_of m k)) (reaction config (record { 0 = c }) (Beat.C (c_beat_of m k)) e) e)
unfolding with_handed
conceded-left {w} {config} {c} {q} {n} {source} {k} {low} {r} {whole} {g} rest {m} {h} {e} at wanted =
    let x : BeatC w = c_beat_of m k in
    let data_too : Bool = is_granted_data whole g ((h.state.block n).pair q).recorded in
    let given : Cap = gift_after config c n r whole g h in
    let new : Block (List ℕ) = granted_block c q r data_too given (h.state.block n) in
    let after : State (List ℕ) = report_grants c q n r data_too given rest h.state in
    let does : Reaction w = record {
      handed = (record { 0 = q }, grant_after config c q n source r whole g h) ∷ [];
      memory = memory_with (record { 0 = c }) x e;
    } in
    let done = reaction-conceded at wanted in
    let for = settling-for at in
    let reply = given_is q data_too given source (h.state.block n).tracker
    (protocol.written r (h.state.block n).truth (h.state.block n).memory) in
    let conceded : IsConceded c q n source low given r x reply.0 h.request h.state e.trace = record {
      last = settling-last at;
      report = at.end.about.reports;
      waits = at.waits;
      apart = wanted.apart;
      grant = record {
        reply = settling-reply reply.0 at (reply.4 ∙ sym for.1) reply.3;
        grants = reply.2;
        sink = reply.5;
        acquires = for.0;
      };
      source_is = for.1;
      block_is = for.2;
      asked = at.is.traced.asked n q source true low at.waits;
      cap_is = ap capped reply.6 ∙ cap-gives given;
    } in
    let still = set-each (λ i z. IsServedWith h.mail z.service (h.request i)) n new h.state.block tt
    (λ i ne. at.is.served_with i) in
    subst (λ d. IsManagerOf config (with_state after h) (left c (Beat.C x) d e)) (sym done) (record {
      traced = subst (λ i. IsTraced h.request after (with_handed ((record { 0 = q }, i) ∷ [])
          (trace_with c k m e))) (sym reply.1) (traced-conceded data_too rest conceded at.is.traced);
      served_with = λ i. still i;
      manager_kept = kept-left x does at.end.width at.up done at.is.manager_kept;
      memory = λ i. blocks-now e.memory _ n new h.state (settling-memory at)
          (others-left n x does at.end.width at.up done at.is.manager_kept at.end.about.block) at.is.memory i;
      all_live = at.is.all_live;
    })

-- ---- the Grant

-- who is granted the block is recorded with what it is given, so that nobody else has it to write: the
-- memory is its truth
granted-memory : {caching : ℕ → Bool} (c q : ℕ) (r : Report) (d : Bool) (k : Cap) (b : Block (List ℕ))
    → same_perm (cap_right k) Perm.None ≡ false → IsWell caching (granted_block c q r d k b)
    → protocol.written r b.truth b.memory ≡ b.truth
granted-memory c q r d k b some well = memory-granted q d k well refl (ap (λ p. p.recorded)
    (set-same q (after_grant_sent k (b.pair q)) (set c (after_report r (b.pair c)) b.pair))) some

-- the Grant that is handed out is the one of the token
pub grant-rendered : {w : ℕ} (config : Config) {caching : ℕ → Bool} (c q n source : ℕ) (r : Report) (whole : Bool)
    (g : Grow) (h : AbstractState w) → source ≡ (h.state.block n).source q
    → IsWell caching (granted_block c q r (is_granted_data whole g ((h.state.block n).pair q).recorded)
    (gift_after config c n r whole g h) (h.state.block n)) → grant_after config c q n source r whole g h
    ≡ block_message Grant q n (granted_block c q r (is_granted_data whole g ((h.state.block n).pair q).recorded)
    (gift_after config c n r whole g h) (h.state.block n))
unfolding block_message
grant-rendered config c q n source r whole g h own well = rw (
  own,
  granted-memory c q r (is_granted_data whole g ((h.state.block n).pair q).recorded)
      (gift_after config c n r whole g h) (h.state.block n) (gives-some config.profile whole g _) well,
) refl
