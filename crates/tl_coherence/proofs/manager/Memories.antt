-- The manager's memory, block by block, after an access was performed.
-- The manager's memory, block by block, after what it takes from channel C and after an access is performed.
-- All that is kept of the manager's end, after a beat of channel C or E that it takes: a beat that isn't the last of
-- its message, a ProbeAck that isn't the last one missing, a Release, and a GrantAck.
use Rattle.std.proofs.Common.{◌≡◌, ℕ, zero, suc, ◌+◌, ◌*◌, ◌-◌, ◌^◌, ◌<◌, ◌≤◌, Bool, true, false, not, ◌&&◌, ◌||◌, ◌==◌}
use Rattle.std.proofs.Common.{if◌then◌else◌, List, [], ◌∷◌, Option, Some, None, refl, sym, ◌∙◌, ap, subst, arith, inl}
use Rattle.std.proofs.Common.{inr, ◌%◌, length, eqb-true, ne_eqb, slice_index}
use Rattle.tl_coherence.proofs
use proofs.Imports.{cases_eq, Beat, BeatC, BeatE, Link, Channel, c_carries_data, IsWidth, length-begun, Message, A}
use proofs.Imports.{MessageA, MessageC, MessageD, beats_of, begun, burst_of, c_beat_of, unfinished, Config, Key, Level}
use proofs.Imports.{Prune, Report, Perm, prune_code, prune_left, prune_right, report_code, report_left, report_right}
use proofs.Imports.{control_aligned, control_of_legal, after-local, bytes_same, reply-local, room_in_block, is_last}
use proofs.Imports.{payload_of, same_perm, on_link, Memory, SameBlock, answer_of, bytes_from, effect, block_at, ends}
use proofs.Imports.{is_grant, is_probe_ack, is_release_ack, reported, pending, reported-report, memory-elsewhere}
use proofs.Imports.{memory_with, reaction-ack, reaction-part, whole-taken, IsKept, illegal_message_at, End, Reaction}
use proofs.Imports.{access_answer, nothing, release_ack, with_handed, is_settled, reaction, Packet, set, ClientBlock}
use proofs.Imports.{is_unprobed, Block, State, freed_block, grant_ack_taken, let_block, release_taken, report_taken}
use proofs.Imports.{reported_block, AbstractState, answers, bytes_at, performs, with_state, some_below, IsServedWith}
use Rattle.tl_manager.{proofs.blocks.Written.block-written, specs.statement.Reaction.written}
use Rattle.tl_manager.{proofs.calls.Keeping.kept-offered, specs.statement.Holders.is_missing}
use Rattle.tl_manager.specs.statement.Offer.{offered, taken}
use Rattle.tl_manager.proofs.calls.Events.{reaction-release, reaction-report}
use Rattle.tl_manager.specs.statement.End as manager_end
use Rattle.tl_rules.proofs.Payload.{payload-c}
use proofs.queues.Tokens.{set-each, same_number, set-part}
use proofs.manager.{BlockAccounts.IsTraced, Accounts.IsAtManager, Accounts.nobody-same, ManagerTakes.IsTakenUp}
use proofs.manager.ManagedGrants.{traced-acked, IsAcked}
use proofs.manager.Reporting.{IsAbout, reported-prune, traced-report_part, traced-reported, traced-released, IsReleased}
use proofs.manager.Reporting.{IsLastOf, missing-last}

-- the bytes of a block that no byte of is changed
pub block-same : (f g : Memory) (n : ℕ) → SameBlock n f g → bytes_from f (64 * n) 64 ≡ bytes_from g (64 * n) 64
block-same f g n same = bytes_same f g (64 * n) 64 (λ i lt. same (64 * n + i) (omega (arith, lt)))

pub byte_in : (f : Memory) (x n i : ℕ) → i < n → slice_index (bytes_from f x n) i ≡ f (x + i)
unfolding bytes_from
byte_in f x zero i lt = absurd (omega (arith, lt))
byte_in f x (suc n) zero lt = ap f (omega arith)
byte_in f x (suc n) (suc i) lt = byte_in f (x + 1) n i (omega (arith, lt)) ∙ ap f (omega arith)

-- the memory that has a block's bytes has that block
again-same : (f : Memory) (n : ℕ) → SameBlock n f (bytes_at n (bytes_from f (64 * n) 64))
again-same f n x e =
    let lt : x - 64 * n < 64 = omega (arith, e) in
    let place : 64 * n + (x - 64 * n) ≡ x = omega (arith, e) in
    sym (byte_in f (64 * n) 64 (x - 64 * n) lt ∙ ap f place)

-- the bytes that a lawful access reaches are of its block
pub access-room : {w : ℕ} (o : Option Level) (m : MessageA w) → IsWidth w → illegal_message_at o (A m) ≡ None
    → m.address % 64 + 2 ^ m.size ≤ 64
access-room None m width lawful = absurd cc
access-room {w} (Some l) m width lawful = room_in_block m.size m.address m.small (eqb-true (m.address % 2 ^ m.size) 0
    (control_aligned w l m.opcode m.param m.size m.address (control_of_legal l m width lawful)))

-- the memory's bytes of the block after the access are those that the protocol gives the block
pub performed-block : {w : ℕ} (o : Option Level) (m : MessageA w) (f : Memory) → IsWidth w
    → illegal_message_at o (A m) ≡ None → bytes_from (effect (A m) f).0 (64 * block_at m.address) 64
    ≡ performs m (bytes_from f (64 * block_at m.address) 64)
unfolding effect
performed-block o m f width lawful = block-same _ _ _ (after-local m.opcode m f (bytes_at (block_at m.address)
    (bytes_from f (64 * block_at m.address) 64)) (access-room o m width lawful) (again-same f (block_at m.address)))

-- and so is its answer
pub performed-reply : {w : ℕ} (o : Option Level) (m : MessageA w) (f : Memory) → IsWidth w
    → illegal_message_at o (A m) ≡ None
    → (effect (A m) f).1 ≡ (effect (A m) (bytes_at (block_at m.address) (bytes_from f (64 * block_at m.address) 64))).1
unfolding effect
performed-reply o m f width lawful = reply-local m.opcode m f (bytes_at (block_at m.address)
    (bytes_from f (64 * block_at m.address) 64)) (access-room o m width lawful) (again-same f (block_at m.address))

-- ---- the bytes of a block

abbrev pub block_in : Memory → ℕ → List ℕ
block_in memory n = bytes_from memory (64 * n) 64

-- memories that have the same bytes in a block
pub block-alike : (n : ℕ) (f g : Memory) → SameBlock n f g → block_in f n ≡ block_in g n
block-alike n f g same = bytes_same f g (64 * n) 64 (λ i lt. same (64 * n + i) (omega (arith, lt)))

-- ---- other blocks than the one of a beat

pub other-blocks : {w : ℕ} {config : Config} (link : Link) (ch : Channel) (x : BeatC w) {e : manager_end.End w} (n : ℕ)
    → IsWidth w → IsKept config e → block_at x.address ≡ n → (i : ℕ) → (i ≡ n → ⊥)
    → block_in (offered config link ch (Beat.C x) e).1.memory i ≡ block_in e.memory i
other-blocks {config} link ch x {e} n width kept block i other = grind (arith, block-alike, memory-elsewhere)

-- what holds of the block of the event, and of the others as before, holds of all
pub blocks-now : (memory later : Memory) (n : ℕ) (new : Block (List ℕ)) (s : State (List ℕ))
    → block_in later n ≡ new.memory → ((i : ℕ) → (i ≡ n → ⊥) → block_in later i ≡ block_in memory i)
    → ((i : ℕ) → block_in memory i ≡ (s.block i).memory) → (i : ℕ) → block_in later i ≡ (set n new s.block i).memory
blocks-now memory later n new s here others known = grind (arith, set-each, block_in)

-- ---- a message of channel C

-- its bytes, where it carries data
pub block-taken : {w : ℕ} (x : BeatC w) (beats : List (Beat w)) (memory : Memory) (n : ℕ) (carries : Bool)
    (truth : List ℕ) → block_at x.address ≡ n
    → c_carries_data x.opcode ≡ carries → (carries ≡ true → payload_of beats ≡ truth) → length truth ≡ 64
    → block_in (written x beats memory) n ≡ (if carries then truth else block_in memory n)
block-taken x beats memory n carries truth block is payload long = grind (arith, block-written)

-- ---- an access

-- a lawful request ends within its block
room-lawful : {w : ℕ} (o : Option Level) (m : MessageA w) → IsWidth w → illegal_message_at o (Message.A m) ≡ None
    → m.address % 64 + 2 ^ m.size ≤ 64
room-lawful None m width e = absurd cc
room-lawful {w} (Some l) m width e = room_in_block m.size m.address m.small (eqb-true (m.address % 2 ^ m.size) 0
    (control_aligned w l m.opcode m.param m.size m.address (control_of_legal l m width e)))

bytes_at-same : (n : ℕ) (memory : Memory) → SameBlock n memory (bytes_at n (block_in memory n))
bytes_at-same n memory address here =
    let inside : address - 64 * n < 64 = omega (arith, here) in
    let at : 64 * n + (address - 64 * n) ≡ address = omega (arith, here) in
    sym (byte_in memory (64 * n) 64 (address - 64 * n) inside ∙ ap memory at)

-- what it does to the block depends on the block alone
pub block-performed : {w : ℕ} (o : Option Level) (m : MessageA w) (memory : Memory) (n : ℕ) → IsWidth w
    → illegal_message_at o (Message.A m) ≡ None → block_at m.address ≡ n
    → block_in (effect (Message.A m) memory).0 n ≡ performs m (block_in memory n)
unfolding effect
block-performed o m memory n width lawful block =
    rw (← block) (block-alike (block_at m.address) _ _ (after-local m.opcode m memory (bytes_at (block_at m.address)
    (block_in memory (block_at m.address))) (room-lawful o m width lawful) (bytes_at-same (block_at m.address) memory)))

-- and so does what it is answered
pub answer-performed : {w : ℕ} (o : Option Level) (m : MessageA w) (memory : Memory) (n : ℕ) → IsWidth w
    → illegal_message_at o (Message.A m) ≡ None → block_at m.address ≡ n
    → access_answer m (answer_of (Message.A m) (effect (Message.A m) memory).1) ≡ answers m (block_in memory n)
unfolding effect
answer-performed o m memory n width lawful block = rw (← block) (ap (λ r. access_answer m
    (answer_of (Message.A m) r)) (reply-local m.opcode m memory (bytes_at (block_at m.address)
    (block_in memory (block_at m.address))) (room-lawful o m width lawful) (bytes_at-same (block_at m.address) memory)))

-- what is kept of the manager's end beside the protocol as it follows
abbrev pub IsManagerOf : {w : ℕ} → Config → AbstractState w → End w → Type 0
IsManagerOf config h e = IsAtManager config h.mail h.request h.state e

-- ---- what each beat leaves that is taken, where this is done at it

abbrev pub left : {w : ℕ} → ℕ → Beat w → Reaction w → End w → End w
left c x d e = taken (record { 0 = c }) x d e

pub left-is : {w : ℕ} {config : Config} {c : ℕ} {ch : Channel} {x : Beat w} (d : Reaction w) {e : End w}
    → IsTakenUp config c ch x e
    → reaction config (record { 0 = c }) x e ≡ d → (offered config (record { 0 = c }) ch x e).1 ≡ left c x d e
left-is {w} d up is = cc (up.answer, is)

pub kept-left : {w : ℕ} {config : Config} {c : ℕ} (x : BeatC w) (d : Reaction w) {e : End w} → IsWidth w
    → IsTakenUp config c Channel.C (Beat.C x) e
    → reaction config (record { 0 = c }) (Beat.C x) e ≡ d → IsKept config e → IsKept config (left c (Beat.C x) d e)
kept-left {config} {c} x d {e} width up is kept = subst (IsKept config) (left-is d up is)
    (kept-offered config (record { 0 = c }) Channel.C (Beat.C x) e width tt kept)

pub others-left : {w : ℕ} {config : Config} {c : ℕ} (n : ℕ) (x : BeatC w) (d : Reaction w) {e : End w} → IsWidth w
    → IsTakenUp config c Channel.C (Beat.C x) e → reaction config (record { 0 = c }) (Beat.C x) e ≡ d → IsKept config e
    → block_at x.address ≡ n → (i : ℕ) → (i ≡ n → ⊥) → block_in d.memory i ≡ block_in e.memory i
others-left {c} n x d width up is kept block i other = ap (λ z. block_in z.memory i)
    (sym (left-is d up is)) ∙ other-blocks (record { 0 = c }) Channel.C x n width kept block i other

-- ---- a beat of channel C that isn't the last of its message

pub report_part-left : {w : ℕ} {config : Config} {c : ℕ} (x : BeatC w) (h : AbstractState w) {e : End w} → IsWidth w
    → IsTakenUp config c Channel.C (Beat.C x) e → ends (Beat.C x) (on_link c e.trace) ≡ false → IsManagerOf config h e
    → IsManagerOf config h (left c (Beat.C x) (reaction config (record { 0 = c }) (Beat.C x) e) e)
unfolding with_handed
report_part-left {config} {c} x h {e} width up part is =
    let done = reaction-part config _ _ e part in
    subst (λ d. IsManagerOf config h (left c (Beat.C x) d e)) (sym done) (record {
      traced = traced-report_part c x part is.traced;
      served_with = is.served_with;
      manager_kept = kept-left x _ width up done is.manager_kept;
      memory = is.memory;
      all_live = is.all_live;
    })

-- ---- the last beat of a message of channel C

-- the message, whose last beat is number k
pub record IsEnd {w : ℕ} (is_report : Bool) (c n param : ℕ) (carries : Bool) (truth : List ℕ) (k : ℕ) (m : MessageC w)
    (e : End w) : Type 0 where
  pub width : IsWidth w
  pub about : IsAbout is_report n param carries truth m
  pub rest : unfinished Channel.C (on_link c e.trace) ≡ begun (Message.C m) k
  pub last : k + 1 ≡ beats_of (Message.C m)
  pub long : length truth ≡ 64

pub ends-it : {w : ℕ} {b : Bool} {c n param : ℕ} {carries : Bool} {truth : List ℕ} {k : ℕ} {m : MessageC w} {e : End w}
    → IsEnd b c n param carries truth k m e → ends (Beat.C (c_beat_of m k)) (on_link c e.trace) ≡ true
ends-it {k} {m} is = rw (is.rest, length-begun (Message.C m) k) (is_last k (beats_of (Message.C m)) is.last)

-- the bytes that it carries
payload-end : {w : ℕ} {b : Bool} {c n param : ℕ} {carries : Bool} {truth : List ℕ} {k : ℕ} {m : MessageC w}
    {e : End w} → IsEnd b c n param carries truth k m e → carries ≡ true
    → payload_of (Beat.C (c_beat_of m k) ∷ unfinished Channel.C (on_link c e.trace)) ≡ truth
payload-end {w} {k} {m} is some = let fact = payload-c m _ is.width is.about.long
    (whole, is.about.blank) in cc (is.rest, is.about.payload_is some)
  where
    whole : begun (Message.C m) (suc k) ≡ burst_of (Message.C m)
    whole = let all : suc k ≡ beats_of (Message.C m) = omega (arith, is.last) in
        ap (λ i. begun (Message.C m) i) all

pub last-of : {w : ℕ} {b : Bool} {c n param : ℕ} {carries : Bool} {truth : List ℕ} {k : ℕ} (right : Perm)
    {m : MessageC w} {e : End w}
    → IsEnd b c n param carries truth k m e → reported param ≡ right → IsLastOf c n right (c_beat_of m k) e.trace
last-of {b} right is said =
    let either : (b : Bool) → (b || not b) ≡ true = elim [ true ↦ refl | false ↦ refl ] in
    record {
      last = ends-it is;
      kind = rw (is.about.reports, is.about.releases) (either b);
      block = is.about.block;
      right_is = ap reported is.about.param_is ∙ said;
    }

-- the memory with it
pub memory-end : {w : ℕ} {b : Bool} {c n param : ℕ} {carries : Bool} {truth : List ℕ} {k : ℕ} {m : MessageC w}
    {e : End w} → IsEnd b c n param carries truth k m e
    → block_in (memory_with (record { 0 = c }) (c_beat_of m k) e) n ≡ (if carries then truth else block_in e.memory n)
memory-end {c} {n} {carries} {truth} {k} {m} {e} is = block-taken (c_beat_of m k) (Beat.C (c_beat_of m k) ∷ unfinished
    Channel.C (on_link c e.trace)) e.memory n carries truth is.about.block is.about.carries_is (payload-end is) is.long

-- ---- a Release

release_is : {w : ℕ} (source : ℕ) → (m : MessageD w) × (release_ack source ≡ Message.D m)
    × (is_release_ack m.opcode ≡ true) × (is_grant m.opcode ≡ false)
release_is source = (_, refl, refl, refl)

pub reaction-released : {w : ℕ} (config : Config) {c n k : ℕ} (r : Prune) {m : MessageC w} (h : AbstractState w)
    {e : End w} → IsEnd false c n (prune_code r) (same_perm (prune_left r) Perm.Trunk) (h.state.block n).truth k m e
    → reaction config (record { 0 = c }) (Beat.C (c_beat_of m k)) e ≡ record {
      handed = (record { 0 = c }, release_ack m.source) ∷ [];
      memory = memory_with (record { 0 = c }) (c_beat_of m k) e;
    }
reaction-released config {c} {k} r {m} h {e} end = reaction-release config _ _ e (ends-it end) end.about.releases

pub released-left : {w : ℕ} {config : Config} {c n k : ℕ} (r : Prune) (rest : List Packet) {m : MessageC w}
    (h : AbstractState w) {e : End w} → IsTakenUp config c Channel.C (Beat.C (c_beat_of m k)) e
    → IsEnd false c n (prune_code r) (same_perm (prune_left r) Perm.Trunk) (h.state.block n).truth k m e
    → IsManagerOf config h e → IsManagerOf config (with_state (release_taken c n r rest h.state) h)
    (left c (Beat.C (c_beat_of m k)) (reaction config (record { 0 = c }) (Beat.C (c_beat_of m k)) e) e)
unfolding with_handed
released-left {w} {config} {c} {n} {k} r rest {m} h {e} up end is =
    let truth : List ℕ = (h.state.block n).truth in
    let x : BeatC w = c_beat_of m k in
    let after : State (List ℕ) = release_taken c n r rest h.state in
    let does : Reaction w =
    record { handed = (record { 0 = c }, release_ack x.source) ∷ []; memory = memory_with (record { 0 = c }) x e } in
    let done : reaction config (record { 0 = c }) (Beat.C x) e ≡ does = reaction-released config r h end in
    let answer = release_is x.source in
    let released : IsReleased c x answer.0 e.trace = record {
      width = end.width;
      other = end.about.reports;
      ack = answer.2;
      none = answer.3;
      whole = (whole-taken c (record { 0 = c }) (Beat.C x) e.trace refl (is.manager_kept.whole c)).1;
    } in
    let still = set-each (λ i z. IsServedWith h.mail z.service (h.request i)) n _
    h.state.block (is.served_with n) (λ i ne. is.served_with i) in
    subst (λ d. IsManagerOf config (with_state after h) (left c (Beat.C x) d e)) (sym done) (record {
      traced = subst (λ i. IsTraced h.request after
          (with_handed ((record { 0 = c }, i) ∷ []) ((record { 0 = c }, Beat.C x) ∷ e.trace))) (sym answer.1)
          (traced-released r rest (last-of (prune_right r) end (reported-prune r)) released is.traced);
      served_with = λ i. still i;
      manager_kept = kept-left x does end.width up done is.manager_kept;
      memory = λ i. cc (blocks-now e.memory does.memory n (let_block c r (h.state.block n)) h.state
          (memory-end end ∙ ap (λ z. if (same_perm (prune_left r) Perm.Trunk) then truth else z) (is.memory n))
          (others-left n x does end.width up done is.manager_kept end.about.block) is.memory i);
      all_live = is.all_live;
    })

-- ---- which ProbeAcks are missing

-- whose Probe is still under way once client c has answered
abbrev pub others_probed : ℕ → (ℕ → ClientBlock) → ℕ → Bool
others_probed c pair d = not (d == c) && not (is_unprobed (pair d).probing)

pub settled-is : {w : ℕ} (config : Config) {c n : ℕ} {right : Perm} {x : BeatC w} (h : AbstractState w) (e : End w)
    → IsLastOf c n right x e.trace → is_probe_ack x.opcode ≡ true → IsTraced h.request h.state e.trace
    → is_settled config n ((record { 0 = c }, Beat.C x) ∷ e.trace)
    ≡ not (some_below (length config.clients.items) (others_probed c (h.state.block n).pair))
settled-is config {c} {n} {x} h e last report traced =
    nobody-same config (λ d. is_missing d n ((record { 0 = c }, Beat.C x) ∷ e.trace))
    (others_probed c (h.state.block n).pair) (λ d. missing-last last report d n ∙ now d)
  where
    now : (d : ℕ) → (if (c == d) && (n == n) then false else pending (Key.ProbeOf n) (on_link d e.trace))
        ≡ others_probed c (h.state.block n).pair d
    now d = elim (cases_eq c d) [
      | inl same ↦ rw (same, same_number d, same_number n) refl
      | inr other ↦ let differ : d ≡ c → ⊥ = λ f. other (sym f) in
          rw (ne_eqb c d other, ne_eqb d c differ) (traced.probes d n)
    ]

-- ---- a ProbeAck that isn't the last one missing

pub reaction-reported : {w : ℕ} (config : Config) {c n k : ℕ} (r : Report) {m : MessageC w} (h : AbstractState w)
    {e : End w} → IsEnd true c n (report_code r) (same_perm (report_left r) Perm.Trunk) (h.state.block n).truth k m e
    → some_below (length config.clients.items) (others_probed c (h.state.block n).pair) ≡ true
    → IsTraced h.request h.state e.trace → reaction config (record { 0 = c }) (Beat.C (c_beat_of m k)) e
    ≡ nothing (memory_with (record { 0 = c }) (c_beat_of m k) e)
reaction-reported {w} config {c} {n} {k} r {m} h {e} end others traced =
    let x : BeatC w = c_beat_of m k in
    let carries : Bool = same_perm (report_left r) Perm.Trunk in
    reaction-report config _ x e (ends-it end) end.about.releases end.about.reports
    (ap (λ i. is_settled config i ((record { 0 = c }, Beat.C x) ∷ e.trace)) end.about.block ∙ settled-is config h e
    (last-of (report_right r) end (reported-report r)) end.about.reports traced ∙ rw others refl)
  where
    truth : List ℕ
    truth = (h.state.block n).truth

pub reported-left : {w : ℕ} {config : Config} {c n k : ℕ} (r : Report) (rest : List Packet) {m : MessageC w}
    (h : AbstractState w) {e : End w} → IsTakenUp config c Channel.C (Beat.C (c_beat_of m k)) e
    → IsEnd true c n (report_code r) (same_perm (report_left r) Perm.Trunk) (h.state.block n).truth k m e
    → some_below (length config.clients.items) (others_probed c (h.state.block n).pair) ≡ true → IsManagerOf config h e
    → IsManagerOf config (with_state (report_taken c n r rest h.state) h)
    (left c (Beat.C (c_beat_of m k)) (reaction config (record { 0 = c }) (Beat.C (c_beat_of m k)) e) e)
unfolding with_handed
reported-left {w} {config} {c} {n} {k} r rest {m} h {e} up end others is =
    let truth : List ℕ = (h.state.block n).truth in
    let x : BeatC w = c_beat_of m k in
    let after : State (List ℕ) = report_taken c n r rest h.state in
    let does : Reaction w = nothing (memory_with (record { 0 = c }) x e) in
    let done = reaction-reported config r h end others is.traced in
    let still = set-each (λ i z. IsServedWith h.mail z.service (h.request i)) n _
    h.state.block (is.served_with n) (λ i ne. is.served_with i) in
    subst (λ d. IsManagerOf config (with_state after h) (left c (Beat.C x) d e)) (sym done) (record {
      traced = traced-reported r rest (last-of (report_right r) end (reported-report r)) end.about.reports is.traced;
      served_with = λ i. still i;
      manager_kept = kept-left x does end.width up done is.manager_kept;
      memory = λ i. cc (blocks-now e.memory does.memory n (reported_block c r (h.state.block n)) h.state
          (memory-end end ∙ ap (λ z. if (same_perm (report_left r) Perm.Trunk) then truth else z) (is.memory n))
          (others-left n x does end.width up done is.manager_kept end.about.block) is.memory i);
      all_live = is.all_live;
    })

-- ---- a GrantAck

pub acked-left : {w : ℕ} {config : Config} {c n : ℕ} (rest : List Packet) {x : BeatE} (h : AbstractState w) {e : End w}
    → IsWidth w → IsTakenUp config c Channel.E (Beat.E x) e → IsAcked c n x h.request h.state e.trace
    → IsManagerOf config h e → IsManagerOf config (with_state (grant_ack_taken c n rest h.state) h)
    (left c (Beat.E x) (reaction config (record { 0 = c }) (Beat.E x) e) e)
unfolding with_handed
acked-left {config} {c} {n} rest {x} h {e} width up acks is =
    let after : State (List ℕ) = grant_ack_taken c n rest h.state in
    let done = reaction-ack config (record { 0 = c }) x e in
    let still = set-each (λ i z. IsServedWith h.mail z.service (h.request i)) n _
    h.state.block tt (λ i ne. is.served_with i) in
    subst (λ d. IsManagerOf config (with_state after h) (left c (Beat.E x) d e)) (sym done) (record {
      traced = traced-acked rest acks is.traced;
      served_with = λ i. still i;
      manager_kept = subst (IsKept config) (left-is (nothing e.memory) up done)
          (kept-offered config (record { 0 = c }) Channel.E (Beat.E x) e width tt is.manager_kept);
      memory = λ i. cc (is.memory i, set-part (λ b. b.memory) n (freed_block (h.state.block n)) h.state.block refl i);
      all_live = is.all_live;
    })
