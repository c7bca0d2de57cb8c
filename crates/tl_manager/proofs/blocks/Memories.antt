-- A beat changes no other block than its own.
use Rattle.tl_manager.proofs.Imports.{Rule, IsWidth, c_carries_data, Beat, BeatA, BeatC, Link, Channel, OpA, A}
use Rattle.tl_manager.proofs.Imports.{channel_of, unfinished, burst_length, Config, Level, Cap, payload_of, Trace}
use Rattle.tl_manager.proofs.Imports.{on_link, Memory, effect, answer_of, ends, block_at, is_acquire, is_probe_ack}
use Rattle.tl_manager.proofs.Imports.{is_release, Reaction, nothing, access_answer, release_ack, grant, performed}
use Rattle.tl_manager.proofs.Imports.{probed, is_settled, Each, IsSound, IsTyped, IsPerformable, IsKept}
use Rattle.tl_manager.proofs.Imports.{illegal_message_at, request_if, request_carried, Service, services}
use Rattle.tl_manager.proofs.Imports.{service_of_block, least_untaken, trackers_of, with_block, written, probing_or}
use Rattle.tl_manager.proofs.Imports.{begun_with, begun_if_any, performed_if_any, finish, completed_c, completed}
use Rattle.tl_manager.proofs.Imports.{reaction, End, Judgement, Breaks, Waits, Passes, level_of, judged, Refused}
use Rattle.tl_manager.proofs.Imports.{Stalled, refused, offered_as, offered, IsPassed}
use Rattle.std.proofs.Common.{◌≡◌, ◌≢◌, ℕ, ◌<◌, ◌+◌, ◌==◌, Bool, true, false, cond, List, [], ◌∷◌, length, Option, Some}
use Rattle.std.proofs.Common.{None, refl, sym, ◌∙◌, arith}
use Rattle.std.specs.Prelude.{nat_le, option_map, if◌then◌else◌}
use Rattle.std.proofs.lemmas.Bool.{eqb-true, eq-eqb, ne_eqb, true≢false}
use Rattle.tl_beat.specs.statement.Opcode.{a_code}
use Rattle.tl_rules.{proofs.Blocks.effect_elsewhere, proofs.Legal.access_at_uh}
use Rattle.tl_manager.{specs.laws.Record.is_of_block, proofs.messages.Continued.whole_request}
use Rattle.tl_manager.{proofs.judging.Judged.passed, proofs.calls.Keeping.taken_beat, proofs.calls.Keeping.are_served}
use Rattle.tl_manager.{proofs.messages.Requests.IsWhole, proofs.messages.Requests.performable}

-- the memory has the same byte at the address
abbrev pub Same : {w : ℕ} → Reaction w → Memory → ℕ → Type 0
Same d memory address = d.memory address ≡ memory address

-- ---- requests

pub access_code : (opcode : OpA) → is_acquire opcode ≡ false → a_code opcode < 6
access_code OpA.AcquireBlock e = absurd cc
access_code OpA.AcquirePerm e = absurd cc
access_code v e = omega arith

effect_same : {w : ℕ} (config : Config) (s : Service w) (o : Option Level) (memory : Memory) (address : ℕ) → IsWidth w
    → is_acquire s.request.opcode ≡ false → IsPerformable config s
    → illegal_message_at o (A s.request) ≡ None → block_at address ≢ block_at s.request.address
    → (effect (A s.request) memory).0 address ≡ memory address
effect_same config s None memory address width access ok legal other = absurd cc
effect_same config s (Some l) memory address width access ok legal other =
    effect_elsewhere (A s.request) width (access_at_uh l s.request width (access_code s.request.opcode access) legal)
    ok.blank memory address other

performed_same : {w : ℕ} (config : Config) (s : Service w) (t : Trace w) (memory : Memory) (address : ℕ) → IsWidth w
    → IsPerformable config s → block_at address ≢ block_at s.request.address
    → Same (performed config s t memory) memory address
performed_same {w} config s t memory address width ok other = go (is_acquire s.request.opcode) refl
  where
    go : (b : Bool) → is_acquire s.request.opcode ≡ b
        → Same (if b
        then record { handed = (s.link, grant config s t memory) ∷ []; memory = memory }
        else record {
          handed = (
            s.link,
            access_answer s.request
                (answer_of (A s.request) (effect (A s.request) memory).1),
          ) ∷ [];
          memory = (effect (A s.request) memory).0;
        })
        memory address
    go true e = refl
    go false e = effect_same config s (level_of config s.link.0) memory address width e ok ok.lawful other

probing_same : {w : ℕ} (d : Reaction w) (block : ℕ) (c : Cap) (clients : List ℕ) (memory : Memory) (address : ℕ)
    → Same d memory address → Same (probing_or d block c clients memory) memory address
probing_same d block c [] memory address same = same
probing_same d block c (client ∷ clients) memory address same = refl

begun_same : {w : ℕ} (config : Config) (o : Option Cap) (s : Service w) (t : Trace w) (memory : Memory) (address : ℕ)
    → Same (performed config s t memory) memory address
    → Same (begun_with config o s t memory) memory address
begun_same config None s t memory address same = same
begun_same config (Some c) s t memory address same =
    probing_same (performed config s t memory) (block_at s.request.address) c (probed config s c t) memory address same

begun_new : {w : ℕ} (config : Config) (link : Link) (x : BeatA w) (beats : List (Beat w)) (tracker : ℕ) (t : Trace w)
    (memory : Memory) (address : ℕ) (fits : Bool) (e : nat_le x.size 6 ≡ fits)
    → IsWidth w → IsSound config (link, Beat.A x) → Each (IsWhole config link x) beats
    → length beats ≡ burst_length (Beat.A x)
    → block_at address ≢ block_at x.address
    → Same (begun_if_any config (option_map (λ m. record { tracker = tracker; link = link; request = m })
    (request_if x beats fits e)) t memory) memory address
begun_new config link x beats tracker t memory address false e width sound whole long other = refl
begun_new config link x beats tracker t memory address true e width sound whole long other =
    begun_same config _ _ t memory address
    (performed_same config _ t memory address width (performable config link x beats tracker e width sound whole
    long) other)

-- ---- channel C

found_same : {w : ℕ} (config : Config) (block : ℕ) (ss : List (Service w)) (t : Trace w) (memory : Memory) (address : ℕ)
    → IsWidth w → Each (IsPerformable config) ss
    → block_at address ≢ block → Same (performed_if_any config (service_of_block block ss) t memory) memory address
found_same config block [] t memory address width each other = refl
found_same {w} config block (s ∷ ss) t memory address width each other =
    go (block_at s.request.address == block) refl (found_same config block ss t memory address width each.1 other)
  where
    go : (b : Bool) → (block_at s.request.address == block) ≡ b
        → Same (performed_if_any config (service_of_block block ss) t memory) memory address
        → Same (performed_if_any config (cond b (Some s) (service_of_block block ss)) t memory) memory address
    go true e rest = performed_same config s t memory address width each.0
        (λ f. other (f ∙ eqb-true (block_at s.request.address) block e))
    go false e rest = rest

settled_same : {w : ℕ} (config : Config) (block : ℕ) (t : Trace w) (memory : Memory) (address : ℕ) → IsWidth w
    → Each (IsPerformable config) (services t) → block_at address ≢ block
    → Same (finish config block t memory) memory address
settled_same {w} config block t memory address width each other = go (is_settled config block t)
  where
    go : (b : Bool) → Same (if b then performed_if_any config (service_of_block block (services t)) t memory else
        nothing memory) memory address
    go true = found_same config block (services t) t memory address width each other
    go false = refl

written_same : {w : ℕ} (x : BeatC w) (beats : List (Beat w)) (memory : Memory) (address : ℕ)
    → (block_at address == block_at x.address) ≡ false → written x beats memory address ≡ memory address
written_same {w} x beats memory address other = go (c_carries_data x.opcode)
  where
    go : (b : Bool) → (if b then with_block (block_at x.address) (payload_of beats) memory else memory) address ≡ memory
        address
    go true = rw other refl
    go false = refl

done_c_same : {w : ℕ} (config : Config) (link : Link) (x : BeatC w) (t : Trace w) (memory : Memory) (address : ℕ)
    → IsWidth w → Each (IsPerformable config) (services t)
    → block_at address ≢ block_at x.address → Same (completed_c config link x t memory) memory address
done_c_same {w} config link x t memory address width each other = go (is_release x.opcode) (is_probe_ack x.opcode)
  where
    go : (r p : Bool) → Same (if r then record { handed = (link, release_ack x.source) ∷ []; memory = memory } else if p
        then finish config
        (block_at x.address) t memory else nothing memory) memory address
    go false true = settled_same config (block_at x.address) t memory address width each other
    go v u = refl

-- ---- a beat that is taken

unlike : (address block : ℕ) → (block == block_at address) ≡ false → block_at address ≢ block
unlike address block e f = true≢false (sym (eq-eqb block (block_at address) (sym f)) ∙ e)

unlike_too : (address block : ℕ) → (block == block_at address) ≡ false → (block_at address == block) ≡ false
unlike_too address block e = ne_eqb (block_at address) block (unlike address block e)

done_same : {w : ℕ} (config : Config) (link : Link) (x : Beat w) (e : End w) (address : ℕ) → IsWidth w → IsKept config e
    → IsPassed config link x e.trace → is_of_block (block_at address) x ≡ false
    → (last : Bool) → ends x (on_link link.0 e.trace) ≡ last
    → Same (if last then completed config link x (unfinished (channel_of x) (on_link link.0 e.trace)) e.trace e.memory
    else nothing e.memory) e.memory address
unfolding request_carried
done_same config link x e address width before passes other false last = refl
done_same {w} config link (Beat.A x) e address width before passes other true last =
    let long = eqb-true (length (unfinished Channel.A (on_link link.0 e.trace)) + 1) (burst_length (Beat.A x)) last in
    begun_new config link x (Beat.A x ∷ unfinished Channel.A (on_link link.0 e.trace))
    (least_untaken (trackers_of (services e.trace)))
    ((link, Beat.A x) ∷ e.trace) e.memory address (nat_le x.size 6) refl width passes.sound
    (whole_request config link x e.trace passes.sound before.sound (before.bursts link.0) passes.order)
    (omega (arith, long)) (unlike address (block_at x.address) other)
done_same config link (Beat.B x) e address width before passes other true last = refl
done_same {w} config link (Beat.C x) e address width before passes other true last =
    let ok = taken_beat config link (Beat.C x) e width before passes (are_served config e before) in
    let beats = Beat.C x ∷ unfinished Channel.C (on_link link.0 e.trace) in
    done_c_same config link x ((link, Beat.C x) ∷ e.trace) (written x beats e.memory) address width ok.requests
    (unlike address (block_at x.address) other)
    ∙ written_same x beats e.memory address (unlike_too address (block_at x.address) other)
done_same config link (Beat.D x) e address width before passes other true last = refl
done_same config link (Beat.E x) e address width before passes other true last = refl

reaction_same : {w : ℕ} (config : Config) (link : Link) (x : Beat w) (e : End w) (address : ℕ) → IsWidth w
    → IsKept config e → IsPassed config link x e.trace
    → is_of_block (block_at address) x ≡ false → Same (reaction config link x e) e.memory address
unfolding reaction
reaction_same config link x e address width before passes other = done_same config link x e address width before passes
    other (ends x (on_link link.0 e.trace)) refl

memory_as : {w : ℕ} (j : Judgement) (config : Config) (link : Link) (ch : Channel) (x : Beat w) (e : End w)
    (address : ℕ) → IsWidth w → IsTyped x → judged config link ch x e ≡ j
    → IsKept config e → is_of_block (block_at address) x ≡ false
    → (offered_as j config link x e).1.memory address ≡ e.memory address
memory_as Passes config link ch x e address width typed is before other =
    reaction_same config link x e address width before (passed config link ch x e typed is) other
memory_as v config link ch x e address width typed is before other = refl

pub memory-elsewhere : {w : ℕ} (config : Config) (link : Link) (ch : Channel) (x : Beat w) (e : End w) (address : ℕ)
    → IsWidth w → IsTyped x → IsKept config e
    → is_of_block (block_at address) x ≡ false → (offered config link ch x e).1.memory address ≡ e.memory address
unfolding offered
memory-elsewhere config link ch x e address width typed before other =
    memory_as (judged config link ch x e) config link ch x e address width typed refl before other

-- ---- a beat that isn't taken

refused_as : {w : ℕ} (j : Judgement) (config : Config) (link : Link) (x : Beat w) (e : End w) (rule : Rule)
    → (offered_as j config link x e).0 ≡ Refused rule
    → (offered_as j config link x e).1 ≡ refused link e
refused_as (Breaks r) config link x e rule is = refl
refused_as v config link x e rule is = absurd cc

pub refusal-closes : {w : ℕ} (config : Config) (link : Link) (ch : Channel) (x : Beat w) (e : End w) (rule : Rule)
    → (offered config link ch x e).0 ≡ Refused rule
    → (offered config link ch x e).1 ≡ refused link e
unfolding offered
refusal-closes config link ch x e rule is = refused_as (judged config link ch x e) config link x e rule is

stalled_as : {w : ℕ} (j : Judgement) (config : Config) (link : Link) (x : Beat w) (e : End w)
    → (offered_as j config link x e).0 ≡ Stalled → (offered_as j config link x e).1 ≡ e
stalled_as Waits config link x e is = refl
stalled_as v config link x e is = absurd cc

pub stall-keeps : {w : ℕ} (config : Config) (link : Link) (ch : Channel) (x : Beat w) (e : End w)
    → (offered config link ch x e).0 ≡ Stalled → (offered config link ch x e).1 ≡ e
unfolding offered
stall-keeps config link ch x e is = stalled_as (judged config link ch x e) config link x e is
