-- What a manager does at a beat that it takes keeps what it took and handed out sound.
use Rattle.tl_manager.proofs.Imports.{IsWidth, Beat, BeatA, BeatC, Link, Message, A, beats_of, beat_of, begun, burst_of}
use Rattle.tl_manager.proofs.Imports.{channel_of, unfinished, Config, Cap, Perm, L1, L2, L3, L4, Trace, on_link, Memory}
use Rattle.tl_manager.proofs.Imports.{effect, answer_of, ends, block_at, is_acquire, is_probe_ack, is_release}
use Rattle.tl_manager.proofs.Imports.{a_of_level, a_has_param, a_has_size, is_aligned, next_rule, Handed, with_handed}
use Rattle.tl_manager.proofs.Imports.{nothing, release_ack, probe_of_block, access_answer, grant, Reaction, performed}
use Rattle.tl_manager.proofs.Imports.{recorded, has_copy, is_above, is_spared, probed, is_settled, Each, IsSound}
use Rattle.tl_manager.proofs.Imports.{request_if, request_carried, Service, services, service_of_block, least_untaken}
use Rattle.tl_manager.proofs.Imports.{trackers_of, probing_or, begun_with, begun_if_any, performed_if_any, finish}
use Rattle.tl_manager.proofs.Imports.{written, completed_c, completed, reaction, End, level_of}
use Rattle.std.proofs.Common.{◌≡◌, ℕ, zero, suc, ◌%◌, ◌^◌, ◌<◌, ◌≤◌, ◌==◌, Bool, true, false, not, cond, ◌&&◌, List, []}
use Rattle.std.proofs.Common.{◌∷◌, ◌++◌, length, map, Option, Some, None, refl, ap, ◌∙◌, arith}
use Rattle.std.specs.Prelude.{nat_le, option_map, if◌then◌else◌}
use Rattle.std.proofs.lemmas.Bool.{and_parts, eqb-true, not-false}
use Rattle.tl_params.specs.declared.level.Level.{Level}
use Rattle.tl_manager.proofs.messages.Lawful.{IsHandable, access_handable, acquire_level, grant_handable}
use Rattle.tl_manager.proofs.messages.Lawful.{release_handable, probe_handable}
use Rattle.tl_manager.proofs.words_of_clients.Lists.{each_append, each_map, each_client, each_weaker}
use Rattle.tl_manager.proofs.messages.Sound.{IsServable, servable_new, servable, holder_level, leveled, past_l1}
use Rattle.tl_manager.proofs.messages.Sound.{transfers_level}

-- all that is handed out
abbrev pub AllHandable : {w : ℕ} → Config → Reaction w → Type 0
AllHandable config d = Each (IsHandable config) d.handed

-- ---- the answer to a request

performed_handable : {w : ℕ} (config : Config) (s : Service w) (t : Trace w) (memory : Memory) → IsWidth w
    → IsServable config s → AllHandable config (performed config s t memory)
unfolding effect
performed_handable {w} config s t memory width ok =
    let one = next_rule (not (a_of_level ok.level s.request.opcode)) L1 _ ok.control in
    let two = next_rule (not (a_has_param s.request.opcode s.request.param)) L2 _ one.1 in
    let three = next_rule (not (a_has_size w ok.level s.request.opcode s.request.size)) L3 _ two.1 in
    let four = next_rule (not (is_aligned s.request.address s.request.size)) L4 None three.1 in
    go (is_acquire s.request.opcode) refl (not-false _ one.0) (not-false _ three.0)
    (eqb-true (s.request.address % 2 ^ s.request.size) 0 (not-false _ four.0))
  where
    go : (b : Bool) → is_acquire s.request.opcode ≡ b → a_of_level ok.level s.request.opcode ≡ true
        → a_has_size w ok.level s.request.opcode s.request.size ≡ true
        → s.request.address % 2 ^ s.request.size ≡ 0
        → AllHandable config (if b
        then record { handed = (s.link, grant config s t memory) ∷ []; memory = memory }
        else record {
          handed = (
            s.link,
            access_answer s.request
                (answer_of (A s.request) (effect (A s.request) memory).1),
          ) ∷ [];
          memory = (effect (A s.request) memory).0;
        })
    go true e of_level sized aligned = (
      grant_handable config s _ _ memory width
          (ok.has_level ∙ ap Some (acquire_level ok.level s.request.opcode e of_level)),
      tt,
    )
    go false e of_level sized aligned = (
      access_handable config s.link ok.level s.request.opcode s.request memory width aligned ok.has_level e of_level
          sized,
      tt,
    )

performed_found : {w : ℕ} (config : Config) (block : ℕ) (ss : List (Service w)) (t : Trace w) (memory : Memory)
    → IsWidth w → Each (IsServable config) ss
    → AllHandable config (performed_if_any config (service_of_block block ss) t memory)
performed_found config block [] t memory width each = tt
performed_found config block (s ∷ ss) t memory width each =
    go (block_at s.request.address == block) (performed_found config block ss t memory width each.1)
  where
    go : (b : Bool) → AllHandable config (performed_if_any config (service_of_block block ss) t memory)
        → AllHandable config (performed_if_any config (cond b (Some s) (service_of_block block ss)) t memory)
    go true rest = performed_handable config s t memory width each.0
    go false rest = rest

-- ---- Probes

above_none : (c : Cap) (p : Perm) → is_above c p ≡ true → has_copy p ≡ true
above_none Cap.ToN p e = e
above_none Cap.ToB Perm.Trunk e = refl
above_none v u e = absurd cc

probed_level : {w : ℕ} (config : Config) (s : Service w) (c : Cap) (t : Trace w) → Each (IsSound config) t
    → Each (λ client. level_of config client ≡ Some Level.C) (probed config s c t)
probed_level {w} config s c t sound =
    each_weaker (λ client. (is_above c (recorded client (block_at s.request.address) t) && not (is_spared s client))
    ≡ true) (λ client. level_of config client ≡ Some Level.C)
    (probed config s c t)
    (λ client e. holder_level config client (block_at s.request.address) t sound
    (above_none c (recorded client (block_at s.request.address) t)
    (and_parts (is_above c (recorded client (block_at s.request.address) t)) (not (is_spared s client)) e).0))
    (each_client (length config.clients.items) 0 (λ client. is_above c (recorded client (block_at s.request.address) t)
    && not (is_spared s client)))

probing_handable : {w : ℕ} (config : Config) (d : Reaction w) (block : ℕ) (c : Cap) (clients : List ℕ) (memory : Memory)
    → IsWidth w → nat_le config.blocks block ≡ false → AllHandable config d
    → Each (λ client. level_of config client ≡ Some Level.C) clients
    → AllHandable config (probing_or d block c clients memory)
probing_handable config d block c [] memory width inside at_once each = at_once
probing_handable {w} config d block c (client ∷ clients) memory width inside at_once each =
    each_map (λ n. level_of config n ≡ Some Level.C) (IsHandable config)
    (λ n. (record { 0 = n }, probe_of_block block c)) (client ∷ clients)
    (λ n e. probe_handable config n block c width e inside) each

begun_handable : {w : ℕ} (config : Config) (o : Option Cap) (s : Service w) (t : Trace w) (memory : Memory) → IsWidth w
    → IsServable config s → Each (IsSound config) t
    → AllHandable config (begun_with config o s t memory)
begun_handable config None s t memory width ok sound = performed_handable config s t memory width ok
begun_handable config (Some c) s t memory width ok sound =
    probing_handable config (performed config s t memory) (block_at s.request.address) c (probed config s c t) memory
    width ok.inside
    (performed_handable config s t memory width ok) (probed_level config s c t sound)

-- ---- a message that is complete

begun_new : {w : ℕ} (config : Config) (link : Link) (x : BeatA w) (beats : List (Beat w)) (tracker : ℕ) (t : Trace w)
    (memory : Memory) (fits : Bool) (e : nat_le x.size 6 ≡ fits) → IsWidth w
    → IsSound config (link, Beat.A x) → Each (IsSound config) t
    → AllHandable config (begun_if_any config (option_map (λ m. record { tracker = tracker; link = link; request = m })
    (request_if x beats fits e)) t memory)
begun_new config link x beats tracker t memory false e width ok sound = tt
begun_new config link x beats tracker t memory true e width ok sound =
    begun_handable config _ _ t memory width (servable_new config link x beats tracker [] true e ok tt).0 sound

settled_handable : {w : ℕ} (config : Config) (block : ℕ) (t : Trace w) (memory : Memory) → IsWidth w
    → Each (IsSound config) t → AllHandable config (finish config block t memory)
settled_handable {w} config block t memory width sound = go (is_settled config block t)
  where
    go : (b : Bool) → AllHandable config (if b then performed_if_any config (service_of_block block (services t)) t
        memory else nothing memory)
    go true = performed_found config block (services t) t memory width (servable config t sound)
    go false = tt

done_c_handable : {w : ℕ} (config : Config) (link : Link) (x : BeatC w) (t : Trace w) (memory : Memory) → IsWidth w
    → IsSound config (link, Beat.C x) → Each (IsSound config) t
    → AllHandable config (completed_c config link x t memory)
done_c_handable {w} config link x t memory width ok sound =
    let l = leveled (level_of config link.0) (Beat.C x) ok.lawful in
    go (is_release x.opcode) (is_probe_ack x.opcode) (l.1 ∙ ap Some (transfers_level l.0 (past_l1 l.0 (Beat.C x) l.2)))
  where
    go : (r p : Bool) → level_of config link.0 ≡ Some Level.C
        → AllHandable config (if r then record { handed = (link, release_ack x.source) ∷ []; memory = memory } else if p
        then finish config
        (block_at x.address) t memory else nothing memory)
    go true p has_level = (release_handable config link x.source has_level, tt)
    go false true has_level = settled_handable config (block_at x.address) t memory width sound
    go false false has_level = tt

done_handable : {w : ℕ} (config : Config) (link : Link) (x : Beat w) (burst : List (Beat w)) (t : Trace w)
    (memory : Memory) → IsWidth w → IsSound config (link, x) → Each (IsSound config) t
    → AllHandable config (completed config link x burst t memory)
unfolding request_carried
done_handable config link (Beat.A x) burst t memory width ok sound =
    begun_new config link x (Beat.A x ∷ burst) (least_untaken (trackers_of (services t))) ((link, Beat.A x) ∷ t) memory
    (nat_le x.size 6) refl width ok (ok, sound)
done_handable config link (Beat.C x) burst t memory width ok sound =
    done_c_handable config link x ((link, Beat.C x) ∷ t) (written x (Beat.C x ∷ burst) memory) width ok (ok, sound)
done_handable config link v burst t memory width ok sound = tt

-- the messages handed out at a sound beat
pub reaction_handable : {w : ℕ} (config : Config) (link : Link) (x : Beat w) (e : End w) → IsWidth w
    → IsSound config (link, x) → Each (IsSound config) e.trace → AllHandable config (reaction config link x e)
unfolding reaction
reaction_handable {w} config link x e width ok sound = go (ends x (on_link link.0 e.trace))
  where
    go : (b : Bool) → AllHandable config
        (if b then completed config link x (unfinished (channel_of x) (on_link link.0 e.trace)) e.trace e.memory else
        nothing e.memory)
    go true = done_handable config link x (unfinished (channel_of x) (on_link link.0 e.trace)) e.trace e.memory width ok
        sound
    go false = tt

-- ---- the trace afterwards

burst_sound : {w : ℕ} (config : Config) (link : Link) (m : Message w) (n : ℕ) → n ≤ beats_of m
    → ((i : ℕ) → i < beats_of m → IsSound config (link, beat_of m i))
    → Each (λ x. IsSound config (link, x)) (begun m n)
burst_sound config link m zero le each = tt
burst_sound config link m (suc n) le each = (each n (omega arith), burst_sound config link m n (omega arith) each)

pub handed_sound : {w : ℕ} (config : Config) (handed : Handed w) (t : Trace w) → Each (IsHandable config) handed
    → Each (IsSound config) t → Each (IsSound config) (with_handed handed t)
unfolding with_handed
handed_sound config [] t each sound = sound
handed_sound config (x ∷ handed) t each sound =
    handed_sound config handed (map (λ b. (x.0, b)) (burst_of x.1) ++ t) each.1
    (each_append (IsSound config) (map (λ b. (x.0, b)) (burst_of x.1)) t
    (each_map (λ b. IsSound config (x.0, b)) (IsSound config) (λ b. (x.0, b)) (burst_of x.1) (λ b ok. ok)
    (burst_sound config x.0 x.1 (beats_of x.1) (omega arith) each.0.beats))
    sound)
