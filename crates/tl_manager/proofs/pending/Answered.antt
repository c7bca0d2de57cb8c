-- Each Release is answered as it is complete.
use Rattle.tl_manager.proofs.Imports.{IsWidth, Beat, BeatC, Link, Message, A, B, C, D, E, MessageA, MessageD, beat_of}
use Rattle.tl_manager.proofs.Imports.{History, channel_of, unfinished, burst_length, Answer, Config, Cap, sent, Trace}
use Rattle.tl_manager.proofs.Imports.{on_link, broken_in_order, Memory, effect, answer_of, ends, block_at, is_acquire}
use Rattle.tl_manager.proofs.Imports.{is_probe_ack, is_release, is_release_ack, Handed, with_handed, probe_of_block}
use Rattle.tl_manager.proofs.Imports.{release_ack, access_answer, grant, grant_opcode, Reaction, nothing, performed}
use Rattle.tl_manager.proofs.Imports.{probed, is_settled, Each, Service, services, service_of_block, probing_or}
use Rattle.tl_manager.proofs.Imports.{begun_with, begun_if_any, performed_if_any, finish, completed_c, completed}
use Rattle.tl_manager.proofs.Imports.{reaction, End, is_from_client, IsWhole}
use Rattle.std.proofs.Common.{◌≡◌, ℕ, ◌+◌, ◌==◌, Bool, true, false, List, [], ◌∷◌, length, map, Option, Some, None}
use Rattle.std.proofs.Common.{refl, sym, ap, subst, ◌∙◌, lit≤}
use Rattle.std.{specs.Prelude.if◌then◌else◌, proofs.lemmas.Bool.eqb-true, proofs.lemmas.Bool.true≢false}
use Rattle.tl_beat.{specs.declared.channel.Channel.Channel, specs.declared.opcode.OpD.OpD}
use Rattle.tl_manager.{specs.statement.Handing.no_payload, specs.code.Releases.IsAnswered}
use Rattle.tl_manager.{proofs.messages.Lawful.IsHandable, proofs.pending.LinkHistories.own_beat}
use Rattle.tl_manager.proofs.pending.Handed.{after_sent, own_link, other_link, whole-after_sent}
use Rattle.tl_manager.proofs.pending.Releases.{IsCarried, IsNoAck, answered-a, answered-b, answered-d, answered-e}
use Rattle.tl_manager.proofs.pending.Releases.{carried, not_last, no_release, released}

-- ---- messages that answer no Release

abbrev NoAcks : {w : ℕ} → Reaction w → Type 0
NoAcks d = Each (λ y. IsNoAck y.1) d.handed

no_ack_access : {w : ℕ} (m : MessageA w) (kind : Answer) → IsNoAck (access_answer m kind)
no_ack_access m Answer.Ack = refl
no_ack_access m v = refl

pub no_ack_grant : (with_data : Bool) → is_release_ack (grant_opcode with_data) ≡ false
no_ack_grant true = refl
no_ack_grant false = refl

no_ack_performed : {w : ℕ} (config : Config) (s : Service w) (t : Trace w) (memory : Memory)
    → NoAcks (performed config s t memory)
no_ack_performed {w} config s t memory = go (is_acquire s.request.opcode)
  where
    go : (b : Bool) → NoAcks (if b
        then record { handed = (s.link, grant config s t memory) ∷ []; memory = memory }
        else record {
          handed = (
            s.link,
            access_answer s.request
                (answer_of (A s.request) (effect (A s.request) memory).1),
          ) ∷ [];
          memory = (effect (A s.request) memory).0;
        })
    go true = (no_ack_grant _, tt)
    go false = (no_ack_access s.request _, tt)

no_ack_probes : (w : ℕ) (block : ℕ) (c : Cap) (clients : List ℕ)
    → Each (λ (y : Link × Message w). IsNoAck y.1) (map (λ n. (record { 0 = n }, probe_of_block {w = w} block c))
    clients)
no_ack_probes w block c [] = tt
no_ack_probes w block c (client ∷ clients) = (tt, no_ack_probes w block c clients)

no_ack_probing : {w : ℕ} (d : Reaction w) (block : ℕ) (c : Cap) (clients : List ℕ) (memory : Memory) → NoAcks d
    → NoAcks (probing_or d block c clients memory)
no_ack_probing d block c [] memory none = none
no_ack_probing {w} d block c (client ∷ clients) memory none = no_ack_probes w block c (client ∷ clients)

no_ack_begun : {w : ℕ} (config : Config) (o : Option Cap) (s : Service w) (t : Trace w) (memory : Memory)
    → NoAcks (begun_with config o s t memory)
no_ack_begun config None s t memory = no_ack_performed config s t memory
no_ack_begun config (Some c) s t memory = no_ack_probing (performed config s t memory) (block_at s.request.address) c
    (probed config s c t) memory (no_ack_performed config s t memory)

no_ack_new : {w : ℕ} (config : Config) (o : Option (Service w)) (t : Trace w) (memory : Memory)
    → NoAcks (begun_if_any config o t memory)
no_ack_new config None t memory = tt
no_ack_new config (Some s) t memory = no_ack_begun config _ s t memory

no_ack_found : {w : ℕ} (config : Config) (o : Option (Service w)) (t : Trace w) (memory : Memory)
    → NoAcks (performed_if_any config o t memory)
no_ack_found config None t memory = tt
no_ack_found config (Some s) t memory = no_ack_performed config s t memory

no_ack_settled : {w : ℕ} (config : Config) (block : ℕ) (t : Trace w) (memory : Memory)
    → NoAcks (finish config block t memory)
no_ack_settled {w} config block t memory = go (is_settled config block t)
  where
    go : (b : Bool) → NoAcks (if b then performed_if_any config (service_of_block block (services t)) t memory else
        nothing memory)
    go true = no_ack_found config (service_of_block block (services t)) t memory
    go false = tt

-- ---- one link after such messages

answered-ours : {w : ℕ} (m : Message w) (t : History w) → IsWidth w → is_from_client (beat_of m 0) ≡ false → IsNoAck m
    → IsWhole t → IsAnswered t → IsAnswered (sent m t)
answered-ours (B m) t width ours none whole ok = answered-b m t width whole.0 ok
answered-ours (D m) t width ours none whole ok = answered-d m t width whole.1 none ok
answered-ours v t width ours none whole ok = absurd cc

answered-sent : {w : ℕ} (client : ℕ) (link : Link) (m : Message w) (t : Trace w) → IsWidth w
    → is_from_client (beat_of m 0) ≡ false → IsNoAck m → IsWhole (on_link client t)
    → IsAnswered (on_link client t) → IsAnswered (on_link client (after_sent link m t))
answered-sent {w} client link m t width ours none whole ok = go (link.0 == client) refl
  where
    go : (b : Bool) → (link.0 == client) ≡ b → IsAnswered (on_link client (after_sent link m t))
    go true e = subst IsAnswered (sym (own_link client link m t e)) (answered-ours m (on_link client t) width ours none
        whole ok)
    go false e = subst IsAnswered (sym (other_link client link m t e)) ok

answered-handed : {w : ℕ} (config : Config) (client : ℕ) (handed : Handed w) (t : Trace w) → IsWidth w
    → Each (IsHandable config) handed → Each (λ y. IsNoAck y.1) handed
    → IsWhole (on_link client t) → IsAnswered (on_link client t) → IsAnswered (on_link client (with_handed handed t))
unfolding with_handed
answered-handed config client [] t width each none whole ok = ok
answered-handed config client (x ∷ handed) t width each none whole ok =
    answered-handed config client handed (after_sent x.0 x.1 t) width each.1 none.1
    (whole-after_sent client x.0 x.1 t width each.0.ours whole)
    (answered-sent client x.0 x.1 t width each.0.ours none.0 whole ok)

-- a beat on another link
answered-beat : {w : ℕ} (client : ℕ) (link : Link) (x : Beat w) (t : Trace w)
    → ((link.0 == client) ≡ true → IsAnswered (on_link client t) → IsAnswered (x ∷ on_link client t))
    → IsAnswered (on_link client t) → IsAnswered (on_link client ((link, x) ∷ t))
unfolding on_link
answered-beat {w} client link x t here ok = go (link.0 == client) refl
  where
    go : (b : Bool) → (link.0 == client) ≡ b → IsAnswered (if b then x ∷ on_link client t else on_link client t)
    go true e = here e ok
    go false e = ok

-- ---- a beat of channel C

on_this_link : {w : ℕ} (config : Config) (client : ℕ) (link : Link) (x : BeatC w) (t : Trace w)
    → (link.0 == client) ≡ true
    → broken_in_order config.profile (Beat.C x) (on_link link.0 t) ≡ None → IsAnswered (on_link client t)
    → IsCarried x (on_link client t)
on_this_link config client link x t e order ok =
    carried config.profile x (on_link client t) ok (ap (λ n. broken_in_order config.profile (Beat.C x) (on_link n t))
    (sym (eqb-true link.0 client e)) ∙ order)

grows : {w : ℕ} (x : BeatC w) (t : History w) → (length (unfinished Channel.C t) + 1 == burst_length (Beat.C x)) ≡ false
    → unfinished Channel.C (Beat.C x ∷ t) ≡ Beat.C x ∷ unfinished Channel.C t
unfolding unfinished
grows x t e = rw e refl

closes : {w : ℕ} (x : BeatC w) (t : History w) → (length (unfinished Channel.C t) + 1 == burst_length (Beat.C x)) ≡ true
    → unfinished Channel.C (Beat.C x ∷ t) ≡ []
unfolding unfinished
closes x t e = rw e refl

-- the same at the link's own number
ends_here : {w : ℕ} (client : ℕ) (link : Link) (x : BeatC w) (t : Trace w) (last : Bool) → (link.0 == client) ≡ true
    → ends (Beat.C x) (on_link link.0 t) ≡ last
    → (length (unfinished Channel.C (on_link client t)) + 1 == burst_length (Beat.C x)) ≡ last
ends_here client link x t last e f =
    ap (λ n. length (unfinished Channel.C (on_link n t)) + 1 == burst_length (Beat.C x))
    (sym (eqb-true link.0 client e)) ∙ f

after_part : {w : ℕ} (config : Config) (client : ℕ) (link : Link) (x : BeatC w) (t : Trace w)
    → broken_in_order config.profile (Beat.C x) (on_link link.0 t) ≡ None
    → ends (Beat.C x) (on_link link.0 t) ≡ false → IsAnswered (on_link client t)
    → IsAnswered (on_link client ((link, Beat.C x) ∷ t))
after_part config client link x t order last ok =
    answered-beat client link (Beat.C x) t
    (λ e before. not_last x (on_link client t) (on_this_link config client link x t e order before)
    (grows x (on_link client t) (ends_here client link x t false e last))) ok

after_report : {w : ℕ} (config : Config) (client : ℕ) (link : Link) (x : BeatC w) (t : Trace w)
    → broken_in_order config.profile (Beat.C x) (on_link link.0 t) ≡ None
    → ends (Beat.C x) (on_link link.0 t) ≡ true → is_release x.opcode ≡ false → IsAnswered (on_link client t)
    → IsAnswered (on_link client ((link, Beat.C x) ∷ t))
after_report config client link x t order last other ok =
    answered-beat client link (Beat.C x) t
    (λ e before. no_release x (on_link client t) (on_this_link config client link x t e order before)
    (closes x (on_link client t) (ends_here client link x t true e last)) other) ok

-- the ReleaseAck with this source
abbrev ack_of : {w : ℕ} → ℕ → MessageD w
ack_of source = record {
  opcode = OpD.ReleaseAck;
  param = 0;
  size = 6;
  source = source;
  sink = 0;
  denied =
      false;
  payload = no_payload;
  corrupt = 0;
  small = lit≤ tt;
}

after_release : {w : ℕ} (config : Config) (client : ℕ) (link : Link) (x : BeatC w) (t : Trace w) → IsWidth w
    → broken_in_order config.profile (Beat.C x) (on_link link.0 t) ≡ None
    → ends (Beat.C x) (on_link link.0 t) ≡ true → is_release x.opcode ≡ true
    → IsWhole (on_link client ((link, Beat.C x) ∷ t)) → IsAnswered (on_link client t)
    → IsAnswered (on_link client (after_sent link (release_ack x.source) ((link, Beat.C x) ∷ t)))
after_release {w} config client link x t width order last release whole ok = go (link.0 == client) refl
  where
    go : (b : Bool) → (link.0 == client) ≡ b
        → IsAnswered (on_link client (after_sent link (release_ack x.source) ((link, Beat.C x) ∷ t)))
    go true e =
        let here = own_beat client link (Beat.C x) t e in
        subst IsAnswered (sym (own_link client link (release_ack x.source) ((link, Beat.C x) ∷ t) e ∙ ap
        (sent (release_ack x.source)) here))
        (released x (ack_of x.source) (on_link client t) width (on_this_link config client link x t e order ok) release
        (closes x (on_link client t) (ends_here client link x t true e last)) (subst IsWhole here whole).1 refl refl)
    go false e =
        subst IsAnswered (sym (other_link client link (release_ack x.source) ((link, Beat.C x) ∷ t) e))
        (answered-beat client link (Beat.C x) t (λ f before. absurd (true≢false (sym f ∙ e))) ok)

done_c_answered : {w : ℕ} (config : Config) (client : ℕ) (link : Link) (x : BeatC w) (t : Trace w) (memory : Memory)
    → IsWidth w
    → broken_in_order config.profile (Beat.C x) (on_link link.0 t) ≡ None → ends (Beat.C x) (on_link link.0 t) ≡ true
    → Each (IsHandable config) (completed_c config link x ((link, Beat.C x) ∷ t) memory).handed
    → IsWhole (on_link client ((link, Beat.C x) ∷ t)) → IsAnswered (on_link client t)
    → IsAnswered (on_link client (with_handed (completed_c config link x ((link, Beat.C x) ∷ t) memory).handed
    ((link, Beat.C x) ∷ t)))
unfolding with_handed
done_c_answered {w} config client link x t memory width order last handable whole ok =
    go (is_release x.opcode) (is_probe_ack x.opcode) refl handable
  where
    reaction_by : Bool → Bool → Reaction w
    reaction_by r p = if r then record { handed = (link, release_ack x.source) ∷ []; memory = memory } else if p then
        finish config (block_at x.address) ((link, Beat.C x) ∷ t) memory else nothing memory

    go : (r p : Bool) → is_release x.opcode ≡ r → Each (IsHandable config) (reaction_by r p).handed
        → IsAnswered (on_link client (with_handed (reaction_by r p).handed ((link, Beat.C x) ∷ t)))
    go true p release each = after_release config client link x t width order last release whole ok
    go false true other each =
        answered-handed config client (finish config (block_at x.address) ((link, Beat.C x) ∷ t) memory).handed
        ((link, Beat.C x) ∷ t) width each
        (no_ack_settled config (block_at x.address) ((link, Beat.C x) ∷ t) memory) whole
        (after_report config client link x t order last other ok)
    go false false other each = after_report config client link x t order last other ok

-- ---- any beat that is taken

-- what is done, where it is known whether the beat is the last of its message
abbrev done_if : {w : ℕ} → Bool → Config → Link → Beat w → End w → Reaction w
done_if last config link x e = if last then completed config link x (unfinished (channel_of x) (on_link link.0 e.trace))
    e.trace e.memory else nothing e.memory

done_answered : {w : ℕ} (config : Config) (client : ℕ) (link : Link) (x : Beat w) (e : End w) (last : Bool) → IsWidth w
    → is_from_client x ≡ true
    → broken_in_order config.profile x (on_link link.0 e.trace) ≡ None → ends x (on_link link.0 e.trace) ≡ last
    → Each (IsHandable config) (done_if last config link x e).handed → IsWhole (on_link client ((link, x) ∷ e.trace))
    → IsAnswered (on_link client e.trace)
    → IsAnswered (on_link client (with_handed (done_if last config link x e).handed ((link, x) ∷ e.trace)))
unfolding with_handed
done_answered config client link (Beat.A x) e true width theirs order last each whole ok =
    answered-handed config client _ ((link, Beat.A x) ∷ e.trace) width each
    (no_ack_new config _ ((link, Beat.A x) ∷ e.trace) e.memory) whole
    (answered-beat client link (Beat.A x) e.trace (λ here before. answered-a x (on_link client e.trace) before) ok)
done_answered config client link (Beat.A x) e false width theirs order last each whole ok =
    answered-beat client link (Beat.A x) e.trace (λ here before. answered-a x (on_link client e.trace) before) ok
done_answered config client link (Beat.B x) e last width theirs order is each whole ok = absurd cc
done_answered config client link (Beat.C x) e true width theirs order last each whole ok =
    done_c_answered config client link x e.trace _ width order last each whole ok
done_answered config client link (Beat.C x) e false width theirs order last each whole ok =
    after_part config client link x e.trace order last ok
done_answered config client link (Beat.D x) e last width theirs order is each whole ok = absurd cc
done_answered config client link (Beat.E x) e true width theirs order last each whole ok =
    answered-beat client link (Beat.E x) e.trace (λ here before. answered-e x (on_link client e.trace) before) ok
done_answered config client link (Beat.E x) e false width theirs order last each whole ok =
    answered-beat client link (Beat.E x) e.trace (λ here before. answered-e x (on_link client e.trace) before) ok

pub answered-reaction : {w : ℕ} (config : Config) (client : ℕ) (link : Link) (x : Beat w) (e : End w) → IsWidth w
    → is_from_client x ≡ true
    → broken_in_order config.profile x (on_link link.0 e.trace) ≡ None
    → Each (IsHandable config) (reaction config link x e).handed → IsWhole (on_link client ((link, x) ∷ e.trace))
    → IsAnswered (on_link client e.trace)
    → IsAnswered (on_link client (with_handed (reaction config link x e).handed ((link, x) ∷ e.trace)))
unfolding reaction
answered-reaction config client link x e width theirs order each whole ok =
    done_answered config client link x e (ends x (on_link link.0 e.trace)) width theirs order refl each whole ok
