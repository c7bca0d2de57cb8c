-- What is pending after a request whose Probes were handed out.
use Rattle.tl_manager.proofs.Imports.{History, unfinished, Config, GrantSink, ProbeOf, Cap, Trace, on_link, block_at}
use Rattle.tl_manager.proofs.Imports.{is_acquire, pending, is_one_of, pending-quiet, with_handed, probes, probe_beat}
use Rattle.tl_manager.proofs.Imports.{recorded, is_missing, is_settled, is_above, is_spared, cap_probed, probed}
use Rattle.tl_manager.proofs.Imports.{is_granted, is_awaited, IsSteady, Service, services, service_of_block, IsReady}
use Rattle.std.proofs.Common.{◌≡◌, ℕ, ◌<◌, ◌==◌, Bool, true, false, not, ltb, ◌&&◌, ◌||◌, List, [], ◌∷◌, length, Some}
use Rattle.std.proofs.Common.{refl, sym, ap, subst, ◌∙◌, arith}
use Rattle.std.specs.Prelude.{if◌then◌else◌}
use Rattle.std.proofs.lemmas.Bool.{eqb-true, eq-eqb, and_parts, ltb-true}
use Rattle.tl_beat.{specs.declared.beat.Beat.Beat, specs.declared.channel.Channel.Channel}
use Rattle.tl_manager.proofs.words_of_clients.Clients.{among-where, nobody-where}
use Rattle.tl_manager.{proofs.pending.LinkHistories.beat-keeps, proofs.pending.Probes.probes-within}
use Rattle.tl_manager.{proofs.pending.Probes.services-probes, proofs.blocks.Unmoved.awaited-same}
use Rattle.tl_manager.proofs.words_of_clients.Lists.{each_client, each_weaker}
use Rattle.tl_manager.proofs.pending.Probing.{missing-own_b, missing-else_b, accounted-probes}

-- what a Probe leaves on each link, several leave
pub probes-keep : {w : ℕ} {A : Type 0} (value : History w → A) (c n : ℕ) (k : Cap) (clients : List ℕ) (t : Trace w)
    → ((h : History w) → value (Beat.B (probe_beat n k) ∷ h) ≡ value h)
    → value (on_link c (with_handed (probes n k clients) t)) ≡ value (on_link c t)
unfolding with_handed
probes-keep value c n k [] t same = refl
probes-keep value c n k (d ∷ clients) t same =
    probes-keep value c n k clients ((record { 0 = d }, Beat.B (probe_beat n k)) ∷ t) same ∙ beat-keeps value c
    (record { 0 = d }) (Beat.B (probe_beat n k)) t same

pub granted-probes : {w : ℕ} (n : ℕ) (k : Cap) (clients : List ℕ) (t : Trace w) (s : Service w)
    → is_granted (with_handed (probes n k clients) t) s ≡ is_granted t s
granted-probes n k clients t s =
    ap (λ b. is_acquire s.request.opcode && b) (probes-keep (pending (GrantSink s.tracker)) s.link.0 n k clients t
    (λ h. pending-quiet (GrantSink s.tracker) (Beat.B (probe_beat n k)) h refl refl))

-- a client that is probed has its ProbeAck missing
pub missing-probed : {w : ℕ} (config : Config) (n : ℕ) (s : Service w) (k : Cap) (t : Trace w) (d : ℕ)
    → unfinished Channel.B (on_link d t) ≡ [] → is_one_of d (probed config s k t) ≡ true
    → (d < length config.clients.items)
    × (pending (ProbeOf n) (on_link d (with_handed (probes n k (probed config s k t)) t)) ≡ true)
missing-probed {w} config n s k t d none among =
    let p = and_parts (ltb d (length config.clients.items)) (test d) (sym (among-where config test d) ∙ among) in
    let lt = ltb-true d (length config.clients.items) p.0 in (
      lt,
      ap (pending (ProbeOf n)) (probes-within d n k 0 (length config.clients.items) test t (omega arith)
          (omega (arith, lt)))
          ∙ go (test d) p.1,
    )
  where
    test : ℕ → Bool
    test c = is_above k (recorded c (block_at s.request.address) t) && not (is_spared s c)

    go : (b : Bool) → b ≡ true → pending (ProbeOf n) (if b then Beat.B (probe_beat n k) ∷ on_link d t else on_link d t)
        ≡ true
    go true e = missing-own_b n k (on_link d t) none
    go false e = absurd cc

pub probes-steady : {w : ℕ} (config : Config) (n : ℕ) (s : Service w) (k : Cap) (d : ℕ) (ds : List ℕ) (t : Trace w)
    → IsReady config n s t
    → cap_probed s.request.opcode s.request.param ≡ Some k → probed config s k t ≡ d ∷ ds
    → IsSteady config (with_handed (probes n k (probed config s k t)) t)
probes-steady {w} config n s k d ds t is caps someone = record {
  accounted = accounted-probes n k (probed config s k t) s t is.width is.whole
      (record { serves = is.serves; unanswered = is.unanswered; caps = caps })
      (each_weaker (λ c. test c ≡ true) (λ c. is_spared s c ≡ false) (probed config s k t)
      (λ c e. unspared (is_spared s c) (and_parts (is_above k (recorded c (block_at s.request.address) t))
      (not (is_spared s c)) e).1)
      (each_client (length config.clients.items) 0 test)) is.accounted;
  awaited = λ j. awaited j (n == j) refl;
}
  where
    test : ℕ → Bool
    test c = is_above k (recorded c (block_at s.request.address) t) && not (is_spared s c)

    u : Trace w
    u = with_handed (probes n k (probed config s k t)) t

    unspared : (b : Bool) → not b ≡ true → b ≡ false
    unspared true e = absurd cc
    unspared false e = refl

    serves : services u ≡ services t
    serves = services-probes n k (probed config s k t) t

    unsettled : (b : Bool) → is_settled config n u ≡ b → b ≡ false
    unsettled true e =
        let among : is_one_of d (probed config s k t) ≡ true = ap (is_one_of d) someone ∙ rw (eq-eqb d d refl) refl in
        let missing = missing-probed config n s k t d (is.whole d).0 among in
        absurd (let no : pending (ProbeOf n) (on_link d u) ≡ false = (nobody-where config (λ c. is_missing c n u)).0 e d
        missing.0 in let yes : pending
        (ProbeOf n) (on_link d u) ≡ true = missing.1 in cc)
    unsettled false e = refl

    either : (b : Bool) → (b || true) ≡ true
    either true = refl
    either false = refl

    awaited : (j : ℕ) (b : Bool) → (n == j) ≡ b → is_awaited config j u (service_of_block j (services u)) ≡ true
    awaited j true e =
        subst (λ (i : ℕ). is_awaited config i u (service_of_block i (services u)) ≡ true) (eqb-true n j e)
        (ap (is_awaited config n u) (ap (service_of_block n) serves ∙ is.serves) ∙ ap (λ b. is_granted u s || not b)
        (unsettled (is_settled config n u) refl) ∙ either (is_granted u s))
    awaited j false e =
        awaited-same config j t u (ap (service_of_block j) serves) (λ v f. granted-probes n k (probed config s k t) t v)
        (λ c. probes-keep (pending (ProbeOf j)) c n k (probed config s k t) t (λ h. missing-else_b j n k h e))
        (is.awaited j e)
