-- What is kept of the blocks after a Grant was handed out.
use Rattle.tl_manager.proofs.Imports.{Link, Message, MessageA, Config, Cap, Perm, Trace, on_link, Memory, bytes_from}
use Rattle.tl_manager.proofs.Imports.{block_at, is_acquire, asks_for, request_of, AreBlocks, Reaction, with_handed}
use Rattle.tl_manager.proofs.Imports.{performed, grant, recorded, is_unheld, IsBlockStateWithout, IsDone, IsReadyAt}
use Rattle.tl_manager.proofs.Imports.{is_granted, IsNamed, HasFields, granted_by, Service, service_of_block}
use Rattle.tl_manager.proofs.Imports.{service_with, IsTracked, tracker_at, BlockState, Granted}
use Rattle.std.proofs.Common.{◌≡◌, ◌≢◌, ℕ, ◌*◌, ◌==◌, ◌⊎◌, Bool, true, false, ◌&&◌, List, [], ◌∷◌, Option, Some, None}
use Rattle.std.proofs.Common.{refl, sym, ap, subst, ◌∙◌, inl, inr}
use Rattle.std.specs.Prelude.{if◌then◌else◌, unwrap_or}
use Rattle.std.proofs.lemmas.Bool.{cases_eq, eqb-true, eq-eqb, ne_eqb}
use Rattle.tl_params.specs.statement.Param.{cap_right}
use Rattle.tl_manager.{specs.code.Granting.grant_of, proofs.calls.Events.performed-acquire}
use Rattle.tl_manager.{proofs.pending.Granted.IsGrant, proofs.pending.Granted.granted-now}
use Rattle.tl_manager.{proofs.pending.Handed.after_sent, proofs.pending.Handed.recorded-sent}
use Rattle.tl_manager.{proofs.blocks.Recording.cap-gives, proofs.pending.Replies.asks_for-fields}
use Rattle.tl_manager.specs.statement.Handing.{grant_with, cap_granted, is_granted_data}
use Rattle.tl_manager.proofs.blocks.Answering.{tracked-performed, tracker-changed}
use Rattle.tl_manager.proofs.pending.Performed.{grant_is, reply_of, performed-services}

-- the Grant by its parts
grant-parts : {w : ℕ} (s : Service w) (c : Cap) (carries : Bool) (memory : Memory) (bytes : Option (List ℕ))
    → bytes ≡ (if carries then Some (bytes_from memory (64 * block_at s.request.address) 64) else None)
    → grant_of s.request.source s.tracker c bytes ≡ grant_with s c carries memory
grant-parts s c true memory bytes e = rw e refl
grant-parts s c false memory bytes e = rw e refl

-- which request it answers, and so what it says is held
pub recorded-grant : {w : ℕ} (config : Config) (number : ℕ) (link : Link) (request : MessageA w) (t : Trace w)
    (memory : Memory) (c b : ℕ) → IsReadyAt config number link request t
    → recorded c b (after_sent link (grant config (service_with number link request) t memory) t)
    ≡ (if (link.0 == c) && (block_at request.address == b) then cap_right
    (cap_granted config.profile request.opcode request.param (is_unheld config (block_at request.address) t)) else
    recorded c b t)
recorded-grant {w} config number link request t memory c b at =
    recorded-sent c b link (grant config s t memory) t at.ready.width refl (at.ready.whole c)
    ∙ says (is_granted_data request.opcode request.param (recorded link.0 (block_at request.address) t)) ∙ go
    (link.0 == c) refl
  where
    s : Service w
    s = service_with number link request

    given : Cap
    given = cap_granted config.profile request.opcode request.param (is_unheld config (block_at request.address) t)

    says : (carries : Bool) → unwrap_or (granted_by (link, grant_with s given carries memory) t c b) (recorded c b t)
        ≡ unwrap_or (if (link.0 == c) && asks_for b (request_of request.source (on_link c t)) then Some
        (cap_right given) else None) (recorded c b t)
    says true = ap (λ p. unwrap_or (if (link.0 == c) && asks_for b (request_of request.source (on_link c t)) then Some p
        else None) (recorded c b t)) (cap-gives given)
    says false = ap (λ p. unwrap_or (if (link.0 == c) && asks_for b (request_of request.source (on_link c t)) then Some
        p else None) (recorded c b t)) (cap-gives given)

    fields : HasFields request.opcode request.param request.size request.source request.address
        (request_of request.source (on_link link.0 t))
    fields = (subst (IsNamed (block_at request.address) t) at.ready.serves
        (at.ready.accounted.blocks (block_at request.address)).named).0 at.ready.unanswered

    asked : (link.0 == c) ≡ true
        → asks_for b (request_of request.source (on_link c t)) ≡ (block_at request.address == b)
    asked e =
        ap (λ i. asks_for b (request_of request.source (on_link i t))) (sym (eqb-true link.0 c e))
        ∙ asks_for-fields request.opcode request.param request.size request.source request.address b
        (request_of request.source (on_link link.0 t)) fields

    chosen : (d : Bool) (p q : Perm) → unwrap_or (if d then Some p else None) q ≡ (if d then p else q)
    chosen true p q = refl
    chosen false p q = refl

    go : (here : Bool) → (link.0 == c) ≡ here
        → unwrap_or (if here && asks_for b (request_of request.source (on_link c t)) then Some (cap_right given) else
        None) (recorded c b t)
        ≡ (if here && (block_at request.address == b) then cap_right given else recorded c b t)
    go true e = rw (asked e) (chosen (block_at request.address == b) (cap_right given) (recorded c b t))
    go false e = refl

-- what the directory says where one entry is the cap's
pub records-set : (perm_old perm_new recorded_then recorded_now : ℕ → ℕ → Perm) (block client : ℕ) (given : Perm)
    → perm_new block client ≡ given
    → ((b c : ℕ) → (b ≢ block) ⊎ (c ≢ client) → perm_new b c ≡ perm_old b c)
    → ((b c : ℕ) → perm_old b c ≡ recorded_then b c)
    → ((b c : ℕ) → recorded_now b c ≡ (if (client == c) && (block == b) then given else recorded_then b c)) → (b c : ℕ)
    → perm_new b c ≡ recorded_now b c
records-set perm_old perm_new recorded_then recorded_now block client given here others before now b c =
    go (cases_eq c client) (cases_eq b block) ∙ sym (now b c)
  where
    go : (c ≡ client) ⊎ (c ≡ client → ⊥) → (b ≡ block) ⊎ (b ≡ block → ⊥)
        → perm_new b c ≡ (if (client == c) && (block == b) then given else recorded_then b c)
    go (inl e) (inl f) = rw (e, f, eq-eqb client client refl, eq-eqb block block refl) here
    go (inl e) (inr g) = rw (eq-eqb client c (sym e), ne_eqb block b (λ i. g (sym i))) (others b c (inl g) ∙ before b c)
    go (inr g) f = rw (ne_eqb client c (λ i. g (sym i))) (others b c (inr g) ∙ before b c)

pub block_state-granted : {w : ℕ} {D : Type 0} (perm_of : D → ℕ → ℕ → Perm) (config : Config) (old new : BlockState w D)
    (number : ℕ) (link : Link) (request : MessageA w)
    (held : Perm) (unheld : Bool) (given : Cap) (bytes : Option (List ℕ)) (t : Trace w) (memory : Memory)
    → is_acquire request.opcode ≡ true → new.profile ≡ old.profile → new.blocks ≡ old.blocks
    → new.trackers.count ≡ old.trackers.count
    → ((n : ℕ) → tracker_at new.trackers n ≡ (if number == n then Granted link (block_at request.address) else
    tracker_at old.trackers n))
    → held ≡ perm_of old.directory (block_at request.address) link.0
    → unheld ≡ is_unheld config (block_at request.address) t
    → given ≡ cap_granted old.profile request.opcode request.param unheld
    → bytes ≡ (if is_granted_data request.opcode request.param held then Some
    (bytes_from memory (64 * block_at request.address) 64) else None)
    → perm_of new.directory (block_at request.address) link.0 ≡ cap_right given
    → ((b c : ℕ) → (b ≢ block_at request.address) ⊎ (c ≢ link.0) → perm_of new.directory b c ≡ perm_of old.directory b
    c)
    → IsReadyAt config number link request t → IsBlockStateWithout number perm_of config old t memory
    → IsDone perm_of config new ((link, grant_of request.source number given bytes) ∷ []) t
    (performed config (service_with number link request) t memory)
unfolding with_handed
block_state-granted {w} {D} perm_of config old new number link request held unheld given bytes t memory acquires profile
    blocks count trackers held_is unheld_is given_is bytes_is here others at block_state =
    let reaction_is = performed-acquire config s t memory acquires in (
      ap (λ (m : Message w). (link, m) ∷ []) grant_made ∙ sym (ap (λ (d : Reaction w). d.handed) reaction_is),
      record {
        profile = profile ∙ block_state.profile;
        count = count ∙ block_state.count;
        tracked = λ i all. tracker-changed number i (Granted link (block_at request.address)) (tracker_at new.trackers)
            (tracker_at old.trackers) t u trackers granted
            (λ n other ok. tracked-performed config (block_at request.address) n s (tracker_at old.trackers n) t memory
            at.ready other ok) block_state.tracked;
        records =
            records-set (perm_of old.directory) (perm_of new.directory) (λ b c. recorded c b t) (λ b c. recorded c b u)
            (block_at request.address) link.0 (cap_right given) here others block_state.records
            (λ b c. ap (λ (d : Reaction w). recorded c b (with_handed d.handed t)) reaction_is ∙ recorded-grant config
            number link request t memory c b at
            ∙ ap (λ (k : Cap). if (link.0 == c) && (block_at request.address == b) then cap_right k else recorded c b t)
            (sym cap_is));
        bytes = rw blocks (subst (λ m. AreBlocks old.blocks.bytes.items m)
            (sym (ap (λ (d : Reaction w). d.memory) reaction_is)) block_state.bytes);
      },
    )
  where
    s : Service w
    s = service_with number link request

    u : Trace w
    u = with_handed (performed config s t memory).handed t

    cap_is : given ≡ cap_granted config.profile request.opcode request.param
        (is_unheld config (block_at request.address) t)
    cap_is = given_is ∙ ap (λ p. cap_granted p request.opcode request.param unheld) block_state.profile ∙ ap
        (cap_granted config.profile request.opcode request.param) unheld_is

    carries_is : is_granted_data request.opcode request.param held ≡ is_granted_data request.opcode request.param
        (recorded link.0 (block_at request.address) t)
    carries_is = ap (is_granted_data request.opcode request.param)
        (held_is ∙ block_state.records (block_at request.address) link.0)

    grant_made : grant_of request.source number given bytes ≡ grant config s t memory
    grant_made =
        grant-parts s given (is_granted_data request.opcode request.param held) memory bytes bytes_is
        ∙ ap (λ (k : Cap). grant_with s k (is_granted_data request.opcode request.param held) memory) cap_is
        ∙ ap (λ (b : Bool). grant_with s (cap_granted config.profile request.opcode request.param
        (is_unheld config (block_at request.address) t)) b memory) carries_is

    granted : IsTracked number (Granted link (block_at request.address)) u
    granted = record {
      request = request;
      block_is = refl;
      serves = ap (service_of_block (block_at request.address)) (performed-services config (block_at request.address) s
          t memory at.ready ∙ rw acquires refl) ∙ at.ready.serves;
      granted = now;
    }
      where
        now : is_granted (with_handed (performed config s t memory).handed t) s ≡ true
        now =
            let m = grant_is config s t memory in
            let grants : IsGrant (block_at request.address) s m.0 t =
            record {
              reply = reply_of config (block_at request.address) s m.0 t at.ready m.3 m.4;
              grants = m.2;
              sink =
                  m.5;
              acquires = acquires;
            } in
            ap (λ (d : Reaction w). is_granted (with_handed d.handed t) s)
            (performed-acquire config s t memory acquires)
            ∙ subst (λ (i : Message w). is_granted (after_sent link i t) s ≡ true) (sym m.1)
            (granted-now (block_at request.address) s m.0 t grants)
