-- Probes that are handed out one after another.
use Rattle.std.proofs.Common.{◌≡◌, ◌<◌, ℕ, zero, suc, ◌+◌, ◌-◌, Bool, true, false, List, [], ◌∷◌, ◌++◌, refl, ap, ◌∙◌}
use Rattle.std.proofs.Common.{subst, append-nil, append_assoc, arith}
use Rattle.std.specs.Prelude.{if◌then◌else◌}
use Rattle.std.proofs.lemmas.List.{map-append}
use Rattle.tl_beat.specs.declared.beat.Link.{Link}
use Rattle.tl_burst.specs.declared.message.Message.{Message}
use Rattle.tl_params.specs.declared.param.Cap.{Cap}
use Rattle.tl_manager.specs.statement.Handing.{Handed, probes, probe_of_block}
use Rattle.tl_manager.specs.statement.Holders.{clients_from}
use Rattle.tl_world.specs.code.Carrying.{Carries, Fit, AreKept, AreMoved}
use Rattle.tl_world.specs.declared.rings.Rings.{Rings}
use Rattle.tl_coherence.specs.statement.System.{System, with_message, with_messages}
use Rattle.tl_world.proofs.Queues.{moved-more}
use Rattle.tl_manager.proofs.messages.Messages.{clients-more}

-- first some, then those after them
clients-split : (first n m : ℕ) (test : ℕ → Bool) → clients_from first (n + m) test ≡ clients_from first n
    test ++ clients_from (first + n) m test
unfolding clients_from
clients-split first zero m test = let at : first + 0 ≡ first = omega arith in let none : 0 + m ≡ m = omega arith in
    rw (at, none) refl
clients-split first (suc n) m test =
    let at : first + suc n ≡ first + 1 + n = omega arith in
    let more : suc n + m ≡ suc (n + m) = omega arith in
    rw (at, more) (go (test first) (clients-split (first + 1) n m test))
  where
    go : (b : Bool) → clients_from (first + 1) (n + m) test ≡ clients_from (first + 1) n test ++ clients_from
        (first + 1 + n) m test
        → (if b then first ∷ clients_from (first + 1) (n + m) test else clients_from (first + 1) (n + m) test)
        ≡ (if b then first ∷ clients_from (first + 1) n test else clients_from (first + 1) n test) ++ clients_from
        (first + 1 + n) m test
    go true e = ap (λ (cs : List ℕ). first ∷ cs) e
    go false e = e

pub probes-unsent : {w : ℕ} (block : ℕ) (cap : Cap) (test : ℕ → Bool) (i : ℕ) → test i ≡ false
    → probes {w = w} block cap (clients_from 0 (i + 1) test) ≡ probes block cap (clients_from 0 i test)
probes-unsent {w} block given test i unset =
    ap (probes {w = w} block given) (clients-more i test false unset ∙ append-nil (clients_from 0 i test))

-- one more Probe
pub probe-sent : {w : ℕ} (n : ℕ) (old now new : Rings w) (s : System w) (block : ℕ) (cap : Cap) (test : ℕ → Bool)
    (i : ℕ) → i < 16 → test i ≡ true → AreKept old now
    → AreMoved n old now (with_messages (probes block cap (clients_from 0 i test)) s)
    → (Carries n now (with_messages (probes block cap (clients_from 0 i test)) s)
    → Fit n now (with_message i (probe_of_block block cap) (with_messages (probes block cap (clients_from 0 i test))
    s))
    → AreMoved n now new (with_message i (probe_of_block block cap)
    (with_messages (probes block cap (clients_from 0 i test)) s)))
    → Fit n old (with_messages (probes block cap (clients_from 0 16 test)) s)
    → AreMoved n old new (with_messages (probes block cap (clients_from 0 (i + 1) test)) s)
probe-sent {w} n old now new s block given test i below set kept first next fits =
    let first_ones = clients_from 0 i test in
    let more : clients_from 0 (i + 1) test ≡ first_ones ++ i ∷ [] = clients-more i test true set in
    let parts : 16 ≡ i + 1 + (15 - i) = omega (arith, below) in
    let at : 0 + (i + 1) ≡ i + 1 = omega arith in
    let all : clients_from 0 16 test ≡ first_ones ++ i ∷ clients_from (i + 1) (15 - i) test =
    ap (λ k. clients_from 0 k test) parts ∙ clients-split 0 (i + 1) (15 - i) test ∙ rw (at, more)
    (append_assoc first_ones (i ∷ []) (clients_from (i + 1) (15 - i) test)) in
    let before = probes {w = w} block given first_ones in
    let later = probes {w = w} block given (clients_from (i + 1) (15 - i) test) in
    let probe : Link × Message w = (record { 0 = i }, probe_of_block block given) in
    let handed : probes {w = w} block given (clients_from 0 16 test) ≡ before ++ probe ∷ later =
    ap (probes {w = w} block given) all
    ∙ map-append _ first_ones (i ∷ clients_from (i + 1) (15 - i) test) in
    let so_far : probes {w = w} block given (clients_from 0 (i + 1) test) ≡ before ++ probe ∷ [] =
    ap (probes {w = w} block given) more ∙ map-append _ first_ones (i ∷ []) in
    rw so_far (moved-more n old now new s before later probe kept first next
    (subst (λ (h : Handed w). Fit n old (with_messages h s)) handed fits))
