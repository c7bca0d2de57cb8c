-- How a beat is answered that was judged, and that a manager is one afterwards.
use Rattle.tl_manager.proofs.Imports.{Beat, Link, Channel, Config, Perm, Rule, admission_of, Knows, reaction, End}
use Rattle.tl_manager.proofs.Imports.{Judgement, Breaks, Waits, Passes, Refused, Stalled, Sent, judged, refused, taken}
use Rattle.tl_manager.proofs.Imports.{offered_as, offered, ManagerState}
use Rattle.std.proofs.Common.{◌≡◌, ℕ, Ok, Err, refl, arith}
use Rattle.tl_manager.{specs.code.Knows.IsManager, specs.declared.manager.admission.Admission.Admission}

pub offered-broken : {w : ℕ} (config : Config) (link : Link) (ch : Channel) (x : Beat w) (e : End w) (rule : Rule)
    → Err rule ≡ admission_of (judged config link ch x e)
    → offered config link ch x e ≡ (Refused rule, refused link e)
unfolding offered
offered-broken {w} config link ch x e rule is = go (judged config link ch x e) is
  where
    go : (j : Judgement) → Err rule ≡ admission_of j → offered_as j config link x e ≡ (Refused rule, refused link e)
    go (Breaks r) f = let same : r ≡ rule = cc in rw same refl
    go v f = absurd cc

pub offered-waits : {w : ℕ} (config : Config) (link : Link) (ch : Channel) (x : Beat w) (e : End w) (a : Admission)
    → a ≡ Admission.Waits → Ok a ≡ admission_of (judged config link ch x e)
    → offered config link ch x e ≡ (Stalled, e)
unfolding offered
offered-waits {w} config link ch x e a waits is = go (judged config link ch x e) (rw waits at is)
  where
    go : (j : Judgement) → Ok Admission.Waits ≡ admission_of j → offered_as j config link x e ≡ (Stalled, e)
    go Waits f = refl
    go v f = absurd cc

pub offered-passes : {w : ℕ} (config : Config) (link : Link) (ch : Channel) (x : Beat w) (e : End w) (a : Admission)
    → a ≡ Admission.Passes → Ok a ≡ admission_of (judged config link ch x e)
    → offered config link ch x e ≡ (Sent (reaction config link x e).handed, taken link x (reaction config link x e) e)
unfolding offered
offered-passes {w} config link ch x e a passes is = go (judged config link ch x e) (rw passes at is)
  where
    go : (j : Judgement) → Ok Admission.Passes ≡ admission_of j
        → offered_as j config link x e ≡ (
          Sent (reaction config link x e).handed,
          taken link x
              (reaction config link x e) e,
        )
    go Passes f = refl
    go v f = absurd cc

-- ---- it knows some end

pub manager-after : {w : ℕ} {M : Type 0} (perm_of : M → ℕ → ℕ → Perm) (blocks_of clients_of : M → ℕ)
    (old new : ManagerState w M) (e : End w) → (known : IsManager perm_of blocks_of clients_of old)
    → Knows perm_of new known.config e
    → blocks_of new.block_state.directory ≡ blocks_of old.block_state.directory
    → clients_of new.block_state.directory ≡ clients_of old.block_state.directory
    → IsManager perm_of blocks_of clients_of new
manager-after perm_of blocks_of clients_of old new e known k blocks clients =
    let was = known.knows in
    let size = k.size in
    let size_was = was.size in
    let count = k.count in
    let count_was = was.count in
    let covered = known.blocks in
    let served = known.clients in
    record {
      width = known.width;
      blocks = omega (arith, size, size_was, covered, blocks);
      clients = omega (arith, count, count_was, served, clients);
      config = known.config;
      end = e;
      knows = k;
    }
