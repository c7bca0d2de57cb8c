-- What a response may bring that begins, by the state of its block.
use Rattle.tl_memory.proofs.Imports.{OpD, Request, Trace, Access, KnowsGrant, Expected, ExpectsGrant, ExpectsRead}
use Rattle.tl_memory.proofs.Imports.{ExpectsAgain, ExpectsLater, ExpectsResponse, AnyIsTo, Expects, is_of}
use Rattle.tl_memory.proofs.Imports.{pending_accesses}
use Rattle.std.proofs.Common.{◌≡◌, ℕ, ◌*◌, ◌/◌, refl}
use Rattle.std.specs.Prelude.{find}
use Rattle.std.{specs.Prelude.Option, specs.Prelude.Some, specs.Prelude.None, proofs.lemmas.Bool.eqb-true}

pub grant-begun : {w : ℕ} (expected : Expected) (n block : ℕ) (o : Option Request) (asked : Request) (t : Trace w)
    → o ≡ Some asked → asked.block ≡ block → expected.address ≡ 64 * block → expected.size ≡ 6
    → KnowsGrant expected.bytes n block t → ExpectsGrant (Some expected) n o t
grant-begun expected n block o asked t open' here address size known = rw (open', here) (address, size, known)

pub read-begun : {w : ℕ} (expected : Option Expected) (n block : ℕ) (o : Option (Access w)) (t : Trace w)
    → AnyIsTo block o → Expects expected n block o t → ExpectsRead expected n o t
read-begun None n block None t to is = tt
read-begun (Some e) n block None t to is = absurd is
read-begun expected n block (Some access) t to is = rw (eqb-true (access.request.address / 64) block to) is

pub none-begun : {w : ℕ} (opcode : OpD) (n link source : ℕ) (t : Trace w) → (opcode ≡ OpD.GrantData → ⊥)
    → (opcode ≡ OpD.AccessAckData → ⊥) → ExpectsResponse None n link opcode source t t
none-begun OpD.GrantData n link source t grant read = absurd (grant refl)
none-begun OpD.AccessAckData n link source t grant read = absurd (read refl)
none-begun v n link source t grant read = tt

-- and what one may bring whose beat it is
pub read-again : {w : ℕ} (expected : Option Expected) (opcode : OpD) (n link source : ℕ) (t : Trace w)
    → opcode ≡ OpD.AccessAckData → ExpectsAgain expected n (find (is_of link source) (pending_accesses t)) t
    → ExpectsLater expected n link opcode source t
read-again expected opcode n link source t is known = rw is known

pub none-again : {w : ℕ} (opcode : OpD) (n link source : ℕ) (t : Trace w) → (opcode ≡ OpD.AccessAckData → ⊥)
    → ExpectsLater None n link opcode source t
none-again OpD.AccessAckData n link source t read = absurd (read refl)
none-again v n link source t read = refl
