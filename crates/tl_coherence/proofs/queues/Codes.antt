-- What the opcodes and the parameters of a message say.
use Rattle.std.proofs.Common.{Bool, Some, false, true, ℕ, ◌≡◌, arith}
use Rattle.tl_coherence.proofs
use proofs.Imports.{OpA, OpD, Cap, Grow, Perm, Profile, cap_code, cap_of, cap_right, grow_code, same_perm, is_acquire}
use proofs.Imports.{is_grant, is_release_ack, grant_opcode, cap_probed, is_access_answer, same_cap, is_granted_data}
use proofs.Imports.{acquire_opcode, gift}
use Rattle.tl_manager.specs.statement.Handing as handing

-- ---- opcodes

pub grants-so : (b : Bool) → is_grant (grant_opcode b) ≡ true
grants-so b = grind arith

pub acquires-so : (whole : Bool) → is_acquire (acquire_opcode whole) ≡ true
acquires-so whole = grind arith

pub access_kind : (o : OpD) → is_access_answer o ≡ true → (is_grant o ≡ false) × (is_release_ack o ≡ false)
access_kind o e = grind arith

-- ---- caps

pub cap-again : (k : Cap) → cap_of (cap_code k) ≡ Some k
cap-again k = grind arith

pub low_cap : (o : OpA) (param : ℕ) (k : Cap) → cap_probed o param ≡ Some k → same_cap k Cap.ToT ≡ false
low_cap o param k e = grind arith

-- a Grant gives something
pub gives-some : (p : Profile) (whole : Bool) (g : Grow) (unheld : Bool)
    → same_perm (cap_right (gift p whole g unheld)) Perm.None ≡ false
gives-some p whole g unheld = grind arith

-- it carries the block where the protocol says so
pub data-same : (whole : Bool) (g : Grow) (p : Perm) → handing.is_granted_data (acquire_opcode whole) (grow_code g)
    p ≡ is_granted_data whole g p
data-same whole g p = grind arith
