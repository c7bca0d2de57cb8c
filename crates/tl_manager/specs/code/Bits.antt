-- A directory of two words a block.
use Rattle.std.specs.Prelude.{ℕ, ◌==◌, if◌then◌else◌}
use Rattle.std.specs.Int.{bit_at}
use Rattle.tl_params.specs.declared.perm.Perm.{Perm}
use Rattle.tl_params.specs.declared.perm.Perm.TheVariants.{None, Branch, Trunk}

-- what two words say of a client
abbrev pub perm_in : ℕ → ℕ → ℕ → Perm
perm_in owners sharers client = if bit_at owners client == 1 then Trunk else if bit_at sharers client == 1 then Branch
    else None
