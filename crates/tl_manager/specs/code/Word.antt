-- One bit for each client.
use Rattle.std.specs.Prelude.{ℕ}
use Rattle.tl_params.specs.declared.perm.Perm.{Perm}
use Rattle.tl_params.specs.declared.perm.Perm.TheVariants.{None, Branch, Trunk}

-- 1 for Trunk
abbrev pub trunk_bit : Perm → ℕ
trunk_bit None = 0
trunk_bit Branch = 0
trunk_bit Trunk = 1

-- 1 for Branch
abbrev pub branch_bit : Perm → ℕ
branch_bit None = 0
branch_bit Branch = 1
branch_bit Trunk = 0

-- 1 for Branch and Trunk
abbrev pub copy_bit : Perm → ℕ
copy_bit None = 0
copy_bit Branch = 1
copy_bit Trunk = 1
