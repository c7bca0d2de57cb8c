-- The order of permissions.
use Rattle.std.specs.Prelude.{Bool, true, false}
use Rattle.tl_params.specs.declared.perm.Perm.{Perm}
use Rattle.tl_params.specs.declared.perm.Perm.TheVariants as perm

-- the first permission is at most the second
abbrev pub perm_le : Perm → Perm → Bool
perm_le perm.None _ = true
perm_le perm.Branch perm.None = false
perm_le perm.Branch _ = true
perm_le perm.Trunk perm.Trunk = true
perm_le perm.Trunk _ = false
