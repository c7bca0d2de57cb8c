-- What a table of rows says of a block and a client.
use Rattle.std.specs.Prelude.{ℕ, List, [], slice_index_or}
use Rattle.tl_params.specs.declared.perm.Perm.{Perm}
use Rattle.tl_params.specs.declared.perm.Perm.TheVariants as perm

-- the entry of a client, None past the last one
abbrev pub entry : List Perm → ℕ → Perm
entry row client = slice_index_or row client perm.None

abbrev pub perm_of_rows : List (List Perm) → ℕ → ℕ → Perm
perm_of_rows rows block client = entry (slice_index_or rows block []) client
