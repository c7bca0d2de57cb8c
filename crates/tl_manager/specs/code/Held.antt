-- What the words of a directory say of a block and a client.
use Rattle.std.specs.Prelude.{ℕ, List, Option, Some, None, slice_get}
use Rattle.tl_params.specs.declared.perm.Perm.{Perm}
use Rattle.tl_params.specs.declared.perm.Perm.TheVariants as perm
use Rattle.tl_manager.specs.declared.bits.Words.{Words}
use Rattle.tl_manager.specs.code.Bits.{perm_in}

abbrev pub perm_of_block : Option Words → ℕ → Perm
perm_of_block None client = perm.None
perm_of_block (Some words) client = perm_in words.owners words.sharers client

abbrev pub perm_of_words : List Words → ℕ → ℕ → Perm
perm_of_words words block client = perm_of_block (slice_get words block) client
