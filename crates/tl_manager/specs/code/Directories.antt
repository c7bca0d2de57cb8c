-- What each directory records, and how many blocks and clients it covers.
use Rattle.std.specs.Prelude.{ℕ, length}
use Rattle.tl_params.specs.declared.perm.Perm.{Perm}
use Rattle.tl_manager.specs.declared.bits.BitDirectory.{BitDirectory}
use Rattle.tl_manager.specs.declared.table.TableDirectory.{TableDirectory}
use Rattle.tl_manager.specs.code.Held.{perm_of_words}
use Rattle.tl_manager.specs.code.Table.{perm_of_rows}

-- ---- of words

abbrev pub perm_of_bits : BitDirectory → ℕ → ℕ → Perm
perm_of_bits d = perm_of_words d.words.items

abbrev pub blocks_of_bits : BitDirectory → ℕ
blocks_of_bits d = length d.words.items

abbrev pub clients_of_bits : BitDirectory → ℕ
clients_of_bits d = d.clients

-- ---- of rows

abbrev pub perm_of_table : TableDirectory → ℕ → ℕ → Perm
perm_of_table d = perm_of_rows d.rows.items

abbrev pub blocks_of_table : TableDirectory → ℕ
blocks_of_table d = length d.rows.items

abbrev pub clients_of_table : TableDirectory → ℕ
clients_of_table d = d.clients
