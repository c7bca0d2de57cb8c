use Rattle.std.proofs.Common.{◌≡◌, ◌++◌, map, drop}
use Rattle.arrayvec.specs.ArrayVec.{array_vec_len}
use Rattle.tl_pictures.specs.statement.Configured.{client_at}
use Rattle.tl_pictures.proofs.config.config_of.Given as goal

abbrev pub invariant-loop-link : goal.invariant-loop-link
invariant-loop-link l = record {
  items : l.clients.items ++ map client_at (drop l.link-index l.links) ≡ map client_at l.links;
  count : array_vec_len l.clients ≡ l.link-index;
}
