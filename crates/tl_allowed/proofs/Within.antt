-- A set of liberties is within the same set with one more.
use Rattle.std.proofs.Common.{refl}
use Rattle.tl_params.specs.declared.liberties.Liberties.{Liberties}
use Rattle.tl_params.specs.declared.liberties.Liberty.{Liberty}
use Rattle.tl_params.specs.declared.liberties.Liberty.TheVariants.{Ids, Sinks, Writer, Early, Drops, Reports, Denied}
use Rattle.tl_params.specs.declared.liberties.Liberty.TheVariants.{Uncorrupt}
use Rattle.tl_params.specs.statement.Liberties.{with_liberty}
use Rattle.tl_forgiving.specs.statement.Forgiving.{IsWithin}

pub within : (l : Liberties) (one : Liberty) → IsWithin l (with_liberty one l)
within l Ids Ids e = refl
within l Ids Sinks e = e
within l Ids Writer e = e
within l Ids Early e = e
within l Ids Drops e = e
within l Ids Reports e = e
within l Ids Denied e = e
within l Ids Uncorrupt e = e
within l Sinks Ids e = e
within l Sinks Sinks e = refl
within l Sinks Writer e = e
within l Sinks Early e = e
within l Sinks Drops e = e
within l Sinks Reports e = e
within l Sinks Denied e = e
within l Sinks Uncorrupt e = e
within l Writer Ids e = e
within l Writer Sinks e = e
within l Writer Writer e = refl
within l Writer Early e = e
within l Writer Drops e = e
within l Writer Reports e = e
within l Writer Denied e = e
within l Writer Uncorrupt e = e
within l Early Ids e = e
within l Early Sinks e = e
within l Early Writer e = e
within l Early Early e = refl
within l Early Drops e = e
within l Early Reports e = e
within l Early Denied e = e
within l Early Uncorrupt e = e
within l Drops Ids e = e
within l Drops Sinks e = e
within l Drops Writer e = e
within l Drops Early e = e
within l Drops Drops e = refl
within l Drops Reports e = e
within l Drops Denied e = e
within l Drops Uncorrupt e = e
within l Reports Ids e = e
within l Reports Sinks e = e
within l Reports Writer e = e
within l Reports Early e = e
within l Reports Drops e = e
within l Reports Reports e = refl
within l Reports Denied e = e
within l Reports Uncorrupt e = e
within l Denied Ids e = e
within l Denied Sinks e = e
within l Denied Writer e = e
within l Denied Early e = e
within l Denied Drops e = e
within l Denied Reports e = e
within l Denied Denied e = refl
within l Denied Uncorrupt e = e
within l Uncorrupt Ids e = e
within l Uncorrupt Sinks e = e
within l Uncorrupt Writer e = e
within l Uncorrupt Early e = e
within l Uncorrupt Drops e = e
within l Uncorrupt Reports e = e
within l Uncorrupt Denied e = e
within l Uncorrupt Uncorrupt e = refl
