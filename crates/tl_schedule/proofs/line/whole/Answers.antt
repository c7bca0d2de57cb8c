use Rattle.std.proofs.Common.{refl}
use Rattle.tl_schedule.proofs.AccessBytes.{block_bytes}
use Rattle.tl_schedule.proofs.line.whole.Goals as goal

pub returns : goal.returns
returns g c =
    let bytes = block_bytes _ c.in_ok-bytes.bytes c.in_ok-bytes.ensures in
    rw (c.in_ok-block.ensures, bytes) refl
