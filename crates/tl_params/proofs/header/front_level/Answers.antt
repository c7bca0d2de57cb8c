use Rattle.tl_params.proofs.Headers.{level_spelled}
use Rattle.tl_params.proofs.header.front_level.Goals as goal

pub returns : goal.returns
returns c = level_spelled c.args.bytes.now c.read_level.result c.read_level.ensures
