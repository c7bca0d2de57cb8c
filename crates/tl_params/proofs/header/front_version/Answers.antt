use Rattle.tl_params.proofs.Headers.{version_spelled}
use Rattle.tl_params.proofs.header.front_version.Goals as goal

pub returns : goal.returns
returns c = version_spelled c.args.bytes.now c.read_version.result c.read_version.ensures
