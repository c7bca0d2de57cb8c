use Rattle.std.proofs.Common.{◌∙◌, sym}
use Rattle.std.proofs.lemmas.Simd.{put_chunk_whole}
use Rattle.tl_burst.proofs.gather.copy_lanes.Goals as goal

pub returns : goal.returns
returns g c = put_chunk_whole c.args.place.now c.args.lanes.now (c.requires ∙ sym c.told-lanes)
