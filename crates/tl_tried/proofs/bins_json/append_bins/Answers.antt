use Rattle.tl_tried.proofs.Joined.{joined}
use Rattle.tl_tried.proofs.bins_json.append_bins.Goals as goal

pub returns : goal.returns
returns c = joined c.args.out.now.items _ _ _ _ _ _ c.in_ok-extend_from_slice.ensures.items c.in_ok-append_all.ensures
    c.in_ok-extend_from_slice-2.ensures.items
