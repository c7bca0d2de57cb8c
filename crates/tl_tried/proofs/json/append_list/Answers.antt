use Rattle.tl_tried.proofs.Joined.{joined}
use Rattle.tl_tried.proofs.json.append_list.Goals as goal

pub returns : goal.returns
returns c = joined c.args.out.now.items _ _ _ _ _ _ c.in_ok-extend_from_slice.ensures.items c.in_ok-append_sums.ensures
    c.in_ok-extend_from_slice-2.ensures.items
