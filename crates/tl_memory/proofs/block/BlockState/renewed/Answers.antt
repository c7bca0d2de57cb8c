use Rattle.tl_memory.proofs.block.BlockState.renewed.Goals as goal

pub returns : goal.returns
returns g c =
    let copied = c.in_ok-append_renewed.ensures in
    rw (copied.1, c.new-copies.ensures.items) (rw (c.as_slice.ensures.value, c.as_slice-2.ensures.value) at copied.2)
