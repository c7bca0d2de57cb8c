use Rattle.tl_evidence.proofs.conviction.tell_order.Goals as goal

pub returns : goal.returns
returns g c = λ _ t link recorded of.
    let found = c.in-Some.ensures.told c.args.may t link recorded of in
    (c.in-Some.reason, found.0, found.1)
