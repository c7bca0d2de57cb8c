use Rattle.tl_partner.proofs.lenient.Lenient.drop_copy.Goals as goal

pub returns-clause-after : goal.returns-clause-after
returns-clause-after g c = λ config e k. rw (c.release_beat-release.ensures, c.recorded.ensures config e k) at
    (c.offer_into.ensures.after config e k)
