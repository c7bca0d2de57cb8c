use Rattle.tl_evidence.proofs.recording.push.Goals as goal

pub returns-in-Ok : goal.returns-in-Ok
returns-in-Ok g c = λ on levels complete may e k. c.in-Ok.ensures.knows levels complete may e k c.requires.valid
