use Rattle.tl_commits.proofs.reading.Reading.note.Goals as goal

pub returns-in-A : goal.returns-in-A
returns-in-A g c = rw c.in-A.is c.ask.ensures

pub returns-in-D : goal.returns-in-D
returns-in-D g c = rw c.in-D.is c.answer.ensures
