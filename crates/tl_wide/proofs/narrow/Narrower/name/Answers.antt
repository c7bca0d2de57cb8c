use Rattle.std.proofs.Common.{refl}
use Rattle.tl_wide.proofs.narrow.Narrower.name.Goals as goal

pub returns-in-A : goal.returns-in-A
returns-in-A g c = λ t f. rw c.in-A.is (c.request.ensures g.row.W c.in-A.x t refl refl f)

pub returns-in-B : goal.returns-in-B
returns-in-B g c = λ t f. rw c.in-B.is (c.message.ensures.b g.row.W c.in-B.x t refl refl f)

pub returns-in-C : goal.returns-in-C
returns-in-C g c = λ t f. rw c.in-C.is (c.message-in-C.ensures.c g.row.W c.in-C.x t refl refl f)

pub returns-in-D : goal.returns-in-D
returns-in-D g c = λ t f. rw c.in-D.is (c.response.ensures g.row.W c.in-D.x t refl refl f)

pub returns-in-E : goal.returns-in-E
returns-in-E g c = λ t f. rw c.in-E.is (c.acknowledgement.ensures g.row.W c.in-E.x t refl f)
