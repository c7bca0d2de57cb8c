use Rattle.tl_partner.proofs.Same.{with_source-made}
use Rattle.tl_partner.proofs.terms.Terms.named.Goals as goal

pub returns-in-B : goal.returns-in-B
returns-in-B g c = rw (c.in-B.is, c.if-self.true) (with_source-made c.in-B.m _ c.probe_source.result _ c.probe_source.ensures)
