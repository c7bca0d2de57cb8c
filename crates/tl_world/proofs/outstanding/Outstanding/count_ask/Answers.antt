use Rattle.tl_world.proofs.outstanding.Outstanding.count_ask.Goals as goal

pub returns-clause-requests : goal.returns-clause-requests
returns-clause-requests g c = λ client.
    rw (c.starts_request.ensures client, c.ends_request.ensures) at c.after-self.ensures

pub returns-clause-releases : goal.returns-clause-releases
returns-clause-releases g c = λ client.
    rw (c.starts_release.ensures client, c.ends_release.ensures) at c.after-self-2.ensures
