use Rattle.std.proofs.Common.{ap, ◌∙◌}
use Rattle.std.specs.Prelude.{is_some}
use Rattle.tl_monitor.proofs.LooksUp.{request-pending, release-pending, grant-pending, probe-pending}
use Rattle.tl_monitor.proofs.past.KeptUnderPastUnder.is_pending.Goals as goal

pub returns-in-RequestSource : goal.returns-in-RequestSource
returns-in-RequestSource g c = λ lib t known.
    rw c.in-RequestSource.is (c.is_some.ensures ∙ ap is_some c.get.ensures ∙ request-pending c.args.self.now.state.now t
    c.in-RequestSource.source known.1)

pub returns-in-ReleaseSource : goal.returns-in-ReleaseSource
returns-in-ReleaseSource g c = λ lib t known.
    rw c.in-ReleaseSource.is (c.is_some-in-ReleaseSource.ensures ∙ ap is_some c.get-in-ReleaseSource.ensures
    ∙ release-pending c.args.self.now.state.now t c.in-ReleaseSource.source known.1)

pub returns-in-GrantAckOf : goal.returns-in-GrantAckOf
returns-in-GrantAckOf g c = λ lib t known.
    rw c.in-GrantAckOf.is (c.is_some-in-GrantAckOf.ensures ∙ ap (λ b. is_some b.grant) c.get-in-GrantAckOf.ensures
    ∙ grant-pending c.args.self.now.state.now t c.in-GrantAckOf.block known.1)

pub returns-in-ProbeOf : goal.returns-in-ProbeOf
returns-in-ProbeOf g c = λ lib t known.
    rw c.in-ProbeOf.is (c.is_some-in-ProbeOf.ensures ∙ ap (λ b. is_some b.probe) c.get-in-ProbeOf.ensures
    ∙ probe-pending c.args.self.now.state.now t c.in-ProbeOf.block known.1)
