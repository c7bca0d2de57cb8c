-- How events change what one client and one block have in flight.
use Rattle.std.specs.Prelude.{Bool, true, false, not, if◌then◌else◌}
use Rattle.tl_params.specs.declared.param.Cap.{Cap}
use Rattle.tl_params.specs.declared.param.Cap.TheVariants as cap
use Rattle.tl_params.specs.declared.param.Grow.{Grow}
use Rattle.tl_params.specs.declared.param.Grow.TheVariants as grow
use Rattle.tl_params.specs.declared.param.Prune.{Prune}
use Rattle.tl_params.specs.declared.param.Report.{Report}
use Rattle.tl_params.specs.declared.perm.Perm.{Perm}
use Rattle.tl_params.specs.declared.perm.Perm.TheVariants as perm
use Rattle.tl_params.specs.statement.Param.{cap_right, prune_right, report_right, report_at}
use Rattle.tl_rules.specs.statement.Conformance.{same_perm}
use Rattle.tl_coherence.specs.protocol.Phase.{ClientBlock, NoProbe, ProbeSent, ProbeAnswered, NoRelease, ReleaseSent}
use Rattle.tl_coherence.specs.protocol.Phase.{ReleaseAcked, NoAcquire, AcquireOpen}

-- ---- a client's operations

abbrev pub after_acquire : Bool → Grow → ClientBlock → ClientBlock
after_acquire whole g p = record p { acquiring = AcquireOpen whole g }

abbrev pub after_release : Prune → ClientBlock → ClientBlock
after_release r p = record p { letting = ReleaseSent r; held = prune_right r }

-- ---- what the manager does with a request

-- a Probe with this cap goes to one who holds so much: toB to the holder of Trunk, toN to all holders
abbrev pub is_above : Cap → Perm → Bool
is_above cap.ToN perm.None = false
is_above cap.ToN _ = true
is_above cap.ToB perm.Trunk = true
is_above _ _ = false

-- what a service leaves of one who isn't its sender
abbrev pub after_served : Cap → ClientBlock → ClientBlock
after_served k p = record p { probing = if is_above k p.recorded then ProbeSent k else p.probing }

-- the Grant carries the block: not for a store of the whole block, nor from Branch where that is recorded
abbrev pub is_granted_data : Bool → Grow → Perm → Bool
is_granted_data true g recorded = false
is_granted_data false grow.BtoT recorded = not (same_perm recorded perm.Branch)
is_granted_data false g recorded = true

abbrev pub after_grant_sent : Cap → ClientBlock → ClientBlock
after_grant_sent k p = record p { recorded = cap_right k }

-- ---- messages that are taken

abbrev pub after_probe : Cap → ClientBlock → ClientBlock
after_probe k p = record p { probing = ProbeAnswered (report_at k p.held); held = report_right (report_at k p.held) }

abbrev pub after_report : Report → ClientBlock → ClientBlock
after_report r p = record p { probing = NoProbe; recorded = report_right r }

abbrev pub after_release_taken : Prune → ClientBlock → ClientBlock
after_release_taken r p = record p { letting = ReleaseAcked; recorded = prune_right r }

abbrev pub after_release_ack : ClientBlock → ClientBlock
after_release_ack p = record p { letting = NoRelease }

abbrev pub after_grant : Cap → ClientBlock → ClientBlock
after_grant k p = record p { acquiring = NoAcquire; held = cap_right k }
