use Rattle.std.proofs.Common.{◌≡◌, ◌+◌, ◌*◌, ◌∷◌, arith, length}
use Rattle.tl_beat.specs.declared.beat.Link.{Link}
use Rattle.tl_events.specs.declared.commit.Event.{Event}
use Rattle.tl_commits.specs.statement.Copied.{copy_values}
use Rattle.tl_commits.specs.statement.Events.{beats_of}
use Rattle.tl_commits.specs.statement.Seen.{memory_may}
use Rattle.tl_evidence.proofs.copy_record.CopyRecord.take.Goals as goal

pub returns-clause-takes : goal.returns-clause-takes
returns-clause-takes g c = λ on may levels complete e at k.
    let r = c.args.self.now in
    let x : Link × Event g.row.W = (c.args.link, c.args.event.now) in
    let judged = c.in_ok-push.ensures c.if-not-branch.false levels complete may e k.judge_is in
    let count : c.saturating_sub-count.result ≡ length e = omega (arith, c.saturating_sub-count.ensures, at) in
    record {
      judge_is = judged;
      there = k.there;
      copy_is = c.take.ensures g.row.W
          (λ place. copy_values complete (length levels) r.link.0 (64 * r.block + place)) x e k.copy_is count
          (λ place small. c.in_ok-copy.ensures levels complete may (x ∷ e) judged k.there place small);
      memory_is = c.take-2.ensures g.row.W
          (λ place e. memory_may complete.zero (length levels) (64 * r.block + place) (beats_of e)) x e k.memory_is count
          (λ place small. c.in_ok-memory.ensures levels complete may (x ∷ e) judged place small);
    }
