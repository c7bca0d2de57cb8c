use Rattle.std.proofs.Common.{◌≡◌, [], length}
use Rattle.tl_lines.proofs.Progress.{LeadsTo}
use Rattle.tl_lines.proofs.lines.Lines.judge_lines.Given as goal

abbrev pub invariant-loop-next : goal.invariant-loop-next
invariant-loop-next g l = record {
  alone : l.self.begun.items ≡ [];
  purpose : g.H.LineHandler.purpose l.self.handler ≡ g.H.LineHandler.purpose l.fn.self.handler;
  leads : LeadsTo g.H.LineHandler.knows (g.H.LineHandler.tells (g.H.LineHandler.purpose l.fn.self.handler)) l.fn.self
      l.fn.first l.fn.after l.self l.line l.rest l.fn.out.items l.out.items;
}

abbrev pub decreases-loop-next : goal.decreases-loop-next
decreases-loop-next g l = length l.rest
