use Rattle.std.proofs.Common.{rules, arith, ◌≤◌, ◌+◌, [], length, refl, sym}
use Rattle.std.proofs.lemmas.List.{append-nil}
use Rattle.tl_lines.proofs.Progress.{ends_open, feeds_kept, feeds_stopped, refused}
use Rattle.tl_lines.proofs.lines.Lines.keep.Goals as goal
use Rattle.tl_lines.proofs.lines.Lines.keep.Goals.{then-is_err-via-then-is_err}
use Rattle.tl_lines.proofs.lines.Lines.keep.Goals.{then-is_err-via-else-is_err+then-is_full}

pub returns-then-is_err-clause-feeds : goal.returns-then-is_err-clause-feeds
returns-then-is_err-clause-feeds g c =
    let long : 256 ≤ length c.args.self.now.begun.items + length c.args.rest.now = elim c.then-is_err.branch [
      | then-is_err-via-then-is_err w ↦ omega (
        arith,
        refused c.try_extend_from_slice.result (length c.args.self.now.begun.items + length c.args.rest.now)
            (search rules) c.try_extend_from_slice.ensures.variant.1,
      )
      | then-is_err-via-else-is_err+then-is_full w ↦ search rules
    ] in
    feeds_stopped g.H.LineHandler.knows (g.H.LineHandler.tells (g.H.LineHandler.purpose c.args.self.now.handler)) _ _ _ _ _ _ c.args.rest.now [] (sym (append-nil _))
    c.requires long c.stop.ensures.broken c.stop.ensures.stops

pub returns-clause-feeds : goal.returns-clause-feeds
returns-clause-feeds g c = feeds_kept g.H.LineHandler.knows (g.H.LineHandler.tells (g.H.LineHandler.purpose c.args.self.now.handler)) _ _ _ _ refl refl (search rules)
    c.requires (search rules)

pub returns-then-is_err-clause-ends : goal.returns-then-is_err-clause-ends
returns-then-is_err-clause-ends g c = λ broken.
    let long : 256 ≤ length c.args.self.now.begun.items + length c.args.rest.now = elim c.then-is_err.branch [
      | then-is_err-via-then-is_err w ↦ omega (
        arith,
        refused c.try_extend_from_slice.result (length c.args.self.now.begun.items + length c.args.rest.now)
            (search rules) c.try_extend_from_slice.ensures.variant.1,
      )
      | then-is_err-via-else-is_err+then-is_full w ↦ search rules
    ] in
    ends_open g.H.LineHandler.knows g.H.LineHandler.ends _ _ _ _ c.args.rest.now [] (sym (append-nil _)) c.requires long
    (rw broken at c.stop.ensures.ends)
