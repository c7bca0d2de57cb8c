use Rattle.std.proofs.Common.{rules, arith, ◌≡◌, ◌≤◌, ◌<◌, ◌+◌, [], ◌∷◌, ◌++◌, ◌∙◌, length, length-append}
use Rattle.tl_lines.proofs.Progress.{ends_line, ends_open, feeds_line, feeds_stopped}
use Rattle.tl_lines.proofs.lines.Lines.take_line.Goals as goal

pub returns-in_default-clause-feeds : goal.returns-in_default-clause-feeds
returns-in_default-clause-feeds g c =
    let front = c.requires.0 in
    let size : length c.args.line.now ≡ length front + 1 = rw c.requires.2 (length-append front (10 ∷ [])) in
    let past : 256 < length c.args.self.now.begun.items + length c.args.line.now = search rules in
    let long : 256 ≤ length c.args.self.now.begun.items + length front = omega (arith, size, past) in
    feeds_stopped g.H.LineHandler.knows (g.H.LineHandler.tells (g.H.LineHandler.purpose c.args.self.now.handler)) _ _ _
    _ _ _ front (10 ∷ []) c.requires.2 c.requires.1 long c.stop.ensures.broken c.stop.ensures.stops

pub returns-in_default-clause-ends : goal.returns-in_default-clause-ends
returns-in_default-clause-ends g c = λ broken.
    let front = c.requires.0 in
    let size : length c.args.line.now ≡ length front + 1 = rw c.requires.2 (length-append front (10 ∷ [])) in
    let past : 256 < length c.args.self.now.begun.items + length c.args.line.now = search rules in
    let long : 256 ≤ length c.args.self.now.begun.items + length front = omega (arith, size, past) in
    ends_open g.H.LineHandler.knows g.H.LineHandler.ends _ _ _ _ front (10 ∷ []) c.requires.2 c.requires.1 long
    (rw broken at c.stop.ensures.ends)

pub returns-clause-feeds : goal.returns-clause-feeds
returns-clause-feeds g c =
    let whole : c.whole_line-whole.result.now ≡ c.args.self.now.begun.items ++ c.args.line.now =
    c.whole_line-whole.ensures ∙ rw c.as_slice.ensures.value c.in-Some.ensures in
    feeds_line g.H.LineHandler.knows (g.H.LineHandler.tells (g.H.LineHandler.purpose c.args.self.now.handler)) _ _ _ _
    _ _ c.requires c.clear.ensures (rw whole at c.in_ok-status.ensures.counts)

pub returns-clause-ends : goal.returns-clause-ends
returns-clause-ends g c = λ broken.
    let whole : c.whole_line-whole.result.now ≡ c.args.self.now.begun.items ++ c.args.line.now =
    c.whole_line-whole.ensures ∙ rw c.as_slice.ensures.value c.in-Some.ensures in
    ends_line g.H.LineHandler.knows g.H.LineHandler.ends _ _ _ _ c.requires
    (rw whole at (c.in_ok-status.ensures.ends broken))
