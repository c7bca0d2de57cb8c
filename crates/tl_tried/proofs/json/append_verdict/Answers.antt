use Rattle.std.proofs.Common.{List, ℕ, ◌++◌, ap, ◌∙◌}
use Rattle.tl_tried.proofs.Joined.{joined}
use Rattle.tl_tried.proofs.json.append_verdict.Goals as goal

pub returns : goal.returns
returns c = joined c.args.out.now.items _ _ _ _ _ _ c.in_ok-extend_from_slice.ensures.items
    (c.in_ok-extend_from_slice-2.ensures.items
    ∙ ap (λ (x : List ℕ). c.extend_from_slice.new.self.items ++ x) c.line_said.ensures)
    c.in_ok-extend_from_slice-3.ensures.items
