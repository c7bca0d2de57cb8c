use Rattle.std.proofs.Common.{ℕ, ◌++◌, ap, ◌∙◌}
use Rattle.std.specs.Fmt.{decimal}
use Rattle.std.specs.Prelude.{codes}
use Rattle.tl_tried.proofs.Joined.{joined_four}
use Rattle.tl_tried.proofs.text.append_summary.Goals as goal

pub returns : goal.returns
returns c = joined_four c.args.out.now.items _ (codes " of ") _ _ _ _ _
    (c.in_ok-append_number.ensures ∙ ap (λ (n : ℕ). c.args.out.now.items ++ decimal n) c.seen_in.ensures)
    (c.in_ok-append_with.ensures
    ∙ ap (λ (n : ℕ). c.append_number.new.out.items ++ (codes " of " ++ decimal n)) c.all.ensures)
    c.in_ok-extend_from_slice.ensures.items
