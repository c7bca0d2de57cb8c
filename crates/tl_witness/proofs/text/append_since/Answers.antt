use Rattle.std.proofs.Common.{◌++◌, ap, ◌∙◌}
use Rattle.tl_witness.proofs.Witnesses.{since-told}
use Rattle.std.specs.Fmt.{decimal}
use Rattle.tl_witness.proofs.text.append_since.Goals as goal

pub returns-in_ok-extend_from_slice-in-Some-2 : goal.returns-in_ok-extend_from_slice-in-Some-2
returns-in_ok-extend_from_slice-in-Some-2 g c =
    since-told (g.X.Places.names c.args.places.now) c.args.since.now c.in-Some.told c.args.out.now.items _ _ _
    c.in-Some.is
    c.in_ok-extend_from_slice-in-Some.ensures.items
    (c.in_ok-append_number-in-Some.ensures ∙ ap (λ n. c.extend_from_slice.new.self.items ++ decimal n)
    (c.line_at.ensures ∙ ap (g.X.Places.names c.args.places.now).line c.from.ensures))
    (c.in_ok-extend_from_slice-in-Some-2.ensures.items
    ∙ ap (λ xs. c.append_number.new.out.items ++ xs) (c.as_bytes.ensures.value ∙ c.early.ensures))
