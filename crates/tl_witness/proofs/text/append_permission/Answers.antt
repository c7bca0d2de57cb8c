use Rattle.std.proofs.Common.{◌++◌, ap, arith, ◌∙◌}
use Rattle.tl_beat.specs.statement.Digits.{digits}
use Rattle.tl_explain.specs.statement.Evidence.{mention_of}
use Rattle.tl_witness.proofs.Witnesses.{permission-told}
use Rattle.tl_witness.proofs.text.append_permission.Goals as goal

pub returns : goal.returns
returns g c = λ small.
    permission-told (g.X.Places.names c.args.places.now) c.args.link c.args.block c.saturating_mul.result
    c.args.verb.now c.args.held.now.perm
    (mention_of c.args.held.now.since) c.args.out.now.items _ _ _ _ _ _ _ _
    (omega (arith, c.saturating_mul.ensures, small))
    c.in_ok-extend_from_slice.ensures.items
    (c.in_ok-append_hex.ensures ∙ ap (λ n. c.extend_from_slice.new.self.items ++ digits 2 n) c.from.ensures)
    (c.in_ok-extend_from_slice-2.ensures.items
    ∙ ap (λ xs. c.append_hex.new.out.items ++ xs) c.as_bytes.ensures.value)
    (c.in_ok-extend_from_slice-3.ensures.items
    ∙ ap (λ xs. c.extend_from_slice-2.new.self.items ++ xs) (c.as_bytes-2.ensures.value ∙ c.perm_name.ensures))
    c.in_ok-extend_from_slice-4.ensures.items
    c.in_ok-append_place.ensures
    c.in_ok-append_since.ensures
    c.in_ok-push.ensures.items
