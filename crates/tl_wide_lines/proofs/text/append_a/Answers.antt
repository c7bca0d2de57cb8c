use Rattle.std.proofs.Common.{◌∙◌, ◌/◌, ◌∷◌, [], codes}
use Rattle.std.proofs.lemmas.Result.{on_ok_weaker}
use Rattle.tl_beat.specs.statement.Digits.{bit_text, digits, lanes_text}
use Rattle.tl_beat.specs.statement.Line.{spaced}
use Rattle.tl_beat.specs.statement.Names.{a_name}
use Rattle.tl_explain.specs.statement.ParamNames.{a_param_name}
use Rattle.tl_explain.specs.statement.Text.{param_text}
use Rattle.tl_wide_lines.proofs.WideTexts.{two_fields}
use Rattle.tl_wide_lines.proofs.text.append_a.Goals as goal

pub returns : goal.returns
unfolding spaced
returns g c = on_ok_weaker c.append_tail.result (λ said. said ∙ rw (
  c.in_ok-append_number-2.ensures,
  c.in_ok-append_number.ensures,
  c.in_ok-append_head.ensures,
  c.in_ok-append_name.ensures,
  c.name.ensures,
  c.name_on_a-name.ensures,
) (two_fields c.args.out.now.items (digits 2 c.args.link.0) (32 ∷ 65 ∷ 32 ∷ []) (a_name c.args.beat.now.opcode)
    (32 ∷ []) (param_text (a_param_name c.args.beat.now.opcode c.args.beat.now.param) c.args.beat.now.param) (codes " size=") (digits 1 c.args.beat.now.size)
    (codes " source=") (digits 4 c.args.beat.now.source) (codes " address=") (digits 16 c.args.beat.now.address) (codes " mask=") (digits (g.row.W / 4) c.args.beat.now.mask) (codes " data=") (lanes_text c.args.beat.now.lanes) (codes " corrupt=")
    (bit_text c.args.beat.now.corrupt) (10 ∷ []))) c.append_tail.ensures
