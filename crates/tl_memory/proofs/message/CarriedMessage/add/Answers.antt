use Rattle.std.proofs.Common.{arith, ap, ◌∙◌, ◌||◌}
use Rattle.std.specs.Prelude.{find, length}
use Rattle.tl_rules.specs.statement.Admission.{is_spoiled}
use Rattle.tl_memory.proofs.messages.Masks.{few, one_more}
use Rattle.tl_memory.proofs.message.CarriedMessage.add.Goals as goal

pub returns : goal.returns
returns g c = λ burst k room.
    let short = few g.row.W (length burst) c.requires room.0 in
    record {
      bytes_are = c.add.ensures burst k.bytes_are (omega (arith, short));
      mask_is = (c.mask_with-self.ensures burst k room).0;
      mask_below = (c.mask_with-self.ensures burst k room).1;
      spoiled_is = c.either-self.ensures ∙ ap (λ b. b || c.args.self.now.spoiled) c.is_spoiled.ensures
          ∙ ap (λ b. is_spoiled c.args.beat.now || b) k.spoiled_is
          ∙ one_more (is_spoiled c.args.beat.now) c.args.beat.now (find is_spoiled burst);
    }
