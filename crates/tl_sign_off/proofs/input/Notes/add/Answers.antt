use Rattle.std.proofs.Common.{◌≡◌, ◌++◌, ◌+◌, ◌-◌, ◌∙◌, arith, length, length-append, rules, take}
use Rattle.tl_sign_off.proofs.Noted.{front_of}
use Rattle.tl_sign_off.proofs.input.Notes.add.Goals as goal

pub returns-clause-notes : goal.returns-clause-notes
returns-clause-notes c = λ input is.
    let next : c.in_ok-bytes.bytes ≡ c.args.self.now.bytes + length c.args.piece.now = search rules in
    let more : c.try_extend_from_slice.new.self.items
    ≡ c.args.self.now.front.items ++ take (256 - length c.args.self.now.front.items) c.args.piece.now = search rules in
    record {
      hashed = c.update.ensures input is.hashed;
      so_many = omega (arith, next, is.so_many, length-append input c.args.piece.now);
      front_is = more ∙ front_of c.args.self.now.front.items input c.args.piece.now is.front_is;
    }
