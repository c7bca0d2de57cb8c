use Rattle.std.proofs.Common.{rules, ap, refl, sym, ◌≡◌, false, true}
use Rattle.tl_rules.specs.statement.Admission.{is_spoiled, lanes_of}
use Rattle.tl_bytes.proofs.Brought.{lanes-brought, none-brought}
use Rattle.tl_bytes.proofs.carried.CarriedBytes.bring.Goals as goal

pub returns-then-is_spoiled-clause-bytes : goal.returns-then-is_spoiled-clause-bytes
returns-then-is_spoiled-clause-bytes g c = λ burst k.
    let x = c.args.beat.now in
    let spoiled : is_spoiled x ≡ true = search rules in
    none-brought c.args.self.now x burst k (rw spoiled refl)

pub returns-in-A-clause-bytes : goal.returns-in-A-clause-bytes
returns-in-A-clause-bytes g c = λ burst k.
    let sound : is_spoiled c.args.beat.now ≡ false = search rules in
    lanes-brought c.args.self.now c.put_data.new.self.bytes c.args.beat.now burst _ k sound
    (ap lanes_of (sym c.in-A.is)) c.put_data.ensures.bytes

pub returns-in-B-clause-bytes : goal.returns-in-B-clause-bytes
returns-in-B-clause-bytes g c = λ burst k.
    let sound : is_spoiled c.args.beat.now ≡ false = search rules in
    lanes-brought c.args.self.now c.put_data-in-B.new.self.bytes c.args.beat.now burst _ k sound
    (ap lanes_of (sym c.in-B.is)) c.put_data-in-B.ensures.bytes

pub returns-in-C-clause-bytes : goal.returns-in-C-clause-bytes
returns-in-C-clause-bytes g c = λ burst k.
    let sound : is_spoiled c.args.beat.now ≡ false = search rules in
    lanes-brought c.args.self.now c.put_data-in-C.new.self.bytes c.args.beat.now burst _ k sound
    (ap lanes_of (sym c.in-C.is)) c.put_data-in-C.ensures.bytes

pub returns-in-D-clause-bytes : goal.returns-in-D-clause-bytes
returns-in-D-clause-bytes g c = λ burst k.
    let sound : is_spoiled c.args.beat.now ≡ false = search rules in
    lanes-brought c.args.self.now c.put_data-in-D.new.self.bytes c.args.beat.now burst _ k sound
    (ap lanes_of (sym c.in-D.is)) c.put_data-in-D.ensures.bytes

pub returns-in-E-clause-bytes : goal.returns-in-E-clause-bytes
returns-in-E-clause-bytes g c = λ burst k. none-brought c.args.self.now c.args.beat.now burst k (rw c.in-E.is refl)
