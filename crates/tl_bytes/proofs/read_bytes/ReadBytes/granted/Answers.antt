use Rattle.std.proofs.Common.{ap, ◌∙◌, ◌||◌}
use Rattle.tl_bytes.{specs.code.Tellings.left_as, specs.statement.Bytes.told_as, specs.statement.Known.may_bring}
use Rattle.tl_bytes.{specs.statement.Known.tellings_of, proofs.Reading.granted-is}
use Rattle.tl_bytes.proofs.read_bytes.ReadBytes.granted.Goals as goal

pub returns : goal.returns
returns c = λ w n number t k written at v lt.
    let block = c.args.block.now in
    let writes = c.args.writes.now in
    granted-is n number t block writes at v (may_bring c.find.new.self at v)
    (c.in_ok-find.ensures at v lt
    ∙ ap (λ b. b || (told_as v (tellings_of block at) || left_as at v writes)) (c.none-read.ensures at v)) k written lt
