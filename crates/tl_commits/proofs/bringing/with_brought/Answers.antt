use Rattle.std.proofs.Common.{ap, length, ◌∙◌, ◌≡◌, ◌+◌, true, false}
use Rattle.tl_memory.specs.code.ByteSet.{has_at}
use Rattle.tl_commits.specs.code.Filling.{filled}
use Rattle.tl_commits.specs.statement.Copies.{brought, link_beats}
use Rattle.tl_commits.specs.statement.Events.{beats_of}
use Rattle.tl_commits.proofs.LoadedBytes.{address-from, brings-filled}
use Rattle.tl_commits.proofs.bringing.with_brought.Goals as goal

pub returns-in_default : goal.returns-in_default
returns-in_default g c = λ levels l complete e j lt k all i v few room small.
    absurd (let no : false ≡ true = (c.in_default.ensures levels l (beats_of e) j lt).1 in cc)

pub returns : goal.returns
returns g c = λ levels l complete e j lt k all i v few room small.
    let past = link_beats c.args.link.0 e in
    let address = c.args.address in
    let messages = (c.in-Some.ensures levels l (beats_of e) j lt).0 in
    let own = has_at c.args.sets i v in
    let held = has_at c.with_held-held.result i v in
    c.with_filled.ensures past messages i v few room small
    ∙ ap (λ a. filled (brought a past) own held v) (rw c.block_at.ensures (address-from address i))
    ∙ brings-filled complete (length levels) c.args.link.0 (address + i) v e own held
    (c.with_held-held.ensures levels l complete e j lt k all i v few room small)
