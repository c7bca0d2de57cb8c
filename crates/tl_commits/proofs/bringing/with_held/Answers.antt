use Rattle.std.proofs.Common.{arith, ap, ap₂, length, sym, ◌∙◌, ◌+◌, ◌||◌, not}
use Rattle.std.proofs.lemmas.List.{get_or-replicate}
use Rattle.tl_memory.specs.code.ByteSet.{has, has_at, nothing}
use Rattle.tl_commits.specs.code.GivingBack.{is_seen}
use Rattle.tl_commits.specs.statement.Copies.{holds, holds_trunk, link_beats}
use Rattle.tl_memory.proofs.values.ByteSets.{any-or, none-or}
use Rattle.tl_commits.proofs.LoadedBytes.{address-from, block-from, have-known, have-none, have-unknown}
use Rattle.tl_commits.proofs.bringing.with_held.Goals as goal

pub returns-then-not-holds : goal.returns-then-not-holds
returns-then-not-holds g c = λ levels l complete e j lt k all i v few room small.
    let past = link_beats c.args.link.0 e in
    let is = c.holds.ensures levels l e j lt
    ∙ ap (λ b. holds b past) (c.block_at-block.ensures ∙ block-from c.args.address i room) in
    none-or (has_at c.args.sets i v) (have-none complete (length levels) c.args.link.0 (c.args.address + i) v e
    (sym is ∙ c.if-not-holds.true))

pub returns-then-not-known : goal.returns-then-not-known
returns-then-not-known g c = λ levels l complete e j lt k all i v few room small.
    let past = link_beats c.args.link.0 e in
    let here = c.block_at-block.ensures ∙ block-from c.args.address i room in
    let is = c.holds.ensures levels l e j lt ∙ ap (λ b. holds b past) here in
    let known = c.either-known.ensures ∙ ap₂ (λ a b. a || not b) all
    (c.holds_trunk.ensures levels l e j lt ∙ ap (λ b. holds_trunk b past) here) in
    any-or (has_at c.args.sets i v)
    (ap (λ s. has s v) (get_or-replicate 8 i c.all.result nothing few) ∙ c.all.ensures v small)
    (have-unknown complete (length levels) c.args.link.0 (c.args.address + i) v e (sym is ∙ c.if-not-holds.false)
    (sym known ∙ c.if-not-known.true))

pub returns : goal.returns
returns g c = λ levels l complete e j lt k all i v few room small.
    let past = link_beats c.args.link.0 e in
    let address = c.args.address in
    let here = c.block_at-block.ensures ∙ block-from address i room in
    let is = c.holds.ensures levels l e j lt ∙ ap (λ b. holds b past) here in
    let known = c.either-known.ensures ∙ ap₂ (λ a b. a || not b) all
    (c.holds_trunk.ensures levels l e j lt ∙ ap (λ b. holds_trunk b past) here) in
    c.with_seen.ensures g.row.W complete (length levels) e k i v few (omega (arith, room)) small
    ∙ ap (λ b. has_at c.args.sets i v || b)
    (ap (λ a. is_seen complete (length levels) e a v) (rw c.block_at-block.ensures (address-from address i))
    ∙ have-known complete (length levels) c.args.link.0 (address + i) v e (sym is ∙ c.if-not-holds.false)
    (sym known ∙ c.if-not-known.false))
