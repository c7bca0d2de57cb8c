use Rattle.std.proofs.Common.{◌≡◌, true, false, ap, sym, ◌∙◌}
use Rattle.tl_beat.specs.statement.Opcode.{c_carries_data}
use Rattle.tl_rules.specs.statement.Liberties.{reports_none}
use Rattle.tl_partner.proofs.partner.Partner.write_back.Goals as goal

pub returns-then-reports_none-clause-knows : goal.returns-then-reports_none-clause-knows
returns-then-reports_none-clause-knows g c = λ config e k x beats is.
    let none : reports_none x.param ≡ true =
    ap reports_none (sym is.param) ∙ sym c.reports_none.ensures ∙ c.if-reports_none.true in
    rw (none, ← is.address, ← c.block_at-block.ensures) (c.forget.ensures.knows config e k)

pub returns-then-not-carries_data-clause-knows : goal.returns-then-not-carries_data-clause-knows
returns-then-not-carries_data-clause-knows g c = λ config e k x beats is.
    let some : reports_none x.param ≡ false =
    ap reports_none (sym is.param) ∙ sym c.reports_none.ensures ∙ c.if-reports_none.false in
    let bare : c_carries_data x.opcode ≡ false =
    ap c_carries_data (sym is.opcode) ∙ sym c.carries_data.ensures ∙ c.if-not-carries_data.true in
    rw (some, bare) k

pub returns-clause-knows : goal.returns-clause-knows
returns-clause-knows g c = λ config e k x beats is.
    let some : reports_none x.param ≡ false =
    ap reports_none (sym is.param) ∙ sym c.reports_none.ensures ∙ c.if-reports_none.false in
    let full : c_carries_data x.opcode ≡ true =
    ap c_carries_data (sym is.opcode) ∙ sym c.carries_data.ensures ∙ c.if-not-carries_data.false in
    rw (some, full, ← is.address, ← is.payload, ← c.block_at-block.ensures) (c.write_block.ensures config e k)
