use Rattle.std.proofs.Common.{refl, sym, ◌∙◌}
use Rattle.tl_bytes.{specs.code.Tellings.telling_at, proofs.Offered.first-found}
use Rattle.tl_bytes.proofs.read_bytes.ReadBytes.find_latest.Goals as goal

pub returns : goal.returns
returns c = λ at v lt. first-found c.args.self.now _ c.args.latest.now.values at v
    (telling_at c.args.latest.now at).value (sym c.is_some.ensures ∙ c.if-is_some.false) refl refl refl
