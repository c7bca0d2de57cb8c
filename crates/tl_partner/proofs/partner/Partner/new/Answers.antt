use Rattle.std.proofs.Common.{◌∙◌, ap, [], length}
use Rattle.std.specs.Prelude.{replicate}
use Rattle.std.proofs.lemmas.List.{length-replicate}
use Rattle.tl_partner.proofs.partner.Partner.new.Goals as goal

pub returns : goal.returns
returns g c = record {
  new = (
    record {
      knows = c.in_ok-lenient.ensures.new.0;
      same = c.in_ok-cleanings.ensures ∙ ap (λ n. replicate n []) c.len.ensures.value;
      count = length-replicate (length c.args.config.now.clients.items) [];
    },
    c.in_ok-lenient.ensures.new.1,
  );
}
