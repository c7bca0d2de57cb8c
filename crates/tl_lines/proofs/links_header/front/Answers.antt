use Rattle.std.proofs.Common.{◌≡◌, ap, codes, ◌∙◌, rules}
use Rattle.std.proofs.lemmas.Bool.Decides.{Decides-eqb}
use Rattle.std.proofs.lemmas.Slice.Eq.{strip_prefix_is}
use Rattle.std.specs.Prelude.{Some, None}
use Rattle.tl_lines.specs.code.HeadReading.{front_at}
use Rattle.tl_params.specs.declared.width.Width.TheVariants.{Eight, Sixteen}
use Rattle.tl_lines.proofs.LinksHeaders.{front_again, none_of, not_found}
use Rattle.tl_lines.proofs.links_header.front.Goals as goal

pub returns-in-Some-strip_prefix : goal.returns-in-Some-strip_prefix
returns-in-Some-strip_prefix c =
    ap front_at (strip_prefix_is Decides-eqb c.args.line.now (codes "tltrace 4 8 ") (Some c.in-Some-strip_prefix.rest)
    c.in-Some-strip_prefix.ensures.cases) ∙ front_again Eight c.in-Some-strip_prefix.rest.now

pub returns-in-Some-strip_prefix-2 : goal.returns-in-Some-strip_prefix-2
returns-in-Some-strip_prefix-2 c =
    ap front_at (strip_prefix_is Decides-eqb c.args.line.now (codes "tltrace 4 16 ")
    (Some c.in-Some-strip_prefix-2.rest) c.in-Some-strip_prefix-2.ensures.cases)
    ∙ front_again Sixteen c.in-Some-strip_prefix-2.rest.now

pub returns-in-None : goal.returns-in-None
returns-in-None c =
    let four : c.strip_prefix.result ≡ None = search rules in
    let eight : c.strip_prefix-2.result ≡ None = search rules in
    none_of c.args.line.now
    (not_found (codes "tltrace 4 4 ") c.args.line.now c.strip_prefix.result
    (strip_prefix_is Decides-eqb c.args.line.now (codes "tltrace 4 4 ") c.strip_prefix.result c.strip_prefix.ensures.cases)
    four)
    (not_found (codes "tltrace 4 8 ") c.args.line.now c.strip_prefix-2.result
    (strip_prefix_is Decides-eqb c.args.line.now (codes "tltrace 4 8 ") c.strip_prefix-2.result
    c.strip_prefix-2.ensures.cases) eight)
    (strip_prefix_is Decides-eqb c.args.line.now (codes "tltrace 4 16 ") None c.in-None.ensures.cases)
