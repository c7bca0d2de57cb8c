use Rattle.std.proofs.Common.{◌≡◌, ap, codes, ◌∙◌, rules}
use Rattle.std.proofs.lemmas.Bool.Decides.{Decides-eqb}
use Rattle.std.proofs.lemmas.Slice.Eq.{strip_prefix_is}
use Rattle.std.specs.Prelude.{Some, None}
use Rattle.tl_lines.proofs.LinksHeaders.{not_found}
use Rattle.tl_wide.specs.declared.width.WideWidth.TheVariants.{Eight, Sixteen, ThirtyTwo, SixtyFour}
use Rattle.tl_wide_lines.proofs.WideHeaders.{front_again, none_of}
use Rattle.tl_wide_lines.specs.code.HeadReading.{wide_front_at}
use Rattle.tl_wide_lines.proofs.header.front.Goals as goal

pub returns-in-Some-strip_prefix : goal.returns-in-Some-strip_prefix
returns-in-Some-strip_prefix c =
    ap wide_front_at (strip_prefix_is Decides-eqb c.args.line.now (codes "tltrace 5 8 ")
    (Some c.in-Some-strip_prefix.rest) c.in-Some-strip_prefix.ensures.cases)
    ∙ front_again Eight c.in-Some-strip_prefix.rest.now

pub returns-in-Some-strip_prefix-2 : goal.returns-in-Some-strip_prefix-2
returns-in-Some-strip_prefix-2 c =
    ap wide_front_at (strip_prefix_is Decides-eqb c.args.line.now (codes "tltrace 5 16 ")
    (Some c.in-Some-strip_prefix-2.rest) c.in-Some-strip_prefix-2.ensures.cases)
    ∙ front_again Sixteen c.in-Some-strip_prefix-2.rest.now

pub returns-in-Some-strip_prefix-3 : goal.returns-in-Some-strip_prefix-3
returns-in-Some-strip_prefix-3 c =
    ap wide_front_at (strip_prefix_is Decides-eqb c.args.line.now (codes "tltrace 5 32 ")
    (Some c.in-Some-strip_prefix-3.rest) c.in-Some-strip_prefix-3.ensures.cases)
    ∙ front_again ThirtyTwo c.in-Some-strip_prefix-3.rest.now

pub returns-in-Some-strip_prefix-4 : goal.returns-in-Some-strip_prefix-4
returns-in-Some-strip_prefix-4 c =
    ap wide_front_at (strip_prefix_is Decides-eqb c.args.line.now (codes "tltrace 5 64 ")
    (Some c.in-Some-strip_prefix-4.rest) c.in-Some-strip_prefix-4.ensures.cases)
    ∙ front_again SixtyFour c.in-Some-strip_prefix-4.rest.now

pub returns-in-None : goal.returns-in-None
returns-in-None c =
    let four : c.strip_prefix.result ≡ None = search rules in
    let eight : c.strip_prefix-2.result ≡ None = search rules in
    let sixteen : c.strip_prefix-3.result ≡ None = search rules in
    let thirty_two : c.strip_prefix-4.result ≡ None = search rules in
    none_of c.args.line.now
    (not_found (codes "tltrace 5 4 ") c.args.line.now c.strip_prefix.result
    (strip_prefix_is Decides-eqb c.args.line.now (codes "tltrace 5 4 ") c.strip_prefix.result
    c.strip_prefix.ensures.cases)
    four)
    (not_found (codes "tltrace 5 8 ") c.args.line.now c.strip_prefix-2.result
    (strip_prefix_is Decides-eqb c.args.line.now (codes "tltrace 5 8 ") c.strip_prefix-2.result
    c.strip_prefix-2.ensures.cases) eight)
    (not_found (codes "tltrace 5 16 ") c.args.line.now c.strip_prefix-3.result
    (strip_prefix_is Decides-eqb c.args.line.now (codes "tltrace 5 16 ") c.strip_prefix-3.result
    c.strip_prefix-3.ensures.cases) sixteen)
    (not_found (codes "tltrace 5 32 ") c.args.line.now c.strip_prefix-4.result
    (strip_prefix_is Decides-eqb c.args.line.now (codes "tltrace 5 32 ") c.strip_prefix-4.result
    c.strip_prefix-4.ensures.cases) thirty_two)
    (strip_prefix_is Decides-eqb c.args.line.now (codes "tltrace 5 64 ") None c.in-None.ensures.cases)
