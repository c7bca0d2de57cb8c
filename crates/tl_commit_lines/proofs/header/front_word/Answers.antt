use Rattle.std.proofs.Common.{ap, sym, ◌∙◌}
use Rattle.std.proofs.lemmas.Bool.Decides.{Decides-eqb}
use Rattle.std.proofs.lemmas.Slice.Eq.{strip_prefix_is}
use Rattle.std.specs.Prelude.{None, Some}
use Rattle.tl_commit_lines.specs.code.HeadReading.{word_at}
use Rattle.tl_commit_lines.proofs.HeaderLinks.{no-word, word-read}
use Rattle.tl_commit_lines.proofs.header.front_word.Goals as goal

pub returns-in-Some : goal.returns-in-Some
returns-in-Some c = sym (ap (word_at c.args.word.now) (strip_prefix_is Decides-eqb c.args.bytes.now c.args.word.now
    (Some c.in-Some.rest) c.in-Some.ensures.cases) ∙ word-read c.args.word.now c.in-Some.rest.now)

pub returns-in-None : goal.returns-in-None
returns-in-None c = sym (no-word c.args.word.now c.args.bytes.now
    (strip_prefix_is Decides-eqb c.args.bytes.now c.args.word.now None c.in-None.ensures.cases))
