use Rattle.std.proofs.Common.{◌∙◌, codes}
use Rattle.clap.specs.Words.{found_of}
use Rattle.clap.proofs.WalkLemmas.{first_value-rows}
use Rattle.tl_words.proofs.Tasks.{words_alike}
use Rattle.tl_words.proofs.words.random_words.Goals as goal

pub returns : goal.returns
returns c = words_alike
    (c.get_str.ensures ∙ first_value-rows (found_of c.args.found.now) (codes "seed"))
    (c.get_str-2.ensures ∙ first_value-rows (found_of c.args.found.now) (codes "events"))
    (c.get_str-3.ensures ∙ first_value-rows (found_of c.args.found.now) (codes "clients"))
    (c.get_str-4.ensures ∙ first_value-rows (found_of c.args.found.now) (codes "blocks"))
    (c.get_str-5.ensures ∙ first_value-rows (found_of c.args.found.now) (codes "trackers"))
    (c.get_str-6.ensures ∙ first_value-rows (found_of c.args.found.now) (codes "width"))
    (c.get_str-7.ensures ∙ first_value-rows (found_of c.args.found.now) (codes "profile"))
    (c.get_str-8.ensures ∙ first_value-rows (found_of c.args.found.now) (codes "contend"))
