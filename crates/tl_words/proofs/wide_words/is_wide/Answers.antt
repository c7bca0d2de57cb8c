use Rattle.std.proofs.Common.{◌≡◌, ◌∙◌, ap, codes, rules, true}
use Rattle.std.specs.Str.{bytes_eq}
use Rattle.clap.specs.Words.{found_of}
use Rattle.clap.proofs.WalkLemmas.{first_value-rows}
use Rattle.tl_words.specs.Tool.{flag_named}
use Rattle.tl_words.proofs.wide_words.is_wide.Goals as goal

pub returns-then-eq : goal.returns-then-eq
returns-then-eq c =
    let same : bytes_eq c.args.name.now (codes "decode") ≡ true = search rules in
    rw same (c.flag_named.ensures
    ∙ ap flag_named (c.get_str.ensures ∙ first_value-rows (found_of c.args.found.now) (codes "wide")))
