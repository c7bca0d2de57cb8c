use Rattle.std.proofs.Common.{◌∙◌, ap, codes, sym}
use Rattle.clap.specs.Words.{found_of, rows_of}
use Rattle.clap.proofs.WalkLemmas.{first_value-rows}
use Rattle.tl_words.proofs.Tasks.{form_found, no_form}
use Rattle.tl_words.specs.Tool.{flag_named}
use Rattle.tl_words.proofs.cover_words.form_in.Goals as goal

pub returns-in-Some-clause-formed : goal.returns-in-Some-clause-formed
returns-in-Some-clause-formed c =
    let found = found_of c.args.found.now in
    sym (form_found (rows_of found) c.flag_named.result c.flag_named-2.result
    (c.flag_named.ensures ∙ ap flag_named (c.get_str-tables.ensures ∙ first_value-rows found (codes "tables")))
    (c.flag_named-2.ensures ∙ ap flag_named (c.get_str-json.ensures ∙ first_value-rows found (codes "json"))))
    ∙ sym c.form_of.ensures ∙ c.in-Some.is

pub returns-in_ok-both_forms-in-None-clause-wrong : goal.returns-in_ok-both_forms-in-None-clause-wrong
returns-in_ok-both_forms-in-None-clause-wrong c =
    let found = found_of c.args.found.now in (
      no_form (rows_of found) (sym (form_found (rows_of found) c.flag_named.result c.flag_named-2.result
          (c.flag_named.ensures ∙ ap flag_named (c.get_str-tables.ensures ∙ first_value-rows found (codes "tables")))
          (c.flag_named-2.ensures ∙ ap flag_named (c.get_str-json.ensures ∙ first_value-rows found (codes "json"))))
          ∙ sym c.form_of.ensures ∙ c.in-None.is),
      c.in_ok-both_forms-in-None.ensures,
    )
