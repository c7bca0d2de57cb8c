use Rattle.std.proofs.Common.{ap, ap₂, refl, rules, sym, Bool, true, false, inl, ◌≡◌, ◌∙◌, List, map, subst}
use Rattle.std.proofs.Common.{Result, Ok, Err, codes}
use Rattle.std.specs.Prelude.{IfErr, Option, Some, None, option_map, Box, if◌then◌else◌}
use Rattle.std.specs.Result.{IsErrAnd}
use Rattle.std.specs.Box.{box_value}
use Rattle.std.specs.String.{string_bytes}
use Rattle.clap.specs.Words.{App, Row, Text, is_simple, kind_of, subcommand_of, subcommand_rows_of, rows_of, found_of}
use Rattle.clap.specs.Words.{subcommand_rows}
use Rattle.clap.specs.Matches.{subcommand_name_of}
use Rattle.clap.specs.declared.parser.matches.ArgMatches.{ArgMatches}
use Rattle.clap.specs.declared.parser.matches.ArgMatches.TheViews.{out-ArgMatches, out-SubCommand}
use Rattle.clap.specs.declared.parser.matches.SubCommand.{SubCommand}
use Rattle.clap.proofs.OnLiterals.{clap_on_literals}
use Rattle.clap.specs.Words.{takes}
use Rattle.clap.specs.declared.error.Error.{Error}
use Rattle.tl_words.specs.declared.words.WordsFault.{WordsFault}
use Rattle.tl_words.specs.declared.words.WordsFault.TheVariants as words
use Rattle.tl_words.specs.Refused.{AreRefused, IsRefusal, is_want_of_memory, words_fault}
use Rattle.tl_words.proofs.Tasks.{task_given, task_refused}
use Rattle.tl_words.specs.Tool.{tool_of}
use Rattle.tl_words.proofs.words.task_by.Goals as goal

simple : is_simple tool_of ≡ true
unfolding clap_on_literals
simple = refl

both_parts : (o : Option (Text × List Row)) (n : Text) (r : List Row) → Some n ≡ option_map (λ p. p.0) o
    → Some r ≡ option_map (λ p. p.1) o → o ≡ Some (n, r)
both_parts None n r a b = absurd cc
both_parts (Some p) n r a b = ap₂ (λ x y. Some (x, y)) (some_is a) (some_is b)
  where
    some_is : {A : Type 0} {x y : A} → Some x ≡ Some y → y ≡ x
    some_is e = cc

names_are : {Z : Type 0} (o : Option (Box SubCommand Z)) → option_map (λ b. (out-SubCommand (box_value b)).name.now)
    o ≡ option_map (λ p. p.0) (subcommand_rows o)
names_are None = refl
names_are (Some b) = refl

refusal : (texts : List Text) (memory : Bool) (e : Error) → AreRefused texts e
    → IsRefusal texts (if memory then words.Memory else words.Usage e)
refusal texts true e is = tt
refusal texts false e is = is

-- words that `clap` refuses for another reason than want of memory are those that it doesn't take
unparsed : (texts : List Text) (e : Error) → (takes tool_of texts ≡ true → is_want_of_memory (kind_of e) ≡ true)
    → IsRefusal texts (words_fault e)
unparsed texts e passes = go (takes tool_of texts) refl
  where
    go : (b : Bool) → takes tool_of texts ≡ b → IsRefusal texts (words_fault e)
    go true is = rw (passes is) tt
    go false is = refusal texts (is_want_of_memory (kind_of e)) e (inl is)

-- the subcommand with its entries that `clap` found
chosen : (texts : List Text) (a : App) (m : ArgMatches) (name : Text) (rows : List Row) → a ≡ tool_of
    → subcommand_rows_of m ≡ subcommand_of a texts
    → Some name ≡ subcommand_name_of m → Some rows ≡ option_map (λ p. p.1) (subcommand_rows_of m)
    → subcommand_of tool_of texts ≡ Some (name, rows)
chosen texts a m name rows is found named entered =
    ap (λ (x : App). subcommand_of x texts) (sym is) ∙ sym found ∙ both_parts (subcommand_rows_of m) name rows
    (named ∙ names_are (out-ArgMatches m).subcommand) entered

-- what a conversion answers is what it was given
converted : {A : Type 0} (texts : List Text) (r : Result A WordsFault) (fault : WordsFault)
    → IsErrAnd r (λ f. f ≡ fault) → IsRefusal texts fault → IfErr r (IsRefusal texts)
converted texts (Ok x) fault h is = tt
converted texts (Err f) fault h is = subst (IsRefusal texts) (sym h) is

pub returns-in_err-matches-clause-refused : goal.returns-in_err-matches-clause-refused
returns-in_err-matches-clause-refused c =
    let texts = map string_bytes c.args.words.now in
    converted texts c.from_residual.result (words_fault c.in_err-matches.field-0.0)
    c.from_residual.ensures.1
    (unparsed texts c.in_err-matches.field-0.0
    (λ is. ap is_want_of_memory
    (c.in_err-matches.ensures.passes (ap (λ (a : App). takes a texts) c.requires ∙ is))))

pub returns-clause-given : goal.returns-clause-given
returns-clause-given c =
    let texts = map string_bytes c.args.words.now in
    let rows = rows_of (found_of c.in-Some.found.now) in
    let is = chosen texts _ c.in_ok-matches.matches c.in-Some.name.now rows c.requires
    (c.in_ok-matches.ensures.ok.2 (ap is_simple c.requires ∙ simple)).1 c.in-Some.ensures.name
    c.in-Some.ensures.rows in
    task_given texts c.in-Some.name.now rows is c.task_named-task.result c.task_named-task.ensures.given

pub returns-clause-refused : goal.returns-clause-refused
returns-clause-refused c =
    let texts = map string_bytes c.args.words.now in
    let rows = rows_of (found_of c.in-Some.found.now) in
    let is = chosen texts _ c.in_ok-matches.matches c.in-Some.name.now rows c.requires
    (c.in_ok-matches.ensures.ok.2 (ap is_simple c.requires ∙ simple)).1 c.in-Some.ensures.name
    c.in-Some.ensures.rows in
    task_refused texts c.in-Some.name.now rows is c.task_named-task.result c.task_named-task.ensures.wrong
