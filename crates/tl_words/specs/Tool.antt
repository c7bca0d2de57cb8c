-- The command line as `clap` sees it, and the meaning of its matches.
use Rattle.std.specs.Prelude.{◌≡◌, ◌&&◌, ◌||◌, Bool, List, [], map, Option, Some, None, unwrap_or}
use Rattle.std.specs.Prelude.{codes, true, false, if◌then◌else◌, is_some}
use Rattle.std.specs.Prelude.{option_map}
use Rattle.std.specs.Str.{bytes_eq}
use Rattle.std.specs.String.{string_bytes}
use Rattle.clap.specs.declared.builder.action.ArgAction.TheVariants.{Append, SetTrue}
use Rattle.clap.specs.Words.{App, Row, Rule, Text, all_of, first_of, new_app, new_rule, with_rule, with_subcommand}
use Rattle.tl_command.specs.declared.command.Command.{Command}
use Rattle.tl_command.specs.declared.command.Command.TheVariants.{Coherent, Decode, Explain, Monitor, Run}
use Rattle.tl_command.specs.declared.command.RunForm.{RunForm}
use Rattle.tl_command.specs.declared.command.RunForm.TheVariants as run
use Rattle.tl_command.specs.declared.cover.CoverForm.{CoverForm}
use Rattle.tl_command.specs.declared.cover.CoverForm.TheVariants as form
use Rattle.tl_command.specs.declared.search.Aim.{Aim}
use Rattle.tl_command.specs.declared.search.Inquiry.{Inquiry}
use Rattle.tl_command.specs.declared.task.Task.{Task}
use Rattle.tl_command.specs.declared.task.Task.TheVariants.{Chart, Cover, DecodeWide, Draw, Read, Report, Search}
use Rattle.tl_command.specs.statement.ChartWords.{IsRange}
use Rattle.tl_command.specs.statement.LibertyWords.{AreAllowed}
use Rattle.tl_command.specs.statement.RandomWords.{AreOptions, Words}
use Rattle.tl_command.specs.statement.SearchWords.{IsBehind, IsInquiry}
use Rattle.tl_command.specs.statement.Words.{wide_width_named, width_named}
use Rattle.tl_params.specs.declared.liberties.Liberties.{Liberties}

-- `--NAME VALUE`
abbrev pub valued_rule : Text → Rule
valued_rule name = record (new_rule name) { long = Some name; value_names = 1 }

-- `--width BYTES`
abbrev pub width_rule : Rule
width_rule = valued_rule (codes "width")

-- `--all N`
abbrev pub all_rule : Rule
all_rule = valued_rule (codes "all")

-- `[--allow LIBERTIES] [--all N] [--report FILE] [--junit FILE]`
abbrev pub with_reports : App → App
with_reports a = with_rule (with_rule (with_rule (with_rule a (valued_rule (codes "allow"))) all_rule)
    (valued_rule (codes "report"))) (valued_rule (codes "junit"))

-- `monitor [--allow LIBERTIES] [--all N] [--report FILE] [--junit FILE] [FILE]`
abbrev pub monitor_of : App
monitor_of = with_rule (with_reports (new_app (codes "monitor"))) (new_rule (codes "FILE"))

-- `coherent [--allow LIBERTIES] [--all N] [--report FILE] [--junit FILE] [FILE]`
abbrev pub coherent_of : App
coherent_of = with_rule (with_reports (new_app (codes "coherent"))) (new_rule (codes "FILE"))

-- `--NAME`
abbrev pub flag_rule : Text → Rule
flag_rule name = record (new_rule name) { long = Some name; action = Some SetTrue }

-- `decode [--wide] [--width BYTES] [FILE]`
abbrev pub decode_of : App
decode_of = with_rule (with_rule (with_rule (new_app (codes "decode")) (flag_rule (codes "wide"))) width_rule)
    (new_rule (codes "FILE"))

-- `explain [--coherent] [--allow LIBERTIES] [--times FILE] [FILE]`
abbrev pub explain_of : App
explain_of = with_rule (with_rule (with_rule (with_rule (new_app (codes "explain")) (flag_rule (codes "coherent")))
    (valued_rule (codes "allow"))) (valued_rule (codes "times"))) (new_rule (codes "FILE"))

-- `[--lines A-B] [--block BBB]`
abbrev pub with_range : App → App
with_range a = with_rule (with_rule a (valued_rule (codes "lines"))) (valued_rule (codes "block"))

-- `chart [--lines A-B] [--block BBB] [--allow LIBERTIES] [FILE]`
abbrev pub chart_of : App
chart_of = with_rule (with_rule (with_range (new_app (codes "chart"))) (valued_rule (codes "allow")))
    (new_rule (codes "FILE"))

-- `NAME..`, which may be several words
abbrev pub several_rule : Text → Rule
several_rule name = record (new_rule name) { action = Some Append }

-- `cover [--tables] [--json] [FILE..]`
abbrev pub cover_of : App
cover_of = with_rule (with_rule (with_rule (new_app (codes "cover")) (flag_rule (codes "tables")))
    (flag_rule (codes "json"))) (several_rule (codes "FILE"))

-- `run [--trace] [--commits] [FILE]`
abbrev pub run_of : App
run_of = with_rule (with_rule (with_rule (new_app (codes "run")) (flag_rule (codes "trace")))
    (flag_rule (codes "commits"))) (new_rule (codes "FILE"))

-- `--seed N`, which has to be given
abbrev pub seed_rule : Rule
seed_rule = record (valued_rule (codes "seed")) { required = true }

-- `random --seed N [--events N] [--contend N]`, without the options for the header
abbrev pub drawing_of : App
drawing_of = with_rule (with_rule (with_rule (new_app (codes "random")) seed_rule) (valued_rule (codes "events")))
    (valued_rule (codes "contend"))

-- and with the size of the world: `[--clients LIST] [--blocks N] [--trackers N]`
abbrev pub sizing_of : App
sizing_of = with_rule (with_rule (with_rule drawing_of (valued_rule (codes "clients"))) (valued_rule (codes "blocks")))
    (valued_rule (codes "trackers"))

-- and with `[--width BYTES] [--profile P]`
abbrev pub random_of : App
random_of = with_rule (with_rule sizing_of width_rule) (valued_rule (codes "profile"))

abbrev pub with_required_subcommand : App → App
with_required_subcommand a = record a { top = record a.top { subcommand_required = true } }

abbrev pub with_version : App → App
with_version a = record a { top = record a.top { has_version = true } }

-- `tltool [--version]`, which wants a subcommand, with those that read traces
abbrev pub reading_of : App
reading_of = with_subcommand (with_subcommand (with_required_subcommand (with_version (new_app (codes "tltool"))))
    decode_of.top) monitor_of.top

-- and with the one that judges all links together
abbrev pub judging_of : App
judging_of = with_subcommand reading_of coherent_of.top

-- and with the one that explains
abbrev pub explaining_of : App
explaining_of = with_subcommand judging_of explain_of.top

-- and with the one that charts
abbrev pub charting_of : App
charting_of = with_subcommand explaining_of chart_of.top

-- and with the one that covers
abbrev pub covering_of : App
covering_of = with_subcommand charting_of cover_of.top

-- and with the one that plays
abbrev pub playing_of : App
playing_of = with_subcommand covering_of run_of.top

-- and with the one that draws
abbrev pub tool_of : App
tool_of = with_subcommand playing_of random_of.top

-- a flag is given if its word is `true`
abbrev pub flag_named : Option Text → Bool
flag_named None = false
flag_named (Some word) = bytes_eq word (codes "true")

-- the form of the output of `run`, by whether `--trace` and `--commits` are given; none for commits without a trace
abbrev pub run_form : Bool → Bool → Option RunForm
run_form false false = Some run.Outcomes
run_form true false = Some run.Trace
run_form true true = Some run.TraceWithCommits
run_form false true = None

-- the command of this name, with the words of its width, of its flags and of its file, which `explain` must have
abbrev pub command_named : Text → Option Text → Option Text → Option Text → Option Text → Option Text → Option Command
command_named name width trace commits coherent file =
    if bytes_eq name (codes "decode") then option_map Decode (width_named width) else
    if bytes_eq name (codes "monitor") then Some Monitor else
    if bytes_eq name (codes "coherent") then Some Coherent else
    if bytes_eq name (codes "explain") then option_map (λ _. Explain (flag_named coherent)) file else
    if bytes_eq name (codes "run") then option_map Run (run_form (flag_named trace) (flag_named commits)) else
    None

-- the command and the FILE that a subcommand's name and entries give
abbrev pub command_in : Text → List Row → Option Command
command_in name rows = command_named name (first_of (codes "width") rows) (first_of (codes "trace") rows)
    (first_of (codes "commits") rows) (first_of (codes "coherent") rows) (first_of (codes "FILE") rows)

abbrev pub file_in : List Row → Option Text
file_in rows = first_of (codes "FILE") rows

-- the FILEs of a command that reads several
abbrev pub files_in : List Row → List Text
files_in rows = unwrap_or (all_of (codes "FILE") rows) []

-- the form of a report on situations, by whether `--tables` and `--json` are given; none if both are
abbrev pub form_of : Bool → Bool → Option CoverForm
form_of false false = Some form.Text
form_of true false = Some form.Tables
form_of false true = Some form.Json
form_of true true = None

abbrev pub form_in : List Row → Option CoverForm
form_in rows = form_of (flag_named (first_of (codes "tables") rows)) (flag_named (first_of (codes "json") rows))

-- the words of the options of `random`
abbrev pub words_in : List Row → Words
words_in rows = record {
  seed = first_of (codes "seed") rows;
  events = first_of (codes "events") rows;
  clients = first_of (codes "clients") rows;
  blocks = first_of (codes "blocks") rows;
  trackers = first_of (codes "trackers") rows;
  width = first_of (codes "width") rows;
  profile = first_of (codes "profile") rows;
  contend = first_of (codes "contend") rows;
}

-- the command of this name judges all links together, or each by itself; others don't search
abbrev pub together_named : Text → Option Bool
together_named name =
    if bytes_eq name (codes "monitor") then Some false else if bytes_eq name (codes "coherent") then Some true else None

-- the meaning of the word of `--all` for the command of this name
abbrev pub IsAim : Text → Option Text → Aim → Type 0
IsAim name None aim = ⊥
IsAim name (Some word) aim = (together_named name ≡ Some aim.together) × IsBehind word aim.behind

-- the same for a judgement that is reported
abbrev pub IsInquiryOf : Text → Option Text → Inquiry → Type 0
IsInquiryOf name word q = (together : Bool) × (together_named name ≡ Some together) × IsInquiry together word q

-- the judgement is to be reported
abbrev pub is_reported : List Row → Bool
is_reported rows = is_some (first_of (codes "report") rows) || is_some (first_of (codes "junit") rows)

-- `decode` reads wide beats
abbrev pub is_wide : Text → List Row → Bool
is_wide name rows = bytes_eq name (codes "decode") && flag_named (first_of (codes "wide") rows)

-- the liberties in addition to those of the header
abbrev pub AreAllowedIn : List Row → Liberties → Type 0
AreAllowedIn rows = AreAllowed (first_of (codes "allow") rows)

-- The task of a subcommand's name and entries: a command over FILE, for `explain` with times, its wide beats in words, a search of it, a
-- judgement of it that is reported, a chart of it, the situations of FILEs, or a random schedule.
abbrev pub IsTaskOf : Text → List Row → Task → Type 0
IsTaskOf name rows (Read command allow file times) =
    (command_in name rows ≡ Some command) × (first_of (codes "all") rows ≡ None)
    × (option_map string_bytes file ≡ file_in rows) × (is_reported rows ≡ false) × AreAllowedIn rows allow
    × (is_wide name rows ≡ false) × (option_map string_bytes times ≡ first_of (codes "times") rows)
IsTaskOf name rows (DecodeWide width file) =
    (is_wide name rows ≡ true) × (wide_width_named (first_of (codes "width") rows) ≡ Some width)
    × (option_map string_bytes file ≡ file_in rows)
IsTaskOf name rows (Search aim file) =
    IsAim name (first_of (codes "all") rows) aim × (option_map string_bytes file ≡ file_in rows)
    × (is_reported rows ≡ false) × AreAllowedIn rows aim.allow
IsTaskOf name rows (Report inquiry file report junit) =
    IsInquiryOf name (first_of (codes "all") rows) inquiry × (is_reported rows ≡ true)
    × (option_map string_bytes file ≡ file_in rows)
    × (option_map string_bytes report ≡ first_of (codes "report") rows)
    × (option_map string_bytes junit ≡ first_of (codes "junit") rows) × AreAllowedIn rows inquiry.aim.allow
IsTaskOf name rows (Chart range allow file) =
    (bytes_eq name (codes "chart") ≡ true)
    × IsRange (first_of (codes "lines") rows) (first_of (codes "block") rows) range
    × AreAllowedIn rows allow × (option_map string_bytes file ≡ file_in rows)
IsTaskOf name rows (Cover form files) =
    (bytes_eq name (codes "cover") ≡ true) × (form_in rows ≡ Some form)
    × (map string_bytes files.items ≡ files_in rows)
IsTaskOf name rows (Draw options) = (bytes_eq name (codes "random") ≡ true) × AreOptions (words_in rows) options
