-- The report of the situations of traces.
use Rattle.std.specs.Prelude.{ℕ, Bool, true, false, ◌++◌, ◌-◌, ◌%◌, ◌==◌, List, [], ◌∷◌, length, take, count_by, codes}
use Rattle.std.specs.Prelude.{if◌then◌else◌, nat_lt, Option, Some, None, is_some, option_map, slice_get}
use Rattle.std.specs.Prelude.{String, string_bytes}
use Rattle.std.specs.declared.alloc.Global.{Global}
use Rattle.std.specs.List.{flat_map}
use Rattle.std.specs.Fmt.{decimal}
use Rattle.tl_cover.specs.declared.situation.Situation.{Situation}
use Rattle.tl_cover.specs.statement.Bins.{all_bins}
use Rattle.tl_cover.specs.statement.Covered.{all_situations}
use Rattle.tl_cover.specs.statement.Names.{name, sentence}
use Rattle.tl_command.specs.declared.cover.CoverForm.{CoverForm}
use Rattle.tl_command.specs.declared.cover.CoverForm.TheVariants as form
use Rattle.tl_tables.specs.statement.Counts.{bin_count}
use Rattle.tl_tables.specs.statement.Numbered.{numbered}
use Rattle.tl_tables.specs.statement.Tables.{tables_text}
use Rattle.tl_tried.specs.declared.sum.Place.{Place}
use Rattle.tl_tried.specs.declared.sum.Sum.{Sum}
use Rattle.tl_tried.specs.declared.tried.Tried.{Tried}
use Rattle.tl_tried.specs.statement.Sums.{cells_of, sums_of}

-- the names of traces
abbrev pub Names : Type 0
Names = List (String Global)

-- the number of all situations
unfoldable pub all_count : ℕ
all_count = length all_situations

-- the number of situations that came
abbrev pub seen_in : List Sum → ℕ
seen_in sums = count_by (λ s. is_some s.first) sums

-- the names in the report: none for one trace
abbrev pub shown : Names → Names
shown names = if nat_lt 1 (length names) then names else []

-- the name of the trace with this number, if it has one
abbrev pub name_of : Names → ℕ → Option (List ℕ)
name_of names i = option_map string_bytes (slice_get names i)

-- ---- as text

-- `NAME: ` before the verdict of a trace with a name
abbrev pub before_verdict : Option (List ℕ) → List ℕ
before_verdict None = []
before_verdict (Some named) = named ++ codes ": "

-- the verdict of the trace with this number
abbrev pub verdict_text : Names → ℕ → Tried → List ℕ
verdict_text names i tried = before_verdict (name_of names i) ++ tried.verdict.items

-- the verdicts of these traces, numbered from 0
abbrev pub verdicts_text : Names → List Tried → List ℕ
verdicts_text names all = numbered (verdict_text names) 0 all

-- the line of a trace: `line LINE`, or `NAME:LINE` if it has a name
abbrev pub place_of : Option (List ℕ) → ℕ → List ℕ
place_of None line = codes "line " ++ decimal line
place_of (Some named) line = named ++ (codes ":" ++ decimal line)

-- the place of a situation, with the name of its trace, if it has one
abbrev pub place_text : Names → Place → List ℕ
place_text names place = place_of (name_of names place.trace) place.line

-- the end of a situation's line: its sentence
abbrev pub sentence_end : Sum → List ℕ
sentence_end s = codes ": " ++ (sentence s.situation ++ codes "\n")

-- the line of a situation, with this text before its sentence
abbrev pub line_of : Sum → List ℕ → List ℕ
line_of s middle = name s.situation ++ (middle ++ sentence_end s)

-- the count of a situation, and its first place
abbrev pub times : ℕ → List ℕ → List ℕ
times count place = codes " " ++ (decimal count ++ (codes ", " ++ place))

-- `NAME COUNT, line LINE: SENTENCE`, if the situation came
abbrev pub seen_from : Names → Sum → Option Place → List ℕ
seen_from names s None = []
seen_from names s (Some place) = line_of s (times s.count (place_text names place))

-- the line of a situation that came; nothing if it never came
abbrev pub seen_text : Names → Sum → List ℕ
seen_text names s = seen_from names s s.first

-- `NAME never: SENTENCE`, if the situation never came
abbrev pub unseen_from : Sum → Option Place → List ℕ
unseen_from s None = line_of s (codes " never")
unseen_from s (Some place) = []

-- the line of a situation that never came; nothing if it came
abbrev pub unseen_text : Sum → List ℕ
unseen_text s = unseen_from s s.first

-- `N of M situations seen`
abbrev pub summary : List Sum → List ℕ
summary sums =
    decimal (seen_in sums) ++ (codes " of " ++ (decimal all_count ++ codes " situations seen\n"))

-- the verdicts, the situations that came, their number, and the situations that never came
abbrev pub told_text : Names → List Tried → List Sum → List ℕ
told_text names all sums =
    verdicts_text names all ++ (flat_map (seen_text names) sums ++ (summary sums ++ flat_map unseen_text sums))

-- ---- as JSON

-- the first place of a situation; for several traces with the number of the trace
abbrev pub first_json : Bool → Place → List ℕ
first_json false place = codes "\"line\": " ++ decimal place.line
first_json true place =
    codes "\"trace\": " ++ (decimal place.trace ++ (codes ", \"line\": " ++ decimal place.line))

-- no place, for a situation that never came
abbrev pub nowhere_json : Bool → List ℕ
nowhere_json false = codes "\"line\": null"
nowhere_json true = codes "\"trace\": null, \"line\": null"

-- the first place of a situation, if it came
abbrev pub place_json : Bool → Option Place → List ℕ
place_json several None = nowhere_json several
place_json several (Some place) = first_json several place

-- the front of a situation: its name and its count
abbrev pub count_json : Sum → List ℕ
count_json s = codes "{\"name\": \"" ++ (name s.situation ++ (codes "\", \"count\": " ++ decimal s.count))

-- the end of a situation: its sentence
abbrev pub said_json : Sum → List ℕ
said_json s = codes ", \"text\": \"" ++ (sentence s.situation ++ codes "\"}")

-- a situation as an object
abbrev pub sum_json : Bool → Sum → List ℕ
sum_json several s = count_json s ++ (codes ", " ++ (place_json several s.first ++ said_json s))

-- a situation as an object, after a comma
abbrev pub next_json : Bool → Sum → List ℕ
next_json several s = codes ",\n  " ++ sum_json several s

-- situations, with commas between them
abbrev pub sums_json : Bool → List Sum → List ℕ
sums_json several [] = []
sums_json several (s ∷ sums) = sum_json several s ++ flat_map (next_json several) sums

-- a verdict as a string, without the LF at its end
abbrev pub quoted : List ℕ → List ℕ
quoted verdict = codes "\"" ++ (take (length verdict - 1) verdict ++ codes "\"")

-- the verdict of a trace as a string
abbrev pub verdict_json : Tried → List ℕ
verdict_json tried = quoted tried.verdict.items

-- the verdict of a trace as a string, after a comma
abbrev pub next_verdict : Tried → List ℕ
next_verdict tried = codes ", " ++ verdict_json tried

-- the verdicts of traces as strings, with commas between them
abbrev pub verdicts_json : List Tried → List ℕ
verdicts_json [] = []
verdicts_json (tried ∷ all) = verdict_json tried ++ flat_map next_verdict all

-- the front of the object, before the verdict; for several traces, before the list of verdicts
abbrev pub before_verdicts : Bool → List ℕ
before_verdicts false = codes "{\"verdict\": "
before_verdicts true = codes "{\"verdicts\": ["

-- the text after the verdict or the list of verdicts
abbrev pub after_verdicts : Bool → List ℕ
after_verdicts false = codes ", "
after_verdicts true = codes "], "

-- the verdict; for several traces the list of their verdicts
abbrev pub front_json : Bool → List Tried → List ℕ
front_json several all = before_verdicts several ++ (verdicts_json all ++ after_verdicts several)

-- the number of situations that came, and of all
abbrev pub summary_json : List Sum → List ℕ
summary_json sums = codes "\"seen\": " ++ (decimal (seen_in sums) ++ (codes ", \"of\": " ++ decimal all_count))

-- the list of situations
abbrev pub list_json : Bool → List Sum → List ℕ
list_json several sums = codes ", \"situations\": [" ++ (sums_json several sums ++ codes "]")

-- a count, or null if there is none
abbrev pub cell_json : Option ℕ → List ℕ
cell_json None = codes "null"
cell_json (Some n) = decimal n

-- a comma, for the counts of links other than link 0
abbrev pub comma : ℕ → List ℕ
comma place = if nat_lt place bin_count then [] else codes ", "

-- the count at this place, if it is one of the bin with this number
abbrev pub cell_of_json : ℕ → ℕ → Option ℕ → List ℕ
cell_of_json bin place cell = if place % bin_count == bin then comma place ++ cell_json cell else []

-- a comma and a new line, for bins other than the first
abbrev pub line_comma : ℕ → List ℕ
line_comma i = if i == 0 then [] else codes ",\n  "

-- the bin with this number as an object: its name, and its counts on link 0, link 1 and so on
abbrev pub bin_json : List (Option ℕ) → ℕ → Situation → List ℕ
bin_json cells i bin =
    line_comma i ++ (codes "{\"name\": \"" ++ (name bin ++ (codes "\", \"counts\": [" ++ (numbered (cell_of_json i) 0 cells
    ++ codes "]}"))))

-- the list of bins, and the end of the object
abbrev pub bins_json : List (Option ℕ) → List ℕ
bins_json cells = codes ", \"bins\": [" ++ (numbered (bin_json cells) 0 all_bins ++ codes "]}\n")

-- the verdicts, the situations and the bins as one object
abbrev pub told_json : Bool → List Tried → List Sum → List (Option ℕ) → List ℕ
told_json several all sums cells =
    front_json several all ++ (summary_json sums ++ (list_json several sums ++ bins_json cells))

-- ---- either

-- the report in this form, with these names of the traces; none for one trace
abbrev pub told_named : CoverForm → Names → List Tried → List Sum → List (Option ℕ) → List ℕ
told_named form.Text names all sums cells = told_text names all sums
told_named form.Tables names all sums cells = told_text names all sums ++ tables_text cells
told_named form.Json names all sums cells = told_json (nat_lt 0 (length names)) all sums cells

-- The report of these traces in this form: their verdicts, and the situations of all of them. Two of the forms have the
-- tables of their links too. These names are used for several traces.
abbrev pub told : CoverForm → Names → List Tried → List ℕ
told form names all = told_named form (shown names) all (sums_of all) (cells_of all)
