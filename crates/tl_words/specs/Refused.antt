-- Words that give no command.
use Rattle.std.specs.Prelude.{◌≡◌, ◌⊎◌, ⊤, ℕ, Bool, true, false, if◌then◌else◌, List, Option, Some, None}
use Rattle.clap.specs.Words.{Row, Text, kind_of, subcommand_of, takes}
use Rattle.clap.specs.declared.error.Error.{Error}
use Rattle.clap.specs.declared.error.ErrorKind.{ErrorKind}
use Rattle.clap.specs.declared.error.ErrorKind.TheVariants as kind
use Rattle.tl_command.specs.declared.task.Task.{Task}
use Rattle.tl_words.specs.declared.words.WordsFault.{WordsFault}
use Rattle.tl_words.specs.declared.words.WordsFault.TheVariants.{Usage, Memory}
use Rattle.tl_words.specs.Tool.{IsTaskOf, tool_of}

-- the program's fault for an error of `clap`
abbrev pub is_want_of_memory : ErrorKind → Bool
is_want_of_memory kind.OutOfMemory = true
is_want_of_memory _ = false

abbrev pub words_fault : Error → WordsFault
words_fault error = if is_want_of_memory (kind_of error) then Memory else Usage error

-- the exit status if the words give no command
abbrev pub usage_status : ErrorKind → ℕ
usage_status kind.DisplayHelp = 0
usage_status kind.DisplayVersion = 0
usage_status _ = 2

abbrev pub status_of_usage : Error → ℕ
status_of_usage error = usage_status (kind_of error)

-- a subcommand with its entries, if there is one, asks for nothing that the program can do
abbrev pub AsksNothing : Option (Text × List Row) → Type 0
AsksNothing None = ⊤
AsksNothing (Some (name, rows)) = (task : Task) → ¬ IsTaskOf name rows task

-- `clap` doesn't take the words (it shows help or the version, or says what is wrong); or they ask for
-- nothing that the program can do, since a word has no meaning, `explain` has no FILE or
-- `--commits` has no `--trace`, and the error says so
abbrev pub AreRefused : List Text → Error → Type 0
AreRefused words error = (takes tool_of words ≡ false)
    ⊎ (AsksNothing (subcommand_of tool_of words) × (status_of_usage error ≡ 2))

-- only words that are refused are a usage
abbrev pub IsRefusal : List Text → WordsFault → Type 0
IsRefusal words (Usage error) = AreRefused words error
IsRefusal words Memory = ⊤

-- a subcommand with these entries asks for nothing, want of memory aside
abbrev pub IsFaultOf : Text → List Row → WordsFault → Type 0
IsFaultOf name rows (Usage error) = ((task : Task) → ¬ IsTaskOf name rows task) × (status_of_usage error ≡ 2)
IsFaultOf name rows Memory = ⊤
