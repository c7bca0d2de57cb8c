-- The text of an input under each command.
use Rattle.std.specs.Prelude.{◌≡◌, ◌⊎◌, ◌-◌, ℕ, List, [], ◌++◌, length}
use Rattle.tl_command.specs.declared.command.Command.{Command}
use Rattle.tl_command.specs.declared.command.Command.TheVariants.{Coherent, Decode, Explain, Monitor, Run}
use Rattle.tl_lines.specs.statement.JudgedSo.{JudgedSo, said_by}
use Rattle.tl_lines.specs.declared.status.Status.{Status}
use Rattle.tl_lines.specs.declared.status.Status.TheVariants.{Clean}
use Rattle.tl_lines.specs.statement.Coherent.{JudgedTogether, coherent_text}
use Rattle.tl_lines.specs.statement.Decoded.{DecodesTo}
use Rattle.tl_lines.specs.statement.Judged.{Judged, clean_text}
use Rattle.tl_engine.specs.statement.Played.{Played}
use Rattle.tl_lines.specs.statement.Width.{bytes_of}

-- the text of these lines under a command, and the status at their end; of `explain`, only the verdict
abbrev pub text_told : Command → List (List ℕ) → List ℕ → Status → Type 0
text_told (Decode width) = DecodesTo (bytes_of width)
text_told Monitor = Judged
text_told (Explain together) = JudgedSo together
text_told Coherent = JudgedTogether
text_told (Run form) = Played form

-- the text that the end of an input of n lines adds, none of which is at fault
abbrev pub end_text : Command → ℕ → List ℕ
end_text (Decode width) n = []
end_text Monitor n = clean_text (n - 1)
end_text (Explain together) n = said_by together (n - 1)
end_text Coherent n = coherent_text (n - 1)
end_text (Run form) n = []

-- the text of these lines, none of which is at fault, before the end of the input
abbrev pub text_so_far : Command → List (List ℕ) → List ℕ → Type 0
text_so_far command lines text =
    ((lines ≡ []) × (text ≡ [])) ⊎ text_told command lines (text ++ end_text command (length lines)) Clean
