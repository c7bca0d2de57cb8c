-- Each command tells one text of its lines, and always tells one.
use Rattle.std.proofs.Common.{ℕ, List, refl}
use Rattle.tl_command.specs.declared.command.Command.{Command}
use Rattle.tl_command.specs.declared.command.Command.TheVariants.{Coherent, Decode, Explain, Monitor, Run}
use Rattle.tl_params.specs.declared.width.Width.TheVariants.{Four, Eight, Sixteen}
use Rattle.tl_lines.specs.statement.JudgedSo.{faults_by, said_by}
use Rattle.tl_lines.specs.declared.status.Status.{Status}
use Rattle.tl_lines.specs.statement.Coherent.{coherent_text, faults_together}
use Rattle.tl_lines.specs.statement.Judged.{clean_text, faults_of_links}
use Rattle.tl_engine.specs.statement.Told.{text_told}
use Rattle.tl_lines.specs.statement.Width.{bytes_of}
use Rattle.tl_lines.proofs.Decoded.{decodes, judged_line}
use Rattle.tl_lines.proofs.Headers.{header_or_none}
use Rattle.tl_lines.proofs.JudgedTraces.{judged_whole}
use Rattle.tl_lines.specs.statement.Trace.{SpellsHeader}
use Rattle.tl_lines.proofs.OneText.{AreOne, decodes_once, is_width_of, judged_once}
use Rattle.tl_engine.proofs.PlayedOnce.{played-once}
use Rattle.tl_engine.proofs.Playing.{played-whole}

pub told-once : (command : Command) (lines : List (List ℕ)) (text other : List ℕ) (status another : Status)
    → text_told command lines text status
    → text_told command lines other another → AreOne text other status another
told-once (Decode width) = decodes_once (bytes_of width) 1 (is_width_of width)
told-once Monitor = judged_once faults_of_links clean_text
told-once (Explain together) = judged_once (faults_by together) (said_by together)
told-once Coherent = judged_once faults_together coherent_text
told-once (Run form) = played-once form

pub always-told : (command : Command) (lines : List (List ℕ)) → (text : List ℕ) × (status : Status)
    × text_told command lines text status
always-told (Decode Four) = decodes 4 1 (judged_line 4 refl)
always-told (Decode Eight) = decodes 8 1 (judged_line 8 refl)
always-told (Decode Sixteen) = decodes 16 1 (judged_line 16 refl)
always-told Monitor = judged_whole SpellsHeader faults_of_links clean_text header_or_none
always-told (Explain together) = judged_whole SpellsHeader (faults_by together) (said_by together) header_or_none
always-told Coherent = judged_whole SpellsHeader faults_together coherent_text header_or_none
always-told (Run form) = played-whole form
