use Rattle.std.proofs.Common.{rules, ◌≡◌, refl, false, true}
use Rattle.tl_lines.proofs.Decoded.{decodes_more, judged_line}
use Rattle.tl_lines.proofs.Judged.{judged_total}
use Rattle.tl_engine.proofs.Playing.{played-total}
use Rattle.tl_command.specs.declared.command.Command.TheVariants.{Coherent, Decode, Explain, Monitor, Run}
use Rattle.tl_command.specs.declared.command.RunForm.TheVariants.{Outcomes, Trace, TraceWithCommits}
use Rattle.tl_params.specs.declared.width.Width.TheVariants.{Four, Eight, Sixteen}
use Rattle.tl_lines.specs.declared.decoder.Decoder.{Decoder}
use Rattle.tl_lines.specs.statement.Coherent.{JudgedTogether}
use Rattle.tl_lines.specs.statement.Decoded.{DecodesBefore, DecodesTo}
use Rattle.tl_lines.specs.statement.Judged.{Judged}
use Rattle.tl_engine.specs.statement.Played.{Played}
use Rattle.tl_engine.specs.statement.Told.{text_so_far}
use Rattle.tl_engine.specs.code.Playing.{KnowsSchedule}
use Rattle.tl_lines.specs.code.Watching.{KnowsLines}
use Rattle.tl_lines.proofs.GivenUp.{told_without_purpose}
use Rattle.tl_engine.proofs.SoFar.{decoded_so_far, judged_so_far, played_so_far}
use Rattle.tl_engine.proofs.tool.run_tool.Goals as goal

pub handle_input-requires-clause-total : goal.handle_input-requires-clause-total
handle_input-requires-clause-total g c = λ handler. decodes_more 4 (judged_line 4 refl)

pub handle_input-requires-in-Eight-clause-total : goal.handle_input-requires-in-Eight-clause-total
handle_input-requires-in-Eight-clause-total g c = λ handler. decodes_more 8 (judged_line 8 refl)

pub handle_input-requires-in-Sixteen-clause-total : goal.handle_input-requires-in-Sixteen-clause-total
handle_input-requires-in-Sixteen-clause-total g c = λ handler. decodes_more 16 (judged_line 16 refl)

pub handle_input-requires-in-Monitor-clause-total : goal.handle_input-requires-in-Monitor-clause-total
handle_input-requires-in-Monitor-clause-total g c = judged_total 0

pub handle_input-requires-in-Explain-false-clause-total : goal.handle_input-requires-in-Explain-false-clause-total
handle_input-requires-in-Explain-false-clause-total g c = judged_total 0

pub handle_input-requires-in-Explain-true-clause-total : goal.handle_input-requires-in-Explain-true-clause-total
handle_input-requires-in-Explain-true-clause-total g c = judged_total 1

pub handle_input-requires-in-Coherent-clause-total : goal.handle_input-requires-in-Coherent-clause-total
handle_input-requires-in-Coherent-clause-total g c = judged_total 1

pub handle_input-requires-in-Run-Outcomes-clause-total : goal.handle_input-requires-in-Run-Outcomes-clause-total
handle_input-requires-in-Run-Outcomes-clause-total g c = played-total 0

pub handle_input-requires-in-Run-Trace-clause-total : goal.handle_input-requires-in-Run-Trace-clause-total
handle_input-requires-in-Run-Trace-clause-total g c = played-total 1

pub handle_input-requires-in-Run-TraceWithCommits-clause-total : goal.handle_input-requires-in-Run-TraceWithCommits-clause-total
handle_input-requires-in-Run-TraceWithCommits-clause-total g c = played-total 2

pub returns-in-Four-clause-fault : goal.returns-in-Four-clause-fault
returns-in-Four-clause-fault g c =
    rw (c.in-Decode.is, c.in-Four.is) (told_without_purpose {H = Decoder 4} (λ _ lines text. DecodesBefore 4 lines text)
    (DecodesTo 4) (text_so_far (Decode Four)) (λ lines text known. decoded_so_far Four lines text known.1)
    _ _ _ _ _ c.handle_input.ensures.fault)

pub returns-in-Eight-clause-fault : goal.returns-in-Eight-clause-fault
returns-in-Eight-clause-fault g c =
    rw (c.in-Decode.is, c.in-Eight.is) (told_without_purpose {H = Decoder 8} (λ _ lines text. DecodesBefore 8 lines text)
    (DecodesTo 8) (text_so_far (Decode Eight)) (λ lines text known. decoded_so_far Eight lines text known.1)
    _ _ _ _ _ c.handle_input-in-Eight.ensures.fault)

pub returns-in-Sixteen-clause-fault : goal.returns-in-Sixteen-clause-fault
returns-in-Sixteen-clause-fault g c =
    rw (c.in-Decode.is, c.in-Sixteen.is) (told_without_purpose {H = Decoder 16} (λ _ lines text. DecodesBefore 16 lines text)
    (DecodesTo 16) (text_so_far (Decode Sixteen)) (λ lines text known. decoded_so_far Sixteen lines text known.1)
    _ _ _ _ _ c.handle_input-in-Sixteen.ensures.fault)

pub returns-in-Monitor-clause-fault : goal.returns-in-Monitor-clause-fault
returns-in-Monitor-clause-fault g c =
    rw c.in-Monitor.is (told_without_purpose (KnowsLines {n = 0}) Judged (text_so_far Monitor)
    (λ lines text known. judged_so_far 0 known.0 lines text known.1)
    _ _ _ _ _ c.handle_input-in-Monitor.ensures.fault)

pub returns-in-Explain-false-clause-fault : goal.returns-in-Explain-false-clause-fault
returns-in-Explain-false-clause-fault g c =
    let apart : c.in-Explain-false.coherent ≡ false = search rules in
    rw (c.in-Explain-false.is, apart) (told_without_purpose (KnowsLines {n = 0}) Judged (text_so_far (Explain false))
    (λ lines text known. judged_so_far 0 known.0 lines text known.1)
    _ _ _ _ _ c.handle_input-in-Explain-false.ensures.fault)

pub returns-in-Explain-true-clause-fault : goal.returns-in-Explain-true-clause-fault
returns-in-Explain-true-clause-fault g c =
    let together : c.in-Explain-true.coherent ≡ true = search rules in
    rw (c.in-Explain-true.is, together) (told_without_purpose (KnowsLines {n = 1}) JudgedTogether (text_so_far (Explain true))
    (λ lines text known. judged_so_far 1 known.0 lines text known.1)
    _ _ _ _ _ c.handle_input-in-Explain-true.ensures.fault)

pub returns-in-Coherent-clause-fault : goal.returns-in-Coherent-clause-fault
returns-in-Coherent-clause-fault g c =
    rw c.in-Coherent.is (told_without_purpose (KnowsLines {n = 1}) JudgedTogether (text_so_far Coherent)
    (λ lines text known. judged_so_far 1 known.0 lines text known.1)
    _ _ _ _ _ c.handle_input-in-Coherent.ensures.fault)

pub returns-in-Run-Outcomes-clause-fault : goal.returns-in-Run-Outcomes-clause-fault
returns-in-Run-Outcomes-clause-fault g c =
    let shown : c.in-Run-Outcomes.form ≡ Outcomes = search rules in
    rw (c.in-Run-Outcomes.is, shown) (told_without_purpose (KnowsSchedule {n = 0}) (Played Outcomes) (text_so_far (Run Outcomes))
    (λ lines text known. played_so_far 0 known.0 lines text known.1)
    _ _ _ _ _ c.handle_input-in-Run-Outcomes.ensures.fault)

pub returns-in-Run-Trace-clause-fault : goal.returns-in-Run-Trace-clause-fault
returns-in-Run-Trace-clause-fault g c =
    let shown : c.in-Run-Trace.form ≡ Trace = search rules in
    rw (c.in-Run-Trace.is, shown) (told_without_purpose (KnowsSchedule {n = 1}) (Played Trace) (text_so_far (Run Trace))
    (λ lines text known. played_so_far 1 known.0 lines text known.1)
    _ _ _ _ _ c.handle_input-in-Run-Trace.ensures.fault)

pub returns-in-Run-TraceWithCommits-clause-fault : goal.returns-in-Run-TraceWithCommits-clause-fault
returns-in-Run-TraceWithCommits-clause-fault g c =
    let shown : c.in-Run-TraceWithCommits.form ≡ TraceWithCommits = search rules in
    rw (c.in-Run-TraceWithCommits.is, shown) (told_without_purpose (KnowsSchedule {n = 2}) (Played TraceWithCommits) (text_so_far (Run TraceWithCommits))
    (λ lines text known. played_so_far 2 known.0 lines text known.1)
    _ _ _ _ _ c.handle_input-in-Run-TraceWithCommits.ensures.fault)
