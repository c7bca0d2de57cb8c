use Rattle.tl_lines.proofs.GivenUp.{told_without_purpose}
use Rattle.tl_wide_lines.proofs.Decoded.{decoded-end, decoded-none, decoded-total}
use Rattle.tl_wide_lines.proofs.TraceJudged.{wide-width}
use Rattle.tl_wide_lines.specs.code.WideDecoding.{KnowsDecoded}
use Rattle.tl_wide_lines.specs.declared.decoder.WideDecoder.{WideDecoder}
use Rattle.tl_wide_lines.specs.statement.WideDecoded.{DecodedSoFar, DecodedWide}
use Rattle.tl_wide.specs.declared.width.WideWidth.TheVariants.{Four, Eight, Sixteen, ThirtyTwo, SixtyFour}
use Rattle.tl_wide_lines.proofs.decode.decode_wide.Goals as goal

pub handle_input-requires-clause-begins : goal.handle_input-requires-clause-begins
handle_input-requires-clause-begins g c = decoded-none 4

pub handle_input-requires-clause-total : goal.handle_input-requires-clause-total
handle_input-requires-clause-total g c = λ handler. decoded-total 4 (wide-width Four)

pub returns-in-Four-clause-fault : goal.returns-in-Four-clause-fault
returns-in-Four-clause-fault g c =
    rw c.in-Four.is (told_without_purpose {H = WideDecoder 4} (λ _ lines text. KnowsDecoded 4 lines text)
    (DecodedWide 4) (DecodedSoFar 4) (λ lines text known. decoded-end 4 lines text known.1)
    _ _ _ _ _ c.handle_input.ensures.fault)

pub handle_input-requires-in-Eight-clause-begins : goal.handle_input-requires-in-Eight-clause-begins
handle_input-requires-in-Eight-clause-begins g c = decoded-none 8

pub handle_input-requires-in-Eight-clause-total : goal.handle_input-requires-in-Eight-clause-total
handle_input-requires-in-Eight-clause-total g c = λ handler. decoded-total 8 (wide-width Eight)

pub returns-in-Eight-clause-fault : goal.returns-in-Eight-clause-fault
returns-in-Eight-clause-fault g c =
    rw c.in-Eight.is (told_without_purpose {H = WideDecoder 8} (λ _ lines text. KnowsDecoded 8 lines text)
    (DecodedWide 8) (DecodedSoFar 8) (λ lines text known. decoded-end 8 lines text known.1)
    _ _ _ _ _ c.handle_input-in-Eight.ensures.fault)

pub handle_input-requires-in-Sixteen-clause-begins : goal.handle_input-requires-in-Sixteen-clause-begins
handle_input-requires-in-Sixteen-clause-begins g c = decoded-none 16

pub handle_input-requires-in-Sixteen-clause-total : goal.handle_input-requires-in-Sixteen-clause-total
handle_input-requires-in-Sixteen-clause-total g c = λ handler. decoded-total 16 (wide-width Sixteen)

pub returns-in-Sixteen-clause-fault : goal.returns-in-Sixteen-clause-fault
returns-in-Sixteen-clause-fault g c =
    rw c.in-Sixteen.is (told_without_purpose {H = WideDecoder 16} (λ _ lines text. KnowsDecoded 16 lines text)
    (DecodedWide 16) (DecodedSoFar 16) (λ lines text known. decoded-end 16 lines text known.1)
    _ _ _ _ _ c.handle_input-in-Sixteen.ensures.fault)

pub handle_input-requires-in-ThirtyTwo-clause-begins : goal.handle_input-requires-in-ThirtyTwo-clause-begins
handle_input-requires-in-ThirtyTwo-clause-begins g c = decoded-none 32

pub handle_input-requires-in-ThirtyTwo-clause-total : goal.handle_input-requires-in-ThirtyTwo-clause-total
handle_input-requires-in-ThirtyTwo-clause-total g c = λ handler. decoded-total 32 (wide-width ThirtyTwo)

pub returns-in-ThirtyTwo-clause-fault : goal.returns-in-ThirtyTwo-clause-fault
returns-in-ThirtyTwo-clause-fault g c =
    rw c.in-ThirtyTwo.is (told_without_purpose {H = WideDecoder 32} (λ _ lines text. KnowsDecoded 32 lines text)
    (DecodedWide 32) (DecodedSoFar 32) (λ lines text known. decoded-end 32 lines text known.1)
    _ _ _ _ _ c.handle_input-in-ThirtyTwo.ensures.fault)

pub handle_input-requires-in-SixtyFour-clause-begins : goal.handle_input-requires-in-SixtyFour-clause-begins
handle_input-requires-in-SixtyFour-clause-begins g c = decoded-none 64

pub handle_input-requires-in-SixtyFour-clause-total : goal.handle_input-requires-in-SixtyFour-clause-total
handle_input-requires-in-SixtyFour-clause-total g c = λ handler. decoded-total 64 (wide-width SixtyFour)

pub returns-in-SixtyFour-clause-fault : goal.returns-in-SixtyFour-clause-fault
returns-in-SixtyFour-clause-fault g c =
    rw c.in-SixtyFour.is (told_without_purpose {H = WideDecoder 64} (λ _ lines text. KnowsDecoded 64 lines text)
    (DecodedWide 64) (DecodedSoFar 64) (λ lines text known. decoded-end 64 lines text known.1)
    _ _ _ _ _ c.handle_input-in-SixtyFour.ensures.fault)
