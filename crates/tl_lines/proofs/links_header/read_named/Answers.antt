use Rattle.std.proofs.Common.{◌≡◌, ◌≢◌, length, ap, arith, rules}
use Rattle.tl_lines.proofs.LinksHeaders.{lacks_comma, named_spelled, tail}
use Rattle.tl_lines.proofs.links_header.read_named.Goals as goal

pub returns-in_err-may-clause-every_spelling : goal.returns-in_err-may-clause-every_spelling
returns-in_err-may-clause-every_spelling c = λ may levels h.
    absurd (c.in_err-may.ensures.every_spelling may h.word (tail levels) h.spells (lacks_comma levels h.so_many) h.are_bytes)

pub returns-in_err-levels-clause-every_spelling : goal.returns-in_err-levels-clause-every_spelling
returns-in_err-levels-clause-every_spelling c = λ may levels h.
    let (m, ends) = c.in_ok-may.ensures.every_spelling may h.word (tail levels) h.spells (lacks_comma levels h.so_many)
    h.are_bytes in
    absurd (c.in_err-levels.ensures.every_spelling levels (ends, h.so_many.1))

pub returns-then-is_empty-clause-every_spelling : goal.returns-then-is_empty-clause-every_spelling
returns-then-is_empty-clause-every_spelling c = λ may levels h.
    let (m, ends) = c.in_ok-may.ensures.every_spelling may h.word (tail levels) h.spells (lacks_comma levels h.so_many)
    h.are_bytes in
    let same = c.in_ok-levels.ensures.every_spelling levels (ends, h.so_many.1) in
    let empty : length c.in_ok-levels.levels.items ≡ 0 = search rules in
    absurd (omega (arith, h.so_many.0, ap length same, empty))

pub returns-clause-spelled : goal.returns-clause-spelled
returns-clause-spelled c =
    let (word, spells, text) = c.in_ok-may.ensures.spelled in
    let some : length c.in_ok-levels.levels.items ≢ 0 = search rules in
    named_spelled c.args.bytes.now c.in_ok-may.rest.now word c.in_ok-may.may c.in_ok-levels.levels.items spells text
    c.in_ok-levels.ensures.spelled (λ none. some (ap length none))

pub returns-clause-every_spelling : goal.returns-clause-every_spelling
returns-clause-every_spelling c = λ may levels h.
    let (m, ends) = c.in_ok-may.ensures.every_spelling may h.word (tail levels) h.spells (lacks_comma levels h.so_many)
    h.are_bytes in
    (m, c.in_ok-levels.ensures.every_spelling levels (ends, h.so_many.1))
