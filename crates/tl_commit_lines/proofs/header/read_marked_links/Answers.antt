use Rattle.std.proofs.Common.{◌∙◌, ap, rules, ◌≡◌, true}
use Rattle.std.specs.Prelude.{Bool}
use Rattle.tl_commit_lines.proofs.HeaderLinks.{whole_tail}
use Rattle.tl_commit_lines.specs.statement.MarkedHeader.{MarkedLinks, links_read}
use Rattle.tl_commit_lines.proofs.MarkedHeaders.{links_are, links_spelled, named-so, no_comma, none-read, not_read}
use Rattle.tl_commit_lines.proofs.MarkedHeaders.{same_links, some-read}
use Rattle.tl_commit_lines.specs.code.HeadReading.{is_named}
use Rattle.tl_commit_lines.proofs.header.read_marked_links.Goals as goal

pub returns-in_err-may-clause-every_spelling : goal.returns-in_err-may-clause-every_spelling
returns-in_err-may-clause-every_spelling c = λ may links h.
    absurd (c.in_err-may.ensures.every_spelling may h.word (whole_tail h.commits links) h.spells (no_comma links h)
    h.are_bytes)

pub returns-in_err-links-clause-every_spelling : goal.returns-in_err-links-clause-every_spelling
returns-in_err-links-clause-every_spelling c = λ may links h.
    let left = c.in_ok-may.rest.now in
    let (m, ends) =
    c.in_ok-may.ensures.every_spelling may h.word (whole_tail h.commits links) h.spells (no_comma links h) h.are_bytes in
    absurd (not_read h.commits links left (none-read left c.front_commits-commits.result.1.now c.front_zero-zero.result.1.now
    c.front_commits-commits.result.0 c.front_zero-zero.result.0 c.front_commits-commits.ensures c.front_zero-zero.ensures c.in_err-links.ensures)
    (links_are links h left ends))

pub returns-then-not-is_named-clause-every_spelling : goal.returns-then-not-is_named-clause-every_spelling
returns-then-not-is_named-clause-every_spelling c = λ may links h.
    let left = c.in_ok-may.rest.now in
    let said = c.front_commits-commits.result.0 in
    let found = links_read c.front_zero-zero.result.0 c.in_ok-links.links in
    let (m, ends) =
    c.in_ok-may.ensures.every_spelling may h.word (whole_tail h.commits links) h.spells (no_comma links h) h.are_bytes in
    let same = same_links said h.commits found links left (some-read left c.front_commits-commits.result.1.now
    c.front_zero-zero.result.1.now said c.front_zero-zero.result.0 c.front_commits-commits.ensures c.front_zero-zero.ensures
    c.in_ok-links.links.items c.in_ok-links.ensures) (links_are links h left ends) in
    let some : is_named said found ≡ true =
    ap (λ (k : Bool × MarkedLinks). is_named k.0 k.1) same ∙ named-so links h in
    search (rules, some)

pub returns-clause-spelled : goal.returns-clause-spelled
returns-clause-spelled c =
    let left = c.in_ok-may.rest.now in
    let said = c.front_commits-commits.result.0 in
    let found = links_read c.front_zero-zero.result.0 c.in_ok-links.links in
    let (word, spells, text) = c.in_ok-may.ensures.spelled in
    let some : is_named said found ≡ true = search rules in
    links_spelled c.args.bytes.now left word c.in_ok-may.may said found spells text (some-read left
    c.front_commits-commits.result.1.now c.front_zero-zero.result.1.now said c.front_zero-zero.result.0 c.front_commits-commits.ensures
    c.front_zero-zero.ensures c.in_ok-links.links.items c.in_ok-links.ensures) some

pub returns-clause-every_spelling : goal.returns-clause-every_spelling
returns-clause-every_spelling c = λ may links h.
    let left = c.in_ok-may.rest.now in
    let said = c.front_commits-commits.result.0 in
    let found = links_read c.front_zero-zero.result.0 c.in_ok-links.links in
    let (m, ends) =
    c.in_ok-may.ensures.every_spelling may h.word (whole_tail h.commits links) h.spells (no_comma links h) h.are_bytes in
    let same = same_links said h.commits found links left (some-read left c.front_commits-commits.result.1.now
    c.front_zero-zero.result.1.now said c.front_zero-zero.result.0 c.front_commits-commits.ensures c.front_zero-zero.ensures
    c.in_ok-links.links.items c.in_ok-links.ensures) (links_are links h left ends) in
    (m, ap (λ (k : Bool × MarkedLinks). k.1) same)
