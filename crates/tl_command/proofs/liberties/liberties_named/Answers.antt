use Rattle.std.proofs.Common.{◌≡◌, None, rules}
use Rattle.tl_command.proofs.LibertyWords.{word_read}
use Rattle.tl_command.proofs.liberties.liberties_named.Goals as goal

pub returns-in_err-liberties : goal.returns-in_err-liberties
returns-in_err-liberties c =
    let same : c.as_bytes.result.now ≡ c.args.word.now = search rules in
    let every = word_read c.front_liberties.result c.args.word.now
    (rw same at c.front_liberties.ensures.every_spelling) in
    let none : c.from_residual.result ≡ None = search rules in
    let unread : c.front_liberties.result ≡ None = search rules in
    rw none (λ liberties spells. rw unread at (every liberties spells))

pub returns-else-is_empty : goal.returns-else-is_empty
returns-else-is_empty c = λ liberties spells.
    let same : c.as_bytes.result.now ≡ c.args.word.now = search rules in
    let read = word_read c.front_liberties.result c.args.word.now
    (rw same at c.front_liberties.ensures.every_spelling) liberties spells in
    search (rules, read)
