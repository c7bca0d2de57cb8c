use Rattle.std.proofs.Common.{◌≡◌, rules, true, false, sym, ◌∙◌, length}
use Rattle.tl_commits.proofs.BeatsJudged.{bytes-granted, bytes-read, bytes-true}
use Rattle.tl_commits.proofs.judge.CommitJudge.broken_bytes.Goals as goal

pub returns-then-not-grants_truly : goal.returns-then-not-grants_truly
returns-then-not-grants_truly g c = λ levels complete l e k fine met.
    let off : c.grants_truly.result ≡ false = search rules in
    bytes-granted complete (length levels) c.args.link.0 c.args.beat.now e
    (sym (c.grants_truly.ensures levels l complete e k.judge_is fine k.grants_are.count_is met) ∙ off)

pub returns-then-not-reads_truly : goal.returns-then-not-reads_truly
returns-then-not-reads_truly g c = λ levels complete l e k fine met.
    let off : c.reads_truly.result ≡ false = search rules in
    bytes-read complete (length levels) c.args.link.0 c.args.beat.now e
    (sym (c.reads_truly.ensures levels l complete e k.judge_is fine k.readings_are) ∙ off)

pub returns : goal.returns
returns g c = λ levels complete l e k fine met.
    let on : c.grants_truly.result ≡ true = search rules in
    let too : c.reads_truly.result ≡ true = search rules in
    bytes-true complete (length levels) c.args.link.0 c.args.beat.now e
    (sym (c.grants_truly.ensures levels l complete e k.judge_is fine k.grants_are.count_is met) ∙ on)
    (sym (c.reads_truly.ensures levels l complete e k.judge_is fine k.readings_are) ∙ too)
