use Rattle.std.proofs.Common.{rules, ap, sym, ◌∙◌, ◌≡◌, ◌++◌, true, filter}
use Rattle.tl_bytes.specs.code.Tellings.{displaced, stays}
use Rattle.tl_bytes.proofs.Told.{none-displaced}
use Rattle.tl_bytes.proofs.tellings.outlived.Goals as goal
use Rattle.tl_bytes.proofs.tellings.outlived.Goals.{then-not-is_before+in_ok-displace, else-not-is_before}

pub returns : goal.returns
returns c =
    let write = c.args.write.now in
    let since = c.args.since in
    let all = displaced 64 c.args.latest.now write since in
    c.in_ok-keep.ensures ∙ ap (λ l. l ++ filter (stays write since) c.args.earlier.now) (elim c.if-not-is_before.branch [
      | then-not-is_before+in_ok-displace w ↦ ap (λ v. v.items) w.told-is ∙ w.in_ok-displace.ensures
          ∙ ap (λ l. l ++ all) c.new-told.ensures.items
      | else-not-is_before w ↦
          let yes : c.is_before.result ≡ true = search (rules, w.if-not-is_before.false) in
          ap (λ v. v.items) w.told-is ∙ c.new-told.ensures.items
          ∙ sym (none-displaced write since c.args.latest.now 64 (λ p lt. c.is_before.ensures yes p))
    ])
