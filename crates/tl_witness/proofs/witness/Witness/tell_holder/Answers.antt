use Rattle.std.proofs.Common.{◌≡◌, ◌++◌, ap, sym, ◌∙◌}
use Rattle.std.proofs.lemmas.List.{append-nil}
use Rattle.std.proofs.lemmas.Result.{on_ok_weaker}
use Rattle.tl_explain.specs.statement.Evidence.{mention_of}
use Rattle.tl_witness.proofs.Witnesses.{holder-left, holder-told}
use Rattle.tl_witness.proofs.witness.Witness.tell_holder.Goals as goal

pub returns-then-leaves : goal.returns-then-leaves
returns-then-leaves g c = λ w n block t k lt.
    let h = c.held-held.result in
    sym (append-nil c.args.out.now.items)
    ∙ ap (λ text. c.args.out.now.items ++ text) (holder-left (g.X.Places.names c.args.places.now) c.args.link block
    c.args.given h.perm
    (mention_of h.since) c.leaves.result t (c.held-held.ensures.since w n block t k lt) c.leaves.ensures
    c.if-leaves.true)

pub returns : goal.returns
returns g c = on_ok_weaker c.append_permission.result
    (λ text w n block t k lt.
    let h = c.held-held.result in
    let small : c.args.self.now.block ≡ block = k.block_is in
    rw small at (text (rw small k.addressed))
    ∙ ap (λ line. c.args.out.now.items ++ line) (holder-told (g.X.Places.names c.args.places.now) c.args.link block
    c.args.given h.perm
    (mention_of h.since) c.leaves.result t (c.held-held.ensures.since w n block t k lt)
    (c.held-held.ensures.said w n block t k lt) c.leaves.ensures c.if-leaves.false))
    c.append_permission.ensures
