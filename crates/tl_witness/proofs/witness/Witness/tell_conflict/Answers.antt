use Rattle.std.proofs.Common.{◌≡◌, ◌++◌, ap, sym, ◌∙◌}
use Rattle.std.proofs.lemmas.Result.{on_ok_weaker}
use Rattle.tl_explain.specs.statement.Evidence.{mention_of}
use Rattle.tl_witness.proofs.Witnesses.{conflict-none, conflict-told}
use Rattle.tl_witness.proofs.witness.Witness.tell_conflict.Goals as goal

pub returns-in_default : goal.returns-in_default
returns-in_default g c = on_ok_weaker c.tell_holder.result
    (λ told w n block t k lt is.
    conflict-none (g.X.Places.names c.args.places.now) c.args.coming c.args.link c.args.given block t
    c.args.out.now.items _ c.in_default.not-Some
    (told w n block t k lt))
    c.tell_holder.ensures

pub returns : goal.returns
returns g c = on_ok_weaker c.append_permission.result
    (λ text w n block t k lt is.
    let small : c.args.self.now.block ≡ block = k.block_is in
    rw small at (text (rw small k.addressed))
    ∙ ap (λ line. c.args.out.now.items ++ line) (conflict-told (g.X.Places.names c.args.places.now) c.args.link block
    c.args.given c.in-Some.perm
    c.args.coming (mention_of c.begun.result) c.leaves.result t c.in-Some.is c.leaves.ensures c.if-leaves.false
    (c.begun.ensures w n block c.in-Some.perm t k lt (sym is ∙ c.in-Some.is))))
    c.append_permission.ensures
