use Rattle.std.proofs.Common.{arith, refl, rules, ◌≡◌, ◌∙◌, ◌++◌, ap, length, take, ◌∷◌, [], None}
use Rattle.std.{proofs.Math.Seq.take-append_seam, proofs.lemmas.Grind.common_steps}
use Rattle.tl_memory.{specs.statement.Blocks.place_in, specs.statement.BlockMap.value_in}
use Rattle.tl_memory.{proofs.states.Tables.blocks-more}
use Rattle.tl_memory.{proofs.states.Tables.blocks-same}
use Rattle.tl_memory.proofs.blocks.Blocks.find.Goals as goal

pub returns-in-Ok-insert-clause-known : goal.returns-in-Ok-insert-clause-known
returns-in-Ok-insert-clause-known g c = λ n t k.
    let unmet : place_in c.args.self.now c.args.block ≡ None = search rules in
    blocks-more c.args.self.now _ c.new.result n c.args.block t c.in_ok-push.ensures.items
    (λ other. grind (arith, common_steps, c.in-Ok-insert.ensures.kept other)) refl unmet
    (c.new.ensures n c.args.block) k

pub returns-in-Err-clause-known : goal.returns-in-Err-clause-known
returns-in-Err-clause-known g c = λ n t k.
    let items = c.args.self.now.states.items in
    let place : c.len-place.result ≡ length items = omega (arith, c.args.self.now.states.ok) in
    blocks-same c.args.self.now _ n t
    (c.truncate.ensures.items ∙ ap (take c.len-place.result) c.in_ok-push.ensures.items
    ∙ ap (λ m. take m (items ++ c.new.result ∷ [])) place ∙ take-append_seam items (c.new.result ∷ []))
    (λ other. ap (λ m. value_in m other) c.in-Err.ensures.unchanged) refl k

pub returns-in_err-push-clause-known : goal.returns-in_err-push-clause-known
returns-in_err-push-clause-known g c = λ n t k.
    blocks-same c.args.self.now _ n t c.in_err-push.ensures.items (λ other. refl) refl k
