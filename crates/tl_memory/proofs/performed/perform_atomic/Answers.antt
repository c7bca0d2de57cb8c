use Rattle.std.proofs.Common.{false, true, refl, ap, sym, ◌∙◌, ◌≡◌, ◌+◌, ◌*◌, ◌/◌}
use Rattle.std.specs.Prelude.{is_ok}
use Rattle.tl_params.specs.statement.Refusal.{ok_unless}
use Rattle.tl_rules.specs.statement.Effect.{effect}
use Rattle.tl_memory.proofs.values.Atomics.{atomic-legal, same-fields}
use Rattle.tl_memory.proofs.performed.perform_atomic.Goals as goal

pub returns-then-is_ok : goal.returns-then-is_ok
unfolding effect
returns-then-is_ok g c = λ memory atomic lawful is i lt. same-fields c.args.request.now.opcode c.args.request.now _
    memory (64 * (c.args.request.now.address / 64) + i) atomic refl refl refl refl ∙ c.perform.ensures.memory memory is
    i lt

no : false ≡ true → ⊥
no e = cc

pub returns-else-is_ok : goal.returns-else-is_ok
returns-else-is_ok g c = λ memory atomic lawful is. absurd (no (sym c.if-is_ok.false ∙ c.is_ok.ensures.value
    ∙ ap is_ok (c.check.ensures ∙ ap ok_unless (atomic-legal _ c.requires atomic lawful c.atomic_mask.ensures refl))))
