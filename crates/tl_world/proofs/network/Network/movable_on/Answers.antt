use Rattle.std.proofs.Common.{rules, refl, ◌≡◌, ◌∙◌, sym, ap, inl, inr, arith}
use Rattle.std.proofs.lemmas.Bool.{cases_eq}
use Rattle.std.proofs.lemmas.Nat.Bits.{bit_at-zero}
use Rattle.std.specs.Int.{bit_at}
use Rattle.tl_world.specs.code.Holds.{clients_of}
use Rattle.tl_world.proofs.Movables.{none-unset, lowest-first}
use Rattle.tl_coherence.proofs.queues.QuiescentQueues.{first-none}
use Rattle.tl_world.proofs.network.Network.movable_on.Goals as goal

pub loop-number-init : goal.loop-number-init
loop-number-init g c = λ config s h k unset.
    none-unset config c.args.self.now.rings c.args.channel s h.channels k
    (sym (ap (λ links. bit_at links k) c.links-links.ensures) ∙ unset)

pub returns-then-moves : goal.returns-then-moves
returns-then-moves g c = λ config s h.
    lowest-first config c.args.channel c.loop-number.links c.in-Some.number s (c.loop-number.invariant config s h)
    c.in-Some.ensures.some.2 (sym (c.moves.ensures config s h) ∙ c.if-moves.true)

pub loop-number-smaller : goal.loop-number-smaller
loop-number-smaller g c =
    elim (cases_eq c.with_bit-links.result c.loop-number.links) [
      | inl same ↦
          let here : bit_at c.loop-number.links c.in-Some.number ≡ 0 =
          ap (λ links. bit_at links c.in-Some.number) (sym same) ∙ c.with_bit-links.ensures.here in
          absurd (omega (arith, here, c.in-Some.ensures.some.1))
      | inr differs ↦ omega (arith, differs, c.with_bit-links.ensures.fewer refl)
    ]

pub loop-number-preserved : goal.loop-number-preserved
loop-number-preserved g c = λ config s h k unset.
    elim (cases_eq k c.in-Some.number) [
      | inl same ↦ rw same (sym (c.moves.ensures config s h) ∙ c.if-moves.false)
      | inr other ↦ c.loop-number.invariant config s h k (sym (c.with_bit-links.ensures.others k other) ∙ unset)
    ]

pub returns : goal.returns
returns g c = λ config s h.
    let none : c.loop-number.links ≡ 0 = c.in_default.ensures.none (search rules) in
    sym (first-none config c.args.channel 0 (clients_of config) s
    (λ k. c.loop-number.invariant config s h k (rw none (bit_at-zero k))))
