use Rattle.std.proofs.Common.{refl, sym, ◌≡◌, ◌∙◌, true, false, length}
use Rattle.std.specs.Prelude.{is_some, None, Option, Some}
use Rattle.tl_beat.{specs.declared.beat.Beat.Beat, specs.declared.beat.Link.Link}
use Rattle.tl_memory.proofs.states.Memories.{all-passed, held-seen, others-passed}
use Rattle.tl_memory.proofs.states.Tables.{blocks-passed}
use Rattle.tl_memory.proofs.memory.Memory.take.Goals as goal

there-is : {X : Type 0} (o : Option X) → is_some o ≡ true → (x : X) × (o ≡ Some x)
there-is None e = absurd cc
there-is (Some x) e = (x, refl)

there-isnt : {X : Type 0} (o : Option X) → is_some o ≡ false → o ≡ None
there-isnt None e = refl
there-isnt (Some x) e = absurd cc

pub returns-then-is_some : goal.returns-then-is_some
returns-then-is_some g c = λ levels t k legal fine now is seen.
    let x : Link × Beat g.row.W = (c.args.link, c.args.x.now) in
    let own = there-is c.args.change.block (sym c.is_some.ensures ∙ c.if-is_some.true) in
    let block = own.0 in
    record {
      links_are = c.take.ensures levels t k.links_are legal fine is.concerned is.expected_is;
      blocks_are = c.take-then-is_some.ensures (length levels) block x t k.blocks_are (is.kept block own.1) now
          (λ s found. is.next_is block c.args.free s own.1 found
          (held-seen c.args.change c.args.self.now (length levels) x t c.args.free block is seen own.1))
          (λ other apart. others-passed c.args.change.block block other x t is.block_is own.1 apart);
      addressed = (c.prove_typed.ensures.addressed, k.addressed);
    }

pub returns-else-is_some : goal.returns-else-is_some
returns-else-is_some g c = λ levels t k legal fine now is seen.
    let x : Link × Beat g.row.W = (c.args.link, c.args.x.now) in
    let none = there-isnt c.args.change.block (sym c.is_some.ensures ∙ c.if-is_some.false) in
    record {
      links_are = c.take.ensures levels t k.links_are legal fine is.concerned is.expected_is;
      blocks_are = blocks-passed _ (length levels) x t
          (λ block. all-passed c.args.change.block block x t is.block_is none) k.blocks_are;
      addressed = (c.prove_typed.ensures.addressed, k.addressed);
    }
