use Rattle.std.proofs.Common.{rules, ◌≡◌, ◌<◌, ◌+◌, ◌||◌, ℕ, Bool, true, false, length, sym, ap, ◌∙◌, arith, drop}
use Rattle.tl_bytes.specs.statement.Bytes.{told_as}
use Rattle.tl_bytes.specs.statement.Known.{tellings_at}
use Rattle.tl_memory.proofs.values.ByteSets.{told-apart, told-none}
use Rattle.tl_memory.specs.code.ByteSet.{has_at}
use Rattle.tl_commits.specs.code.Reached.{is_reached}
use Rattle.tl_commits.proofs.Reaching.{put-told}
use Rattle.tl_commits.proofs.reached.add_told.Goals as goal
use Rattle.tl_commits.proofs.reached.add_told.Goals.{then-place-lt64+then-reaches, else-place-lt64}
use Rattle.tl_commits.proofs.reached.add_told.Goals.{else-place-lt64-via-then-place-lt64+else-reaches}
use Rattle.tl_commits.proofs.reached.add_told.Goals.{else-place-lt64-via-else-place-lt64}

differ : true ≡ false → ⊥
differ e = cc

pub loop-telling-preserved : goal.loop-telling-preserved
loop-telling-preserved c =
    let told = c.args.told.now in
    let index = c.loop-telling.telling-index in
    let sets = c.loop-telling.sets in
    let long = c.loop-telling.invariant.0 in
    let a = c.args.address in
    let test : ℕ → Bool = λ i. is_reached a c.args.size i in
    elim c.if-place-lt64.branch [
      | then-place-lt64+then-reaches w ↦ (
        c.if-place-lt64.array_long,
        λ i v lt small there.
            let within : c.from-place.result < length sets = omega (arith, w.if-place-lt64.true, long) in
            ap (λ s. has_at s i v || told_as v (tellings_at i (drop (index + 1) told))) w.sets-is
            ∙ put-told sets w.with.result c.from-place.result i v index told _ within c.loop-telling-test.true
            (sym c.from-place.ensures) (w.with.ensures v small) ∙ c.loop-telling.invariant.1 i v lt small there,
      )
      | else-place-lt64 w ↦ (
        c.if-place-lt64.array_long,
        λ i v lt small there.
            ap (λ s. has_at s i v || told_as v (tellings_at i (drop (index + 1) told))) w.sets-is
            ∙ ap (λ b. has_at sets i v || b) (told-apart i v told index _ c.loop-telling-test.true (λ here.
            elim w.else-place-lt64.branch [
              | else-place-lt64-via-then-place-lt64+else-reaches o ↦
                  let small_place : c.from-place.result < 64 = omega (arith, o.if-place-lt64.true) in
                  let off : o.reaches.result ≡ false = search rules in
                  differ (sym there ∙ ap test (sym here ∙ sym c.from-place.ensures) ∙ sym (o.reaches.ensures small_place) ∙ off)
              | else-place-lt64-via-else-place-lt64 o ↦ omega (arith, o.if-place-lt64.false, c.from-place.ensures, here, lt)
            ])) ∙ c.loop-telling.invariant.1 i v lt small there,
      )
    ]

pub returns : goal.returns
returns c = λ i v lt small there. sym (told-none i v c.args.told.now c.loop-telling.telling-index
    (has_at c.loop-telling.sets i v) c.loop-telling-test.false) ∙ c.loop-telling.invariant.1 i v lt small there
