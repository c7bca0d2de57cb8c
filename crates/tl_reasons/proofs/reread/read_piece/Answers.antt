use Rattle.std.proofs.Common.{◌≡◌, ◌++◌, [], refl, sym, ◌∙◌, ap, append_assoc, true, false}
use Rattle.std.specs.Prelude.{List, ℕ, ⊤}
use Rattle.std.proofs.lemmas.List.{append-nil}
use Rattle.tl_reasons.specs.declared.replay.Replay.{Replay}
use Rattle.tl_lines.proofs.Progress.{feeds_then}
use Rattle.tl_reasons.proofs.Replaying.{Knows, keeps_rest}
use Rattle.tl_reasons.proofs.reread.read_piece.Goals as goal

pub loop-line-init : goal.loop-line-init
loop-line-init g c = ([], refl, λ read before p. rw append-nil p)

pub returns-then-handler-clause-ok : goal.returns-then-handler-clause-ok
returns-then-handler-clause-ok g c = λ clean.
    let so_far = c.loop-line.invariant in
    let cut : (so_far.0 ++ c.in-Some.line.now) ++ c.in-Some.after.now ≡ c.args.piece.now =
    append_assoc so_far.0 c.in-Some.line.now c.in-Some.after.now ∙ ap (λ (rest : List ℕ). so_far.0 ++ rest)
    c.in-Some.ensures.1 ∙ so_far.1 in (
      so_far.0 ++ c.in-Some.line.now,
      c.in-Some.after.now,
      cut,
      feeds_then (Knows g.row.W) (λ _ _ _. ⊤) _ _ _ so_far.0 c.in-Some.line.now _ _ _ _ refl so_far.2
          (rw c.in-Clean.is at c.in_ok-take_line.ensures.feeds),
      λ before.
          let yes = ap (λ (r : Replay g.row.W). r.reached) (sym c.handler.ensures) ∙ c.if-handler.true in
          let no : true ≡ false = sym yes ∙ before in absurd cc,
    )

pub loop-line-preserved : goal.loop-line-preserved
loop-line-preserved g c =
    let so_far = c.loop-line.invariant in
    let cut : (so_far.0 ++ c.in-Some.line.now) ++ c.in-Some.after.now ≡ c.args.piece.now =
    append_assoc so_far.0 c.in-Some.line.now c.in-Some.after.now ∙ ap (λ (rest : List ℕ). so_far.0 ++ rest)
    c.in-Some.ensures.1 ∙ so_far.1 in (
      so_far.0 ++ c.in-Some.line.now,
      cut,
      feeds_then (Knows g.row.W) (λ _ _ _. ⊤) _ _ _ so_far.0 c.in-Some.line.now _ _ _ _ refl so_far.2
          (rw c.in-Clean.is at c.in_ok-take_line.ensures.feeds),
    )

pub returns-clause-ok : goal.returns-clause-ok
returns-clause-ok g c = keeps_rest _ _ _ _ c.loop-line.invariant.0 c.loop-line.rest.now _ _ _ _ c.loop-line.invariant.1
    c.loop-line.invariant.2 c.keep.ensures.feeds
