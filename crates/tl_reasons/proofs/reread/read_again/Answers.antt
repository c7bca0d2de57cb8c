use Rattle.std.proofs.Common.{rules, ap, sym, ◌∙◌, []}
use Rattle.std.proofs.KnownBytes.{Consumes-nil}
use Rattle.tl_reasons.specs.declared.replay.Replay.{Replay}
use Rattle.tl_reasons.proofs.Replaying.{reads_on, reads_to}
use Rattle.tl_reasons.proofs.reread.read_again.Goals as goal

pub loop-init : goal.loop-init
loop-init g c = record {
  room = search rules;
  so_far = ([], Consumes-nil _, rw c.new-out.ensures.items (c.new-lines.ensures.knows c.requires));
}

pub returns-then-handler-clause-ok : goal.returns-then-handler-clause-ok
returns-then-handler-clause-ok g c =
    rw c.into_handler.ensures (reads_to _ _ _ c.loop.lines c.read_piece.new.lines _ _ _ c.loop.invariant.so_far
    c.in_ok-count.ensures.ok (rw c.deref.ensures.value at (c.in_ok-read_piece.ensures.ok c.in-Clean.is))
    (ap (λ (r : Replay g.row.W). r.reached) (sym c.handler.ensures) ∙ c.if-handler.true))

pub loop-preserved : goal.loop-preserved
loop-preserved g c = record {
  room = search rules;
  so_far = reads_on _ _ _ c.loop.lines c.read_piece.new.lines _ _ _ c.loop.invariant.so_far c.in_ok-count.ensures.ok
      (rw c.deref.ensures.value at (c.in_ok-read_piece.ensures.ok c.in-Clean.is))
      (ap (λ (r : Replay g.row.W). r.reached) (sym c.handler.ensures) ∙ c.if-handler.false);
}
