use Rattle.tl_explain.proofs.turns.Turns.take.Goals as goal

pub returns : goal.returns
returns g c = λ link t is turns. record {
  request_is = c.note.ensures _ link t is turns.request_is;
  release_with_source_is = c.note-2.ensures _ link t is turns.release_with_source_is;
  acquire_is = c.note-3.ensures _ link t is turns.acquire_is;
  release_is = c.note-4.ensures _ link t is turns.release_is;
  sink_is = c.note-5.ensures _ link t is turns.sink_is;
  grant_ack_is = c.note-6.ensures _ link t is turns.grant_ack_is;
  probe_is = c.note-7.ensures _ link t is turns.probe_is;
}
