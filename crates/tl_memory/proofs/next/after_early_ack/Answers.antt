use Rattle.tl_beat.{specs.declared.beat.Beat.Beat, specs.declared.channel.Channel.Channel}
use Rattle.tl_burst.specs.statement.Messages.{unfinished}
use Rattle.tl_rules.specs.statement.Conformance.{on_link}
use Rattle.tl_memory.proofs.states.Borne.{ack-carried, ack-outrun, ack-stays, ack-tells}
use Rattle.tl_memory.proofs.next.after_early_ack.Goals as goal

pub returns : goal.returns
returns g c = λ n block link y t k messages ack over there now.
    let burst = unfinished Channel.C (on_link link.0 t) in
    c.in_ok-told.ensures n block (link, Beat.D y) t k
    (ack-tells block link y t ack there over) (ack-stays link y t ack) (ack-outrun block link y t ack k.outrun_are.inside) now
    (ack-carried c.bytes.result.now link y t ack (c.bytes.ensures g.row.W burst messages.c_is.bytes_are))
