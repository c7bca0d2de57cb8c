use Rattle.std.proofs.Common.{refl, sym, ◌∙◌, Ok, Err}
use Rattle.std.proofs.lemmas.List.{append-nil}
use Rattle.tl_manager.specs.declared.manager.admission.Admission.TheVariants.{Passes, Waits}
use Rattle.tl_ports.proofs.Alone.{told_by}
use Rattle.tl_ports.proofs.manager.ManagerPort.offer.Goals as goal

pub returns-in-Err : goal.returns-in-Err
returns-in-Err g c =
    told_by c.args.self.now
    (record { partner = c.offer.new.self; outgoing = c.make_room.new.self; width = c.args.self.now.width }) c.args.link
    c.args.channel c.args.beat.now (Err c.in-Err.rule) (Err c.in-Err.rule) refl
    (λ link ch. c.in_ok-make_room.ensures.same link ch ∙ sym (append-nil _)) c.in-Err.ensures.answer c.in-Err.ensures.after
    c.in-Err.ensures.terms

pub returns-in-Ok-Stalled : goal.returns-in-Ok-Stalled
returns-in-Ok-Stalled g c =
    told_by c.args.self.now
    (record { partner = c.offer.new.self; outgoing = c.make_room.new.self; width = c.args.self.now.width }) c.args.link
    c.args.channel c.args.beat.now (Ok c.in-Ok-Stalled.field-0) (Ok Waits) (rw c.in-Ok-Stalled.field-0-is refl)
    (rw c.in-Ok-Stalled.field-0-is (λ link ch. c.in_ok-make_room.ensures.same link ch ∙ sym (append-nil _)))
    c.in-Ok-Stalled.ensures.answer c.in-Ok-Stalled.ensures.after c.in-Ok-Stalled.ensures.terms

pub returns-in-Ok-Sent : goal.returns-in-Ok-Sent
returns-in-Ok-Sent g c =
    told_by c.args.self.now
    (record { partner = c.offer.new.self; outgoing = c.send_all.new.self; width = c.args.self.now.width }) c.args.link
    c.args.channel c.args.beat.now (Ok c.in-Ok-Sent.field-0) (Ok Passes) (rw c.in-Ok-Sent.field-0-is refl)
    (rw c.in-Ok-Sent.field-0-is (λ link ch. c.send_all.ensures link ch
    ∙ rw (c.in_ok-make_room.ensures.same link ch, c.as_slice.ensures.value) refl))
    c.in-Ok-Sent.ensures.answer c.in-Ok-Sent.ensures.after c.in-Ok-Sent.ensures.terms
