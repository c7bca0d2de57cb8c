use Rattle.std.proofs.Common.{rules, refl, ◌≡◌, ◌∷◌, ◌+◌, ◌*◌, ◌/◌}
use Rattle.std.specs.Prelude.{None, Some}
use Rattle.std.proofs.lemmas.Bool.{eq-eqb}
use Rattle.tl_beat.specs.declared.{beat.Beat.Beat, beat.Link.Link}
use Rattle.tl_memory.specs.code.Taking.{asked_now}
use Rattle.tl_memory.specs.declared.next_state.{NextAccesses.NextAccesses, NextState.NextState}
use Rattle.tl_memory.proofs.{states.Asked.asked-state, states.Asked.leaves-asked, states.Asked.unsettled-asked}
use Rattle.tl_memory.proofs.{states.AskingElsewhere.asks-bare, states.AskingElsewhere.pending-asked}
use Rattle.tl_memory.proofs.{states.AskingElsewhere.request-leaves}
use Rattle.tl_memory.proofs.states.Elsewhere.{bytes-kept}
use Rattle.tl_memory.proofs.block.BlockState.asked.Goals as goal

pub returns : goal.returns
returns g c = λ n block t k brought is asked fresh here now.
    let old = c.args.self.now in
    let y = c.args.y.now in
    let link = c.args.link in
    let x : Link × Beat g.row.W = (link, Beat.A y) in
    let copies = c.in_ok-append_renewed.ensures in
    let items : c.append_renewed.new.copies.items ≡ c.in_ok-own.own ∷ copies.0 = search rules in
    let next : NextState g.row.W =
    record { bytes = None; accesses = NextAccesses.Renewed c.append_renewed.new.copies; outrun = None } in
    asked-state old next (Some (link, y.source)) n block c.in_ok-own.own copies.0 (asked_now link.0 y t) x t k refl refl items
    (pending-asked link y t asked fresh) (eq-eqb (y.address / 64) block here) (is.inside asked)
    (request-leaves block link y t (asks-bare link y t asked)) refl
    (bytes-kept n block old.bytes x t k.bytes_are refl (λ p lt. tt)
    (λ p lt. unsettled-asked link y t (64 * block + p) fresh))
    (leaves-asked block link y t fresh k.outrun_are.inside)
    (c.in_ok-own.ensures n block t k brought is asked here now)
    (rw (c.as_slice-before.ensures.value, c.as_slice.ensures.value) at copies.2)

pub returns-in-Some : goal.returns-in-Some
returns-in-Some g c = λ n block t k brought is asked fresh here now.
    let next : NextState g.row.W =
    record { bytes = None; accesses = NextAccesses.Grown c.in-Some.writer; outrun = None } in
    (rw c.in-Some.is at c.in_ok-writer.ensures) n block t k brought is asked fresh here next refl refl refl
