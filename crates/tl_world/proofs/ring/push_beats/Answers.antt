use Rattle.std.proofs.Common.{rules, refl, sym, arith, ◌≡◌, ◌∙◌}
use Rattle.std.proofs.lemmas.List.{append-nil}
use Rattle.tl_burst.specs.statement.Burst.{beat_of}
use Rattle.tl_burst.proofs.Lanes.{within_payload}
use Rattle.tl_burst.proofs.Splitting.{beats-positive, control_own}
use Rattle.tl_rules.specs.statement.Legality.{beats_from}
use Rattle.tl_world.proofs.Sending.{pushed}
use Rattle.tl_world.proofs.ring.push_beats.Goals as goal
use Rattle.tl_world.proofs.ring.push_beats.Goals.{then-i-ne0, else-i-ne0}

pub beat_at-beat-requires : goal.beat_at-beat-requires
beat_at-beat-requires g c = search (rules, beats-positive c.args.message.now c.requires)

pub loop-i-init : goal.loop-i-init
unfolding beats_from
loop-i-init g c = record {
  capacity = refl;
  items = λ room. sym (append-nil c.args.beats.now.items);
  first = λ none. c.beat_at-beat.ensures.beat;
  same = rw c.beat_at-beat.ensures.beat (control_own c.args.message.now 0 0);
}

pub change-requires : goal.change-requires
change-requires g c =
    search (
      rules,
      c.loop-i.invariant.same,
      within_payload c.args.message.now c.loop-i.i c.requires (search rules),
    )

pub loop-i-preserved : goal.loop-i-preserved
loop-i-preserved g c =
    let here : c.if-i-ne0.beat ≡ beat_of c.args.message.now c.loop-i.i =
    elim c.if-i-ne0.branch [
      | then-i-ne0 w ↦ w.beat-is ∙ w.change.ensures
      | else-i-ne0 w ↦ w.beat-is ∙ c.loop-i.invariant.first w.if-i-ne0.false
    ] in
    record {
      capacity = search rules;
      items = λ room.
          pushed c.args.message.now c.loop-i.i c.loop-i.beats.capacity c.args.beats.now.items c.loop-i.beats.items
          c.push_back.new.self c.if-i-ne0.beat
          (search rules) here (search rules)
          (c.loop-i.invariant.items room) (omega (arith, room, c.loop-i.invariant.capacity));
      first = λ none. absurd (omega (arith, none));
      same = rw here (control_own c.args.message.now c.loop-i.i 0);
    }
