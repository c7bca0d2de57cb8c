use Rattle.std.proofs.Common.{◌∷◌, ◌&&◌, length, ap₂, subst, ◌∙◌}
use Rattle.std.specs.Prelude.{nat_lt}
use Rattle.tl_events.specs.declared.commit.Event.TheVariants as event
use Rattle.tl_commits.specs.code.Reading.{IsFound, IsNoted}
use Rattle.tl_commits.specs.statement.Events.{beats_of}
use Rattle.tl_commits.proofs.reading.Reading.take.Goals as goal

pub returns : goal.returns
unfolding beats_of
returns g c = λ levels l complete e k lt may table.
    let link = c.args.link in
    let x = c.args.beat.now in
    let count = c.beats_come.ensures levels l ((link, x) ∷ beats_of e) k lt in
    let now = c.both-now.ensures
    ∙ ap₂ (λ a d. a && d) c.goes_on.ensures (c.is_open.ensures levels l (beats_of e) k lt may) in
    record {
      noted = c.note.new.self;
      is_noted = subst (λ m. IsNoted link x (nat_lt 0 m) c.args.self.now c.note.new.self) count c.note.ensures;
      is_found = subst (λ d. IsFound complete (length levels) d ((link, event.Beat x) ∷ e) c.note.new.self c.find.new.self)
          now (c.find.ensures levels l complete ((link, event.Beat x) ∷ e) k table);
    }
