use Rattle.std.proofs.Common.{◌≡◌, ◌∙◌, ◌+◌, [], sym, ap, arith, rules}
use Rattle.tl_burst.specs.statement.Burst.{beats_of, begun}
use Rattle.tl_burst.proofs.Begun.{begun_more, completes-not_yet, completes-now, grown-not_yet, grown-now, is_broken}
use Rattle.tl_burst.proofs.Begun.{one_more_burst}
use Rattle.tl_burst.proofs.Lanes.{within_payload, few_beats}
use Rattle.tl_burst.proofs.Splitting.{own-refused, own-not_yet, own-now, split_grows, split_closes}
use Rattle.tl_burst.proofs.assembler.Assembler.take_into.Goals as goal

pub write_beat-requires : goal.write_beat-requires
write_beat-requires g c =
    search (rules, within_payload c.prepare.new.message c.self.inside.taken c.requires.width c.prepare.ensures.within)

pub overflow_add-self-inside : goal.overflow_add-self-inside
overflow_add-self-inside g c = let few = few_beats c.prepare.new.message c.self.inside.taken c.requires.width
    c.prepare.ensures.within in search (rules, few)

-- after a beat that is the only one of its burst
pub returns-then-take_only-clause-whole : goal.returns-then-take_only-clause-whole
returns-then-take_only-clause-whole g c = λ m i begun_is beat_is lt blank.
    let zero : 0 ≡ c.self.inside.taken = omega (arith, c.if-self-eq0.true) in
    let none : [] ≡ c.args.self.now = ap (begun c.self.inside.message) zero ∙ c.self.view_is in
    own-now c.args.self.now c.args.beat.now c.take_only.new.message m i c.requires.width
    (rw (← none) (sym c.if-take_only.ensures.only)) (rw (← none) c.if-take_only.ensures.whole) begun_is beat_is blank

pub returns-then-take_only-clause-splits : goal.returns-then-take_only-clause-splits
returns-then-take_only-clause-splits g c = λ beats messages s.
    let zero : 0 ≡ c.self.inside.taken = omega (arith, c.if-self-eq0.true) in
    let none : [] ≡ c.args.self.now = ap (begun c.self.inside.message) zero ∙ c.self.view_is in
    rw none at (split_closes beats messages [] c.take_only.new.message c.args.beat.now c.requires.width
    c.if-take_only.ensures.whole (rw none s))

pub returns-then-not-prepare-clause-whole : goal.returns-then-not-prepare-clause-whole
returns-then-not-prepare-clause-whole g c = λ m i begun_is beat_is lt blank.
    absurd (own-refused c.args.self.now c.args.beat.now m i
    (is_broken _ _ _ c.args.beat.now c.self.view_is c.if-not-prepare.ensures.broken) begun_is beat_is)

-- after a beat that isn't the last of its burst
pub returns-then-self-beats_of-clause-grows : goal.returns-then-self-beats_of-clause-grows
returns-then-self-beats_of-clause-grows g c =
    let burst = begun_more c.self.inside.message c.prepare.new.message c.write_beat.new.message c.args.self.now
    c.args.beat.now c.self.inside.taken
    c.self.view_is c.prepare.ensures.burst c.write_beat.ensures.here c.write_beat.ensures.earlier in
    burst ∙ sym (grown-not_yet c.args.self.now c.args.beat.now
    (completes-not_yet c.self.inside.message c.prepare.new.message c.args.self.now c.args.beat.now c.self.inside.taken
    c.self.view_is
    c.if-not-prepare.ensures.same (omega (arith, c.write_beat.ensures.count))))

pub returns-then-self-beats_of-clause-message : goal.returns-then-self-beats_of-clause-message
returns-then-self-beats_of-clause-message g c = (
  sym (completes-not_yet c.self.inside.message c.prepare.new.message c.args.self.now c.args.beat.now c.self.inside.taken
      c.self.view_is
      c.if-not-prepare.ensures.same (omega (arith, c.write_beat.ensures.count))),
  tt,
)

pub returns-then-self-beats_of-clause-whole : goal.returns-then-self-beats_of-clause-whole
returns-then-self-beats_of-clause-whole g c = λ m i begun_is beat_is lt blank.
    own-not_yet c.args.self.now c.args.beat.now m i
    (completes-not_yet c.self.inside.message c.prepare.new.message c.args.self.now c.args.beat.now c.self.inside.taken
    c.self.view_is
    c.if-not-prepare.ensures.same (omega (arith, c.write_beat.ensures.count)))
    begun_is beat_is

pub returns-then-self-beats_of-clause-splits : goal.returns-then-self-beats_of-clause-splits
returns-then-self-beats_of-clause-splits g c = λ beats messages s.
    let burst = begun_more c.self.inside.message c.prepare.new.message c.write_beat.new.message c.args.self.now
    c.args.beat.now c.self.inside.taken
    c.self.view_is c.prepare.ensures.burst c.write_beat.ensures.here c.write_beat.ensures.earlier in
    rw burst (split_grows beats messages c.args.self.now c.write_beat.new.message c.args.beat.now
    (c.self.inside.taken + 1) (sym burst) (omega arith) s)

-- after the last beat of a burst
pub returns-clause-grows : goal.returns-clause-grows
returns-clause-grows g c =
    sym (grown-now c.args.self.now c.args.beat.now (completes-now c.self.inside.message c.prepare.new.message
    c.args.self.now c.args.beat.now
    c.self.inside.taken c.self.view_is c.if-not-prepare.ensures.same
    (omega (arith, c.write_beat.ensures.count, c.prepare.ensures.within))))

pub returns-clause-message : goal.returns-clause-message
returns-clause-message g c =
    let last : c.self.inside.taken + 1 ≡ beats_of c.write_beat.new.message =
    omega (arith, c.write_beat.ensures.count, c.prepare.ensures.within) in
    let burst = begun_more c.self.inside.message c.prepare.new.message c.write_beat.new.message c.args.self.now
    c.args.beat.now c.self.inside.taken
    c.self.view_is c.prepare.ensures.burst c.write_beat.ensures.here c.write_beat.ensures.earlier in (
      sym (completes-now c.self.inside.message c.prepare.new.message c.args.self.now c.args.beat.now c.self.inside.taken
          c.self.view_is
          c.if-not-prepare.ensures.same (last ∙ c.write_beat.ensures.count)),
      one_more_burst c.write_beat.new.message _ _ last burst c.write_beat.ensures.blank,
    )

pub returns-clause-whole : goal.returns-clause-whole
returns-clause-whole g c = λ m i begun_is beat_is lt blank.
    let last : c.self.inside.taken + 1 ≡ beats_of c.write_beat.new.message =
    omega (arith, c.write_beat.ensures.count, c.prepare.ensures.within) in
    let burst = begun_more c.self.inside.message c.prepare.new.message c.write_beat.new.message c.args.self.now
    c.args.beat.now c.self.inside.taken
    c.self.view_is c.prepare.ensures.burst c.write_beat.ensures.here c.write_beat.ensures.earlier in
    own-now c.args.self.now c.args.beat.now c.write_beat.new.message m i c.requires.width
    (completes-now c.self.inside.message c.prepare.new.message c.args.self.now c.args.beat.now c.self.inside.taken
    c.self.view_is c.if-not-prepare.ensures.same (last ∙ c.write_beat.ensures.count))
    (one_more_burst c.write_beat.new.message _ _ last burst c.write_beat.ensures.blank) begun_is beat_is blank

pub returns-clause-splits : goal.returns-clause-splits
returns-clause-splits g c = λ beats messages s.
    let last : c.self.inside.taken + 1 ≡ beats_of c.write_beat.new.message =
    omega (arith, c.write_beat.ensures.count, c.prepare.ensures.within) in
    let burst = begun_more c.self.inside.message c.prepare.new.message c.write_beat.new.message c.args.self.now
    c.args.beat.now c.self.inside.taken
    c.self.view_is c.prepare.ensures.burst c.write_beat.ensures.here c.write_beat.ensures.earlier in
    split_closes beats messages c.args.self.now c.write_beat.new.message c.args.beat.now c.requires.width
    (one_more_burst c.write_beat.new.message _ _ last burst c.write_beat.ensures.blank) s
