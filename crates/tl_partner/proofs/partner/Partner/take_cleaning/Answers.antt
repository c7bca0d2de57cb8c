use Rattle.std.proofs.Common.{◌≡◌, ◌∙◌, refl, sym, length, []}
use Rattle.std.proofs.lemmas.Option.{get_or_from_slice_get, slice_get_read}
use Rattle.tl_burst.specs.statement.Burst.{beats_of}
use Rattle.tl_partner.specs.code.Cleanings.{cleaning_at}
use Rattle.tl_partner.proofs.Taking.{answered-other, answered-whole, other_c, taken-other, taken-part}
use Rattle.tl_partner.proofs.Taking.{taken-whole}
use Rattle.tl_partner.proofs.partner.Partner.take_cleaning.Goals as goal

pub returns-then-not-take_beat-clause-after : goal.returns-then-not-take_beat-clause-after
returns-then-not-take_beat-clause-after g c = λ config e k goes.
    let burst : cleaning_at c.args.self.now.cleanings.items c.args.link.0 ≡ c.index_mut.result.now =
    get_or_from_slice_get c.args.self.now.cleanings.items c.args.link.0 c.index_mut.result.now [] (slice_get_read
    c.args.self.now.cleanings.items (length c.args.self.now.cleanings.items) c.args.link.0
    c.index_mut.result.now refl c.requires.link (rw c.from.ensures at c.index_mut.ensures.value)) in
    let on = rw burst at goes in
    rw c.from.ensures (taken-part g.D.Directory.perm_of c.args.self.now.lenient.manager
    c.args.self.now.cleanings.items config c.args.link c.args.beat.now c.index_mut.result.now c.take_beat.new.cleaning e
    k burst (sym (c.take_beat.ensures.completes on) ∙ c.if-not-take_beat.true) (c.take_beat.ensures.grows on))

pub returns-in-C-clause-answer : goal.returns-in-C-clause-answer
returns-in-C-clause-answer g c = λ config e k goes.
    let burst : cleaning_at c.args.self.now.cleanings.items c.args.link.0 ≡ c.index_mut.result.now =
    get_or_from_slice_get c.args.self.now.cleanings.items c.args.link.0 c.index_mut.result.now [] (slice_get_read
    c.args.self.now.cleanings.items (length c.args.self.now.cleanings.items) c.args.link.0
    c.index_mut.result.now refl c.requires.link (rw c.from.ensures at c.index_mut.ensures.value)) in
    let on = rw burst at goes in
    let whole = rw (c.if-not-take_beat.false, c.in-C.is) at (c.take_beat.ensures.message on) in
    c.clean.ensures.answer ∙ answered-whole g.D.Directory.perm_of c.args.self.now.lenient.manager
    c.args.self.now.cleanings.items config c.args.link c.args.beat.now c.index_mut.result.now c.in-C.release e k burst
    (sym (c.take_beat.ensures.completes on) ∙ c.if-not-take_beat.false) c.args.self.now.width (rw c.in-C.is at
    c.prove_filled.ensures) whole

pub returns-in-C-clause-after : goal.returns-in-C-clause-after
returns-in-C-clause-after g c = λ config e k goes.
    let burst : cleaning_at c.args.self.now.cleanings.items c.args.link.0 ≡ c.index_mut.result.now =
    get_or_from_slice_get c.args.self.now.cleanings.items c.args.link.0 c.index_mut.result.now [] (slice_get_read
    c.args.self.now.cleanings.items (length c.args.self.now.cleanings.items) c.args.link.0
    c.index_mut.result.now refl c.requires.link (rw c.from.ensures at c.index_mut.ensures.value)) in
    let on = rw burst at goes in
    let whole = rw (c.if-not-take_beat.false, c.in-C.is) at (c.take_beat.ensures.message on) in
    rw (c.clean.ensures.cleanings, c.from.ensures) (taken-whole g.D.Directory.perm_of c.args.self.now.lenient.manager
    c.clean.new.self.lenient.manager
    c.args.self.now.cleanings.items config c.args.link c.args.beat.now c.index_mut.result.now c.take_beat.new.cleaning
    c.in-C.release e k burst (sym (c.take_beat.ensures.completes on) ∙ c.if-not-take_beat.false)
    (c.take_beat.ensures.grows on) c.args.self.now.width (rw c.in-C.is at c.prove_filled.ensures) whole
    (c.clean.ensures.knows config e.manager k.knows))

pub returns-in_default-clause-answer : goal.returns-in_default-clause-answer
returns-in_default-clause-answer g c = λ config e k goes.
    let burst : cleaning_at c.args.self.now.cleanings.items c.args.link.0 ≡ c.index_mut.result.now =
    get_or_from_slice_get c.args.self.now.cleanings.items c.args.link.0 c.index_mut.result.now [] (slice_get_read
    c.args.self.now.cleanings.items (length c.args.self.now.cleanings.items) c.args.link.0
    c.index_mut.result.now refl c.requires.link (rw c.from.ensures at c.index_mut.ensures.value)) in
    let on = rw burst at goes in
    let whole = rw c.if-not-take_beat.false at (c.take_beat.ensures.message on) in
    rw c.new-in_default.ensures (answered-other g.D.Directory.perm_of c.args.self.now.lenient.manager
    c.args.self.now.cleanings.items config c.args.link c.args.beat.now c.index_mut.result.now e k burst
    (sym (c.take_beat.ensures.completes on) ∙ c.if-not-take_beat.false)
    (other_c c.take_beat.new.message c.args.beat.now c.index_mut.result.now (beats_of c.take_beat.new.message)
    c.in_default.not-C whole.0))

pub returns-in_default-clause-after : goal.returns-in_default-clause-after
returns-in_default-clause-after g c = λ config e k goes.
    let burst : cleaning_at c.args.self.now.cleanings.items c.args.link.0 ≡ c.index_mut.result.now =
    get_or_from_slice_get c.args.self.now.cleanings.items c.args.link.0 c.index_mut.result.now [] (slice_get_read
    c.args.self.now.cleanings.items (length c.args.self.now.cleanings.items) c.args.link.0
    c.index_mut.result.now refl c.requires.link (rw c.from.ensures at c.index_mut.ensures.value)) in
    let on = rw burst at goes in
    let whole = rw c.if-not-take_beat.false at (c.take_beat.ensures.message on) in
    rw c.from.ensures (taken-other g.D.Directory.perm_of c.args.self.now.lenient.manager
    c.args.self.now.cleanings.items config c.args.link c.args.beat.now c.index_mut.result.now c.take_beat.new.cleaning e
    k burst (sym (c.take_beat.ensures.completes on) ∙ c.if-not-take_beat.false) (c.take_beat.ensures.grows on)
    (other_c c.take_beat.new.message c.args.beat.now c.index_mut.result.now (beats_of c.take_beat.new.message)
    c.in_default.not-C whole.0))
