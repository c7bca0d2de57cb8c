use Rattle.std.proofs.Common.{◌≡◌, refl, sym, ◌∙◌, length, Some, []}
use Rattle.std.specs.Prelude.{slice_get}
use Rattle.std.proofs.lemmas.Option.{get_or_from_slice_get, slice_get_read, slice_get_within}
use Rattle.tl_manager.proofs.judging.Judging.{on-ok}
use Rattle.tl_manager.specs.statement.Offer.{open_level}
use Rattle.tl_partner.specs.code.Cleanings.{cleaning_at}
use Rattle.tl_partner.proofs.Taking.{judged-clean, lawful-none}
use Rattle.tl_partner.specs.statement.Granting.{granted}
use Rattle.tl_partner.proofs.partner.Partner.judge_cleaning.Goals as goal

pub returns-clause-judged : goal.returns-clause-judged
returns-clause-judged g c = λ config e k.
    let found : slice_get c.args.self.now.cleanings.items c.args.link.0 ≡ Some c.in-Some.cleaning.now =
    rw (c.from.ensures, c.deref.ensures.value) at (slice_get_read c.deref.result.now
    (length c.deref.result.now) c.from.result c.in-Some.cleaning.now refl c.in-Some.ensures.lookup.3.0
    c.in-Some.ensures.lookup.1) in
    let burst : cleaning_at c.args.self.now.cleanings.items c.args.link.0 ≡ c.in-Some.cleaning.now =
    get_or_from_slice_get c.args.self.now.cleanings.items c.args.link.0 c.in-Some.cleaning.now [] found in
    let level : open_level config c.args.link e.manager ≡ Some c.in-Some-open_level.level =
    sym (c.in-Some-open_level.ensures config e.manager k.knows) in
    c.admit.ensures ∙ rw (
      c.cleaning_order-broken.ensures config e.manager k.knows,
      c.is_outside-outside.ensures,
      c.blocks-2.ensures config e.manager k.knows,
      c.is_spoiled.ensures,
      level,
      burst,
    ) (judged-clean (granted c.args.self.now.lenient.terms) config c.in-Some-open_level.level c.args.link
    c.args.channel c.args.beat.now c.in-Some.cleaning.now e.manager.trace
    (lawful-none _ c.in_ok-check.ensures.value))

pub returns-clause-link : goal.returns-clause-link
returns-clause-link g c =
    let found : slice_get c.args.self.now.cleanings.items c.args.link.0 ≡ Some c.in-Some.cleaning.now =
    rw (c.from.ensures, c.deref.ensures.value) at (slice_get_read c.deref.result.now
    (length c.deref.result.now) c.from.result c.in-Some.cleaning.now refl c.in-Some.ensures.lookup.3.0
    c.in-Some.ensures.lookup.1) in
    on-ok c.admit.result _ (slice_get_within c.args.self.now.cleanings.items c.args.link.0 c.in-Some.cleaning.now found)

pub returns-clause-takeable : goal.returns-clause-takeable
returns-clause-takeable g c = on-ok c.admit.result _ c.in_ok-check.ensures.takeable
