use Rattle.std.proofs.Common.{◌+◌, ◌*◌, ◌∙◌, refl, sym}
use Rattle.tl_evidence.proofs.CopyTexts.{place-kept, place-lost}
use Rattle.tl_evidence.proofs.copy_record.CopyRecord.tell_place.Goals as goal

pub returns-then-is_kept-clause-told : goal.returns-then-is_kept-clause-told
returns-then-is_kept-clause-told g c = λ may levels complete e k rest.
    let r = c.args.self.now in
    place-kept (g.X.Places.names c.args.places.now) r may levels complete e k c.args.count (64 * r.block + c.args.place) rest c.args.out.now.items
    (sym (c.is_kept.ensures levels complete may e k.judge_is c.requires.place) ∙ c.if-is_kept.true)

pub returns-clause-told : goal.returns-clause-told
returns-clause-told g c = λ may levels complete e k rest.
    let r = c.args.self.now in
    place-lost (g.X.Places.names c.args.places.now) r may levels complete e k c.args.count (c.args.count + 1) (64 * r.block + c.args.place) rest
    c.args.out.now.items c.append_counted.new.out.items
    (sym (c.is_kept.ensures levels complete may e k.judge_is c.requires.place) ∙ c.if-is_kept.false) refl
    (c.in_ok-append_counted.ensures may levels complete e k)
