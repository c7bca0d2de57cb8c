use Rattle.std.proofs.Common.{rules, ℕ, [], refl, sym, ap, subst, true, not, get_or, ◌∙◌, ◌≡◌, ◌∷◌, ◌+◌, ◌*◌, ◌/◌, find}
use Rattle.std.proofs.Common.{suc, length}
use Rattle.std.specs.{Prelude.Some, Prelude.◌==◌}
use Rattle.std.proofs.lemmas.Bool.{and_parts, eq-eqb, eqb-true}
use Rattle.tl_beat.specs.declared.{beat.Beat.Beat, beat.Link.Link, channel.Channel.Channel}
use Rattle.tl_burst.specs.statement.Messages.{unfinished}
use Rattle.tl_rules.specs.statement.Conformance.{on_link}
use Rattle.tl_bytes.{specs.statement.Bytes.Access, specs.statement.Bytes.asked_by, specs.statement.Bytes.asked_since}
use Rattle.tl_bytes.{specs.statement.Bytes.is_of, specs.statement.Bytes.pending_accesses}
use Rattle.tl_bytes.{proofs.Finding.found-passes, specs.statement.Bytes.is_put}
use Rattle.tl_memory.specs.code.Taking.{asked_now, none_shown}
use Rattle.tl_memory.specs.code.Writers.{found_by, grown_in, is_named, with_writer}
use Rattle.tl_memory.specs.statement.Known.{IsLawful, KnowsAccess, open_for}
use Rattle.tl_memory.proofs.{states.AskingElsewhere.asks-bare, states.AskingElsewhere.pending-asked}
use Rattle.tl_memory.proofs.{states.AskingElsewhere.request-leaves}
use Rattle.tl_memory.proofs.{states.Elsewhere.bytes-kept}
use Rattle.tl_memory.proofs.{states.Growing.grown-items, states.Growing.none-stays, states.Growing.only-one}
use Rattle.tl_memory.proofs.{states.Growing.put-grown}
use Rattle.tl_memory.proofs.{states.Keeping.finds, states.States.is-found}
use Rattle.tl_memory.proofs.states.Asked.{asked-state, continued-as, continued-to, grown-access, leaves-asked}
use Rattle.tl_memory.proofs.states.Asked.{unsettled-asked, whole_room}
use Rattle.tl_memory.proofs.block.BlockState.grown_writer.Goals as goal

pub returns : goal.returns
returns g c = λ n block t k brought is asked fresh here next unwritten unoutrun boxed.
    let old = c.args.self.now in
    let y = c.args.y.now in
    let link = c.args.link in
    let grown = boxed ∙ ap (λ w. grown_in w old.accesses old.accesses.items) c.in_ok-new.ensures.ok in
    let only = c.index-accesses-0.result in
    let x : Link × Beat g.row.W = (link, Beat.A y) in
    let older = unfinished Channel.A (on_link link.0 t) in
    let access : ℕ → Access g.row.W = asked_by link.0 y (Beat.A y ∷ older) in
    let long : length old.accesses.items ≡ 1 = search rules in
    let first : only ≡ get_or old.accesses.items 0 only = search rules in
    let items = only-one old.accesses.items only long first in
    let named : is_named link.0 y.source only ≡ true = sym c.is_of.ensures ∙ c.if-not-is_of.false in
    let put : is_put only.writer.asked.request.opcode ≡ true = sym c.is_put.ensures ∙ c.if-not-is_put.false in
    let there : Some only ≡ find (is_named link.0 y.source) old.accesses.items = rw (items, named) refl in
    let to = continued-to link.0 block y _ is.continued here in
    let found = finds link.0 y.source (open_for old.free) n block t old.accesses.items k.accesses_are to in
    let one = is-found only _ (open_for old.free) n block _ t there found to in
    let p = one.0 in
    let names = and_parts (p.link == link.0) (p.request.source == y.source)
    (found-passes (is_of link.0 y.source) _ p one.1) in
    let before = find (is_of link.0 y.source) (pending_accesses t) in
    let since : only.writer.asked.moment ≡ asked_since before (suc (length t)) =
    one.2.asked_is.moment_is ∙ ap (λ o. asked_since o (suc (length t))) (sym one.1) in
    let lawful = subst (λ m. IsLawful (access m)) (sym since) (is.lawful asked) in
    let writer = c.new-writer.ensures older brought is.wide (whole_room g.row.W (length older) is.room.0) lawful in
    let held = request-leaves block link y t (asks-bare link y t asked) in
    let more = found_by old.free old.bytes old.accesses.items old.outrun in
    let own = with_writer c.new-writer.result only in
    let known : KnowsAccess own (open_for (none_shown old.free)) n block (asked_now link.0 y t) (x ∷ t) =
    subst (λ m. KnowsAccess own (open_for (none_shown old.free)) n block (access m) (x ∷ t)) since
    (grown-access old only own c.new-writer.result n block p (access only.writer.asked.moment) x t k one.2
    (put-grown c.new-writer.result only more put)
    (record {
      link_is = sym (eqb-true p.link link.0 names.0);
      source_is = sym (eqb-true p.request.source y.source names.1);
      opcode_is = sym (continued-as link.0 y p _ is.continued one.1);
      asked_is = one.2.asked_is.moment_is;
    }) writer lawful here held refl) in
    asked-state old next (Some (link, y.source)) n block own [] (asked_now link.0 y t) x t k unwritten unoutrun
    (ap (λ v. v.items) grown ∙ grown-items c.new-writer.result only old.accesses old.accesses.items items items)
    (pending-asked link y t asked fresh)
    (eq-eqb (y.address / 64) block here) (is.inside asked) held refl
    (bytes-kept n block old.bytes x t k.bytes_are refl (λ p lt. tt) (λ p lt. unsettled-asked link y t (64 * block + p) fresh))
    (leaves-asked block link y t fresh k.outrun_are.inside) known
    (none-stays more (Some (link, y.source)) only old.accesses.items items (ap not named))
