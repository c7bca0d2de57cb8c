use Rattle.std.proofs.Common.{ℕ, rules, refl, sym, ap, subst, ◌∙◌, ◌≡◌, ◌∷◌, find, length, suc}
use Rattle.std.specs.Prelude.{None, Some, ◌==◌}
use Rattle.std.proofs.lemmas.Result.{IfOk-weaker}
use Rattle.std.proofs.lemmas.Bool.{and_parts, eqb-true}
use Rattle.tl_beat.specs.declared.{beat.Beat.Beat, beat.Link.Link, channel.Channel.Channel}
use Rattle.tl_burst.specs.statement.Messages.{unfinished}
use Rattle.tl_params.specs.declared.perm.Perm.{Perm}
use Rattle.tl_rules.specs.statement.{Conformance.on_link, Windows.needs}
use Rattle.tl_bytes.{specs.statement.Bytes.Access, specs.statement.Bytes.asked_by, specs.statement.Bytes.asked_since}
use Rattle.tl_bytes.{specs.statement.Bytes.is_of, specs.statement.Bytes.pending_accesses}
use Rattle.tl_bytes.{proofs.Finding.found-passes}
use Rattle.tl_memory.specs.{code.Taking.none_shown, code.Writers.is_named}
use Rattle.tl_memory.specs.statement.Known.{IsLawful, KnowsAccess, open_for}
use Rattle.tl_memory.proofs.{states.AskingElsewhere.asks-bare, states.AskingElsewhere.request-leaves}
use Rattle.tl_memory.proofs.{states.Elsewhere.free-kept}
use Rattle.tl_memory.proofs.{states.Elsewhere.last-kept}
use Rattle.tl_memory.proofs.{states.Found.found-first, states.Keeping.finds, states.States.is-found}
use Rattle.tl_memory.proofs.{states.States.none-found}
use Rattle.tl_memory.proofs.states.Asked.{asked-window, continued-as, continued-to, first-access, grown-access}
use Rattle.tl_memory.proofs.states.Asked.{whole_room}
use Rattle.tl_memory.proofs.block.BlockState.asked_access.Goals as goal

pub returns-in_default : goal.returns-in_default
returns-in_default g c = λ n block t k brought is asked here now.
    let old = c.args.self.now in
    let y = c.args.y.now in
    let link = c.args.link in
    let x : Link × Beat g.row.W = (link, Beat.A y) in
    let older = unfinished Channel.A (on_link link.0 t) in
    let access : ℕ → Access g.row.W = asked_by link.0 y (Beat.A y ∷ older) in
    let none : None ≡ find (is_named link.0 y.source) old.accesses.items = search rules in
    let found = finds link.0 y.source (open_for old.free) n block t old.accesses.items k.accesses_are
    (continued-to link.0 block y _ is.continued here) in
    let before = find (is_of link.0 y.source) (pending_accesses t) in
    let since : c.args.moment ≡ asked_since before (suc (length t)) =
    now ∙ ap (λ o. asked_since o (suc (length t))) (sym (none-found _ (open_for old.free) n block _ t none found)) in
    let lawful = subst (λ m. IsLawful (access m)) (sym since) (is.lawful asked) in
    let writer = c.new-writer.ensures older brought is.wide (whole_room g.row.W (length older) is.room.0) lawful in
    let held = request-leaves block link y t (asks-bare link y t asked) in
    let same = free-kept n Perm.Trunk block x t held in
    let admits = open_for (none_shown old.free) in
    subst (λ m. KnowsAccess c.new.result admits n block (access m) (x ∷ t)) since
    (first-access c.new.result admits c.new-writer.result c.new-windows.result n block (access c.args.moment) x t
    c.new.ensures.writer c.new.ensures.windows writer lawful here now
    (c.new-windows.ensures g.row.W n block x t (k.free_is Perm.Trunk ∙ sym same) now
    (λ off. k.last_is off ∙ sym (last-kept n block x t same (sym (k.free_is Perm.Trunk) ∙ off))))
    (found-first n block c.new.result.read (admits (needs y.opcode)) (access c.args.moment) x t
    (asked-window old n block (needs y.opcode) x t k held refl) now c.new.ensures.read))

pub returns : goal.returns
returns g c = IfOk-weaker c.grown.result _ _ (λ own grown n block t k brought is asked here now.
    let old = c.args.self.now in
    let y = c.args.y.now in
    let link = c.args.link in
    let x : Link × Beat g.row.W = (link, Beat.A y) in
    let older = unfinished Channel.A (on_link link.0 t) in
    let access : ℕ → Access g.row.W = asked_by link.0 y (Beat.A y ∷ older) in
    let to = continued-to link.0 block y _ is.continued here in
    let there : Some c.in-Some.first.now ≡ find (is_named link.0 y.source) old.accesses.items = search rules in
    let found = finds link.0 y.source (open_for old.free) n block t old.accesses.items k.accesses_are to in
    let one = is-found c.in-Some.first.now _ (open_for old.free) n block _ t there found to in
    let p = one.0 in
    let names = and_parts (p.link == link.0) (p.request.source == y.source)
    (found-passes (is_of link.0 y.source) _ p one.1) in
    let before = find (is_of link.0 y.source) (pending_accesses t) in
    let since : c.in-Some.first.now.writer.asked.moment ≡ asked_since before (suc (length t)) =
    one.2.asked_is.moment_is ∙ ap (λ o. asked_since o (suc (length t))) (sym one.1) in
    let lawful = subst (λ m. IsLawful (access m)) (sym since) (is.lawful asked) in
    let writer = c.new-writer-2.ensures older brought is.wide (whole_room g.row.W (length older) is.room.0) lawful in
    subst (λ m. KnowsAccess own (open_for (none_shown old.free)) n block (access m) (x ∷ t)) since
    (grown-access old c.in-Some.first.now own c.new-writer-2.result n block p
    (access c.in-Some.first.now.writer.asked.moment) x t k one.2 (rw (c.as_slice-accesses.ensures.value, c.as_slice.ensures.value) at grown)
    (record {
      link_is = sym (eqb-true p.link link.0 names.0);
      source_is = sym (eqb-true p.request.source y.source names.1);
      opcode_is = sym (continued-as link.0 y p _ is.continued one.1);
      asked_is = one.2.asked_is.moment_is;
    }) writer lawful here (request-leaves block link y t (asks-bare link y t asked)) refl)) c.grown.ensures
