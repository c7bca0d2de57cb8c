use Rattle.std.proofs.Common.{refl, sym, ◌∙◌, ap, ◌≡◌, length, Err, Some}
use Rattle.std.{specs.Prelude.slice_get, proofs.lemmas.Result.err_from_is_err_and}
use Rattle.std.{proofs.lemmas.Option.slice_get_within, proofs.lemmas.Option.slice_get_read}
use Rattle.tl_manager.specs.code.Admission.{admission_of}
use Rattle.tl_manager.proofs.judging.Judging.{judged-ours, judged-illegal, judged-legal, on-ok}
use Rattle.tl_manager.proofs.manager.state.ManagerState.judge.Goals as goal

pub returns-then-not-is_from_client-clause-judged : goal.returns-then-not-is_from_client-clause-judged
returns-then-not-is_from_client-clause-judged g c = λ config e k.
    let found : slice_get c.args.self.now.link_states.items c.args.link.0 ≡ Some c.in-Some.link_state.now =
    rw (c.from.ensures, c.deref.ensures.value) at (slice_get_read c.deref.result.now
    (length c.deref.result.now) c.from.result c.in-Some.link_state.now refl c.in-Some.ensures.lookup.3.0
    c.in-Some.ensures.lookup.1) in
    judged-ours config c.args.link c.args.channel c.in-Some.link_state.now c.args.beat.now e
    (k.link_states c.args.link.0 c.in-Some.link_state.now found) c.if-link_state.false
    (sym c.is_from_client.ensures ∙ c.if-not-is_from_client.true)

pub returns-in_err-check_beat-clause-judged : goal.returns-in_err-check_beat-clause-judged
returns-in_err-check_beat-clause-judged g c = λ config e k.
    let found : slice_get c.args.self.now.link_states.items c.args.link.0 ≡ Some c.in-Some.link_state.now =
    rw (c.from.ensures, c.deref.ensures.value) at (slice_get_read c.deref.result.now
    (length c.deref.result.now) c.from.result c.in-Some.link_state.now refl c.in-Some.ensures.lookup.3.0
    c.in-Some.ensures.lookup.1) in
    let p = err_from_is_err_and c.from_residual.result c.from_residual.ensures.1 in
    p.1 ∙ ap Err p.2 ∙ judged-illegal config c.args.link c.args.channel c.in-Some.link_state.now c.args.beat.now e _
    (k.link_states c.args.link.0 c.in-Some.link_state.now found) c.if-link_state.false
    (sym c.is_from_client.ensures ∙ c.if-not-is_from_client.false) c.in_err-check_beat.ensures.value

pub returns-clause-judged : goal.returns-clause-judged
returns-clause-judged g c = λ config e k.
    let found : slice_get c.args.self.now.link_states.items c.args.link.0 ≡ Some c.in-Some.link_state.now =
    rw (c.from.ensures, c.deref.ensures.value) at (slice_get_read c.deref.result.now
    (length c.deref.result.now) c.from.result c.in-Some.link_state.now refl c.in-Some.ensures.lookup.3.0
    c.in-Some.ensures.lookup.1) in
    let link_state = k.link_states c.args.link.0 c.in-Some.link_state.now found in
    c.judge_order.ensures config e k link_state
    ∙ ap admission_of (judged-legal config c.args.link c.args.channel c.in-Some.link_state.now c.args.beat.now e
    link_state c.if-link_state.false
    (sym c.is_from_client.ensures ∙ c.if-not-is_from_client.false) c.in_ok-check_beat.ensures.value)

pub returns-clause-takeable : goal.returns-clause-takeable
returns-clause-takeable g c = on-ok c.judge_order.result _ c.in_ok-check_beat.ensures.takeable

pub returns-clause-link : goal.returns-clause-link
returns-clause-link g c =
    let found : slice_get c.args.self.now.link_states.items c.args.link.0 ≡ Some c.in-Some.link_state.now =
    rw (c.from.ensures, c.deref.ensures.value) at (slice_get_read c.deref.result.now
    (length c.deref.result.now) c.from.result c.in-Some.link_state.now refl c.in-Some.ensures.lookup.3.0
    c.in-Some.ensures.lookup.1) in
    on-ok c.judge_order.result _ (slice_get_within c.args.self.now.link_states.items c.args.link.0
    c.in-Some.link_state.now found)
