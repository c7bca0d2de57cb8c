use Rattle.std.proofs.Common.{rules, arith, ap₂, sym, ◌∙◌, ◌≡◌, ◌&&◌, true, false}
use Rattle.std.{proofs.lemmas.Bool.and_parts, specs.Prelude.length}
use Rattle.tl_beat.specs.declared.beat.Beat.{Beat}
use Rattle.tl_bytes.specs.statement.Early.{outrun_accesses}
use Rattle.tl_rules.{specs.statement.Conformance.on_link, specs.statement.History.ends}
use Rattle.tl_memory.proofs.states.AskingElsewhere.{asks-calm, asks-known}
use Rattle.tl_memory.proofs.states.Settling.{kept-found, settles-request, unsettled-request}
use Rattle.tl_memory.proofs.next.after_outrun_request.Goals as goal

pub returns-then-not-both : goal.returns-then-not-both
returns-then-not-both g c = λ n block link y t k is here asked last kept now.
    let there = kept-found link.0 y.source block c.args.access.now c.args.state.now.outrun (outrun_accesses t)
    k.outrun_are (rw here at is.outran) kept in
    let off : c.both.result ≡ false = search rules in
    let less = sym c.both.ensures ∙ off in
    let more : (ends (Beat.A y) (on_link link.0 t) && there.0.answered) ≡ false =
    ap₂ (λ a b. a && b) (sym last) (sym there.2.answered_is) ∙ less in (
      asks-known block link y there.0 t (record { inside = k.accesses_are.inside; reach_inside = k.outrun_are.inside })
          there.1 (unsettled-request block link y there.0 t there.1 more),
      asks-calm link y t asked,
    )

pub returns : goal.returns
returns g c = λ n block link y t k is here asked last kept now.
    let there = kept-found link.0 y.source block c.args.access.now c.args.state.now.outrun (outrun_accesses t)
    k.outrun_are (rw here at is.outran) kept in
    let on : c.both.result ≡ true = search rules in
    let both = and_parts c.args.completes c.args.access.now.answered (sym c.both.ensures ∙ on) in
    let before : c.saturating_sub-before.result ≡ length t = omega (arith, c.saturating_sub-before.ensures, now) in
    c.in_ok-settled.ensures n block (link, Beat.A y) t k
    (settles-request link y c.args.access.now there.0 block t there.1 there.2 both.1 (sym last ∙ both.0)) before
