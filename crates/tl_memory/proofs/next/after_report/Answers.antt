use Rattle.std.proofs.Common.{rules, arith, sym, subst, ◌∙◌, ◌≡◌, true, false}
use Rattle.std.specs.Prelude.{length, ◌∷◌}
use Rattle.std.proofs.lemmas.Bool.{and_parts}
use Rattle.tl_forgiving.proofs.Implied.{not-true}
use Rattle.tl_beat.{specs.declared.beat.Beat.Beat, specs.declared.channel.Channel.Channel}
use Rattle.tl_beat.{specs.statement.Opcode.c_carries_data}
use Rattle.tl_burst.specs.statement.Messages.{unfinished}
use Rattle.tl_rules.{specs.statement.Conformance.on_link, specs.statement.History.ends}
use Rattle.tl_bytes.specs.statement.Early.{is_released}
use Rattle.tl_bytes.specs.statement.Free.{all_liberties}
use Rattle.tl_memory.specs.code.Early.{is_answered}
use Rattle.tl_memory.proofs.states.Leaving.{leaves-report, leaves-still}
use Rattle.tl_memory.proofs.states.Bearing.{none_of_both, report-begun, report-elsewhere, report-silent, report-stays}
use Rattle.tl_memory.proofs.states.Bearing.{report-tells}
use Rattle.tl_memory.proofs.{messages.EarlyMessages.released-is, messages.Masks.few}
use Rattle.tl_memory.proofs.next.after_report.Goals as goal

pub returns-then-not-completes : goal.returns-then-not-completes
returns-then-not-completes g c = λ n block link t k messages is here now.
    let y = c.args.y.now in
    let burst = unfinished Channel.C (on_link link.0 t) in
    let short = few g.row.W (length burst) c.requires.width is.0.0 in
    let no : c.completes.result ≡ false = search rules in
    let goes_on : ends (Beat.C y) (on_link link.0 t) ≡ false =
    sym (c.completes.ensures burst messages.c_is (omega (arith, short))) ∙ no in (
      report-elsewhere block link y t (record { inside = k.accesses_are.inside; reach_inside = k.outrun_are.inside })
          (report-begun block link y t (none_of_both (c_carries_data y.opcode) _ goes_on)),
      goes_on,
    )

pub returns-then-not-says : goal.returns-then-not-says
returns-then-not-says g c = λ n block link t k messages is here now.
    let y = c.args.y.now in
    let past = on_link link.0 t in
    let off : c.says.result ≡ false = search rules in
    let quiet = sym c.says.ensures ∙ off in
    let late : is_released block (Beat.C y) past ≡ is_answered c.args.messages.now.releasing =
    subst (λ b. is_released b (Beat.C y) past ≡ is_answered c.args.messages.now.releasing) here
    (released-is all_liberties c.args.messages.now.releasing y past is.1 messages.releasing_is) in
    c.in_ok-passed.ensures n block (link, Beat.C y) t k
    (report-elsewhere block link y t (record { inside = k.accesses_are.inside; reach_inside = k.outrun_are.inside })
    (report-silent block link y t (is_answered c.args.messages.now.releasing) late quiet))

pub returns : goal.returns
returns g c = λ n block link t k messages is here now.
    let y = c.args.y.now in
    let past = on_link link.0 t in
    let burst = unfinished Channel.C past in
    let short = few g.row.W (length burst) c.requires.width is.0.0 in
    let yes : c.completes.result ≡ true = search rules in
    let over : ends (Beat.C y) past ≡ true =
    sym (c.completes.ensures burst messages.c_is (omega (arith, short))) ∙ yes in
    let on : c.says.result ≡ true = search rules in
    let says = and_parts (c_carries_data y.opcode) _ (sym c.says.ensures ∙ on) in
    let late : is_released block (Beat.C y) past ≡ is_answered c.args.messages.now.releasing =
    subst (λ b. is_released b (Beat.C y) past ≡ is_answered c.args.messages.now.releasing) here
    (released-is all_liberties c.args.messages.now.releasing y past is.1 messages.releasing_is) in
    let all = c.with-all.ensures burst messages.c_is is.0 in
    c.in_ok-told.ensures n block (link, Beat.C y) t k
    (report-tells block link y t over says.0 here (late ∙ not-true _ says.1))
    (report-stays link y t) (leaves-still block (link, Beat.C y) t (leaves-report link y t) k.outrun_are.inside) now
    (c.bytes.ensures g.row.W (Beat.C y ∷ burst) all.bytes_are)
