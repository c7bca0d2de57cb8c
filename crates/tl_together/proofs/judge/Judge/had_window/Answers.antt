use Rattle.std.proofs.Common.{◌≡◌, ℕ, sym, ap, ◌∙◌, length}
use Rattle.std.specs.Prelude.{Some, None}
use Rattle.tl_together.specs.code.Windows.{asked_in, last_in}
use Rattle.tl_together.proofs.Answered.{window_free, window_asked}
use Rattle.tl_together.proofs.judge.Judge.had_window.Goals as goal

none_some : {x : ℕ} → None ≡ Some x → ⊥
none_some e = cc

pub returns-then-is_free : goal.returns-then-is_free
returns-then-is_free g c = λ levels may t k lt asked.
    window_free c.args.self.now.links (length levels) c.args.link.0 c.args.source c.args.given c.args.block t
    c.is_free.result k.links_are asked
    (c.is_free.ensures levels may t k.monitor_is k.links_are) c.if-is_free.true

pub returns-in-None : goal.returns-in-None
returns-in-None g c = λ levels may t k lt asked.
    absurd (none_some (sym c.in-None.is ∙ c.asked_in.ensures ∙ ap
    (λ n. asked_in c.args.self.now.asked.items n c.args.source) c.from.ensures
    ∙ k.asked_are c.args.link.0 c.args.source lt asked))

pub returns-in-Some : goal.returns-in-Some
returns-in-Some g c = λ levels may t k lt asked.
    window_asked c.args.self.now.links (length levels) c.args.link.0 c.args.source c.args.given c.args.block t
    c.is_free.result c.in-Some.asked c.last_in.result
    c.args.self.now.windows c.asked_in.result k.links_are asked
    (c.is_free.ensures levels may t k.monitor_is k.links_are) c.if-is_free.false (sym c.in-Some.is)
    (c.asked_in.ensures ∙ ap (λ n. asked_in c.args.self.now.asked.items n c.args.source) c.from.ensures ∙ k.asked_are
    c.args.link.0 c.args.source lt asked)
    (c.last_in.ensures ∙ ap (λ v. last_in c.args.given v) c.get.ensures) k.windows_are
