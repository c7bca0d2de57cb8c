use Rattle.std.proofs.Common.{rules, arith, ◌≡◌, ◌≤◌, ◌<◌, ◌+◌, ◌∷◌, ◌++◌, ◌∙◌, [], List, ℕ, length, refl, ap, sym}
use Rattle.std.proofs.Common.{append_assoc, length-append}
use Rattle.tl_lines.proofs.Progress.{ends_open, feeds_stopped}
use Rattle.tl_lines.proofs.lines.Lines.feed.Goals as goal

pub returns-in_default-join-clause-feeds : goal.returns-in_default-join-clause-feeds
returns-in_default-join-clause-feeds g c =
    let front = c.in-Some.ensures.0.0 in
    let split : c.in-Some.line.now ++ c.in-Some.rest.now ≡ front ++ 10 ∷ c.in-Some.rest.now =
    rw c.in-Some.ensures.0.2 (append_assoc front (10 ∷ []) c.in-Some.rest.now) in
    let size : length c.in-Some.line.now ≡ length front + 1 = rw c.in-Some.ensures.0.2 (length-append front (10 ∷ [])) in
    let same : c.replace-begun.result.items ≡ c.args.self.now.begun.items = rw c.replace-begun.ensures.value refl in
    let past : 256 < length c.replace-begun.result.items + length c.in-Some.line.now = search rules in
    let long : 256 ≤ length c.args.self.now.begun.items + length front =
    omega (arith, size, past, ap (λ (begun : List ℕ). length begun) same) in
    feeds_stopped g.H.LineHandler.knows (g.H.LineHandler.tells (g.H.LineHandler.purpose c.args.self.now.handler)) _
    c.args.self.now _ _ _ _ front (10 ∷ c.in-Some.rest.now) (sym c.in-Some.ensures.1 ∙ split) c.in-Some.ensures.0.1 long
    c.stop.ensures.broken c.stop.ensures.stops

pub returns-in_default-join-clause-ends : goal.returns-in_default-join-clause-ends
returns-in_default-join-clause-ends g c = λ broken.
    let front = c.in-Some.ensures.0.0 in
    let split : c.in-Some.line.now ++ c.in-Some.rest.now ≡ front ++ 10 ∷ c.in-Some.rest.now =
    rw c.in-Some.ensures.0.2 (append_assoc front (10 ∷ []) c.in-Some.rest.now) in
    let size : length c.in-Some.line.now ≡ length front + 1 = rw c.in-Some.ensures.0.2 (length-append front (10 ∷ [])) in
    let same : c.replace-begun.result.items ≡ c.args.self.now.begun.items = rw c.replace-begun.ensures.value refl in
    let past : 256 < length c.replace-begun.result.items + length c.in-Some.line.now = search rules in
    let long : 256 ≤ length c.args.self.now.begun.items + length front =
    omega (arith, size, past, ap (λ (begun : List ℕ). length begun) same) in
    ends_open g.H.LineHandler.knows g.H.LineHandler.ends c.args.self.now _ _ _ front (10 ∷ c.in-Some.rest.now)
    (sym c.in-Some.ensures.1 ∙ split) c.in-Some.ensures.0.1 long (rw broken at c.stop.ensures.ends)

pub returns-clause-feeds : goal.returns-clause-feeds
returns-clause-feeds g c =
    let same : c.replace-begun.result.items ≡ c.args.self.now.begun.items = rw c.replace-begun.ensures.value refl in
    let joined : c.whole_line-whole.result.now ≡ c.replace-begun.result.items ++ c.in-Some.line.now =
    c.whole_line-whole.ensures ∙ rw c.as_slice.ensures.value c.in-Some-join.ensures in
    let whole : c.args.self.now.begun.items ++ c.in-Some.line.now ≡ c.whole_line-whole.result.now =
    ap (λ (begun : List ℕ). begun ++ c.in-Some.line.now) (sym same) ∙ sym joined in
    rw c.in-Some.ensures.1 at (c.judge_lines.ensures.feeds c.args.self.now c.in-Some.line.now
    (c.in-Some.ensures.0, whole, refl, refl))

pub returns-clause-ends : goal.returns-clause-ends
returns-clause-ends g c = λ broken.
    let same : c.replace-begun.result.items ≡ c.args.self.now.begun.items = rw c.replace-begun.ensures.value refl in
    let joined : c.whole_line-whole.result.now ≡ c.replace-begun.result.items ++ c.in-Some.line.now =
    c.whole_line-whole.ensures ∙ rw c.as_slice.ensures.value c.in-Some-join.ensures in
    let whole : c.args.self.now.begun.items ++ c.in-Some.line.now ≡ c.whole_line-whole.result.now =
    ap (λ (begun : List ℕ). begun ++ c.in-Some.line.now) (sym same) ∙ sym joined in
    rw c.in-Some.ensures.1 at (c.judge_lines.ensures.ends c.args.self.now c.in-Some.line.now
    (c.in-Some.ensures.0, whole, refl, refl) broken)

pub returns-clause-fault : goal.returns-clause-fault
returns-clause-fault g c =
    let same : c.replace-begun.result.items ≡ c.args.self.now.begun.items = rw c.replace-begun.ensures.value refl in
    let joined : c.whole_line-whole.result.now ≡ c.replace-begun.result.items ++ c.in-Some.line.now =
    c.whole_line-whole.ensures ∙ rw c.as_slice.ensures.value c.in-Some-join.ensures in
    let whole : c.args.self.now.begun.items ++ c.in-Some.line.now ≡ c.whole_line-whole.result.now =
    ap (λ (begun : List ℕ). begun ++ c.in-Some.line.now) (sym same) ∙ sym joined in
    rw c.in-Some.ensures.1 at (c.judge_lines.ensures.fault c.args.self.now c.in-Some.line.now
    (c.in-Some.ensures.0, whole, refl, refl))
