use Rattle.std.proofs.Common.{ap, refl, ◌∙◌, ◌≡◌, ◌<◌, ℕ}
use Rattle.std.proofs.lemmas.Result.{IfOk-weaker}
use Rattle.tl_bytes.specs.code.Tellings.{is_written, outlived, telling_at, written_at}
use Rattle.tl_bytes.{specs.declared.block_bytes.BlockBytes.BlockBytes, specs.statement.Known.tellings_of}
use Rattle.tl_bytes.proofs.Told.{kept-told, settled-is, written-anywhere, written-is, written-within}
use Rattle.tl_bytes.proofs.block_bytes.BlockBytes.with.Goals as goal
use Rattle.tl_bytes.proofs.block_bytes.BlockBytes.with.Goals.{in-Within, in-Anywhere}

pub returns-in-Told-clause-answered : goal.returns-in-Told-clause-answered
returns-in-Told-clause-answered c = IfOk-weaker c.copy.result _ _
    (λ b same w n block link y access t k quiet ended found none stands now written. written-is c.args.write.now
    c.args.moment n block c.args.standing b b link y access t refl
    (λ p lt. rw c.in-Told.is (kept-told (is_written c.args.write.now p) (tellings_of b p))) (same w n block t k) quiet
    ended found none stands now written) c.copy.ensures

pub returns-in-Told-clause-settled : goal.returns-in-Told-clause-settled
returns-in-Told-clause-settled c = IfOk-weaker c.copy.result _ _
    (λ b same w n block x t k quiet none stands now written. settled-is c.args.write.now c.args.moment n block
    c.args.standing b b x t refl
    (λ p lt. rw c.in-Told.is (kept-told (is_written c.args.write.now p) (tellings_of b p))) (same w n block t k) quiet
    none stands now written) c.copy.ensures

pub returns-clause-answered : goal.returns-clause-answered
returns-clause-answered c = λ w n block link y access t k quiet ended found none stands now written.
    let old = c.args.self.now in
    let new : BlockBytes =
    record { latest = c.in_ok-with.field-0; earlier = c.in_ok-outlived.field-0; last = old.last } in
    let latest : (p : ℕ) → p < 64
    → telling_at new.latest p ≡ written_at old.latest c.args.write.now c.args.moment p =
    c.in_ok-with.ensures in
    let earlier : new.earlier.items ≡ outlived old.latest old.earlier.items c.args.write.now
    c.match-standing.since =
    c.in_ok-outlived.ensures ∙ ap (λ m. outlived old.latest m c.args.write.now c.match-standing.since)
    c.as_slice-earlier.ensures.value in
    written-is c.args.write.now c.args.moment n block c.args.standing old new link y access t refl
    (λ p lt. elim c.match-standing.branch [
      | in-Within w ↦ rw w.in-Within.is (written-within c.args.write.now c.args.moment w.in-Within.began p old new lt
          (latest p lt) (rw w.since-is at earlier))
      | in-Anywhere w ↦ rw w.in-Anywhere.is (written-anywhere c.args.write.now c.args.moment p old new lt (latest p lt)
          (rw w.since-is at earlier))
    ])
    k quiet ended found none stands now written

pub returns-clause-settled : goal.returns-clause-settled
returns-clause-settled c = λ w n block x t k quiet none stands now written.
    let old = c.args.self.now in
    let new : BlockBytes =
    record { latest = c.in_ok-with.field-0; earlier = c.in_ok-outlived.field-0; last = old.last } in
    let latest : (p : ℕ) → p < 64
    → telling_at new.latest p ≡ written_at old.latest c.args.write.now c.args.moment p =
    c.in_ok-with.ensures in
    let earlier : new.earlier.items ≡ outlived old.latest old.earlier.items c.args.write.now
    c.match-standing.since =
    c.in_ok-outlived.ensures ∙ ap (λ m. outlived old.latest m c.args.write.now c.match-standing.since)
    c.as_slice-earlier.ensures.value in
    settled-is c.args.write.now c.args.moment n block c.args.standing old new x t refl
    (λ p lt. elim c.match-standing.branch [
      | in-Within w ↦ rw w.in-Within.is (written-within c.args.write.now c.args.moment w.in-Within.began p old new lt
          (latest p lt) (rw w.since-is at earlier))
      | in-Anywhere w ↦ rw w.in-Anywhere.is (written-anywhere c.args.write.now c.args.moment p old new lt (latest p lt)
          (rw w.since-is at earlier))
    ])
    k quiet none stands now written
