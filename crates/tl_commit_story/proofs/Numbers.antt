-- The beats of a trace with commits, numbered as its lines are.
use Rattle.std.proofs.Common.{◌≡◌, ◌∙◌, ◌+◌, ◌<◌, ℕ, Bool, [], ◌∷◌, refl, ap, arith, cond, length, suc, sym}
use Rattle.std.proofs.Common.{ne_eqb}
use Rattle.std.specs.Prelude.{◌==◌}
use Rattle.tl_beat.specs.declared.beat.Beat.{Beat}
use Rattle.tl_burst.specs.statement.Messages.{History}
use Rattle.tl_commits.specs.statement.Events.{Events, beats_of}
use Rattle.tl_events.specs.declared.commit.Event.TheVariants as event
use Rattle.tl_explain.specs.statement.Evidence.{next_line}
use Rattle.tl_rules.specs.statement.Conformance.{on_link}
use Rattle.tl_commit_story.specs.statement.Numbered.{numbered}

-- there are as many as events
pub numbered-length : {w : ℕ} (e : Events w) → length (numbered e) ≡ length e
unfolding numbered
numbered-length [] = refl
numbered-length ((link, event.Beat x) ∷ e) = ap suc (numbered-length e)
numbered-length ((link, event.Commit x) ∷ e) = ap suc (numbered-length e)

-- so the next one has the number of the next line
pub numbered-next : {w : ℕ} (number : ℕ) (e : Events w) → number ≡ length e + 2 → number ≡ next_line (numbered e)
numbered-next number e at = at ∙ ap (λ n. n + 2) (sym (numbered-length e))

one-more : {w : ℕ} (b : Bool) (x : Beat w) (some all : History w) → some ≡ all → cond b (x ∷ some) some ≡ cond b (x ∷ all) all
one-more b x some all same = rw same refl

-- each link that a header names has the same beats
pub numbered-on : {w : ℕ} (n : ℕ) (e : Events w) → n < 255 → on_link n (numbered e) ≡ on_link n (beats_of e)
unfolding numbered beats_of on_link
numbered-on n [] few = refl
numbered-on n ((link, event.Beat x) ∷ e) few =
    one-more (link.0 == n) x (on_link n (numbered e)) (on_link n (beats_of e)) (numbered-on n e few)
numbered-on n ((link, event.Commit x) ∷ e) few =
    rw (ne_eqb 255 n (λ is. absurd (omega (arith, is, few)))) (numbered-on n e few)
