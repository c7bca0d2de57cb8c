-- A judge of all links together finds no fault in the trace of a schedule.
use Rattle.std.proofs.Common.{◌≡◌, ℕ, List, [], ◌∷◌, ◌++◌, ap, append_assoc, length, subst, ◌∙◌, refl}
use Rattle.std.specs.Prelude.{Option, Some, None, option_map, reverse}
use Rattle.std.proofs.lemmas.List.{append-nil, reverse-append, reverse-reverse}
use Rattle.tl_beat.specs.declared.beat.Beat.{Beat}
use Rattle.tl_beat.specs.declared.beat.Link.{Link}
use Rattle.tl_params.specs.statement.Liberties.{liberties_of}
use Rattle.tl_params.specs.declared.level.Level.{Level}
use Rattle.tl_params.specs.declared.profile.Profile.{Profile}
use Rattle.tl_rules.specs.statement.Conformance.{Trace}
use Rattle.tl_coherence.specs.declared.event.Event.TheVariants.{Deliver}
use Rattle.tl_coherence.specs.statement.Delivery.{levels_of}
use Rattle.tl_coherence.specs.statement.Flow.{trace_of}
use Rattle.tl_together.specs.declared.breach.Breach.{Breach}
use Rattle.tl_together.specs.statement.Coherence.{breach_from, breach_or, broken_together, first_breach}
use Rattle.tl_true_bytes.proofs.Together.{concord}
use Rattle.tl_command.specs.declared.command.RunForm.TheVariants as form
use Rattle.tl_lines.specs.declared.status.Status.{Status}
use Rattle.tl_engine.specs.laws.Clean.{IsCoherent, IsUpTo}
use Rattle.tl_lines.specs.statement.Coherent.{coherent_text, fault_of_breach, faults_together}
use Rattle.tl_engine.specs.statement.Played.{Played}
use Rattle.tl_engine.proofs.TraceQuiet.{AreQuiet, trace-quiet}

unbroken : (o : Option Breach) (i : ℕ) (rest : Option (ℕ × Breach)) → breach_or o i rest ≡ None
    → (o ≡ None) × (rest ≡ None)
unbroken None i rest e = (refl, e)
unbroken (Some breach) i rest e = absurd cc

module _ {w : ℕ} (levels : List Level) (p : Profile) where
  -- the last beat of a trace without a breach breaks no rule behind the others
  last-unbroken : (before trace : Trace w) (x : Link × Beat w) → breach_from levels (liberties_of p) before (trace ++ x ∷ []) ≡ None
      → broken_together levels (liberties_of p) x (reverse trace ++ before) ≡ None
  unfolding breach_from
  last-unbroken before [] x e = (unbroken (broken_together levels (liberties_of p) x before) (length before) None e).0
  last-unbroken before (y ∷ trace) x e =
      let turned : reverse (y ∷ trace) ++ before ≡ reverse trace ++ (y ∷ before) =
      ap (λ (t : Trace w). t ++ before) (reverse-append (y ∷ []) trace) ∙ append_assoc (reverse trace) (y ∷ []) before
      in
      rw turned (last-unbroken (y ∷ before) trace x
      (unbroken (broken_together levels (liberties_of p) y before) (length before)
      (breach_from levels (liberties_of p) (y ∷ before) (trace ++ x ∷ []))
      e).1)

  newest-unbroken : (x : Link × Beat w) (t : Trace w) → first_breach levels (liberties_of p) (reverse (x ∷ t)) ≡ None
      → broken_together levels (liberties_of p) x t ≡ None
  newest-unbroken x t e =
      let others : reverse (reverse t) ++ [] ≡ t = append-nil (reverse (reverse t)) ∙ reverse-reverse t in
      subst (λ (s : Trace w). broken_together levels (liberties_of p) x s ≡ None) others
      (last-unbroken [] (reverse t) x
      (subst (λ (s : Trace w). breach_from levels (liberties_of p) [] s ≡ None) (reverse-append (x ∷ []) t) e))

all-quiet : AreQuiet faults_together
all-quiet w config log link ch o x given moving flowing tracing =
    ap (option_map fault_of_breach) (newest-unbroken (levels_of config) config.profile (link, x) (trace_of log)
    (subst (λ (t : Trace w). first_breach (levels_of config) (liberties_of config.profile) (reverse t) ≡ None) tracing
    (concord config (liberties_of config.profile) ((Deliver link ch, o) ∷ log) given (λ x e. e))))

pub trace-coherent : (lines : List (List ℕ)) (text : List ℕ) (status : Status) → Played form.Trace lines text status
    → IsUpTo IsCoherent text status
trace-coherent = trace-quiet faults_together coherent_text all-quiet
