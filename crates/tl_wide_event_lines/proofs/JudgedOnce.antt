-- Lines of wide events have one verdict.
use Rattle.std.proofs.Common.{◌≡◌, ◌∙◌, ◌+◌, ℕ, Bool, List, [], ◌∷◌, length, ap, inl, inr, subst, sym}
use Rattle.std.specs.Prelude.{Option, Some, None}
use Rattle.tl_beat.specs.declared.beat.Link.{Link}
use Rattle.tl_beat.specs.declared.fault.LineFault.{LineFault}
use Rattle.tl_lines.specs.declared.fault.Fault.{Fault}
use Rattle.tl_lines.specs.declared.fault.Fault.TheVariants.{Line}
use Rattle.tl_lines.specs.declared.status.Status.{Status}
use Rattle.tl_lines.specs.statement.Fault.{fault_text}
use Rattle.tl_params.specs.declared.liberties.Liberties.{Liberties}
use Rattle.tl_wide.specs.statement.Width.{IsWideWidth}
use Rattle.tl_wide_events.proofs.EventLines.{one-event, spelled-event}
use Rattle.tl_wide_events.specs.declared.commit.WideEvent.{WideEvent}
use Rattle.tl_wide_events.specs.statement.Narrowed.{WideEvents}
use Rattle.tl_wide_events.specs.statement.WideEventLine.{SpellsWideEvent, wide_event_fault}
use Rattle.tl_commit_lines.specs.statement.MarkedHeader.{MarkedLinks}
use Rattle.tl_wide_event_lines.specs.statement.EventFaults.{wide_fault_by}
use Rattle.tl_wide_event_lines.specs.statement.JudgedWideEvents.{IsWideAtFault, JudgedWideEvents}

some-same : {A : Type 0} {x y : A} → Some x ≡ Some y → x ≡ y
some-same e = cc

module _ (w : ℕ) (width : IsWideWidth w) (together : Bool) (links : MarkedLinks) (may : Liberties) where
  -- the fault of an event, with its link
  abbrev fault_of : WideEvents w → Link × WideEvent w → Option Fault
  fault_of t x = wide_fault_by w together links may x.0 x.1 t

  module _ (t : WideEvents w) (line : List ℕ) where
    no-fault : (k : Link) (x : WideEvent w) (of_line : LineFault) → SpellsWideEvent line k x
        → wide_event_fault w line ≡ Some of_line → ⊥
    no-fault k x of_line s is = let no : None ≡ Some of_line = sym (spelled-event line k x width s) ∙ is in absurd cc

    -- a line without a fault isn't at fault
    good-bad : (k : Link) (x : WideEvent w) (found : Fault) → SpellsWideEvent line k x → fault_of t (k, x) ≡ None
        → IsWideAtFault w together links may t line found → ⊥
    good-bad k x found s good (inl (of_line, is, same)) = no-fault k x of_line s is
    good-bad k x found s good (inr (l, y, u, bad)) =
        let no : None ≡ Some found = sym good ∙ ap (fault_of t) (one-event line k l x y width s u) ∙ bad in
        absurd cc

    -- it is at fault for one fault
    one-fault : (f g : Fault) → IsWideAtFault w together links may t line f
        → IsWideAtFault w together links may t line g → f ≡ g
    one-fault f g (inl (of_line, is, same)) (inl (other, also, equal)) =
        same ∙ ap (λ (x : LineFault). Line x) (some-same (sym is ∙ also)) ∙ sym equal
    one-fault f g (inl (of_line, is, same)) (inr (k, x, s, bad)) = absurd (no-fault k x of_line s is)
    one-fault f g (inr (k, x, s, bad)) (inl (of_line, is, same)) = absurd (no-fault k x of_line s is)
    one-fault f g (inr (k, x, s, bad)) (inr (l, y, u, worse)) =
        some-same (sym bad ∙ ap (fault_of t) (one-event line k l x y width s u) ∙ worse)

  pub events-once : (t : WideEvents w) (lines : List (List ℕ)) (text other : List ℕ) (status another : Status)
      → JudgedWideEvents w together links may t lines text status
      → JudgedWideEvents w together links may t lines other another → (text ≡ other) × (status ≡ another)
  unfolding JudgedWideEvents
  events-once t [] text other status another (a, b) (c, d) = (a ∙ sym c, b ∙ sym d)
  events-once t (line ∷ lines) text other status another (inl (k, x, s, good, judged)) (inl (l, y, u, fine, also)) =
      events-once ((k, x) ∷ t) lines text other status another judged
      (subst (λ (z : Link × WideEvent w). JudgedWideEvents w together links may (z ∷ t) lines other another)
      (one-event line l k y x width u s) also)
  events-once t (line ∷ lines) text other status another (inl (k, x, s, good, judged)) (inr (found, is, says, ends)) =
      absurd (good-bad t line k x found s good is)
  events-once t (line ∷ lines) text other status another (inr (found, is, says, ends)) (inl (k, x, s, good, judged)) =
      absurd (good-bad t line k x found s good is)
  events-once t (line ∷ lines) text other status another (inr (f, is, says, ends)) (inr (g, also, said, ended)) = (
    says ∙ ap (fault_text (length t + 2)) (one-fault t line f g is also) ∙ sym said,
    ends ∙ sym ended,
  )
