-- Lines of events have one verdict.
use Rattle.std.proofs.Common.{◌≡◌, ◌∙◌, ◌+◌, ℕ, Bool, List, [], ◌∷◌, length, ap, ap₂, inl, inr, subst, sym}
use Rattle.std.specs.Prelude.{Option, Some, None}
use Rattle.tl_beat.specs.declared.beat.Link.{Link}
use Rattle.tl_beat.specs.declared.fault.LineFault.{LineFault}
use Rattle.tl_beat.specs.statement.Width.{IsWidth}
use Rattle.tl_commits.specs.statement.Events.{Events}
use Rattle.tl_lines.specs.declared.fault.Fault.{Fault}
use Rattle.tl_lines.specs.declared.fault.Fault.TheVariants.{Line}
use Rattle.tl_lines.specs.declared.status.Status.{Status}
use Rattle.tl_lines.specs.statement.Fault.{fault_text}
use Rattle.tl_events.proofs.EventLines.{one-event, spelled-event}
use Rattle.tl_events.specs.declared.commit.Event.{Event}
use Rattle.tl_events.specs.statement.EventLine.{SpellsEvent, event_fault}
use Rattle.tl_params.specs.declared.liberties.Liberties.{Liberties}
use Rattle.tl_commit_lines.specs.statement.MarkedHeader.{MarkedLinks}
use Rattle.tl_commit_lines.specs.statement.JudgedEvents.{IsEventAtFault, JudgedEvents, fault_by}

some-same : {A : Type 0} {x y : A} → Some x ≡ Some y → x ≡ y
some-same e = cc

module _ (w : ℕ) (width : IsWidth w) (together : Bool) (links : MarkedLinks) (may : Liberties) where
  -- the fault of an event, with its link
  abbrev fault_of : Events w → Link × Event w → Option Fault
  fault_of e x = fault_by w together links may x.0 x.1 e

  abbrev event_of : Link → Event w → Link × Event w
  event_of link x = (link, x)

  module _ (e : Events w) (line : List ℕ) where
    same-event : (k l : Link) (x y : Event w) → SpellsEvent line k x → SpellsEvent line l y → event_of k x ≡ event_of l y
    same-event k l x y s t = let (a, b) = one-event line k l x y width s t in ap₂ event_of a b

    no-fault : (k : Link) (x : Event w) (of_line : LineFault) → SpellsEvent line k x → event_fault w line ≡ Some of_line → ⊥
    no-fault k x of_line s is = let no : None ≡ Some of_line = sym (spelled-event line k x width s) ∙ is in absurd cc

    -- a line without a fault isn't at fault
    good-bad : (k : Link) (x : Event w) (found : Fault) → SpellsEvent line k x → fault_of e (k, x) ≡ None
        → IsEventAtFault w together links may e line found → ⊥
    good-bad k x found s good (inl (of_line, is, same)) = no-fault k x of_line s is
    good-bad k x found s good (inr (l, y, t, bad)) =
        let no : None ≡ Some found = sym good ∙ ap (fault_of e) (same-event k l x y s t) ∙ bad in
        absurd cc

    -- it is at fault for one fault
    one-fault : (f g : Fault) → IsEventAtFault w together links may e line f
        → IsEventAtFault w together links may e line g → f ≡ g
    one-fault f g (inl (of_line, is, same)) (inl (other, also, equal)) =
        same ∙ ap (λ (x : LineFault). Line x) (some-same (sym is ∙ also)) ∙ sym equal
    one-fault f g (inl (of_line, is, same)) (inr (k, x, s, bad)) = absurd (no-fault k x of_line s is)
    one-fault f g (inr (k, x, s, bad)) (inl (of_line, is, same)) = absurd (no-fault k x of_line s is)
    one-fault f g (inr (k, x, s, bad)) (inr (l, y, t, worse)) =
        some-same (sym bad ∙ ap (fault_of e) (same-event k l x y s t) ∙ worse)

  pub events-once : (e : Events w) (lines : List (List ℕ)) (text other : List ℕ) (status another : Status)
      → JudgedEvents w together links may e lines text status
      → JudgedEvents w together links may e lines other another → (text ≡ other) × (status ≡ another)
  unfolding JudgedEvents
  events-once e [] text other status another (a, b) (c, d) = (a ∙ sym c, b ∙ sym d)
  events-once e (line ∷ lines) text other status another (inl (k, x, s, good, judged)) (inl (l, y, t, fine, also)) =
      events-once ((k, x) ∷ e) lines text other status another judged
      (subst (λ (z : Link × Event w). JudgedEvents w together links may (z ∷ e) lines other another)
      (same-event e line l k y x t s) also)
  events-once e (line ∷ lines) text other status another (inl (k, x, s, good, judged)) (inr (found, is, says, ends)) =
      absurd (good-bad e line k x found s good is)
  events-once e (line ∷ lines) text other status another (inr (found, is, says, ends)) (inl (k, x, s, good, judged)) =
      absurd (good-bad e line k x found s good is)
  events-once e (line ∷ lines) text other status another (inr (f, is, says, ends)) (inr (g, also, said, ended)) = (
    says ∙ ap (fault_text (length e + 2)) (one-fault e line f g is also) ∙ sym said,
    ends ∙ sym ended,
  )
