-- The reasons of keys.
use Rattle.std.proofs.Common.{◌≡◌, ℕ, ◌==◌, ◌&&◌, true, false, Bool}
use Rattle.std.proofs.Common.{refl, sym, ap, ◌∙◌, subst}
use Rattle.std.specs.Prelude.{Option, Some, None, IfSome, if◌then◌else◌, nat_le}
use Rattle.std.proofs.lemmas.Bool.{eqb-true}
use Rattle.tl_beat.specs.declared.beat.Beat.{Beat}
use Rattle.tl_burst.specs.statement.Messages.{unfinished}
use Rattle.tl_params.specs.declared.key.Key.{Key}
use Rattle.tl_params.specs.declared.liberties.Liberties.{Liberties}
use Rattle.tl_params.specs.declared.rule.Rule.{Rule}
use Rattle.tl_rules.specs.statement.Conformance.{Trace, on_link}
use Rattle.tl_explain.specs.declared.bursts.Begun.{Begun}
use Rattle.tl_explain.specs.declared.reason.Reason.{Reason}
use Rattle.tl_explain.specs.declared.reason.Reason.TheVariants.{Unfinished}
use Rattle.tl_explain.specs.declared.told.Told.{Told}
use Rattle.tl_explain.specs.declared.turn.Turn.{Turn}
use Rattle.tl_explain.specs.code.Chosen.{first_reason, pending_by, closed_by, unfinished_by, opened_by}
use Rattle.tl_explain.specs.code.Chosen.{awaited, missing_by, where_pending, where_missing}
use Rattle.tl_explain.specs.code.Recorded.{IsBegun, IsTurn, open_message, comes_by}
use Rattle.tl_explain.specs.statement.Evidence.{is_closing, is_opening}
use Rattle.tl_explain.specs.statement.Evidence.{mention_of}
use Rattle.tl_explain.specs.statement.Reasons.{IsToldUnder}
use Rattle.tl_explain.specs.statement.Reasons.{comes_in, convicted_under}
use Rattle.tl_explain.specs.statement.Reasons.{opening_channel, rule_of_missing, rule_of_pending}
use Rattle.tl_explain.specs.statement.Reasons.{rule_of_unfinished}
use Rattle.tl_explain.specs.statement.Since.{IsPendingSince}
use Rattle.tl_explain.proofs.Places.{last_found, none_found}
use Rattle.tl_explain.proofs.sound.Openings.{comes-is, burst_since, later_line, open_since, opened_some}
use Rattle.tl_explain.proofs.Plain.{is_one, both_true}

module _ {w : ℕ} (lib base : Liberties) (rule : Rule) (x : Beat w) (n : ℕ) (t : Trace w) where
  -- a reason, where there is one, is so, and makes the rule broken
  abbrev pub IsSound : Option Reason → Type 0
  IsSound o = IfSome o (λ reason. IsToldUnder base n x reason t × (convicted_under lib x reason ≡ Some rule))

  pub first_sound : (a b : Option Reason) → IsSound a → IsSound b → IsSound (first_reason a b)
  first_sound None b f g = g
  first_sound (Some r) b f g = f

  pub pending_sound : (k : Key) (turn : Turn) → IsTurn turn n k t → rule_of_pending x k ≡ Some rule
      → IsSound (where_pending k turn)
  pending_sound k turn is e = go (open_message turn) refl
    where
      go : (o : Option Told) → open_message turn ≡ o → IsSound (pending_by k o)
      go None f = tt
      go (Some m) f = (open_since turn n k t is m f, e)

  closed_sound : (k : Key) (turn : Turn) → IsTurn turn n k t → rule_of_missing x k ≡ Some rule → (opening : Told)
      → turn.opening ≡ Some opening
      → (closing : Option Told) → turn.closing ≡ closing → open_message turn ≡ None
      → IsSound (closed_by k opening closing)
  closed_sound k turn is e opening o None c none = tt
  closed_sound k turn is e opening o (Some closing) c none = (
    (
      last_found (is_opening n k) t opening.mention (sym is.opening_is ∙ ap mention_of o),
      last_found (is_closing n k) t closing.mention (sym is.closing_is ∙ ap mention_of c),
      later_line closing.mention.line opening.mention.line (not_open (nat_le closing.mention.line opening.mention.line)
          refl (rw (o, c) at none)),
    ),
    e,
  )
    where
      not_open : (b : Bool) → nat_le closing.mention.line opening.mention.line ≡ b
          → (if nat_le closing.mention.line opening.mention.line then Some opening else None) ≡ None
          → nat_le closing.mention.line opening.mention.line ≡ false
      not_open true h f = absurd cc
      not_open false h f = h

  pub missing_sound : (k : Key) (turn : Turn) (b : Option Begun) → IsTurn turn n k t → rule_of_missing x k ≡ Some rule
      → ((opening : Told) → IsPendingSince n k opening.mention t → IsSound (unfinished_by k opening b))
      → IsSound (where_missing k turn b)
  missing_sound k turn b is e unfinished_sound = go turn.opening refl
    where
      opened : (opening : Told) → turn.opening ≡ Some opening → (o : Option Told) → open_message turn ≡ o
          → IsSound (opened_by k opening turn.closing o b)
      opened opening f None none = closed_sound k turn is e opening f turn.closing refl none
      opened opening f (Some m) some =
          unfinished_sound opening (subst (λ (z : Told). IsPendingSince n k z.mention t)
          (is_one (sym (opened_some turn.opening turn.closing m some).1 ∙ f)) (open_since turn n k t is m some))

      go : (o : Option Told) → turn.opening ≡ o → IsSound (missing_by k o turn.closing (open_message turn) b)
      go None f = (none_found (is_opening n k) t (sym is.opening_is ∙ ap mention_of f), e)
      go (Some opening) f = opened opening f (open_message turn) refl

  -- the burst of the message that opened the key
  unfinished_sound : (k : Key) (b : Option Begun) → IsBegun b n (opening_channel k) t
      → rule_of_unfinished lib x k ≡ Some rule
      → (opening : Told) → IsPendingSince n k opening.mention t → IsSound (unfinished_by k opening b)
  unfinished_sound k None begun e opening since = tt
  unfinished_sound k (Some b) begun e opening since =
      go ((b.first.mention.line == opening.mention.line) && comes_by k b.newest) refl
    where
      go : (c : Bool) → ((b.first.mention.line == opening.mention.line) && comes_by k b.newest) ≡ c
          → IsSound (if c then Some (Unfinished k opening b.came) else None)
      go false f = tt
      go true f =
          let both = both_true (b.first.mention.line == opening.mention.line) (comes_by k b.newest) f in (
            (
              since,
              (
                unfinished (opening_channel k) (on_link n t),
                b.first.mention,
                burst_since n (opening_channel k) t b.first.mention begun.5,
                eqb-true b.first.mention.line opening.mention.line both.0,
                sym begun.4,
                ap (comes_in k) begun.2 ∙ sym (comes-is k begun.0 begun.1)
                    ∙ sym (ap (comes_by k) begun.3) ∙ both.1,
              ),
            ),
            e,
          )

  -- which isn't awaited where a message may be answered before its end
  pub awaited_sound : (k : Key) (b : Option Begun) → IsBegun b n (opening_channel k) t
      → (lib.early ≡ false → rule_of_unfinished lib x k ≡ Some rule)
      → (opening : Told) → IsPendingSince n k opening.mention t → IsSound (unfinished_by k opening (awaited lib b))
  awaited_sound k b begun e opening since = go lib.early refl
    where
      go : (early : Bool) → lib.early ≡ early → IsSound (unfinished_by k opening (if early then None else b))
      go true f = tt
      go false f = unfinished_sound k b begun (e f) opening since
