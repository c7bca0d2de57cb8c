-- What a handler does is for its purpose, which stays the same.
use Rattle.std.proofs.Common.{◌≡◌, ℕ, List, [], ◌++◌, ◌∙◌}
use Rattle.std.specs.Prelude.{Result, Ok, Err, IfErr, IfOk}
use Rattle.tl_lines.specs.declared.lines.Lines.{Lines}
use Rattle.tl_lines.specs.declared.status.Status.{Status}
use Rattle.tl_lines.specs.declared.status.Status.TheVariants.{Clean, Broken}
use Rattle.tl_lines.specs.declared.status.ToolFault.{ToolFault}
use Rattle.tl_lines.specs.declared.status.ToolFault.TheVariants.{Memory, Read, Write}
use Rattle.tl_lines.specs.code.Judging.{IsTotal, KnowsFor}
use Rattle.tl_lines.specs.code.Progress.{Feeds, FinishesInput, GivesUpWithin, Progress}

module _ {H M : Type 0} (purpose : H → M) (knows : H → List (List ℕ) → List ℕ → Type 0)
    (tells : M → List (List ℕ) → List ℕ → Status → Type 0) (m : M) where
  -- a purpose isn't asked of what is known for it, and is added to what is known
  pub without_purpose : (state : Lines H) (read text : List ℕ) → Progress (KnowsFor purpose m knows) state read text
      → Progress knows state read text
  without_purpose state read text p = record {
    lines = p.lines;
    known = p.known.0;
    counted = p.counted;
    cut = p.cut;
    unended = p.unended;
    short = p.short;
    ended = p.ended;
    rest = p.rest;
  }

  pub with_purpose : (state : Lines H) (read text : List ℕ) → Progress knows state read text
      → purpose state.handler ≡ m → Progress (KnowsFor purpose m knows) state read text
  with_purpose state read text p for_m = record {
    lines = p.lines;
    known = (p.known, for_m);
    counted = p.counted;
    cut = p.cut;
    unended = p.unended;
    short = p.short;
    ended = p.ended;
    rest = p.rest;
  }

  pub feeds_for : (status : Status) (old new : Lines H) (piece was is : List ℕ)
      → purpose new.handler ≡ purpose old.handler
      → Feeds knows (tells (purpose old.handler)) old new piece was is status
      → Feeds (KnowsFor purpose m knows) (tells m) old new piece was is status
  feeds_for Clean old new piece was is same feeds = λ read before p.
      with_purpose new _ _ (feeds read before (without_purpose old _ _ p)) (same ∙ p.known.1)
  feeds_for Broken old new piece was is same feeds = λ read before p more.
      rw p.known.1 at (feeds read before (without_purpose old _ _ p) more)

  pub finishes_for : (status : Status) (state : Lines H) (was is : List ℕ)
      → FinishesInput knows (tells (purpose state.handler)) state was is status
      → FinishesInput (KnowsFor purpose m knows) (tells m) state was is status
  finishes_for Clean state was is ends = λ read before p.
      rw p.known.1 at (ends read before (without_purpose state _ _ p))
  finishes_for Broken state was is ends = λ read before p.
      rw p.known.1 at (ends read before (without_purpose state _ _ p))

  pub gives_up_for : (fault : ToolFault) (state : Lines H) (piece was : List ℕ)
      → GivesUpWithin knows state piece was fault → GivesUpWithin (KnowsFor purpose m knows) state piece was fault
  gives_up_for Memory state piece was gives = tt
  gives_up_for Read state piece was gives = λ read before p. gives read before (without_purpose state _ _ p)
  gives_up_for Write state piece was gives = gives

  pub total_for : IsTotal purpose knows tells
      → IsTotal (λ handler. m) (KnowsFor purpose m knows) tells
  total_for total = λ handler lines text known more. rw known.1 at (total handler lines text known.0 more)
