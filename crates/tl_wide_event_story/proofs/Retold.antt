-- Lines of a wide trace that are read again, up to the line at fault.
use Rattle.std.proofs.Common.{◌≡◌, ◌∙◌, ◌+◌, ◌≤◌, ℕ, true, false, List, [], ◌∷◌, ◌++◌, length, refl, ap, sym}
use Rattle.std.proofs.Common.{arith, length-append, subst}
use Rattle.std.specs.Prelude.{IfSome, Option, Some, None}
use Rattle.tl_beat.specs.declared.beat.Link.{Link}
use Rattle.tl_commit_lines.specs.statement.MarkedHeader.{MarkedLinks}
use Rattle.tl_lines.specs.declared.fault.Fault.{Fault}
use Rattle.tl_params.specs.declared.liberties.Liberties.{Liberties}
use Rattle.tl_wide.specs.declared.width.WideWidth.{WideWidth}
use Rattle.tl_wide.specs.statement.Width.{wide_bytes_of}
use Rattle.tl_commit_words.specs.statement.CommitWords.{wide_piece_in}
use Rattle.tl_wide_event_lines.specs.code.EventJudging.{IsValid}
use Rattle.tl_wide_event_lines.specs.statement.WideMarkedHeader.{NamesWideMarked}
use Rattle.tl_wide_event_story.specs.code.Guiding.{KnowsGuide}
use Rattle.tl_wide_event_story.specs.code.Retelling.{AreRetold, Begins, FollowsOn, GoesOn, HasReasons, IsSmall}
use Rattle.tl_wide_event_story.specs.code.Retelling.{ReadsLast, ReadsOn, TakesLine}
use Rattle.tl_wide_event_story.specs.declared.guide.Guide.{Guide}
use Rattle.tl_wide_event_story.specs.declared.replay.WideEventReplay.{WideEventReplay}
use Rattle.tl_wide_event_story.specs.statement.WideEventsExplained.{front_text}
use Rattle.tl_wide_event_story.specs.statement.WideGrounds.{AreWideGrounds, AreWideSpelled}
use Rattle.tl_wide_events.specs.declared.commit.WideCommit.{WideCommit}
use Rattle.tl_wide_events.specs.declared.commit.WideCommit.TheVariants as commit
use Rattle.tl_wide_events.specs.declared.commit.WideEvent.{WideEvent}
use Rattle.tl_wide_events.specs.declared.commit.WideEvent.TheVariants as wide
use Rattle.tl_wide_events.specs.statement.Narrowed.{WideEvents}
use Rattle.tl_wide_events.specs.statement.WideCommitLine.{IsWideCommit}
use Rattle.tl_wide_events.specs.statement.WideEventLine.{SpellsWideEvent}

-- ---- events

small-commit : (x : WideCommit) → IsWideCommit x → (wide_piece_in x).size ≤ 3
small-commit (commit.Store piece value) is = is.0.small
small-commit (commit.Load piece value) is = is.0.small
small-commit (commit.Begin piece) is = is.small

-- an event that a line spells has at most 8 bytes
pub small-event : {w : ℕ} (line : List ℕ) (link : Link) (x : WideEvent w) → SpellsWideEvent line link x → IsSmall x
small-event line link (wide.Beat x) spells = tt
small-event line link (wide.Commit x) spells = small-commit x spells.is_commit

-- it is one of a line
pub valid-event : {w : ℕ} (line : List ℕ) (link : Link) (x : WideEvent w) → SpellsWideEvent line link x → IsValid x
valid-event line link (wide.Beat x) spells = tt
valid-event line link (wide.Commit x) spells = spells.is_commit

-- ---- reasons

pub reasons-are : {w : ℕ} (found : Fault) (number : ℕ) (link : Link) (x : WideEvent w)
    (was mid is grounds more : List ℕ)
    → was ≡ [] → mid ≡ was ++ front_text found number link x → is ≡ mid ++ grounds → grounds ≡ more
    → is ≡ front_text found number link x ++ more
reasons-are found number link x was mid is grounds more none first second same = rw (second, first, none, same) refl

-- ---- lines

-- no line has been read
none-spelled : (w : ℕ) → AreWideSpelled {w = w} [] []
unfolding AreWideSpelled
none-spelled w = refl

one-spelled : {w : ℕ} (link : Link) (x : WideEvent w) (t : WideEvents w) (lines : List (List ℕ)) (line : List ℕ)
    → SpellsWideEvent line link x → AreWideSpelled t lines → AreWideSpelled ((link, x) ∷ t) (lines ++ line ∷ [])
unfolding AreWideSpelled
one-spelled link x t lines line spells are = (lines, line, refl, spells, are)

no-lines : (lines : List (List ℕ)) → length lines ≡ 0 → lines ≡ []
no-lines [] none = refl
no-lines (x ∷ lines) none = absurd (omega (arith, none))

pub begins : {w p : ℕ} (allow : Liberties) (line : List ℕ) (width : WideWidth) (may : Liberties) (links : MarkedLinks)
    → wide_bytes_of width ≡ w → NamesWideMarked allow line width may links → (o : Option (Guide w p))
    → IfSome o (λ g. KnowsGuide g may links [] (λ q. [])) → IfSome o (Begins allow line)
begins allow line width may links of_width named None knows = tt
begins allow line width may links of_width named (Some g) knows = record {
  width = width;
  may = may;
  links = links;
  of_width = of_width;
  named = named;
  known = knows;
}

module _ {w p : ℕ} (allow : Liberties) (line : List ℕ) where
  begun : (o : Option (Guide w p)) → IfSome o (Begins allow line) → (lines : List (List ℕ)) → lines ≡ []
      → IfSome o (AreRetold allow (lines ++ line ∷ []))
  begun None begins lines none = tt
  begun (Some g) begins lines none = record {
    width = begins.width;
    may = begins.may;
    links = begins.links;
    of_width = begins.of_width;
    header = line;
    spelled = [];
    are_lines = rw none refl;
    named = begins.named;
    trace = [];
    are_spelled = none-spelled w;
    become = λ q. [];
    known = begins.known;
  }

  taken : (g new : Guide w p) (lines : List (List ℕ)) → TakesLine g new line → AreRetold allow lines g
      → AreRetold allow (lines ++ line ∷ []) new
  taken g new lines takes k =
      let more = takes.takes k.may k.links k.trace k.become k.known in
      record {
        width = k.width;
        of_width = k.of_width;
        may = k.may;
        links = k.links;
        header = k.header;
        spelled = k.spelled ++ line ∷ [];
        are_lines = ap (λ (l : List (List ℕ)). l ++ line ∷ []) k.are_lines;
        named = k.named;
        trace = (takes.link, takes.event) ∷ k.trace;
        are_spelled = one-spelled takes.link takes.event k.trace k.spelled line takes.spells k.are_spelled;
        become = more.0;
        known = more.1;
      }

  goes : (was is : Option (Guide w p)) → GoesOn was is line → (lines : List (List ℕ))
      → IfSome was (AreRetold allow lines)
      → IfSome is (AreRetold allow (lines ++ line ∷ []))
  goes was None g lines k = tt
  goes (Some was) (Some is) g lines k = taken was is lines g k
  goes None (Some is) g lines k = absurd g

module _ {w p : ℕ} (old : WideEventReplay w p) (number : ℕ) (line : List ℕ) (counts : number ≡ old.count + 1) where
  -- the header
  pub first-read : (new : WideEventReplay w p) → old.count ≡ 0 → IfSome new.guide (Begins old.allow line)
      → new.allow ≡ old.allow → new.told ≡ old.told → new.count ≡ number → ReadsOn old new line
  first-read new none begins allow told count = λ lines known. record {
    untold = told ∙ known.untold;
    counted = omega (arith, count, counts, known.counted, length-append lines (line ∷ []));
    retold = subst (λ (l : Liberties). IfSome new.guide (AreRetold l (lines ++ line ∷ []))) (sym allow)
        (begun old.allow line new.guide begins lines (no-lines lines (sym known.counted ∙ none)));
  }

  -- a line after it
  pub next-read : (mid new : WideEventReplay w p) → FollowsOn old mid line → new.allow ≡ mid.allow → new.told ≡ mid.told
      → new.guide ≡ mid.guide → new.count ≡ number → ReadsOn old new line
  next-read mid new follows allow told guide count = λ lines known. record {
    untold = told ∙ ap (λ (r : WideEventReplay w p). r.told) follows.same ∙ known.untold;
    counted = omega (arith, count, counts, known.counted, length-append lines (line ∷ []));
    retold = subst (λ (o : Option (Guide w p)). IfSome o (AreRetold new.allow (lines ++ line ∷ []))) (sym guide)
        (subst (λ (l : Liberties). IfSome mid.guide (AreRetold l (lines ++ line ∷ [])))
        (sym (allow ∙ ap (λ (r : WideEventReplay w p). r.allow) follows.same))
        (goes old.allow line old.guide mid.guide follows.goes lines known.retold));
  }

  -- the line at fault
  pub line-told : (g : Guide w p) (new : WideEventReplay w p) → old.guide ≡ Some g → new.allow ≡ old.allow
      → new.fault ≡ old.fault → new.count ≡ old.count
      → (new.told ≡ true → HasReasons g old.fault number line new.reasons.items) → ReadsLast old new line
  line-told g new at allow fault count has = λ lines known more is.
      let k : AreRetold old.allow lines g =
      subst (λ (o : Option (Guide w p)). IfSome o (AreRetold old.allow lines)) at known.retold in
      let why = has is in
      let so = why.says k.may k.links k.trace k.become k.known in
      let number-is : number ≡ new.count + 1 = omega (arith, counts, count) in
      record {
        width = k.width;
        of_width = k.of_width;
        may = k.may;
        links = k.links;
        header = k.header;
        before = k.spelled;
        line = line;
        more = more;
        are_lines = ap (λ (l : List (List ℕ)). l ++ line ∷ more) k.are_lines;
        named = subst (λ (l : Liberties). NamesWideMarked l k.header k.width k.may k.links) (sym allow) k.named;
        trace = k.trace;
        are_spelled = k.are_spelled;
        counted = omega (arith, count, known.counted, ap (λ (l : List (List ℕ)). length l) k.are_lines);
        link = why.link;
        event = why.event;
        spells = why.spells;
        grounds = so.0;
        says = subst (λ (f : Fault). new.reasons.items ≡ front_text f (new.count + 1) why.link why.event ++ so.0)
            (sym fault)
            (subst (λ (n : ℕ). new.reasons.items ≡ front_text old.fault n why.link why.event ++ so.0) number-is so.1);
        are = subst (λ (f : Fault). AreWideGrounds f k.may k.links k.trace why.link why.event so.0) (sym fault) so.2;
      }

-- nothing is told
pub untold : {w p : ℕ} (old : WideEventReplay w p) (line : List ℕ) → ReadsLast old old line
untold old line = λ lines known more told. let no : true ≡ false = sym told ∙ known.untold in absurd cc
