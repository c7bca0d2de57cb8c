-- The parts of a wide beat, judged one after another.
use Rattle.std.proofs.Common.{◌≡◌, ◌≤◌, ◌∙◌, ℕ, Bool, List, [], ◌∷◌, ap, refl, subst, sym, inl, inr, arith}
use Rattle.std.specs.Prelude.{Option, Some, None}
use Rattle.tl_beat.specs.declared.beat.Beat.{Beat}
use Rattle.tl_beat.specs.declared.beat.Link.{Link}
use Rattle.tl_beat.specs.statement.Width.{IsWidth}
use Rattle.tl_lines.specs.code.TraceJudging.{JudgesBeat, KnowsBeats}
use Rattle.tl_lines.specs.declared.fault.Fault.{Fault}
use Rattle.tl_lines.specs.declared.trace_judge.TraceJudge.{TraceJudge}
use Rattle.tl_lines.specs.statement.JudgedLinks.{faults_by}
use Rattle.tl_params.specs.declared.level.Level.{Level}
use Rattle.tl_params.specs.declared.liberties.Liberties.{Liberties}
use Rattle.tl_rules.specs.statement.Conformance.{Trace}
use Rattle.tl_wide.proofs.Reached.{by_width}
use Rattle.tl_wide.specs.statement.Width.{IsWideWidth, part_width}
use Rattle.tl_wide_lines.specs.code.FirstFault.{behind, with_parts}
use Rattle.tl_wide_lines.specs.statement.PartFaults.{or_fault, part_fault, parts_taken, unless_fault}
use Rattle.tl_wide_lines.specs.code.WideJudging.{JudgesParts, PartsLeft}

-- the parts of a wide beat have a width
pub part-width : (w p : ℕ) → IsWideWidth w → p ≡ part_width w → IsWidth p
part-width =
    by_width (λ w p. IsWidth p) (inl refl) (inr (inl refl)) (inr (inr refl)) (inr (inr refl)) (inr (inr refl))

-- what a judge says of one part behind what it knows
abbrev pub JudgesPart : {p : ℕ} → TraceJudge p → TraceJudge p → Link → Beat p → Option Fault → Type 0
JudgesPart {p} old new link x answer =
    (together : Bool) (levels : List Level) (may : Liberties) (t : Trace p) → KnowsBeats together old levels may t
    → JudgesBeat together new levels may t (link, x) answer

module _ {p : ℕ} (old now : TraceJudge p) (link : Link) (parts : List (Beat p)) where
  -- a part is taken
  pub part_taken : (new : TraceJudge p) (x : Beat p) (left more : List (Beat p)) → left ≡ x ∷ more
      → PartsLeft old now link parts left → JudgesPart now new link x None → PartsLeft old new link parts more
  unfolding part_fault parts_taken
  part_taken new x left more is so_far judged = λ together levels may t known.
      let (u, knows, same, taken) = (rw is at so_far) together levels may t known in
      let (good, known_more) = judged together levels may u knows in (
        (link, x) ∷ u,
        known_more,
        same ∙ ap (λ (o : Option Fault). or_fault o (part_fault together levels may link more ((link, x) ∷ u))) good,
        taken ∙ ap (λ (o : Option Fault). unless_fault o u (parts_taken together levels may link more ((link, x) ∷ u))) good,
      )

  -- a part is at fault
  pub part_bad : (new : TraceJudge p) (x : Beat p) (left more : List (Beat p)) (found : Fault) → left ≡ x ∷ more
      → PartsLeft old now link parts left → JudgesPart now new link x (Some found)
      → JudgesParts old new link parts (Some found)
  unfolding part_fault parts_taken
  part_bad new x left more found is so_far judged = λ together levels may t known.
      let (u, knows, same, taken) = (rw is at so_far) together levels may t known in
      let (bad, kept) = judged together levels may u knows in (
        same ∙ ap (λ (o : Option Fault). or_fault o (part_fault together levels may link more ((link, x) ∷ u))) bad,
        subst (λ (v : Trace p). KnowsBeats together new levels may v)
            (sym (taken ∙ ap (λ (o : Option Fault). unless_fault o u (parts_taken together levels may link more
            ((link, x) ∷ u))) bad)) kept,
      )

  -- no part is left
  pub parts_good : (left : List (Beat p)) → left ≡ [] → PartsLeft old now link parts left
      → JudgesParts old now link parts None
  unfolding part_fault parts_taken
  parts_good left is so_far = λ together levels may t known.
      let (u, knows, same, taken) = (rw is at so_far) together levels may t known in
      (same, subst (λ (v : Trace p). KnowsBeats together now levels may v) (sym taken) knows)

-- one part alone
pub one-judged : {p : ℕ} (old new : TraceJudge p) (link : Link) (x : Beat p) (parts : List (Beat p))
    (answer : Option Fault) → parts ≡ x ∷ [] → JudgesPart old new link x answer
    → JudgesParts old new link parts answer
one-judged {p} old new link x parts answer is judged = go answer judged
  where
    start : PartsLeft old old link parts parts
    start = λ together levels may t known. (t, known, refl, refl)

    go : (answer : Option Fault) → JudgesPart old new link x answer → JudgesParts old new link parts answer
    go None h = parts_good old new link parts [] refl (part_taken old old link parts new x parts [] is start h)
    go (Some found) h = part_bad old old link parts new x parts [] found is start h

-- a beat that is its own part
pub part-own : (w : ℕ) → IsWideWidth w → w ≤ 16 → w ≡ part_width w
part-own w width few =
    by_width (λ w p. w ≤ 16 → w ≡ p) (λ le. refl) (λ le. refl) (λ le. refl) (λ le. absurd (omega arith))
    (λ le. absurd (omega arith)) w (part_width w) width refl few

-- where no part is at fault all are taken
pub all-taken : {p : ℕ} (together : Bool) (levels : List Level) (may : Liberties) (link : Link) (parts : List (Beat p))
    (t : Trace p) → part_fault together levels may link parts t ≡ None
    → parts_taken together levels may link parts t ≡ with_parts link parts t
unfolding part_fault parts_taken behind
all-taken together levels may link [] t good = refl
all-taken {p} together levels may link (x ∷ parts) t good =
    go (faults_by together p levels may (link, x) t) (all-taken together levels may link parts ((link, x) ∷ t)) good
  where
    go : (o : Option Fault)
        → (part_fault together levels may link parts ((link, x) ∷ t) ≡ None
        → parts_taken together levels may link parts ((link, x) ∷ t) ≡ with_parts link parts ((link, x) ∷ t))
        → or_fault o (part_fault together levels may link parts ((link, x) ∷ t)) ≡ None
        → unless_fault o t (parts_taken together levels may link parts ((link, x) ∷ t))
        ≡ with_parts link parts ((link, x) ∷ t)
    go None all good = all good
    go (Some found) all good = absurd cc
