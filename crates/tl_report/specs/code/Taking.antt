-- The answers of a judge of items of which another can be begun.
use Rattle.std.specs.Prelude.{◌≡◌, ◌∷◌, [], ℕ, Bool, List, Option, Some, None, Result, Ok, Err}
use Rattle.tl_beat.specs.declared.fault.LineFault.{LineFault}
use Rattle.tl_lines.specs.declared.fault.Fault.{Fault}
use Rattle.tl_report.specs.statement.Form.{Form}

-- nothing is no fault and a fault
pub none-some : {A : Type 0} {o : Option A} {x : A} → o ≡ None → o ≡ Some x → ⊥
none-some none some = cc

-- what a judge J is for: items I on links as L says, each of which is one of X, judged under terms T
pub record Takings (J L I T X : Type 0) : Type 1 where
  -- the form of the items under each terms
  pub form : T → Form X
  -- an item, as the form has it
  pub shown : I → X
  -- the terms of these links, judged together or each by itself
  pub terms_of : Bool → L → T
  -- under these terms the judge has taken these items, the newest first
  pub takes : J → T → List X → Type 0
  -- no item that isn't at fault is at fault for something
  pub apart : (terms : T) (t : List X) (x : X) (fault : Fault) → (form terms).is_good t x → (form terms).is_bad t x fault → ⊥

-- it has taken no item on these links
abbrev pub StartsTaking : {J L I T X : Type 0} → Takings J L I T X → Bool → L → J → Type 0
StartsTaking takings together links judge = takings.takes judge (takings.terms_of together links) []

-- the line is that of this item, or it spells none
abbrev pub ReadsItem : {J L I T X : Type 0} → Takings J L I T X → List ℕ → Result I LineFault → Type 0
ReadsItem {J} {L} {I} {T} takings line (Ok x) = (terms : T) → (takings.form terms).spells line (takings.shown x)
ReadsItem {J} {L} {I} {T} takings line (Err fault) = (terms : T) → (takings.form terms).line_fault line ≡ Some fault

-- the item isn't at fault after these, and is taken, or it is at fault for this
abbrev pub AnswersItem : {J L I T X : Type 0} → Takings J L I T X → J → T → List X → X → Option Fault → Type 0
AnswersItem takings new terms t x None = (takings.form terms).is_good t x × takings.takes new terms (x ∷ t)
AnswersItem takings new terms t x (Some fault) = (takings.form terms).is_bad t x fault

-- the same after whatever items the judge has taken
abbrev pub TakesItem : {J L I T X : Type 0} → Takings J L I T X → J → J → I → Option Fault → Type 0
TakesItem {J} {L} {I} {T} {X} takings old new item answer =
    (terms : T) (t : List X) → takings.takes old terms t
    → AnswersItem takings new terms t (takings.shown item) answer

-- the item counts in this cell
abbrev pub IsCellOf : {J L I T X : Type 0} → Takings J L I T X → I → ℕ → Type 0
IsCellOf {J} {L} {I} {T} takings item cell =
    (terms : T) → cell ≡ (takings.form terms).cell (takings.shown item)
