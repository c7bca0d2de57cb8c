-- The parts of a wide beat, covered one after another.
use Rattle.std.proofs.Common.{◌≡◌, ◌≤◌, ◌+◌, ◌∙◌, ℕ, List, [], ◌∷◌, ◌++◌, length, suc, ap, refl, subst, sym, arith}
use Rattle.std.proofs.lemmas.List.{append-nil}
use Rattle.std.specs.Prelude.{false, Option, Some, None}
use Rattle.tl_beat.specs.declared.beat.Beat.{Beat}
use Rattle.tl_beat.specs.declared.beat.Link.{Link}
use Rattle.tl_cover.specs.declared.covering.Covering.{Covering}
use Rattle.tl_cover.specs.declared.row.Row.{Row}
use Rattle.tl_cover.specs.statement.Covers.{Covers, rows_in}
use Rattle.tl_lines.specs.declared.fault.Fault.{Fault}
use Rattle.tl_lines.specs.statement.JudgedLinks.{faults_by}
use Rattle.tl_params.specs.declared.level.Level.{Level}
use Rattle.tl_params.specs.declared.liberties.Liberties.{Liberties}
use Rattle.tl_rules.specs.statement.Conformance.{Trace}
use Rattle.tl_tried.specs.code.Following.{TakesBeat, found_in}
use Rattle.tl_tried.specs.code.WideCover.{PartsLeft, RowsFollow, TakesParts}
use Rattle.tl_tried.specs.code.WideRows.{first_in, followed}
use Rattle.tl_tried.specs.declared.wide_covering.WideCovering.{WideCovering}
use Rattle.tl_tried.specs.statement.Covered.{found_of}
use Rattle.tl_tried.specs.statement.Sums.{with_each}
use Rattle.tl_tried.specs.statement.WideCovered.{before_fault}
use Rattle.tl_wide.specs.statement.Narrowed.{on_one_link}
use Rattle.tl_wide_lines.specs.code.FirstFault.{behind, fault_from, fault_here}
use Rattle.tl_wide_lines.specs.statement.PartFaults.{or_fault, part_fault, parts_taken, unless_fault}

module _ {p : ℕ} (old now : Covering p) (link : Link) (parts : List (Beat p)) where
  -- a part is taken
  pub part_taken : (new : Covering p) (x : Beat p) (left more : List (Beat p)) → left ≡ x ∷ more
      → PartsLeft old now link parts left → TakesBeat now new link x None → PartsLeft old new link parts more
  unfolding part_fault parts_taken
  part_taken new x left more is so_far takes = λ levels may t covers.
      let (u, covers_so, same, taken) = (rw is at so_far) levels may t covers in
      let (good, covers_more) = takes levels may u covers_so in (
        (link, x) ∷ u,
        covers_more,
        same ∙ ap (λ (o : Option Fault). or_fault o (part_fault false levels may link more ((link, x) ∷ u))) good,
        taken ∙ ap (λ (o : Option Fault). unless_fault o u (parts_taken false levels may link more ((link, x) ∷ u))) good,
      )

  -- a part is at fault
  pub part_bad : (new : Covering p) (x : Beat p) (left more : List (Beat p)) (fault : Fault) → left ≡ x ∷ more
      → PartsLeft old now link parts left → TakesBeat now new link x (Some fault)
      → TakesParts old new link parts (Some fault)
  unfolding part_fault parts_taken
  part_bad new x left more fault is so_far takes = λ levels may t covers.
      let (u, covers_so, same, taken) = (rw is at so_far) levels may t covers in
      let (bad, found) = takes levels may u covers_so in (
        same ∙ ap (λ (o : Option Fault). or_fault o (part_fault false levels may link more ((link, x) ∷ u))) bad,
        subst (λ (v : Trace p). found_in new ≡ found_of may levels v)
            (sym (taken ∙ ap (λ (o : Option Fault). unless_fault o u (parts_taken false levels may link more
            ((link, x) ∷ u))) bad)) found,
      )

  -- no part is left
  pub parts_good : (left : List (Beat p)) → left ≡ [] → PartsLeft old now link parts left
      → TakesParts old now link parts None
  unfolding part_fault parts_taken
  parts_good left is so_far = λ levels may t covers.
      let (u, covers_so, same, taken) = (rw is at so_far) levels may t covers in
      (same, subst (λ (v : Trace p). Covers now levels may v false) (sym taken) covers_so)

module _ {p : ℕ} (levels : List Level) (may : Liberties) where
  -- the parts that were taken are the first of all
  pub taken-first : (link : Link) (parts : List (Beat p)) (t : Trace p)
      → (first : Trace p) × (parts_taken false levels may link parts t ≡ behind first t)
      × (length first ≤ length (on_one_link link parts))
  unfolding parts_taken behind
  taken-first link [] t = ([], refl, omega arith)
  taken-first link (x ∷ parts) t =
      go (faults_by false p levels may (link, x) t) (taken-first link parts ((link, x) ∷ t))
    where
      go : (o : Option Fault)
          → (first : Trace p) × (parts_taken false levels may link parts ((link, x) ∷ t) ≡ behind first ((link, x) ∷ t))
          × (length first ≤ length (on_one_link link parts))
          → (first : Trace p)
          × (unless_fault o t (parts_taken false levels may link parts ((link, x) ∷ t)) ≡ behind first t)
          × (length first ≤ suc (length (on_one_link link parts)))
      go None (first, are, few) = ((link, x) ∷ first, are, omega (arith, few))
      go (Some found) rest = ([], refl, omega arith)

  -- they are those of the link's beats before the first at fault
  pub taken-before : (link : Link) (parts : List (Beat p)) (t : Trace p)
      → before_fault levels may (on_one_link link parts) t ≡ parts_taken false levels may link parts t
  unfolding before_fault parts_taken
  taken-before link [] t = refl
  taken-before link (x ∷ parts) t =
      ap (unless_fault (faults_by false p levels may (link, x) t) t) (taken-before link parts ((link, x) ∷ t))

  -- beats behind those without a fault
  pub before-more : (first more t : Trace p) → fault_from false levels may t first ≡ None
      → before_fault levels may (first ++ more) t ≡ before_fault levels may more (behind first t)
  unfolding before_fault fault_from behind
  before-more [] more t good = refl
  before-more (x ∷ first) more t good =
      go (faults_by false p levels may x t) (before-more first more (x ∷ t)) good
    where
      go : (o : Option Fault)
          → (fault_from false levels may (x ∷ t) first ≡ None
          → before_fault levels may (first ++ more) (x ∷ t) ≡ before_fault levels may more (behind first (x ∷ t)))
          → fault_here o (length t) (fault_from false levels may (x ∷ t) first) ≡ None
          → unless_fault o t (before_fault levels may (first ++ more) (x ∷ t))
          ≡ before_fault levels may more (behind first (x ∷ t))
      go None after rest = after rest
      go (Some found) after rest = absurd cc

  -- beats without a fault
  pub before-all : (first : Trace p) → fault_from false levels may [] first ≡ None
      → before_fault levels may first [] ≡ behind first []
  unfolding before_fault
  before-all first good =
      ap (λ (beats : Trace p). before_fault levels may beats []) (sym (append-nil first)) ∙ before-more first [] [] good

-- the rows follow those of the parts
pub rows-follow : {p : ℕ} (old new : WideCovering p) (said : List Row) → new.line ≡ old.line + 1
    → said ≡ rows_in new.covering
    → new.rows.items ≡ with_each (followed new.line) (first_in new.line) old.rows.items said → RowsFollow old new
rows-follow old new said next are is = record {
  line_is = next;
  rows_are = is ∙ ap (with_each (followed new.line) (first_in new.line) old.rows.items) are;
}
