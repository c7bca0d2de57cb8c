-- What is noted of the windows of blocks is what there is to know of the longer trace.
use Rattle.std.proofs.Common.{◌≡◌, ℕ, suc, Bool, true, false, ◌&&◌, ◌≢◌, List, ◌∷◌, length}
use Rattle.std.proofs.Common.{refl, sym, ap, ◌∙◌, inl, inr}
use Rattle.std.specs.Prelude.{if◌then◌else◌, ◌==◌, Option, Some, None}
use Rattle.std.proofs.Math.Bool.{and-false}
use Rattle.std.proofs.lemmas.Bool.{cases_Bool, cases_eq, eq-eqb, ne_eqb, eqb-true}
use Rattle.tl_beat.specs.declared.beat.Beat.{Beat}
use Rattle.tl_beat.specs.declared.beat.Link.{Link}
use Rattle.tl_params.specs.declared.level.Level.{Level}
use Rattle.tl_params.specs.declared.perm.Perm.{Perm}
use Rattle.tl_params.specs.declared.perm.Perm.TheVariants as perm
use Rattle.tl_params.specs.declared.liberties.Liberties.{Liberties}
use Rattle.tl_rules.specs.statement.Conformance.{Trace, on_link}
use Rattle.tl_rules.specs.statement.Conformance.{same_perm}
use Rattle.tl_monitor.specs.code.LinkState.{is_block}
use Rattle.tl_memory.specs.declared.free.Freedom.{Freedom}
use Rattle.tl_together.specs.code.Following.{Follows}
use Rattle.tl_monitor.specs.declared.monitor.Monitor.{Monitor}
use Rattle.tl_bytes.specs.statement.Free.{is_free, may_hold}
use Rattle.tl_together.specs.declared.windows.Window.{Window}
use Rattle.tl_together.specs.code.Windows.{Moments, is_noted, last_in, window_at, window_in, HasNoted, IsShown}
use Rattle.tl_together.specs.code.Windows.{IsSaid, KnowsWindows, LeavesOthers, NotesWindow}
use Rattle.tl_bytes.specs.statement.Shown.{shows}
use Rattle.tl_monitor.proofs.OnLink.{other_link, own_link}
use Rattle.tl_together.proofs.Windowed.{as_free, none_free, free_last, last_shown}
use Rattle.tl_together.proofs.Windowed.{last_still}
use Rattle.tl_together.proofs.Noted.{true_false}

same_after : {w : ℕ} (block : Option ℕ) (link : Link) (x : Beat w) (t : Trace w) (b : ℕ)
    → LeavesOthers block x (on_link link.0 t) → is_block b block ≡ false
    → (l : ℕ) → may_hold b (on_link l ((link, x) ∷ t)) ≡ may_hold b (on_link l t)
same_after block link x t b leaves' apart l = elim (cases_eq link.0 l) [
  | inl own ↦ ap (may_hold b) (own_link l (link, x) t own) ∙ ap (λ m. may_hold b (x ∷ on_link m t)) (sym own) ∙ leaves' b
      apart ∙ ap (λ m. may_hold b (on_link m t)) own
  | inr other ↦ ap (may_hold b) (other_link l (link, x) t other)
]

-- the table of windows with one more beat, and its moment where that shows the bytes of a block
pub windows_more : {w : ℕ} (n : ℕ) (block : Option ℕ) (entries shown : Moments) (link : Link) (x : Beat w)
    (t : Trace w) → KnowsWindows entries n t
    → LeavesOthers block x (on_link link.0 t)
    → IsShown (suc (length t)) x (on_link link.0 t) entries shown
    → ((given : Perm) (b : ℕ) → is_block b block ≡ true → is_free n given b t ≡ true → given ≢ perm.None
    → last_in given (window_in entries b) ≡ length t)
    → KnowsWindows shown n ((link, x) ∷ t)
windows_more {w} n block entries shown link x t still leaves' is noted given b gone =
    go (shows b x (on_link link.0 t)) refl
  where
    hidden : (same_perm given perm.Branch && shows b x (on_link link.0 t)) ≡ false
        → last_in given (window_in entries b) ≡ window_at n given b ((link, x) ∷ t)
    hidden quiet = elim (cases_Bool (is_free n given b t)) [
      | inr closed ↦ still given b closed ∙ sym (last_still n given b (link, x) t gone quiet)
      | inl free ↦ elim (cases_Bool (is_block b block)) [
        | inl here ↦
            noted given b here free (λ none. true_false
            (sym (none_free n b ((link, x) ∷ t)) ∙ ap (λ g. is_free n g b ((link, x) ∷ t)) (sym none) ∙ gone))
            ∙ sym (free_last n given b t free) ∙ sym (last_still n given b (link, x) t gone quiet)
        | inr apart ↦ true_false
            (sym free ∙ sym (as_free n given b ((link, x) ∷ t) t (same_after block link x t b leaves' apart)) ∙ gone)
      ]
    ]

    go : (s : Bool) → shows b x (on_link link.0 t) ≡ s
        → last_in given (window_in shown b) ≡ window_at n given b ((link, x) ∷ t)
    go true e = ap (last_in given) (is b ∙ rw e refl)
        ∙ last_shown given n b (suc (length t)) (window_in entries b) (link, x) t gone e refl hidden
    go false e = ap (last_in given) (is b ∙ rw e refl)
        ∙ hidden (ap (λ s. same_perm given perm.Branch && s) e ∙ and-false (same_perm given perm.Branch))

-- the window of a block, set anew
pub notes_window : {w : ℕ} (m : Monitor w) (links moment b r v : ℕ) (said : Option ℕ) (before : Freedom)
    (old new : Moments)
    (rf wf : Bool)
    → ((levels : List Level) (may : Liberties) (t : Trace w) → Follows m levels may t → links ≡ length levels
    → IsSaid said before (length levels) t → rf ≡ is_free (length levels) perm.Branch b t)
    → ((levels : List Level) (may : Liberties) (t : Trace w) → Follows m levels may t → links ≡ length levels
    → IsSaid said before (length levels) t → wf ≡ is_free (length levels) perm.Trunk b t)
    → r ≡ (if rf then moment else (window_in old b).reading) → v ≡ (if wf then moment else (window_in old b).writing)
    → ((k : ℕ) → window_in new k ≡ (if k == b then record { reading = r; writing = v } else window_in old k))
    → NotesWindow m links moment said before (Some b) old new
notes_window {w} m links moment b r v said before old new rf wf reads writes r_is v_is set levels may t k links_is
    moment_is known still = (
      also,
      λ link x shown leaves' is. windows_more (length levels) (Some b) new shown link x t also leaves' is
          (λ given c here free some. own given c (eqb-true c b here) free some),
    )
  where
    at_own : (c : ℕ) → c ≡ b → window_in new c ≡ record { reading = r; writing = v }
    at_own c e = set c ∙ rw (eq-eqb c b e) refl

    elsewhere : (c : ℕ) → c ≢ b → window_in new c ≡ window_in old c
    elsewhere c ne = set c ∙ rw (ne_eqb c b ne) refl

    at_reading : (c : ℕ) → c ≡ b → (window_in new c).reading ≡ r
    at_reading c e = ap (λ (z : Window). z.reading) {y = record { reading = r; writing = v }} (at_own c e)

    at_writing : (c : ℕ) → c ≡ b → (window_in new c).writing ≡ v
    at_writing c e = ap (λ (z : Window). z.writing) {y = record { reading = r; writing = v }} (at_own c e)

    before_reading : (c : ℕ) → c ≡ b → (window_in old b).reading ≡ (window_in old c).reading
    before_reading c e = ap (λ d. (window_in old d).reading) (sym e)

    before_writing : (c : ℕ) → c ≡ b → (window_in old b).writing ≡ (window_in old c).writing
    before_writing c e = ap (λ d. (window_in old d).writing) (sym e)

    if_true : (f : Bool) (a d : ℕ) → f ≡ true → (if f then a else d) ≡ a
    if_true f a d e = rw e refl

    if_false : (f : Bool) (a d : ℕ) → f ≡ false → (if f then a else d) ≡ d
    if_false f a d e = rw e refl

    own : (given : Perm) (c : ℕ) → c ≡ b → is_free (length levels) given c t ≡ true → given ≢ perm.None
        → last_in given (window_in new c) ≡ length t
    own perm.None c e free some = absurd (some refl)
    own perm.Branch c e free some =
        let f : rf ≡ true = reads levels may t k links_is known ∙ ap
        (λ d. is_free (length levels) perm.Branch d t) (sym e) ∙ free in
        at_reading c e ∙ r_is ∙ if_true rf moment (window_in old b).reading f ∙ moment_is
    own perm.Trunk c e free some =
        let f : wf ≡ true = writes levels may t k links_is known ∙ ap
        (λ d. is_free (length levels) perm.Trunk d t) (sym e) ∙ free in
        at_writing c e ∙ v_is ∙ if_true wf moment (window_in old b).writing f ∙ moment_is

    also : KnowsWindows new (length levels) t
    also perm.None c closed = true_false (sym (none_free (length levels) c t) ∙ closed)
    also perm.Branch c closed = elim (cases_eq c b) [
      | inl e ↦
          let f : rf ≡ false = reads levels may t k links_is known ∙ ap
          (λ d. is_free (length levels) perm.Branch d t) (sym e) ∙ closed in
          at_reading c e ∙ r_is ∙ if_false rf moment (window_in old b).reading f ∙ before_reading c e ∙ still
          perm.Branch c closed
      | inr ne ↦ ap (last_in perm.Branch) (elsewhere c ne) ∙ still perm.Branch c closed
    ]
    also perm.Trunk c closed = elim (cases_eq c b) [
      | inl e ↦
          let f : wf ≡ false = writes levels may t k links_is known ∙ ap
          (λ d. is_free (length levels) perm.Trunk d t) (sym e) ∙ closed in
          at_writing c e ∙ v_is ∙ if_false wf moment (window_in old b).writing f ∙ before_writing c e ∙ still perm.Trunk
          c closed
      | inr ne ↦ ap (last_in perm.Trunk) (elsewhere c ne) ∙ still perm.Trunk c closed
    ]

pub notes_no_window : {w : ℕ} (m : Monitor w) (links moment : ℕ) (said : Option ℕ) (before : Freedom)
    (old : Moments)
    → NotesWindow m links moment said before None old old
notes_no_window m links moment said before old levels may t k links_is moment_is known still = (
  still,
  λ link x shown leaves' is. windows_more (length levels) None old shown link x t still leaves' is
      (λ given c here free some. true_false (sym here)),
)

pub has_noted : (b : ℕ) (entries : Moments) → is_noted entries b ≡ true → HasNoted (Some b) entries
has_noted b entries noted c here = ap (is_noted entries) (eqb-true c b here) ∙ noted
