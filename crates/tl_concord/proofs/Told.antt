-- Each beat that is delivered tells of the one memory.
use Rattle.tl_concord.proofs.Imports.{Beat, History, channel_of, unfinished, Config, Perm, on_link, same_perm, Memory}
use Rattle.tl_concord.proofs.Imports.{block_at, ends, held, says_held, is_free, leaves, carried_byte, could_be, tells}
use Rattle.tl_concord.proofs.Imports.{tells_late}
use Rattle.tl_concord.proofs.Late.{each-kept, telling-late, tells-kept}
use Rattle.tl_coherence.specs.statement.Delivery.{levels_of}
use Rattle.tl_params.specs.statement.Liberties.{liberties_of}
use Rattle.tl_concord.proofs.Imports.{flow, trace_of, IsGiven, Log, system_after, one_memory_after, each-taken}
use Rattle.tl_concord.proofs.Imports.{trace-flows}
use Rattle.std.proofs.Common.{◌≡◌, ℕ, zero, suc, Bool, true, false, not, ◌%◌, ◌<◌, List, ◌∷◌, Some, None, refl, sym}
use Rattle.std.proofs.Common.{◌∙◌, ap, subst, arith}
use Rattle.std.specs.Prelude.{if◌then◌else◌, ◌==◌, Option, unwrap_or}
use Rattle.std.proofs.lemmas.Bool.{and_from, and_parts, eqb-true}
use Rattle.std.proofs.Math.Nat.{div-add-mod}
use Rattle.tl_rules.specs.statement.Conformance.{Trace}
use Rattle.tl_concord.{proofs.GrantTold.grant-told, proofs.ReportTold.IsToldBy, proofs.ReportTold.report-told}
use Rattle.tl_concord.{specs.statement.Told.IsToldOf, specs.statement.Told.TellsOfMemory}

-- ---- a block that is free stays free

free-kept : {w : ℕ} (n : ℕ) (given : Perm) (block : ℕ) (t t' : Trace w)
    → ((other : ℕ) → leaves given (held block (on_link other t)) ≡ true
    → leaves given (held block (on_link other t')) ≡ true)
    → is_free n None given block t ≡ true → is_free n None given block t' ≡ true
unfolding is_free
free-kept zero given block t t' each e = refl
free-kept (suc n) given block t t' each e =
    let both = and_parts (is_free n None given block t) (leaves given (held block (on_link n t))) e in
    and_from _ _ (free-kept n given block t t' each both.0) (each n both.1)

-- ---- one more beat

module _ {w : ℕ} (memory : Memory) (link block : ℕ) (x : Beat w) (t : Trace w)
    (is : IsToldBy memory block x (on_link link t)) (untold : tells_late block x (on_link link t) ≡ false) where
  abbrev past : History w
  past = on_link link t

  abbrev after : Trace w
  after = (record { 0 = link }, x) ∷ t

  none_is : (p : Perm) → same_perm p Perm.None ≡ true → p ≡ Perm.None
  none_is Perm.None e = refl
  none_is v e = absurd cc

  -- what the link holds afterwards
  held_after : (P : Perm → Type 0) → P (held block past)
      → ((p : Perm) → ends x past ≡ true → says_held block x past ≡ Some p → P p)
      → P (if ends x past then unwrap_or (says_held block x past) (held block past) else held block past)
  held_after P same said = go (ends x past) refl (says_held block x past) refl
    where
      go : (b : Bool) → ends x past ≡ b → (o : Option Perm) → says_held block x past ≡ o
          → P (if b then unwrap_or o (held block past) else held block past)
      go true e (Some p) f = said p e f
      go v e u f = same

  -- nothing held stays nothing
  still_none : (other : ℕ) → leaves Perm.Trunk (held block (on_link other t)) ≡ true
      → leaves Perm.Trunk (held block (on_link other after)) ≡ true
  unfolding on_link held
  still_none other e = go (link == other) refl
    where
      own : held block past ≡ Perm.None → same_perm (if ends x past
          then unwrap_or (says_held block x past) (held block past) else held block past) Perm.None ≡ true
      own none = held_after (λ p. same_perm p Perm.None ≡ true) (ap (λ (p : Perm). same_perm p Perm.None) none)
          (λ p last said. ap (λ (q : Perm). same_perm q Perm.None) ((is.untold p last said untold).0 none))

      go : (b : Bool) → (link == other) ≡ b
          → same_perm (held block (if b then x ∷ on_link other t else on_link other t)) Perm.None ≡ true
      go false f = e
      go true f = let same : link ≡ other = eqb-true link other f in
          subst (λ (k : ℕ). same_perm (held block (x ∷ on_link k t)) Perm.None ≡ true) same
          (own (none_is (held block past)
          (subst (λ (k : ℕ). same_perm (held block (on_link k t)) Perm.None ≡ true) (sym same) e)))

  -- and what isn't Trunk wasn't
  wasnt_trunk : (other : ℕ) → leaves Perm.Branch (held block (on_link other after)) ≡ true
      → leaves Perm.Branch (held block (on_link other t)) ≡ true
  unfolding on_link held
  wasnt_trunk other = go (link == other) refl
    where
      own : (not (same_perm (if ends x past then unwrap_or (says_held block x past) (held block past) else held block
          past) Perm.Trunk) ≡ true) → not (same_perm (held block past) Perm.Trunk) ≡ true
      own = held_after (λ p. not (same_perm p Perm.Trunk) ≡ true → not (same_perm (held block past) Perm.Trunk) ≡ true)
          (λ e. e) (λ p last said e. ap not (is.untold p last said untold).1)

      go : (b : Bool) → (link == other) ≡ b
          → not (same_perm (held block (if b then x ∷ on_link other t else on_link other t)) Perm.Trunk) ≡ true
          → not (same_perm (held block (on_link other t)) Perm.Trunk) ≡ true
      go false f e = e
      go true f e = let same : link ≡ other = eqb-true link other f in
          subst (λ (k : ℕ). not (same_perm (held block (on_link k t)) Perm.Trunk) ≡ true) same
          (own (subst (λ (k : ℕ). not (same_perm (held block (x ∷ on_link k t)) Perm.Trunk) ≡ true) (sym same) e))

-- ---- each beat that is next

in-block : (address : ℕ) → address % 64 < 64
in-block address = omega arith

told-of : {w : ℕ} (memory : Memory) (link : ℕ) (x : Beat w) (t : Trace w)
    → ((block : ℕ) → tells block x (on_link link t) ≡ tells_late block x (on_link link t))
    → ((block : ℕ) → IsToldBy memory block x (on_link link t)) → IsToldOf memory link x t
told-of {w} memory link x t late is = record {
  told = λ address e.
      let told = sym (late (block_at address)) ∙ e in
      rw (telling-late (block_at address) x (on_link link t) told)
      (subst
      (λ (i : ℕ). could_be (memory i) (carried_byte (x ∷ unfinished (channel_of x) (on_link link t)) (address % 64))
      ≡ true) (div-add-mod address 64) ((is (block_at address)).told told (address % 64) (in-block address)));
  got_told = λ n block free closed. always (tells block x (on_link link t)) (λ untold.
      let no : false ≡ true = sym closed ∙ free-kept n Perm.Trunk block t ((record { 0 = link }, x) ∷ t)
      (still_none memory link block x t (is block) (sym (late block) ∙ untold)) free in cc);
  given_up_told = λ n block held free. always (tells block x (on_link link t)) (λ untold.
      let no : false ≡ true = sym held ∙ free-kept n Perm.Branch block ((record { 0 = link }, x) ∷ t) t
      (wasnt_trunk memory link block x t (is block) (sym (late block) ∙ untold)) free in cc);
}
  where
    always : (b : Bool) → (b ≡ false → ⊥) → b ≡ true
    always true e = refl
    always false e = absurd (e refl)

-- what a delivered beat tells of each block
abbrev ToldMoved : {w : ℕ} → Config → Log w → ℕ → Beat w → Type 0
ToldMoved config log c x =
    (block : ℕ) → IsToldBy (one_memory_after config log).memory block x (on_link c (trace_of log))

told-moved : {w : ℕ} (config : Config) (log : Log w) → IsGiven config log → (c : ℕ) (x : Beat w) (queue : List (Beat w))
    → (system_after config log).channels c (channel_of x) ≡ x ∷ queue → ToldMoved config log c x
told-moved {w} config log given c x queue beats block =
    subst (λ (past : History w). IsToldBy (one_memory_after config log).memory block x past)
    (sym (trace-flows c log)) (by x beats)
  where
    by : (x : Beat w) → (system_after config log).channels c (channel_of x) ≡ x ∷ queue
        → IsToldBy (one_memory_after config log).memory block x (flow c log)
    by (Beat.C y) beats = report-told config log given c y queue beats block
    by (Beat.D y) beats = grant-told config log given c y queue beats block
    by v beats = record { told = λ e. absurd cc; untold = λ p last said e. absurd cc }

pub tells_of_memory : {w : ℕ} → TellsOfMemory w
tells_of_memory config log given =
    each-kept config (ToldMoved config)
    (λ earlier link x. IsToldOf (one_memory_after config earlier).memory link x (trace_of earlier))
    (λ earlier link x kept is. told-of (one_memory_after config earlier).memory link.0 x (trace_of earlier)
    (tells-kept (levels_of config) (liberties_of config.profile) (link, x) (trace_of earlier) refl kept) is)
    log given (each-taken config (ToldMoved config) (told-moved config) log given)
