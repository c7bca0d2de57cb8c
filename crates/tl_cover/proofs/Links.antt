-- What is kept of all links, with one more beat.
use Rattle.std.proofs.Common.{◌≡◌, ◌≢◌, ◌<◌, ℕ, Bool, true, false, ◌&&◌, ◌+◌, List, [], ◌∷◌, ◌++◌, length, take}
use Rattle.std.proofs.Common.{zero, suc, refl, sym, ap, ap₂, ◌∙◌, arith, inl, inr, subst}
use Rattle.std.specs.List.{flat_map}
use Rattle.std.specs.Prelude.{map, slice_index_or, slice_set, is_some, if◌then◌else◌, Option, Some, None, ◌==◌}
use Rattle.std.proofs.lemmas.Bool.{cases_Bool, cases_eq, eq-eqb, ne_eqb}
use Rattle.std.proofs.lemmas.List.{get_or-set_other, get_or-set_same, length-set, map-append, take_more}
use Rattle.tl_beat.specs.declared.beat.Beat.{Beat}
use Rattle.tl_beat.specs.declared.beat.Link.{Link}
use Rattle.tl_burst.specs.statement.Messages.{History}
use Rattle.tl_cover.proofs.Rows.{none_counted, table_counted, table_kept}
use Rattle.tl_cover.proofs.Scenes.{opening_begins}
use Rattle.tl_cover.specs.code.Covering.{AreUnused, IsUnused, KnowPasts, KnowsLink, Taken, opening_of, unseen}
use Rattle.tl_cover.specs.code.Past.{AreApart, KnowsPast, asked_in, asked_next, found}
use Rattle.tl_cover.specs.declared.past.LinkPast.{LinkPast}
use Rattle.tl_cover.specs.declared.scene.Scene.{Scene}
use Rattle.tl_cover.specs.statement.Bins.{all_bins}
use Rattle.tl_cover.specs.statement.Covered.{cell, cells_from, table}
use Rattle.tl_cover.specs.statement.Covers.{cells_of}
use Rattle.tl_cover.specs.statement.Scene.{asked_of, cap_param, probe_at}
use Rattle.tl_monitor.proofs.OnLink.{all_more, other_link, own_link}
use Rattle.tl_params.specs.declared.key.Key.TheVariants.{ProbeOf}
use Rattle.tl_params.specs.declared.level.Level.{Level}
use Rattle.tl_params.specs.declared.liberties.Liberties.{Liberties}
use Rattle.tl_rules.specs.statement.Conformance.{Trace, on_link}
use Rattle.tl_rules.specs.statement.History.{begins, closes, ends, opens, pending}

-- the pending Probe of a block, and whether one is pending
pub probe_pending : {w : ℕ} (i k : ℕ) (t : Trace w) → is_some (probe_at i k t) ≡ pending (ProbeOf k) (on_link i t)
unfolding probe_at pending on_link
probe_pending i k [] = refl
probe_pending i k (x ∷ t) = elim (cases_Bool (x.0.0 == i)) [
  | inl own ↦ rw own (turn (begins x.1 (on_link i t) && opens (ProbeOf k) x.1 (on_link i t))
      (ends x.1 (on_link i t) && closes (ProbeOf k) x.1 (on_link i t)) (probe_pending i k t))
  | inr other ↦ rw other (probe_pending i k t)
]
  where
    turn : (opened closed : Bool) → is_some (probe_at i k t) ≡ pending (ProbeOf k) (on_link i t)
        → is_some (if opened then Some (record { param = cap_param x.1; line = length t + 2 }) else
        if closed then None else probe_at i k t)
        ≡ (if opened then true else if closed then false else pending (ProbeOf k) (on_link i t))
    turn true closed before = refl
    turn false true before = refl
    turn false false before = before

-- the pending Probe of a message's block
pub asked_is : {w : ℕ} (l : Liberties) (n : ℕ) (p : LinkPast) (i : ℕ) (t : Trace w) (block : Option ℕ)
    → KnowsLink l n p i t → asked_in p block ≡ asked_of i block t
asked_is l n p i t None had = refl
asked_is l n p i t (Some k) had = had.probes_are k

-- a link that has carried nothing
pub link_none : (p : LinkPast) → ((w : ℕ) → KnowsPast {w = w} p []) → p.probes.items ≡ []
    → p.rows.items ≡ map unseen all_bins → IsUnused p
unfolding probe_at on_link
link_none p past none rows = λ w l n i. record {
  past = past w;
  probes_are = λ k. ap (found k) none;
  apart = subst AreApart (sym none) tt;
  rows_are = rows ∙ none_counted w l n i;
}

-- a link with one more beat
module _ {w : ℕ} (l : Liberties) (n : ℕ) (old new : LinkPast) (x : Link × Beat w) (t : Trace w) (line : ℕ)
    (opening : Option Scene) (last : Bool) (at_line : line ≡ length t + 2)
    (from : opening ≡ opening_of l n x.0.0 x.1 t) (complete : last ≡ ends x.1 (on_link x.0.0 t)) where
  first_is : is_some opening ≡ begins x.1 (on_link x.0.0 t)
  first_is = ap is_some from ∙ opening_begins l n x.0.0 t x.1

  probe_taken : (k : ℕ) → found k old.probes.items ≡ probe_at x.0.0 k t
      → found k new.probes.items ≡ asked_next x.1 line (is_some opening && opens (ProbeOf k) x.1 (on_link x.0.0 t))
      (last && closes (ProbeOf k) x.1 (on_link x.0.0 t)) (found k old.probes.items)
      → found k new.probes.items ≡ probe_at x.0.0 k (x ∷ t)
  unfolding probe_at
  probe_taken k was now =
      let own : (x.0.0 == x.0.0) ≡ true = eq-eqb x.0.0 x.0.0 refl in
      now ∙ rw (first_is, complete, was, at_line, own) refl

  pub link_taken : Taken old new line opening last x.1 → KnowsLink l n old x.0.0 t → KnowsLink l n new x.0.0 (x ∷ t)
  link_taken taken had = record {
    past = subst (λ (h : History w). KnowsPast new h) (sym (own_link x.0.0 x t refl))
        (taken.past (on_link x.0.0 t) had.past first_is complete);
    probes_are = λ k. probe_taken k (had.probes_are k) (taken.probes k (on_link x.0.0 t));
    apart = taken.apart had.apart;
    rows_are = table_counted l n x t line opening old.rows.items new.rows.items at_line from had.rows_are taken.rows;
  }

-- a link where the beat is of another
link_kept : {w : ℕ} (l : Liberties) (n i : ℕ) (p : LinkPast) (x : Link × Beat w) (t : Trace w) → x.0.0 ≢ i
    → KnowsLink l n p i t → KnowsLink l n p i (x ∷ t)
unfolding probe_at
link_kept {w = w} l n i p x t other had = let no : (x.0.0 == i) ≡ false = ne_eqb x.0.0 i other in record {
  past = subst (λ (h : History w). KnowsPast p h) (sym (other_link i x t other)) had.past;
  probes_are = λ k. rw no (had.probes_are k);
  apart = had.apart;
  rows_are = had.rows_are ∙ table_kept l n i x t no;
}

-- one more link that has carried nothing
pub pasts_more : (pasts more : List LinkPast) (p : LinkPast) → more ≡ pasts ++ p ∷ [] → AreUnused pasts → IsUnused p
    → AreUnused more
pasts_more pasts more p is unused one =
    subst AreUnused (sym is) (all_more IsUnused pasts p unused one)

-- what is kept of a link
pub past_at : {w : ℕ} (l : Liberties) (n : ℕ) (pasts : List LinkPast) (i : ℕ) (p : LinkPast) (link : Link)
    (t : Trace w) → i ≡ link.0
    → i < length pasts → p ≡ slice_index_or pasts i p → KnowPasts l n pasts t → KnowsLink l n p link.0 t
past_at l n pasts i p link t own within is know =
    subst (λ (k : ℕ). KnowsLink l n p k t) own
    (subst (λ (y : LinkPast). KnowsLink l n y i t) (sym is) (know i p within))

-- one more beat of a link
pub pasts_taken : {w : ℕ} (l : Liberties) (n : ℕ) (pasts : List LinkPast) (i : ℕ) (old new : LinkPast)
    (x : Link × Beat w) (t : Trace w)
    → i ≡ x.0.0 → i < length pasts → old ≡ slice_index_or pasts i old
    → (KnowsLink l n old x.0.0 t → KnowsLink l n new x.0.0 (x ∷ t)) → KnowPasts l n pasts t
    → KnowPasts l n (slice_set pasts i new) (x ∷ t)
pasts_taken l n pasts i old new x t own within was next know = λ m d lt. elim (cases_eq m i) [
  | inl same ↦
      let after : KnowsLink l n new x.0.0 (x ∷ t) = next (past_at l n pasts i old x.0 t own within was know) in
      let there : KnowsLink l n new m (x ∷ t) =
      subst (λ (k : ℕ). KnowsLink l n new k (x ∷ t)) (sym (same ∙ own)) after in
      rw (same, get_or-set_same) (subst (λ (k : ℕ). KnowsLink l n new k (x ∷ t)) same there)
  | inr other ↦
      let long : length (slice_set pasts i new) ≡ length pasts = length-set pasts i new in
      let short : m < length pasts = omega (arith, lt, long) in
      let elsewhere : x.0.0 ≢ m = λ e. other (sym e ∙ sym own) in
      rw get_or-set_other (link_kept l n m (slice_index_or pasts m d) x t elsewhere (know m d short))
]

-- the levels stay where a link is changed that keeps its level
pub levels_kept : (pasts : List LinkPast) (i : ℕ) (old new : LinkPast) → i < length pasts
    → old ≡ slice_index_or pasts i old → new.level ≡ old.level
    → map (λ p. p.level) (slice_set pasts i new) ≡ map (λ p. p.level) pasts
levels_kept [] i old new lt was same = absurd (omega (arith, lt))
levels_kept (p ∷ pasts) zero old new lt was same =
    ap (λ (level : Level). level ∷ map (λ q. q.level) pasts) (same ∙ ap (λ (q : LinkPast). q.level) was)
levels_kept (p ∷ pasts) (suc i) old new lt was same =
    ap (λ (levels : List Level). p.level ∷ levels) (levels_kept pasts i old new (omega (arith, lt)) was same)

-- the counts of all bins are those of the trace, link after link
pub cells_are : {w : ℕ} (l : Liberties) (n i : ℕ) (pasts : List LinkPast) (levels : List Level) (t : Trace w)
    → map (λ p. p.level) pasts ≡ levels
    → ((m : ℕ) (d : LinkPast) → m < length pasts → (slice_index_or pasts m d).rows.items ≡ table l n (i + m) t)
    → flat_map (cells_of w l) pasts ≡ cells_from l n i levels t
unfolding cells_from
cells_are l n i [] levels t is rows = rw (sym is) refl
cells_are {w = w} l n i (p ∷ pasts) levels t is rows =
    rw (sym is)
    (ap₂ (λ (a b : List (Option ℕ)). a ++ b)
    (ap (map (cell w l p.level)) (rows 0 p (omega arith) ∙ ap (λ (j : ℕ). table l n j t) (add_none i)))
    (cells_are l n (i + 1) pasts (map (λ q. q.level) pasts) t refl
    (λ m d lt. rows (suc m) d (omega (arith, lt)) ∙ ap (λ (j : ℕ). table l n j t) (add_one i m))))
  where
    add_none : (j : ℕ) → j + 0 ≡ j
    add_none j = omega arith

    add_one : (j m : ℕ) → j + suc m ≡ j + 1 + m
    add_one j m = omega arith

-- one more link, of the next level
pub levels_more : (pasts more : List LinkPast) (p : LinkPast) (levels : List Level) (i : ℕ) (d : Level)
    → i < length levels → more ≡ pasts ++ p ∷ [] → map (λ q. q.level) pasts ≡ take i levels
    → p.level ≡ slice_index_or levels i d → map (λ q. q.level) more ≡ take (i + 1) levels
levels_more pasts more p levels i d lt is before next =
    ap (map (λ q. q.level)) is ∙ map-append (λ (q : LinkPast). q.level) pasts (p ∷ [])
    ∙ rw (before, next) (sym (take_more levels i d lt))

-- the counts that are appended to none
pub cells_read : (w : ℕ) (l : Liberties) (pasts read : List LinkPast) (old new : List (Option ℕ)) → old ≡ []
    → read ≡ pasts → new ≡ old ++ flat_map (cells_of w l) read → new ≡ flat_map (cells_of w l) pasts
cells_read w l pasts read old new empty same appended = appended ∙ rw (empty, same) refl
