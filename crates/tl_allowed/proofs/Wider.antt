-- Monitors with one liberty more, and a beat more.
use Rattle.std.proofs.Common.{◌≡◌, ◌≢◌, ℕ, Bool, false, List, [], ◌∷◌, ◌++◌, length, ◌<◌, ◌≤◌, ◌+◌, refl, sym, ap, ◌∙◌}
use Rattle.std.proofs.Common.{arith, inl, inr, take, reverse, length-append}
use Rattle.std.specs.Prelude.{slice_index_or, slice_set, Option, Some, None, Err}
use Rattle.std.specs.List.{filter}
use Rattle.std.proofs.lemmas.Bool.{cases_eq}
use Rattle.std.proofs.lemmas.List.{append_assoc, append-nil, get_or-set_same, get_or-set_other, length-set}
use Rattle.std.proofs.lemmas.List.{map-append, reverse-append, reverse-reverse, take_all, take_more}
use Rattle.std.proofs.lemmas.List.Elements.{filter-append}
use Rattle.std.proofs.Math.ListN.{get_or-append}
use Rattle.std.proofs.Math.Seq.{get_or-append_seam, map-set_same}
use Rattle.tl_beat.specs.declared.beat.Beat.{Beat}
use Rattle.tl_beat.specs.declared.beat.Link.{Link}
use Rattle.tl_params.specs.declared.level.Level.{Level}
use Rattle.tl_params.specs.declared.liberties.Liberties.{Liberties}
use Rattle.tl_params.specs.declared.liberties.Liberty.{Liberty}
use Rattle.tl_params.specs.declared.rule.Rule.{Rule}
use Rattle.tl_params.specs.statement.Liberties.{with_liberty}
use Rattle.tl_rules.specs.statement.Conformance.{Trace, fault_or}
use Rattle.tl_rules.specs.statement.Liberties.{broken_on_link_under, fault_from_under, first_fault_under}
use Rattle.tl_forgiving.proofs.Forgiving.{traces}
use Rattle.tl_monitor.specs.declared.fault.MonitorFault.{MonitorFault}
use Rattle.tl_monitor.specs.declared.fault.MonitorFault.TheVariants.{Levels, Broken, Memory, Closed}
use Rattle.tl_monitor.specs.statement.Knows.{Answers, fault_under}
use Rattle.tl_allowed.specs.code.Known.{KnowsBoth, KnowsOne, liberties_in}
use Rattle.tl_allowed.specs.declared.allowances.Wider.{Wider}
use Rattle.tl_command.specs.statement.LibertyWords.{all_liberties}
use Rattle.tl_allowed.proofs.Within.{within}

-- each of these monitors knows t
abbrev pub KnowEach : {w : ℕ} → List (Wider w) → List Level → Liberties → Trace w → Type 0
KnowEach {w} wider levels l t = (i : ℕ) (d : Wider w) → i < length wider → KnowsOne (slice_index_or wider i d) levels l t

pub one-more : {w : ℕ} (wider : List (Wider w)) (v : Wider w) (levels : List Level) (l : Liberties) (t : Trace w)
    → KnowEach wider levels l t → KnowsOne v levels l t → KnowEach (wider ++ v ∷ []) levels l t
one-more wider v levels l t each one i d lt =
    let size = length-append wider (v ∷ []) in elim (cases_eq i (length wider)) [
      | inl last ↦ rw (last, get_or-append_seam wider v [] d) one
      | inr other ↦ rw (get_or-append wider (v ∷ []) d i (omega (arith, lt, size, other)))
          (each i d (omega (arith, lt, size, other)))
    ]

pub known-all : {w : ℕ} (wider : List (Wider w)) (levels : List Level) (l : Liberties) (t : Trace w)
    → liberties_in wider ≡ all_liberties → KnowEach wider levels l t → KnowsBoth wider 0 levels l t t
known-all wider levels l t named each = record {
  liberties_are = named;
  below = λ i d none lt. absurd (omega (arith, none));
  from = λ i d le lt. each i d lt;
}

-- ---- a beat is taken

pub one-taken : {w : ℕ} (wider : List (Wider w)) (old new : Wider w) (n : ℕ) (levels : List Level) (l : Liberties)
    (s t : Trace w) → KnowsBoth wider n levels l s t → n < length wider → old ≡ slice_index_or wider n old
    → new.liberty ≡ old.liberty → KnowsOne new levels l s → KnowsBoth (slice_set wider n new) (n + 1) levels l s t
one-taken wider old new n levels l s t known lt was same one =
    let size = length-set wider n new in
    record {
      liberties_are = map-set_same (λ v. v.liberty) wider n new old (same ∙ ap (λ v. v.liberty) was) ∙ known.liberties_are;
      below = λ i d below lt'. elim (cases_eq i n) [
        | inl here ↦ rw (here, get_or-set_same wider n new d lt) one
        | inr apart ↦ rw (get_or-set_other wider n i new d apart)
            (known.below i d (omega (arith, below, apart)) (omega (arith, lt', size)))
      ];
      from = λ i d from lt'. let apart : i ≢ n = λ e. omega (arith, e, from) in
          rw (get_or-set_other wider n i new d apart) (known.from i d (omega (arith, from)) (omega (arith, lt', size)));
    }

pub all-taken : {w : ℕ} (wider : List (Wider w)) (n : ℕ) (levels : List Level) (l : Liberties) (s t : Trace w)
    → KnowsBoth wider n levels l s t → length wider ≤ n → KnowsBoth wider 0 levels l s s
all-taken wider n levels l s t known le =
    known-all wider levels l s known.liberties_are (λ i d lt. known.below i d (omega (arith, lt, le)) lt)

-- the next to take it
pub next-knows : {w : ℕ} (wider : List (Wider w)) (v : Wider w) (n : ℕ) (levels : List Level) (l : Liberties)
    (s t : Trace w) → KnowsBoth wider n levels l s t → n < length wider → v ≡ slice_index_or wider n v
    → KnowsOne v levels l t
next-knows wider v n levels l s t known lt is = rw is (known.from n v (omega arith) lt)

-- ---- a beat is refused

-- the last beat of a trace without a fault breaks no rule
last_unbroken : {w : ℕ} (m : Liberties) (levels : List Level) (before trace : Trace w) (x : Link × Beat w)
    → fault_from_under m levels before (trace ++ x ∷ []) ≡ None
    → broken_on_link_under m levels x (reverse trace ++ before) ≡ None
unfolding fault_from_under
last_unbroken m levels before [] x e = none (broken_on_link_under m levels x before) (length before) None e
  where
    none : (o : Option Rule) (i : ℕ) (rest : Option (ℕ × Rule)) → fault_or o i rest ≡ None → o ≡ None
    none None i rest f = refl
    none (Some r) i rest f = absurd cc
last_unbroken {w} m levels before (y ∷ trace) x e =
    let more = last_unbroken m levels (y ∷ before) trace x
    (none (broken_on_link_under m levels y before) (length before)
    (fault_from_under m levels (y ∷ before) (trace ++ x ∷ [])) e) in
    let turned : reverse (y ∷ trace) ++ before ≡ reverse trace ++ y ∷ before =
    ap (λ (z : Trace w). z ++ before) (reverse-append (y ∷ []) trace) ∙ append_assoc (reverse trace) (y ∷ []) before in
    ap (broken_on_link_under m levels x) turned ∙ more
  where
    none : (o : Option Rule) (i : ℕ) (rest : Option (ℕ × Rule)) → fault_or o i rest ≡ None → rest ≡ None
    none None i rest f = f
    none (Some r) i rest f = absurd cc

-- what breaks no rule under some liberties breaks none with one more
pub unbroken-with : {w : ℕ} (l : Liberties) (one : Liberty) (levels : List Level) (t : Trace w) (x : Link × Beat w)
    → first_fault_under l levels (reverse (x ∷ t)) ≡ None
    → broken_on_link_under (with_liberty one l) levels x t ≡ None
unbroken-with {w} l one levels t x e =
    let m = with_liberty one l in
    let more : first_fault_under m levels (reverse (x ∷ t)) ≡ None =
    traces l m levels (reverse (x ∷ t)) (within l one) e in
    let turned : reverse (x ∷ t) ≡ reverse t ++ x ∷ [] = reverse-append (x ∷ []) t in
    let back : reverse (reverse t) ++ [] ≡ t = append-nil (reverse (reverse t)) ∙ reverse-reverse t in
    sym (ap (broken_on_link_under m levels x) back)
    ∙ last_unbroken m levels [] (reverse t) x (sym (ap (fault_from_under m levels []) turned) ∙ more)

pub refused-memory : {w : ℕ} (levels : List Level) (m : Liberties) (t : Trace w) (x : Link × Beat w) (f : MonitorFault)
    → broken_on_link_under m levels x t ≡ None → Answers (fault_under levels m t false x) (Err f) → f ≡ Memory
refused-memory levels m t x Memory e answers = refl
refused-memory levels m t x Levels e answers = absurd (let a = rw e at answers in cc)
refused-memory levels m t x Closed e answers = absurd (let a = rw e at answers in cc)
refused-memory levels m t x (Broken rule) e answers = absurd (let a = rw e at answers in cc)

-- ---- those that would allow a beat

pub filter-more : {w : ℕ} (p : Liberty → Bool) (wider : List (Wider w)) (i : ℕ) (v : Wider w) → i < length wider
    → v ≡ slice_index_or wider i v
    → filter p (liberties_in (take (i + 1) wider))
    ≡ filter p (liberties_in (take i wider)) ++ filter p (v.liberty ∷ [])
filter-more {w} p wider i v lt is =
    let more : take (i + 1) wider ≡ take i wider ++ v ∷ [] =
    take_more wider i v lt ∙ ap (λ (u : Wider w). take i wider ++ u ∷ []) (sym is) in
    ap (λ (vs : List (Wider w)). filter p (liberties_in vs)) more
    ∙ ap (filter p) (map-append (λ (u : Wider w). u.liberty) (take i wider) (v ∷ []))
    ∙ filter-append p (liberties_in (take i wider)) (v.liberty ∷ [])

pub filter-all : {w : ℕ} (p : Liberty → Bool) (wider : List (Wider w)) (i : ℕ) → length wider ≤ i
    → liberties_in wider ≡ all_liberties → filter p (liberties_in (take i wider)) ≡ filter p all_liberties
filter-all {w} p wider i le named =
    ap (λ (vs : List (Wider w)). filter p (liberties_in vs)) (take_all i wider le) ∙ ap (filter p) named

-- the liberties of the monitors, with one more of a list
pub named-more : {w : ℕ} (wider : List (Wider w)) (v : Wider w) (names : List Liberty) (i : ℕ) (d : Liberty)
    → liberties_in wider ≡ take i names → i < length names → v.liberty ≡ slice_index_or names i d
    → liberties_in (wider ++ v ∷ []) ≡ take (i + 1) names
named-more wider v names i d named lt is =
    map-append (λ u. u.liberty) wider (v ∷ []) ∙ ap (λ ls. ls ++ v.liberty ∷ []) named
    ∙ ap (λ one. take i names ++ one ∷ []) is ∙ sym (take_more names i d lt)
