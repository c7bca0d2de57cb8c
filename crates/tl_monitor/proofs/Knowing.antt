-- A monitor that knows one more beat.
use Rattle.std.proofs.Common.{◌≡◌, ℕ, Bool, false, List, [], ◌∷◌, ◌++◌, length, ◌<◌, ◌≤◌, ◌≢◌, refl, sym, ap}
use Rattle.std.proofs.Common.{◌∙◌, arith, inl, inr, ◌+◌, take, drop, reverse, length-append}
use Rattle.std.specs.Prelude.{slice_index_or, slice_get, slice_set, option_map, Option, Some, None, Err, nat_lt, true}
use Rattle.std.proofs.lemmas.Bool.{cases_eq, le-ltb, lt-ltb}
use Rattle.std.proofs.lemmas.List.{get_or-set_same, get_or-set_other, drop_more, take_more, drop_all, reverse-append}
use Rattle.std.proofs.lemmas.List.{length-map, length-reverse, length-take-le, map-append}
use Rattle.std.proofs.lemmas.Option.{slice_get-map, slice_get_read}
use Rattle.std.proofs.Math.ListN.{get_or-append}
use Rattle.std.proofs.Math.Seq.{get_or-append_seam, map-set_same}
use Rattle.tl_beat.specs.declared.beat.Beat.{Beat}
use Rattle.tl_beat.specs.declared.beat.Link.{Link}
use Rattle.tl_params.specs.declared.level.Level.{Level}
use Rattle.tl_params.specs.declared.liberties.Liberties.{Liberties}
use Rattle.tl_params.specs.declared.profile.Profile.{Profile}
use Rattle.tl_params.specs.statement.Liberties.{liberties_of}
use Rattle.tl_params.specs.declared.rule.Rule.{Rule}
use Rattle.tl_rules.specs.statement.Conformance.{Trace, on_link}
use Rattle.tl_rules.specs.statement.Liberties.{broken_after_under, broken_on_link_under, fault_from_under}
use Rattle.tl_monitor.specs.code.Keeps.{Keeps}
use Rattle.tl_monitor.specs.code.LinkState.{IsEmpty}
use Rattle.tl_monitor.proofs.Keepings.{keeps-none}
use Rattle.tl_monitor.proofs.OnLink.{other_link, own_link}
use Rattle.tl_monitor.specs.declared.monitor.Monitor.{Monitor}
use Rattle.tl_monitor.specs.declared.monitor.MonitoredLink.{MonitoredLink}
use Rattle.tl_params.specs.statement.Config.{IsCount}
use Rattle.tl_monitor.specs.statement.Knows.{Knows, KnowsUnder, levels_of, Answers}
use Rattle.tl_monitor.specs.code.Fresh.{AreEmpty}
use Rattle.tl_monitor.specs.statement.Knows.{AnswersTraceUnder, fault_under, broken, trace_fault_of}
use Rattle.tl_monitor.specs.declared.fault.MonitorFault.{MonitorFault}
use Rattle.tl_monitor.specs.declared.fault.MonitorFault.TheVariants as monitor

-- a monitor of a profile has the liberties of the profile
pub to-liberties : {w : ℕ} (m : Monitor w) (levels : List Level) (p : Profile) (t : Trace w) (closed : Bool)
    → Knows m levels p t closed → KnowsUnder m levels (liberties_of p) t closed
unfolding Knows
to-liberties m levels p t closed k = k

pub to-profile : {w : ℕ} (m : Monitor w) (levels : List Level) (p : Profile) (t : Trace w) (closed : Bool)
    → KnowsUnder m levels (liberties_of p) t closed → Knows m levels p t closed
unfolding Knows
to-profile m levels p t closed k = k

-- a monitor has a level for each link
pub count-is : {w : ℕ} (m : Monitor w) (levels : List Level) (lib : Liberties) (t : Trace w) (closed : Bool)
    → KnowsUnder m levels lib t closed → length m.links.items ≡ length levels
count-is m levels lib t closed k = sym (length-map m.links.items (λ link. link.level)) ∙ ap length k.levels_are

-- what is kept of one link was put anew
knows-at : {w : ℕ} (m m' : Monitor w) (levels : List Level) (lib : Liberties) (t s : Trace w) (closed : Bool) (i : ℕ)
    (old new : MonitoredLink)
    → KnowsUnder m levels lib t closed → m'.liberties ≡ m.liberties → m'.closed ≡ m.closed
    → m'.links.items ≡ slice_set m.links.items i new → i < length m.links.items
    → old ≡ slice_index_or m.links.items i old → new.level ≡ old.level
    → Keeps lib new.state (on_link i s) → ((n : ℕ) → n ≢ i → on_link n s ≡ on_link n t) → KnowsUnder m' levels lib s closed
knows-at m m' levels lib t s closed i old new k liberties_same closed_same links lt was level own other = record {
  levels_are = ap levels_of links ∙ map-set_same (λ link. link.level) m.links.items i new old
      (level ∙ ap (λ link. link.level) was) ∙ k.levels_are;
  liberties_are = liberties_same ∙ k.liberties_are;
  closed_is = closed_same ∙ k.closed_is;
  links_are = λ n d below. elim (cases_eq n i) [
    | inl here ↦ rw (links, here, get_or-set_same m.links.items i new d lt) own
    | inr apart ↦ rw (links, get_or-set_other m.links.items i n new d apart, other n apart)
        (k.links_are n d below)
  ];
}

-- a link has one more beat
pub knows-more : {w : ℕ} (m m' : Monitor w) (levels : List Level) (lib : Liberties) (t : Trace w) (closed : Bool) (i : ℕ)
    (link : Link) (x : Beat w) (old new : MonitoredLink)
    → KnowsUnder m levels lib t closed → m'.liberties ≡ m.liberties → m'.closed ≡ m.closed
    → m'.links.items ≡ slice_set m.links.items i new → i ≡ link.0 → i < length m.links.items
    → old ≡ slice_index_or m.links.items i old → new.level ≡ old.level
    → Keeps m.liberties new.state (x ∷ on_link i t) → KnowsUnder m' levels lib ((link, x) ∷ t) closed
knows-more m m' levels lib t closed i link x old new k liberties_same closed_same links i_is lt was level own =
    knows-at m m' levels lib t ((link, x) ∷ t) closed i old new k liberties_same closed_same links lt was level
    (rw (own_link i (link, x) t (sym i_is)) (rw k.liberties_are at own))
    (λ n apart. other_link n (link, x) t (λ e. apart (sym e ∙ sym i_is)))

-- whether the monitor is closed was put anew
pub closed-anew : {w : ℕ} (m m' : Monitor w) (levels : List Level) (lib : Liberties) (t : Trace w) (closed after : Bool)
    → KnowsUnder m levels lib t closed → m'.links.items ≡ m.links.items → m'.liberties ≡ m.liberties → m'.closed ≡ after
    → KnowsUnder m' levels lib t after
closed-anew m m' levels lib t closed after k links liberties_same closed_is = record {
  levels_are = ap levels_of links ∙ k.levels_are;
  liberties_are = liberties_same ∙ k.liberties_are;
  closed_is = closed_is;
  links_are = λ n d below. rw links (k.links_are n d below);
}

-- what is kept of the link of a beat
pub link_state-of : {w : ℕ} (m : Monitor w) (levels : List Level) (lib : Liberties) (t : Trace w) (closed : Bool) (i : ℕ)
    (link : MonitoredLink) → KnowsUnder m levels lib t closed → i < length m.links.items
    → link ≡ slice_index_or m.links.items i link → Keeps lib link.state (on_link i t)
link_state-of m levels lib t closed i link k lt is =
    let at_i : i < length levels = rw (count-is m levels lib t closed k) at lt in
    rw is (k.links_are i link at_i)

-- the same under the liberties of the monitor
pub link_state-own : {w : ℕ} (m : Monitor w) (levels : List Level) (lib : Liberties) (t : Trace w) (closed : Bool) (i : ℕ)
    (link : MonitoredLink) → KnowsUnder m levels lib t closed → i < length m.links.items
    → link ≡ slice_index_or m.links.items i link → Keeps m.liberties link.state (on_link i t)
link_state-own m levels lib t closed i link k lt is = rw k.liberties_are (link_state-of m levels lib t closed i link k lt is)

-- the fault of a beat is the rule that it breaks after what its link has carried
pub fault-is : {w : ℕ} (m : Monitor w) (levels : List Level) (lib : Liberties) (t : Trace w) (closed : Bool) (i : ℕ)
    (link : Link) (x : Beat w) (monitored : MonitoredLink) (o : Option Rule)
    → KnowsUnder m levels lib t closed → m.closed ≡ false → i ≡ link.0 → i < length m.links.items
    → monitored ≡ slice_index_or m.links.items i monitored
    → o ≡ broken_after_under m.liberties monitored.level x (on_link i t) → fault_under levels lib t closed (link, x) ≡ broken o
fault-is m levels lib t closed i link x monitored o k open_still i_is lt is rule =
    let not_closed : closed ≡ false = sym k.closed_is ∙ open_still in
    let got : slice_get levels link.0 ≡ Some monitored.level =
    rw (← i_is, ← k.levels_are) (slice_get-map (λ link. link.level) m.links.items i
    ∙ ap (option_map (λ link. link.level)) (slice_get_read m.links.items (length m.links.items) i monitored refl lt is))
    in
    let same : broken_after_under lib monitored.level x (on_link link.0 t) ≡ o = sym (rule ∙ rw (k.liberties_are, i_is) refl) in
    rw (not_closed, got, same) refl

on_link-none : {w : ℕ} (n : ℕ) → on_link {w = w} n [] ≡ []
unfolding on_link
on_link-none n = refl

-- the links of one level more
pub empty-more : (levels : List Level) (i : ℕ) (l : Level) (links : List MonitoredLink) (link : MonitoredLink)
    → AreEmpty (take i levels) links → i < length levels → link.level ≡ slice_index_or levels i l
    → IsEmpty link.state → AreEmpty (take (i + 1) levels) (links ++ link ∷ [])
empty-more levels i l links link empty lt level_is fresh =
    let more : take (i + 1) levels ≡ take i levels ++ link.level ∷ [] =
    take_more levels i l lt ∙ ap (λ l. take i levels ++ l ∷ []) (sym level_is) in
    let count : length links ≡ length (take i levels) =
    sym (length-map links (λ l. l.level)) ∙ ap length empty.levels_are in
    let size : length (take (i + 1) levels) ≡ length (take i levels) + 1 =
    ap length more ∙ length-append (take i levels) (link.level ∷ []) in
    record {
      levels_are = map-append (λ l. l.level) links (link ∷ [])
          ∙ ap (λ ls. ls ++ link.level ∷ []) empty.levels_are ∙ sym more;
      all_empty = λ n d below. elim (cases_eq n (length links)) [
        | inl last ↦ rw (last, get_or-append_seam links link [] d) fresh
        | inr other ↦ rw (get_or-append links (link ∷ []) d n (omega (arith, below, size, count, other)))
            (empty.all_empty n d (omega (arith, below, size, count, other)))
      ];
    }

pub knows-new : {w : ℕ} (m : Monitor w) (levels : List Level) (lib : Liberties) → m.liberties ≡ lib
    → m.closed ≡ false → AreEmpty levels m.links.items
    → KnowsUnder m levels lib [] false
knows-new m levels lib liberties_are open_still empty = record {
  levels_are = empty.levels_are;
  liberties_are = liberties_are;
  closed_is = open_still;
  links_are = λ n d lt. rw (on_link-none n)
      (keeps-none lib (slice_index_or m.links.items n d).state (empty.all_empty n d lt));
}

-- the first fault of a trace of which a beginning was judged
pub unbroken : (o : Option Rule) → broken o ≡ None → o ≡ None
unbroken None e = refl
unbroken (Some r) e = absurd cc

pub broken_by : (o : Option Rule) (r : Rule) → broken o ≡ Some (monitor.Broken r) → o ≡ Some r
broken_by None r e = absurd cc
broken_by (Some s) r e = cc

judged : {w : ℕ} (i : ℕ) (trace : Trace w) (x : Link × Beat w) → i < length trace → x ≡ slice_index_or trace i x
    → (drop i trace ≡ x ∷ drop (i + 1) trace) × (reverse (take (i + 1) trace) ≡ x ∷ reverse (take i trace))
judged {w} i trace x lt is =
    let more : take (i + 1) trace ≡ take i trace ++ x ∷ [] =
    take_more trace i x lt ∙ ap (λ (y : Link × Beat w). take i trace ++ y ∷ []) (sym is) in
    let first : drop i trace ≡ x ∷ drop (i + 1) trace =
    drop_more trace i x lt ∙ ap (λ (y : Link × Beat w). y ∷ drop (i + 1) trace) (sym is) in
    (first, ap reverse more ∙ reverse-append (take i trace) (x ∷ []))

pub known-goes_on : {w : ℕ} (m : Monitor w) (levels : List Level) (lib : Liberties) (trace : Trace w) (i : ℕ)
    (x : Link × Beat w) → i < length trace → x ≡ slice_index_or trace i x
    → KnowsUnder m levels lib (x ∷ reverse (take i trace)) false → KnowsUnder m levels lib (reverse (take (i + 1) trace)) false
known-goes_on m levels lib trace i x lt is k = rw ((judged i trace x lt is).1) k

pub fault-goes_on : {w : ℕ} (levels : List Level) (lib : Liberties) (trace : Trace w) (i : ℕ) (x : Link × Beat w)
    → i < length trace → x ≡ slice_index_or trace i x
    → fault_under levels lib (reverse (take i trace)) false x ≡ None
    → fault_from_under lib levels (reverse (take i trace)) (drop i trace) ≡ fault_from_under lib levels (reverse (take (i + 1) trace))
    (drop (i + 1) trace)
unfolding fault_from_under
fault-goes_on levels lib trace i x lt is none =
    let e = judged i trace x lt is in
    let fine : broken_on_link_under lib levels x (reverse (take i trace)) ≡ None =
    unbroken (broken_on_link_under lib levels x (reverse (take i trace))) none in
    rw (e.0, e.1, fine) refl

fault-found : {w : ℕ} (levels : List Level) (lib : Liberties) (trace : Trace w) (i : ℕ) (x : Link × Beat w) (r : Rule)
    → i < length trace → x ≡ slice_index_or trace i x
    → fault_under levels lib (reverse (take i trace)) false x ≡ Some (monitor.Broken r)
    → fault_from_under lib levels (reverse (take i trace)) (drop i trace) ≡ Some (i, r)
unfolding fault_from_under
fault-found levels lib trace i x r lt is found =
    let e = judged i trace x lt is in
    let here : broken_on_link_under lib levels x (reverse (take i trace)) ≡ Some r =
    broken_by (broken_on_link_under lib levels x (reverse (take i trace))) r found in
    let count : length (reverse (take i trace)) ≡ i = length-reverse (take i trace) ∙ length-take-le i trace
    (omega arith) in
    rw (e.0, here, count) refl

pub fault-none : {w : ℕ} (levels : List Level) (lib : Liberties) (trace before : Trace w) (i : ℕ) → length trace ≤ i
    → fault_from_under lib levels before (drop i trace) ≡ None
unfolding fault_from_under
fault-none levels lib trace before i le = rw (drop_all i trace le) refl

pub fault-answered : {w : ℕ} (levels : List Level) (lib : Liberties) (beats : Trace w) (i : ℕ) (x : Link × Beat w)
    (e : MonitorFault) → IsCount (length levels) → i < length beats
    → x ≡ slice_index_or beats i x
    → fault_from_under lib levels [] beats ≡ fault_from_under lib levels (reverse (take i beats)) (drop i beats)
    → Answers (fault_under levels lib (reverse (take i beats)) false x) (Err e)
    → AnswersTraceUnder levels lib beats (Err (trace_fault_of i e))
fault-answered levels lib beats i x (monitor.Broken rule) counted lt is same answer =
    (counted, same ∙ fault-found levels lib beats i x rule lt is answer)
fault-answered levels lib beats i x monitor.Levels counted lt is same answer = counted
fault-answered levels lib beats i x monitor.Memory counted lt is same answer = counted
fault-answered levels lib beats i x monitor.Closed counted lt is same answer = counted

-- ---- links with a level, and without

pub without-level : {w : ℕ} (m : Monitor w) (levels : List Level) (lib : Liberties) (t : Trace w) (closed : Bool) (link : Link)
    (i count : ℕ) → KnowsUnder m levels lib t closed → i ≡ link.0 → count ≡ length m.links.items → count ≤ i
    → nat_lt link.0 (length levels) ≡ false
without-level m levels lib t closed link i count k own counted none =
    let e = count-is m levels lib t closed k in
    le-ltb link.0 (length levels) (omega (arith, e, own, counted, none))

pub with-level : {w : ℕ} (m : Monitor w) (levels : List Level) (lib : Liberties) (t : Trace w) (closed : Bool) (link : Link)
    (i : ℕ) → KnowsUnder m levels lib t closed → i ≡ link.0 → i < length m.links.items
    → nat_lt link.0 (length levels) ≡ true
with-level m levels lib t closed link i k own lt =
    let e = count-is m levels lib t closed k in
    lt-ltb link.0 (length levels) (omega (arith, e, own, lt))

-- what is kept of a link, by the number of the link
pub state-on : {w : ℕ} (m : Monitor w) (levels : List Level) (lib : Liberties) (t : Trace w) (closed : Bool) (link : Link)
    (i : ℕ) (monitored : MonitoredLink) → KnowsUnder m levels lib t closed → i ≡ link.0 → i < length m.links.items
    → monitored ≡ slice_index_or m.links.items i monitored → Keeps lib monitored.state (on_link link.0 t)
state-on m levels lib t closed link i monitored k own lt is =
    rw (← own) (link_state-of m levels lib t closed i monitored k lt is)
