-- What is noted of a beat is what there is to know of the longer trace.
use Rattle.std.proofs.Common.{◌≡◌, ℕ, suc, Bool, true, false, ◌&&◌, ◌<◌, ◌≢◌, List, [], ◌∷◌, length}
use Rattle.std.proofs.Common.{refl, sym, ap, ◌∙◌, inl, inr}
use Rattle.std.specs.Prelude.{if◌then◌else◌, not, ◌==◌, Option, Some, None, is_some, nat_lt, IsTrue}
use Rattle.std.proofs.lemmas.Bool.{cases_Bool, cases_eq, lt-ltb, eq-eqb, ne_eqb, eqb-true}
use Rattle.tl_beat.specs.declared.beat.Beat.{Beat}
use Rattle.tl_beat.specs.declared.beat.Beat.TheVariants.{A, B, C, D, E}
use Rattle.tl_beat.specs.declared.beat.BeatA.{BeatA}
use Rattle.tl_beat.specs.declared.beat.Link.{Link}
use Rattle.tl_beat.specs.declared.channel.Channel.TheVariants as channel
use Rattle.tl_burst.specs.statement.Messages.{History, unfinished, breaks_burst, same_control}
use Rattle.tl_burst.proofs.ControlFields.{control_a}
use Rattle.tl_params.specs.declared.key.Key.TheVariants.{RequestSource}
use Rattle.tl_params.specs.declared.level.Level.{Level}
use Rattle.tl_params.specs.declared.liberties.Liberties.{Liberties}
use Rattle.tl_rules.specs.code.Open.{open_request, request_fields}
use Rattle.tl_rules.specs.code.Tables.{kept_request}
use Rattle.tl_rules.specs.declared.past.Request.{Request}
use Rattle.tl_rules.specs.statement.Conformance.{Trace, on_link}
use Rattle.tl_rules.specs.statement.Liberties.{broken_after_under}
use Rattle.tl_rules.specs.statement.Conformance.{comes_in_request}
use Rattle.tl_rules.specs.statement.History.{begins, ends, pending, request_of, is_release_ack}
use Rattle.tl_rules.proofs.Tables.{request-next}
use Rattle.tl_bytes.specs.statement.Free.{all_liberties}
use Rattle.tl_memory.proofs.lawful.Lawful.{goes_on}
use Rattle.tl_memory.proofs.messages.LinkTables.{link-there}
use Rattle.tl_memory.proofs.lawful.OpenAccesses.{is-fine}
use Rattle.tl_memory.specs.statement.Links.{IsLegal}
use Rattle.tl_memory.specs.code.Changing.{IsChange, KnowsFree}
use Rattle.tl_memory.specs.code.Elsewhere.{LeavesHeld}
use Rattle.tl_memory.specs.code.Passing.{changes_held}
use Rattle.tl_memory.specs.declared.memory.Change.{Change}
use Rattle.tl_memory.specs.declared.memory.Memory.{Memory}
use Rattle.tl_memory.proofs.states.PassedBy.{held-left}
use Rattle.tl_monitor.specs.code.LinkState.{is_block}
use Rattle.tl_monitor.specs.statement.Knows.{request_on}
use Rattle.tl_monitor.specs.declared.monitor.Monitor.{Monitor}
use Rattle.tl_together.specs.code.Windows.{asked_in}
use Rattle.tl_together.specs.code.Windows.{IsSaid, KnowsAsked, LeavesOthers, NotesRequest}
use Rattle.tl_bytes.specs.statement.Free.{is_free}
use Rattle.tl_memory.specs.declared.free.Freedom.{Freedom}
use Rattle.tl_memory.specs.statement.Known.{free_for}
use Rattle.tl_params.specs.declared.perm.Perm.{Perm}
use Rattle.tl_params.specs.declared.perm.Perm.TheVariants as perm
use Rattle.tl_together.specs.code.Following.{Follows}
use Rattle.tl_together.proofs.Following.{one_more}
use Rattle.tl_monitor.proofs.OnLink.{other_link, own_link}
use Rattle.tl_together.proofs.Windowed.{asked_now, asked_still}

-- ---- requests

pub true_false : {X : Type 0} → true ≡ false → X
true_false e = absurd cc

chosen : (p c : Bool) (o : Option Request)
    → (if p && not c then o else None) ≡ (if c then None else (if p then o else None))
chosen true true o = refl
chosen true false o = refl
chosen false true o = refl
chosen false false o = refl

open_kept : {w : ℕ} (s : ℕ) (t : History w)
    → open_request s t ≡ (if comes_in_request s (unfinished channel.A t) then None else kept_request s t)
open_kept s t = chosen (pending (RequestSource s) t) (comes_in_request s (unfinished channel.A t))
    (request_fields (request_of s t))

unmoved : {w : ℕ} (s : ℕ) (x : Beat w) (t : History w) → kept_request s (x ∷ t) ≡ kept_request s t
    → unfinished channel.A (x ∷ t) ≡ unfinished channel.A t
    → open_request s (x ∷ t) ≡ open_request s t
unmoved s x t kept same = open_kept s (x ∷ t) ∙ rw (kept, same) (sym (open_kept s t))

moved_not : {w : ℕ} {X : Type 0} (s : ℕ) (x : Beat w) (t : History w) → open_request s (x ∷ t) ≡ open_request s t
    → is_some (open_request s t) ≡ false → is_some (open_request s (x ∷ t)) ≡ true → X
moved_not s x t same before now = true_false (sym now ∙ ap is_some same ∙ before)

closed_less : (c last : Bool) (o : Option Request) → is_some (if c then None else o) ≡ false
    → is_some (if c then None else (if last then None else o)) ≡ false
closed_less true last o e = refl
closed_less false true o e = refl
closed_less false false o e = e

is_true : (b : Bool) → b ≡ true → IsTrue b
is_true true e = refl
is_true false e = absurd cc

not_not : (b : Bool) → not b ≡ false → b ≡ true
not_not true e = refl
not_not false e = absurd cc

comes_same : {w : ℕ} (s : ℕ) (y : BeatA w) (beats : List (Beat w)) → comes_in_request s beats ≡ true
    → breaks_burst (A y) beats ≡ false → y.source ≡ s
comes_same s y [] e f = absurd cc
comes_same s y (A z ∷ beats) e f =
    (control_a y z (is_true (same_control (A y) (A z)) (not_not (same_control (A y) (A z)) f))).3 ∙ eqb-true z.source s
    e
comes_same s y (B z ∷ beats) e f = absurd cc
comes_same s y (C z ∷ beats) e f = absurd cc
comes_same s y (D z ∷ beats) e f = absurd cc
comes_same s y (E z ∷ beats) e f = absurd cc

no_first : (first : Bool) (o k : Option Request) → (if first && false then o else k) ≡ k
no_first true o k = refl
no_first false o k = refl

some_then : (c : Bool) (o : Option Request) → is_some (if c then None else o) ≡ false → is_some o ≡ true → c ≡ true
some_then true o e f = refl
some_then false o e f = true_false (sym f ∙ e)

some_inside : (c : Bool) (o : Option Request) → is_some (if c then None else o) ≡ true → is_some o ≡ true
some_inside true o e = absurd cc
some_inside false o e = e

-- a request that is complete with a beat is one of its source
pub opened_by : {w : ℕ} (l : Level) (s : ℕ) (x : Beat w) (t : History w)
    → broken_after_under all_liberties l x t ≡ None → is_some (open_request s t) ≡ false
    → is_some (open_request s (x ∷ t)) ≡ true → (y : BeatA w) × (x ≡ A y) × (y.source ≡ s)
unfolding unfinished
opened_by l s (A y) t legal before now = (
  y,
  refl,
  elim (cases_eq y.source s) [
    | inl its ↦ its
    | inr other ↦
        let kept : kept_request s (A y ∷ t) ≡ kept_request s t =
        request-next s (A y) t ∙ rw (ne_eqb y.source s other) (no_first (begins (A y) t) (request_fields (Some y))
        (kept_request s t)) in
        let some : is_some (kept_request s t) ≡ true =
        ap is_some (sym kept) ∙ some_inside (comes_in_request s (unfinished channel.A (A y ∷ t)))
        (kept_request s (A y ∷ t)) (ap is_some (sym (open_kept s (A y ∷ t))) ∙ now) in
        let comes : comes_in_request s (unfinished channel.A t) ≡ true =
        some_then (comes_in_request s (unfinished channel.A t)) (kept_request s t)
        (ap is_some (sym (open_kept s t)) ∙ before) some in
        comes_same s y (unfinished channel.A t) comes (goes_on l (A y) t legal)
  ],
)
opened_by l s (B y) t legal before now = moved_not s (B y) t (unmoved s (B y) t (request-next s (B y) t) refl) before
    now
opened_by l s (C y) t legal before now = moved_not s (C y) t (unmoved s (C y) t (request-next s (C y) t) refl) before
    now
opened_by l s (E y) t legal before now = moved_not s (E y) t (unmoved s (E y) t (request-next s (E y) t) refl) before
    now
opened_by l s (D y) t legal before now =
    let gone : is_some (open_request s (D y ∷ t)) ≡ false =
    ap is_some (open_kept s (D y ∷ t)) ∙ rw (request-next s (D y) t)
    (closed_less (comes_in_request s (unfinished channel.A t))
    (ends (D y) t && (not (is_release_ack y.opcode) && (y.source == s))) (kept_request s t)
    (ap is_some (sym (open_kept s t)) ∙ before)) in
    true_false (sym now ∙ gone)

-- the table of requests with one more beat
pub asked_more : {w : ℕ} (n : ℕ) (levels : List Level) (tables : List (List (Option ℕ))) (link : Link)
    (x : Beat w) (t : Trace w) → KnowsAsked tables n t
    → IsLegal levels (link, x) t
    → ((y : BeatA w) → x ≡ A y → is_some (open_request y.source (on_link link.0 t)) ≡ false
    → asked_in tables link.0 y.source ≡ Some (suc (length t)))
    → KnowsAsked tables n ((link, x) ∷ t)
asked_more n levels tables link x t still fine noted l s lt now = elim (cases_eq link.0 l) [
  | inr other ↦
      let before : is_some (open_request s (on_link l t)) ≡ true =
      ap (λ h. is_some (open_request s h)) (sym (other_link l (link, x) t other)) ∙ now in
      still l s lt before ∙ ap Some (sym (asked_still l s (link, x) t before))
  | inl own ↦ elim (cases_Bool (is_some (open_request s (on_link l t)))) [
    | inl before ↦ still l s lt before ∙ ap Some (sym (asked_still l s (link, x) t before))
    | inr none ↦
        let f = is-fine _ levels (link, x) t fine in
        let none_here : is_some (open_request s (on_link link.0 t)) ≡ false = rw own none in
        let now_here : is_some (open_request s (x ∷ on_link link.0 t)) ≡ true =
        ap (λ h. is_some (open_request s h)) (sym (own_link link.0 (link, x) t refl)) ∙ ap
        (λ m. is_some (open_request s (on_link m ((link, x) ∷ t)))) own ∙ now in
        let by = opened_by f.level s x (on_link link.0 t) f.fine none_here now_here in
        let table : asked_in tables link.0 by.0.source ≡ Some (suc (length t)) =
        noted by.0 by.1 (ap (λ m. is_some (open_request m (on_link link.0 t))) by.2 ∙ none_here) in
        ap (λ m. asked_in tables m s) (sym own) ∙ ap (asked_in tables link.0) (sym by.2) ∙ table ∙ ap Some
        (sym (asked_now l s (link, x) t now none))
  ]
]

-- ---- what is held

-- where this is what a beat changes of what is kept of memory, it leaves what is held of the other blocks
pub held_others : {w : ℕ} (change : Change w) (m : Memory w) (n : ℕ) (link : Link) (x : Beat w) (t : Trace w)
    → IsChange change m n (link, x) t → LeavesOthers change.held x (on_link link.0 t)
held_others change m n link x t is b apart = go (changes_held x (on_link link.0 t)) refl
  where
    go : (c : Bool) → changes_held x (on_link link.0 t) ≡ c → LeavesHeld b (link, x) t
    go false e = held-left b link x t e
    go true e = (is.block_is b other).held_is
      where
        other : change.block ≢ Some b
        other own =
            let held : change.held ≡ Some b = is.held_is ∙ rw (e, own) refl in
            let none : is_block b (Some b) ≡ false = rw held at apart in
            true_false (sym (eq-eqb b b refl) ∙ none)

-- and says for whom the block was free before it
pub said_before : {w : ℕ} (change : Change w) (free : Freedom) (n : ℕ) (t : Trace w) → KnowsFree change n t
    → ((block : ℕ) → change.block ≡ Some block → (given : Perm) → free_for free given ≡ is_free n given block t)
    → IsSaid change.held free n t
said_before change free n t k said block held =
    let own = k.own block held in (said block own perm.Branch, said block own perm.Trunk)

-- ---- what the functions note

drop_all : {X : Type 0} (p : Bool) (a b : X) → (if p && false then a else b) ≡ b
drop_all true a b = refl
drop_all false a b = refl

drop_last : {X : Type 0} (p q : Bool) (a b : X) → (if p && (q && false) then a else b) ≡ b
drop_last true true a b = refl
drop_last true false a b = refl
drop_last false q a b = refl

pub on_levels : {w : ℕ} (levels : List Level) (link : Link) (s : ℕ) (t : Trace w) → link.0 < length levels
    → request_on levels link s t ≡ open_request s (on_link link.0 t)
on_levels levels link s t lt = rw (lt-ltb link.0 (length levels) lt) refl

pub notes_kept : {w : ℕ} (m : Monitor w) (old : List (List (Option ℕ))) (link : Link) (x : Beat w) (next : ℕ)
    → ((y : BeatA w) (levels : List Level) (may : Liberties) (t : Trace w) → x ≡ A y → Follows m levels may t
    → is_some (request_on levels link y.source t) ≡ true)
    → NotesRequest m old old link x next
notes_kept m old link x next asked = (
  refl,
  λ levels may t k long still. (
    still,
    λ next_is fine.
        asked_more (length levels) levels old link x t still (one_more m levels may (link, x) t k fine)
        (λ y is none. true_false
        (sym (asked y levels may t is k) ∙ ap is_some
        (on_levels levels link y.source t (link-there _ levels (link, x) t fine)) ∙ none)),
  ),
)

pub notes_set : {w : ℕ} (m : Monitor w) (old new : List (List (Option ℕ))) (link : Link) (y : BeatA w) (x : Beat w)
    (i next : ℕ)
    → x ≡ A y → i ≡ link.0 → length new ≡ length old
    → ((n s : ℕ) → asked_in new n s ≡ (if nat_lt i (length old) && ((n == i) && (s == y.source)) then Some next else
    asked_in old n s))
    → ((levels : List Level) (may : Liberties) (t : Trace w) → Follows m levels may t
    → is_some (request_on levels link y.source t) ≡ false)
    → NotesRequest m old new link x next
notes_set {w} m old new link y x i next x_is i_is long_too noted none = (
  long_too,
  λ levels may t k long still.
      let also = kept levels may t k long still in (
        also,
        λ next_is fine. asked_more (length levels) levels new link x t also
            (one_more m levels may (link, x) t k fine) (λ z is free.
            let lt = link-there _ levels (link, x) t fine in
            let same : z ≡ y = of_a (sym is ∙ x_is) in
            ap (λ (v : BeatA w). asked_in new link.0 v.source) same
            ∙ ap (λ j. asked_in new j y.source) (sym i_is) ∙ noted i y.source
            ∙ rw (lt-ltb i (length old) (rw (i_is, long) lt), eq-eqb i i refl, eq-eqb y.source y.source refl)
            (ap Some next_is)),
      ),
)
  where
    of_a : {z v : BeatA w} → A z ≡ A v → z ≡ v
    of_a e = cc

    apart : (n s : ℕ) → (n ≡ i → s ≡ y.source → ⊥) → asked_in new n s ≡ asked_in old n s
    apart n s ne = noted n s ∙ elim (cases_eq n i) [
      | inl a ↦ elim (cases_eq s y.source) [
        | inl b ↦ absurd (ne a b)
        | inr b ↦ rw (ne_eqb s y.source b) (drop_last (nat_lt i (length old)) (n == i) (Some next) (asked_in old n s))
      ]
      | inr a ↦ rw (ne_eqb n i a) (drop_all (nat_lt i (length old)) (Some next) (asked_in old n s))
    ]

    kept : (levels : List Level) (may : Liberties) (t : Trace w) → Follows m levels may t → length old ≡ length levels
        → KnowsAsked old (length levels) t → KnowsAsked new (length levels) t
    kept levels may t k long still n s lt now =
        apart n s (λ a b.
        let here : link.0 < length levels = rw (← i_is, ← a) lt in
        let some : is_some (open_request y.source (on_link link.0 t)) ≡ true = rw (← i_is, ← a, ← b) now in
        true_false (sym some ∙ ap is_some (sym (on_levels levels link y.source t here)) ∙ none levels may t k))
        ∙ still n s lt now

pub its_source : {w : ℕ} (x : Beat w) (y z : BeatA w) (levels : List Level) (link : Link) (t : Trace w) → x ≡ A y
    → x ≡ A z → is_some (request_on levels link y.source t) ≡ true
    → is_some (request_on levels link z.source t) ≡ true
its_source {w} x y z levels link t e f some = ap (λ (v : BeatA w). is_some (request_on levels link v.source t))
    (of_a (sym f ∙ e)) ∙ some
  where
    of_a : {v u : BeatA w} → A v ≡ A u → v ≡ u
    of_a e = cc
