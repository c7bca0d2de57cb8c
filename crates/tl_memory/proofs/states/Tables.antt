-- What is known of the table of blocks, with one more state or one more beat.
use Rattle.tl_memory.proofs.Imports.{Beat, Link, Trace, pending_accesses, PassesBy, BlockState, KnowsState, KnowsUnseen}
use Rattle.tl_memory.proofs.Imports.{Freedom, freedom}
use Rattle.std.proofs.Common.{◌≡◌, ◌<◌, ℕ, zero, suc, true, false, [], ◌∷◌, ◌++◌, List, length, refl, sym, ap}
use Rattle.std.proofs.Common.{◌∙◌, ◌⊎◌, arith, inl, inr, length-append}
use Rattle.std.specs.Prelude.{if◌then◌else◌, None, Option, slice_get, slice_set, Some, ◌==◌}
use Rattle.std.{proofs.lemmas.List.length-set, proofs.lemmas.Option.none-some, proofs.lemmas.Option.same_Some}
use Rattle.std.proofs.lemmas.Bool.{cases_Bool, eq-eqb, eqb-true}
use Rattle.tl_memory.{specs.code.Taking.IsNext, specs.code.Taking.put_next, specs.declared.next_state.NextState.NextState}
use Rattle.tl_memory.{specs.declared.blocks.Blocks.Blocks, proofs.states.Elsewhere.byte-kept}
use Rattle.tl_memory.{proofs.states.Elsewhere.stays}
unfoldable use Rattle.tl_bytes.specs.statement.Early.{outrun_accesses}
use Rattle.tl_memory.specs.statement.BlockMap.{value_in}
use Rattle.tl_memory.specs.statement.Known.{AreInside}
use Rattle.tl_memory.specs.statement.Blocks.{KnowsBlocks, KnowsKept, place_in, state_at, state_in}

-- ---- one state

-- the next state, for whom the block is free with which isn't seen yet
pub next-seen : {w : ℕ} (old : BlockState w) (next : Option (NextState w)) (free : Freedom) (n block : ℕ)
    (x : Link × Beat w) (t : Trace w) → IsNext next (Some free) old n block x t
    → KnowsUnseen (put_next old next) n block x t × (free ≡ freedom n block x t)
next-seen old None free n block x t is = absurd is
next-seen old (Some s) free n block x t is = is

-- or the one that stays, or is seen
pub next-whole : {w : ℕ} (old : BlockState w) (next : Option (NextState w)) (n block : ℕ) (x : Link × Beat w)
    (t : Trace w) → KnowsState old n block t → IsNext next None old n block x t
    → KnowsState (put_next old next) n block (x ∷ t)
next-whole old None n block x t k is = stays old n block x t is k
next-whole old (Some s) n block x t k is = is

-- where it isn't told for whom the block is free
pub next-unseen : {w : ℕ} (old : BlockState w) (next : Option (NextState w)) (free : Option Freedom) (n block : ℕ)
    (x : Link × Beat w) (t : Trace w)
    → ((v : Freedom) → free ≡ Some v → ⊥) → IsNext next free old n block x t → IsNext next None old n block x t
next-unseen old next None n block x t none is = is
next-unseen old next (Some v) n block x t none is = absurd (none v refl)

-- ---- all states

pub blocks-first : {w : ℕ} (b : Blocks w) (n : ℕ) → ((block : ℕ) → place_in b block ≡ None) → b.last ≡ None
    → KnowsBlocks b n []
unfolding pending_accesses outrun_accesses
blocks-first {w} b n nowhere unmet = record {
  table_is = record {
    stand = λ block place e. absurd (none-some place (sym (nowhere block) ∙ e));
    apart = λ block other place e f. absurd (none-some place (sym (nowhere block) ∙ e));
    last_is = λ block place e. absurd (none-some (block, place) (sym unmet ∙ e));
  };
  states_are = λ block. rw (nowhere block) (λ place lt. refl, λ s new. new);
  inside = record { inside = tt; reach_inside = tt };
}

-- a state that is kept of another block, or none
kept-stays : {w : ℕ} (o : Option (BlockState w)) (n block : ℕ) (x : Link × Beat w) (t : Trace w)
    → PassesBy block x t → KnowsKept o n block t → KnowsKept o n block (x ∷ t)
kept-stays None n block x t passes known = (
  λ place lt. byte-kept n block place x t lt passes.elsewhere.quiet (passes.elsewhere.keeps place lt) (passes.elsewhere.unsettled place lt)
      ∙ known.0 place lt,
  λ s new. stays s n block x t passes (known.1 s new),
)
kept-stays (Some s) n block x t passes known = stays s n block x t passes known

some-kept : {w : ℕ} (o : Option (BlockState w)) (s : BlockState w) (n block : ℕ) (t : Trace w) → o ≡ Some s
    → KnowsKept o n block t → KnowsState s n block t
some-kept o s n block t is known = rw is at known

-- with a beat that bears on one block
kept-taken : {w : ℕ} (s next : BlockState w) (old new : Option (BlockState w)) (n block k : ℕ) (x : Link × Beat w)
    (t : Trace w) → (k ≡ block → old ≡ Some s) → new ≡ (if k == block then Some next else old)
    → (KnowsState s n block t → KnowsState next n block (x ∷ t)) → ((k == block) ≡ false → PassesBy k x t)
    → KnowsKept old n k t → KnowsKept new n k (x ∷ t)
kept-taken s next old new n block k x t there is taken passes known = elim (cases_Bool (k == block)) [
  | inl here ↦
      let same = eqb-true k block here in
      rw (is, here) (rw same (taken (rw (← same) (some-kept old s n k t (there same) known))))
  | inr other ↦ rw (is, other) (kept-stays old n k x t (passes other) known)
]

-- ---- one state more

found-first : {X : Type 0} (xs : List X) (k : ℕ) (y : X) → k < length xs → slice_get (xs ++ y ∷ []) k ≡ slice_get xs k
found-first [] k y lt = absurd (omega (arith, lt))
found-first (x ∷ xs) zero y lt = refl
found-first (x ∷ xs) (suc k) y lt = found-first xs k y (omega (arith, lt))

found-last : {X : Type 0} (xs : List X) (y : X) → slice_get (xs ++ y ∷ []) (length xs) ≡ Some y
found-last [] y = refl
found-last (x ∷ xs) y = found-last xs y

set-own : {X : Type 0} (xs : List X) (i : ℕ) (y : X) → i < length xs → slice_get (slice_set xs i y) i ≡ Some y
set-own [] i y lt = absurd (omega (arith, lt))
set-own (x ∷ xs) zero y lt = refl
set-own (x ∷ xs) (suc i) y lt = set-own xs i y (omega (arith, lt))

set-other : {X : Type 0} (xs : List X) (i k : ℕ) (y : X) → (k ≡ i → ⊥) → slice_get (slice_set xs i y) k ≡ slice_get xs k
set-other (x ∷ xs) zero zero y other = absurd (other refl)
set-other (x ∷ xs) (suc i) (suc k) y other = set-other xs i k y (λ e. other (ap suc e))
set-other v u z y other = refl

-- where the same states stand at the places of a block
state-same : {w : ℕ} (b new : Blocks w) (o : Option ℕ)
    → ((place : ℕ) → o ≡ Some place → slice_get new.states.items place ≡ slice_get b.states.items place)
    → state_at new o ≡ state_at b o
state-same b new None same = refl
state-same b new (Some place) same = same place refl

-- with the state of a block that had none
pub blocks-more : {w : ℕ} (b new : Blocks w) (s : BlockState w) (n block : ℕ) (t : Trace w)
    → new.states.items ≡ b.states.items ++ s ∷ []
    → ((other : ℕ) → place_in new other ≡ (if other == block then Some (length b.states.items) else place_in b other))
    → new.last ≡ b.last → place_in b block ≡ None → KnowsState s n block [] → KnowsBlocks b n t → KnowsBlocks new n t
blocks-more {w} b new s n block t items places last unmet first k = record {
  table_is = record {
    stand = λ other place e. elim (placed other place e) [
      | inl here ↦ omega (arith, ap length items, length-append b.states.items (s ∷ []), here.1)
      | inr before ↦ omega (
        arith,
        ap length items,
        length-append b.states.items (s ∷ []),
        k.table_is.stand other place before,
      )
    ];
    apart = λ one other place e f. elim (placed one place e) [
      | inl here ↦ elim (placed other place f) [
        | inl too ↦ here.0 ∙ sym too.0
        | inr before ↦ absurd (omega (arith, here.1, k.table_is.stand other place before))
      ]
      | inr before ↦ elim (placed other place f) [
        | inl here ↦ absurd (omega (arith, here.1, k.table_is.stand one place before))
        | inr too ↦ k.table_is.apart one other place before too
      ]
    ];
    last_is = λ other place e.
        let was = k.table_is.last_is other place (sym last ∙ e) in
        places other ∙ elim (cases_Bool (other == block)) [
          | inl here ↦ absurd (none-some place (sym unmet ∙ ap (place_in b) (sym (eqb-true other block here)) ∙ was))
          | inr apart ↦ rw apart was
        ];
  };
  states_are = λ other. rw (places other) (elim (cases_Bool (other == block)) [
    | inl here ↦ rw (here, items, found-last b.states.items s, eqb-true other block here)
        ((rw unmet at (k.states_are block)).1 s first)
    | inr apart ↦ rw apart (rw (state-same b new (place_in b other) (λ place e.
        ap (λ l. slice_get l place) items ∙ found-first b.states.items place s (k.table_is.stand other place e)))
        (k.states_are other))
  ]);
  inside = k.inside;
}
  where
    placed : (other place : ℕ) → place_in new other ≡ Some place
        → ((other ≡ block) × (place ≡ length b.states.items)) ⊎ (place_in b other ≡ Some place)
    placed other place e = elim (cases_Bool (other == block)) [
      | inl here ↦ inl (
        eqb-true other block here,
        sym (same_Some (length b.states.items) place (rw here at (sym (places other) ∙ e))),
      )
      | inr apart ↦ inr (rw apart at (sym (places other) ∙ e))
    ]

-- with the same places
pub blocks-same : {w : ℕ} (b new : Blocks w) (n : ℕ) (t : Trace w) → new.states.items ≡ b.states.items
    → ((other : ℕ) → place_in new other ≡ place_in b other) → new.last ≡ b.last → KnowsBlocks b n t
    → KnowsBlocks new n t
blocks-same b new n t items places last k = record {
  table_is = record {
    stand = λ block place e. rw items (k.table_is.stand block place (sym (places block) ∙ e));
    apart = λ block other place e f.
        k.table_is.apart block other place (sym (places block) ∙ e) (sym (places other) ∙ f);
    last_is = λ block place e. places block ∙ k.table_is.last_is block place (sym last ∙ e);
  };
  states_are = λ block. rw (places block)
      (rw (state-same b new (place_in b block) (λ place e. ap (λ l. slice_get l place) items)) (k.states_are block));
  inside = k.inside;
}

-- where another block was met last
pub blocks-met : {w : ℕ} (b : Blocks w) (n block place : ℕ) (t : Trace w) → place_in b block ≡ Some place
    → KnowsBlocks b n t → KnowsBlocks (record { states = b.states; places = b.places; last = Some (block, place) }) n t
blocks-met b n block place t met k = record {
  table_is = record {
    stand = k.table_is.stand;
    apart = k.table_is.apart;
    last_is = λ other at e. met-last (same_Some (block, place) (other, at) e) met;
  };
  states_are = k.states_are;
  inside = k.inside;
}
  where
    met-last : {p q : ℕ × ℕ} → p ≡ q → place_in b p.0 ≡ Some p.1 → place_in b q.0 ≡ Some q.1
    met-last e at = rw e at at

-- ---- one more beat

all-inside : {w : ℕ} {s : BlockState w} {n block : ℕ} {t : Trace w} → KnowsState s n block t → AreInside t
all-inside k = record { inside = k.accesses_are.inside; reach_inside = k.outrun_are.inside }

pub blocks-taken : {w : ℕ} (b new : Blocks w) (s next : BlockState w) (n block place : ℕ) (x : Link × Beat w)
    (t : Trace w) → new.states.items ≡ slice_set b.states.items place next → new.places ≡ b.places → new.last ≡ b.last
    → slice_get b.states.items place ≡ Some s → place_in b block ≡ Some place
    → (KnowsState s n block t → KnowsState next n block (x ∷ t))
    → ((other : ℕ) → (other == block) ≡ false → PassesBy other x t) → KnowsBlocks b n t → KnowsBlocks new n (x ∷ t)
blocks-taken b new s next n block place x t items places last found at taken passes k = record {
  table_is = record {
    stand = λ other p e. rw (items, length-set b.states.items place next)
        (k.table_is.stand other p (sym (same other) ∙ e));
    apart = λ one other p e f. k.table_is.apart one other p (sym (same one) ∙ e) (sym (same other) ∙ f);
    last_is = λ other p e. same other ∙ k.table_is.last_is other p (sym last ∙ e);
  };
  states_are = λ other. kept-taken s next (state_in b other) (state_in new other) n block other x t
      (λ e. ap (state_in b) e ∙ there) (changed other) taken (passes other) (k.states_are other);
  inside = all-inside (taken (some-kept (state_in b block) s n block t there (k.states_are block)));
}
  where
    same : (other : ℕ) → place_in new other ≡ place_in b other
    same other = ap (λ m. value_in m other) places

    there : state_in b block ≡ Some s
    there = ap (state_at b) at ∙ found

    changed : (other : ℕ) → state_in new other ≡ (if other == block then Some next else state_in b other)
    changed other = ap (state_at new) (same other) ∙ elim (cases_Bool (other == block)) [
      | inl here ↦ rw (here, eqb-true other block here, at, items)
          (set-own b.states.items place next (k.table_is.stand block place at))
      | inr apart ↦ rw apart (state-same b new (place_in b other) (λ p e. ap (λ l. slice_get l p) items
          ∙ set-other b.states.items place p next (λ own. differ other apart
          (k.table_is.apart other block p e (at ∙ ap Some (sym own))))))
    ]
      where
        differ : (other : ℕ) → (other == block) ≡ false → other ≡ block → ⊥
        differ other apart e = let no : false ≡ true = sym apart ∙ eq-eqb other block e in cc

-- with a beat that bears on none
pub blocks-passed : {w : ℕ} (b : Blocks w) (n : ℕ) (x : Link × Beat w) (t : Trace w)
    → ((block : ℕ) → PassesBy block x t) → KnowsBlocks b n t → KnowsBlocks b n (x ∷ t)
blocks-passed b n x t passes k = record {
  table_is = k.table_is;
  states_are = λ block. kept-stays (state_in b block) n block x t (passes block) (k.states_are block);
  inside = record {
    inside = (passes 0).elsewhere.inside;
    reach_inside = (passes 0).elsewhere.outrun.reach_inside;
  };
}
