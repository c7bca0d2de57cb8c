-- The one-memory machine beside the protocol, after events: what is open at each source, and the memory.
use Rattle.std.proofs.Common.{◌≡◌, ℕ, List, [], ◌∷◌, Option, Some, None, refl, sym, ◌∙◌, subst, arith, ◌⊎◌, inl, inr}
use Rattle.std.proofs.Common.{ne_eqb}
use Rattle.tl_coherence.proofs
use proofs.Imports.{cases_eq, ⊤, Message, IsBlock, effect, Op, set_at, State, SourceState, SourceFree, Asked, InService}
use proofs.Imports.{Replied, Acquires, IsAccess, MemoryRelation, Answers, IsOpened, IsLet, AccessMessages, Machine}
use proofs.Imports.{Open, Pool, Requests, Releases, with_open, with_memory, performing}
use Rattle.tl_coherence.{specs.statement.Machine.performed}
use proofs.queues.Tokens.{same_number, set_at-same}

-- ---- one place of two numbers

-- another place than this one
abbrev pub IsElsewhere : ℕ → ℕ → ℕ → ℕ → Type 0
IsElsewhere c source d i = d ≡ c → i ≡ source → ⊥

pub place-cases : (c source d i : ℕ) → ((d ≡ c) × (i ≡ source)) ⊎ IsElsewhere c source d i
place-cases c source d i = grind arith

pub set_at-there : {X : Type 0} {c source : ℕ} (x : X) (f : ℕ → ℕ → X) {d i : ℕ} → IsElsewhere c source d i
    → set_at c source x f d i ≡ f d i
set_at-there {c} {source} x f {d} {i} else_ = elim (cases_eq d c) [
  | inl same ↦ elim (cases_eq i source) [
    | inl also ↦ absurd (else_ same also)
    | inr other ↦ rw (same, same_number c, ne_eqb i source other) refl
  ]
  | inr other ↦ rw (ne_eqb d c other) refl
]

pub open-here : {w : ℕ} (c : ℕ) (pool : Pool) (source : ℕ) (o : Option (Open w)) (m : Machine w)
    → (with_open c pool source o m).opened c pool source ≡ o
open-here c pool source o m = grind arith

pub open-there : {w : ℕ} (c : ℕ) (pool : Pool) (source : ℕ) (o : Option (Open w)) (m : Machine w) (d i : ℕ)
    → IsElsewhere c source d i → (with_open c pool source o m).opened d pool i ≡ m.opened d pool i
open-there {w} c pool source o m d i else_ = grind arith

pub open-releases : {w : ℕ} (c source : ℕ) (o : Option (Open w)) (m : Machine w) (d i : ℕ)
    → (with_open c Requests source o m).opened d Releases i ≡ m.opened d Releases i
open-releases {w} c source o m d i = grind arith

pub open-requests : {w : ℕ} (c source : ℕ) (o : Option (Open w)) (m : Machine w) (d i : ℕ)
    → (with_open c Releases source o m).opened d Requests i ≡ m.opened d Requests i
open-requests {w} c source o m d i = grind arith

-- ---- what is open with a source

-- the Acquire that a source is of is as before
abbrev pub IsSameAcquire : ℕ → State (List ℕ) → State (List ℕ) → SourceState → Type 0
IsSameAcquire c s s' (Acquires n) = (((s'.block n).pair c).acquiring ≡ ((s.block n).pair c).acquiring)
    × ((s'.block n).waiting c ≡ (s.block n).waiting c)
IsSameAcquire c s s' u = ⊤

-- an answer is as before, where there is one
abbrev pub IsSameAnswer : {w : ℕ} → SourceState → Message w → Message w → Type 0
IsSameAnswer Replied x y = y ≡ x
IsSameAnswer u x y = ⊤

opened-still : {w : ℕ} (c source : ℕ) (mail mail' : AccessMessages w) (s s' : State (List ℕ)) (u : SourceState)
    (o : Option (Open w)) → mail'.request c source ≡ mail.request c source → IsSameAnswer u (mail.answer c source)
    (mail'.answer c source) → IsSameAcquire c s s' u → IsOpened c source mail s u o → IsOpened c source mail' s' u o
opened-still c source mail mail' s s' SourceFree o request answer acquire h = h
opened-still c source mail mail' s s' Asked o request answer acquire h = rw request h
opened-still c source mail mail' s s' (InService n) o request answer acquire h = rw request h
opened-still c source mail mail' s s' Replied o request answer acquire h = (
  h.0,
  subst (λ m. IsAccess source m (Some h.0) o) (sym request) h.1,
  rw request (subst (λ x. Answers (mail.request c source) h.0 x) (sym answer) h.2),
)
opened-still c source mail mail' s s' (Acquires n) o request answer acquire h = h ∙ rw (acquire.0, acquire.1) refl

-- ---- events

-- what an event leaves that changes no source
pub record IsStill {w : ℕ} (mail : AccessMessages w) (s s' : State (List ℕ)) (m m' : Machine w) : Type 0 where
  pub memory : (n : ℕ) → IsBlock m'.memory n (s'.block n).truth
  pub uses : (d i : ℕ) → s'.uses d i ≡ s.uses d i
  pub lets : (d i : ℕ) → s'.lets d i ≡ s.lets d i
  pub opened : (d : ℕ) (pool : Pool) (i : ℕ) → m'.opened d pool i ≡ m.opened d pool i
  pub acquires : (d n : ℕ) → (((s'.block n).pair d).acquiring ≡ ((s.block n).pair d).acquiring)
      × ((s'.block n).waiting d ≡ (s.block n).waiting d)

pub same_acquire : (c : ℕ) (s s' : State (List ℕ)) (u : SourceState)
    → ((n : ℕ) → (((s'.block n).pair c).acquiring ≡ ((s.block n).pair c).acquiring)
    × ((s'.block n).waiting c ≡ (s.block n).waiting c)) → IsSameAcquire c s s' u
same_acquire c s s' u e = grind arith

same_answer : {w : ℕ} (u : SourceState) (x : Message w) → IsSameAnswer u x x
same_answer u x = grind arith

moved_opened : {w : ℕ} (c source : ℕ) (mail : AccessMessages w) (s : State (List ℕ)) (u v : SourceState)
    (o p : Option (Open w)) → v ≡ u → p ≡ o → IsOpened c source mail s u o → IsOpened c source mail s v p
moved_opened c source mail s u v o p e f h = rw (e, f) h

moved_let : {w : ℕ} (u v : Option ℕ) (o p : Option (Open w)) → v ≡ u → p ≡ o → IsLet u o → IsLet v p
moved_let u v o p e f h = rw (e, f) h

pub beside-still : {w : ℕ} {mail : AccessMessages w} {s s' : State (List ℕ)} {m m' : Machine w} → IsStill mail s s' m m'
    → MemoryRelation mail s m → MemoryRelation mail s' m'
beside-still {mail} {s} {s'} {m} is h = record {
  memory = is.memory;
  requests = λ d i. moved_opened d i mail s' _ _ _ _ (is.uses d i) (is.opened d Requests i) (opened-still d
      i mail mail s s' (s.uses d i) (m.opened d Requests i) refl (same_answer (s.uses d i) (mail.answer d i))
      (same_acquire d s s' (s.uses d i) (λ n. is.acquires d n)) (h.requests d i));
  releases = λ d i. moved_let _ _ _ _ (is.lets d i) (is.opened d Releases i) (h.releases d i);
}

-- what an event leaves that changes one A source
pub record IsUsed {w : ℕ} (c source : ℕ) (u : SourceState) (mail mail' : AccessMessages w) (s s' : State (List ℕ))
    (m m' : Machine w) : Type 0 where
  pub memory : (n : ℕ) → IsBlock m'.memory n (s'.block n).truth
  pub uses : (d i : ℕ) → s'.uses d i ≡ set_at c source u s.uses d i
  pub lets : (d i : ℕ) → s'.lets d i ≡ s.lets d i
  pub here : IsOpened c source mail' s' u (m'.opened c Requests source)
  pub there : (d i : ℕ) → IsElsewhere c source d i → m'.opened d Requests i ≡ m.opened d Requests i
  pub releases : (d i : ℕ) → m'.opened d Releases i ≡ m.opened d Releases i
  pub requests : (d i : ℕ) → IsElsewhere c source d i → mail'.request d i ≡ mail.request d i
  pub answers : (d i : ℕ) → IsElsewhere c source d i → mail'.answer d i ≡ mail.answer d i
  pub acquires : (d i : ℕ) → IsElsewhere c source d i → IsSameAcquire d s s' (s.uses d i)

answer_as : {w : ℕ} (u : SourceState) (x y : Message w) → y ≡ x → IsSameAnswer u x y
answer_as u x y e = grind arith

pub beside-used : {w : ℕ} {c source : ℕ} {u : SourceState} {mail mail' : AccessMessages w} {s s' : State (List ℕ)}
    {m m' : Machine w} → IsUsed c source u mail mail' s s' m m' → MemoryRelation mail s m → MemoryRelation mail' s' m'
beside-used {c} {source} {u} {mail} {mail'} {s} {s'} {m} {m'} is h = record {
  memory = is.memory;
  requests = λ d i. elim (place-cases c source d i) [
    | inl same ↦ rw (same.0, same.1) (moved_opened c source mail' s' u (s'.uses c source) (m'.opened c Requests source)
        (m'.opened c Requests source) (is.uses c source ∙ set_at-same c source u s.uses) refl is.here)
    | inr else_ ↦ moved_opened d i mail' s' _ _ _ _
        (is.uses d i ∙ set_at-there u s.uses else_) (is.there d i else_) (opened-still d i mail mail' s s' (s.uses d i)
        (m.opened d Requests i) (is.requests d i else_) (answer_as (s.uses d i) (mail.answer d i) (mail'.answer d i)
        (is.answers d i else_)) (is.acquires d i else_) (h.requests d i))
  ];
  releases = λ d i. moved_let _ _ _ _ (is.lets d i) (is.releases d i) (h.releases d i);
}

-- what an event leaves that changes one C source
pub record IsLetGo {w : ℕ} (c source : ℕ) (l : Option ℕ) (mail : AccessMessages w) (s s' : State (List ℕ))
    (m m' : Machine w) : Type 0 where
  pub memory : (n : ℕ) → IsBlock m'.memory n (s'.block n).truth
  pub uses : (d i : ℕ) → s'.uses d i ≡ s.uses d i
  pub lets : (d i : ℕ) → s'.lets d i ≡ set_at c source l s.lets d i
  pub here : IsLet l (m'.opened c Releases source)
  pub there : (d i : ℕ) → IsElsewhere c source d i → m'.opened d Releases i ≡ m.opened d Releases i
  pub requests : (d i : ℕ) → m'.opened d Requests i ≡ m.opened d Requests i
  pub acquires : (d n : ℕ) → (((s'.block n).pair d).acquiring ≡ ((s.block n).pair d).acquiring)
      × ((s'.block n).waiting d ≡ (s.block n).waiting d)

pub beside-let : {w : ℕ} {c source : ℕ} {l : Option ℕ} {mail : AccessMessages w} {s s' : State (List ℕ)}
    {m m' : Machine w} → IsLetGo c source l mail s s' m m' → MemoryRelation mail s m → MemoryRelation mail s' m'
beside-let {c} {source} {l} {mail} {s} {s'} {m} {m'} is h = record {
  memory = is.memory;
  requests = λ d i. moved_opened d i mail s' _ _ _ _ (is.uses d i) (is.requests d i) (opened-still d i
      mail mail s s' (s.uses d i) (m.opened d Requests i) refl (same_answer (s.uses d i) (mail.answer d i))
      (same_acquire d s s' (s.uses d i) (λ n. is.acquires d n)) (h.requests d i));
  releases = λ d i. elim (place-cases c source d i) [
    | inl same ↦ rw (same.0, same.1) (moved_let l (s'.lets c source) (m'.opened c Releases source)
        (m'.opened c Releases source) (is.lets c source ∙ set_at-same c source l s.lets) refl is.here)
    | inr else_ ↦ moved_let _ _ _ _ (is.lets d i ∙ set_at-there l s.lets else_) (is.there d i else_) (h.releases d i)
  ];
}

-- ---- an access is performed

-- the machine after it
abbrev pub done_at : {w : ℕ} → ℕ → ℕ → Message w → Machine w → Machine w
done_at c source a m = with_open c Requests source
    (Some (record { asked = Op.Access a; answer = Some (effect a m.memory).1 })) (with_memory (effect a m.memory).0 m)

pub performed-open : {w : ℕ} (c source : ℕ) (a : Message w) (m : Machine w)
    → m.opened c Requests source ≡ Some (record { asked = Op.Access a; answer = None })
    → performed c source m ≡ Some (done_at c source a m)
performed-open c source a m e = rw e refl

pub performing-one : {w : ℕ} (c source : ℕ) (a : Message w) (m : Machine w)
    → m.opened c Requests source ≡ Some (record { asked = Op.Access a; answer = None })
    → performing ((c, source) ∷ []) m ≡ done_at c source a m
unfolding performing
performing-one c source a m e = rw e refl
