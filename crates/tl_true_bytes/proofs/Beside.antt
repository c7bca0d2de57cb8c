-- A run beside the one-memory machine, as something happens.
use Rattle.tl_true_bytes.proofs.Imports.{Beat, BeatD, Link, OpA, MessageA, Trace, on_link, AccessResult, Memory, after}
use Rattle.tl_true_bytes.proofs.Imports.{effect, block_at, ends, is_release_ack, Access, is_access, is_of}
use Rattle.tl_true_bytes.proofs.Imports.{pending_accesses, Op, Machine, Open, Requests, with_memory, with_open}
use Rattle.tl_true_bytes.proofs.Imports.{same_open, Performs, Run, Takes, everywhere}
use Rattle.tl_true_bytes.proofs.Imports.{found_in, memory_in, trace_in, IsBeside}
use Rattle.tl_true_bytes.proofs.Imports.{IsOpenAs, result_in}
use Rattle.std.proofs.Common.{◌≡◌, ℕ, Bool, true, false, not, ◌&&◌, inl, inr, refl, sym, ◌∙◌, ap, subst}
use Rattle.std.specs.Prelude.{if◌then◌else◌, ◌==◌, ◌∷◌, find, Option, Some, None}
use Rattle.std.{proofs.Math.Path.fun_ext, proofs.lemmas.Bool.and_from, proofs.lemmas.Bool.eqb-true}
use Rattle.tl_burst.specs.declared.message.Message.{Message}
use Rattle.tl_coherence.specs.statement.Machine.{Pool, Releases}
use Rattle.tl_coherence.proofs.memory.Beside.{IsElsewhere, done_at, open-here, open-requests, open-there, place-cases}
use Rattle.tl_coherence.proofs.queues.Tokens.{same_number}
use Rattle.tl_concord.proofs.WritesBeside.{same_access}
use Rattle.tl_one_memory.proofs.Performed.{answered-gone}
use Rattle.tl_bytes.specs.statement.Bytes.{access_writes}
use Rattle.tl_bytes.proofs.Pending.{IsAskedNow, IsPending, pending-before}
use Rattle.tl_one_memory.specs.statement.Run.{Stores, is_answered_by, with_performed}
use Rattle.tl_true_bytes.specs.code.Beside.{IsFoundAs, comes}
use Rattle.tl_bytes.proofs.OnTime.{AreOnTime, IsOnTime}
use Rattle.tl_bytes.specs.statement.Bytes.{leaves_pending}
use Rattle.tl_concord.proofs.Late.{leaves-late}
use Rattle.tl_true_bytes.proofs.{Asked.comes-before, Asked.comes-other, Opened.GoesOn}

-- ---- what is open

-- an access that is open is one
pub same_asked : {w : ℕ} (x y : MessageA w) (q r : Option AccessResult) → ◌≡◌ {A = Option (Open w)}
    (Some (record { asked = Op.Access (Message.A x); answer = q }))
    (Some (record { asked = Op.Access (Message.A y); answer = r })) → x ≡ y
same_asked x y q r e = same_access x y (same_open (Op.Access (Message.A x)) (Op.Access (Message.A y)) q r e).0

found-as : {w : ℕ} (f g : ℕ → Option ℕ) (q r : Option (MessageA w × AccessResult)) → g ≡ f → r ≡ q → IsFoundAs f q
    → IsFoundAs g r
found-as f g q r e h is = rw (e, h) is

open-as : {w : ℕ} {more : Bool} (p : Access w) (o i : Option (Open w)) → i ≡ o → IsOpenAs more p o → IsOpenAs more p i
open-as p o i e is = rw e is

-- so it is where no less is to come of its request
open-on : {w : ℕ} (more less : Bool) (p : Access w) (o : Option (Open w)) → (less ≡ false → more ≡ false)
    → IsOpenAs more p o → IsOpenAs less p o
open-on more less p o whole is = record {
  asked = is.asked;
  answer = is.answer;
  opened = is.opened;
  accesses = is.accesses;
  like = λ none. is.like (whole none);
}

elsewhere : (c s d i : ℕ) → IsElsewhere c s d i → (c == d) && (s == i) ≡ false
elsewhere c s d i other = go (c == d) refl (s == i) refl
  where
    go : (a : Bool) → (c == d) ≡ a → (b : Bool) → (s == i) ≡ b → a && b ≡ false
    go true e true f = absurd (other (sym (eqb-true c d e)) (sym (eqb-true s i f)))
    go v e u f = refl

at-place : (P : ℕ → ℕ → Type 0) (c s d i : ℕ) → (d ≡ c) × (i ≡ s) → P c s → P d i
at-place P c s d i same is = subst (λ e. P e i) (sym same.0) (subst (P c) (sym same.1) is)

module _ {w : ℕ} (run : Run w) (m : Machine w) (t : Trace w) (is : IsBeside run m t) where
  abbrev now : Memory
  now = memory_in (λ address. 0) run

  -- ---- an access is performed

  pub beside-performed : (c s : ℕ) (a : MessageA w) (p : Access w)
      → m.opened c Requests s ≡ Some (record { asked = Op.Access (Message.A a); answer = None })
      → is_access a.opcode ≡ true → IsPending c s p t → comes c s t ≡ false
      → IsBeside (Performs c s everywhere (effect (Message.A a) m.memory).0 ∷ run) (done_at c s (Message.A a) m) t
  unfolding trace_in memory_in found_in
  beside-performed c s a p opened accesses pending whole = record {
    trace_is = is.trace_is;
    memory_is = ap (λ (u : Trace w). with_performed (find (is_of c s) (pending_accesses u)) everywhere left now)
        is.trace_is
        ∙ ap (λ (o : Option (Access w)). with_performed o everywhere left now) pending
        ∙ fun_ext (λ address. leaves address (p.spoiled && access_writes address p));
    found_are = λ d i. elim (place-cases c s d i) [
      | inl same ↦ at-place (λ e j. IsFoundAs
          (found_in (λ address. 0) e j (Performs c s everywhere (effect (Message.A a) m.memory).0 ∷ run))
          (result_in ((done_at c s (Message.A a) m).opened e Requests j))) c s d i same here
      | inr other ↦ there d i other
    ];
    pending_are = λ d i q. elim (place-cases c s d i) [
      | inl same ↦ at-place (λ e j. IsPending e j q t
          → IsOpenAs (comes e j t) q ((done_at c s (Message.A a) m).opened e Requests j)) c s d i same (mine q)
      | inr apart ↦ λ other. open-as q (m.opened d Requests i) ((done_at c s (Message.A a) m).opened d Requests i)
          (open-there c Requests s after (with_memory (effect (Message.A a) m.memory).0 m) d i apart)
          (is.pending_are d i q other)
    ];
  }
    where
      after : Option (Open w)
      after = Some (record { asked = Op.Access (Message.A a); answer = Some (effect (Message.A a) m.memory).1 })

      like : IsOpenAs (comes c s t) p (m.opened c Requests s)
      like = is.pending_are c s p pending

      asked : like.asked ≡ a
      asked = same_asked like.asked a like.answer None (sym like.opened ∙ opened)

      left : Memory
      left = (effect (Message.A a) m.memory).0

      leaves : (address : ℕ) (b : Bool) → (if b then left address else (effect (Message.A p.request) now).0 address)
          ≡ left address
      leaves address true = refl
      leaves address false = ap (λ (f : Memory). f address) (ap (λ r. r.0) ((like.like whole).effect_is now)
          ∙ ap (λ (n : MessageA w). (effect (Message.A n) now).0) asked
          ∙ ap (λ (g : Memory). (effect (Message.A a) g).0) is.memory_is)

      opened_after : (done_at c s (Message.A a) m).opened c Requests s ≡ after
      opened_after = open-here c Requests s after (with_memory (effect (Message.A a) m.memory).0 m)

      result : result_in after ≡ Some (a, (effect (Message.A a) m.memory).1)
      result = rw accesses refl

      here : IsFoundAs (found_in (λ address. 0) c s (Performs c s everywhere (effect (Message.A a) m.memory).0 ∷ run))
          (result_in ((done_at c s (Message.A a) m).opened c Requests s))
      here = found-as (λ address. Some (now address))
          (found_in (λ address. 0) c s (Performs c s everywhere (effect (Message.A a) m.memory).0 ∷ run))
          (Some (a, (effect (Message.A a) m.memory).1)) (result_in ((done_at c s (Message.A a) m).opened c Requests s))
          (fun_ext (λ address. rw (same_number c, same_number s) refl)) (ap result_in opened_after ∙ result)
          (now, λ address. refl, ap (λ (g : Memory). (effect (Message.A a) g).1) (sym is.memory_is))

      there : (d i : ℕ) → IsElsewhere c s d i
          → IsFoundAs (found_in (λ address. 0) d i (Performs c s everywhere (effect (Message.A a) m.memory).0 ∷ run))
          (result_in ((done_at c s (Message.A a) m).opened d Requests i))
      there d i other = found-as (found_in (λ address. 0) d i run)
          (found_in (λ address. 0) d i (Performs c s everywhere (effect (Message.A a) m.memory).0 ∷ run))
          (result_in (m.opened d Requests i)) (result_in ((done_at c s (Message.A a) m).opened d Requests i))
          (fun_ext (λ address. rw (elsewhere c s d i other) refl))
          (ap result_in (open-there c Requests s after (with_memory (effect (Message.A a) m.memory).0 m) d i other))
          (is.found_are d i)

      mine : (q : Access w) → IsPending c s q t
          → IsOpenAs (comes c s t) q ((done_at c s (Message.A a) m).opened c Requests s)
      mine q other = let was = is.pending_are c s q other in
          let same : was.asked ≡ a = same_asked was.asked a was.answer None (sym was.opened ∙ opened) in
          record {
            asked = a;
            answer = Some (effect (Message.A a) m.memory).1;
            opened = opened_after;
            accesses = accesses;
            like = λ none. rw same at (was.like none);
          }

  -- ---- a client stores

  pub beside-stored : (block : ℕ) (g : Memory) → ((x : ℕ) → (block_at x == block) ≡ false → g x ≡ m.memory x)
      → IsBeside (Stores block g ∷ run) (with_memory g m) t
  unfolding trace_in memory_in found_in
  beside-stored block g outside = record {
    trace_is = is.trace_is;
    memory_is = fun_ext (λ x. go x (block_at x == block) refl);
    found_are = is.found_are;
    pending_are = is.pending_are;
  }
    where
      go : (x : ℕ) (b : Bool) → (block_at x == block) ≡ b → (if b then g x else now x) ≡ g x
      go x true e = refl
      go x false e = ap (λ (f : Memory). f x) is.memory_is ∙ sym (outside x e)

  -- ---- a beat is taken

  -- one that completes no response
  pub beside-moved : (link : Link) (x : Beat w)
      → ((z : BeatD w) → x ≡ Beat.D z → ends (Beat.D z) (on_link link.0 t) ≡ false)
      → AreOnTime ((link, x) ∷ t) → GoesOn x (on_link link.0 t)
      → ((c s : ℕ) (p : Access w) → IsAskedNow c s p (link, x) t
      → IsOpenAs (comes c s ((link, x) ∷ t)) p (m.opened c Requests s))
      → IsBeside (Takes link x ∷ run) m ((link, x) ∷ t)
  unfolding trace_in memory_in found_in
  beside-moved link x part late goes_on asks = record {
    trace_is = ap (λ (u : Trace w). (link, x) ∷ u) is.trace_is;
    memory_is = is.memory_is;
    found_are = λ c s. found-as (found_in (λ address. 0) c s run) (found_in (λ address. 0) c s (Takes link x ∷ run))
        (result_in (m.opened c Requests s))
        (result_in (m.opened c Requests s)) (fun_ext (λ address. rw (is.trace_is, unanswered c s x part late.0) refl))
        refl
        (is.found_are c s);
    pending_are = λ c s p pending. elim (pending-before c s p (link, x) t pending) [
      | inl old ↦ open-on (comes c s t) (comes c s ((link, x) ∷ t)) p (m.opened c Requests s)
          (comes-before c s link x t late.1 goes_on old.1) (is.pending_are c s p old.0)
      | inr new ↦ asks c s p new
    ];
  }
    where
      never : (a b : Bool) → a && (b && false) ≡ false
      never true true = refl
      never v u = refl

      unanswered : (c s : ℕ) (y : Beat w) → ((z : BeatD w) → y ≡ Beat.D z → ends (Beat.D z) (on_link link.0 t) ≡ false)
          → IsOnTime y (on_link link.0 t) → is_answered_by c s link y t ≡ false
      unanswered c s (Beat.D z) e in_time =
          rw (leaves-late z (on_link link.0 t) in_time, e z refl)
          (never ((link.0 == c) && (z.source == s)) (not (is_release_ack z.opcode)))
      unanswered c s v e in_time = refl

  -- one that completes a response, with which an operation ends
  pub beside-ended : (link : Link) (z : BeatD w) (pool : Pool) → AreOnTime ((link, Beat.D z) ∷ t)
      → ends (Beat.D z) (on_link link.0 t) ≡ true
      → pool ≡ (if is_release_ack z.opcode then Releases else Requests)
      → IsBeside (Takes link (Beat.D z) ∷ run) (with_open link.0 pool z.source None m) ((link, Beat.D z) ∷ t)
  unfolding trace_in memory_in found_in
  beside-ended link z pool late last pool_is = record {
    trace_is = ap (λ (u : Trace w). (link, Beat.D z) ∷ u) is.trace_is;
    memory_is = is.memory_is;
    found_are = λ c s. found-as (found_then c s) (found_in (λ address. 0) c s (Takes link (Beat.D z) ∷ run))
        (result_in (after.opened c Requests s)) (result_in (after.opened c Requests s))
        (fun_ext (λ address. rw is.trace_is refl)) refl (found c s (is_release_ack z.opcode) refl);
    pending_are = λ c s p pending. elim (pending-before c s p (link, Beat.D z) t pending) [
      | inl old ↦ open-on (comes c s t) (comes c s ((link, Beat.D z) ∷ t)) p (after.opened c Requests s)
          (λ whole. sym (comes-other c s link (Beat.D z) t refl) ∙ whole)
          (still c s p pending old.0 (is_release_ack z.opcode) refl)
      | inr new ↦ absurd (let no : Beat.D z ≡ Beat.A new.beat = new.beat_is in cc)
    ];
  }
    where
      after : Machine w
      after = with_open link.0 pool z.source None m

      -- what is found then
      found_then : ℕ → ℕ → ℕ → Option ℕ
      found_then c s address =
          if is_answered_by c s link (Beat.D z) t then None else found_in (λ address. 0) c s run address

      -- a ReleaseAck ends no request
      let_go : (c s : ℕ) → is_release_ack z.opcode ≡ true
          → (after.opened c Requests s ≡ m.opened c Requests s) × (is_answered_by c s link (Beat.D z) t ≡ false)
      let_go c s e = (
        ap (λ (i : Pool). (with_open link.0 i z.source None m).opened c Requests s)
            (pool_is ∙ ap (λ b. if b then Releases else Requests) e) ∙ open-requests link.0 z.source None m c s,
        rw (leaves-late z (on_link link.0 t) late.0, e) (never ((link.0 == c) && (z.source == s))),
      )
        where
          never : (a : Bool) → a && false ≡ false
          never true = refl
          never false = refl

      -- any other response ends the one with its source
      answered : is_release_ack z.opcode ≡ false → leaves_pending z (on_link link.0 t) ≡ true
      answered e = leaves-late z (on_link link.0 t) late.0 ∙ and_from (not (is_release_ack z.opcode)) (ends (Beat.D z) (on_link link.0 t)) (ap not e) last

      own : is_release_ack z.opcode ≡ false → is_answered_by link.0 z.source link (Beat.D z) t ≡ true
      own e = rw (same_number link.0, same_number z.source, answered e) refl

      request : is_release_ack z.opcode ≡ false → pool ≡ Requests
      request e = pool_is ∙ ap (λ b. if b then Releases else Requests) e

      gone : is_release_ack z.opcode ≡ false → after.opened link.0 Requests z.source ≡ None
      gone e = ap (λ (i : Pool). (with_open link.0 i z.source None m).opened link.0 Requests z.source) (request e)
          ∙ open-here link.0 Requests z.source None m

      kept : (c s : ℕ) → IsElsewhere link.0 z.source c s → is_release_ack z.opcode ≡ false
          → (after.opened c Requests s ≡ m.opened c Requests s) × (is_answered_by c s link (Beat.D z) t ≡ false)
      kept c s other e = (
        ap (λ (i : Pool). (with_open link.0 i z.source None m).opened c Requests s) (request e)
            ∙ open-there link.0 Requests z.source None m c s other,
        rw (elsewhere link.0 z.source c s other) refl,
      )

      same : (c s : ℕ) → is_answered_by c s link (Beat.D z) t ≡ false
          → after.opened c Requests s ≡ m.opened c Requests s
          → IsFoundAs (found_then c s) (result_in (after.opened c Requests s))
      same c s e f = found-as (found_in (λ address. 0) c s run) (found_then c s) (result_in (m.opened c Requests s))
          (result_in (after.opened c Requests s)) (fun_ext (λ address. rw e refl)) (ap result_in f) (is.found_are c s)

      found : (c s : ℕ) (b : Bool) → is_release_ack z.opcode ≡ b
          → IsFoundAs (found_then c s) (result_in (after.opened c Requests s))
      found c s true e = let both = let_go c s e in same c s both.1 both.0
      found c s false e = elim (place-cases link.0 z.source c s) [
        | inl here ↦ at-place (λ d i. IsFoundAs (found_then d i) (result_in (after.opened d Requests i))) link.0
            z.source c s here
            (found-as (λ address. None) (found_then link.0 z.source) None
            (result_in (after.opened link.0 Requests z.source)) (fun_ext (λ address. rw (own e) refl))
            (ap result_in (gone e)) (λ address. refl))
        | inr other ↦ let both = kept c s other e in same c s both.1 both.0
      ]

      still : (c s : ℕ) (p : Access w) → IsPending c s p ((link, Beat.D z) ∷ t) → IsPending c s p t → (b : Bool)
          → is_release_ack z.opcode ≡ b → IsOpenAs (comes c s t) p (after.opened c Requests s)
      still c s p pending old true e = open-as p (m.opened c Requests s) (after.opened c Requests s) (let_go c s e).0
          (is.pending_are c s p old)
      still c s p pending old false e = elim (place-cases link.0 z.source c s) [
        | inl here ↦ absurd (answered-gone c s p link (Beat.D z) t
            (at-place (λ d i. is_answered_by d i link (Beat.D z) t ≡ true) link.0 z.source c s here (own e)) pending)
        | inr other ↦ open-as p (m.opened c Requests s) (after.opened c Requests s) (kept c s other e).0
            (is.pending_are c s p old)
      ]

  -- ---- an operation is started

  unanswered_op : (o : Op w) → result_in (Some (record { asked = o; answer = None })) ≡ None
  unanswered_op (Op.Load address size) = refl
  unanswered_op (Op.Store address size value) = refl
  unanswered_op (Op.Acquire block grow) = refl
  unanswered_op (Op.AcquireWhole block bytes) = refl
  unanswered_op (Op.Release block prune) = refl
  unanswered_op (Op.Access (Message.A a)) = refl
  unanswered_op (Op.Access (Message.B a)) = refl
  unanswered_op (Op.Access (Message.C a)) = refl
  unanswered_op (Op.Access (Message.D a)) = refl
  unanswered_op (Op.Access (Message.E a)) = refl

  pub beside-started : (c : ℕ) (pool : Pool) (s : ℕ) (o : Op w) → m.opened c pool s ≡ None
      → IsBeside run (with_open c pool s (Some (record { asked = o; answer = None })) m) t
  beside-started c Releases s o none = record {
    trace_is = is.trace_is;
    memory_is = is.memory_is;
    found_are = λ d i. found-as (found_in (λ address. 0) d i run) (found_in (λ address. 0) d i run)
        (result_in (m.opened d Requests i)) (result_in ((with_open c Releases s after m).opened d Requests i)) refl
        (ap result_in (open-requests c s after m d i)) (is.found_are d i);
    pending_are = λ d i p pending. open-as p (m.opened d Requests i) ((with_open c Releases s after m).opened d Requests
        i) (open-requests c s after m d i) (is.pending_are d i p pending);
  }
    where
      after : Option (Open w)
      after = Some (record { asked = o; answer = None })
  beside-started c Requests s o none = record {
    trace_is = is.trace_is;
    memory_is = is.memory_is;
    found_are = λ d i. elim (place-cases c s d i) [
      | inl same ↦ at-place (λ e j. IsFoundAs (found_in (λ address. 0) e j run)
          (result_in ((with_open c Requests s after m).opened e Requests j))) c s d i same
          (found-as (found_in (λ address. 0) c s run) (found_in (λ address. 0) c s run)
          (result_in (m.opened c Requests s)) (result_in ((with_open c Requests s after m).opened c Requests s)) refl
          (ap result_in (open-here c Requests s after m) ∙ unanswered_op o ∙ sym (ap result_in none))
          (is.found_are c s))
      | inr other ↦ found-as (found_in (λ address. 0) d i run) (found_in (λ address. 0) d i run)
          (result_in (m.opened d Requests i)) (result_in ((with_open c Requests s after m).opened d Requests i)) refl
          (ap result_in (open-there c Requests s after m d i other)) (is.found_are d i)
    ];
    pending_are = λ d i p. elim (place-cases c s d i) [
      | inl same ↦ at-place (λ e j. IsPending e j p t
          → IsOpenAs (comes e j t) p ((with_open c Requests s after m).opened e Requests j)) c s d i same
          (λ pending. absurd (unopened p (is.pending_are c s p pending)))
      | inr other ↦ λ pending. open-as p (m.opened d Requests i) ((with_open c Requests s after m).opened d Requests i)
          (open-there c Requests s after m d i other) (is.pending_are d i p pending)
    ];
  }
    where
      after : Option (Open w)
      after = Some (record { asked = o; answer = None })

      unopened : (p : Access w) → IsOpenAs (comes c s t) p (m.opened c Requests s) → ⊥
      unopened p is_open = let no = sym none ∙ is_open.opened in cc

  -- ---- an access that neither reads nor writes is performed

  unread : (a : MessageA w) (f : Memory) → is_access a.opcode ≡ false → (effect (Message.A a) f).0 ≡ f
  unfolding effect
  unread a f none = go a.opcode none
    where
      go : (o : OpA) → is_access o ≡ false → after o a f ≡ f
      go OpA.Intent e = refl
      go OpA.AcquireBlock e = refl
      go OpA.AcquirePerm e = refl
      go v e = absurd cc

  pub beside-unread : (c s : ℕ) (a : MessageA w)
      → m.opened c Requests s ≡ Some (record { asked = Op.Access (Message.A a); answer = None })
      → is_access a.opcode ≡ false → IsBeside run (done_at c s (Message.A a) m) t
  beside-unread c s a opened none = record {
    trace_is = is.trace_is;
    memory_is = is.memory_is ∙ sym (unread a m.memory none);
    found_are = λ d i. elim (place-cases c s d i) [
      | inl same ↦ at-place (λ e j. IsFoundAs (found_in (λ address. 0) e j run)
          (result_in ((done_at c s (Message.A a) m).opened e Requests j))) c s d i same
          (found-as (found_in (λ address. 0) c s run) (found_in (λ address. 0) c s run)
          (result_in (m.opened c Requests s)) (result_in ((done_at c s (Message.A a) m).opened c Requests s)) refl
          (ap result_in (open-here c Requests s done (with_memory (effect (Message.A a) m.memory).0 m)) ∙ unheard
          ∙ sym (ap result_in opened)) (is.found_are c s))
      | inr other ↦ found-as (found_in (λ address. 0) d i run) (found_in (λ address. 0) d i run)
          (result_in (m.opened d Requests i)) (result_in ((done_at c s (Message.A a) m).opened d Requests i)) refl
          (ap result_in (open-there c Requests s done (with_memory (effect (Message.A a) m.memory).0 m) d i other))
          (is.found_are d i)
    ];
    pending_are = λ d i p. elim (place-cases c s d i) [
      | inl same ↦ at-place (λ e j. IsPending e j p t
          → IsOpenAs (comes e j t) p ((done_at c s (Message.A a) m).opened e Requests j)) c s d i same
          (λ pending. absurd (unopened p (is.pending_are c s p pending)))
      | inr other ↦ λ pending. open-as p (m.opened d Requests i) ((done_at c s (Message.A a) m).opened d Requests i)
          (open-there c Requests s done (with_memory (effect (Message.A a) m.memory).0 m) d i other)
          (is.pending_are d i p pending)
    ];
  }
    where
      done : Option (Open w)
      done = Some (record { asked = Op.Access (Message.A a); answer = Some (effect (Message.A a) m.memory).1 })

      unheard : result_in done ≡ None
      unheard = rw none refl

      unopened : (p : Access w) → IsOpenAs (comes c s t) p (m.opened c Requests s) → ⊥
      unopened p was =
          let same : was.asked ≡ a = same_asked was.asked a was.answer None (sym was.opened ∙ opened) in
          let no : true ≡ false = sym was.accesses ∙ ap (λ (n : MessageA w). is_access n.opcode) same ∙ none in cc
