-- Nothing changes a block while its Grant is on its way.
use Rattle.tl_true_bytes.proofs.Imports.{Beat, BeatD, OpA, IsWidth, MessageA, IsBlankAfter, beats_of, unfinished}
use Rattle.tl_true_bytes.proofs.Imports.{Config, Level, Trace, on_link, Memory, after, effect, block_at, grants, held}
use Rattle.tl_true_bytes.proofs.Imports.{is_free, leaves, is_access, Op, Reply, sourced, illegal_message_at, level_of}
use Rattle.tl_true_bytes.proofs.Imports.{Event, Ask, Deliver, Outcome, IsRequest, trace_of, IsGiven, IsLog, Log}
use Rattle.tl_true_bytes.proofs.Imports.{system_after, Machine, Open, Requests, after_reply, moved, pool_of}
use Rattle.tl_true_bytes.proofs.Imports.{accesses_answered, one_memory_after, stepped, given-before, shadow}
use Rattle.tl_true_bytes.proofs.Imports.{matched-given, effect-sourced, answering-delivered, responses, Channel}
use Rattle.std.proofs.Common.{◌≡◌, ℕ, suc, true, false, List, [], ◌∷◌, inl, inr, Some, None, refl, sym, ◌∙◌, ap, subst}
use Rattle.std.specs.Prelude.{Option}
use Rattle.std.proofs.lemmas.Bool.{and_parts, cases_eq, ne_eqb}
use Rattle.tl_burst.specs.declared.message.Message.{Message}
use Rattle.tl_params.specs.declared.perm.Perm.{Perm}
use Rattle.tl_rules.{specs.statement.History.is_acquire, specs.statement.Windows.needs, proofs.Blocks.effect_elsewhere}
use Rattle.tl_rules.{proofs.Legal.access_at_uh}
use Rattle.tl_coherence.specs.statement.Machine.{after_end, memory_after, with_number}
use Rattle.tl_coherence.specs.statement.OneMemory.{performing}
use Rattle.tl_coherence.proofs.{flow.HiddenStore.hidden_stores, memory.Beside.performing-one}
use Rattle.tl_manager.proofs.blocks.Memories.{access_code}
use Rattle.tl_concord.{proofs.WholeStores.whole_stores, proofs.WritesBeside.writes_beside}
use Rattle.tl_true_bytes.{proofs.Events.unstored, proofs.Events.unwritten, proofs.Requests.request-known}
use Rattle.tl_true_bytes.proofs.Runs.{aligned-store, answered-after, asked-none}

-- ---- a client that may write holds Trunk

-- where no link holds Trunk, none does
no-trunk : {w : ℕ} (block c : ℕ) (t : Trace w) → ((n : ℕ) → is_free n None Perm.Branch block t ≡ true)
    → held block (on_link c t) ≡ Perm.Trunk → ⊥
unfolding is_free
no-trunk block c t free trunk =
    let own = (and_parts (is_free c None Perm.Branch block t) (leaves Perm.Branch (held block (on_link c t)))
    (free (suc c))).1 in
    let no : false ≡ true = sym (ap (leaves Perm.Branch) trunk) ∙ own in cc

-- ---- what changes no byte of a block

reply-memory : {w : ℕ} (c : ℕ) (m : Machine w) (x : ℕ) (o : Op w) (r : Reply)
    → ((address size value : ℕ) → o ≡ Op.Store address size value → r ≡ Reply.Stored
    → with_number address size value m.memory x ≡ m.memory x)
    → (after_reply c o r m).memory x ≡ m.memory x
reply-memory c m x (Op.Load address size) (Reply.Value v) stores = refl
reply-memory c m x (Op.Load address size) Reply.Stored stores = refl
reply-memory c m x (Op.Load address size) Reply.Miss stores = refl
reply-memory c m x (Op.Load address size) (Reply.Started source) stores = refl
reply-memory c m x (Op.Load address size) (Reply.Busy why) stores = refl
reply-memory c m x (Op.Store address size value) (Reply.Value v) stores = refl
reply-memory c m x (Op.Store address size value) Reply.Stored stores = stores address size value refl refl
reply-memory c m x (Op.Store address size value) Reply.Miss stores = refl
reply-memory c m x (Op.Store address size value) (Reply.Started source) stores = refl
reply-memory c m x (Op.Store address size value) (Reply.Busy why) stores = refl
reply-memory c m x (Op.Acquire block grow) (Reply.Value v) stores = refl
reply-memory c m x (Op.Acquire block grow) Reply.Stored stores = refl
reply-memory c m x (Op.Acquire block grow) Reply.Miss stores = refl
reply-memory c m x (Op.Acquire block grow) (Reply.Started source) stores = refl
reply-memory c m x (Op.Acquire block grow) (Reply.Busy why) stores = refl
reply-memory c m x (Op.AcquireWhole block bytes) (Reply.Value v) stores = refl
reply-memory c m x (Op.AcquireWhole block bytes) Reply.Stored stores = refl
reply-memory c m x (Op.AcquireWhole block bytes) Reply.Miss stores = refl
reply-memory c m x (Op.AcquireWhole block bytes) (Reply.Started source) stores = refl
reply-memory c m x (Op.AcquireWhole block bytes) (Reply.Busy why) stores = refl
reply-memory c m x (Op.Release block prune) (Reply.Value v) stores = refl
reply-memory c m x (Op.Release block prune) Reply.Stored stores = refl
reply-memory c m x (Op.Release block prune) Reply.Miss stores = refl
reply-memory c m x (Op.Release block prune) (Reply.Started source) stores = refl
reply-memory c m x (Op.Release block prune) (Reply.Busy why) stores = refl
reply-memory c m x (Op.Access a) (Reply.Value v) stores = refl
reply-memory c m x (Op.Access a) Reply.Stored stores = refl
reply-memory c m x (Op.Access a) Reply.Miss stores = refl
reply-memory c m x (Op.Access a) (Reply.Started source) stores = refl
reply-memory c m x (Op.Access a) (Reply.Busy why) stores = refl

-- an access that writes another block, or none
pub other-memory : {w : ℕ} (m : MessageA w) (o : Option Level) (f : Memory) (x : ℕ) → IsWidth w
    → illegal_message_at o (Message.A m) ≡ None → IsBlankAfter (beats_of (Message.A m)) (Message.A m)
    → (needs m.opcode ≡ Perm.Trunk → block_at x ≡ block_at m.address → ⊥) → (effect (Message.A m) f).0 x ≡ f x
unfolding effect
other-memory {w} m None f x width lawful blank apart = absurd cc
other-memory {w} m (Some l) f x width lawful blank apart = go m.opcode refl
  where
    plain : (o : OpA) → is_access o ≡ true → is_acquire o ≡ false
    plain OpA.Intent e = absurd cc
    plain OpA.AcquireBlock e = absurd cc
    plain OpA.AcquirePerm e = absurd cc
    plain v e = refl

    writes : is_access m.opcode ≡ true → needs m.opcode ≡ Perm.Trunk → (effect (Message.A m) f).0 x ≡ f x
    writes accesses trunk = effect_elsewhere (Message.A m) width
        (access_at_uh l m width (access_code m.opcode (plain m.opcode accesses)) lawful) blank f x (apart trunk)

    go : (o : OpA) → m.opcode ≡ o → after m.opcode m f x ≡ f x
    go OpA.Get e = rw e refl
    go OpA.Intent e = rw e refl
    go OpA.AcquireBlock e = rw e refl
    go OpA.AcquirePerm e = rw e refl
    go v e = writes (ap is_access e) (ap needs e)

-- ---- an event while a Grant of the block is on its way

module _ {w : ℕ} (config : Config) (log : Log w) (block x : ℕ) (at : block_at x ≡ block) where
  -- what a client stores is of another block
  moved-memory : (e : Event w) (o : Outcome w) → IsGiven config ((e, o) ∷ log)
      → ((n : ℕ) → is_free n None Perm.Branch block (trace_of ((e, o) ∷ log)) ≡ true)
      → (moved e o (one_memory_after config log)).memory x ≡ (one_memory_after config log).memory x
  unfolding IsLog trace_of
  moved-memory (Ask c i) (Outcome.Replied r) given free =
      reply-memory c (one_memory_after config log) x i r stored
    where
      before : IsGiven config log
      before = given-before config (Ask c i, Outcome.Replied r) log given

      stored : (address size value : ℕ) → i ≡ Op.Store address size value → r ≡ Reply.Stored
          → with_number address size value (one_memory_after config log).memory x
          ≡ (one_memory_after config log).memory x
      stored address size value is stores = elim (cases_eq (block_at x) (block_at address)) [
        | inl same ↦ absurd (no-trunk block c (trace_of log) free
            (subst (λ (k : ℕ). held k (on_link c (trace_of log)) ≡ Perm.Trunk) (sym same ∙ at)
            (hidden_stores config log before c address size value replied_so)))
        | inr other ↦ unstored address size value x (one_memory_after config log).memory
            (aligned-store config log before c address size value replied_so)
            (ne_eqb (block_at x) (block_at address) other)
      ]
        where
          replied_so : (stepped config (Ask c (Op.Store address size value)) (system_after config log)).outcome
              ≡ Outcome.Replied Reply.Stored
          replied_so = subst (λ (j : Op w). (stepped config (Ask c j) (system_after config log)).outcome
              ≡ Outcome.Replied Reply.Stored) is (sym given.is_log.0 ∙ ap (λ (q : Reply). Outcome.Replied q) stores)
  moved-memory (Deliver link ch) (Outcome.Done y source f) given free =
      go ((one_memory_after config log).opened link.0 (pool_of f) source) refl
    where
      whole : (o : Open w) (i : Op w) → o.asked ≡ i
          → (one_memory_after config log).opened link.0 (pool_of f) source ≡ Some o
          → memory_after i (one_memory_after config log).memory x ≡ (one_memory_after config log).memory x
      whole o (Op.AcquireWhole k bytes) asked opened = elim (cases_eq (block_at x) k) [
        | inl same ↦ absurd (no-trunk block link.0 (trace_of ((Deliver link ch, Outcome.Done y source f) ∷ log)) free
            (subst (λ (j : ℕ). held j (on_link link.0 (trace_of ((Deliver link ch, Outcome.Done y source f) ∷ log)))
            ≡ Perm.Trunk) (sym same ∙ at) (whole_stores config log link ch y source f given o k bytes opened asked)))
        | inr other ↦ unwritten k bytes (one_memory_after config log).memory x (ne_eqb (block_at x) k other)
      ]
      whole o v asked opened = refl

      go : (o : Option (Open w)) → (one_memory_after config log).opened link.0 (pool_of f) source ≡ o
          → (after_end link.0 (pool_of f) source o (one_memory_after config log)).memory x
          ≡ (one_memory_after config log).memory x
      go None opened = refl
      go (Some o) opened = whole o o.asked refl opened
  moved-memory (Ask c i) (Outcome.Moved y) given free = refl
  moved-memory (Ask c i) (Outcome.Done y source f) given free = refl
  moved-memory (Ask c i) Outcome.Empty given free = refl
  moved-memory (Ask c i) Outcome.Stalled given free = refl
  moved-memory (Ask c i) Outcome.NoSuchClient given free = refl
  moved-memory (Deliver link ch) (Outcome.Moved y) given free = refl
  moved-memory (Deliver link ch) (Outcome.Replied r) given free = refl
  moved-memory (Deliver link ch) Outcome.Empty given free = refl
  moved-memory (Deliver link ch) Outcome.Stalled given free = refl
  moved-memory (Deliver link ch) Outcome.NoSuchClient given free = refl

  -- nor is what is performed a write of it
  pub quiet : (e : Event w) (o : Outcome w) → IsGiven config ((e, o) ∷ log) → (link : ℕ) (y : BeatD w)
      (older : List (Beat w)) → unfinished Channel.D (on_link link (trace_of ((e, o) ∷ log))) ≡ Beat.D y ∷ older
      → grants block y (on_link link (trace_of ((e, o) ∷ log))) ≡ true
      → (one_memory_after config ((e, o) ∷ log)).memory x ≡ (one_memory_after config log).memory x
  unfolding one_memory_after performing IsLog
  quiet (Ask c i) o given link y older begun_so granted =
      ap (λ (l : List (ℕ × ℕ)). (performing l (moved (Ask c i) o (one_memory_after config log))).memory x)
      (asked-none config log (given-before config (Ask c i, o) log given) c i)
      ∙ moved-memory (Ask c i) o given (λ n. (responses config ((Ask c i, o) ∷ log) given).undisturbed link n block y
      older begun_so granted)
  quiet (Deliver d ch) o given link y older begun_so granted =
      elim (answering-delivered config log d ch (shadow config log) given.width
      (matched-given config log (given-before config (Deliver d ch, o) log given))) [
        | inl none ↦ ap (λ (l : List (ℕ × ℕ)).
            (performing l (moved (Deliver d ch) o (one_memory_after config log))).memory x) none ∙ moved-memory
            (Deliver d ch) o given (λ n. (responses config ((Deliver d ch, o) ∷ log) given).undisturbed link n block y
            older begun_so granted)
        | inr one ↦ written one.0 one.1 one.3.0 one.2 one.4 one.3.2
      ]
    where
      written : (q source : ℕ) (a : MessageA w)
          → accesses_answered (stepped config (Deliver d ch) (system_after config log)).handed ≡ (q, source) ∷ []
          → moved (Deliver d ch) (stepped config (Deliver d ch) (system_after config log)).outcome
          (one_memory_after config log) ≡ one_memory_after config log
          → (one_memory_after config log).opened q Requests source
          ≡ Some (record { asked = Op.Access (Message.A a); answer = None })
          → (one_memory_after config ((Deliver d ch, o) ∷ log)).memory x ≡ (one_memory_after config log).memory x
      written q source a one still opened =
          ap (λ (n : Machine w). n.memory x)
          (ap (λ (r : Outcome w). performing (accesses_answered
          (stepped config (Deliver d ch) (system_after config log)).handed)
          (moved (Deliver d ch) r (one_memory_after config log))) given.is_log.0
          ∙ ap (λ (n : Machine w). performing (accesses_answered
          (stepped config (Deliver d ch) (system_after config log)).handed) n) still
          ∙ ap (λ (k : List (ℕ × ℕ)). performing k (one_memory_after config log)) one
          ∙ performing-one q source (Message.A a) (one_memory_after config log) opened)
          ∙ ap (λ r. r.0 x) (sym (effect-sourced source a (one_memory_after config log).memory))
          ∙ other-memory (sourced source a) (level_of config q) (one_memory_after config log).memory x given.width
          known.1 known.2
          (λ writes here. writes_beside config log (Deliver d ch, o) given q source a
          (effect (Message.A a) (one_memory_after config log).memory).1 writes opened
          (answered-after config log d ch o given q source a one still opened) link y older begun_so
          (subst (λ (k : ℕ). grants k y (on_link link (trace_of ((Deliver d ch, o) ∷ log))) ≡ true) (sym at ∙ here)
          granted))
        where
          known : IsRequest config q source (Message.A (sourced source a))
          known = request-known config log (given-before config (Deliver d ch, o) log given) q source a None opened
