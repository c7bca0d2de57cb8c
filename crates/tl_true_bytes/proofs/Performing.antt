-- An access of a world is performed rightly in the run beside it.
use Rattle.tl_true_bytes.proofs.Imports.{Link, Channel, OpA, IsWidth, MessageA, IsBlankAfter, a_beat_of, beats_of}
use Rattle.tl_true_bytes.proofs.Imports.{reaches, Config, Level, Trace, on_link, AccessResult, Memory, after, effect}
use Rattle.tl_true_bytes.proofs.Imports.{block_at, held, is_free, leaves, is_access, is_of, pending_accesses, writes}
use Rattle.tl_true_bytes.proofs.Imports.{sourced, illegal_message_at, level_of, Deliver, Outcome, IsRequest, trace_of}
use Rattle.tl_true_bytes.proofs.Imports.{IsGiven, Log, system_after, Requests, moved, accesses_answered}
use Rattle.tl_true_bytes.proofs.Imports.{one_memory_after, stepped, given-before, Run}
use Rattle.tl_true_bytes.proofs.Imports.{everywhere, found_in, trace_in, IsBeside}
use Rattle.tl_true_bytes.proofs.Imports.{IsOpenAs, result_in, Op}
use Rattle.std.proofs.Common.{◌≡◌, ℕ, zero, suc, ◌+◌, ◌%◌, ◌^◌, ◌≤◌, true, [], ◌∷◌, inl, inr, Some, None, refl, sym}
use Rattle.std.proofs.Common.{◌∙◌, ap, subst, arith, length}
use Rattle.std.specs.Prelude.{find, is_some, nat_le, nat_lt, Option, unwrap_or}
use Rattle.std.proofs.lemmas.Bool.{and_from, and_parts, cases_eq, leb-true, ltb-true}
use Rattle.tl_burst.{specs.declared.message.Message.Message, specs.statement.Burst.byte_at}
use Rattle.tl_params.specs.declared.perm.Perm.{Perm}
use Rattle.tl_rules.specs.statement.Windows.{needs}
use Rattle.tl_bytes.specs.statement.Bytes.{access_writes}
use Rattle.tl_bytes.specs.statement.Free as bytes
use Rattle.tl_coherence.specs.statement.Delivery.{levels_of}
use Rattle.tl_concord.proofs.Alike.{free-world}
use Rattle.tl_coherence.proofs.{manager.Memories.access-room, theorem.Performed.performed_free}
use Rattle.tl_one_memory.specs.statement.Run.{IsPerformed}
use Rattle.tl_true_bytes.{proofs.Asked.IsSomePending, proofs.Beside.same_asked, proofs.Quiet.other-memory}
use Rattle.tl_true_bytes.{proofs.Runs.answered-after, proofs.Taken.none-found}
use Rattle.tl_true_bytes.specs.code.{Beside.comes, Like.IsLike}
use Rattle.tl_true_bytes.proofs.Requests.{answered-open, answered-pending, request-asked, request-known, writes_sourced}

-- ---- who may write may read

trunk-branch : {w : ℕ} (n block : ℕ) (t : Trace w) → is_free n None Perm.Trunk block t ≡ true
    → is_free n None Perm.Branch block t ≡ true
unfolding is_free
trunk-branch zero block t free = refl
trunk-branch {w} (suc n) block t free =
    let both = and_parts (is_free n None Perm.Trunk block t) (leaves Perm.Trunk (held block (on_link n t))) free in
    and_from _ _ (trunk-branch n block t both.0) (weaker (held block (on_link n t)) both.1)
  where
    weaker : (p : Perm) → leaves Perm.Trunk p ≡ true → leaves Perm.Branch p ≡ true
    weaker Perm.None e = refl
    weaker v e = absurd cc

needs-branch : {w : ℕ} (n block : ℕ) (t : Trace w) (o : OpA) → is_access o ≡ true
    → is_free n None (needs o) block t ≡ true → is_free n None Perm.Branch block t ≡ true
needs-branch n block t OpA.Get e free = free
needs-branch n block t OpA.Intent e free = absurd cc
needs-branch n block t OpA.AcquireBlock e free = absurd cc
needs-branch n block t OpA.AcquirePerm e free = absurd cc
needs-branch n block t v e free = trunk-branch n block t free

-- ---- what an access reaches and writes is in its block

reached-here : (base size x : ℕ) → base % 64 + 2 ^ size ≤ 64 → reaches base size x ≡ true → block_at x ≡ block_at base
reached-here base size x room e =
    let both = and_parts (nat_le base x) (nat_lt x (base + 2 ^ size)) e in
    let from = leb-true base x both.0 in
    let to = ltb-true x (base + 2 ^ size) both.1 in
    omega (arith, from, to, room)

written-here : {w : ℕ} (m : MessageA w) (o : Option Level) (x : ℕ) → IsWidth w
    → illegal_message_at o (Message.A m) ≡ None → IsBlankAfter (beats_of (Message.A m)) (Message.A m)
    → writes m.opcode m x ≡ true → (needs m.opcode ≡ Perm.Trunk) × (block_at x ≡ block_at m.address)
unfolding effect
written-here {w} m o x width lawful blank = go m.opcode refl
  where
    -- a byte that a Put has is of its block: otherwise it would stay, whatever it was
    never : (k : OpA) → m.opcode ≡ k → ((f : Memory) → after k m f x ≡ unwrap_or (byte_at 0 (Message.A m) x) (f x))
        → (block_at x ≡ block_at m.address → ⊥) → (b : Option ℕ) → byte_at 0 (Message.A m) x ≡ b → is_some b ≡ true → ⊥
    never k e puts other None f some = cc
    never k e puts other (Some v) f some =
        let stays : after m.opcode m (λ i. suc v) x ≡ suc v =
        other-memory m o (λ i. suc v) x width lawful blank (λ n here. other here) in
        let one : v ≡ suc v = sym (ap (λ (i : Option ℕ). unwrap_or i (suc v)) f) ∙ sym (puts (λ i. suc v))
        ∙ ap (λ (i : OpA). after i m (λ j. suc v) x) (sym e) ∙ stays in
        absurd (omega (arith, one))

    put : (k : OpA) → m.opcode ≡ k → ((f : Memory) → after k m f x ≡ unwrap_or (byte_at 0 (Message.A m) x) (f x))
        → is_some (byte_at 0 (Message.A m) x) ≡ true → block_at x ≡ block_at m.address
    put k e puts some = elim (cases_eq (block_at x) (block_at m.address)) [
      | inl same ↦ same
      | inr other ↦ absurd (never k e puts other (byte_at 0 (Message.A m) x) refl some)
    ]

    reached : reaches m.address m.size x ≡ true → block_at x ≡ block_at m.address
    reached e = reached-here m.address m.size x (access-room o m width lawful) e

    go : (k : OpA) → m.opcode ≡ k → writes k m x ≡ true → (needs k ≡ Perm.Trunk) × (block_at x ≡ block_at m.address)
    go OpA.PutFullData e some = (refl, put OpA.PutFullData e (λ f. refl) some)
    go OpA.PutPartialData e some = (refl, put OpA.PutPartialData e (λ f. refl) some)
    go OpA.ArithmeticData e some = (refl, reached some)
    go OpA.LogicalData e some = (refl, reached some)
    go v e some = absurd cc

-- ---- the access that a delivery answers

pub performs-well : {w : ℕ} (config : Config) (log : Log w) (link : Link) (ch : Channel) (o : Outcome w)
    → IsGiven config ((Deliver link ch, o) ∷ log) → (n : ℕ) → n ≤ length (levels_of config) → (q source : ℕ)
    (a : MessageA w)
    → accesses_answered (stepped config (Deliver link ch) (system_after config log)).handed ≡ (q, source) ∷ []
    → moved (Deliver link ch) (stepped config (Deliver link ch) (system_after config log)).outcome
    (one_memory_after config log) ≡ one_memory_after config log
    → (one_memory_after config log).opened q Requests source ≡ Some (record {
      asked = Op.Access (Message.A a);
      answer =
          None;
    }) → is_access a.opcode ≡ true → (run : Run w)
    → IsBeside run (one_memory_after config log) (trace_of ((Deliver link ch, o) ∷ log))
    → IsPerformed n (λ address. 0) q source everywhere run
performs-well {w} config log link ch o given n le q source a one still opened accesses run is = record {
  access = p.0;
  pending = subst (λ (u : Trace w). find (is_of q source) (pending_accesses u) ≡ Some p.0) (sym is.trace_is) p.1;
  once = λ x passes. none-found (found_in (λ address. 0) q source run)
      (result_in ((one_memory_after config log).opened q Requests source)) (ap result_in opened)
      (is.found_are q source) x;
  at_once = λ atomic x reached. refl;
  reads_free = λ x passes reached. inl (now Perm.Branch x
      (reached-here a.address a.size x (access-room (level_of config q) (sourced source a) given.width known.1)
      (sym (reaching x) ∙ reached)) (needs-branch n (block_at a.address) t a.opcode accesses (free n)));
  writes_free = λ x passes writing.
      let here = written-here (sourced source a) (level_of config q) x given.width known.1 known.2
      (writes_sourced source a a.opcode x ∙ sym (writing_is x) ∙ writing) in
      now Perm.Trunk x here.1 (subst (λ (k : Perm). is_free n None k (block_at a.address) t ≡ true) here.0 (free n));
}
  where
    t : Trace w
    t = trace_of ((Deliver link ch, o) ∷ log)

    result : AccessResult
    result = (effect (Message.A a) (one_memory_after config log).memory).1

    after_it : (one_memory_after config ((Deliver link ch, o) ∷ log)).opened q Requests source
        ≡ Some (record { asked = Op.Access (Message.A a); answer = Some result })
    after_it = answered-after config log link ch o given q source a one still opened

    p : IsSomePending q source t
    p = answered-pending config ((Deliver link ch, o) ∷ log) given q source a result after_it accesses

    open_as : IsOpenAs (comes q source t) p.0 ((one_memory_after config log).opened q Requests source)
    open_as = is.pending_are q source p.0 p.1

    alike : IsLike p.0.request open_as.asked
    alike = open_as.like
        (answered-open config ((Deliver link ch, o) ∷ log) given q source a result after_it accesses).whole

    same : open_as.asked ≡ a
    same = same_asked open_as.asked a open_as.answer None (sym open_as.opened ∙ opened)

    known : IsRequest config q source (Message.A (sourced source a))
    known = request-known config log (given-before config (Deliver link ch, o) log given) q source a None opened

    free : (k : ℕ) → is_free k None (needs a.opcode) (block_at a.address) t ≡ true
    free = (performed_free config log link ch o given q source [] (a_beat_of (sourced source a) 0) one
        (request-asked config ((Deliver link ch, o) ∷ log) given q source a result after_it)).1

    now : (k : Perm) (x : ℕ) → block_at x ≡ block_at a.address → is_free n None k (block_at a.address) t ≡ true
        → bytes.is_free n k (block_at x) (trace_in run) ≡ true
    now k x here e = subst (λ (u : Trace w). bytes.is_free n k (block_at x) u ≡ true) (sym is.trace_is)
        (free-world ((Deliver link ch, o) ∷ log) given n k (block_at x) le ∙ subst
        (λ (b : ℕ). is_free n None k b t ≡ true) (sym here) e)

    reaching : (x : ℕ) → reaches p.0.request.address p.0.request.size x ≡ reaches a.address a.size x
    reaching x = ap (λ (k : ℕ). reaches k p.0.request.size x)
        (alike.address_is ∙ ap (λ (i : MessageA w). i.address) same)
        ∙ ap (λ (k : ℕ). reaches a.address k x) (alike.size_is ∙ ap (λ (i : MessageA w). i.size) same)

    writing_is : (x : ℕ) → access_writes x p.0 ≡ writes a.opcode a x
    writing_is x = alike.writes_is x ∙ ap (λ (i : MessageA w). writes i.opcode i x) same
