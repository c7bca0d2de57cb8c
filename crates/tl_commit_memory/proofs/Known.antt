-- With one more happening a byte may still be what memory has, by a list of possible values, if no client has stored to
-- its copy since it was told.
use Rattle.tl_commit_memory.proofs.Imports.{Access, Beat, IsClean, IsPending, IsPerformed, IsRun, IsTaken, Leaves, Link}
use Rattle.tl_commit_memory.proofs.Imports.{Memory, Performs, Run, Stores, Takes, Telling, Trace, access_writes}
use Rattle.tl_commit_memory.proofs.Imports.{block_at}
use Rattle.tl_commit_memory.proofs.Imports.{carried_byte, could_be, effect, found_in, memory_in, none-some, on_link}
use Rattle.tl_commit_memory.proofs.Imports.{pending_accesses, pending_value, reaches, same-some, trace_in}
use Rattle.std.proofs.Common.{length, ◌≡◌, ℕ, Bool, true, false, ◌%◌, ◌&&◌, List, [], ◌∷◌, inl, inr, refl, sym, ap, ◌∙◌}
use Rattle.std.specs.Prelude.{if◌then◌else◌, find, None, Option, Some, ◌==◌}
use Rattle.std.proofs.lemmas.Bool.{eqb-true}
use Rattle.tl_rules.specs.statement.Effect.{after}
use Rattle.tl_bytes.specs.statement.Bytes.{tells, value_left}
use Rattle.tl_bytes.specs.statement.Early.{Outrun, is_outrun_of, outrun_accesses, telling_beats}
use Rattle.tl_memory.specs.statement.Known.{is_atomic}
use Rattle.tl_one_memory.proofs.Covered.{AreWindowed, untold-free}
use Rattle.tl_one_memory.proofs.Known.{Answers, IsDone, known, writes-atomic}
use Rattle.tl_one_memory.proofs.Performed.{found-here, found-other, found-performed, found-still, found-taken}
use Rattle.tl_one_memory.proofs.Performed.{performed-once, unanswered}
use Rattle.tl_one_memory.proofs.Values.{after-unwritten, spoilt-left, spoilt-pending, value-left, value-pending}
use Rattle.tl_one_memory.specs.statement.Run.{left_by, place_in, with_reached}
use Rattle.tl_commit_memory.proofs.Covered.{IsCoveredBy, covered-as, covered-untold, told-by, with_untold}
use Rattle.tl_commit_memory.proofs.Orderly.{clean-before, orderly, told-so}

-- one of these values is memory's after the run, or an access writes it
abbrev pub IsRightBy : {w : ℕ} → ℕ → Memory → ℕ → Run w → List Telling → Type 0
IsRightBy n first address run values = IsCoveredBy n address (memory_in first run address) (IsDone first run address)
    (Answers first run) (trace_in run) values

-- if no client has stored to its copy since the byte was told
abbrev pub IsKnownBy : {w : ℕ} → ℕ → Memory → ℕ → Run w → List Telling → Type 0
IsKnownBy n first address run values = IsClean n first address run → IsRightBy n first address run values

-- the values after a beat, if none is stored that is lost
abbrev pub with_beat : {w : ℕ} → ℕ → ℕ → Link → Beat w → Trace w → List Telling → List Telling
with_beat n address link x t values =
    if tells (block_at address) x (on_link link.0 t)
    then record { value = carried_byte (telling_beats x (on_link link.0 t)) (address % 64); moment = length t } ∷ []
    else with_untold n address (link, x) t values

module _ {w : ℕ} (n : ℕ) (first : Memory) (address : ℕ) (values : List Telling) where
  -- ---- a beat is taken

  pub known-taken : (link : Link) (x : Beat w) (run : Run w) → IsTaken n first link x run → IsRun n first run
      → IsKnownBy n first address run values
      → IsKnownBy n first address (Takes link x ∷ run) (with_beat n address link x (trace_in run) values)
  unfolding trace_in memory_in
  known-taken link x run taken runs before clean =
      covered-as n address value done done' answers answers' t' back forth (with_beat n address link x t values)
      (go (tells (block_at address) x (on_link link.0 t)) refl)
    where
      t : Trace w
      t = trace_in run

      t' : Trace w
      t' = (link, x) ∷ trace_in run

      value : ℕ
      value = memory_in first run address

      done : ℕ → ℕ → Type 0
      done = IsDone first run address

      done' : ℕ → ℕ → Type 0
      done' = IsDone first (Takes link x ∷ run) address

      answers : ℕ → ℕ → Access w → List (Beat w) → Type 0
      answers = Answers first run

      answers' : ℕ → ℕ → Access w → List (Beat w) → Type 0
      answers' = Answers first (Takes link x ∷ run)

      windowed : AreWindowed n address done t
      windowed = (known n first address run runs).windowed

      go : (b : Bool) → tells (block_at address) x (on_link link.0 t) ≡ b
          → IsCoveredBy n address value done answers t' (if b then record {
            value = carried_byte (telling_beats x (on_link link.0 t)) (address % 64);
            moment = length t;
          } ∷ [] else with_untold n address (link, x) t values)
      go true e = told-by n address value done answers t (link, x) (orderly n first address link x run taken runs)
          windowed values (carried_byte (telling_beats x (on_link link.0 t)) (address % 64))
          (told-so n first address link x run taken runs clean e)
      go false e = covered-untold n address value done answers t (link, x)
          (orderly n first address link x run taken runs) windowed values e
          (before (clean-before n first address link x run taken runs clean e))

      back : (c s : ℕ) (p : Access w) → IsPending c s p t' → access_writes address p ≡ true → done' c s → done c s
      back c s p pending writing is = (is.0, (found-taken first c s link x run address is.0 is.1).1)

      forth : (c s : ℕ) (p : Access w) → IsPending c s p t' → access_writes address p ≡ true → done c s
          → done' c s × ((burst : List (Beat w)) → answers' c s p burst → answers c s p burst)
      forth c s p pending writing is = (
        (is.0, still address ∙ is.1),
        λ burst answer sound reads k reached. answer sound reads k reached ∙ still k,
      )
        where
          still : (k : ℕ) → found_in first c s (Takes link x ∷ run) k ≡ found_in first c s run k
          still k = found-still first c s link x run k (unanswered c s p link x t pending)

  -- ---- an access is performed

  pub known-performed : (d i : ℕ) (test : ℕ → Bool) (left : Memory) (run : Run w) → IsPerformed n first d i test run
      → IsKnownBy n first address run values → IsKnownBy n first address (Performs d i test left ∷ run) values
  unfolding trace_in memory_in effect IsClean
  known-performed d i test left run is before clean = rw is.pending (covers (before clean) (test address) refl)
    where
      t : Trace w
      t = trace_in run

      memory : Memory
      memory = memory_in first run

      p : Access w
      p = is.access

      done : ℕ → ℕ → Type 0
      done = IsDone first run address

      done' : ℕ → ℕ → Type 0
      done' = IsDone first (Performs d i test left ∷ run) address

      answers : ℕ → ℕ → Access w → List (Beat w) → Type 0
      answers = Answers first run

      answers' : ℕ → ℕ → Access w → List (Beat w) → Type 0
      answers' = Answers first (Performs d i test left ∷ run)

      -- the access that is performed
      this : (c s : ℕ) (q : Access w) → c ≡ d → s ≡ i → IsPending c s q t → q ≡ p
      this c s q link source pending = same-some p q (sym (rw (link, source) is.pending) ∙ pending)

      -- at an address at which it isn't performed all stays as it was
      elsewhere : test address ≡ false → (c s : ℕ) (q : Access w) → IsPending c s q t → access_writes address q ≡ true
          → (burst : List (Beat w)) → answers' c s q burst → answers c s q burst
      elsewhere fails c s q pending writing burst answer sound reads k reached = go (d == c) refl (i == s) refl
        where
          kept : (d == c) && (i == s) ≡ false → carried_byte burst (place_in q k) ≡ found_in first c s run k
          kept e = answer sound reads k reached ∙ found-other first c s d i test left run k (rw e refl)

          -- what writes there, and is answered with bytes, would be performed there
          never : d ≡ c → i ≡ s → ⊥
          never link source =
              let atomic = writes-atomic q.request.opcode q.request address reads writing in
              let same : q ≡ p = this c s q (sym link) (sym source) pending in
              let no : false ≡ true = sym fails ∙ is.at_once
              (ap (λ (r : Access w). is_atomic r.request.opcode) (sym same) ∙ atomic.0) address
              (ap (λ (r : Access w). reaches r.request.address r.request.size address) (sym same) ∙ atomic.1) in cc

          go : (a : Bool) → (d == c) ≡ a → (b : Bool) → (i == s) ≡ b
              → carried_byte burst (place_in q k) ≡ found_in first c s run k
          go true e true f = absurd (never (eqb-true d c e) (eqb-true i s f))
          go true e false f = kept (rw (e, f) refl)
          go false e b f = kept (rw e refl)

      unpassed : test address ≡ false → (c s : ℕ)
          → found_in first c s (Performs d i test left ∷ run) address ≡ found_in first c s run address
      unpassed fails c s = found-other first c s d i test left run address (rw fails (never ((d == c) && (i == s))))
        where
          never : (b : Bool) → b && false ≡ false
          never true = refl
          never false = refl

      -- one that writes there isn't this one, where that doesn't
      back : access_writes address p ≡ false → (c s : ℕ) (q : Access w) → IsPending c s q t
          → access_writes address q ≡ true → done' c s → done c s
      back e c s q pending writing performed =
          elim (found-performed first c s d i test left run address performed.0 performed.1) [
            | inr old ↦ (performed.0, old)
            | inl now ↦ absurd (let no : false ≡ true =
                sym e ∙ ap (access_writes address) (sym (this c s q now.0 now.1 pending)) ∙ writing in cc)
          ]

      forth : test address ≡ true → (c s : ℕ) (q : Access w) → IsPending c s q t → access_writes address q ≡ true
          → done c s → done' c s × ((burst : List (Beat w)) → answers' c s q burst → answers c s q burst)
      forth passes c s q pending writing performed = (
        (performed.0, same address ∙ performed.1),
        λ burst answer sound reads k reached. answer sound reads k reached ∙ same k,
      )
        where
          other : (d == c) && (i == s) ≡ false
          other = go ((d == c) && (i == s))
              (rw (← passes) (performed-once n first c s d i test run address performed.0 is performed.1))
            where
              go : (b : Bool) → b && true ≡ false → b ≡ false
              go false e = refl
              go true e = e

          same : (k : ℕ) → found_in first c s (Performs d i test left ∷ run) k ≡ found_in first c s run k
          same k = found-other first c s d i test left run k (rw other refl)

      Old : Type 0
      Old = IsCoveredBy n address (memory address) done answers t values

      unwritten : Old → test address ≡ true → access_writes address p ≡ false
          → IsCoveredBy n address (after p.request.opcode p.request memory address) done' answers' t values
      unwritten old passes e =
          rw (after-unwritten p.request.opcode p.request memory address e)
          (covered-as n address (memory address) done done' answers answers' t (back e) (forth passes) values old)

      -- it writes the byte
      written : (v : ℕ) → test address ≡ true → access_writes address p ≡ true
          → ((burst : List (Beat w)) → answers' d i p burst
          → could_be v (value_left p.request.opcode p burst address) ≡ true)
          → could_be v (pending_value p.request.opcode p address) ≡ true
          → IsCoveredBy n address v done' answers' t values
      written v passes writing value pending = inr (inl (record {
        link = d;
        source = i;
        access = p;
        performed = (memory address, found-here first d i test left run address passes);
        pending = is.pending;
        writes = writing;
        value_is = value;
        pending_is = pending;
        untold = untold-free n address t (is.writes_free address passes writing);
      }))

      writes-now : Old → test address ≡ true → (s : Bool) → p.spoiled ≡ s → (b : Bool)
          → access_writes address p ≡ b
          → IsCoveredBy n address (if s && b then left address else after p.request.opcode p.request memory address)
          done' answers' t values
      writes-now old passes true spoilt true e = written (left address) passes e
          (λ burst answer. spoilt-left p burst (left address) address spoilt)
          (spoilt-pending p (left address) address spoilt)
      writes-now old passes false sound true e = written (after p.request.opcode p.request memory address) passes e
          (λ burst answer. value-left p memory burst address
          (λ sound reads k reached. answer sound reads k reached ∙ found-here first d i test left run k
          (is.at_once (writes-atomic p.request.opcode p.request address reads e).0 k reached)) e)
          (value-pending p memory address e)
      writes-now old passes true spoilt false e = unwritten old passes e
      writes-now old passes false sound false e = unwritten old passes e

      covers : Old → (b : Bool) → test address ≡ b
          → IsCoveredBy n address (if b then left_by p left memory address else memory address) done' answers' t values
      covers old true e = writes-now old e p.spoiled refl (access_writes address p) refl
      covers old false e =
          covered-as n address (memory address) done done' answers answers' t
          (λ c s q pending writing performed. (performed.0, sym (unpassed e c s) ∙ performed.1))
          (λ c s q pending writing performed. (
            (performed.0, unpassed e c s ∙ performed.1),
            elsewhere e c s q pending writing,
          )) values old

  -- ---- a client stores to its copy

  pub known-stored : (block : ℕ) (bytes : Memory) (run : Run w) → IsKnownBy n first address run values
      → IsKnownBy n first address (Stores block bytes ∷ run) values
  unfolding trace_in memory_in found_in IsClean
  known-stored block bytes run before clean = rw clean.0 (before clean.1)

  -- ---- an access that was answered early leaves its bytes

  pub known-left : (d i : ℕ) (bytes : Memory) (run : Run w) → IsKnownBy n first address run values
      → IsKnownBy n first address (Leaves d i bytes ∷ run) values
  unfolding trace_in memory_in found_in IsClean
  known-left d i bytes run before clean =
      go (find (is_outrun_of d i) (outrun_accesses (trace_in run))) refl (before clean)
    where
      Covered : ℕ → Type 0
      Covered v = IsCoveredBy n address v (IsDone first run address) (Answers first run) (trace_in run) values

      go : (o : Option Outrun) → find (is_outrun_of d i) (outrun_accesses (trace_in run)) ≡ o
          → Covered (memory_in first run address) → Covered (with_reached o bytes (memory_in first run) address)
      go None e old = old
      go (Some access) e old = by (reaches access.address access.size address) refl
        where
          by : (b : Bool) → reaches access.address access.size address ≡ b
              → Covered (if b then bytes address else memory_in first run address)
          by false f = old
          by true f =
              inr (inr (record { link = d; source = i; access = access; is = e; reached = f }))

  -- ---- nothing has happened yet

  pub known-first : (value : Option ℕ) → could_be (first address) value ≡ true
      → IsKnownBy {w = w} n first address [] (record { value = value; moment = 0 } ∷ values)
  unfolding trace_in memory_in pending_accesses
  known-first value could clean =
      inl (inl (could, λ c s p performed pending writes free one. absurd (none-some p pending)))
