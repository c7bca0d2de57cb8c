-- The beats of a world, and the stores and loads of its clients, come of a run of one memory whose copies are used
-- rightly.
use Rattle.std.proofs.Common.{◌≡◌, ℕ, ◌+◌, ◌-◌, ◌*◌, ◌%◌, ◌^◌, ◌<◌, Bool, true, false, not, ◌&&◌, ◌==◌, List, [], ◌∷◌}
use Rattle.std.proofs.Common.{◌++◌, None, Some, inl, inr, refl, sym, ◌∙◌, ap, subst, arith}
use Rattle.std.specs.Prelude.{if◌then◌else◌, Option, nat_le, nat_lt}
use Rattle.std.proofs.lemmas.Bool.{and_parts, eq-eqb, le-leb, leb-true, ltb-true}
use Rattle.tl_beat.specs.declared.beat.Beat.{Beat}
use Rattle.tl_beat.specs.declared.beat.Link.{Link}
use Rattle.tl_beat.specs.declared.channel.Channel.{Channel}
use Rattle.tl_burst.specs.statement.Burst.{reaches}
use Rattle.tl_client.specs.declared.operation.Op.{Op}
use Rattle.tl_client.specs.declared.reply.Reply.{Reply}
use Rattle.tl_client.specs.declared.verdict.Finish.{Finish}
use Rattle.tl_client.specs.statement.Ask.{is_word}
use Rattle.tl_params.specs.declared.config.Config.{Config}
use Rattle.tl_params.specs.declared.perm.Perm.{Perm}
use Rattle.tl_params.specs.statement.Liberties.{liberties_of}
use Rattle.tl_rules.specs.statement.Conformance.{Trace, same_perm}
unfoldable use Rattle.tl_rules.specs.statement.Conformance.{on_link}
use Rattle.tl_rules.specs.statement.Effect.{Memory, byte_of}
use Rattle.tl_rules.specs.statement.History.{block_at}
use Rattle.tl_rules.specs.statement.Windows as windows
use Rattle.tl_bytes.specs.statement.Bytes.{could_be, tells}
unfoldable use Rattle.tl_bytes.specs.statement.Bytes.{carried_byte}
use Rattle.tl_bytes.specs.statement.Early.{telling_beats}
use Rattle.tl_bytes.specs.statement.Free.{is_free, may_hold}
use Rattle.tl_memory.specs.statement.Links.{KeepRules}
use Rattle.tl_manager.specs.statement.Reaction.{with_block}
use Rattle.tl_events.specs.declared.commit.Commit.TheVariants as commit
use Rattle.tl_events.specs.declared.commit.Event.TheVariants as event
use Rattle.tl_commits.specs.statement.Copies.{link_beats, may_store}
use Rattle.tl_commits.specs.statement.Events.{Events}
unfoldable use Rattle.tl_commits.specs.statement.Events.{beats_of}
use Rattle.tl_commits.specs.statement.Seen.{byte_in}
use Rattle.tl_coherence.specs.declared.event.Event.{Event}
use Rattle.tl_coherence.specs.declared.event.Event.TheVariants.{Ask, Deliver}
use Rattle.tl_coherence.specs.declared.event.Outcome.{Outcome}
use Rattle.tl_coherence.specs.statement.Delivery.{levels_of}
use Rattle.tl_coherence.specs.statement.Flow.{taken_at}
unfoldable use Rattle.tl_coherence.specs.statement.Flow.{EachTaken, trace_of}
use Rattle.tl_coherence.specs.statement.Headline.{Continues, IsGiven}
use Rattle.tl_coherence.specs.statement.Log.{Log}
unfoldable use Rattle.tl_coherence.specs.statement.Log.{IsLog, system_after}
use Rattle.tl_coherence.specs.statement.Machine.{Machine, Open, Requests, is_client, is_word_op, pool_of, with_number}
unfoldable use Rattle.tl_coherence.specs.statement.OneMemory.{accesses_answered, one_memory_after}
unfoldable use Rattle.tl_coherence.specs.statement.Ranged.{AreRanged}
unfoldable use Rattle.tl_coherence.specs.statement.Step.{stepped}
use Rattle.tl_coherence.specs.statement.TrueReturns.{IsTrueReturn}
use Rattle.tl_coherence.proofs.bound.Settling.{given-before}
use Rattle.tl_coherence.proofs.flow.FlowTaken.{each-taken}
use Rattle.tl_coherence.proofs.flow.TrueReturn.{true_returns}
use Rattle.tl_coherence.proofs.memory.OneMemory.{remembered-ranged}
use Rattle.tl_coherence.proofs.queues.Phases.{trunk-some}
use Rattle.tl_coherence.proofs.theorem.Soundness.{one_memory}
use Rattle.tl_concord.proofs.Alike.{free-world, kept-world, links-few}
use Rattle.tl_concord.proofs.Told.{tells_of_memory}
use Rattle.tl_concord.specs.statement.Told.{IsToldOf}
use Rattle.tl_one_memory.specs.statement.Run.{Performs, Run, Stores, Takes, everywhere}
unfoldable use Rattle.tl_one_memory.specs.statement.Run.{IsRun, memory_in}
use Rattle.tl_true_bytes.proofs.Runs.{beside-log}
use Rattle.tl_true_bytes.proofs.WorldRuns.{run-of-log}
use Rattle.tl_true_bytes.specs.code.Beside.{IsBeside, after_access, happened, is_accessing, left_after, performed_all}
use Rattle.tl_true_bytes.specs.code.Beside.{with_end, with_reply}
unfoldable use Rattle.tl_true_bytes.specs.code.Beside.{run_of}
use Rattle.tl_commit_memory.specs.statement.CommitRun.{IsStored}
use Rattle.tl_commit_memory.specs.statement.KeptCopies.{HasByte, ShowsBlocks}
use Rattle.tl_schedule.proofs.DonePieces.{has-piece}
use Rattle.tl_schedule.specs.declared.whole.WholeStore.{WholeStore}
use Rattle.tl_schedule.specs.statement.Commits.{low_part, piece_at, store_granted}
use Rattle.tl_world_commits.proofs.Asked.{loads-held, stores-held}
use Rattle.tl_world_commits.proofs.Beats.{events-beats}
use Rattle.tl_world_commits.proofs.Bytes.{in-piece, loaded-is, small-byte, word-block}
use Rattle.tl_world_commits.proofs.Holding.{cached, holds-some, kept_of, may-store}
use Rattle.tl_world_commits.proofs.Probes.{asks-data, loses-none}
use Rattle.tl_world_commits.proofs.Reports.{IsMarked, copy-byte, links, marked, reports-rightly, zeros}
use Rattle.tl_world_commits.proofs.Runs.{run-before}
use Rattle.tl_world_commits.proofs.Steps.{HasSteps, changed-steps, from_word, loaded-steps, missing-as, no-steps, none}
use Rattle.tl_world_commits.proofs.Steps.{performed-steps, stored-steps, taken-steps, words-steps}
use Rattle.tl_world_commits.proofs.WholeBlocks.{HoldsWhole, client-few, ends-storing, granted-whole}
use Rattle.tl_world_commits.specs.statement.Unbroken.{complete_of}
use Rattle.tl_world_commits.specs.statement.WorldCommitRuns.{WorldCommitRuns}
unfoldable use Rattle.tl_world_commits.specs.statement.WorldEvents.{events_of, with_beats, with_commits}

-- a reply to an operation that is no Load or Store adds nothing to the run
reply-none : {w : ℕ} (op : Op w) (r : Reply) (memory : Memory) (run : Run w) → is_word_op op ≡ false
    → with_reply op r memory run ≡ run
reply-none op (Reply.Value v) memory run e = refl
reply-none op Reply.Miss memory run e = refl
reply-none op (Reply.Started source) memory run e = refl
reply-none op (Reply.Busy why) memory run e = refl
reply-none (Op.Acquire block grow) Reply.Stored memory run e = refl
reply-none (Op.AcquireWhole block bytes) Reply.Stored memory run e = refl
reply-none (Op.Release block prune) Reply.Stored memory run e = refl
reply-none (Op.Access m) Reply.Stored memory run e = refl
reply-none (Op.Load base size) Reply.Stored memory run e = refl
reply-none (Op.Store base size value) Reply.Stored memory run e = absurd cc

module _ {w : ℕ} (from_zero : Bool) (config : Config) where
  abbrev Steps : (ℕ → Bool) → Run w → Events w → Type 0
  Steps missing run e = HasSteps (levels_of config) (complete_of from_zero config) (links config) zeros missing run e

  abbrev Has : Run w → Events w → Type 0
  Has run e = Steps none run e

  -- accesses that are performed
  all-performed : (l : List (ℕ × ℕ)) (m : Machine w) (run : Run w) (e : Events w)
      → IsRun (links config) zeros (performed_all l m run) → Has run e → Has (performed_all l m run) e
  all-performed [] m run e is has = has
  all-performed (x ∷ l) m run e is has = all-performed l m _ e is
      (go (m.opened x.0 Requests x.1) (run-before (links config) zeros l m _ is))
    where
      go : (o : Option (Open w)) → IsRun (links config) zeros (after_access x.0 x.1 o m.memory run)
          → Has (after_access x.0 x.1 o m.memory run) e
      go None is' = has
      go (Some o) is' = by (is_accessing o.asked) is'
        where
          by : (b : Bool) → IsRun (links config) zeros (if b
              then Performs x.0 x.1 everywhere (left_after o.asked m.memory) ∷ run else run)
              → Has (if b then Performs x.0 x.1 everywhere (left_after o.asked m.memory) ∷ run else run) e
          by true i = performed-steps (levels_of config) (complete_of from_zero config) (links config) zeros x.0 x.1 everywhere
              (left_after o.asked m.memory) run e i has
          by false i = has

  -- ---- an entry of the log

  module _ (log : Log w) where
    abbrev m : Machine w
    m = one_memory_after config log

    abbrev run : Run w
    run = run_of config log

    -- ---- what was asked for

    -- a byte that an operation reaches is in its block
    in-block : (base size : ℕ) → is_word base size ≡ true → (a : ℕ) → reaches base size a ≡ true
        → block_at a ≡ block_at base
    in-block base size word a reached =
        let both = and_parts (nat_le base a) (nat_lt a (base + 2 ^ size)) reached in
        let from = leb-true base a both.0 in
        let to = ltb-true a (base + 2 ^ size) both.1 in
        let place : base + (a - base) ≡ a = omega (arith, from) in
        ap (λ (i : ℕ). block_at i) (sym place) ∙ word-block base size (a - base) word (omega (arith, from, to))

    store-asked : (c base size value : ℕ)
        → IsGiven config ((Ask c (Op.Store base size value), Outcome.Replied Reply.Stored) ∷ log)
        → IsRun (links config) zeros (Stores (block_at base) (with_number base size value m.memory) ∷ run)
        → Has run (events_of log) → Has (Stores (block_at base) (with_number base size value m.memory) ∷ run)
        ((record { 0 = c }, event.Commit (commit.Store (piece_at base size) (low_part size value))) ∷ events_of log)
    unfolding IsLog memory_in
    store-asked c base size value given is has =
        missing-as (levels_of config) (complete_of from_zero config) (links config) zeros
        (λ a. reaches base size a && not (reaches base size a)) none stores
        ((record { 0 = c }, event.Commit (commit.Store (piece_at base size) (low_part size value))) ∷ events_of log)
        (λ a e. never (reaches base size a))
        (stored-steps (levels_of config) (complete_of from_zero config) (links config) zeros (reaches base size)
        (record { 0 = c }) (piece_at base size) (low_part size value) stores (events_of log) stored may
        (cached config log before c (block_at base) (trunk-some (kept_of config log c (block_at base)).held
        (ap (λ (p : Perm). same_perm p Perm.Trunk) own.1)))
        (changed-steps (levels_of config) (complete_of from_zero config) (links config) zeros (reaches base size) (block_at base)
        (with_number base size value m.memory) run (events_of log) is
        (λ a missed. inr (rw missed (ap (λ (f : Memory). f a) (sym (beside-log config log before).memory_is)))) has))
      where
        stores : Run w
        stores = Stores (block_at base) (with_number base size value m.memory) ∷ run

        before : IsGiven config log
        before = given-before config _ log given

        never : (b : Bool) → b && not b ≡ false
        never true = refl
        never false = refl

        word : is_word base size ≡ true
        word = has-piece config (Ask c (Op.Store base size value)) (system_after config log)
            (Outcome.Replied Reply.Stored) given.is_log.0

        own : (c < links config) × ((kept_of config log c (block_at base)).held ≡ Perm.Trunk)
        own = stores-held config log before c base size value (sym given.is_log.0)

        may : may_store (block_at base) (link_beats c (events_of log)) ≡ true
        may = ap (λ (u : Trace w). may_store (block_at base) (on_link c u)) (events-beats log)
            ∙ may-store config log before c (block_at base) own.0 own.1

        stored : (a : ℕ) → reaches base size a ≡ true
            → IsStored zeros a (byte_in (piece_at base size) (low_part size value) a) stores
        stored a reached = record {
          behind = eq-eqb (block_at base) (block_at a) (sym (in-block base size word a reached));
          stored = rw (eq-eqb (block_at a) (block_at base) (in-block base size word a reached), reached)
              (sym (in-piece base size value a reached));
        }

    load-asked : (c base size value : ℕ)
        → IsGiven config ((Ask c (Op.Load base size), Outcome.Replied (Reply.Value value)) ∷ log) → AreRanged log
        → Has run (events_of log) → Has run
        ((record { 0 = c }, event.Commit (commit.Load (piece_at base size) (low_part size value))) ∷ events_of log)
    unfolding IsLog memory_in
    load-asked c base size value given ranged has =
        loaded-steps (levels_of config) (complete_of from_zero config) (links config) zeros (record { 0 = c })
        (piece_at base size) (low_part size value) run (events_of log)
        (λ a reached. ap (λ (f : Memory). f a) (beside-log config log before).memory_is ∙ sym (byte a reached))
        (λ steps run_is events_are recorded a reached. subst
        (λ (v : ℕ). HasByte (complete_of from_zero config) (links config) zeros c a v steps) (sym (byte a reached))
        (copy-byte from_zero config log before c own.0 steps run_is events_are (λ address. recorded address refl) a
        (ap (λ (b : ℕ). same_perm (may_hold b (on_link c (trace_of log))) Perm.None)
        (in-block base size word a reached) ∙ holds-some config log before c (block_at base) own.0 own.1)))
        (cached config log before c (block_at base) own.1) has
      where
        before : IsGiven config log
        before = given-before config _ log given

        word : is_word base size ≡ true
        word = has-piece config (Ask c (Op.Load base size)) (system_after config log)
            (Outcome.Replied (Reply.Value value)) given.is_log.0

        own : (c < links config) × (same_perm (kept_of config log c (block_at base)).held Perm.None ≡ false)
        own = loads-held config log before c base size value (sym given.is_log.0)

        continues : Continues config (Ask c (Op.Load base size), Outcome.Replied (Reply.Value value)) log
        continues = (one_memory config log before).1
            (Ask c (Op.Load base size), Outcome.Replied (Reply.Value value)) tt given.is_log

        byte : (a : ℕ) → reaches base size a ≡ true
            → byte_in (piece_at base size) (low_part size value) a ≡ m.memory a
        byte a reached = ap (λ (n : ℕ). byte_of (n % 2 ^ (8 * 2 ^ size)) (a - base)) continues.2.1
            ∙ loaded-is m.memory base size a (remembered-ranged config log ranged).memory reached

    asked-steps : (c : ℕ) (op : Op w) (r : Reply) → IsGiven config ((Ask c op, Outcome.Replied r) ∷ log)
        → AreRanged log → IsRun (links config) zeros (with_reply op r m.memory run) → Has run (events_of log)
        → Has (with_reply op r m.memory run) (events_of ((Ask c op, Outcome.Replied r) ∷ log))
    unfolding events_of with_beats with_commits
    asked-steps c (Op.Store base size value) Reply.Stored given ranged is has =
        store-asked c base size value given is has
    asked-steps c (Op.Load base size) (Reply.Value value) given ranged is has =
        load-asked c base size value given ranged has
    asked-steps c (Op.Store base size value) (Reply.Value u) given ranged is has = has
    asked-steps c (Op.Store base size value) Reply.Miss given ranged is has = has
    asked-steps c (Op.Store base size value) (Reply.Started n) given ranged is has = has
    asked-steps c (Op.Store base size value) (Reply.Busy why) given ranged is has = has
    asked-steps c (Op.Load base size) Reply.Stored given ranged is has = has
    asked-steps c (Op.Load base size) Reply.Miss given ranged is has = has
    asked-steps c (Op.Load base size) (Reply.Started n) given ranged is has = has
    asked-steps c (Op.Load base size) (Reply.Busy why) given ranged is has = has
    asked-steps c (Op.Acquire block grow) r given ranged is has =
        subst (λ (u : Run w). Has u (events_of log)) (sym (reply-none (Op.Acquire block grow) r m.memory run refl)) has
    asked-steps c (Op.AcquireWhole block bytes) r given ranged is has = subst (λ (u : Run w). Has u (events_of log))
        (sym (reply-none (Op.AcquireWhole block bytes) r m.memory run refl)) has
    asked-steps c (Op.Release block prune) r given ranged is has = subst (λ (u : Run w). Has u (events_of log))
        (sym (reply-none (Op.Release block prune) r m.memory run refl)) has
    asked-steps c (Op.Access i) r given ranged is has =
        subst (λ (u : Run w). Has u (events_of log)) (sym (reply-none (Op.Access i) r m.memory run refl)) has

    -- ---- a beat that was taken

    taken : (link : Link) (ch : Channel) (y : Beat w) (o : Outcome w) → IsGiven config ((Deliver link ch, o) ∷ log)
        → taken_at (Deliver link ch) o ≡ (link, y) ∷ [] → IsToldOf m.memory link.0 y (trace_of log)
        → IsMarked config log link.0 y → IsTrueReturn m.memory link.0 y (trace_of log)
        → is_client config link.0 ≡ true → IsRun (links config) zeros (Takes link y ∷ run) → Has run (events_of log)
        → Has (Takes link y ∷ run) ((link, event.Beat y) ∷ events_of log)
    unfolding trace_of
    taken link ch y o given took told is returns known takes has =
        taken-steps (levels_of config) (complete_of from_zero config) (links config) zeros link y run (events_of log) takes
        (subst (λ (u : Trace w). ShowsBlocks (links config) link y u) (sym beside.trace_is) shows)
        (λ address. subst (λ (u : Trace w). tells (block_at address) y (on_link link.0 u) ≡ true
        → could_be (memory_in zeros run address) (carried_byte (telling_beats y (on_link link.0 u)) (address % 64))
        ≡ true) (sym beside.trace_is) (λ e. ap (λ (f : Memory). could_be (f address)
        (carried_byte (telling_beats y (on_link link.0 (trace_of log))) (address % 64))) beside.memory_is
        ∙ told.told address e))
        (λ steps run_is events_are recorded whole. reports-rightly from_zero config log before link.0
        (client-few config link.0 known) steps run_is events_are (λ address. recorded address refl) link y refl
        (subst (λ (u : Trace w). KeepRules (liberties_of config.profile) (levels_of config) (u ++ trace_of log)) took
        (kept-world ((Deliver link ch, o) ∷ log) given)) is returns) has
      where
        before : IsGiven config log
        before = given-before config _ log given

        beside : IsBeside run m (trace_of log)
        beside = beside-log config log before

        after : (p : Perm) (block : ℕ) → is_free (links config) p block ((link, y) ∷ trace_of log)
            ≡ windows.is_free (links config) None p block ((link, y) ∷ trace_of log)
        after p block = subst (λ (u : Trace w). is_free (links config) p block (u ++ trace_of log)
            ≡ windows.is_free (links config) None p block (u ++ trace_of log)) took
            (free-world ((Deliver link ch, o) ∷ log) given (links config) p block (links-few config))

        shows : ShowsBlocks (links config) link y (trace_of log)
        shows = record {
          got = λ block free held. told.got_told (links config) block
              (sym (free-world log before (links config) Perm.Trunk block (links-few config)) ∙ free)
              (sym (after Perm.Trunk block) ∙ held);
          lost = λ block lost. absurd (let no : true ≡ false = sym lost
              ∙ loses-none block y (on_link link.0 (trace_of log)) (asks-data config log before link.0 block) in cc);
        }

    -- an operation ends with it
    whole-holds : (link : Link) (ch : Channel) (y : Beat w) (source : ℕ) (f : Finish) (store : WholeStore)
        → IsGiven config ((Deliver link ch, Outcome.Done y source f) ∷ log)
        → store_granted log (Deliver link ch) (Outcome.Done y source f) ≡ Some store
        → HoldsWhole config ((Deliver link ch, Outcome.Done y source f) ∷ log) link store
    whole-holds link ch y source (Finish.Granted p) store given e =
        granted-whole config log link ch y source p given store e
    whole-holds link ch y source Finish.Ack store given e = absurd cc
    whole-holds link ch y source Finish.Hint store given e = absurd cc
    whole-holds link ch y source (Finish.Data size bytes) store given e = absurd cc
    whole-holds link ch y source Finish.Released store given e = absurd cc

    done-steps : (link : Link) (ch : Channel) (y : Beat w) (source : ℕ) (f : Finish)
        → IsGiven config ((Deliver link ch, Outcome.Done y source f) ∷ log) → AreRanged log
        → IsRun (links config) zeros (with_end (m.opened link.0 (pool_of f) source) m.memory (Takes link y ∷ run))
        → (IsRun (links config) zeros (Takes link y ∷ run) → Has (Takes link y ∷ run)
        ((link, event.Beat y) ∷ events_of log))
        → Has (with_end (m.opened link.0 (pool_of f) source) m.memory (Takes link y ∷ run))
        (events_of ((Deliver link ch, Outcome.Done y source f) ∷ log))
    unfolding events_of with_beats with_commits memory_in IsRun trace_of beats_of
    done-steps link ch y source f given ranged is has = elim (ends-storing config log link ch y source f given ranged) [
      | inl unstored ↦ rw (unstored.0, unstored.2 (Takes link y ∷ run))
          (has (rw (unstored.2 (Takes link y ∷ run)) at is))
      | inr some ↦
          let stores : IsRun (links config) zeros (Stores some.0.block (with_block some.0.block some.0.bytes m.memory)
          ∷ Takes link y ∷ run) = rw (some.5 (Takes link y ∷ run)) at is in
          let own = whole-holds link ch y source f some.0 given some.1 in
          let all : Log w = (Deliver link ch, Outcome.Done y source f) ∷ log in
          rw (some.1, some.5 (Takes link y ∷ run)) (words-steps (levels_of config) (complete_of from_zero config) (links config)
          zeros link some.0
          (Stores some.0.block (with_block some.0.block some.0.bytes m.memory) ∷ Takes link y ∷ run)
          (eq-eqb some.0.block some.0.block refl) some.3 (small-byte some.0.bytes some.4)
          (λ a here. rw (eq-eqb (block_at a) some.0.block here) refl)
          (cached config all given link.0 some.0.block (trunk-some (kept_of config all link.0 some.0.block).held
          (ap (λ (p : Perm). same_perm p Perm.Trunk) own.trunk)))
          0 8 ((link, event.Beat y) ∷ events_of log) refl
          (ap (λ (u : Trace w). may_store some.0.block (on_link link.0 ((link, y) ∷ u))) (events-beats log)
          ∙ may-store config all given link.0 some.0.block own.client own.trunk)
          (changed-steps (levels_of config) (complete_of from_zero config) (links config) zeros (from_word some.0.block 0)
          some.0.block (with_block some.0.block some.0.bytes m.memory) (Takes link y ∷ run)
          ((link, event.Beat y) ∷ events_of log) stores
          (λ a apart. inl (beside (block_at a == some.0.block) (nat_le 0 (a % 64)) (le-leb 0 (a % 64) (omega arith))
          apart)) (has stores.1)))
    ]
      where
        beside : (a b : Bool) → b ≡ true → a && b ≡ false → a ≡ false
        beside false b e f = refl
        beside true b e f = sym (absurd (let no : true ≡ false = sym e ∙ f in cc))

    entry-steps : (x : Event w) (o : Outcome w) → IsGiven config ((x, o) ∷ log) → AreRanged log
        → IsRun (links config) zeros (happened x o m run) → Has run (events_of log)
        → Has (happened x o m run) (events_of ((x, o) ∷ log))
    unfolding IsLog EachTaken events_of with_beats with_commits
    entry-steps (Ask c op) (Outcome.Replied r) given ranged is has = asked-steps c op r given ranged is has
    entry-steps (Deliver link ch) (Outcome.Moved y) given ranged is has =
        let all : Log w = (Deliver link ch, Outcome.Moved y) ∷ log in
        let continues = (one_memory config log (given-before config _ log given)).1 (Deliver link ch, Outcome.Moved y)
        tt given.is_log in
        taken link ch y (Outcome.Moved y) given refl (tells_of_memory config all given).0
        (each-taken config (IsMarked config) (marked config) all given).0 (true_returns config all given).0
        continues.2.0 is has
    entry-steps (Deliver link ch) (Outcome.Done y source f) given ranged is has =
        let all : Log w = (Deliver link ch, Outcome.Done y source f) ∷ log in
        let continues = (one_memory config log (given-before config _ log given)).1
        (Deliver link ch, Outcome.Done y source f) tt given.is_log in
        done-steps link ch y source f given ranged is (λ takes. taken link ch y (Outcome.Done y source f) given refl
        (tells_of_memory config all given).0 (each-taken config (IsMarked config) (marked config) all given).0
        (true_returns config all given).0 continues.2.0 takes has)
    entry-steps (Deliver link ch) (Outcome.Replied r) given ranged is has = has
    entry-steps (Deliver link ch) Outcome.Empty given ranged is has = has
    entry-steps (Deliver link ch) Outcome.Stalled given ranged is has = has
    entry-steps (Deliver link ch) Outcome.NoSuchClient given ranged is has = has
    entry-steps (Ask c op) Outcome.Empty given ranged is has = has
    entry-steps (Ask c op) Outcome.Stalled given ranged is has = has
    entry-steps (Ask c op) (Outcome.Moved y) given ranged is has = has
    entry-steps (Ask c op) (Outcome.Done y source f) given ranged is has = has
    entry-steps (Ask c op) Outcome.NoSuchClient given ranged is has = has

-- ---- the whole log

pub world-steps : {w : ℕ} (from_zero : Bool) (config : Config) (log : Log w) → IsGiven config log → AreRanged log
    → HasSteps (levels_of config) (complete_of from_zero config) (links config) zeros none (run_of config log)
    (events_of log)
unfolding AreRanged run_of events_of
world-steps from_zero config [] given ranged = no-steps (levels_of config) (complete_of from_zero config) (links config) zeros
world-steps {w} from_zero config (x ∷ log) given ranged =
    all-performed from_zero config l (one_memory_after config log) (happened x.0 x.1 (one_memory_after config log)
    (run_of config log)) (events_of (x ∷ log)) (run-of-log config (x ∷ log) given)
    (entry-steps from_zero config log x.0 x.1 given ranged.1
    (run-before (links config) zeros l (one_memory_after config log) _ (run-of-log config (x ∷ log) given))
    (world-steps from_zero config log (given-before config x log given) ranged.1))
  where
    l : List (ℕ × ℕ)
    l = accesses_answered (stepped config x.0 (system_after config log)).handed

pub world_commit_runs : {w : ℕ} → WorldCommitRuns w
world_commit_runs config log given ranged =
    let has = world-steps true config log given ranged in
    record {
      run = has.steps;
      is_run = has.is_run;
      copies = has.copies;
      events_are = has.events_are;
      memory_is = ap (λ (r : Run _). memory_in zeros r) has.run_is ∙ (beside-log config log given).memory_is;
    }
