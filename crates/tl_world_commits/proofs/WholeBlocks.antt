-- Who stores a whole block holds Trunk of it when the Grant is complete.
use Rattle.std.proofs.Common.{◌≡◌, ℕ, ◌<◌, Bool, true, false, ◌==◌, ◌&&◌, List, [], ◌∷◌, length, refl, sym, ◌∙◌, ap}
use Rattle.std.proofs.Common.{◌⊎◌, inl, inr, subst, None, Some}
use Rattle.std.specs.Prelude.{Option, option_map, if◌then◌else◌, is_some}
use Rattle.tl_beat.specs.declared.beat.Beat.{Beat}
use Rattle.tl_beat.specs.declared.beat.Link.{Link}
use Rattle.tl_beat.specs.declared.channel.Channel.{Channel}
use Rattle.tl_params.specs.declared.config.Config.{Config}
use Rattle.tl_params.specs.declared.perm.Perm.{Perm}
use Rattle.tl_rules.specs.statement.Effect.{AccessResult, Memory}
use Rattle.tl_manager.specs.statement.Reaction.{with_block}
use Rattle.tl_client.specs.declared.operation.Op.{Op}
use Rattle.tl_client.specs.declared.reply.Reply.{Reply}
use Rattle.tl_client.specs.declared.verdict.Finish.{Finish}
use Rattle.tl_client.specs.statement.Endpoint.{EndConfig}
use Rattle.tl_coherence.specs.declared.event.Event.{Event}
use Rattle.tl_coherence.specs.declared.event.Event.TheVariants.{Ask, Deliver}
use Rattle.tl_coherence.specs.declared.event.Outcome.{Outcome}
use Rattle.tl_coherence.specs.statement.Coherent.{started_at}
unfoldable use Rattle.tl_coherence.specs.statement.Coherent.{started}
use Rattle.tl_coherence.specs.statement.Headline.{Continues, IsGiven, IsTyped, IsTypedOp}
use Rattle.tl_coherence.specs.statement.Log.{Log}
unfoldable use Rattle.tl_coherence.specs.statement.Log.{IsLog}
unfoldable use Rattle.tl_coherence.specs.statement.Headline.{AreTyped}
use Rattle.tl_coherence.specs.statement.Machine.{Machine, Open, Ends, EndsOp, Pool}
use Rattle.tl_coherence.specs.statement.Machine.{Requests, after_end, is_client, is_word_op}
use Rattle.tl_coherence.specs.statement.Machine.{memory_after, moved, pool_of, pool_of_op}
use Rattle.tl_coherence.specs.statement.Ranged.{AreBytes, IsRanged, IsRangedOp}
unfoldable use Rattle.tl_coherence.specs.statement.Ranged.{AreRanged}
use Rattle.tl_coherence.specs.statement.Machine.{same_pool}
unfoldable use Rattle.tl_coherence.specs.statement.OneMemory.{one_memory_after}
use Rattle.tl_coherence.specs.statement.System.{terms_at}
use Rattle.tl_coherence.proofs.bound.Settling.{given-before}
use Rattle.tl_coherence.proofs.links.FromInvariant.{coherent, grants, matched-given}
use Rattle.tl_coherence.proofs.queues.QuiescentQueues.{client_below}
use Rattle.tl_coherence.proofs.theorem.Soundness.{one_memory}
use Rattle.tl_concord.proofs.WholeStores.{allowed_ends}
use Rattle.tl_one_memory.specs.statement.Run.{Run, Stores}
use Rattle.tl_true_bytes.specs.code.Beside.{with_end, with_whole}
use Rattle.tl_schedule.specs.declared.whole.WholeStore.{WholeStore}
use Rattle.tl_schedule.specs.statement.Commits.{begun_by, begun_in, in_place, requested, store_granted}
unfoldable use Rattle.tl_schedule.specs.statement.Commits.{store_begun}
use Rattle.tl_world_commits.proofs.Holding.{kept_of}

-- ---- the store of an open request is that with which it began

none-begun : (client : ℕ) (o : Option (Option WholeStore)) → begun_by client o None ≡ None
none-begun client None = refl
none-begun client (Some store) = refl

-- a word isn't started
unstarted : {w : ℕ} (config : Config) (client : ℕ) (op : Op w) (source : ℕ) (log : Log w)
    → Continues config (Ask client op, Outcome.Replied (Reply.Started source)) log → is_word_op op ≡ false
unstarted config client (Op.Load address size) source log (next, accesses, is, performs) = absurd (word is.1.0)
  where
    word : true ≡ false → ⊥
    word e = cc
unstarted config client (Op.Store address size value) source log (next, accesses, is, performs) = absurd (word is.1.0)
  where
    word : true ≡ false → ⊥
    word e = cc
unstarted config client op source log continues = refl

same-op : {w : ℕ} (p q : Op w) → Some p ≡ Some q → p ≡ q
same-op p q e = cc

module _ {w : ℕ} (c source : ℕ) where
  -- the request that is open began with the store that is remembered
  abbrev IsBegun : Option (Op w) → Option WholeStore → Type 0
  IsBegun o store = (op : Op w) → o ≡ Some op → requested op ≡ Some store

  -- a request that starts with a source
  request-begun : (client n : ℕ) (op : Op w) (store : Option WholeStore) (o : Option (Op w))
      (before : Option WholeStore)
      → requested op ≡ Some store → same_pool (pool_of_op op) Requests ≡ true → IsBegun o before
      → IsBegun (if (client == c) && (same_pool (pool_of_op op) Requests && (n == source)) then Some op else o)
      (in_place c source (begun_by client (requested op) (Some n)) before)
  request-begun client n op store o before requests pool is = rw (requests, pool) (go (client == c) (n == source))
    where
      go : (a b : Bool) → IsBegun (if a && b then Some op else o) (if a && b then store else before)
      go true true i e = ap requested (sym (same-op op i e)) ∙ requests
      go true false i e = is i e
      go false b i e = is i e

  replied-begun : (client : ℕ) (op : Op w) (r : Reply) (o : Option (Op w)) (before : Option WholeStore)
      → ((n : ℕ) → r ≡ Reply.Started n → is_word_op op ≡ false) → IsBegun o before
      → IsBegun (started_at (Ask client op) (Outcome.Replied r) c Requests source o)
      (in_place c source (begun_in (Ask client op) (Outcome.Replied r)) before)
  replied-begun client (Op.Acquire block grow) (Reply.Started n) o before words is =
      request-begun client n (Op.Acquire block grow) None o before refl refl is
  replied-begun client (Op.AcquireWhole block bytes) (Reply.Started n) o before words is =
      request-begun client n (Op.AcquireWhole block bytes) (Some (record { block = block; bytes = bytes })) o before
      refl
      refl is
  replied-begun client (Op.Access m) (Reply.Started n) o before words is =
      request-begun client n (Op.Access m) None o before refl refl is
  replied-begun client (Op.Release block prune) (Reply.Started n) o before words is = go (client == c)
    where
      go : (a : Bool) → IsBegun (if a && false then Some (Op.Release block prune) else o) before
      go true i e = is i e
      go false i e = is i e
  replied-begun client (Op.Load address size) (Reply.Started n) o before words is = absurd (no (words n refl))
    where
      no : true ≡ false → ⊥
      no e = cc
  replied-begun client (Op.Store address size value) (Reply.Started n) o before words is = absurd (no (words n refl))
    where
      no : true ≡ false → ⊥
      no e = cc
  replied-begun client op (Reply.Value v) o before words is = rw (none-begun client (requested op)) is
  replied-begun client op Reply.Stored o before words is = rw (none-begun client (requested op)) is
  replied-begun client op Reply.Miss o before words is = rw (none-begun client (requested op)) is
  replied-begun client op (Reply.Busy why) o before words is = rw (none-begun client (requested op)) is

  ended-begun : (a : Bool) (o : Option (Op w)) (before : Option WholeStore) → IsBegun o before
      → IsBegun (if a then None else o) before
  ended-begun true o before is i e = absurd cc
  ended-begun false o before is i e = is i e

  step-begun : (config : Config) (event : Event w) (o : Outcome w) (log : Log w) → Continues config (event, o) log
      → IsBegun (started c Requests source log) (store_begun c source log)
      → IsBegun (started c Requests source ((event, o) ∷ log)) (store_begun c source ((event, o) ∷ log))
  unfolding started store_begun
  step-begun config (Ask client op) (Outcome.Replied r) log continues is = replied-begun client op r _ _
      (λ n e. unstarted config client op n log
      (subst (λ (i : Reply). Continues config (Ask client op, Outcome.Replied i) log) e continues)) is
  step-begun config (Deliver link ch) (Outcome.Done x n f) log continues is =
      ended-begun ((link.0 == c) && (same_pool (pool_of f) Requests && (n == source))) _ _ is
  step-begun config (Ask client op) Outcome.Empty log continues is = is
  step-begun config (Ask client op) Outcome.Stalled log continues is = is
  step-begun config (Ask client op) (Outcome.Moved x) log continues is = is
  step-begun config (Ask client op) (Outcome.Done x n f) log continues is = is
  step-begun config (Ask client op) Outcome.NoSuchClient log continues is = is
  step-begun config (Deliver link ch) (Outcome.Replied r) log continues is = is
  step-begun config (Deliver link ch) Outcome.Empty log continues is = is
  step-begun config (Deliver link ch) Outcome.Stalled log continues is = is
  step-begun config (Deliver link ch) (Outcome.Moved x) log continues is = is
  step-begun config (Deliver link ch) Outcome.NoSuchClient log continues is = is

  begun : (config : Config) (log : Log w) → IsGiven config log
      → IsBegun (started c Requests source log) (store_begun c source log)
  unfolding started store_begun AreTyped IsLog
  begun config [] given op e = absurd cc
  begun config (x ∷ log) given op e = step-begun config x.0 x.1 log
      ((one_memory config log (given-before config x log given)).1 x given.typed.0 given.is_log)
      (begun config log (given-before config x log given)) op e

-- a client is one of those of the configuration
pub client-few : (config : Config) (c : ℕ) → is_client config c ≡ true → c < length config.clients.items
client-few config c known = go (terms_at config c) refl known
  where
    go : (o : Option EndConfig) → terms_at config c ≡ o → is_some o ≡ true → c < length config.clients.items
    go (Some terms) e some = client_below config c terms e
    go None e some = absurd cc

-- ---- the Grant of a whole block

pub record HoldsWhole {w : ℕ} (config : Config) (after : Log w) (link : Link) (store : WholeStore) : Type 0 where
  pub client : link.0 < length config.clients.items
  pub trunk : (kept_of config after link.0 store.block).held ≡ Perm.Trunk

whole-op : {w : ℕ} (op : Op w) (store : WholeStore) → requested op ≡ Some (Some store)
    → (bytes : List ℕ) × (op ≡ Op.AcquireWhole store.block bytes)
whole-op (Op.AcquireWhole block bytes) store e =
    let same : block ≡ store.block = cc in
    (bytes, ap (λ n. Op.AcquireWhole n bytes) same)
whole-op (Op.Acquire block grow) store e = absurd cc
whole-op (Op.Access m) store e = absurd cc
whole-op (Op.Release block prune) store e = absurd cc
whole-op (Op.Load address size) store e = absurd cc
whole-op (Op.Store address size value) store e = absurd cc

module _ {w : ℕ} (config : Config) (log : Log w) (link : Link) (ch : Channel) (x : Beat w) (source : ℕ) (p : Perm)
    (given : IsGiven config ((Deliver link ch, Outcome.Done x source (Finish.Granted p)) ∷ log)) where
  abbrev event : Event w × Outcome w
  event = (Deliver link ch, Outcome.Done x source (Finish.Granted p))

  earlier : IsGiven config log
  earlier = given-before config event log given

  continues : Continues config event log
  continues = (one_memory config log earlier).1 event tt given.is_log

  known : is_client config link.0 ≡ true
  known = continues.2.0

  ends : Ends ((one_memory_after config log).opened link.0 Requests source) x (Finish.Granted p)
  ends = allowed_ends link ch x source (Finish.Granted p) (one_memory_after config log) continues.2.1

  pub granted-whole : (store : WholeStore) → store_begun link.0 source log ≡ Some store
      → HoldsWhole config (event ∷ log) link store
  granted-whole store is = go ((one_memory_after config log).opened link.0 Requests source) refl ends
    where
      go : (o : Option (Open w)) → (one_memory_after config log).opened link.0 Requests source ≡ o
          → Ends o x (Finish.Granted p) → HoldsWhole config (event ∷ log) link store
      go None e end = absurd end
      go (Some o) e end = record { client = client-few config link.0 known; trunk = trunk }
        where
          was_started : started link.0 Requests source log ≡ Some o.asked
          was_started = sym ((coherent config log earlier).opened link.0 Requests source)
              ∙ ap (option_map (λ i. i.asked)) e

          whole : (bytes : List ℕ) × (o.asked ≡ Op.AcquireWhole store.block bytes)
          whole = whole-op o.asked store (begun link.0 source config log earlier o.asked was_started
              ∙ ap (λ i. Some i) is)

          as_whole : started link.0 Requests source log ≡ Some (Op.AcquireWhole store.block whole.0)
          as_whole = was_started ∙ ap (λ i. Some i) whole.1

          to_trunk : (i : Op w) (bytes : List ℕ) → i ≡ Op.AcquireWhole store.block bytes
              → Ends (Some (record { asked = i; answer = o.answer })) x (Finish.Granted p) → p ≡ Perm.Trunk
          to_trunk i bytes e ends' = granted (rw e at ends')
            where
              granted : Finish.Granted p ≡ Finish.Granted Perm.Trunk → p ≡ Perm.Trunk
              granted f = cc

          trunk : (kept_of config (event ∷ log) link.0 store.block).held ≡ Perm.Trunk
          trunk = sym (((matched-given config (event ∷ log) given).known link.0).held_is store.block)
              ∙ grants config log link ch x source p (Op.AcquireWhole store.block whole.0) given as_whole
              ∙ to_trunk o.asked whole.0 whole.1 end

-- ---- the data of an open request are bytes of a block

module _ {w : ℕ} (c source : ℕ) where
  abbrev HasData : Option (Op w) → Type 0
  HasData o = (op : Op w) → o ≡ Some op → IsTypedOp op × IsRangedOp op

  asked-data : (client : ℕ) (op : Op w) (r : Reply) (o : Option (Op w)) → IsTypedOp op → IsRangedOp op → HasData o
      → HasData (started_at (Ask client op) (Outcome.Replied r) c Requests source o)
  asked-data client op (Reply.Started n) o typed ranged has = go ((client == c) && (same_pool (pool_of_op op) Requests
      && (n == source)))
    where
      go : (b : Bool) → HasData (if b then Some op else o)
      go true i e = subst (λ (j : Op w). IsTypedOp j × IsRangedOp j) (same-op op i e) (typed, ranged)
      go false i e = has i e
  asked-data client op (Reply.Value v) o typed ranged has = has
  asked-data client op Reply.Stored o typed ranged has = has
  asked-data client op Reply.Miss o typed ranged has = has
  asked-data client op (Reply.Busy why) o typed ranged has = has

  ended-data : (a : Bool) (o : Option (Op w)) → HasData o → HasData (if a then None else o)
  ended-data true o has i e = absurd cc
  ended-data false o has i e = has i e

  event-data : (event : Event w) (o : Outcome w) (log : Log w) → IsTyped event → IsRanged event
      → HasData (started c Requests source log) → HasData (started c Requests source ((event, o) ∷ log))
  unfolding started
  event-data (Ask client op) (Outcome.Replied r) log typed ranged has = asked-data client op r _ typed ranged has
  event-data (Deliver link ch) (Outcome.Done x n f) log typed ranged has =
      ended-data ((link.0 == c) && (same_pool (pool_of f) Requests && (n == source))) _ has
  event-data (Ask client op) Outcome.Empty log typed ranged has = has
  event-data (Ask client op) Outcome.Stalled log typed ranged has = has
  event-data (Ask client op) (Outcome.Moved x) log typed ranged has = has
  event-data (Ask client op) (Outcome.Done x n f) log typed ranged has = has
  event-data (Ask client op) Outcome.NoSuchClient log typed ranged has = has
  event-data (Deliver link ch) (Outcome.Replied r) log typed ranged has = has
  event-data (Deliver link ch) Outcome.Empty log typed ranged has = has
  event-data (Deliver link ch) Outcome.Stalled log typed ranged has = has
  event-data (Deliver link ch) (Outcome.Moved x) log typed ranged has = has
  event-data (Deliver link ch) Outcome.NoSuchClient log typed ranged has = has

  started-data : (log : Log w) → AreTyped log → AreRanged log → HasData (started c Requests source log)
  unfolding started AreTyped AreRanged
  started-data [] typed ranged op e = absurd cc
  started-data (x ∷ log) typed ranged op e =
      event-data x.0 x.1 log typed.0 ranged.0 (started-data log typed.1 ranged.1) op e

-- ---- the memory after an operation ended

-- as its operation ends, a client stores nothing, or a whole block, in the memory and in the run beside it
abbrev pub EndsStoring : {w : ℕ} → Option WholeStore → Memory → Memory → (Run w → Run w) → Type 0
EndsStoring {w} store memory after ended = ((store ≡ None) × (after ≡ memory) × ((run : Run w) → ended run ≡ run))
    ⊎ ((whole : WholeStore) × (store ≡ Some whole) × (after ≡ with_block whole.block whole.bytes memory)
    × (length whole.bytes ≡ 64) × AreBytes whole.bytes
    × ((run : Run w) → ended run ≡ Stores whole.block (with_block whole.block whole.bytes memory) ∷ run))

same-store : (a b : Option WholeStore) → Some a ≡ Some b → b ≡ a
same-store a b e = cc

module _ {w : ℕ} (config : Config) (log : Log w) (link : Link) (ch : Channel) (x : Beat w) (source : ℕ) (f : Finish)
    (given : IsGiven config ((Deliver link ch, Outcome.Done x source f) ∷ log)) (ranged : AreRanged log) where
  abbrev m : Machine w
  m = one_memory_after config log

  before : IsGiven config log
  before = given-before config (Deliver link ch, Outcome.Done x source f) log given

  finished : Continues config (Deliver link ch, Outcome.Done x source f) log
  finished = (one_memory config log before).1 (Deliver link ch, Outcome.Done x source f) tt given.is_log

  granted-stores : (op : Op w) (store : Option WholeStore) → requested op ≡ Some store → IsTypedOp op × IsRangedOp op
      → EndsStoring store m.memory (memory_after op m.memory) (λ run. with_whole op m.memory run)
  granted-stores (Op.AcquireWhole block bytes) store e typed =
      inr (
        record { block = block; bytes = bytes },
        same-store _ store e,
        refl,
        typed.0,
        typed.1,
        λ run. refl,
      )
  granted-stores (Op.Acquire block grow) store e typed = inl (same-store None store e, refl, λ run. refl)
  granted-stores (Op.Access i) store e typed = inl (same-store None store e, refl, λ run. refl)
  granted-stores (Op.Release block prune) store e typed = absurd cc
  granted-stores (Op.Load address size) store e typed = absurd cc
  granted-stores (Op.Store address size value) store e typed = absurd cc

  -- an end that is no Grant
  plain : (op : Op w) (answer : Option AccessResult) (g : Finish) → EndsOp op answer x g
      → (g ≡ Finish.Granted Perm.Trunk → ⊥)
      → (memory_after op m.memory ≡ m.memory) × ((run : Run w) → with_whole op m.memory run ≡ run)
  plain (Op.AcquireWhole block bytes) answer g end never = absurd (never end)
  plain (Op.Acquire block grow) answer g end never = (refl, λ run. refl)
  plain (Op.Access i) answer g end never = (refl, λ run. refl)
  plain (Op.Release block prune) answer g end never = (refl, λ run. refl)
  plain (Op.Load address size) answer g end never = (refl, λ run. refl)
  plain (Op.Store address size value) answer g end never = (refl, λ run. refl)

  unstored : (op : Op w) → (memory_after op m.memory ≡ m.memory) × ((run : Run w) → with_whole op m.memory run ≡ run)
      → EndsStoring None m.memory (memory_after op m.memory) (λ run. with_whole op m.memory run)
  unstored op is = inl (refl, is.0, is.1)

  pub ends-storing : EndsStoring (store_granted log (Deliver link ch) (Outcome.Done x source f)) m.memory
      (moved (Deliver link ch) (Outcome.Done x source f) m).memory
      (λ run. with_end (m.opened link.0 (pool_of f) source) m.memory run)
  ends-storing = go f refl (m.opened link.0 (pool_of f) source) refl
      (allowed_ends link ch x source f m finished.2.1)
    where
      at-grant : (p : Perm) → f ≡ Finish.Granted p → (i : Open w) → m.opened link.0 (pool_of f) source ≡ Some i
          → EndsStoring (store_begun link.0 source log) m.memory (memory_after i.asked m.memory)
          (λ run. with_whole i.asked m.memory run)
      at-grant p e i opened =
          granted-stores i.asked (store_begun link.0 source log)
          (begun link.0 source config log before i.asked started_as)
          (started-data link.0 source log before.typed ranged i.asked started_as)
        where
          started_as : started link.0 Requests source log ≡ Some i.asked
          started_as = sym ((coherent config log before).opened link.0 Requests source)
              ∙ ap (λ (pool : Pool). option_map (λ (o : Open w). o.asked) (m.opened link.0 pool source))
              (sym (ap pool_of e)) ∙ ap (option_map (λ (o : Open w). o.asked)) opened

      go : (g : Finish) → f ≡ g → (o : Option (Open w)) → m.opened link.0 (pool_of f) source ≡ o → Ends o x f
          → EndsStoring (store_granted log (Deliver link ch) (Outcome.Done x source g)) m.memory
          (after_end link.0 (pool_of f) source o m).memory (λ run. with_end o m.memory run)
      go g e None opened ends = absurd ends
      go (Finish.Granted p) e (Some i) opened ends = at-grant p e i opened
      go Finish.Ack e (Some i) opened ends = unstored i.asked (plain i.asked i.answer f ends
          (λ t. let no : Finish.Ack ≡ Finish.Granted Perm.Trunk = sym e ∙ t in cc))
      go Finish.Hint e (Some i) opened ends = unstored i.asked (plain i.asked i.answer f ends
          (λ t. let no : Finish.Hint ≡ Finish.Granted Perm.Trunk = sym e ∙ t in cc))
      go (Finish.Data size bytes) e (Some i) opened ends = unstored i.asked (plain i.asked i.answer f ends
          (λ t. let no : Finish.Data size bytes ≡ Finish.Granted Perm.Trunk = sym e ∙ t in cc))
      go Finish.Released e (Some i) opened ends = unstored i.asked (plain i.asked i.answer f ends
          (λ t. let no : Finish.Released ≡ Finish.Granted Perm.Trunk = sym e ∙ t in cc))
