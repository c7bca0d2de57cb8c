-- The one-memory machine beside the protocol, after an operation that a client is asked for.
-- The one memory stays beside the protocol where a client takes a response.
use Rattle.std.proofs.Common.{◌≡◌, ℕ, Bool, true, false, ◌&&◌, ◌==◌, List, Option, Some, None, refl, sym, ◌∙◌, ap}
use Rattle.std.proofs.Common.{subst, arith, ◌⊎◌, inl, inr, length, ne_eqb}
use Rattle.tl_coherence.proofs
use proofs.Imports.{and-false, cases_eq, ⊤, Message, MessageA, Cap, Grow, Prune, Perm, same_perm, IsBlock, Memory}
use proofs.Imports.{block_at, word_room, Op, Reply, copy_stored, is_word, whole_grow, access, IsInvariant, acquires_of}
use proofs.Imports.{Packet, set, set_at, AcquireOpen, AcquirePhase, ClientBlock, NoAcquire, is_unreleased, is_whole}
use proofs.Imports.{after_acquire, after_grant, after_release, after_release_ack, Acquires, Block, Replied, SourceState}
use proofs.Imports.{State, access_asked, acquire_asked, acquiring_block, answer_taken, block_stored, grant_taken}
use proofs.Imports.{granted_truth, let_go_block, release_ack_taken, release_asked, releasing_block, stored_block}
use proofs.Imports.{taken_block, is_wanting, AbstractState, asked, IsLet, IsOpened, MemoryRelation, op_of}
use proofs.Imports.{AccessMessages, AreSized, Machine, Open, Releases, Requests, after_end, after_reply, memory_after}
use proofs.Imports.{with_memory, with_number, with_open}
use Rattle.tl_manager.proofs.blocks.Blocks.{block-put}
use proofs.memory.OneMemory.{block-besides, block-stored, block-unstored}
use proofs.memory.BesideKinds.{same_acquiring}
use proofs.memory.Beside.{open-here, open-there, open-releases, open-requests, beside-used, beside-let, same_acquire}
use proofs.memory.Beside.{IsElsewhere, IsSameAcquire, set_at-there, beside-still}
use proofs.protocol.{BothParts.is_of-is, BothParts.acquires_of-is, FollowKept.IsAskable}
use proofs.queues.Phases.{trunk-some}
use proofs.queues.Tokens.{same_number, set-same, set-other, set-part, set_at-same}
use proofs.simulation.SizedAfter.{IsSizedAsk}

-- ---- Acquires of other sources

-- what other sources acquire is as before, where one client's part of a block changes, and it acquires
-- the block with no other source
pub acquires-else : (c n source : ℕ) (new : Block (List ℕ)) (p : ClientBlock) (s s' : State (List ℕ))
    → ((i : ℕ) → s'.block i ≡ set n new s.block i) → ((d : ℕ) → new.pair d ≡ set c p (s.block n).pair d)
    → ((d : ℕ) → (d ≡ c → ⊥) → new.waiting d ≡ (s.block n).waiting d)
    → ((i : ℕ) → (i ≡ source → ⊥) → s.uses c i ≡ Acquires n → ⊥)
    → (d i : ℕ) → IsElsewhere c source d i → IsSameAcquire d s s' (s.uses d i)
acquires-else c n source new p s s' blocks pairs waits alone d i else_ = grind (arith, cases_eq)

-- who acquires nothing of a block has no source for it
calm-none : {caching : ℕ → Bool} {s : State (List ℕ)} (c n i : ℕ) → IsInvariant caching s
    → ((s.block n).pair c).acquiring ≡ NoAcquire → s.uses c i ≡ Acquires n → ⊥
calm-none {s} c n i inv calm e =
    let no = ap (λ x. is_wanting x && (i == (s.block n).source c)) calm in
    let differ : true ≡ false = sym (ap (acquires_of n) e ∙ same_number n) ∙ (inv.named.acquires c i n) ∙ no in cc

-- ---- what is asked

-- a client answers a Load and a Store at once, and no message of another channel starts
abbrev pub IsReply : {w : ℕ} → Op w → Reply → Type 0
IsReply (Op.Load address size) (Reply.Started source) = ⊥
IsReply (Op.Store address size value) (Reply.Started source) = ⊥
IsReply (Op.Access (Message.B m)) (Reply.Started source) = ⊥
IsReply (Op.Access (Message.C m)) (Reply.Started source) = ⊥
IsReply (Op.Access (Message.D m)) (Reply.Started source) = ⊥
IsReply (Op.Access (Message.E m)) (Reply.Started source) = ⊥
IsReply o r = ⊤

truth_as : (f : Memory) (n i : ℕ) (new : Block (List ℕ)) (block : ℕ → Block (List ℕ)) → new.truth ≡ (block n).truth
    → IsBlock f i (block i).truth → IsBlock f i (set n new block i).truth
truth_as f n i new block e h = rw (set-part (λ b. b.truth) n new block e i) h

beside-acquire_asked : {w : ℕ} {caching : ℕ → Bool} (c n source : ℕ) (whole : Bool) (g : Grow) (bytes : List ℕ)
    (o : Op w) {mail : AccessMessages w} {s : State (List ℕ)} {m : Machine w} → IsInvariant caching s
    → ((s.block n).pair c).acquiring ≡ NoAcquire → op_of (AcquireOpen whole g) n bytes ≡ o → MemoryRelation mail s m
    → MemoryRelation mail (acquire_asked c n source whole g bytes s)
    (with_open c Requests source (Some (record { asked = o; answer = None })) m)
beside-acquire_asked {w} c n source whole g bytes o {s} {m} inv calm is h =
    let after : ClientBlock = after_acquire whole g ((s.block n).pair c) in
    let new : Block (List ℕ) = acquiring_block c source whole g bytes (s.block n) in
    let m' : Machine w = with_open c Requests source (Some (record { asked = o; answer = None })) m in
    let opened_as : AcquirePhase → List ℕ → Option (Open w) =
    λ x y. Some (record { asked = op_of x n y; answer = None }) in
    beside-used (record {
      memory = λ i. truth_as m.memory n i new s.block refl (h.memory i);
      uses = λ d i. refl;
      lets = λ d i. refl;
      here = open-here c Requests source (Some (record { asked = o; answer = None })) m ∙ ap (λ y. Some
          (record { asked = y; answer = None })) (sym is) ∙ sym (ap (λ b. opened_as (b.pair c).acquiring (b.waiting c))
          (set-same n new s.block) ∙ ap (λ p. opened_as p.acquiring (set c bytes (s.block n).waiting c)) (set-same c
          after (s.block n).pair) ∙ ap (opened_as (AcquireOpen whole g)) (set-same c bytes (s.block n).waiting));
      there = λ d i else_. open-there c Requests source (Some (record { asked = o; answer = None })) m d i else_;
      releases = λ d i. open-releases c source (Some (record { asked = o; answer = None })) m d i;
      requests = λ d i else_. refl;
      answers = λ d i else_. refl;
      acquires = acquires-else c n source new after s (acquire_asked c n source whole g bytes s) (λ i. refl) (λ d. refl)
          (λ d ne. set-other c d bytes (s.block n).waiting ne) (λ i ne e. calm-none c n i inv calm e);
    }) h

beside-release_asked : {w : ℕ} (c n source : ℕ) (r : Prune) {mail : AccessMessages w} {s : State (List ℕ)}
    {m : Machine w} → MemoryRelation mail s m → MemoryRelation mail (release_asked c n source r s)
    (with_open c Releases source (Some (record { asked = Op.Release n r; answer = None })) m)
beside-release_asked c n source r {s} {m} h =
    let new : Block (List ℕ) = releasing_block c source r (s.block n) in
    beside-let (record {
      memory = λ i. truth_as m.memory n i new s.block refl (h.memory i);
      uses = λ d i. refl;
      lets = λ d i. refl;
      here = (r, open-here c Releases source (Some (record { asked = Op.Release n r; answer = None })) m);
      there = λ d i else_. open-there c Releases source (Some (record { asked = Op.Release n r; answer = None })) m d i
          else_;
      requests = λ d i. open-requests c source (Some (record { asked = Op.Release n r; answer = None })) m d i;
      acquires = λ d i. let fact = set-part (λ b. (b.pair d).acquiring) n new s.block (set-part
          (λ p. p.acquiring) c (after_release r ((s.block n).pair c)) (s.block n).pair refl d) i in
          (fact, set-part (λ b. b.waiting d) n new s.block refl i);
    }) h

beside-access_asked : {w : ℕ} (c source : ℕ) (a : MessageA w) {mail : AccessMessages w} {s : State (List ℕ)}
    {m : Machine w} → MemoryRelation mail s m
    → MemoryRelation (record { request = set_at c source (access source a) mail.request; answer = mail.answer })
    (access_asked c source s)
    (with_open c Requests source (Some (record { asked = Op.Access (Message.A a); answer = None })) m)
beside-access_asked c source a {mail} {s} {m} h =
    let same_blocks : (d : ℕ) (u : SourceState) → IsSameAcquire d s (access_asked c source s) u =
    λ d. elim [ Acquires n ↦ (refl, refl) | u ↦ tt ] in
    beside-used (record {
      memory = h.memory;
      uses = λ d i. refl;
      lets = λ d i. refl;
      here =
          let fact = open-here c Requests source (Some (record { asked = Op.Access (Message.A a); answer = None })) m in
          (a, set_at-same c source (access source a) mail.request, fact);
      there = λ d i else_. open-there c Requests source
          (Some (record { asked = Op.Access (Message.A a); answer = None })) m d i else_;
      releases = λ d i. open-releases c source (Some (record { asked = Op.Access (Message.A a); answer = None })) m d i;
      requests = λ d i else_. set_at-there (access source a) mail.request else_;
      answers = λ d i else_. refl;
      acquires = λ d i else_. same_blocks d (s.uses d i);
    }) h

beside-block_stored : {w : ℕ} {caching : ℕ → Bool} (c address size value : ℕ) {mail : AccessMessages w}
    {s : State (List ℕ)} {m : Machine w} → IsInvariant caching s
    → AreSized (s.block (block_at address)) → is_word address size ≡ true
    → same_perm ((s.block (block_at address)).pair c).held Perm.Trunk ≡ true → MemoryRelation mail s m
    → MemoryRelation mail (block_stored c (block_at address)
    (copy_stored address size value ((s.block (block_at address)).copy c)) s)
    (record m { memory = with_number address size value m.memory })
beside-block_stored c address size value {s} {m} inv sized word trunk h =
    let s' : State (List ℕ) = block_stored c n (copy_stored address size value copy) s in
    beside-still (record {
      memory = λ i. bytes i (cases_eq i n);
      uses = λ d i. refl;
      lets = λ d i. refl;
      opened = λ d pool i. refl;
      acquires = λ d i. let fact = set-part (λ b. (b.pair d).acquiring) n new s.block refl i in
          (fact, set-part (λ b. b.waiting d) n new s.block refl i);
    }) h
  where
    n : ℕ
    n = block_at address

    copy : List ℕ
    copy = (s.block n).copy c

    new : Block (List ℕ)
    new = stored_block c (copy_stored address size value copy) (s.block n)

    same : copy ≡ (s.block n).truth
    same = (inv.blocks n).copies c (trunk-some ((s.block n).pair c).held trunk)

    here : IsBlock (with_number address size value m.memory) n (copy_stored address size value copy)
    here = block-stored address size value copy m.memory (word_room address size word) (ap length same ∙ sized.truth)
        (subst (λ b. IsBlock m.memory n b) (sym same) (h.memory n))

    bytes : (i : ℕ) → (i ≡ n) ⊎ (i ≡ n → ⊥) → IsBlock (with_number address size value m.memory) i
        (set n new s.block i).truth
    bytes i (inl at) = rw at (rw (set-same n new s.block) here)
    bytes i (inr other) = rw (set-other n i new s.block other) (block-unstored address size value i (s.block i).truth
        m.memory (word_room address size word) other (h.memory i))

pub beside-asked : {w : ℕ} {caching : ℕ → Bool} (c : ℕ) (o : Op w) (r : Reply) (h : AbstractState w) {m : Machine w}
    → IsInvariant caching h.state
    → ((n : ℕ) → AreSized (h.state.block n)) → IsReply o r → IsAskable caching c o r h → IsSizedAsk c o r h
    → MemoryRelation h.mail h.state m → MemoryRelation (asked c o r h).mail (asked c o r h).state (after_reply c o r m)
beside-asked c (Op.Store address size value) Reply.Stored h inv sized is may word b =
    beside-block_stored c address size value inv (sized (block_at address)) word.0 word.1 b
beside-asked c (Op.Acquire n g) (Reply.Started source) h inv sized is may word b =
    beside-acquire_asked c n source false g ((h.state.block n).waiting c) (Op.Acquire n g) inv may.2 refl b
beside-asked c (Op.AcquireWhole n bytes) (Reply.Started source) h inv sized is may word b = beside-acquire_asked c n
    source true (whole_grow ((h.state.block n).pair c).held) bytes _ inv may.2 refl b
beside-asked c (Op.Release n p) (Reply.Started source) h inv sized is may word b = beside-release_asked c n source p b
beside-asked c (Op.Access (Message.A a)) (Reply.Started source) h inv sized is may word b =
    beside-access_asked c source a b
beside-asked c o (Reply.Started source) h inv sized is may word b = absurd is
beside-asked c o r h inv sized is may word b = b

-- ---- responses

pub beside-answer : {w : ℕ} (c source : ℕ) (rest : List Packet) {mail : AccessMessages w} {s : State (List ℕ)}
    {m : Machine w} → s.uses c source ≡ Replied → MemoryRelation mail s m
    → MemoryRelation mail (answer_taken c source rest s) (after_end c Requests source (m.opened c Requests source) m)
beside-answer {w} c source rest {mail} {s} {m} used h =
    let replied : (u : SourceState) → u ≡ Replied → IsOpened c source mail s u (m.opened c Requests source)
    → IsOpened c source mail s Replied (m.opened c Requests source) = λ u e i. rw e at i in
    go (m.opened c Requests source) refl (replied (s.uses c source) used (h.requests c source))
  where
    go : (o : Option (Open w)) → m.opened c Requests source ≡ o
        → IsOpened c source mail s Replied (m.opened c Requests source)
        → MemoryRelation mail (answer_taken c source rest s) (after_end c Requests source o m)
    go None e i = absurd (cc i.1.2)
    go (Some o) e i =
        let some_is : (x y : Open w) → Some x ≡ Some y → x ≡ y = λ x y e. cc in
        let asked = some_is o (record { asked = Op.Access (Message.A i.1.0); answer = Some i.0 }) (sym e ∙ i.1.2) in
        subst (λ y. MemoryRelation mail (answer_taken c source rest s) (after_end c Requests source (Some y) m))
        (sym asked) (beside-used (record {
          memory = h.memory;
          uses = λ d j. refl;
          lets = λ d j. refl;
          here = open-here c Requests source None m;
          there = λ d j else_. open-there c Requests source None m d j else_;
          releases = λ d j. open-releases c source None m d j;
          requests = λ d j else_. refl;
          answers = λ d j else_. refl;
          acquires = λ d j else_. same_acquire d s (answer_taken c source rest s) (s.uses d j) (λ k. (refl, refl));
        }) h)

-- the client's Acquire of the block is the one with its source
only_source : {caching : ℕ → Bool} {s : State (List ℕ)} (c n i : ℕ) → IsInvariant caching s
    → (i ≡ (s.block n).source c → ⊥) → s.uses c i ≡ Acquires n → ⊥
only_source {s} c n i inv ne e =
    let no : (is_wanting ((s.block n).pair c).acquiring && (i == (s.block n).source c)) ≡ false =
    cc (ne_eqb i ((s.block n).source c) ne, and-false (is_wanting ((s.block n).pair c).acquiring)) in
    let differ : true ≡ false = sym (ap (acquires_of n) e ∙ same_number n) ∙ (inv.named.acquires c i n) ∙ no in cc

pub beside-grant : {w : ℕ} {caching : ℕ → Bool} (c n : ℕ) (d : Bool) (k : Cap) (rest : List Packet)
    {mail : AccessMessages w} {s : State (List ℕ)} {m : Machine w}
    → IsInvariant caching s → is_wanting ((s.block n).pair c).acquiring ≡ true → MemoryRelation mail s m
    → MemoryRelation mail (grant_taken c n (is_whole ((s.block n).pair c).acquiring) d k rest s)
    (after_end c Requests ((s.block n).source c) (m.opened c Requests ((s.block n).source c)) m)
beside-grant {w} {caching} c n d k rest {mail} {s} {m} inv wants h =
    let s' : State (List ℕ) = grant_taken c n (is_whole (b.pair c).acquiring) d k rest s in
    let ended : Machine w = with_open c Requests source None (with_memory (memory_after asked m.memory) m) in
    subst (λ o. MemoryRelation mail s' (after_end c Requests source o m)) (sym opened) (beside-used (record {
      memory = λ i. block_now i (cases_eq i n);
      uses = λ e i. refl;
      lets = λ e i. refl;
      here = open-here c Requests source None (with_memory (memory_after asked m.memory) m);
      there = λ e i else_. open-there c Requests source None (with_memory (memory_after asked m.memory) m) e i else_;
      releases = λ e i. open-releases c source None (with_memory (memory_after asked m.memory) m) e i;
      requests = λ e i else_. refl;
      answers = λ e i else_. refl;
      acquires = acquires-else c n source new (after_grant k (b.pair c)) s s' (λ i. refl) (λ e. refl) (λ e ne. refl)
          (λ i ne e. only_source c n i inv ne e);
    }) h)
  where
    b : Block (List ℕ)
    b = s.block n

    source : ℕ
    source = b.source c

    new : Block (List ℕ)
    new = taken_block c (is_whole (b.pair c).acquiring) d k b

    asked : Op w
    asked = op_of (b.pair c).acquiring n (b.waiting c)

    used : s.uses c source ≡ Acquires n
    used = acquires_of-is n _ (inv.named.acquires c source n ∙ rw (wants, same_number source) refl)

    opened : m.opened c Requests source ≡ Some (record { asked = asked; answer = None })
    opened =
        let acquires : (u : SourceState) → u ≡ Acquires n → IsOpened c source mail s u (m.opened c Requests source)
        → IsOpened c source mail s (Acquires n) (m.opened c Requests source) = λ u e i. rw e at i in
        acquires (s.uses c source) used (h.requests c source)

    here : (x : AcquirePhase) (waits : List ℕ) → is_wanting x ≡ true
        → IsBlock (memory_after (op_of {w = w} x n waits) m.memory) n (granted_truth (is_whole x) waits b.truth)
    here x waits e = grind (arith, block-put)

    there : (x : AcquirePhase) (waits : List ℕ) (i : ℕ) → is_wanting x ≡ true → (i ≡ n → ⊥)
        → IsBlock (memory_after (op_of {w = w} x n waits) m.memory) i (s.block i).truth
    there NoAcquire waits i e ne = absurd cc
    there (AcquireOpen true g) waits i e ne = block-besides m.memory n i waits _ ne (h.memory i)
    there (AcquireOpen false g) waits i e ne = h.memory i

    block_now : (i : ℕ) → (i ≡ n) ⊎ (i ≡ n → ⊥) → IsBlock (memory_after asked m.memory) i (set n new s.block i).truth
    block_now i (inl same) = rw same (rw (set-same n new s.block) (here (b.pair c).acquiring (b.waiting c) wants))
    block_now i (inr other) = subst (λ y. IsBlock (memory_after asked m.memory) i y.truth)
        (sym (set-other n i new s.block other)) (there (b.pair c).acquiring (b.waiting c) i wants other)

pub beside-release_ack : {w : ℕ} {caching : ℕ → Bool} (c n : ℕ) (rest : List Packet) {mail : AccessMessages w}
    {s : State (List ℕ)} {m : Machine w} → IsInvariant caching s → is_unreleased ((s.block n).pair c).letting ≡ false
    → MemoryRelation mail s m → MemoryRelation mail (release_ack_taken c n rest s)
    (after_end c Releases ((s.block n).release_source c) (m.opened c Releases ((s.block n).release_source c)) m)
beside-release_ack c n rest {mail} {s} {m} inv acked h =
    let new : Block (List ℕ) = let_go_block c (s.block n) in
    let s' : State (List ℕ) = release_ack_taken c n rest s in
    subst (λ o. MemoryRelation mail s' (after_end c Releases source o m)) (sym released.1) (beside-let (record {
      memory = λ i. rw (set-part (λ y. y.truth) n new s.block refl i) (h.memory i);
      uses = λ e i. refl;
      lets = λ e i. refl;
      here = open-here c Releases source None m;
      there = λ e i else_. open-there c Releases source None m e i else_;
      requests = λ e i. open-requests c source None m e i;
      acquires = λ e i. let fact = set-part (λ y. (y.pair e).acquiring) n new s.block
          (same_acquiring c (after_release_ack ((s.block n).pair c)) (s.block n).pair refl e) i in
          (fact, set-part (λ y. y.waiting e) n new s.block refl i);
    }) h)
  where
    source : ℕ
    source = (s.block n).release_source c

    released : IsLet (Some n) (m.opened c Releases source)
    released =
        let go : (l : Option ℕ) → l ≡ Some n → IsLet l (m.opened c Releases source)
        → IsLet (Some n) (m.opened c Releases source) = λ l e i. rw e at i in
        go _ (is_of-is n (s.lets c source)
        (inv.named.releases c source n ∙ rw (acked, same_number source) refl)) (h.releases c source)
