-- An operation that a client is asked for: the channels and the one memory afterwards.
-- What is kept of the manager's end is kept by every event, where the invariant is.
use Rattle.std.proofs.Common.{◌≡◌, ℕ, Bool, true, false, ◌||◌, List, [], ◌∷◌, Option, Some, None, refl, sym, ap, subst}
use Rattle.std.proofs.Common.{arith, inl, inr}
use Rattle.tl_coherence.proofs
use proofs.Imports.{cases_eq, or_right, ⊤, Beat, Channel, OpA, IsWidth, Message, MessageA, Config, Grow, Prune, Perm}
use proofs.Imports.{same_perm, block_at, unfinished-asked, Op, Reply, whole_grow, EndConfig, access, acquisition}
use proofs.Imports.{release, Event, Ask, Deliver, Outcome, IsInvariant, Acquire, Release, Block, State, acquiring_block}
use proofs.Imports.{releasing_block, view, AbstractState, abstract_step, acquire_opcode, asked, ChannelRelation}
use proofs.Imports.{MemoryRelation, AccessMessages, block_message, SimulationRelation, is_caching, Continues, Log}
use proofs.Imports.{system_after, after_reply, accesses_answered, one_memory_after, performing, client_of, handed_by}
use proofs.Imports.{stepped, System, terms_at, with_client, with_messages}
use Rattle.tl_coherence.specs.statement.Machine.{Performs}
use Rattle.tl_client.specs.statement.Ask as ask
use Rattle.tl_client.specs.statement.Endpoint as client
use proofs.protocol.{FollowKept.IsAskable, FollowKept.asked-kept, Room.rendered-acquire}
use proofs.manager.{Memories.IsManagerOf, Accounts.at_manager-matched}
use proofs.manager.Unseen.{at_manager-nobody, at_manager-ask, at_manager-to_client}
use proofs.deliveries.{FirstRequest.at_manager-delivered_a, ManagersAfter.release_channel}
use proofs.deliveries.DeliverDUnmoved.{manager-followed_c, manager-followed_e}
use proofs.deliveries.AskedWell.{asked-well, IsHandedOut}
use proofs.queues.{Steps.stepped-empty, Steps.pushes_of, Steps.handed-client, Steps.stepped-asked, Channels.IsHanded}
use proofs.queues.{Channels.pushes_at, Facts.trunk_held, Phases.and_left, FirstToken.none-carried, Tokens.set-same}
use proofs.memory.BesideAsked.{IsReply, beside-asked}
use proofs.simulation.CarriedEvents.{access_asked-carried, acquire_asked-carried, release_asked-carried}
use proofs.simulation.CarriedEvents.{nothing_asked-carried, block_stored-carried}

-- ---- the operations that do something

-- nothing is started or stored: neither the protocol nor a channel changes
abbrev pub IsPlain : {w : ℕ} → Op w → Reply → Type 0
IsPlain {w} o r = (c : ℕ) (h : AbstractState w) → (asked c o r h ≡ h)
    × ((m : Option (Message w)) → IsHandedOut c o r h m → m ≡ None)

pub reply-cases : {w : ℕ} (P : Op w → Reply → Type 0) (o : Op w) (r : Reply) → IsReply o r
    → ((address size value : ℕ) → P (Op.Store address size value) Reply.Stored)
    → ((n : ℕ) (g : Grow) (source : ℕ) → P (Op.Acquire n g) (Reply.Started source))
    → ((n : ℕ) (bytes : List ℕ) (source : ℕ) → P (Op.AcquireWhole n bytes) (Reply.Started source))
    → ((n : ℕ) (p : Prune) (source : ℕ) → P (Op.Release n p) (Reply.Started source))
    → ((x : MessageA w) (source : ℕ) → P (Op.Access (Message.A x)) (Reply.Started source))
    → ((o : Op w) (r : Reply) → IsPlain o r → P o r) → P o r
reply-cases P (Op.Store address size value) Reply.Stored is stored acquires stores releases accesses others =
    stored address size value
reply-cases P (Op.Acquire n g) (Reply.Started source) is stored acquires stores releases accesses others =
    acquires n g source
reply-cases P (Op.AcquireWhole n bytes) (Reply.Started source) is stored acquires stores releases accesses others =
    stores n bytes source
reply-cases P (Op.Release n p) (Reply.Started source) is stored acquires stores releases accesses others =
    releases n p source
reply-cases P (Op.Access (Message.A x)) (Reply.Started source) is stored acquires stores releases accesses others =
    accesses x source
reply-cases P o (Reply.Started source) is stored acquires stores releases accesses others = absurd is
reply-cases P o r is stored acquires stores releases accesses others = others o r (λ c h. (refl, λ m e. e))

-- ---- channels

rendered_acquiring : {w : ℕ} (c n source : ℕ) (whole : Bool) (g : Grow) (bytes : List ℕ) (b : Block (List ℕ))
    → block_message {w = w} Acquire c n (acquiring_block c source whole g bytes b) ≡ Message.A
    (acquisition (acquire_opcode whole) g source n)
rendered_acquiring {w} c n source whole g bytes b = grind (arith, rendered-acquire, set-same)

rendered_releasing : {w : ℕ} (c n source : ℕ) (p : Prune) (b : Block (List ℕ))
    → block_message {w = w} Release c n (releasing_block c source p b) ≡ release p source n b.truth
unfolding block_message
rendered_releasing {w} c n source p b = grind (arith, set-same)

abbrev CarriesAsked : {w : ℕ} → Config → ℕ → AbstractState w → System w → Op w → Reply → Type 0
CarriesAsked {w} config c h sys o r = (m : Option (Message w)) (e : client.Endpoint w) → IsAskable
    (is_caching config) c o r h → IsInvariant (is_caching config) (asked c o r h).state → IsHandedOut c o r h m
    → IsHanded (pushes_at c (pushes_of m)) sys (with_messages (handed_by c m) (with_client c e sys))
    → ChannelRelation (asked c o r h).mail (asked c o r h).state (with_messages (handed_by c m) (with_client c e sys))

carried_asked : {w : ℕ} {config : Config} {log : Log w} (h : AbstractState w) {sys : System w} (c : ℕ) (o : Op w)
    (r : Reply) → IsWidth w
    → SimulationRelation config log h.mail h.request h.state sys → IsReply o r → CarriesAsked config c h sys o r
carried_asked {w} {config} h {sys} c o r width is may_be =
    let stored : (address size value : ℕ) → CarriesAsked config c h sys (Op.Store address size value) Reply.Stored =
    λ address size value m e may inv handed queued. carried_as m None _ _ e handed (block_stored-carried c
    (block_at address) _ h.mail width is.invariant inv (none-carried (is.invariant.blocks (block_at address))
    (low (block_at address) may)) (handed_as m None e handed queued) is.carried) in
    let acquires : (n : ℕ) (g : Grow) (source : ℕ) → CarriesAsked config c h sys (Op.Acquire n g)
    (Reply.Started source) = λ n g source m e may inv handed queued. carried_as m _ _ _ e handed (acquire_asked-carried
    c n source false g _ (Message.A (acquisition OpA.AcquireBlock g source n)) h.mail width is.invariant inv may.2 refl
    (rendered_acquiring c n source false g _ (s.block n)) (handed_as m _ e handed queued) is.carried) in
    let stores : (n : ℕ) (bytes : List ℕ) (source : ℕ) → CarriesAsked config c h sys (Op.AcquireWhole n bytes)
    (Reply.Started source) = λ n bytes source m e may inv handed queued. carried_as m _ _ _ e handed
    (acquire_asked-carried c n source true (whole_grow ((s.block n).pair c).held) bytes
    (Message.A (acquisition OpA.AcquirePerm (whole_grow ((s.block n).pair c).held) source n)) h.mail width
    is.invariant inv may.2 refl (rendered_acquiring c n source true (whole_grow ((s.block n).pair c).held) bytes
    (s.block n)) (handed_as m _ e handed queued) is.carried) in
    let releases : (n : ℕ) (p : Prune) (source : ℕ) → CarriesAsked config c h sys (Op.Release n p)
    (Reply.Started source) = λ n p source m e may inv handed queued. carried_as m _ _ _ e handed (release_asked-carried
    c n source p (release p source n (s.block n).truth) h.mail width is.invariant inv may.3 (release_channel w p source
    n (s.block n).truth) (rendered_releasing c n source p (s.block n)) (handed_as m _ e handed queued) is.carried) in
    let accesses : (x : MessageA w) (source : ℕ) → CarriesAsked config c h sys (Op.Access (Message.A x))
    (Reply.Started source) = λ x source m e may inv handed queued. carried_as m _ _ _ e handed (access_asked-carried c
    source (access source x) h.mail width is.invariant inv may refl (handed_as m _ e handed queued) is.carried) in
    reply-cases (CarriesAsked config c h sys) o r may_be stored acquires stores releases accesses others
  where
    s : State (List ℕ)
    s = h.state

    handed_as : (m n : Option (Message w)) (e : client.Endpoint w) → m ≡ n
        → IsHanded (pushes_at c (pushes_of m)) sys (with_messages (handed_by c m) (with_client c e sys))
        → IsHanded (pushes_at c (pushes_of n)) sys (with_messages (handed_by c n) (with_client c e sys))
    handed_as m n e f i = rw (← f) i

    carried_as : (m n : Option (Message w)) (mail : AccessMessages w) (z : State (List ℕ)) (e : client.Endpoint w)
        → m ≡ n → ChannelRelation mail z (with_messages (handed_by c n) (with_client c e sys))
        → ChannelRelation mail z (with_messages (handed_by c m) (with_client c e sys))
    carried_as m n mail z e f i = rw f i

    low : (n : ℕ) → same_perm ((s.block n).pair c).held Perm.Trunk ≡ true → (d : ℕ)
        → (same_perm ((s.block n).pair d).held Perm.Trunk || same_perm ((s.block n).pair d).recorded Perm.None) ≡ true
    low n trunk d = elim (cases_eq d c) [
      | inl same ↦ rw (same, trunk) refl
      | inr other ↦ or_right (same_perm ((s.block n).pair d).held Perm.Trunk) (same_perm
          ((s.block n).pair d).recorded Perm.None) ((is.invariant.blocks n).one_owner c d (owned n trunk) other)
    ]
      where
        owned : (n : ℕ) → same_perm ((s.block n).pair c).held Perm.Trunk ≡ true
            → same_perm ((s.block n).pair c).recorded Perm.Trunk ≡ true
        owned n trunk = and_left (same_perm ((s.block n).pair c).recorded Perm.Trunk) _
            (trunk_held ((s.block n).pair c) (view (s.block n).service c) ((is.invariant.blocks n).phases c) trunk)

    others : (i : Op w) (j : Reply) → IsPlain i j → CarriesAsked config c h sys i j
    others i j plain m e may inv handed queued =
        let none : m ≡ None = (plain c h).1 m handed in
        subst (λ x. ChannelRelation x.mail x.state (with_messages (handed_by c m) (with_client c e sys)))
        (sym (plain c h).0) (carried_as m None _ _ e none (nothing_asked-carried c h.mail width is.invariant
        (handed_as m None e none queued) is.carried))

pub carried-ask : {w : ℕ} {config : Config} {log : Log w} (h : AbstractState w) {sys : System w} (c : ℕ)
    (terms : client.EndConfig) (o : Op w) → IsWidth w → SimulationRelation config log h.mail h.request h.state sys
    → terms_at config c ≡ Some terms → ChannelRelation (asked c o (ask.asked terms o (sys.clients c)).reply h).mail
    (asked c o (ask.asked terms o (sys.clients c)).reply h).state (stepped config (Ask c o) sys).after
carried-ask {config} {log} h {sys} c terms o width is known =
    let x = ask.asked terms o (sys.clients c) in
    let well = asked-well _ log h sys c terms o width is known in
    let inv = asked-kept c o x.reply h is.invariant well.may in
    subst (λ y. ChannelRelation (asked c o x.reply h).mail (asked c o x.reply h).state y.after) (sym (stepped-asked
    config c o sys terms known)) (carried_asked h c o x.reply width is well.reply x.message x.after well.may inv
    well.message (handed-client c x.message x.after sys (λ at. unfinished-asked terms o _ at width (is.kept c))))

-- ---- the one memory

pub none_answered : {w : ℕ} (c : ℕ) (o : Op w) (r : Reply) (h : AbstractState w) (m : Option (Message w)) → IsReply o r
    → IsHandedOut c o r h m → accesses_answered (handed_by c m) ≡ []
unfolding accesses_answered
none_answered {w} c o r h m may_be = grind arith

pub beside-ask : {w : ℕ} {config : Config} {log : Log w} (h : AbstractState w) (c : ℕ) (terms : client.EndConfig)
    (o : Op w) → IsWidth w
    → SimulationRelation config log h.mail h.request h.state (system_after config log) → terms_at config c ≡ Some terms
    → MemoryRelation (asked c o (ask.asked terms o ((system_after config log).clients c)).reply h).mail
    (asked c o (ask.asked terms o ((system_after config log).clients c)).reply h).state
    (one_memory_after config ((Ask c o, Outcome.Replied (ask.asked terms o ((system_after config log).clients c)).reply)
    ∷ log))
unfolding one_memory_after performing
beside-ask {w} {config} {log} h c terms o width is known =
    let sys = system_after config log in
    let x = ask.asked terms o (sys.clients c) in
    let well = asked-well _ log h sys c terms o width is known in
    let none : accesses_answered (stepped config (Ask c o) sys).handed ≡ [] =
    cc (stepped-asked config c o sys terms known, none_answered c o x.reply h x.message well.reply well.message) in
    subst (λ l. MemoryRelation (asked c o x.reply h).mail (asked c o x.reply h).state
    (performing l (after_reply c o x.reply (one_memory_after config log)))) (sym none)
    (beside-asked c o x.reply h is.invariant is.sized well.reply well.may well.word is.beside)

pub continues-ask : {w : ℕ} {config : Config} {log : Log w} (h : AbstractState w) (c : ℕ) (terms : client.EndConfig)
    (o : Op w) → IsWidth w
    → SimulationRelation config log h.mail h.request h.state (system_after config log) → terms_at config c ≡ Some terms
    → Continues config (Ask c o, Outcome.Replied (ask.asked terms o ((system_after config log).clients c)).reply) log
unfolding one_memory_after performing Performs
continues-ask {config} {log} h c terms o width is known =
    let sys = system_after config log in
    let x = ask.asked terms o (sys.clients c) in
    let well = asked-well _ log h sys c terms o width is known in
    let none : accesses_answered (stepped config (Ask c o) sys).handed ≡ [] = cc (
      stepped-asked config c o sys terms known,
      none_answered c o x.reply h x.message well.reply well.message,
    ) in
    let fact = ap (λ l. performing l (after_reply c o x.reply (one_memory_after config log))) none in
    (after_reply c o x.reply (one_memory_after config log), [], (rw known refl, well.replies, refl), fact)

-- what the invariant asks for at an event of a client with these terms: that the client may do what it is asked
abbrev pub IsAllowed : {w : ℕ} → Config → Event w → EndConfig → System w → AbstractState w → Type 0
IsAllowed config (Ask c o) terms sys h =
    IsAskable (is_caching config) c o (ask.asked terms o (sys.clients c)).reply h
IsAllowed config event terms sys h = ⊤

-- where a channel is empty
empty-delivered : {w : ℕ} {config : Config} {log : Log w} (h : AbstractState w) {sys : System w} (c : ℕ) (ch : Channel)
    (terms : EndConfig) → SimulationRelation config log h.mail h.request h.state sys → terms_at config c ≡ Some terms
    → sys.channels c ch ≡ [] → IsManagerOf config (abstract_step config (Deliver (record { 0 = c }) ch) sys h)
    (stepped config (Deliver (record { 0 = c }) ch) sys).after.manager
empty-delivered {config} h {sys} c ch terms is client none =
    rw (stepped-empty config (record { 0 = c }) ch sys terms client none) (at_manager-matched is)

pub manager-kept : {w : ℕ} {config : Config} {log : Log w} (h : AbstractState w) {sys : System w} (event : Event w)
    → IsWidth w → SimulationRelation config log h.mail h.request h.state sys
    → ((terms : EndConfig) → terms_at config (client_of event) ≡ Some terms → IsAllowed config event terms sys h)
    → IsManagerOf config (abstract_step config event sys h) (stepped config event sys).after.manager
manager-kept {w} {config} h {sys} event width is may = go (terms_at config (client_of event)) refl
  where
    reports : (c : ℕ) (terms : EndConfig) → terms_at config c ≡ Some terms → (xs : List (Beat w))
        → sys.channels c Channel.C ≡ xs
        → IsManagerOf config (abstract_step config (Deliver (record { 0 = c }) Channel.C) sys h)
        (stepped config (Deliver (record { 0 = c }) Channel.C) sys).after.manager
    reports c terms client [] e = empty-delivered h c Channel.C terms is client e
    reports c terms client (x ∷ queue) e = manager-followed_c h c x queue width is e

    acks : (c : ℕ) (terms : EndConfig) → terms_at config c ≡ Some terms → (xs : List (Beat w))
        → sys.channels c Channel.E ≡ xs
        → IsManagerOf config (abstract_step config (Deliver (record { 0 = c }) Channel.E) sys h)
        (stepped config (Deliver (record { 0 = c }) Channel.E) sys).after.manager
    acks c terms client [] e = empty-delivered h c Channel.E terms is client e
    acks c terms client (x ∷ queue) e = manager-followed_e h c x queue width is e

    with_terms : (terms : EndConfig) (event : Event w) → terms_at config (client_of event) ≡ Some terms
        → IsAllowed config event terms sys h
        → IsManagerOf config (abstract_step config event sys h) (stepped config event sys).after.manager
    with_terms terms (Ask c o) client allowed = at_manager-ask h c o terms is client allowed
    with_terms terms (Deliver link Channel.A) client allowed = at_manager-delivered_a h link.0 terms width is client
    with_terms terms (Deliver link Channel.B) client allowed = at_manager-to_client h link Channel.B terms is client
        refl
    with_terms terms (Deliver link Channel.C) client allowed =
        reports link.0 terms client (sys.channels link.0 Channel.C) refl
    with_terms terms (Deliver link Channel.D) client allowed = at_manager-to_client h link Channel.D terms is client
        refl
    with_terms terms (Deliver link Channel.E) client allowed = acks link.0 terms client (sys.channels link.0 Channel.E)
        refl

    go : (o : Option EndConfig) → terms_at config (client_of event) ≡ o
        → IsManagerOf config (abstract_step config event sys h) (stepped config event sys).after.manager
    go None e = at_manager-nobody h event is e
    go (Some terms) e = with_terms terms event e (may terms e)
