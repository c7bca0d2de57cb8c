-- Each beat on a channel is sound, and has the lanes of its width: of those that stay, and of those that are handed
-- out.
-- Each beat on a channel is sound and has its lanes, after every event.
use Rattle.std.proofs.Common.{◌≡◌, ℕ, zero, suc, ◌+◌, ◌<◌, Bool, true, false, ◌&&◌, ◌||◌, ◌==◌, if◌then◌else◌, List, []}
use Rattle.std.proofs.Common.{◌∷◌, ◌++◌, Option, Some, None, Result, Ok, Err, refl, ◌∙◌, ap, subst, arith, inl, inr}
use Rattle.std.proofs.Common.{length, ne_eqb, All, nat_le, unwrap_or, is_some}
use Rattle.std.proofs.lemmas.List.Elements.{All-rest}
use Rattle.tl_coherence.proofs
use proofs.Imports.{cases_eq, All-append, All-cons, All-head, All-nil, ⊤, Beat, BeatD, Link, Channel, OpB, OpD, IsWidth}
use proofs.Imports.{Message, MessageA, beat_of, beats_of, channel_of, unfinished, Config, Level, Prune, Report, Perm}
use proofs.Imports.{Rule, legal_beat, is_outside, is_spoiled, payload_of, same_perm, block_at, ends, request_of}
use proofs.Imports.{beats_from, NotBusy, asked-cases, same_block, Op, Finish, Verdict, done, free_release, source_or_0}
use proofs.Imports.{store, EndConfig, Endpoint, copy_at, held_at, with_past, zeros, Offered, ended, report_for}
use proofs.Imports.{responded, silent, taken, probe_ack, release, reaction_handable, IsHandable, Each, Handed, level_of}
use proofs.Imports.{Event, Ask, Deliver, State, AccessMessages, AreLanes, SimulationRelation, IsTyped, IsTypedOp, Log}
use proofs.Imports.{client_of, client_took, delivered, handed_by, is_to_client, judged, manager_took, stepped_at}
use proofs.Imports.{stepped, System, channel_of_message, same_channel, terms_at, with_channel, with_client}
use proofs.Imports.{with_manager, with_message, with_messages}
use Rattle.tl_client.proofs.messages.Sound.{asked-sound, offered-sound}
use Rattle.tl_client.specs.laws.Sound.{IsSoundIfAny, IsSoundAnswer, IsSound, corrupt_in}
use Rattle.tl_client.specs.statement.Ask.{asked, load}
use Rattle.tl_client.proofs.endpoint.Cases.{offered-cases, probe_ack-cases}
use Rattle.tl_client.specs.statement.Ask as ask
use Rattle.tl_client.specs.statement.Endpoint as client
use Rattle.tl_client.specs.statement.Offer as offer
use Rattle.tl_manager.specs.code.Kept as manager
use Rattle.tl_manager.specs.statement.Reaction as manager_reaction
use Rattle.tl_manager.specs.statement.End as manager_end
use Rattle.tl_manager.specs.statement.Offer as manager_offer
use Rattle.tl_rules.{proofs.Typed.typed-beat, specs.laws.Typed.HasBlock}
use Rattle.tl_manager.proofs.messages.Lawful.{no_bit}
use Rattle.tl_rules.specs.laws.Typed as rules
use proofs.queues.Tokens.{same_number}

-- ---- what holds of each beat of each channel

all_beats : {w : ℕ} (P : Beat w → Type 0) (m : Message w) (k n : ℕ) → ((i : ℕ) → i < k + n → P (beat_of m i))
    → All P (beats_from m k n)
unfolding beats_from
all_beats P m k zero each = All-nil P
all_beats P m k (suc n) each = All-cons P (beat_of m k) (beats_from m (k + 1) n) (each k (omega arith))
    (all_beats P m (k + 1) n (λ i lt. each i (omega (arith, lt))))

all-message : {w : ℕ} (P : ℕ → Beat w → Type 0) (l : ℕ) (m : Message w) (s : System w)
    → ((i : ℕ) → i < beats_of m → P l (beat_of m i)) → ((d : ℕ) (at : Channel) → All (P d) (s.channels d at))
    → (d : ℕ) (at : Channel) → All (P d) ((with_message l m s).channels d at)
all-message {w} P l m s each before d at = elim (cases_eq d l) [
  | inl same ↦ rw same (here (l == l) (same_number l) (same_channel at (channel_of_message m)))
  | inr other ↦ there (d == l) (ne_eqb d l other)
]
  where
    more : List (Beat w)
    more = s.channels l (channel_of_message m) ++ beats_from m 0 (beats_of m)

    here : (x : Bool) → x ≡ true → (y : Bool) → All (P l) (if x && y then more else s.channels l at)
    here x e true = rw e (All-append (P l) (s.channels l (channel_of_message m)) (beats_from m 0 (beats_of m))
        (before l (channel_of_message m)) (all_beats (P l) m 0 (beats_of m) (λ i lt. each i (omega (arith, lt)))))
    here x e false = rw e (before l at)

    there : (x : Bool) → x ≡ false
        → All (P d) (if x && same_channel at (channel_of_message m) then more else s.channels d at)
    there x e = rw e (before d at)

pub all-messages : {w : ℕ} (P : ℕ → Beat w → Type 0) (handed : Handed w) (s : System w)
    → Each (λ x. (i : ℕ) → i < beats_of x.1 → P x.0.0 (beat_of x.1 i)) handed
    → ((d : ℕ) (at : Channel) → All (P d) (s.channels d at)) → (d : ℕ) (at : Channel)
    → All (P d) ((with_messages handed s).channels d at)
unfolding with_messages
all-messages P [] s each before d at = before d at
all-messages P (x ∷ handed) s each before d at = all-messages P handed (with_message x.0.0 x.1 s) each.1
    (λ i j. all-message P x.0.0 x.1 s each.0 before i j) d at

pub all-popped : {w : ℕ} (P : ℕ → Beat w → Type 0) (c : ℕ) (ch : Channel) (x : Beat w) (queue : List (Beat w))
    (s : System w) → s.channels c ch ≡ x ∷ queue → ((d : ℕ) (at : Channel) → All (P d) (s.channels d at))
    → (d : ℕ) (at : Channel) → All (P d) ((with_channel c ch queue s).channels d at)
all-popped P c ch x queue s first before d at = elim (cases_eq d c) [
  | inl same ↦ rw same (here (c == c) (same_number c) (same_channel at ch) refl)
  | inr other ↦ there (d == c) (ne_eqb d c other)
]
  where
    here : (a : Bool) → a ≡ true → (y : Bool) → same_channel at ch ≡ y
        → All (P c) (if a && y then queue else s.channels c at)
    here a e true f = rw e (All-rest (P c) x queue (s.channels c ch) first (before c ch))
    here a e false f = rw e (before c at)

    there : (a : Bool) → a ≡ false → All (P d) (if a && same_channel at ch then queue else s.channels d at)
    there a e = rw e (before d at)

-- ---- a message that a client hands out

-- each of its beats is sound and has its lanes
pub record IsGood {w : ℕ} (config : Config) (c : ℕ) (x : Beat w) : Type 0 where
  pub sound : manager.IsSound config (record { 0 = c }, x)
  pub lanes : AreLanes x

abbrev pub AreGood : {w : ℕ} → Config → ℕ → Message w → Type 0
AreGood config c m = (i : ℕ) → i < beats_of m → IsGood config c (beat_of m i)

lanes_are : {w : ℕ} (x : Beat w) → rules.IsTyped x → AreLanes x
lanes_are (Beat.B x) typed = typed.1
lanes_are (Beat.E x) typed = tt
lanes_are x typed = typed

typed_is : {w : ℕ} (x : Beat w) → rules.IsTyped x → manager.IsTyped x
typed_is (Beat.A x) typed = typed
typed_is x typed = tt

same_channel_of : {w : ℕ} (m : Message w) (i : ℕ) → channel_of (beat_of m i) ≡ channel_of (beat_of m 0)
same_channel_of m i = grind arith

same_outside : {w : ℕ} (blocks : ℕ) (m : Message w) (i : ℕ) → is_outside blocks (beat_of m i) ≡ is_outside blocks
    (beat_of m 0)
same_outside blocks m i = grind arith

-- of a channel on which clients send
abbrev pub IsOfClient : {w : ℕ} → Message w → Type 0
IsOfClient (Message.B m) = ⊥
IsOfClient (Message.D m) = ⊥
IsOfClient _ = ⊤

unspoiled : {w : ℕ} (m : Message w) (i : ℕ) → IsOfClient m → corrupt_in m ≡ 0 → is_spoiled (beat_of m i) ≡ false
unspoiled m i e f = grind (arith, no_bit)

pub good-message : {w : ℕ} (config : Config) (c : ℕ) {l : Level} {m : Message w} → IsWidth w
    → level_of config c ≡ Some l → IsSound l m → IsOfClient m
    → is_outside config.blocks (beat_of m 0) ≡ false → HasBlock m → AreGood config c m
good-message {w} config c {l} {m} width level sound ours inside long i lt =
    let typed : rules.IsTyped (beat_of m i) = typed-beat m i width long lt in
    record {
      sound = record {
        lawful = rw level (cc (same_channel_of m i, legal_beat l (channel_of (beat_of m 0)) m i sound.is_legal lt));
        inside = same_outside config.blocks m i ∙ inside;
        clean = unspoiled m i ours sound.is_clean;
        typed = typed_is _ typed;
      };
      lanes = lanes_are _ typed;
    }

-- ---- messages that the manager hands out

pub good-handed : {w : ℕ} (config : Config) (handed : Handed w) → IsWidth w → Each (IsHandable config) handed
    → Each (λ x. (i : ℕ) → i < beats_of x.1 → IsGood config x.0.0 (beat_of x.1 i)) handed
good-handed config [] width each = tt
good-handed config (x ∷ handed) width each = (
  (λ i lt. record {
    sound = each.0.beats i lt;
    lanes = lanes_are _ (typed-beat x.1 i width each.0.filled lt);
  }),
  good-handed config handed width each.1,
)

-- ---- the terms of a client

pub level-terms : (config : Config) (c : ℕ) (terms : EndConfig) → terms_at config c ≡ Some terms
    → (level_of config c ≡ Some terms.level) × (terms.blocks ≡ config.blocks)
level-terms config c terms e = grind arith

-- ---- what a client is asked for

copied_release : (w : ℕ) (p : Prune) (source n : ℕ) (copy : List ℕ) → length copy ≡ 64
    → HasBlock {w = w} (release p source n copy) × IsOfClient {w = w} (release p source n copy)
copied_release w p source n copy e = grind arith

release_inside : (w blocks : ℕ) (p : Prune) (source n : ℕ) (copy : List ℕ) → nat_le blocks n ≡ false
    → is_outside blocks (beat_of {w = w} (release p source n copy) 0) ≡ false
release_inside w blocks p source n copy e = grind (arith, same_block)

-- what a message that a client hands out is besides sound
pub record IsFit {w : ℕ} (blocks : ℕ) (m : Message w) : Type 0 where
  pub long : HasBlock m
  pub ours : IsOfClient m
  pub inside : is_outside blocks (beat_of m 0) ≡ false

abbrev pub IsFitIfAny : {w : ℕ} → ℕ → Option (Message w) → Type 0
IsFitIfAny blocks None = ⊤
IsFitIfAny blocks (Some m) = IsFit blocks m

first_false : (x y : Bool) → (x || y) ≡ false → x ≡ false
first_false x y e = grind arith

fit_load : {w : ℕ} (blocks address size : ℕ) (p : Perm) (e : Endpoint w)
    → IsFitIfAny blocks (load address size p e).message
fit_load blocks address size p e = grind arith

fit_store : {w : ℕ} (blocks address size value : ℕ) (p : Perm) (e : Endpoint w)
    → IsFitIfAny blocks (store address size value p e).message
fit_store blocks address size value p e = grind arith

fit_done : {w : ℕ} {terms : EndConfig} (op : Op w) {e : Endpoint w} → NotBusy terms op e → IsTypedOp op
    → ((n : ℕ) → length (copy_at e n) ≡ 64) → IsFitIfAny terms.blocks (done terms op e).message
fit_done {terms} (Op.Load address size) {e} free typed copies =
    fit_load terms.blocks address size (held_at e (block_at address)) e
fit_done {terms} (Op.Store address size value) {e} free typed copies =
    fit_store terms.blocks address size value (held_at e (block_at address)) e
fit_done {terms} (Op.Acquire n g) free typed copies =
    record { long = refl; ours = tt; inside = rw (same_block n) (first_false (nat_le terms.blocks n) _ free.b5) }
fit_done {terms} (Op.AcquireWhole n bytes) free typed copies =
    record { long = refl; ours = tt; inside = rw (same_block n) (first_false (nat_le terms.blocks n) _ free.b5) }
fit_done {w} {terms} (Op.Release n p) {e} free typed copies =
    let s = source_or_0 (free_release terms e.past) in
    let one = copied_release w p s n _ (copies n) in
    record {
      long = one.0;
      ours = one.1;
      inside = release_inside w _ p s n (copy_at e n) (first_false (nat_le terms.blocks n) _ free.b5);
    }
fit_done {terms} (Op.Access (Message.A m)) free typed copies =
    record { long = typed; ours = tt; inside = first_false (nat_le terms.blocks (block_at m.address)) _ free.b5 }
fit_done (Op.Access (Message.B m)) free typed copies = tt
fit_done (Op.Access (Message.C m)) free typed copies = tt
fit_done (Op.Access (Message.D m)) free typed copies = tt
fit_done (Op.Access (Message.E m)) free typed copies = tt

pub fit-asked : {w : ℕ} (terms : EndConfig) (op : Op w) (e : Endpoint w) → IsTypedOp op
    → ((n : ℕ) → length (copy_at e n) ≡ 64) → IsFitIfAny terms.blocks (asked terms op e).message
fit-asked terms op e typed copies = asked-cases terms op e (λ o. IsFitIfAny terms.blocks o.message) (λ busy. tt)
    (λ free. fit_done op free typed copies)

-- ---- what is delivered to a client

ack_fit : (w blocks : ℕ) (opcode : OpB) (p : Perm) (r : Report) (n : ℕ) (copy : List ℕ) → length copy ≡ 64
    → nat_le blocks n ≡ false → IsFit {w = w} blocks (probe_ack opcode p r n copy)
ack_fit w blocks opcode p r n copy long e = probe_ack-cases opcode p r n copy (λ m. IsFit {w = w} blocks m)
    (record { long = long; ours = tt; inside = rw (same_block n) e })
    (record { long = refl; ours = tt; inside = rw (same_block n) e })

abbrev pub IsFitAnswer : {w : ℕ} → ℕ → Result (Verdict × Option (Message w)) Rule → Type 0
IsFitAnswer blocks (Ok v) = IsFitIfAny blocks v.1
IsFitAnswer blocks (Err rule) = ⊤

ended_fit : {w : ℕ} (blocks : ℕ) (opcode : OpD) (x : BeatD w) (f : Finish) (e : Endpoint w)
    → IsFitAnswer blocks (ended opcode x f e).answer
ended_fit blocks OpD.Grant x f e = record { long = tt; ours = tt; inside = refl }
ended_fit blocks OpD.GrantData x f e = record { long = tt; ours = tt; inside = refl }
ended_fit blocks opcode x f e = tt

pub fit-taken : {w : ℕ} (blocks : ℕ) (x : Beat w) (e : Endpoint w) → is_outside blocks x ≡ false
    → ((n : ℕ) → length (copy_at e n) ≡ 64) → IsFitAnswer blocks (taken x e).answer
fit-taken blocks (Beat.A x) e inside copies = tt
fit-taken {w} blocks (Beat.B x) e inside copies = ack_fit w blocks x.opcode (held_at e (block_at x.address))
    (report_for x (held_at e (block_at x.address))) _ _ (copies (block_at x.address)) inside
fit-taken blocks (Beat.C x) e inside copies = tt
fit-taken {w} blocks (Beat.D x) e inside copies =
    let o : Offered w = responded x (request_of x.source e.past) (payload_of (Beat.D x ∷ unfinished Channel.D e.past)) e
    in
    let go : (y : Bool) → IsFitAnswer blocks (if y then o else silent Verdict.Taken
    (with_past (Beat.D x ∷ e.past) e)).answer = elim [ true ↦ ended_fit blocks x.opcode x _ _ | false ↦ tt ] in
    go (ends (Beat.D x) e.past)
fit-taken blocks (Beat.E x) e inside copies = tt

-- ---- copies have 64 bytes

copy_of : (o : Option (List ℕ)) → is_some o ≡ false → length (unwrap_or o zeros) ≡ 64
copy_of o e = grind arith

pub copy-long : {w : ℕ} {config : Config} {log : Log w} {mail : AccessMessages w} {request : ℕ → MessageA w}
    {s : State (List ℕ)} {sys : System w}
    → SimulationRelation config log mail request s sys → (c n : ℕ) → length (copy_at (sys.clients c) n) ≡ 64
copy-long {w} {s} {sys} h c n = go ((s.block n).pair c).held refl
  where
    there : same_perm ((s.block n).pair c).held Perm.None ≡ false → length (copy_at (sys.clients c) n) ≡ 64
    there e = cc (h.copies c n e, (h.invariant.blocks n).copies c e, (h.sized n).truth)

    go : (p : Perm) → ((s.block n).pair c).held ≡ p → length (copy_at (sys.clients c) n) ≡ 64
    go Perm.None e = copy_of ((sys.clients c).copies n) (cc ((h.kept c).copies_held n, (h.known c).held_is n))
    go p e = there (ap (λ p. same_perm p Perm.None) e)

-- ---- what is handed out

abbrev AllGood : {w : ℕ} → Config → System w → Type 0
AllGood config sys = (d : ℕ) (at : Channel) → All (IsGood config d) (sys.channels d at)

one_good : {w : ℕ} (config : Config) (c : ℕ) (m : Option (Message w)) (sys : System w) (terms : client.EndConfig)
    → IsWidth w → terms_at config c ≡ Some terms → IsSoundIfAny terms.level m → IsFitIfAny config.blocks m
    → AllGood config sys → AllGood config (with_messages (handed_by c m) sys)
one_good config c None sys terms width known sound fit before d at = all-messages (IsGood config) [] sys tt before d at
one_good config c (Some m) sys terms width known sound fit before d at = all-messages (IsGood config) _ sys
    (good-message config c width (level-terms config c terms known).0 sound fit.ours fit.inside fit.long, tt) before d
    at

judged_good : {w : ℕ} (config : Config) (c : ℕ) (ch : Channel) (x : Beat w) (queue : List (Beat w))
    (a : Result (Verdict × Option (Message w)) Rule) (e : client.Endpoint w) (sys : System w) (terms : client.EndConfig)
    → IsWidth w → terms_at config c ≡ Some terms → IsSoundAnswer terms.level a → IsFitAnswer config.blocks a
    → sys.channels c ch ≡ x ∷ queue → AllGood config sys → AllGood config (judged a c ch x queue e sys).after
judged_good config c ch x queue (Ok (Verdict.Taken, m)) e sys terms width known sound fit first before d at = one_good
    config c m _ terms width known sound fit (all-popped (IsGood config) c ch x queue sys first before) d at
judged_good config c ch x queue (Ok (Verdict.Done source finish, m)) e sys terms width known sound fit first before d
    at = one_good config c m _ terms width known sound fit
    (all-popped (IsGood config) c ch x queue sys first before) d at
judged_good config c ch x queue a e sys terms width known sound fit first before d at = before d at

manager_good : {w : ℕ} (config : Config) (link : Link) (ch : Channel) (x : Beat w) (queue : List (Beat w))
    (j : manager_offer.Judgement) (e : manager_end.End w)
    (sys : System w) → IsWidth w → manager.IsSound config (link, x)
    → Each (manager.IsSound config) e.trace → sys.channels link.0 ch ≡ x ∷ queue → AllGood config sys
    → AllGood config (manager_took link.0 ch x queue (manager_offer.offered_as j config link x e) sys).after
manager_good config link ch x queue (manager_offer.Breaks rule) e sys width sound trace first before d at = before d at
manager_good config link ch x queue manager_offer.Waits e sys width sound trace first before d at = before d at
manager_good config link ch x queue manager_offer.Passes e sys width sound trace first before d at = all-messages
    (IsGood config) _ (with_manager (manager_offer.taken link x
    (manager_reaction.reaction config link x e) e) (with_channel link.0 ch queue sys)) (good-handed config
    (manager_reaction.reaction config link x e).handed width (reaction_handable config link x e width sound trace))
    (all-popped (IsGood config) link.0 ch x queue sys first before) d at

-- ---- an event

good-after : {w : ℕ} {config : Config} {log : Log w} {mail : AccessMessages w} {request : ℕ → MessageA w}
    {s : State (List ℕ)} {sys : System w} → IsWidth w → SimulationRelation config log mail request s sys
    → (event : Event w) → IsTyped event → AllGood config (stepped config event sys).after
unfolding stepped manager_offer.offered
good-after {w} {config} {sys} width h event typed = go (terms_at config (client_of event)) refl event refl typed
  where
    before : AllGood config sys
    before d at k y lt = record { sound = h.sound d at k y lt; lanes = h.typed d at k y lt }

    asked_good : (c : ℕ) (o : Op w) (terms : client.EndConfig) → terms_at config c ≡ Some terms → IsTypedOp o
        → AllGood config (with_messages (handed_by c (ask.asked terms o (sys.clients c)).message)
        (with_client c (ask.asked terms o (sys.clients c)).after sys))
    asked_good c o terms known typed_op =
        let fitted : terms.blocks ≡ config.blocks → IsFitIfAny terms.blocks (ask.asked terms o (sys.clients c)).message
        → IsFitIfAny config.blocks (ask.asked terms o (sys.clients c)).message =
        λ e f. subst (λ n. IsFitIfAny n (ask.asked terms o (sys.clients c)).message) e f in
        one_good config c _ _ terms width known (asked-sound terms o (sys.clients c) width) (fitted
        (level-terms config c terms known).1 (fit-asked terms o (sys.clients c) typed_op (copy-long h c))) before

    offered_fit : (c : ℕ) (ch : Channel) (x : Beat w) (terms : client.EndConfig) → terms_at config c ≡ Some terms
        → IsFitAnswer config.blocks (offer.offered terms ch x (sys.clients c)).answer
    offered_fit c ch x terms known =
        let fitted : terms.blocks ≡ config.blocks → IsFitAnswer terms.blocks (offer.offered terms ch x
        (sys.clients c)).answer → IsFitAnswer config.blocks (offer.offered terms ch x (sys.clients c)).answer = λ e f.
        subst (λ n. IsFitAnswer n (offer.offered terms ch x (sys.clients c)).answer) e f in
        let same = (level-terms config c terms known).1 in
        fitted same (offered-cases terms ch x (sys.clients c) (λ o. IsFitAnswer terms.blocks o.answer) (λ rule. tt) tt
        (λ passed. fit-taken _ x _ passed.inside (copy-long h c)))

    delivered_good : (c : ℕ) (ch : Channel) (terms : client.EndConfig) (beats : List (Beat w))
        → sys.channels c ch ≡ beats → terms_at config c ≡ Some terms
        → AllGood config (delivered config terms c ch beats sys).after
    delivered_good c ch terms [] first known = before
    delivered_good c ch terms (x ∷ queue) first known = to (is_to_client ch)
      where
        to : (y : Bool) → AllGood config (if y then client_took c ch x queue (offer.offered terms ch x (sys.clients c))
            sys else manager_took c ch x queue
            (manager_offer.offered config (record { 0 = c }) ch x sys.manager) sys).after
        to true = judged_good config c ch x queue _ (offer.offered terms ch x (sys.clients c)).after sys terms width
            known (offered-sound terms ch x (sys.clients c)) (offered_fit c ch x terms known) first before
        to false =
            let same : sys.channels c ch ≡ x ∷ queue → All (IsGood config c) (sys.channels c ch)
            → All (IsGood config c) (x ∷ queue) = λ e f. rw e at f in
            let head : IsGood config c x = All-head (IsGood config c) x queue (same first (before c ch)) in
            manager_good config _ ch x queue (manager_offer.judged config (record { 0 = c }) ch x
            sys.manager) _ sys width head.sound h.manager_kept.sound first before

    go : (o : Option client.EndConfig) → terms_at config (client_of event) ≡ o → (ev : Event w) → ev ≡ event
        → IsTyped ev → AllGood config (stepped_at config o ev sys).after
    go None e ev f ty = before
    go (Some terms) e (Ask c o) f ty = asked_good c o terms (rw (← f) at e) ty
    go (Some terms) e (Deliver link ch) f ty = delivered_good link.0 ch terms (sys.channels link.0 ch) refl
        (rw (← f) at e)

pub sound-after : {w : ℕ} {config : Config} {log : Log w} {mail : AccessMessages w} {request : ℕ → MessageA w}
    {s : State (List ℕ)} {sys : System w} → IsWidth w
    → SimulationRelation config log mail request s sys → (event : Event w) → IsTyped event → (c : ℕ) (ch : Channel)
    → All (λ x. manager.IsSound config (record { 0 = c }, x)) ((stepped config event sys).after.channels c ch)
sound-after width h event typed c ch k y lt = (good-after width h event typed c ch k y lt).sound

pub typed-after : {w : ℕ} {config : Config} {log : Log w} {mail : AccessMessages w} {request : ℕ → MessageA w}
    {s : State (List ℕ)} {sys : System w} → IsWidth w
    → SimulationRelation config log mail request s sys → (event : Event w) → IsTyped event → (c : ℕ) (ch : Channel)
    → All AreLanes ((stepped config event sys).after.channels c ch)
typed-after width h event typed c ch k y lt = (good-after width h event typed c ch k y lt).lanes
