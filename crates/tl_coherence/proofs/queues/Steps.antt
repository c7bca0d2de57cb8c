-- What a step changes, part by part.
-- The whole after an event: what each channel gained and lost, and what each receiver has of the first messages.
use Rattle.std.proofs.Common.{◌≡◌, ℕ, Bool, true, false, ◌&&◌, ◌==◌, if◌then◌else◌, List, [], ◌∷◌, ◌++◌, Option, Some}
use Rattle.std.proofs.Common.{None, Result, Ok, Err, refl, sym, ◌∙◌, ap, arith, ◌⊎◌, inl, inr, ne_eqb}
use Rattle.tl_coherence.proofs
use proofs.Imports.{cases_eq, Beat, Link, Channel, Message, beats_of, History, channel_of, grown, unfinished, completes}
use proofs.Imports.{Config, Rule, on_link, beats_from, Op, Finish, Verdict, EndConfig, Endpoint, offered, End, Handed}
use proofs.Imports.{Ask, Deliver, Outcome, receiver, client_took, delivered, handed_by, is_to_client, judged}
use proofs.Imports.{manager_took, only, replied, stepped, System, channel_of_message, same_channel, terms_at}
use proofs.Imports.{with_channel, with_client, with_manager, with_message, with_messages}
use Rattle.tl_burst.specs.statement.Messages.{on}
use Rattle.tl_client.specs.statement.Endpoint as client
use Rattle.tl_manager.specs.statement.End as manager_end
use Rattle.tl_client.specs.statement.Ask.{asked}
use Rattle.tl_manager.specs.statement.Offer as manager
use proofs.queues.Tokens.{same_number}
use proofs.queues.Channels.{behind, pushes_at, IsTaken, IsHanded, same_channel-is}

-- messages that are handed out change the channels alone
pub clients-with_messages : {w : ℕ} (handed : Handed w) (s : System w) → (with_messages handed s).clients ≡ s.clients
unfolding with_messages
clients-with_messages [] s = refl
clients-with_messages (x ∷ handed) s = clients-with_messages handed (with_message x.0.0 x.1 s)

pub manager-with_messages : {w : ℕ} (handed : Handed w) (s : System w) → (with_messages handed s).manager ≡ s.manager
unfolding with_messages
manager-with_messages [] s = refl
manager-with_messages (x ∷ handed) s = manager-with_messages handed (with_message x.0.0 x.1 s)

-- ---- a client is asked

pub stepped-asked : {w : ℕ} (config : Config) (k : ℕ) (op : Op w) (s : System w) (t : EndConfig)
    → terms_at config k ≡ Some t → stepped config (Ask k op) s ≡ replied k (asked t op (s.clients k)) s
unfolding stepped
stepped-asked config k op s t e = rw e refl

pub same_channel-refl : (c : Channel) → same_channel c c ≡ true
same_channel-refl c = grind arith

-- ---- a beat is delivered

pub stepped-empty : {w : ℕ} (config : Config) (link : Link) (ch : Channel) (s : System w) (t : EndConfig)
    → terms_at config link.0 ≡ Some t → s.channels link.0 ch ≡ []
    → stepped config (Deliver link ch) s ≡ only Outcome.Empty s
unfolding stepped
stepped-empty config link ch s t e none = rw (e, none) refl

pub stepped-to-client : {w : ℕ} (config : Config) (link : Link) (ch : Channel) (s : System w) (t : EndConfig)
    (x : Beat w) (rest : List (Beat w))
    → terms_at config link.0 ≡ Some t → s.channels link.0 ch ≡ x ∷ rest → is_to_client ch ≡ true
    → stepped config (Deliver link ch) s ≡ client_took link.0 ch x rest (offered t ch x (s.clients link.0)) s
unfolding stepped
stepped-to-client config link ch s t x rest e some up = rw (e, some, up) refl

pub stepped-to-manager : {w : ℕ} (config : Config) (link : Link) (ch : Channel) (s : System w) (t : EndConfig)
    (x : Beat w) (rest : List (Beat w))
    → terms_at config link.0 ≡ Some t → s.channels link.0 ch ≡ x ∷ rest → is_to_client ch ≡ false
    → stepped config (Deliver link ch) s ≡ manager_took link.0 ch x rest (manager.offered config link ch x s.manager) s
unfolding stepped
stepped-to-manager config link ch s t x rest e some down = rw (e, some, down) refl

-- the delivery of a first beat stalls, moves it, or ends something with it
pub first-outcome : {w : ℕ} (P : Outcome w → Type 0) (config : Config) (terms : EndConfig) (link : ℕ) (ch : Channel)
    (x : Beat w) (rest : List (Beat w)) (s : System w) → P Outcome.Stalled → P (Outcome.Moved x)
    → ((source : ℕ) (f : Finish) → P (Outcome.Done x source f))
    → P (delivered config terms link ch (x ∷ rest) s).outcome
first-outcome {w} P config terms link ch x rest s stalled moved done = go (is_to_client ch)
  where
    of_client : (r : Result (Verdict × Option (Message w)) Rule) (e : Endpoint w)
        → P (judged r link ch x rest e s).outcome
    of_client (Err rule) e = stalled
    of_client (Ok (Verdict.Stalled, m)) e = stalled
    of_client (Ok (Verdict.Taken, m)) e = moved
    of_client (Ok (Verdict.Done source f, m)) e = done source f

    of_manager : (a : manager.Reception w × End w) → P (manager_took link ch x rest a s).outcome
    of_manager (manager.Refused rule, e) = stalled
    of_manager (manager.Stalled, e) = stalled
    of_manager (manager.Sent handed, e) = moved

    go : (b : Bool) → P (if b then client_took link ch x rest (offered terms ch x (s.clients link)) s else manager_took
        link ch x rest (manager.offered config (record { 0 = link }) ch x s.manager) s).outcome
    go true = of_client (offered terms ch x (s.clients link)).answer _
    go false = of_manager _

-- ---- one message is handed out, or none

abbrev pub pushes_of : {w : ℕ} → Option (Message w) → Channel → Option (Message w)
pushes_of None at = None
pushes_of (Some m) at = if same_channel at (channel_of_message m) then Some m else None

pub channels-handed : {w : ℕ} (l : ℕ) (m : Option (Message w)) (s : System w) (d : ℕ) (at : Channel)
    → (with_messages (handed_by l m) s).channels d at ≡ behind (pushes_at l (pushes_of m) d at) (s.channels d at)
unfolding with_messages
channels-handed l None s d at =
    let go : (b : Bool) → s.channels d at ≡ behind (if b then None else None) (s.channels d at) =
    elim [ true ↦ refl | false ↦ refl ] in
    go (d == l)
channels-handed {w} l (Some m) s d at =
    let there : (b : Bool) → b ≡ false → (if b && same_channel at (channel_of_message m) then
    s.channels l (channel_of_message m) ++ (beats_from m 0 (beats_of m)) else s.channels d at)
    ≡ behind (if b then pushes_of (Some m) at else None) (s.channels d at) = λ b e. rw e refl in
    elim (cases_eq d l) [
      | inl same ↦ rw same (here (l == l) (same_number l) (same_channel at (channel_of_message m)) refl)
      | inr other ↦ there (d == l) (ne_eqb d l other)
    ]
  where
    here : (b : Bool) → b ≡ true → (y : Bool) → same_channel at (channel_of_message m) ≡ y
        → (if b && y then s.channels l (channel_of_message m) ++ (beats_from m 0 (beats_of m)) else s.channels l at)
        ≡ behind (if b then (if y then Some m else None) else None) (s.channels l at)
    here b e true f = rw (e, same_channel-is at _ f) refl
    here b e false f = rw e refl

-- ---- the whole after a beat was taken

-- What a beat leaves that is taken from channel ch of client c's link, whether or not it completes its message.
pub record IsLanded {w : ℕ} (c : ℕ) (ch : Channel) (x : Beat w) (queue : List (Beat w)) (pushes : ℕ → Channel
    → Option (Message w)) (sys sys' : System w) : Type 0 where
  pub first : sys.channels c ch ≡ x ∷ queue
  pub channels : (d : ℕ) (at : Channel)
      → sys'.channels d at ≡ behind (pushes d at) (if (d == c) && same_channel at ch then queue else sys.channels d at)
  pub rests : (d : ℕ) (at : Channel)
      → unfinished at (receiver at d sys') ≡ (if (d == c) && same_channel at ch then grown x
      (unfinished at (receiver at d sys)) else unfinished at (receiver at d sys))

-- with the last beat of a message its receiver has nothing of the next
pub rests-ended : {w : ℕ} (c : ℕ) (ch : Channel) (x : Beat w) (sys : System w)
    → completes x (unfinished ch (receiver ch c sys)) ≡ true → (d : ℕ) (at : Channel)
    → (if (d == c) && same_channel at ch then grown x (unfinished at (receiver at d sys)) else unfinished at
    (receiver at d sys)) ≡ (if (d == c) && same_channel at ch then [] else unfinished at (receiver at d sys))
rests-ended {w} c ch x sys last d at = ended (cases_eq d c) (same_channel at ch) refl
  where
    rest : ℕ → Channel → List (Beat w)
    rest i j = unfinished j (receiver j i sys)

    ended : (d ≡ c) ⊎ (d ≡ c → ⊥) → (y : Bool) → same_channel at ch ≡ y
        → (if (d == c) && y then grown x (rest d at) else rest d at) ≡ (if (d == c) && y then [] else rest d at)
    ended e y f = grind arith

pub taken-landed : {w : ℕ} {c : ℕ} {ch : Channel} {x : Beat w} {queue : List (Beat w)} {pushes : ℕ → Channel
    → Option (Message w)} {sys sys' : System w} → IsLanded c ch x queue pushes sys sys'
    → completes x (unfinished ch (receiver ch c sys)) ≡ true → IsTaken c ch x queue pushes sys sys'
taken-landed {c} {ch} {x} {sys} is last = record {
  first = is.first;
  last = last;
  channels = is.channels;
  rests = λ d at. is.rests d at ∙ rests-ended c ch x sys last d at;
}

-- a beat is of one channel
abbrev pub IsOn : {w : ℕ} → Channel → Beat w → Type 0
IsOn ch x = (at : Channel) → on at x ≡ same_channel at ch

pub on_own_channel : {w : ℕ} (x : Beat w) → IsOn (channel_of x) x
on_own_channel x = grind arith

-- a channel to a client isn't one to the manager
apart_channels : (a b : Channel) → (is_to_client a ≡ is_to_client b → ⊥) → same_channel a b ≡ false
apart_channels a b apart =
    let go : (x : Bool) → same_channel a b ≡ x → x ≡ false =
    elim [ false ↦ λ e. refl | true ↦ λ e. absurd (apart (ap is_to_client (same_channel-is a b e))) ] in
    go (same_channel a b) refl

grown_history : {w : ℕ} (ch at : Channel) (x : Beat w) (t : History w) → IsOn ch x
    → unfinished at (x ∷ t) ≡ (if same_channel at ch then grown x (unfinished at t) else unfinished at t)
unfolding unfinished
grown_history ch at x t is = rw (is at) refl

-- ---- at a client

-- what a client's end has of each message
abbrev pub HasHeard : {w : ℕ} → Beat w → client.Endpoint w → client.Endpoint w → Type 0
HasHeard x e e' = (at : Channel) → unfinished at e'.past ≡ unfinished at (x ∷ e.past)

pub landed-client : {w : ℕ} (c : ℕ) (ch : Channel) (x : Beat w) (queue : List (Beat w)) (m : Option (Message w))
    (e : client.Endpoint w) (sys : System w) → is_to_client ch ≡ true → sys.channels c ch ≡ x ∷ queue → IsOn ch x
    → HasHeard x (sys.clients c) e → IsLanded c ch x queue (pushes_at c (pushes_of m)) sys
    (with_messages (handed_by c m) (with_client c e (with_channel c ch queue sys)))
landed-client {w} c ch x queue m e sys to_client first is heard =
    record { first = first; channels = λ d at. channels-handed c m base d at; rests = rests }
  where
    base : System w
    base = with_client c e (with_channel c ch queue sys)

    after : System w
    after = with_messages (handed_by c m) base

    clients_are : after.clients ≡ base.clients
    clients_are = clients-with_messages (handed_by c m) base

    manager_is : after.manager ≡ sys.manager
    manager_is = manager-with_messages (handed_by c m) base

    ours : (d : ℕ) (at : Channel) → (d ≡ c) ⊎ (d ≡ c → ⊥)
        → unfinished at (after.clients d).past ≡ (if (d == c) && same_channel at ch then grown x
        (unfinished at (sys.clients d).past) else unfinished at (sys.clients d).past)
    ours d at (inl same) = rw same (ap (λ f. unfinished at (f c).past) clients_are
        ∙ ap (λ b. unfinished at (if b then e else sys.clients c).past) (same_number c) ∙ heard at
        ∙ grown_history ch at x (sys.clients c).past is ∙ sym (ap (λ b. if b && same_channel at ch then grown x
        (unfinished at (sys.clients c).past) else unfinished at (sys.clients c).past) (same_number c)))
    ours d at (inr other) = ap (λ f. unfinished at (f d).past) clients_are ∙ ap (λ b. unfinished at
        (if b then e else sys.clients d).past) (ne_eqb d c other) ∙ sym (ap (λ b. if b && same_channel at ch then grown
        x (unfinished at (sys.clients d).past) else unfinished at (sys.clients d).past) (ne_eqb d c other))

    theirs : (d : ℕ) (at : Channel) → same_channel at ch ≡ false → unfinished at (on_link d after.manager.trace)
        ≡ (if (d == c) && same_channel at ch then grown x (unfinished at (on_link d sys.manager.trace)) else unfinished
        at (on_link d sys.manager.trace))
    theirs d at f =
        let unless : (b : Bool) → unfinished at (on_link d sys.manager.trace)
        ≡ (if b && false then grown x (unfinished at (on_link d sys.manager.trace)) else unfinished at
        (on_link d sys.manager.trace)) = elim [ true ↦ refl | false ↦ refl ] in
        rw f (ap (λ b. unfinished at (on_link d b.trace)) manager_is ∙ unless (d == c))

    not_here : (ch at : Channel) → is_to_client ch ≡ true → is_to_client at ≡ false → same_channel at ch ≡ false
    not_here ch at a b = apart_channels at ch (λ e. cc)

    rests : (d : ℕ) (at : Channel)
        → unfinished at (receiver at d after) ≡ (if (d == c) && same_channel at ch then grown x
        (unfinished at (receiver at d sys)) else unfinished at (receiver at d sys))
    rests d Channel.B = ours d Channel.B (cases_eq d c)
    rests d Channel.D = ours d Channel.D (cases_eq d c)
    rests d at = theirs d at (not_here ch at to_client refl)

-- a client is asked: its message is handed out, if there is one
pub handed-client : {w : ℕ} (c : ℕ) (m : Option (Message w)) (e : client.Endpoint w) (sys : System w)
    → ((at : Channel) → unfinished at e.past ≡ unfinished at (sys.clients c).past)
    → IsHanded (pushes_at c (pushes_of m)) sys (with_messages (handed_by c m) (with_client c e sys))
handed-client {w} c m e sys same = record { channels = λ d at. channels-handed c m base d at; rests = rests }
  where
    base : System w
    base = with_client c e sys

    after : System w
    after = with_messages (handed_by c m) base

    ours : (d : ℕ) (at : Channel) → (d ≡ c) ⊎ (d ≡ c → ⊥) → unfinished at (after.clients d).past ≡ unfinished at
        (sys.clients d).past
    ours d at (inl here) = rw here (ap (λ f. unfinished at (f c).past) (clients-with_messages (handed_by c m) base)
        ∙ ap (λ b. unfinished at (if b then e else sys.clients c).past) (same_number c) ∙ same at)
    ours d at (inr other) = ap (λ f. unfinished at (f d).past) (clients-with_messages (handed_by c m) base)
        ∙ ap (λ b. unfinished at (if b then e else sys.clients d).past) (ne_eqb d c other)

    theirs : (d : ℕ) (at : Channel) → unfinished at (on_link d after.manager.trace) ≡ unfinished at
        (on_link d sys.manager.trace)
    theirs d at = cc (manager-with_messages (handed_by c m) base)

    rests : (d : ℕ) (at : Channel) → unfinished at (receiver at d after) ≡ unfinished at (receiver at d sys)
    rests d Channel.B = ours d Channel.B (cases_eq d c)
    rests d Channel.D = ours d Channel.D (cases_eq d c)
    rests d at = theirs d at

-- ---- at the manager

-- what the manager's end has of each message that clients send
abbrev pub HasTaken : {w : ℕ} → ℕ → Beat w → manager_end.End w → manager_end.End w → Type 0
HasTaken c x e e' = (d : ℕ) (at : Channel) → is_to_client at ≡ false
    → unfinished at (on_link d e'.trace) ≡ unfinished at (if c == d then x ∷ on_link d e.trace else on_link d e.trace)

-- whatever it hands out, it has this beat too
pub rests-manager : {w : ℕ} (c : ℕ) (ch : Channel) (x : Beat w) (queue : List (Beat w)) (handed : Handed w)
    (e : manager_end.End w) (sys : System w)
    → is_to_client ch ≡ false → IsOn ch x → HasTaken c x sys.manager e → (d : ℕ) (at : Channel)
    → unfinished at (receiver at d (with_messages handed (with_manager e (with_channel c ch queue sys))))
    ≡ (if (d == c) && same_channel at ch then grown x (unfinished at (receiver at d sys)) else unfinished at
    (receiver at d sys))
rests-manager {w} c ch x queue handed e sys to_manager is heard = rests
  where
    base : System w
    base = with_manager e (with_channel c ch queue sys)

    after : System w
    after = with_messages handed base

    theirs : (d : ℕ) (at : Channel) → is_to_client at ≡ false → (d ≡ c) ⊎ (d ≡ c → ⊥)
        → unfinished at (on_link d after.manager.trace) ≡ (if (d == c) && same_channel at ch then grown x
        (unfinished at (on_link d sys.manager.trace)) else unfinished at (on_link d sys.manager.trace))
    theirs d at up (inl same) = rw same (ap (λ b. unfinished at (on_link c b.trace)) (manager-with_messages handed base)
        ∙ heard c at up ∙ ap (λ b. unfinished at (if b then x ∷ on_link c sys.manager.trace else on_link c
        sys.manager.trace)) (same_number c) ∙ grown_history ch at x (on_link c sys.manager.trace) is
        ∙ sym (ap (λ b. if b && same_channel at ch then grown x (unfinished at (on_link c sys.manager.trace))
        else unfinished at (on_link c sys.manager.trace)) (same_number c)))
    theirs d at up (inr other) =
        cc ((manager-with_messages handed base), heard d at up, ne_eqb c d (λ f. other (sym f)), ne_eqb d c other)

    not_here : (ch at : Channel) → is_to_client ch ≡ false → is_to_client at ≡ true → same_channel at ch ≡ false
    not_here ch at a b = apart_channels at ch (λ e. cc)

    ours : (d : ℕ) (at : Channel) → same_channel at ch ≡ false
        → unfinished at (after.clients d).past ≡ (if (d == c) && same_channel at ch then grown x
        (unfinished at (sys.clients d).past) else unfinished at (sys.clients d).past)
    ours d at f =
        let unless : (b : Bool) → unfinished at (sys.clients d).past ≡ (if b && false then grown x (unfinished at
        (sys.clients d).past) else unfinished at (sys.clients d).past) = elim [ true ↦ refl | false ↦ refl ] in
        rw f (cc (clients-with_messages handed base, unless (d == c)))

    rests : (d : ℕ) (at : Channel)
        → unfinished at (receiver at d after) ≡ (if (d == c) && same_channel at ch then grown x
        (unfinished at (receiver at d sys)) else unfinished at (receiver at d sys))
    rests d Channel.B = ours d Channel.B (not_here ch Channel.B to_manager refl)
    rests d Channel.D = ours d Channel.D (not_here ch Channel.D to_manager refl)
    rests d at = theirs d at refl (cases_eq d c)

pub landed-manager : {w : ℕ} (c : ℕ) (ch : Channel) (x : Beat w) (queue : List (Beat w)) (pushes : ℕ → Channel
    → Option (Message w)) (handed : Handed w) (e : manager_end.End w) (sys : System w) → is_to_client ch ≡ false
    → sys.channels c ch ≡ x ∷ queue → IsOn ch x → HasTaken c x sys.manager e
    → ((d : ℕ) (at : Channel) → (with_messages handed (with_manager e (with_channel c ch queue sys))).channels d at
    ≡ behind (pushes d at) ((with_channel c ch queue sys).channels d at))
    → IsLanded c ch x queue pushes sys (with_messages handed (with_manager e (with_channel c ch queue sys)))
landed-manager c ch x queue pushes handed e sys to_manager first is heard pushed =
    record { first = first; channels = pushed; rests = rests-manager c ch x queue handed e sys to_manager is heard }
