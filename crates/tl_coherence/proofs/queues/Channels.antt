-- A kind of message is the same as itself.
-- The beats of a channel after the move of an event: one lemma for all events.
-- The channels after any event: where the tokens that stay show the same messages, and the beats move with the tokens,
-- the channels carry the messages of the tokens.
-- What an event does to the channels at which a message is taken: which tokens stay, and which move.
use Rattle.std.proofs.Common.{◌≡◌, ℕ, ◌+◌, ◌≤◌, Bool, true, false, ◌&&◌, ◌==◌, if◌then◌else◌, List, [], ◌∷◌, ◌++◌}
use Rattle.std.proofs.Common.{Option, Some, None, refl, sym, ◌∙◌, ap, ap₂, arith, ◌⊎◌, inl, inr, eqb-true, ne_eqb, map}
use Rattle.std.proofs.lemmas.List.{map-append}
use Rattle.tl_coherence.proofs
use proofs.Imports.{cases_eq, ⊤, Beat, Channel, IsWidth, beats-positive, Message, beats_of, unfinished, completes}
use proofs.Imports.{beats_from, one_if, IsInvariant, is_asked, is_replied, Answer, Kind, Packet, Request, is, same_kind}
use proofs.Imports.{set, count, State, is_on, on, packet, packets_on, is_transfer, shown, IsCarried, ChannelRelation}
use proofs.Imports.{AreMoved, IsMoved, Move, Pops, Pushes, Stays, AccessMessages, message_of, message_of_kind}
use proofs.Imports.{block_message, receiver, System, same_channel}
use Rattle.tl_coherence.specs.protocol.Protocol.{Link}
use proofs.queues.{Carried.carried-push, Carried.carried-next, Moves.moves_at, Moves.on_same}
use proofs.queues.Tokens.{same_number, set-same, set-other}

pub same_kind_again : (k : Kind) → same_kind k k ≡ true
same_kind_again k = grind arith

-- the beats of a channel before and after, and what the receiver has of the first message: as before; with all
-- beats of a message behind; without the last beat of the first message
abbrev pub IsQueued : {w : ℕ} → Move → (Kind → ℕ → Message w) → List (Beat w) → List (Beat w) → List (Beat w)
    → List (Beat w) → Type 0
IsQueued Stays m q after r rest = (after ≡ q) × (rest ≡ r)
IsQueued (Pushes k n) m q after r rest = (after ≡ q ++ beats_from (m k n) 0 (beats_of (m k n))) × (rest ≡ r)
IsQueued {w} (Pops k n) m q after r rest = (x : Beat w) × (q ≡ x ∷ after) × (completes x r ≡ true) × (rest ≡ [])

-- the tokens that stay
abbrev pub staying : Move → List Packet → List Packet → List Packet
staying (Pops k n) xs ys = ys
staying _ xs ys = xs

pub carried-moved : {w : ℕ} (move : Move) (xs ys : List Packet) (f g : Packet → Message w) (m : Kind → ℕ → Message w)
    (q after r rest : List (Beat w)) → IsWidth w → IsMoved move xs ys → IsQueued move m q after r rest
    → ((k : Kind) (n : ℕ) → move ≡ Pushes k n → g (packet k n) ≡ m k n)
    → map g (staying move xs ys) ≡ map f (staying move xs ys) → IsCarried r (map f xs) q
    → IsCarried rest (map g ys) after
carried-moved Stays xs ys f g m q after r rest width moved queued new kept h = rw (moved, kept, queued.0, queued.1) h
carried-moved {w} (Pushes k n) xs ys f g m q after r rest width moved queued new kept h =
    let messages : map g ys ≡ map f xs ++ m k n ∷ [] = cc (map-append g xs (packet k n ∷ []), new k n refl) in
    rw (messages, queued.0, queued.1) (carried-push r (map f xs) q (m k n) (beats-positive (m k n) width) h)
carried-moved {w} (Pops k n) xs ys f g m q after r rest width moved (x, beats, whole, none) new kept h =
    let same : (ms ns : List (Message w)) → ms ≡ ns → IsCarried r ms q → IsCarried r ns (x ∷ after) =
    λ ms ns e i. rw (← e, ← beats) i in
    let before = same _ _ (ap (map f) moved) h in
    let next = carried-next x r _ _ after (λ i. beats-positive i width) before in
    rw (none, kept) (next.last (eqb-true (next.k + 1) (beats_of (f (packet k n))) (sym next.completes_is ∙ whole))).2

-- ---- tokens that stay

count_behind : (k : Kind) (n : ℕ) (xs : List Packet) (x : Packet) → count k n xs ≤ count k n (xs ++ x ∷ [])
unfolding count
count_behind k n [] x = omega arith
count_behind k n (y ∷ xs) x = omega (arith, count_behind k n xs x)

-- no more of them than there were, and than there are
stay_before : (move : Move) (k : Kind) (n : ℕ) (xs ys : List Packet) → IsMoved move xs ys
    → count k n (staying move xs ys) ≤ count k n xs
unfolding count
stay_before move k n xs ys e = grind arith

stay_after : (move : Move) (k : Kind) (n : ℕ) (xs ys : List Packet) → IsMoved move xs ys
    → count k n (staying move xs ys) ≤ count k n ys
stay_after move k n xs ys e = grind (arith, count_behind)

-- messages of tokens are the same where those of each token that is there are
map_kept : {A : Type 0} (f g : Kind → ℕ → A) (xs : List Packet)
    → ((k : Kind) (n : ℕ) → (count k n xs ≡ 0) ⊎ (g k n ≡ f k n))
    → map (λ x. g x.kind x.number) xs ≡ map (λ x. f x.kind x.number) xs
unfolding count
map_kept f g [] same = refl
map_kept {A} f g (x ∷ xs) same =
    let fewer : (k : Kind) (n : ℕ) → (count k n (x ∷ xs) ≡ 0) ⊎ (g k n ≡ f k n) → (count k n xs ≡ 0) ⊎ (g k n ≡ f k n) =
    λ k n. elim [ inl none ↦ inl (omega (arith, none)) | inr e ↦ inr e ] in
    ap₂ (λ y ys. y ∷ ys) (first (same x.kind x.number)) (map_kept f g xs (λ k n. fewer k n (same k n)))
  where
    first : (count x.kind x.number (x ∷ xs) ≡ 0) ⊎ (g x.kind x.number ≡ f x.kind x.number)
        → g x.kind x.number ≡ f x.kind x.number
    first (inr e) = e
    first (inl none) = absurd (let yes : one_if (is x.kind x.number x) ≡ 1 =
        rw (same_kind_again x.kind, same_number x.number) refl in omega (arith, none, yes))

-- ---- an event

-- What an event does to what tokens stand for: a token that is there before and after it stands for the same message.
-- `n` is the block that changes.
pub record IsShowing {w : ℕ} (caching : ℕ → Bool) (n : ℕ) (moves : ℕ → Channel → Move) (mail mail' : AccessMessages w)
    (s s' : State (List ℕ)) : Type 0 where
  pub before : IsInvariant caching s
  pub after : IsInvariant caching s'
  pub moved : (d : ℕ) → AreMoved (moves d) (s.link d) (s'.link d)
  pub blocks : (i : ℕ) → (i ≡ n → ⊥) → s'.block i ≡ s.block i
  pub same : (d : ℕ) (k : Kind) → is_transfer k ≡ true → shown k d (s.block n) ≡ true → shown k d (s'.block n) ≡ true
      → block_message {w = w} k d n (s'.block n) ≡ block_message k d n (s.block n)
  pub requests : (d i : ℕ) → is_asked (s.uses d i) ≡ true → is_asked (s'.uses d i) ≡ true
      → mail'.request d i ≡ mail.request d i
  pub answers : (d i : ℕ) → is_replied (s.uses d i) ≡ true → is_replied (s'.uses d i) ≡ true
      → mail'.answer d i ≡ mail.answer d i

-- a kind of which there is one where the test says so
not_there : (a b : Bool) (n : ℕ) → n ≤ one_if a → n ≤ one_if b → (n ≡ 0) ⊎ ((a ≡ true) × (b ≡ true))
not_there a b n e f = grind arith

messages-stay : {w : ℕ} {caching : ℕ → Bool} {n : ℕ} {moves : ℕ → Channel → Move} {mail mail' : AccessMessages w}
    {s s' : State (List ℕ)} → IsShowing caching n moves mail mail' s s' → (d : ℕ) (ch : Channel)
    → map (message_of mail' s' d) (staying (moves d ch) (packets_on ch (s.link d)) (packets_on ch (s'.link d)))
    ≡ map (message_of mail s d) (staying (moves d ch) (packets_on ch (s.link d)) (packets_on ch (s'.link d)))
messages-stay {w} {n} {moves} {mail} {mail'} {s} {s'} event d ch = map_kept (λ k i. message_of_kind k mail s d i)
    (λ k i. message_of_kind k mail' s' d i) stay (λ k i. each k i (is_on ch k) refl)
  where
    xs : List Packet
    xs = packets_on ch (s.link d)

    ys : List Packet
    ys = packets_on ch (s'.link d)

    stay : List Packet
    stay = staying (moves d ch) xs ys

    Kept : Kind → ℕ → Type 0
    Kept k i = (count k i stay ≡ 0) ⊎ (message_of_kind k mail' s' d i ≡ message_of_kind k mail s d i)

    fewer : (k : Kind) (i : ℕ) → count k i stay ≤ count k i xs
    fewer k i = stay_before _ k i xs ys (event.moved d ch)

    here : (k : Kind) (i : ℕ) (a b : Bool) → is_on ch k ≡ true → count k i (on k (s.link d)) ≡ one_if a
        → count k i (on k (s'.link d)) ≡ one_if b → (count k i stay ≡ 0) ⊎ ((a ≡ true) × (b ≡ true))
    here k i a b own e f =
        let before : count k i xs ≡ one_if a = sym (ap (count k i) (on_same ch k (s.link d) own)) ∙ e in
        let after : count k i ys ≡ one_if b = sym (ap (count k i) (on_same ch k (s'.link d) own)) ∙ f in
        not_there a b (count k i stay) (omega (arith, fewer k i, before))
        (omega (arith, stay_after _ k i xs ys (event.moved d ch), after))

    transfer : (k : Kind) (i : ℕ) → is_on ch k ≡ true → is_transfer k ≡ true
        → (block_message {w = w} k d i (s'.block i) ≡ block_message k d i (s.block i)) ⊎ (count k i stay ≡ 0)
    transfer k i own t =
        let changed : (count k n stay ≡ 0) ⊎ ((shown k d (s.block n) ≡ true) × (shown k d (s'.block n) ≡ true))
        → (block_message {w = w} k d n (s'.block n) ≡ block_message k d n (s.block n)) ⊎ (count k n stay ≡ 0) =
        elim [ inl none ↦ inr none | inr both ↦ inl (event.same d k t both.0 both.1) ] in
        elim (cases_eq i n) [
          | inl same ↦ rw same (changed (here k n (shown k d (s.block n)) (shown k d (s'.block n)) own
              (event.before.transfers d k t n) (event.after.transfers d k t n)))
          | inr other ↦ inl (ap (block_message k d i) (event.blocks i other))
        ]

    turned : (k : Kind) (i : ℕ) → message_of_kind k mail' s' d i ≡ block_message k d i (s'.block i)
        → message_of_kind k mail s d i ≡ block_message k d i (s.block i)
        → (block_message {w = w} k d i (s'.block i) ≡ block_message k d i (s.block i)) ⊎ (count k i stay ≡ 0) → Kept k i
    turned k i e f (inl same) = inr (e ∙ same ∙ sym f)
    turned k i e f (inr none) = inl none

    asked : (i : ℕ) → (count Request i stay ≡ 0) ⊎ ((is_asked (s.uses d i) ≡ true) × (is_asked (s'.uses d i) ≡ true))
        → Kept Request i
    asked i e = grind arith

    replied : (i : ℕ) → (count Answer i stay ≡ 0)
        ⊎ ((is_replied (s.uses d i) ≡ true) × (is_replied (s'.uses d i) ≡ true)) → Kept Answer i
    replied i e = grind arith

    mine : (k : Kind) (i : ℕ) → is_on ch k ≡ true → Kept k i
    mine Request i own = asked i (here Request i (is_asked (s.uses d i)) (is_asked (s'.uses d i)) own
        (event.before.requests d i) (event.after.requests d i))
    mine Answer i own = replied i (here Answer i (is_replied (s.uses d i)) (is_replied (s'.uses d i)) own
        (event.before.answers d i) (event.after.answers d i))
    mine k i own = turned k i refl refl (transfer k i own refl)

    each : (k : Kind) (i : ℕ) (b : Bool) → is_on ch k ≡ b → Kept k i
    each k i true e = mine k i e
    each k i false e = let none : count k i xs ≡ 0 = event.before.own_kinds d ch k i e in
        inl (omega (arith, none, fewer k i))

-- the beats of all channels move with the tokens
abbrev pub AreQueued : {w : ℕ} → (ℕ → Channel → Move) → AccessMessages w → State (List ℕ) → System w → System w → Type 0
AreQueued moves mail s before after = (d : ℕ) (ch : Channel)
    → IsQueued (moves d ch) (λ k i. message_of mail s d (packet k i)) (before.channels d ch) (after.channels d ch)
    (unfinished ch (receiver ch d before)) (unfinished ch (receiver ch d after))

-- the channels carry the messages of the tokens after every event
pub carried-event : {w : ℕ} {caching : ℕ → Bool} {n : ℕ} {moves : ℕ → Channel → Move} {mail mail' : AccessMessages w}
    {s s' : State (List ℕ)} (sys sys' : System w) → IsWidth w → IsShowing caching n moves mail mail' s s'
    → AreQueued moves mail' s' sys sys' → ChannelRelation mail s sys → ChannelRelation mail' s' sys'
carried-event {moves} {mail} {mail'} {s} {s'} sys sys' width event queued h d ch = carried-moved _ _ _
    (message_of mail s d) (message_of mail' s' d) (λ k i. message_of mail' s' d (packet k i)) _ _ _ _ width
    (event.moved d ch) (queued d ch) (λ k i e. refl) (messages-stay event d ch) (h d ch)

-- ---- how a channel's beats move

-- what a channel loses and gains, as its tokens do
abbrev pub Fits : {w : ℕ} → Bool → Option (Message w) → Move → (Kind → ℕ → Message w) → Type 0
Fits true None (Pops k n) render = ⊤
Fits false None Stays render = ⊤
Fits false (Some m) (Pushes k n) render = render k n ≡ m
Fits _ _ _ render = ⊥

abbrev pub behind : {w : ℕ} → Option (Message w) → List (Beat w) → List (Beat w)
behind None beats = beats
behind (Some m) beats = beats ++ beats_from m 0 (beats_of m)

queued-by : {w : ℕ} (pop : Bool) (push : Option (Message w)) (move : Move) (render : Kind → ℕ → Message w)
    (x : Beat w) (queue q after r rest : List (Beat w)) → Fits pop push move render
    → after ≡ behind push (if pop then queue else q) → rest ≡ (if pop then [] else r)
    → (pop ≡ true → (q ≡ x ∷ queue) × (completes x r ≡ true)) → IsQueued move render q after r rest
queued-by pop push move render x queue q after r rest e f g h = grind arith

-- The whole after the last beat of the first message on channel ch of client c's link was taken, and
-- messages were handed out.
pub record IsTaken {w : ℕ} (c : ℕ) (ch : Channel) (x : Beat w) (queue : List (Beat w)) (pushes : ℕ → Channel
    → Option (Message w)) (sys sys' : System w) : Type 0 where
  pub first : sys.channels c ch ≡ x ∷ queue
  pub last : completes x (unfinished ch (receiver ch c sys)) ≡ true
  pub channels : (d : ℕ) (at : Channel)
      → sys'.channels d at ≡ behind (pushes d at) (if (d == c) && same_channel at ch then queue else sys.channels d at)
  pub rests : (d : ℕ) (at : Channel) → unfinished at (receiver at d sys')
      ≡ (if (d == c) && same_channel at ch then [] else unfinished at (receiver at d sys))

pub same_channel-is : (a b : Channel) → same_channel a b ≡ true → a ≡ b
same_channel-is a b e = grind arith

pub queued-taken : {w : ℕ} {c : ℕ} {ch : Channel} {x : Beat w} {queue : List (Beat w)} {pushes : ℕ → Channel
    → Option (Message w)} (moves : ℕ → Channel → Move) (mail : AccessMessages w) (s : State (List ℕ))
    {sys sys' : System w} → IsTaken c ch x queue pushes sys sys'
    → ((d : ℕ) (at : Channel) → Fits ((d == c) && same_channel at ch) (pushes d at) (moves d at)
    (λ k i. message_of mail s d (packet k i))) → AreQueued moves mail s sys sys'
queued-taken {w} {c} {ch} {x} {queue} {pushes} moves mail s {sys} {sys'} is fits d at = queued-by
    ((d == c) && same_channel at ch) _ _ (λ k i. message_of mail s d (packet k i)) x queue _ _ _ _ (fits d at)
    (is.channels d at) (is.rests d at) (λ e. here e (cases_eq d c))
  where
    here : ((d == c) && same_channel at ch) ≡ true → (d ≡ c) ⊎ (d ≡ c → ⊥) → (sys.channels d at ≡ x ∷ queue)
        × (completes x (unfinished at (receiver at d sys)) ≡ true)
    here e (inl same) = let f : same_channel at ch ≡ true = rw (same, same_number c) at e in
        rw (same, same_channel-is at ch f) (is.first, is.last)
    here e (inr other) = absurd (let f : false ≡ true = rw (ne_eqb d c other) at e in cc)

-- the whole after messages were handed out
pub record IsHanded {w : ℕ} (pushes : ℕ → Channel → Option (Message w)) (sys sys' : System w) : Type 0 where
  pub channels : (d : ℕ) (at : Channel) → sys'.channels d at ≡ behind (pushes d at) (sys.channels d at)
  pub rests : (d : ℕ) (at : Channel) → unfinished at (receiver at d sys') ≡ unfinished at (receiver at d sys)

pub queued-handed : {w : ℕ} {pushes : ℕ → Channel → Option (Message w)} (moves : ℕ → Channel → Move)
    (mail : AccessMessages w) (s : State (List ℕ)) {sys sys' : System w} → IsHanded pushes sys sys'
    → ((d : ℕ) (at : Channel) → Fits false (pushes d at) (moves d at) (λ k i. message_of mail s d (packet k i)))
    → AreQueued moves mail s sys sys'
queued-handed {w} {pushes} moves mail s {sys} {sys'} is fits d at = queued-with _ _ _ _ _ _
    (λ k i. message_of mail s d (packet k i)) (fits d at) (is.channels d at) (is.rests d at)
  where
    queued-with : (push : Option (Message w)) (move : Move) (q after r rest : List (Beat w)) (render : Kind → ℕ
        → Message w) → Fits false push move render
        → after ≡ behind push q → rest ≡ r → IsQueued move render q after r rest
    queued-with push move q after r rest render e f g = grind arith

-- ---- at one client

-- what is handed out on one channel of client c's link
abbrev pub pushes_at : {w : ℕ} → ℕ → (Channel → Option (Message w)) → ℕ → Channel → Option (Message w)
pushes_at c pushes d ch = if d == c then pushes ch else None

pub moved-at : (c : ℕ) (moves : Channel → Move) (l : Link) (link : ℕ → Link) → AreMoved moves (link c) l → (d : ℕ)
    → AreMoved (moves_at c moves d) (link d) (set c l link d)
moved-at c moves l link h d ch =
    let popped : (b : Bool) (k : Link) → b ≡ true → k ≡ l → IsMoved (if b then moves ch else Stays)
    (packets_on ch (link c)) (packets_on ch k) = λ b k e f. rw (e, f) (h ch) in
    let still : (b : Bool) (k : Link) → b ≡ false → k ≡ link d
    → IsMoved (if b then moves ch else Stays) (packets_on ch (link d)) (packets_on ch k) = λ b k e f. rw (e, f) refl in
    elim (cases_eq d c) [
      | inl same ↦ rw same (popped (c == c) (set c l link c) (same_number c) (set-same c l link))
      | inr other ↦ still (d == c) (set c l link d) (ne_eqb d c other) (set-other c d l link other)
    ]

pub fits-at : {w : ℕ} (c : ℕ) (ch : Channel) (pushes : Channel → Option (Message w)) (moves : Channel → Move)
    (render : ℕ → Kind → ℕ → Message w) → ((at : Channel) → Fits (same_channel at ch) (pushes at) (moves at) (render c))
    → (d : ℕ) (at : Channel) → Fits ((d == c) && same_channel at ch) (pushes_at c pushes d at) (moves_at c moves d at)
    (render d)
fits-at {w} c ch pushes moves render h d at =
    let go : (b : Bool) → b ≡ true → Fits (b && same_channel at ch) (if b then pushes at else None)
    (if b then moves at else Stays) (render c) = elim [ true ↦ λ e. h at | false ↦ λ e. absurd cc ] in
    let never : (b : Bool) → b ≡ false → Fits (b && same_channel at ch) (if b then pushes at else None)
    (if b then moves at else Stays) (render d) = elim [ false ↦ λ e. tt | true ↦ λ e. absurd cc ] in
    elim (cases_eq d c) [
      | inl same ↦ rw same (go (c == c) (same_number c))
      | inr other ↦ never (d == c) (ne_eqb d c other)
    ]

pub fits-handed : {w : ℕ} (c : ℕ) (pushes : Channel → Option (Message w)) (moves : Channel → Move) (render : ℕ → Kind
    → ℕ → Message w) → ((at : Channel) → Fits false (pushes at) (moves at) (render c))
    → (d : ℕ) (at : Channel) → Fits false (pushes_at c pushes d at) (moves_at c moves d at) (render d)
fits-handed {w} c pushes moves render h d at =
    let go : (b : Bool) → b ≡ true → Fits false (if b then pushes at else None) (if b then moves at else Stays)
    (render c) = elim [ true ↦ λ e. h at | false ↦ λ e. absurd cc ] in
    let never : (b : Bool) → b ≡ false → Fits false (if b then pushes at else None) (if b then moves at else Stays)
    (render d) = elim [ false ↦ λ e. tt | true ↦ λ e. absurd cc ] in
    elim (cases_eq d c) [
      | inl same ↦ rw same (go (c == c) (same_number c))
      | inr other ↦ never (d == c) (ne_eqb d c other)
    ]

-- The tokens move, and those that stay show the same messages, as the first message on channel ch of client c is taken,
-- and these are handed out.
pub record IsShown {w : ℕ} (caching : ℕ → Bool) (n c : ℕ) (ch : Channel) (pushes : ℕ → Channel → Option (Message w))
    (mail mail' : AccessMessages w) (s s' : State (List ℕ)) : Type 0 where
  pub moves : ℕ → Channel → Move
  pub showing : IsShowing caching n moves mail mail' s s'
  pub fits : (d : ℕ) (at : Channel) → Fits ((d == c) && same_channel at ch) (pushes d at) (moves d at)
      (λ k i. message_of mail' s' d (packet k i))

-- the channels carry the messages of the tokens after it
pub carried-shown : {w : ℕ} {caching : ℕ → Bool} {n c : ℕ} {ch : Channel} {pushes : ℕ → Channel → Option (Message w)}
    {mail mail' : AccessMessages w} {s s' : State (List ℕ)} {sys sys' : System w} {x : Beat w} {queue : List (Beat w)}
    → IsWidth w → IsShown caching n c ch pushes mail mail' s s' → IsTaken c ch x queue pushes sys sys'
    → ChannelRelation mail s sys → ChannelRelation mail' s' sys'
carried-shown {mail' = mail'}
    {s' = s'} {sys = sys} {sys' = sys'} width shown taken h =
    carried-event sys sys' width shown.showing (queued-taken shown.moves mail' s' taken shown.fits) h
