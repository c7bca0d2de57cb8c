-- How many beats of a message are left on its channel, before and after each event.
use Rattle.std.proofs.Common.{◌≡◌, ℕ, ◌-◌, ◌<◌, ◌≤◌, Bool, true, false, List, [], ◌∷◌, ◌++◌, refl, sym, ap, subst}
use Rattle.std.proofs.Common.{arith, ◌⊎◌, inl, inr, length}
use Rattle.tl_coherence.proofs
use proofs.Imports.{cases_eq, Beat, Channel, beats_of, Left, Answer, Kind, Packet, Request, is, count, State, is_on}
use proofs.Imports.{packets_on, is_transfer, shown, IsMoved, Move, Pops, channel_for, AccessMessages, message_of_kind}
use proofs.Imports.{block_message}
use proofs.protocol.Capacities.{once, shown_there, shows_it}
use proofs.queues.Channels.{IsShowing}

-- the token is the first of its channel
abbrev pub is_front : Kind → ℕ → List Packet → Bool
is_front k m [] = false
is_front k m (x ∷ xs) = is k m x

-- the beats of its message, less those that the receiver has, where it is the first: `rest` is what the receivers have
-- of
-- the first messages
abbrev pub taken_of : {w : ℕ} → List (Beat w) → Bool → ℕ
taken_of rest true = length rest
taken_of rest false = 0

abbrev pub beats_left : {w : ℕ} → AccessMessages w → State (List ℕ) → (ℕ → Channel → List (Beat w)) → Left
beats_left mail s rest c k m = beats_of (message_of_kind k mail s c m) - taken_of (rest c (channel_for k))
    (is_front k m (packets_on (channel_for k) (s.link c)))

pub left-few : {w : ℕ} (mail : AccessMessages w) (s : State (List ℕ)) (rest : ℕ → Channel → List (Beat w)) (c : ℕ)
    (k : Kind) (m : ℕ) → beats_left mail s rest c k m ≤ beats_of (message_of_kind k mail s c m)
left-few mail s rest c k m = omega arith

-- ---- a token that stays

abbrev pub is_pop : Move → Bool
is_pop (Pops k n) = true
is_pop _ = false

-- it is there
abbrev pub IsHere : {X : Type 0} → State X → ℕ → Kind → ℕ → Type 0
IsHere s c k m = 0 < count k m (packets_on (channel_for k) (s.link c))

front-there : (k : Kind) (m : ℕ) (xs : List Packet) (x : Packet) → 0 < count k m xs
    → is_front k m (xs ++ x ∷ []) ≡ is_front k m xs
unfolding count
front-there k m xs x e = grind arith

-- where its channel loses no token, as much was taken of it
taken-stays : {w : ℕ} (move : Move) (k : Kind) (m : ℕ) (xs ys : List Packet) (rest rest' : List (Beat w))
    → IsMoved move xs ys → is_pop move ≡ false → rest' ≡ rest → 0 < count k m xs
    → taken_of rest' (is_front k m ys) ≡ taken_of rest (is_front k m xs)
taken-stays move k m xs ys rest rest' e f g h = grind (arith, taken_of, front-there)

-- where its channel loses its first token, it wasn't the first, and nothing was taken of it
taken-none : {w : ℕ} (k : Kind) (m : ℕ) (x : Packet) (xs ys : List Packet) (rest rest' : List (Beat w)) → xs ≡ x ∷ ys
    → rest' ≡ [] → count k m xs ≤ 1 → 0 < count k m ys
    → taken_of rest' (is_front k m ys) ≡ taken_of rest (is_front k m xs)
unfolding count
taken-none {w} k m x xs ys rest rest' e none once there = grind (arith, is_front)

-- what each receiver has of the first messages after an event that takes the first message of channel ch of client c
pub record IsPopped {w : ℕ} {X : Type 0} (c : ℕ) (ch : Channel) (moves : ℕ → Channel → Move) (rest rest' : ℕ → Channel
    → List (Beat w)) (s s' : State X) : Type 0 where
  pub first : Packet
  pub tokens : packets_on ch (s.link c) ≡ first ∷ packets_on ch (s'.link c)
  pub none : rest' c ch ≡ []
  pub unpopped : (d : ℕ) (at : Channel) → (d ≡ c → at ≡ ch → ⊥) → is_pop (moves d at) ≡ false
  pub rests : (d : ℕ) (at : Channel) → (d ≡ c → at ≡ ch → ⊥) → rest' d at ≡ rest d at

pub same_channels : (a b : Channel) → (a ≡ b) ⊎ (a ≡ b → ⊥)
same_channels a b = grind arith

own_kind : (k : Kind) → is_on (channel_for k) k ≡ true
own_kind k = grind arith

module _ {w : ℕ} {caching : ℕ → Bool} {n : ℕ} {moves : ℕ → Channel → Move} {mail mail' : AccessMessages w}
    {s s' : State (List ℕ)} (showing : IsShowing caching n moves mail mail' s s') where
  shows_before : (d : ℕ) (k : Kind) (m : ℕ) → IsHere s d k m → shows_it s d k m ≡ true
  shows_before d k m there = shown_there d _ k m showing.before (own_kind k) there

  shows_after : (d : ℕ) (k : Kind) (m : ℕ) → IsHere s' d k m → shows_it s' d k m ≡ true
  shows_after d k m there = shown_there d _ k m showing.after (own_kind k) there

  transfer_same : (d : ℕ) (k : Kind) (m : ℕ) → is_transfer k ≡ true → shown k d (s.block m) ≡ true
      → shown k d (s'.block m) ≡ true → block_message {w = w} k d m (s'.block m) ≡ block_message k d m (s.block m)
  transfer_same d k m t before after = go (cases_eq m n)
    where
      go : (m ≡ n) ⊎ (m ≡ n → ⊥) → block_message {w = w} k d m (s'.block m) ≡ block_message k d m (s.block m)
      go (inl same) = subst (λ i. shown k d (s.block i) ≡ true → shown k d (s'.block i) ≡ true → block_message
          {w = w} k d i (s'.block i) ≡ block_message k d i (s.block i)) (sym same) (showing.same d k t) before after
      go (inr other) = rw (showing.blocks m other) refl

  message-same : (d : ℕ) (k : Kind) (m : ℕ) → IsHere s d k m → IsHere s' d k m
      → message_of_kind k mail' s' d m ≡ message_of_kind k mail s d m
  message-same d Request m before after = showing.requests d m (shows_before d Request m before)
      (shows_after d Request m after)
  message-same d Answer m before after = showing.answers d m (shows_before d Answer m before)
      (shows_after d Answer m after)
  message-same d k m before after = transfer_same d k m refl (shows_before d k m before) (shows_after d k m after)

  -- as much is left of a token that stays
  pub left-same : {c : ℕ} {ch : Channel} {rest rest' : ℕ → Channel → List (Beat w)}
      → IsPopped c ch moves rest rest' s s' → (d : ℕ) (k : Kind) (m : ℕ) → IsHere s d k m → IsHere s' d k m
      → beats_left mail' s' rest' d k m ≡ beats_left mail s rest d k m
  left-same {c} {ch} {rest} {rest'} popped d k m before after = rw (message-same d k m before after)
      (ap (λ i. beats_of (message_of_kind k mail s d m) - i) (go (cases_eq d c) (same_channels (channel_for k) ch)))
    where
      apart : (d ≡ c → channel_for k ≡ ch → ⊥)
          → taken_of (rest' d (channel_for k)) (is_front k m (packets_on (channel_for k) (s'.link d))) ≡ taken_of
          (rest d (channel_for k)) (is_front k m (packets_on (channel_for k) (s.link d)))
      apart ne = taken-stays _ k m _ _ _ _ (showing.moved d (channel_for k))
          (popped.unpopped d (channel_for k) ne) (popped.rests d (channel_for k) ne) before

      go : (d ≡ c) ⊎ (d ≡ c → ⊥) → (channel_for k ≡ ch) ⊎ (channel_for k ≡ ch → ⊥)
          → taken_of (rest' d (channel_for k)) (is_front k m (packets_on (channel_for k) (s'.link d))) ≡ taken_of
          (rest d (channel_for k)) (is_front k m (packets_on (channel_for k) (s.link d)))
      go (inr ne) at = apart (λ e f. ne e)
      go (inl e) (inr ne) = apart (λ g f. ne f)
      go (inl e) (inl f) = taken-none k m popped.first _ _ (rest d (channel_for k)) (rest' d (channel_for k))
          (rw (e, f) popped.tokens) (rw (e, f) popped.none) (once d (channel_for k) showing.before k m) after
