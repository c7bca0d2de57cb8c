-- The channels of all links as one list of queues.
use Rattle.std.proofs.Common.{◌≡◌, ℕ, suc, Bool, true, false, List, [], ◌∷◌, ◌++◌, ◌+◌, ◌≤◌, ◌<◌, length, drop, refl}
use Rattle.std.proofs.Common.{sym, ap, ◌∙◌, ◌⊎◌, inl, inr, arith}
use Rattle.std.specs.Prelude.{not, ◌≢◌, ◌==◌, ◌&&◌, max, slice_index_or, if◌then◌else◌}
use Rattle.std.specs.Int.{bit_at}
use Rattle.std.proofs.Math.Nat.{max-eq_left}
use Rattle.std.proofs.lemmas.Bool.{cases_eq, ne_eqb, eq-eqb}
use Rattle.std.proofs.lemmas.List.{length-append}
use Rattle.circular_buffer.specs.Buffer.{Buffer, buffer}
use Rattle.tl_beat.specs.statement.Width.{IsWidth}
use Rattle.tl_beat.specs.declared.beat.Beat.{Beat}
use Rattle.tl_beat.specs.declared.beat.Link.{Link}
use Rattle.tl_beat.specs.declared.channel.Channel.{Channel}
use Rattle.tl_beat.specs.declared.channel.Channel.TheVariants as channel
use Rattle.tl_burst.specs.declared.message.Message.{Message}
use Rattle.tl_burst.specs.statement.Burst.{beats_of}
use Rattle.tl_burst.specs.statement.Part.{is_empty}
use Rattle.tl_burst.proofs.Splitting.{beats-positive}
use Rattle.tl_rules.specs.statement.Legality.{beats_from}
use Rattle.tl_manager.specs.code.Bit.{bit_if}
use Rattle.tl_manager.specs.statement.Handing.{Handed}
use Rattle.tl_world.specs.code.Carrying.{number, place, channel_at, word_of, Carries, Fit, AreKept, AreMoved}
use Rattle.tl_world.proofs.Holding.{member}
use Rattle.tl_world.specs.declared.ring.Ring.{Ring}
use Rattle.tl_world.specs.declared.rings.Rings.{Rings}
use Rattle.tl_coherence.specs.statement.System.{System, same_channel, channel_of_message, with_channel, with_message}
use Rattle.tl_coherence.specs.statement.System.{with_messages}
use Rattle.tl_coherence.proofs.queues.Beats.{length-beats_from}
use Rattle.tl_coherence.proofs.queues.Channels.{same_channel-is}

-- ---- places

pub back : (ch : Channel) → channel_at (number ch) ≡ ch
back channel.A = refl
back channel.B = refl
back channel.C = refl
back channel.D = refl
back channel.E = refl

pub number-below : (ch : Channel) → number ch < 5
number-below channel.A = omega arith
number-below channel.B = omega arith
number-below channel.C = omega arith
number-below channel.D = omega arith
number-below channel.E = omega arith

same_self : (ch : Channel) → same_channel ch ch ≡ true
same_self channel.A = refl
same_self channel.B = refl
same_self channel.C = refl
same_self channel.D = refl
same_self channel.E = refl

same_link : (j k : ℕ) (c ch : Channel) → place j c ≡ place k ch → j ≡ k
same_link j k c ch e = omega (arith, e, number-below c, number-below ch)

same_place : (j k : ℕ) (c ch : Channel) → place j c ≡ place k ch → c ≡ ch
same_place j k c ch e =
    let same : number c ≡ number ch = omega (arith, e, number-below c, number-below ch) in
    sym (back c) ∙ ap channel_at same ∙ back ch

-- two channels are one, or stand at different places
pub places : (j k : ℕ) (c ch : Channel) → ((j ≡ k) × (c ≡ ch))
    ⊎ ((place j c ≢ place k ch) × (((j == k) && same_channel c ch) ≡ false))
places j k c ch = go (cases_eq j k) (same_channel c ch) refl
  where
    go : (j ≡ k) ⊎ (j ≢ k) → (b : Bool) → same_channel c ch ≡ b → ((j ≡ k) × (c ≡ ch))
        ⊎ ((place j c ≢ place k ch) × (((j == k) && same_channel c ch) ≡ false))
    go (inr other) b e = inr ((λ f. other (same_link j k c ch f)), rw (ne_eqb j k other) refl)
    go (inl same) true e = inl (same, same_channel-is c ch e)
    go (inl same) false e = inr (
      (λ f. absurd (let is : c ≡ ch = same_place j k c ch f in let yes : same_channel c ch ≡ true =
          rw is (same_self ch) in cc)),
      rw (e, eq-eqb j k same) refl,
    )

-- ---- the beats of one channel change

module _ {w : ℕ} where
  deepest_kept : (ring : Ring w) → ring.deepest ≡ max ring.deepest (length ring.beats.items)
  deepest_kept ring = sym (max-eq_left ring.covered)

  -- of one channel
  pub moved-one : (n : ℕ) (old new : Rings w) (s : System w) (k : ℕ) (ch : Channel) (beats : List (Beat w))
      → Carries n old s → length new.all.items ≡ length old.all.items
      → ((d : Ring w) → k < n → (slice_index_or new.all.items (place k ch) d).beats.items ≡ beats)
      → ((d : Ring w) → (slice_index_or new.all.items (place k ch) d).deepest ≡ max
      (slice_index_or old.all.items (place k ch) d).deepest
      (length (slice_index_or new.all.items (place k ch) d).beats.items))
      → ((i : ℕ) (d : Ring w) → i ≢ place k ch → slice_index_or new.all.items i d ≡ slice_index_or old.all.items i d)
      → (k < n → bit_at (word_of new.non_empty ch) k ≡ bit_if (not (is_empty beats)))
      → ((j : ℕ) (c : Channel) → place j c ≢ place k ch
      → bit_at (word_of new.non_empty c) j ≡ bit_at (word_of old.non_empty c) j)
      → AreMoved n old new (with_channel k ch beats s)
  moved-one n old new s k ch beats carried same_number here deeper others bit_here bit_others = record {
    carries = record {
      five_each = same_number ∙ carried.five_each;
      beats = λ j c d lt.
          elim (places j k c ch) [
            | inl same ↦ rw (same.0, same.1, eq-eqb k k refl, same_self ch)
                (here d (let is = same.0 in omega (arith, is, lt)))
            | inr other ↦ rw (other.1, others (place j c) d other.0) (carried.beats j c d lt)
          ];
      non_empty = λ j c lt.
          elim (places j k c ch) [
            | inl same ↦ rw (same.0, same.1, eq-eqb k k refl, same_self ch)
                (bit_here (let is = same.0 in omega (arith, is, lt)))
            | inr other ↦ rw (other.1, bit_others j c other.0) (carried.non_empty j c lt)
          ];
    };
    deepen = λ j c d lt.
        elim (places j k c ch) [
          | inl same ↦ rw (same.0, same.1) (deeper d)
          | inr other ↦ rw (others (place j c) d other.0) (deepest_kept (slice_index_or old.all.items (place j c) d))
        ];
  }

  -- the bit of a channel, which was set, is cleared where nothing is left
  cleared : (rest : List (Beat w)) (bit : ℕ) → bit ≡ 1 → (if length rest == 0 then 0 else bit)
      ≡ bit_if (not (is_empty rest))
  cleared [] bit set = refl
  cleared (x ∷ rest) bit set = rw (ne_eqb (suc (length rest)) 0 (λ e. absurd (omega (arith, e)))) set

  -- whose first beat is taken away: its bit is cleared where it was the last
  pub moved-dropped : (n : ℕ) (old new : Rings w) (s : System w) (k : ℕ) (ch : Channel) (x : Beat w)
      (rest : List (Beat w)) → Carries n old s → k < n → s.channels k ch ≡ x ∷ rest
      → length new.all.items ≡ length old.all.items
      → ((d : Ring w) → (slice_index_or new.all.items (place k ch) d).beats ≡ buffer
      (drop 1 (slice_index_or old.all.items (place k ch) d).beats.items)
      (slice_index_or old.all.items (place k ch) d).beats.capacity)
      → ((d : Ring w) → (slice_index_or new.all.items (place k ch) d).deepest
      ≡ (slice_index_or old.all.items (place k ch) d).deepest)
      → ((i : ℕ) (d : Ring w) → i ≢ place k ch → slice_index_or new.all.items i d ≡ slice_index_or old.all.items i d)
      → (empty : Bool) → ((d : Ring w) → empty ≡ (length (slice_index_or new.all.items (place k ch) d).beats.items == 0))
      → bit_at (word_of new.non_empty ch) k ≡ (if empty then 0 else bit_at (word_of old.non_empty ch) k)
      → ((j : ℕ) (c : Channel) → place j c ≢ place k ch
      → bit_at (word_of new.non_empty c) j ≡ bit_at (word_of old.non_empty c) j)
      → AreMoved n old new (with_channel k ch rest s)
  moved-dropped n old new s k ch x rest carried inside first same_number dropped flat others empty left_empty bit_here
      bit_others =
      moved-one n old new s k ch rest carried same_number (λ e lt. left e) deeper others
      (λ lt. rw none_left at bit_here ∙ cleared rest (bit_at (word_of old.non_empty ch) k) held) bit_others
    where
      left : (e : Ring w) → (slice_index_or new.all.items (place k ch) e).beats.items ≡ rest
      left e = ap (λ (b : Buffer (Beat w)). b.items) (dropped e) ∙ ap (λ (xs : List (Beat w)). drop 1 xs)
          (carried.beats k ch e inside ∙ first)

      deeper : (e : Ring w) → (slice_index_or new.all.items (place k ch) e).deepest ≡ max
          (slice_index_or old.all.items (place k ch) e).deepest
          (length (slice_index_or new.all.items (place k ch) e).beats.items)
      deeper e =
          let now = ap (λ (xs : List (Beat w)). length xs) (left e) in
          let before = ap (λ (xs : List (Beat w)). length xs) (carried.beats k ch e inside ∙ first) in
          let covered = (slice_index_or old.all.items (place k ch) e).covered in
          omega (arith, now, before, covered, flat e)

      one : Ring w
      one = member old.all.items (place k ch) (omega (arith, carried.five_each, inside, number-below ch))

      none_left : empty ≡ (length rest == 0)
      none_left = left_empty one ∙ ap (λ (xs : List (Beat w)). length xs == 0) (left one)

      held : bit_at (word_of old.non_empty ch) k ≡ 1
      held = carried.non_empty k ch inside ∙ ap (λ (xs : List (Beat w)). bit_if (not (is_empty xs))) first

  -- of none of those that there are
  pub moved-aside : (n : ℕ) (rings : Rings w) (s : System w) (k : ℕ) (ch : Channel) (beats : List (Beat w))
      → Carries n rings s → n ≤ k → AreMoved n rings rings (with_channel k ch beats s)
  moved-aside n rings s k ch beats carried past = record {
    carries = record {
      five_each = carried.five_each;
      beats = λ j c d lt. let other : (j ≡ k) → ⊥ = λ same. absurd (omega (arith, same, lt, past)) in
          rw (ne_eqb j k other) (carried.beats j c d lt);
      non_empty = λ j c lt. let other : (j ≡ k) → ⊥ = λ same. absurd (omega (arith, same, lt, past)) in
          rw (ne_eqb j k other) (carried.non_empty j c lt);
    };
    deepen = λ j c d lt. deepest_kept (slice_index_or rings.all.items (place j c) d);
  }

  -- one move after another, at which no channel loses a beat
  pub moved-then : (n : ℕ) (old now new : Rings w) (s s' : System w) → AreMoved n old now s → AreMoved n now new s'
      → ((k : ℕ) (ch : Channel) → length (s.channels k ch) ≤ length (s'.channels k ch))
      → AreMoved n old new s'
  moved-then n old now new s s' first second more = record {
    carries = second.carries;
    deepen = λ k ch d lt.
        let a = first.deepen k ch d lt in
        let b = second.deepen k ch d lt in
        let here = ap (λ (xs : List (Beat w)). length xs) (first.carries.beats k ch d lt) in
        let there = ap (λ (xs : List (Beat w)). length xs) (second.carries.beats k ch d lt) in
        let grown = more k ch in
        omega (arith, a, b, here, there, grown);
  }

  -- ---- messages

  some_after : (xs ys : List (Beat w)) → 0 < length ys → not (is_empty (xs ++ ys)) ≡ true
  some_after [] [] some = absurd (omega (arith, some))
  some_after [] (y ∷ ys) some = refl
  some_after (x ∷ xs) ys some = refl

  pub messages-append : (xs ys : Handed w) (s : System w)
      → with_messages (xs ++ ys) s ≡ with_messages ys (with_messages xs s)
  unfolding with_messages
  messages-append [] ys s = refl
  messages-append (x ∷ xs) ys s = messages-append xs ys (with_message x.0.0 x.1 s)

  -- a channel only gets longer
  message-grows : (l : ℕ) (m : Message w) (s : System w) (k : ℕ) (ch : Channel)
      → length (s.channels k ch) ≤ length ((with_message l m s).channels k ch)
  message-grows l m s k ch =
      elim (places k l ch (channel_of_message m)) [
        | inl same ↦ rw (
          same.0,
          same.1,
          eq-eqb l l refl,
          same_self (channel_of_message m),
          length-append
              (s.channels l (channel_of_message m)) (beats_from m 0 (beats_of m)),
        ) (omega arith)
        | inr other ↦ rw other.1 (omega arith)
      ]

  pub messages-grow : (handed : Handed w) (s : System w) (k : ℕ) (ch : Channel)
      → length (s.channels k ch) ≤ length ((with_messages handed s).channels k ch)
  unfolding with_messages
  messages-grow [] s k ch = omega arith
  messages-grow (x ∷ handed) s k ch =
      omega (arith, message-grows x.0.0 x.1 s k ch, messages-grow handed (with_message x.0.0 x.1 s) k ch)

  -- a message that fits behind its channel
  pub moved-sent : (n : ℕ) (old new : Rings w) (s : System w) (l : ℕ) (m : Message w) → IsWidth w → Carries n old s
      → Fit n old (with_message l m s) → length new.all.items ≡ length old.all.items
      → ((d : Ring w) → length (slice_index_or old.all.items (place l (channel_of_message m)) d).beats.items + beats_of
      m
      ≤ (slice_index_or old.all.items (place l (channel_of_message m)) d).beats.capacity
      → (slice_index_or new.all.items (place l (channel_of_message m)) d).beats.items
      ≡ (slice_index_or old.all.items (place l (channel_of_message m)) d).beats.items ++ beats_from m 0
      (beats_of m))
      → ((d : Ring w) → (slice_index_or new.all.items (place l (channel_of_message m)) d).deepest ≡ max
      (slice_index_or old.all.items (place l (channel_of_message m)) d).deepest
      (length (slice_index_or new.all.items (place l (channel_of_message m)) d).beats.items))
      → ((i : ℕ) (d : Ring w) → i ≢ place l (channel_of_message m) → slice_index_or new.all.items i d ≡ slice_index_or
      old.all.items i d)
      → bit_at (word_of new.non_empty (channel_of_message m)) l ≡ 1
      → ((j : ℕ) (c : Channel) → place j c ≢ place l (channel_of_message m)
      → bit_at (word_of new.non_empty c) j ≡ bit_at (word_of old.non_empty c) j)
      → AreMoved n old new (with_message l m s)
  moved-sent n old new s l m width carried fits same_number sent deeper others bit_here bit_others =
      moved-one n old new s l ch (s.channels l ch ++ beats_from m 0 (beats_of m)) carried same_number here deeper others
      (λ lt. bit_here ∙ ap bit_if (sym (some_after (s.channels l ch) (beats_from m 0 (beats_of m)) some))) bit_others
    where
      ch : Channel
      ch = channel_of_message m

      some : 0 < length (beats_from m 0 (beats_of m))
      some = rw (length-beats_from m 0 (beats_of m)) (beats-positive m width)

      here : (d : Ring w) → l < n → (slice_index_or new.all.items (place l ch) d).beats.items ≡ s.channels l
          ch ++ beats_from m 0 (beats_of m)
      here d lt =
          let held = carried.beats l ch d lt in
          let many = ap (λ (xs : List (Beat w)). length xs) held in
          let whole : length (s.channels l ch ++ beats_from m 0 (beats_of m)) ≤ (slice_index_or old.all.items
          (place l ch) d).beats.capacity = rw (eq-eqb l l refl, same_self ch) at (fits l ch d lt) in
          let room : length (slice_index_or old.all.items (place l ch) d).beats.items + beats_of
          m ≤ (slice_index_or old.all.items (place l ch) d).beats.capacity =
          omega (
            arith,
            many,
            whole,
            length-append (s.channels l ch) (beats_from m 0 (beats_of m)),
            length-beats_from m
                0 (beats_of m),
          ) in
          sent d room ∙ ap (λ (xs : List (Beat w)). xs ++ beats_from m 0 (beats_of m)) held

  -- nothing that is handed out
  pub moved-still : (n : ℕ) (rings : Rings w) (s : System w) → Carries n rings s → AreMoved n rings rings s
  moved-still n rings s carried =
      record { carries = carried; deepen = λ k ch d lt. deepest_kept (slice_index_or rings.all.items (place k ch) d) }

  -- one more message of several
  pub moved-more : (n : ℕ) (old now new : Rings w) (s : System w) (before rest : Handed w) (x : Link × Message w)
      → AreKept old now → AreMoved n old now (with_messages before s)
      → (Carries n now (with_messages before s) → Fit n now (with_message x.0.0 x.1 (with_messages before s))
      → AreMoved n now new (with_message x.0.0 x.1 (with_messages before s)))
      → Fit n old (with_messages (before ++ x ∷ rest) s) → AreMoved n old new (with_messages (before ++ x ∷ []) s)
  unfolding with_messages
  moved-more n old now new s before rest x kept first next fits =
      rw (messages-append before (x ∷ []) s)
      (moved-then n old now new (with_messages before s) _ first (next first.carries room)
      (λ k ch. message-grows x.0.0 x.1 (with_messages before s) k ch))
    where
      room : Fit n now (with_message x.0.0 x.1 (with_messages before s))
      room k ch d lt =
          let a = messages-grow rest (with_message x.0.0 x.1 (with_messages before s)) k ch in
          let b = fits k ch d lt in
          let c = kept.same_capacity (place k ch) d in
          let e = ap (λ (z : System w). length (z.channels k ch)) (messages-append before (x ∷ rest) s) in
          omega (arith, a, b, c, e)
