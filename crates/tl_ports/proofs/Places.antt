-- The channels of links, and the beats that wait on them.
use Rattle.std.proofs.Common.{◌≡◌, ◌+◌, ◌<◌, ◌++◌, ◌∷◌, ℕ, zero, suc, Bool, true, false, List, [], length, take, drop}
use Rattle.std.proofs.Common.{get_or, map, refl, sym, ap, ◌∙◌}
use Rattle.std.specs.Prelude.{filter, ◌==◌, ◌&&◌, slice_get, Some, if◌then◌else◌}
use Rattle.std.proofs.lemmas.Bool.{eqb-true}
use Rattle.std.proofs.lemmas.List.{append_assoc, drop_more, map-append}
use Rattle.std.proofs.lemmas.List.Elements.{filter-append}
use Rattle.tl_beat.specs.declared.beat.Beat.{Beat}
use Rattle.tl_beat.specs.declared.beat.Beat.TheVariants as beat
use Rattle.tl_beat.specs.declared.beat.Link.{Link}
use Rattle.tl_beat.specs.declared.channel.Channel.{Channel}
use Rattle.tl_beat.specs.declared.channel.Channel.TheVariants as channel
use Rattle.tl_burst.specs.declared.message.Message.{Message}
use Rattle.tl_burst.specs.declared.message.Message.TheVariants as message
use Rattle.tl_burst.specs.statement.Burst.{beats_of, beat_of}
use Rattle.tl_burst.specs.statement.Messages.{on, channel_of}
use Rattle.tl_rules.specs.statement.Legality.{beats_from}
use Rattle.tl_ports.specs.declared.outgoing.Outgoing.{Outgoing}
use Rattle.tl_ports.specs.statement.Waiting.{is_on_link, same_channel, is_place, handed_all, handed_on, waiting}
use Rattle.tl_ports.proofs.Firsts.{filter_first, filter_rest, filter_other}

-- ---- channels

pub same_channel-eq : (a b : Channel) → same_channel a b ≡ true → a ≡ b
same_channel-eq channel.A channel.A e = refl
same_channel-eq channel.B channel.B e = refl
same_channel-eq channel.C channel.C e = refl
same_channel-eq channel.D channel.D e = refl
same_channel-eq channel.E channel.E e = refl
same_channel-eq _ _ e = absurd cc

-- a beat is on a channel where that is its own
on_is : {w : ℕ} (ch : Channel) (x : Beat w) → on ch x ≡ same_channel ch (channel_of x)
on_is channel.A (beat.A x) = refl
on_is channel.B (beat.B x) = refl
on_is channel.C (beat.C x) = refl
on_is channel.D (beat.D x) = refl
on_is channel.E (beat.E x) = refl
on_is _ _ = refl

both : (a b : Bool) → (a && b) ≡ true → (a ≡ true) × (b ≡ true)
both true b e = (refl, e)
both false b e = absurd cc

-- a beat that is on one place is on another where that is the same
pub on_place : {w : ℕ} (link : ℕ) (ch : Channel) (l : ℕ) (c : Channel) (x : Link × Beat w) → is_on_link link ch x ≡ true
    → is_on_link l c x ≡ is_place l c link ch
on_place link ch l c x e =
    let p = both (x.0.0 == link) (on ch x.1) e in
    let same : ch ≡ channel_of x.1 = same_channel-eq ch (channel_of x.1) (sym (on_is ch x.1) ∙ p.1) in
    let at : x.0.0 ≡ link = eqb-true x.0.0 link p.0 in
    rw (at, on_is c x.1, same) refl

-- ---- a beat that is taken

second : {w : ℕ} → List (Link × Beat w) → List (Beat w)
second xs = map (λ x. x.1) xs

module _ {w : ℕ} (items : List (Link × Beat w)) (i : ℕ) (d : Link × Beat w) (link : ℕ) (ch : Channel)
    (lt : i < length items)
    (none : filter (λ x. is_on_link link ch x) (take i items) ≡ [])
    (passes : is_on_link link ch (get_or items i d) ≡ true) where
  pub first_waiting : Some (get_or items i d).1 ≡ slice_get (map (λ x. x.1) (filter (λ x. is_on_link link ch x) items))
      0
  first_waiting = rw (filter_first (λ x. is_on_link link ch x) items i d lt none passes) refl

  pub rest_waiting : (l : ℕ) (c : Channel)
      → map (λ x. x.1) (filter (λ x. is_on_link l c x) (take i items ++ drop (i + 1) items))
      ≡ (if is_place l c link ch then drop 1 (map (λ x. x.1) (filter (λ x. is_on_link l c x) items)) else
      map (λ x. x.1) (filter (λ x. is_on_link l c x) items))
  rest_waiting l c = go (is_place l c link ch) refl
    where
      go : (b : Bool) → is_place l c link ch ≡ b
          → map (λ x. x.1) (filter (λ x. is_on_link l c x) (take i items ++ drop (i + 1) items))
          ≡ (if b then drop 1 (map (λ x. x.1) (filter (λ x. is_on_link l c x) items)) else
          map (λ x. x.1) (filter (λ x. is_on_link l c x) items))
      go false e =
          ap (λ xs. map (λ x. x.1) xs)
          (filter_other (λ x. is_on_link l c x) items i d lt (on_place link ch l c (get_or items i d) passes ∙ e))
      go true e =
          let p = both (link == l) (same_channel c ch) e in
          let at : link ≡ l = eqb-true link l p.0 in
          let same : c ≡ ch = same_channel-eq c ch p.1 in
          rw (← at, same)
          (ap (λ xs. map (λ x. x.1) xs) (filter_rest (λ x. is_on_link link ch x) items i none)
          ∙ sym (rw (filter_first (λ x. is_on_link link ch x) items i d lt none passes) refl))

-- nothing is taken from where nothing waits
pub none_waiting : {w : ℕ} (items : List (Link × Beat w)) (link : ℕ) (ch : Channel)
    → filter (λ x. is_on_link link ch x) items ≡ [] → (l : ℕ) (c : Channel)
    → map (λ x. x.1) (filter (λ x. is_on_link l c x) items)
    ≡ (if is_place l c link ch then drop 1 (map (λ x. x.1) (filter (λ x. is_on_link l c x) items)) else
    map (λ x. x.1) (filter (λ x. is_on_link l c x) items))
none_waiting {w} items link ch none l c = go (is_place l c link ch) refl
  where
    go : (b : Bool) → is_place l c link ch ≡ b
        → map (λ x. x.1) (filter (λ x. is_on_link l c x) items)
        ≡ (if b then drop 1 (map (λ x. x.1) (filter (λ x. is_on_link l c x) items)) else
        map (λ x. x.1) (filter (λ x. is_on_link l c x) items))
    go false e = refl
    go true e =
        let p = both (link == l) (same_channel c ch) e in
        let at : link ≡ l = eqb-true link l p.0 in
        let same : c ≡ ch = same_channel-eq c ch p.1 in
        rw (← at, same, none) refl

-- ---- a message that is handed out

on_anywhere : {w : ℕ} (ch : Channel) (m : Message w) (i : ℕ) → on ch (beat_of m i) ≡ on ch (beat_of m 0)
on_anywhere channel.A (message.A m) i = refl
on_anywhere channel.B (message.B m) i = refl
on_anywhere channel.C (message.C m) i = refl
on_anywhere channel.D (message.D m) i = refl
on_anywhere channel.E (message.E m) i = refl
on_anywhere _ _ i = refl

-- the beats of a message on a channel: all or none
pub split_on : {w : ℕ} (l : ℕ) (ch : Channel) (link : Link) (m : Message w) (i n : ℕ)
    → map {A = Link × Beat w} (λ x. x.1) (filter (λ x. is_on_link l ch x) (map (λ b. (link, b)) (beats_from m i n)))
    ≡ (if link.0 == l && on ch (beat_of m 0) then beats_from m i n else [])
unfolding beats_from
split_on {w} l ch link m i zero = go (link.0 == l && on ch (beat_of m 0))
  where
    nothing : List (Beat w)
    nothing = []

    go : (b : Bool) → nothing ≡ (if b then nothing else nothing)
    go true = refl
    go false = refl
split_on {w} l ch link m i (suc n) =
    rw (on_anywhere ch m i) (go (link.0 == l && on ch (beat_of m 0)) (split_on l ch link m (i + 1) n))
  where
    go : (b : Bool)
        → map {A = Link × Beat w} (λ x. x.1)
        (filter (λ x. is_on_link l ch x) (map (λ b. (link, b)) (beats_from m (i + 1) n)))
        ≡ (if b then beats_from m (i + 1) n else [])
        → map {A = Link × Beat w} (λ x. x.1) (if b then (link, beat_of m i) ∷ filter (λ x. is_on_link l ch x)
        (map (λ b. (link, b)) (beats_from m (i + 1) n)) else filter (λ x. is_on_link l ch x)
        (map (λ b. (link, b)) (beats_from m (i + 1) n)))
        ≡ (if b then beat_of m i ∷ beats_from m (i + 1) n else [])
    go true e = ap (λ xs. beat_of m i ∷ xs) e
    go false e = e

-- what waits, with the beats of a message behind
pub sent : {w : ℕ} (link : Link) (m : Message w) (old new : Outgoing w) (l : ℕ) (ch : Channel)
    → new.beats.items ≡ old.beats.items ++ map (λ b. (link, b)) (beats_from m 0 (beats_of m))
    → waiting l ch new ≡ waiting l ch old ++ handed_on l ch link m
sent link m old new l ch is =
    ap (λ xs. map (λ x. x.1) (filter (λ x. is_on_link l ch x) xs)) is
    ∙ ap (λ xs. map (λ x. x.1) xs)
    (filter-append (λ x. is_on_link l ch x) old.beats.items (map (λ b. (link, b)) (beats_from m 0 (beats_of m))))
    ∙ map-append (λ x. x.1) (filter (λ x. is_on_link l ch x) old.beats.items)
    (filter (λ x. is_on_link l ch x) (map (λ b. (link, b)) (beats_from m 0 (beats_of m))))
    ∙ ap (λ xs. waiting l ch old ++ xs) (split_on l ch link m 0 (beats_of m))

-- one message more of several was handed out
pub next_message : {w : ℕ} (at : ℕ) (ch : Channel) (handed : List (Link × Message w)) (i : ℕ) (x : Link × Message w)
    (before after old : List (Beat w)) → i < length handed → get_or handed i x ≡ x
    → after ≡ before ++ handed_on at ch x.0 x.1 → before ++ handed_all at ch (drop i handed) ≡ old
    → after ++ handed_all at ch (drop (i + 1) handed) ≡ old
next_message at ch handed i x before after old lt is longer so_far =
    ap (λ xs. xs ++ handed_all at ch (drop (i + 1) handed)) longer
    ∙ append_assoc before (handed_on at ch x.0 x.1) (handed_all at ch (drop (i + 1) handed))
    ∙ ap (λ xs. before ++ xs)
    (sym (ap (handed_all at ch) (drop_more handed i x lt ∙ ap (λ y. y ∷ drop (i + 1) handed) is)))
    ∙ so_far
