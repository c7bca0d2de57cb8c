-- The names of a trace and one beat more.
use Rattle.std.proofs.Common.{◌≡◌, ℕ, ◌/◌, ◌^◌, ◌<◌, ◌≤◌, Bool, true, false, List, [], ◌∷◌, length}
use Rattle.std.proofs.Common.{refl, sym, ap, ◌∙◌, arith, inl, inr}
use Rattle.std.proofs.lemmas.Bool.{cases_eq, le-ltb, ltb-false}
use Rattle.std.specs.Prelude.{◌||◌, nat_lt, Option}
use Rattle.std.specs.Prelude.{Some, None, Result, Ok, Err, slice_index_or}
use Rattle.tl_beat.specs.declared.beat.Link.{Link}
use Rattle.tl_rules.specs.statement.History.{block_at}
use Rattle.tl_wide.proofs.Asking.{asks-kept, nothing-asked}
use Rattle.tl_wide.proofs.Names.{among-with, place-below, sources-other, sources-own}
use Rattle.tl_wide.specs.statement.Narrowing.{Asks, Follows, IsNumberedBeat, KnowsNames}
use Rattle.tl_wide.specs.code.Narrowing.{IsNamed, MessageNamed, ResponseNamed, SinkNamed}
use Rattle.tl_wide.specs.statement.Numbers.{IsNumbered, KnowsNumbers, is_past}
use Rattle.tl_wide.specs.code.Numbers.{AreNumbered}
use Rattle.tl_wide.specs.statement.Pieces.{pieces_of}
use Rattle.tl_wide.specs.declared.beat.WideBeat.{WideBeat}
use Rattle.tl_wide.specs.declared.beat.WideBeat.TheVariants as wide
use Rattle.tl_wide.specs.declared.beat.WideBeatA.{WideBeatA}
use Rattle.tl_wide.specs.declared.beat.WideBeatB.{WideBeatB}
use Rattle.tl_wide.specs.declared.beat.WideBeatC.{WideBeatC}
use Rattle.tl_wide.specs.declared.beat.WideBeatD.{WideBeatD}
use Rattle.tl_wide.specs.declared.beat.WideBeatE.{WideBeatE}
use Rattle.tl_wide.specs.declared.narrow.Names.{Names}
use Rattle.tl_wide.specs.declared.narrow.Narrower.{Narrower}
use Rattle.tl_wide.specs.declared.numbers.Numbers.{Numbers}
use Rattle.tl_wide.specs.declared.parts.Named.{Named}
use Rattle.tl_wide.specs.statement.Naming.{WideTrace, block_named, blocks, in_block, is_beyond, named, narrow_address}
use Rattle.tl_wide.specs.statement.Naming.{place_in, sink_named, sinks, source_of, sources, with_number}
use Rattle.tl_wide.specs.statement.Narrowed.{asked_address, beats_of}
use Rattle.tl_wide.specs.statement.Width.{part_width}

-- ---- places within limits

pub few : (limit : ℕ) (names : List ℕ) (n : ℕ) → is_past limit names n ≡ false
    → length (with_number (Some n) names) ≤ limit
few limit names n within = ltb-false limit (length (with_number (Some n) names)) within

pub place-fits : (limit : ℕ) (names : List ℕ) (n place : ℕ) → is_past limit names n ≡ false
    → place ≡ place_in (with_number (Some n) names) n → place < limit
place-fits limit names n place within is =
    let lt = place-below (with_number (Some n) names) n (among-with names n) in
    omega (arith, is, lt, few limit names n within)

-- ---- the names of one beat more

blocks-more : {w : ℕ} (link : Link) (x : WideBeat w) (t : WideTrace w)
    → blocks ((link, x) ∷ t) ≡ with_number (block_named (link, x)) (blocks t)
unfolding named
blocks-more link x t = refl

sinks-more : {w : ℕ} (link : Link) (x : WideBeat w) (t : WideTrace w)
    → sinks ((link, x) ∷ t) ≡ with_number (sink_named (link, x)) (sinks t)
unfolding named
sinks-more link x t = refl

pub step : {w : ℕ} (link : Link) (x : WideBeat w) (t : WideTrace w) (old new : Names) → KnowsNames old t
    → length new.sources ≡ 256 → KnowsNumbers new.blocks (with_number (block_named (link, x)) (blocks t))
    → ((d : Numbers) → KnowsNumbers (slice_index_or new.sources link.0 d)
    (with_number (source_of x) (sources link.0 t)))
    → ((i : ℕ) (d : Numbers) → (i ≡ link.0 → ⊥) → slice_index_or new.sources i d ≡ slice_index_or old.sources i d)
    → KnowsNumbers new.sinks (with_number (sink_named (link, x)) (sinks t))
    → length (with_number (block_named (link, x)) (blocks t)) ≤ 2 ^ 26
    → length (with_number (source_of x) (sources link.0 t)) ≤ 256
    → length (with_number (sink_named (link, x)) (sinks t)) ≤ 256
    → (is_beyond link ((link, x) ∷ t) ≡ false) × KnowsNames new ((link, x) ∷ t)
step link x t old new knows long b s others k few_b few_s few_k = (
  rw (
    blocks-more link x t,
    sources-own link x t,
    sinks-more link x t,
    le-ltb (2 ^ 26) (length (with_number (block_named (link, x)) (blocks t))) few_b,
    le-ltb 256 (length (with_number (source_of x) (sources link.0 t))) few_s,
    le-ltb 256 (length (with_number (sink_named (link, x)) (sinks t))) few_k,
  ) refl,
  record {
    long = long;
    blocks_are = rw (blocks-more link x t) b;
    sources_are = λ i d lt. elim (cases_eq i link.0) [
      | inl same ↦ rw (same, sources-own link x t) (s d)
      | inr other ↦ rw (others i d other, sources-other link x t i other) (knows.sources_are i d lt)
    ];
    sinks_are = rw (sinks-more link x t) k;
    few_blocks = rw (blocks-more link x t) few_b;
    few_sources = λ i. elim (cases_eq i link.0) [
      | inl same ↦ rw (same, sources-own link x t) few_s
      | inr other ↦ rw (sources-other link x t i other) (knows.few_sources i)
    ];
    few_sinks = rw (sinks-more link x t) few_k;
  },
)

pub beyond : {w : ℕ} (link : Link) (x : WideBeat w) (t : WideTrace w)
    → (nat_lt (2 ^ 26) (length (with_number (block_named (link, x)) (blocks t)))
    || (nat_lt 256 (length (with_number (source_of x) (sources link.0 t)))
    || nat_lt 256 (length (with_number (sink_named (link, x)) (sinks t))))) ≡ true
    → is_beyond link ((link, x) ∷ t) ≡ true
beyond link x t e = rw (blocks-more link x t, sources-own link x t, sinks-more link x t) e

-- ---- the beats that it becomes

pub message-a : {w : ℕ} (link : Link) (x : WideBeatA w) (t : WideTrace w) (n : Named)
    → n.source ≡ place_in (sources link.0 t) x.source → n.address ≡ narrow_address t x.address
    → pieces_of {p = part_width w} (wide.A x) n ≡ beats_of link (wide.A x) t
message-a link x t n s a = rw (s, a) refl

pub message-b : {w : ℕ} (link : Link) (x : WideBeatB w) (t : WideTrace w) (n : Named)
    → n.source ≡ place_in (sources link.0 t) x.source → n.address ≡ narrow_address t x.address
    → pieces_of {p = part_width w} (wide.B x) n ≡ beats_of link (wide.B x) t
message-b link x t n s a = rw (s, a) refl

pub message-c : {w : ℕ} (link : Link) (x : WideBeatC w) (t : WideTrace w) (n : Named)
    → n.source ≡ place_in (sources link.0 t) x.source → n.address ≡ narrow_address t x.address
    → pieces_of {p = part_width w} (wide.C x) n ≡ beats_of link (wide.C x) t
message-c link x t n s a = rw (s, a) refl

pub response-d : {w : ℕ} (link : Link) (x : WideBeatD w) (t : WideTrace w) (n : Named)
    → n.source ≡ place_in (sources link.0 t) x.source → n.sink ≡ place_in (sinks t) x.sink
    → n.asked ≡ asked_address link x.source t
    → pieces_of {p = part_width w} (wide.D x) n ≡ beats_of link (wide.D x) t
response-d link x t n s k a = rw (s, k, a) refl

pub ack-e : {w : ℕ} (link : Link) (x : WideBeatE) (t : WideTrace w) (n : Named)
    → n.sink ≡ place_in (sinks t) x.sink
    → pieces_of {w = w} {p = part_width w} (wide.E x) n ≡ beats_of link (wide.E x) t
ack-e link x t n k = rw k refl

-- ---- what an answer says

pub numbered-none : {w : ℕ} (link : Link) (x : WideBeat w) (t : WideTrace w) (o : Option Named)
    (after : Narrower) → o ≡ None → IsNumberedBeat {E = ℕ} link x t (Ok o) after
    → (is_beyond link ((link, x) ∷ t) ≡ true) × Follows after t
numbered-none link x t None after e h = h
numbered-none link x t (Some n) after e h = absurd cc

pub numbered-some : {w : ℕ} (link : Link) (x : WideBeat w) (t : WideTrace w) (o : Option Named) (n : Named)
    (after : Narrower) → o ≡ Some n → IsNumberedBeat {E = ℕ} link x t (Ok o) after
    → (is_beyond link ((link, x) ∷ t) ≡ false)
    × (pieces_of {p = part_width w} x n ≡ beats_of link x ((link, x) ∷ t)) × Follows after ((link, x) ∷ t)
numbered-some link x t o n after e h = rw e at h

-- ---- what the numbers of two names say

-- a table of each link knows what it knew
pub kept : {w : ℕ} (t : WideTrace w) (link : Link) (old new : Names) → KnowsNames old t → length new.sources ≡ 256
    → KnowsNumbers new.blocks (blocks t)
    → ((d : Numbers) → KnowsNumbers (slice_index_or new.sources link.0 d) (sources link.0 t))
    → ((i : ℕ) (d : Numbers) → (i ≡ link.0 → ⊥) → slice_index_or new.sources i d ≡ slice_index_or old.sources i d)
    → KnowsNumbers new.sinks (sinks t) → KnowsNames new t
kept t link old new knows long b s others k = record {
  long = long;
  blocks_are = b;
  sources_are = λ i d lt. elim (cases_eq i link.0) [
    | inl same ↦ rw same (s d)
    | inr other ↦ rw (others i d other) (knows.sources_are i d lt)
  ];
  sinks_are = k;
  few_blocks = knows.few_blocks;
  few_sources = knows.few_sources;
  few_sinks = knows.few_sinks;
}

-- those that were given
pub given : (l m a b : ℕ) (xs ys : List ℕ) (first second : Numbers) (o : Option (ℕ × ℕ)) (n k : ℕ)
    → o ≡ Some (n, k) → AreNumbered {E = ℕ} l xs a m ys b (Ok o) first second
    → (is_past l xs a ≡ false) × (is_past m ys b ≡ false) × (n ≡ place_in (with_number (Some a) xs) a)
    × (k ≡ place_in (with_number (Some b) ys) b) × KnowsNumbers first (with_number (Some a) xs)
    × KnowsNumbers second (with_number (Some b) ys)
given l m a b xs ys first second o n k is h = rw is at h

-- those for which none is left
pub refused : (l m a b : ℕ) (xs ys : List ℕ) (first second : Numbers) (o : Option (ℕ × ℕ))
    → o ≡ None → AreNumbered {E = ℕ} l xs a m ys b (Ok o) first second
    → ((is_past l xs a || is_past m ys b) ≡ true) × KnowsNumbers first xs × KnowsNumbers second ys
refused l m a b xs ys first second o is h = rw is at h

or-or : (p q r : Bool) → (p || q) ≡ true → (p || (q || r)) ≡ true
or-or true q r e = refl
or-or false true r e = refl
or-or false false r e = absurd cc

or-last : (p q r : Bool) → (q || r) ≡ true → (p || (q || r)) ≡ true
or-last true q r e = refl
or-last false q r e = e

-- a block or a source is beyond its limit
pub message-beyond : {w : ℕ} (link : Link) (x : WideBeat w) (t : WideTrace w) (block source : ℕ)
    → block_named (link, x) ≡ Some block → source_of x ≡ Some source
    → (is_past (2 ^ 26) (blocks t) block || is_past 256 (sources link.0 t) source) ≡ true
    → is_beyond link ((link, x) ∷ t) ≡ true
message-beyond link x t block source eb es e =
    beyond link x t (rw (eb, es) (or-or (is_past (2 ^ 26) (blocks t) block) (is_past 256 (sources link.0 t) source)
    (nat_lt 256 (length (with_number (sink_named (link, x)) (sinks t)))) e))

-- a source or a sink is
pub response-beyond : {w : ℕ} (link : Link) (x : WideBeat w) (t : WideTrace w) (source sink : ℕ)
    → source_of x ≡ Some source → sink_named (link, x) ≡ Some sink
    → (is_past 256 (sources link.0 t) source || is_past 256 (sinks t) sink) ≡ true
    → is_beyond link ((link, x) ∷ t) ≡ true
response-beyond link x t source sink es ek e =
    beyond link x t (rw (es, ek) (or-last (nat_lt (2 ^ 26) (length (with_number (block_named (link, x)) (blocks t))))
    (is_past 256 (sources link.0 t) source) (is_past 256 (sinks t) sink) e))

-- a block and a source have numbers
pub message-known : {w : ℕ} (link : Link) (x : WideBeat w) (t : WideTrace w) (old new : Names) (block source : ℕ)
    → block_named (link, x) ≡ Some block → source_of x ≡ Some source → sink_named (link, x) ≡ None → KnowsNames old t
    → length new.sources ≡ 256 → KnowsNumbers new.blocks (with_number (Some block) (blocks t))
    → ((d : Numbers) → KnowsNumbers (slice_index_or new.sources link.0 d)
    (with_number (Some source) (sources link.0 t)))
    → ((i : ℕ) (d : Numbers) → (i ≡ link.0 → ⊥) → slice_index_or new.sources i d ≡ slice_index_or old.sources i d)
    → KnowsNumbers new.sinks (sinks t) → is_past (2 ^ 26) (blocks t) block ≡ false
    → is_past 256 (sources link.0 t) source ≡ false
    → (is_beyond link ((link, x) ∷ t) ≡ false) × KnowsNames new ((link, x) ∷ t)
message-known link x t old new block source eb es ek knows long b s others k few_b few_s =
    step link x t old new knows long (rw eb b) (rw es s) others (rw ek k)
    (rw eb (few (2 ^ 26) (blocks t) block few_b)) (rw es (few 256 (sources link.0 t) source few_s))
    (rw ek knows.few_sinks)

-- a source and a sink
pub response-known : {w : ℕ} (link : Link) (x : WideBeat w) (t : WideTrace w) (old new : Names) (source sink : ℕ)
    → block_named (link, x) ≡ None → source_of x ≡ Some source → sink_named (link, x) ≡ Some sink → KnowsNames old t
    → length new.sources ≡ 256 → KnowsNumbers new.blocks (blocks t)
    → ((d : Numbers) → KnowsNumbers (slice_index_or new.sources link.0 d)
    (with_number (Some source) (sources link.0 t)))
    → ((i : ℕ) (d : Numbers) → (i ≡ link.0 → ⊥) → slice_index_or new.sources i d ≡ slice_index_or old.sources i d)
    → KnowsNumbers new.sinks (with_number (Some sink) (sinks t)) → is_past 256 (sources link.0 t) source ≡ false
    → is_past 256 (sinks t) sink ≡ false
    → (is_beyond link ((link, x) ∷ t) ≡ false) × KnowsNames new ((link, x) ∷ t)
response-known link x t old new source sink eb es ek knows long b s others k few_s few_k =
    step link x t old new knows long (rw eb b) (rw es s) others (rw ek k)
    (rw eb knows.few_blocks) (rw es (few 256 (sources link.0 t) source few_s)) (rw ek (few 256 (sinks t) sink few_k))

-- what they become in the trace with the beat
pub block-becomes : {w : ℕ} (link : Link) (x : WideBeat w) (t : WideTrace w) (address place given : ℕ)
    → block_named (link, x) ≡ Some (address / 64) → place ≡ place_in (with_number (Some (address / 64)) (blocks t))
    (address / 64)
    → given ≡ in_block place address → given ≡ narrow_address ((link, x) ∷ t) address
block-becomes link x t address place result eb is e =
    e ∙ ap (λ n. in_block n address) is
    ∙ ap (λ names. in_block (place_in names (block_at address)) address)
    (ap (λ o. with_number o (blocks t)) (sym eb) ∙ sym (blocks-more link x t))

pub source-becomes : {w : ℕ} (link : Link) (x : WideBeat w) (t : WideTrace w) (source place : ℕ)
    → source_of x ≡ Some source → place ≡ place_in (with_number (Some source) (sources link.0 t)) source
    → place ≡ place_in (sources link.0 ((link, x) ∷ t)) source
source-becomes link x t source place es is =
    is ∙ ap (λ names. place_in names source)
    (ap (λ o. with_number o (sources link.0 t)) (sym es) ∙ sym (sources-own link x t))

pub sink-becomes : {w : ℕ} (link : Link) (x : WideBeat w) (t : WideTrace w) (sink place : ℕ)
    → sink_named (link, x) ≡ Some sink → place ≡ place_in (with_number (Some sink) (sinks t)) sink
    → place ≡ place_in (sinks ((link, x) ∷ t)) sink
sink-becomes link x t sink place ek is =
    is ∙ ap (λ names. place_in names sink)
    (ap (λ o. with_number o (sinks t)) (sym ek) ∙ sym (sinks-more link x t))

-- ---- a sink alone

pub one-given : (l a : ℕ) (xs : List ℕ) (table : Numbers) (o : Option ℕ) (n : ℕ) → o ≡ Some n
    → IsNumbered {E = ℕ} l xs a (Ok o) table
    → (is_past l xs a ≡ false) × (n ≡ place_in (with_number (Some a) xs) a)
    × KnowsNumbers table (with_number (Some a) xs)
one-given l a xs table o n is h = rw is at h

pub one-refused : (l a : ℕ) (xs : List ℕ) (table : Numbers) (o : Option ℕ) → o ≡ None
    → IsNumbered {E = ℕ} l xs a (Ok o) table → (is_past l xs a ≡ true) × KnowsNumbers table xs
one-refused l a xs table o is h = rw is at h

or-third : (p q r : Bool) → r ≡ true → (p || (q || r)) ≡ true
or-third true q r e = refl
or-third false true r e = refl
or-third false false r e = e

pub sink-beyond : {w : ℕ} (link : Link) (x : WideBeat w) (t : WideTrace w) (sink : ℕ)
    → sink_named (link, x) ≡ Some sink → is_past 256 (sinks t) sink ≡ true → is_beyond link ((link, x) ∷ t) ≡ true
sink-beyond link x t sink ek e =
    beyond link x t (rw ek (or-third (nat_lt (2 ^ 26) (length (with_number (block_named (link, x)) (blocks t))))
    (nat_lt 256 (length (with_number (source_of x) (sources link.0 t)))) (is_past 256 (sinks t) sink) e))

pub sink-known : {w : ℕ} (link : Link) (x : WideBeat w) (t : WideTrace w) (old new : Names) (sink : ℕ)
    → link.0 < 256 → block_named (link, x) ≡ None → source_of x ≡ None → sink_named (link, x) ≡ Some sink
    → KnowsNames old t → new.blocks ≡ old.blocks → new.sources ≡ old.sources
    → KnowsNumbers new.sinks (with_number (Some sink) (sinks t)) → is_past 256 (sinks t) sink ≡ false
    → (is_beyond link ((link, x) ∷ t) ≡ false) × KnowsNames new ((link, x) ∷ t)
sink-known link x t old new sink lt eb es ek knows same_b same_s k few_k =
    step link x t old new knows (ap length same_s ∙ knows.long) (rw (eb, same_b) knows.blocks_are)
    (λ d. rw (es, same_s) (knows.sources_are link.0 d lt)) (λ i d other. rw same_s refl) (rw ek k)
    (rw eb knows.few_blocks) (rw es (knows.few_sources link.0)) (rw ek (few 256 (sinks t) sink few_k))

pub sinks-kept : {w : ℕ} (t : WideTrace w) (old new : Names) → KnowsNames old t → new.blocks ≡ old.blocks
    → new.sources ≡ old.sources → KnowsNumbers new.sinks (sinks t) → KnowsNames new t
sinks-kept t old new knows same_b same_s k = record {
  long = ap length same_s ∙ knows.long;
  blocks_are = rw same_b knows.blocks_are;
  sources_are = λ i d lt. rw same_s (knows.sources_are i d lt);
  sinks_are = k;
  few_blocks = knows.few_blocks;
  few_sources = knows.few_sources;
  few_sinks = knows.few_sinks;
}

-- ---- the addresses of requests

-- beats of other channels than A have none
pub skips-b : {w : ℕ} (link l : Link) (x : WideBeatB w) (t : WideTrace w) (s : ℕ)
    → asked_address l s ((link, wide.B x) ∷ t) ≡ asked_address l s t
unfolding asked_address
skips-b link l x t s = refl

pub skips-c : {w : ℕ} (link l : Link) (x : WideBeatC w) (t : WideTrace w) (s : ℕ)
    → asked_address l s ((link, wide.C x) ∷ t) ≡ asked_address l s t
unfolding asked_address
skips-c link l x t s = refl

pub skips-d : {w : ℕ} (link l : Link) (x : WideBeatD w) (t : WideTrace w) (s : ℕ)
    → asked_address l s ((link, wide.D x) ∷ t) ≡ asked_address l s t
unfolding asked_address
skips-d link l x t s = refl

pub skips-e : {w : ℕ} (link l : Link) (x : WideBeatE) (t : WideTrace w) (s : ℕ)
    → asked_address {w = w} l s ((link, wide.E x) ∷ t) ≡ asked_address l s t
unfolding asked_address
skips-e link l x t s = refl

-- ---- an answer that is handed on

pub named-none : {w : ℕ} (link : Link) (x : WideBeat w) (t : WideTrace w) (Becomes : Named → Type 0) (o : Option Named)
    (after : Names) → o ≡ None → IsNamed {E = ℕ} link x t Becomes (Ok o) after
    → (is_beyond link ((link, x) ∷ t) ≡ true) × KnowsNames after t
named-none link x t Becomes o after is h = rw is at h

pub named-some : {w : ℕ} (link : Link) (x : WideBeat w) (t : WideTrace w) (Becomes : Named → Type 0) (o : Option Named)
    (n : Named) (after : Names) → o ≡ Some n → IsNamed {E = ℕ} link x t Becomes (Ok o) after
    → (is_beyond link ((link, x) ∷ t) ≡ false) × Becomes n × KnowsNames after ((link, x) ∷ t)
named-some link x t Becomes o n after is h = rw is at h

pub handed-on : {w : ℕ} {E : Type 0} (link : Link) (x : WideBeat w) (t : WideTrace w) (Becomes : Named → Type 0)
    (r : Result (Option Named) E) (after : Narrower) → IsNamed link x t Becomes r after.names
    → Asks after.asked.items t
    → ((l : Link) (s : ℕ) → asked_address l s ((link, x) ∷ t) ≡ asked_address l s t)
    → ((n : Named) → Becomes n → pieces_of {p = part_width w} x n ≡ beats_of link x ((link, x) ∷ t))
    → IsNumberedBeat link x t r after
handed-on link x t Becomes (Ok (Some n)) after h asks skips pieces =
    (h.0, pieces n h.1, (h.2, asks-kept link x t after.asked.items (h.2.few_sources link.0) skips asks))
handed-on link x t Becomes (Ok None) after h asks skips pieces = (h.0, (h.1, asks))
handed-on link x t Becomes (Err e) after h asks skips pieces = (h, asks)

-- ---- what is named by its values

-- the numbers for an address and a source of a beat are those for the beat's own
pub message-own : {w : ℕ} (link : Link) (t : WideTrace w) (address own source own_source : ℕ) (n : Named)
    → own ≡ address → own_source ≡ source → MessageNamed link address source t n → MessageNamed link own own_source t n
message-own link t address own source own_source n ea es h = rw (ea, es) h

pub response-own : {w : ℕ} (link : Link) (t : WideTrace w) (source own sink own_sink : ℕ) (n : Named)
    → own ≡ source → own_sink ≡ sink → ResponseNamed link source sink t n → ResponseNamed link own own_sink t n
response-own link t source own sink own_sink n es ek h = rw (es, ek) h

pub sink-own : {w : ℕ} (t : WideTrace w) (sink own : ℕ) (n : Named) → own ≡ sink → SinkNamed sink t n
    → SinkNamed own t n
sink-own t sink own n ek h = rw ek h

-- the block of an address
pub block-own : (address own : ℕ) → own ≡ address → Some (block_at own) ≡ Some (address / 64)
block-own address own ea = rw ea refl

-- ---- before the first beat

pub nothing-named : (w : ℕ) (names : Names) (addresses : List ℕ) → length names.sources ≡ 256
    → KnowsNumbers names.blocks []
    → ((i : ℕ) (d : Numbers) → i < 256 → KnowsNumbers (slice_index_or names.sources i d) (0 ∷ []))
    → KnowsNumbers names.sinks (0 ∷ []) → addresses ≡ [] → KnowsNames {w = w} names [] × Asks {w = w} addresses []
unfolding named
nothing-named w names addresses long b s k none = (
  record {
    long = long;
    blocks_are = b;
    sources_are = s;
    sinks_are = k;
    few_blocks = omega arith;
    few_sources = λ i. omega arith;
    few_sinks = omega arith;
  },
  nothing-asked w addresses none,
)
