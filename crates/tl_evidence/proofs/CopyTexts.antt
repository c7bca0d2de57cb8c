-- The lines about bytes of a copy, by what is kept.
use Rattle.std.proofs.Common.{◌≡◌, ◌≤◌, ◌<◌, ◌+◌, ◌-◌, ◌*◌, ◌/◌, ◌%◌, ◌^◌, ◌++◌, ◌∙◌, ℕ, zero, suc, Bool, true, false}
use Rattle.std.proofs.Common.{List, [], ◌∷◌, get_or, length, refl, ap, arith, append_assoc, take, codes}
use Rattle.std.specs.Hash.{le_bytes}
use Rattle.std.specs.Int.{byte_at, bytes_low_first, to_le_bytes, w64}
use Rattle.std.proofs.lemmas.Bool.{lt-ltb}
use Rattle.std.proofs.lemmas.Option.{slice_get-get_or}
use Rattle.std.specs.Prelude.{slice_get, Option, Some, None, ⊤}
use Rattle.tl_beat.specs.declared.beat.BeatC.{BeatC}
use Rattle.tl_beat.specs.declared.channel.Channel.TheVariants as channel
use Rattle.tl_burst.specs.statement.Messages.{unfinished}
use Rattle.tl_bytes.specs.statement.Bytes.{could_be, told_as}
use Rattle.tl_bytes.specs.statement.Known.{tellings_at}
use Rattle.tl_commits.specs.statement.Completeness.{Completeness}
use Rattle.tl_commits.specs.statement.Commits.{gives, is_kept, may_bring, may_give}
use Rattle.tl_commits.specs.statement.Copied.{copied, copy_values}
use Rattle.tl_commits.specs.statement.Copies.{brought, link_beats}
use Rattle.tl_commits.specs.statement.Events.{Events, at_some, beats_of}
use Rattle.tl_commits.specs.code.Responding.{AreBytes}
use Rattle.tl_commits.specs.statement.Seen.{memory_may, values_seen}
use Rattle.tl_events.specs.declared.commit.Event.{Event}
use Rattle.tl_events.specs.declared.commit.Piece.{Piece}
use Rattle.tl_events.specs.declared.rule.CommitRule.{CommitRule}
use Rattle.tl_memory.specs.code.ByteSet.{has_at, nothing}
use Rattle.tl_memory.specs.declared.byte_set.ByteSet.{ByteSet}
use Rattle.tl_params.specs.declared.level.Level.{Level}
use Rattle.tl_params.specs.declared.liberties.Liberties.{Liberties}
use Rattle.tl_evidence.proofs.SameTexts.{AreAll, all-same, any-all, strays-same}
use Rattle.tl_witness.specs.statement.Naming.{Naming}
use Rattle.tl_witness.specs.statement.Strays.{more_text, strays_text, values_text}
use Rattle.tl_evidence.specs.code.Following.{IsRoom, KnowsCopy, is_in_set, set_in}
use Rattle.tl_evidence.specs.declared.copy_record.CopyRecord.{CopyRecord}
use Rattle.tl_evidence.specs.declared.set_lines.SetLines.{SetLines}
use Rattle.tl_evidence.specs.statement.CopyLines.{counted_line, given_lines, loaded_lines, lost_from, lost_line}
use Rattle.tl_evidence.specs.statement.CopyLines.{copy_lines, event_lines, set_in_copy, set_in_memory}

-- ---- the bytes of a value

abbrev Byte : ℕ → Type 0
Byte v = v < 256

seven : (out a b c d f g h : List ℕ)
    → ((((((out ++ a) ++ b) ++ c) ++ d) ++ f) ++ g) ++ h ≡ out ++ (a ++ (b ++ (c ++ (d ++ (f ++ (g ++ h))))))
seven out a b c d f g h =
    append_assoc (((((out ++ a) ++ b) ++ c) ++ d) ++ f) g h
    ∙ append_assoc ((((out ++ a) ++ b) ++ c) ++ d) f (g ++ h)
    ∙ append_assoc (((out ++ a) ++ b) ++ c) d (f ++ (g ++ h))
    ∙ append_assoc ((out ++ a) ++ b) c (d ++ (f ++ (g ++ h)))
    ∙ append_assoc (out ++ a) b (c ++ (d ++ (f ++ (g ++ h))))
    ∙ append_assoc out a (b ++ (c ++ (d ++ (f ++ (g ++ h)))))

-- the first bytes of a value
pub first-bytes : (i count k value : ℕ) → count ≤ k → take count (bytes_low_first i k value) ≡ bytes_low_first i count value
first-bytes i zero k value le = refl
first-bytes i (suc count) zero value le = absurd (omega (arith, le))
first-bytes i (suc count) (suc k) value le =
    ap (λ l. byte_at i value ∷ l) (first-bytes (suc i) count k value (omega (arith, le)))

byte-small : (i value : ℕ) → byte_at i value < 256
byte-small zero value = omega arith
byte-small (suc i) value = omega arith

pub are-bytes : (i count value : ℕ) → AreAll Byte (bytes_low_first i count value)
unfolding AreAll
are-bytes i zero value = tt
are-bytes i (suc count) value = (byte-small i value, are-bytes (suc i) count value)

-- the bytes of an array
pub bytes-all : (lanes : List ℕ) → ((i : ℕ) → i < length lanes → get_or lanes i 0 < 256) → AreAll Byte lanes
unfolding AreAll
bytes-all [] fits = tt
bytes-all (v ∷ lanes) fits = (fits 0 (omega arith), bytes-all lanes (λ i lt. fits (suc i) (omega (arith, lt))))

pub so-many : (i count value : ℕ) → length (bytes_low_first i count value) ≡ count
so-many i zero value = refl
so-many i (suc count) value = ap suc (so-many (suc i) count value)

module _ {w : ℕ} (names : Naming) (r : CopyRecord w) (may : Liberties) (levels : List Level) (complete : Completeness) (e : Events w)
    (k : KnowsCopy r may levels complete e) where
  abbrev n : ℕ
  n = length levels

  abbrev link : ℕ
  link = r.link.0

  abbrev base : ℕ
  base = 64 * r.block

  -- the line that set a value of the copy, and of memory
  copy-set : (i v : ℕ) → base ≤ i → i < base + 64 → v < 256
      → set_in r.copy (i - base) v ≡ set_in_copy complete n link e i v
  copy-set i v low high fits =
      let whole : base + (i - base) ≡ i = omega (arith, low) in
      rw whole at (k.copy_is.set_is (i - base) v (omega (arith, low, high)) fits)

  -- the values of the copy
  copy-now : (i v : ℕ) → base ≤ i → i < base + 64
      → told_as v (tellings_at (i - base) r.copy.values.items) ≡ told_as v (copy_values complete n link i e)
  copy-now i v low high =
      let whole : base + (i - base) ≡ i = omega (arith, low) in
      ap (told_as v) (rw whole at (k.copy_is.now_is (i - base) (omega (arith, low, high))))

  -- which a report may give back
  copy-given : (i v : ℕ) → told_as v (copy_values complete n link i e) ≡ may_give complete n link e i v
  copy-given i v = go (brought i (link_beats link e))
    where
      one : (value : Option ℕ) (b : Bool) → could_be v value ≡ b
          → told_as v (record { value = value; moment = 0 } ∷ []) ≡ b
      one value true is = rw is refl
      one value false is = rw is refl

      go : (o : Option (Option ℕ)) → told_as v (copied o (values_seen complete n i e)) ≡ gives o complete n i v e
      go None = refl
      go (Some value) = one value (could_be v value) refl

  -- the bytes of a beat of a report
  pub given-text : (x : BeatC w) (first : ℕ) (lanes : List ℕ) → x.address / 64 ≡ r.block
      → first ≡ w * length (unfinished channel.C (link_beats link e)) → first + length lanes ≤ 64 → x.lanes ≡ Some lanes
      → strays_text names (λ i v. told_as v (tellings_at (i - base) r.copy.values.items))
      (λ i v. set_in r.copy (i - base) v) 0 (base + first) lanes
      ≡ given_lines names complete n link x e
  given-text x first lanes here at room has =
      rw (here, ← at, has) (strays-same names (λ _. ⊤) (λ v lt. tt)
      (λ i v. told_as v (tellings_at (i - base) r.copy.values.items)) (may_give complete n link e)
      (λ i v. set_in r.copy (i - base) v) (set_in_copy complete n link e) 0 (base + first) lanes (any-all lanes)
      (λ i low high. (
        λ v any. copy-now i v (omega (arith, low)) (omega (arith, high, room)) ∙ copy-given i v,
        λ v fits. copy-set i v (omega (arith, low)) (omega (arith, high, room)) fits,
      )))

  -- by what is kept of values that are these
  pub given-by : (x : BeatC w) (first b : ℕ) (lanes : List ℕ) (s : SetLines) → b ≡ r.block → s ≡ r.copy
      → x.address / 64 ≡ r.block → first ≡ w * length (unfinished channel.C (link_beats link e)) → first + length lanes ≤ 64
      → x.lanes ≡ Some lanes
      → strays_text names (λ i v. told_as v (tellings_at (i - 64 * b) s.values.items)) (λ i v. set_in s (i - 64 * b) v) 0
      (64 * b + first) lanes
      ≡ given_lines names complete n link x e
  given-by x first b lanes s block set here at room has = rw (block, set) (given-text x first lanes here at room has)

  -- the bytes of a load
  pub loaded-text : (piece : Piece) (value first : ℕ) (sets : List ByteSet) (lanes : List ℕ)
      → piece.address / 64 ≡ r.block → first ≡ piece.address % 64 → first + 2 ^ piece.size ≤ 64 → 2 ^ piece.size ≤ 8
      → lanes ≡ le_bytes (2 ^ piece.size) value → length lanes ≡ 2 ^ piece.size → AreAll Byte lanes
      → ((i v : ℕ) → i < 2 ^ piece.size → v < 256 → has_at sets i v
      ≡ at_some (may_bring complete n link (piece.address + i) v) link piece e)
      → length sets ≡ 8
      → strays_text names (λ i v. is_in_set (slice_get sets (i - (base + first))) v) (λ i v. set_in r.copy (i - base) v) 0
      (base + first) lanes
      ≡ loaded_lines names complete n link piece value e
  loaded-text piece value first sets lanes here at room few are wide bytes says long =
      let start : base + first ≡ piece.address = omega (arith, here, at) in
      rw (← are, start) (strays-same names Byte (λ v lt. lt)
      (λ i v. is_in_set (slice_get sets (i - piece.address)) v) (λ i v. at_some (may_bring complete n link i v) link piece e)
      (λ i v. set_in r.copy (i - base) v) (set_in_copy complete n link e) 0 piece.address lanes bytes
      (λ i low high. (
        λ v fits.
            let whole : piece.address + (i - piece.address) ≡ i = omega (arith, low) in
            let few_sets : i - piece.address < length sets = omega (arith, low, high, wide, few, long) in
            ap (λ o. is_in_set o v) (slice_get-get_or sets (i - piece.address) nothing few_sets)
            ∙ rw whole at (says (i - piece.address) v (omega (arith, low, high, wide)) fits),
        λ v fits. copy-set i v (omega (arith, low, here)) (omega (arith, high, room, wide, start)) fits,
      )))

  -- as many bytes of its value as the piece has
  pub loaded-bytes : (piece : Piece) (value first count : ℕ) (sets : List ByteSet) (bytes : List ℕ)
      → piece.address / 64 ≡ r.block → IsRoom piece first count → bytes ≡ to_le_bytes w64 value → length sets ≡ 8
      → ((i v : ℕ) → i < 2 ^ piece.size → v < 256 → has_at sets i v
      ≡ at_some (may_bring complete n link (piece.address + i) v) link piece e)
      → strays_text names (λ i v. is_in_set (slice_get sets (i - (base + first))) v) (λ i v. set_in r.copy (i - base) v) 0
      (base + first) (take count bytes)
      ≡ loaded_lines names complete n link piece value e
  unfolding le_bytes
  loaded-bytes piece value first count sets bytes here room is long says =
      let few : 2 ^ piece.size ≤ 8 = omega (arith, room.few, room.count_is) in
      let inside : first + 2 ^ piece.size ≤ 64 = omega (arith, room.inside, room.count_is) in
      let are : take count bytes ≡ le_bytes (2 ^ piece.size) value =
      rw (is, room.count_is) (first-bytes 0 (2 ^ piece.size) 8 value few) in
      rw are (loaded-text piece value first sets (le_bytes (2 ^ piece.size) value) here room.first_is inside few refl
      (so-many 0 (2 ^ piece.size) value) (are-bytes 0 (2 ^ piece.size) value) says long)

  pub loaded-by : (piece : Piece) (value first count b : ℕ) (sets : List ByteSet) (bytes : List ℕ) (s : SetLines)
      → b ≡ r.block → s ≡ r.copy → piece.address / 64 ≡ r.block → IsRoom piece first count → bytes ≡ to_le_bytes w64 value
      → length sets ≡ 8
      → ((i v : ℕ) → i < 2 ^ piece.size → v < 256 → has_at sets i v
      ≡ at_some (may_bring complete n link (piece.address + i) v) link piece e)
      → strays_text names (λ i v. is_in_set (slice_get sets (i - (64 * b + first))) v)
      (λ i v. set_in s (i - 64 * b) v) 0 (64 * b + first) (take count bytes)
      ≡ loaded_lines names complete n link piece value e
  loaded-by piece value first count b sets bytes s block set here room is long says =
      rw (block, set) (loaded-bytes piece value first count sets bytes here room is long says)

  -- the bytes of a beat of a response, by what is kept of values that are these
  pub brought-by : (first : ℕ) (sets : List ByteSet) (from block : ℕ) (test : ℕ → ℕ → Bool) (lanes : List ℕ) (s : SetLines)
      → AreBytes (record { block = r.block; first = first; sets = sets }) w from test → block ≡ r.block → s ≡ r.copy
      → length lanes ≡ w → AreAll Byte lanes → length sets ≡ 64
      → strays_text names (λ i v. is_in_set (slice_get sets (i - (64 * block + 0))) v)
      (λ i v. set_in s (i - 64 * block) v) 0 (64 * block + first) lanes
      ≡ strays_text names test (set_in_copy complete n link e) 0 from lanes
  brought-by first sets from block test lanes s are here set wide bytes long =
      let start : base + first ≡ from = are.from_is in
      rw (here, set, start) (strays-same names Byte (λ v lt. lt)
      (λ i v. is_in_set (slice_get sets (i - (base + 0))) v) test (λ i v. set_in r.copy (i - base) v)
      (set_in_copy complete n link e) 0 from lanes bytes
      (λ i low high. (
        λ v fits.
            let inside : i - (base + 0) < 64 = omega (arith, low, high, wide, start, are.inside) in
            let whole : base + (i - (base + 0)) ≡ i = omega (arith, low, start) in
            ap (λ o. is_in_set o v) (slice_get-get_or sets (i - (base + 0)) nothing (omega (arith, inside, long)))
            ∙ are.sets_are (i - (base + 0)) v inside fits ∙ ap (λ a. test a v) whole,
        λ v fits. copy-set i v (omega (arith, low, start)) (omega (arith, high, wide, start, are.inside)) fits,
      )))

  -- ---- bytes that are lost

  memory-set : (place v : ℕ) → place < 64 → v < 256
      → set_in r.memory (base + place - base) v ≡ set_in_memory complete.zero n e (base + place) v
  memory-set place v small fits =
      let whole : base + place - base ≡ place = omega arith in
      rw whole (k.memory_is.set_is place v small fits)

  memory-now : (place v : ℕ) → place < 64
      → told_as v (tellings_at (base + place - base) r.memory.values.items)
      ≡ told_as v (memory_may complete.zero n (base + place) (beats_of e))
  memory-now place v small =
      let whole : base + place - base ≡ place = omega arith in
      rw whole (ap (told_as v) (k.memory_is.now_is place small))

  -- all that a byte of the copy may be, and a byte of memory
  pub copy-values : (place : ℕ) → place < 64
      → values_text names (λ v. told_as v (tellings_at (base + place - base) r.copy.values.items))
      (λ v. set_in r.copy (base + place - base) v) false 256 0
      ≡ values_text names (λ v. told_as v (copy_values complete n link (base + place) e))
      (set_in_copy complete n link e (base + place)) false 256 0
  copy-values place small = all-same names (λ _. ⊤) (λ v lt. tt) _ _ _ _ (
    λ v any. copy-now (base + place) v (omega arith) (omega (arith, small)),
    λ v fits. copy-set (base + place) v (omega arith) (omega (arith, small)) fits,
  )

  pub memory-values : (place : ℕ) → place < 64
      → values_text names (λ v. told_as v (tellings_at (base + place - base) r.memory.values.items))
      (λ v. set_in r.memory (base + place - base) v) false 256 0
      ≡ values_text names (λ v. told_as v (memory_may complete.zero n (base + place) (beats_of e)))
      (set_in_memory complete.zero n e (base + place)) false 256 0
  memory-values place small = all-same names (λ _. ⊤) (λ v lt. tt) _ _ _ _ (
    λ v any. memory-now place v small,
    λ v fits. memory-set place v small fits,
  )

  copy-by : (place b : ℕ) (s : SetLines) → place < 64 → b ≡ r.block → s ≡ r.copy
      → values_text names (λ v. told_as v (tellings_at (64 * b + place - 64 * b) s.values.items))
      (λ v. set_in s (64 * b + place - 64 * b) v) false 256 0
      ≡ values_text names (λ v. told_as v (copy_values complete n link (base + place) e))
      (set_in_copy complete n link e (base + place)) false 256 0
  copy-by place b s small block set = rw (block, set) (copy-values place small)

  memory-by : (place b : ℕ) (s : SetLines) → place < 64 → b ≡ r.block → s ≡ r.memory
      → values_text names (λ v. told_as v (tellings_at (64 * b + place - 64 * b) s.values.items))
      (λ v. set_in s (64 * b + place - 64 * b) v) false 256 0
      ≡ values_text names (λ v. told_as v (memory_may complete.zero n (base + place) (beats_of e)))
      (set_in_memory complete.zero n e (base + place)) false 256 0
  memory-by place b s small block set = rw (block, set) (memory-values place small)

  -- the line of a byte that is lost
  pub lost-told : (place b b' : ℕ) (s s' : SetLines) → place < 64 → b ≡ r.block → s ≡ r.copy → b' ≡ r.block → s' ≡ r.memory
      → (address : ℕ) → address ≡ 64 * b + place → (out a c d f g h i : List ℕ) → a ≡ out ++ codes "  byte "
      → c ≡ a ++ names.address address → d ≡ c ++ codes " of the copy was stored"
      → f ≡ d ++ values_text names (λ v. told_as v (tellings_at (64 * b + place - 64 * b) s.values.items))
      (λ v. set_in s (64 * b + place - 64 * b) v) false 256 0
      → g ≡ f ++ codes "; that of memory wasn't"
      → h ≡ g ++ values_text names (λ v. told_as v (tellings_at (64 * b' + place - 64 * b') s'.values.items))
      (λ v. set_in s' (64 * b' + place - 64 * b') v) false 256 0
      → i ≡ h ++ codes "\n" → i ≡ out ++ lost_line names complete n link (base + place) e
  unfolding lost_line
  lost-told place b b' s s' small eb es eb' es' address at out a c d f g h i ea ec ed ef eg eh ei =
      let there : address ≡ base + place = at ∙ ap (λ k. 64 * k + place) eb in
      let named = ec ∙ ap (λ k. a ++ names.address k) there in
      let copy = ef ∙ ap (λ t. d ++ t) (copy-by place b s small eb es) in
      let memory = eh ∙ ap (λ t. g ++ t) (memory-by place b' s' small eb' es') in
      rw (ei, memory, eg, copy, ed, named, ea) (seven out _ _ _ _ _ _ _)

  -- a byte that isn't lost
  pub place-kept : (others address rest : ℕ) (out : List ℕ) → is_kept complete n address e ≡ true
      → out ++ lost_from names complete n link others (address + 1) rest e
      ≡ out ++ lost_from names complete n link others address (suc rest) e
  unfolding lost_from
  place-kept others address rest out kept = rw kept refl

  -- and one that is
  pub place-lost : (others now address rest : ℕ) (out new : List ℕ) → is_kept complete n address e ≡ false
      → now ≡ others + 1 → new ≡ out ++ counted_line names complete n link others address e
      → new ++ lost_from names complete n link now (address + 1) rest e
      ≡ out ++ lost_from names complete n link others address (suc rest) e
  unfolding lost_from
  place-lost others now address rest out new lost more line =
      rw (lost, more, line) (append_assoc out (counted_line names complete n link others address e)
      (lost_from names complete n link (others + 1) (address + 1) rest e))

  -- the next place
  pub place-next : (others now place : ℕ) (out new whole : List ℕ) → place < 64
      → ((rest : ℕ) → new ++ lost_from names complete n link now (base + place + 1) rest e
      ≡ out ++ lost_from names complete n link others (base + place) (suc rest) e)
      → out ++ lost_from names complete n link others (base + place) (64 - place) e ≡ whole
      → new ++ lost_from names complete n link now (base + (place + 1)) (64 - (place + 1)) e ≡ whole
  place-next others now place out new whole below next so_far =
      let left : 64 - place ≡ suc (64 - (place + 1)) = omega (arith, below) in
      let at : base + (place + 1) ≡ base + place + 1 = omega arith in
      rw at (next (64 - (place + 1))) ∙ rw left at so_far

  -- no place is left
  pub place-last : (others place : ℕ) (out whole : List ℕ) → 64 ≤ place
      → out ++ lost_from names complete n link others (base + place) (64 - place) e ≡ whole → out ++ more_text others ≡ whole
  unfolding lost_from
  place-last others place out whole past so_far =
      let left : 64 - place ≡ 0 = omega (arith, past) in
      rw left at so_far

-- the pieces of a line of at most 8 bytes
pub room-count : (size : ℕ) → size ≤ 3 → (1 * 2 ^ size % 18446744073709551616 ≡ 2 ^ size)
    × (1 * 2 ^ size % 18446744073709551616 ≤ 8)
room-count zero le = (omega arith, omega arith)
room-count (suc zero) le = (omega arith, omega arith)
room-count (suc (suc zero)) le = (omega arith, omega arith)
room-count (suc (suc (suc zero))) le = (omega arith, omega arith)
room-count (suc (suc (suc (suc n)))) le = absurd (omega arith)

-- ---- all

module _ {w : ℕ} (names : Naming) (complete : Completeness) (n link : ℕ) (e : Events w) where
  -- one of the first eight bytes
  pub counted-first : (others address : ℕ) → others < 8
      → lost_line names complete n link address e ≡ counted_line names complete n link others address e
  counted-first others address lt = rw (lt-ltb others 8 lt) refl

  -- a rule that is about values
  pub other-lines : (rule : CommitRule) (x : Event w) → (rule ≡ CommitRule.M5 → ⊥)
      → event_lines names complete n link x e ≡ copy_lines names rule complete n link x e
  other-lines CommitRule.M5 x other = absurd (other refl)
  other-lines CommitRule.M6 x other = refl
  other-lines CommitRule.M7 x other = refl
