-- Stores, loads and reports of copies of one memory break none of M5, M6 and M7.
use Rattle.tl_commit_memory.proofs.Imports.{Beat, Channel, CommitRun, Committed, Events, Happened, IsCommitRun, IsTaken}
use Rattle.tl_commit_memory.proofs.Imports.{Leaves, Link, Memory, Perm, Performs, Stores, Takes, Trace, beats_of}
use Rattle.tl_commit_memory.proofs.Imports.{block_at}
use Rattle.tl_commit_memory.proofs.Imports.{events_in, is_free, memory_in, on_link, reaches, run_in}
use Rattle.tl_commit_memory.proofs.Imports.{trace_in, unfinished}
use Rattle.std.proofs.Common.{◌≡◌, ℕ, zero, suc, ◌+◌, ◌*◌, ◌/◌, ◌^◌, ◌<◌, Bool, true, false, not, ◌&&◌, []}
use Rattle.std.proofs.Common.{◌∷◌, ◌⊎◌, inl, inr, refl, sym, ap, ◌∙◌, arith, length, subst}
use Rattle.std.specs.Prelude.{if◌then◌else◌, is_some, ◌||◌, nat_le, nat_lt, None, Option, Some, ⊤}
use Rattle.std.proofs.lemmas.Nat.{pow_pos}
unfoldable use Rattle.tl_rules.specs.statement.Liberties.{held_under}
use Rattle.std.proofs.lemmas.Bool.{and_from, le-leb, not-true, lt-ltb, or_left, or_right}
use Rattle.tl_beat.specs.declared.beat.BeatC.{BeatC}
use Rattle.tl_beat.specs.statement.Opcode.{c_carries_data}
use Rattle.tl_rules.specs.statement.Admission.{is_spoiled, lanes_of}
unfoldable use Rattle.tl_rules.specs.statement.Legality.{each_below}
use Rattle.tl_bytes.specs.statement.Bytes.{tells, told_as}
use Rattle.tl_bytes.specs.statement.Early.{is_released}
use Rattle.tl_bytes.specs.statement.Free.{may_hold}
use Rattle.tl_rules.specs.statement.Conformance.{same_perm}
use Rattle.tl_events.specs.declared.commit.Commit.TheVariants as commit
use Rattle.tl_events.specs.declared.commit.Piece.{Piece}
use Rattle.tl_commits.specs.statement.Completeness.{Completeness, is_complete}
use Rattle.tl_commits.specs.statement.Commits.{broken_load, broken_report, gives, gives_truly, is_kept}
use Rattle.tl_commits.specs.statement.Commits.{is_loadable, is_piece_loadable, keeps_stores, may_bring, takes_trunk}
use Rattle.tl_commits.specs.statement.Events.{at_some, is_loading}
unfoldable use Rattle.tl_commits.specs.statement.Events.{since_begun}
use Rattle.tl_commits.specs.statement.Copies.{brought, holds, is_known, link_beats, may_load}
use Rattle.tl_commits.specs.statement.Seen.{byte_in, values_seen}
use Rattle.tl_one_memory.specs.statement.Run.{OneOf}
use Rattle.tl_commit_memory.specs.statement.CommitRun.{StartsAs}
use Rattle.tl_commit_memory.specs.statement.KeptCopies.{CopyHas, GivesCopy, GivesUp, HasByte, HasBytes, IsKnownByte}
use Rattle.tl_commit_memory.specs.statement.KeptCopies.{KeptCopies}
use Rattle.tl_commit_memory.specs.statement.KeptCopies.{ReportsRightly}
unfoldable use Rattle.tl_commit_memory.specs.statement.KeptCopies.{AreCopies, HadBytes, IsRecorded, KeepCopies}
use Rattle.tl_commit_memory.proofs.Brought.{each-lane}
use Rattle.tl_commit_memory.proofs.Held.{clean-given, held-told, not-free}
use Rattle.tl_commit_memory.proofs.MayBe.{told-so}
use Rattle.tl_commit_memory.proofs.Traces.{beats-are, is-run}
use Rattle.tl_commit_memory.proofs.Values.{unstored}

-- ---- each byte

-- a test that each number below n passes
pub each-below : (n : ℕ) (test : ℕ → Bool) → ((i : ℕ) → i < n → test i ≡ true) → each_below n test ≡ true
unfolding each_below
each-below zero test each = refl
each-below (suc n) test each = and_from (test n) (each_below n test) (each n (omega arith))
    (each-below n test (λ i lt. each i (omega (arith, lt))))

-- the byte at a place of a piece is one that it reaches
pub within-piece : (piece : Piece) (i : ℕ) → i < 2 ^ piece.size
    → reaches piece.address piece.size (piece.address + i) ≡ true
within-piece piece i lt = and_from (nat_le piece.address (piece.address + i))
    (nat_lt (piece.address + i) (piece.address + 2 ^ piece.size))
    (le-leb piece.address (piece.address + i) (omega arith))
    (lt-ltb (piece.address + i) (piece.address + 2 ^ piece.size) (omega (arith, lt)))

-- a load may bring the byte that a value has at a place of the piece
abbrev brings_at : {w : ℕ} → Completeness → ℕ → ℕ → Piece → ℕ → ℕ → Events w → Bool
brings_at complete n link piece value i e =
    may_bring complete n link (piece.address + i) (byte_in piece value (piece.address + i)) e

module _ {w : ℕ} (complete : Completeness) (n : ℕ) (first : Memory) (starts : StartsAs complete.zero first)
    (steps : CommitRun w) (is : IsCommitRun n first steps)
    (copies : AreCopies complete n first steps) where
  -- a byte of a copy is one of its possible values
  told-byte : (link address v : ℕ) → link < n
      → holds (block_at address) (link_beats link (events_in steps)) ≡ true
      → memory_in first (run_in steps) address ≡ v → IsRecorded n first address steps
      → told_as v (values_seen complete n address (events_in steps)) ≡ true
  told-byte link address v below held same recorded = told-so v (values_seen complete n address (events_in steps))
      (rw same at (held-told complete n first starts address steps is copies
      (not-free n link (block_at address) (trace_in (run_in steps)) below
      (not-true (same_perm (may_hold (block_at address) (on_link link (trace_in (run_in steps)))) Perm.None)
      (subst (λ (t : Trace w). holds (block_at address) (on_link link t) ≡ true) (beats-are steps) held))) recorded))

  -- ---- a load

  loads-byte : (link address v : ℕ) → HasByte complete n first link address v steps
      → may_load address (link_beats link (events_in steps)) ≡ true
  loads-byte link address v has = go (brought address (link_beats link (events_in steps))) refl has.1
    where
      go : (o : Option (Option ℕ)) → brought address (link_beats link (events_in steps)) ≡ o
          → CopyHas complete n first link address v o steps
          → may_load address (link_beats link (events_in steps)) ≡ true
      go (Some value) e copy = or_right _ _ (ap is_some e)
      go None e copy = or_left _ _ copy.0

  brings-byte : (link address v : ℕ) → HasByte complete n first link address v steps
      → may_bring complete n link address v (events_in steps) ≡ true
  brings-byte link address v has = go (brought address (link_beats link (events_in steps))) refl has.1
    where
      go : (o : Option (Option ℕ)) → brought address (link_beats link (events_in steps)) ≡ o
          → CopyHas complete n first link address v o steps
          → may_bring complete n link address v (events_in steps) ≡ true
      go (Some value) e copy = rw e copy
      go None e copy = rw e (and_from _ _ copy.0
          (known (is_known complete link (block_at address) (link_beats link (events_in steps))) copy.0 copy.1))
        where
          known : (k : Bool) → holds (block_at address) (link_beats link (events_in steps)) ≡ true
              → OneOf k (IsKnownByte n first address v steps) ⊤
              → (not k || told_as v (values_seen complete n address (events_in steps))) ≡ true
          known false held is' = refl
          known true held is' = told-byte link address v has.0 held is'.0 is'.1

  -- the piece can be loaded, and each of its bytes is one that a load may bring
  loads-piece : (link : ℕ) (piece : Piece) (value : ℕ) → HasBytes complete n first link piece value steps
      → is_piece_loadable link piece (events_in steps) ≡ true
  loads-piece link piece value has =
      each-below (2 ^ piece.size) (λ i. is_loadable link (piece.address + i) (events_in steps))
      (λ i lt. loads-byte link (piece.address + i) (byte_in piece value (piece.address + i))
      (has (piece.address + i) (within-piece piece i lt)))

  brings-piece : (link : ℕ) (piece : Piece) (value i : ℕ) → i < 2 ^ piece.size
      → HasBytes complete n first link piece value steps
      → brings_at complete n link piece value i (events_in steps) ≡ true
  brings-piece link piece value i lt has = brings-byte link (piece.address + i)
      (byte_in piece value (piece.address + i)) (has (piece.address + i) (within-piece piece i lt))

  -- ---- a report

  gives-byte : (link address v : ℕ) → is_complete complete link ≡ true
      → HasByte complete n first link address v steps
      → gives (brought address (link_beats link (events_in steps))) complete n address v (events_in steps) ≡ true
  gives-byte link address v whole has = go (brought address (link_beats link (events_in steps))) has.1
    where
      go : (o : Option (Option ℕ)) → CopyHas complete n first link address v o steps
          → gives o complete n address v (events_in steps) ≡ true
      go (Some value) copy = copy
      go None copy =
          let known : IsKnownByte n first address v steps = rw whole at copy.1 in
          told-byte link address v has.0 copy.0 known.0 known.1

  gives-copy : (link : ℕ) (y : BeatC w) → (is_complete complete link ≡ true → GivesCopy complete n first link y steps)
      → gives_truly complete n link y (events_in steps) ≡ true
  gives-copy link y copy = go (is_complete complete link) refl
      (is_released (block_at y.address) (Beat.C y) (link_beats link (events_in steps))) refl
      (is_spoiled (Beat.C y)) refl
    where
      go : (c : Bool) → is_complete complete link ≡ c → (r : Bool)
          → is_released (block_at y.address) (Beat.C y) (link_beats link (events_in steps)) ≡ r → (s : Bool)
          → is_spoiled (Beat.C y) ≡ s → gives_truly complete n link y (events_in steps) ≡ true
      go false e r f s g = rw e refl
      go true e true f s g = rw (e, f) refl
      go true e false f true g = rw (e, f, g) refl
      go true e false f false g = rw (e, f, g) (each-lane _
          (64 * block_at y.address + w * length (unfinished Channel.C (link_beats link (events_in steps))))
          (lanes_of (Beat.C y)) (λ j v lane. gives-byte link _ v e (copy e f g j v lane)))

  -- no byte that was stored is lost, where no link holds Trunk then
  kept-clean : (link : Link) (x : Beat w) → IsTaken n first link x (run_in steps) → (block : ℕ)
      → tells block x (on_link link.0 (trace_in (run_in steps))) ≡ false
      → is_free n Perm.Branch block ((link, x) ∷ trace_in (run_in steps)) ≡ true → (place : ℕ) → place < 64
      → is_kept complete n (64 * block + place) (events_in steps) ≡ true
  kept-clean link x taken block untold free place lt =
      rw (unstored complete n first starts (64 * block + place) steps is
      (clean-given n first (64 * block + place) link x steps taken (is-run n first steps is)
      (subst (λ (b : ℕ). is_free n Perm.Branch b ((link, x) ∷ trace_in (run_in steps)) ≡ true) (sym here) free)
      (subst (λ (b : ℕ). tells b x (on_link link.0 (trace_in (run_in steps))) ≡ false) (sym here) untold))) refl
    where
      here : (64 * block + place) / 64 ≡ block
      here = omega (arith, lt)

  gives-up : (link : Link) (x : Beat w) → IsTaken n first link x (run_in steps)
      → ((block : ℕ) → tells block x (on_link link.0 (trace_in (run_in steps))) ≡ false)
      → (is_complete complete link.0 ≡ true → GivesUp n link x steps)
      → keeps_stores complete n link.0 (takes_trunk x (link_beats link.0 (events_in steps))) (events_in steps) ≡ true
  gives-up link x taken untold up = go (takes_trunk x (link_beats link.0 (events_in steps))) refl
      (is_complete complete link.0) refl
    where
      go : (o : Option ℕ) → takes_trunk x (link_beats link.0 (events_in steps)) ≡ o → (c : Bool)
          → is_complete complete link.0 ≡ c → keeps_stores complete n link.0 o (events_in steps) ≡ true
      go None e c f = refl
      go (Some block) e false f = rw f refl
      go (Some block) e true f = rw f (each-below 64
          (λ place. is_kept complete n (64 * block + place) (events_in steps))
          (kept-clean link x taken block (untold block) (up f block e)))

  report-kept : (link : Link) (x : Beat w) → IsTaken n first link x (run_in steps)
      → (is_complete complete link.0 ≡ true → ReportsRightly complete n first link x steps)
      → broken_report complete n link.0 x (events_in steps) ≡ None
  report-kept link (Beat.A y) taken rightly = rw (gives-up link (Beat.A y) taken (λ block. refl) rightly) refl
  report-kept link (Beat.B y) taken rightly = refl
  report-kept link (Beat.D y) taken rightly = refl
  report-kept link (Beat.E y) taken rightly = refl
  report-kept link (Beat.C y) taken rightly = rw (go (c_carries_data y.opcode) refl rightly) refl
    where
      never : (a b : Bool) → c_carries_data y.opcode ≡ false → a && (c_carries_data y.opcode && b) ≡ false
      never true b e = rw e refl
      never false b e = refl

      go : (b : Bool) → c_carries_data y.opcode ≡ b → (is_complete complete link.0 ≡ true
          → OneOf b (GivesCopy complete n first link.0 y steps) (GivesUp n link (Beat.C y) steps))
          → (if b then gives_truly complete n link.0 y (events_in steps) else
          keeps_stores complete n link.0 (takes_trunk (Beat.C y) (link_beats link.0 (events_in steps)))
          (events_in steps))
          ≡ true
      go true e by = gives-copy link.0 y by
      go false e by = gives-up link (Beat.C y) taken (λ block. never _ _ e) by

-- ---- a load that takes time

-- before the trace nothing is held
none-held : (w link address : ℕ) → may_load {w = w} address (link_beats link []) ≡ false
unfolding beats_of on_link unfinished held_under
none-held w link address = refl

none-brought : (w : ℕ) (complete : Completeness) (n link address v : ℕ)
    → may_bring {w = w} complete n link address v [] ≡ false
unfolding beats_of on_link unfinished held_under
none-brought w complete n link address v = refl

none-loadable : (w link : ℕ) (piece : Piece) → is_piece_loadable {w = w} link piece [] ≡ false
unfolding each_below
none-loadable w link piece = go (2 ^ piece.size) (pow_pos piece.size)
  where
    go : (k : ℕ) → 0 < k → each_below k (λ i. may_load {w = w} (piece.address + i) (link_beats link [])) ≡ false
    go zero pos = absurd (omega (arith, pos))
    go (suc k) pos = rw (none-held w link (piece.address + k)) refl

module _ {w : ℕ} (complete : Completeness) (n : ℕ) (first : Memory) (starts : StartsAs complete.zero first) (link : ℕ)
    (piece : Piece) (value : ℕ)
    (test : Events w → Bool) (none : test [] ≡ false) where
  since-now : (e : Events w) → test e ≡ true → since_begun test link piece e ≡ true
  unfolding since_begun
  since-now [] passes = absurd (let no : false ≡ true = sym none ∙ passes in cc)
  since-now (x ∷ e) passes = or_left _ _ passes

  -- the test passes at each moment at which the copy has the bytes
  abbrev Passes : Type 0
  Passes = (steps : CommitRun w) → IsCommitRun n first steps → AreCopies complete n first steps
      → HasBytes complete n first link piece value steps → test (events_in steps) ≡ true

  had-since : (steps : CommitRun w) → IsCommitRun n first steps → AreCopies complete n first steps → Passes
      → HadBytes complete n first link piece value steps → since_begun test link piece (events_in steps) ≡ true
  unfolding IsCommitRun AreCopies HadBytes events_in since_begun
  had-since [] is copies passes had = absurd had
  had-since (Happened (Takes l x) ∷ steps) is copies passes had = elim had [
    | inl now ↦ or_left _ _ (passes (Happened (Takes l x) ∷ steps) is copies now)
    | inr more ↦ or_right _ _ (had-since steps is.1 copies.2 passes more.1)
  ]
  had-since (Happened (Performs d i at left) ∷ steps) is copies passes had = elim had [
    | inl now ↦ since-now (events_in steps) (passes (Happened (Performs d i at left) ∷ steps) is copies now)
    | inr more ↦ had-since steps is.1 copies passes more.1
  ]
  had-since (Happened (Stores block bytes) ∷ steps) is copies passes had = elim had [
    | inl now ↦ since-now (events_in steps) (passes (Happened (Stores block bytes) ∷ steps) is copies now)
    | inr more ↦ had-since steps is.1 copies passes more.1
  ]
  had-since (Happened (Leaves d i bytes) ∷ steps) is copies passes had = elim had [
    | inl now ↦ since-now (events_in steps) (passes (Happened (Leaves d i bytes) ∷ steps) is copies now)
    | inr more ↦ had-since steps is.1 copies.1 passes more.1
  ]
  had-since (Committed l x ∷ steps) is copies passes had = elim had [
    | inl now ↦ or_left _ _ (passes (Committed l x ∷ steps) is copies now)
    | inr more ↦ or_right _ _ (and_from _ _ (ap not more.0) (had-since steps is.1 copies.1 passes more.1))
  ]

  had-some : (steps : CommitRun w) → IsCommitRun n first steps → AreCopies complete n first steps → Passes
      → HasBytes complete n first link piece value steps
      ⊎ ((is_loading link piece (events_in steps) ≡ true) × HadBytes complete n first link piece value steps)
      → at_some test link piece (events_in steps) ≡ true
  had-some steps is copies passes used = elim used [
    | inl now ↦ or_left _ _ (passes steps is copies now)
    | inr had ↦ or_right _ _ (and_from _ _ had.0 (had-since steps is copies passes had.1))
  ]

load-kept : {w : ℕ} (complete : Completeness) (n : ℕ) (first : Memory) (starts : StartsAs complete.zero first)
    (steps : CommitRun w) → IsCommitRun n first steps
    → AreCopies complete n first steps → (link : ℕ) (piece : Piece) (value : ℕ)
    → HasBytes complete n first link piece value steps
    ⊎ ((is_loading link piece (events_in steps) ≡ true) × HadBytes complete n first link piece value steps)
    → broken_load complete n link piece value (events_in steps) ≡ None
load-kept {w} complete n first starts steps is copies link piece value used = rw (
  had-some complete n first starts link piece value (is_piece_loadable link piece) (none-loadable w link piece) steps is
      copies
      (λ s i c has. loads-piece complete n first starts s i c link piece value has) used,
  each-below (2 ^ piece.size) (λ i. at_some (brings_at complete n link piece value i) link piece (events_in steps))
      (λ i lt. had-some complete n first starts link piece value (brings_at complete n link piece value i)
      (none-brought w complete n link (piece.address + i) (byte_in piece value (piece.address + i))) steps is copies
      (λ s j c has. brings-piece complete n first starts s j c link piece value i lt has) used),
) refl

-- ---- all events

pub kept_copies : {w : ℕ} → KeptCopies w
unfolding IsCommitRun AreCopies KeepCopies events_in run_in
kept_copies complete n first [] starts is copies = tt
kept_copies complete n first (Happened (Takes link x) ∷ steps) starts is copies = (
  report-kept complete n first starts steps is.1 copies.2 link x is.0 copies.1,
  kept_copies complete n first steps starts is.1 copies.2,
)
kept_copies complete n first (Happened (Performs d i test left) ∷ steps) starts is copies =
    kept_copies complete n first steps starts is.1 copies
kept_copies complete n first (Happened (Stores block bytes) ∷ steps) starts is copies =
    kept_copies complete n first steps starts is.1 copies
kept_copies complete n first (Happened (Leaves d i bytes) ∷ steps) starts is copies =
    kept_copies complete n first steps starts is.1 copies.1
kept_copies complete n first (Committed link (commit.Store piece value) ∷ steps) starts is copies =
    (rw copies.0 refl, kept_copies complete n first steps starts is.1 copies.1)
kept_copies complete n first (Committed link (commit.Load piece value) ∷ steps) starts is copies = (
  load-kept complete n first starts steps is.1 copies.1 link.0 piece value copies.0,
  kept_copies complete n first steps starts is.1 copies.1,
)
kept_copies complete n first (Committed link (commit.Begin piece) ∷ steps) starts is copies =
    (refl, kept_copies complete n first steps starts is.1 copies.1)
