-- Tables that say what a history does, and with one more beat what the longer one does.
use Rattle.std.proofs.Common.{◌≡◌, ℕ, Bool, true, false, ◌&&◌, ◌||◌, refl, sym, ap, ◌∙◌, inl, inr}
use Rattle.std.specs.Prelude.{if◌then◌else◌, [], ◌∷◌, not, ◌==◌, List, Option, Some, None, is_some, IsTrue}
use Rattle.std.proofs.lemmas.Bool.{cases_Bool, cases_eq, eq-eqb, ne_eqb, eqb-true}
use Rattle.tl_beat.specs.statement.Width.{IsWidth}
use Rattle.tl_beat.specs.declared.beat.Beat.{Beat}
use Rattle.tl_beat.specs.declared.beat.Beat.TheVariants.{A, B, C, D, E}
use Rattle.tl_beat.specs.declared.beat.BeatA.{BeatA}
use Rattle.tl_beat.specs.declared.beat.BeatB.{BeatB}
use Rattle.tl_beat.specs.declared.beat.BeatC.{BeatC}
use Rattle.tl_beat.specs.declared.beat.BeatD.{BeatD}
use Rattle.tl_beat.specs.declared.beat.BeatE.{BeatE}
use Rattle.tl_beat.specs.declared.channel.Channel.TheVariants as channel
use Rattle.tl_burst.specs.statement.Messages.{History, channel_of, unfinished, breaks_burst, same_control}
use Rattle.tl_burst.specs.statement.Part.{is_empty}
use Rattle.tl_burst.proofs.ControlFields.{control_d}
use Rattle.tl_params.specs.declared.key.Key.TheVariants.{RequestSource, ReleaseSource, GrantAckOf}
use Rattle.tl_params.specs.declared.level.Level.{Level}
use Rattle.tl_params.specs.declared.liberties.Liberties.{Liberties}
use Rattle.tl_params.specs.declared.perm.Perm.{Perm}
use Rattle.tl_rules.specs.declared.table.Block.{Block}
use Rattle.tl_rules.specs.statement.History.{begins, ends, pending, request_of, release_of, grant_sink, is_release_ack}
use Rattle.tl_rules.specs.statement.History.{is_grant, is_acquire, is_probe, is_release, asks_for, releases, is_sink, block_at}
use Rattle.tl_rules.specs.statement.Liberties.{broken_after_under}
use Rattle.tl_rules.specs.code.Open.{request_fields}
use Rattle.tl_rules.specs.code.Tables.{kept_request, kept_release, kept_grant, kept_block, release_fields, block_next}
use Rattle.tl_rules.specs.code.Tables.{bears_on, held_with}
use Rattle.tl_monitor.specs.statement.Count.{at}
use Rattle.tl_monitor.specs.code.Bursts.{burst_on}
use Rattle.tl_monitor.specs.code.LinkState.{is_first, touched, is_block, block_of_request, block_of_release}
use Rattle.tl_monitor.specs.code.LinkState as link_state
use Rattle.tl_monitor.specs.code.Keeps.{Keeps}
use Rattle.tl_monitor.specs.declared.link_state.LinkState.{LinkState}
use Rattle.tl_monitor.proofs.Continued.{first-is, last-is}
use Rattle.tl_monitor.proofs.Judged.{continues, answers_request, answers_release}

-- ---- whether a beat begins and completes a message

pub begins-is : {w : ℕ} {lib : Liberties} (k : LinkState) (x : Beat w) (t : History w) → Keeps lib k t → begins x t ≡ is_first x k
begins-is k x t keeps = first-is (burst_on k.bursts (channel_of x)) (unfinished (channel_of x) t)
    (keeps.bursts_are (channel_of x))

pub ends-is : {w : ℕ} (lib : Liberties) (l : Level) (k : LinkState) (x : Beat w) (t : History w) → IsWidth w → Keeps lib k t
    → broken_after_under lib l x t ≡ None → ends x t ≡ link_state.completes x k
ends-is lib l k x t width keeps legal = last-is x (burst_on k.bursts (channel_of x)) (unfinished (channel_of x) t) width
    (keeps.bursts_are (channel_of x)) (continues lib l x t legal)

-- ---- the block that a beat bears on

same_number : (a b : ℕ) → (a == b) ≡ (b == a)
same_number a b = elim (cases_eq a b) [
  | inl e ↦ eq-eqb a b e ∙ sym (eq-eqb b a (sym e))
  | inr ne ↦ ne_eqb a b ne ∙ sym (ne_eqb b a (λ e. ne (sym e)))
]

-- the block of the request that is kept is the one that its history has
kept_asks : {w : ℕ} (b : ℕ) (before : Bool) (o : Option (BeatA w))
    → is_some (if before then request_fields o else None) ≡ true
    → asks_for b o ≡ is_block b (block_of_request (if before then request_fields o else None))
kept_asks b true (Some x) e = same_number (block_at x.address) b
kept_asks b true None e = absurd cc
kept_asks b false o e = absurd cc

kept_releases : {w : ℕ} (b : ℕ) (before : Bool) (o : Option (BeatC w))
    → is_some (if before then release_fields o else None) ≡ true
    → releases b o ≡ is_block b (block_of_release (if before then release_fields o else None))
kept_releases b true (Some x) e = same_number (block_at x.address) b
kept_releases b true None e = absurd cc
kept_releases b false o e = absurd cc

same_either : (here : Bool) (b c : Block) → b ≡ c → (if here then b else c) ≡ c
same_either true b c e = e
same_either false b c e = refl

never : (b : Bool) → (b && false) ≡ false
never true = refl
never false = refl

if_same : {X : Type 0} (b : Bool) (x : X) → (if b then x else x) ≡ x
if_same true x = refl
if_same false x = refl

-- a block of which as much is held
held_as : (c : Block) (h : Perm) → h ≡ c.held → record c { held = h } ≡ c
held_as c h e = ap (λ h. record c { held = h }) e

held_later : {w : ℕ} (lib : Liberties) (came : Option Perm) (x : BeatD w) (c : Block)
    → held_with lib false false came x c ≡ c.held
held_later lib came x c = either_way (lib.denied && x.denied)
    (lib.early && (is_grant x.opcode && (true && not (is_some c.grant)))) (lib.early && is_release_ack x.opcode) c.held
  where
    either_way : (a b d : Bool) (h : Perm) → (if a then h else if b then h else if d then h else h) ≡ h
    either_way true b d h = refl
    either_way false true d h = refl
    either_way false false true h = refl
    either_way false false false h = refl

abbrev IsSameFor : {w : ℕ} → Liberties → Bool → Bool → Option Perm → Bool → Option ℕ → ℕ → Beat w → Block → Type 0
IsSameFor lib first last came bears touched b x block =
    (if bears then block_next lib first last came x block else block)
    ≡ (if is_block b touched then block_next lib first last came x block else block)

bears_a : {w : ℕ} (lib : Liberties) (came : Option Perm) (first last acquire : Bool) (b block : ℕ) (x : BeatA w) (c : Block) → acquire ≡ is_acquire x.opcode
    → IsSameFor lib first last came (block == b) (if first && acquire then Some block else None) b (A x) c
bears_a lib came true last true b block x c e = rw (same_number block b) refl
bears_a lib came true last false b block x c e = same_either (block == b) (block_next lib true last came (A x) c) c
    (rw (sym e, never lib.drops) refl)
bears_a lib came false last acquire b block x c e = same_either (block == b) (block_next lib false last came (A x) c) c
    (rw (never lib.drops) refl)

bears_b : {w : ℕ} (lib : Liberties) (came : Option Perm) (first last probe : Bool) (b block : ℕ) (x : BeatB w) (c : Block) → probe ≡ is_probe x.opcode
    → IsSameFor lib first last came (block == b) (if first && probe then Some block else None) b (B x) c
bears_b lib came true last true b block x c e = rw (same_number block b) refl
bears_b lib came true last false b block x c e = same_either (block == b) (block_next lib true last came (B x) c) c (rw (sym e) refl)
bears_b lib came false last probe b block x c e = same_either (block == b) (block_next lib false last came (B x) c) c refl

bears_c : {w : ℕ} (lib : Liberties) (came : Option Perm) (first last : Bool) (b block : ℕ) (x : BeatC w) (c : Block)
    → IsSameFor lib first last came (block == b) (if first || last then Some block else None) b (C x) c
bears_c lib came true last b block x c = rw (same_number block b) refl
bears_c lib came false true b block x c = rw (same_number block b) refl
bears_c lib came false false b block x c = same_either (block == b) (block_next lib false false came (C x) c) c
    (held_as c _ (if_same (lib.early && (is_release x.opcode && (true && not c.release))) c.held))

-- an answer: a ReleaseAck, a Grant, or another
bears_d : {w : ℕ} (lib : Liberties) (came : Option Perm) (first last ack grant released asked : Bool) (b : ℕ) (r q : Option ℕ) (x : BeatD w) (c : Block)
    → ack ≡ is_release_ack x.opcode → grant ≡ is_grant x.opcode
    → (ack ≡ true → released ≡ is_block b r) → (ack ≡ false → grant ≡ true → asked ≡ is_block b q)
    → IsSameFor lib first last came (if ack then released else asked)
    (if first || last then (if ack then r else if grant then q else None) else None) b (D x) c
bears_d lib came true last true grant released asked b r q x c e f h k = rw (h refl) refl
bears_d lib came false true true grant released asked b r q x c e f h k = rw (h refl) refl
bears_d lib came true last false true released asked b r q x c e f h k = rw (k refl refl) refl
bears_d lib came false true false true released asked b r q x c e f h k = rw (k refl refl) refl
bears_d lib came true true false false released asked b r q x c e f h k = same_either asked (block_next lib true true came (D x) c) c
    (rw (sym e, sym f, never lib.early) (held_as c _ (if_same (lib.denied && x.denied) c.held)))
bears_d lib came true false false false released asked b r q x c e f h k = same_either asked (block_next lib true false came (D x) c) c
    (rw (sym e, sym f, never lib.early) (held_as c _ (if_same (lib.denied && x.denied) c.held)))
bears_d lib came false true false false released asked b r q x c e f h k = same_either asked (block_next lib false true came (D x) c) c
    (rw (sym e, sym f, never lib.early) (held_as c _ (if_same (lib.denied && x.denied) c.held)))
bears_d lib came false false ack grant released asked b r q x c e f h k =
    same_either (if ack then released else asked) (block_next lib false false came (D x) c) c
    (held_as c _ (held_later lib came x c))

-- a GrantAck: of the block that was granted with its sink, and of no other that waits for it
bears_e : (w : ℕ) (lib : Liberties) (came : Option Perm) (first last bears named : Bool) (x : BeatE) (c : Block)
    → (is_sink x.sink c.grant ≡ true → (bears ≡ true) × (named ≡ true))
    → (if bears then block_next {w = w} lib first last came (E x) c else c) ≡ (if named then block_next {w = w} lib first last came (E x)
    c else c)
bears_e w lib came first last bears named x c both = elim (cases_Bool (is_sink x.sink c.grant)) [
  | inl waits ↦ let h = both waits in rw (h.0, h.1) refl
  | inr not_its ↦
      let same : block_next {w = w} lib first last came (E x) c ≡ c = left_as w first last x c not_its in
      same_either bears (block_next {w = w} lib first last came (E x) c) c same ∙ sym
      (same_either named (block_next {w = w} lib first last came (E x) c) c same)
]
  where
    left_as : (w : ℕ) (first last : Bool) (x : BeatE) (c : Block) → is_sink x.sink c.grant ≡ false
        → block_next {w = w} lib first last came (E x) c ≡ c
    left_as w first last x c e = rw (e, never lib.early, never last) refl

-- ---- what an answer answers

same_source : {w : ℕ} (x y : BeatD w) → breaks_burst (D x) (D y ∷ []) ≡ false → (x.opcode ≡ y.opcode)
    × (x.source ≡ y.source)
same_source x y e = let c = control_d x y (is_true (same_control (D x) (D y)) (not-not (same_control (D x) (D y)) e)) in
    (c.0, c.3)
  where
    is_true : (b : Bool) → b ≡ true → IsTrue b
    is_true true e = refl
    is_true false e = absurd cc

    not-not : (b : Bool) → not b ≡ false → b ≡ true
    not-not true e = refl
    not-not false e = absurd cc

-- in a burst of channel D the request is known from its first beat on
pub record Answers {w : ℕ} (x : BeatD w) (t : History w) : Type 0 where
  pub release : is_release_ack x.opcode ≡ true → (is_some (kept_release x.source t) ≡ true) × (begins (D x) t ≡ true)
  pub request : is_release_ack x.opcode ≡ false → is_some (kept_request x.source t) ≡ true

later : {w : ℕ} {lib : Liberties} (k : LinkState) (x : BeatD w) (y : Beat w) (earlier : List (Beat w)) (t : History w) → Keeps lib k t
    → unfinished channel.D t ≡ y ∷ earlier → breaks_burst (D x) (y ∷ earlier) ≡ false
    → Answers x t
later k x (D y) earlier t keeps is cont =
    let same = same_source x y cont in
    let known = keeps.answering y earlier is in
    record {
      release = λ ack. absurd (true-false (sym ack ∙ ap is_release_ack same.0 ∙ known.0));
      request = λ other. ap (λ s. is_some (kept_request s t)) same.1 ∙ known.1;
    }
  where
    true-false : true ≡ false → ⊥
    true-false e = cc
later k x (A y) earlier t keeps is cont = absurd cc
later k x (B y) earlier t keeps is cont = absurd cc
later k x (C y) earlier t keeps is cont = absurd cc
later k x (E y) earlier t keeps is cont = absurd cc

pub answers : {w : ℕ} (lib : Liberties) (l : Level) (k : LinkState) (x : BeatD w) (t : History w) (beats : List (Beat w))
    → Keeps lib k t → broken_after_under lib l (D x) t ≡ None
    → unfinished channel.D t ≡ beats → Answers x t
answers lib l k x t [] keeps legal is =
    let first : begins (D x) t ≡ true = ap is_empty is in
    record {
      release = λ ack. (answers_release lib l x t legal first ack, first);
      request = answers_request lib l x t legal first;
    }
answers lib l k x t (y ∷ earlier) keeps legal is =
    later k x y earlier t keeps is (sym (ap (breaks_burst (D x)) is) ∙ continues lib l (D x) t legal)

-- ---- the block that a beat bears on is the one that it touches

pub sink_some : (s : ℕ) (o : Option ℕ) → is_sink s o ≡ true → o ≡ Some s
sink_some s (Some n) e = ap Some (eqb-true n s e)
sink_some s None e = absurd cc

sink_if : (s : ℕ) (before : Bool) (o : Option ℕ) → is_sink s (if before then o else None) ≡ true → is_sink s o ≡ true
sink_if s true o e = e
sink_if s false o e = absurd cc

pub is_own : (b : ℕ) (o : Option ℕ) → o ≡ Some b → is_block b o ≡ true
is_own b o e = rw e (eq-eqb b b refl)

pub same_touched : {w : ℕ} (lib : Liberties) (l : Level) (k : LinkState) (x : Beat w) (t : History w) (b : ℕ)
    (first last : Bool) (came : Option Perm) → Keeps lib k t → broken_after_under lib l x t ≡ None
    → IsSameFor lib first last came (bears_on b x t) (touched first last x k) b x (kept_block lib b t)
same_touched lib l k (A x) t b first last came keeps legal = bears_a lib came first last (is_acquire x.opcode) b (block_at x.address) x
    (kept_block lib b t) refl
same_touched lib l k (B x) t b first last came keeps legal = bears_b lib came first last (is_probe x.opcode) b (block_at x.address) x
    (kept_block lib b t) refl
same_touched lib l k (C x) t b first last came keeps legal = bears_c lib came first last b (block_at x.address) x (kept_block lib b t)
same_touched lib l k (D x) t b first last came keeps legal =
    let known = answers lib l k x t (unfinished channel.D t) keeps legal refl in
    bears_d lib came first last (is_release_ack x.opcode) (is_grant x.opcode) (releases b (release_of x.source t))
    (asks_for b (request_of x.source t)) b
    (block_of_release (at k.releases x.source)) (block_of_request (at k.requests x.source)) x (kept_block lib b t) refl refl
    (λ ack. kept_releases b (pending (ReleaseSource x.source) t) (release_of x.source t) (known.release ack).0 ∙ ap
    (λ r. is_block b (block_of_release r)) (sym (keeps.releases_are x.source)))
    (λ other grant. kept_asks b (pending (RequestSource x.source) t) (request_of x.source t) (known.request other) ∙ ap
    (λ r. is_block b (block_of_request r)) (sym (keeps.requests_are x.source)))
same_touched {w} lib l k (E x) t b first last came keeps legal =
    bears_e w lib came first last (is_sink x.sink (grant_sink b t)) (is_block b (at k.sinks x.sink)) x (kept_block lib b t)
    (λ waits. (
      sink_if x.sink (pending (GrantAckOf b) t) (grant_sink b t) waits,
      is_own b (at k.sinks x.sink)
          (keeps.granted b x.sink (sink_some x.sink (kept_grant b t) waits)),
    ))
