-- What is known of the bytes of memory, with one more beat.
use Rattle.tl_memory.proofs.Imports.{Beat, BeatA, BeatD, Link, IsWidth, History, Level}
use Rattle.tl_memory.proofs.Imports.{request_fields, Request, IsTyped, Trace, IsLegal, on_link, begins}
use Rattle.tl_memory.proofs.Imports.{is_release_ack, request_of, PassesBy}
use Rattle.tl_memory.proofs.Imports.{block_borne, IsLegalBeat, Expected, LinkState, ExpectsResponse}
use Rattle.tl_memory.proofs.Imports.{AreLegal, ExpectsLater, Freedom, KnowsLink, OpD, freedom}
use Rattle.tl_bytes.specs.statement.Free.{is_free}
use Rattle.tl_memory.specs.statement.Known.{free_for}
use Rattle.tl_params.specs.declared.perm.Perm.{Perm}
use Rattle.std.proofs.Common.{◌≡◌, ℕ, zero, suc, Bool, true, false, ◌&&◌, ◌∷◌, ◌^◌, ◌<◌, ◌/◌, List, [], Option, Some}
use Rattle.std.proofs.Common.{None, length}
use Rattle.std.proofs.Common.{refl, sym, ap, ◌∙◌, arith, inl, inr}
use Rattle.std.proofs.Common.{not, ◌||◌, subst}
use Rattle.std.{specs.Prelude.if◌then◌else◌, specs.Prelude.◌==◌, specs.Prelude.option_map, proofs.lemmas.Bool.eqb-false}
use Rattle.std.proofs.lemmas.Bool.{eq-eqb}
use Rattle.tl_rules.specs.code.Tables.{kept_request}
use Rattle.tl_rules.specs.statement.History.{asks_for}
use Rattle.tl_rules.proofs.Open.{not_release_ack}
use Rattle.tl_memory.specs.code.Elsewhere.{IsConcerned}
use Rattle.tl_memory.specs.code.Passing.{passes_by}
use Rattle.tl_memory.specs.statement.Known.{AreInside}
use Rattle.tl_memory.proofs.{states.BlockAnswers.asked-first, states.Borne.response-there}
use Rattle.std.proofs.lemmas.Option.{none-some, same_Some, slice_get_cases}
use Rattle.tl_memory.specs.code.Changing.{expected_by, ExpectsAlong, ExpectsBegun, IsBorne, IsChange, KnowsFree}
use Rattle.tl_memory.specs.code.{Passing.changes_held, Passing.is_answer, Taking.IsSeen}
use Rattle.tl_memory.specs.declared.links.Links.{Links}
use Rattle.tl_memory.{specs.declared.memory.Change.Change, specs.declared.memory.Memory.Memory}
use Rattle.tl_memory.{specs.statement.Links.KnowsLinks, specs.statement.Memory.AreAddressed}
use Rattle.tl_memory.{specs.statement.Memory.IsAddressed, proofs.messages.Beginning.none-begun}
use Rattle.tl_memory.{proofs.states.Borne.passes}
use Rattle.tl_memory.{proofs.lawful.LegalBeats.legal-beat, proofs.messages.LinkTables.link-there}
use Rattle.tl_memory.{proofs.states.PassedBy.none-later}
use Rattle.tl_memory.proofs.Plain.{true_false}

-- ---- the blocks of requests

request_addressed : {w : ℕ} (s : ℕ) (x : Beat w) (past : History w) (y : BeatA w) → IsAddressed x
    → (request_of s past ≡ Some y → y.address < 2 ^ 32) → request_of s (x ∷ past) ≡ Some y → y.address < 2 ^ 32
unfolding request_of
request_addressed {w} s (Beat.A x) past y small before e =
    go (begins (Beat.A x) past && (x.source == s)) (request_of s past) before e
  where
    go : (own : Bool) (o : Option (BeatA w)) → (o ≡ Some y → y.address < 2 ^ 32)
        → (if own then Some x else o) ≡ Some y → y.address < 2 ^ 32
    go false o before e = before e
    go true o before e = let same : x ≡ y = cc in rw (← same) small
request_addressed s (Beat.B x) past y small before e = before e
request_addressed s (Beat.C x) past y small before e = before e
request_addressed s (Beat.D x) past y small before e = before e
request_addressed s (Beat.E x) past y small before e = before e

requests_addressed : {w : ℕ} (s link : ℕ) (t : Trace w) (y : BeatA w) → AreAddressed t
    → request_of s (on_link link t) ≡ Some y → y.address < 2 ^ 32
unfolding on_link request_of
requests_addressed s link [] y all e = absurd cc
requests_addressed {w} s link (x ∷ t) y all e =
    go (x.0.0 == link) (requests_addressed s link t y all.1) e
  where
    go : (own : Bool) → (request_of s (on_link link t) ≡ Some y → y.address < 2 ^ 32)
        → request_of s (if own then x.1 ∷ on_link link t else on_link link t) ≡ Some y → y.address < 2 ^ 32
    go true before e = request_addressed s x.1 (on_link link t) y all.0 before e
    go false before e = before e

-- the block of a request that is kept has a number of 26 bits
pub block-small : {w : ℕ} (s link : ℕ) (asked : Request) (t : Trace w) → AreAddressed t
    → kept_request s (on_link link t) ≡ Some asked → asked.block < 2 ^ 26
block-small {w} s link asked t all e =
    go _ (request_of s (on_link link t)) (λ y is. requests_addressed s link t y all is) e
  where
    number : (address : ℕ) → address < 2 ^ 32 → address / 64 < 2 ^ 26
    number address small = omega (arith, small)

    go : (opened : Bool) (o : Option (BeatA w)) → ((y : BeatA w) → o ≡ Some y → y.address < 2 ^ 32)
        → (if opened then request_fields o else None) ≡ Some asked → asked.block < 2 ^ 26
    go true (Some y) small e =
        let same : y.address / 64 ≡ asked.block = cc in rw (← same) (number y.address (small y refl))
    go v u small e = absurd cc

-- ---- beats that break no rule

module _ {w : ℕ} (levels : List Level) (link : Link) (x : Beat w) (t : Trace w) (is : IsWidth w)
    (legal : AreLegal levels t) (fine : IsLegal levels (link, x) t) where
  pub beat-legal : (s : LinkState) (n : ℕ) → KnowsLink s n link.0 t
      → ((y : BeatA w) → x ≡ Beat.A y → IsTyped (Beat.A y)) → IsLegalBeat link.0 x t
  beat-legal s n k typed = legal-beat levels link t is legal s.messages k.messages_are x typed fine

  pub links-legal : (l : Links) → KnowsLinks l (length levels) t
      → ((y : BeatA w) → x ≡ Beat.A y → IsTyped (Beat.A y)) → IsLegalBeat link.0 x t
  links-legal l k typed = elim (slice_get_cases l.states.items link.0).1 [
    | inl found ↦ beat-legal found.0 (length levels) (k.states_are link.0 found.0 found.2) typed
    | inr past ↦ absurd (omega (arith, link-there _ levels (link, x) t fine, past.0, k.count_is))
  ]

-- each block is left as it is but that on which the beat bears
pub is-borne : {w : ℕ} (own : Option ℕ) (link : Link) (x : Beat w) (t : Trace w) → AreInside t
    → IsLegalBeat link.0 x t → block_borne x (on_link link.0 t) ≡ own → IsBorne own (link, x) t
is-borne own link x t inside legal borne block other = passes block link x t inside legal (λ e. other (sym borne ∙ e))

pub others-passed : {w : ℕ} (own : Option ℕ) (block other : ℕ) (x : Link × Beat w) (t : Trace w) → IsBorne own x t
    → own ≡ Some block → (other == block) ≡ false → PassesBy other x t
others-passed own block other x t borne is apart =
    borne other (λ e. eqb-false other block apart (same_Some other block (sym e ∙ is)))

-- where it bears on none each is
pub all-passed : {w : ℕ} (own : Option ℕ) (block : ℕ) (x : Link × Beat w) (t : Trace w) → IsBorne own x t → own ≡ None
    → PassesBy block x t
all-passed own block x t borne none = borne block (λ e. none-some block (sym none ∙ e))

-- and nothing is expected
pub none-expected : {w : ℕ} (link : Link) (x : Beat w) (n : ℕ) (t : Trace w) → IsLegalBeat link.0 x t
    → block_borne x (on_link link.0 t) ≡ None → ExpectsBegun None n (link, x) t × ExpectsAlong None n (link, x) t
none-expected {w} link x n t legal borne = (
  λ y is first. (go y (is_release_ack y.opcode) refl (rw is at legal) (rw is at borne)).0,
  λ y is later. (go y (is_release_ack y.opcode) refl (rw is at legal) (rw is at borne)).1,
)
  where
    release-alone : (opcode : OpD) → is_release_ack opcode ≡ true → is_answer opcode ≡ false
    release-alone OpD.ReleaseAck e = refl
    release-alone v e = absurd cc

    go : (y : BeatD w) (release : Bool) → is_release_ack y.opcode ≡ release → IsLegalBeat link.0 (Beat.D y) t
        → block_borne (Beat.D y) (on_link link.0 t) ≡ None
        → ExpectsResponse None n link.0 y.opcode y.source t t × ExpectsLater None n link.0 y.opcode y.source t
    go y true e legal borne = (
      none-begun y.opcode n link.0 y.source t
          (λ grant. absurd (let no : is_release_ack OpD.GrantData ≡ true = ap is_release_ack (sym grant) ∙ e in cc))
          (λ read. absurd (let no : is_release_ack OpD.AccessAckData ≡ true = ap is_release_ack (sym read) ∙ e in cc)),
      none-later y.opcode n link.0 y.source t (release-alone y.opcode e),
    )
    go y false e legal borne =
        let one = legal.answer e in
        absurd (none-some one.0.block (sym borne ∙ response-there link.0 y one.0 t one.1 e))

-- a beat that bears on this block, or on none, is of a Grant of it if one begins with it
pub is-concerned : {w : ℕ} (link : Link) (x : Beat w) (own : Option ℕ) (t : Trace w) → IsLegalBeat link.0 x t
    → block_borne x (on_link link.0 t) ≡ own → IsConcerned own x (on_link link.0 t)
is-concerned link (Beat.D y) own t legal borne = λ first grant.
    let bare = not_release_ack y.opcode grant in
    let one = legal.answer bare in
    let request = asked-first y.source (on_link link.0 t) one.0 one.1.kept in (
      one.0.block,
      sym borne ∙ response-there link.0 y one.0 t one.1 bare,
      ap (asks_for one.0.block) request.1 ∙ eq-eqb (request.0.address / 64) one.0.block request.2,
    )
is-concerned link (Beat.A y) own t legal borne = tt
is-concerned link (Beat.B y) own t legal borne = tt
is-concerned link (Beat.C y) own t legal borne = tt
is-concerned link (Beat.E y) own t legal borne = tt

-- no Grant begins with a beat that passes each block by
pub passing-concerned : {w : ℕ} (link : Link) (x : Beat w) (t : Trace w) → passes_by x (on_link link.0 t) ≡ true
    → IsConcerned None x (on_link link.0 t)
passing-concerned link (Beat.D y) t passing = λ first grant.
    true_false (sym first ∙ unbegun (begins (Beat.D y) (on_link link.0 t)) _ _ passing)
  where
    unbegun : (a b c : Bool) → not ((a || b) || c) ≡ true → a ≡ false
    unbegun true b c e = absurd cc
    unbegun false b c e = refl
passing-concerned link (Beat.A y) t passing = tt
passing-concerned link (Beat.B y) t passing = tt
passing-concerned link (Beat.C y) t passing = tt
passing-concerned link (Beat.E y) t passing = tt

-- ---- what a beat changes

-- the block of which its link may hold more or less is that on which it bears
pub held-own : (changes : Bool) (held : Option ℕ) (block other : ℕ) → held ≡ (if changes then Some block else None)
    → held ≡ Some other → Some block ≡ Some other
held-own true held block other is e = sym is ∙ e
held-own false held block other is e = absurd (none-some other (sym is ∙ e))

-- where it bears on none nothing is said of how free one is
pub none-free : {w : ℕ} (change : Change w) (n : ℕ) (t : Trace w) → change.block ≡ None → change.held ≡ None
    → KnowsFree change n t
none-free change n t none held = record {
  own = λ block e. absurd (none-some block (sym held ∙ e));
  reading_is = λ block e. absurd (none-some block (sym none ∙ e));
  writing_is = λ block e. absurd (none-some block (sym none ∙ e));
}

-- for who needs nothing of it a block is always free
free-anyway : {w : ℕ} (n block : ℕ) (t : Trace w) → true ≡ is_free n Perm.None block t
unfolding is_free
free-anyway zero block t = refl
free-anyway (suc n) block t = rw (← free-anyway n block t) refl

-- for whom the block was free, by what is said of it
pub said-free : {w : ℕ} (change : Change w) (free : Freedom) (n block : ℕ) (t : Trace w) → KnowsFree change n t
    → change.block ≡ Some block → free.reading ≡ change.reading → free.writing ≡ change.writing → (given : Perm)
    → free_for free given ≡ is_free n given block t
said-free change free n block t k own reading writing Perm.None = free-anyway n block t
said-free change free n block t k own reading writing Perm.Branch = reading ∙ k.reading_is block own
said-free change free n block t k own reading writing Perm.Trunk = writing ∙ k.writing_is block own

same-d : {w : ℕ} (a b : BeatD w) → Beat.D a ≡ Beat.D b → a ≡ b
same-d a b e = cc

-- a response begins with the beat
pub begun-by : {w : ℕ} (expected : Option Expected) (n : ℕ) (link : Link) (x : Beat w) (z : BeatD w) (t : Trace w)
    → x ≡ Beat.D z → begins (Beat.D z) (on_link link.0 t) ≡ true
    → ExpectsResponse expected n link.0 z.opcode z.source t t
    → ExpectsBegun expected n (link, x) t × ExpectsAlong expected n (link, x) t
begun-by {w} expected n link x z t is first known = (
  λ y e begun. rw (← same-d z y (sym is ∙ e)) known,
  λ y e later. true_false (sym first ∙ ap (λ d. begins (Beat.D d) (on_link link.0 t)) (same-d z y (sym is ∙ e)) ∙ later),
)

-- or goes on
pub along-by : {w : ℕ} (expected : Option Expected) (n : ℕ) (link : Link) (x : Beat w) (z : BeatD w) (t : Trace w)
    → x ≡ Beat.D z → begins (Beat.D z) (on_link link.0 t) ≡ false
    → ExpectsLater expected n link.0 z.opcode z.source t
    → ExpectsBegun expected n (link, x) t × ExpectsAlong expected n (link, x) t
along-by {w} expected n link x z t is later known = (
  λ y e first. true_false (sym first ∙ ap (λ d. begins (Beat.D d) (on_link link.0 t)) (sym (same-d z y (sym is ∙ e)))
      ∙ later),
  λ y e off. rw (← same-d z y (sym is ∙ e)) known,
)

-- none does with one of another channel
pub no-response : {w : ℕ} (n : ℕ) (link : Link) (x : Beat w) (t : Trace w) → ((y : BeatD w) → x ≡ Beat.D y → ⊥)
    → ExpectsBegun None n (link, x) t × ExpectsAlong None n (link, x) t
no-response n link x t other = (λ y e first. absurd (other y e), λ y e later. absurd (other y e))

either_none : (c : Bool) → ◌≡◌ {A = Option ℕ} None (if c then None else None)
either_none true = refl
either_none false = refl

-- a beat that leaves each block as it is changes nothing, where no response begins with it
pub nothing-changed : {w : ℕ} (change : Change w) (m : Memory w) (n : ℕ) (x : Link × Beat w) (t : Trace w)
    → change.block ≡ None → change.held ≡ None → expected_by change ≡ None → IsBorne None x t → ExpectsBegun None n x t
    → ExpectsAlong None n x t → IsConcerned None x.1 (on_link x.0.0 t) → IsChange change m n x t
nothing-changed change m n x t unborne unheld none passed unbegun unsaid concerned = record {
  block_is = rw unborne passed;
  held_is = unheld ∙ rw unborne (either_none (changes_held x.1 (on_link x.0.0 t)));
  kept = λ block e. absurd (none-some block (sym unborne ∙ e));
  next_is = λ block free s e there seen. absurd (none-some block (sym unborne ∙ e));
  expected_is = rw none unbegun;
  along_is = rw none unsaid;
  concerned = subst (λ o. IsConcerned o x.1 (on_link x.0.0 t)) (sym unborne) concerned;
}

-- ---- how free a block is seen to be

-- told of the block of which its link may hold more or less, it is told of the one that the beat bears on
pub held-seen : {w : ℕ} (change : Change w) (m : Memory w) (n : ℕ) (x : Link × Beat w) (t : Trace w)
    (free : Option Freedom) (block : ℕ)
    → IsChange change m n x t → free ≡ option_map (λ b. freedom n b x t) change.held
    → change.block ≡ Some block → IsSeen free n block x t
held-seen {w} change m n x t free block is told own = go (changes_held x.1 (on_link x.0.0 t)) refl
  where
    go : (c : Bool) → changes_held x.1 (on_link x.0.0 t) ≡ c → IsSeen free n block x t
    go true e =
        let held : change.held ≡ Some block = is.held_is ∙ rw (e, own) refl in
        rw (told, held) (e, refl)
    go false e =
        let held : change.held ≡ None = is.held_is ∙ rw e refl in
        rw (told, held) e
