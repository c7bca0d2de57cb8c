-- Accesses that are pending on links where no beat broke a rule: each is the request with its source.
use Rattle.tl_memory.proofs.Imports.{Beat, BeatA, Link, IsWidth, History, Level, Request, Trace, all_liberties}
use Rattle.tl_memory.proofs.Imports.{broken_after_under, IsLegal, is_legal_under, on_link, block_at, ends}
use Rattle.tl_memory.proofs.Imports.{is_release_ack, Access, is_access, is_of, pending_accesses, AreLegal, breaks_burst}
use Rattle.tl_memory.proofs.Imports.{control_a, same_control, unfinished}
use Rattle.std.proofs.Common.{◌≡◌, ℕ, suc, Bool, true, false, not, ◌||◌, ◌%◌, ◌^◌, ◌≤◌, List, [], ◌∷◌, length, Option}
use Rattle.std.proofs.Common.{Some, None, refl, sym, ap, ◌∙◌, inl, inr, arith}
use Rattle.std.specs.Prelude.{◌==◌, ◌&&◌, find, is_some, min}
use Rattle.std.proofs.lemmas.Bool.{and_parts, cases_eq, eq-eqb, eqb-true, not-false}
use Rattle.tl_rules.specs.code.Tables.{kept_request}
use Rattle.tl_bytes.specs.statement.Bytes.{asks, is_put, leaves_pending, pending_with}
use Rattle.tl_bytes.specs.statement.Early.{is_outrun_of}
unfoldable use Rattle.tl_bytes.specs.statement.Early.{outrun_accesses}
use Rattle.tl_beat.specs.declared.channel.Channel.{Channel}
use Rattle.tl_params.specs.declared.key.Key.TheVariants.{RequestSource}
use Rattle.tl_rules.specs.statement.Conformance.{comes_in_request}
unfoldable use Rattle.tl_rules.specs.statement.History.{pending}
use Rattle.tl_memory.proofs.lawful.OutrunRequests.{still-waits}
use Rattle.tl_memory.proofs.lawful.OutrunWaiting.{waits-open}
use Rattle.tl_bytes.proofs.Finding.{find-left_out}
use Rattle.tl_bytes.proofs.Pending.{IsAnsweredNow, IsAskedNow, IsPending, pending-after, pending-before}
use Rattle.tl_memory.proofs.lawful.Answering.{fields_of, kept-now}
use Rattle.tl_memory.proofs.lawful.Lawful.{by_itself, goes_on, is-request}
use Rattle.tl_memory.proofs.lawful.Open.{IsOpen, completes_answer, fresh, kept-still, open-still}
pub use Rattle.tl_memory.proofs.lawful.Histories.{IsFine, is-fine, legal-link, legal-on, other-link, own-link}

-- ---- the access is the request

pub record IsRequestOf {w : ℕ} (c s : ℕ) (access : Access w) (t : Trace w) : Type 0 where
  pub asked : Request
  pub is_kept : kept_request s (on_link c t) ≡ Some asked
  pub opcode_is : asked.opcode ≡ access.request.opcode
  pub block_is : asked.block ≡ block_at access.request.address
  pub size_is : asked.size ≡ access.request.size
  pub accesses : is_access asked.opcode ≡ true
  pub small : access.request.size ≤ 6
  pub aligned : access.request.address % 2 ^ access.request.size ≡ 0
  pub whole : is_put access.request.opcode ≡ false → comes_in_request s (unfinished Channel.A (on_link c t)) ≡ false

-- its answer is complete, and it isn't pending
pub answered-gone : {w : ℕ} (c s : ℕ) (access : Access w) (x : Link × Beat w) (t : Trace w) → x.0.0 ≡ c
    → completes_answer s x.1 (on_link x.0.0 t) ≡ true → IsPending c s access (x ∷ t) → ⊥
unfolding pending_accesses
answered-gone {w} c s access x t own completes is = go x.1 completes is
  where
    go : (b : Beat w) → completes_answer s b (on_link x.0.0 t) ≡ true
        → find (is_of c s) (pending_with x.0.0 b (on_link x.0.0 t) (suc (length t)) (outrun_accesses t)
        (pending_accesses t)) ≡ Some access
        → ⊥
    go (Beat.D y) e is =
        let both = and_parts (ends (Beat.D y) (on_link x.0.0 t)) _ e in
        let rest = and_parts (not (is_release_ack y.opcode)) (y.source == s) both.1 in
        let ended : leaves_pending y (on_link x.0.0 t) ≡ true =
        gone (not (is_release_ack y.opcode)) (ends (Beat.D y) (on_link x.0.0 t))
        (comes_in_request y.source (unfinished Channel.A (on_link x.0.0 t))) rest.0 both.0 in
        let source = eqb-true y.source s rest.1 in
        none (sym (find-left_out (is_of x.0.0 y.source) (is_of c s) (pending_accesses t)
        (λ a g. rw (own, source) g)) ∙ (rw ended at is))
      where
        none : None ≡ Some access → ⊥
        none e = cc

        gone : (bare last comes : Bool) → bare ≡ true → last ≡ true
            → (((bare && last) && not comes) || (bare && comes)) ≡ true
        gone true true true e f = refl
        gone true true false e f = refl
        gone false last comes e f = absurd cc
        gone true false comes e f = absurd cc
    go (Beat.A y) e is = absurd cc
    go (Beat.B y) e is = absurd cc
    go (Beat.C y) e is = absurd cc
    go (Beat.E y) e is = absurd cc

-- a request stays open until its answer is complete
pub open-after : {w : ℕ} (levels : List Level) (c s : ℕ) (asked : Request) (x : Link × Beat w)
    (t : Trace w) → IsLegal levels x t → IsOpen s asked (on_link c t)
    → (x.0.0 ≡ c → completes_answer s x.1 (on_link c t) ≡ false) → IsOpen s asked (on_link c (x ∷ t))
open-after levels c s asked x t fine o unended = elim (cases_eq x.0.0 c) [
  | inr other ↦ rw (other-link c x t other) o
  | inl own ↦
      let f = is-fine _ levels x t fine in
      rw (own-link c x t own) (open-still f.level s asked x.1 (on_link c t)
      (ap (λ n. broken_after_under all_liberties f.level x.1 (on_link n t)) (sym own) ∙ f.fine) o (unended own))
]

-- and is kept since its first beat
kept-after : {w : ℕ} (levels : List Level) (c s : ℕ) (asked : Request) (x : Link × Beat w) (t : Trace w)
    → IsLegal levels x t → kept_request s (on_link c t) ≡ Some asked
    → (x.0.0 ≡ c → completes_answer s x.1 (on_link c t) ≡ false) → kept_request s (on_link c (x ∷ t)) ≡ Some asked
kept-after levels c s asked x t fine kept unended = elim (cases_eq x.0.0 c) [
  | inr other ↦ rw (other-link c x t other) kept
  | inl own ↦
      let f = is-fine _ levels x t fine in
      rw (own-link c x t own) (kept-still f.level s asked x.1 (on_link c t)
      (ap (λ n. broken_after_under all_liberties f.level x.1 (on_link n t)) (sym own) ∙ f.fine) kept (unended own))
]

-- the request of an access that is asked for is pending, if no answer outran it
asked-waits : {w : ℕ} (levels : List Level) (l : Level) (link : Link) (z : BeatA w) (t : Trace w) → AreLegal levels t
    → is_legal_under all_liberties l (on_link link.0 t) ≡ true
    → broken_after_under all_liberties l (Beat.A z) (on_link link.0 t) ≡ None
    → not (is_some (find (is_outrun_of link.0 z.source) (outrun_accesses t))) ≡ true
    → pending (RequestSource z.source) (Beat.A z ∷ on_link link.0 t) ≡ true
unfolding pending
asked-waits {w} levels l link z t legal past-legal fine none =
    go (unfinished Channel.A (on_link link.0 t)) refl (goes_on l (Beat.A z) (on_link link.0 t) fine)
  where
    go : (burst : List (Beat w)) → unfinished Channel.A (on_link link.0 t) ≡ burst → breaks_burst (Beat.A z) burst ≡ false
        → pending (RequestSource z.source) (Beat.A z ∷ on_link link.0 t) ≡ true
    go [] is cont = rw (is, eq-eqb z.source z.source refl) refl
    go (Beat.A v ∷ rest) is cont =
        let same = control_a z v (not-false (same_control (Beat.A z) (Beat.A v)) cont) in
        elim (waits-open levels link.0 t legal v rest is) [
          | inl waits ↦ still-waits l (on_link link.0 t) past-legal z.source z
              (ap (λ n. pending (RequestSource n) (on_link link.0 t)) same.3 ∙ waits)
          | inr come ↦ absurd (let no : false ≡ true = sym (ap (λ n. not (is_some (find (is_outrun_of link.0 n)
              (outrun_accesses t)))) same.3 ∙ ap (λ o. not (is_some o)) come.out) ∙ none in cc)
        ]
    go (Beat.B v ∷ rest) is cont = absurd cc
    go (Beat.C v ∷ rest) is cont = absurd cc
    go (Beat.D v ∷ rest) is cont = absurd cc
    go (Beat.E v ∷ rest) is cont = absurd cc

pub pending-open : {w : ℕ} (levels : List Level) (c s : ℕ) (access : Access w) (t : Trace w) → IsWidth w
    → AreLegal levels t → IsPending c s access t → IsRequestOf c s access t
unfolding pending_accesses unfinished
pending-open levels c s access [] is legal pending = absurd cc
pending-open {w} levels c s access (x ∷ t) is legal pending = elim (pending-before c s access x t pending) [
  | inl old ↦ still (pending-open levels c s access t is legal.1 old.0)
  | inr now ↦ new now
]
  where
    f : IsFine all_liberties levels x t
    f = is-fine _ levels x t legal.0

    unended : x.0.0 ≡ c → completes_answer s x.1 (on_link c t) ≡ false
    unended own = go (completes_answer s x.1 (on_link c t)) refl
      where
        go : (b : Bool) → completes_answer s x.1 (on_link c t) ≡ b → b ≡ false
        go true e = absurd (answered-gone c s access x t own
            (ap (λ n. completes_answer s x.1 (on_link n t)) own ∙ e) pending)
        go false e = refl

    still : IsRequestOf c s access t → IsRequestOf c s access (x ∷ t)
    still k = record {
      asked = k.asked;
      is_kept = kept-after levels c s k.asked x t legal.0 k.is_kept unended;
      opcode_is = k.opcode_is;
      block_is = k.block_is;
      size_is = k.size_is;
      accesses = k.accesses;
      small = k.small;
      aligned = k.aligned;
      whole = λ other.
          (open-after levels c s k.asked x t legal.0 (record { kept = k.is_kept; complete = k.whole other }) unended).complete;
    }

    -- after the last beat of a request none is to come
    ended : (z : BeatA w) (past : History w) → is_put z.opcode ≡ false → (is_put z.opcode || ends (Beat.A z) past) ≡ true
        → comes_in_request s (unfinished Channel.A (Beat.A z ∷ past)) ≡ false
    ended z past other e = rw (rw other at e) refl

    new : IsAskedNow c s access x t → IsRequestOf c s access (x ∷ t)
    new now =
        let z = now.beat in
        let past = on_link x.0.0 t in
        let asked = and_parts (asks z past) _ now.asks_it in
        let both = and_parts (is_access z.opcode) (is_put z.opcode || ends (Beat.A z) past) asked.0 in
        let fine : broken_after_under all_liberties f.level (Beat.A z) past ≡ None =
        ap (λ b. broken_after_under all_liberties f.level b past) (sym now.beat_is) ∙ f.fine in
        let past-legal = legal-on _ levels x.0.0 f.level t f.has_level legal.1 in
        let kept = kept-now f.level z past past-legal fine
        (asked-waits levels f.level x.0 z t legal.1 past-legal fine asked.1) in
        let history : on_link c (x ∷ t) ≡ Beat.A z ∷ past =
        ap (λ n. on_link n (x ∷ t)) now.link_is ∙ own-link x.0.0 x t refl ∙ ap (λ b. b ∷ past) now.beat_is in
        let r = is-request f.level z is (by_itself f.level (Beat.A z) past fine) in
        let small = r.small in
        let same_size : min z.size 6 ≡ z.size = omega (arith, small) in
        let request_size : access.request.size ≡ z.size =
        ap (λ (q : Access w). q.request.size) now.access_is ∙ same_size in
        let address : access.request.address ≡ z.address = ap (λ (q : Access w). q.request.address) now.access_is in
        record {
          asked = fields_of z;
          is_kept = rw (history, now.source_is) kept;
          opcode_is = ap (λ (q : Access w). q.request.opcode) (sym now.access_is);
          block_is = ap (λ (q : Access w). block_at q.request.address) (sym now.access_is);
          size_is = sym request_size;
          accesses = both.0;
          small = omega (arith, request_size, small);
          aligned = rw (address, request_size) (eqb-true (z.address % 2 ^ z.size) 0 r.aligned);
          whole = λ other. rw history (ended z past (ap is_put (ap (λ (q : Access w). q.request.opcode)
              (sym now.access_is)) ∙ other) both.1);
        }

-- ---- the access that a request asks for stays until its answer is complete

pub found-still : {w : ℕ} (levels : List Level) (c s : ℕ) (asked : Request) (x : Link × Beat w)
    (t : Trace w) → IsLegal levels x t → IsOpen s asked (on_link c t)
    → (x.0.0 ≡ c → completes_answer s x.1 (on_link c t) ≡ false) → find (is_of c s) (pending_accesses (x ∷ t)) ≡ find
    (is_of c s) (pending_accesses t)
found-still {w} levels c s asked x t legal o unended =
    go (find (is_of c s) (pending_accesses (x ∷ t))) (find (is_of c s) (pending_accesses t)) refl refl
  where
    f : IsFine all_liberties levels x t
    f = is-fine _ levels x t legal

    -- no beat of channel A has its source
    apart : (z : BeatA w) → x.1 ≡ Beat.A z → c ≡ x.0.0 → s ≡ z.source → ⊥
    apart z is link source =
        let fine : broken_after_under all_liberties f.level (Beat.A z) (on_link x.0.0 t) ≡ None =
        ap (λ b. broken_after_under all_liberties f.level b (on_link x.0.0 t)) (sym is) ∙ f.fine in
        let other = fresh f.level s asked z (on_link x.0.0 t) fine (rw (← link) o) in
        let no : true ≡ false = sym (eq-eqb z.source s (sym source)) ∙ other in
        absurd cc

    go : (after before : Option (Access w)) → find (is_of c s) (pending_accesses (x ∷ t)) ≡ after
        → find (is_of c s) (pending_accesses t) ≡ before
        → find (is_of c s) (pending_accesses (x ∷ t)) ≡ find (is_of c s) (pending_accesses t)
    go (Some access) before e f = elim (pending-before c s access x t e) [
      | inl old ↦ e ∙ sym old.0
      | inr now ↦ absurd (apart now.beat now.beat_is now.link_is now.source_is)
    ]
    go None None e f = e ∙ sym f
    go None (Some access) e f =
        elim (pending-after c s access x t f (λ z is asked link source. apart z is link source)) [
          | inl still ↦ absurd (let no : None ≡ Some access = sym e ∙ still in cc)
          | inr answered ↦ absurd (ended answered)
        ]
      where
        ended-parts : (bare last comes : Bool) → comes ≡ false
            → (((bare && last) && not comes) || (bare && comes)) ≡ true → (bare ≡ true) × (last ≡ true)
        ended-parts true true comes e f = (refl, refl)
        ended-parts true false false e f = absurd cc
        ended-parts false last false e f = absurd cc
        ended-parts bare last true e f = absurd cc

        ended : IsAnsweredNow c s x t → ⊥
        ended k =
            let y = k.last in
            let past = on_link x.0.0 t in
            let whole : comes_in_request y.source (unfinished Channel.A past) ≡ false =
            ap (λ n. comes_in_request n (unfinished Channel.A past)) (sym k.source_is)
            ∙ ap (λ n. comes_in_request s (unfinished Channel.A (on_link n t))) (sym k.link_is) ∙ o.complete in
            let both = ended-parts (not (is_release_ack y.opcode)) (ends (Beat.D y) past)
            (comes_in_request y.source (unfinished Channel.A past)) whole k.completes in
            let all : completes_answer s (Beat.D y) past ≡ true =
            rw (both.0, both.1, eq-eqb y.source s (sym k.source_is)) refl in
            let none : completes_answer s x.1 past ≡ false =
            ap (λ n. completes_answer s x.1 (on_link n t)) (sym k.link_is) ∙ unended (sym k.link_is) in
            let no : true ≡ false = sym all ∙ ap (λ b. completes_answer s b past) (sym k.beat_is) ∙ none in
            absurd cc
