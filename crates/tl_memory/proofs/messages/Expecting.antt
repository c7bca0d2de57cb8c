-- What the response that has begun on a link may bring, beat by beat.
use Rattle.tl_memory.proofs.Imports.{Beat, BeatD, Link, OpD, History, breaks_burst, on, same_control, unfinished}
use Rattle.tl_memory.proofs.Imports.{is_empty, control_d, Level, open_request, Request, Trace, IsLegal, on_link, begins}
use Rattle.tl_memory.proofs.Imports.{ends, Expected, ExpectsGrant, ExpectsRead, ExpectsResponse, all_liberties}
use Rattle.tl_memory.proofs.Imports.{AreLegal, Access, is_of, pending_accesses, IsWidth, OpA, answers, is_grant}
use Rattle.tl_memory.proofs.Imports.{is_release_ack}
use Rattle.std.proofs.Common.{◌≡◌, ℕ, suc, Bool, true, false, ◌&&◌, List, [], ◌∷◌, length, Option, Some, None, refl}
use Rattle.std.proofs.Common.{sym, ap, ◌∙◌, inl, inr, subst, arith, ◌⊎◌, ◌||◌}
use Rattle.std.specs.Prelude.{◌==◌, find, if◌then◌else◌}
use Rattle.std.proofs.lemmas.Bool.{cases_Bool, cases_eq, eq-eqb, ne_eqb, not-false}
use Rattle.tl_beat.specs.declared.channel.Channel.{Channel}
use Rattle.tl_bytes.specs.statement.Bytes.{before_last, ends_request, is_put}
use Rattle.tl_memory.{specs.statement.Expecting.KnowsExpected, proofs.lawful.Lawful.goes_on}
use Rattle.tl_memory.proofs.lawful.Answering.{answering-unended, goes_on_d, same_d, same_head, unended}
use Rattle.tl_memory.proofs.lawful.Open.{IsAnswering, IsOpen, completes_answer, open-whole}
use Rattle.tl_memory.proofs.lawful.OpenAccesses.{IsFine, found-still, is-fine, legal-on, open-after, other-link}
use Rattle.tl_memory.proofs.lawful.OpenAccesses.{pending-open, own-link}
use Rattle.tl_rules.specs.code.Tables.{kept_request}
use Rattle.tl_bytes.specs.statement.Early.{Outrun, outruns}
use Rattle.tl_bytes.proofs.{Finding.same-some, Pending.gone-but}
use Rattle.tl_memory.proofs.{states.BlockAnswers.answer-ends, lawful.Responses.grants_no_access}
use Rattle.tl_memory.proofs.lawful.OutrunNames.{IsOut, comes-parts, outruns-parts}
use Rattle.tl_memory.proofs.lawful.Outrunning.{out-still, out-unpending}
use Rattle.tl_memory.proofs.lawful.OutrunWaiting.{now-out}
use Rattle.tl_memory.proofs.lawful.OutrunBeats.{is-coming}

-- The response goes on to answer this request: it is complete, or an access that the answer outran.
abbrev pub IsServed : {w : ℕ} → ℕ → OpD → ℕ → Trace w → Type 0
IsServed c opcode s t =
    ((asked : Request) × IsOpen s asked (on_link c t))
    ⊎ ((is_grant opcode ≡ false) × ((a : Outrun) × IsOut c s a t × (a.answered ≡ false)))

-- what a response may bring stays so while its request is served
expects-still : {w : ℕ} (levels : List Level) (c : ℕ) (expected : Option Expected) (n : ℕ) (opcode : OpD)
    (s : ℕ) (x : Link × Beat w) (t begun : Trace w) → IsLegal levels x t
    → IsServed c opcode s t → (x.0.0 ≡ c → completes_answer s x.1 (on_link c t) ≡ false)
    → ExpectsResponse expected n c opcode s t begun → ExpectsResponse expected n c opcode s (x ∷ t) begun
expects-still levels c expected n OpD.GrantData s x t begun fine (inl one) unended k =
    let asked = one.0 in
    let o = one.1 in
    let same : open_request s (on_link c (x ∷ t)) ≡ open_request s (on_link c t) =
    open-whole s asked (on_link c (x ∷ t)) (open-after levels c s asked x t fine o unended)
    ∙ sym (open-whole s asked (on_link c t) o) in
    subst (λ q. ExpectsGrant expected n q begun) (sym same) k
expects-still levels c expected n OpD.GrantData s x t begun fine (inr one) unended k = absurd (let no : true ≡ false = one.0 in cc)
expects-still levels c expected n OpD.AccessAckData s x t begun fine (inl one) unended k =
    subst (λ q. ExpectsRead expected n q begun) (sym (found-still levels c s one.0 x t fine one.1 unended)) k
expects-still levels c expected n OpD.AccessAckData s x t begun fine (inr one) unended k =
    let a = one.1 in
    let later = out-still levels c s a.0 x t a.1 a.2
    (λ own. ap (λ h. completes_answer s x.1 (on_link h t)) own ∙ unended own) in
    subst (λ q. ExpectsRead expected n q begun)
    (out-unpending c s a.0 t a.1 ∙ sym (out-unpending c s later.0 (x ∷ t) later.1)) k
expects-still levels c expected n v s x t begun fine served unended k = tt

-- nothing is said of a ReleaseAck
expects-ack : {w : ℕ} (c : ℕ) (expected : Option Expected) (n : ℕ) (opcode : OpD) (s : ℕ) (t begun : Trace w)
    → is_release_ack opcode ≡ true → ExpectsResponse expected n c opcode s t begun
expects-ack c expected n OpD.GrantData s t begun e = absurd cc
expects-ack c expected n OpD.AccessAckData s t begun e = absurd cc
expects-ack c expected n v s t begun e = tt

-- an answer with data answers no Put
read-no_put : (opcode : OpA) → answers OpD.AccessAckData opcode ≡ true → is_put opcode ≡ false
read-no_put OpA.PutFullData e = absurd cc
read-no_put OpA.PutPartialData e = absurd cc
read-no_put v e = refl

gone-pending : {w : ℕ} (link : Link) (z : BeatD w) (t : Trace w) → outruns z (on_link link.0 t) ≡ true
    → find (is_of link.0 z.source) (pending_accesses ((link, Beat.D z) ∷ t)) ≡ None
unfolding pending_accesses
gone-pending link z t outrun =
    rw (leaves (ends_request z (on_link link.0 t))) (gone-but link.0 z.source link.0 z.source (pending_accesses t) refl refl)
  where
    leaves : (b : Bool) → (b || outruns z (on_link link.0 t)) ≡ true
    leaves true = refl
    leaves false = outrun

-- with an answer that outruns it, the access isn't pending, as it wasn't before if the answer has data
expects-outrun : {w : ℕ} (levels : List Level) (is : IsWidth w) (link : Link) (n : ℕ) (z : BeatD w) (asked : Request)
    (expected : Option Expected) (t begun : Trace w) → AreLegal levels t
    → kept_request z.source (on_link link.0 t) ≡ Some asked → answers z.opcode asked.opcode ≡ true
    → outruns z (on_link link.0 t) ≡ true → is_grant z.opcode ≡ false
    → ExpectsResponse expected n link.0 z.opcode z.source t begun
    → ExpectsResponse expected n link.0 z.opcode z.source ((link, Beat.D z) ∷ t) begun
expects-outrun {w} levels is link n z asked expected t begun legal kept admitted outrun bare k = go z.opcode admitted bare k
  where
    unpending : answers OpD.AccessAckData asked.opcode ≡ true → (o : Option (Access w))
        → find (is_of link.0 z.source) (pending_accesses t) ≡ o
        → find (is_of link.0 z.source) (pending_accesses t) ≡ None
    unpending e None f = f
    unpending e (Some access) f =
        let q = pending-open levels link.0 z.source access t is legal f in
        let same : asked ≡ q.asked = same-some q.asked asked (sym q.is_kept ∙ kept) in
        let other : is_put access.request.opcode ≡ false =
        ap is_put (sym q.opcode_is) ∙ ap (λ (r : Request). is_put r.opcode) (sym same) ∙ read-no_put asked.opcode e in
        absurd (let no : true ≡ false = sym (outruns-parts z (on_link link.0 t) outrun).1 ∙ q.whole other in cc)

    go : (opcode : OpD) → answers opcode asked.opcode ≡ true → is_grant opcode ≡ false
        → ExpectsResponse expected n link.0 opcode z.source t begun
        → ExpectsResponse expected n link.0 opcode z.source ((link, Beat.D z) ∷ t) begun
    go OpD.GrantData e bare k = absurd cc
    go OpD.AccessAckData e bare k =
        subst (λ q. ExpectsRead expected n q begun)
        (unpending e (find (is_of link.0 z.source) (pending_accesses t)) refl ∙ sym (gone-pending link z t outrun)) k
    go v e bare k = tt

-- ---- a response that isn't complete goes on

-- a Grant doesn't outrun its request
outrun-bare : {w : ℕ} (levels : List Level) (width : IsWidth w) (link : Link) (z : BeatD w) (asked : Request) (t : Trace w)
    → AreLegal levels t → IsLegal levels (link, Beat.D z) t → kept_request z.source (on_link link.0 t) ≡ Some asked
    → answers z.opcode asked.opcode ≡ true → outruns z (on_link link.0 t) ≡ true → is_grant z.opcode ≡ false
outrun-bare levels width link z asked t legal fine kept admitted outrun =
    let f = is-fine _ levels (link, Beat.D z) t fine in
    let c = is-coming f.level (on_link link.0 t) width (legal-on _ levels link.0 f.level t f.has_level legal) z asked kept
    outrun in
    grants_no_access z.opcode asked.opcode admitted c.accesses

-- with a beat of it
served-now : {w : ℕ} (levels : List Level) (width : IsWidth w) (link : Link) (z : BeatD w) (t : Trace w) → AreLegal levels t
    → IsLegal levels (link, Beat.D z) t → ends (Beat.D z) (on_link link.0 t) ≡ false
    → IsServed link.0 z.opcode z.source ((link, Beat.D z) ∷ t)
served-now {w} levels width link z t legal fine last = elim (cases_Bool (outruns z past)) [
  | inr late ↦ inl (
    answer.asked,
    open-after levels link.0 z.source answer.asked (link, Beat.D z) t fine
        (record { kept = answer.kept; complete = rw bare at late }) (λ own. unended z past last),
  )
  | inl outrun ↦ inr (
    outrun-bare levels width link z answer.asked t legal fine answer.kept answer.admitted outrun,
    outrun-now outrun,
  )
]
  where
    past : History w
    past = on_link link.0 t

    f : IsFine all_liberties levels (link, Beat.D z) t
    f = is-fine _ levels (link, Beat.D z) t fine

    answer : IsAnswering z past
    answer = answering-unended f.level z past (legal-on _ levels link.0 f.level t f.has_level legal) f.fine last

    bare : is_release_ack z.opcode ≡ false
    bare = answer-ends z.opcode answer.asked.opcode answer.admitted

    outrun-now : outruns z past ≡ true
        → (a : Outrun) × IsOut link.0 z.source a ((link, Beat.D z) ∷ t) × (a.answered ≡ false)
    outrun-now outrun =
        let first = comes-parts z.source (unfinished Channel.A past) (outruns-parts z past outrun).1 in
        let a : Outrun = record {
          link = link.0;
          source = first.0.source;
          address = first.0.address;
          size = first.0.size;
          answered = false;
        } in (
          a,
          subst (λ s. IsOut link.0 s a ((link, Beat.D z) ∷ t)) first.3
              (now-out link.0 (link, Beat.D z) t z first.0 first.1 false refl refl outrun first.2 last),
          refl,
        )

pub served : {w : ℕ} (levels : List Level) (width : IsWidth w) (c : ℕ) (t : Trace w) → AreLegal levels t → (y : BeatD w)
    (older : List (Beat w)) → unfinished Channel.D (on_link c t) ≡ Beat.D y ∷ older → IsServed c y.opcode y.source t
unfolding on_link unfinished
served levels width c [] legal y older is = absurd cc
served {w} levels width c (x ∷ t) legal y older is = elim (cases_eq x.0.0 c) [
  | inr other ↦ still (served levels width c t legal.1 y older (ap (unfinished Channel.D) (sym (other-link c x t other)) ∙ is))
      (λ own. absurd (other own))
  | inl own ↦ here own (λ e. served levels width c t legal.1 y older e) x.1 refl
      (ap (unfinished Channel.D) (sym (own-link c x t own)) ∙ is)
]
  where
    still : IsServed c y.opcode y.source t → (x.0.0 ≡ c → completes_answer y.source x.1 (on_link c t) ≡ false)
        → IsServed c y.opcode y.source (x ∷ t)
    still (inl one) unended = inl (one.0, open-after levels c y.source one.0 x t legal.0 one.1 unended)
    still (inr one) unended = inr (
      one.0,
      out-still levels c y.source one.1.0 x t one.1.1 one.1.2
          (λ own. ap (λ h. completes_answer y.source x.1 (on_link h t)) own ∙ unended own),
    )

    same-d : {y z : BeatD w} → Beat.D y ≡ Beat.D z → y ≡ z
    same-d e = cc

    head : {X : Type 0} {x y : X} {xs ys : List X} → x ∷ xs ≡ y ∷ ys → x ≡ y
    head e = cc

    here : x.0.0 ≡ c → (unfinished Channel.D (on_link c t) ≡ Beat.D y ∷ older → IsServed c y.opcode y.source t)
        → (b : Beat w) → x.1 ≡ b → unfinished Channel.D (b ∷ on_link c t) ≡ Beat.D y ∷ older
        → IsServed c y.opcode y.source (x ∷ t)
    here own before (Beat.D z) e is = go (ends (Beat.D z) (on_link c t)) refl is
      where
        go : (last : Bool) → ends (Beat.D z) (on_link c t) ≡ last
            → (if last then [] else Beat.D z ∷ unfinished Channel.D (on_link c t)) ≡ Beat.D y ∷ older
            → IsServed c y.opcode y.source (x ∷ t)
        go true last is = absurd cc
        go false last is =
            let same : z ≡ y = same-d (head is) in
            let fine : IsLegal levels (x.0, Beat.D z) t = subst (λ b. IsLegal levels (x.0, b) t) e legal.0 in
            let now = served-now levels width x.0 z t legal.1 fine (ap (λ h. ends (Beat.D z) (on_link h t)) own ∙ last) in
            subst (λ (v : BeatD w). IsServed c v.opcode v.source (x ∷ t)) same
            (subst (λ h. IsServed h z.opcode z.source (x ∷ t)) own
            (subst (λ b. IsServed x.0.0 z.opcode z.source ((x.0, b) ∷ t)) (sym e) now))
    here own before (Beat.A z) e is =
        still (before is) (λ same. ap (λ b. completes_answer y.source b (on_link c t)) e)
    here own before (Beat.B z) e is =
        still (before is) (λ same. ap (λ b. completes_answer y.source b (on_link c t)) e)
    here own before (Beat.C z) e is =
        still (before is) (λ same. ap (λ b. completes_answer y.source b (on_link c t)) e)
    here own before (Beat.E z) e is =
        still (before is) (λ same. ap (λ b. completes_answer y.source b (on_link c t)) e)

-- ---- beat by beat

-- the beats of other channels and links leave the trace before a response
before-off : {w : ℕ} (c k : ℕ) (x : Link × Beat w) (t : Trace w) → (x.0.0 == c) && on Channel.D x.1 ≡ false
    → before_last c (suc k) (x ∷ t) ≡ before_last c (suc k) t
unfolding before_last
before-off c k x t off = rw off refl

-- its own beats are counted
before-on : {w : ℕ} (c k : ℕ) (x : Link × Beat w) (t : Trace w) → (x.0.0 == c) && on Channel.D x.1 ≡ true
    → before_last c (suc k) (x ∷ t) ≡ before_last c k t
unfolding before_last
before-on c k x t own = rw own refl

pub before-none : {w : ℕ} (c : ℕ) (t : Trace w) → before_last c 0 t ≡ t
unfolding before_last
before-none c t = refl

pub off_channel : {w : ℕ} (ch : Beat w) (h : History w) → on Channel.D ch ≡ false
    → unfinished Channel.D (ch ∷ h) ≡ unfinished Channel.D h
unfolding unfinished
off_channel x h off = rw off refl

-- a beat of channel D isn't off it
pub not_answer : {w : ℕ} (s : ℕ) (x : Beat w) (t : History w) → on Channel.D x ≡ false → completes_answer s x t ≡ false
not_answer s (Beat.D y) t off = absurd cc
not_answer s v t off = refl

module _ {w : ℕ} (levels : List Level) (is-width : IsWidth w) (c n : ℕ) (x : Link × Beat w) (t : Trace w)
    (legal : AreLegal levels t) (fine : IsLegal levels x t) where
  answering-at : (y : BeatD w) (older : List (Beat w)) → unfinished Channel.D (on_link c t) ≡ Beat.D y ∷ older
      → IsServed c y.opcode y.source t
  answering-at y older is = served levels is-width c t legal y older is

  -- with a beat of another link, or another channel
  pub expected-off : (expected : Option Expected) → KnowsExpected expected n c t
      → (x.0.0 ≡ c → on Channel.D x.1 ≡ false) → KnowsExpected expected n c (x ∷ t)
  expected-off expected k off y older is =
      let before : unfinished Channel.D (on_link c t) ≡ Beat.D y ∷ older = sym same ∙ is in
      let serves = answering-at y older before in
      subst (λ u. ExpectsResponse expected n c y.opcode y.source (x ∷ t) u)
      (sym (before-off c (length older) x t apart))
      (expects-still levels c expected n y.opcode y.source x t (before_last c (suc (length older)) t)
      fine serves (λ own. not_answer y.source x.1 (on_link c t) (off own)) (k y older before))
    where
      same : unfinished Channel.D (on_link c (x ∷ t)) ≡ unfinished Channel.D (on_link c t)
      same = elim (cases_eq x.0.0 c) [
        | inl own ↦ ap (unfinished Channel.D) (own-link c x t own) ∙ off_channel x.1 (on_link c t) (off own)
        | inr other ↦ ap (unfinished Channel.D) (other-link c x t other)
      ]

      apart : (x.0.0 == c) && on Channel.D x.1 ≡ false
      apart = elim (cases_eq x.0.0 c) [
        | inl own ↦ rw (eq-eqb x.0.0 c own, off own) refl
        | inr other ↦ rw (ne_eqb x.0.0 c other) refl
      ]

-- ---- its own beats

pub same_tail : {X : Type 0} (x y : X) (xs ys : List X) → x ∷ xs ≡ y ∷ ys → xs ≡ ys
same_tail x y xs ys e = cc

module _ {w : ℕ} (levels : List Level) (link : Link) (n : ℕ) (z : BeatD w) (t : Trace w)
    (legal : AreLegal levels t) (fine : IsLegal levels (link, Beat.D z) t) where
  abbrev c : ℕ
  c = link.0

  abbrev burst : List (Beat w)
  burst = unfinished Channel.D (on_link c t)

  own_beat : (c == c) && true ≡ true
  own_beat = rw (eq-eqb c c refl) refl

  -- what the response may bring that begins with it
  pub expects-begun : (begun : Option Expected)
      → (begins (Beat.D z) (on_link c t) ≡ true → ExpectsResponse begun n c z.opcode z.source t t)
      → length burst ≡ 0 → ExpectsResponse begun n c z.opcode z.source t (before_last c (length burst) t)
  expects-begun begun first none = go burst none first
    where
      go : (beats : List (Beat w)) → length beats ≡ 0
          → (is_empty beats ≡ true → ExpectsResponse begun n c z.opcode z.source t t)
          → ExpectsResponse begun n c z.opcode z.source t (before_last c (length beats) t)
      go [] none first = rw (before-none c t) (first refl)
      go (v ∷ older) none first = absurd (omega arith)

  -- and that has begun
  pub expects-later : (expected : Option Expected) → KnowsExpected expected n c t → (length burst ≡ 0 → ⊥)
      → ExpectsResponse expected n c z.opcode z.source t (before_last c (length burst) t)
  expects-later expected k some = go burst refl (goes_on f.level (Beat.D z) (on_link c t) f.fine) some
    where
      f : IsFine all_liberties levels (link, Beat.D z) t
      f = is-fine _ levels (link, Beat.D z) t fine

      go : (beats : List (Beat w)) → burst ≡ beats → breaks_burst (Beat.D z) beats ≡ false → (length beats ≡ 0 → ⊥)
          → ExpectsResponse expected n c z.opcode z.source t (before_last c (length beats) t)
      go [] is e some = absurd (some refl)
      go (v ∷ older) is e some =
          let of_d = goes_on_d z v older e in
          let y = of_d.0 in
          let cont : breaks_burst (Beat.D z) (Beat.D y ∷ older) ≡ false =
          ap (λ b. breaks_burst (Beat.D z) (b ∷ older)) (sym of_d.1) ∙ e in
          let same = control_d z y (not-false (same_control (Beat.D z) (Beat.D y)) cont) in
          let before = before_last c (suc (length older)) t in
          subst (λ o. ExpectsResponse expected n c o z.source t before) (sym same.0)
          (subst (λ s. ExpectsResponse expected n c y.opcode s t before) (sym same.3)
          (k y older (is ∙ ap (λ b. b ∷ older) of_d.1)))

  -- it is what the response may bring while it isn't complete
  pub expected-on : IsWidth w → (expected : Option Expected) → ExpectsResponse expected n c z.opcode z.source t
      (before_last c (length burst) t) → KnowsExpected expected n c ((link, Beat.D z) ∷ t)
  unfolding unfinished
  expected-on is-width expected k y older is = go (ends (Beat.D z) (on_link c t)) refl
      (sym (ap (unfinished Channel.D) (own-link c (link, Beat.D z) t refl)) ∙ is)
    where
      still : ends (Beat.D z) (on_link c t) ≡ false
          → ExpectsResponse expected n c z.opcode z.source ((link, Beat.D z) ∷ t) (before_last c (length burst) t)
      still last =
          elim (cases_Bool (is_release_ack z.opcode)) [
            | inl ack ↦ expects-ack c expected n z.opcode z.source ((link, Beat.D z) ∷ t) (before_last c (length burst) t) ack
            | inr bare ↦ elim (cases_Bool (outruns z (on_link c t))) [
              | inr late ↦
                  expects-still levels c expected n z.opcode z.source (link, Beat.D z) t (before_last c (length burst) t)
                  fine (inl (answer.asked, record { kept = answer.kept; complete = rw bare at late }))
                  (λ own. unended z (on_link c t) last) k
              | inl outrun ↦
                  expects-outrun levels is-width link n z answer.asked expected t (before_last c (length burst) t) legal answer.kept
                  answer.admitted outrun
                  (outrun-bare levels is-width link z answer.asked t legal fine answer.kept answer.admitted outrun) k
            ]
          ]
        where
          answer : IsAnswering z (on_link c t)
          answer =
              let f = is-fine _ levels (link, Beat.D z) t fine in
              answering-unended f.level z (on_link c t) (legal-on _ levels c f.level t f.has_level legal) f.fine last

      go : (last : Bool) → ends (Beat.D z) (on_link c t) ≡ last → unfinished Channel.D (Beat.D z ∷ on_link c t) ≡ Beat.D
          y ∷ older → ExpectsResponse expected n c y.opcode y.source ((link, Beat.D z) ∷ t)
          (before_last c (suc (length older)) ((link, Beat.D z) ∷ t))
      go true last e = absurd (let no : [] ≡ Beat.D y ∷ older = rw last at e in cc)
      go false last e =
          let grown : Beat.D z ∷ burst ≡ Beat.D y ∷ older = rw last at e in
          let same = same_d y z (same_head (Beat.D z) (Beat.D y) burst older grown) in
          let rest : burst ≡ older = same_tail (Beat.D z) (Beat.D y) burst older grown in
          subst (λ (v : BeatD w). ExpectsResponse expected n c v.opcode v.source ((link, Beat.D z) ∷ t)
          (before_last c (suc (length older)) ((link, Beat.D z) ∷ t))) same
          (rw (← rest, before-on c (length burst) (link, Beat.D z) t own_beat) (still last))
