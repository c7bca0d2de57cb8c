-- The bytes that Grants may bring, with one more event.
use Rattle.std.proofs.Common.{◌≡◌, ℕ, suc, Bool, true, false, ◌&&◌, List, [], ◌∷◌, length, refl, sym, ap, subst, ◌∙◌}
use Rattle.std.proofs.Common.{arith, inl, inr, slice_set}
use Rattle.std.proofs.lemmas.Bool.{cases_eq, eq-eqb, ne_eqb, not-false}
use Rattle.std.specs.Prelude.{◌==◌, Some, slice_get}
use Rattle.tl_beat.specs.declared.beat.Beat.{Beat}
use Rattle.tl_beat.specs.declared.beat.BeatD.{BeatD}
use Rattle.tl_beat.specs.declared.beat.Link.{Link}
use Rattle.tl_beat.specs.declared.channel.Channel.{Channel}
use Rattle.tl_beat.specs.declared.opcode.OpD.{OpD}
use Rattle.tl_beat.specs.statement.Width.{IsWidth}
use Rattle.tl_burst.proofs.ControlFields.{control_d}
use Rattle.tl_burst.specs.statement.Messages.{breaks_burst, on, same_control}
unfoldable use Rattle.tl_burst.specs.statement.Messages.{unfinished}
use Rattle.tl_bytes.proofs.Finding.{same-some}
use Rattle.tl_memory.proofs.lawful.Answering.{goes_on_d, same_d, same_head, unended}
use Rattle.tl_memory.proofs.states.BlockAnswers.{grant-open}
use Rattle.tl_memory.proofs.messages.Expecting.{not_answer, off_channel, same_tail, served}
use Rattle.tl_memory.proofs.lawful.Lawful.{goes_on}
use Rattle.std.proofs.lemmas.List.{get_or-set_other, get_or-set_same, length-set}
use Rattle.std.proofs.lemmas.Option.{get_or_from_slice_get, slice_get-get_or, slice_get_within}
use Rattle.tl_memory.proofs.lawful.LegalBeats.{response-legal}
use Rattle.tl_memory.proofs.lawful.Open.{completes_answer, open-parts, open-whole}
use Rattle.tl_memory.proofs.lawful.OpenAccesses.{is-fine, open-after, other-link, own-link}
use Rattle.tl_memory.specs.statement.Links.{AreLegal, IsLegal}
use Rattle.tl_params.specs.declared.level.Level.{Level}
use Rattle.tl_rules.proofs.Open.{not_release_ack}
use Rattle.tl_rules.specs.declared.past.Request.{Request}
use Rattle.tl_rules.specs.statement.Conformance.{Trace}
unfoldable use Rattle.tl_rules.specs.statement.Conformance.{on_link}
use Rattle.tl_rules.specs.statement.History.{ends, is_grant}
use Rattle.tl_rules.specs.statement.OpenMessages.{open_request}
use Rattle.tl_events.specs.declared.commit.Commit.{Commit}
use Rattle.tl_events.specs.declared.commit.Event.TheVariants as event
use Rattle.tl_commits.specs.code.Granting.{AreMet, KnowsGrant, KnowsGrantOf, KnowsGrants, KnowsUnfinished}
use Rattle.tl_commits.specs.declared.granting.GrantBytes.{GrantBytes}
use Rattle.tl_commits.specs.statement.Completeness.{Completeness}
use Rattle.tl_commits.specs.statement.Copies.{link_beats}
use Rattle.tl_commits.specs.statement.Events.{Events}
unfoldable use Rattle.tl_commits.specs.statement.Events.{beats_of}
unfoldable use Rattle.tl_commits.specs.statement.True.{before_last_seen}

-- before the trace no Grant is under way
pub no-grants : {w : ℕ} (grants : List GrantBytes) (complete : Completeness) (n : ℕ) → length grants ≡ n
    → KnowsGrants {w = w} grants complete n []
unfolding beats_of on_link unfinished
no-grants grants complete n count = record {
  count_is = count;
  are = λ link g there y older asked is kind opened. absurd cc;
}

-- a commit is no beat
pub grants-commit : {w : ℕ} (grants : List GrantBytes) (complete : Completeness) (n : ℕ) (from : Link) (x : Commit)
    (e : Events w) → KnowsGrants grants complete n e → KnowsGrants grants complete n ((from, event.Commit x) ∷ e)
unfolding beats_of before_last_seen
grants-commit grants complete n from x e k = record { count_is = k.count_is; are = k.are }

-- ---- the request of a GrantData

-- it stays with a beat that doesn't complete an answer to it
request-stays : {w : ℕ} (levels : List Level) (width : IsWidth w) (c : ℕ) (y : BeatD w) (older : List (Beat w))
    (x : Link × Beat w) (t : Trace w) → AreLegal levels t → IsLegal levels x t
    → unfinished Channel.D (on_link c t) ≡ Beat.D y ∷ older → y.opcode ≡ OpD.GrantData
    → (x.0.0 ≡ c → completes_answer y.source x.1 (on_link c t) ≡ false)
    → open_request y.source (on_link c (x ∷ t)) ≡ open_request y.source (on_link c t)
request-stays levels width c y older x t legal fine is kind unended = elim (served levels width c t legal y older is) [
  | inl one ↦
      open-whole y.source one.0 (on_link c (x ∷ t)) (open-after levels c y.source one.0 x t fine one.1 unended)
      ∙ sym (open-whole y.source one.0 (on_link c t) one.1)
  | inr one ↦ absurd (let no : true ≡ false = sym (ap is_grant kind) ∙ one.0 in cc)
]

-- and with its own beat, unless that is the last one
own-request : {w : ℕ} (levels : List Level) (width : IsWidth w) (link : Link) (z : BeatD w) (t : Trace w)
    → AreLegal levels t → IsLegal levels (link, Beat.D z) t → z.opcode ≡ OpD.GrantData
    → ends (Beat.D z) (on_link link.0 t) ≡ false
    → open_request z.source (on_link link.0 ((link, Beat.D z) ∷ t)) ≡ open_request z.source (on_link link.0 t)
own-request levels width link z t legal fine kind last =
    let one = response-legal levels link t width legal z fine (not_release_ack z.opcode (ap is_grant kind)) in
    let opened = grant-open link.0 z one.0 t one.1 (ap is_grant kind) in
    open-whole z.source one.0 (on_link link.0 ((link, Beat.D z) ∷ t))
    (open-after levels link.0 z.source one.0 (link, Beat.D z) t fine
    (open-parts z.source one.0 (on_link link.0 t) opened) (λ own. unended z (on_link link.0 t) last)) ∙ sym opened

-- ---- the events before a response

-- a beat of another link or another channel leaves them
before-off : {w : ℕ} (c k : ℕ) (link : Link) (x : Beat w) (e : Events w) → (link.0 == c) && on Channel.D x ≡ false
    → before_last_seen c (suc k) ((link, event.Beat x) ∷ e) ≡ before_last_seen c (suc k) e
unfolding before_last_seen
before-off c k link x e off = rw off refl

-- its own beats are counted
before-on : {w : ℕ} (k : ℕ) (link : Link) (z : BeatD w) (e : Events w)
    → before_last_seen link.0 (suc k) ((link, event.Beat (Beat.D z)) ∷ e) ≡ before_last_seen link.0 k e
unfolding before_last_seen
before-on k link z e = rw (eq-eqb link.0 link.0 refl) refl

-- ---- a beat of a GrantData

module _ {w : ℕ} (levels : List Level) (complete : Completeness) (n : ℕ) (link : Link) (z : BeatD w) (e : Events w)
    (g : GrantBytes) where
  abbrev burst : List (Beat w)
  burst = unfinished Channel.D (link_beats link.0 e)

  -- that begins it
  pub met-begun : (asked : Request) → open_request z.source (link_beats link.0 e) ≡ Some asked
      → KnowsGrant g complete n asked.block e → length burst ≡ 0 → KnowsGrantOf g complete n link.0 z e
  unfolding before_last_seen
  met-begun asked opened k none other kind is =
      rw none (subst (λ (r : Request). KnowsGrant g complete n r.block e) (same-some other asked (sym is ∙ opened)) k)

  -- and one that doesn't
  pub met-later : IsLegal levels (link, Beat.D z) (beats_of e) → KnowsUnfinished g complete n link.0 e
      → (length burst ≡ 0 → ⊥) → KnowsGrantOf g complete n link.0 z e
  met-later fine k some asked kind opened =
      let f = is-fine _ levels (link, Beat.D z) (beats_of e) fine in
      go burst refl (goes_on f.level (Beat.D z) (link_beats link.0 e) f.fine) some
    where
      go : (beats : List (Beat w)) → burst ≡ beats → breaks_burst (Beat.D z) beats ≡ false → (length beats ≡ 0 → ⊥)
          → KnowsGrant g complete n asked.block (before_last_seen link.0 (length beats) e)
      go [] is goes some = absurd (some refl)
      go (v ∷ older) is goes some =
          let of_d = goes_on_d z v older goes in
          let y = of_d.0 in
          let cont : breaks_burst (Beat.D z) (Beat.D y ∷ older) ≡ false =
          ap (λ b. breaks_burst (Beat.D z) (b ∷ older)) (sym of_d.1) ∙ goes in
          let same = control_d z y (not-false (same_control (Beat.D z) (Beat.D y)) cont) in
          k y older asked (is ∙ ap (λ b. b ∷ older) of_d.1) (sym same.0 ∙ kind)
          (ap (λ s. open_request s (link_beats link.0 e)) (sym same.3) ∙ opened)

-- ---- the bytes of a GrantData that begins

same-d : {w : ℕ} {y z : BeatD w} → Beat.D y ≡ Beat.D z → y ≡ z
same-d e = cc

-- the one that was put, and another one
put-here : {X : Type 0} (xs : List X) (i : ℕ) (y x : X) → slice_get (slice_set xs i y) i ≡ Some x → x ≡ y
put-here xs i y x at =
    let lt = slice_get_within (slice_set xs i y) i x at in
    sym (get_or_from_slice_get (slice_set xs i y) i x y at)
    ∙ get_or-set_same xs i y y (omega (arith, lt, length-set xs i y))

put-apart : {X : Type 0} (xs : List X) (i k : ℕ) (y x : X) → (k ≡ i → ⊥) → slice_get (slice_set xs i y) k ≡ Some x
    → slice_get xs k ≡ Some x
put-apart xs i k y x other at =
    let lt = slice_get_within (slice_set xs i y) k x at in
    slice_get-get_or xs k y (omega (arith, lt, length-set xs i y))
    ∙ ap Some (sym (get_or-set_other xs i k y y other) ∙ get_or_from_slice_get (slice_set xs i y) k x y at)

-- they take the place of others, which no message needs
pub grants-put : {w : ℕ} (grants new : List GrantBytes) (complete : Completeness) (n link : ℕ) (g : GrantBytes)
    (e : Events w) → new ≡ slice_set grants link g → length (unfinished Channel.D (link_beats link e)) ≡ 0
    → KnowsGrants grants complete n e → KnowsGrants new complete n e
grants-put {w} grants new complete n link g e set none k = record {
  count_is = ap length set ∙ length-set grants link g ∙ k.count_is;
  are = λ c v there. elim (cases_eq c link) [
    | inl own ↦ λ y older asked is. absurd (some y older (ap (λ j. unfinished Channel.D (link_beats j e)) (sym own) ∙ is))
    | inr other ↦ k.are c v (put-apart grants link c g v other (rw set at there))
  ];
}
  where
    some : (y : BeatD w) (older : List (Beat w)) → unfinished Channel.D (link_beats link e) ≡ Beat.D y ∷ older → ⊥
    some y older is = let no : suc (length older) ≡ 0 = sym (ap length is) ∙ none in omega (arith, no)

module _ {w : ℕ} (levels : List Level) (complete : Completeness) (n : ℕ) (link : Link) (x : Beat w) (e : Events w)
    (grants : List GrantBytes) where
  pub met-put : (new : List GrantBytes) (g : GrantBytes) (z : BeatD w) (asked : Request)
      → new ≡ slice_set grants link.0 g → x ≡ Beat.D z → open_request z.source (link_beats link.0 e) ≡ Some asked
      → KnowsGrant g complete n asked.block e → length (unfinished Channel.D (link_beats link.0 e)) ≡ 0
      → AreMet new complete n link.0 x e
  met-put new g z asked set here opened k none v there y is =
      rw (put-here grants link.0 g v (rw set at there))
      (subst (λ (b : BeatD w). KnowsGrantOf g complete n link.0 b e) (same-d (sym here ∙ is))
      (met-begun levels complete n link z e g asked opened k none))

  -- a later beat has those of the first
  pub met-on : IsLegal levels (link, x) (beats_of e) → KnowsGrants grants complete n e
      → (length (unfinished Channel.D (link_beats link.0 e)) ≡ 0 → ⊥) → AreMet grants complete n link.0 x e
  met-on fine k some v there y is =
      met-later levels complete n link y e v (subst (λ b. IsLegal levels (link, b) (beats_of e)) is fine)
      (k.are link.0 v there) some

-- ---- one more beat

module _ {w : ℕ} (levels : List Level) (width : IsWidth w) (complete : Completeness) (n : ℕ) (e : Events w)
    (legal : AreLegal levels (beats_of e)) where
  -- of another link or another channel
  unfinished-off : (c : ℕ) (link : Link) (x : Beat w) (g : GrantBytes) → IsLegal levels (link, x) (beats_of e)
      → (link.0 ≡ c → on Channel.D x ≡ false) → KnowsUnfinished g complete n c e
      → KnowsUnfinished g complete n c ((link, event.Beat x) ∷ e)
  unfolding beats_of
  unfinished-off c link x g fine off k y older asked is kind opened =
      let before = sym same ∙ is in
      let stays = request-stays levels width c y older (link, x) t legal fine before kind
      (λ own. not_answer y.source x (on_link c t) (off own)) in
      subst (λ u. KnowsGrant g complete n asked.block u) (sym (before-off c (length older) link x e apart))
      (k y older asked before kind (sym stays ∙ opened))
    where
      t : Trace w
      t = beats_of e

      same : unfinished Channel.D (on_link c ((link, x) ∷ t)) ≡ unfinished Channel.D (on_link c t)
      same = elim (cases_eq link.0 c) [
        | inl own ↦ ap (unfinished Channel.D) (own-link c (link, x) t own) ∙ off_channel x (on_link c t) (off own)
        | inr other ↦ ap (unfinished Channel.D) (other-link c (link, x) t other)
      ]

      apart : (link.0 == c) && on Channel.D x ≡ false
      apart = elim (cases_eq link.0 c) [
        | inl own ↦ rw (eq-eqb link.0 c own, off own) refl
        | inr other ↦ rw (ne_eqb link.0 c other) refl
      ]

  -- of the GrantData itself
  unfinished-on : (link : Link) (z : BeatD w) (g : GrantBytes) → IsLegal levels (link, Beat.D z) (beats_of e)
      → KnowsGrantOf g complete n link.0 z e
      → KnowsUnfinished g complete n link.0 ((link, event.Beat (Beat.D z)) ∷ e)
  unfolding beats_of unfinished
  unfinished-on link z g fine k y older asked is kind opened =
      go (ends (Beat.D z) (on_link link.0 t)) refl
      (sym (ap (unfinished Channel.D) (own-link link.0 (link, Beat.D z) t refl)) ∙ is)
    where
      t : Trace w
      t = beats_of e

      before : List (Beat w)
      before = unfinished Channel.D (on_link link.0 t)

      go : (last : Bool) → ends (Beat.D z) (on_link link.0 t) ≡ last
          → unfinished Channel.D (Beat.D z ∷ on_link link.0 t) ≡ Beat.D y ∷ older
          → KnowsGrant g complete n asked.block
          (before_last_seen link.0 (suc (length older)) ((link, event.Beat (Beat.D z)) ∷ e))
      go true last is = absurd (let no : [] ≡ Beat.D y ∷ older = rw last at is in cc)
      go false last is =
          let grown : Beat.D z ∷ before ≡ Beat.D y ∷ older = rw last at is in
          let same = same_d y z (same_head (Beat.D z) (Beat.D y) before older grown) in
          let rest : before ≡ older = same_tail (Beat.D z) (Beat.D y) before older grown in
          let kind_z : z.opcode ≡ OpD.GrantData = ap (λ (v : BeatD w). v.opcode) same ∙ kind in
          let opened_z : open_request z.source (on_link link.0 t) ≡ Some asked =
          sym (own-request levels width link z t legal fine kind_z last)
          ∙ ap (λ (v : BeatD w). open_request v.source (on_link link.0 ((link, Beat.D z) ∷ t))) same ∙ opened in
          subst (λ u. KnowsGrant g complete n asked.block u)
          (sym (ap (λ (m : List (Beat w)). before_last_seen link.0 (suc (length m))
          ((link, event.Beat (Beat.D z)) ∷ e)) (sym rest) ∙ before-on (length before) link z e))
          (k asked kind_z opened_z)

  pub grants-beat : (grants : List GrantBytes) (link : Link) (x : Beat w) → IsLegal levels (link, x) (beats_of e)
      → KnowsGrants grants complete n e → AreMet grants complete n link.0 x e
      → KnowsGrants grants complete n ((link, event.Beat x) ∷ e)
  grants-beat grants link x fine k met = record {
    count_is = k.count_is;
    are = λ c g there. elim (cases_eq link.0 c) [
      | inr other ↦ unfinished-off c link x g fine (λ own. absurd (other own)) (k.are c g there)
      | inl own ↦ here c g own (ap (slice_get grants) own ∙ there) (k.are c g there) x refl
    ];
  }
    where
      here : (c : ℕ) (g : GrantBytes) → link.0 ≡ c → slice_get grants link.0 ≡ Some g
          → KnowsUnfinished g complete n c e → (b : Beat w) → x ≡ b
          → KnowsUnfinished g complete n c ((link, event.Beat x) ∷ e)
      here c g own there old (Beat.D z) is =
          subst (λ k. KnowsUnfinished g complete n k ((link, event.Beat x) ∷ e)) own
          (subst (λ b. KnowsUnfinished g complete n link.0 ((link, event.Beat b) ∷ e)) (sym is)
          (unfinished-on link z g (subst (λ b. IsLegal levels (link, b) (beats_of e)) is fine) (met g there z is)))
      here c g own there old (Beat.A z) is = unfinished-off c link x g fine (λ same. ap (on Channel.D) is) old
      here c g own there old (Beat.B z) is = unfinished-off c link x g fine (λ same. ap (on Channel.D) is) old
      here c g own there old (Beat.C z) is = unfinished-off c link x g fine (λ same. ap (on Channel.D) is) old
      here c g own there old (Beat.E z) is = unfinished-off c link x g fine (λ same. ap (on Channel.D) is) old
