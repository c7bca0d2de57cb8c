-- A request that is not complete is pending, or its answer has come, where no beat broke a rule.
use Rattle.tl_memory.proofs.Imports.{Beat, BeatA, BeatD, Link, History, Level, Trace, breaks_burst, all_liberties}
use Rattle.tl_memory.proofs.Imports.{broken_after_under, is_legal_under, ends, is_release_ack, on_link, same_control}
use Rattle.tl_memory.proofs.Imports.{control_a, unfinished, AreLegal, IsLegal}
use Rattle.std.proofs.Common.{◌≡◌, ◌⊎◌, ℕ, Bool, true, false, not, cond, ◌&&◌, List, [], ◌∷◌, refl, sym, ap, ◌∙◌, inl}
use Rattle.std.proofs.Common.{inr, subst}
use Rattle.std.specs.Prelude.{◌==◌, if◌then◌else◌, find, Option, Some, None}
use Rattle.std.proofs.lemmas.Bool.{and_parts, cases_Bool, cases_eq, eq-eqb, eqb-true, not-false}
use Rattle.tl_beat.specs.declared.channel.Channel.{Channel}
use Rattle.tl_params.specs.declared.key.Key.TheVariants.{RequestSource}
unfoldable use Rattle.tl_rules.specs.statement.History.{pending}
use Rattle.tl_rules.{proofs.Sent.pending-closed, proofs.Sent.pending-quiet}
use Rattle.tl_bytes.specs.statement.Early.{Outrun, is_outrun_of, outrun_by, outrun_with, outruns, settled_by, without}
use Rattle.tl_bytes.specs.statement.Early.{without_settled}
unfoldable use Rattle.tl_bytes.specs.statement.Early.{outrun_accesses}
use Rattle.tl_memory.proofs.lawful.Answering.{is-answering}
use Rattle.tl_memory.proofs.lawful.Lawful.{goes_on}
use Rattle.tl_memory.proofs.lawful.Histories.{IsFine, is-fine, legal-on, other-link, own-link}
use Rattle.tl_memory.proofs.lawful.OutrunNames.{IsOut, found-but, found-key, settled-a}
use Rattle.tl_memory.proofs.lawful.OutrunNames.{settled-d, comes-parts, outruns-parts}
use Rattle.tl_memory.proofs.lawful.OutrunRequests.{kept-pending, still-waits}
use Rattle.tl_memory.proofs.Plain.{true_false, none-some}

-- its answer is complete
pub record IsCome {w : ℕ} (c s : ℕ) (t : Trace w) : Type 0 where
  pub access : Outrun
  pub out : IsOut c s access t
  pub answered : access.answered ≡ true

-- an access whose answer is complete stays among them with a beat that isn't the last of its request
come-still : {w : ℕ} (levels : List Level) (c s : ℕ) (x : Link × Beat w) (t : Trace w) → IsCome c s t
    → ((z : BeatA w) → x.1 ≡ Beat.A z → x.0.0 ≡ c → ends (Beat.A z) (on_link x.0.0 t) ≡ false)
    → ((z : BeatD w) → x.1 ≡ Beat.D z → x.0.0 ≡ c → z.source ≡ s → is_release_ack z.opcode ≡ true)
    → IsCome c s (x ∷ t)
unfolding outrun_accesses
come-still {w} levels c s x t k more other = go x.1 refl
  where
    past : History w
    past = on_link x.0.0 t

    before : List Outrun
    before = outrun_accesses t

    Found : List Outrun → Type 0
    Found out = (a : Outrun) × (find (is_outrun_of c s) out ≡ Some a) × (a.answered ≡ true)

    as-come : Found (outrun_accesses (x ∷ t)) → IsCome c s (x ∷ t)
    as-come f = record { access = f.0; out = f.1; answered = f.2 }

    was : Found before
    was = (k.access, k.out, k.answered)

    left : (link source : ℕ) → ((c ≡ link) × (s ≡ source) → ⊥) → Found (without link source before)
    left link source ne = (k.access, found-but c s link source before ne ∙ k.out, k.answered)

    settles : (source : ℕ) (o : Option Outrun) → ((a : Outrun) → o ≡ Some a → find (is_outrun_of x.0.0 source) before ≡ Some a)
        → ((x.0.0 ≡ c) × (source ≡ s) → o ≡ None) → Found (without_settled o before)
    settles source None found own = was
    settles source (Some b) found own =
        let key = found-key x.0.0 source before b (found b refl) in
        left b.link b.source (λ same. none-some (sym (own (sym key.0 ∙ sym same.0, sym key.1 ∙ sym same.1))))

    go : (b : Beat w) → x.1 ≡ b → IsCome c s (x ∷ t)
    go (Beat.A z) e = as-come (subst (λ b. Found (outrun_with x.0.0 b past before)) (sym e)
        (settles z.source (settled_by x.0.0 (Beat.A z) past before) (λ a f. settled-a x.0.0 z past before a f)
        (λ own. rw (more z e own.0) refl)))
    go (Beat.D z) e = as-come (subst (λ b. Found (outrun_with x.0.0 b past before)) (sym e)
        (answer z e (outruns z past) refl))
      where
        answer : (z : BeatD w) → x.1 ≡ Beat.D z → (b : Bool) → outruns z past ≡ b
            → Found (if b
            then outrun_by x.0.0 (unfinished Channel.A past) (ends (Beat.D z) past) (without x.0.0 z.source before)
            else without_settled (settled_by x.0.0 (Beat.D z) past before) before)
        answer z e false f = settles z.source (settled_by x.0.0 (Beat.D z) past before)
            (λ a f. settled-d x.0.0 z past before a f) (λ own. rw (other z e own.0 own.1) refl)
        answer z e true f =
            let parts = outruns-parts z past f in
            let first = comes-parts z.source (unfinished Channel.A past) parts.1 in
            let ne : (c ≡ x.0.0) × (s ≡ z.source) → ⊥ = λ same.
            true_false (sym (other z e (sym same.0) (sym same.1)) ∙ parts.0) in
            rw (first.2) (rw (off first.0 (λ same. ne (same.0, same.1 ∙ first.3))) (left x.0.0 z.source ne))
          where
            off : (z : BeatA w) → ((c ≡ x.0.0) × (s ≡ z.source) → ⊥) → ((x.0.0 == c) && (z.source == s)) ≡ false
            off z ne = elim (cases_Bool ((x.0.0 == c) && (z.source == s))) [
              | inr e ↦ e
              | inl e ↦
                  let both = and_parts (x.0.0 == c) (z.source == s) e in
                  absurd (ne (sym (eqb-true x.0.0 c both.0), sym (eqb-true z.source s both.1)))
            ]
    go (Beat.B z) e = as-come (subst (λ b. Found (outrun_with x.0.0 b past before)) (sym e) was)
    go (Beat.C z) e = as-come (subst (λ b. Found (outrun_with x.0.0 b past before)) (sym e) was)
    go (Beat.E z) e = as-come (subst (λ b. Found (outrun_with x.0.0 b past before)) (sym e) was)

-- the request is pending, or its answer is complete
abbrev pub IsWaiting : {w : ℕ} → ℕ → ℕ → Trace w → Type 0
IsWaiting c s t = (pending (RequestSource s) (on_link c t) ≡ true) ⊎ IsCome c s t

-- with a beat that outruns its request an access is among them
pub now-out : {w : ℕ} (c : ℕ) (x : Link × Beat w) (t : Trace w) (y : BeatD w) (z : BeatA w) (older : List (Beat w))
    (last : Bool) → x.0.0 ≡ c → x.1 ≡ Beat.D y → outruns y (on_link x.0.0 t) ≡ true
    → unfinished Channel.A (on_link x.0.0 t) ≡ Beat.A z ∷ older → ends (Beat.D y) (on_link x.0.0 t) ≡ last
    → IsOut c z.source (record { link = x.0.0; source = z.source; address = z.address; size = z.size; answered = last })
    (x ∷ t)
unfolding outrun_accesses
now-out c x t y z older last own e outrun burst is =
    subst (λ b. find (is_outrun_of c z.source) (outrun_with x.0.0 b (on_link x.0.0 t) (outrun_accesses t)) ≡ Some
    (record { link = x.0.0; source = z.source; address = z.address; size = z.size; answered = last })) (sym e)
    (rw (outrun, burst, is, eq-eqb x.0.0 c own, eq-eqb z.source z.source refl) refl)

now-come : {w : ℕ} (c : ℕ) (x : Link × Beat w) (t : Trace w) (y : BeatD w) (z : BeatA w) (older : List (Beat w))
    → x.0.0 ≡ c → x.1 ≡ Beat.D y → outruns y (on_link x.0.0 t) ≡ true
    → unfinished Channel.A (on_link x.0.0 t) ≡ Beat.A z ∷ older → ends (Beat.D y) (on_link x.0.0 t) ≡ true
    → IsCome c z.source (x ∷ t)
now-come c x t y z older own e outrun burst last = record {
  access = record { link = x.0.0; source = z.source; address = z.address; size = z.size; answered = true };
  out = now-out c x t y z older true own e outrun burst last;
  answered = refl;
}

module _ {w : ℕ} (levels : List Level) (c : ℕ) (x : Link × Beat w) (t : Trace w) (legal : AreLegal levels t)
    (fine : IsLegal levels x t) (own : x.0.0 ≡ c) where
  f : IsFine all_liberties levels x t
  f = is-fine _ levels x t fine

  abbrev past : History w
  past = on_link x.0.0 t

  past-legal : is_legal_under all_liberties f.level past ≡ true
  past-legal = legal-on _ levels x.0.0 f.level t f.has_level legal

  -- the request whose beat this is waits, where the one that is unfinished did
  waits-a : (y : BeatA w) → x.1 ≡ Beat.A y → ends (Beat.A y) past ≡ false
      → ((v : BeatA w) (rest : List (Beat w)) → unfinished Channel.A past ≡ Beat.A v ∷ rest
      → (pending (RequestSource v.source) past ≡ true) ⊎ IsCome c v.source t)
      → (pending (RequestSource y.source) (Beat.A y ∷ past) ≡ true) ⊎ IsCome c y.source (x ∷ t)
  unfolding pending
  waits-a y e more before = go (unfinished Channel.A past) refl (goes_on f.level (Beat.A y) past fine-a)
    where
      fine-a : broken_after_under all_liberties f.level (Beat.A y) past ≡ None
      fine-a = ap (λ b. broken_after_under all_liberties f.level b past) (sym e) ∙ f.fine

      same-a : {y z : BeatA w} → Beat.A y ≡ Beat.A z → y ≡ z
      same-a e = cc

      go : (burst : List (Beat w)) → unfinished Channel.A past ≡ burst → breaks_burst (Beat.A y) burst ≡ false
          → (pending (RequestSource y.source) (Beat.A y ∷ past) ≡ true) ⊎ IsCome c y.source (x ∷ t)
      go [] is cont = inl (rw (is, eq-eqb y.source y.source refl) refl)
      go (Beat.A v ∷ rest) is cont =
          let same = control_a y v (not-false (same_control (Beat.A y) (Beat.A v)) cont) in
          elim (before v rest is) [
            | inl waits ↦ inl (still-waits f.level past past-legal y.source y
                (ap (λ n. pending (RequestSource n) past) same.3 ∙ waits))
            | inr come ↦ inr (subst (λ n. IsCome c n (x ∷ t)) (sym same.3) (come-still levels c v.source x t come
                (λ z d own. ap (λ z. ends (Beat.A z) past) (same-a (sym d ∙ e)) ∙ more)
                (λ z d. absurd (let no : Beat.D z ≡ Beat.A y = sym d ∙ e in cc))))
          ]
      go (Beat.B v ∷ rest) is cont = absurd cc
      go (Beat.C v ∷ rest) is cont = absurd cc
      go (Beat.D v ∷ rest) is cont = absurd cc
      go (Beat.E v ∷ rest) is cont = absurd cc

  waits-d : (y : BeatD w) (z : BeatA w) (older : List (Beat w)) → x.1 ≡ Beat.D y
      → unfinished Channel.A past ≡ Beat.A z ∷ older
      → (pending (RequestSource z.source) past ≡ true) ⊎ IsCome c z.source t
      → (pending (RequestSource z.source) (Beat.D y ∷ past) ≡ true) ⊎ IsCome c z.source (x ∷ t)
  waits-d y z older e burst before =
      go (y.source == z.source) refl (is_release_ack y.opcode) refl (ends (Beat.D y) past) refl
    where
      closed : (pending (RequestSource z.source) (Beat.D y ∷ past))
          ≡ cond (ends (Beat.D y) past && (not (is_release_ack y.opcode) && (y.source == z.source))) false
          (pending (RequestSource z.source) past)
      closed = pending-closed (RequestSource z.source) (Beat.D y) past refl

      unclosed : (last ack own : Bool) → (not ack && own) ≡ false
          → cond (last && (not ack && own)) false (pending (RequestSource z.source) past)
          ≡ pending (RequestSource z.source) past
      unclosed true true own e = refl
      unclosed true false true e = true_false e
      unclosed true false false e = refl
      unclosed false ack own e = refl

      still : (not (is_release_ack y.opcode) && (y.source == z.source)) ≡ false
          → (y.source ≡ z.source → is_release_ack y.opcode ≡ true)
          → (pending (RequestSource z.source) (Beat.D y ∷ past) ≡ true) ⊎ IsCome c z.source (x ∷ t)
      still off other = elim before [
        | inl waits ↦ inl (closed ∙ unclosed (ends (Beat.D y) past) (is_release_ack y.opcode) (y.source == z.source) off
            ∙ waits)
        | inr come ↦ inr (come-still levels c z.source x t come
            (λ v d. absurd (let no : Beat.A v ≡ Beat.D y = sym d ∙ e in cc))
            (λ v d own source. ap (λ v. is_release_ack v.opcode) (same-d (sym d ∙ e))
            ∙ other (ap (λ v. v.source) (sym (same-d (sym d ∙ e))) ∙ source)))
      ]
        where
          same-d : {y z : BeatD w} → Beat.D y ≡ Beat.D z → y ≡ z
          same-d e = cc

      go : (same : Bool) → (y.source == z.source) ≡ same → (ack : Bool) → is_release_ack y.opcode ≡ ack → (last : Bool)
          → ends (Beat.D y) past ≡ last
          → (pending (RequestSource z.source) (Beat.D y ∷ past) ≡ true) ⊎ IsCome c z.source (x ∷ t)
      go false s ack a last g = still (rw s (never (not (is_release_ack y.opcode))))
          (λ e. true_false (sym (eq-eqb y.source z.source e) ∙ s))
        where
          never : (b : Bool) → (b && false) ≡ false
          never true = refl
          never false = refl
      go true s true a last g = still (rw a refl) (λ e. a)
      go true s false a true g = inr (now-come c x t y z older own e
          (rw (a, burst) (eq-eqb z.source y.source (sym (eqb-true y.source z.source s)))) burst g)
      go true s false a false g =
          let fine-d : broken_after_under all_liberties f.level (Beat.D y) past ≡ None =
          ap (λ b. broken_after_under all_liberties f.level b past) (sym e) ∙ f.fine in
          let answer = is-answering f.level y past past-legal fine-d a in
          inl (closed ∙ rw g (ap (λ n. pending (RequestSource n) past) (sym (eqb-true y.source z.source s))
          ∙ kept-pending y.source answer.asked past answer.kept))

-- so does each request that isn't complete
pub waits-open : {w : ℕ} (levels : List Level) (c : ℕ) (t : Trace w) → AreLegal levels t → (z : BeatA w)
    (older : List (Beat w)) → unfinished Channel.A (on_link c t) ≡ Beat.A z ∷ older → IsWaiting c z.source t
unfolding on_link unfinished
waits-open levels c [] legal z older burst = absurd cc
waits-open {w} levels c (x ∷ t) legal z older burst = elim (cases_eq x.0.0 c) [
  | inr other ↦ rw (other-link c x t other) (elsewhere other (λ v rest e. waits-open levels c t legal.1 v rest e)
      (ap (unfinished Channel.A) (sym (other-link c x t other)) ∙ burst))
  | inl own ↦ subst (λ h. (pending (RequestSource z.source) h ≡ true) ⊎ IsCome c z.source (x ∷ t))
      (sym (own-link c x t own)) (here own (λ v rest e. waits-open levels c t legal.1 v rest e) x.1 refl
      (ap (unfinished Channel.A) (sym (own-link c x t own)) ∙ burst))
]
  where
    Before : Type 0
    Before = (v : BeatA w) (rest : List (Beat w)) → unfinished Channel.A (on_link c t) ≡ Beat.A v ∷ rest
        → (pending (RequestSource v.source) (on_link c t) ≡ true) ⊎ IsCome c v.source t

    elsewhere : (x.0.0 ≡ c → ⊥) → Before → unfinished Channel.A (on_link c t) ≡ Beat.A z ∷ older
        → (pending (RequestSource z.source) (on_link c t) ≡ true) ⊎ IsCome c z.source (x ∷ t)
    elsewhere other before e = elim (before z older e) [
      | inl waits ↦ inl waits
      | inr come ↦ inr (come-still levels c z.source x t come (λ v d own. absurd (other own)) (λ v d own. absurd (other own)))
    ]

    same-a : {y z : BeatA w} → Beat.A y ≡ Beat.A z → y ≡ z
    same-a e = cc

    head : {X : Type 0} {x y : X} {xs ys : List X} → x ∷ xs ≡ y ∷ ys → x ≡ y
    head e = cc

    here : x.0.0 ≡ c → Before → (b : Beat w) → x.1 ≡ b → unfinished Channel.A (b ∷ on_link c t) ≡ Beat.A z ∷ older
        → (pending (RequestSource z.source) (b ∷ on_link c t) ≡ true) ⊎ IsCome c z.source (x ∷ t)
    here own before (Beat.A y) e is = go (ends (Beat.A y) (on_link c t)) refl is
      where
        go : (last : Bool) → ends (Beat.A y) (on_link c t) ≡ last
            → (if last then [] else Beat.A y ∷ unfinished Channel.A (on_link c t)) ≡ Beat.A z ∷ older
            → (pending (RequestSource z.source) (Beat.A y ∷ on_link c t) ≡ true) ⊎ IsCome c z.source (x ∷ t)
        go true g is = absurd cc
        go false g is =
            let same : y ≡ z = same-a (head is) in
            subst (λ (v : BeatA w). (pending (RequestSource v.source) (Beat.A y ∷ on_link c t) ≡ true)
            ⊎ IsCome c v.source (x ∷ t)) same
            (subst (λ k. (pending (RequestSource y.source) (Beat.A y ∷ on_link k t) ≡ true) ⊎ IsCome c y.source (x ∷ t)) own
            (waits-a levels c x t legal.1 legal.0 own y e (subst (λ k. ends (Beat.A y) (on_link k t) ≡ false) (sym own) g)
            (subst (λ k. (v : BeatA w) (rest : List (Beat w)) → unfinished Channel.A (on_link k t) ≡ Beat.A v ∷ rest
            → (pending (RequestSource v.source) (on_link k t) ≡ true) ⊎ IsCome c v.source t) (sym own) before)))
    here own before (Beat.D y) e is =
        subst (λ k. (pending (RequestSource z.source) (Beat.D y ∷ on_link k t) ≡ true) ⊎ IsCome c z.source (x ∷ t)) own
        (waits-d levels c x t legal.1 legal.0 own y z older e
        (subst (λ k. unfinished Channel.A (on_link k t) ≡ Beat.A z ∷ older) (sym own) is)
        (subst (λ k. (pending (RequestSource z.source) (on_link k t) ≡ true) ⊎ IsCome c z.source t) (sym own)
        (before z older is)))
    here own before (Beat.B y) e is = elim (before z older is) [
      | inl waits ↦ inl (pending-quiet (RequestSource z.source) (Beat.B y) (on_link c t) refl refl ∙ waits)
      | inr come ↦ inr (come-still levels c z.source x t come
          (λ v d. absurd (let no : Beat.A v ≡ Beat.B y = sym d ∙ e in cc))
          (λ v d. absurd (let no : Beat.D v ≡ Beat.B y = sym d ∙ e in cc)))
    ]
    here own before (Beat.C y) e is = elim (before z older is) [
      | inl waits ↦ inl (pending-quiet (RequestSource z.source) (Beat.C y) (on_link c t) refl refl ∙ waits)
      | inr come ↦ inr (come-still levels c z.source x t come
          (λ v d. absurd (let no : Beat.A v ≡ Beat.C y = sym d ∙ e in cc))
          (λ v d. absurd (let no : Beat.D v ≡ Beat.C y = sym d ∙ e in cc)))
    ]
    here own before (Beat.E y) e is = elim (before z older is) [
      | inl waits ↦ inl (pending-quiet (RequestSource z.source) (Beat.E y) (on_link c t) refl refl ∙ waits)
      | inr come ↦ inr (come-still levels c z.source x t come
          (λ v d. absurd (let no : Beat.A v ≡ Beat.E y = sym d ∙ e in cc))
          (λ v d. absurd (let no : Beat.D v ≡ Beat.E y = sym d ∙ e in cc)))
    ]
