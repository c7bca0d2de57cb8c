-- No two accesses that are pending have the same source on a link, where no beat broke a rule: so all with the
-- source of a response are the request that it answers.
use Rattle.tl_memory.proofs.Imports.{Beat, BeatA, Link, IsWidth, Level, Request, Trace}
use Rattle.tl_memory.proofs.Imports.{on_link, Access, is_access, is_of, pending_accesses, AreLegal, IsLegal}
use Rattle.std.proofs.Common.{◌≡◌, ℕ, suc, Bool, true, false, not, ◌&&◌, List, [], ◌∷◌, length, Some, refl, sym}
use Rattle.std.proofs.Common.{ap, ◌∙◌, inl, inr}
use Rattle.std.specs.Prelude.{if◌then◌else◌, ◌==◌, filter, find, ⊤}
use Rattle.std.proofs.lemmas.Bool.{and_parts, cases_Bool, eq-eqb, eqb-true}
use Rattle.tl_bytes.{specs.statement.Bytes.all_but, specs.statement.Bytes.pending_with, proofs.Finding.find-left, proofs.Finding.same-some}
use Rattle.tl_rules.specs.code.Tables.{kept_request}
unfoldable use Rattle.tl_bytes.specs.statement.Early.{outrun_accesses}
use Rattle.tl_memory.specs.code.Taking.{AreAsked, AreContinued}
use Rattle.tl_memory.proofs.lawful.Answering.{fields_of, kept-same}
use Rattle.tl_memory.proofs.lawful.OpenAccesses.{is-fine, legal-on, pending-open}

-- each of these is the first of all with its source on its link
abbrev pub AreFirst : {w : ℕ} → List (Access w) → List (Access w) → Type 0
AreFirst all [] = ⊤
AreFirst all (access ∷ accesses) =
    (find (is_of access.link access.request.source) all ≡ Some access) × AreFirst all accesses

-- ---- some that are gone

-- what has the source of an access that stays isn't gone
both-stay : {w : ℕ} (link source : ℕ) (access other : Access w) → is_of link source access ≡ false
    → is_of access.link access.request.source other ≡ true → is_of link source other ≡ false
both-stay link source access other stays same =
    let both = and_parts (other.link == access.link) (other.request.source == access.request.source) same in
    ap (λ l. (l == link) && (other.request.source == source)) (eqb-true other.link access.link both.0)
    ∙ ap (λ s. (access.link == link) && (s == source))
    (eqb-true other.request.source access.request.source both.1)
    ∙ stays

left-first : {w : ℕ} (link source : ℕ) (all accesses : List (Access w)) → AreFirst all accesses
    → AreFirst (filter (λ access. not (is_of link source access)) all)
    (filter (λ access. not (is_of link source access)) accesses)
left-first link source all [] first = tt
left-first link source all (access ∷ accesses) first =
    let more = left-first link source all accesses first.1 in
    elim (cases_Bool (is_of link source access)) [
      | inl gone ↦ rw gone more
      | inr stays ↦ rw stays (
        find-left (is_of link source) (is_of access.link access.request.source) all
            (λ other same. both-stay link source access other stays same) ∙ first.0,
        more,
      )
    ]

-- ---- one access more

own : {w : ℕ} (access : Access w) → is_of access.link access.request.source access ≡ true
own access = rw (eq-eqb access.link access.link refl, eq-eqb access.request.source access.request.source refl) refl

-- what is left has other sources than the one that is asked for
more-first : {w : ℕ} (link source : ℕ) (new : Access w) (all accesses : List (Access w)) → new.link ≡ link
    → new.request.source ≡ source → AreFirst all (all_but link source accesses)
    → AreFirst (new ∷ all) (all_but link source accesses)
more-first link source new all [] e f first = tt
more-first {w} link source new all (access ∷ accesses) e f first = elim (cases_Bool (is_of link source access)) [
  | inl gone ↦ rw gone (more-first link source new all accesses e f (rw gone at first))
  | inr stays ↦ let rest = rw stays at first in rw stays (
    rw (other stays) rest.0,
    more-first link source new all accesses e f rest.1,
  )
]
  where
    other : is_of link source access ≡ false → is_of access.link access.request.source new ≡ false
    other stays = elim (cases_Bool (is_of access.link access.request.source new)) [
      | inr apart ↦ apart
      | inl same ↦
          let both = and_parts (new.link == access.link) (new.request.source == access.request.source) same in
          absurd (let no : true ≡ false = sym (rw (
            eq-eqb access.link link (sym (eqb-true new.link access.link both.0) ∙ e),
            eq-eqb access.request.source source (sym (eqb-true new.request.source access.request.source both.1) ∙ f),
          ) refl) ∙ stays in cc)
    ]

-- ---- all that are pending

pub are-first : {w : ℕ} (t : Trace w) → AreFirst (pending_accesses t) (pending_accesses t)
unfolding pending_accesses
are-first [] = tt
are-first {w} (x ∷ t) = go x.1 (are-first t)
  where
    before : List (Access w)
    before = pending_accesses t

    asked : (c : Bool) (new : Access w) (source : ℕ) → new.link ≡ x.0.0 → new.request.source ≡ source
        → AreFirst before before
        → AreFirst (if c then new ∷ all_but x.0.0 source before else before)
        (if c then new ∷ all_but x.0.0 source before else before)
    asked true new source link same first = (
      rw (own new) refl,
      more-first x.0.0 source new (all_but x.0.0 source before) before link same
          (left-first x.0.0 source before before first),
    )
    asked false new source link same first = first

    answers : (c : Bool) (source : ℕ) → AreFirst before before
        → AreFirst (if c then all_but x.0.0 source before else before) (if c then all_but x.0.0 source before else before)
    answers true source first = left-first x.0.0 source before before first
    answers false source first = first

    go : (b : Beat w) → AreFirst before before
        → AreFirst (pending_with x.0.0 b (on_link x.0.0 t) (suc (length t)) (outrun_accesses t) before)
        (pending_with x.0.0 b (on_link x.0.0 t) (suc (length t)) (outrun_accesses t) before)
    go (Beat.A z) first = asked _ _ z.source refl refl first
    go (Beat.D z) first = answers _ z.source first
    go v first = first

-- the access with a source is the one that is found
found-first : {w : ℕ} (c s : ℕ) (access : Access w) (all : List (Access w)) → is_of c s access ≡ true
    → find (is_of access.link access.request.source) all ≡ Some access → find (is_of c s) all ≡ Some access
found-first c s access all same first =
    let both = and_parts (access.link == c) (access.request.source == s) same in
    ap (λ n. find (is_of n s) all) (sym (eqb-true access.link c both.0))
    ∙ ap (λ m. find (is_of access.link m) all) (sym (eqb-true access.request.source s both.1)) ∙ first

module _ {w : ℕ} (levels : List Level) (width : IsWidth w) where
  -- all with a source are the request that is kept
  asked-of : (c s : ℕ) (asked : Request) (t : Trace w) (all accesses : List (Access w)) → AreLegal levels t
      → kept_request s (on_link c t) ≡ Some asked → all ≡ pending_accesses t → AreFirst all accesses
      → AreAsked c s asked accesses
  asked-of c s asked t all [] legal opened is first = tt
  asked-of c s asked t all (access ∷ accesses) legal opened is first = (
    λ same.
        let found : find (is_of c s) (pending_accesses t) ≡ Some access =
        found-first c s access (pending_accesses t) same (rw is at first.0) in
        let k = pending-open levels c s access t width legal found in
        let one : k.asked ≡ asked = same-some asked k.asked (sym opened ∙ k.is_kept) in (
          ap is_access (sym k.opcode_is) ∙ k.accesses,
          sym k.opcode_is ∙ ap (λ (r : Request). r.opcode) one,
          sym k.block_is ∙ ap (λ (r : Request). r.block) one,
        ),
    asked-of c s asked t all accesses legal opened is first.1,
  )

  pub are-asked : (c s : ℕ) (asked : Request) (t : Trace w) → AreLegal levels t
      → kept_request s (on_link c t) ≡ Some asked → AreAsked c s asked (pending_accesses t)
  are-asked c s asked t legal opened =
      asked-of c s asked t (pending_accesses t) (pending_accesses t) legal opened refl (are-first t)

  -- and all with the source of a beat of channel A are that which it goes on to ask for
  continued-of : (link : Link) (y : BeatA w) (t : Trace w) (all accesses : List (Access w)) → AreLegal levels t
      → IsLegal levels (link, Beat.A y) t → all ≡ pending_accesses t → AreFirst all accesses
      → AreContinued link.0 y accesses
  continued-of link y t all [] legal fine is first = tt
  continued-of link y t all (access ∷ accesses) legal fine is first = (
    λ same.
        let found : find (is_of link.0 y.source) (pending_accesses t) ≡ Some access =
        found-first link.0 y.source access (pending_accesses t) same (rw is at first.0) in
        let k = pending-open levels link.0 y.source access t width legal found in
        let f = is-fine _ levels (link, Beat.A y) t fine in
        let one : k.asked ≡ fields_of y = kept-same f.level y k.asked (on_link link.0 t)
        (legal-on _ levels link.0 f.level t f.has_level legal) f.fine k.is_kept in (
          sym k.opcode_is ∙ ap (λ (r : Request). r.opcode) one,
          sym k.block_is ∙ ap (λ (r : Request). r.block) one,
        ),
    continued-of link y t all accesses legal fine is first.1,
  )

  pub are-continued : (link : Link) (y : BeatA w) (t : Trace w) → AreLegal levels t
      → IsLegal levels (link, Beat.A y) t → AreContinued link.0 y (pending_accesses t)
  are-continued link y t legal fine =
      continued-of link y t (pending_accesses t) (pending_accesses t) legal fine refl (are-first t)
