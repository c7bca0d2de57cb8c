-- The accesses whose answers outran their requests, by the links and sources that name them.
use Rattle.tl_memory.proofs.Imports.{Beat, BeatA, BeatD, History, Trace, ends, is_release_ack, unfinished}
use Rattle.std.proofs.Common.{◌≡◌, ◌⊎◌, ℕ, Bool, true, false, not, List, [], ◌∷◌, refl, sym, ◌∙◌, inl, inr}
use Rattle.std.specs.Prelude.{◌==◌, if◌then◌else◌, find, Option, Some, None}
use Rattle.std.proofs.lemmas.Bool.{and_parts, cases_eq, eqb-true}
use Rattle.tl_beat.specs.declared.channel.Channel.{Channel}
use Rattle.tl_rules.specs.statement.Conformance.{comes_in_request}
use Rattle.tl_bytes.proofs.Finding.{find-left, find-left_out, found-passes}
use Rattle.tl_bytes.specs.statement.Early.{Outrun, ends_request, if_answered, is_outrun_of, outruns, settled_by}
use Rattle.tl_bytes.specs.statement.Early.{without}
unfoldable use Rattle.tl_bytes.specs.statement.Early.{outrun_accesses}
use Rattle.tl_memory.proofs.Plain.{none-some}

-- the access with this source of the link is one of them
abbrev pub IsOut : {w : ℕ} → ℕ → ℕ → Outrun → Trace w → Type 0
IsOut c s a t = find (is_outrun_of c s) (outrun_accesses t) ≡ Some a

-- another source, or another link, is another access
pub apart : (c s link source : ℕ) (x : Outrun) → ((c ≡ link) × (s ≡ source) → ⊥) → is_outrun_of c s x ≡ true
    → is_outrun_of link source x ≡ false
apart c s link source x ne e = go (is_outrun_of link source x) refl
  where
    go : (b : Bool) → is_outrun_of link source x ≡ b → b ≡ false
    go false f = refl
    go true f =
        let one = and_parts (x.link == c) (x.source == s) e in
        let other = and_parts (x.link == link) (x.source == source) f in
        absurd (ne (
          sym (eqb-true x.link c one.0) ∙ eqb-true x.link link other.0,
          sym (eqb-true x.source s one.1) ∙ eqb-true x.source source other.1,
        ))

pub found-but : (c s link source : ℕ) (xs : List Outrun) → ((c ≡ link) × (s ≡ source) → ⊥)
    → find (is_outrun_of c s) (without link source xs) ≡ find (is_outrun_of c s) xs
found-but c s link source xs ne =
    find-left (is_outrun_of link source) (is_outrun_of c s) xs (λ x. apart c s link source x ne)

pub gone-but : (c s link source : ℕ) (xs : List Outrun) → c ≡ link → s ≡ source
    → find (is_outrun_of c s) (without link source xs) ≡ None
gone-but c s link source xs e f =
    find-left_out (is_outrun_of link source) (is_outrun_of c s) xs (λ x g. rw (← e, ← f) g)

pub either-key : (c s link source : ℕ) → ((c ≡ link) × (s ≡ source)) ⊎ ((c ≡ link) × (s ≡ source) → ⊥)
either-key c s link source = elim (cases_eq c link) [
  | inr ne ↦ inr (λ same. ne same.0)
  | inl e ↦ elim (cases_eq s source) [
    | inr ne ↦ inr (λ same. ne same.1)
    | inl f ↦ inl (e, f)
  ]
]

-- the key of an access that is found
pub found-key : (c s : ℕ) (xs : List Outrun) (a : Outrun) → find (is_outrun_of c s) xs ≡ Some a
    → (a.link ≡ c) × (a.source ≡ s)
found-key c s xs a e =
    let both = and_parts (a.link == c) (a.source == s) (found-passes (is_outrun_of c s) xs a e) in
    (eqb-true a.link c both.0, eqb-true a.source s both.1)

answered-is : (o : Option Outrun) (b : Outrun) → if_answered o ≡ Some b → o ≡ Some b
answered-is None b e = none-some e
answered-is (Some a) b e = go a.answered e
  where
    go : (c : Bool) → (if c then Some a else None) ≡ Some b → Some a ≡ Some b
    go true e = e
    go false e = none-some e

-- the access that is settled with a beat of channel A has its source
pub settled-a : {w : ℕ} (link : ℕ) (y : BeatA w) (past : History w) (out : List Outrun) (b : Outrun)
    → settled_by link (Beat.A y) past out ≡ Some b → find (is_outrun_of link y.source) out ≡ Some b
settled-a link y past out b e = go (ends (Beat.A y) past) e
  where
    go : (c : Bool) → (if c then if_answered (find (is_outrun_of link y.source) out) else None) ≡ Some b
        → find (is_outrun_of link y.source) out ≡ Some b
    go true e = answered-is (find (is_outrun_of link y.source) out) b e
    go false e = none-some e

-- and so has the one that is settled with a beat of channel D
pub settled-d : {w : ℕ} (link : ℕ) (y : BeatD w) (past : History w) (out : List Outrun) (b : Outrun)
    → settled_by link (Beat.D y) past out ≡ Some b → find (is_outrun_of link y.source) out ≡ Some b
settled-d link y past out b e = go (ends_request y past) e
  where
    go : (c : Bool) → (if c then find (is_outrun_of link y.source) out else None) ≡ Some b
        → find (is_outrun_of link y.source) out ≡ Some b
    go true e = e
    go false e = none-some e

-- the first of the beats that come before a response with this source
pub comes-parts : {w : ℕ} (s : ℕ) (burst : List (Beat w)) → comes_in_request s burst ≡ true
    → (first : BeatA w) × (older : List (Beat w)) × (burst ≡ Beat.A first ∷ older) × (first.source ≡ s)
comes-parts s [] e = absurd cc
comes-parts s (Beat.A z ∷ rest) e = (z, rest, refl, eqb-true z.source s e)
comes-parts s (Beat.B z ∷ rest) e = absurd cc
comes-parts s (Beat.C z ∷ rest) e = absurd cc
comes-parts s (Beat.D z ∷ rest) e = absurd cc
comes-parts s (Beat.E z ∷ rest) e = absurd cc

pub outruns-parts : {w : ℕ} (y : BeatD w) (past : History w) → outruns y past ≡ true
    → (is_release_ack y.opcode ≡ false) × (comes_in_request y.source (unfinished Channel.A past) ≡ true)
outruns-parts y past e =
    let both = and_parts (not (is_release_ack y.opcode)) _ e in
    (is-false (is_release_ack y.opcode) both.0, both.1)
  where
    is-false : (b : Bool) → not b ≡ true → b ≡ false
    is-false true e = absurd cc
    is-false false e = refl
