-- What a lawful history says of its unfinished bursts: a response answers a request that is pending, and a burst names
-- what its first beat named.
use Rattle.tl_keys.proofs.Imports.{Beat, A, B, C, D, E, BeatD, History, channel_of, unfinished, completes, is_empty}
use Rattle.tl_keys.proofs.Imports.{Profile, asks_for, begins, block_at, ends, pending, release_of, request_of, Name}
use Rattle.tl_keys.proofs.Imports.{names, OfBlock, OfSink, OfSource, Channel}
use Rattle.std.proofs.Common.{◌≡◌, ℕ, Bool, true, false, not, ◌&&◌, List, [], ◌∷◌, refl, sym, ap, ◌∙◌, ap₂, subst}
use Rattle.std.specs.Prelude.{if◌then◌else◌, Option, Some, None, is_none, ◌==◌, ⊤}
use Rattle.std.proofs.lemmas.Bool.{eqb-true}
use Rattle.tl_beat.{specs.declared.opcode.OpD.OpD, specs.statement.First.first_if, proofs.OpcodeCodes.d_with-code}
use Rattle.tl_beat.specs.statement.Opcode.{a_code, b_code, c_code, d_code, d_with}
use Rattle.tl_burst.specs.statement.Messages.{same_control}
use Rattle.tl_params.{specs.declared.key.Key.TheVariants.RequestSource, specs.declared.level.Level.Level}
use Rattle.tl_params.{specs.declared.rule.Rule.Rule}
use Rattle.tl_params.specs.declared.rule.Rule.TheVariants.{H1, H2, S1}
use Rattle.tl_rules.specs.statement.Conformance.{broken_after, broken_given, broken_in_order, broken_order, has_request}
use Rattle.tl_rules.specs.statement.Conformance.{is_legal}
use Rattle.tl_rules.specs.statement.History.{grant_sink, is_release_ack, is_sink, releases}
use Rattle.tl_rules.{specs.statement.Legality.illegal, proofs.Tables.neither}

-- ---- lawful histories, beat by beat

-- each beat breaks no rule of order, nor differs from its burst
unfoldable pub AreInOrder : {w : ℕ} → Profile → History w → Type 0
AreInOrder p [] = ⊤
AreInOrder p (x ∷ t) = (broken_in_order p x t ≡ None) × AreInOrder p t

pub in-order : {w : ℕ} (l : Level) (p : Profile) (t : History w) → is_legal l p t ≡ true → AreInOrder p t
unfolding is_legal AreInOrder broken_after
in-order l p [] e = tt
in-order {w} l p (x ∷ t) e = (
  by_itself (illegal l (channel_of x) x) (none (broken_after l p x t) (left _ _ e)),
  in-order l p t (right _ _ e),
)
  where
    left : (a b : Bool) → (a && b) ≡ true → a ≡ true
    left true b e = refl
    left false b e = absurd cc

    right : (a b : Bool) → (a && b) ≡ true → b ≡ true
    right true b e = e
    right false b e = absurd cc

    none : (o : Option Rule) → is_none o ≡ true → o ≡ None
    none None e = refl
    none (Some r) e = absurd cc

    by_itself : (o : Option Rule) → broken_given p o x t ≡ None → broken_in_order p x t ≡ None
    by_itself None e = e
    by_itself (Some r) e = absurd cc

-- a beat that begins a message breaks no rule of order
pub begun-lawfully : {w : ℕ} (p : Profile) (x : Beat w) (t : History w) → broken_in_order p x t ≡ None
    → begins x t ≡ true → broken_order p x t ≡ None
begun-lawfully p x t e first = rw first at e

-- one that goes on with one has its control fields
pub goes-on : {w : ℕ} (p : Profile) (x y : Beat w) (older : List (Beat w)) (t : History w)
    → broken_in_order p x t ≡ None → unfinished (channel_of x) t ≡ y ∷ older → same_control x y ≡ true
goes-on p x y older t e burst = agrees (same_control x y) (rw burst at e)
  where
    agrees : (b : Bool) → first_if (not b) S1 None ≡ None → b ≡ true
    agrees true f = refl
    agrees false f = absurd cc

-- ---- a response that has begun

same-opcode : (a b : OpD) → d_code a ≡ d_code b → a ≡ b
same-opcode a b e = some (sym (d_with-code a) ∙ ap d_with e ∙ d_with-code b)
  where
    some : {a b : OpD} → Some a ≡ Some b → a ≡ b
    some e = cc

-- beats of one burst on channel D have one opcode, one source and one sink
pub same-response : {w : ℕ} (x y : BeatD w) → same_control (D x) (D y) ≡ true
    → (x.opcode ≡ y.opcode) × (x.source ≡ y.source) × (x.sink ≡ y.sink)
same-response x y e = parts (d_code x.opcode == d_code y.opcode) (x.param == y.param) (x.size == y.size)
    (x.source == y.source) (x.sink == y.sink) _ e refl refl refl
  where
    parts : (o p z s k rest : Bool) → (o && (p && (z && (s && (k && rest))))) ≡ true
        → (d_code x.opcode == d_code y.opcode) ≡ o → (x.source == y.source) ≡ s → (x.sink == y.sink) ≡ k
        → (x.opcode ≡ y.opcode) × (x.source ≡ y.source) × (x.sink ≡ y.sink)
    parts true true true true true rest f is_o is_s is_k = (
      same-opcode x.opcode y.opcode (eqb-true (d_code x.opcode) (d_code y.opcode) is_o),
      eqb-true x.source y.source is_s,
      eqb-true x.sink y.sink is_k,
    )
    parts v u y z i rest f is_o is_s is_k = absurd cc

-- the request that it answers is pending, and it is no ReleaseAck
abbrev pub Answering : {w : ℕ} → BeatD w → History w → Type 0
Answering y t = (is_release_ack y.opcode ≡ false) × (pending (RequestSource y.source) t ≡ true)

-- a ReleaseAck is one beat
long : {w : ℕ} (x : BeatD w) → completes (D x) [] ≡ false → is_release_ack x.opcode ≡ false
long x e = go x.opcode refl
  where
    go : (o : OpD) → x.opcode ≡ o → is_release_ack o ≡ false
    go OpD.ReleaseAck f = absurd (let no : true ≡ false = rw f at e in cc)
    go v f = refl

-- ---- what stays pending

-- a history with one more beat that neither opens nor closes
abbrev stepped : (first opening last closing before : Bool) → Bool
stepped first opening last closing before =
    if first && opening then true else if last && closing then false else before

only-opened : (first opening last before : Bool) → before ≡ true → stepped first opening last false before ≡ true
only-opened true true last before e = refl
only-opened true false true before e = e
only-opened true false false before e = e
only-opened false opening true before e = e
only-opened false opening false before e = e

unended : (first closing before : Bool) → before ≡ true → stepped first false false closing before ≡ true
unended true closing before e = e
unended false closing before e = e

-- a response that has begun and isn't complete, where this one is of its channel
pub answering : {w : ℕ} (p : Profile) (t : History w) → AreInOrder p t → (y : BeatD w) (older : List (Beat w))
    → unfinished Channel.D t ≡ D y ∷ older → Answering y t
unfolding unfinished AreInOrder pending broken_order
answering p [] lawful y older e = absurd cc
answering p (A x ∷ t) lawful y older e =
    let before = answering p t lawful.1 y older e in (
      before.0,
      only-opened (begins (A x) t) (x.source == y.source) (ends (A x) t) (pending (RequestSource y.source) t) before.1,
    )
answering p (B x ∷ t) lawful y older e =
    let before = answering p t lawful.1 y older e in (
      before.0,
      neither (begins (B x) t) (ends (B x) t) (pending (RequestSource y.source) t) ∙ before.1,
    )
answering p (C x ∷ t) lawful y older e =
    let before = answering p t lawful.1 y older e in (
      before.0,
      neither (begins (C x) t) (ends (C x) t) (pending (RequestSource y.source) t) ∙ before.1,
    )
answering p (E x ∷ t) lawful y older e =
    let before = answering p t lawful.1 y older e in (
      before.0,
      neither (begins (E x) t) (ends (E x) t) (pending (RequestSource y.source) t) ∙ before.1,
    )
answering {w} p (D x ∷ t) lawful y older e =
    go (unfinished Channel.D t) refl (completes (D x) (unfinished Channel.D t)) refl
    (λ z rest burst. answering p t lawful.1 z rest burst)
  where
    same : (z : BeatD w) (rest : List (Beat w)) → D z ∷ rest ≡ D y ∷ older → z ≡ y
    same z rest f = cc

    asked : has_request x t ≡ true → is_release_ack x.opcode ≡ false → pending (RequestSource x.source) t ≡ true
    asked f no_ack = left (pending (RequestSource x.source) t) _ (rw no_ack at f)
      where
        left : (a b : Bool) → (a && b) ≡ true → a ≡ true
        left true b e = refl
        left false b e = absurd cc

    found : (b : Bool) (rest : Option Rule) → first_if (not b) H2 rest ≡ None → b ≡ true
    found true rest f = refl
    found false rest f = absurd cc

    next : Answering x t → (last : Bool) → last ≡ false → completes (D x) (unfinished Channel.D t) ≡ last → x ≡ y
        → Answering y (D x ∷ t)
    next is last no_end ends_is at_y = subst (λ (z : BeatD w). Answering z (D x ∷ t)) at_y (
      is.0,
      rw (ends_is ∙ no_end) (unended (begins (D x) t) (not (is_release_ack x.opcode) && (x.source == x.source))
          (pending (RequestSource x.source) t) is.1),
    )

    go : (burst : List (Beat w)) → unfinished Channel.D t ≡ burst → (last : Bool)
        → completes (D x) (unfinished Channel.D t) ≡ last
        → ((z : BeatD w) (rest : List (Beat w)) → unfinished Channel.D t ≡ D z ∷ rest → Answering z t)
        → Answering y (D x ∷ t)
    go burst burst_is true ends_is before = absurd (let no : [] ≡ D y ∷ older = rw ends_is at e in cc)
    go [] burst_is false ends_is before =
        let short : completes (D x) [] ≡ false = rw burst_is at ends_is in
        let no_ack : is_release_ack x.opcode ≡ false = long x short in
        let first : begins (D x) t ≡ true = ap is_empty burst_is in
        let is_here : D x ∷ unfinished Channel.D t ≡ D y ∷ older = rw ends_is at e in
        next (no_ack, asked (found (has_request x t) _ (begun-lawfully p (D x) t lawful.0 first)) no_ack) false refl
        ends_is (same x (unfinished Channel.D t) is_here)
    go (D z ∷ rest) burst_is false ends_is before =
        let fields = same-response x z (goes-on p (D x) (D z) rest t lawful.0 burst_is) in
        let is = before z rest burst_is in
        let is_here : D x ∷ unfinished Channel.D t ≡ D y ∷ older = rw ends_is at e in
        next (ap is_release_ack fields.0 ∙ is.0, ap (λ s. pending (RequestSource s) t) fields.1 ∙ is.1) false refl
        ends_is (same x (unfinished Channel.D t) is_here)
    go (A z ∷ rest) burst_is false ends_is before =
        absurd (let no : same_control (D x) (A z) ≡ true = goes-on p (D x) (A z) rest t lawful.0 burst_is in cc)
    go (B z ∷ rest) burst_is false ends_is before =
        absurd (let no : same_control (D x) (B z) ≡ true = goes-on p (D x) (B z) rest t lawful.0 burst_is in cc)
    go (C z ∷ rest) burst_is false ends_is before =
        absurd (let no : same_control (D x) (C z) ≡ true = goes-on p (D x) (C z) rest t lawful.0 burst_is in cc)
    go (E z ∷ rest) burst_is false ends_is before =
        absurd (let no : same_control (D x) (E z) ≡ true = goes-on p (D x) (E z) rest t lawful.0 burst_is in cc)

-- ---- what a burst names

-- no GrantAck is unfinished
pub none-on-e : {w : ℕ} (t : History w) → unfinished Channel.E t ≡ []
unfolding unfinished
none-on-e [] = refl
none-on-e (A x ∷ t) = none-on-e t
none-on-e (B x ∷ t) = none-on-e t
none-on-e (C x ∷ t) = none-on-e t
none-on-e (D x ∷ t) = none-on-e t
none-on-e (E x ∷ t) = rw (none-on-e t) refl

-- beats of one burst name the same
pub same-names : {w : ℕ} (n : Name) (x y : Beat w) (t : History w) → same_control x y ≡ true → names n x t ≡ names n y t
same-names n (D x) (D y) t e = of_response n
  where
    of_response : (n : Name) → names n (D x) t ≡ names n (D y) t
    of_response (OfSource s) = ap (λ k. k == s) (same-response x y e).1
    of_response (OfSink k) = ap (λ s. s == k) (same-response x y e).2
    of_response (OfBlock b) = ap₂ (λ o s. if is_release_ack o then releases b (release_of s t) else asks_for b
        (request_of s t)) (same-response x y e).0 (same-response x y e).1
same-names n (A x) (A y) t e = go (a_code x.opcode == a_code y.opcode) (x.param == y.param) (x.size == y.size)
    (x.source == y.source) (x.address == y.address) e refl refl
  where
    named : (n : Name) → x.source ≡ y.source → x.address ≡ y.address → names n (A x) t ≡ names n (A y) t
    named (OfSource s) f g = ap (λ k. k == s) f
    named (OfSink k) f g = refl
    named (OfBlock b) f g = ap (λ k. block_at k == b) g

    go : (o p z s a : Bool) → (o && (p && (z && (s && a)))) ≡ true → (x.source == y.source) ≡ s
        → (x.address == y.address) ≡ a → names n (A x) t ≡ names n (A y) t
    go true true true true true f g h = named n (eqb-true x.source y.source g) (eqb-true x.address y.address h)
    go v u y z i f g h = absurd cc
same-names n (B x) (B y) t e = go (b_code x.opcode == b_code y.opcode) (x.param == y.param) (x.size == y.size)
    (x.source == y.source) (x.address == y.address) e refl
  where
    named : (n : Name) → x.address ≡ y.address → names n (B x) t ≡ names n (B y) t
    named (OfBlock b) g = ap (λ k. block_at k == b) g
    named v g = refl

    go : (o p z s a : Bool) → (o && (p && (z && (s && a)))) ≡ true → (x.address == y.address) ≡ a
        → names n (B x) t ≡ names n (B y) t
    go true true true true true f h = named n (eqb-true x.address y.address h)
    go v u y z i f h = absurd cc
same-names n (C x) (C y) t e = go (c_code x.opcode == c_code y.opcode) (x.param == y.param) (x.size == y.size)
    (x.source == y.source) (x.address == y.address) e refl refl
  where
    named : (n : Name) → x.source ≡ y.source → x.address ≡ y.address → names n (C x) t ≡ names n (C y) t
    named (OfSource s) f g = ap (λ k. k == s) f
    named (OfSink k) f g = refl
    named (OfBlock b) f g = ap (λ k. block_at k == b) g

    go : (o p z s a : Bool) → (o && (p && (z && (s && a)))) ≡ true → (x.source == y.source) ≡ s
        → (x.address == y.address) ≡ a → names n (C x) t ≡ names n (C y) t
    go true true true true true f g h = named n (eqb-true x.source y.source g) (eqb-true x.address y.address h)
    go v u y z i f g h = absurd cc
same-names n (E x) (E y) t e = of_ack n (eqb-true x.sink y.sink e)
  where
    of_ack : (n : Name) → x.sink ≡ y.sink → names n (E x) t ≡ names n (E y) t
    of_ack (OfSource s) f = refl
    of_ack (OfSink k) f = ap (λ s. s == k) f
    of_ack (OfBlock b) f = ap (λ s. is_sink s (grant_sink b t)) f
same-names n (A x) (B y) t e = absurd cc
same-names n (A x) (C y) t e = absurd cc
same-names n (A x) (D y) t e = absurd cc
same-names n (A x) (E y) t e = absurd cc
same-names n (B x) (A y) t e = absurd cc
same-names n (B x) (C y) t e = absurd cc
same-names n (B x) (D y) t e = absurd cc
same-names n (B x) (E y) t e = absurd cc
same-names n (C x) (A y) t e = absurd cc
same-names n (C x) (B y) t e = absurd cc
same-names n (C x) (D y) t e = absurd cc
same-names n (C x) (E y) t e = absurd cc
same-names n (D x) (A y) t e = absurd cc
same-names n (D x) (B y) t e = absurd cc
same-names n (D x) (C y) t e = absurd cc
same-names n (D x) (E y) t e = absurd cc
same-names n (E x) (A y) t e = absurd cc
same-names n (E x) (B y) t e = absurd cc
same-names n (E x) (C y) t e = absurd cc
same-names n (E x) (D y) t e = absurd cc

-- a response that is on its way answers the same request with one more beat
same-request : {w : ℕ} (p : Profile) (x : Beat w) (y : BeatD w) (t : History w) → broken_in_order p x t ≡ None
    → Answering y t → request_of y.source (x ∷ t) ≡ request_of y.source t
unfolding request_of broken_order
same-request p (A x) y t lawful is = go (begins (A x) t) refl (x.source == y.source) refl
  where
    free : (b : Bool) (rest : Option Rule) → first_if b H1 rest ≡ None → b ≡ false
    free false rest f = refl
    free true rest f = absurd cc

    go : (first : Bool) → begins (A x) t ≡ first → (own : Bool) → (x.source == y.source) ≡ own
        → (if begins (A x) t && (x.source == y.source) then Some x else request_of y.source t) ≡ request_of y.source t
    go false f own g = rw f refl
    go true f false g = rw (f, g) refl
    go true f true g = absurd (
        let closed : pending (RequestSource x.source) t ≡ false =
        free (pending (RequestSource x.source) t) _ (begun-lawfully p (A x) t lawful f) in
        let no : true ≡ false = sym is.1 ∙ ap (λ s. pending (RequestSource s) t) (sym (eqb-true x.source y.source g))
        ∙ closed in
        cc)
same-request p (B x) y t lawful is = refl
same-request p (C x) y t lawful is = refl
same-request p (D x) y t lawful is = refl
same-request p (E x) y t lawful is = refl

-- what is on its way names the same with one more beat
pub names-kept : {w : ℕ} (p : Profile) (n : Name) (x y : Beat w) (older : List (Beat w)) (t : History w)
    → broken_in_order p x t ≡ None → AreInOrder p t → unfinished (channel_of y) t ≡ y ∷ older
    → names n y (x ∷ t) ≡ names n y t
names-kept p n x (A y) older t lawful before e = by_fields n
  where
    by_fields : (n : Name) → names n (A y) (x ∷ t) ≡ names n (A y) t
    by_fields (OfSource s) = refl
    by_fields v = refl
names-kept p n x (B y) older t lawful before e = by_fields n
  where
    by_fields : (n : Name) → names n (B y) (x ∷ t) ≡ names n (B y) t
    by_fields (OfSource s) = refl
    by_fields v = refl
names-kept p n x (C y) older t lawful before e = by_fields n
  where
    by_fields : (n : Name) → names n (C y) (x ∷ t) ≡ names n (C y) t
    by_fields (OfSource s) = refl
    by_fields v = refl
names-kept p n x (E y) older t lawful before e = absurd (let no : [] ≡ E y ∷ older = sym (none-on-e t) ∙ e in cc)
names-kept {w} p n x (D y) older t lawful before e = of_name n
  where
    is : Answering y t
    is = answering p t before y older e

    of_name : (n : Name) → names n (D y) (x ∷ t) ≡ names n (D y) t
    of_name (OfBlock b) = rw is.0 (ap (asks_for b) (same-request p x y t lawful is))
    of_name v = refl
