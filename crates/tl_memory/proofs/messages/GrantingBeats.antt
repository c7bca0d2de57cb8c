-- What is kept of the Grant of a link that may be answered early, with one more beat.
use Rattle.tl_memory.proofs.Imports.{Beat, BeatA, BeatC, BeatD, History, unfinished, block_at, begins, ends}
use Rattle.std.proofs.Common.{◌≡◌, ℕ, Bool, true, false, not, cond, ◌&&◌, ◌||◌, List, [], ◌∷◌, refl, sym, ap, ◌∙◌}
use Rattle.std.proofs.Common.{subst, inl, inr}
use Rattle.std.specs.Prelude.{if◌then◌else◌, Option, Some, None, ◌==◌}
use Rattle.std.proofs.lemmas.Bool.{cases_Bool, cases_eq, eq-eqb, eqb-true, ne_eqb}
use Rattle.tl_beat.specs.declared.beat.{BeatB.BeatB, BeatE.BeatE}
use Rattle.tl_beat.specs.declared.channel.Channel.{Channel}
use Rattle.tl_burst.specs.statement.Part.{completes, is_empty}
use Rattle.tl_params.specs.declared.key.Key.TheVariants.{GrantAckOf, RequestSource}
use Rattle.tl_params.specs.declared.liberties.Liberties.{Liberties}
use Rattle.tl_params.specs.declared.rule.Rule.TheVariants.{H1, H2}
use Rattle.tl_rules.specs.statement.History.{asks_for, is_grant}
unfoldable use Rattle.tl_rules.specs.statement.History.{grant_sink, pending, request_of}
use Rattle.tl_rules.specs.statement.Liberties.{broken_in_order_under, broken_order_under, has_request_under}
use Rattle.tl_rules.{proofs.Open.not_release_ack, proofs.Sent.pending-closed, proofs.Sent.pending-quiet}
use Rattle.tl_forgiving.proofs.Bursts.{IsSameD, Before, before-d}
use Rattle.tl_forgiving.proofs.Bursts.Before.{Nothing, Earlier}
use Rattle.tl_forgiving.proofs.Grants.{none-on-e}
use Rattle.tl_forgiving.proofs.Implied.{first, not-false, second, test-fails}
use Rattle.tl_forgiving.proofs.Lawful.{begun-lawfully}
use Rattle.tl_forgiving.proofs.Releases.{acknowledged}
unfoldable use Rattle.tl_bytes.specs.statement.Early.{reported_since}
use Rattle.tl_memory.specs.code.Early.{is_acknowledged, is_doubtful, is_unacknowledged, granting_after, granting_or}
use Rattle.tl_memory.specs.code.Early.{overtaken}
use Rattle.tl_memory.specs.code.Elsewhere.{IsConcerned}
use Rattle.tl_memory.specs.code.Early as code
use Rattle.tl_memory.specs.declared.early.{Doubt.Doubt, Granting.Granting}
use Rattle.tl_memory.specs.statement.Links.{IsGranting, KnowsGranting}
unfoldable use Rattle.tl_memory.specs.statement.Links.{granted_request}
use Rattle.tl_memory.proofs.messages.ReleasingBeats.{same-d, head-is, no-head, differs, quiet-later}

pub granting-b : {w : ℕ} (o : Option Granting) (x : BeatB w) (t : History w) → KnowsGranting o t
    → KnowsGranting o (Beat.B x ∷ t)
unfolding unfinished granted_request request_of grant_sink reported_since
granting-b None x t k = k
granting-b (Some g) x t k = (
  k.0,
  k.1,
  k.2,
  k.3,
  record {
    sink_is = k.4.sink_is;
    asked = pending-quiet (RequestSource k.0.source) (Beat.B x) t refl refl ∙ k.4.asked;
    of_block = k.4.of_block;
    last_is = k.4.last_is;
    given = k.4.given;
    waits_is = pending-quiet (GrantAckOf g.block) (Beat.B x) t refl refl ∙ k.4.waits_is;
    reported_is = k.4.reported_is;
  },
)

-- with a report of its block it is overtaken, if its GrantAck came before
pub granting-c : {w : ℕ} (o : Option Granting) (x : BeatC w) (t : History w) → KnowsGranting o t
    → KnowsGranting (if ends (Beat.C x) t then overtaken o (block_at x.address) else o) (Beat.C x ∷ t)
unfolding unfinished granted_request request_of grant_sink reported_since
granting-c {w} None x t k = go (ends (Beat.C x) t)
  where
    go : (last : Bool) → KnowsGranting (if last then None else None) (Beat.C x ∷ t)
    go true = k
    go false = k
granting-c {w} (Some g) x t k = go (ends (Beat.C x) t) refl ((g.block == block_at x.address) && is_acknowledged g.doubt) refl
  where
    -- the same Grant, about which this is known now
    with_doubt : (d : Doubt) → is_unacknowledged d ≡ is_unacknowledged g.doubt
        → (is_unacknowledged d ≡ false → ((ends (Beat.C x) t && (block_at x.address == g.block))
        || reported_since g.block k.0.sink t) ≡ is_doubtful d)
        → KnowsGranting (Some (record { sink = g.sink; block = g.block; doubt = d })) (Beat.C x ∷ t)
    with_doubt d same reports = (
      k.0,
      k.1,
      k.2,
      k.3,
      record {
        sink_is = k.4.sink_is;
        asked = pending-quiet (RequestSource k.0.source) (Beat.C x) t refl refl ∙ k.4.asked;
        of_block = k.4.of_block;
        last_is = k.4.last_is;
        given = k.4.given;
        waits_is = pending-quiet (GrantAckOf g.block) (Beat.C x) t refl refl ∙ k.4.waits_is ∙ sym same;
        reported_is = reports;
      },
    )

    turned : (a b : ℕ) → (a == b) ≡ (b == a)
    turned a b = elim (cases_eq a b) [
      | inl same ↦ rw (eq-eqb a b same, eq-eqb b a (sym same)) refl
      | inr ne ↦ rw (ne_eqb a b ne, ne_eqb b a (λ e. ne (sym e))) refl
    ]

    -- it is known of each doubt what a report adds to it
    kept : (d : Doubt) (last own reported : Bool) → (last && (own && is_acknowledged d)) ≡ false
        → (is_unacknowledged d ≡ false → reported ≡ is_doubtful d) → is_unacknowledged d ≡ false
        → ((last && own) || reported) ≡ is_doubtful d
    kept Doubt.Unacknowledged last own reported e before n = absurd (differs n)
    kept Doubt.Acknowledged true true reported e before n = absurd (differs e)
    kept Doubt.Acknowledged true false reported e before n = before refl
    kept Doubt.Acknowledged false own reported e before n = before refl
    kept Doubt.Overtaken true true reported e before n = refl
    kept Doubt.Overtaken true false reported e before n = before refl
    kept Doubt.Overtaken false own reported e before n = before refl

    unchanged : (ends (Beat.C x) t && ((g.block == block_at x.address) && is_acknowledged g.doubt)) ≡ false
        → KnowsGranting (Some g) (Beat.C x ∷ t)
    unchanged e = with_doubt g.doubt refl (kept g.doubt (ends (Beat.C x) t) (block_at x.address == g.block)
        (reported_since g.block k.0.sink t) (rw (turned (block_at x.address) g.block) e) k.4.reported_is)

    go : (last : Bool) → ends (Beat.C x) t ≡ last → (now : Bool)
        → ((g.block == block_at x.address) && is_acknowledged g.doubt) ≡ now
        → KnowsGranting (if last then overtaken (Some g) (block_at x.address) else Some g) (Beat.C x ∷ t)
    go false e now f = unchanged (rw e refl)
    go true e false f = rw f (unchanged (rw (e, f) refl))
    go true e true f =
        let own = first (g.block == block_at x.address) _ f in
        let acked = second (g.block == block_at x.address) (is_acknowledged g.doubt) f in
        rw f (with_doubt Doubt.Overtaken (not_un g.doubt acked) (λ n. rw (e, turned (block_at x.address) g.block, own) refl))
      where
        not_un : (d : Doubt) → is_acknowledged d ≡ true → is_unacknowledged Doubt.Overtaken ≡ is_unacknowledged d
        not_un Doubt.Acknowledged e = refl
        not_un Doubt.Unacknowledged e = absurd cc
        not_un Doubt.Overtaken e = absurd cc

-- with its GrantAck it is acknowledged
pub granting-e : {w : ℕ} (o : Option Granting) (x : BeatE) (t : History w) → KnowsGranting o t
    → KnowsGranting (code.acknowledged o x.sink) (Beat.E x ∷ t)
unfolding unfinished granted_request request_of grant_sink reported_since
granting-e None x t k = k
granting-e {w} (Some g) x t k = elim (cases_Bool (g.sink == x.sink)) [
  | inl own ↦ rw own (
    k.0,
    k.1,
    k.2,
    k.3,
    record {
      sink_is = k.4.sink_is;
      asked = pending-quiet (RequestSource k.0.source) (Beat.E x) t refl refl ∙ k.4.asked;
      of_block = k.4.of_block;
      last_is = k.4.last_is;
      given = k.4.given;
      waits_is = pending-closed (GrantAckOf g.block) (Beat.E x) t refl ∙ rw (one_beat, k.4.last_is, same own) refl;
      reported_is = λ n. rw (turned own) refl;
    },
  )
  | inr other ↦ rw other (
    k.0,
    k.1,
    k.2,
    k.3,
    record {
      sink_is = k.4.sink_is;
      asked = pending-quiet (RequestSource k.0.source) (Beat.E x) t refl refl ∙ k.4.asked;
      of_block = k.4.of_block;
      last_is = k.4.last_is;
      given = k.4.given;
      waits_is = pending-closed (GrantAckOf g.block) (Beat.E x) t refl ∙ rw (k.4.last_is, apart other)
          (never (ends (Beat.E x) t) (pending (GrantAckOf g.block) t)) ∙ k.4.waits_is;
      reported_is = λ n. rw (away other) (k.4.reported_is n);
    },
  )
]
  where
    one_beat : ends (Beat.E x) t ≡ true
    one_beat = rw (none-on-e t) refl

    same : (g.sink == x.sink) ≡ true → (k.0.sink == x.sink) ≡ true
    same own = ap (λ s. s == x.sink) (sym k.4.sink_is) ∙ own

    turned : (g.sink == x.sink) ≡ true → (x.sink == k.0.sink) ≡ true
    turned own = eq-eqb x.sink k.0.sink (sym (eqb-true g.sink x.sink own) ∙ k.4.sink_is)

    apart : (g.sink == x.sink) ≡ false → (k.0.sink == x.sink) ≡ false
    apart other = ap (λ s. s == x.sink) (sym k.4.sink_is) ∙ other

    away : (g.sink == x.sink) ≡ false → (x.sink == k.0.sink) ≡ false
    away other = ne_eqb x.sink k.0.sink (λ e. differs (sym (eq-eqb g.sink x.sink (k.4.sink_is ∙ sym e)) ∙ other))

    never : (last before : Bool) → cond (last && false) false before ≡ before
    never true before = refl
    never false before = refl

-- a beat of a request leaves it
pub granting-a : {w : ℕ} (l : Liberties) (o : Option Granting) (x : BeatA w) (t : History w)
    → broken_in_order_under l (Beat.A x) t ≡ None → KnowsGranting o t → KnowsGranting o (Beat.A x ∷ t)
unfolding unfinished granted_request request_of grant_sink reported_since broken_order_under
granting-a l None x t ordered k = k
granting-a {w} l (Some g) x t ordered k = go (begins (Beat.A x) t) refl (x.source == k.0.source) refl
  where
    with_asked : request_of k.0.source (Beat.A x ∷ t) ≡ request_of k.0.source t
        → pending (RequestSource k.0.source) (Beat.A x ∷ t) ≡ pending (RequestSource k.0.source) t
        → KnowsGranting (Some g) (Beat.A x ∷ t)
    with_asked asks waits = (
      k.0,
      k.1,
      k.2,
      k.3,
      record {
        sink_is = k.4.sink_is;
        asked = waits ∙ k.4.asked;
        of_block = ap (asks_for g.block) asks ∙ k.4.of_block;
        last_is = k.4.last_is;
        given = k.4.given;
        waits_is = pending-quiet (GrantAckOf g.block) (Beat.A x) t refl refl ∙ k.4.waits_is;
        reported_is = k.4.reported_is;
      },
    )

    go : (now : Bool) → begins (Beat.A x) t ≡ now → (own : Bool) → (x.source == k.0.source) ≡ own
        → KnowsGranting (Some g) (Beat.A x ∷ t)
    go true n true f = absurd (differs (sym k.4.asked
        ∙ ap (λ s. pending (RequestSource s) t) (sym (eqb-true x.source k.0.source f))
        ∙ test-fails (pending (RequestSource x.source) t) H1 _ (begun-lawfully l (Beat.A x) t ordered n)))
    go true n false f = with_asked (rw (n, f) refl) (pending-quiet (RequestSource k.0.source) (Beat.A x) t f refl)
    go false n own f = with_asked (rw n refl) (unopened_a n)
      where
        unopened_a : begins (Beat.A x) t ≡ false
            → pending (RequestSource k.0.source) (Beat.A x ∷ t) ≡ pending (RequestSource k.0.source) t
        unopened_a later = quiet-later (RequestSource k.0.source) (Beat.A x) t refl later

-- ---- a beat of a response

module _ {w : ℕ} (l : Liberties) (x : BeatD w) (t : History w) (ordered : broken_in_order_under l (Beat.D x) t ≡ None) where
  -- a Grant that begins answers a request that is pending
  answers : begins (Beat.D x) t ≡ true → is_grant x.opcode ≡ true → pending (RequestSource x.source) t ≡ true
  unfolding broken_order_under
  answers now grant =
      first (pending (RequestSource x.source) t) _ (rw (not_release_ack x.opcode grant) at (not-false
      (has_request_under l x t)
      (test-fails (not (has_request_under l x t)) H2 _ (begun-lawfully l (Beat.D x) t ordered now))))

  -- the request stays pending until the last beat
  still-asked : ends (Beat.D x) t ≡ false → pending (RequestSource x.source) t ≡ true
      → pending (RequestSource x.source) (Beat.D x ∷ t) ≡ true
  still-asked more asked = pending-closed (RequestSource x.source) (Beat.D x) t refl ∙ rw more asked

  granting-begun : (b : ℕ) → unfinished Channel.D t ≡ [] → ends (Beat.D x) t ≡ false → is_grant x.opcode ≡ true
      → asks_for b (request_of x.source t) ≡ true
      → KnowsGranting (Some (record { sink = x.sink; block = b; doubt = Doubt.Unacknowledged })) (Beat.D x ∷ t)
  unfolding unfinished granted_request request_of grant_sink pending
  granting-begun b none more grant own = (
    x,
    unfinished Channel.D t,
    rw more refl,
    grant,
    record {
      sink_is = refl;
      asked = still-asked more (answers (ap is_empty none) grant);
      of_block = own;
      last_is = rw (none, grant, own) refl;
      given = rw (none, grant, eq-eqb x.sink x.sink refl) own;
      waits_is = rw (none, grant, own) refl;
      reported_is = λ n. absurd (differs n);
    },
  )

  granting-goes_on : (g : Granting) (z : BeatD w) (rest : List (Beat w)) → unfinished Channel.D t ≡ Beat.D z ∷ rest
      → ends (Beat.D x) t ≡ false → is_grant x.opcode ≡ true → IsSameD x z → IsGranting g z t
      → KnowsGranting (Some g) (Beat.D x ∷ t)
  unfolding unfinished granted_request request_of grant_sink reported_since
  granting-goes_on g z rest burst more grant alike k = (
    x,
    unfinished Channel.D t,
    rw more refl,
    grant,
    record {
      sink_is = k.sink_is ∙ sym alike.sink;
      asked = still-asked more (ap (λ s. pending (RequestSource s) t) alike.source ∙ k.asked);
      of_block = ap (λ s. asks_for g.block (request_of s t)) alike.source ∙ k.of_block;
      last_is = rw burst (k.last_is ∙ ap (λ s. Some s) (sym alike.sink));
      given = rw burst (ap (λ s. asks_for g.block (granted_request s t)) alike.sink ∙ k.given);
      waits_is = quiet-later (GrantAckOf g.block) (Beat.D x) t refl (ap is_empty burst) ∙ k.waits_is;
      reported_is = λ n. ap (λ s. reported_since g.block s t) alike.sink ∙ k.reported_is n;
    },
  )

  pub granting-d : (o : Option Granting) (block : Option ℕ) → IsConcerned block (Beat.D x) t → KnowsGranting o t
      → KnowsGranting (granting_after o x block (completes (Beat.D x) (unfinished Channel.D t))) (Beat.D x ∷ t)
  unfolding unfinished
  granting-d o block concerned k =
      go (completes (Beat.D x) (unfinished Channel.D t)) refl (is_grant x.opcode) refl (before-d l t x ordered) o k
    where
      whole : completes (Beat.D x) (unfinished Channel.D t) ≡ true → KnowsGranting None (Beat.D x ∷ t)
      whole last y older e = absurd (no-head (sym (rw last refl) ∙ e))

      other : completes (Beat.D x) (unfinished Channel.D t) ≡ false → is_grant x.opcode ≡ false
          → KnowsGranting None (Beat.D x ∷ t)
      other more kind y older e =
          let is : Beat.D x ∷ unfinished Channel.D t ≡ Beat.D y ∷ older = sym (rw more refl) ∙ e in
          ap (λ (z : BeatD w). is_grant z.opcode) (sym (same-d (head-is is))) ∙ kind

      fresh : (o : Option Granting) → KnowsGranting o t → unfinished Channel.D t ≡ [] → o ≡ None
      fresh None k none = refl
      fresh (Some r) k none = absurd (no-head (sym none ∙ k.2))

      begun : unfinished Channel.D t ≡ [] → completes (Beat.D x) (unfinished Channel.D t) ≡ false
          → is_grant x.opcode ≡ true → KnowsGranting (granting_or None x block) (Beat.D x ∷ t)
      begun none more kind =
          let is = concerned (ap is_empty none) kind in
          rw is.1 (granting-begun is.0 none more kind is.2)

      goes : (o : Option Granting) → KnowsGranting o t → (z : BeatD w) (rest : List (Beat w))
          → unfinished Channel.D t ≡ Beat.D z ∷ rest → IsSameD x z
          → completes (Beat.D x) (unfinished Channel.D t) ≡ false → is_grant x.opcode ≡ true
          → KnowsGranting (granting_or o x block) (Beat.D x ∷ t)
      goes None k z rest burst alike more kind =
          absurd (differs (sym kind ∙ ap is_grant alike.opcode ∙ k z rest burst))
      goes (Some g) k z rest burst alike more kind =
          let same : k.0 ≡ z = same-d (head-is (sym k.2 ∙ burst)) in
          granting-goes_on g z rest burst more kind alike (subst (λ v. IsGranting g v t) same k.4)

      go : (last : Bool) → completes (Beat.D x) (unfinished Channel.D t) ≡ last → (kind : Bool)
          → is_grant x.opcode ≡ kind → Before Beat.D (λ z. IsSameD x z) (unfinished Channel.D t)
          → (o : Option Granting) → KnowsGranting o t → KnowsGranting (granting_after o x block last) (Beat.D x ∷ t)
      go true e kind f burst o k = whole e
      go false e false f burst o k = rw f (other e f)
      go false e true f (Nothing none) o k = rw (f, fresh o k none) (begun none e f)
      go false e true f (Earlier z rest burst alike) o k = rw f (goes o k z rest burst alike e f)
