-- Tables with one more beat say what the longer history does.
use Rattle.std.proofs.Common.{◌≡◌, ℕ, Bool, true, false, ◌&&◌, refl, sym, ap, ap₂, ◌∙◌, inl, inr}
use Rattle.std.specs.Prelude.{if◌then◌else◌, [], ◌∷◌, not, ◌==◌, List, Option, Some, None, is_some}
use Rattle.std.proofs.lemmas.Bool.{cases_Bool, cases_eq, eq-eqb, ne_eqb, eqb-true}
use Rattle.tl_beat.specs.statement.Width.{IsWidth}
use Rattle.tl_beat.specs.declared.beat.Beat.{Beat}
use Rattle.tl_beat.specs.declared.beat.Beat.TheVariants.{A, B, C, D, E}
use Rattle.tl_beat.specs.declared.beat.BeatD.{BeatD}
use Rattle.tl_beat.specs.declared.beat.BeatE.{BeatE}
use Rattle.tl_beat.specs.declared.channel.Channel.TheVariants as channel
use Rattle.tl_beat.specs.declared.opcode.OpD.{OpD}
use Rattle.tl_beat.specs.declared.opcode.OpD.TheVariants as d
use Rattle.tl_beat.specs.statement.Opcode.{d_carries_data}
use Rattle.tl_burst.specs.statement.Burst.{data_beats}
use Rattle.tl_burst.specs.statement.Messages.{History, unfinished, burst_length}
use Rattle.tl_burst.specs.statement.Part.{is_empty, completes}
use Rattle.tl_params.specs.declared.key.Key.TheVariants.{GrantSink}
use Rattle.tl_params.specs.declared.level.Level.{Level}
use Rattle.tl_params.specs.declared.liberties.Liberties.{Liberties}
use Rattle.tl_params.specs.declared.perm.Perm.{Perm}
use Rattle.tl_rules.specs.declared.past.Request.{Request}
use Rattle.tl_rules.specs.declared.table.Block.{Block}
use Rattle.tl_rules.specs.statement.History.{begins, ends, pending, is_release_ack, is_grant, is_sink}
use Rattle.tl_rules.specs.statement.Liberties.{broken_after_under, given_by_grant, held_under, left_by_release}
use Rattle.tl_rules.specs.code.Tables.{kept_request, kept_release, kept_block, request_next, release_next, sink_next}
use Rattle.tl_rules.specs.code.Tables.{block_next, bears_on, came, came_early}
use Rattle.tl_rules.proofs.Tables.{request-next, release-next, sink-next, block-next}
use Rattle.tl_monitor.specs.statement.Count.{at}
use Rattle.tl_monitor.specs.code.KnownBlocks.{known_in}
use Rattle.tl_monitor.specs.code.Bursts.{burst_on, IsOf}
use Rattle.tl_monitor.specs.code.LinkState.{IsEmpty, is_first, touched, is_block, sink_with, block_of_request, IsNext}
use Rattle.tl_monitor.specs.code.LinkState.{came_early_in, came_in, given_by_control, left_by_control, of_burst}
use Rattle.tl_monitor.specs.code.LinkState as link_state
use Rattle.tl_monitor.specs.declared.bursts.Unfinished.{Unfinished}
use Rattle.tl_monitor.specs.code.Keeps.{Keeps}
use Rattle.tl_monitor.specs.declared.link_state.LinkState.{LinkState}
use Rattle.tl_monitor.proofs.Continued.{bursts-next}
use Rattle.tl_monitor.proofs.Judged.{continues, sink-free}
use Rattle.tl_monitor.proofs.Keeping.{begins-is, ends-is, same_touched, answers, is_own}
use Rattle.tl_rules.proofs.Open.{not_release_ack}

-- ---- by sink

-- what is granted with a sink stands there where the history has it pending
sink-with : {w : ℕ} (first last : Bool) (x : Beat w) (block : Option ℕ) (s : ℕ) (b : Option ℕ)
    → ((y : BeatD w) → x ≡ D y → first ≡ true → is_grant y.opcode ≡ true → is_some block ≡ true)
    → is_some (sink_with first last x block s b) ≡ sink_next first last x s (is_some b)
sink-with first last (A x) block s b some = refl
sink-with first last (B x) block s b some = refl
sink-with first last (C x) block s b some = refl
sink-with first last (D x) block s b some = opened first (is_grant x.opcode) (x.sink == s) block b (some x refl)
  where
    opened : (first grant own : Bool) (block b : Option ℕ) → (first ≡ true → grant ≡ true → is_some block ≡ true)
        → is_some (if first && (grant && own) then block else b) ≡ (if first && (grant && own) then true else is_some b)
    opened true true true block b some = some refl refl
    opened true true false block b some = refl
    opened true false own block b some = refl
    opened false grant own block b some = refl
sink-with first last (E x) block s b some = closed last (x.sink == s) b
  where
    closed : (last own : Bool) (b : Option ℕ)
        → is_some (if last && own then None else b) ≡ (if last && own then false else is_some b)
    closed true true b = refl
    closed true false b = refl
    closed false own b = refl

-- a Grant touches the block of its request
grant_touches : {w : ℕ} (first last : Bool) (x : BeatD w) (k : LinkState) → first ≡ true → is_grant x.opcode ≡ true
    → is_release_ack x.opcode ≡ false → is_some (at k.requests x.source) ≡ true
    → is_some (touched first last (D x) k) ≡ true
grant_touches first last x k f g a some = rw (f, a, g) (of_some (at k.requests x.source) some)
  where
    of_some : (o : Option Request) → is_some o ≡ true → is_some (block_of_request o) ≡ true
    of_some (Some r) e = refl
    of_some None e = absurd cc

-- ---- the GrantAcks that are pending

grant_if : (here : Bool) (b c : Block) → (if here then b.grant else c.grant) ≡ (if here then b else c).grant
grant_if true b c = refl
grant_if false b c = refl

-- each that is after a beat stands under its sink
grants-next : {w : ℕ} (lib : Liberties) (came : Option Perm) (first last : Bool) (x : Beat w) (b s : ℕ) (c : Block) (block at_s at_sink : Option ℕ)
    → ((y : BeatD w) → x ≡ D y → first ≡ true → is_grant y.opcode ≡ true
    → (at_sink ≡ None) × (y.sink ≡ s → at_s ≡ at_sink))
    → ((y : BeatE) → x ≡ E y → y.sink ≡ s → block ≡ at_s)
    → ((n : ℕ) → c.grant ≡ Some n → n ≡ s → at_s ≡ Some b)
    → (if is_block b block then block_next lib first last came x c else c).grant ≡ Some s
    → sink_with first last x block s at_s ≡ Some b
grants-next lib came first last (A x) b s c block at_s at_sink free own stands e =
    stands s (same_grant (is_block b block) e) refl
  where
    same_grant : (here : Bool) → (if here then block_next lib first last came (A x) c else c).grant ≡ Some s → c.grant ≡ Some s
    same_grant true e = e
    same_grant false e = e
grants-next lib came first last (B x) b s c block at_s at_sink free own stands e =
    stands s (same_grant (is_block b block) e) refl
  where
    same_grant : (here : Bool) → (if here then block_next lib first last came (B x) c else c).grant ≡ Some s → c.grant ≡ Some s
    same_grant true e = e
    same_grant false e = e
grants-next lib came first last (C x) b s c block at_s at_sink free own stands e =
    stands s (same_grant (is_block b block) e) refl
  where
    same_grant : (here : Bool) → (if here then block_next lib first last came (C x) c else c).grant ≡ Some s → c.grant ≡ Some s
    same_grant true e = e
    same_grant false e = e
grants-next {w} lib came first last (D x) b s c block at_s at_sink free own stands e =
    opened first (is_grant x.opcode) (is_block b block) (free x refl) refl
    (grant_if (is_block b block) (block_next {w = w} lib first last came (D x) c) c ∙ e)
  where
    named : (o : Option ℕ) → is_block b o ≡ true → o ≡ Some b
    named (Some n) e = ap Some (sym (eqb-true b n e))
    named None e = absurd cc

    some_is : {x y : ℕ} → Some x ≡ Some y → x ≡ y
    some_is e = cc

    none_some : (o : Option ℕ) → o ≡ None → o ≡ Some b → ⊥
    none_some o e f = cc

    same_grant : (here : Bool) → (if here then c else c).grant ≡ Some s → c.grant ≡ Some s
    same_grant true e = e
    same_grant false e = e

    opened : (first grant here : Bool)
        → (first ≡ true → grant ≡ true → (at_sink ≡ None) × (x.sink ≡ s → at_s ≡ at_sink)) → here ≡ is_block b block
        → (if here then (if first && grant then Some x.sink else c.grant) else c.grant) ≡ Some s
        → (if first && (grant && (x.sink == s)) then block else at_s) ≡ Some b
    opened true true true free is e = rw (eq-eqb x.sink s (some_is e)) (named block (sym is))
    opened true true false free is e = elim (cases_eq x.sink s) [
      | inl its ↦ absurd (none_some at_sink (free refl refl).0 (sym ((free refl refl).1 its) ∙ stands s e refl))
      | inr other ↦ rw (ne_eqb x.sink s other) (stands s e refl)
    ]
    opened true false true free is e = stands s e refl
    opened true false false free is e = stands s e refl
    opened false grant true free is e = stands s e refl
    opened false grant false free is e = stands s e refl
grants-next {w} lib came first last (E x) b s c block at_s at_sink free own stands e =
    closed last (is_block b block) refl (grant_if (is_block b block) (block_next {w = w} lib first last came (E x) c) c ∙ e)
  where
    none_is : {n : ℕ} → None ≡ Some n → ⊥
    none_is e = cc

    true-false : true ≡ false → ⊥
    true-false e = cc

    before : (last : Bool) (o : Option ℕ) → (if last && is_sink x.sink o then None else o) ≡ Some s → o ≡ Some s
    before true (Some n) e = elim (cases_Bool (n == x.sink)) [
      | inl yes' ↦ absurd (none_is (sym (rw yes' refl) ∙ e))
      | inr no' ↦ sym (rw no' refl) ∙ e
    ]
    before true None e = e
    before false o e = e

    stays : (here : Bool) (last : Bool)
        → (if here then (if last && is_sink x.sink c.grant then None else c.grant) else c.grant) ≡ Some s
        → c.grant ≡ Some s
    stays true last e = before last c.grant e
    stays false last e = e

    closed : (last here : Bool) → here ≡ is_block b block
        → (if here then (if last && is_sink x.sink c.grant then None else c.grant) else c.grant) ≡ Some s
        → (if last && (x.sink == s) then None else at_s) ≡ Some b
    closed false here is e = stands s (stays here false e) refl
    closed true here is e = elim (cases_eq x.sink s) [
      | inl its ↦
          let grant : c.grant ≡ Some s = stays here true e in
          let there : block ≡ Some b = own x refl its ∙ stands s grant refl in
          let it : here ≡ true = is ∙ is_own b block there in
          let gone : (if true && is_sink x.sink (Some s) then None else Some s) ≡ Some s =
          sym (rw (it, grant) refl) ∙ e in
          absurd (none_is (sym (rw (eq-eqb s x.sink (sym its)) refl) ∙ gone))
      | inr other ↦ rw (ne_eqb x.sink s other) (stands s (stays here true e) refl)
    ]

-- ---- answers that are unfinished

response_alone : {w : ℕ} (x : BeatD w) → is_release_ack x.opcode ≡ true → burst_length (D x) ≡ 1
response_alone {w} x ack = short x.opcode ack
  where
    short : (op : OpD) → is_release_ack op ≡ true → (if d_carries_data op then data_beats w x.size else 1) ≡ 1
    short d.ReleaseAck e = refl
    short d.Grant e = absurd cc
    short d.GrantData e = absurd cc
    short d.AccessAck e = absurd cc
    short d.AccessAckData e = absurd cc
    short d.HintAck e = absurd cc

answering-next : {w : ℕ} (lib : Liberties) (l : Level) (k : LinkState) (x : Beat w) (t : History w) → Keeps lib k t
    → broken_after_under lib l x t ≡ None
    → (y : BeatD w) (earlier : List (Beat w)) → unfinished channel.D (x ∷ t) ≡ D y ∷ earlier
    → (is_release_ack y.opcode ≡ false) × (is_some (kept_request y.source (x ∷ t)) ≡ true)
unfolding unfinished
answering-next lib l k (A x) t keeps legal y earlier e =
    let known = keeps.answering y earlier e in (
      known.0,
      ap is_some (request-next y.source (A x) t) ∙ opened _ (begins (A x) t && (x.source == y.source))
          (kept_request y.source t) known.1,
    )
  where
    opened : {X : Type 0} (new : X) (b : Bool) (o : Option X) → is_some o ≡ true
        → is_some (if b then Some new else o) ≡ true
    opened new true o e = refl
    opened new false o e = e
answering-next lib l k (B x) t keeps legal y earlier e = let known = keeps.answering y earlier e in
    (known.0, ap is_some (request-next y.source (B x) t) ∙ known.1)
answering-next lib l k (C x) t keeps legal y earlier e = let known = keeps.answering y earlier e in
    (known.0, ap is_some (request-next y.source (C x) t) ∙ known.1)
answering-next lib l k (E x) t keeps legal y earlier e = let known = keeps.answering y earlier e in
    (known.0, ap is_some (request-next y.source (E x) t) ∙ known.1)
answering-next {w} lib l k (D x) t keeps legal y earlier e = elim (cases_Bool (ends (D x) t)) [
  | inl done ↦ let over : [] ≡ D y ∷ earlier = rw done at e in absurd (no_beat over)
  | inr unended ↦
      let going : D x ∷ unfinished channel.D t ≡ D y ∷ earlier = rw unended at e in
      let same : x ≡ y = own going in
      let known = answers lib l k x t (unfinished channel.D t) keeps legal refl in
      let apart : is_release_ack x.opcode ≡ false = elim (cases_Bool (is_release_ack x.opcode)) [
        | inl ack ↦ absurd (alone x ack (known.release ack).1 unended)
        | inr other ↦ other
      ] in
      let asks : is_some (kept_request x.source (D x ∷ t)) ≡ true =
      ap is_some (request-next x.source (D x) t) ∙ ap (λ b.
      is_some (if b && (not (is_release_ack x.opcode) && (x.source == x.source)) then None else kept_request x.source
      t)) unended ∙ known.request apart in (
        ap (λ (z : BeatD w). is_release_ack z.opcode) (sym same) ∙ apart,
        ap
            (λ (z : BeatD w). is_some (kept_request z.source (D x ∷ t))) (sym same) ∙ asks,
      )
]
  where
    no_beat : {z : Beat w} {zs : List (Beat w)} → [] ≡ z ∷ zs → ⊥
    no_beat e = cc

    own : {x y : BeatD w} {xs ys : List (Beat w)} → D x ∷ xs ≡ D y ∷ ys → x ≡ y
    own e = cc

    none_of : (beats : List (Beat w)) → is_empty beats ≡ true → beats ≡ []
    none_of [] e = refl
    none_of (z ∷ zs) e = absurd cc

    true-false : true ≡ false → ⊥
    true-false e = cc

    alone : (x : BeatD w) → is_release_ack x.opcode ≡ true → begins (D x) t ≡ true → ends (D x) t ≡ false → ⊥
    alone x ack first unended =
        let none = none_of (unfinished channel.D t) first in
        let done : ends (D x) t ≡ true = ap (λ beats. completes (D x) beats) none ∙ rw (response_alone x ack) refl in
        true-false (sym done ∙ unended)

-- ---- what is answered before its end

left-is : {w : ℕ} {P : Type 0} (source : ℕ) (o : Option (Unfinished P)) (beats : List (Beat w)) → IsOf o beats
    → left_by_release source beats ≡ of_burst (left_by_control source) o
left-is source None beats is = rw is refl
left-is source (Some u) beats (A x, earlier, is, control, count, more) = rw (control, is) refl
left-is source (Some u) beats (B x, earlier, is, control, count, more) = rw (control, is) refl
left-is source (Some u) beats (C x, earlier, is, control, count, more) = rw (control, is) refl
left-is source (Some u) beats (D x, earlier, is, control, count, more) = rw (control, is) refl
left-is source (Some u) beats (E x, earlier, is, control, count, more) = rw (control, is) refl

given-is : {w : ℕ} {P : Type 0} (sink : ℕ) (o : Option (Unfinished P)) (beats : List (Beat w)) → IsOf o beats
    → given_by_grant sink beats ≡ of_burst (given_by_control sink) o
given-is sink None beats is = rw is refl
given-is sink (Some u) beats (A x, earlier, is, control, count, more) = rw (control, is) refl
given-is sink (Some u) beats (B x, earlier, is, control, count, more) = rw (control, is) refl
given-is sink (Some u) beats (C x, earlier, is, control, count, more) = rw (control, is) refl
given-is sink (Some u) beats (D x, earlier, is, control, count, more) = rw (control, is) refl
given-is sink (Some u) beats (E x, earlier, is, control, count, more) = rw (control, is) refl

came-early-is : {w : ℕ} (lib : Liberties) (k : LinkState) (x : Beat w) (t : History w) → Keeps lib k t
    → came_early x t ≡ came_early_in x k
came-early-is lib k (A x) t keeps = refl
came-early-is lib k (B x) t keeps = refl
came-early-is lib k (C x) t keeps = refl
came-early-is lib k (D x) t keeps = left-is x.source k.bursts.c (unfinished channel.C t) (keeps.bursts_are channel.C)
came-early-is lib k (E x) t keeps = given-is x.sink k.bursts.d (unfinished channel.D t) (keeps.bursts_are channel.D)

pub came-is : {w : ℕ} (lib : Liberties) (k : LinkState) (x : Beat w) (t : History w) → Keeps lib k t
    → came lib x t ≡ came_in lib x k
came-is lib k x t keeps = ap (λ o. if lib.early then o else None) (came-early-is lib k x t keeps)

-- ---- all of it

pub keeps-more : {w : ℕ} (lib : Liberties) (l : Level) (old new : LinkState) (x : Beat w) (t : History w) → IsWidth w
    → Keeps lib old t → broken_after_under lib l x t ≡ None → IsNext lib old x new → Keeps lib new (x ∷ t)
keeps-more {w} lib l old new x t width keeps legal next =
    let first = begins-is old x t keeps in
    let last = ends-is lib l old x t width keeps legal in
    let block = touched (is_first x old) (link_state.completes x old) x old in
    let blocks : (b : ℕ) → known_in new.blocks b ≡ kept_block lib b (x ∷ t) = λ b.
    next.blocks_are b ∙ ap (λ c. if is_block b block then block_next lib (is_first x old) (link_state.completes x old)
    (came_in lib x old) x c else c) (keeps.blocks_are b)
    ∙ sym (same_touched lib l old x t b (is_first x old) (link_state.completes x old) (came_in lib x old) keeps legal)
    ∙ sym (block-next lib b x t ∙ ap (λ o. if bears_on b x t then block_next lib (begins x t) (ends x t) o x
    (kept_block lib b t) else kept_block lib b t) (came-is lib old x t keeps)
    ∙ ap₂ (λ f g. if bears_on b x t then block_next lib f g (came_in lib x old) x (kept_block lib b t) else kept_block
    lib b t) first last) in
    record {
      bursts_are = λ ch. rw (next.bursts_are ch) (bursts-next ch x tt t (burst_on old.bursts ch) width
          (keeps.bursts_are ch) (continues lib l x t legal));
      requests_are = λ s. next.requests_are s ∙ ap (request_next (is_first x old) (link_state.completes x old) x s)
          (keeps.requests_are s)
          ∙ sym (request-next s x t ∙ ap₂ (λ f g. request_next f g x s (kept_request s t)) first last);
      releases_are = λ s. next.releases_are s ∙ ap (release_next (is_first x old) (link_state.completes x old) x s)
          (keeps.releases_are s)
          ∙ sym (release-next s x t ∙ ap₂ (λ f g. release_next f g x s (kept_release s t)) first last);
      sinks_are = λ s. ap is_some (next.sinks_are s)
          ∙ sink-with (is_first x old) (link_state.completes x old) x block s (at old.sinks s)
          (λ y is f g. grant_block lib l old x y t keeps legal is f g)
          ∙ ap (sink_next (is_first x old) (link_state.completes x old) x s) (keeps.sinks_are s)
          ∙ sym (sink-next s x t ∙ ap₂ (λ f g. sink_next f g x s (pending (GrantSink s) t)) first last);
      blocks_are = blocks;
      granted = λ b s e. next.sinks_are s ∙ grants-next lib (came_in lib x old) (is_first x old) (link_state.completes x old) x b s
          (known_in old.blocks b) block (at old.sinks s) (sink_of x)
          (λ y is f g. (free x y legal is f g, λ its. sym (ap (at old.sinks) its) ∙ ap sink_of (sym is)))
          (λ y is its. ap (λ z. touched (is_first x old) (link_state.completes x old) z old) is ∙ ap (at old.sinks) its)
          (λ n e its. keeps.granted b s (sym (ap (λ c. c.grant) (keeps.blocks_are b)) ∙ e ∙ ap Some its))
          (ap (λ c. c.grant) (sym (next.blocks_are b) ∙ blocks b) ∙ e);
      answering = answering-next lib l old x t keeps legal;
    }
  where
    sink_of : Beat w → Option ℕ
    sink_of (D y) = at old.sinks y.sink
    sink_of _ = None

    not_some : (o : Option ℕ) → is_some o ≡ false → o ≡ None
    not_some None e = refl
    not_some (Some n) e = absurd cc

    grant_block : (lib : Liberties) (l : Level) (k : LinkState) (x : Beat w) (y : BeatD w) (t : History w) → Keeps lib k t
        → broken_after_under lib l x t ≡ None → x ≡ D y → is_first x k ≡ true → is_grant y.opcode ≡ true
        → is_some (touched (is_first x k) (link_state.completes x k) x k) ≡ true
    grant_block lib l k (D z) y t keeps legal is f g =
        let same : z ≡ y = cc in
        let grant : is_grant z.opcode ≡ true = ap (λ (v : BeatD w). is_grant v.opcode) same ∙ g in
        let known = answers lib l k z t (unfinished channel.D t) keeps legal refl in
        let other = not_release_ack z.opcode grant in
        grant_touches (is_first (D z) k) (link_state.completes (D z) k) z k f grant other
        (ap is_some (keeps.requests_are z.source) ∙ known.request other)
    grant_block lib l k (A z) y t keeps legal is f g = absurd cc
    grant_block lib l k (B z) y t keeps legal is f g = absurd cc
    grant_block lib l k (C z) y t keeps legal is f g = absurd cc
    grant_block lib l k (E z) y t keeps legal is f g = absurd cc

    free : (x : Beat w) (y : BeatD w) → broken_after_under lib l x t ≡ None → x ≡ D y → is_first x old ≡ true
        → is_grant y.opcode ≡ true → sink_of x ≡ None
    free (D z) y legal is f g =
        let same : z ≡ y = cc in
        let grant : is_grant z.opcode ≡ true = ap (λ (v : BeatD w). is_grant v.opcode) same ∙ g in
        not_some (at old.sinks z.sink)
        (keeps.sinks_are z.sink ∙ sink-free lib l z t legal (begins-is old (D z) t keeps ∙ f) grant)
    free (A z) y legal is f g = absurd cc
    free (B z) y legal is f g = absurd cc
    free (C z) y legal is f g = absurd cc
    free (E z) y legal is f g = absurd cc

-- ---- none of it

pub keeps-none : {w : ℕ} (lib : Liberties) (k : LinkState) → IsEmpty k → Keeps {w = w} lib k []
unfolding pending held_under unfinished
keeps-none {w} lib k none = record {
  bursts_are = λ ch. rw (none.no_burst ch) refl;
  requests_are = none.no_request;
  releases_are = none.no_release;
  sinks_are = λ s. ap is_some (none.no_sink s);
  blocks_are = none.no_block;
  granted = λ b s e. absurd (none_some e);
  answering = λ x earlier e. absurd (no_beat e);
}
  where
    none_some : {n : ℕ} → None ≡ Some n → ⊥
    none_some e = cc

    no_beat : {z : Beat w} {zs : List (Beat w)} → [] ≡ z ∷ zs → ⊥
    no_beat e = cc
