-- What is known of a beat that breaks no rule.
use Rattle.std.proofs.Common.{◌≡◌, ℕ, Bool, true, false, ◌&&◌, refl, sym, ◌∙◌}
use Rattle.std.specs.Prelude.{if◌then◌else◌, [], ◌∷◌, not, ◌==◌, List, Option, Some, None, is_some}
use Rattle.std.proofs.lemmas.Bool.{not-false}
use Rattle.tl_beat.specs.declared.beat.Beat.{Beat}
use Rattle.tl_beat.specs.declared.beat.Beat.TheVariants.{D}
use Rattle.tl_beat.specs.declared.beat.BeatD.{BeatD}
use Rattle.tl_beat.specs.declared.channel.Channel.TheVariants as channel
use Rattle.tl_beat.specs.statement.First.{first_if}
use Rattle.tl_burst.specs.statement.Messages.{History, channel_of, unfinished, breaks_burst}
use Rattle.tl_burst.specs.statement.Part.{is_empty}
use Rattle.tl_params.specs.declared.key.Key.TheVariants.{RequestSource, ReleaseSource, GrantSink}
use Rattle.tl_params.specs.declared.level.Level.{Level}
use Rattle.tl_params.specs.declared.liberties.Liberties.{Liberties}
use Rattle.tl_params.specs.declared.rule.Rule.{Rule}
use Rattle.tl_params.specs.declared.rule.Rule.TheVariants.{S1, H2, H3, H6, H7}
use Rattle.tl_rules.specs.statement.History.{begins, pending, request_of, is_release_ack, is_grant}
use Rattle.tl_rules.specs.statement.Conformance.{admits, comes_in_release, comes_in_request, size_asked}
use Rattle.tl_rules.specs.statement.Liberties.{broken_after_under, broken_d_under, broken_given_under}
use Rattle.tl_rules.specs.statement.Liberties.{broken_in_order_under, broken_order_under, has_request_under, illegal_under}
use Rattle.tl_rules.specs.statement.Liberties.{misgrants_under}
use Rattle.tl_rules.specs.code.Tables.{kept_request, kept_release}
use Rattle.tl_rules.proofs.Bursts.{next_rule}
use Rattle.tl_rules.proofs.Tables.{pending-request, pending-release}

given : {w : ℕ} (lib : Liberties) (o : Option Rule) (x : Beat w) (t : History w) → broken_given_under lib o x t ≡ None
    → broken_in_order_under lib x t ≡ None
given lib None x t e = e
given lib (Some r) x t e = absurd cc

pub in-order : {w : ℕ} (lib : Liberties) (l : Level) (x : Beat w) (t : History w) → broken_after_under lib l x t ≡ None
    → broken_in_order_under lib x t ≡ None
unfolding broken_after_under
in-order lib l x t e = given lib (illegal_under lib l (channel_of x) x) x t e

kept_burst : {w : ℕ} (x : Beat w) (beats : List (Beat w)) (rest : Option Rule)
    → (if is_empty beats then rest else first_if (breaks_burst x beats) S1 None) ≡ None → breaks_burst x beats ≡ false
kept_burst x [] rest e = refl
kept_burst x (y ∷ ys) rest e = (next_rule (breaks_burst x (y ∷ ys)) S1 None e).0

-- it continues the burst that is unfinished
pub continues : {w : ℕ} (lib : Liberties) (l : Level) (x : Beat w) (t : History w) → broken_after_under lib l x t ≡ None
    → breaks_burst x (unfinished (channel_of x) t) ≡ false
continues lib l x t e = kept_burst x (unfinished (channel_of x) t) (broken_order_under lib x t) (in-order lib l x t e)

first_of : (b : Bool) (o rest : Option Rule) → b ≡ true → (if b then o else rest) ≡ None → o ≡ None
first_of true o rest e h = h
first_of false o rest e h = absurd cc

and-left : (a b : Bool) → (a && b) ≡ true → a ≡ true
and-left true b e = refl
and-left false b e = absurd cc

order_d : {w : ℕ} (lib : Liberties) (x : BeatD w) (t : History w) → broken_order_under lib (D x) t ≡ None → broken_d_under lib x t ≡ None
unfolding broken_order_under
order_d lib x t e = e

begun_d : {w : ℕ} (lib : Liberties) (l : Level) (x : BeatD w) (t : History w) → broken_after_under lib l (D x) t ≡ None
    → begins (D x) t ≡ true → broken_d_under lib x t ≡ None
begun_d lib l x t e first = order_d lib x t (first_of (begins (D x) t) _ _ first (in-order lib l (D x) t e))

asked : {w : ℕ} (lib : Liberties) (l : Level) (x : BeatD w) (t : History w) → broken_after_under lib l (D x) t ≡ None
    → begins (D x) t ≡ true → has_request_under lib x t ≡ true
asked lib l x t e first = not-false (has_request_under lib x t) (next_rule (not (has_request_under lib x t)) H2 _ (begun_d lib l x t e first)).0

-- an answer that begins answers what is pending
pub answers_request : {w : ℕ} (lib : Liberties) (l : Level) (x : BeatD w) (t : History w) → broken_after_under lib l (D x) t ≡ None
    → begins (D x) t ≡ true → is_release_ack x.opcode ≡ false
    → is_some (kept_request x.source t) ≡ true
answers_request {w} lib l x t e first other =
    let a = asked lib l x t e first in
    let h : (pending (RequestSource x.source) t && (not (not lib.early && comes_in_request x.source (unfinished channel.A t)) && admits
    x.opcode (request_of x.source t))) ≡ true = rw other at a in
    sym (pending-request x.source t) ∙ and-left (pending (RequestSource x.source) t) _ h

pub answers_release : {w : ℕ} (lib : Liberties) (l : Level) (x : BeatD w) (t : History w) → broken_after_under lib l (D x) t ≡ None
    → begins (D x) t ≡ true → is_release_ack x.opcode ≡ true
    → is_some (kept_release x.source t) ≡ true
answers_release {w} lib l x t e first ack =
    let a = asked lib l x t e first in
    let h : (pending (ReleaseSource x.source) t && not (not lib.early && comes_in_release x.source (unfinished channel.C t))) ≡ true =
    rw ack at a in
    sym (pending-release x.source t) ∙ and-left (pending (ReleaseSource x.source) t) _ h

-- the sink of a Grant that begins isn't pending
pub sink-free : {w : ℕ} (lib : Liberties) (l : Level) (x : BeatD w) (t : History w) → broken_after_under lib l (D x) t ≡ None
    → begins (D x) t ≡ true → is_grant x.opcode ≡ true
    → pending (GrantSink x.sink) t ≡ false
sink-free lib l x t e first grant =
    let two = next_rule (not (has_request_under lib x t)) H2 _ (begun_d lib l x t e first) in
    let three = next_rule (not (x.size == size_asked x t)) H3 _ two.1 in
    let six = next_rule (is_grant x.opcode && misgrants_under lib x (request_of x.source t) t) H6 _ three.1 in
    let seven = next_rule (is_grant x.opcode && pending (GrantSink x.sink) t) H7 None six.1 in
    sym (rw grant refl) ∙ seven.0
