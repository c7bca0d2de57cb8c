-- What the links carried, and the manager's histories, after messages were handed out.
use Rattle.std.proofs.Common.{◌≡◌, ℕ, zero, suc, Bool, true, false, ◌&&◌, ◌==◌, List, [], ◌∷◌, ◌++◌, None}
use Rattle.std.proofs.Common.{refl, not, sym, subst}
use Rattle.std.proofs.lemmas.Bool.{and_parts, eqb-true, not-false}
use Rattle.std.specs.Prelude.{if◌then◌else◌, slice_index_or}
use Rattle.tl_beat.specs.declared.beat.Beat.{Beat}
use Rattle.tl_beat.specs.declared.beat.BeatA.{BeatA}
use Rattle.tl_beat.specs.declared.beat.Link.{Link}
use Rattle.tl_beat.specs.declared.channel.Channel.{Channel}
use Rattle.tl_beat.specs.statement.Width.{IsWidth}
use Rattle.tl_burst.specs.declared.message.Message.{Message}
use Rattle.tl_burst.specs.declared.message.MessageB.{MessageB}
use Rattle.tl_burst.specs.declared.message.MessageD.{MessageD}
use Rattle.tl_burst.specs.statement.Burst.{b_beat_of, beat_of, beats_of, begun, d_beat_of}
use Rattle.tl_burst.specs.statement.Messages.{History}
use Rattle.tl_params.specs.declared.config.Config.{Config}
use Rattle.tl_params.specs.declared.key.Key.TheVariants.{RequestSource}
use Rattle.tl_params.specs.declared.param.Grow.TheVariants as grow
use Rattle.tl_params.specs.declared.perm.Perm.{Perm}
use Rattle.tl_params.specs.declared.profile.Profile.{Profile}
use Rattle.tl_params.specs.declared.rule.Rule.TheVariants.{H1, H4, H5}
use Rattle.tl_params.specs.statement.Param.{grow_code}
use Rattle.tl_rules.proofs.Bursts.{next_rule}
use Rattle.tl_rules.specs.statement.Admission.{sent}
use Rattle.tl_rules.specs.statement.Conformance.{Trace, broken_in_order, grows_from, on_link, same_perm}
unfoldable use Rattle.tl_rules.specs.statement.Conformance.{broken_order}
use Rattle.tl_rules.specs.statement.History.{begins, block_at, held, is_acquire, pending}
use Rattle.tl_rules.specs.statement.Liberties.{grows_from_none}
use Rattle.tl_manager.proofs.calls.Reactions.{reaction_handable}
use Rattle.tl_manager.proofs.judging.Judged.{passed}
use Rattle.tl_manager.proofs.messages.Lawful.{IsHandable}
use Rattle.tl_manager.proofs.pending.Handed.{after_sent, other_link, own_link}
use Rattle.tl_manager.proofs.pending.LinkHistories.{other_beat, own_beat}
use Rattle.tl_manager.specs.code.Kept.{Each, IsKept, IsTyped}
use Rattle.tl_manager.specs.statement.End.{End}
use Rattle.tl_manager.specs.statement.Handing.{Handed}
unfoldable use Rattle.tl_manager.specs.statement.Handing.{with_handed}
use Rattle.tl_manager.specs.statement.Offer.{Passes, is_from_client, judged}
unfoldable use Rattle.tl_manager.specs.statement.Offer.{offered}
use Rattle.tl_manager.specs.statement.Reaction.{reaction}
use Rattle.tl_partner.specs.declared.terms.Terms.{Terms}
use Rattle.tl_partner.specs.laws.Carried.{AreAlike, AreAllAlike}
use Rattle.tl_partner.specs.statement.Naming.{all_named, named, plain, probe_source, with_source}
use Rattle.tl_partner.proofs.Apart.{IsBeside}
use Rattle.tl_partner.proofs.Alike.{alike-a, alike-b, alike-c, alike-d, alike-e}

-- ---- messages that are handed out

begun_b : {w : ℕ} {cleaning : List (Beat w)} (terms : Terms) (m n : MessageB w) (i : ℕ) (t e : History w)
    → AreAlike terms cleaning t e → AreAlike terms cleaning (begun (Message.B m) i ++ t) (begun (Message.B n) i ++ e)
begun_b terms m n zero t e a = a
begun_b terms m n (suc i) t e a = alike-b terms (b_beat_of m i) (b_beat_of n i) (begun (Message.B m) i ++ t)
    (begun (Message.B n) i ++ e) (begun_b terms m n i t e a)

begun_d : {w : ℕ} {cleaning : List (Beat w)} (terms : Terms) (m : MessageD w) (i : ℕ) (t e : History w)
    → AreAlike terms cleaning t e → AreAlike terms cleaning (begun (Message.D m) i ++ t) (begun (Message.D m) i ++ e)
begun_d terms m zero t e a = a
begun_d terms m (suc i) t e a = alike-d terms (d_beat_of m i) (begun (Message.D m) i ++ t)
    (begun (Message.D m) i ++ e) (begun_d terms m i t e a)

sent-alike : {w : ℕ} {cleaning : List (Beat w)} (terms : Terms) (link : Link) (m : Message w) (t e : History w)
    → is_from_client (beat_of m 0) ≡ false → AreAlike terms cleaning t e
    → AreAlike terms cleaning (sent (named terms link m) t) (sent m e)
sent-alike {w} {cleaning} terms link (Message.B m) t e ours a = go terms.ids
  where
    go : (b : Bool) → AreAlike terms cleaning (sent (if b then Message.B (with_source (probe_source terms link.0) m) else
        Message.B m) t) (sent (Message.B m) e)
    go true = begun_b terms (with_source (probe_source terms link.0) m) m (beats_of (Message.B m)) t e a
    go false = begun_b terms m m (beats_of (Message.B m)) t e a
sent-alike terms link (Message.D m) t e ours a = begun_d terms m (beats_of (Message.D m)) t e a
sent-alike terms link v t e ours a = absurd cc

pub one-sent : {w : ℕ} (cleanings : List (List (Beat w))) (terms : Terms) (link : Link) (m : Message w) (t e : Trace w)
    → is_from_client (beat_of m 0) ≡ false → AreAllAlike terms cleanings t e
    → AreAllAlike terms cleanings (after_sent link (named terms link m) t) (after_sent link m e)
one-sent {w} cleanings terms link m t e ours carried = λ client. go client (link.0 == client) refl
  where
    go : (client : ℕ) (b : Bool) → (link.0 == client) ≡ b
        → AreAlike terms (slice_index_or cleanings client []) (on_link client (after_sent link (named terms link m) t))
        (on_link client (after_sent link m e))
    go client true at = rw (own_link client link (named terms link m) t at, own_link client link m e at)
        (sent-alike terms link m (on_link client t) (on_link client e) ours (carried client))
    go client false at = rw (other_link client link (named terms link m) t at, other_link client link m e at)
        (carried client)

pub handed-alike : {w : ℕ} (cleanings : List (List (Beat w))) (terms : Terms) (config : Config) (handed : Handed w)
    (t e : Trace w) → Each (IsHandable config) handed → AreAllAlike terms cleanings t e
    → AreAllAlike terms cleanings (with_handed (all_named terms handed) t) (with_handed handed e)
unfolding with_handed
handed-alike cleanings terms config [] t e each carried = carried
handed-alike cleanings terms config (x ∷ handed) t e each carried =
    handed-alike cleanings terms config handed (after_sent x.0 (named terms x.0 x.1) t) (after_sent x.0 x.1 e) each.1
    (one-sent cleanings terms x.0 x.1 t e each.0.ours carried)

-- ---- a beat that is taken

-- one that passes is one more beat of its link, and what is handed out for it
pub passed-alike : {w : ℕ} (cleanings : List (List (Beat w))) (terms : Terms) (config : Config) (link : Link) (ch : Channel) (x y : Beat w) (t : Trace w)
    (e : End w) → IsWidth w → IsTyped y → IsKept config e → judged config link ch y e ≡ Passes
    → AreAllAlike terms cleanings ((link, x) ∷ t) ((link, y) ∷ e.trace)
    → AreAllAlike terms cleanings (with_handed (all_named terms (reaction config link y e).handed) ((link, x) ∷ t))
    (offered config link ch y e).1.trace
unfolding offered
passed-alike cleanings terms config link ch x y t e width typed kept passes carried =
    rw passes (handed-alike cleanings terms config (reaction config link y e).handed ((link, x) ∷ t) ((link, y) ∷ e.trace)
    (reaction_handable config link y e width (passed config link ch y e typed passes).sound kept.sound) carried)

-- what an Acquire from nothing held that passes grows from
none_held : (b : Bool) (p : Perm) → not b ≡ true
    → (if b then not (same_perm p Perm.Trunk) else same_perm p Perm.None) ≡ true → p ≡ Perm.None
none_held true p e f = absurd cc
none_held false Perm.None e f = refl
none_held false Perm.Branch e f = absurd cc
none_held false Perm.Trunk e f = absurd cc

grown-none : {w : ℕ} (p : Profile) (x : BeatA w) (h : History w) → broken_in_order p (Beat.A x) h ≡ None
    → (begins (Beat.A x) h && (is_acquire x.opcode && grows_from_none x.param)) ≡ true
    → held (block_at x.address) h ≡ Perm.None
unfolding broken_order
grown-none p x h order says =
    let begun = and_parts (begins (Beat.A x) h) (is_acquire x.opcode && grows_from_none x.param) says in
    let none = and_parts (is_acquire x.opcode) (grows_from_none x.param) begun.1 in
    let rules = rw (begun.0, none.0) at order in
    let one = next_rule (pending (RequestSource x.source) h) H1 _ rules in
    let two = next_rule _ H4 _ one.1 in
    let three = next_rule (not (grows_from x.param (held (block_at x.address) h))) H5 None two.1 in
    none_held (x.param == grow_code grow.BtoT) (held (block_at x.address) h) none.1
    (not-false (grows_from x.param (held (block_at x.address) h)) three.0)

own-alike : {w : ℕ} {cleaning : List (Beat w)} (terms : Terms) (p : Profile) (x : Beat w) (t e : History w)
    → is_from_client (plain terms x) ≡ true → broken_in_order p (plain terms x) e ≡ None → IsBeside x cleaning
    → AreAlike terms cleaning t e → AreAlike terms cleaning (x ∷ t) (plain terms x ∷ e)
own-alike terms p (Beat.A x) t e theirs order apart a = alike-a terms x t e a (grown-none p x e order)
own-alike terms p (Beat.B x) t e theirs order apart a = absurd cc
own-alike {w} {cleaning} terms p (Beat.C x) t e theirs order apart a =
    subst (λ (c : List (Beat w)). AreAlike terms c (Beat.C x ∷ t) (plain terms (Beat.C x) ∷ e)) (sym apart)
    (alike-c terms x t e (subst (λ (c : List (Beat w)). AreAlike terms c t e) apart a))
own-alike terms p (Beat.D x) t e theirs order apart a = absurd cc
own-alike terms p (Beat.E x) t e theirs order apart a = alike-e terms x t e a

pub beat-alike : {w : ℕ} (cleanings : List (List (Beat w))) (terms : Terms) (link : Link) (x y : Beat w) (t e : Trace w)
    → AreAllAlike terms cleanings t e
    → AreAlike terms (slice_index_or cleanings link.0 []) (x ∷ on_link link.0 t) (y ∷ on_link link.0 e)
    → AreAllAlike terms cleanings ((link, x) ∷ t) ((link, y) ∷ e)
beat-alike {w} cleanings terms link x y t e carried own = λ client. go client (link.0 == client) refl
  where
    go : (client : ℕ) (b : Bool) → (link.0 == client) ≡ b
        → AreAlike terms (slice_index_or cleanings client []) (on_link client ((link, x) ∷ t))
        (on_link client ((link, y) ∷ e))
    go client true at = rw (own_beat client link x t at, own_beat client link y e at)
        (subst (λ (n : ℕ). AreAlike terms (slice_index_or cleanings n []) (x ∷ on_link n t) (y ∷ on_link n e))
        (eqb-true link.0 client at) own)
    go client false at = rw (other_beat client link x t at, other_beat client link y e at) (carried client)

pub taken-alike : {w : ℕ} (cleanings : List (List (Beat w))) (terms : Terms) (config : Config) (link : Link)
    (ch : Channel) (x : Beat w) (t : Trace w) (e : End w) → IsTyped (plain terms x)
    → judged config link ch (plain terms x) e ≡ Passes → IsBeside x (slice_index_or cleanings link.0 [])
    → AreAllAlike terms cleanings t e.trace
    → AreAllAlike terms cleanings ((link, x) ∷ t) ((link, plain terms x) ∷ e.trace)
taken-alike cleanings terms config link ch x t e typed passes apart carried =
    let ok = passed config link ch (plain terms x) e typed passes in
    beat-alike cleanings terms link x (plain terms x) t e.trace carried
    (own-alike terms config.profile x (on_link link.0 t) (on_link link.0 e.trace) ok.theirs ok.order apart
    (carried link.0))
