-- One more beat of a client on its link: what is pending, and which Releases are answered.
use Rattle.std.proofs.Common.{◌≡◌, ℕ, ◌+◌, ◌==◌, Bool, true, false, ◌&&◌, List, [], ◌∷◌, length, map}
use Rattle.std.proofs.Common.{refl, ap, sym, ◌∙◌}
use Rattle.std.proofs.lemmas.Bool.{not-false}
use Rattle.std.proofs.lemmas.List.{length-map}
use Rattle.std.specs.Prelude.{if◌then◌else◌}
use Rattle.tl_beat.specs.declared.beat.Beat.{Beat}
use Rattle.tl_beat.specs.declared.beat.BeatC.{BeatC}
use Rattle.tl_beat.specs.declared.beat.Link.{Link}
use Rattle.tl_beat.specs.declared.channel.Channel.{Channel}
use Rattle.tl_burst.specs.statement.Messages.{History, breaks_burst, burst_length, same_control}
unfoldable use Rattle.tl_burst.specs.statement.Messages.{unfinished}
use Rattle.tl_rules.specs.statement.History.{ends, is_probe_ack, is_release}
use Rattle.tl_manager.proofs.pending.Releases.{answered-a, answered-e, first_carried}
use Rattle.tl_manager.proofs.pending.Releases.{next_carried, no_release, not_last}
use Rattle.tl_manager.proofs.pending.Releases.{IsCarried as IsBegunC}
use Rattle.tl_manager.specs.code.Releases.{IsAnswered}
use Rattle.tl_manager.specs.statement.Offer.{is_from_client}
use Rattle.tl_partner.specs.declared.terms.Terms.{Terms}
use Rattle.tl_partner.specs.laws.Carried.{ArePendingAlike}
use Rattle.tl_partner.specs.laws.Carried.{is_newest_misnamed}
use Rattle.tl_partner.specs.statement.Naming.{from_zero, is_misnamed, plain}
use Rattle.tl_partner.proofs.Pendings.{pending-a, pending-c, pending-e}

-- ---- a beat of a client, on its own link

-- what is known of the beat and of the two histories before it
pub record IsNext {w : ℕ} (terms : Terms) (link : Link) (x : Beat w) (t e : History w) : Type 0 where
  pub theirs : is_from_client x ≡ true
  pub right : is_misnamed terms link x ≡ false
  pub requests : unfinished Channel.A t ≡ unfinished Channel.A e
  pub reports : (y : BeatC w) → x ≡ Beat.C y → map (plain terms) (unfinished Channel.C t) ≡ unfinished Channel.C e
  pub goes_on : (y : BeatC w) → x ≡ Beat.C y → breaks_burst x (unfinished Channel.C t) ≡ false
  pub pendings : ArePendingAlike terms link.0 t e
  pub answered : IsAnswered t

pub newest-named : {w : ℕ} (terms : Terms) (link : Link) (x : BeatC w) (t : History w)
    → is_misnamed terms link (Beat.C x) ≡ false
    → is_newest_misnamed terms link.0 (unfinished Channel.C (Beat.C x ∷ t)) ≡ false
unfolding unfinished
newest-named {w} terms link x t right = go (length (unfinished Channel.C t) + 1 == burst_length (Beat.C x))
  where
    go : (b : Bool) → is_newest_misnamed terms link.0 (if b then [] else Beat.C x ∷ unfinished Channel.C t) ≡ false
    go true = refl
    go false = right

pub next-pending : {w : ℕ} (terms : Terms) (link : Link) (x : Beat w) (t e : History w) → IsNext terms link x t e
    → ArePendingAlike terms link.0 (x ∷ t) (plain terms x ∷ e)
next-pending terms link (Beat.A x) t e is = pending-a terms link.0 x t e is.requests is.pendings
next-pending terms link (Beat.B x) t e is = absurd (let no = is.theirs in cc)
next-pending {w} terms link (Beat.C x) t e is = go (terms.ids && is_probe_ack x.opcode)
  where
    long : length (unfinished Channel.C t) ≡ length (unfinished Channel.C e)
    long = sym (length-map (unfinished Channel.C t) (plain terms)) ∙ ap length (is.reports x refl)

    go : (b : Bool) → ArePendingAlike terms link.0 (Beat.C x ∷ t) ((if b then Beat.C (from_zero x) else Beat.C x) ∷ e)
    go true = pending-c terms link.0 x (from_zero x) t e
        (ap (λ n. n + 1 == burst_length (Beat.C x)) long) refl refl (newest-named terms link x t is.right) is.pendings
    go false = pending-c terms link.0 x x t e
        (ap (λ n. n + 1 == burst_length (Beat.C x)) long) refl refl (newest-named terms link x t is.right) is.pendings
next-pending terms link (Beat.D x) t e is = absurd (let no = is.theirs in cc)
next-pending terms link (Beat.E x) t e is = pending-e terms link.0 x t e is.pendings

pub begun-c : {w : ℕ} (x : BeatC w) (t : History w) → IsAnswered t → breaks_burst (Beat.C x) (unfinished Channel.C t) ≡ false
    → IsBegunC x t
begun-c {w} x t done goes = go (unfinished Channel.C t) refl
  where
    go : (u : List (Beat w)) → unfinished Channel.C t ≡ u → IsBegunC x t
    go [] same = first_carried x t done same
    go (Beat.A y ∷ u) same = absurd (let no = rw same at goes in cc)
    go (Beat.B y ∷ u) same = absurd (let no = rw same at goes in cc)
    go (Beat.C y ∷ u) same = next_carried x y u t done same
        (not-false (same_control (Beat.C x) (Beat.C y)) (rw same at goes))
    go (Beat.D y ∷ u) same = absurd (let no = rw same at goes in cc)
    go (Beat.E y ∷ u) same = absurd (let no = rw same at goes in cc)

pub grows : {w : ℕ} (x : BeatC w) (t : History w) (b : Bool) → ends (Beat.C x) t ≡ b
    → unfinished Channel.C (Beat.C x ∷ t) ≡ (if b then [] else Beat.C x ∷ unfinished Channel.C t)
unfolding unfinished
grows x t b e = rw e refl

-- one that doesn't complete a Release
pub next-answered : {w : ℕ} (terms : Terms) (link : Link) (x : Beat w) (t e : History w) → IsNext terms link x t e
    → ((y : BeatC w) → x ≡ Beat.C y → (ends x t && is_release y.opcode) ≡ false) → IsAnswered (x ∷ t)
next-answered terms link (Beat.A x) t e is other = answered-a x t is.answered
next-answered terms link (Beat.B x) t e is other = absurd (let no = is.theirs in cc)
next-answered {w} terms link (Beat.C x) t e is other = go (ends (Beat.C x) t) refl
  where
    begun : IsBegunC x t
    begun = begun-c x t is.answered (is.goes_on x refl)

    go : (b : Bool) → ends (Beat.C x) t ≡ b → IsAnswered (Beat.C x ∷ t)
    go true last = no_release x t begun (grows x t true last) (rw last at (other x refl))
    go false part = not_last x t begun (grows x t false part)
next-answered terms link (Beat.D x) t e is other = absurd (let no = is.theirs in cc)
next-answered terms link (Beat.E x) t e is other = answered-e x t is.answered
