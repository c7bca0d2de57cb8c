-- What the definitions of the bytes of memory are on links where no answer begins before the message that it answers is
-- complete: those that don't speak of such answers.
use Rattle.tl_bytes.proofs.Imports.{Beat, Link, unfinished, Trace, on_link, Access, pending_accesses}
use Rattle.std.proofs.Common.{◌≡◌, ℕ, suc, Bool, true, false, not, ◌&&◌, ◌||◌, List, [], ◌∷◌, length, refl, ap}
use Rattle.std.specs.Prelude.{if◌then◌else◌, find, None, ◌==◌}
use Rattle.std.proofs.lemmas.Bool.{eqb-true}
use Rattle.tl_beat.specs.declared.beat.{BeatA.BeatA, BeatC.BeatC, BeatD.BeatD}
use Rattle.tl_beat.specs.declared.channel.Channel.{Channel}
use Rattle.tl_beat.specs.declared.opcode.OpD.{OpD}
use Rattle.tl_beat.specs.statement.Opcode.{c_carries_data}
use Rattle.tl_burst.specs.statement.Messages.{History}
use Rattle.tl_params.specs.declared.level.Level.{Level}
use Rattle.tl_params.specs.declared.liberties.Liberties.{Liberties}
use Rattle.tl_rules.specs.statement.Conformance.{comes_in_request}
use Rattle.tl_rules.specs.statement.History.{block_at, ends, grants, is_grant, is_release_ack, request_of}
use Rattle.tl_rules.specs.statement.Liberties.{broken_in_order_under}
use Rattle.tl_forgiving.proofs.Lawful.{AreLawful}
use Rattle.tl_bytes.specs.statement.Bytes.{all_but, asked_by, asked_since, asks, is_of, tells}
use Rattle.tl_bytes.specs.statement.Bytes.{ends_request, is_settled, pending_with, tells_granted}
use Rattle.tl_bytes.specs.statement.Early.{is_overtaken, is_released, reaches_byte, settled_by}
use Rattle.tl_bytes.proofs.OnTime.{AreOnTime, IsOnTime, none-outrun, not-overtaken, not-released, not-released-early}

-- ---- what sets a block's bytes

-- a report or a Grant that is complete
abbrev pub tells_late : {w : ℕ} → ℕ → Beat w → History w → Bool
tells_late block (Beat.C x) past =
    ends (Beat.C x) past && (c_carries_data x.opcode && (block_at x.address == block))
tells_late block (Beat.D x) past =
    ends (Beat.D x) past
    && (grants block x past && (not x.denied && tells_granted x.opcode (request_of x.source past)))
tells_late block _ past = false

module _ {w : ℕ} (l : Liberties) (late : l.early ≡ false) (level : Level) (block : ℕ) (t : History w)
    (lawful : AreLawful l level t) where
  tells-c : (x : BeatC w) → broken_in_order_under l (Beat.C x) t ≡ None
      → tells block (Beat.C x) t ≡ tells_late block (Beat.C x) t
  tells-c x ordered = go (block_at x.address == block) refl
    where
      same : (last carries released : Bool) → released ≡ false
          → (last && (carries && (true && not released))) ≡ (last && (carries && true))
      same last carries released e = rw e refl

      go : (own : Bool) → (block_at x.address == block) ≡ own → tells block (Beat.C x) t ≡ tells_late block (Beat.C x) t
      go false e = rw e refl
      go true e = rw e (same (ends (Beat.C x) t) (c_carries_data x.opcode) (is_released block (Beat.C x) t)
          (not-released l late level block x t lawful ordered (eqb-true (block_at x.address) block e)))

  tells-d : (x : BeatD w) → broken_in_order_under l (Beat.D x) t ≡ None
      → tells block (Beat.D x) t ≡ tells_late block (Beat.D x) t
  tells-d x ordered = go (is_release_ack x.opcode) refl (ends (Beat.D x) t) refl
    where
      ungranted : (o : OpD) → is_release_ack o ≡ true → is_grant o ≡ false
      ungranted OpD.ReleaseAck e = refl
      ungranted v e = absurd cc

      sure : (grant denied told overtaken : Bool) → (grant ≡ true → overtaken ≡ false)
          → (grant && (not denied && (told && not overtaken))) ≡ (grant && (not denied && told))
      sure false denied told overtaken e = refl
      sure true true told overtaken e = refl
      sure true false false overtaken e = refl
      sure true false true overtaken e = rw (e refl) refl

      go : (ack : Bool) → is_release_ack x.opcode ≡ ack → (last : Bool) → ends (Beat.D x) t ≡ last
          → tells block (Beat.D x) t ≡ tells_late block (Beat.D x) t
      go ack a false e = rw e refl
      go true a true e =
          rw (e, a, not-released-early l late block x t ordered a e, ungranted x.opcode a) refl
      go false a true e =
          rw (e, a) (sure (grants block x t) x.denied (tells_granted x.opcode (request_of x.source t))
          (is_overtaken block x t) (not-overtaken l late level block x t lawful ordered))

  pub tells-late : (x : Beat w) → broken_in_order_under l x t ≡ None → tells block x t ≡ tells_late block x t
  tells-late (Beat.A x) ordered = refl
  tells-late (Beat.B x) ordered = refl
  tells-late (Beat.C x) ordered = tells-c x ordered
  tells-late (Beat.D x) ordered = tells-d x ordered
  tells-late (Beat.E x) ordered = refl

-- ---- pending accesses

-- the pending accesses with one more beat
abbrev pub pending_late : {w : ℕ} → ℕ → Beat w → History w → ℕ → List (Access w) → List (Access w)
pending_late link (Beat.A x) past moment before =
    if asks x past
    then asked_by link x (Beat.A x ∷ unfinished Channel.A past) (asked_since (find (is_of link x.source) before) moment)
    ∷ all_but link x.source before
    else before
pending_late link (Beat.D x) past moment before =
    if not (is_release_ack x.opcode) && ends (Beat.D x) past then all_but link x.source before else before
pending_late link _ past moment before = before

pub pending-late : {w : ℕ} (x : Link × Beat w) (t : Trace w) → AreOnTime (x ∷ t)
    → pending_accesses (x ∷ t)
    ≡ pending_late x.0.0 x.1 (on_link x.0.0 t) (suc (length t)) (pending_accesses t)
unfolding pending_accesses
pending-late {w} x t late = rw (none-outrun t late.1) (go x.1 late.0)
  where
    past : History w
    past = on_link x.0.0 t

    always : {X : Type 0} (b : Bool) (one other : X) → (if b && true then one else other) ≡ (if b then one else other)
    always true one other = refl
    always false one other = refl

    on_time : {X : Type 0} (ack last comes : Bool) (one other : X) → (not ack && comes) ≡ false
        → (if (((not ack && last) && not comes) || (not ack && comes)) then one else other)
        ≡ (if not ack && last then one else other)
    on_time true last comes one other e = refl
    on_time false true false one other e = refl
    on_time false false false one other e = refl
    on_time false last true one other e = absurd cc

    go : (b : Beat w) → IsOnTime b past
        → pending_with x.0.0 b past (suc (length t)) [] (pending_accesses t)
        ≡ pending_late x.0.0 b past (suc (length t)) (pending_accesses t)
    go (Beat.A y) e = always (asks y past) _ _
    go (Beat.D y) e = on_time (is_release_ack y.opcode) (ends (Beat.D y) past)
        (comes_in_request y.source (unfinished Channel.A past)) _ _ e
    go (Beat.B y) e = refl
    go (Beat.C y) e = refl
    go (Beat.E y) e = refl

-- ---- possible values

-- no access is complete whose answer outran its request
pub settles-none : {w : ℕ} (address : ℕ) (x : Link × Beat w) (t : Trace w) → AreOnTime t → is_settled address x t ≡ false
settles-none {w} address x t late = rw (none-outrun t late) (go x.1)
  where
    either : {X : Type 0} (b : Bool) (o : X) → (if b then o else o) ≡ o
    either true o = refl
    either false o = refl

    go : (b : Beat w) → reaches_byte address (settled_by x.0.0 b (on_link x.0.0 t) []) ≡ false
    go (Beat.A y) = ap (reaches_byte address) (either (ends (Beat.A y) (on_link x.0.0 t)) None)
    go (Beat.D y) = ap (reaches_byte address) (either (ends_request y (on_link x.0.0 t)) None)
    go (Beat.B y) = refl
    go (Beat.C y) = refl
    go (Beat.E y) = refl
