-- Beats other than requests that bear on another block leave what is kept of this one.
use Rattle.tl_memory.proofs.Imports.{Beat, BeatC, BeatD, Link, c_carries_data, Trace, on_link, block_at, ends, Access}
use Rattle.tl_memory.proofs.Imports.{ends_request, is_of, pending_accesses, tells, IsElsewhere, LeavesHeld, PassesBy}
use Rattle.tl_memory.proofs.Imports.{WritesNot, AllWriteInside, all_liberties, is_grant, is_release_ack, is_to, OpD}
use Rattle.tl_memory.proofs.Imports.{unfinished}
use Rattle.std.proofs.Common.{◌≡◌, ℕ, Bool, true, false, not, ◌&&◌, ◌||◌, ◌+◌, ◌*◌, ◌/◌, ◌<◌, List, [], ◌∷◌, refl, sym}
use Rattle.std.proofs.Common.{◌∙◌, inl, inr}
use Rattle.std.specs.Prelude.{if◌then◌else◌, filter, find, ◌==◌, Option, Some, None}
use Rattle.std.proofs.lemmas.Bool.{cases_Bool, eq-eqb}
use Rattle.tl_beat.{specs.declared.beat.BeatB.BeatB, specs.declared.beat.BeatE.BeatE}
use Rattle.tl_params.specs.declared.perm.Perm.{Perm}
use Rattle.tl_beat.specs.declared.channel.Channel.{Channel}
use Rattle.tl_params.specs.declared.key.Key.TheVariants.{ReleaseOf}
use Rattle.tl_rules.specs.statement.Conformance.{comes_in_grant, comes_in_release}
use Rattle.tl_rules.specs.statement.History.{capped, grants, is_probe_ack, is_release, releases}
unfoldable use Rattle.tl_rules.specs.statement.History.{release_of}
use Rattle.tl_rules.specs.statement.Liberties.{acknowledges, given_by_grant, is_answered, left_by_release}
use Rattle.tl_bytes.specs.statement.Bytes.{all_but, leaves_pending}
use Rattle.tl_memory.{specs.code.Elsewhere.NoneIsTo, proofs.states.Keeping.inside-kept, proofs.values.Writing.apart}
use Rattle.tl_memory.proofs.states.Elsewhere.{held-kept}
use Rattle.tl_bytes.specs.statement.Early.{is_release_of, is_released, outruns, settled_by}
use Rattle.tl_memory.specs.statement.Known.{AllReachInside, AreInside}
unfoldable use Rattle.tl_bytes.specs.statement.Early.{outrun_accesses}
use Rattle.tl_memory.proofs.states.Leaving.{none-gone, leaves-still, leaves-probe, leaves-report, leaves-ack}
use Rattle.tl_memory.proofs.states.Leaving.{leaves-response, SettlesElsewhere, settles-none}

pub probe-passes : {w : ℕ} (block : ℕ) (link : Link) (y : BeatB w) (t : Trace w) → AreInside t
    → PassesBy block (link, Beat.B y) t
unfolding pending_accesses
probe-passes block link y t inside = record {
  elsewhere = record {
    quiet = refl;
    keeps = λ place lt. tt;
    pending_stay = refl;
    inside = inside.inside;
    unsettled = λ place lt. refl;
    outrun = leaves-still block (link, Beat.B y) t (leaves-probe link y t) inside.reach_inside;
  };
  held_is = held-kept block (Beat.B y) (on_link link.0 t) (λ over. refl);
  unshown = refl;
}

-- a GrantAck tells nothing of any block
pub ack-elsewhere : {w : ℕ} (block : ℕ) (link : Link) (y : BeatE) (t : Trace w) → AreInside t
    → IsElsewhere {w = w} block (link, Beat.E y) t
unfolding pending_accesses
ack-elsewhere block link y t inside = record {
  quiet = refl;
  keeps = λ place lt. tt;
  pending_stay = refl;
  inside = inside.inside;
  unsettled = λ place lt. refl;
  outrun = leaves-still block (link, Beat.E y) t (leaves-ack link y t) inside.reach_inside;
}

given-or : (waits : Bool) (o : Option Perm) → (waits ≡ true → o ≡ None) → ◌≡◌ {A = Option Perm} (if waits then o else None) None
given-or true o e = e refl
given-or false o e = refl

-- it gives its link more of a block only if it acknowledges a Grant of that
pub ack-leaves : {w : ℕ} (block : ℕ) (link : Link) (y : BeatE) (t : Trace w)
    → (acknowledges block y.sink (on_link link.0 t) ≡ true
    → given_by_grant y.sink (unfinished Channel.D (on_link link.0 t)) ≡ None) → LeavesHeld {w = w} block (link, Beat.E y) t
unfolding all_liberties
ack-leaves block link y t none = held-kept block (Beat.E y) (on_link link.0 t) (λ over.
    given-or (acknowledges block y.sink (on_link link.0 t)) (given_by_grant y.sink (unfinished Channel.D (on_link link.0 t)))
    none)

pub given-none : {w : ℕ} (sink : ℕ) (burst : List (Beat w)) → comes_in_grant sink burst ≡ false
    → given_by_grant sink burst ≡ None
given-none sink [] e = refl
given-none sink (Beat.A z ∷ rest) e = refl
given-none sink (Beat.B z ∷ rest) e = refl
given-none sink (Beat.C z ∷ rest) e = refl
given-none sink (Beat.D z ∷ rest) e = go (is_grant z.opcode) (z.sink == sink) z.denied e
  where
    go : (grant own denied : Bool) → (grant && own) ≡ false
        → ◌≡◌ {A = Option Perm} (if grant && (own && not denied) then Some (capped z.param) else None) None
    go true true denied e = absurd cc
    go true false denied e = refl
    go false own denied e = refl
given-none sink (Beat.E z ∷ rest) e = refl

pub ack-passes : {w : ℕ} (block : ℕ) (link : Link) (y : BeatE) (t : Trace w) → AreInside t
    → (acknowledges block y.sink (on_link link.0 t) ≡ true
    → given_by_grant y.sink (unfinished Channel.D (on_link link.0 t)) ≡ None) → PassesBy {w = w} block (link, Beat.E y) t
ack-passes block link y t inside none = record {
  elsewhere = ack-elsewhere block link y t inside;
  held_is = ack-leaves block link y t none;
  unshown = refl;
}

-- a beat of channel C that tells nothing of the block
pub report-elsewhere : {w : ℕ} (block : ℕ) (link : Link) (y : BeatC w) (t : Trace w) → AreInside t
    → tells block (Beat.C y) (on_link link.0 t) ≡ false → IsElsewhere block (link, Beat.C y) t
unfolding pending_accesses
report-elsewhere block link y t inside quiet = record {
  quiet = quiet;
  keeps = λ place lt. tt;
  pending_stay = refl;
  inside = inside.inside;
  unsettled = λ place lt. refl;
  outrun = leaves-still block (link, Beat.C y) t (leaves-report link y t) inside.reach_inside;
}

pub none_of_both : (a b : Bool) → b ≡ false → a && b ≡ false
none_of_both true b e = e
none_of_both false b e = refl

pub none_of_three : (a b c : Bool) → c ≡ false → a && (b && c) ≡ false
none_of_three a b c e = none_of_both a (b && c) (none_of_both b c e)

pub silent-or : (answered says : Bool) (o : Option Perm) → says ≡ false
    → ◌≡◌ {A = Option Perm} (if answered then None else if says then o else None) None
silent-or true says o e = refl
silent-or false says o e = rw e refl

report-leaves : {w : ℕ} (block : ℕ) (link : Link) (y : BeatC w) (t : Trace w) → (block_at y.address == block) ≡ false
    → LeavesHeld block (link, Beat.C y) t
unfolding all_liberties
report-leaves block link y t other = held-kept block (Beat.C y) (on_link link.0 t) (λ over.
    silent-or (is_release y.opcode && is_answered (ReleaseOf block) (Beat.C y) (on_link link.0 t))
    ((is_probe_ack y.opcode || is_release y.opcode) && (block_at y.address == block)) _
    (none_of_both (is_probe_ack y.opcode || is_release y.opcode) (block_at y.address == block) other))

-- one that completes data of the block tells what that has, unless it belongs to a Release that is answered
pub report-tells : {w : ℕ} (block : ℕ) (link : Link) (y : BeatC w) (t : Trace w)
    → ends (Beat.C y) (on_link link.0 t) ≡ true → c_carries_data y.opcode ≡ true → block_at y.address ≡ block
    → is_released block (Beat.C y) (on_link link.0 t) ≡ false → tells block (Beat.C y) (on_link link.0 t) ≡ true
report-tells block link y t over carries here waits =
    rw (over, carries, eq-eqb (y.address / 64) block here, waits) refl

-- one that completes none tells nothing
pub report-begun : {w : ℕ} (block : ℕ) (link : Link) (y : BeatC w) (t : Trace w)
    → c_carries_data y.opcode && ends (Beat.C y) (on_link link.0 t) ≡ false
    → tells block (Beat.C y) (on_link link.0 t) ≡ false
report-begun block link y t none =
    turned (c_carries_data y.opcode) (ends (Beat.C y) (on_link link.0 t))
    ((block_at y.address == block) && not (is_released block (Beat.C y) (on_link link.0 t))) none
  where
    turned : (a b c : Bool) → a && b ≡ false → b && (a && c) ≡ false
    turned true true c e = absurd cc
    turned true false c e = refl
    turned false true c e = refl
    turned false false c e = refl

-- nor does one of a Release that is answered
pub report-late : {w : ℕ} (block : ℕ) (link : Link) (y : BeatC w) (t : Trace w)
    → is_released block (Beat.C y) (on_link link.0 t) ≡ true → tells block (Beat.C y) (on_link link.0 t) ≡ false
report-late block link y t answered =
    go (ends (Beat.C y) (on_link link.0 t)) (c_carries_data y.opcode) (block_at y.address == block) _ answered
  where
    go : (a b c d : Bool) → d ≡ true → (a && (b && (c && not d))) ≡ false
    go a b c false e = absurd cc
    go true true true true e = refl
    go true true false true e = refl
    go true false c true e = refl
    go false b c true e = refl

-- a beat of channel C leaves the accesses that are pending
pub report-stays : {w : ℕ} (link : Link) (y : BeatC w) (t : Trace w)
    → pending_accesses ((link, Beat.C y) ∷ t) ≡ pending_accesses t
unfolding pending_accesses
report-stays link y t = refl

-- a beat of channel C for another block
pub report-passes : {w : ℕ} (block : ℕ) (link : Link) (y : BeatC w) (t : Trace w) → AreInside t
    → (block_at y.address == block) ≡ false → PassesBy block (link, Beat.C y) t
report-passes block link y t inside other = record {
  elsewhere = report-elsewhere block link y t inside (none_of_three (ends (Beat.C y) (on_link link.0 t))
      (c_carries_data y.opcode) _ (rw other refl));
  held_is = report-leaves block link y t other;
  unshown = none_of_both (ends (Beat.C y) (on_link link.0 t)) _ (rw other refl);
}

-- ---- responses

found-not : {w : ℕ} (link source block place : ℕ) (accesses : List (Access w)) → place < 64 → AllWriteInside accesses
    → NoneIsTo link source block accesses → WritesNot (64 * block + place) (find (is_of link source) accesses)
found-not link source block place [] lt inside none = tt
found-not link source block place (access ∷ accesses) lt inside none = elim (cases_Bool (is_of link source access)) [
  | inl own ↦ rw own (apart block place access lt inside.0 (none.0 own))
  | inr other ↦ rw other (found-not link source block place accesses lt inside.1 none.1)
]

-- the accesses that are pending with a beat of channel D are so without it
response-inside : {w : ℕ} (c : Bool) (keep : Access w → Bool) (accesses : List (Access w)) → AllWriteInside accesses
    → AllWriteInside (if c then filter keep accesses else accesses)
response-inside true keep accesses inside = inside-kept keep accesses inside
response-inside false keep accesses inside = inside

response-stays : {w : ℕ} (c : Bool) (link source block : ℕ) (accesses : List (Access w))
    → (c ≡ true → NoneIsTo link source block accesses)
    → filter (is_to block) (if c then all_but link source accesses else accesses) ≡ filter (is_to block) accesses
response-stays true link source block accesses none = none-gone link source block accesses (none refl)
response-stays false link source block accesses none = refl

left-by : (a b : Bool) → a ≡ true → (a || b) ≡ true
left-by a b e = rw e refl

-- a beat of channel D that tells nothing of the block, and answers no access to it
pub response-elsewhere : {w : ℕ} (block : ℕ) (link : Link) (y : BeatD w) (t : Trace w)
    → AllWriteInside (pending_accesses t) → tells block (Beat.D y) (on_link link.0 t) ≡ false
    → (leaves_pending y (on_link link.0 t) ≡ true → NoneIsTo link.0 y.source block (pending_accesses t))
    → SettlesElsewhere block (link, Beat.D y) t → IsElsewhere block (link, Beat.D y) t
unfolding pending_accesses
response-elsewhere block link y t inside quiet none settles = record {
  quiet = quiet;
  keeps = λ place lt over. found-not link.0 y.source block place (pending_accesses t) lt inside
      (none (left-by (ends_request y (on_link link.0 t)) (outruns y (on_link link.0 t)) over));
  pending_stay = response-stays (leaves_pending y (on_link link.0 t)) link.0 y.source block (pending_accesses t) none;
  inside = response-inside (leaves_pending y (on_link link.0 t)) (λ access. not (is_of link.0 y.source access))
      (pending_accesses t) inside;
  unsettled = settles.unsettled;
  outrun = settles.outrun;
}

-- what a response says of what its link may hold of a block: nothing, if it grants nothing of it and answers no
-- unfinished Release of it
pub response-leaves : {w : ℕ} (block : ℕ) (link : Link) (y : BeatD w) (t : Trace w)
    → grants block y (on_link link.0 t) ≡ false
    → (is_release_ack y.opcode ≡ true → releases block (release_of y.source (on_link link.0 t)) ≡ true
    → left_by_release y.source (unfinished Channel.C (on_link link.0 t)) ≡ None)
    → LeavesHeld block (link, Beat.D y) t
unfolding all_liberties
response-leaves block link y t other unreleased =
    held-kept block (Beat.D y) (on_link link.0 t) (λ over. rw other (silent y.denied _ (is_release_ack y.opcode)
    (releases block (release_of y.source (on_link link.0 t))) _ unreleased))
  where
    silent : (denied answered ack own : Bool) (o : Option Perm) → (ack ≡ true → own ≡ true → o ≡ None)
        → ◌≡◌ {A = Option Perm} (if denied then None else if answered then None
        else if ack then (if own then o else None) else None) None
    silent true answered ack own o e = refl
    silent false true ack own o e = refl
    silent false false true true o e = e refl refl
    silent false false true false o e = refl
    silent false false false own o e = refl

pub left-none : {w : ℕ} (source : ℕ) (burst : List (Beat w)) → comes_in_release source burst ≡ false
    → left_by_release source burst ≡ None
left-none source [] e = refl
left-none source (Beat.A z ∷ rest) e = refl
left-none source (Beat.B z ∷ rest) e = refl
left-none source (Beat.C z ∷ rest) e = rw e refl
left-none source (Beat.D z ∷ rest) e = refl
left-none source (Beat.E z ∷ rest) e = refl

-- a ReleaseAck is no Grant
pub grants-none : (opcode : OpD) → is_release_ack opcode ≡ true → is_grant opcode ≡ false
grants-none OpD.ReleaseAck e = refl
grants-none v e = absurd cc

-- it settles no access, and leaves those that are pending
pub ack-settles : {w : ℕ} (block : ℕ) (link : Link) (y : BeatD w) (t : Trace w) → AllReachInside (outrun_accesses t)
    → is_release_ack y.opcode ≡ true → SettlesElsewhere block (link, Beat.D y) t
ack-settles block link y t reach ack =
    let none : settled_by link.0 (Beat.D y) (on_link link.0 t) (outrun_accesses t) ≡ None = rw ack refl in
    settles-none block (link, Beat.D y) t none (leaves-response link y t None (rw ack refl) none) reach

-- a ReleaseAck of a block whose Release isn't being sent
pub release-passes : {w : ℕ} (block : ℕ) (link : Link) (y : BeatD w) (t : Trace w) → AreInside t
    → is_release_ack y.opcode ≡ true → is_release_of block y.source (unfinished Channel.C (on_link link.0 t)) ≡ false
    → (releases block (release_of y.source (on_link link.0 t)) ≡ true
    → left_by_release y.source (unfinished Channel.C (on_link link.0 t)) ≡ None) → PassesBy block (link, Beat.D y) t
release-passes block link y t inside ack none unreleased = record {
  elsewhere = response-elsewhere block link y t inside.inside
      (none_of_both (ends (Beat.D y) (on_link link.0 t)) _ (rw (ack, none) refl))
      (λ over. absurd (let never : leaves_pending y (on_link link.0 t) ≡ false = rw ack refl in
      let e : true ≡ false = sym over ∙ never in cc)) (ack-settles block link y t inside.reach_inside ack);
  held_is = response-leaves block link y t (rw (grants-none y.opcode ack) refl) (λ e. unreleased);
  unshown = refl;
}

-- a beat of channel D that isn't a ReleaseAck and answers no request of the block
pub response-passes : {w : ℕ} (block : ℕ) (link : Link) (y : BeatD w) (t : Trace w)
    → AllWriteInside (pending_accesses t) → is_release_ack y.opcode ≡ false → grants block y (on_link link.0 t) ≡ false
    → (leaves_pending y (on_link link.0 t) ≡ true → NoneIsTo link.0 y.source block (pending_accesses t))
    → SettlesElsewhere block (link, Beat.D y) t → PassesBy block (link, Beat.D y) t
response-passes block link y t inside bare other none settles = record {
  elsewhere = response-elsewhere block link y t inside
      (quiet (ends (Beat.D y) (on_link link.0 t)) (grants block y (on_link link.0 t)) _ other) none settles;
  held_is = response-leaves block link y t other (λ ack. absurd (let no : true ≡ false = sym ack ∙ bare in cc));
  unshown = refl;
}
  where
    quiet : (a b c : Bool) → b ≡ false
        → (a && (if is_release_ack y.opcode then is_release_of block y.source (unfinished Channel.C (on_link link.0 t))
        else (b && c))) ≡ false
    quiet true b c e = rw (bare, e) refl
    quiet false b c e = refl

pub report-silent : {w : ℕ} (block : ℕ) (link : Link) (y : BeatC w) (t : Trace w) (answered : Bool)
    → is_released block (Beat.C y) (on_link link.0 t) ≡ answered → (c_carries_data y.opcode && not answered) ≡ false
    → tells block (Beat.C y) (on_link link.0 t) ≡ false
report-silent block link y t true is silent = report-late block link y t is
report-silent block link y t false is silent = report-begun block link y t (bare (c_carries_data y.opcode) _ silent)
  where
    bare : (b c : Bool) → (b && true) ≡ false → (b && c) ≡ false
    bare true c e = absurd cc
    bare false c e = refl
