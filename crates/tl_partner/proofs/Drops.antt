-- What is known of a beat that says that nothing is held, where its client is recorded with a copy.
use Rattle.std.proofs.Common.{◌≡◌, ℕ, Bool, true, false, ◌&&◌, ◌||◌, ◌==◌, Option, Some, None, refl, ◌∙◌, not}
use Rattle.std.specs.Prelude.{if◌then◌else◌}
use Rattle.std.proofs.lemmas.Bool.{and_parts, not-false, not-true, or_parts}
use Rattle.tl_beat.specs.declared.beat.Beat.{Beat}
use Rattle.tl_beat.specs.declared.beat.BeatA.{BeatA}
use Rattle.tl_beat.specs.declared.beat.BeatB.{BeatB}
use Rattle.tl_beat.specs.declared.beat.BeatC.{BeatC}
use Rattle.tl_beat.specs.declared.beat.Link.{Link}
use Rattle.tl_beat.specs.declared.channel.Channel.{Channel}
use Rattle.tl_beat.specs.statement.First.{first_if}
use Rattle.tl_burst.specs.statement.Messages.{History, breaks_burst, channel_of, unfinished}
use Rattle.tl_params.specs.declared.config.Config.{Config}
use Rattle.tl_params.specs.declared.key.Key.TheVariants.{AcquireOf, ProbeOf, ReleaseOf, RequestSource}
use Rattle.tl_params.specs.declared.level.Level.{Level}
use Rattle.tl_params.specs.declared.param.Cap.{Cap}
use Rattle.tl_params.specs.declared.param.Grow.TheVariants as grow
use Rattle.tl_params.specs.declared.perm.Perm.{Perm}
use Rattle.tl_params.specs.declared.profile.Profile.{Profile}
use Rattle.tl_params.specs.declared.rule.Rule.{Rule}
use Rattle.tl_params.specs.declared.rule.Rule.TheVariants.{A1, A2, H1, H4, H5, H10, H11, H12, L1, L2, L3, L4, L5, L6, L7, S1}
use Rattle.tl_params.specs.statement.Param.{grow_code}
use Rattle.tl_rules.specs.statement.Admission.{is_outside, is_spoiled}
use Rattle.tl_rules.specs.statement.Conformance.{answers_wrong_probe, broken_in_order, grows_from, misreports, on_link}
use Rattle.tl_rules.specs.statement.Conformance.{same_perm}
unfoldable use Rattle.tl_rules.specs.statement.Conformance.{broken_order}
use Rattle.tl_rules.specs.statement.History.{begins, block_at, held, is_acquire, is_probe_ack, pending}
use Rattle.tl_rules.specs.statement.History.{probe_of}
use Rattle.tl_rules.specs.statement.Legality.{breaks_l1, breaks_l2, breaks_l3, breaks_l4, breaks_l5, breaks_l6, breaks_l7}
use Rattle.tl_rules.specs.statement.Legality.{is_one_of}
unfoldable use Rattle.tl_rules.specs.statement.Legality.{illegal}
use Rattle.tl_rules.specs.statement.Liberties.{grows_from_none, reports_none}
use Rattle.tl_manager.proofs.messages.Sound.{holder_level}
use Rattle.tl_manager.proofs.pending.Probing.{probe_ack_kind}
use Rattle.tl_manager.specs.code.Kept.{IsKept}
use Rattle.tl_manager.specs.statement.End.{End}
use Rattle.tl_manager.specs.statement.Handing.{probe_beat}
use Rattle.tl_manager.specs.statement.Holders.{has_copy, recorded}
use Rattle.tl_manager.specs.statement.Offer.{Breaks, Judgement, Passes, before_stall, breaks_or, is_from_client}
use Rattle.tl_manager.specs.statement.Offer.{judged, judged_on, level_of, must_wait, open_level, unlawful, waits_or}
unfoldable use Rattle.tl_manager.specs.statement.Offer.{judged_at}
use Rattle.tl_partner.specs.statement.Dropping.{block_of, is_by_record, says_none}

-- ---- a judgement by what is recorded

abbrev pub has_record : Option Rule → Bool
has_record None = false
has_record (Some r) = is_by_record (Breaks r)

not_first : (b : Bool) (s : Rule) (rest : Option Rule) → is_by_record (Breaks s) ≡ false → has_record rest ≡ false
    → has_record (first_if b s rest) ≡ false
not_first true s rest e f = e
not_first false s rest e f = f

not_illegal : {w : ℕ} (l : Level) (ch : Channel) (x : Beat w) → has_record (illegal l ch x) ≡ false
unfolding illegal
not_illegal l ch x =
    not_first (breaks_l1 l ch x) L1 _ refl (not_first (breaks_l7 x) L7 _ refl (not_first (breaks_l2 x) L2 _ refl
    (not_first (breaks_l3 l x) L3 _ refl (not_first (breaks_l4 x) L4 _ refl (not_first (breaks_l5 x) L5 _ refl
    (not_first (breaks_l6 x) L6 None refl refl))))))

not_unlawful : {w : ℕ} (l : Level) (ch : Channel) (x : Beat w) → has_record (unlawful l ch x) ≡ false
not_unlawful l ch x = go (is_from_client x)
  where
    go : (b : Bool) → has_record (if b then illegal l ch x else Some L1) ≡ false
    go true = not_illegal l ch x
    go false = refl

not_early : (o : Option Rule) → has_record (before_stall o) ≡ false
not_early None = refl
not_early (Some S1) = refl
not_early (Some H1) = refl
not_early (Some r) = refl

past_rule : (o : Option Rule) (rest : Judgement) → has_record o ≡ false → is_by_record (breaks_or o rest) ≡ true
    → (o ≡ None) × (is_by_record rest ≡ true)
past_rule None rest e f = (refl, f)
past_rule (Some r) rest e f = absurd cc

past_stall : (b : Bool) (rest : Judgement) → is_by_record (waits_or b rest) ≡ true
    → (b ≡ false) × (is_by_record rest ≡ true)
past_stall true rest e = absurd cc
past_stall false rest e = (refl, e)

not_late : (outside spoiled : Bool)
    → is_by_record (breaks_or (first_if outside A1 (first_if spoiled A2 None)) Passes) ≡ false
not_late true spoiled = refl
not_late false true = refl
not_late false false = refl

by_order : (o : Option Rule) (late : Judgement) → is_by_record late ≡ false → is_by_record (breaks_or o late) ≡ true
    → has_record o ≡ true
by_order None late e f = absurd cc
by_order (Some r) late e f = f

-- the link takes beats, the beat breaks no L rule and needn't wait, and breaks that rule of order
pub record IsByRecord {w : ℕ} (config : Config) (link : Link) (ch : Channel) (x : Beat w) (e : End w) : Type 0 where
  pub level : Level
  pub live : open_level config link e ≡ Some level
  pub lawful : unlawful level ch x ≡ None
  pub waits : must_wait config link x e.trace ≡ false
  pub order : has_record (broken_in_order config.profile x (on_link link.0 e.trace)) ≡ true

by_record_at : {w : ℕ} (config : Config) (l : Level) (link : Link) (ch : Channel) (x : Beat w) (e : End w)
    → open_level config link e ≡ Some l → is_by_record (judged_at config l link ch x e.trace) ≡ true
    → IsByRecord config link ch x e
unfolding judged_at
by_record_at config l link ch x e live is =
    let o = broken_in_order config.profile x (on_link link.0 e.trace) in
    let lawful = past_rule (unlawful l ch x) _ (not_unlawful l ch x) is in
    let early = past_rule (before_stall o) _ (not_early o) lawful.1 in
    let stall = past_stall (must_wait config link x e.trace) _ early.1 in
    record {
      level = l;
      live = live;
      lawful = lawful.0;
      waits = stall.0;
      order = by_order o _ (not_late (is_outside config.blocks x) (is_spoiled x)) stall.1;
    }

pub by_record : {w : ℕ} (config : Config) (link : Link) (ch : Channel) (x : Beat w) (e : End w)
    → is_by_record (judged config link ch x e) ≡ true → IsByRecord config link ch x e
by_record config link ch x e is = go (open_level config link e) refl is
  where
    go : (o : Option Level) → open_level config link e ≡ o
        → is_by_record (judged_on config o link ch x e.trace) ≡ true → IsByRecord config link ch x e
    go None live f = absurd cc
    go (Some l) live f = by_record_at config l link ch x e live f

-- ---- rules of order

pub in_order : {w : ℕ} (p : Profile) (x : Beat w) (t : History w) → has_record (broken_in_order p x t) ≡ true
    → (begins x t ≡ true) × (has_record (broken_order p x t) ≡ true)
in_order p x t e = go (begins x t) (breaks_burst x (unfinished (channel_of x) t)) e
  where
    go : (b c : Bool) → has_record (if b then broken_order p x t else first_if c S1 None) ≡ true
        → (b ≡ true) × (has_record (broken_order p x t) ≡ true)
    go true c f = (refl, f)
    go false true f = absurd cc
    go false false f = absurd cc

pub next : (b : Bool) (s : Rule) (rest : Option Rule) → is_by_record (Breaks s) ≡ false
    → has_record (first_if b s rest) ≡ true → (b ≡ false) × (has_record rest ≡ true)
next true s rest e f = absurd cc
next false s rest e f = (refl, f)

last : (b : Bool) (s : Rule) → has_record (first_if b s None) ≡ true → b ≡ true
last true s e = refl
last false s e = absurd cc

-- what an Acquire grows from
copy_grown : (b : Bool) (p : Perm) → not b ≡ true
    → (if b then not (same_perm p Perm.Trunk) else same_perm p Perm.None) ≡ false → has_copy p ≡ true
copy_grown true p none e = absurd cc
copy_grown false Perm.None none e = absurd cc
copy_grown false Perm.Branch none e = refl
copy_grown false Perm.Trunk none e = refl

-- what a report NtoN doesn't start from
copy_reported : {w : ℕ} (x : BeatC w) (block : ℕ) (cap : Cap) (p : Perm) (o : Option (BeatB w))
    → reports_none x.param ≡ true → o ≡ Some (probe_beat block cap) → misreports x o p ≡ true → has_copy p ≡ true
copy_reported x block Cap.ToT Perm.None o none e f = absurd (let g = rw (e, none) at f in cc)
copy_reported x block Cap.ToB Perm.None o none e f = absurd (let g = rw (e, none) at f in cc)
copy_reported x block Cap.ToN Perm.None o none e f = absurd (let g = rw (e, none) at f in cc)
copy_reported x block cap Perm.Branch o none e f = refl
copy_reported x block cap Perm.Trunk o none e f = refl

-- ---- what is dropped

-- the link is of level C and takes beats, the client is recorded with a copy, and no Acquire of the block is pending
pub record IsDropped {w : ℕ} (config : Config) (link : Link) (block : ℕ) (e : End w) : Type 0 where
  pub live : open_level config link e ≡ Some Level.C
  pub copy : has_copy (recorded link.0 block e.trace) ≡ true
  pub free : pending (AcquireOf block) (on_link link.0 e.trace) ≡ false

pub level-open : (closed : Bool) (o : Option Level) (l : Level) → (if closed then None else o) ≡ Some l → o ≡ Some Level.C
    → (if closed then None else o) ≡ Some Level.C
level-open true o l e f = absurd cc
level-open false o l e f = f

copy-live : {w : ℕ} (config : Config) (link : Link) (ch : Channel) (x : Beat w) (block : ℕ) (e : End w)
    → IsKept config e → IsByRecord config link ch x e → has_copy (recorded link.0 block e.trace) ≡ true
    → open_level config link e ≡ Some Level.C
copy-live config link ch x block e kept is copy =
    level-open (is_one_of link.0 e.closed) (level_of config link.0) is.level is.live
    (holder_level config link.0 block e.trace kept.sound copy)

dropped_a : {w : ℕ} (config : Config) (link : Link) (ch : Channel) (x : BeatA w) (e : End w) → IsKept config e
    → says_none (Beat.A x) ≡ true → IsByRecord config link ch (Beat.A x) e
    → IsDropped config link (block_at x.address) e
unfolding broken_order
dropped_a config link ch x e kept says is =
    let h = on_link link.0 e.trace in
    let none = and_parts (is_acquire x.opcode) (grows_from_none x.param) says in
    let rules = in_order config.profile (Beat.A x) h is.order in
    let one = next (pending (RequestSource x.source) h) H1 _ refl rules.1 in
    let two = next (is_acquire x.opcode && (pending (AcquireOf (block_at x.address)) h || pending
    (ReleaseOf (block_at x.address)) h)) H4 _ refl one.1 in
    let three = and_parts (is_acquire x.opcode) (not (grows_from x.param (held (block_at x.address) h)))
    (last (is_acquire x.opcode && not (grows_from x.param (held (block_at x.address) h))) H5 two.1) in
    let copy : has_copy (recorded link.0 (block_at x.address) e.trace) ≡ true =
    copy_grown (x.param == grow_code grow.BtoT) (held (block_at x.address) h) none.1 (not-true (grows_from x.param (held (block_at x.address) h)) three.1) in
    let free = rw none.0 at two.0 in
    record {
      live = copy-live config link ch (Beat.A x) (block_at x.address) e kept is copy;
      copy = copy;
      free = (or_parts (pending (AcquireOf (block_at x.address)) h) (pending (ReleaseOf (block_at x.address)) h) free).0;
    }

spared : (a b c : Bool) → (a && b) ≡ false → (a && (b && c)) ≡ false
spared true true c e = absurd cc
spared true false c e = refl
spared false b c e = refl

dropped_c : {w : ℕ} (config : Config) (link : Link) (ch : Channel) (x : BeatC w) (e : End w) → IsKept config e
    → says_none (Beat.C x) ≡ true → IsByRecord config link ch (Beat.C x) e
    → IsDropped config link (block_at x.address) e
unfolding broken_order
dropped_c config link ch x e kept says is =
    let h = on_link link.0 e.trace in
    let k = block_at x.address in
    let none = and_parts (is_probe_ack x.opcode) (reports_none x.param) says in
    let rules = rw (probe_ack_kind x.opcode none.0, none.0) at (in_order config.profile (Beat.C x) h is.order).1 in
    let one = next (not (pending (ProbeOf k) h) || answers_wrong_probe x (probe_of k h)) H10 _ refl rules in
    let two = next (pending (ReleaseOf k) h) H11 _ refl one.1 in
    let misreport = last (misreports x (probe_of k h) (held k h)) H12 two.1 in
    let probed = (kept.steady.accounted.blocks k).probes link.0 (not-false (pending (ProbeOf k) h)
    (or_parts (not (pending (ProbeOf k) h)) (answers_wrong_probe x (probe_of k h)) one.0).0) in
    let copy : has_copy (recorded link.0 k e.trace) ≡ true =
    copy_reported x k probed.cap (held k h) (probe_of k h) none.1 probed.probe misreport in
    let acquires = rw probed.serves at ((kept.steady.accounted.blocks k).acquires link.0) in
    record {
      live = copy-live config link ch (Beat.C x) k e kept is copy;
      copy = copy;
      free = acquires ∙ spared (is_acquire probed.service.request.opcode) (probed.service.link.0 == link.0) _
          probed.others;
    }

pub dropped : {w : ℕ} (config : Config) (link : Link) (ch : Channel) (x : Beat w) (e : End w) → IsKept config e
    → says_none x ≡ true → is_by_record (judged config link ch x e) ≡ true → IsDropped config link (block_of x) e
dropped config link ch (Beat.A x) e kept says is =
    dropped_a config link ch x e kept says (by_record config link ch (Beat.A x) e is)
dropped config link ch (Beat.B x) e kept says is = absurd cc
dropped config link ch (Beat.C x) e kept says is =
    dropped_c config link ch x e kept says (by_record config link ch (Beat.C x) e is)
dropped config link ch (Beat.D x) e kept says is = absurd cc
dropped config link ch (Beat.E x) e kept says is = absurd cc
