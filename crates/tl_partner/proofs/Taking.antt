-- How beats of cleanings are judged and taken.
use Rattle.std.proofs.Common.{◌≡◌, ℕ, zero, suc, Bool, true, false, List, [], ◌∷◌, Option, Some, None, Ok, Err, refl, ap}
use Rattle.std.proofs.Common.{sym, ◌∙◌, length}
use Rattle.std.proofs.lemmas.List.{length-set}
use Rattle.std.specs.Prelude.{if◌then◌else◌, slice_set}
use Rattle.tl_beat.specs.declared.beat.Beat.{Beat}
use Rattle.tl_beat.specs.declared.beat.BeatC.{BeatC}
use Rattle.tl_beat.specs.declared.beat.Link.{Link}
use Rattle.tl_beat.specs.declared.channel.Channel.{Channel}
use Rattle.tl_beat.specs.statement.First.{first_if}
use Rattle.tl_beat.specs.statement.Width.{IsWidth}
use Rattle.tl_burst.specs.declared.message.Message.{Message}
use Rattle.tl_burst.specs.declared.message.MessageC.{MessageC}
use Rattle.tl_burst.specs.declared.part.Broken.{Broken}
use Rattle.tl_burst.specs.declared.part.Broken.TheVariants.{S1}
use Rattle.tl_burst.specs.declared.part.Part.{Part}
use Rattle.tl_burst.specs.statement.Burst.{IsBurst, beat_of, beats_of, begun, c_beat_of}
use Rattle.tl_burst.specs.statement.Messages.{breaks_burst, grown}
use Rattle.tl_burst.specs.statement.Part.{completes, is_empty, part_of, place}
use Rattle.tl_params.specs.declared.config.Config.{Config}
use Rattle.tl_params.specs.declared.level.Level.{Level}
use Rattle.tl_params.specs.declared.liberties.Liberties.{Liberties}
use Rattle.tl_params.specs.declared.perm.Perm.{Perm}
use Rattle.tl_params.specs.declared.rule.Rule.{Rule}
use Rattle.tl_params.specs.declared.rule.Rule.TheVariants as rule
use Rattle.tl_params.specs.declared.rule.Rule.TheVariants.{A1, A2}
use Rattle.tl_params.specs.statement.Refusal.{ok_unless}
use Rattle.tl_rules.proofs.Payload.{payload-c}
use Rattle.tl_rules.specs.statement.Admission.{is_outside, is_spoiled}
use Rattle.tl_rules.specs.statement.Conformance.{Trace}
use Rattle.tl_rules.specs.statement.Liberties.{illegal_under}
use Rattle.tl_manager.proofs.blocks.Completed.{newest-c}
use Rattle.tl_manager.specs.code.Admission.{admission_of, judged_by}
use Rattle.tl_manager.specs.code.Knows.{Knows}
use Rattle.tl_manager.specs.declared.manager.state.ManagerState.{ManagerState}
use Rattle.tl_manager.specs.statement.Handing.{release_ack}
use Rattle.tl_manager.specs.statement.Offer.{Passes, Sent, before_stall, breaks_or, waits_or}
use Rattle.tl_partner.specs.code.Cleanings.{IsCleaningOf, KnowsPartner, cleaning_at}
use Rattle.tl_partner.specs.statement.Cleaning.{PartnerEnd, cleaned_by, cleaning_as, cleaning_on, cleaning_order}
use Rattle.tl_partner.specs.statement.Cleaning.{answer_of_cleaning, cleaned, judged_cleaning}
use Rattle.tl_manager.specs.statement.End.{End}

-- ---- what a beat is to its burst

pub part-breaks : {w : ℕ} (x : Beat w) (burst : List (Beat w)) (s : Broken) → Err s ≡ part_of x burst
    → breaks_burst x burst ≡ true
part-breaks x burst s e = go (breaks_burst x burst) (place (is_empty burst) (completes x burst)) e
  where
    go : (b : Bool) (p : Part) → Err s ≡ (if b then Err S1 else Ok p) → b ≡ true
    go true p f = refl
    go false p f = absurd cc

pub part-goes : {w : ℕ} (x : Beat w) (burst : List (Beat w)) (p : Part) → Ok p ≡ part_of x burst
    → breaks_burst x burst ≡ false
part-goes x burst p e = go (breaks_burst x burst) (place (is_empty burst) (completes x burst)) e
  where
    go : (b : Bool) (q : Part) → Ok p ≡ (if b then Err S1 else Ok q) → b ≡ false
    go true q f = absurd cc
    go false q f = refl

-- ---- the rule of order

pub order-breaks : {w : ℕ} (l : Liberties) (link : Link) (x : Beat w) (burst : List (Beat w)) (t : Trace w)
    → is_empty burst ≡ false → breaks_burst x burst ≡ true → Some rule.S1 ≡ cleaning_order l link x burst t
order-breaks l link x burst t begun breaks = rw (begun, breaks) refl

pub order-goes : {w : ℕ} (l : Liberties) (link : Link) (x : Beat w) (burst : List (Beat w)) (t : Trace w)
    → is_empty burst ≡ false → breaks_burst x burst ≡ false → None ≡ cleaning_order l link x burst t
order-goes l link x burst t begun goes = rw (begun, goes) refl

-- ---- judging

pub lawful-none : (o : Option Rule) → Ok tt ≡ ok_unless o → o ≡ None
lawful-none None e = refl
lawful-none (Some r) e = absurd cc

never_waits : (broken late : Option Rule)
    → admission_of (breaks_or (before_stall broken) (waits_or false (breaks_or broken (breaks_or late Passes))))
    ≡ admission_of (breaks_or broken (breaks_or late Passes))
never_waits None late = refl
never_waits (Some rule.S1) late = refl
never_waits (Some rule.H1) late = refl
never_waits (Some r) late = refl

pub judged-clean : {w : ℕ} (l : Liberties) (config : Config) (level : Level) (link : Link) (ch : Channel) (x : Beat w)
    (burst : List (Beat w)) (t : Trace w) → illegal_under l level ch x ≡ None
    → admission_of (judged_by (cleaning_order l link x burst t) false (is_outside config.blocks x) (is_spoiled x))
    ≡ admission_of (judged_cleaning l config (Some level) link ch x burst t)
judged-clean l config level link ch x burst t lawful =
    rw lawful (never_waits (cleaning_order l link x burst t)
    (first_if (is_outside config.blocks x) A1 (first_if (is_spoiled x) A2 None)))

-- ---- what a beat leaves that is taken

-- a beat after which the message isn't complete
pub taken-part : {w : ℕ} {M : Type 0} (perm_of : M → ℕ → ℕ → Perm) (manager : ManagerState w M)
    (items : List (List (Beat w))) (config : Config) (link : Link) (x : Beat w) (burst new : List (Beat w))
    (e : PartnerEnd w) → KnowsPartner perm_of manager items config e → cleaning_at items link.0 ≡ burst
    → completes x burst ≡ false → new ≡ grown x burst
    → KnowsPartner perm_of manager (slice_set items link.0 new) config (cleaning_as Passes config link x e).1
taken-part {w} perm_of manager items config link x burst new e k at part grows =
    let here : cleaning_on link e ≡ burst = ap (λ (all : List (List (Beat w))). cleaning_at all link.0) (sym k.same)
    ∙ at in
    let more : new ≡ x ∷ burst = rw part at grows in
    rw (here, part) (record {
      knows = k.knows;
      same = rw (k.same, more) refl;
      count = length-set e.cleanings link.0 (x ∷ burst) ∙ k.count;
    })

-- the message that a beat completes has its fields
pub is_cleaning_of : {w : ℕ} (m : MessageC w) (x : BeatC w) (burst : List (Beat w)) → IsWidth w
    → length m.payload ≡ 64 → IsBurst (Message.C m) (Beat.C x ∷ burst) → IsCleaningOf m x (Beat.C x ∷ burst)
is_cleaning_of {w} m x burst width long whole =
    let newest = newest-c m x burst (beats_of (Message.C m)) whole.0 in
    record {
      opcode = sym (ap (λ (y : BeatC w). y.opcode) newest.1);
      param = sym (ap (λ (y : BeatC w). y.param) newest.1);
      source = sym (ap (λ (y : BeatC w). y.source) newest.1);
      address = sym (ap (λ (y : BeatC w). y.address) newest.1);
      payload = sym (payload-c m (Beat.C x ∷ burst) width long whole);
    }

abbrev is_of_c : {w : ℕ} → Beat w → Bool
is_of_c (Beat.C x) = true
is_of_c x = false

of_c : {w : ℕ} (m : MessageC w) (x : Beat w) (burst : List (Beat w)) (n : ℕ) → x ∷ burst ≡ begun (Message.C m) n
    → is_of_c x ≡ true
of_c m x burst zero e = absurd cc
of_c m x burst (suc k) e = let newest : x ≡ Beat.C (c_beat_of m k) = cc in ap is_of_c newest

-- the beat with which it is
pub taken-whole : {w : ℕ} {M : Type 0} (perm_of : M → ℕ → ℕ → Perm) (old manager : ManagerState w M)
    (items : List (List (Beat w))) (config : Config) (link : Link) (x : Beat w) (burst new : List (Beat w))
    (m : MessageC w) (e : PartnerEnd w) → KnowsPartner perm_of old items config e → cleaning_at items link.0 ≡ burst
    → completes x burst ≡ true → new ≡ grown x burst → IsWidth w → length m.payload ≡ 64
    → IsBurst (Message.C m) (x ∷ burst)
    → ((y : BeatC w) (beats : List (Beat w)) → IsCleaningOf m y beats
    → Knows perm_of manager config (cleaned_by config link y beats e.manager))
    → KnowsPartner perm_of manager (slice_set items link.0 new) config (cleaning_as Passes config link x e).1
taken-whole {w} perm_of old manager items config link (Beat.C y) burst new m e k at last grows width long whole cleans =
    let here : cleaning_on link e ≡ burst = ap (λ (all : List (List (Beat w))). cleaning_at all link.0) (sym k.same)
    ∙ at in
    let none : new ≡ [] = rw last at grows in
    rw (here, last) (record {
      knows = cleans y (Beat.C y ∷ burst) (is_cleaning_of m y burst width long whole);
      same = rw (k.same, none) refl;
      count = length-set e.cleanings link.0 [] ∙ k.count;
    })
taken-whole perm_of old manager items config link v burst new m e k at last grows width long whole cleans =
    absurd (let no = of_c m v burst (beats_of (Message.C m)) whole.0 in cc)

pub answered-whole : {w : ℕ} {M : Type 0} (perm_of : M → ℕ → ℕ → Perm) (old : ManagerState w M)
    (items : List (List (Beat w))) (config : Config) (link : Link) (x : Beat w) (burst : List (Beat w))
    (m : MessageC w) (e : PartnerEnd w) → KnowsPartner perm_of old items config e → cleaning_at items link.0 ≡ burst
    → completes x burst ≡ true → IsWidth w → length m.payload ≡ 64 → IsBurst (Message.C m) (x ∷ burst)
    → Sent ((link, release_ack m.source) ∷ []) ≡ (cleaning_as Passes config link x e).0
answered-whole {w} perm_of old items config link (Beat.C y) burst m e k at last width long whole =
    let here : cleaning_on link e ≡ burst = ap (λ (all : List (List (Beat w))). cleaning_at all link.0) (sym k.same)
    ∙ at in
    let is = is_cleaning_of m y burst width long whole in
    rw (here, last, is.source) refl
answered-whole perm_of old items config link v burst m e k at last width long whole =
    absurd (let no = of_c m v burst (beats_of (Message.C m)) whole.0 in cc)

-- a message of another channel isn't answered

pub other_c : {w : ℕ} (m : Message w) (x : Beat w) (burst : List (Beat w)) (n : ℕ)
    → ((release : MessageC w) → m ≡ Message.C release → ⊥) → x ∷ burst ≡ begun m n → is_of_c x ≡ false
other_c m x burst zero otherwise e = absurd cc
other_c (Message.A m) x burst (suc k) otherwise e = let newest : x ≡ beat_of (Message.A m) k = cc in ap is_of_c newest
other_c (Message.B m) x burst (suc k) otherwise e = let newest : x ≡ beat_of (Message.B m) k = cc in ap is_of_c newest
other_c (Message.C m) x burst (suc k) otherwise e = absurd (otherwise m refl)
other_c (Message.D m) x burst (suc k) otherwise e = let newest : x ≡ beat_of (Message.D m) k = cc in ap is_of_c newest
other_c (Message.E m) x burst (suc k) otherwise e = let newest : x ≡ beat_of (Message.E m) k = cc in ap is_of_c newest

nothing_cleaned : {w : ℕ} (config : Config) (link : Link) (x : Beat w) (beats : List (Beat w)) (e : End w)
    → is_of_c x ≡ false → (Sent [] ≡ answer_of_cleaning link x) × (cleaned config link x beats e ≡ e)
nothing_cleaned config link (Beat.A x) beats e other = (refl, refl)
nothing_cleaned config link (Beat.B x) beats e other = (refl, refl)
nothing_cleaned config link (Beat.C x) beats e other = absurd cc
nothing_cleaned config link (Beat.D x) beats e other = (refl, refl)
nothing_cleaned config link (Beat.E x) beats e other = (refl, refl)

pub answered-other : {w : ℕ} {M : Type 0} (perm_of : M → ℕ → ℕ → Perm) (old : ManagerState w M)
    (items : List (List (Beat w))) (config : Config) (link : Link) (x : Beat w) (burst : List (Beat w))
    (e : PartnerEnd w) → KnowsPartner perm_of old items config e → cleaning_at items link.0 ≡ burst
    → completes x burst ≡ true → is_of_c x ≡ false → Sent [] ≡ (cleaning_as Passes config link x e).0
answered-other {w} perm_of old items config link x burst e k at last other =
    let here : cleaning_on link e ≡ burst = ap (λ (all : List (List (Beat w))). cleaning_at all link.0) (sym k.same)
    ∙ at in
    rw (here, last) (nothing_cleaned config link x (x ∷ burst) e.manager other).0

pub taken-other : {w : ℕ} {M : Type 0} (perm_of : M → ℕ → ℕ → Perm) (manager : ManagerState w M)
    (items : List (List (Beat w))) (config : Config) (link : Link) (x : Beat w) (burst new : List (Beat w))
    (e : PartnerEnd w) → KnowsPartner perm_of manager items config e → cleaning_at items link.0 ≡ burst
    → completes x burst ≡ true → new ≡ grown x burst → is_of_c x ≡ false
    → KnowsPartner perm_of manager (slice_set items link.0 new) config (cleaning_as Passes config link x e).1
taken-other {w} perm_of manager items config link x burst new e k at last grows other =
    let here : cleaning_on link e ≡ burst = ap (λ (all : List (List (Beat w))). cleaning_at all link.0) (sym k.same)
    ∙ at in
    let none : new ≡ [] = rw last at grows in
    rw (here, last, (nothing_cleaned config link x (x ∷ burst) e.manager other).1) (record {
      knows = k.knows;
      same = rw (k.same, none) refl;
      count = length-set e.cleanings link.0 [] ∙ k.count;
    })
