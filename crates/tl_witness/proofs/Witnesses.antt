-- A witness with one more beat, and what it tells of links.
use Rattle.std.proofs.Common.{◌≡◌, ℕ, suc, zero, pred, List, [], ◌∷◌, ◌++◌, ◌+◌, ◌<◌, ◌^◌, ◌⊎◌}
use Rattle.std.proofs.Common.{length, inl, inr, refl, sym}
use Rattle.std.proofs.Common.{ap, ◌∙◌, Bool, true, false, Option, Some, None, slice_get, slice_set, arith}
use Rattle.std.proofs.Common.{append_assoc}
use Rattle.std.specs.Fmt.{decimal}
use Rattle.std.specs.Prelude.{codes, if◌then◌else◌, option_map, ◌*◌}
use Rattle.std.proofs.lemmas.Bool.{eq-eqb, lt-ltb, ne_eqb}
use Rattle.std.proofs.lemmas.List.{append-nil, length-set}
use Rattle.std.proofs.lemmas.Option.{same_Some}
use Rattle.tl_beat.specs.declared.beat.Beat.{Beat}
use Rattle.tl_beat.specs.declared.beat.Link.{Link}
use Rattle.tl_beat.specs.statement.Digits.{digits}
use Rattle.tl_explain.specs.statement.Sentences.{perm_name}
use Rattle.tl_params.specs.declared.key.Key.TheVariants.{GrantAckOf}
use Rattle.tl_params.specs.declared.perm.Perm.{Perm}
use Rattle.tl_bytes.specs.statement.Free.{all_liberties, may_hold}
use Rattle.tl_params.specs.declared.liberties.Liberty.TheVariants.{Uncorrupt}
use Rattle.tl_params.specs.statement.Liberties.{standard_liberties, with_liberty}
use Rattle.tl_rules.specs.statement.Conformance.{Trace, on_link}
use Rattle.tl_rules.specs.statement.History.{pending}
use Rattle.tl_rules.specs.statement.Windows.{leaves}
use Rattle.tl_beat.specs.declared.channel.Channel.TheVariants as channel
use Rattle.tl_explain.specs.code.Recorded.{IsBegun, begun_on}
use Rattle.tl_explain.specs.declared.bursts.Begun.{Begun}
use Rattle.tl_monitor.specs.statement.Granting.{coming, coming_on, given_by}
use Rattle.tl_params.specs.declared.level.Level.{Level}
use Rattle.tl_explain.specs.code.Recorded.{IsRecordUnder}
use Rattle.tl_explain.specs.declared.held.Held.{Held}
use Rattle.tl_explain.specs.declared.recorder.Recorder.{Recorder}
use Rattle.tl_explain.specs.declared.told.Mention.{Mention}
use Rattle.tl_explain.specs.declared.told.Told.{Told}
use Rattle.tl_explain.specs.declared.turns.Subject.{Subject}
use Rattle.tl_explain.specs.statement.Evidence.{burst_opening, last_saying_under, mention_of}
use Rattle.tl_explain.specs.statement.Since.{IsHeldSinceUnder}
use Rattle.tl_explain.proofs.follows.Links.{record_kept}
use Rattle.tl_explain.proofs.Sayings.{held_told}
use Rattle.tl_rules.specs.declared.past.Request.{Request}
use Rattle.tl_rules.specs.statement.Windows.{needs}
use Rattle.tl_together.specs.statement.Asked.{asked_at}
use Rattle.tl_witness.specs.code.Witness.{IsFresh, KnowsWitness, Records}
use Rattle.tl_witness.specs.declared.witness.Witness.{Witness}
use Rattle.tl_witness.specs.statement.Naming.{Naming}
use Rattle.tl_witness.specs.statement.Grounds.{access_text, asked_line, conflict_by}
use Rattle.tl_witness.specs.statement.Grounds.{conflicts_text, early_text, holder_text}
use Rattle.tl_witness.specs.statement.Grounds.{holders_text, permission_line, since_text}

-- ---- elements of lists

-- one that is found was put there, or was found before
found-set : {X : Type 0} (xs : List X) (i k : ℕ) (y x : X) → slice_get (slice_set xs i y) k ≡ Some x
    → ((k ≡ i) × (x ≡ y)) ⊎ ((k ≡ i → ⊥) × (slice_get xs k ≡ Some x))
found-set [] i k y x e = absurd cc
found-set (z ∷ xs) zero zero y x e = inl (refl, sym (same_Some y x e))
found-set (z ∷ xs) zero (suc k) y x e = inr ((λ n. absurd (omega (arith, n))), e)
found-set (z ∷ xs) (suc i) zero y x e = inr ((λ n. absurd (omega (arith, n))), e)
found-set (z ∷ xs) (suc i) (suc k) y x e = elim (found-set xs i k y x e) [
  | inl here ↦ inl (ap suc here.0, here.1)
  | inr apart ↦ inr ((λ n. apart.0 (ap pred n)), apart.1)
]

found-append : {X : Type 0} (xs : List X) (k : ℕ) (y x : X) → slice_get (xs ++ y ∷ []) k ≡ Some x
    → (slice_get xs k ≡ Some x) ⊎ ((k ≡ length xs) × (x ≡ y))
found-append [] zero y x e = inr (refl, sym (same_Some y x e))
found-append [] (suc k) y x e = absurd cc
found-append (z ∷ xs) zero y x e = inl e
found-append (z ∷ xs) (suc k) y x e = elim (found-append xs k y x e) [
  | inl before ↦ inl before
  | inr last ↦ inr (ap suc last.0, last.1)
]

-- ---- recorders that have seen no beat

-- all liberties are the standard ones and one more
pub all_named : with_liberty Uncorrupt standard_liberties ≡ all_liberties
unfolding all_liberties
all_named = refl

-- each is one of its link
pub record AreFresh (recorders : List Recorder) (block : ℕ) : Type 0 where
  pub each : (k : ℕ) (r : Recorder) → slice_get recorders k ≡ Some r → IsFresh r k block

pub none-fresh : (block : ℕ) → AreFresh [] block
none-fresh block = record { each = λ k r e. absurd cc }

pub one-fresh : (recorders : List Recorder) (n block : ℕ) (r : Recorder) → AreFresh recorders block
    → length recorders ≡ n → IsFresh r n block → AreFresh (recorders ++ r ∷ []) block
one-fresh recorders n block r are count fresh = record {
  each = λ k x e. elim (found-append recorders k r x e) [
    | inl before ↦ are.each k x before
    | inr last ↦ rw (last.1, last.0, count) fresh
  ];
}

pub first-knows : (h : Witness) (w n block : ℕ) → h.block ≡ block → block < 2 ^ 26 → h.links ≡ n
    → length h.recorders.items ≡ n → AreFresh h.recorders.items block → KnowsWitness {w = w} h n block []
first-knows h w n block is addressed links count are = record {
  block_is = is;
  addressed = addressed;
  links_is = links;
  count_is = count;
  each = λ link r e. are.each link r e w;
}

-- ---- one more beat

kept : {w : ℕ} (r : Recorder) (link block : ℕ) (x : Link × Beat w) (t : Trace w) → (x.0.0 ≡ link → ⊥)
    → Records r link block t → Records r link block (x ∷ t)
kept r link block x t apart is = record {
  recorded = record_kept all_liberties r x t (rw is.link_is (ne_eqb x.0.0 link apart)) is.recorded;
  link_is = is.link_is;
  block_is = is.block_is;
}

pub taken : {w : ℕ} (h new : Witness) (old next : Recorder) (n block : ℕ) (link : Link) (x : Beat w) (t : Trace w)
    → new.block ≡ h.block → new.links ≡ h.links → new.recorders.items ≡ slice_set h.recorders.items link.0 next
    → slice_get h.recorders.items link.0 ≡ Some old → next.subject ≡ old.subject
    → (IsRecordUnder all_liberties old t → IsRecordUnder all_liberties next ((link, x) ∷ t)) → KnowsWitness h n block t
    → KnowsWitness new n block ((link, x) ∷ t)
taken h new old next n block link x t block_is links set there subject records k = record {
  block_is = block_is ∙ k.block_is;
  addressed = k.addressed;
  links_is = links ∙ k.links_is;
  count_is = ap length set ∙ length-set h.recorders.items link.0 next ∙ k.count_is;
  each = λ c r e. elim (found-set h.recorders.items link.0 c next r (rw set at e)) [
    | inl here ↦
        let before = k.each link.0 old there in
        rw (here.1, here.0) (record {
          recorded = records before.recorded;
          link_is = ap (λ (s : Subject). s.link.0) subject ∙ before.link_is;
          block_is = ap (λ (s : Subject). s.block) subject ∙ before.block_is;
        })
    | inr apart ↦ kept r c block (link, x) t (λ own. apart.0 (sym own)) (k.each c r apart.1)
  ];
}

-- a beat of a link that there isn't
pub passed : {w : ℕ} (h : Witness) (n block : ℕ) (link : Link) (x : Beat w) (t : Trace w)
    → slice_get h.recorders.items link.0 ≡ None → KnowsWitness h n block t → KnowsWitness h n block ((link, x) ∷ t)
passed h n block link x t none k = record {
  block_is = k.block_is;
  addressed = k.addressed;
  links_is = k.links_is;
  count_is = k.count_is;
  each = λ c r e. kept r c block (link, x) t
      (λ own. let no : None ≡ Some r = sym none ∙ ap (slice_get h.recorders.items) own ∙ e in cc)
      (k.each c r e);
}

-- ---- what is told of links

perm-held : {w : ℕ} (link block : ℕ) (p : Perm) (m : Option Mention) (t : Trace w)
    → IsHeldSinceUnder all_liberties link block p m t
    → p ≡ may_hold block (on_link link t)
perm-held link block p None t is = is.0
perm-held link block p (Some m) t is = is.0

-- what a recorder has of its link
pub said-is : {w : ℕ} (r : Recorder) (h : Held) (link block : ℕ) (t : Trace w) → h ≡ r.held
    → Records r link block t → mention_of h.since ≡ last_saying_under all_liberties link block t
said-is r h link block t is rec =
    rw (is, ← rec.link_is, ← rec.block_is)
    rec.recorded.held_is.since_is

pub since-is : {w : ℕ} (r : Recorder) (h : Held) (link block : ℕ) (t : Trace w) → h ≡ r.held
    → Records r link block t → IsHeldSinceUnder all_liberties link block h.perm (mention_of h.since) t
since-is r h link block t is rec =
    rw (is, ← rec.link_is, ← rec.block_is)
    (held_told r.held all_liberties r.subject.link.0 r.subject.block t rec.recorded.held_is)

-- a link that holds no more than may be held
pub holder-left : {w : ℕ} (names : Naming) (link block : ℕ) (given p : Perm) (m : Option Mention) (left : Bool)
    (t : Trace w)
    → IsHeldSinceUnder all_liberties link block p m t → left ≡ leaves given p → left ≡ true
    → [] ≡ holder_text names link given block t
holder-left names link block given p m left t since is leaving =
    let test : leaves given (may_hold block (on_link link t)) ≡ true =
    rw (perm-held link block p m t since) at (sym is ∙ leaving) in
    rw test refl

-- one that holds more
pub holder-told : {w : ℕ} (names : Naming) (link block : ℕ) (given p : Perm) (m : Option Mention) (left : Bool)
    (t : Trace w)
    → IsHeldSinceUnder all_liberties link block p m t → m ≡ last_saying_under all_liberties link block t
    → left ≡ leaves given p → left ≡ false
    → permission_line names link (codes " holds ") block p m ≡ holder_text names link given block t
holder-told names link block given p m left t since said is conflicting =
    let test : leaves given (may_hold block (on_link link t)) ≡ false =
    rw (perm-held link block p m t since) at (sym is ∙ conflicting) in
    rw (test, perm-held link block p m t since, said) refl

-- none of no links
pub holders-none : {w : ℕ} (names : Naming) (given : Perm) (block : ℕ) (t : Trace w) (out : List ℕ)
    → out ≡ out ++ holders_text names 0 given block t
unfolding holders_text
holders-none names given block t out = sym (append-nil out)

-- and of one more
pub holders-more : {w : ℕ} (names : Naming) (n m : ℕ) (given : Perm) (block : ℕ) (t : Trace w)
    (first before after : List ℕ) → m ≡ suc n → before ≡ first ++ holders_text names n given block t
    → after ≡ before ++ holder_text names n given block t → after ≡ first ++ holders_text names m given block t
unfolding holders_text
holders-more names n m given block t first before after next so_far more =
    rw (more, so_far, next) (append_assoc first (holders_text names n given block t)
    (holder_text names n given block t))

-- ---- what conflicts with a Grant

-- where a Grant is on its way, its first beat is that of the burst
pub opening-is : {w : ℕ} (o : Option Begun) (link block : ℕ) (given : Perm) (t : Trace w) → IsBegun o link channel.D t
    → coming block (on_link link t) ≡ Some given
    → mention_of (option_map (λ b. b.first) o) ≡ burst_opening link channel.D t
opening-is None link block given t is e =
    absurd (never (pending (GrantAckOf block) (on_link link t)) (ap (λ beats. given_by block beats (on_link link t)) is)
    e)
  where
    never : (b : Bool) {o : Option Perm} → o ≡ None → (if b then o else None) ≡ Some given → ⊥
    never true none f = let no : None ≡ Some given = sym none ∙ f in cc
    never false none f = cc
opening-is (Some b) link block given t (newest, earlier, is, control, came, opening) e = sym opening

-- the same of what a recorder keeps
pub opening-at : {w : ℕ} (r : Recorder) (link n block : ℕ) (given : Perm) (t : Trace w) (h : Witness) (o : Option Begun)
    → o ≡ begun_on r channel.D → KnowsWitness h n block t → slice_get h.recorders.items link ≡ Some r
    → coming block (on_link link t) ≡ Some given
    → mention_of (option_map (λ b. b.first) o) ≡ burst_opening link channel.D t
opening-at r link n block given t h o is k there e =
    let rec = k.each link r there in
    let begun : IsBegun o link channel.D t = rw (is, ← rec.link_is) (rec.recorded.begun_are channel.D) in
    opening-is o link block given t begun e

-- a link to which nothing is being granted
pub conflict-none : {w : ℕ} (names : Naming) (coming' : Option Perm) (link : ℕ) (given : Perm) (block : ℕ) (t : Trace w)
    (out new : List ℕ) → ((p : Perm) → coming' ≡ Some p → ⊥) → new ≡ out ++ holder_text names link given block t
    → new ≡ out ++ conflict_by names coming' link given block t
conflict-none names None link given block t out new apart is = is
conflict-none names (Some p) link given block t out new apart is = absurd (apart p refl)

pub conflict-left : {w : ℕ} (names : Naming) (link block : ℕ) (given perm : Perm) (coming' : Option Perm) (left : Bool)
    (t : Trace w)
    → coming' ≡ Some perm → left ≡ leaves given perm → left ≡ true → [] ≡ conflict_by names coming' link given block t
conflict-left names link block given perm coming' left t is left_is leaving =
    rw (is, sym left_is ∙ leaving) refl

pub conflict-told : {w : ℕ} (names : Naming) (link block : ℕ) (given perm : Perm) (coming' : Option Perm)
    (m : Option Mention)
    (left : Bool) (t : Trace w) → coming' ≡ Some perm → left ≡ leaves given perm → left ≡ false
    → m ≡ burst_opening link channel.D t
    → permission_line names link (codes " is being granted ") block perm m ≡ conflict_by names coming' link given block
    t
conflict-told names link block given perm coming' m left t is left_is conflicting opening =
    rw (is, sym left_is ∙ conflicting, opening) refl

pub conflicts-none : {w : ℕ} (names : Naming) (own : ℕ) (given : Perm) (block : ℕ) (t : Trace w) (out : List ℕ)
    → out ≡ out ++ conflicts_text names 0 own given block t
unfolding conflicts_text
conflicts-none names own given block t out = sym (append-nil out)

-- one link more: nothing of the Grant's own
pub conflicts-own : {w : ℕ} (names : Naming) (n m own : ℕ) (given : Perm) (block : ℕ) (t : Trace w)
    (first before : List ℕ)
    → m ≡ suc n → n ≡ own → before ≡ first ++ conflicts_text names n own given block t
    → before ≡ first ++ conflicts_text names m own given block t
unfolding conflicts_text
conflicts-own names n m own given block t first before next is so_far =
    so_far ∙ rw (next, eq-eqb own n (sym is)) (ap (λ text. first ++ text)
    (sym (append-nil (conflicts_text names n own given block t))))

-- of another its line
pub conflicts-more : {w : ℕ} (names : Naming) (n m own : ℕ) (given : Perm) (block : ℕ) (t : Trace w)
    (coming' : Option Perm)
    (first before after : List ℕ)
    → m ≡ suc n → (n ≡ own → ⊥) → before ≡ first ++ conflicts_text names n own given block t
    → coming' ≡ coming block (on_link n t)
    → after ≡ before ++ conflict_by names coming' n given block t → after ≡ first ++ conflicts_text names m own given
    block t
unfolding conflicts_text
conflicts-more names n m own given block t coming' first before after next apart so_far is more =
    rw (more, so_far, next, ne_eqb own n (λ e. apart (sym e)), is)
    (append_assoc first (conflicts_text names n own given block t)
    (conflict_by names (coming block (on_link n t)) n given block t))

-- what a judge says of a link
pub coming-here : {w : ℕ} (levels : List Level) (link : Link) (block known : ℕ) (t : Trace w) (o : Option Perm)
    → known ≡ block → link.0 < length levels → o ≡ coming_on levels link known t
    → o ≡ coming block (on_link link.0 t)
coming-here levels link block known t o same lt is =
    is ∙ rw (same, lt-ltb link.0 (length levels) lt) refl

-- and in which line the request was complete
pub access-told : {w : ℕ} (names : Naming) (n link source : ℕ) (asked other : Request) (block moment : ℕ) (given : Perm)
    (t : Trace w)
    (out mid new : List ℕ) → other ≡ asked → given ≡ needs other.opcode → moment ≡ asked_at link source t
    → mid ≡ out ++ asked_line names (moment + 1) → new ≡ mid ++ holders_text names n given block t
    → new ≡ out ++ access_text names n link source asked block t
access-told names n link source asked other block moment given t out mid new same given_is at first more =
    rw (more, first, given_is, at, same)
    (append_assoc out (asked_line names (asked_at link source t + 1))
    (holders_text names n (needs asked.opcode) block t))

pub asked-told : (names : Naming) (line number : ℕ) (out a b c : List ℕ) → number ≡ names.line line
    → a ≡ out ++ codes "  its request was complete in line " → b ≡ a ++ decimal number → c ≡ b ++ codes "\n"
    → c ≡ out ++ asked_line names line
unfolding asked_line
asked-told names line number out a b c at a_is b_is c_is =
    rw (c_is, b_is, a_is, at)
    (append_assoc (out ++ codes "  its request was complete in line ") (decimal (names.line line)) (codes "\n")
    ∙ append_assoc out (codes "  its request was complete in line ") (decimal (names.line line) ++ codes "\n"))

-- ---- the line of a permission, piece by piece

pub since-told : (names : Naming) (since : Option Told) (m : Told) (out a b c : List ℕ) → since ≡ Some m
    → a ≡ out ++ codes " since line " → b ≡ a ++ decimal (names.line m.mention.line)
    → c ≡ b ++ early_text m.mention.control
    → c ≡ out ++ since_text names (mention_of since)
since-told names since m out a b c is a_is b_is c_is =
    rw (c_is, b_is, a_is, is)
    (ap (λ text. text ++ early_text m.mention.control)
    (append_assoc out (codes " since line ") (decimal (names.line m.mention.line)))
    ∙ append_assoc out (codes " since line " ++ decimal (names.line m.mention.line)) (early_text m.mention.control))

pub permission-told : (names : Naming) (link block times : ℕ) (verb : List ℕ) (perm : Perm) (since : Option Mention)
    (out a b c d e f g h : List ℕ) → times ≡ 64 * block → a ≡ out ++ codes "  link " → b ≡ a ++ digits 2 link
    → c ≡ b ++ verb → d ≡ c ++ perm_name perm → e ≡ d ++ codes " of block " → f ≡ e ++ names.address times
    → g ≡ f ++ since_text names since → h ≡ g ++ codes "\n" → h ≡ out ++ permission_line names link verb block perm
    since
unfolding permission_line
permission-told names link block times verb perm since out a b c d e f g h times_is a_is b_is c_is d_is e_is f_is g_is
    h_is =
    rw (h_is, g_is, f_is, e_is, d_is, c_is, b_is, a_is, times_is)
    (pieces out (codes "  link ") (digits 2 link) verb (perm_name perm) (codes " of block ")
    (names.address (64 * block))
    (since_text names since) (codes "\n"))
  where
    pieces : (o p q r s t u v z : List ℕ)
        → o ++ p ++ q ++ r ++ s ++ t ++ u ++ v ++ z ≡ o ++ (p ++ q ++ r ++ s ++ t ++ u ++ v ++ z)
    pieces o p q r s t u v z =
        rw (
          append_assoc o p q,
          append_assoc o (p ++ q) r,
          append_assoc o (p ++ q ++ r) s,
          append_assoc o (p ++ q ++ r ++ s) t,
          append_assoc o (p ++ q ++ r ++ s ++ t) u,
          append_assoc o (p ++ q ++ r ++ s ++ t ++ u) v,
          append_assoc o (p ++ q ++ r ++ s ++ t ++ u ++ v) z,
        ) refl
