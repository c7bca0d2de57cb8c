-- What is delivered on a link, with one more beat: each value of it is as the beat leaves it.
use Rattle.std.proofs.Common.{◌≡◌, ℕ, Bool, true, false, not, ◌&&◌, ◌||◌, ◌∷◌, Option, Some, refl, sym, ◌∙◌, List}
use Rattle.std.proofs.Common.{arith, if◌then◌else◌, option_map, unwrap_or}
use Rattle.tl_coherence.proofs
use proofs.Imports.{Beat, BeatA, BeatC, Channel, History, unfinished, grown, Key, RequestSource, ReleaseSource}
use proofs.Imports.{AcquireOf, ReleaseOf, GrantAckOf, ProbeOf, Perm, begins, ends, pending, held, block_at}
use proofs.Imports.{request_of, release_of, probe_of, grant_sink, opens, closes, Block, State, view, is_granting}
use proofs.Imports.{is_acknowledging, is_answered, is_wanting, is_unserved, comes_granting, MonitorRelation}
use proofs.Imports.{is_requested, is_release_pending, is_let_by, probe_beat, cap_waited}
use Rattle.tl_burst.specs.statement.Messages.{on}
use Rattle.tl_rules.specs.statement.History.{says_held}

-- a key that was pending so, after a beat that begins and completes its message so and opens and closes the key so
abbrev pub step : Bool → Bool → Bool → Bool → Bool → Bool
step first last opened closed p = if first && opened then true else if last && closed then false else p

pub step_quiet : (first last p : Bool) → step first last false false p ≡ p
step_quiet first last p = grind arith

-- a beat that is a whole message, which opens it or not
pub whole_opened : (o p : Bool) → o ≡ true → step true true o false p ≡ true
whole_opened o p e = rw e refl

pub whole_unopened : (o p : Bool) → o ≡ false → step true true o false p ≡ p
whole_unopened o p e = rw e refl

pending-next : {w : ℕ} (k : Key) (x : Beat w) (t : History w) (first last : Bool) → begins x t ≡ first → ends x t ≡ last
    → pending k (x ∷ t) ≡ step first last (opens k x t) (closes k x t) (pending k t)
unfolding pending
pending-next k x t first last e f = rw (e, f) refl

held-next : {w : ℕ} (n : ℕ) (x : Beat w) (t : History w) (last : Bool) → ends x t ≡ last
    → held n (x ∷ t) ≡ (if last then unwrap_or (says_held n x t) (held n t) else held n t)
unfolding held
held-next n x t last f = rw f refl

unfinished-next : {w : ℕ} (ch : Channel) (x : Beat w) (t : History w)
    → unfinished ch (x ∷ t) ≡ (if on ch x then grown x (unfinished ch t) else unfinished ch t)
unfolding unfinished
unfinished-next ch x t = refl

-- ---- the values that the protocol has

abbrev pub held_by : {X : Type 0} → ℕ → Block X → Perm
held_by c b = if is_granting (view b.service c) then (b.pair c).held else (b.pair c).recorded

abbrev pub acquired_by : {X : Type 0} → ℕ → Block X → Bool
acquired_by c b = is_wanting (b.pair c).acquiring && not (is_unserved (view b.service c))

abbrev pub let_of : {w : ℕ} {X : Type 0} → ℕ → List (Beat w) → Block X → Bool
let_of c rest b = is_release_pending (b.release_source c) rest (b.pair c).letting

abbrev pub granted_by : {w : ℕ} {X : Type 0} → ℕ → ℕ → (ℕ → Option (BeatA w)) → List (Beat w) → Block X → Bool
granted_by c n asked rest b = is_acknowledging (view b.service c) || comes_granting n asked rest

-- the Release is of this block, and brings as much as a block has
abbrev pub IsReleaseOf : {w : ℕ} → ℕ → Option (BeatC w) → Type 0
IsReleaseOf n o = (option_map (λ x. block_at x.address) o ≡ Some n) × (option_map (λ x. x.size) o ≡ Some 6)

-- each value after the beat, given those before it
pub record IsStepped {w : ℕ} {X : Type 0} (x : Beat w) (first last : Bool) (asked asked' : ℕ → Option (BeatA w))
    (rest rest' : Channel → List (Beat w)) (c : ℕ) (s s' : State X) (t : History w) : Type 0 where
  pub held_is : (n : ℕ) → held_by c (s'.block n) ≡ (if last then unwrap_or (says_held n x t) (held_by c (s.block n))
      else held_by c (s.block n))
  pub requests : (i : ℕ) → is_requested c i (rest' Channel.A) (s'.uses c i) s' ≡ step first last
      (opens (RequestSource i) x t) (closes (RequestSource i) x t) (is_requested c i (rest Channel.A) (s.uses c i) s)
  pub asked_is : (i : ℕ) → is_requested c i (rest' Channel.A) (s'.uses c i) s' ≡ true → request_of i (x ∷ t) ≡ asked' i
  pub acquires : (n : ℕ) → acquired_by c (s'.block n) ≡ step first last (opens (AcquireOf n) x t)
      (closes (AcquireOf n) x t) (acquired_by c (s.block n))
  pub release_sources : (i : ℕ) → is_let_by c i (rest' Channel.C) (s'.lets c i) s' ≡ step first last
      (opens (ReleaseSource i) x t) (closes (ReleaseSource i) x t) (is_let_by c i (rest Channel.C) (s.lets c i) s)
  pub released : (i n : ℕ) → s'.lets c i ≡ Some n → is_let_by c i (rest' Channel.C) (s'.lets c i) s' ≡ true
      → IsReleaseOf n (release_of i (x ∷ t))
  pub releases : (n : ℕ) → let_of c (rest' Channel.C) (s'.block n) ≡ step first last (opens (ReleaseOf n) x t)
      (closes (ReleaseOf n) x t) (let_of c (rest Channel.C) (s.block n))
  pub grants : (n : ℕ) → granted_by c n asked' (rest' Channel.D) (s'.block n) ≡ step first last
      (opens (GrantAckOf n) x t) (closes (GrantAckOf n) x t) (granted_by c n asked (rest Channel.D) (s.block n))
  pub probes : (n : ℕ) → is_answered ((s'.block n).pair c).probing ≡ step first last (opens (ProbeOf n) x t)
      (closes (ProbeOf n) x t) (is_answered ((s.block n).pair c).probing)
  pub probed : (n : ℕ) → is_answered ((s'.block n).pair c).probing ≡ true
      → probe_of n (x ∷ t) ≡ Some (probe_beat n (cap_waited (s'.block n).service))
  pub sunk : (n : ℕ) → granted_by c n asked' (rest' Channel.D) (s'.block n) ≡ true
      → grant_sink n (x ∷ t) ≡ Some (s'.block n).tracker

-- what is known of the last Release with a source, where a beat leaves it
pub let_still : {w : ℕ} {X : Type 0} {asked : ℕ → Option (BeatA w)} {rest : Channel → List (Beat w)} {c : ℕ}
    {s : State X} {t : History w} {o : Option (BeatC w)} → MonitorRelation asked rest c s t → (i n : ℕ)
    → o ≡ release_of i t → s.lets c i ≡ Some n → pending (ReleaseSource i) t ≡ true → IsReleaseOf n o
let_still before i n same lets still = rw same (before.released i n lets still, before.sizes i n lets still)

stepped : {w : ℕ} (k : Key) (x : Beat w) (t : History w) {first last p p' : Bool} → begins x t ≡ first
    → ends x t ≡ last → pending k t ≡ p → p' ≡ step first last (opens k x t) (closes k x t) p → pending k (x ∷ t) ≡ p'
stepped k x t {first} {last} e f before after = cc (pending-next k x t first last e f, before, after)

pub flowed-next : {w : ℕ} {X : Type 0} {x : Beat w} {first last : Bool} {asked asked' : ℕ → Option (BeatA w)}
    {rest rest' : Channel → List (Beat w)} {c : ℕ} {s s' : State X} {t : History w} → begins x t ≡ first
    → ends x t ≡ last → ((ch : Channel) → rest' ch ≡ (if on ch x then grown x (rest ch) else rest ch))
    → IsStepped x first last asked asked' rest rest' c s s' t → MonitorRelation asked rest c s t
    → MonitorRelation asked' rest' c s' (x ∷ t)
flowed-next {w} {X} {x} {last} {asked'} {rest'} {c} {s'} {t} first_is last_is rests is before = record {
  rest_is = λ ch. cc (unfinished-next ch x t, before.rest_is ch, rests ch);
  held_is = λ n. cc (held-next n x t last last_is, before.held_is n, is.held_is n);
  requests = requests;
  asked_is = λ i e. is.asked_is i (sym (requests i) ∙ e);
  acquires = λ n. stepped (AcquireOf n) x t first_is last_is (before.acquires n) (is.acquires n);
  release_sources = lets;
  released = λ i n e f. (is.released i n e (sym (lets i) ∙ f)).0;
  sizes = λ i n e f. (is.released i n e (sym (lets i) ∙ f)).1;
  releases = λ n. stepped (ReleaseOf n) x t first_is last_is (before.releases n) (is.releases n);
  grants = grants;
  probes = λ n. stepped (ProbeOf n) x t first_is last_is (before.probes n) (is.probes n);
  probed = is.probed;
  sunk = λ n e. is.sunk n (sym (grants n) ∙ e);
}
  where
    requests : (i : ℕ) → pending (RequestSource i) (x ∷ t) ≡ is_requested c i (rest' Channel.A) (s'.uses c i) s'
    requests i = stepped (RequestSource i) x t first_is last_is (before.requests i) (is.requests i)

    lets : (i : ℕ) → pending (ReleaseSource i) (x ∷ t) ≡ is_let_by c i (rest' Channel.C) (s'.lets c i) s'
    lets i = stepped (ReleaseSource i) x t first_is last_is (before.release_sources i) (is.release_sources i)

    grants : (n : ℕ) → pending (GrantAckOf n) (x ∷ t) ≡ granted_by c n asked' (rest' Channel.D) (s'.block n)
    grants n = stepped (GrantAckOf n) x t first_is last_is (before.grants n) (is.grants n)
