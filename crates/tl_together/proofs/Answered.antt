-- What a judge's tables answer of the rules of memory.
use Rattle.std.proofs.Common.{◌≡◌, ℕ, Bool, true, false, ◌&&◌, ◌||◌, ◌<◌, List, length, refl, sym, ap, ◌∙◌}
use Rattle.std.proofs.Common.{◌+◌}
use Rattle.std.specs.Prelude.{if◌then◌else◌, Option, Some, None, is_some, nat_le, ◌==◌}
use Rattle.std.proofs.Math.Numerals.{add-one}
use Rattle.std.proofs.lemmas.Bool.{lt-ltb}
use Rattle.tl_beat.specs.declared.beat.Beat.{Beat}
use Rattle.tl_beat.specs.declared.beat.Beat.TheVariants.{A, B, C, D, E}
use Rattle.tl_beat.specs.declared.beat.BeatD.{BeatD}
use Rattle.tl_beat.specs.declared.beat.Link.{Link}
use Rattle.tl_params.specs.declared.level.Level.{Level}
use Rattle.tl_params.specs.declared.perm.Perm.{Perm}
use Rattle.tl_params.specs.declared.perm.Perm.TheVariants as perm
use Rattle.tl_rules.specs.code.Open.{open_request}
use Rattle.tl_rules.specs.declared.past.Request.{Request}
use Rattle.tl_rules.specs.statement.Conformance.{Trace, on_link}
use Rattle.tl_rules.specs.statement.History.{begins, is_grant, capped}
use Rattle.tl_rules.specs.statement.Liberties.{held_under}
use Rattle.tl_monitor.specs.declared.monitor.Monitor.{Monitor}
use Rattle.tl_monitor.specs.statement.Granting.{granted_under}
use Rattle.tl_monitor.specs.statement.Knows.{held_on_under, begins_on, request_on}
use Rattle.tl_params.specs.declared.liberties.Liberties.{Liberties}
use Rattle.tl_rules.specs.statement.Windows.{leaves, needs}
use Rattle.tl_bytes.specs.statement.Free.{all_liberties, is_free, may_hold}
use Rattle.tl_together.specs.code.Following.{Follows}
use Rattle.tl_together.proofs.Following.{held_most}
use Rattle.tl_bytes.specs.statement.Shown.{had_window}
use Rattle.tl_together.specs.statement.Coherence.{is_access_ack, is_grantable}
use Rattle.tl_together.specs.statement.Coherence.{broken_grant, broken_access, broken_response, broken_memory}
use Rattle.tl_together.specs.statement.Coherence.{broken_beginning, broken_bytes, memory_rule_or}
use Rattle.tl_memory.specs.code.Taking.{request_answered}
use Rattle.tl_params.specs.declared.memory_rule.MemoryRule.{MemoryRule}
use Rattle.tl_params.specs.declared.memory_rule.MemoryRule.TheVariants.{M1, M4}
use Rattle.tl_together.specs.statement.Asked.{asked_at}
use Rattle.tl_together.specs.code.Windows.{Moments, window_at, last_in, window_in, KnowsWindows}
use Rattle.tl_together.proofs.Windowed.{free_window, window-is}

-- one link more
pub free_more : {w : ℕ} (m : Monitor w) (levels : List Level) (may : Liberties) (n : ℕ) (link : Link) (given h : Perm)
    (block : ℕ) (t : Trace w) (free left now : Bool) → Follows m levels may t
    → link.0 ≡ n → n < length levels → h ≡ held_on_under may levels link block t → free ≡ is_free n given block t
    → left ≡ leaves given h
    → now ≡ (free && left) → now ≡ is_free (n + 1) given block t
unfolding is_free
free_more m levels may n link given h block t free left now k link_is lt held_is free_is left_is now_is =
    let here : h ≡ may_hold block (on_link n t) = held_is ∙ rw (lt-ltb link.0 (length levels) (rw link_is lt))
    (ap (λ c. held_under may block (on_link c t)) link_is) ∙ held_most m levels may n block t k lt in
    now_is ∙ rw (add-one, free_is, left_is, here) refl

pub free_none : {w : ℕ} (given : Perm) (block : ℕ) (t : Trace w)
    → true ≡ is_free 0 given block t
unfolding is_free
free_none given block t = refl

-- the same of what is granted
pub grantable_none : {w : ℕ} (link : ℕ) (given : Perm) (block : ℕ) (t : Trace w)
    → true ≡ is_grantable 0 link given block t
unfolding is_grantable
grantable_none link given block t = refl

pub grantable_more : {w : ℕ} (n link : ℕ) (given h : Perm) (block : ℕ) (t : Trace w) (free left now : Bool)
    → leaves given h ≡ leaves given (granted_under all_liberties block (on_link n t))
    → free ≡ is_grantable n link given block t → left ≡ ((link == n) || leaves given h)
    → now ≡ (free && left) → now ≡ is_grantable (n + 1) link given block t
unfolding is_grantable
grantable_more n link given h block t free left now here free_is left_is now_is =
    now_is ∙ rw (add-one, free_is, left_is, here) refl

-- of all links, where these are they
pub free_all : {w : ℕ} (n links block : ℕ) (t : Trace w) (reading writing : Bool) → n ≡ links
    → (reading ≡ is_free n perm.Branch block t) × (writing ≡ is_free n perm.Trunk block t)
    → (reading ≡ is_free links perm.Branch block t) × (writing ≡ is_free links perm.Trunk block t)
free_all n links block t reading writing e known = rw (sym e) known

pub window_free : {w : ℕ} (links n link source : ℕ) (given : Perm) (block : ℕ) (t : Trace w) (r : Bool) → links ≡ n
    → is_some (open_request source (on_link link t)) ≡ true
    → r ≡ is_free links given block t → r ≡ true → true ≡ had_window n link source given block t
window_free links n link source given block t r links_is asked r_is free =
    sym (free_window n link source given block t asked (sym (r_is ∙ ap (λ m. is_free m given block t) links_is)
    ∙ free))

pub window_asked : {w : ℕ} (links n link source : ℕ) (given : Perm) (block : ℕ) (t : Trace w) (r : Bool) (a last : ℕ)
    (entries : Moments) (noted : Option ℕ) → links ≡ n
    → is_some (open_request source (on_link link t)) ≡ true
    → r ≡ is_free links given block t → r ≡ false → Some a ≡ noted → noted ≡ Some (asked_at link source t)
    → last ≡ last_in given (window_in entries block)
    → KnowsWindows entries n t → nat_le a last ≡ had_window n link source given block t
window_asked links n link source given block t r a last entries noted links_is asked r_is closed found known last_is
    windows =
    let same : a ≡ asked_at link source t = of_some (found ∙ known) in
    let gone : is_free n given block t ≡ false = sym (r_is ∙ ap (λ m. is_free m given block t) links_is)
    ∙ closed in
    let then' : last ≡ window_at n given block t = last_is ∙ windows given block gone in
    rw (same, then') (sym (window-is n link source given block t ∙ rw asked refl))
  where
    of_some : {x y : ℕ} → Some x ≡ Some y → x ≡ y
    of_some e = cc

-- the response to no request
pub no_response : {w : ℕ} (levels : List Level) (n : ℕ) (link : Link) (x : BeatD w) (t : Trace w)
    → link.0 < length levels → None ≡ request_on levels link x.source t
    → None ≡ broken_response n link.0 x t
no_response levels n link x t lt none =
    let here : open_request x.source (on_link link.0 t) ≡ None = sym (rw (lt-ltb link.0 (length levels) lt) refl) ∙ sym
    none in
    rw here (go x.denied (is_grant x.opcode) (is_access_ack x.opcode))
  where
    no : Option MemoryRule
    no = None

    go : (d a b : Bool) → no ≡ (if d then no else if a then no else if b then no else no)
    go true a b = refl
    go false true b = refl
    go false false true = refl
    go false false false = refl

-- a denied response
pub denied_response : {w : ℕ} (n link : ℕ) (x : BeatD w) (t : Trace w) → x.denied ≡ true
    → None ≡ broken_response n link x t
denied_response n link x t denied = rw denied refl

pub asked_is : {w : ℕ} (levels : List Level) (link : Link) (s : ℕ) (t : Trace w) (r : Request) → link.0 < length levels
    → Some r ≡ request_on levels link s t
    → open_request s (on_link link.0 t) ≡ Some r
asked_is levels link s t r lt some = sym (rw (lt-ltb link.0 (length levels) lt) refl) ∙ sym some

pub grant_is : {w : ℕ} (links n link : ℕ) (x : BeatD w) (given : Perm) (asked : Request) (t : Trace w) (r : Bool)
    → links ≡ n → given ≡ capped x.param
    → r ≡ is_grantable links link given asked.block t → (b : Bool) → r ≡ b
    → (if b then None else Some M1) ≡ broken_grant n link x (Some asked) t
grant_is links n link x given asked t r links_is given_is r_is b e =
    ap (λ c. if c then None else Some M1) (sym e ∙ r_is ∙ rw (links_is, given_is) refl)

pub access_is : {w : ℕ} (n link : ℕ) (x : BeatD w) (given : Perm) (asked : Request) (t : Trace w) (r : Bool)
    → given ≡ needs asked.opcode
    → r ≡ had_window n link x.source given asked.block t → (b : Bool) → r ≡ b
    → (if b then None else Some M4) ≡ broken_access n link x (Some asked) t
access_is n link x given asked t r given_is r_is b e =
    ap (λ c. if c then None else Some M4) (sym e ∙ r_is ∙ rw given_is refl)

pub a_grant : {w : ℕ} (n link : ℕ) (x : BeatD w) (t : Trace w) (r : Request) (g : Bool) (o : Option MemoryRule)
    → open_request x.source (on_link link t) ≡ Some r → x.denied ≡ false
    → g ≡ is_grant x.opcode → g ≡ true → o ≡ broken_grant n link x (Some r) t → o ≡ broken_response n link x t
a_grant n link x t r g o asked taken g_is yes' o_is = o_is ∙ rw (taken, sym g_is ∙ yes', asked) refl

pub an_access : {w : ℕ} (n link : ℕ) (x : BeatD w) (t : Trace w) (r : Request) (g a : Bool) (o : Option MemoryRule)
    → open_request x.source (on_link link t) ≡ Some r → x.denied ≡ false
    → g ≡ is_grant x.opcode → g ≡ false → a ≡ is_access_ack x.opcode → a ≡ true
    → o ≡ broken_access n link x (Some r) t → o ≡ broken_response n link x t
an_access n link x t r g a o asked taken g_is no' a_is yes' o_is =
    o_is ∙ rw (taken, sym g_is ∙ no', sym a_is ∙ yes', asked) refl

pub another : {w : ℕ} (n link : ℕ) (x : BeatD w) (t : Trace w) (g a : Bool) → x.denied ≡ false → g ≡ is_grant x.opcode
    → g ≡ false → a ≡ is_access_ack x.opcode → a ≡ false
    → None ≡ broken_response n link x t
another n link x t g a taken g_is no' a_is none = rw (taken, sym g_is ∙ no', sym a_is ∙ none) refl

pub begun : {w : ℕ} (levels : List Level) (link : Link) (x : BeatD w) (t : Trace w) (b : Bool) (o : Option MemoryRule)
    → link.0 < length levels → b ≡ begins_on levels link (D x) t → b ≡ true
    → o ≡ broken_response (length levels) link.0 x t → o ≡ broken_beginning (length levels) link.0 x t
begun levels link x t b o lt b_is yes' o_is =
    let first : begins (D x) (on_link link.0 t) ≡ true =
    sym (b_is ∙ rw (lt-ltb link.0 (length levels) lt) refl) ∙ yes' in
    o_is ∙ rw first refl

pub not_begun : {w : ℕ} (levels : List Level) (link : Link) (x : BeatD w) (t : Trace w) (b : Bool)
    → link.0 < length levels → b ≡ begins_on levels link (D x) t → b ≡ false
    → None ≡ broken_beginning (length levels) link.0 x t
not_begun levels link x t b lt b_is no' =
    let first : begins (D x) (on_link link.0 t) ≡ false =
    sym (b_is ∙ rw (lt-ltb link.0 (length levels) lt) refl) ∙ no' in
    ap (λ c. if c then broken_response (length levels) link.0 x t else None) (sym first)

-- a response that breaks this rule where it begins, or none there
beginning_is : {w : ℕ} (n link : ℕ) (beat : Beat w) (x : BeatD w) (t : Trace w) (first other : Option MemoryRule)
    → beat ≡ D x → first ≡ other → first ≡ broken_beginning n link x t
    → memory_rule_or other (broken_bytes n link x t) ≡ broken_memory n link beat t
beginning_is n link beat x t first other is same first_is =
    ap (λ r. memory_rule_or r (broken_bytes n link x t)) (sym same ∙ first_is)
    ∙ ap (λ y. broken_memory n link y t) (sym is)

pub broken_beginning_is : {w : ℕ} (n link : ℕ) (beat : Beat w) (x : BeatD w) (t : Trace w) (first : Option MemoryRule)
    (rule : MemoryRule) → beat ≡ D x → first ≡ Some rule → first ≡ broken_beginning n link x t
    → Some rule ≡ broken_memory n link beat t
broken_beginning_is n link beat x t first rule is some first_is =
    beginning_is n link beat x t first (Some rule) is some first_is

pub broken_bytes_are : {w : ℕ} (n link : ℕ) (beat : Beat w) (x : BeatD w) (t : Trace w) (first o : Option MemoryRule)
    → beat ≡ D x → first ≡ None → first ≡ broken_beginning n link x t → o ≡ broken_bytes n link x t
    → o ≡ broken_memory n link beat t
broken_bytes_are n link beat x t first o is none first_is o_is =
    o_is ∙ beginning_is n link beat x t first None is none first_is

pub answered_is : {w : ℕ} (levels : List Level) (link : Link) (beat : Beat w) (x : BeatD w) (t : Trace w)
    (r : Option Request) → link.0 < length levels → beat ≡ D x → r ≡ request_on levels link x.source t
    → r ≡ request_answered beat (on_link link.0 t)
answered_is levels link beat x t r lt is r_is =
    r_is ∙ rw (lt-ltb link.0 (length levels) lt) (ap (λ y. request_answered y (on_link link.0 t)) (sym is))

pub no_d : {w : ℕ} (n link : ℕ) (beat : Beat w) (t : Trace w) → ((x : BeatD w) → beat ≡ D x → ⊥)
    → None ≡ broken_memory n link beat t
no_d n link (A x) t ne = refl
no_d n link (B x) t ne = refl
no_d n link (C x) t ne = refl
no_d n link (D x) t ne = absurd (ne x refl)
no_d n link (E x) t ne = refl
