-- Where no beat before is at fault, the burst that is unfinished began where its key was last opened.
use Rattle.std.proofs.Common.{◌≡◌, ℕ, ◌+◌, ◌==◌, ◌&&◌, List, [], ◌∷◌, length, true, false, Bool, not, refl, sym, ap}
use Rattle.std.proofs.Common.{◌∙◌}
use Rattle.std.specs.Prelude.{Option, Some, None, is_none, if◌then◌else◌}
use Rattle.tl_beat.specs.declared.beat.Beat.{Beat}
use Rattle.tl_beat.specs.declared.beat.Beat.TheVariants as beat
use Rattle.tl_beat.specs.declared.beat.Link.{Link}
use Rattle.tl_beat.specs.declared.channel.Channel.{Channel}
use Rattle.tl_burst.specs.statement.Messages.{History, breaks_burst, burst_length, on, same_control}
use Rattle.tl_burst.specs.statement.Messages.{unfinished}
use Rattle.tl_burst.specs.statement.Part.{is_empty}
use Rattle.tl_burst.proofs.ControlFields.{control_a, control_c, control_d}
use Rattle.tl_monitor.proofs.Continued.{own-channel}
use Rattle.tl_monitor.proofs.Judged.{continues}
use Rattle.tl_params.specs.declared.key.Key.{Key}
use Rattle.tl_params.specs.declared.key.Key.TheVariants.{RequestSource, ReleaseSource, AcquireOf, ReleaseOf, GrantSink}
use Rattle.tl_params.specs.declared.key.Key.TheVariants.{GrantAckOf, ProbeOf}
use Rattle.tl_params.specs.declared.level.Level.{Level}
use Rattle.tl_params.specs.declared.liberties.Liberties.{Liberties}
use Rattle.tl_params.specs.declared.rule.Rule.{Rule}
use Rattle.tl_rules.specs.statement.Conformance.{Trace, on_link}
use Rattle.tl_rules.specs.statement.Liberties.{broken_after_under, is_legal_under}
use Rattle.tl_rules.specs.statement.History.{begins, opens}
use Rattle.tl_explain.specs.declared.told.Mention.{Mention}
use Rattle.tl_explain.specs.statement.Evidence.{burst_opening, last_opening, last_where, told}
use Rattle.tl_explain.specs.statement.Reasons.{comes_in, opening_channel}
use Rattle.tl_explain.proofs.Plain.{both_true}

not_false : (b : Bool) → not b ≡ false → b ≡ true
not_false true e = refl
not_false false e = absurd cc

never : {A : Type 0} (b : Bool) (m rest : A) → (if b && false then m else rest) ≡ rest
never true m rest = refl
never false m rest = refl

no_rule : (o : Option Rule) → is_none o ≡ true → o ≡ None
no_rule None e = refl
no_rule (Some rule) e = absurd cc

-- ---- the beats of a burst name one key

pub none_comes : (w : ℕ) (k : Key) → comes_in {w = w} k [] ≡ true → ⊥
none_comes w (RequestSource s) e = absurd cc
none_comes w (ReleaseSource s) e = absurd cc
none_comes w (AcquireOf k) e = absurd cc
none_comes w (ReleaseOf k) e = absurd cc
none_comes w (GrantSink s) e = absurd cc
none_comes w (GrantAckOf k) e = absurd cc
none_comes w (ProbeOf k) e = absurd cc

opens_key : {w : ℕ} (k : Key) (x : Beat w) (u : List (Beat w)) (h : History w) → comes_in k (x ∷ u) ≡ true
    → opens k x h ≡ true
opens_key (RequestSource s) (beat.A x) u h e = e
opens_key (RequestSource s) (beat.B x) u h e = absurd cc
opens_key (RequestSource s) (beat.C x) u h e = absurd cc
opens_key (RequestSource s) (beat.D x) u h e = absurd cc
opens_key (RequestSource s) (beat.E x) u h e = absurd cc
opens_key (ReleaseSource s) (beat.A x) u h e = absurd cc
opens_key (ReleaseSource s) (beat.B x) u h e = absurd cc
opens_key (ReleaseSource s) (beat.C x) u h e = e
opens_key (ReleaseSource s) (beat.D x) u h e = absurd cc
opens_key (ReleaseSource s) (beat.E x) u h e = absurd cc
opens_key (GrantSink s) (beat.A x) u h e = absurd cc
opens_key (GrantSink s) (beat.B x) u h e = absurd cc
opens_key (GrantSink s) (beat.C x) u h e = absurd cc
opens_key (GrantSink s) (beat.D x) u h e = e
opens_key (GrantSink s) (beat.E x) u h e = absurd cc
opens_key (AcquireOf k) x u h e = absurd cc
opens_key (ReleaseOf k) x u h e = absurd cc
opens_key (GrantAckOf k) x u h e = absurd cc
opens_key (ProbeOf k) x u h e = absurd cc

-- a burst of a key is of the channel whose messages open it
elsewhere : {w : ℕ} (k : Key) (x : Beat w) (u : List (Beat w)) (h : History w) → comes_in k u ≡ true
    → on (opening_channel k) x ≡ false → opens k x h ≡ false
elsewhere (RequestSource s) (beat.A x) u h e f = absurd cc
elsewhere (RequestSource s) (beat.B x) u h e f = refl
elsewhere (RequestSource s) (beat.C x) u h e f = refl
elsewhere (RequestSource s) (beat.D x) u h e f = refl
elsewhere (RequestSource s) (beat.E x) u h e f = refl
elsewhere (ReleaseSource s) (beat.A x) u h e f = refl
elsewhere (ReleaseSource s) (beat.B x) u h e f = refl
elsewhere (ReleaseSource s) (beat.C x) u h e f = absurd cc
elsewhere (ReleaseSource s) (beat.D x) u h e f = refl
elsewhere (ReleaseSource s) (beat.E x) u h e f = refl
elsewhere (GrantSink s) (beat.A x) u h e f = refl
elsewhere (GrantSink s) (beat.B x) u h e f = refl
elsewhere (GrantSink s) (beat.C x) u h e f = refl
elsewhere (GrantSink s) (beat.D x) u h e f = absurd cc
elsewhere (GrantSink s) (beat.E x) u h e f = refl
elsewhere (AcquireOf k) x u h e f = absurd cc
elsewhere (ReleaseOf k) x u h e f = absurd cc
elsewhere (GrantAckOf k) x u h e f = absurd cc
elsewhere (ProbeOf k) x u h e f = absurd cc

same_key : {w : ℕ} (k : Key) (x y : Beat w) (u v : List (Beat w)) → same_control x y ≡ true
    → comes_in k (x ∷ u) ≡ true → comes_in k (y ∷ v) ≡ true
same_key (RequestSource s) (beat.A x) (beat.A y) u v e f = let is = control_a x y e in rw (sym is.3) f
same_key (RequestSource s) (beat.A x) (beat.B y) u v e f = absurd cc
same_key (RequestSource s) (beat.A x) (beat.C y) u v e f = absurd cc
same_key (RequestSource s) (beat.A x) (beat.D y) u v e f = absurd cc
same_key (RequestSource s) (beat.A x) (beat.E y) u v e f = absurd cc
same_key (RequestSource s) (beat.B x) y u v e f = absurd cc
same_key (RequestSource s) (beat.C x) y u v e f = absurd cc
same_key (RequestSource s) (beat.D x) y u v e f = absurd cc
same_key (RequestSource s) (beat.E x) y u v e f = absurd cc
same_key (ReleaseSource s) (beat.C x) (beat.C y) u v e f = let is = control_c x y e in rw (sym is.0, sym is.3) f
same_key (ReleaseSource s) (beat.C x) (beat.A y) u v e f = absurd cc
same_key (ReleaseSource s) (beat.C x) (beat.B y) u v e f = absurd cc
same_key (ReleaseSource s) (beat.C x) (beat.D y) u v e f = absurd cc
same_key (ReleaseSource s) (beat.C x) (beat.E y) u v e f = absurd cc
same_key (ReleaseSource s) (beat.A x) y u v e f = absurd cc
same_key (ReleaseSource s) (beat.B x) y u v e f = absurd cc
same_key (ReleaseSource s) (beat.D x) y u v e f = absurd cc
same_key (ReleaseSource s) (beat.E x) y u v e f = absurd cc
same_key (GrantSink s) (beat.D x) (beat.D y) u v e f = let is = control_d x y e in rw (sym is.0, sym is.4) f
same_key (GrantSink s) (beat.D x) (beat.A y) u v e f = absurd cc
same_key (GrantSink s) (beat.D x) (beat.B y) u v e f = absurd cc
same_key (GrantSink s) (beat.D x) (beat.C y) u v e f = absurd cc
same_key (GrantSink s) (beat.D x) (beat.E y) u v e f = absurd cc
same_key (GrantSink s) (beat.A x) y u v e f = absurd cc
same_key (GrantSink s) (beat.B x) y u v e f = absurd cc
same_key (GrantSink s) (beat.C x) y u v e f = absurd cc
same_key (GrantSink s) (beat.E x) y u v e f = absurd cc
same_key (AcquireOf k) x y u v e f = absurd cc
same_key (ReleaseOf k) x y u v e f = absurd cc
same_key (GrantAckOf k) x y u v e f = absurd cc
same_key (ProbeOf k) x y u v e f = absurd cc

-- ---- the last opening is the burst's

joined : {w : ℕ} (k : Key) (x : Beat w) (u : List (Beat w)) (first opened : Bool) (m : Mention) (o b : Option Mention)
    → first ≡ is_empty u → opened ≡ true → breaks_burst x u ≡ false → comes_in k (x ∷ u) ≡ true
    → (comes_in k u ≡ true → o ≡ b)
    → (if first && opened then Some m else o) ≡ (if is_empty u then Some m else b)
joined k x [] first opened m o b e f g comes ih = rw (e, f) refl
joined k x (y ∷ u) first opened m o b e f g comes ih =
    rw e (ih (same_key k x y (y ∷ u) u (not_false (same_control x y) g) comes))

module _ {w : ℕ} (n : ℕ) (k : Key) (l : Level) (lib : Liberties) (x : Link × Beat w) (t : Trace w) where
  abbrev ch : Channel
  ch = opening_channel k

  abbrev h : History w
  h = on_link n t

  abbrev Legal : Trace w → Type 0
  Legal s = is_legal_under lib l (on_link n s) ≡ true

  abbrev Comes : Trace w → Type 0
  Comes s = comes_in k (unfinished ch (on_link n s)) ≡ true

  abbrev Same : Trace w → Type 0
  Same s = last_opening n k s ≡ burst_opening n ch s

  with_beat : on ch x.1 ≡ true → is_none (broken_after_under lib l x.1 h) ≡ true → Legal t → (Legal t → Comes t → Same t)
      → (ends : Bool) → comes_in k (if ends then [] else x.1 ∷ unfinished ch h) ≡ true
      → (if begins x.1 h && opens k x.1 h then Some (told x t) else last_opening n k t)
      ≡ (if is_empty (if ends then [] else x.1 ∷ unfinished ch h) then None else
      if is_empty (unfinished ch h) then Some (told x t) else burst_opening n ch t)
  with_beat own unbroken legal ih true comes = absurd (none_comes w k comes)
  with_beat own unbroken legal ih false comes =
      joined k x.1 (unfinished ch h) (begins x.1 h) (opens k x.1 h) (told x t) (last_opening n k t)
      (burst_opening n ch t)
      (ap (λ (c : Channel). is_empty (unfinished c h)) (sym (own-channel ch x.1 own)))
      (opens_key k x.1 (unfinished ch h) h comes)
      (ap (λ (c : Channel). breaks_burst x.1 (unfinished c h)) (own-channel ch x.1 own) ∙ continues lib l x.1 h (no_rule _ unbroken))
      comes
      (λ before. ih legal before)

  step : (here : Bool) → (x.0.0 == n) ≡ here → (own : Bool) → on ch x.1 ≡ own → Legal (x ∷ t) → Comes (x ∷ t)
      → (Legal t → Comes t → Same t) → Same (x ∷ t)
  unfolding on_link unfinished last_where burst_opening is_legal_under
  step false e own f legal comes ih = rw e (ih (rw e at legal) (rw e at comes))
  step true e false f legal comes ih =
      let parts = both_true (is_none (broken_after_under lib l x.1 h)) (is_legal_under lib l h) (rw e at legal) in
      let before : Comes t = rw (e, f) at comes in
      rw (e, f, elsewhere k x.1 (unfinished ch h) h before f)
      (never (begins x.1 h) (Some (told x t)) (last_opening n k t) ∙ ih parts.1 before)
  step true e true f legal comes ih =
      let parts = both_true (is_none (broken_after_under lib l x.1 h)) (is_legal_under lib l h) (rw e at legal) in
      rw (e, f) (with_beat f parts.0 parts.1 ih (length (unfinished ch h) + 1 == burst_length x.1) (rw (e, f) at comes))

pub burst_opened : {w : ℕ} (n : ℕ) (k : Key) (l : Level) (lib : Liberties) (t : Trace w)
    → is_legal_under lib l (on_link n t) ≡ true → comes_in k (unfinished (opening_channel k) (on_link n t)) ≡ true
    → last_opening n k t ≡ burst_opening n (opening_channel k) t
unfolding last_where burst_opening
burst_opened n k l lib [] legal comes = refl
burst_opened n k l lib (x ∷ t) legal comes =
    step n k l lib x t (x.0.0 == n) refl (on (opening_channel k) x.1) refl legal comes (burst_opened n k l lib t)
