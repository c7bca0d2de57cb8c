-- Each beat that is taken was first on its channel: what holds of all that are holds of what is delivered.
use Rattle.std.proofs.Common.{◌≡◌, ℕ, Bool, true, false, ◌==◌, if◌then◌else◌, List, [], ◌∷◌, ◌++◌, refl, sym, ◌∙◌, ap}
use Rattle.tl_coherence.proofs
use proofs.Imports.{Beat, Link, Channel, IsWidth, channel_of, Config, Finish, Event, Deliver, Outcome, AbstractState}
use proofs.Imports.{SimulationRelation, is_moving, taken_at, flow, IsGiven, Log, system_after, is_to_client, stepped}
use Rattle.tl_coherence.{specs.statement.Flow.IsTaken, specs.statement.Flow.EachTaken, specs.statement.Log.IsLog}
use proofs.bound.Settling.{given-before}
use proofs.deliveries.Matching.{shadow}
use proofs.flow.Flows.{moved-on}
use proofs.links.{FromInvariant.matched-given, HeadsOfLinks.first-of}
use proofs.outstanding.Outstanding.{first-moved}
use proofs.queues.Tokens.{same_number}

-- a beat that is moved was first on its channel
moved-first : {w : ℕ} {config : Config} {log : Log w} (h : AbstractState w) (link : Link) (ch : Channel) (o : Outcome w)
    (x : Beat w) → IsWidth w → SimulationRelation config log h.mail h.request h.state (system_after config log)
    → o ≡ (stepped config (Deliver link ch) (system_after config log)).outcome → is_moving o ≡ true
    → ((d : ℕ) → flow d ((Deliver link ch, o) ∷ log) ≡ (if link.0 == d then x ∷ flow d log else flow d log))
    → (queue : List (Beat w)) × ((system_after config log).channels link.0 (channel_of x) ≡ x ∷ queue)
moved-first {w} {config} {log} h link ch o x width is o_is moves delivered =
    let moving = sym (ap is_moving o_is) ∙ moves in
    let at = first-moved config link ch _ moving in
    let on : channel_of at.0 ≡ ch = (first-of config log h link.0 at.2 ch at.0 at.1 width is at.3.1 at.3.0).on in
    let head : (b : Bool) → b ≡ true → (if b then x ∷ flow link.0 log else flow link.0 log) ≡ (if b then at.0
    ∷ flow link.0 log else flow link.0 log) → at.0 ≡ x = elim [ true ↦ λ e f. cc | false ↦ λ e f. absurd cc ] in
    let moved = moved-on link ch h at.0 at.1 at.2 width is at.3.0 at.3.1 moving (is_to_client ch) refl in
    let both : (if link.0 == link.0 then x ∷ flow link.0 log else flow link.0 log) ≡ (if link.0 == link.0 then at.0
    ∷ flow link.0 log else flow link.0 log) = cc (delivered link.0, o_is, moved.delivered link.0) in
    let same : at.0 ≡ x = head (link.0 == link.0) (same_number link.0) both in (at.1, cc at.3.0)

-- the beat of an outcome
moved-beat : {w : ℕ} {config : Config} {log : Log w} (h : AbstractState w) (link : Link) (ch : Channel) (x : Beat w)
    → IsWidth w → SimulationRelation config log h.mail h.request h.state (system_after config log)
    → Outcome.Moved x ≡ (stepped config (Deliver link ch) (system_after config log)).outcome → (queue : List (Beat w))
    × ((system_after config log).channels link.0 (channel_of x) ≡ x ∷ queue)
unfolding flow
moved-beat {log} h link ch x width is o_is =
    let taken_there : (d : ℕ) (b : Bool) → (if b then x ∷ [] else []) ++ flow d log
    ≡ (if b then x ∷ flow d log else flow d log) = λ d. elim [ true ↦ refl | false ↦ refl ] in
    moved-first h link ch _ x width is o_is refl (λ d. taken_there d (link.0 == d))

done-beat : {w : ℕ} {config : Config} {log : Log w} (h : AbstractState w) (link : Link) (ch : Channel) (x : Beat w)
    (source : ℕ) (f : Finish) → IsWidth w
    → SimulationRelation config log h.mail h.request h.state (system_after config log)
    → Outcome.Done x source f ≡ (stepped config (Deliver link ch) (system_after config log)).outcome
    → (queue : List (Beat w)) × ((system_after config log).channels link.0 (channel_of x) ≡ x ∷ queue)
unfolding flow
done-beat {log} h link ch x source f width is o_is =
    let taken_there : (d : ℕ) (b : Bool) → (if b then x ∷ [] else []) ++ flow d log
    ≡ (if b then x ∷ flow d log else flow d log) = λ d. elim [ true ↦ refl | false ↦ refl ] in
    moved-first h link ch _ x width is o_is refl (λ d. taken_there d (link.0 == d))

-- ---- all that is taken

module _ {w : ℕ} (config : Config) (P : Log w → ℕ → Beat w → Type 0)
    (front : (log : Log w) → IsGiven config log → (c : ℕ) (x : Beat w) (queue : List (Beat w))
    → (system_after config log).channels c (channel_of x) ≡ x ∷ queue → P log c x)
  where
    taken-event : (event : Event w) (o : Outcome w) (log : Log w) → IsGiven config ((event, o) ∷ log)
        → o ≡ (stepped config event (system_after config log)).outcome → IsTaken P log (taken_at event o)
    taken-event (Deliver link ch) (Outcome.Moved x) log given o_is =
        let before = given-before config (Deliver link ch, Outcome.Moved x) log given in
        let first = moved-beat (shadow config log) link ch x given.width (matched-given config log before) o_is in
        front log before link.0 x first.0 first.1
    taken-event (Deliver link ch) (Outcome.Done x source f) log given o_is =
        let before = given-before config (Deliver link ch, Outcome.Done x source f) log given in
        let first = done-beat (shadow config log) link ch x source f given.width
        (matched-given config log before) o_is in
        front log before link.0 x first.0 first.1
    taken-event event o log given o_is = tt

    pub each-taken : (log : Log w) → IsGiven config log → EachTaken P log
    unfolding EachTaken IsLog
    each-taken [] given = tt
    each-taken (x ∷ log) given =
        (taken-event x.0 x.1 log given given.is_log.0, each-taken log (given-before config x log given))
