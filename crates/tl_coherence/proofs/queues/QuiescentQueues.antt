-- Where no delivery is movable, nothing is on a channel; and where nothing is on a channel, none is movable.
use Rattle.std.proofs.Common.{◌≡◌, ℕ, zero, suc, ◌+◌, ◌<◌, ◌≤◌, Bool, true, false, [], refl, arith, length, Option}
use Rattle.std.proofs.Common.{Some, None, if◌then◌else◌, option_map, slice_get}
use Rattle.tl_coherence.proofs
use proofs.Imports.{cases_eq, same_Some, Link, Channel, ClientConfig, Config, EndConfig, is_movable, first_movable}
use proofs.Imports.{next_delivery, System, terms_at}
use Rattle.std.proofs.lemmas.Option.{slice_get_within}
use Rattle.tl_coherence.specs.statement.Movable.{movable_on, or_later}

-- ---- which delivery is next

none-first : {w : ℕ} (config : Config) (ch : Channel) (link n : ℕ) (s : System w)
    → first_movable config ch link n s ≡ None → (c : ℕ) → link ≤ c → c < link + n → is_movable config c ch s ≡ false
unfolding first_movable
none-first config ch link zero s none c low high = absurd (omega (arith, low, high))
none-first config ch link (suc n) s none c low high =
    go (is_movable config link ch s) refl none (λ h l. none-first config ch (link + 1) n s h c l (omega (arith, high)))
  where
    go : (b : Bool) → is_movable config link ch s ≡ b
        → (if b then Some (record { 0 = link }, ch) else first_movable config ch (link + 1) n s) ≡ None
        → (first_movable config ch (link + 1) n s ≡ None → link + 1 ≤ c → is_movable config c ch s ≡ false)
        → is_movable config c ch s ≡ false
    go b e f g = grind (arith, cases_eq)

pub first-none : {w : ℕ} (config : Config) (ch : Channel) (link n : ℕ) (s : System w)
    → ((c : ℕ) → is_movable config c ch s ≡ false) → first_movable config ch link n s ≡ None
unfolding first_movable
first-none config ch link zero s none = refl
first-none config ch link (suc n) s none = rw (none link) (first-none config ch (link + 1) n s none)

pub client_below : (config : Config) (c : ℕ) (terms : EndConfig) → terms_at config c ≡ Some terms
    → c < length config.clients.items
client_below config c terms is =
    let go : (o : Option ClientConfig) → slice_get config.clients.items c ≡ o → option_map
    (λ x. record { level = x.level; profile = config.profile; sources = x.sources; blocks = config.blocks }) o
    ≡ Some terms → c < length config.clients.items =
    elim [ None ↦ λ e f. absurd cc | Some x ↦ λ e f. slice_get_within config.clients.items c x e ] in
    go (slice_get config.clients.items c) refl is

none-both : {X : Type 0} (a b : Option X) → or_later a b ≡ None → (a ≡ None) × (b ≡ None)
none-both None b e = (refl, e)
none-both (Some x) b e = absurd cc

-- no delivery is next: so none of a client's link is movable
pub nothing-moves : {w : ℕ} (config : Config) (s : System w) (c : ℕ) (terms : EndConfig) (ch : Channel)
    → terms_at config c ≡ Some terms → next_delivery config s ≡ None → is_movable config c ch s ≡ false
unfolding next_delivery
nothing-moves config s c terms ch is none =
    let e = none-both _ _ none in
    let d = none-both _ _ e.1 in
    let c_and = none-both _ _ d.1 in
    let b_and = none-both _ _ c_and.1 in
    go ch e.0 d.0 c_and.0 b_and.0 b_and.1
  where
    on : (x : Channel) → movable_on config x s ≡ None → is_movable config c x s ≡ false
    on x h = none-first _ x 0 _ s h c (omega arith) (let below = client_below config c terms is in omega (arith, below))

    go : (x : Channel) → movable_on config Channel.E s ≡ None → movable_on config Channel.D s ≡ None
        → movable_on config Channel.C s ≡ None → movable_on config Channel.B s ≡ None
        → movable_on config Channel.A s ≡ None → is_movable config c x s ≡ false
    go x e f g h i = grind (arith, on)

pub no-next : {w : ℕ} (config : Config) (s : System w) → ((c : ℕ) (ch : Channel) → is_movable config c ch s ≡ false)
    → next_delivery config s ≡ None
unfolding next_delivery
no-next config s none = rw (
  first-none config Channel.E 0 (length config.clients.items) s (λ c. none c Channel.E),
  first-none config Channel.D 0 (length config.clients.items) s (λ c. none c Channel.D),
  first-none config Channel.C 0 (length config.clients.items) s (λ c. none c Channel.C),
  first-none config Channel.B 0 (length config.clients.items) s (λ c. none c Channel.B),
) (first-none config Channel.A 0 (length config.clients.items) s (λ c. none c Channel.A))

-- ---- the delivery that is next is movable

first-some : {w : ℕ} (config : Config) (ch : Channel) (link n : ℕ) (s : System w) (d : Link × Channel)
    → first_movable config ch link n s ≡ Some d → is_movable config d.0.0 d.1 s ≡ true
unfolding first_movable
first-some config ch link zero s d e = absurd cc
first-some config ch link (suc n) s d e =
    go (is_movable config link ch s) refl e (λ f. first-some config ch (link + 1) n s d f)
  where
    go : (b : Bool) → is_movable config link ch s ≡ b
        → (if b then Some (record { 0 = link }, ch) else first_movable config ch (link + 1) n s) ≡ Some d
        → (first_movable config ch (link + 1) n s ≡ Some d → is_movable config d.0.0 d.1 s ≡ true)
        → is_movable config d.0.0 d.1 s ≡ true
    go true f g rest = rw (← (same_Some (record { 0 = link }, ch) d g)) f
    go false f g rest = rest g

pub next-movable : {w : ℕ} (config : Config) (s : System w) (d : Link × Channel) → next_delivery config s ≡ Some d
    → is_movable config d.0.0 d.1 s ≡ true
unfolding next_delivery
next-movable {w} config s d next = grind (arith, first-some)

-- ---- a channel without a beat

pub empty-still : {w : ℕ} (config : Config) (s : System w) (c : ℕ) (ch : Channel) → s.channels c ch ≡ []
    → is_movable config c ch s ≡ false
unfolding is_movable
empty-still config s c ch none = grind arith
