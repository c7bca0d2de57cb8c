-- The facts that the types of a beat's and a message's fields give.
use Rattle.std.specs.Prelude.{ℕ, List, [], ◌∷◌, ◌≡◌, ◌<◌, ◌^◌, length, IfSome, ⊤}
use Rattle.tl_beat.specs.declared.beat.Beat.{Beat}
use Rattle.tl_beat.specs.declared.beat.Beat.TheVariants as beat
use Rattle.tl_burst.specs.declared.message.Message.{Message}
use Rattle.tl_burst.specs.declared.message.Message.TheVariants as message

-- 16 bits of mask, and a byte for each lane
abbrev pub IsTyped : {w : ℕ} → Beat w → Type 0
IsTyped {w} (beat.A x) = (x.mask < 2 ^ 16) × IfSome x.lanes (λ lanes. length lanes ≡ w)
IsTyped {w} (beat.B x) = (x.mask < 2 ^ 16) × IfSome x.lanes (λ lanes. length lanes ≡ w)
IsTyped {w} (beat.C x) = IfSome x.lanes (λ lanes. length lanes ≡ w)
IsTyped {w} (beat.D x) = IfSome x.lanes (λ lanes. length lanes ≡ w)
IsTyped (beat.E x) = ⊤

-- each beat is typed
abbrev pub AreTyped : {w : ℕ} → List (Beat w) → Type 0
AreTyped [] = ⊤
AreTyped (x ∷ beats) = IsTyped x × AreTyped beats

-- the payload has 64 bytes; a GrantAck has none
abbrev pub HasBlock : {w : ℕ} → Message w → Type 0
HasBlock (message.A m) = length m.payload ≡ 64
HasBlock (message.B m) = length m.payload ≡ 64
HasBlock (message.C m) = length m.payload ≡ 64
HasBlock (message.D m) = length m.payload ≡ 64
HasBlock (message.E m) = ⊤
