-- The bytes that the first beats of a message carry are those of its payload.
use Rattle.tl_concord.proofs.Imports.{Message, beat_of, begun, carried_byte, could_be}
use Rattle.std.proofs.Common.{◌≡◌, ℕ, zero, suc, Bool, true, false, ◌+◌, ◌-◌, ◌*◌, ◌/◌, ◌%◌, List, [], ◌∷◌, refl, sym}
use Rattle.std.proofs.Common.{ap, ◌∙◌}
use Rattle.std.specs.Prelude.{if◌then◌else◌, ◌==◌, drop, take, Option, Some, None, slice_get, slice_index, unwrap_or}
use Rattle.std.{proofs.lemmas.Bool.eqb-true, proofs.lemmas.Bool.eq-eqb, proofs.lemmas.List.get_or-drop}
use Rattle.std.{proofs.lemmas.Option.unwrap_or-slice_get, proofs.Math.Nat.div-add-mod}
use Rattle.tl_burst.{specs.statement.Burst.lanes_at, proofs.Begun.length-begun}
use Rattle.tl_rules.specs.statement.Admission.{is_spoiled, lanes_of}

-- what is among the first is the same in all
among-first : (n : ℕ) (xs : List ℕ) (i v : ℕ) → slice_get (take n xs) i ≡ Some v → slice_get xs i ≡ Some v
among-first (suc n) (x ∷ xs) zero v e = e
among-first (suc n) (x ∷ xs) (suc i) v e = among-first n xs i v e
among-first u y i v e = absurd cc

lane-is : (xs : List ℕ) (n a i v : ℕ) → slice_get (take n (drop a xs)) i ≡ Some v → slice_index xs (a + i) ≡ v
lane-is xs n a i v e = sym (get_or-drop a xs i 0) ∙ sym (unwrap_or-slice_get (drop a xs) i 0)
    ∙ ap (λ (o : Option ℕ). unwrap_or o 0) (among-first n (drop a xs) i v e)

-- the byte at a place may be that of the payload
pub carried-begun : {w : ℕ} (m : Message w) (b : Bool) (payload : List ℕ)
    → ((k : ℕ) → lanes_of (beat_of m k) ≡ unwrap_or (lanes_at b w payload k) []) → (n place : ℕ)
    → could_be (slice_index payload place) (carried_byte (begun m n) place) ≡ true
unfolding carried_byte
carried-begun m b payload lanes zero place = refl
carried-begun {w} m b payload lanes (suc n) place =
    rw (length-begun m n) (go (place / w == n) refl (carried-begun m b payload lanes n place))
  where
    byte : (d : Bool) → b ≡ d → place / w ≡ n
        → could_be (slice_index payload place) (slice_get (unwrap_or (lanes_at d w payload n) []) (place % w)) ≡ true
    byte false e at = refl
    byte true e at = lane (slice_get (take (w * n + w - w * n) (drop (w * n) payload)) (place % w)) refl
      where
        whole : w * n + place % w ≡ place
        whole = ap (λ (i : ℕ). w * i + place % w) (sym at) ∙ div-add-mod place w

        lane : (o : Option ℕ) → slice_get (take (w * n + w - w * n) (drop (w * n) payload)) (place % w) ≡ o
            → could_be (slice_index payload place) o ≡ true
        lane None f = refl
        lane (Some v) f = eq-eqb v (slice_index payload place)
            (sym (lane-is payload (w * n + w - w * n) (w * n) (place % w) v f) ∙ ap (slice_index payload) whole)

    go : (here : Bool) → (place / w == n) ≡ here → could_be (slice_index payload place) (carried_byte (begun m n) place)
        ≡ true → could_be (slice_index payload place)
        (if here then (if is_spoiled (beat_of m n) then None else slice_get (lanes_of (beat_of m n)) (place % w)) else
        carried_byte (begun m n) place) ≡ true
    go false e before = before
    go true e before = rw (lanes n) (spoiled (is_spoiled (beat_of m n)))
      where
        spoiled : (s : Bool) → could_be (slice_index payload place)
            (if s then None else slice_get (unwrap_or (lanes_at b w payload n) []) (place % w)) ≡ true
        spoiled true = refl
        spoiled false = byte b refl (eqb-true (place / w) n e)
