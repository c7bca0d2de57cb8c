-- What the beats of a renamed burst carry.
use Rattle.tl_renaming.proofs.Imports.{Beat, A, B, C, D, E, Renaming, renamed}
use Rattle.tl_renaming.{proofs.Bursts.length-kept, proofs.Choices.one-found}
use Rattle.std.proofs.Common.{◌≡◌, ℕ, List, [], ◌∷◌, map, refl}
use Rattle.std.specs.Prelude.{is_some, find}
use Rattle.tl_bytes.specs.statement.Bytes.{carried_byte, carried_mask, is_denied}
use Rattle.tl_rules.specs.statement.Admission.{bytes_carried, is_spoiled, lanes_of}

module _ {w : ℕ} (r : Renaming) where
  pub spoiled-kept : (x : Beat w) → is_spoiled (renamed r x) ≡ is_spoiled x
  spoiled-kept (A x) = refl
  spoiled-kept (B x) = refl
  spoiled-kept (C x) = refl
  spoiled-kept (D x) = refl
  spoiled-kept (E x) = refl

  pub lanes-kept : (x : Beat w) → lanes_of (renamed r x) ≡ lanes_of x
  lanes-kept (A x) = refl
  lanes-kept (B x) = refl
  lanes-kept (C x) = refl
  lanes-kept (D x) = refl
  lanes-kept (E x) = refl

  pub carried-byte-kept : (burst : List (Beat w)) (place : ℕ)
      → carried_byte (map (renamed r) burst) place ≡ carried_byte burst place
  unfolding carried_byte
  carried-byte-kept [] place = refl
  carried-byte-kept (x ∷ burst) place =
      rw (length-kept r burst, spoiled-kept x, lanes-kept x, carried-byte-kept burst place) refl

  pub carried-mask-kept : (burst : List (Beat w)) → carried_mask (map (renamed r) burst) ≡ carried_mask burst
  unfolding carried_mask
  carried-mask-kept [] = refl
  carried-mask-kept (A x ∷ burst) = rw (carried-mask-kept burst, length-kept r burst) refl
  carried-mask-kept (B x ∷ burst) = refl
  carried-mask-kept (C x ∷ burst) = refl
  carried-mask-kept (D x ∷ burst) = refl
  carried-mask-kept (E x ∷ burst) = refl

  pub bytes-carried-kept : (burst : List (Beat w)) → bytes_carried (map (renamed r) burst) ≡ bytes_carried burst
  unfolding bytes_carried
  bytes-carried-kept [] = refl
  bytes-carried-kept (x ∷ burst) = rw (bytes-carried-kept burst, lanes-kept x) refl

  -- one of the beats is spoiled
  pub some-spoiled-kept : (burst : List (Beat w))
      → is_some (find is_spoiled (map (renamed r) burst)) ≡ is_some (find is_spoiled burst)
  some-spoiled-kept [] = refl
  some-spoiled-kept (x ∷ burst) =
      one-found (is_spoiled (renamed r x)) (is_spoiled x) (renamed r x) x (find is_spoiled (map (renamed r) burst))
      (find is_spoiled burst) (spoiled-kept x) (some-spoiled-kept burst)

  pub denied-kept : (burst : List (Beat w)) → is_denied (map (renamed r) burst) ≡ is_denied burst
  denied-kept [] = refl
  denied-kept (A x ∷ burst) = refl
  denied-kept (B x ∷ burst) = refl
  denied-kept (C x ∷ burst) = refl
  denied-kept (D x ∷ burst) = refl
  denied-kept (E x ∷ burst) = refl
