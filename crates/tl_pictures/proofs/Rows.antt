-- What pictures show, evaluated.
use Rattle.std.proofs.Common.{◌≡◌, refl}
use Rattle.std.specs.Prelude.{ℕ, List, [], ◌∷◌, replicate, map, is_some, true, false, Some, None}
use Rattle.tl_beat.specs.declared.beat.Beat.TheVariants as beat
use Rattle.tl_beat.specs.declared.opcode.OpA.TheVariants as a
use Rattle.tl_pictures.specs.declared.picture.Picture.{Picture}
use Rattle.tl_pictures.specs.statement.Depicted.{depicted}
use Rattle.tl_pictures.specs.statement.Picture.{shown, some_lanes}

-- a beat of channel A with these lanes, opcode and mask: 8 bytes at address 64
abbrev requested : List ℕ → ℕ → ℕ → Picture
requested lanes opcode mask = record {
  lanes = lanes;
  address = 64;
  mask = mask;
  channel = 0;
  opcode = opcode;
  param = 0;
  size = 3;
  source = 1;
  sink = 0;
  denied = 0;
  corrupt = 0;
}

abbrev zeros : List ℕ
zeros = replicate 16 0

-- bytes in the first eight lanes
abbrev eight : List ℕ
eight = 1 ∷ 2 ∷ 3 ∷ 4 ∷ 5 ∷ 6 ∷ 7 ∷ 8 ∷ replicate 8 0

pub a_put : shown 8 (requested eight 0 255) ≡ Some (beat.A (record {
  opcode = a.PutFullData;
  param = 0;
  size = 3;
  source = 1;
  address = 64;
  mask = 255;
  lanes = Some (1 ∷ 2 ∷ 3 ∷ 4 ∷ 5 ∷ 6 ∷ 7 ∷ 8 ∷ []);
  corrupt = false;
  carries = refl;
}))
unfolding some_lanes
a_put = refl

-- a Get carries no data; a mask has the width's bits, data stand in its lanes; there are eight opcodes
pub none_shown : map (λ x. is_some (shown 8 x)) (requested zeros 4 255 ∷ requested eight 4 255 ∷ requested zeros 4 256
    ∷ requested (replicate 16 1) 0 255 ∷ requested zeros 8 255 ∷ []) ≡ true ∷ false ∷ false ∷ false ∷ false ∷ []
none_shown = refl

pub narrower : shown 4 (requested eight 0 15) ≡ None
narrower = refl

-- what is shown of the beat shows it again
pub there_and_back : depicted {w = 8} (beat.A (record {
  opcode = a.PutFullData;
  param = 0;
  size = 3;
  source = 1;
  address = 64;
  mask = 255;
  lanes = Some (1 ∷ 2 ∷ 3 ∷ 4 ∷ 5 ∷ 6 ∷ 7 ∷ 8 ∷ []);
  corrupt = false;
  carries = refl;
})) ≡ requested eight 0 255
there_and_back = refl
