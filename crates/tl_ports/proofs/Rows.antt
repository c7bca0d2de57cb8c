-- What messages add to the channels of links, evaluated.
use Rattle.std.proofs.Common.{◌≡◌, refl, lit≤}
use Rattle.std.specs.Prelude.{ℕ, List, [], ◌∷◌, ◌++◌, replicate, map, length, true, false}
use Rattle.tl_beat.specs.declared.beat.Beat.TheVariants as beat
use Rattle.tl_beat.specs.declared.beat.Link.{Link}
use Rattle.tl_beat.specs.declared.channel.Channel.TheVariants as channel
use Rattle.tl_beat.specs.declared.opcode.OpD.TheVariants as d
use Rattle.tl_burst.specs.declared.message.Message.{Message}
use Rattle.tl_burst.specs.declared.message.Message.TheVariants as message
use Rattle.tl_rules.specs.statement.Legality.{beats_from}
use Rattle.tl_ports.specs.statement.Waiting.{handed_all, is_place}

abbrev at : ℕ → Link
at link = record { 0 = link }

abbrev acknowledge : {w : ℕ} → ℕ → Message w
acknowledge sink = message.E (record { sink = sink })

-- a Grant of a block of zeros but for its last byte
abbrev grant : {w : ℕ} → Message w
grant = message.D (record {
  opcode = d.GrantData;
  param = 0;
  size = 6;
  source = 2;
  sink = 1;
  denied = false;
  payload = replicate 63 0 ++ 165 ∷ [];
  corrupt = 0;
  small = lit≤ tt;
})

abbrev handed : {w : ℕ} → List (Link × Message w)
handed = (at 0, acknowledge 3) ∷ (at 1, grant) ∷ (at 1, acknowledge 4) ∷ (at 0, acknowledge 5) ∷ []

-- each channel of each link has its own, in order
pub on_its_link : handed_all {w = 8} 0 channel.E handed
    ≡ beat.E (record { sink = 3 }) ∷ beat.E (record { sink = 5 }) ∷ []
unfolding beats_from
on_its_link = refl

pub on_no_other : handed_all {w = 8} 0 channel.D handed ≡ []
unfolding beats_from
on_no_other = refl

-- a block has as many beats as the width says, and the last byte is in the last
pub so_many : map (λ w. length (handed_all {w = w} 1 channel.D handed)) (4 ∷ 8 ∷ 16 ∷ []) ≡ 16 ∷ 8 ∷ 4 ∷ []
unfolding beats_from
so_many = refl

pub places : map (λ ch. is_place 1 ch 1 channel.B) (channel.A ∷ channel.B ∷ channel.C ∷ []) ≡ false ∷ true ∷ false ∷ []
places = refl
