-- Beats of one channel that are the same.
use Rattle.std.proofs.Common.{◌≡◌, ℕ}
use Rattle.tl_concord.proofs.Imports.{Beat}
use Rattle.tl_beat.{specs.declared.beat.BeatA.BeatA, specs.declared.beat.BeatC.BeatC, specs.declared.beat.BeatD.BeatD}

pub same_a : {w : ℕ} (x y : BeatA w) → Beat.A x ≡ Beat.A y → x ≡ y
same_a x y e = cc

pub same_c : {w : ℕ} (x y : BeatC w) → Beat.C x ≡ Beat.C y → x ≡ y
same_c x y e = cc

pub same_d : {w : ℕ} (x y : BeatD w) → Beat.D x ≡ Beat.D y → x ≡ y
same_d x y e = cc
