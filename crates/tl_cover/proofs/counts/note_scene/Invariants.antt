use Rattle.std.proofs.Common.{◌≡◌, ◌≤◌, drop, length}
use Rattle.tl_cover.specs.code.Covering.{noted_to}
use Rattle.tl_cover.specs.code.Groups.{Fits}
use Rattle.tl_cover.proofs.counts.note_scene.Given as goal

abbrev pub invariant-loop-stretch : goal.invariant-loop-stretch
invariant-loop-stretch g l = Fits 0 l.stretches l.fn.rows.items
    → (l.rows.items ≡ noted_to l.line l.beat l.scene l.at l.fn.rows.items)
    × (l.at ≤ length l.fn.rows.items)
    × Fits l.at (drop l.stretch-index l.stretches) (drop l.at l.fn.rows.items)
