use Rattle.std.proofs.Common.{◌≡◌, ◌++◌, drop}
use Rattle.std.specs.Prelude.{map, string_bytes}
use Rattle.tl_words.proofs.cover_words.copied_all.Given as goal

abbrev pub invariant-loop-text : goal.invariant-loop-text
invariant-loop-text l =
    map string_bytes l.copies.items ++ map (λ s. s.now) (drop l.text-index l.texts) ≡ map (λ s. s.now) l.texts
