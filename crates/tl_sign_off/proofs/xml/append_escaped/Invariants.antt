use Rattle.std.proofs.Common.{◌≡◌, ◌++◌, drop}
use Rattle.std.specs.List.{flat_map}
use Rattle.tl_sign_off.specs.statement.Junit.{escaped_byte}
use Rattle.tl_sign_off.proofs.xml.append_escaped.Given as goal

abbrev pub invariant-loop-byte : goal.invariant-loop-byte
invariant-loop-byte l =
    l.out.items ++ flat_map escaped_byte (drop l.byte-index l.value)
    ≡ l.initial.out.items ++ flat_map escaped_byte l.value
