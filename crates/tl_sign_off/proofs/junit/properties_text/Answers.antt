use Rattle.std.proofs.Common.{codes, rules}
use Rattle.std.specs.Fmt.{decimal}
use Rattle.hex.specs.Hex.{encode_lower}
use Rattle.tl_sign_off.specs.statement.Junit.{attribute, empty_element, properties_of, property}
use Rattle.tl_sign_off.specs.statement.Report.{kit_name, version_name}
use Rattle.tl_sign_off.proofs.Said.{five_said}
use Rattle.tl_sign_off.proofs.junit.properties_text.Goals as goal

pub returns : goal.returns
unfolding properties_of property empty_element attribute
returns c = five_said c.append_property.new.out.items c.append_property-2.new.out.items c.append_property-3.new.out.items
    c.append_count.new.out.items c.append_count-2.new.out.items (property (codes "version") version_name)
    (property (codes "proved_with") kit_name) (property (codes "sha256") (encode_lower c.args.account.now.input.sum))
    (property (codes "bytes") (decimal c.args.account.now.input.bytes))
    (property (codes "beats") (decimal c.args.account.now.findings.beats))
    (search rules) (search rules) (search rules) (search rules) (search rules)
