use Rattle.tl_rules.proofs.Local.{after-local, reply-local}
use Rattle.tl_rules.proofs.law.acts_on_its_block.Goals as goal

pub returns-clause-after : goal.returns-clause-after
returns-clause-after g c = λ m f h room same. after-local m.opcode m f h room same

pub returns-clause-reply : goal.returns-clause-reply
returns-clause-reply g c = λ m f h room same. reply-local m.opcode m f h room same
