use Rattle.std.proofs.Common.{lit<}
use Rattle.tl_params.specs.declared.level.Level.TheVariants as level
use Rattle.tl_rules.proofs.Blocks.{message_memory, message_answer, effect_elsewhere}
use Rattle.tl_rules.proofs.Bursts.{legal_is_request, control_of_legal}
use Rattle.tl_rules.proofs.perform.perform.Goals as goal

pub unreachable-requires : goal.unreachable-requires
unreachable-requires g c = let request = legal_is_request c.args.message.now c.requires.width c.requires.legal in
    c.in_default.not-A request.0 request.1

pub access-requires : goal.access-requires
access-requires g c = (
  lit< tt,
  (
    c.requires.width,
    control_of_legal level.UH c.in-A.request c.requires.width
        (rw c.in-A.is at c.requires.legal),
  ),
)

pub returns : goal.returns
returns g c = record {
  memory = message_memory c.args.message.now _ c.args.block.now c.access.new.block c.in-A.is c.access.ensures.memory;
  answer = message_answer c.args.message.now _ c.args.block.now c.access.result c.in-A.is c.access.ensures.answer;
  elsewhere = effect_elsewhere c.args.message.now c.requires.width c.requires.legal;
}
