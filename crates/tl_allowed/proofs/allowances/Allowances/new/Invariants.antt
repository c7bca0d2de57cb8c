use Rattle.std.proofs.Common.{◌≡◌, ◌<◌, [], length, take}
use Rattle.tl_params.specs.statement.Config.{IsCount}
use Rattle.tl_allowed.specs.code.Known.{liberties_in}
use Rattle.tl_command.specs.statement.LibertyWords.{all_liberties}
use Rattle.tl_allowed.proofs.Wider.{KnowEach}
use Rattle.tl_allowed.proofs.allowances.Allowances.new.Given as goal

abbrev pub invariant-loop-liberty : goal.invariant-loop-liberty
invariant-loop-liberty g l = record {
  items : l.liberty-items ≡ all_liberties;
  counted : 0 < l.liberty-index → IsCount (length l.levels);
  liberties : liberties_in l.wider.items ≡ take l.liberty-index l.liberty-items;
  known : KnowEach l.wider.items l.levels l.liberties [];
}
