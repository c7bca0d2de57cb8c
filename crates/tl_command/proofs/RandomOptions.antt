-- What the words of `random` stand for.
use Rattle.std.proofs.Common.{◌≡◌, ◌<◌, ◌^◌, ℕ, arith, subst}
use Rattle.std.specs.Prelude.{Some}
use Rattle.tl_command.specs.declared.random.Options.{Options}
use Rattle.tl_command.specs.declared.random_words.RandomOption.{RandomOption}
use Rattle.tl_command.specs.declared.random_words.RandomOption.TheVariants as option
use Rattle.tl_command.specs.statement.RandomWords.{AreBlocks, AreOptions, IsContended, IsWrong, Words}
use Rattle.tl_command.proofs.NumberWords.{named_once}

-- what isn't a number of contended blocks of the map is none of any number of blocks that the words name
pub contend_wrong : (w : Words) (m : ℕ) → m < 2 ^ 64 → AreBlocks w m → ((n : ℕ) → ¬ IsContended w m n)
    → IsWrong w option.Contend
contend_wrong w m small is none = λ blocks named n contended.
    let same : blocks ≡ m = named_once w.blocks (Some 2) blocks m (omega (arith, named.2)) small named.0 is.0 in
    none n (subst (λ (x : ℕ). IsContended w x n) same contended)

-- where one word stands for nothing, all together stand for no options
pub wrong_for_all : (w : Words) (wrong : RandomOption) → IsWrong w wrong → (o : Options) → ¬ AreOptions w o
wrong_for_all w option.Seed none o are = none o.seed are.seed_is
wrong_for_all w option.Events none o are = none o.events are.events_are
wrong_for_all w option.Clients none o are = none o.config.clients.items are.clients_are
wrong_for_all w option.Blocks none o are = none o.config.blocks are.blocks_are
wrong_for_all w option.Trackers none o are = none o.config.trackers are.trackers_are
wrong_for_all w option.Width none o are = let is = are.width_is in absurd cc
wrong_for_all w option.Profile none o are = let is = are.profile_is in absurd cc
wrong_for_all w option.Contend none o are = none o.config.blocks are.blocks_are o.contend are.contend_is
