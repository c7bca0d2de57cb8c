use Rattle.tl_wide_events.proofs.CommitNames.{asked-same, block-named, sinks-same, sources-same}
use Rattle.tl_wide_events.proofs.law.commit_names_its_block.Goals as goal

pub returns-clause-blocks : goal.returns-clause-blocks
returns-clause-blocks c = λ w link x t. block-named link x t

pub returns-clause-sources : goal.returns-clause-sources
returns-clause-sources c = λ w from link x t. sources-same link x t from

pub returns-clause-sinks : goal.returns-clause-sinks
returns-clause-sinks c = λ w link x t. sinks-same link x t

pub returns-clause-asked : goal.returns-clause-asked
returns-clause-asked c = λ w source link on x t. asked-same link x t on source
