use Rattle.tl_lines.proofs.link_lines.LinkLinesLineHandler.handle_line.Goals as goal

pub returns-clause-judges : goal.returns-clause-judges
returns-clause-judges c = c.judge_line.ensures.judges c.args._out.now.items
