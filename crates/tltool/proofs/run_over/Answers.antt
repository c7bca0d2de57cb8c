use Rattle.tltool.proofs.Others.{ends_other}
use Rattle.tltool.proofs.run_over.Goals as goal

pub returns-in-Monitor : goal.returns-in-Monitor
returns-in-Monitor g c = rw c.in-Monitor.is (
  c.run_any.result,
  c.told.ensures,
  (
    c.run_any.ensures.ok,
    c.run_any.ensures.err,
    c.run_any.ensures.fault,
  ),
)

pub returns-in-Coherent : goal.returns-in-Coherent
returns-in-Coherent g c = rw c.in-Coherent.is (
  c.run_any-in-Coherent.result,
  c.told-in-Coherent.ensures,
  (
    c.run_any-in-Coherent.ensures.ok,
    c.run_any-in-Coherent.ensures.err,
    c.run_any-in-Coherent.ensures.fault,
  ),
)

pub returns-in-Explain : goal.returns-in-Explain
returns-in-Explain g c = rw c.in-Explain.is (
  c.run_links.result,
  c.told-in-Explain.ensures,
  (
    c.run_links.ensures.ok,
    c.run_links.ensures.err,
    c.run_links.ensures.fault,
  ),
)

pub returns-in_default : goal.returns-in_default
returns-in_default g c = ends_other c.args.command c.args.allow c.run_tool.result _ _ _ _ _ c.in_default.not-Monitor c.in_default.not-Coherent
    c.in_default.not-Explain c.told-in_default.ensures
    (c.run_tool.ensures.ok, c.run_tool.ensures.err, c.run_tool.ensures.fault)
