use Rattle.tl_forgiving.proofs.Forgiving.{held, histories, traces}
use Rattle.tl_forgiving.proofs.law.forgives_more.Goals as goal

pub returns-clause-histories : goal.returns-clause-histories
returns-clause-histories g c = λ l m level t within legal. histories l m level t within legal

pub returns-clause-traces : goal.returns-clause-traces
returns-clause-traces g c = λ l m levels trace within faultless. traces l m levels trace within faultless

pub returns-clause-held : goal.returns-clause-held
returns-clause-held g c = λ l m level k t within legal. held l m level k t within legal
