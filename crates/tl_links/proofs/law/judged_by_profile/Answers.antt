use Rattle.tl_links.proofs.ByProfile.{by_profile, together_by_profile}
use Rattle.tl_links.proofs.law.judged_by_profile.Goals as goal

pub returns-clause-links : goal.returns-clause-links
returns-clause-links c = by_profile

pub returns-clause-together : goal.returns-clause-together
returns-clause-together c = together_by_profile
