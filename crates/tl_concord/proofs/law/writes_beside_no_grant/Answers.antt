use Rattle.tl_concord.proofs.WritesBeside.{writes_beside}
use Rattle.tl_concord.proofs.law.writes_beside_no_grant.Goals as goal

pub returns : goal.returns
returns g c = λ config log x given c source m r writes before after link y older begun_so granted. writes_beside config
    log x given c source m r writes before after link y older begun_so granted
