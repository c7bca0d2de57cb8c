use Rattle.std.proofs.Common.{◌≤◌, arith}
use Rattle.tl_commits.proofs.Pieces.{most-bytes}
use Rattle.tl_commits.proofs.loading.Loading.count.Goals as goal

pub returns-clause-few : goal.returns-clause-few
returns-clause-few c =
    let le : c.min.result ≤ 3 = omega (arith, c.min.ensures) in
    omega (arith, most-bytes c.min.result le)
