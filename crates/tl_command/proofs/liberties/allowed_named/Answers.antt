use Rattle.tl_command.proofs.liberties.allowed_named.Goals as goal

pub returns-in-Some : goal.returns-in-Some
returns-in-Some c = rw c.in-Some.is c.liberties_named.ensures
