use Rattle.std.proofs.Common.{inl, inr, refl}
use Rattle.tl_command.specs.statement.LibertyWords.{SpellsLiberties, joined}
use Rattle.tl_params.specs.declared.profile.Profile.{Profile}
use Rattle.tl_params.specs.declared.profile.Profile.TheVariants.{One, Two}
use Rattle.tl_params.specs.statement.Liberties.{liberties_of}
use Rattle.tl_engine.specs.statement.CommitsHeader.{liberties_text}
use Rattle.tl_engine.proofs.law.names_liberties.Goals as goal

named : (profile : Profile) → SpellsLiberties (liberties_text profile) (liberties_of profile)
unfolding joined
named One = inl (refl, refl)
named Two = inr (inr (inr ((λ e. absurd cc), refl)))

pub returns : goal.returns
returns c = named
