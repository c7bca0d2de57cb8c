-- The header of a trace with commits, that of a schedule's clients.
use Rattle.std.specs.Prelude.{Bool, true, List, [], ◌∷◌, ◌++◌, ℕ, codes}
use Rattle.tl_params.specs.declared.header.Version.{Version}
use Rattle.tl_params.specs.declared.level.Level.{Level}
use Rattle.tl_params.specs.declared.level.Level.TheVariants.{C}
use Rattle.tl_params.specs.declared.profile.Profile.{Profile}
use Rattle.tl_params.specs.declared.profile.Profile.TheVariants as profile
use Rattle.tl_params.specs.statement.Header.{level_text, profile_of, width_of}
use Rattle.tl_lines.specs.statement.LinksHeader.{fourth_front}

-- the word for the liberties of a profile
abbrev pub liberties_text : Profile → List ℕ
liberties_text profile.One = codes "none"
liberties_text profile.Two = codes "writer"

-- a level as a header shows it, with the mark if all stores of the clients of level C are in the trace
abbrev pub level_shown : Bool → Level → List ℕ
level_shown true C = codes "C+"
level_shown marked level = level_text level

-- each level after a space
abbrev pub levels_shown : Bool → List Level → List ℕ
levels_shown marked [] = []
levels_shown marked (level ∷ levels) = codes " " ++ level_shown marked level ++ levels_shown marked levels

-- the line of the header, of a schedule's version: memory is zero before a world's first event
abbrev pub commits_header_line : Version → List Level → List ℕ
commits_header_line version levels =
    fourth_front (width_of version) ++ liberties_text (profile_of version) ++ codes " zero" ++ levels_shown true levels
    ++ codes "\n"
