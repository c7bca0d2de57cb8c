-- The variants of a handler of lines, each with a search of its own.
use Rattle.std.proofs.Common.{◌≡◌, ℕ, List, refl}
use Rattle.tl_report.specs.code.EventJudging.{event_ways}
use Rattle.tl_report.specs.code.LineJudging.{Ways}
use Rattle.tl_report.specs.code.NarrowJudging.{narrow_ways}
use Rattle.tl_report.specs.code.Searching.{EndsLines, EndsSearch, KnowsLines, KnowsSearch, aim_of}
use Rattle.tl_report.specs.code.WideEventJudging.{wide_event_ways}
use Rattle.tl_report.specs.code.WideJudging.{wide_ways}
use Rattle.tl_report.specs.declared.search.Search.{Search}
use Rattle.tl_report.specs.declared.search_lines.SearchLines.{SearchLines}
use Rattle.tl_report.specs.declared.search_lines.SearchLines.TheVariants as of

-- the variant of a handler whose lines are searched so
pub record IsSearch {J T X : Type 0} (ways : Ways J T X) (wrap : Search J → SearchLines) : Type 0 where
  pub into : (s : Search J) (lines : List (List ℕ)) (text : List ℕ) → KnowsLines (wrap s) lines text
      → KnowsSearch ways s lines
  pub out : (s : Search J) (lines : List (List ℕ)) (text : List ℕ) → KnowsSearch ways s lines
      → KnowsLines (wrap s) lines text
  pub into_ends : (s : Search J) (lines : List (List ℕ)) → EndsLines (wrap s) lines → EndsSearch s lines
  pub out_ends : (s : Search J) (lines : List (List ℕ)) → EndsSearch s lines → EndsLines (wrap s) lines
  pub aim_is : (s : Search J) → aim_of (wrap s) ≡ s.aim

pub four : IsSearch (narrow_ways 4) of.Four
four = record {
  into = λ s lines text k. k;
  out = λ s lines text k. k;
  into_ends = λ s lines e. e;
  out_ends = λ s lines e. e;
  aim_is = λ s. refl;
}

pub eight : IsSearch (narrow_ways 8) of.Eight
eight = record {
  into = λ s lines text k. k;
  out = λ s lines text k. k;
  into_ends = λ s lines e. e;
  out_ends = λ s lines e. e;
  aim_is = λ s. refl;
}

pub sixteen : IsSearch (narrow_ways 16) of.Sixteen
sixteen = record {
  into = λ s lines text k. k;
  out = λ s lines text k. k;
  into_ends = λ s lines e. e;
  out_ends = λ s lines e. e;
  aim_is = λ s. refl;
}

pub wide_four : IsSearch (wide_ways 4 4) of.WideFour
wide_four = record {
  into = λ s lines text k. k;
  out = λ s lines text k. k;
  into_ends = λ s lines e. e;
  out_ends = λ s lines e. e;
  aim_is = λ s. refl;
}

pub wide_eight : IsSearch (wide_ways 8 8) of.WideEight
wide_eight = record {
  into = λ s lines text k. k;
  out = λ s lines text k. k;
  into_ends = λ s lines e. e;
  out_ends = λ s lines e. e;
  aim_is = λ s. refl;
}

pub wide_sixteen : IsSearch (wide_ways 16 16) of.WideSixteen
wide_sixteen = record {
  into = λ s lines text k. k;
  out = λ s lines text k. k;
  into_ends = λ s lines e. e;
  out_ends = λ s lines e. e;
  aim_is = λ s. refl;
}

pub wide_thirty_two : IsSearch (wide_ways 32 16) of.WideThirtyTwo
wide_thirty_two = record {
  into = λ s lines text k. k;
  out = λ s lines text k. k;
  into_ends = λ s lines e. e;
  out_ends = λ s lines e. e;
  aim_is = λ s. refl;
}

pub wide_sixty_four : IsSearch (wide_ways 64 16) of.WideSixtyFour
wide_sixty_four = record {
  into = λ s lines text k. k;
  out = λ s lines text k. k;
  into_ends = λ s lines e. e;
  out_ends = λ s lines e. e;
  aim_is = λ s. refl;
}

pub event_four : IsSearch (event_ways 4) of.EventFour
event_four = record {
  into = λ s lines text k. k;
  out = λ s lines text k. k;
  into_ends = λ s lines e. e;
  out_ends = λ s lines e. e;
  aim_is = λ s. refl;
}

pub event_eight : IsSearch (event_ways 8) of.EventEight
event_eight = record {
  into = λ s lines text k. k;
  out = λ s lines text k. k;
  into_ends = λ s lines e. e;
  out_ends = λ s lines e. e;
  aim_is = λ s. refl;
}

pub event_sixteen : IsSearch (event_ways 16) of.EventSixteen
event_sixteen = record {
  into = λ s lines text k. k;
  out = λ s lines text k. k;
  into_ends = λ s lines e. e;
  out_ends = λ s lines e. e;
  aim_is = λ s. refl;
}

pub wide_event_four : IsSearch (wide_event_ways 4 4) of.WideEventFour
wide_event_four = record {
  into = λ s lines text k. k;
  out = λ s lines text k. k;
  into_ends = λ s lines e. e;
  out_ends = λ s lines e. e;
  aim_is = λ s. refl;
}

pub wide_event_eight : IsSearch (wide_event_ways 8 8) of.WideEventEight
wide_event_eight = record {
  into = λ s lines text k. k;
  out = λ s lines text k. k;
  into_ends = λ s lines e. e;
  out_ends = λ s lines e. e;
  aim_is = λ s. refl;
}

pub wide_event_sixteen : IsSearch (wide_event_ways 16 16) of.WideEventSixteen
wide_event_sixteen = record {
  into = λ s lines text k. k;
  out = λ s lines text k. k;
  into_ends = λ s lines e. e;
  out_ends = λ s lines e. e;
  aim_is = λ s. refl;
}

pub wide_event_thirty_two : IsSearch (wide_event_ways 32 16) of.WideEventThirtyTwo
wide_event_thirty_two = record {
  into = λ s lines text k. k;
  out = λ s lines text k. k;
  into_ends = λ s lines e. e;
  out_ends = λ s lines e. e;
  aim_is = λ s. refl;
}

pub wide_event_sixty_four : IsSearch (wide_event_ways 64 16) of.WideEventSixtyFour
wide_event_sixty_four = record {
  into = λ s lines text k. k;
  out = λ s lines text k. k;
  into_ends = λ s lines e. e;
  out_ends = λ s lines e. e;
  aim_is = λ s. refl;
}
