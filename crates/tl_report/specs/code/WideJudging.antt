-- What a judge of wide beats is for.
use Rattle.std.specs.Prelude.{ℕ}
use Rattle.tl_beat.specs.declared.beat.Link.{Link}
use Rattle.tl_lines.specs.declared.links_header.LinksHeader.{LinksHeader}
use Rattle.tl_report.specs.code.KeptJudging.{kept_ways}
use Rattle.tl_report.specs.code.LineJudging.{Ways}
use Rattle.tl_report.specs.code.Taking.{Takings, none-some}
use Rattle.tl_report.specs.code.WideTaking.{KnowsTrace}
use Rattle.tl_report.specs.declared.kept.KeptLineJudge.{KeptLineJudge}
use Rattle.tl_report.specs.declared.wide.WideTaker.{WideTaker}
use Rattle.tl_report.specs.statement.Form.{Terms, wide}
use Rattle.tl_report.specs.statement.Found.{terms_of}
use Rattle.tl_wide.specs.declared.beat.WideBeat.{WideBeat}

-- it takes wide beats
abbrev pub wide_takings : (w p : ℕ) → Takings (WideTaker w p) LinksHeader (Link × WideBeat w) Terms (Link × WideBeat w)
wide_takings w p = record {
  form = wide w;
  shown = λ x. x;
  terms_of = λ together links. terms_of together links.may links.levels.items;
  takes = λ judge terms t. KnowsTrace terms judge.judge t;
  apart = λ terms t x fault good bad. none-some good bad;
}

-- the same of a judge of their lines
abbrev pub wide_ways : (w p : ℕ)
    → Ways (KeptLineJudge (WideTaker w p) LinksHeader (Link × WideBeat w)) Terms (Link × WideBeat w)
wide_ways w p = kept_ways (wide_takings w p)
