-- The tables of links as text. A row whose bins a link can't have is left out, and so is a table without rows.
use Rattle.std.specs.Prelude.{ℕ, Bool, false, ◌||◌, ◌++◌, ◌-◌, ◌+◌, ◌*◌, ◌/◌, max, List}
use Rattle.std.specs.Prelude.{[], ◌∷◌, length, map, replicate}
use Rattle.std.specs.Prelude.{codes, if◌then◌else◌, Option, Some, None, is_some, slice_range}
use Rattle.std.specs.Fmt.{decimal}
use Rattle.std.specs.List.{flat_map}
use Rattle.tl_tables.specs.statement.Counts.{bin_count, sum_of}
use Rattle.tl_tables.specs.statement.Layout.{Layout, LayoutRow, all_tables}
use Rattle.tl_tables.specs.statement.Numbered.{from_number}

-- a count, or a dash if it is missing
abbrev pub cell_said : Option ℕ → List ℕ
cell_said None = codes "-"
cell_said (Some n) = decimal n

-- a text in the column of heads, which has 24 characters; 32 is a space
abbrev pub left : List ℕ → List ℕ
left text = text ++ replicate (24 - length text) 32

-- a text in a column of counts of this width
abbrev pub right : ℕ → List ℕ → List ℕ
right w text = replicate (w - length text) 32 ++ text

abbrev pub cell_text : ℕ → Option ℕ → List ℕ
cell_text w cell = right w (cell_said cell)

-- the characters of the longest of these counts, and no less than 6, those of the longest head of a column
abbrev pub longest : List (Option ℕ) → ℕ
longest [] = 6
longest (cell ∷ cells) = max (length (cell_said cell)) (longest cells)

-- the width of each column of counts, with the spaces before it
abbrev pub width : List (Option ℕ) → ℕ
width cells = longest cells + 2

-- one of these is a count
abbrev pub has_count : List (Option ℕ) → Bool
has_count [] = false
has_count (cell ∷ cells) = is_some cell || has_count cells

-- a row with these counts; nothing if there is none
unfoldable pub row_text : ℕ → List ℕ → List (Option ℕ) → List ℕ
row_text w head cells =
    if has_count cells then left head ++ (flat_map (cell_text w) cells ++ codes "\n") else []

-- the counts of a row, by the counts of all bins on the link
abbrev pub row_counts : List (Option ℕ) → LayoutRow → List (Option ℕ)
row_counts counts row = map (sum_of counts None) row.cells

-- the rows of a table
unfoldable pub rows_text : ℕ → List (Option ℕ) → Layout → List ℕ
rows_text w counts table = flat_map (λ row. row_text w row.head (row_counts counts row)) table.rows

-- the front of a table's first line
abbrev pub front : Layout → ℕ → List ℕ
front table link = table.title ++ (codes " on link " ++ decimal link)

-- an empty line, and the first line of a table
abbrev pub heading : ℕ → ℕ → Layout → List ℕ
heading w link table = codes "\n" ++ (left (front table link) ++ (flat_map (right w) table.columns ++ codes "\n"))

-- a heading with these rows, if there are any
abbrev pub with_heading : List ℕ → List ℕ → List ℕ
with_heading heading [] = []
with_heading heading (c ∷ rows) = heading ++ c ∷ rows

-- a table of this link, by the counts of all bins on it
abbrev pub table_text : ℕ → ℕ → List (Option ℕ) → Layout → List ℕ
table_text w link counts table = with_heading (heading w link table) (rows_text w counts table)

-- the tables of this link
abbrev pub link_text : ℕ → ℕ → List (Option ℕ) → List ℕ
link_text w link counts = flat_map (table_text w link counts) all_tables

-- the counts of all bins on this link, by those on all links
abbrev pub counts_on : List (Option ℕ) → ℕ → List (Option ℕ)
counts_on cells link = slice_range cells (link * bin_count) (link * bin_count + bin_count)

-- the tables of all links, by the counts of all bins on link 0, then on link 1, and so on
abbrev pub tables_text : List (Option ℕ) → List ℕ
tables_text cells =
    from_number (λ link. link_text (width cells) link (counts_on cells link)) 0 (length cells / bin_count)
