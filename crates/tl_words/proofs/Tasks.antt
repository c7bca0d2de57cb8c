-- What the words of a subcommand ask for.
use denote.Ref.{Bor}
use Rattle.std.proofs.Common.{◌≡◌, ◌||◌, ◌&&◌, ◌∙◌, ℕ, ap, Bool, true, false}
use Rattle.std.proofs.Common.{List, refl, sym, subst, codes, inr, Result, Ok, Err}
use Rattle.std.specs.Prelude.{IfErr, IfOk, Option, Some, None, is_some, option_map}
use Rattle.std.specs.Str.{bytes_eq}
use Rattle.std.proofs.lemmas.Slice.Eq.{bytes_eq-Decides}
use Rattle.clap.specs.Words.{Row, Text, first_of, subcommand_of}
use Rattle.tl_command.specs.declared.random_words.RandomOption.{RandomOption}
use Rattle.tl_command.specs.declared.task.Task.{Task}
use Rattle.tl_command.specs.declared.task.Task.TheVariants.{Chart, Cover, DecodeWide, Draw, Read, Report, Search}
use Rattle.tl_command.specs.declared.chart.Range.{Range}
use Rattle.tl_command.specs.declared.search.Aim.{Aim}
use Rattle.tl_command.specs.declared.search.Inquiry.{Inquiry}
use Rattle.tl_command.specs.statement.ChartWords.{IsRange}
use Rattle.tl_command.specs.statement.LibertyWords.{AreAllowed}
use Rattle.tl_command.specs.statement.RandomWords.{IsWrong, Words}
use Rattle.tl_command.specs.statement.SearchWords.{IsInquiry}
use Rattle.tl_command.specs.statement.Words.{wide_width_named}
use Rattle.tl_command.proofs.RandomOptions.{wrong_for_all}
use Rattle.tl_words.specs.declared.words.WordsFault.{WordsFault}
use Rattle.tl_words.specs.declared.words.WordsFault.TheVariants as fault
use Rattle.tl_words.specs.Refused.{AsksNothing, IsFaultOf, IsRefusal}
use Rattle.tl_words.specs.Tool.{AreAllowedIn, IsAim, IsInquiryOf}
use Rattle.tl_words.specs.Tool.{IsTaskOf, command_in, command_named, flag_named, form_in, form_of, is_reported, is_wide}
use Rattle.tl_words.specs.Tool.{together_named, tool_of, words_in}
use Rattle.tl_params.specs.declared.liberties.Liberties.{Liberties}

-- the same words name the same command
pub named_alike : (name : Text) {a b c d e v w x y z : Option Text} → a ≡ v → b ≡ w → c ≡ x → d ≡ y → e ≡ z
    → command_named name v w x y z ≡ command_named name a b c d e
named_alike name p q r s t = cc

-- the words of options, one by one
abbrev pub words : Option Text → Option Text → Option Text → Option Text → Option Text → Option Text → Option Text
    → Option Text → Words
words a b c d e f g h = record {
  seed = a;
  events = b;
  clients = c;
  blocks = d;
  trackers = e;
  width = f;
  profile = g;
  contend = h;
}

pub words_alike : {a b c d e f g h k l m n p q r s : Option Text} → a ≡ k → b ≡ l → c ≡ m → d ≡ n → e ≡ p → f ≡ q
    → g ≡ r → h ≡ s → words a b c d e f g h ≡ words k l m n p q r s
words_alike t u v w x y z o = rw (t, u, v, w, x, y, z, o) refl

-- a command that doesn't search has no aim
no_search : (name : Text) (word : Option Text) (aim : Aim) → together_named name ≡ None → ¬ IsAim name word aim
no_search name None aim none is = is
no_search name (Some word) aim none is = let some = is.0 in absurd cc

-- nor has its judgement a report
pub no_inquiry : (name : Text) (word : Option Text) (inquiry : Inquiry) → together_named name ≡ None
    → ¬ IsInquiryOf name word inquiry
no_inquiry name word inquiry none is = let some = is.1 in absurd cc

-- a word that stands for nothing asks for nothing
pub no_draw : (rows : List Row) (option : RandomOption) → IsWrong (words_in rows) option → (task : Task)
    → ¬ IsTaskOf (codes "random") rows task
no_draw rows option wrong (Read command allow file times) is = let none = is.0 in absurd cc
no_draw rows option wrong (DecodeWide width file) is = let none = is.0 in absurd cc
no_draw rows option wrong (Search aim file) is = no_search (codes "random") (first_of (codes "all") rows) aim refl is.0
no_draw rows option wrong (Report inquiry file report junit) is =
    no_inquiry (codes "random") (first_of (codes "all") rows) inquiry refl is.0
no_draw rows option wrong (Chart range allow file) is = let none = is.0 in absurd cc
no_draw rows option wrong (Cover form files) is = let none = is.0 in absurd cc
no_draw rows option wrong (Draw options) is = wrong_for_all (words_in rows) option wrong options is.1

-- the same words name the same lines and block
pub range_alike : (range : Range) {a b x y : Option Text} → a ≡ x → b ≡ y → IsRange a b range → IsRange x y range
range_alike range {a} {b} {x} {y} p q is =
    subst (λ (o : Option Text). IsRange o y range) p (subst (λ (o : Option Text). IsRange a o range) q is)

-- words that name no lines, or no block, or no liberties ask for nothing
pub no_chart : (rows : List Row) → ((range : Range) (allow : Liberties)
    → IsRange (first_of (codes "lines") rows) (first_of (codes "block") rows) range
    → ¬ AreAllowedIn rows allow) → (task : Task) → ¬ IsTaskOf (codes "chart") rows task
no_chart rows wrong (Read command allow file times) is = let none = is.0 in absurd cc
no_chart rows wrong (DecodeWide width file) is = let none = is.0 in absurd cc
no_chart rows wrong (Search aim file) is = no_search (codes "chart") (first_of (codes "all") rows) aim refl is.0
no_chart rows wrong (Report inquiry file report junit) is =
    no_inquiry (codes "chart") (first_of (codes "all") rows) inquiry refl is.0
no_chart rows wrong (Chart range allow file) is = wrong range allow is.1 is.2
no_chart rows wrong (Cover form files) is = let none = is.0 in absurd cc
no_chart rows wrong (Draw options) is = let none = is.0 in absurd cc

-- a name that is no command's, and none of `chart`, `cover` and `random`, asks for nothing
pub no_read : (name : Text) (rows : List Row) → command_in name rows ≡ None → first_of (codes "all") rows ≡ None
    → bytes_eq name (codes "random") ≡ false → bytes_eq name (codes "chart") ≡ false
    → bytes_eq name (codes "cover") ≡ false → is_wide name rows ≡ false → is_reported rows ≡ false
    → (task : Task) → ¬ IsTaskOf name rows task
no_read name rows none unsaid other another apart plain unreported (Read command allow file times) is = let some = is.0 in absurd cc
no_read name rows none unsaid other another apart plain unreported (DecodeWide width file) is = let wide = is.0 in absurd cc
no_read name rows none unsaid other another apart plain unreported (Search aim file) is =
    subst (λ (word : Option Text). IsAim name word aim) unsaid is.0
no_read name rows none unsaid other another apart plain unreported (Report inquiry file report junit) is =
    let reported = is.1 in absurd cc
no_read name rows none unsaid other another apart plain unreported (Chart range allow file) is = let same = is.0 in absurd cc
no_read name rows none unsaid other another apart plain unreported (Cover form files) is = let same = is.0 in absurd cc
no_read name rows none unsaid other another apart plain unreported (Draw options) is = let same = is.0 in absurd cc

-- a word of `--all` that asks a command which doesn't search, or that is no number, asks for nothing
pub no_aim : (name word : Text) (rows : List Row) → ((aim : Aim) → ¬ IsAim name (Some word) aim)
    → first_of (codes "all") rows ≡ Some word → bytes_eq name (codes "random") ≡ false
    → bytes_eq name (codes "chart") ≡ false → bytes_eq name (codes "cover") ≡ false → is_wide name rows ≡ false
    → is_reported rows ≡ false → (task : Task) → ¬ IsTaskOf name rows task
no_aim name word rows none said other another apart plain unreported (Read command allow file times) is = let unsaid = is.1 in
    absurd cc
no_aim name word rows none said other another apart plain unreported (DecodeWide width file) is = let wide = is.0 in absurd cc
no_aim name word rows none said other another apart plain unreported (Search aim file) is =
    none aim (subst (λ (w : Option Text). IsAim name w aim) said is.0)
no_aim name word rows none said other another apart plain unreported (Report inquiry file report junit) is =
    let reported = is.1 in absurd cc
no_aim name word rows none said other another apart plain unreported (Chart range allow file) is = let same = is.0 in
    absurd cc
no_aim name word rows none said other another apart plain unreported (Cover form files) is = let same = is.0 in absurd cc
no_aim name word rows none said other another apart plain unreported (Draw options) is = let same = is.0 in absurd cc

-- words of a judgement that is reported, whose command judges nothing or whose word of `--all` is no number, ask for
-- nothing
pub no_report : (name : Text) (word : Option Text) (rows : List Row)
    → ((inquiry : Inquiry) → ¬ IsInquiryOf name word inquiry)
    → first_of (codes "all") rows ≡ word → bytes_eq name (codes "random") ≡ false
    → bytes_eq name (codes "chart") ≡ false → bytes_eq name (codes "cover") ≡ false → is_wide name rows ≡ false
    → is_reported rows ≡ true → (task : Task) → ¬ IsTaskOf name rows task
no_report name word rows none said other another apart plain reported (Read command allow file times) is = let unreported = is.3 in
    absurd cc
no_report name word rows none said other another apart plain reported (DecodeWide width file) is = let wide = is.0 in absurd cc
no_report name word rows none said other another apart plain reported (Search aim file) is = let unreported = is.2 in
    absurd cc
no_report name word rows none said other another apart plain reported (Report inquiry file report junit) is =
    none inquiry (subst (λ (w : Option Text). IsInquiryOf name w inquiry) said is.0)
no_report name word rows none said other another apart plain reported (Chart range allow file) is = let same = is.0 in
    absurd cc
no_report name word rows none said other another apart plain reported (Cover form files) is = let same = is.0 in absurd cc
no_report name word rows none said other another apart plain reported (Draw options) is = let same = is.0 in absurd cc

-- a word of `--allow` that names no liberties asks for nothing
pub no_liberties_named : (name : Text) (rows : List Row) → ((allow : Liberties) → ¬ AreAllowedIn rows allow)
    → bytes_eq name (codes "random") ≡ false → bytes_eq name (codes "chart") ≡ false
    → bytes_eq name (codes "cover") ≡ false → is_wide name rows ≡ false → (task : Task)
    → ¬ IsTaskOf name rows task
no_liberties_named name rows none other another apart plain (Read command allow file times) is = none allow is.4
no_liberties_named name rows none other another apart plain (DecodeWide width file) is = let wide = is.0 in absurd cc
no_liberties_named name rows none other another apart plain (Search aim file) is = none aim.allow is.3
no_liberties_named name rows none other another apart plain (Report inquiry file report junit) is =
    none inquiry.aim.allow is.5
no_liberties_named name rows none other another apart plain (Chart range allow file) is = let same = is.0 in absurd cc
no_liberties_named name rows none other another apart plain (Cover form files) is = let same = is.0 in absurd cc
no_liberties_named name rows none other another apart plain (Draw options) is = let same = is.0 in absurd cc

-- a word that names no width of wide beats asks for nothing
pub no_wide : (rows : List Row) → flag_named (first_of (codes "wide") rows) ≡ true
    → wide_width_named (first_of (codes "width") rows) ≡ None → (task : Task) → ¬ IsTaskOf (codes "decode") rows task
no_wide rows flagged none (Read command allow file times) is = let plain = is.5 in absurd cc
no_wide rows flagged none (DecodeWide width file) is = let some = is.1 in absurd cc
no_wide rows flagged none (Search aim file) is = no_search (codes "decode") (first_of (codes "all") rows) aim refl is.0
no_wide rows flagged none (Report inquiry file report junit) is =
    no_inquiry (codes "decode") (first_of (codes "all") rows) inquiry refl is.0
no_wide rows flagged none (Chart range allow file) is = let same = is.0 in absurd cc
no_wide rows flagged none (Cover form files) is = let same = is.0 in absurd cc
no_wide rows flagged none (Draw options) is = let same = is.0 in absurd cc

-- both flags of `cover` ask for nothing
pub no_form : (rows : List Row) → form_in rows ≡ None → (task : Task) → ¬ IsTaskOf (codes "cover") rows task
no_form rows both (Read command allow file times) is = let none = is.0 in absurd cc
no_form rows both (DecodeWide width file) is = let none = is.0 in absurd cc
no_form rows both (Search aim file) is = no_search (codes "cover") (first_of (codes "all") rows) aim refl is.0
no_form rows both (Report inquiry file report junit) is =
    no_inquiry (codes "cover") (first_of (codes "all") rows) inquiry refl is.0
no_form rows both (Chart range allow file) is = let none = is.0 in absurd cc
no_form rows both (Cover form files) is = let some = is.1 in absurd cc
no_form rows both (Draw options) is = let none = is.0 in absurd cc

-- the flags that were found give the form
pub form_found : (rows : List Row) (tables json : Bool) → tables ≡ flag_named (first_of (codes "tables") rows)
    → json ≡ flag_named (first_of (codes "json") rows) → form_of tables json ≡ form_in rows
form_found rows tables json first second = rw (first, second) refl

-- where `decode` reads wide beats, its name and its flag are there
pub wide_so : (name : Text) (rows : List Row) → is_wide name rows ≡ true
    → (name ≡ codes "decode") × (flag_named (first_of (codes "wide") rows) ≡ true)
wide_so name rows is = go (bytes_eq name (codes "decode")) refl is
  where
    go : (b : Bool) → bytes_eq name (codes "decode") ≡ b → (b && flag_named (first_of (codes "wide") rows)) ≡ true
        → (name ≡ codes "decode") × (flag_named (first_of (codes "wide") rows) ≡ true)
    go true same flagged = ((bytes_eq-Decides name (codes "decode")).0 same, flagged)
    go false other flagged = absurd cc

-- the entries have this word of `--allow`
pub allowed_in : (rows : List Row) (word : Option Text) → word ≡ first_of (codes "allow") rows → (allow : Liberties)
    → AreAllowed word allow → AreAllowedIn rows allow
allowed_in rows word is allow are = subst (λ (o : Option Text). AreAllowed o allow) is are

pub none_allowed_in : (rows : List Row) (word : Option Text) → word ≡ first_of (codes "allow") rows
    → ((allow : Liberties) → ¬ AreAllowed word allow) → (allow : Liberties) → ¬ AreAllowedIn rows allow
none_allowed_in rows word is none allow are = none allow (subst (λ (o : Option Text). AreAllowed o allow) (sym is) are)

module _ (texts : List Text) (name : Text) (rows : List Row) (is : subcommand_of tool_of texts ≡ Some (name, rows))
  where
    -- what a subcommand's entries ask for is what the words ask for
    pub task_given : (r : Result Task WordsFault) → IfOk r (IsTaskOf name rows)
        → IfOk r (λ task. (n : Text) × (rs : List Row) × (subcommand_of tool_of texts ≡ Some (n, rs))
        × IsTaskOf n rs task)
    task_given (Ok task) asked = (name, rows, is, asked)
    task_given (Err fault) asked = tt

    -- where they ask for nothing, the words are refused
    pub task_refused : (r : Result Task WordsFault) → IfErr r (IsFaultOf name rows) → IfErr r (IsRefusal texts)
    task_refused (Ok task) none = tt
    task_refused (Err fault.Memory) none = tt
    task_refused (Err (fault.Usage error)) none = inr (subst AsksNothing (sym is) none.0, none.1)

-- the entries have a word where one was found
pub word_is_there : (found : Option (Bor (List ℕ))) (word : Option Text) → option_map (λ s. s.now) found ≡ word
    → is_some found ≡ is_some word
word_is_there found word is = go found ∙ ap is_some is
  where
    go : (o : Option (Bor (List ℕ))) → is_some o ≡ is_some (option_map (λ s. s.now) o)
    go None = refl
    go (Some s) = refl

-- one of two words is there
pub said_first : (x y : Option Text) (a : Bool) → a ≡ is_some x → a ≡ true → a ≡ (is_some x || is_some y)
said_first x y a is there = rw (sym is ∙ there) there

pub said_second : (x y : Option Text) (a b : Bool) → a ≡ is_some x → a ≡ false → b ≡ is_some y
    → b ≡ (is_some x || is_some y)
said_second x y a b is missing other = rw (sym is ∙ missing) other

-- words that ask nothing of this command ask nothing of one of its name
pub no_inquiry_of : (name : Text) (word : Option Text) (together : Bool) → Some together ≡ together_named name
    → ((inquiry : Inquiry) → ¬ IsInquiry together word inquiry) → (inquiry : Inquiry) → ¬ IsInquiryOf name word inquiry
no_inquiry_of name word together named none inquiry (other, is, asked) =
    let same : other ≡ together = cc in
    none inquiry (subst (λ (b : Bool). IsInquiry b word inquiry) same asked)

-- the name that the words have is this one
pub named_so : (name word : Text) → bytes_eq name word ≡ true → name ≡ word
named_so name word is = (bytes_eq-Decides name word).0 is

-- so what this command asks for is what a subcommand of the name does
pub asked_so : (name word : Text) (rows : List Row) (r : Result Task WordsFault) → name ≡ word
    → IfOk r (IsTaskOf word rows) → IfOk r (IsTaskOf name rows)
asked_so name word rows r e asked = subst (λ (x : Text). IfOk r (IsTaskOf x rows)) (sym e) asked

pub unasked_so : (name word : Text) (rows : List Row) (r : Result Task WordsFault) → name ≡ word
    → IfErr r (IsFaultOf word rows) → IfErr r (IsFaultOf name rows)
unasked_so name word rows r e none = subst (λ (x : Text). IfErr r (IsFaultOf x rows)) (sym e) none
