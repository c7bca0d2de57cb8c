-- The sentences of the rules of stores and loads.
use Rattle.std.specs.Prelude.{ℕ, List, ◌++◌, codes}
use Rattle.tl_events.specs.declared.rule.CommitRule.{CommitRule}
use Rattle.tl_events.specs.declared.rule.CommitRule.TheVariants.{M5, M6, M7}
use Rattle.tl_events.specs.statement.Names.{commit_rule_name}

-- the events that a rule judges
abbrev pub events_judged : CommitRule → List ℕ
events_judged M5 = codes "S, L"
events_judged M6 = codes "L"
events_judged M7 = codes "ProbeAck, ProbeAckData, Release, ReleaseData, Acquire"

-- the condition under which it is broken
abbrev pub commit_sentence : CommitRule → List ℕ
commit_sentence M5 = codes
    "for S, the link doesn't hold Trunk of the block, or its data are under way in a GrantData, a ProbeAckData or a ReleaseData; for L, the link holds nothing of the block, and no GrantData under way has brought the bytes, at every moment since the I line if there is one"
commit_sentence M6 = codes
    "a byte isn't one that it may be, at every moment since the I line if there is one at which the link held the block; not judged where the link holds Trunk and isn't C+"
commit_sentence M7 = codes
    "a byte of the data isn't one that it may be; or Trunk goes without data, and a byte that was stored can't be what memory has; not judged where the link isn't C+"

-- the line of a rule: its name, the events that it judges, and its sentence
unfoldable pub commit_rule_line : CommitRule → List ℕ
commit_rule_line rule =
    commit_rule_name rule ++ codes " (" ++ events_judged rule ++ codes "): " ++ commit_sentence rule ++ codes "\n"
