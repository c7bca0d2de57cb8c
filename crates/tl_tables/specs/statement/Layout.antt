-- The tables of a link: the heads of their columns, and of each row its head and the bins in its cells.
use Rattle.std.specs.Prelude.{ℕ, List, [], ◌∷◌, ◌++◌, map, codes}
use Rattle.tl_beat.specs.declared.opcode.OpA.TheVariants as a
use Rattle.tl_beat.specs.declared.opcode.OpB.TheVariants as b
use Rattle.tl_beat.specs.declared.opcode.OpC.TheVariants as c
use Rattle.tl_beat.specs.declared.opcode.OpD.TheVariants as d
use Rattle.tl_cover.specs.declared.message.MessageKind.{MessageKind}
use Rattle.tl_cover.specs.declared.message.MessageKind.TheVariants as kind
use Rattle.tl_cover.specs.declared.message.Param.{Param}
use Rattle.tl_cover.specs.declared.message.Param.TheVariants as param
use Rattle.tl_cover.specs.declared.situation.Bytes.{Bytes}
use Rattle.tl_cover.specs.declared.situation.Bytes.TheVariants as bytes
use Rattle.tl_cover.specs.declared.situation.Pending.{Pending}
use Rattle.tl_cover.specs.declared.situation.Situation.{Situation}
use Rattle.tl_cover.specs.declared.situation.Situation.TheVariants.{Aligned, Among, Answered, Granted, Sent, Waited}
use Rattle.tl_cover.specs.statement.Bins.{all_bytes, all_grows, all_waits, arithmetics, caps, intents, logicals}
use Rattle.tl_cover.specs.statement.Bins.{all_depths, all_pending, reports, reports_of_trunk}
use Rattle.tl_cover.specs.statement.Messages.{fields, letter, opcode_name}
use Rattle.tl_cover.specs.statement.Names.{bytes_name, depth_name, param_of, pending_name, wait_name, with_detail}
use Rattle.tl_params.specs.declared.param.Cap.TheVariants as cap
use Rattle.tl_params.specs.declared.param.Grow.TheVariants as grow
use Rattle.tl_params.specs.declared.param.Report.{Report}
use Rattle.tl_params.specs.declared.param.Report.TheVariants as report

-- a row: its head, and for each column the bins whose counts add up there
pub record LayoutRow : Type 0 where
  pub head : List ℕ
  pub cells : List (List Situation)

-- a table: the word at the front of its first line, the heads of its columns, and its rows
pub record Layout : Type 0 where
  pub title : List ℕ
  pub columns : List (List ℕ)
  pub rows : List LayoutRow

-- one bin
abbrev pub only : Situation → List Situation
only s = s ∷ []

-- ---- messages, by channel, opcode and param, and by bytes

-- channel, opcode and param of a kind of message, as in the names of bins
abbrev pub kind_head : MessageKind → List ℕ
kind_head kind = with_detail (letter kind ++ codes "-" ++ opcode_name kind) (param_of (fields kind))

-- the messages of a kind, of any number of bytes
abbrev pub message_row : (Param → Bytes → MessageKind) → Param → LayoutRow
message_row kind p = record { head = kind_head (kind p bytes.One); cells = map (λ n. only (Sent (kind p n))) all_bytes }

abbrev pub message_rows : (Param → Bytes → MessageKind) → List Param → List LayoutRow
message_rows kind params = map (message_row kind) params

-- a GrantAck has no size; it is counted under the bytes of its block
abbrev pub grant_ack_row : LayoutRow
grant_ack_row = record { head = kind_head kind.E; cells = [] ∷ [] ∷ [] ∷ [] ∷ [] ∷ [] ∷ only (Sent kind.E) ∷ [] }

abbrev pub messages : Layout
messages = record {
  title = codes "messages";
  columns = map bytes_name all_bytes;
  rows =
      message_rows (kind.A a.PutFullData) (param.Zero ∷ [])
      ++ message_rows (kind.A a.PutPartialData) (param.Zero ∷ [])
      ++ message_rows (kind.A a.ArithmeticData) arithmetics
      ++ message_rows (kind.A a.LogicalData) logicals
      ++ message_rows (kind.A a.Get) (param.Zero ∷ [])
      ++ message_rows (kind.A a.Intent) intents
      ++ message_rows (kind.A a.AcquireBlock) (map param.Grow all_grows)
      ++ message_rows (kind.A a.AcquirePerm) (map param.Grow all_grows)
      ++ message_rows (kind.B b.ProbeBlock) caps
      ++ message_rows (kind.B b.ProbePerm) caps
      ++ message_rows (kind.C c.ProbeAck) reports
      ++ message_rows (kind.C c.ProbeAckData) reports_of_trunk
      ++ message_rows (kind.C c.Release) reports
      ++ message_rows (kind.C c.ReleaseData) reports_of_trunk
      ++ message_rows (kind.D d.AccessAck) (param.Zero ∷ [])
      ++ message_rows (kind.D d.AccessAckData) (param.Zero ∷ [])
      ++ message_rows (kind.D d.HintAck) (param.Zero ∷ [])
      ++ message_rows (kind.D d.Grant) caps
      ++ message_rows (kind.D d.GrantData) caps
      ++ message_rows (kind.D d.ReleaseAck) (param.Zero ∷ [])
      ++ grant_ack_row ∷ [];
}

-- ---- messages that change a permission, by the permission that the link held before: None, Branch, Trunk

-- Releases with this report, with data and without
abbrev pub releases : Report → List Situation
releases r =
    Sent (kind.C c.Release (param.Report r) bytes.SixtyFour)
    ∷ Sent (kind.C c.ReleaseData (param.Report r) bytes.SixtyFour)
    ∷ []

abbrev pub held_row : List ℕ → List Situation → List Situation → List Situation → LayoutRow
held_row head none branch trunk = record { head = head; cells = none ∷ branch ∷ trunk ∷ [] }

abbrev pub permissions : Layout
permissions = record {
  title = codes "permissions";
  columns = codes "None" ∷ codes "Branch" ∷ codes "Trunk" ∷ [];
  rows =
      held_row (codes "grant-toT") (only (Granted grow.NtoT)) (only (Granted grow.BtoT)) []
      ∷ held_row (codes "grant-toB") (only (Granted grow.NtoB)) [] []
      ∷ held_row (codes "report-toT") (only (Answered report.NtoN cap.ToT)) (only (Answered report.BtoB cap.ToT))
      (only (Answered report.TtoT cap.ToT))
      ∷ held_row (codes "report-toB") (only (Answered report.NtoN cap.ToB)) (only (Answered report.BtoB cap.ToB))
      (only (Answered report.TtoB cap.ToB))
      ∷ held_row (codes "report-toN") (only (Answered report.NtoN cap.ToN)) (only (Answered report.BtoN cap.ToN))
      (only (Answered report.TtoN cap.ToN))
      ∷ held_row (codes "release-toT") [] [] (releases report.TtoT)
      ∷ held_row (codes "release-toB") [] (releases report.BtoB) (releases report.TtoB)
      ∷ held_row (codes "release-toN") (releases report.NtoN) (releases report.BtoN) (releases report.TtoN)
      ∷ [];
}

-- ---- the waits of Probes, and accesses by bytes and alignment

abbrev pub waits : Layout
waits = record {
  title = codes "waits";
  columns = map wait_name all_waits;
  rows = record { head = codes "waited"; cells = map (λ n. only (Waited n)) all_waits } ∷ [];
}

abbrev pub access_head : Bytes → List ℕ
access_head size = codes "access-" ++ (bytes_name size ++ codes "-at")

abbrev pub alignment_row : Bytes → LayoutRow
alignment_row size = record { head = access_head size; cells = map (λ many. only (Aligned size many)) all_bytes }

abbrev pub alignments : Layout
alignments = record {
  title = codes "alignments";
  columns = map bytes_name all_bytes;
  rows = map alignment_row all_bytes;
}

-- ---- how many messages of a kind are pending when one of it begins, with that one

abbrev pub pending_head : Pending → List ℕ
pending_head kind = codes "pending-" ++ pending_name kind

abbrev pub depth_row : Pending → LayoutRow
depth_row kind = record { head = pending_head kind; cells = map (λ depth. only (Among kind depth)) all_depths }

abbrev pub depths : Layout
depths = record {
  title = codes "pending";
  columns = map depth_name all_depths;
  rows = map depth_row all_pending;
}

-- all tables, in their order
abbrev pub all_tables : List Layout
all_tables = messages ∷ permissions ∷ waits ∷ alignments ∷ depths ∷ []
