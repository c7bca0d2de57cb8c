-- The content of a report as XML in the form of JUnit: a test case for each line at fault, or one that passed.
use Rattle.std.specs.Prelude.{◌++◌, ◌==◌, ◌∷◌, ℕ, Bool, List, [], codes, flat_map, if◌then◌else◌, length}
use Rattle.std.specs.Fmt.{decimal}
use Rattle.hex.specs.Hex.{encode_lower}
use Rattle.tl_lines.specs.declared.fault.Fault.{Fault}
use Rattle.tl_lines.specs.statement.Fault.{fault_name}
use Rattle.tl_report.specs.declared.findings.Finding.{Finding}
use Rattle.tl_sign_off.specs.declared.account.Account.{Account}
use Rattle.tl_sign_off.specs.statement.Report.{command_name, kit_name, verdict_name, version_name}
use Rattle.tl_sign_off.specs.statement.Sentence.{sentence_of}

-- ---- elements and attributes

-- a byte, escaped for the value of an attribute
abbrev pub escaped_byte : ℕ → List ℕ
escaped_byte b =
    if b == 34 then codes "&quot;" else
    if b == 38 then codes "&amp;" else
    if b == 60 then codes "&lt;" else b ∷ []

-- bytes, escaped for the value of an attribute
abbrev pub escaped : List ℕ → List ℕ
escaped value = flat_map escaped_byte value

-- ` NAME="VALUE"`
unfoldable pub attribute : List ℕ → List ℕ → List ℕ
attribute name value = codes " " ++ name ++ codes "=\"" ++ escaped value ++ codes "\""

-- an element without content, on one line
unfoldable pub empty_element : List ℕ → List ℕ → List ℕ
empty_element name attributes = codes "<" ++ name ++ attributes ++ codes "/>\n"

-- an element with content, on several lines
unfoldable pub element : List ℕ → List ℕ → List ℕ → List ℕ
element name attributes content =
    codes "<" ++ name ++ attributes ++ codes ">\n" ++ content ++ codes "</" ++ name ++ codes ">\n"

-- ---- the report

-- a property with a name and a value
unfoldable pub property : List ℕ → List ℕ → List ℕ
property name value =
    empty_element (codes "property") (attribute (codes "name") name ++ attribute (codes "value") value)

-- the tool, the input and its number of beats
unfoldable pub properties_of : Account → List ℕ
properties_of a =
    property (codes "version") version_name ++ property (codes "proved_with") kit_name
    ++ property (codes "sha256") (encode_lower a.input.sum) ++ property (codes "bytes") (decimal a.input.bytes)
    ++ property (codes "beats") (decimal a.findings.beats)

-- the properties in their element
abbrev pub properties_element : Account → List ℕ
properties_element a = element (codes "properties") [] (properties_of a)

-- the class of the test cases of a command
abbrev pub class_name : Bool → List ℕ
class_name together = codes "tltool." ++ command_name together

-- the attributes of the test case with this name
unfoldable pub case_named : Bool → List ℕ → List ℕ
case_named together name =
    attribute (codes "classname") (class_name together) ++ attribute (codes "name") name

-- the failure: the rule or fault, and its sentence
unfoldable pub failure_of : Fault → List ℕ
failure_of fault =
    empty_element (codes "failure")
    (attribute (codes "type") (fault_name fault) ++ attribute (codes "message") (sentence_of fault))

-- the test case of a line at fault, which failed
unfoldable pub case_of : Bool → Finding → List ℕ
case_of together x =
    element (codes "testcase") (case_named together (codes "line " ++ decimal x.line)) (failure_of x.fault)

-- a test case for each line at fault, or one that passed
abbrev pub cases_of : Bool → List Finding → List ℕ
cases_of together [] = empty_element (codes "testcase") (case_named together (verdict_name together []))
cases_of together found = flat_map (case_of together) found

-- the number of test cases
abbrev pub many_cases : List Finding → ℕ
many_cases [] = 1
many_cases found = length found

-- the name of the suite of a command
abbrev pub suite_name : Bool → List ℕ
suite_name together = codes "tltool " ++ command_name together

-- the attributes of the suite: its name, and the numbers of test cases and of failures
unfoldable pub suite_named : Bool → List Finding → List ℕ
suite_named together found =
    attribute (codes "name") (suite_name together)
    ++ attribute (codes "tests") (decimal (many_cases found))
    ++ attribute (codes "failures") (decimal (length found))

-- the first line of an XML file
abbrev pub xml_line : List ℕ
xml_line = codes "<?xml version=\"1.0\" encoding=\"UTF-8\"?>\n"

-- the content of the suite: the properties and the test cases
abbrev pub suite_content : Account → List ℕ
suite_content a = properties_element a ++ cases_of a.together a.findings.faults.items

-- the report of an account
abbrev pub junit_of : Account → List ℕ
junit_of a =
    xml_line ++ element (codes "testsuite") (suite_named a.together a.findings.faults.items) (suite_content a)
