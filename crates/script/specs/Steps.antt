-- A line read byte by byte: what the reader keeps, and how each byte changes it.
use Rattle.std.specs.Prelude.{ℕ, ◌+◌, ◌-◌, ◌*◌, ◌/◌, ◌%◌, Bool, true, false, List, [], ◌∷◌, eqb, leb, ltb, get_or, set, replicate}
use Rattle.std.specs.Prelude.{if◌then◌else◌}
use Rattle.numbers.specs.Limits.{IDLE, ROW_NUMBERS}
use Rattle.script.specs.Lines.{RETURN, HASH, LARGEST, is_blank, is_digit, takes_idle}
use Rattle.script.specs.declared.Word.{Word}
use Rattle.script.specs.declared.Word.TheVariants.{Number, BoxWord, UnitWord, FreeWord, IdleWord, OtherWord}
use Rattle.script.specs.declared.Part.{Part}
use Rattle.script.specs.declared.Part.TheVariants.{Nothing, Digits, Letters, Strange}
use Rattle.script.specs.declared.Kind.{Kind}
use Rattle.script.specs.declared.Kind.TheVariants.{NoWords, BoxLine, UnitLine, RowLine, FreeLine, BadLine}
use Rattle.script.specs.declared.Line.{Line}
use Rattle.script.specs.declared.Line.TheVariants.{Blank, Box, Unit, Row, Free, Unreadable}
use Rattle.script.specs.declared.Words.{Words}
use Rattle.script.specs.declared.Text.{Text}
use Rattle.script.specs.declared.Reader.{Reader}

-- ---- the word under way
-- letters in one number, the first in the low byte
abbrev pub packed : List ℕ → ℕ
packed [] = 0
packed (x ∷ s) = x + packed s * 256

-- the letters after the first of the known words
abbrev pub OX : ℕ
OX = packed (111 ∷ 120 ∷ [])

abbrev pub NIT : ℕ
NIT = packed (110 ∷ 105 ∷ 116 ∷ [])

abbrev pub REE : ℕ
REE = packed (114 ∷ 101 ∷ 101 ∷ [])

abbrev pub DLE : ℕ
DLE = packed (100 ∷ 108 ∷ 101 ∷ [])

unfoldable pub first_part : ℕ → Part
first_part b =
    if is_digit b then Digits (b - 48)
    else if eqb b 98 then Letters BoxWord OX
    else if eqb b 117 then Letters UnitWord NIT
    else if eqb b 102 then Letters FreeWord REE
    else if eqb b 105 then Letters IdleWord DLE
    else Strange

unfoldable pub more_digits : ℕ → ℕ → Part
more_digits n b =
    if is_digit b then (if leb (n * 10 + (b - 48)) LARGEST then Digits (n * 10 + (b - 48)) else Strange)
    else Strange

unfoldable pub more_letters : Word → ℕ → ℕ → Part
more_letters w rest b =
    if eqb rest 0 then Strange
    else if eqb b (rest % 256) then Letters w (rest / 256)
    else Strange

abbrev pub lengthened : Part → ℕ → Part
lengthened Nothing b = first_part b
lengthened (Digits n) b = more_digits n b
lengthened (Letters w rest) b = more_letters w rest b
lengthened Strange b = Strange

abbrev pub begun : Part → Bool
begun Nothing = false
begun (Digits n) = true
begun (Letters w rest) = true
begun Strange = true

abbrev pub said : Part → Word
said Nothing = OtherWord
said (Digits n) = Number n
said (Letters w rest) = if eqb rest 0 then w else OtherWord
said Strange = OtherWord

-- ---- the words so far
abbrev pub spoilt : Words → Words
spoilt ws = record { kind = BadLine; count = ws.count; numbers = ws.numbers }

unfoldable pub pushed : Words → Kind → ℕ → Words
pushed ws k n =
    if ltb ws.count ROW_NUMBERS then (record { kind = k; count = ws.count + 1; numbers = set ws.numbers ws.count n })
    else spoilt ws

abbrev pub is_empty : Kind → Bool
is_empty NoWords = true
is_empty BoxLine = false
is_empty UnitLine = false
is_empty RowLine = false
is_empty FreeLine = false
is_empty BadLine = false

abbrev pub is_row : Kind → Bool
is_row NoWords = false
is_row BoxLine = false
is_row UnitLine = false
is_row RowLine = true
is_row FreeLine = false
is_row BadLine = false

-- a keyword stands first
unfoldable pub opened : Words → Kind → Words
opened ws k = if is_empty ws.kind then (record { kind = k; count = ws.count; numbers = ws.numbers }) else spoilt ws

abbrev pub number_by : Kind → Words → ℕ → Words
number_by NoWords ws n = pushed ws RowLine n
number_by BoxLine ws n = pushed ws BoxLine n
number_by UnitLine ws n = pushed ws UnitLine n
number_by RowLine ws n = pushed ws RowLine n
number_by FreeLine ws n = spoilt ws
number_by BadLine ws n = spoilt ws

abbrev pub with_number : Words → ℕ → Words
with_number ws n = number_by ws.kind ws n

unfoldable pub may_idle : Words → Bool
may_idle ws = if is_row ws.kind then (if eqb ws.count 2 then takes_idle (get_or ws.numbers 0 0) else false) else false

unfoldable pub with_idle : Words → Words
with_idle ws = if may_idle ws then pushed ws RowLine IDLE else spoilt ws

abbrev pub added : Words → Word → Words
added ws (Number n) = with_number ws n
added ws BoxWord = opened ws BoxLine
added ws UnitWord = opened ws UnitLine
added ws FreeWord = opened ws FreeLine
added ws IdleWord = with_idle ws
added ws OtherWord = spoilt ws

unfoldable pub ended : Words → Part → Words
ended ws p = if begun p then added ws (said p) else ws

abbrev pub line_by : Kind → ℕ → List ℕ → Line
line_by NoWords count ns = Blank
line_by BoxLine count ns = if eqb count 3 then Box (get_or ns 0 0) (get_or ns 1 0) (get_or ns 2 0) else Unreadable
line_by UnitLine count ns =
    if eqb count 6 then Unit (get_or ns 0 0) (get_or ns 1 0) (get_or ns 2 0) (get_or ns 3 0) (get_or ns 4 0) (get_or ns 5 0)
    else Unreadable
line_by RowLine count ns = Row (get_or ns 0 0) (get_or ns 1 0) (get_or ns 2 0) (get_or ns 3 0) (get_or ns 4 0) (get_or ns 5 0) (get_or ns 6 0) (get_or ns 7 0)
line_by FreeLine count ns = Free
line_by BadLine count ns = Unreadable

abbrev pub line_from : Words → Line
line_from ws = line_by ws.kind ws.count ws.numbers

-- ---- a byte of the text
unfoldable pub taken : Text → ℕ → Text
taken t b =
    if t.comment then t
    else if eqb b HASH then (record { words = ended t.words t.part; part = Nothing; comment = true })
    else if is_blank b then (record { words = ended t.words t.part; part = Nothing; comment = false })
    else (record { words = t.words; part = lengthened t.part b; comment = false })

-- ---- a byte of the line: a CR waits for the next
unfoldable pub arrived : Text → ℕ → Reader
arrived t b = if eqb b RETURN then (record { text = t; cr = true }) else (record { text = taken t b; cr = false })

unfoldable pub fed_with : Reader → ℕ → Reader
fed_with r b = if r.cr then arrived (taken r.text RETURN) b else arrived r.text b

abbrev pub no_words : Words
no_words = record { kind = NoWords; count = 0; numbers = replicate ROW_NUMBERS 0 }

abbrev pub no_text : Text
no_text = record { words = no_words; part = Nothing; comment = false }

abbrev pub line_start : Reader
line_start = record { text = no_text; cr = false }

unfoldable pub text_end : Text → Line
text_end t = line_from (ended t.words t.part)

abbrev pub line_end : Reader → Line
line_end r = text_end r.text

-- all bytes of a line, one after the other
abbrev pub fed_all : Reader → List ℕ → Reader
fed_all r [] = r
fed_all r (b ∷ bytes) = fed_all (fed_with r b) bytes

-- ---- a byte came with which the line cannot be understood
abbrev pub is_spoilt : Kind → Bool
is_spoilt NoWords = false
is_spoilt BoxLine = false
is_spoilt UnitLine = false
is_spoilt RowLine = false
is_spoilt FreeLine = false
is_spoilt BadLine = true

abbrev pub is_strange : Part → Bool
is_strange Nothing = false
is_strange (Digits n) = false
is_strange (Letters w rest) = false
is_strange Strange = true

abbrev pub is_bad : Reader → Bool
is_bad r = if is_spoilt r.text.words.kind then true else is_strange r.text.part
