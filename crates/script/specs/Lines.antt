-- What a line of a box script means (docs/MACHINE.md, 11), from its bytes without the LF that ends it.
use Rattle.std.specs.Prelude.{ℕ, ◌+◌, ◌-◌, ◌*◌, Bool, true, false, List, [], ◌∷◌, ◌++◌, map, eqb, leb, length, get_or}
use Prim.Native.Char.{code}
use Prim.Native.String.{String}
use Rattle.std.specs.Prelude.{if◌then◌else◌}
use Rattle.numbers.specs.Limits.{IDLE, ROW_NUMBERS}
use Rattle.script.specs.declared.Word.{Word}
use Rattle.script.specs.declared.Word.TheVariants.{Number, BoxWord, UnitWord, FreeWord, IdleWord, OtherWord}
use Rattle.script.specs.declared.Line.{Line}
use Rattle.script.specs.declared.Line.TheVariants.{Blank, Box, Unit, Row, Free, Unreadable}

-- ---- bytes
abbrev pub TAB : ℕ
TAB = 9

abbrev pub RETURN : ℕ
RETURN = 13

abbrev pub BLANK : ℕ
BLANK = 32

abbrev pub HASH : ℕ
HASH = 35

abbrev pub is_blank : ℕ → Bool
is_blank b = if eqb b BLANK then true else eqb b TAB

abbrev pub is_digit : ℕ → Bool
is_digit b = if leb 48 b then leb b 57 else false

-- ---- the line without the CR of its end, and without its comment
abbrev pub without_return : List ℕ → List ℕ
without_return [] = []
without_return (b ∷ []) = if eqb b RETURN then [] else b ∷ []
without_return (b ∷ c ∷ rest) = b ∷ without_return (c ∷ rest)

abbrev pub without_comment : List ℕ → List ℕ
without_comment [] = []
without_comment (b ∷ rest) = if eqb b HASH then [] else b ∷ without_comment rest

-- ---- its words, parted by blanks, where w is the beginning of a word that stands before the bytes
abbrev pub whole : List ℕ → List (List ℕ)
whole [] = []
whole (b ∷ w) = (b ∷ w) ∷ []

abbrev pub words_from : List ℕ → List ℕ → List (List ℕ)
words_from w [] = whole w
words_from w (b ∷ rest) = if is_blank b then whole w ++ words_from [] rest else words_from (w ++ b ∷ []) rest

-- ---- what a word says: digits are a number, if 64 bits hold it, and four words are known
abbrev pub all_digits : List ℕ → Bool
all_digits [] = true
all_digits (b ∷ w) = if is_digit b then all_digits w else false

abbrev pub value_from : ℕ → List ℕ → ℕ
value_from n [] = n
value_from n (b ∷ w) = value_from (n * 10 + (b - 48)) w

abbrev pub LARGEST : ℕ
LARGEST = 18446744073709551615

abbrev pub number_word : ℕ → Word
number_word n = if leb n LARGEST then Number n else OtherWord

abbrev pub same : List ℕ → List ℕ → Bool
same [] [] = true
same [] (x ∷ s) = false
same (b ∷ w) [] = false
same (b ∷ w) (x ∷ s) = if eqb b x then same w s else false

-- a text's bytes
abbrev pub bytes : String → List ℕ
bytes String.[] = []
bytes (String.◌∷◌ c text) = code c ∷ bytes text

abbrev pub known_word : List ℕ → Word
known_word w =
    if same w (bytes "box") then BoxWord
    else if same w (bytes "unit") then UnitWord
    else if same w (bytes "free") then FreeWord
    else if same w (bytes "idle") then IdleWord
    else OtherWord

abbrev pub word_of : List ℕ → Word
word_of w = if all_digits w then number_word (value_from 0 w) else known_word w

-- ---- what words say: a line's shape by its first word, and then numbers only
abbrev pub is_number : Word → Bool
is_number (Number n) = true
is_number BoxWord = false
is_number UnitWord = false
is_number FreeWord = false
is_number IdleWord = false
is_number OtherWord = false

abbrev pub all_numbers : List Word → Bool
all_numbers [] = true
all_numbers (w ∷ ws) = if is_number w then all_numbers ws else false

abbrev pub value_of : Word → ℕ
value_of (Number n) = n
value_of BoxWord = 0
value_of UnitWord = 0
value_of FreeWord = 0
value_of IdleWord = 0
value_of OtherWord = 0

abbrev pub box_of : List ℕ → Line
box_of ns = if eqb (length ns) 3 then Box (get_or ns 0 0) (get_or ns 1 0) (get_or ns 2 0) else Unreadable

abbrev pub unit_of : List ℕ → Line
unit_of ns =
    if eqb (length ns) 6 then Unit (get_or ns 0 0) (get_or ns 1 0) (get_or ns 2 0) (get_or ns 3 0) (get_or ns 4 0) (get_or ns 5 0)
    else Unreadable

-- missing numbers are 0
abbrev pub row_of : List ℕ → Line
row_of ns =
    if leb (length ns) ROW_NUMBERS then Row (get_or ns 0 0) (get_or ns 1 0) (get_or ns 2 0) (get_or ns 3 0) (get_or ns 4 0) (get_or ns 5 0) (get_or ns 6 0) (get_or ns 7 0)
    else Unreadable

abbrev pub free_of : List Word → Line
free_of [] = Free
free_of (w ∷ ws) = Unreadable

-- a shape of numbers, if words are all numbers
abbrev pub numbers_in : (List ℕ → Line) → List Word → Line
numbers_in shape ws = if all_numbers ws then shape (map value_of ws) else Unreadable

-- idle stands for the second number of operations 15 and 16
abbrev pub takes_idle : ℕ → Bool
takes_idle operation = if eqb operation 15 then true else eqb operation 16

abbrev pub second : ℕ → Word → Word
second operation (Number n) = Number n
second operation BoxWord = BoxWord
second operation UnitWord = UnitWord
second operation FreeWord = FreeWord
second operation IdleWord = if takes_idle operation then Number IDLE else IdleWord
second operation OtherWord = OtherWord

abbrev pub second_in : ℕ → List Word → List Word
second_in operation [] = []
second_in operation (w ∷ ws) = second operation w ∷ ws

abbrev pub without_idle : ℕ → List Word → List Word
without_idle operation [] = []
without_idle operation (w ∷ ws) = w ∷ second_in operation ws

abbrev pub meaning : List Word → Line
meaning [] = Blank
meaning (BoxWord ∷ ws) = numbers_in box_of ws
meaning (UnitWord ∷ ws) = numbers_in unit_of ws
meaning (FreeWord ∷ ws) = free_of ws
meaning (Number n ∷ ws) = numbers_in row_of (Number n ∷ without_idle n ws)
meaning (IdleWord ∷ ws) = Unreadable
meaning (OtherWord ∷ ws) = Unreadable

-- ---- the line
unfoldable pub line_of : List ℕ → Line
line_of bytes = meaning (map word_of (words_from [] (without_comment (without_return bytes))))
