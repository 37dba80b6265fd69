-- Lines of a box script, and what each means, by computing it (docs/MACHINE.md, 11).
use Prim.Native.String.{String}
use mathlib.Core.List.{List, [], ◌∷◌, map}
use mathlib.Core.Path.{◌≡◌, refl}
use Rattle.script.specs.Lines.{bytes, line_of}
use Rattle.script.specs.Steps.{first_part, more_digits, more_letters, pushed, opened, may_idle, with_idle, ended, taken, arrived, fed_with, line_start, text_end, line_end, fed_all}
use Rattle.script.specs.declared.Line.{Line}
use Rattle.script.specs.declared.Line.TheVariants.{Blank, Box, Unit, Row, Free, Unreadable}

-- a line's text, and what it says
pub record Case : Type 0 where
  pub text : String
  pub says : Line

infix 4 ◌⟼◌
abbrev pub ◌⟼◌ : String → Line → Case
text ⟼ line = record { text = text; says = line }

abbrev pub says_in : Case → Line
says_in case = case.says

abbrev pub line_in : Case → Line
line_in case = line_of (bytes case.text)

abbrev pub read_in : Case → Line
read_in case = line_end (fed_all line_start (bytes case.text))

abbrev pub cases : List Case
cases =
    -- nothing is said by no words: blanks, tabs, a comment, a CR at the end
    ("" ⟼ Blank)
    ∷ (" \t " ⟼ Blank)
    ∷ ("# box 8 7 1" ⟼ Blank)
    ∷ ("\r" ⟼ Blank)
    ∷ (" #\r\r free" ⟼ Blank)
    -- the five kinds of line of the manual
    ∷ ("box 8 7 1                 # pages, shared base, shared count" ⟼ Box 8 7 1)
    ∷ ("unit 1 16 0 3 3 3" ⟼ Unit 1 16 0 3 3 3)
    ∷ ("11 1 16 0 3 3" ⟼ Row 11 1 16 0 3 3 0 0)
    ∷ ("15 0 idle" ⟼ Row 15 0 4294967295 0 0 0 0 0)
    ∷ ("free" ⟼ Free)
    -- blanks and tabs in any number; a CR only at the end; a comment straight after a word
    ∷ ("\t free \t\r" ⟼ Free)
    ∷ ("free#x" ⟼ Free)
    ∷ ("7\t1#2" ⟼ Row 7 1 0 0 0 0 0 0)
    ∷ ("free\r\r" ⟼ Unreadable)
    ∷ ("fr\ree" ⟼ Unreadable)
    ∷ ("free\r#x" ⟼ Unreadable)
    -- numbers: leading zeros, 64 bits, no sign, digits only
    ∷ ("00000000000000000000000000025" ⟼ Row 25 0 0 0 0 0 0 0)
    ∷ ("1 18446744073709551615" ⟼ Row 1 18446744073709551615 0 0 0 0 0 0)
    ∷ ("1 18446744073709551616" ⟼ Unreadable)
    ∷ ("1 99999999999999999999999999" ⟼ Unreadable)
    ∷ ("1 -2" ⟼ Unreadable)
    ∷ ("12a" ⟼ Unreadable)
    -- at most eight numbers; box has three and unit six
    ∷ ("1 2 3 4 5 6 7 8" ⟼ Row 1 2 3 4 5 6 7 8)
    ∷ ("1 2 3 4 5 6 7 8 9" ⟼ Unreadable)
    ∷ ("box 8 7" ⟼ Unreadable)
    ∷ ("box 8 7 1 0" ⟼ Unreadable)
    ∷ ("unit 1 16 0 3 3" ⟼ Unreadable)
    ∷ ("unit 1 16 0 3 3 3 0 0 0" ⟼ Unreadable)
    ∷ ("free 1" ⟼ Unreadable)
    -- keywords stand first, and are these four
    ∷ ("8 box" ⟼ Unreadable)
    ∷ ("box box 7 1" ⟼ Unreadable)
    ∷ ("bo 8 7 1" ⟼ Unreadable)
    ∷ ("boxes 8 7 1" ⟼ Unreadable)
    ∷ ("Free" ⟼ Unreadable)
    -- idle is the second number of operations 15 and 16 alone
    ∷ ("16 7 idle 0 5" ⟼ Row 16 7 4294967295 0 5 0 0 0)
    ∷ ("14 0 idle" ⟼ Unreadable)
    ∷ ("15 idle" ⟼ Unreadable)
    ∷ ("15 0 1 idle" ⟼ Unreadable)
    ∷ ("15 idle idle" ⟼ Unreadable)
    ∷ ("unit 15 0 idle" ⟼ Unreadable)
    ∷ ("idle" ⟼ Unreadable)
    ∷ []

pub meant : map line_in cases ≡ map says_in cases
unfolding line_of
meant = refl

-- and the same byte by byte
pub read : map read_in cases ≡ map says_in cases
unfolding first_part more_digits more_letters pushed opened may_idle with_idle ended taken arrived fed_with text_end
read = refl
