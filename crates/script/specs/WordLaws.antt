-- Reading a word byte by byte finds what the word says.
use Rattle.std.specs.Prelude.{ℕ, ◌+◌, ◌-◌, ◌*◌, ◌/◌, ◌%◌, ◌≤◌, ◌<◌, Bool, true, false, List, [], ◌∷◌, ◌++◌, ◌≡◌, refl, if◌then◌else◌}
use Rattle.std.proofs.Common.{arith, rules}
use Rattle.std.proofs.lemmas.Grind.{common_steps}
use Rattle.script.specs.Lines.{LARGEST, is_digit, all_digits, value_from, number_word, same, word_of}
use Rattle.script.specs.Steps.{packed, first_part, more_digits, more_letters, lengthened, begun, said}
use Rattle.script.specs.declared.Word.{Word}
use Rattle.script.specs.declared.Word.TheVariants.{BoxWord, UnitWord, FreeWord, IdleWord, OtherWord}
use Rattle.script.specs.declared.Part.{Part}
use Rattle.script.specs.declared.Part.TheVariants.{Digits, Letters, Strange}

pub either : {A : Type 0} (t : Bool) (a : A) → (if t then a else a) ≡ a
either true a = refl
either false a = refl

-- ---- the word under way, byte by byte
abbrev pub part_all : Part → List ℕ → Part
part_all p [] = p
part_all p (b ∷ w) = part_all (lengthened p b) w

pub part_snoc : (p : Part) (w : List ℕ) (b : ℕ) → part_all p (w ++ b ∷ []) ≡ lengthened (part_all p w) b
part_snoc p [] b = refl
part_snoc p (x ∷ w) b = part_snoc (lengthened p x) w b

strange_stays : (w : List ℕ) → part_all Strange w ≡ Strange
strange_stays [] = refl
strange_stays (b ∷ w) = strange_stays w

-- a word once begun stays one
pub first_begun : (b : ℕ) → begun (first_part b) ≡ true
unfolding first_part
first_begun b = grind (arith, common_steps)

more_begun : (p : Part) (b : ℕ) → begun (lengthened p b) ≡ true
unfolding first_part more_digits more_letters
more_begun p b = grind (arith, common_steps)

pub stays_begun : (p : Part) (w : List ℕ) → begun p ≡ true → begun (part_all p w) ≡ true
stays_begun p [] e = e
stays_begun p (b ∷ w) e = stays_begun (lengthened p b) w (more_begun p b)

-- ---- a number
value_grows : (n : ℕ) (w : List ℕ) → n ≤ value_from n w
value_grows n [] = omega arith
value_grows n (b ∷ w) = omega (arith, value_grows (n * 10 + (b - 48)) w)

number_read : (n : ℕ) (w : List ℕ) → n ≤ LARGEST
    → said (part_all (Digits n) w) ≡ (if all_digits w then number_word (value_from n w) else OtherWord)
unfolding more_digits
number_read n [] h = grind (arith, common_steps)
number_read n (b ∷ w) h = grind (arith, common_steps, number_read (n * 10 + (b - 48)) w, strange_stays, value_grows)

-- ---- a known word
abbrev Small : List ℕ → Type 0
Small [] = Unit
Small (x ∷ s) = (0 < x) × (x < 256) × Small s

module _ (word : Word) where
  letters_read : (s w : List ℕ) → Small s → said (part_all (Letters word (packed s)) w) ≡ (if same w s then word else OtherWord)
  unfolding more_letters
  letters_read [] [] h = refl
  letters_read [] (b ∷ w) h = rw (strange_stays w)
  letters_read (x ∷ s) [] h = grind (arith, common_steps)
  letters_read (x ∷ s) (b ∷ w) (l, m, h) =
      let low : (x + packed s * 256) % 256 ≡ x = omega arith in
      let rest : (x + packed s * 256) / 256 ≡ packed s = omega arith in
      grind (arith, common_steps, letters_read s w h, strange_stays)

-- ---- a whole word says what it means
pub digit_range : (b : ℕ) → is_digit b ≡ true → (48 ≤ b) × (b ≤ 57)
digit_range b h = (grind (arith, common_steps), grind (arith, common_steps))

pub word_read : (b : ℕ) (w : List ℕ) → said (part_all (first_part b) w) ≡ word_of (b ∷ w)
unfolding first_part
word_read b w =
    let number = number_read (b - 48) w in
    let box = letters_read BoxWord (111 ∷ 120 ∷ []) w (search rules) in
    let unit = letters_read UnitWord (110 ∷ 105 ∷ 116 ∷ []) w (search rules) in
    let free = letters_read FreeWord (114 ∷ 101 ∷ 101 ∷ []) w (search rules) in
    let idle = letters_read IdleWord (100 ∷ 108 ∷ 101 ∷ []) w (search rules) in
    grind (arith, common_steps, strange_stays)
