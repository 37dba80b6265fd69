-- Reading a line byte by byte finds what the line means.
use Rattle.std.specs.Prelude.{ℕ, zero, suc, ◌+◌, ◌≤◌, ◌<◌, Bool, true, false, List, [], ◌∷◌, ◌++◌, map, ◌≡◌, refl, length, get_or, set, drop, if◌then◌else◌}
use Rattle.std.proofs.Common.{append-nil, ap, ◌∙◌, ⊎_elim, add-one, arith, length-append, drop_of_length-le, drop-cons, lt-ltb}
use Rattle.std.proofs.Math.Seq.{append_snoc}
use Rattle.std.proofs.lemmas.Bool.{cases_lt}
use Rattle.std.proofs.lemmas.Grind.{common_steps}
use Rattle.numbers.specs.Limits.{ROW_NUMBERS}
use Rattle.script.specs.Lines.{RETURN, without_return, without_comment, whole, words_from, word_of, is_number, all_numbers, value_of, box_of, unit_of, row_of, free_of, numbers_in, second, without_idle, meaning, line_of}
use Rattle.script.specs.Steps.{first_part, spoilt, pushed, opened, may_idle, with_idle, added, ended, line_from, taken, arrived, fed_with, no_words, no_text, line_start, text_end, line_end, fed_all}
use Rattle.script.specs.WordLaws.{part_all, part_snoc, first_begun, stays_begun, word_read}
use Rattle.script.specs.declared.Word.{Word}
use Rattle.script.specs.declared.Word.TheVariants.{Number, BoxWord, UnitWord, FreeWord, IdleWord, OtherWord}
use Rattle.script.specs.declared.Part.{Part}
use Rattle.script.specs.declared.Part.TheVariants.{Nothing}
use Rattle.script.specs.declared.Kind.{Kind}
use Rattle.script.specs.declared.Kind.TheVariants.{BoxLine, UnitLine, RowLine, FreeLine}
use Rattle.script.specs.declared.Line.{Line}
use Rattle.script.specs.declared.Line.TheVariants.{Unreadable}
use Rattle.script.specs.declared.Words.{Words}
use Rattle.script.specs.declared.Text.{Text}
use Rattle.script.specs.declared.Reader.{Reader}

-- ---- a CR that waits is the line's without the one of its end
abbrev taken_all : Text → List ℕ → Text
taken_all t [] = t
taken_all t (b ∷ bytes) = taken_all (taken t b) bytes

abbrev ready : Text → Reader
ready t = record { text = t; cr = false }

abbrev waiting : Text → Reader
waiting t = record { text = t; cr = true }

module _ (b : ℕ) (rest : List ℕ) where
  arrives : ((t : Text) → (fed_all (ready t) rest).text ≡ taken_all t (without_return rest))
      → ((t : Text) → (fed_all (waiting t) rest).text ≡ taken_all t (without_return (RETURN ∷ rest)))
      → (t : Text) → (fed_all (arrived t b) rest).text ≡ taken_all t (without_return (b ∷ rest))
  unfolding arrived
  arrives go wait t = grind (arith, common_steps, go, wait)

waits : (bytes : List ℕ) → ((t : Text) → (fed_all (ready t) bytes).text ≡ taken_all t (without_return bytes))
    × ((t : Text) → (fed_all (waiting t) bytes).text ≡ taken_all t (without_return (RETURN ∷ bytes)))
unfolding fed_with
waits [] = (λ t. refl, λ t. refl)
waits (b ∷ rest) =
    let (go, wait) = waits rest in
    (λ t. arrives b rest go wait t, λ t. arrives b rest go wait (taken t RETURN))

-- ---- the words, one after the other
abbrev added_all : Words → List Word → Words
added_all ws [] = ws
added_all ws (w ∷ more) = added_all (added ws w) more

abbrev going : Words → Part → Text
going ws p = record { words = ws; part = p; comment = false }

abbrev commented : Words → Text
commented ws = record { words = ws; part = Nothing; comment = true }

comment_stays : (ws : Words) (bytes : List ℕ) → taken_all (commented ws) bytes ≡ commented ws
unfolding taken
comment_stays ws [] = refl
comment_stays ws (b ∷ bytes) = comment_stays ws bytes

word_ends : (ws : Words) (w : List ℕ) (more : List (List ℕ)) → added_all (ended ws (part_all Nothing w)) (map word_of more) ≡ added_all ws (map word_of (whole w ++ more))
unfolding ended
word_ends ws [] more = refl
word_ends ws (b ∷ w) more = grind (arith, common_steps, stays_begun (first_part b) w (first_begun b), word_read b w)

line_ends : (ws : Words) (w : List ℕ) → text_end (going ws (part_all Nothing w)) ≡ line_from (added_all ws (map word_of (whole w)))
unfolding text_end
line_ends ws w = grind (arith, common_steps, word_ends ws w [])

comment_ends : (ws : Words) (w rest : List ℕ) → text_end (taken_all (commented (ended ws (part_all Nothing w))) rest) ≡ line_from (added_all ws (map word_of (whole w)))
unfolding text_end ended
comment_ends ws w rest = grind (arith, common_steps, comment_stays, line_ends)

text_read : (ws : Words) (w bytes : List ℕ) → text_end (taken_all (going ws (part_all Nothing w)) bytes) ≡ line_from (added_all ws (map word_of (words_from w (without_comment bytes))))
unfolding taken
text_read ws w [] = line_ends ws w
text_read ws w (b ∷ rest) =
    let blank = text_read (ended ws (part_all Nothing w)) [] rest in
    let more = text_read ws (w ++ b ∷ []) rest in
    let ends = word_ends ws w (words_from [] (without_comment rest)) in
    let snoc = part_snoc Nothing w b in
    grind (arith, common_steps, comment_ends ws w rest)

-- ---- words of numbers: the first of the eight places, and 0 in the others
abbrev padded : ℕ → List ℕ → List ℕ
padded zero ns = []
padded (suc k) [] = 0 ∷ padded k []
padded (suc k) (n ∷ ns) = n ∷ padded k ns

abbrev holding : Kind → List ℕ → Words
holding k ns = record { kind = k; count = length ns; numbers = padded ROW_NUMBERS ns }

padded_set : (k : ℕ) (ns : List ℕ) (n : ℕ) → length ns < k → set (padded k ns) (length ns) n ≡ padded k (ns ++ n ∷ [])
padded_set zero ns n h = absurd (omega arith)
padded_set (suc k) [] n h = refl
padded_set (suc k) (x ∷ ns) n h = grind (arith, common_steps, padded_set k ns n)

padded_none : (k i : ℕ) → get_or (padded k []) i 0 ≡ 0
padded_none zero i = refl
padded_none (suc k) zero = refl
padded_none (suc k) (suc i) = padded_none k i

padded_at : (k : ℕ) (ns : List ℕ) (i : ℕ) → length ns ≤ k → get_or (padded k ns) i 0 ≡ get_or ns i 0
padded_at k [] i h = padded_none k i
padded_at zero (n ∷ ns) i h = absurd (omega arith)
padded_at (suc k) (n ∷ ns) i h = grind (arith, common_steps, padded_at k ns)

push_room : (k : Kind) (ns : List ℕ) (n : ℕ) → length ns < ROW_NUMBERS → pushed (holding k ns) k n ≡ holding k (ns ++ n ∷ [])
unfolding pushed
push_room k ns n h = rw (lt-ltb (length ns) ROW_NUMBERS h, padded_set ROW_NUMBERS ns n h, length-append ns (n ∷ []))

push_full : (k : Kind) (ns : List ℕ) (n : ℕ) → ROW_NUMBERS ≤ length ns → pushed (holding k ns) k n ≡ spoilt (holding k ns)
unfolding pushed
push_full k ns n h = grind (arith, common_steps)

bad_stays : (ws : Words) (more : List Word) → line_from (added_all (spoilt ws) more) ≡ Unreadable
unfolding opened may_idle with_idle
bad_stays ws [] = refl
bad_stays ws (w ∷ more) = grind (arith, common_steps, bad_stays ws more)

free_read : (more : List Word) → line_from (added_all (holding FreeLine []) more) ≡ free_of more
unfolding opened may_idle with_idle
free_read [] = refl
free_read (w ∷ more) = grind (arith, common_steps, bad_stays (holding FreeLine []) more)

-- ---- a line of kind k whose numbers have a shape, where least of them are there and no idle may follow
module _ (k : Kind) (shape : List ℕ → Line) (least : ℕ)
    (next : (ns : List ℕ) (w : Word) → least ≤ length ns → added (holding k ns) w ≡ (if is_number w then pushed (holding k ns) k (value_of w) else spoilt (holding k ns)))
    (ends : (ns : List ℕ) → length ns ≤ ROW_NUMBERS → line_from (holding k ns) ≡ shape ns)
    (over : (ns : List ℕ) → ROW_NUMBERS < length ns → shape ns ≡ Unreadable)
  where
    too_many : (ns : List ℕ) (n : ℕ) (more : List Word) → ROW_NUMBERS ≤ length ns
        → Unreadable ≡ (if all_numbers more then shape (ns ++ n ∷ map value_of more) else Unreadable)
    too_many ns n more h = grind (arith, common_steps, over (ns ++ n ∷ map value_of more), length-append ns (n ∷ map value_of more))

    module _ (ns : List ℕ) (n : ℕ) (more : List Word)
        (again : length ns < ROW_NUMBERS → line_from (added_all (holding k (ns ++ n ∷ [])) more) ≡ (if all_numbers more then shape ((ns ++ n ∷ []) ++ map value_of more) else Unreadable))
      where
        number_next : line_from (added_all (pushed (holding k ns) k n) more) ≡ (if all_numbers more then shape (ns ++ n ∷ map value_of more) else Unreadable)
        number_next =
            ⊎_elim (λ h. rw (push_room k ns n h) (again h ∙ rw (append_snoc ns n (map value_of more))))
            (λ h. rw (push_full k ns n h) (bad_stays (holding k ns) more ∙ too_many ns n more h))
            (cases_lt (length ns) ROW_NUMBERS)

        word_next : (t : Bool) → line_from (added_all (if t then pushed (holding k ns) k n else spoilt (holding k ns)) more)
            ≡ (if (if t then all_numbers more else false) then shape (ns ++ n ∷ map value_of more) else Unreadable)
        word_next true = number_next
        word_next false = bad_stays (holding k ns) more

    numbers_read : (ns : List ℕ) (more : List Word) → least ≤ length ns → length ns ≤ ROW_NUMBERS
        → line_from (added_all (holding k ns) more) ≡ (if all_numbers more then shape (ns ++ map value_of more) else Unreadable)
    numbers_read ns [] h m = ends ns m ∙ rw (append-nil ns)
    numbers_read ns (w ∷ more) h m =
        ap (λ (ws : Words). line_from (added_all ws more)) (next ns w h)
        ∙ word_next ns (value_of w) more
        (λ l. let e : length (ns ++ value_of w ∷ []) ≡ length ns + 1 = length-append ns (value_of w ∷ []) in numbers_read (ns ++ value_of w ∷ []) more (omega arith) (omega arith))
        (is_number w)

-- ---- the three shapes
box_next : (ns : List ℕ) (w : Word) → 0 ≤ length ns → added (holding BoxLine ns) w ≡ (if is_number w then pushed (holding BoxLine ns) BoxLine (value_of w) else spoilt (holding BoxLine ns))
unfolding opened may_idle with_idle
box_next ns w h = grind (arith, common_steps)

unit_next : (ns : List ℕ) (w : Word) → 0 ≤ length ns → added (holding UnitLine ns) w ≡ (if is_number w then pushed (holding UnitLine ns) UnitLine (value_of w) else spoilt (holding UnitLine ns))
unfolding opened may_idle with_idle
unit_next ns w h = grind (arith, common_steps)

row_next : (ns : List ℕ) (w : Word) → 3 ≤ length ns → added (holding RowLine ns) w ≡ (if is_number w then pushed (holding RowLine ns) RowLine (value_of w) else spoilt (holding RowLine ns))
unfolding opened may_idle with_idle
row_next ns w h = grind (arith, common_steps)

box_ends : (ns : List ℕ) → length ns ≤ ROW_NUMBERS → line_from (holding BoxLine ns) ≡ box_of ns
box_ends ns h = grind (arith, common_steps, padded_at)

unit_ends : (ns : List ℕ) → length ns ≤ ROW_NUMBERS → line_from (holding UnitLine ns) ≡ unit_of ns
unit_ends ns h = grind (arith, common_steps, padded_at)

row_ends : (ns : List ℕ) → length ns ≤ ROW_NUMBERS → line_from (holding RowLine ns) ≡ row_of ns
row_ends ns h = grind (arith, common_steps, padded_at)

box_over : (ns : List ℕ) → ROW_NUMBERS < length ns → box_of ns ≡ Unreadable
box_over ns h = grind (arith, common_steps)

unit_over : (ns : List ℕ) → ROW_NUMBERS < length ns → unit_of ns ≡ Unreadable
unit_over ns h = grind (arith, common_steps)

row_over : (ns : List ℕ) → ROW_NUMBERS < length ns → row_of ns ≡ Unreadable
row_over ns h = grind (arith, common_steps)

-- ---- a row, whose third word may be idle
module _ (n m : ℕ) (more : List Word) where
  from_third : (x : ℕ) → line_from (added_all (holding RowLine (n ∷ m ∷ x ∷ [])) more) ≡ numbers_in row_of (Number n ∷ Number m ∷ Number x ∷ more)
  from_third x = numbers_read RowLine row_of 3 row_next row_ends row_over (n ∷ m ∷ x ∷ []) more (omega arith) (omega arith)

  third : (w : Word) → line_from (added_all (added (holding RowLine (n ∷ m ∷ [])) w) more) ≡ numbers_in row_of (Number n ∷ Number m ∷ second n w ∷ more)
  unfolding pushed may_idle with_idle opened
  third w = grind (arith, common_steps, from_third, bad_stays (holding RowLine (n ∷ m ∷ [])) more)

row_read : (n : ℕ) (more : List Word) → line_from (added_all (holding RowLine (n ∷ [])) more) ≡ numbers_in row_of (Number n ∷ without_idle n more)
unfolding pushed may_idle with_idle opened
row_read n [] = refl
row_read n (Number m ∷ []) = refl
row_read n (Number m ∷ w ∷ more) = third n m more w
row_read n (w ∷ more) = grind (arith, common_steps, bad_stays (holding RowLine (n ∷ [])) more)

-- ---- the line
words_read_lem : (ws : List Word) → line_from (added_all no_words ws) ≡ meaning ws
unfolding pushed opened may_idle with_idle
words_read_lem [] = refl
words_read_lem (Number n ∷ ws) = row_read n ws
words_read_lem (BoxWord ∷ ws) = numbers_read BoxLine box_of 0 box_next box_ends box_over [] ws (omega arith) (omega arith)
words_read_lem (UnitWord ∷ ws) = numbers_read UnitLine unit_of 0 unit_next unit_ends unit_over [] ws (omega arith) (omega arith)
words_read_lem (FreeWord ∷ ws) = free_read ws
words_read_lem (IdleWord ∷ ws) = bad_stays no_words ws
words_read_lem (OtherWord ∷ ws) = bad_stays no_words ws

pub line_read : (bytes : List ℕ) → line_end (fed_all line_start bytes) ≡ line_of bytes
unfolding line_of
line_read bytes =
    ap text_end ((waits bytes).0 no_text) ∙ text_read no_words [] (without_return bytes) ∙ words_read_lem (map word_of (words_from [] (without_comment (without_return bytes))))

-- ---- the loop over a line's bytes: the reader so far, fed with the rest, is fed with all
pub record Reading (bytes : List ℕ) (r : Reader) (i : ℕ) : Type 0 where
  pub place : i ≤ length bytes
  pub rest : fed_all r (drop i bytes) ≡ fed_all line_start bytes

module _ (bytes : List ℕ) (r : Reader) where
  pub read_start : r ≡ line_start → Reading bytes r 0
  read_start e = record { place = omega arith; rest = rw e }

  pub read_next : (next : Reader) (i : ℕ) → Reading bytes r i → i < length bytes → next ≡ fed_with r (get_or bytes i 0) → Reading bytes next (i + 1)
  read_next next i l h e = record { place = omega arith; rest = rw (e, add-one i) (rw (drop-cons bytes i 0 h) at l.rest) }

  pub read_end : (i : ℕ) → Reading bytes r i → length bytes ≤ i → line_end r ≡ line_of bytes
  read_end i l h = ap line_end (rw (drop_of_length-le bytes h) at l.rest) ∙ line_read bytes
